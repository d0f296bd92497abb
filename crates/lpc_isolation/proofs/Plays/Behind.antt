-- What is known of the worlds behind a line's own steps and behind the settling.
use Rattle.std.proofs.Common.{◌≡◌, ℕ, List, Bool, true, refl, ap, sym, subst, ◌∙◌}
use Rattle.lpc_base.proofs.RowWords.{every-more}
use Rattle.lpc_model.specs.World.{Birth, Contents, World}
use Rattle.lpc_model.specs.Basics.{AddsThread, Basic, Frees, world_after}
use Rattle.lpc_model.specs.Grammar.{has_ids}
use Rattle.lpc_model.specs.Lines.{ScriptLine}
use Rattle.lpc_model.specs.Settle.{IsSettled, settle}
use Rattle.lpc_model.specs.Circle.{Group, is_fine_line}
use Rattle.lpc_model.proofs.Settling.Loop.{settle-kept}
use Rattle.lpc_model.proofs.Settling.Settled.{IsReady, settles}
use Rattle.lpc_model.proofs.Steps.InTurn.{after-append}
use Rattle.lpc_isolation.proofs.Each.Enter.{sound-patient}
use Rattle.lpc_isolation.proofs.Endings.Settled.{ends-turning, on-turning}
use Rattle.lpc_isolation.proofs.Endings.Settling.{AreSettling, is_settling, settle-settling, settling-bound, settling-contents, settling-known, settling-used}
use Rattle.lpc_isolation.proofs.Endings.Turns.{Turning}
use Rattle.lpc_isolation.proofs.Gone.Bare.{HasViewsApart, IsApartAt}
use Rattle.lpc_isolation.proofs.Gone.Born.{Born, line-born}
use Rattle.lpc_isolation.proofs.Gone.Fine.{run-fine}
use Rattle.lpc_isolation.proofs.Gone.Restful.{settled-rests}
use Rattle.lpc_isolation.proofs.Gone.Served.{own_served, served_step}
use Rattle.lpc_isolation.proofs.Gone.ServedLines.{served-firm, served-ready}
use Rattle.lpc_isolation.proofs.Gone.Settles.{settle-born}
use Rattle.lpc_isolation.proofs.Memory.Heard.{Heard}
use Rattle.lpc_isolation.proofs.Memory.Knows.{AllKnown}
use Rattle.lpc_isolation.proofs.Memory.ViewLines.{line-right, line-shown}
use Rattle.lpc_isolation.proofs.Owed.Mapped.{ShowsKnown, run-known}
use Rattle.lpc_isolation.proofs.Plays.Due.{Due, due-housed, line-due, lose-fine, lose-known, lose-raisers, loses, rests}
use Rattle.lpc_isolation.proofs.Plays.Housed.{IsHoused, houses_none, nones-housed}
use Rattle.lpc_isolation.proofs.Plays.Nexts.{line-next}
use Rattle.lpc_isolation.proofs.Plays.Stands.{Kept, State, Stood}
use Rattle.lpc_isolation.proofs.Rows.Clients.{sound-clients}
use Rattle.lpc_isolation.proofs.Rows.Firm.{Firm}
use Rattle.lpc_isolation.proofs.Rows.Kept.{owned-sound}
use Rattle.lpc_isolation.proofs.Rows.Raisers.{run-raisers}
use Rattle.lpc_isolation.proofs.Views.Alone.{HasFineRaisers, HasFineRows, ShowsOuter}
use Rattle.lpc_isolation.proofs.Views.Bytes.{Agree, agree-right}
use Rattle.lpc_isolation.proofs.Views.Reads.{FineLine}
use Rattle.lpc_isolation.proofs.Views.View.{view}

-- a state stands for a world, and so do the bytes that it knows; members' views and all offers are of members' sections or of
-- outer ones; each birth is used once, and each thread's process has its row
pub record StoodAll (m : Group) (c : ℕ) (outer : Birth → Bool) (w : World) (s : State) : Type 0 where
  pub stood : Stood m c w s
  pub agree : Agree m outer s.bytes w.contents
  pub shown : ShowsKnown m outer w
  pub born : Born w
  pub housed : IsHoused w

abbrev pub seen_from : Group → World → List Heard → Contents → State
seen_from m w t k = record { seen = view m w; memo = t; bytes = k }

-- a line of a circle's run is ahead
pub record Ahead (m : Group) (c : ℕ) (outer : Birth → Bool) (w : World) (s : State) (line : ScriptLine) : Type 0 where
  pub c_in : m c ≡ true
  pub all : StoodAll m c outer w s
  pub fine : HasFineRows m c w
  pub next : HasFineRows m c (served_step w line).world
  pub views : HasViewsApart m c outer w
  pub after : HasViewsApart m c outer (served_step w line).world
  pub ok : is_fine_line m c w line ≡ true
  pub apart : IsApartAt m c outer w line
  pub fits : has_ids line ≡ true

-- the circle in the world behind its own steps
pub record Behind (m : Group) (c : ℕ) (outer : Birth → Bool) (own : World) : Type 0 where
  pub fine : HasFineRows m c own
  pub raisers : HasFineRaisers m own
  pub shown : ShowsKnown m outer own

settling-houses : (b : Basic) → is_settling b ≡ true → houses_none b ≡ true
settling-houses (AddsThread t) is = absurd (cc)
settling-houses (Frees o) is = absurd (cc)
settling-houses b is = refl

module _ (m : Group) (c : ℕ) (outer : Birth → Bool) (w : World) (t : List Heard) (k : Contents) (line : ScriptLine) (h : Ahead m c outer w (seen_from m w t k) line) where
  abbrev bs : List Basic
  bs = own_served line w

  abbrev own : World
  own = world_after w bs

  abbrev last : World
  last = world_after own (settle own)

  stood : Stood m c w (seen_from m w t k)
  stood = let a = h.all in a.stood

  firm : Firm w
  firm = stood.firm

  pub there : (served_step w line).world ≡ last
  there = after-append w bs (settle own)

  pub due-here : Due w bs
  due-here = line-due w line firm

  pub ready : IsReady own
  ready = served-ready w line firm

  pub quiet : IsSettled last
  quiet = settles own ready

  -- where nothing is due, the line is its own steps
  pub rests-here : (Born w → IsSettled w → IsSettled own) → IsSettled own
  rests-here settled = let a = h.all in settled a.born firm.settled

  behind-rests : IsSettled own → Behind m c outer own
  behind-rests s =
      let a = h.all in
      let after = h.after in
      let same : (served_step w line).world ≡ own = there ∙ ap (world_after own) (settled-rests own s) in
      record {
        fine = subst (HasFineRows m c) same h.next;
        raisers = subst (HasFineRaisers m) same after.raisers;
        shown = line-shown m c outer w (seen_from m w t k) h.c_in stood h.fine a.shown line (subst (ShowsOuter m outer) same after.shows);
      }

  pub behind-own : Due w bs → Behind m c outer own
  behind-own (rests settled housed) = behind-rests (rests-here settled)
  behind-own (loses is over) =
      let a = h.all in
      let views = h.views in
      record {
        fine = run-fine m c w bs (lose-fine m c bs is) h.fine;
        raisers = run-raisers m w bs (lose-raisers bs is) views.raisers;
        shown = run-known m outer w bs (lose-known m outer bs is) a.shown;
      }

  behind : Behind m c outer own
  behind = behind-own due-here

  pub own-fine : HasFineRows m c own
  own-fine = behind.fine

  pub kept-own : Kept m c own
  kept-own = line-next m c w (seen_from m w t k) line h.fits h.c_in stood h.fine own-fine

  -- what the line reads is known
  pub reads-here : FineLine m c k w line
  reads-here =
      let a = h.all in
      let apart = h.apart in
      let kept = stood.kept in
      record { fine = h.ok; right = line-right m c outer w k line kept.fair h.ok apart.reads a.shown a.agree }

  -- turn by turn
  pub turning-own : Turning m c own own
  turning-own =
      let safe = ready.safe in
      let sound = safe.sound in
      record {
        sure = record {
          c_in = h.c_in;
          used = refl;
          fair = kept-own.fair;
          fine = own-fine;
          owned = owned-sound m c own kept-own.fair sound.waits;
          patient = sound-patient own sound.waits;
          once = sound.once;
          paths = kept-own.paths;
          clients = sound-clients own sound;
          asked = kept-own.asked;
        };
        ready = ready;
        raisers = behind.raisers;
      }

  turning-last : Turning m c own last
  turning-last = settle-kept (Turning m c own) (λ w tid later some k. on-turning m c own w tid later some k) (λ w p some k. ends-turning m c own w p k) own turning-own

  pub are-settling : AreSettling (settle own)
  are-settling = settle-settling own

  pub same-used : (served_step w line).world.used_threads ≡ own.used_threads
  same-used = ap (λ (v : World). v.used_threads) there ∙ settling-used own (settle own) are-settling

  kept-last : Kept m c last
  kept-last =
      let sure = turning-last.sure in
      let used : last.used_threads ≡ own.used_threads = settling-used own (settle own) are-settling in
      record {
        fair = sure.fair;
        once = rw used kept-own.once;
        names = settling-bound own (settle own) are-settling kept-own.names;
        paths = sure.paths;
        numbered = rw used kept-own.numbered;
        asked = sure.asked;
      }

  -- a state stands for the world behind the line
  stands-last : (v : State) → v.seen ≡ view m last → AllKnown m v.memo last → Agree m outer v.bytes last.contents → StoodAll m c outer last v
  stands-last v seen known agree =
      let a = h.all in
      let after : HasViewsApart m c outer last = subst (HasViewsApart m c outer) there h.after in
      record {
        stood = record {
          seen = seen;
          firm = subst Firm there (served-firm w line firm);
          kept = kept-last;
          known = known;
          right = agree-right m c outer last v.bytes h.c_in kept-last.fair after.inner agree;
          raisers = after.raisers;
        };
        agree = agree;
        shown = run-known m outer own (settle own) (settling-known m outer (settle own) are-settling) behind.shown;
        born = settle-born own (line-born w line h.fits a.born);
        housed = nones-housed own (settle own) (every-more is_settling houses_none settling-houses (settle own) are-settling) (due-housed w bs due-here a.housed);
      }

  pub stands-behind : (v : State) → v.seen ≡ view m last → AllKnown m v.memo last → Agree m outer v.bytes own.contents → StoodAll m c outer (served_step w line).world v
  stands-behind v seen known agree = subst (λ x. StoodAll m c outer x v) (sym there) (stands-last v seen known (subst (Agree m outer v.bytes) (sym (settling-contents own (settle own) are-settling)) agree))
