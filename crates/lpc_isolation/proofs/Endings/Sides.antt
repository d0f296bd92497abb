-- A turn of settling is an outsider's, and apart, or a member's, and the view takes it too: also where waits have gone of
-- which it ends none.
use Rattle.std.proofs.Common.{◌≡◌, ℕ, List, [], ◌∷◌, Bool, true, false, not, Option, Some, None, refl, ap, sym, subst, ◌∙◌, arith}
use Rattle.std.specs.Prelude.{◌&&◌, ◌<◌, is_some, option_map}
use Rattle.std.proofs.lemmas.Bool.{eqb-true}
use Rattle.lpc_base.specs.Rows.{every, has, which}
use Rattle.lpc_base.proofs.Bools.{first-true}
use Rattle.lpc_base.proofs.RowWords.{every-true}
use Rattle.lpc_model.specs.World.{ProcessRow, Raised, ThreadRow, WaitRow, World}
use Rattle.lpc_model.specs.Found.{live_threads, waits_as}
use Rattle.lpc_model.specs.Basics.{Basic, entries_of, first_code, world_after}
use Rattle.lpc_model.specs.Death.{code_status}
use Rattle.lpc_model.specs.Raise.{behind_chance, go_on, goes_on}
use Rattle.lpc_model.specs.Settle.{doomed_processes, end_doomed, has_event, is_doomed, least, turn, turn_by}
use Rattle.lpc_model.specs.Circle.{Group, Whose}
use Rattle.lpc_model.proofs.Calls.Raising.{GoesOn}
use Rattle.lpc_model.proofs.Settling.Settled.{Found, doomed-lower, found-event, on-found}
use Rattle.lpc_model.proofs.Settling.Turns.{measure, on-lower}
use Rattle.lpc_isolation.proofs.Views.View.{our_mark, our_process, our_wait, view}
use Rattle.lpc_isolation.proofs.Views.Apart.{are_apart}
use Rattle.lpc_isolation.proofs.Views.Callers.{Led}
use Rattle.lpc_isolation.proofs.Rows.Ids.{Numbered}
use Rattle.lpc_isolation.proofs.Closings.Ends.{which-seen}
use Rattle.lpc_isolation.proofs.Closings.Mild.{AreMild}
use Rattle.lpc_isolation.proofs.Closings.Shown.{are_shown, shown-more}
use Rattle.lpc_isolation.proofs.Endings.Threads.{ends-mild, lives-view}
use Rattle.lpc_isolation.proofs.Endings.Turns.{Turning, turn-apart, turn-led, turn-mark, turn-same, turn-seen, turn-shown}
use Rattle.lpc_isolation.proofs.Endings.Settled.{ends-apart, ends-led, ends-shown}
use Rattle.lpc_isolation.proofs.Endings.Spared.{doomed-thins, less, less-goes, on-thins, spares}
use Rattle.lpc_isolation.proofs.Endings.Lasting.{Lasts, doomed-lasts, goes-lasts, on-lasts}
use Rattle.lpc_isolation.proofs.Endings.Guessed.{is_end_of}
use Rattle.lpc_isolation.proofs.Endings.Mixed.{ends_wait, keeps-run, least-kept, over-ends, untold-ends}

pub record Outside (m : Group) (c : ℕ) (u : World) (d : Whose) (w : World) (bs : List Basic) : Type 0 where
  pub apart : are_apart m c u d w bs ≡ true
  pub shown : are_shown true m false w bs ≡ true
  pub lasts : Lasts w bs

pub record Inside (m : Group) (c : ℕ) (u : World) (d : Whose) (w : World) (bs : List Basic) : Type 0 where
  pub led : List Basic
  pub is_led : Led m c u d w bs led
  pub shown : are_shown true m true w bs ≡ true
  pub lasts : Lasts w bs
  pub led_lasts : Lasts (view m w) led
  -- of whom nothing is told, it ends no wait
  pub ends : (n : ℕ) → has (waits_as n) (view m w).waits ≡ true → every (λ e. not (is_end_of n e)) (entries_of bs) ≡ true → every (λ b. not (ends_wait n b)) led ≡ true
  -- it is the view's turn
  pub due : (o : ℕ → Bool) → every (spares o) led ≡ true → turn (less o (view m w)) ≡ Some led
  pub lower : (o : ℕ → Bool) → every (spares o) led ≡ true → measure (world_after (less o (view m w)) led) < measure (less o (view m w))

pub data Side (m : Group) (c : ℕ) (u : World) (d : Whose) (w : World) (bs : List Basic) : Type 0 where
  outside : Outside m c u d w bs → Side m c u d w bs
  inside : Inside m c u d w bs → Side m c u d w bs

-- Rows in the view and in the world
has-both : (p k : WaitRow → Bool) (xs : List WaitRow) → has p (which k xs) ≡ true → has (λ x. p x && k x) xs ≡ true
has-both p k [] is = absurd (cc)
has-both p k (x ∷ xs) is = grind (arith, has-both p k xs)

has-kept_too : (p k : WaitRow → Bool) (xs : List WaitRow) → has (λ x. p x && k x) xs ≡ true → has p (which k xs) ≡ true
has-kept_too p k [] is = absurd (cc)
has-kept_too p k (x ∷ xs) is = grind (arith, has-kept_too p k xs)

-- A marked event that goes on
module _ (m : Group) (c : ℕ) (u : World) (d : Whose) (numbered : Numbered u) (w : World) (tid : ℕ) (later : List ℕ) (some : w.marks ≡ tid ∷ later) (k : Turning m c u w) where
  module _ (t : ThreadRow) (x : WaitRow) (r : Raised) (g : GoesOn w tid t x r) where
    abbrev goes : List Basic
    goes = goes_on t x r (behind_chance w x.process r.handled r.chance) w

    module _ (ours : m t.process ≡ true) where
      seen : GoesOn (view m w) tid t x r
      seen = turn-seen m c u w tid k t x r g ours

      abbrev seen_goes : World → List Basic
      seen_goes v = goes_on t x r (behind_chance v x.process r.handled r.chance) v

      same : go_on tid (view m w) ≡ goes
      same = turn-same m c u w tid k t x r g ours

      goes-seen : seen_goes (view m w) ≡ goes
      goes-seen = on-found (λ bs. seen_goes (view m w) ≡ bs) (view m w) tid t x r seen refl ∙ same

      marks : (view m w).marks ≡ tid ∷ which (our_mark m w) later
      marks = let on : our_mark m w tid ≡ true = turn-mark m c u w tid k t x r g ours in ap (which (our_mark m w)) some ∙ rw on refl

      thinned : (o : ℕ → Bool) → every (spares o) goes ≡ true → go_on tid (less o (view m w)) ≡ goes
      thinned o ok = on-thins o (view m w) tid t x r seen (subst (λ bs. every (spares o) bs ≡ true) (sym goes-seen) ok) ∙ goes-seen

      goes-due : (o : ℕ → Bool) → every (spares o) goes ≡ true → turn (less o (view m w)) ≡ Some goes
      goes-due o ok = ap (turn_by (less o (view m w))) marks ∙ ap (λ bs. Some bs) (thinned o ok)

      goes-lower : (o : ℕ → Bool) → every (spares o) goes ≡ true → measure (world_after (less o (view m w)) goes) < measure (less o (view m w))
      goes-lower o ok =
          let x0 : World = less o (view m w) in
          let gx : GoesOn x0 tid t x r = less-goes o (view m w) tid t x r seen in
          subst (λ bs. measure (world_after x0 bs) < measure x0) (thinned o ok) (on-found (λ bs. measure (world_after x0 bs) < measure x0) x0 tid t x r gx (on-lower x0 tid t x r gx))

      goes-inside : Inside m c u d w goes
      goes-inside = record {
        led = goes;
        is_led = subst (Led m c u d w goes) same (turn-led m c u w tid k t x r g ours d);
        shown = turn-shown m c u w tid k t x r g numbered true ours;
        lasts = goes-lasts w tid t x r g;
        led_lasts = subst (Lasts (view m w)) same (on-lasts (view m w) tid);
        ends = λ n there none. untold-ends n goes none;
        due = goes-due;
        lower = goes-lower;
      }

    goes-side : Side m c u d w goes
    goes-side = at (m t.process) refl
      where
        at : (b : Bool) → m t.process ≡ b → Side m c u d w goes
        at true ours = inside (goes-inside ours)
        at false out = outside (record { apart = turn-apart m c u w tid k t x r g d out; shown = turn-shown m c u w tid k t x r g numbered false out; lasts = goes-lasts w tid t x r g })

  on-side : Side m c u d w (go_on tid w)
  on-side =
      let marked : has_event w tid ≡ true = first-true (has_event w tid) (every (has_event w) later) (subst (λ ms. every (has_event w) ms ≡ true) some k.ready.marked) in
      let safe = k.ready.safe in
      let f : Found w tid = found-event w tid marked safe.sound in
      on-found (Side m c u d w) w tid f.t f.x f.r f.goes (goes-side f.t f.x f.r f.goes)

-- A process that ends
module _ (m : Group) (c : ℕ) (u : World) (d : Whose) (numbered : Numbered u) (w : World) (none : w.marks ≡ []) (p : ProcessRow) (some : least (doomed_processes w) ≡ Some p) (k : Turning m c u w) where
  module _ (ours : m p.number ≡ true) where
    abbrev ended : List Basic
    ended = end_doomed p w

    abbrev led : List Basic
    led = end_doomed p (view m w)

    doomed-seen : doomed_processes (view m w) ≡ which (our_process m) (doomed_processes w)
    doomed-seen = which-seen (λ q. true) (our_process m) (is_doomed (view m w)) (is_doomed w) (λ q _ in_m. ap (λ e. is_some q.doom && e) (lives-view m w q.number in_m)) w.processes (every-true w.processes)

    seen-least : least (doomed_processes (view m w)) ≡ Some p
    seen-least = ap least doomed-seen ∙ least-kept (our_process m) (doomed_processes w) p some ours

    ends-due : (o : ℕ → Bool) → every (spares o) led ≡ true → turn (less o (view m w)) ≡ Some led
    ends-due o ok =
        ap (turn_by (less o (view m w))) (ap (which (our_mark m w)) none)
        ∙ ap (option_map (λ q. end_doomed q (less o (view m w)))) seen-least
        ∙ ap (λ bs. Some bs) (doomed-thins p o (view m w) ok)

    ends-lower : (o : ℕ → Bool) → every (spares o) led ≡ true → measure (world_after (less o (view m w)) led) < measure (less o (view m w))
    ends-lower o ok = let x0 : World = less o (view m w) in subst (λ bs. measure (world_after x0 bs) < measure x0) (doomed-thins p o (view m w) ok) (doomed-lower x0 p seen-least)

    ended-mild : AreMild ended
    unfolding end_doomed
    ended-mild = ends-mild p.number (code_status (first_code 0 p.doom)) (live_threads w p.number) w

    ends-none : (n : ℕ) → has (waits_as n) (view m w).waits ≡ true → every (λ e. not (is_end_of n e)) (entries_of ended) ≡ true → every (λ b. not (ends_wait n b)) led ≡ true
    ends-none n there untold =
        let q : WaitRow → Bool = λ x. waits_as n x && our_wait m x in
        let stays : has q (world_after w ended).waits ≡ true = keeps-run q n (λ x is. eqb-true x.thread n (first-true _ _ is)) w ended ended-mild (untold-ends n ended untold) (has-both (waits_as n) (our_wait m) w.waits there) in
        let seen : has (waits_as n) (view m (world_after w ended)).waits ≡ true = has-kept_too (waits_as n) (our_wait m) (world_after w ended).waits stays in
        let l : Led m c u d w ended led = ends-led m c u w p k d ours in
        let left : has (waits_as n) (world_after (view m w) led).waits ≡ true = subst (λ (v : World). has (waits_as n) v.waits ≡ true) l.world seen in
        over-ends n (world_after (view m w) led) led left (doomed-lasts (view m w) p).over

    ends-inside : Inside m c u d w ended
    ends-inside = record {
      led = led;
      is_led = ends-led m c u w p k d ours;
      shown = shown-more m true w ended (ends-shown m c u w p k numbered true ours);
      lasts = doomed-lasts w p;
      led_lasts = doomed-lasts (view m w) p;
      ends = ends-none;
      due = ends-due;
      lower = ends-lower;
    }

  ends-side : Side m c u d w (end_doomed p w)
  ends-side = at (m p.number) refl
    where
      at : (b : Bool) → m p.number ≡ b → Side m c u d w (end_doomed p w)
      at true ours = inside (ends-inside ours)
      at false out = outside (record { apart = ends-apart m c u w p k d out; shown = shown-more m false w (end_doomed p w) (ends-shown m c u w p k numbered false out); lasts = doomed-lasts w p })

-- each turn that is due
pub turn-side : (m : Group) (c : ℕ) (u : World) (d : Whose) → Numbered u → (w : World) (bs : List Basic) → turn w ≡ Some bs → Turning m c u w → Side m c u d w bs
turn-side m c u d numbered w bs is k = at w.marks refl is
  where
    by_process : w.marks ≡ [] → (o : Option ProcessRow) → least (doomed_processes w) ≡ o → option_map (λ p. end_doomed p w) o ≡ Some bs → Side m c u d w bs
    by_process none None least_is is = absurd (cc)
    by_process none (Some p) least_is is = let same : end_doomed p w ≡ bs = cc in subst (Side m c u d w) same (ends-side m c u d numbered w none p least_is k)

    at : (ms : List ℕ) → w.marks ≡ ms → turn_by w ms ≡ Some bs → Side m c u d w bs
    at [] none is = by_process none (least (doomed_processes w)) refl is
    at (tid ∷ later) some is = let same : go_on tid w ≡ bs = cc in subst (Side m c u d w) same (on-side m c u d numbered w tid later some k)
