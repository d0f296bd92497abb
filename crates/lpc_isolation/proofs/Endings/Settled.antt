-- Turn by turn a world stays one of which as much is known; and where the view has nothing to settle, all that comes is apart.
use Rattle.std.proofs.Common.{◌≡◌, ℕ, List, [], ◌∷◌, Bool, true, false, cond, not, Option, Some, None, refl, ap, sym, subst, ◌∙◌}
use Rattle.std.specs.Prelude.{◌&&◌, ◌||◌, is_some, nat_lt}
use Rattle.std.proofs.lemmas.Bool.{and_from, not-true}
use Rattle.lpc_base.specs.Rows.{every, which, without}
use Rattle.lpc_base.specs.declared.status.Status.{Status}
use Rattle.lpc_base.proofs.Bools.{first-true, or-last, second-true}
use Rattle.lpc_model.specs.declared.entry.Entry.{Entry}
use Rattle.lpc_model.specs.declared.entry.Entry.TheVariants as entry
use Rattle.lpc_model.specs.World.{ProcessRow, World}
use Rattle.lpc_model.specs.Found.{is_mark, live_threads, lives_in}
use Rattle.lpc_model.specs.Basics.{AddsProcess, AddsThread, Basic, Frees, basic, entries_of, first_code, world_after}
use Rattle.lpc_model.specs.Death.{code_status, end_threads}
use Rattle.lpc_model.specs.Raise.{go_on}
use Rattle.lpc_model.specs.Settle.{IsSettled, doomed_processes, end_doomed, is_doomed, least, lesser, settle, turn}
use Rattle.lpc_model.specs.Circle.{Group, Whose}
use Rattle.lpc_model.proofs.Calls.Raising.{on-holds}
use Rattle.lpc_model.proofs.Settling.Loop.{settle-holds, turn-kept}
use Rattle.lpc_model.proofs.Settling.Settled.{IsReady, doomed-ready, on-ready}
use Rattle.lpc_isolation.proofs.Views.View.{our_mark, our_process, view}
use Rattle.lpc_isolation.proofs.Views.Apart.{absorb, absorb_all, apart-append, are_apart, heard, run-apart}
use Rattle.lpc_isolation.proofs.Rows.Asked.{is_quiet, Asked}
use Rattle.lpc_isolation.proofs.Rows.Paths.{are_paths, run-paths}
use Rattle.lpc_isolation.proofs.Rows.Raisers.{keeps_raisers}
use Rattle.lpc_isolation.proofs.Rows.Fair.{run-fair, Fair}
use Rattle.lpc_isolation.proofs.Rows.Kept.{owned-sound}
use Rattle.lpc_isolation.proofs.Rows.Clients.{sound-clients}
use Rattle.lpc_isolation.proofs.Closings.Ends.{every-passing}
use Rattle.lpc_isolation.proofs.Calls.Doomed.{ending-rows}
use Rattle.lpc_isolation.proofs.Each.Enter.{sound-patient}
use Rattle.lpc_isolation.proofs.Endings.Parts.{Part, Steady, steady-after}
use Rattle.lpc_isolation.proofs.Endings.Threads.{ends-part, is_ending_of, lives-view, threads-view}
use Rattle.lpc_isolation.proofs.Views.Callers.{Led}
use Rattle.lpc_isolation.proofs.Rows.Ids.{Numbered}
use Rattle.lpc_isolation.proofs.Closings.Shown.{are_shown}
use Rattle.lpc_isolation.proofs.Endings.Turns.{Turning, doomed-raisers, on-apart, on-fair, on-raisers, on-keeps, turn-asked, turn-paths}
use Rattle.lpc_isolation.proofs.Gone.Born.{makes_none}
use Rattle.lpc_isolation.proofs.Gone.Fine.{run-fine}
use Rattle.lpc_isolation.proofs.Gone.Settles.{on-fine, on-none}

-- The process that ends is a turn's
module _ (m : Group) (c : ℕ) (u w : World) (p : ProcessRow) (k : Turning m c u w) where
  ending : every (is_ending_of u p.number) (live_threads w p.number) ≡ true
  ending =
      every-passing (λ t. not (lives_in p.number t) || is_ending_of u p.number t) (lives_in p.number) (is_ending_of u p.number) (λ t either lives. or-last (lives_in p.number t) (is_ending_of u p.number t) lives either) w.threads
      (ending-rows m c u w p.number k.sure.fair k.sure.used)

  part : Part m c u p.number (Steady m c u) (end_threads p.number (code_status (first_code 0 p.doom)) (live_threads w p.number))
  part = ends-part m c u p.number k.sure.c_in (code_status (first_code 0 p.doom)) (live_threads w p.number) ending

  steady-here : Steady m c u w
  steady-here = record { sure = k.sure; safe = k.ready.safe }

  pub ends-turning : Turning m c u (world_after w (end_doomed p w))
  unfolding end_doomed
  ends-turning =
      let ready = doomed-ready w p k.ready in
      let behind = steady-after m c u p.number (Steady m c u) (end_threads p.number (code_status (first_code 0 p.doom)) (live_threads w p.number)) part w steady-here k.sure ready.safe in
      record { sure = behind.sure; ready = ready; raisers = doomed-raisers m w p k.raisers }

  pub ends-apart : (d : Whose) → m p.number ≡ false → are_apart m c u d w (end_doomed p w) ≡ true
  unfolding end_doomed
  ends-apart d out = part.apart d w steady-here out

  -- of a member's in the view
  pub ends-led : (d : Whose) → m p.number ≡ true → Led m c u d w (end_doomed p w) (end_doomed p (view m w))
  unfolding end_doomed
  ends-led d inside =
      let code : Status = code_status (first_code 0 p.doom) in
      subst (λ ts. Led m c u d w (end_threads p.number code (live_threads w p.number) w) (end_threads p.number code ts (view m w))) (sym (threads-view m w p.number inside)) (part.led d w steady-here inside)

  pub ends-shown : Numbered u → (e : Bool) → m p.number ≡ e → are_shown false m e w (end_doomed p w) ≡ true
  unfolding end_doomed
  ends-shown n e side = part.shown w steady-here n e side

-- A marked event goes on
marked-quiet : (w : World) (tid : ℕ) (later : List ℕ) → w.marks ≡ tid ∷ later → every (is_quiet w.messages) w.marks ≡ true → is_quiet w.messages tid ≡ true
marked-quiet w tid later some all = first-true (is_quiet w.messages tid) (every (is_quiet w.messages) later) (subst (λ ms. every (is_quiet w.messages) ms ≡ true) some all)

-- no number is used for a thread
unused-one : (w : World) (b : Basic) → (keeps_raisers b && makes_none b) ≡ true → (basic w b).used_threads ≡ w.used_threads
unused-one w (AddsThread t) ok = absurd (cc)
unused-one w (AddsProcess p) ok = absurd (cc)
unused-one w (Frees o) ok = absurd (cc)
unused-one w b ok = refl

unused : (w : World) (bs : List Basic) → every (λ b. keeps_raisers b && makes_none b) bs ≡ true → (world_after w bs).used_threads ≡ w.used_threads
unused w [] ok = refl
unused w (b ∷ bs) ok = unused (basic w b) bs (second-true _ _ ok) ∙ unused-one w b (first-true _ _ ok)

both : (bs : List Basic) → every keeps_raisers bs ≡ true → every makes_none bs ≡ true → every (λ b. keeps_raisers b && makes_none b) bs ≡ true
both [] one two = refl
both (b ∷ bs) one two = and_from (keeps_raisers b && makes_none b) (every (λ b. keeps_raisers b && makes_none b) bs) (and_from (keeps_raisers b) (makes_none b) (first-true (keeps_raisers b) (every keeps_raisers bs) one) (first-true (makes_none b) (every makes_none bs) two)) (both bs (second-true (keeps_raisers b) (every keeps_raisers bs) one) (second-true (makes_none b) (every makes_none bs) two))

module _ (m : Group) (c : ℕ) (u w : World) (tid : ℕ) (later : List ℕ) (some : w.marks ≡ tid ∷ later) (k : Turning m c u w) where
  on-asked : Asked (world_after w (go_on tid w))
  on-asked = on-holds (λ bs. Asked (world_after w bs)) w tid k.sure.asked (λ t x r g. turn-asked m c u w tid k t x r g (marked-quiet w tid later some k.sure.asked.marked))

  on-paths : are_paths w (go_on tid w) ≡ true
  on-paths = on-holds (λ bs. are_paths w bs ≡ true) w tid refl (λ t x r g. turn-paths m c u w tid k t x r g)

  pub on-turning : Turning m c u (world_after w (go_on tid w))
  on-turning =
      let v : World = world_after w (go_on tid w) in
      let ready : IsReady v = on-ready w tid later some k.ready in
      let safe = ready.safe in
      let used : u.used_threads ≡ v.used_threads = k.sure.used ∙ sym (unused w (go_on tid w) (both (go_on tid w) (on-keeps w tid) (on-none w tid))) in
      let fair : Fair m c v = run-fair m c w (go_on tid w) (on-fair m c u w tid k) k.sure.fair in
      record {
        sure = record {
          c_in = k.sure.c_in;
          used = used;
          fair = fair;
          fine = run-fine m c w (go_on tid w) (on-fine m c w tid) k.sure.fine;
          owned = rw used (owned-sound m c v fair safe.sound.waits);
          patient = sound-patient v safe.sound.waits;
          once = safe.sound.once;
          paths = run-paths w (go_on tid w) on-paths k.sure.paths;
          clients = sound-clients v safe.sound;
          asked = on-asked;
        };
        ready = ready;
        raisers = on-raisers m w tid k.raisers;
      }

-- Where the view has nothing to settle
pub absorb-settled : (v : World) (es : List Entry) → IsSettled v → IsSettled (absorb_all v es)
absorb-settled v [] s = s
absorb-settled v (entry.Wakes who call status fields ∷ es) s = absorb-settled (absorb v (entry.Wakes who call status fields)) es (record { marks = ap (without (is_mark who)) s.marks; doomed = s.doomed })
absorb-settled v (entry.Answer who call status fields ∷ es) s = absorb-settled v es s
absorb-settled v (entry.Waits who call fields ∷ es) s = absorb-settled v es s
absorb-settled v (entry.Busy who ∷ es) s = absorb-settled v es s
absorb-settled v (entry.NoThread who ∷ es) s = absorb-settled v es s
absorb-settled v (entry.Died who status ∷ es) s = absorb-settled v es s
absorb-settled v (entry.Directive word status ∷ es) s = absorb-settled v es s

pub none-first : {A : Type 0} (f : A → Bool) (a : A) (rest : List A) → which f (a ∷ rest) ≡ [] → f a ≡ false
none-first f a rest none = at (f a) none
  where
    at : (e : Bool) → cond e (a ∷ which f rest) (which f rest) ≡ [] → e ≡ false
    at true none = absurd (cc)
    at false none = refl

pub least-holds : (q : ProcessRow → Bool) (ps : List ProcessRow) (p : ProcessRow) → every q ps ≡ true → least ps ≡ Some p → q p ≡ true
least-holds q [] p all is = absurd (cc)
least-holds q (a ∷ rest) p all is = at (least rest) refl (λ r some. least-holds q rest r (second-true (q a) (every q rest) all) some) (some-same (lesser a (least rest)) p is)
  where
    some-same : (x y : ProcessRow) → (let o : Option ProcessRow = Some x in o ≡ Some y) → x ≡ y
    some-same x y one = cc

    own : (p : ProcessRow) → a ≡ p → q p ≡ true
    own p same = subst (λ r. q r ≡ true) same (first-true (q a) (every q rest) all)

    choose : (r p : ProcessRow) (e : Bool) → q r ≡ true → cond e r a ≡ p → q p ≡ true
    choose r p true ok same = subst (λ s. q s ≡ true) same ok
    choose r p false ok same = own p same

    at : (o : Option ProcessRow) → least rest ≡ o → ((r : ProcessRow) → least rest ≡ Some r → q r ≡ true) → lesser a o ≡ p → q p ≡ true
    at None none more same = own p same
    at (Some r) some more same = choose r p (nat_lt r.number a.number) (more r some) same

-- a doomed process is an outsider's
pub doomed-out : (m : Group) (w : World) → every (λ p. not (is_doomed (view m w) p)) (which (our_process m) w.processes) ≡ true → every (λ p. not (m p.number)) (doomed_processes w) ≡ true
doomed-out m w all = rows w.processes all
  where
    rows : (ps : List ProcessRow) → every (λ p. not (is_doomed (view m w) p)) (which (our_process m) ps) ≡ true → every (λ p. not (m p.number)) (which (is_doomed w) ps) ≡ true
    rows [] all = refl
    rows (p ∷ ps) all = at (m p.number) (is_doomed w p) refl refl (rows ps)
      where
        at : (e d : Bool) → m p.number ≡ e → is_doomed w p ≡ d → (every (λ p. not (is_doomed (view m w) p)) (which (our_process m) ps) ≡ true → every (λ p. not (m p.number)) (which (is_doomed w) ps) ≡ true) → every (λ p. not (m p.number)) (which (is_doomed w) (p ∷ ps)) ≡ true
        at true d inside dead rest =
            let here : every (λ p. not (is_doomed (view m w) p)) (p ∷ which (our_process m) ps) ≡ true = rw inside at all in
            let same : is_doomed (view m w) p ≡ is_doomed w p = ap (λ e. is_some p.doom && e) (lives-view m w p.number inside) in
            let off : is_doomed w p ≡ false = sym same ∙ not-true (is_doomed (view m w) p) (first-true (not (is_doomed (view m w) p)) (every (λ p. not (is_doomed (view m w) p)) (which (our_process m) ps)) here) in
            rw off (rest (second-true (not (is_doomed (view m w) p)) (every (λ p. not (is_doomed (view m w) p)) (which (our_process m) ps)) here))
        at false true out dead rest = let there : every (λ p. not (is_doomed (view m w) p)) (which (our_process m) ps) ≡ true = rw out at all in rw dead (and_from (not (m p.number)) (every (λ p. not (m p.number)) (which (is_doomed w) ps)) (rw out refl) (rest there))
        at false false out dead rest = let there : every (λ p. not (is_doomed (view m w) p)) (which (our_process m) ps) ≡ true = rw out at all in rw dead (rest there)

-- so all that settling does is apart
abbrev Hidden : Group → ℕ → World → World → Type 0
Hidden m c u w = Turning m c u w × IsSettled (view m w)

module _ (m : Group) (c : ℕ) (u : World) (d : Whose) where
  mark-out : (w : World) (tid : ℕ) (later : List ℕ) → w.marks ≡ tid ∷ later → IsSettled (view m w) → our_mark m w tid ≡ false
  mark-out w tid later some s = none-first (our_mark m w) tid later (ap (which (our_mark m w)) (sym some) ∙ s.marks)

  goes-apart : (w : World) (tid : ℕ) (later : List ℕ) → w.marks ≡ tid ∷ later → Hidden m c u w → are_apart m c u d w (go_on tid w) ≡ true
  goes-apart w tid later some h = on-apart m c u d w tid h.0 (mark-out w tid later some h.1)

  process-out : (w : World) (p : ProcessRow) → least (doomed_processes w) ≡ Some p → IsSettled (view m w) → m p.number ≡ false
  process-out w p some s = not-true (m p.number) (least-holds (λ p. not (m p.number)) (doomed_processes w) p (doomed-out m w s.doomed) some)

  doomed-apart : (w : World) (p : ProcessRow) → least (doomed_processes w) ≡ Some p → Hidden m c u w → are_apart m c u d w (end_doomed p w) ≡ true
  doomed-apart w p some h = ends-apart m c u w p h.0 d (process-out w p some h.1)

  still : (w : World) (bs : List Basic) → are_apart m c u d w bs ≡ true → IsSettled (view m w) → IsSettled (view m (world_after w bs))
  still w bs apart s = subst IsSettled (sym (run-apart m c u d w bs apart)) (absorb-settled (view m w) (heard m u d (entries_of bs)) s)

  hidden-kept : (w : World) (bs : List Basic) → turn w ≡ Some bs → Hidden m c u w → Hidden m c u (world_after w bs)
  hidden-kept = turn-kept (Hidden m c u) (λ w tid later some h. (on-turning m c u w tid later some h.0, still w (go_on tid w) (goes-apart w tid later some h) h.1)) (λ w p some h. (ends-turning m c u w p h.0, still w (end_doomed p w) (doomed-apart w p some h) h.1))

  pub settle-apart : (w : World) → Turning m c u w → IsSettled (view m w) → are_apart m c u d w (settle w) ≡ true
  settle-apart w k s =
      settle-holds (Hidden m c u) (λ w bs. are_apart m c u d w bs ≡ true) (λ w. refl) (λ w bs cs one two. apart-append m c u d w bs cs one two) hidden-kept goes-apart doomed-apart w (k, s)
