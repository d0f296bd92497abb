-- A marked event that goes on: what its turn owes, of an outsider and of a member.
use Rattle.lpc_isolation.proofs.Rows.Ways.{enter-paths, way-lead}
use Rattle.lpc_isolation.proofs.Rows.Paths.{append-paths, are_paths, leads}
use Rattle.lpc_isolation.proofs.Rows.Asked.{Asked, append-asked, are_asked, enter-asked, is_own, is_quiet, run-asked}
use Rattle.lpc_model.proofs.Sound.Basics.{once-awaits}
use Rattle.lpc_base.proofs.Births.{birth-self}
use Rattle.lpc_base.specs.declared.status.Status.{Status}
use Rattle.lpc_model.specs.Death.{code_status, end_threads}
use Rattle.lpc_model.specs.Entering.{enter}
use Rattle.lpc_isolation.proofs.Rows.Raisers.{keeps_raisers, run-raisers}
use Rattle.lpc_model.proofs.Steps.Ending.{end-ending, ending-enter, is_ending}
use Rattle.lpc_model.proofs.Sound.Worlds.{by_kind}
use Rattle.lpc_isolation.proofs.Gone.Settles.{behind-all}
use Rattle.std.proofs.Common.{◌≡◌, ℕ, List, [], ◌∷◌, Bool, true, false, not, Some, None, refl, ap, sym, subst, ◌∙◌, arith, ◌≤◌}
use Rattle.std.specs.Prelude.{◌&&◌, ◌==◌, ◌||◌}
use Rattle.std.proofs.lemmas.Bool.{and_from, eqb-true, false_from_ne_true}
use Rattle.lpc_base.specs.Rows.{every, first, has, passes, which, without, count}
use Rattle.lpc_base.specs.declared.status.TheConstants.{SUCCESS}
use Rattle.lpc_base.proofs.Bools.{first-true, second-true, same-number}
use Rattle.lpc_base.proofs.RowWords.{every-without, first-passes, every-more, has-push}
use Rattle.lpc_base.proofs.RowMaps.{every-first}
use Rattle.lpc_model.specs.World.{Raised, ThreadRow, WaitRow, World, ProcessRow}
use Rattle.lpc_model.specs.Found.{is_event, is_mark, live_thread, wait_of, waits_as, live_threads, port_row}
use Rattle.lpc_model.specs.Basics.{Basic, Leaves, basic, world_after, AddsProcess, Completes, Frees, Joins, Makes, Secures, SetsDebug, SetsException, first_code}
use Rattle.lpc_model.specs.Raise.{Handled, Heard, Next, Unhandled, behind_chance, event_begun, event_wait, go_on, goes_on, raised_in, send_event}
use Rattle.lpc_model.specs.Settle.{is_event_of, end_doomed}
use Rattle.lpc_model.specs.SoundWaits.{IsSoundWorld, is_sound_as, is_sound_wait, waiter_of}
use Rattle.lpc_model.specs.Tests.{is_client}
use Rattle.lpc_model.specs.Circle.{Group, Nobody, Whose, owner}
use Rattle.lpc_model.proofs.Calls.Raising.{GoesOn, WhereHeard, heard-routed, on-holds}
use Rattle.lpc_model.proofs.Calls.Usable.{live-number}
use Rattle.lpc_model.proofs.Settling.Settled.{IsReady}
use Rattle.lpc_model.proofs.Steps.Rows.{has-found, count-less}
use Rattle.lpc_isolation.proofs.Views.Alone.{HasFineRaisers}
use Rattle.lpc_isolation.proofs.Views.View.{our_mark, our_wait, view}
use Rattle.lpc_isolation.proofs.Views.Basics.{are_ours, basic-ours, sees_wait}
use Rattle.lpc_isolation.proofs.Views.Apart.{are_apart, end-apart, is_owned, unseen-wait}
use Rattle.lpc_isolation.proofs.Views.Callers.{Led, led-same}
use Rattle.lpc_isolation.proofs.Views.Filters.{first-kept}
use Rattle.lpc_isolation.proofs.Views.Seen.{live-owner, live-view}
use Rattle.lpc_isolation.proofs.Rows.Fair.{are_fair, is_fair_raise, run-fair}
use Rattle.lpc_isolation.proofs.Closings.Mild.{Sure}
use Rattle.lpc_isolation.proofs.Each.Enter.{is_patient}
use Rattle.lpc_model.specs.Raise.{Hearing}
use Rattle.lpc_isolation.proofs.Closings.Shown.{are_shown, enter-shown, silent-shown}
use Rattle.lpc_isolation.proofs.Memory.Heard.{Reads, reads-of}
use Rattle.lpc_isolation.proofs.Rows.Ids.{Numbered, of_number}
use Rattle.lpc_isolation.proofs.Rows.Fair.{is_fair_message, is_sent}
use Rattle.lpc_isolation.proofs.Closings.Mild.{Once}
use Rattle.lpc_isolation.proofs.Each.Raises.{event-row-fair, Sender, Told, behind-view, hearing-set, seen_hearing, seen_next, send-apart, send-fair, send-ours, send-view, told-by, event_row, begun, event-sort}

-- what is known of a world that settles
pub record Turning (m : Group) (c : ℕ) (u w : World) : Type 0 where
  pub sure : Sure m c u w
  pub ready : IsReady w
  pub raisers : HasFineRaisers m w

left-mark : (n : ℕ) (ms : List ℕ) → has (is_mark n) (without (is_mark n) ms) ≡ false
left-mark n [] = refl
left-mark n (a ∷ rest) = grind (arith, left-mark n rest)

raised-event : (x : WaitRow) (r : Raised) → raised_in x ≡ Some r → is_event x ≡ true
raised-event x r is = by_kind (λ x. raised_in x ≡ Some r → is_event x ≡ true) (λ x a is. absurd (cc)) (λ x is. absurd (cc)) (λ x is. absurd (cc)) (λ x a offer is. absurd (cc)) (λ x a reply is. absurd (cc)) (λ x e is. refl) x is

module _ (m : Group) (c : ℕ) (u w : World) (tid : ℕ) (k : Turning m c u w) (t : ThreadRow) (x : WaitRow) (r : Raised) (g : GoesOn w tid t x r) where
  thread : x.thread ≡ tid
  thread = eqb-true x.thread tid (first-passes (waits_as tid) w.waits x g.waits)

  number : t.number ≡ tid
  number = live-number w tid t g.lives

  process : t.process ≡ x.process
  process =
      let safe = k.ready.safe in
      let s : IsSoundWorld w = safe.sound in
      let client : is_client w (waiter_of x) ≡ true = first-true (is_client w (waiter_of x)) (is_sound_as w x x.kind) (every-first (is_sound_wait w) (waits_as tid) w.waits x s.waits g.waits) in
      let row : live_thread w x.thread ≡ Some t = subst (λ n. live_thread w n ≡ Some t) (sym thread) g.lives in
      let same : (t.process == x.process) ≡ true = rw row at client in
      eqb-true t.process x.process same

  abbrev pub left : World
  left = basic w (Leaves x.thread)

  own : owner w t.number ≡ Some t.process
  own = subst (λ n. owner w n ≡ Some t.process) (sym number) (live-owner m c w tid t k.sure.fair g.lives)

  sender : Sender m c u left t
  sender = record {
    c_in = k.sure.c_in;
    fair = run-fair m c w (Leaves x.thread ∷ []) refl k.sure.fair;
    patient = every-without (is_patient w) (waits_as x.thread) w.waits k.sure.patient;
    owned = every-without (is_owned u) (waits_as x.thread) w.waits k.sure.owned;
    here = rw k.sure.used own;
    own = own;
    unmarked = subst (λ n. has (is_mark t.number) (without (is_mark n) w.marks) ≡ false) (number ∙ sym thread) (left-mark t.number w.marks);
  }

  abbrev next : Next
  next = behind_chance w x.process r.handled r.chance

  told : WhereHeard (Told m c left t.process) next
  told = behind-all (Told m c left t.process) w x.process r.handled r.chance (λ chance h is. subst (λ p. Told m c left p h) (sym process) (told-by m c left x.process chance h sender.fair k.sure.fine k.raisers (hearing-set left x.process chance h is)))

  fair-next : (n : Next) → WhereHeard (Told m c left t.process) n → are_fair m c w (goes_on t x r n w) ≡ true
  fair-next Handled is = refl
  fair-next (Heard h) is = and_from _ _ refl (send-fair m c u left t r.code r.handled h sender is)
  fair-next Unhandled is = refl

  pub turn-fair : are_fair m c w (goes_on t x r next w) ≡ true
  turn-fair = fair-next next told

  -- of an outsider
  module _ (d : Whose) (out : m t.process ≡ false) where
    x_out : m x.process ≡ false
    x_out = ap m (sym process) ∙ out

    other : (x.process == c) ≡ false
    other = false_from_ne_true (x.process == c) (λ is. let same : m x.process ≡ m c = ap m (eqb-true x.process c is) in let c_in : m c ≡ true = k.sure.c_in in let off : m x.process ≡ false = x_out in cc)

    unseen : sees_wait m w x.thread ≡ false
    unseen = unseen-wait m u w x.thread t.process k.sure.owned (subst (λ n. owner u n ≡ Some t.process) (number ∙ sym thread) sender.here) out

    apart-next : (n : Next) → WhereHeard (Told m c left t.process) n → are_apart m c u d w (goes_on t x r n w) ≡ true
    apart-next Handled is = and_from _ _ (and_from _ _ (end-apart m c u d w x SUCCESS [] k.sure.owned (every-first (is_owned u) (waits_as tid) w.waits x k.sure.owned g.waits) other) refl) refl
    apart-next (Heard h) is = and_from _ _ (rw unseen refl) (send-apart m c u d left t r.code r.handled h sender is out)
    apart-next Unhandled is = rw (unseen, x_out) refl

    pub turn-apart : are_apart m c u d w (goes_on t x r next w) ≡ true
    turn-apart = apart-next next told

  -- of a member
  module _ (inside : m t.process ≡ true) where
    x_in : m x.process ≡ true
    x_in = ap m (sym process) ∙ inside

    ours : our_wait m x ≡ true
    ours =
        let raise : is_fair_raise m x ≡ true = every-first (is_fair_raise m) (waits_as tid) w.waits x k.sure.fair.raised g.waits in
        let queue : (not true || (not true || m x.queue.process)) ≡ true = rw (raised-event x r g.raised, x_in) at raise in
        and_from _ _ x_in queue

    seen-waits : wait_of (view m w) tid ≡ Some x
    seen-waits = first-kept (our_wait m) (waits_as tid) w.waits x g.waits ours

    seen-lives : live_thread (view m w) tid ≡ Some t
    seen-lives = live-view m c w tid t.process k.sure.fair (subst (λ n. owner w n ≡ Some t.process) number own) inside ∙ g.lives

    seen-next : behind_chance (view m w) x.process r.handled r.chance ≡ seen_next m next
    seen-next = behind-view m c w x.process x_in k.sure.fair k.sure.fine k.raisers r.handled r.chance

    seen-left : view m left ≡ basic (view m w) (Leaves x.thread)
    seen-left = basic-ours m w (Leaves x.thread) refl refl

    steps-next : (n : Next) → WhereHeard (Told m c left t.process) n → goes_on t x r (seen_next m n) (view m w) ≡ goes_on t x r n w
    steps-next Handled is = refl
    steps-next (Heard h) is = ap (λ v. Leaves x.thread ∷ send_event t r.code r.handled (seen_hearing m h) v) (sym seen-left) ∙ ap (λ bs. Leaves x.thread ∷ bs) (send-view m c u left t r.code r.handled h sender is inside)
    steps-next Unhandled is = refl

    ours-next : (n : Next) → WhereHeard (Told m c left t.process) n → are_ours m w (goes_on t x r n w) ≡ true
    ours-next Handled is = refl
    ours-next (Heard h) is = and_from _ _ refl (send-ours m c u left t r.code r.handled h sender is inside)
    ours-next Unhandled is = refl

    pub turn-same : go_on tid (view m w) ≡ goes_on t x r next w
    unfolding go_on
    turn-same = rw (seen-lives, seen-waits, g.raised) (ap (λ n. goes_on t x r n (view m w)) seen-next ∙ steps-next next told)

    pub turn-led : (d : Whose) → Led m c u d w (goes_on t x r next w) (go_on tid (view m w))
    turn-led d = subst (Led m c u d w (goes_on t x r next w)) (sym turn-same) (led-same m c u d w (goes_on t x r next w) (ours-next next told))

    pub turn-seen : GoesOn (view m w) tid t x r
    turn-seen = record { lives = seen-lives; waits = seen-waits; raised = g.raised }

    -- its mark is in the view
    pub turn-mark : our_mark m w tid ≡ true
    turn-mark = has-found (is_event_of tid) (waits_as tid) (which (our_wait m) w.waits) x seen-waits (and_from _ _ (first-passes (waits_as tid) w.waits x g.waits) (raised-event x r g.raised))

-- So the turn of a marked event that is not in the view is apart, and one that is takes the same steps in the view
pub on-fair : (m : Group) (c : ℕ) (u w : World) (tid : ℕ) → Turning m c u w → are_fair m c w (go_on tid w) ≡ true
on-fair m c u w tid k = on-holds (λ bs. are_fair m c w bs ≡ true) w tid refl (λ t x r g. turn-fair m c u w tid k t x r g)

pub on-apart : (m : Group) (c : ℕ) (u : World) (d : Whose) (w : World) (tid : ℕ) → Turning m c u w → our_mark m w tid ≡ false → are_apart m c u d w (go_on tid w) ≡ true
on-apart m c u d w tid k off = on-holds (λ bs. are_apart m c u d w bs ≡ true) w tid refl (λ t x r g. turn-apart m c u w tid k t x r g d (false_from_ne_true (m t.process) (λ inside. let on : our_mark m w tid ≡ true = turn-mark m c u w tid k t x r g inside in cc)))

-- What members' exceptions are told to stays fine
ending-keeps : (b : Basic) → is_ending b ≡ true → keeps_raisers b ≡ true
ending-keeps (Makes p) is = absurd (cc)
ending-keeps (Joins client server context) is = absurd (cc)
ending-keeps (Completes b) is = absurd (cc)
ending-keeps (Secures b s) is = absurd (cc)
ending-keeps (AddsProcess p) is = absurd (cc)
ending-keeps (SetsDebug pid b) is = absurd (cc)
ending-keeps (SetsException pid b) is = absurd (cc)
ending-keeps (Frees o) is = absurd (cc)
ending-keeps b is = refl

pub on-keeps : (w : World) (tid : ℕ) → every keeps_raisers (go_on tid w) ≡ true
on-keeps w tid = on-holds (λ bs. every keeps_raisers bs ≡ true) w tid refl (λ t x r g. at t x r (behind_chance w x.process r.handled r.chance))
  where
    at : (t : ThreadRow) (x : WaitRow) (r : Raised) (n : Next) → every keeps_raisers (goes_on t x r n w) ≡ true
    at t x r Handled = refl
    at t x r (Heard h) =
        let v : World = world_after w (Leaves x.thread ∷ event_begun t r.code r.handled h) in
        every-more is_ending keeps_raisers ending-keeps (enter (event_row t r.code h) v) (ending-enter (event_row t r.code h) v)
    at t x r Unhandled = refl

pub on-raisers : (m : Group) (w : World) (tid : ℕ) → HasFineRaisers m w → HasFineRaisers m (world_after w (go_on tid w))
on-raisers m w tid all = run-raisers m w (go_on tid w) (on-keeps w tid) all

pub doomed-raisers : (m : Group) (w : World) (p : ProcessRow) → HasFineRaisers m w → HasFineRaisers m (world_after w (end_doomed p w))
unfolding end_doomed
doomed-raisers m w p all =
    let code : Status = code_status (first_code 0 p.doom) in
    let bs : List Basic = end_threads p.number code (live_threads w p.number) w in
    run-raisers m w bs (every-more is_ending keeps_raisers ending-keeps bs (end-ending p.number code (live_threads w p.number) w)) all

-- What waits, and what is asked
once-left : (n : ℕ) (xs : List WaitRow) (k : ℕ) → count (waits_as k) xs ≤ 1 → count (waits_as k) (without (waits_as n) xs) ≤ 1
once-left n xs k few = count-less (waits_as k) (waits_as n) xs 1 few

idle-left : (n : ℕ) (xs : List WaitRow) → first (waits_as n) (without (waits_as n) xs) ≡ None
idle-left n [] = refl
idle-left n (x ∷ xs) = grind (arith, idle-left n xs)

module _ (m : Group) (c : ℕ) (u w : World) (tid : ℕ) (k : Turning m c u w) (t : ThreadRow) (x : WaitRow) (r : Raised) (g : GoesOn w tid t x r) where
  pub turn-asked : is_quiet w.messages tid ≡ true → Asked (world_after w (goes_on t x r (behind_chance w x.process r.handled r.chance) w))
  turn-asked quiet_tid = run-asked w (goes_on t x r (behind_chance w x.process r.handled r.chance) w) (at (behind_chance w x.process r.handled r.chance) (told m c u w tid k t x r g)) k.sure.asked
    where
      own_thread : x.thread ≡ tid
      own_thread = thread m c u w tid k t x r g

      own_number : t.number ≡ tid
      own_number = number m c u w tid k t x r g

      quiet : is_quiet w.messages x.thread ≡ true
      quiet = subst (λ n. is_quiet w.messages n ≡ true) (sym own_thread) quiet_tid

      gone : World
      gone = basic w (Leaves x.thread)

      at : (n : Next) → WhereHeard (Told m c (left m c u w tid k t x r g) t.process) n → are_asked w (goes_on t x r n w) ≡ true
      at Handled told = rw quiet refl
      at Unhandled told = rw quiet refl
      at (Heard h) told =
          let start : List Basic = Leaves x.thread ∷ event_begun t r.code r.handled h in
          let begins : are_asked w start ≡ true = rw quiet refl in
          let y : WaitRow = event_wait t r.code r.handled h in
          let s : Sender m c u gone t = sender m c u w tid k t x r g in
          let b = begun m c u gone t r.code r.handled h s told in
          let silent : is_quiet w.messages t.number ≡ true = subst (λ n. is_quiet w.messages n ≡ true) (sym own_number) quiet_tid in
          let there : has (is_own (event_row t r.code h)) (world_after w start).waits ≡ true = has-push (is_own (event_row t r.code h)) gone.waits y (and_from _ _ (same-number t.number) (and_from _ _ (birth-self h.queue) refl)) in
          append-asked w start (enter (event_row t r.code h) (world_after w start)) begins
          (enter-asked (world_after w start) (event_row t r.code h) (run-asked w start begins k.sure.asked) b.patient
          (λ n. once-awaits gone y (subst (λ i. first (waits_as t.number) (without (waits_as i) w.waits) ≡ None) (own_number ∙ sym own_thread) (idle-left t.number w.waits)) (λ i. once-left x.thread w.waits i (k.sure.once i)) n)
          (and_from _ _ (event-sort t r.code h) (rw (silent, there, s.unmarked) (grind arith))))

  pub turn-paths : are_paths w (goes_on t x r (behind_chance w x.process r.handled r.chance) w) ≡ true
  turn-paths = at (behind_chance w x.process r.handled r.chance) (behind-all (λ h. passes (port_row w h.port.birth) (leads h.queue) ≡ true) w x.process r.handled r.chance (λ chance h is. let heard = heard-routed w x.process chance h is in rw heard.stands (way-lead w h.port h.queue h.port.kind refl heard.way)))
    where
      at : (n : Next) → WhereHeard (λ h. passes (port_row w h.port.birth) (leads h.queue) ≡ true) n → are_paths w (goes_on t x r n w) ≡ true
      at Handled path = refl
      at Unhandled path = refl
      at (Heard h) path =
          let start : List Basic = Leaves x.thread ∷ event_begun t r.code r.handled h in
          append-paths w start (enter (event_row t r.code h) (world_after w start)) (and_from _ _ path refl) (enter-paths (world_after w start) (event_row t r.code h))

-- What members are shown by it: a message in the thread's name, where any
module _ (m : Group) (c : ℕ) (u w : World) (tid : ℕ) (k : Turning m c u w) (t : ThreadRow) (x : WaitRow) (r : Raised) (g : GoesOn w tid t x r) (numbered : Numbered u) where
  pub event-told : WhereHeard (Told m c (left m c u w tid k t x r g) t.process) (behind_chance w x.process r.handled r.chance)
  event-told = told m c u w tid k t x r g

  pub turn-reads : (h : Hearing) → Told m c (left m c u w tid k t x r g) t.process h → Reads (event_row t r.code h)
  turn-reads h told =
      let gone : World = left m c u w tid k t x r g in
      let s : Sender m c u gone t = sender m c u w tid k t x r g in
      let both : (is_fair_message m c (event_row t r.code h) && is_sent gone.used_threads (event_row t r.code h)) ≡ true = event-row-fair m c gone t r.code h s.c_in s.own told in
      let used : u.used_threads ≡ w.used_threads = k.sure.used in
      reads-of gone.used_threads (event_row t r.code h) (subst (λ us. every of_number us ≡ true) used numbered) (second-true (is_fair_message m c (event_row t r.code h)) _ both) (event-sort t r.code h)

  turn-once : (h : Hearing) → Once (world_after w (Leaves x.thread ∷ event_begun t r.code r.handled h))
  turn-once h n =
      let own_thread : x.thread ≡ tid = thread m c u w tid k t x r g in
      let own_number : t.number ≡ tid = number m c u w tid k t x r g in
      once-awaits (basic w (Leaves x.thread)) (event_wait t r.code r.handled h) (subst (λ i. first (waits_as t.number) (without (waits_as i) w.waits) ≡ None) (own_number ∙ sym own_thread) (idle-left t.number w.waits)) (λ i. once-left x.thread w.waits i (k.sure.once i)) n

  shown-next : (e : Bool) → m t.process ≡ e → (n : Next) → WhereHeard (Told m c (left m c u w tid k t x r g) t.process) n → are_shown true m e w (goes_on t x r n w) ≡ true
  shown-next e side Handled is = and_from _ _ (silent-shown true m e w x.thread [] refl (λ off. unseen m c u w tid k t x r g Nobody (side ∙ off))) refl
  shown-next e side Unhandled is = refl
  shown-next e side (Heard h) is =
      enter-shown true m e (world_after w (Leaves x.thread ∷ event_begun t r.code r.handled h)) (event_row t r.code h) refl (turn-once h) (turn-reads h is) (event-sort t r.code h) side

  pub turn-shown : (e : Bool) → m t.process ≡ e → are_shown true m e w (goes_on t x r (behind_chance w x.process r.handled r.chance) w) ≡ true
  turn-shown e side = shown-next e side (behind_chance w x.process r.handled r.chance) (told m c u w tid k t x r g)
