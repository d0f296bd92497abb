-- An exception goes on: what the steps leave, taken one after the other.
use Rattle.std.proofs.Common.{◌≡◌, ◌∙◌, ℕ, ◌+◌, ◌≤◌, List, [], ◌∷◌, Bool, true, false, length, Option, Some, None, option_and_then, option_map, refl, ap, sym, subst, arith}
use Rattle.std.specs.Prelude.{◌==◌, ◌&&◌, is_some}
use Rattle.std.proofs.lemmas.Bool.{eqb-true}
use Rattle.std.proofs.lemmas.List.{append-nil}
use Rattle.lpc_base.proofs.Bools.{first-true, second-true}
use Rattle.lpc_base.proofs.RowMaps.{every-first}
use Rattle.lpc_base.proofs.RowWords.{first-passes}
use Rattle.lpc_base.specs.Rows.{first, given, has, passes}
use Rattle.lpc_except.specs.Turns.{marked_turn, marked_turn_by}
use Rattle.lpc_model.specs.declared.entry.Entry.{Entry}
use Rattle.lpc_model.specs.Basics.{Basic, Dooms, Leaves, basic, left_by}
use Rattle.lpc_model.specs.Found.{is_live_thread, is_thread, live_thread, wait_of, waits_as}
use Rattle.lpc_model.specs.Raise.{Handled, Heard, Hearing, Next, Unhandled, behind_chance, go_on, goes_on, raised_in, send_event}
use Rattle.lpc_model.specs.SoundWaits.{HasSoundWaits, IsSoundWorld, is_sound_wait}
use Rattle.lpc_model.specs.World.{PortRow, Raised, ThreadRow, WaitRow, World}
use Rattle.lpc_procs.specs.declared.rows.Caller.{Caller}
use Rattle.lpc_rows.specs.Callers.{as_caller, shown_caller}
use Rattle.lpc_rows.specs.Does as does
use Rattle.lpc_rows.specs.Does.{Left}
use Rattle.lpc_rows.specs.Kept.{Kept}
use Rattle.lpc_rows.specs.Names.{name_of, stands}
use Rattle.lpc_rows.specs.Ready.{port_of, waiter}
use Rattle.lpc_rows.specs.Shown.{Births, shown_chance}
use Rattle.lpc_base.specs.declared.birth.Birth.{Birth}
use Rattle.lpc_except.specs.Chances.{IsHeard, shown_hearing}
use Rattle.lpc_except.specs.declared.chances.Hearing.{Hearing as Hears}
use Rattle.lpc_rows.proofs.Finished.{found-waiter, own-waiter}

-- behind a wait that ended, an event is sent
pub sent-behind : (t : ThreadRow) (x : WaitRow) (r : Raised) (h g : Hearing) (w v : World) (es : List Entry) (before loose : Bool) (l : Left) (tid : ℕ)
    → x.thread ≡ tid → v ≡ left_by tid w → loose ≡ true → g ≡ h
    → l ≡ does.left_by v es loose (send_event t r.code r.handled g v)
    → l ≡ does.left_by w es before (goes_on t x r (Heard h) w)
sent-behind t x r h g w v es before loose l tid own rows went same sent =
    sent
    ∙ (λ i. does.left_by (rows i) es (went i) (send_event t r.code r.handled (same i) (rows i)))
    ∙ subst (λ n. does.left_by (left_by tid w) es true (send_event t r.code r.handled h (left_by tid w)) ≡ does.left_by w es before (Leaves n ∷ send_event t r.code r.handled h (left_by n w))) (sym own)
    refl

-- or its process is to end
pub given-up : (t : ThreadRow) (x : WaitRow) (r : Raised) (w v u : World) (es : List Entry) (before loose : Bool) (tid pid : ℕ)
    → x.thread ≡ tid → x.process ≡ pid → v ≡ left_by tid w → u ≡ basic v (Dooms pid r.code) → loose ≡ true
    → (let l : Left = record { world = u; entries = es; loose = loose } in l ≡ does.left_by w es before (goes_on t x r Unhandled w))
given-up t x r w v u es before loose tid pid own home rows doomed went =
    let world_is : u ≡ basic (left_by x.thread w) (Dooms x.process r.code) =
    doomed ∙ ap (λ (z : World). basic z (Dooms pid r.code)) rows ∙ (λ i. basic (left_by (sym own i) w) (Dooms (sym home i) r.code)) in
    (λ i. record { world = world_is i; entries = sym (append-nil es) i; loose = went i })

-- the process of a thread that waits is that of its wait
pub sound-home : (w : World) (tid : ℕ) (t : ThreadRow) → IsSoundWorld w → has (waits_as tid) w.waits ≡ true → live_thread w tid ≡ Some t → (let x = waiter w tid in x.process ≡ t.process)
sound-home w tid t sound there live =
    let x = waiter w tid in
    let is : is_sound_wait w x ≡ true = every-first (is_sound_wait w) (waits_as tid) w.waits x sound.waits (found-waiter w tid there) in
    let client : passes (live_thread w x.thread) (λ (s : ThreadRow). s.process == x.process) ≡ true = first-true _ _ is in
    let at : passes (live_thread w tid) (λ (s : ThreadRow). s.process == x.process) ≡ true =
    subst (λ n. passes (live_thread w n) (λ (s : ThreadRow). s.process == x.process) ≡ true) (own-waiter w tid there) client in
    sym (eqb-true t.process x.process (subst (λ (o : Option ThreadRow). passes o (λ (s : ThreadRow). s.process == x.process) ≡ true) live at))

-- The turn of the first mark
-- a live thread that the code found
pub record IsLive (w : World) (tid : ℕ) (by : Caller) : Type 0 where
  pub row : ThreadRow
  pub live : live_thread w tid ≡ Some row
  pub seen : by ≡ as_caller row
  pub number : by.number ≡ tid

living-number : (t : ThreadRow) (tid : ℕ) → is_live_thread tid t ≡ true → (t.number == tid) ≡ true
living-number t tid is = first-true (t.number == tid) t.live is

living-thread : (tid : ℕ) (ts : List ThreadRow) → has (is_live_thread tid) ts ≡ true → has (is_thread tid) ts ≡ true
living-thread tid [] is = absurd (cc)
living-thread tid (t ∷ ts) is = elim (is_live_thread tid t) as (λ b. is_live_thread tid t ≡ b → has (is_thread tid) (t ∷ ts) ≡ true) [
  | true ↦ λ here. let own = living-number t tid here in grind (arith, own)
  | false ↦ λ off. grind (arith, off, living-thread tid ts)
] refl

pub live-row : (w : World) (tid : ℕ) (by : Caller) → Some by ≡ option_map as_caller (live_thread w tid) → IsLive w tid by
live-row w tid by is = at (live_thread w tid) refl is
  where
    at : (o : Option ThreadRow) → live_thread w tid ≡ o → Some by ≡ option_map as_caller o → IsLive w tid by
    at None live is = absurd (cc)
    at (Some t) live is =
        let seen : by ≡ as_caller t = cc in
        let own : t.number ≡ tid = eqb-true t.number tid (living-number t tid (first-passes (is_live_thread tid) w.threads t live)) in
        record { row = t; live = live; seen = seen; number = ap (λ (c : Caller). c.number) seen ∙ own }

found-has : (tid : ℕ) (ts : List ThreadRow) (t : ThreadRow) → first (is_live_thread tid) ts ≡ Some t → has (is_live_thread tid) ts ≡ true
found-has tid ts t found = ap is_some found

pub has-living : (w : World) (tid : ℕ) (by : Caller) → IsLive w tid by → has (is_live_thread by.number) w.threads ≡ true
has-living w tid by is = ap (λ n. has (is_live_thread n) w.threads) is.number ∙ found-has tid w.threads is.row is.live

pub has-thread : (w : World) (tid : ℕ) (by : Caller) → IsLive w tid by → has (is_thread by.number) w.threads ≡ true
has-thread w tid by is = living-thread by.number w.threads (has-living w tid by is)

same-caller : (w : World) (t : ThreadRow) (x : WaitRow) (r : Raised) (n : Next) → goes_on t x r n w ≡ goes_on (shown_caller (as_caller t)) x r n w
same-caller w t x r Handled = refl
same-caller w t x r (Heard h) = refl
same-caller w t x r Unhandled = refl

pub turned : (w : World) (tid : ℕ) (later : List ℕ) (by : Caller) (r : Raised) → w.marks ≡ tid ∷ later → IsLive w tid by → has (waits_as tid) w.waits ≡ true
    → option_and_then raised_in (wait_of w tid) ≡ Some r
    → (let x = waiter w tid in marked_turn w ≡ goes_on (shown_caller by) x r (behind_chance w x.process r.handled r.chance) w)
unfolding go_on
turned w tid later by r marks is there raised =
    let x = waiter w tid in
    let found : wait_of w tid ≡ Some x = found-waiter w tid there in
    let has_raised : raised_in x ≡ Some r = sym (ap (option_and_then raised_in) found) ∙ raised in
    ap (marked_turn_by w) marks
    ∙ rw (is.live, found, has_raised) refl
    ∙ same-caller w is.row x r (behind_chance w x.process r.handled r.chance)
    ∙ ap (λ (c : Caller). goes_on (shown_caller c) x r (behind_chance w x.process r.handled r.chance) w) (sym is.seen)

-- nothing happens where no live thread has the mark, or waits with no event
pub turned-none : (w : World) (tid : ℕ) (later : List ℕ) → w.marks ≡ tid ∷ later → None ≡ option_map as_caller (live_thread w tid) → marked_turn w ≡ []
unfolding go_on
turned-none w tid later marks none = ap (marked_turn_by w) marks ∙ at (live_thread w tid) none
  where
    at : (o : Option ThreadRow) → None ≡ option_map as_caller o
        → given o (λ t. given (wait_of w tid) (λ x. given (raised_in x) (λ r. goes_on t x r (behind_chance w x.process r.handled r.chance) w))) ≡ []
    at None none = refl
    at (Some t) none = absurd (cc)

pub turned-still : (w : World) (tid : ℕ) (later : List ℕ) → w.marks ≡ tid ∷ later → None ≡ option_and_then raised_in (wait_of w tid) → marked_turn w ≡ []
unfolding go_on
turned-still w tid later marks none = ap (marked_turn_by w) marks ∙ at (live_thread w tid)
  where
    by_raised : (t : ThreadRow) (x : WaitRow) (o : Option Raised) → None ≡ o → given o (λ r. goes_on t x r (behind_chance w x.process r.handled r.chance) w) ≡ []
    by_raised t x None none = refl
    by_raised t x (Some r) none = absurd (cc)

    by_wait : (t : ThreadRow) (o : Option WaitRow) → None ≡ option_and_then raised_in o
        → given o (λ x. given (raised_in x) (λ r. goes_on t x r (behind_chance w x.process r.handled r.chance) w)) ≡ []
    by_wait t None none = refl
    by_wait t (Some x) none = by_raised t x (raised_in x) none

    at : (o : Option ThreadRow) → given o (λ t. given (wait_of w tid) (λ x. given (raised_in x) (λ r. goes_on t x r (behind_chance w x.process r.handled r.chance) w))) ≡ []
    at None = refl
    at (Some t) = by_wait t (wait_of w tid) none

-- Where an event is sent stays as it is where a wait ends
port-same : (w : World) (tid : ℕ) (b : Birth) → port_of (left_by tid w) b ≡ port_of w b
unfolding port_of
port-same w tid b = refl

pub heard-kept : (old new : Kept) (tid : ℕ) (h : Hears) → new.rows ≡ left_by tid old.rows → new.births ≡ old.births → IsHeard old h → IsHeard new h
heard-kept old new tid h rows births is = record {
  port = ap (λ (n : Births). stands n.ports h.port) births ∙ is.port;
  queue = ap (λ (n : Births). stands n.ports h.queue) births ∙ is.queue;
  name =
      (λ i. let p = port_of (rows i) (name_of (births i).ports h.port) in p.birth)
      ∙ ap (λ (p : PortRow). p.birth) (port-same old.rows tid (name_of old.births.ports h.port))
      ∙ is.name
      ∙ sym (ap (λ (n : Births). name_of n.ports h.port) births);
}

pub hearing-kept : (old new : Kept) (tid : ℕ) (h : Hears) → new.rows ≡ left_by tid old.rows → new.births ≡ old.births → shown_hearing new h ≡ shown_hearing old h
hearing-kept old new tid h rows births =
    (λ i. record { chance = shown_chance h.chance; port = port_of (rows i) (name_of (births i).ports h.port); queue = name_of (births i).ports h.queue })
    ∙ (λ i. record { chance = shown_chance h.chance; port = port-same old.rows tid (name_of old.births.ports h.port) i; queue = name_of old.births.ports h.queue })
