-- What all steps of settling are: they make nothing but waits for events, and change no bytes.
use Rattle.std.proofs.Common.{◌≡◌, ℕ, List, [], ◌∷◌, ◌++◌, Bool, true, false, not, refl, ap, ◌∙◌, arith}
use Rattle.std.specs.Prelude.{◌||◌}
use Rattle.lpc_base.specs.Rows.{every}
use Rattle.lpc_base.proofs.Bools.{first-true, second-true}
use Rattle.lpc_base.proofs.RowWords.{every-append, every-change, every-more, every-push, every-without}
use Rattle.lpc_model.specs.World.{Birth, ProcessRow, Raised, ThreadRow, WaitRow, World}
use Rattle.lpc_model.specs.Found.{is_event, is_offered, live_threads, waits_as, waits_at}
use Rattle.lpc_model.specs.Basics.{Accepts, Acts, AddsSection, AddsThread, Awaits, Basic, Binds, Dies, Dooms, DrawsIdentifier, Frees, Leaves, Maps, Receives, Unbinds, Wakes, Writes, basic, first_code, received, world_after}
use Rattle.lpc_model.specs.Death.{code_status}
use Rattle.lpc_model.specs.Entering.{enter}
use Rattle.lpc_model.specs.Raise.{Handled, Heard, Next, Unhandled, behind_chance, event_begun, go_on, goes_on}
use Rattle.lpc_model.specs.Settle.{end_doomed, settle}
use Rattle.lpc_model.specs.Circle.{Group, gave, given_in}
use Rattle.lpc_model.proofs.Calls.Raising.{on-holds}
use Rattle.lpc_model.proofs.Settling.Loop.{settle-holds}
use Rattle.lpc_model.proofs.Sound.Worlds.{by_kind}
use Rattle.lpc_isolation.proofs.Each.Raises.{event_row}
use Rattle.lpc_isolation.proofs.Owed.Mapped.{is_known_offer, is_known_step}
use Rattle.lpc_isolation.proofs.Rows.Bound.{OnceBound, once-unbound}
use Rattle.lpc_isolation.proofs.Closings.Mild.{is_mild}
use Rattle.lpc_isolation.proofs.Endings.Threads.{ends-mild}
use Rattle.lpc_isolation.proofs.Endings.Lasting.{enter-lasting, is_lasting, mild-lasting}

abbrev pub is_settling : Basic → Bool
is_settling (Leaves who) = true
is_settling (DrawsIdentifier who) = true
is_settling (Awaits x) = is_event x
is_settling (Dooms pid code) = true
is_settling b = is_lasting b

abbrev pub AreSettling : List Basic → Type 0
AreSettling bs = every is_settling bs ≡ true

pub lasting-settling : (b : Basic) → is_lasting b ≡ true → is_settling b ≡ true
lasting-settling (Leaves who) is = refl
lasting-settling (DrawsIdentifier who) is = refl
lasting-settling (Awaits x) is = absurd (cc)
lasting-settling (Dooms pid code) is = refl
lasting-settling b is = is

pub goes-settling : (w : World) (tid : ℕ) (t : ThreadRow) (x : WaitRow) (r : Raised) → AreSettling (goes_on t x r (behind_chance w x.process r.handled r.chance) w)
goes-settling w tid t x r = at (behind_chance w x.process r.handled r.chance)
  where
    at : (n : Next) → AreSettling (goes_on t x r n w)
    at Handled = refl
    at Unhandled = refl
    at (Heard h) =
        let v : World = world_after w (Leaves x.thread ∷ event_begun t r.code r.handled h) in
        every-more is_lasting is_settling lasting-settling (enter (event_row t r.code h) v) (enter-lasting (event_row t r.code h) v)

pub on-settling : (w : World) (tid : ℕ) → AreSettling (go_on tid w)
on-settling w tid = on-holds AreSettling w tid refl (λ t x r g. goes-settling w tid t x r)

pub doomed-settling : (w : World) (p : ProcessRow) → AreSettling (end_doomed p w)
unfolding end_doomed
doomed-settling w p =
    every-more is_lasting is_settling lasting-settling (end_doomed p w)
    (every-more is_mild is_lasting mild-lasting (end_doomed p w) (ends-mild p.number (code_status (first_code 0 p.doom)) (live_threads w p.number) w))

pub settle-settling : (w : World) → AreSettling (settle w)
settle-settling w = settle-holds (λ _. Unit {0}) (λ w bs. AreSettling bs) (λ w. refl) (λ w bs cs one two. every-append is_settling bs cs one two) (λ w bs is _. tt) (λ w tid later some _. on-settling w tid) (λ w p some _. doomed-settling w p) w tt

-- Bytes
step-contents : (w : World) (b : Basic) → is_settling b ≡ true → (basic w b).contents ≡ w.contents
step-contents w (AddsSection s) ok = absurd (cc)
step-contents w (Writes b place new) ok = absurd (cc)
step-contents w (Frees o) ok = absurd (cc)
step-contents w b ok = refl

pub settling-contents : (w : World) (bs : List Basic) → AreSettling bs → (world_after w bs).contents ≡ w.contents
settling-contents w [] ok = refl
settling-contents w (b ∷ bs) ok = settling-contents (basic w b) bs (second-true (is_settling b) _ ok) ∙ step-contents w b (first-true _ _ ok)

-- Numbers that were used
step-used : (w : World) (b : Basic) → is_settling b ≡ true → (basic w b).used_threads ≡ w.used_threads
step-used w (AddsThread t) ok = absurd (cc)
step-used w (Frees o) ok = absurd (cc)
step-used w b ok = refl

pub settling-used : (w : World) (bs : List Basic) → AreSettling bs → (world_after w bs).used_threads ≡ w.used_threads
settling-used w [] ok = refl
settling-used w (b ∷ bs) ok = settling-used (basic w b) bs (second-true (is_settling b) _ ok) ∙ step-used w b (first-true _ _ ok)

-- Names
step-bound : (w : World) (b : Basic) → is_settling b ≡ true → OnceBound w.bindings → OnceBound (basic w b).bindings
step-bound w (Binds path node) ok once = absurd (cc)
step-bound w (Frees o) ok once = absurd (cc)
step-bound w (Unbinds b) ok once = once-unbound w.bindings b once
step-bound w b ok once = once

pub settling-bound : (w : World) (bs : List Basic) → AreSettling bs → OnceBound w.bindings → OnceBound (world_after w bs).bindings
settling-bound w [] ok once = once
settling-bound w (b ∷ bs) ok once = settling-bound (basic w b) bs (second-true (is_settling b) _ ok) (step-bound w b (first-true _ _ ok) once)

-- Tokens that are given
pub settling-gives : (bs : List Basic) → AreSettling bs → given_in bs ≡ []
settling-gives [] ok = refl
settling-gives (Acts who own ∷ bs) ok = absurd (cc)
settling-gives (b ∷ bs) ok = settling-gives bs (second-true (is_settling b) _ ok)

pub given-append : (bs cs : List Basic) → given_in cs ≡ [] → given_in (bs ++ cs) ≡ given_in bs
given-append [] cs none = none
given-append (b ∷ bs) cs none = ap (λ gs. gave b ++ gs) (given-append bs cs none)

-- Views, and what connects offer
event-offers : (m : Group) (outer : Birth → Bool) (x : WaitRow) → is_event x ≡ true → is_known_offer m outer x ≡ true
event-offers m outer = by_kind (λ x. is_event x ≡ true → is_known_offer m outer x ≡ true) (λ x a is. absurd (cc)) (λ x is. absurd (cc)) (λ x is. absurd (cc)) (λ x a offer is. absurd (cc)) (λ x a reply is. absurd (cc)) (λ x e is. refl)

step-known : (m : Group) (outer : Birth → Bool) (b : Basic) → is_settling b ≡ true → is_known_step m outer b ≡ true
step-known m outer (Maps pid v) ok = absurd (cc)
step-known m outer (Frees o) ok = absurd (cc)
step-known m outer (Awaits x) ok = event-offers m outer x ok
step-known m outer b ok = refl

pub settling-known : (m : Group) (outer : Birth → Bool) (bs : List Basic) → AreSettling bs → every (is_known_step m outer) bs ≡ true
settling-known m outer bs ok = every-more is_settling (is_known_step m outer) (step-known m outer) bs ok

-- A thread of which no connect waits
abbrev pub connects_not : ℕ → WaitRow → Bool
connects_not n x = not (waits_as n x) || not (is_offered x)

pub event-connects : (x : WaitRow) → is_event x ≡ true → is_offered x ≡ false
event-connects = by_kind (λ x. is_event x ≡ true → is_offered x ≡ false) (λ x a is. absurd (cc)) (λ x is. absurd (cc)) (λ x is. absurd (cc)) (λ x a offer is. absurd (cc)) (λ x a reply is. absurd (cc)) (λ x e is. refl)

step-connects : (n : ℕ) (w : World) (b : Basic) → is_settling b ≡ true → every (connects_not n) w.waits ≡ true → every (connects_not n) (basic w b).waits ≡ true
step-connects n w (Wakes who call status fields) ok all = every-without (connects_not n) (waits_as who) w.waits all
step-connects n w (Leaves who) ok all = every-without (connects_not n) (waits_as who) w.waits all
step-connects n w (Dies who status) ok all = every-without (connects_not n) (waits_as who) w.waits all
step-connects n w (Awaits x) ok all = every-push (connects_not n) w.waits x all (rw (event-connects x ok) (grind arith))
step-connects n w (Receives who queue) ok all = every-change (connects_not n) (waits_at who queue) received (λ x is. is) w.waits all
step-connects n w (Accepts who a) ok all = absurd (cc)
step-connects n w (Frees o) ok all = absurd (cc)
step-connects n w b ok all = all

pub settling-connects : (n : ℕ) (w : World) (bs : List Basic) → AreSettling bs → every (connects_not n) w.waits ≡ true → every (connects_not n) (world_after w bs).waits ≡ true
settling-connects n w [] ok all = all
settling-connects n w (b ∷ bs) ok all = settling-connects n (basic w b) bs (second-true (is_settling b) _ ok) (step-connects n w b (first-true _ _ ok) all)
