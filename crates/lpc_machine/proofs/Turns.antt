-- What the turns of settling leave, one behind the other, is what settling leaves.
use Rattle.std.proofs.Common.{◌≡◌, ◌∙◌, ℕ, zero, suc, ◌*◌, ◌≤◌, List, [], ◌∷◌, ◌++◌, Bool, true, Option, Some, None, refl, sym, ap, subst, arith}
use Rattle.std.specs.Prelude.{◌<◌, is_some, option_map}
use Rattle.std.proofs.lemmas.List.{append-nil}
use Rattle.lpc_base.specs.Rows.{every}
use Rattle.lpc_base.proofs.Bools.{first-true}
use Rattle.lpc_model.specs.declared.entry.Entry.{Entry}
use Rattle.lpc_model.specs.World.{ProcessRow, World}
use Rattle.lpc_model.specs.Basics.{Basic, Steps, world_after}
use Rattle.lpc_model.specs.Raise.{go_on}
use Rattle.lpc_model.specs.Listed.{Listed}
use Rattle.lpc_model.specs.Lines.{ScriptLine}
use Rattle.lpc_model.specs.Machine.{bare_steps, own_steps}
use Rattle.lpc_model.specs.Settle.{and_then_on, doomed_processes, end_doomed, has_event, least, most_turns, settle, turn, turn_by, turns}
use Rattle.lpc_model.proofs.Settling.Settled.{IsReady, doomed-lower, found-event, on-found, turn-ready}
use Rattle.lpc_model.proofs.Settling.Turns.{few, measure, on-lower}
use Rattle.lpc_rows.specs.Does.{Left, Took, left_by}
use Rattle.lpc_rows.specs.Kept.{CALL_BUDGET, CanMake, Kept}
use Rattle.lpc_steps.proofs.Composed.{left-append, left_further, took-then}

-- each turn lowers the measure
first-marked : (w : World) (tid : ℕ) (later : List ℕ) → w.marks ≡ tid ∷ later → IsReady w → has_event w tid ≡ true
first-marked w tid later some ready = let all = subst (λ ms. every (has_event w) ms ≡ true) some ready.marked in first-true (has_event w tid) (every (has_event w) later) all

pub goes-lower : (w : World) (tid : ℕ) (later : List ℕ) → w.marks ≡ tid ∷ later → IsReady w → measure (world_after w (go_on tid w)) < measure w
goes-lower w tid later some ready =
    let f = found-event w tid (first-marked w tid later some ready) ready.safe.sound in
    on-found (λ cs. measure (world_after w cs) < measure w) w tid f.t f.x f.r f.goes (on-lower w tid f.t f.x f.r f.goes)

pub turn-lower : (w : World) (bs : List Basic) → turn w ≡ Some bs → IsReady w → measure (world_after w bs) < measure w
turn-lower w bs is ready = at w.marks refl is
  where
    by_process : (o : Option ProcessRow) → least (doomed_processes w) ≡ o → option_map (λ p. end_doomed p w) o ≡ Some bs → measure (world_after w bs) < measure w
    by_process None none is = absurd (cc)
    by_process (Some p) some is = let same : end_doomed p w ≡ bs = cc in subst (λ cs. measure (world_after w cs) < measure w) same (doomed-lower w p some)

    at : (ms : List ℕ) → w.marks ≡ ms → turn_by w ms ≡ Some bs → measure (world_after w bs) < measure w
    at [] none is = by_process (least (doomed_processes w)) refl is
    at (tid ∷ later) some is = let same : go_on tid w ≡ bs = cc in subst (λ cs. measure (world_after w cs) < measure w) same (goes-lower w tid later some ready)

-- more turns than are due do nothing more
idle : (n : ℕ) (w : World) → turn w ≡ None → turns n w ≡ []
idle zero w none = refl
idle (suc n) w none = ap (λ o. and_then_on w o (turns n)) none

less : (m k n : ℕ) → m < k → k ≤ suc n → m ≤ n
less m k n one two = omega (arith, one, two)

never : (m k : ℕ) → m < k → k ≤ zero → ⊥
never m k one two = omega (arith, one, two)

enough : (n k : ℕ) (w : World) → measure w ≤ n → measure w ≤ k → IsReady w → turns n w ≡ turns k w
enough zero k w few more ready = at (turn w) refl
  where
    at : (o : Option (List Basic)) → turn w ≡ o → [] ≡ turns k w
    at None none = sym (idle k w none)
    at (Some bs) some = absurd (never (measure (world_after w bs)) (measure w) (turn-lower w bs some ready) few)
enough (suc n) zero w few more ready = at (turn w) refl
  where
    at : (o : Option (List Basic)) → turn w ≡ o → and_then_on w (turn w) (turns n) ≡ []
    at None none = ap (λ o. and_then_on w o (turns n)) none
    at (Some bs) some = absurd (never (measure (world_after w bs)) (measure w) (turn-lower w bs some ready) more)
enough (suc n) (suc k) w few more ready = at (turn w) refl (λ v. enough n k v)
  where
    at : (o : Option (List Basic)) → turn w ≡ o → ((v : World) → measure v ≤ n → measure v ≤ k → IsReady v → turns n v ≡ turns k v) → and_then_on w o (turns n) ≡ and_then_on w o (turns k)
    at None none later = refl
    at (Some bs) some later =
        let v = world_after w bs in
        let lower = turn-lower w bs some ready in
        ap (λ cs. bs ++ cs) (later v (less (measure v) (measure w) n lower few) (less (measure v) (measure w) k lower more) (turn-ready w bs some ready))

-- settling is the turn that is due, and then the settling of what it leaves
pub settle-turn : (w : World) (bs : List Basic) → turn w ≡ Some bs → IsReady w → settle w ≡ bs ++ settle (world_after w bs)
unfolding settle
settle-turn w bs some ready =
    let v = world_after w bs in
    let lower = turn-lower w bs some ready in
    at v (most_turns w) (few w) lower (few v) (turn-ready w bs some ready) (λ later. ap (λ o. and_then_on w o later) some)
  where
    at : (v : World) (n : ℕ) → measure w ≤ n → measure v < measure w → measure v ≤ most_turns v → IsReady v → ((later : Steps) → and_then_on w (turn w) later ≡ bs ++ later v) → turns n w ≡ bs ++ turns (most_turns v) v
    at v zero most lower enough_turns next goes = absurd (never (measure v) (measure w) lower most)
    at v (suc n) most lower enough_turns next goes =
        goes (turns n) ∙ ap (λ cs. bs ++ cs) (enough n (most_turns v) v (less (measure v) (measure w) n lower most) enough_turns next)

-- and nothing where none is due
pub settle-none : (w : World) → turn w ≡ None → settle w ≡ []
unfolding settle
settle-none w none = idle (most_turns w) w none

-- What is left
-- behind a turn, what is left to be settled leaves what all of it leaves
pub left-turn : (w : World) (es : List Entry) (loose : Bool) (bs : List Basic) (l : Left) → turn w ≡ Some bs → IsReady w → l ≡ left_by w es loose bs → left_further l settle ≡ left_by w es loose (settle w)
left-turn w es loose bs l some ready took =
    ap (λ (l : Left). left_further l settle) took
    ∙ (left-append w es loose bs (settle (world_after w bs)) ∙ ap (λ cs. left_by w es loose cs) (sym (settle-turn w bs some ready)))

pub left-none : (w : World) (es : List Entry) (loose : Bool) → turn w ≡ None → (let l : Left = record { world = w; entries = es; loose = loose } in l ≡ left_by w es loose (settle w))
left-none w es loose none = rw (settle-none w none, append-nil es) refl

-- a line's own steps, and then what settles
pub took-bare : (line : ScriptLine) (old mid new : Kept) (before between after : Listed) → Took (own_steps line old.rows) old mid before between → Took (settle mid.rows) mid new between after → Took (bare_steps line old.rows) old new before after
unfolding bare_steps
took-bare line old mid new before between after one two = took-then (own_steps line) settle old mid new before between after one two

-- the budget is kept, where a turn makes nothing but what is owed
pub budget-on : (v w : Kept) → v.calls ≡ w.calls → v.made ≤ w.made → CanMake w → CanMake v
budget-on v w same few can = less_on v.made w.made (CALL_BUDGET * w.calls) (CALL_BUDGET * v.calls) few can (ap (λ n. CALL_BUDGET * n) same)
  where
    less_on : (a b c d : ℕ) → a ≤ b → b < c → d ≡ c → a < d
    less_on a b c d one two three = omega (arith, one, two, three)

-- where a turn is due, and none is
pub due-some : {A : Type 0} (o : Option A) (a : A) → o ≡ Some a → is_some o ≡ true
due-some o a is = ap is_some is
