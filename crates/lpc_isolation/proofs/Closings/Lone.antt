-- A thread waits once: so a wait that a group doesn't see leaves nothing of its thread's in the group's view.
use Rattle.std.proofs.Common.{◌≡◌, ◌≤◌, ℕ, suc, List, [], ◌∷◌, Bool, true, false, not, Option, Some, None, refl, ap, sym, subst, ◌∙◌, arith}
use Rattle.std.specs.Prelude.{◌&&◌, ◌||◌, ◌==◌}
use Rattle.std.proofs.lemmas.Bool.{and_from, eqb-true, not-true}
use Rattle.lpc_base.specs.Rows.{count, every, first, has, passes, which}
use Rattle.lpc_base.proofs.RowWords.{every-more, every-which, first-passes}
use Rattle.lpc_base.proofs.RowMaps.{every-both, every-first}
use Rattle.lpc_base.proofs.Bools.{first-true, number-turned, same-number, second-true}
use Rattle.lpc_model.specs.Message.{asks}
use Rattle.lpc_model.specs.World.{MessageRow, WaitRow, World}
use Rattle.lpc_model.specs.Found.{is_offered, is_own_of, is_asking, wait_of, waits_as}
use Rattle.lpc_model.specs.Circle.{Group, owner}
use Rattle.lpc_model.proofs.Steps.Rows.{has-found}
use Rattle.lpc_isolation.proofs.Views.View.{of_birth, our_message, our_wait, view}
use Rattle.lpc_isolation.proofs.Views.Filters.{first-kept}
use Rattle.lpc_isolation.proofs.Views.Basics.{sees_own, sees_wait}
use Rattle.lpc_isolation.proofs.Rows.Fair.{is_fair_message, is_sent, sent-owner, together}
use Rattle.lpc_isolation.proofs.Views.Apart.{is_owned, owned-by}
use Rattle.lpc_isolation.proofs.Memory.Heard.{takes_any}
use Rattle.lpc_isolation.proofs.Memory.Calls.{none-takes}
use Rattle.lpc_isolation.proofs.Rows.Asked.{asks_of, found-some, has_own, is_own, is_quiet, is_settled, sender_of}
use Rattle.lpc_isolation.proofs.Closings.Mild.{Sure}

-- the other waits of a thread
none-other : (t : ℕ) (ws : List WaitRow) → count (waits_as t) ws ≤ 0 → every (λ y. not (waits_as t y)) ws ≡ true
none-other t [] few = refl
none-other t (w ∷ ws) few = grind (arith, none-other t ws)

others-pass : (q : WaitRow → Bool) (t : ℕ) (ws : List WaitRow) → count (waits_as t) ws ≤ 0 → every (λ y. not (waits_as t y) || q y) ws ≡ true
others-pass q t ws few = every-more (λ y. not (waits_as t y)) (λ y. not (waits_as t y) || q y) (λ y off. grind arith) ws (none-other t ws few)

tail-count : (y : WaitRow) (ys : List WaitRow) → ((t : ℕ) → count (waits_as t) (y ∷ ys) ≤ 1) → count (waits_as y.thread) ys ≤ 0
tail-count y ys few = let self = same-number y.thread in let it = few y.thread in last (rw self at it)
  where
    last : suc (count (waits_as y.thread) ys) ≤ 1 → count (waits_as y.thread) ys ≤ 0
    last is = least (count (waits_as y.thread) ys) is
      where
        least : (n : ℕ) → suc n ≤ 1 → n ≤ 0
        least n is = omega (arith, is)

tail-few : (y : WaitRow) (ys : List WaitRow) → ((t : ℕ) → count (waits_as t) (y ∷ ys) ≤ 1) → (t : ℕ) → count (waits_as t) ys ≤ 1
tail-few y ys few t = at (waits_as t y) refl (few t)
  where
    less : (n : ℕ) → suc n ≤ 1 → n ≤ 1
    less n is = omega (arith, is)

    at : (b : Bool) → waits_as t y ≡ b → count (waits_as t) (y ∷ ys) ≤ 1 → count (waits_as t) ys ≤ 1
    at true is it = less (count (waits_as t) ys) (rw is at it)
    at false is it = rw is at it

-- where each thread waits once, what passes of a wait passes of each wait of its thread
abbrev pub passes_all : (WaitRow → Bool) → List WaitRow → WaitRow → Bool
passes_all q ws x = not (q x) || every (λ y. not (waits_as x.thread y) || q y) ws

pub each-lone : (q : WaitRow → Bool) (ws : List WaitRow) → ((t : ℕ) → count (waits_as t) ws ≤ 1) → every (passes_all q ws) ws ≡ true
each-lone q [] few = refl
each-lone q (y ∷ ys) few = and_from _ _ (head (q y) refl) (rest ys (none-other y.thread ys (tail-count y ys few)) (each-lone q ys (tail-few y ys few)))
  where
    head : (b : Bool) → q y ≡ b → (not b || every (λ z. not (waits_as y.thread z) || q z) (y ∷ ys)) ≡ true
    head true is = and_from _ _ (rw is (grind arith)) (others-pass q y.thread ys (tail-count y ys few))
    head false off = refl

    one : (x : WaitRow) → not (waits_as y.thread x) ≡ true → passes_all q ys x ≡ true → passes_all q (y ∷ ys) x ≡ true
    one x other is = let off : (y.thread == x.thread) ≡ false = number-turned y.thread x.thread ∙ not-true (x.thread == y.thread) other in rw off is

    rest : (xs : List WaitRow) → every (λ x. not (waits_as y.thread x)) xs ≡ true → every (passes_all q ys) xs ≡ true → every (passes_all q (y ∷ ys)) xs ≡ true
    rest xs others all = every-both (λ x. not (waits_as y.thread x)) (passes_all q ys) (passes_all q (y ∷ ys)) one xs others all

-- A wait that isn't seen
unseen-thread : (k : WaitRow → Bool) (t : ℕ) (ws : List WaitRow) → every (λ y. not (waits_as t y) || not (k y)) ws ≡ true → has (waits_as t) (which k ws) ≡ false
unseen-thread k t [] all = refl
unseen-thread k t (y ∷ ys) all = grind (arith, unseen-thread k t ys)

-- a message of a thread's that is seen and asks has its wait in the view
pub own-seen : (m : Group) (c : ℕ) (u w : World) (t : ℕ) → Sure m c u w → sees_wait m w t ≡ false → sees_own m w t ≡ false
own-seen m c u w t s unseen = at (first (is_own_of t) (which (our_message m) w.messages)) refl
  where
    fits : MessageRow → Bool
    fits = λ y. our_message m y && (is_fair_message m c y && (is_sent w.used_threads y && has_own w.waits y))

    ours : (k : MessageRow → Bool) (ys : List MessageRow) → every k (which k ys) ≡ true
    ours k [] = refl
    ours k (y ∷ ys) = grind (arith, ours k ys)

    all : every fits (which (our_message m) w.messages) ≡ true
    all = every-both (our_message m) (λ y. is_fair_message m c y && (is_sent w.used_threads y && has_own w.waits y)) fits (λ y a b. and_from _ _ a b) (which (our_message m) w.messages) (ours (our_message m) w.messages)
        (every-which (λ y. is_fair_message m c y && (is_sent w.used_threads y && has_own w.waits y)) (our_message m) w.messages
        (every-both (is_fair_message m c) (λ y. is_sent w.used_threads y && has_own w.waits y) _ (λ y a b. and_from _ _ a b) w.messages s.fair.messages
        (every-both (is_sent w.used_threads) (has_own w.waits) _ (λ y a b. and_from _ _ a b) w.messages s.fair.senders s.asked.own)))

    wait : (y : MessageRow) → fits y ≡ true → is_own_of t y ≡ true → (o : Option WaitRow) → first (is_own y) w.waits ≡ o → ⊥
    wait y fit own None none =
        let here : has_own w.waits y ≡ true = second-true (is_sent w.used_threads y) _ (second-true (is_fair_message m c y) _ (second-true (our_message m y) _ fit)) in
        let off : (not (asks y.message) || false) ≡ true = rw none at here in
        let on : asks y.message ≡ true = first-true _ _ own in
        let never : false ≡ true = rw on at off in cc
    wait y fit own (Some z) some =
        let passed = first-passes (is_own y) w.waits z some in
        let its : z.thread ≡ sender_of y = eqb-true _ _ (first-true _ _ passed) in
        let sent : is_sent w.used_threads y ≡ true = first-true _ _ (second-true (is_fair_message m c y) _ (second-true (our_message m y) _ fit)) in
        let here : owner u z.thread ≡ Some y.message.header.client.process = ap (owner u) its ∙ rw s.used (sent-owner w y sent) in
        let process : y.message.header.client.process ≡ z.process = owned-by u z y.message.header.client.process here (every-first (is_owned u) (is_own y) w.waits z s.owned some) in
        let fair : is_fair_message m c y ≡ true = first-true _ _ (second-true (our_message m y) _ fit) in
        let sender : m y.message.header.client.process ≡ m y.sender.process = together m _ _ (first-true _ _ fair) in
        let z_in : m z.process ≡ true = ap m (sym process) ∙ sender ∙ first-true _ _ (first-true (our_message m y) _ fit) in
        let q_in : m z.queue.process ≡ true = of_birth m z.queue y.queue (first-true _ _ (second-true _ _ passed)) ∙ second-true _ _ (first-true (our_message m y) _ fit) in
        let seen : first (is_own y) (which (our_wait m) w.waits) ≡ Some z = first-kept (our_wait m) (is_own y) w.waits z some (and_from _ _ z_in q_in) in
        let thread : waits_as t z ≡ true = rw its (second-true (asks y.message) _ own) in
        let there : sees_wait m w t ≡ true = has-found (waits_as t) (is_own y) (which (our_wait m) w.waits) z seen thread in cc

    at : (o : Option MessageRow) → first (is_own_of t) (which (our_message m) w.messages) ≡ o → sees_own m w t ≡ false
    at None none = rw none refl
    at (Some y) some = absurd (wait y (every-first fits (is_own_of t) (which (our_message m) w.messages) y all some) (first-passes (is_own_of t) (which (our_message m) w.messages) y some) (first (is_own y) w.waits) refl)

-- a wait is in the view, or nothing of its thread's is
abbrev pub is_lone : Group → World → WaitRow → Bool
is_lone m w x = our_wait m x || (not (sees_wait m w x.thread) && not (sees_own m w x.thread))

pub lone-all : (m : Group) (c : ℕ) (u w : World) → Sure m c u w → every (is_lone m w) w.waits ≡ true
lone-all m c u w s = every-more (passes_all (λ x. not (our_wait m x)) w.waits) (is_lone m w) (λ x all. at x (our_wait m x) refl all) w.waits (each-lone (λ x. not (our_wait m x)) w.waits s.once)
  where
    at : (x : WaitRow) (b : Bool) → our_wait m x ≡ b → passes_all (λ x. not (our_wait m x)) w.waits x ≡ true → is_lone m w x ≡ true
    at x true ours all = rw ours refl
    at x false out all =
        let others : every (λ y. not (waits_as x.thread y) || not (our_wait m y)) w.waits ≡ true = rw out at all in
        let none : sees_wait m w x.thread ≡ false = unseen-thread (our_wait m) x.thread w.waits others in
        rw (none, own-seen m c u w x.thread s none) (grind arith)

-- a wait that isn't seen, or isn't for messages, tells of no message
abbrev pub is_mute : Group → World → WaitRow → Bool
is_mute m w x = not (passes (wait_of (view m w) x.thread) takes_any)

pub mute-all : (m : Group) (c : ℕ) (u w : World) → Sure m c u w → every (λ x. (our_wait m x && takes_any x) || is_mute m w x) w.waits ≡ true
mute-all m c u w s = every-both (passes_all (λ x. not (takes_any x)) w.waits) (is_lone m w) (λ x. (our_wait m x && takes_any x) || is_mute m w x) (λ x all lone. at x (our_wait m x) (takes_any x) refl refl all lone) w.waits (each-lone (λ x. not (takes_any x)) w.waits s.once) (lone-all m c u w s)
  where
    no-wait : (t : ℕ) (ws : List WaitRow) → has (waits_as t) ws ≡ false → not (passes (first (waits_as t) ws) takes_any) ≡ true
    no-wait t [] none = refl
    no-wait t (y ∷ ys) none = grind (arith, no-wait t ys)

    at : (x : WaitRow) (b t : Bool) → our_wait m x ≡ b → takes_any x ≡ t → passes_all (λ x. not (takes_any x)) w.waits x ≡ true → is_lone m w x ≡ true → ((our_wait m x && takes_any x) || is_mute m w x) ≡ true
    at x true true ours takes all lone = rw (ours, takes) refl
    at x b false ours off all lone =
        let others : every (λ y. not (waits_as x.thread y) || not (takes_any y)) w.waits ≡ true = rw off at all in
        let mute : is_mute m w x ≡ true = none-takes (our_wait m) (waits_as x.thread) takes_any w.waits others in
        rw (off, mute) (grind arith)
    at x false true out takes all lone =
        let none : sees_wait m w x.thread ≡ false = let both_off : (false || (not (sees_wait m w x.thread) && not (sees_own m w x.thread))) ≡ true = rw out at lone in grind arith in
        rw (out, no-wait x.thread (which (our_wait m) w.waits) none) refl

-- a wait whose message was received, or that has none, has none of its thread's that asks
pub quiet-all : (m : Group) (c : ℕ) (u w : World) → Sure m c u w → every (λ x. not (is_settled x) || is_quiet w.messages x.thread) w.waits ≡ true
quiet-all m c u w s = every-more (passes_all is_settled w.waits) (λ x. not (is_settled x) || is_quiet w.messages x.thread) (λ x all. at x (is_settled x) refl all) w.waits (each-lone is_settled w.waits s.once)
  where
    own : (x : WaitRow) → every (λ y. not (waits_as x.thread y) || is_settled y) w.waits ≡ true → (y : MessageRow) → first (asks_of x.thread) w.messages ≡ Some y → (o : Option WaitRow) → first (is_own y) w.waits ≡ o → ⊥
    own x all y at None none =
        let here : has_own w.waits y ≡ true = every-first (has_own w.waits) (asks_of x.thread) w.messages y s.asked.own at in
        let off : (not (asks y.message) || false) ≡ true = rw none at here in
        let on : asks y.message ≡ true = first-true _ _ (first-passes (asks_of x.thread) w.messages y at) in
        let never : false ≡ true = rw on at off in cc
    own x all y at (Some z) some =
        let passed = first-passes (is_own y) w.waits z some in
        let sender : sender_of y ≡ x.thread = eqb-true _ _ (second-true _ _ (first-passes (asks_of x.thread) w.messages y at)) in
        let thread : waits_as x.thread z ≡ true = subst (λ t. (z.thread == t) ≡ true) sender (first-true _ _ passed) in
        let rest : (not (waits_as x.thread z) || is_settled z) ≡ true = every-first (λ y. not (waits_as x.thread y) || is_settled y) (is_own y) w.waits z all some in
        let settled : is_settled z ≡ true = grind arith in
        let open_ : (not z.received && (is_asking z || is_offered z)) ≡ true = second-true _ _ (second-true _ _ passed) in
        unsettled z.received (is_asking z || is_offered z) settled open_
      where
        unsettled : (a b : Bool) → (a || not b) ≡ true → (not a && b) ≡ true → ⊥
        unsettled true b is it = cc
        unsettled false true is it = cc
        unsettled false false is it = cc

    at : (x : WaitRow) (b : Bool) → is_settled x ≡ b → passes_all is_settled w.waits x ≡ true → (not (is_settled x) || is_quiet w.messages x.thread) ≡ true
    at x false off all = rw off refl
    at x true is all =
        let others : every (λ y. not (waits_as x.thread y) || is_settled y) w.waits ≡ true = rw is at all in
        let quiet : is_quiet w.messages x.thread ≡ true = found-some (asks_of x.thread) w.messages (first (asks_of x.thread) w.messages) refl (λ y here. own x others y here (first (is_own y) w.waits) refl) in
        rw quiet (grind arith)
