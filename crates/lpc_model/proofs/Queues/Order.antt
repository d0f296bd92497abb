-- Queues are lists, first in, first out; who has waited longest takes.
use Rattle.std.proofs.Common.{◌≡◌, List, [], ◌∷◌, ◌++◌, Bool, true, false, refl, arith}
use Rattle.std.specs.Prelude.{◌&&◌, ◌||◌}
use Rattle.std.proofs.lemmas.Bool.Decides.{nat_tests}
use Rattle.lpc_base.specs.Rows.{first, when, which, without_first}
use Rattle.lpc_model.specs.World.{Birth, MessageRow, WaitRow}
use Rattle.lpc_model.specs.Found.{is_listen, is_queued, is_receive, is_waiter_on, same_birth}
use Rattle.lpc_model.specs.Message.{is_connection_request}
use Rattle.lpc_model.specs.Entering.{takes}
use Rattle.lpc_model.specs.Queues.{FirstWaiterTakes, QueuesAreFirstInFirstOut, head, rest}

first-head : {X : Type 0} (p : X → Bool) (xs : List X) → first p xs ≡ head (which p xs)
first-head p [] = refl
first-head p (x ∷ xs) = grind (arith, first-head p xs)

taken-rest : {X : Type 0} (p : X → Bool) (xs : List X) → which p (without_first p xs) ≡ rest (which p xs)
taken-rest p [] = refl
taken-rest p (x ∷ xs) = at (p x) refl (taken-rest p xs)
  where
    at : (c : Bool) → p x ≡ c → which p (without_first p xs) ≡ rest (which p xs) → which p (without_first p (x ∷ xs)) ≡ rest (which p (x ∷ xs))
    at true is later = rw is refl
    at false is later = grind arith

taken-other : {X : Type 0} (p q : X → Bool) → ((x : X) → p x ≡ true → q x ≡ false) → (xs : List X) → which q (without_first p xs) ≡ which q xs
taken-other p q apart [] = refl
taken-other p q apart (x ∷ xs) = grind (arith, apart x, taken-other p q apart xs)

entered-last : {X : Type 0} (p : X → Bool) (xs : List X) (y : X) → which p (xs ++ y ∷ []) ≡ which p xs ++ when (p y) (y ∷ [])
entered-last p [] y = grind arith
entered-last p (x ∷ xs) y = grind (arith, entered-last p xs y)

other-queue : (a b : Birth) (m : MessageRow) → same_birth a b ≡ false → is_queued a m ≡ true → is_queued b m ≡ false
other-queue a b m off is = grind (arith, nat_tests)

pub first_in_first_out : QueuesAreFirstInFirstOut
first_in_first_out w queue = record {
  oldest = first-head (is_queued queue) w.messages;
  taken = taken-rest (is_queued queue) w.messages;
  others = λ other off. taken-other (is_queued queue) (is_queued other) (λ m is. other-queue queue other m off is) w.messages;
  entered = λ m. entered-last (is_queued queue) w.messages m;
}

-- who is found by a test is found among those that pass a weaker one
first-which : {X : Type 0} (p q : X → Bool) → ((x : X) → p x ≡ true → q x ≡ true) → (xs : List X) → first p xs ≡ first p (which q xs)
first-which p q more [] = refl
first-which p q more (x ∷ xs) = grind (arith, more x, first-which p q more xs)

waits-there : (m : MessageRow) (x : WaitRow) → takes m x ≡ true → is_waiter_on m.queue x ≡ true
waits-there m x is = at (is_receive x) (is_listen x) (is_connection_request m.message) (same_birth x.queue m.queue) is
  where
    at : (r l c q : Bool) → ((r || (l && c)) && q) ≡ true → ((r || l) && q) ≡ true
    at r l c q is = grind arith

pub first_waiter_takes : FirstWaiterTakes
first_waiter_takes w m = first-which (takes m) (is_waiter_on m.queue) (waits-there m) w.waits
