-- What is left where the messages that pass a test go one after the other.
use Rattle.std.proofs.Common.{◌≡◌, ◌+◌, ◌<◌, ◌||◌, ℕ, List, [], ◌∷◌, Bool, true, false, Option, Some, None, is_some, length, option_map, refl, sym, ap, subst, ◌∙◌, arith, IsSome}
use Rattle.lpc_base.specs.Rows.{count, first, has, without, without_first}
use Rattle.lpc_base.proofs.RowWords.{count-none, without-none}
use Rattle.lpc_slots.specs.Table.{at_key, keys_of}
use Rattle.lpc_slots.specs.Chain.{IsDistinct}
use Rattle.lpc_slots.specs.declared.Key.{Key}
use Rattle.lpc_slots.proofs.Same.{first_stands, without_first_same}
use Rattle.lpc_ports.specs.Table.{PortTable, QueuedMessage, key_of_first, row_at, without_message, without_messages, without_one}
use Rattle.lpc_ports.proofs.Ordered.{all_apart}

module _ {X : Type 0} (test : X → Bool) where
  without-rest : (xs : List X) → without test (without_first test xs) ≡ without test xs
  without-rest [] = refl
  without-rest (x ∷ xs) = grind (arith, without-rest xs)

  count-rest : (xs : List X) → has test xs ≡ true → count test (without_first test xs) + 1 ≡ count test xs
  count-rest [] some = grind arith
  count-rest (x ∷ xs) some = grind (arith, count-rest xs)

  length-rest : (xs : List X) → has test xs ≡ true → length (without_first test xs) < length xs
  length-rest [] some = grind arith
  length-rest (x ∷ xs) some = grind (arith, length-rest xs)

mapped : (o : Option (Key × QueuedMessage)) → is_some (option_map (λ (row : Key × QueuedMessage). row.0) o) ≡ is_some o
mapped None = refl
mapped (Some row) = refl

with-none : (room n : ℕ) → n ≡ 0 → room + n ≡ room
with-none room n none = omega arith

with-one : (room n m : ℕ) → n + 1 ≡ m → (room + 1) + n ≡ room + m
with-one room n m is = omega arith

-- one went, or another one before
pub one_went : (went one all : Bool) → one ≡ true → (went || one) ≡ all → true ≡ all
one_went true one all is some = some
one_went false one all is some = sym is ∙ some

module _ (test : Key × QueuedMessage → Bool) where
  -- a message passes where the first that does has a key
  pub has_key : (rows : List (Key × QueuedMessage)) → is_some (key_of_first test rows) ≡ has test rows
  has_key rows = mapped (first test rows)

  -- where none passes, the table stays
  pub none_goes : (s : PortTable) → has test s.messages ≡ false → without_messages test s ≡ s
  none_goes s none i = record s {
    messages = without-none test s.messages none i;
    message_room = with-none s.message_room (count test s.messages) (count-none test s.messages none) i;
  }

  -- one goes that passes, and then the rest; there are fewer then
  module _ (s new : PortTable) (left : new ≡ without_one test s) (one : has test s.messages ≡ true) where
    rest_goes : without_messages test (without_one test s) ≡ without_messages test s
    rest_goes i = record s {
      messages = without-rest test s.messages i;
      message_room = with-one s.message_room (count test (without_first test s.messages)) (count test s.messages) (count-rest test s.messages one) i;
    }

    pub one_goes : without_messages test new ≡ without_messages test s
    one_goes = ap (without_messages test) left ∙ rest_goes

    pub fewer : length new.messages < length s.messages
    fewer = subst (λ (t : PortTable). length t.messages < length s.messages) (sym left) (length-rest test s.messages one)

  some_mapped : {A B : Type 0} (f : A → B) (o : Option A) → is_some o ≡ true → is_some (option_map f o) ≡ true
  some_mapped f None there = there
  some_mapped f (Some x) there = refl

  -- the first message that passes goes
  pub lost : (s new : PortTable) (key : Key) → IsDistinct (keys_of s.messages) → (IsSome (row_at s.messages key) → new ≡ without_message s key) → key_of_first test s.messages ≡ Some key → new ≡ without_one test s
  lost s new key apart table oldest = table (some_mapped (λ (row : Key × QueuedMessage). row.1) (first (at_key key) s.messages) (first_stands test s.messages key oldest)) ∙ (λ i. record s {
    messages = without_first_same test s.messages key (all_apart s.messages apart) oldest i;
    message_room = s.message_room + 1;
  })
