-- Rows at their places: what is found there, which were passed, and how many are left.
use Rattle.std.proofs.Common.{◌≡◌, ◌+◌, ◌≤◌, ℕ, zero, suc, List, [], ◌∷◌, Bool, true, false, drop, length, map, slice_get, Option, Some, None, option_map, refl, ap, sym, subst, ◌∙◌, arith}
use Rattle.std.proofs.lemmas.Option.{same_Some}
use Rattle.std.specs.Prelude.{◌&&◌}
use Rattle.lpc_base.specs.declared.birth.Birth.{Birth}
use Rattle.lpc_base.specs.Rows.{every, first, has, without}
use Rattle.lpc_base.proofs.Births.{birth-self}
use Rattle.lpc_model.specs.Found.{same_birth}
use Rattle.lpc_model.specs.World.{PortRow}
use Rattle.lpc_ports.specs.Table.{PortTable}
use Rattle.lpc_ports.specs.declared.Port.{Port}
use Rattle.lpc_slots.proofs.Walk.{drop_row}
use Rattle.lpc_slots.specs.declared.Key.{Key}
use Rattle.lpc_rows.specs.Names.{Names, are_apart, name_of, names_of, stands}
use Rattle.lpc_rows.specs.Shown.{port_names, shown_port}
use Rattle.lpc_homes.specs.declared.object.Object.{Object}
use Rattle.lpc_rows.proofs.Follows.{is_own, own_birth, rows_own}

-- The port at a place
every_at : {X : Type 0} (p : X → Bool) (xs : List X) (place : ℕ) (x : X) → every p xs ≡ true → slice_get xs place ≡ Some x → p x ≡ true
every_at p [] place x all here = absurd (cc)
every_at p (y ∷ ys) zero x all here = grind arith
every_at p (y ∷ ys) (suc place) x all here = grind (arith, every_at p ys place x)

pub mapped_at : {X Y : Type 0} (g : X → Y) (xs : List X) (place : ℕ) → slice_get (map g xs) place ≡ option_map g (slice_get xs place)
mapped_at g [] place = refl
mapped_at g (x ∷ xs) zero = refl
mapped_at g (x ∷ xs) (suc place) = mapped_at g xs place

module _ (ports : PortTable) (apart : are_apart (port_names ports) ≡ true) (f : Object → Birth) where
  abbrev n : Names
  n = port_names ports

  pub record IsAt (place : ℕ) (key : Key) : Type 0 where
    pub there : stands n key ≡ true
    pub birth : option_map (λ (p : PortRow). p.birth) (slice_get (map (shown_port f) ports.ports) place) ≡ Some (name_of n key)

  pub at_place : (place : ℕ) (key : Key) → option_map (λ (row : Key × Port). row.0) (slice_get ports.ports place) ≡ Some key → IsAt place key
  at_place place key at = by_row (slice_get ports.ports place) refl at
    where
      by_row : (o : Option (Key × Port)) → slice_get ports.ports place ≡ o → option_map (λ (row : Key × Port). row.0) o ≡ Some key → IsAt place key
      by_row None here at = absurd (cc)
      by_row (Some row) here at =
          let ok = every_at (is_own (λ (r : Port). r.birth) ports.ports) ports.ports place row (rows_own (λ (r : Port). r.birth) ports.ports apart) here in
          let key_is : row.0 ≡ key = same_Some row.0 key at in
          record {
            there = subst (λ k. stands n k ≡ true) key_is (grind arith);
            birth = rw (mapped_at (shown_port f) ports.ports place, here) (ap Some (sym (own_birth (λ (r : Port). r.birth) ports.ports row ok) ∙ ap (name_of n) key_is));
          }

-- A row at a place, among rows under their keys
module _ {R : Type 0} (birth : R → Birth) (rows : List (Key × R)) (apart : are_apart (names_of birth rows) ≡ true) (place : ℕ) (row : Key × R) (here : slice_get rows place ≡ Some row) where
  own : is_own birth rows row ≡ true
  own = every_at (is_own birth rows) rows place row (rows_own birth rows apart) here

  pub its_key : stands (names_of birth rows) row.0 ≡ true
  its_key = let ok = own in grind (arith, ok)

  pub its_name : birth row.1 ≡ name_of (names_of birth rows) row.0
  its_name = sym (own_birth birth rows row own)

-- Rows held so far
module _ {X : Type 0} (birth : X → Birth) (held : Birth → Bool) where
  pub held_on : (xs : List X) (place : ℕ) (b : Birth) → option_map birth (slice_get xs place) ≡ Some b → held b ≡ true → every (λ x. held (birth x)) (drop place xs) ≡ every (λ x. held (birth x)) (drop (place + 1) xs)
  held_on xs place b at is = by_row (slice_get xs place) refl at
    where
      by_row : (o : Option X) → slice_get xs place ≡ o → option_map birth o ≡ Some b → every (λ x. held (birth x)) (drop place xs) ≡ every (λ x. held (birth x)) (drop (place + 1) xs)
      by_row None here at = absurd (cc)
      by_row (Some x) here at =
          let one : held (birth x) ≡ true = ap held (same_Some (birth x) b at) ∙ is in
          ap (every (λ y. held (birth y))) (drop_row xs place x here) ∙ ap (λ c. c && every (λ y. held (birth y)) (drop (place + 1) xs)) one

-- Rows that don't pass so far, and the first one that does
module _ {X : Type 0} (birth : X → Birth) (test : Birth → Bool) where
  pub passed_on : (xs : List X) (place : ℕ) (b : Birth) → option_map birth (slice_get xs place) ≡ Some b → test b ≡ false → first (λ x. test (birth x)) (drop place xs) ≡ first (λ x. test (birth x)) (drop (place + 1) xs)
  passed_on xs place b at off = by_row (slice_get xs place) refl at
    where
      by_row : (o : Option X) → slice_get xs place ≡ o → option_map birth o ≡ Some b → first (λ x. test (birth x)) (drop place xs) ≡ first (λ x. test (birth x)) (drop (place + 1) xs)
      by_row None here at = absurd (cc)
      by_row (Some x) here at =
          let one : test (birth x) ≡ false = ap test (same_Some (birth x) b at) ∙ off in
          ap (first (λ y. test (birth y))) (drop_row xs place x here) ∙ rw one refl

  pub found_at : (xs : List X) (place : ℕ) (b : Birth) → option_map birth (slice_get xs place) ≡ Some b → test b ≡ true → option_map birth (first (λ x. test (birth x)) (drop place xs)) ≡ Some b
  found_at xs place b at on = by_row (slice_get xs place) refl at
    where
      by_row : (o : Option X) → slice_get xs place ≡ o → option_map birth o ≡ Some b → option_map birth (first (λ x. test (birth x)) (drop place xs)) ≡ Some b
      by_row None here at = absurd (cc)
      by_row (Some x) here at =
          let one : test (birth x) ≡ true = ap test (same_Some (birth x) b at) ∙ on in
          ap (λ ys. option_map birth (first (λ y. test (birth y)) ys)) (drop_row xs place x here) ∙ rw one (ap Some (same_Some (birth x) b at))

-- a row at a place is among the rows
pub row_at_place : {X : Type 0} (birth : X → Birth) (xs : List X) (place : ℕ) (b : Birth) → option_map birth (slice_get xs place) ≡ Some b → has (λ x. same_birth (birth x) b) xs ≡ true
row_at_place birth [] place b at = absurd (cc)
row_at_place birth (x ∷ xs) zero b at =
    let is : birth x ≡ b = cc in
    let own : same_birth (birth x) (birth x) ≡ true = birth-self (birth x) in
    subst (λ d. has (λ y. same_birth (birth y) d) (x ∷ xs) ≡ true) is (rw own refl)
row_at_place birth (x ∷ xs) (suc place) b at = grind (arith, row_at_place birth xs place b at)

-- all rows were passed
pub drop_all : {X : Type 0} (xs : List X) (n : ℕ) → length xs ≤ n → drop n xs ≡ []
drop_all [] zero few = refl
drop_all [] (suc n) few = refl
drop_all (x ∷ xs) zero few = absurd (omega (arith, few))
drop_all (x ∷ xs) (suc n) few = drop_all xs n (omega (arith, few))

-- one row less
no_longer : {X : Type 0} (p : X → Bool) (xs : List X) → length (without p xs) ≤ length xs
no_longer p [] = omega arith
no_longer p (x ∷ xs) = grind (arith, no_longer p xs)

pub length_less : {X : Type 0} (p : X → Bool) (xs : List X) → has p xs ≡ true → length (without p xs) + 1 ≤ length xs
length_less p [] is = absurd (cc)
length_less p (x ∷ xs) is = at (p x) refl (length_less p xs)
  where
    at : (b : Bool) → p x ≡ b → (has p xs ≡ true → length (without p xs) + 1 ≤ length xs) → length (without p (x ∷ xs)) + 1 ≤ length (x ∷ xs)
    at true here later = grind (arith, no_longer p xs)
    at false off later = grind (arith, later)

-- no row is left, of which one would not pass
pub none_left : {X : Type 0} (p : X → Bool) (xs : List X) → length xs ≤ 0 → every p xs ≡ true
none_left p [] few = refl
none_left p (x ∷ xs) few = absurd (omega (arith, few))
