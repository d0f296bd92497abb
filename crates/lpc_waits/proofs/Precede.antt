-- The first row that passes one of two tests is the earlier one of the first that pass each.
use Rattle.std.proofs.Common.{◌≡◌, ◌&&◌, ◌||◌, arith, ℕ, Bool, true, false, cond, refl, sym, ap, ◌∙◌, List, [], ◌∷◌, Option, Some, None, option_map, T as Holds, inl, inr, Less, Equal, Greater}
use Rattle.std.specs.Prelude.{◌==◌, nat_lt, if◌then◌else◌}
use Rattle.std.specs.declared.cmp.Ordering.{Ordering}
use Rattle.std.specs.Ordering.{is_lt, ordering_then}
use Rattle.std.specs.FinMap as map
use Rattle.std.specs.FinMap.{is_sorted}
use Rattle.std.specs.FinMap.Entries.{below_all}
use Rattle.std.proofs.lemmas.Bool.{cases_Bool}
use Rattle.std.proofs.lemmas.Bool.Decides.{nat_tests}
use Rattle.lpc_base.specs.Rows.{first}
use Rattle.lpc_slots.specs.declared.Key.{Key}
use Rattle.lpc_slots.specs.Table.{Table, key_cmp, listed, parts}
use Rattle.lpc_waits.specs.Table.{WaitingThread}
use Rattle.lpc_waits.specs.declared.WaitRow.{WaitRow}
use Rattle.lpc_waits.specs.Lent.{keyed, waiting_of}
use Rattle.lpc_waits.specs.Sought.{earlier, found, is_before}

abbrev Row : Type 0
Row = Key × WaitingThread

-- the order of keys, by the test
less : (x y : Bool) → is_lt (cond x Less (cond y Equal Greater)) ≡ x
less true y = refl
less false true = refl
less false false = refl

less_then : (x y : Bool) (o : Ordering) → is_lt (ordering_then (cond x Less (cond y Equal Greater)) o) ≡ (x || (y && is_lt o))
less_then true y o = refl
less_then false true o = refl
less_then false false o = refl

before_is : (one two : Key) → is_lt (key_cmp one two) ≡ is_before one two
before_is one two =
    less_then (nat_lt one.generation two.generation) (one.generation == two.generation) (key_order one.index two.index)
    ∙ ap (λ b. nat_lt one.generation two.generation || ((one.generation == two.generation) && b)) (less (nat_lt one.index two.index) (one.index == two.index))
  where
    key_order : ℕ → ℕ → Ordering
    key_order x y = cond (nat_lt x y) Less (cond (x == y) Equal Greater)

after_not : (one two : Key) → is_before one two ≡ true → is_before two one ≡ false
after_not one two is = grind (arith, nat_tests)

-- each key was made after this one, and each row after those before it
abbrev IsBeforeAll : Key → List Row → Type 0
IsBeforeAll key [] = Unit {0}
IsBeforeAll key (row ∷ rows) = (is_before key row.0 ≡ true) × IsBeforeAll key rows

abbrev pub Rise : List Row → Type 0
Rise [] = Unit {0}
Rise (row ∷ rows) = IsBeforeAll row.0 rows × Rise rows

both_hold : (a b : Bool) → Holds (a && b) → (a ≡ true) × Holds b
both_hold true b h = (refl, h)
both_hold false b h = absurd h

before_all : (key : Key) (all : List (Key × WaitRow)) → Holds (below_all key_cmp key all) → IsBeforeAll key (parts waiting_of all)
before_all key [] below = tt
before_all key (row ∷ all) below =
    let halves = both_hold (is_lt (key_cmp key row.0)) (below_all key_cmp key all) below in
    (sym (before_is key row.0) ∙ halves.0, before_all key all halves.1)

rise : (all : List (Key × WaitRow)) → Holds (is_sorted key_cmp all) → Rise (parts waiting_of all)
rise [] sorted = tt
rise (row ∷ all) sorted = (before_all row.0 all (first_holds _ _ sorted), rise all (second_holds _ _ sorted))
  where
    first_holds : (a b : Bool) → Holds (a && b) → Holds a
    first_holds true b both = tt
    first_holds false b both = absurd both

    second_holds : (a b : Bool) → Holds (a && b) → Holds b
    second_holds true b both = both
    second_holds false b both = absurd both

pub keyed_rise : (rows : Table WaitRow) → Rise (keyed rows)
keyed_rise rows = rise (listed rows) (map.entries_sorted rows.rows)

-- what is found behind a key was made after it
found_after : (key : Key) (test : Row → Bool) (rows : List Row) (what : Key × ℕ) → IsBeforeAll key rows → found test rows ≡ Some what → is_before key what.0 ≡ true
found_after key test [] what before is = absurd (cc)
found_after key test (row ∷ rows) what before is =
    elim (cases_Bool (test row)) [
      | inl on ↦
          let both : Some (row.0, row.1.thread) ≡ Some what = sym (ap (λ b. option_map (λ (r : Row). (r.0, r.1.thread)) (cond b (Some row) (first test rows))) on) ∙ is in
          let same : (row.0, row.1.thread) ≡ what = cc in
          sym (ap (λ (w : Key × ℕ). is_before key w.0) same) ∙ before.0
      | inr off ↦ found_after key test rows what before.1 (sym (ap (λ b. option_map (λ (r : Row). (r.0, r.1.thread)) (cond b (Some row) (first test rows))) off) ∙ is)
    ]

-- the first comes before what is found behind it
first_wins : (row : Row) (test : Row → Bool) (rows : List Row) → IsBeforeAll row.0 rows → earlier (Some (row.0, row.1.thread)) (found test rows) ≡ Some (row.0, row.1.thread)
first_wins row test rows before = by (found test rows) (λ what is. found_after row.0 test rows what before is)
  where
    by : (o : Option (Key × ℕ)) → ((what : Key × ℕ) → o ≡ Some what → is_before row.0 what.0 ≡ true) → earlier (Some (row.0, row.1.thread)) o ≡ Some (row.0, row.1.thread)
    by None after = refl
    by (Some what) after = ap (λ b. Some (if b then (row.0, row.1.thread) else what)) (after what refl)

second_wins : (row : Row) (test : Row → Bool) (rows : List Row) → IsBeforeAll row.0 rows → earlier (found test rows) (Some (row.0, row.1.thread)) ≡ Some (row.0, row.1.thread)
second_wins row test rows before = by (found test rows) (λ what is. after_not row.0 what.0 (found_after row.0 test rows what before is))
  where
    by : (o : Option (Key × ℕ)) → ((what : Key × ℕ) → o ≡ Some what → is_before what.0 row.0 ≡ false) → earlier o (Some (row.0, row.1.thread)) ≡ Some (row.0, row.1.thread)
    by None after = refl
    by (Some what) after = ap (λ b. Some (if b then what else (row.0, row.1.thread))) (after what refl)

same_twice : (row : Key × ℕ) → earlier (Some row) (Some row) ≡ Some row
same_twice row = by (is_before row.0 row.0)
  where
    by : (b : Bool) → Some (if b then row else row) ≡ Some row
    by true = refl
    by false = refl

pub earlier_found : (p q : Row → Bool) (rows : List Row) → Rise rows → earlier (found p rows) (found q rows) ≡ found (λ row. p row || q row) rows
earlier_found p q [] rises = refl
earlier_found p q (row ∷ rows) rises =
    elim (cases_Bool (p row)) [
      | inl one ↦
          elim (cases_Bool (q row)) [
            | inl two ↦ rw (one, two) (same_twice (row.0, row.1.thread))
            | inr off ↦ rw (one, off) (first_wins row q rows rises.0)
          ]
      | inr none ↦
          elim (cases_Bool (q row)) [
            | inl two ↦ rw (none, two) (second_wins row p rows rises.0)
            | inr off ↦ rw (none, off) (earlier_found p q rows rises.1)
          ]
    ]
