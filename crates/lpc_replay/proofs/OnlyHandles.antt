-- A port's last handle is that of the only process that has one.
use Rattle.std.proofs.Common.{Bool, List, [], arith, false, not, refl, subst, sym, true, ℕ, ◌+◌, ◌++◌, ◌∙◌, ◌∷◌, ◌≡◌, ◌≤◌}
use Rattle.std.specs.Prelude.{◌&&◌, ◌||◌}
use Rattle.std.proofs.lemmas.Bool.{and_from, eqb-true, true_from_ne_false}
use Rattle.lpc_base.specs.Rows.{change, count, each, every, first, has}
use Rattle.lpc_base.specs.declared.birth.Birth.{Birth}
use Rattle.lpc_base.proofs.Births.{birth-self}
use Rattle.lpc_base.proofs.RowWords.{none-counted}
use Rattle.lpc_base.proofs.Bools.{first-true, second-true}
use Rattle.lpc_model.specs.declared.entry.ObjectKind.TheVariants as kind
use Rattle.lpc_model.specs.declared.entry.ObjectKind.{ObjectKind}
use Rattle.lpc_model.specs.Basics.{DropsHandle, basic, without_handle}
use Rattle.lpc_model.specs.Close.{is_last}
use Rattle.lpc_model.specs.Found.{all_handles, handle_count, handles_of, has_handle_to, is_open, is_table, names_port, rows_in, same_birth, same_kind}
use Rattle.lpc_model.specs.World.{HandleRow, HandleTable, World}
use Rattle.lpc_model.proofs.Closings.Single.{dropped-shut}
use Rattle.lpc_replay.specs.Connects.{is_only_with}

-- of handles in tables, where one passes that is the first of a process and no other does, none of another process's
-- does
module _ (pid : ℕ) (test : HandleRow → Bool) (r : HandleRow) (rows : List HandleRow) (is : test r ≡ true) where
  abbrev all_rows : List HandleTable → List HandleRow
  all_rows ts = each (λ t. t.rows) ts

  abbrev has_it : HandleTable → Bool
  has_it t = has test t.rows

  abbrev is_free : HandleTable → Bool
  is_free t = is_table pid t || not (has_it t)

  counted : (xs ys : List HandleRow) → count test (xs ++ ys) ≡ count test xs + count test ys
  counted [] ys = omega arith
  counted (x ∷ xs) ys = grind (arith, counted xs ys)

  both_free : (t : HandleTable) (ts : List HandleTable) → is_free t ≡ true → every is_free ts ≡ true → every is_free (t ∷ ts) ≡ true
  both_free t ts one two = grind (arith, one, two)

  free_of : (t : HandleTable) → has_it t ≡ false → is_free t ≡ true
  free_of t off = grind (arith, off)

  none_free : (ts : List HandleTable) → count test (all_rows ts) ≤ 0 → every is_free ts ≡ true
  none_free [] few = refl
  none_free (t ∷ ts) few =
      let sum = counted t.rows (all_rows ts) in
      both_free t ts (free_of t (none-counted test t.rows (omega arith))) (none_free ts (omega arith))

  -- it counts in the rows that begin with it
  counts_it : (xs : List HandleRow) → xs ≡ r ∷ rows → 1 ≤ count test xs
  counts_it xs same = subst (λ xs. 1 ≤ count test xs) (sym same) (one is)
    where
      one : test r ≡ true → 1 ≤ count test (r ∷ rows)
      one is = grind (arith, is)

  own_rows : (t : HandleTable) (ts : List HandleTable) → is_table pid t ≡ true → rows_in (first (is_table pid) (t ∷ ts)) ≡ r ∷ rows → t.rows ≡ r ∷ rows
  own_rows t ts own same = rw own at same

  later_rows : (t : HandleTable) (ts : List HandleTable) → is_table pid t ≡ false → rows_in (first (is_table pid) (t ∷ ts)) ≡ r ∷ rows → rows_in (first (is_table pid) ts) ≡ r ∷ rows
  later_rows t ts other same = rw other at same

  one_has : (ts : List HandleTable) → rows_in (first (is_table pid) ts) ≡ r ∷ rows → 1 ≤ count test (all_rows ts)
  one_has [] same = absurd (cc)
  one_has (t ∷ ts) same = at (is_table pid t) refl (λ rest. one_has ts rest)
    where
      at : (c : Bool) → is_table pid t ≡ c → (rows_in (first (is_table pid) ts) ≡ r ∷ rows → 1 ≤ count test (all_rows ts)) → 1 ≤ count test (all_rows (t ∷ ts))
      at true own later = let sum = counted t.rows (all_rows ts) in let here = counts_it t.rows (own_rows t ts own same) in omega arith
      at false other later = let sum = counted t.rows (all_rows ts) in let there = later (later_rows t ts other same) in omega arith

  others_free : (ts : List HandleTable) → rows_in (first (is_table pid) ts) ≡ r ∷ rows → count test (all_rows ts) ≤ 1 → every is_free ts ≡ true
  others_free [] same few = absurd (cc)
  others_free (t ∷ ts) same few = at (is_table pid t) refl (λ rest few. others_free ts rest few)
    where
      at : (c : Bool) → is_table pid t ≡ c → (rows_in (first (is_table pid) ts) ≡ r ∷ rows → count test (all_rows ts) ≤ 1 → every is_free ts ≡ true) → every is_free (t ∷ ts) ≡ true
      at true own later =
          let sum = counted t.rows (all_rows ts) in
          let here = counts_it t.rows (own_rows t ts own same) in
          both_free t ts (grind (arith, own)) (none_free ts (omega arith))
      at false other later =
          let sum = counted t.rows (all_rows ts) in
          let rest = later_rows t ts other same in
          let there = one_has ts rest in
          both_free t ts (free_of t (none-counted test t.rows (omega arith))) (later rest (omega arith))

  one_table : (ts : List HandleTable) → rows_in (first (is_table pid) ts) ≡ r ∷ rows → has has_it ts ≡ true
  one_table [] same = absurd (cc)
  one_table (t ∷ ts) same = at (is_table pid t) refl (λ rest. one_table ts rest)
    where
      has_first : t.rows ≡ r ∷ rows → has_it t ≡ true
      has_first same = subst (λ xs. has test xs ≡ true) (sym same) (grind (arith, is))

      at : (c : Bool) → is_table pid t ≡ c → (rows_in (first (is_table pid) ts) ≡ r ∷ rows → has has_it ts ≡ true) → has has_it (t ∷ ts) ≡ true
      at true own later = let here = has_first (own_rows t ts own same) in grind (arith, here)
      at false other later = let there = later (later_rows t ts other same) in grind (arith, there)

-- A process has the only handles to the port of its last one
pub record IsLone (w : World) (pid : ℕ) (b : Birth) : Type 0 where
  pub opens : is_open w b ≡ true
  pub alone : is_only_with w pid b ≡ true

port_kind : (k : ObjectKind) → same_kind k kind.Port ≡ true → k ≡ kind.Port
port_kind kind.Port is = refl
port_kind b is = absurd (cc)

pub lone : (w : World) (pid : ℕ) (r : HandleRow) (rows : List HandleRow) → handles_of w pid ≡ r ∷ rows → is_last r w ≡ true → IsLone w pid r.object.birth
lone w pid r rows same last =
    let b = r.object.birth in
    let is_port : same_kind r.object.kind kind.Port ≡ true = first-true _ _ last in
    let one : handle_count w r.object ≡ 1 = eqb-true (handle_count w r.object) 1 (second-true _ _ last) in
    let test : HandleRow → Bool = λ h. names_port b h.object in
    let is : test r ≡ true = and_from (same_kind r.object.kind kind.Port) _ is_port (birth-self b) in
    let few : count test (all_handles w) ≡ 1 = subst (λ k. count (λ (h : HandleRow). same_kind h.object.kind k && same_birth h.object.birth b) (all_handles w) ≡ 1) (port_kind r.object.kind is_port) one in
    record { opens = one_table pid test r rows is w.handles same; alone = others_free pid test r rows is w.handles same (at_most (count test (all_handles w)) few) }
  where
    at_most : (n : ℕ) → n ≡ 1 → n ≤ 1
    at_most n is = omega arith

-- Handles of one process that go
-- another world has the same handles but for some of the process's that went
pub record HasFewer (w v : World) (pid : ℕ) : Type 0 where
  pub opens : (b : Birth) → is_open w b ≡ false → is_open v b ≡ false
  pub alone : (b : Birth) → is_only_with v pid b ≡ is_only_with w pid b

pub fewer_same : (w v u : World) (pid : ℕ) → u.handles ≡ v.handles → HasFewer w v pid → HasFewer w u pid
fewer_same w v u pid same f = record { opens = λ b off. rw same (f.opens b off); alone = λ b. rw same (f.alone b) }

pub fewer_first : (w v : World) (pid : ℕ) → v.handles ≡ w.handles → HasFewer w v pid
fewer_first w v pid same = fewer_same w w v pid same (record { opens = λ b off. off; alone = λ b. refl })

dropped_alone : (pid value : ℕ) (b : Birth) (ts : List HandleTable) → every (λ t. is_table pid t || not (has_handle_to b t)) (change (is_table pid) (without_handle value) ts) ≡ every (λ t. is_table pid t || not (has_handle_to b t)) ts
dropped_alone pid value b [] = refl
dropped_alone pid value b (t ∷ ts) = at (is_table pid t) refl (dropped_alone pid value b ts)
  where
    at : (c : Bool) → is_table pid t ≡ c → every (λ t. is_table pid t || not (has_handle_to b t)) (change (is_table pid) (without_handle value) ts) ≡ every (λ t. is_table pid t || not (has_handle_to b t)) ts
        → every (λ t. is_table pid t || not (has_handle_to b t)) (change (is_table pid) (without_handle value) (t ∷ ts)) ≡ every (λ t. is_table pid t || not (has_handle_to b t)) (t ∷ ts)
    at true own rest = grind (arith, own, rest)
    at false other rest = grind (arith, other, rest)

pub fewer_dropped : (w v : World) (pid value : ℕ) → HasFewer w v pid → HasFewer w (basic v (DropsHandle pid value)) pid
fewer_dropped w v pid value f = record {
  opens = λ b off. dropped-shut v pid value b (f.opens b off);
  alone = λ b. dropped_alone pid value b v.handles ∙ f.alone b;
}

-- what is so behind them was so before
pub lone_before : (w v : World) (pid : ℕ) (b : Birth) → HasFewer w v pid → IsLone v pid b → IsLone w pid b
lone_before w v pid b f l = record { opens = true_from_ne_false (is_open w b) (λ off. let none = f.opens b off in let some = l.opens in cc); alone = sym (f.alone b) ∙ l.alone }
