-- The counts that are kept of handles, after each change of the parts.
use Rattle.std.proofs.Common.{◌≡◌, ◌+◌, ◌*◌, ◌≤◌, ◌||◌, ◌&&◌, ℕ, Bool, true, false, cond, not, length, map, List, [], ◌∷◌, ◌++◌, set, Option, Some, None, refl, sym, ap, ◌∙◌, arith}
use Rattle.std.specs.Prelude.{◌==◌, nat_lt, option_map}
use Rattle.std.specs.List.{position}
use Rattle.std.proofs.lemmas.Bool.{eqb-true}
use Rattle.std.proofs.lemmas.Bool.Decides.{nat_tests}
use Rattle.lpc_base.specs.Places.{is_in, least_handle}
use Rattle.lpc_base.specs.Rows.{change, count, every, first, has, which, without_first}
use Rattle.lpc_base.specs.declared.limits.TheConstants.{HANDLE_LIMIT}
use Rattle.lpc_base.proofs.Differ.{own-rows, rest-differ, rest-none}
use Rattle.lpc_base.proofs.Least.{new_handles_are_least}
use Rattle.lpc_base.proofs.RowMaps.{has-map, push-map}
use Rattle.lpc_base.proofs.RowWords.{change-none, count-append, count-bound, every-change, every-changed, every-push, every-true}
use Rattle.lpc_handles.specs.Handles as handles
use Rattle.lpc_handles.specs.Handles.{Handles, has_value, is_above, is_below, values, with_row}
use Rattle.lpc_handles.specs.declared.table.Row.{Row}
use Rattle.lpc_homes.specs.Counts.{AreCounted, Counted, Gains, Loses, is_within, one_for}
use Rattle.lpc_homes.specs.Parts.{all_rows, are_single_parts, closed, handed, has_name_of, is_part, names_it, new_part, roomed}
use Rattle.lpc_homes.specs.declared.object.Object.{Object}
use Rattle.lpc_homes.specs.declared.parts.Part.{Part}
use Rattle.lpc_homes.proofs.OnePart.{IsAt, roomed_part}
use Rattle.lpc_numbers.specs.Numbered.{is_at, numbers}
use Rattle.lpc_numbers.proofs.Lookups.{position-map}

abbrev process : Part → ℕ
process part = part.process

-- Places
-- the place of a number is that of its part
pub place-part : (pid : ℕ) (parts : List Part) (places : List (ℕ × Unit)) → numbers places ≡ map process parts → position (is_at pid) places ≡ position (is_part pid) parts
place-part pid parts places placed =
    sym (position-map (λ e. e.0) (λ n. n == pid) (is_at pid) (λ e. refl) places)
    ∙ ap (position (λ n. n == pid)) placed
    ∙ position-map process (λ n. n == pid) (is_part pid) (λ p. refl) parts

-- a process without a part has no place
pub no_entry : (pid : ℕ) (parts : List Part) (places : List (ℕ × Unit)) → numbers places ≡ map process parts → has (is_part pid) parts ≡ false → has (is_at pid) places ≡ false
no_entry pid parts places placed none =
    sym (has-map (λ e. e.0) (λ e. true) (is_at pid) (λ n. n == pid) (λ e _. refl) places (every-true places))
    ∙ ap (has (λ n. n == pid)) placed
    ∙ has-map process (λ p. true) (is_part pid) (λ n. n == pid) (λ p _. refl) parts (every-true parts)
    ∙ none

-- Changes that leave the handles
numbers_kept : (g : Part → Part) → ((x : Part) → (g x).process ≡ x.process) → (parts : List Part) → map process (map g parts) ≡ map process parts
numbers_kept g number [] = refl
numbers_kept g number (x ∷ parts) = λ i. number x i ∷ numbers_kept g number parts i

module _ (g : Part → Part) (number : (x : Part) → (g x).process ≡ x.process) (rows : (x : Part) → (g x).handles.rows ≡ x.handles.rows) where
  within_kept : (parts : List Part) → every is_within (map g parts) ≡ every is_within parts
  within_kept [] = refl
  within_kept (x ∷ parts) = λ i. not (nat_lt HANDLE_LIMIT (length (rows x i))) && within_kept parts i

  rows_kept : (parts : List Part) → all_rows (map g parts) ≡ all_rows parts
  rows_kept [] = refl
  rows_kept (x ∷ parts) = λ i. rows x i ++ rows_kept parts i

  pub all_kept : (parts : List Part) (places : List ℕ) (counts : Counted) → AreCounted parts places counts → AreCounted (map g parts) places counts
  all_kept parts places counts h = record {
    placed = h.placed ∙ sym (numbers_kept g number parts);
    within = within_kept parts ∙ h.within;
    counted = λ whole o. h.counted whole o ∙ ap (count (names_it o)) (sym (rows_kept parts));
  }

module _ (f : Part → Part) (number : (x : Part) → (f x).process ≡ x.process) (rows : (x : Part) → (f x).handles.rows ≡ x.handles.rows) where
  pub change_kept : (pid : ℕ) (parts : List Part) (places : List ℕ) (counts : Counted) → AreCounted parts places counts → AreCounted (change (is_part pid) f parts) places counts
  change_kept pid = all_kept (λ x. cond (is_part pid x) (f x) x) (λ x. by_number x (is_part pid x)) (λ x. by_rows x (is_part pid x))
    where
      by_number : (x : Part) (b : Bool) → (cond b (f x) x).process ≡ x.process
      by_number x true = number x
      by_number x false = refl

      by_rows : (x : Part) (b : Bool) → (cond b (f x) x).handles.rows ≡ x.handles.rows
      by_rows x true = rows x
      by_rows x false = refl

-- other room for handles in the part of a process
pub roomed_kept : (parts : List Part) (places : List ℕ) (counts : Counted) (pid index : ℕ) (part : Part) (new : Handles Object) → are_single_parts parts ≡ true → IsAt parts pid index part → new.rows ≡ part.handles.rows → AreCounted parts places counts
    → AreCounted (set parts index (record part { handles = new })) places counts
roomed_kept parts places counts pid index part new one at rows h =
    rw (roomed_part parts pid index part new one at rows).parts_are
    (change_kept (roomed new.spare) (λ p. refl) (λ p. refl) pid parts places counts h)

-- Handles
-- a table with one more handle
with-counts : (p : ℕ × Row Object → Bool) (v : ℕ) (rows : List (ℕ × Row Object)) → is_in v (values rows) ≡ false → count p (which (is_below v) rows) + count p (which (is_above v) rows) ≡ count p rows
with-counts p v [] free = refl
with-counts p v (row ∷ rows) free = grind (arith, nat_tests, with-counts p v rows)

with-length : (v : ℕ) (rows : List (ℕ × Row Object)) → length (which (is_below v) rows) + length (which (is_above v) rows) ≤ length rows
with-length v [] = omega arith
with-length v (row ∷ rows) = grind (arith, nat_tests, with-length v rows)

pub count-cons : {X : Type 0} (p : X → Bool) (x : X) (rows : List X) → count p (x ∷ rows) ≡ cond (p x) 1 0 + count p rows
count-cons p x rows = grind arith

length-append : (xs ys : List (ℕ × Row Object)) → length (xs ++ ys) ≡ length xs + length ys
length-append [] ys = omega arith
length-append (x ∷ xs) ys = grind (arith, length-append xs ys)

row-more : (p : ℕ × Row Object → Bool) (v : ℕ) (row : Row Object) (rows : List (ℕ × Row Object)) → v ≡ least_handle (values rows) → count p (with_row rows v row) ≡ count p rows + cond (p (v, row)) 1 0
row-more p v row rows is =
    let free : is_in v (values rows) ≡ false = rw is (new_handles_are_least (values rows)).free in
    omega (arith, count-append p (which (is_below v) rows) ((v, row) ∷ which (is_above v) rows), count-cons p (v, row) (which (is_above v) rows), with-counts p v rows free)

length-more : (v : ℕ) (row : Row Object) (rows : List (ℕ × Row Object)) → length (with_row rows v row) ≤ length rows + 1
length-more v row rows = omega (arith, length-append (which (is_below v) rows) ((v, row) ∷ which (is_above v) rows), with-length v rows)

-- and with one less
pub row-less : {X : Type 0} (p t : X → Bool) (rows : List X) (x : X) → first t rows ≡ Some x → count p (without_first t rows) + cond (p x) 1 0 ≡ count p rows
row-less p t [] x is = absurd (cc)
row-less p t (y ∷ rows) x is = grind (arith, row-less p t rows x)

pub length-less : {X : Type 0} (t : X → Bool) (rows : List X) → length (without_first t rows) ≤ length rows
length-less t [] = omega arith
length-less t (y ∷ rows) = grind (arith, length-less t rows)

-- the handles of all processes, where those of one were changed
count-changed : (p : ℕ × Row Object → Bool) (f : Part → Part) (parts : List Part) (pid : ℕ) (part : Part) → are_single_parts parts ≡ true → first (is_part pid) parts ≡ Some part
    → count p (all_rows (change (is_part pid) f parts)) + count p part.handles.rows ≡ count p (all_rows parts) + count p (f part).handles.rows
count-changed p f [] pid part one is = absurd (cc)
count-changed p f (head ∷ parts) pid part one is =
    elim (is_part pid head) as (λ b. is_part pid head ≡ b → count p (all_rows (change (is_part pid) f (head ∷ parts))) + count p part.handles.rows ≡ count p (all_rows (head ∷ parts)) + count p (f part).handles.rows) [
      | true ↦ λ here.
          let same : head ≡ part = grind arith in
          let tail = change-none (is_part pid) f parts (rest-none process head parts pid one (eqb-true head.process pid here)) in
          let after : count p (all_rows (change (is_part pid) f (head ∷ parts))) ≡ count p (all_rows (f part ∷ parts)) =
          ap (λ b. count p (all_rows (cond b (f head) head ∷ change (is_part pid) f parts))) here
          ∙ (λ i. count p (all_rows (f (same i) ∷ tail i))) in
          let before : count p (all_rows (head ∷ parts)) ≡ count p (all_rows (part ∷ parts)) = λ i. count p (all_rows (same i ∷ parts)) in
          omega (arith, after, before, count-append p (f part).handles.rows (all_rows parts), count-append p part.handles.rows (all_rows parts))
      | false ↦ λ off.
          let later : first (is_part pid) parts ≡ Some part = sym (ap (λ b. cond b (Some head) (first (is_part pid) parts)) off) ∙ is in
          let rest = count-changed p f parts pid part (rest-differ process head parts one) later in
          let after : count p (all_rows (change (is_part pid) f (head ∷ parts))) ≡ count p (all_rows (head ∷ change (is_part pid) f parts)) =
          ap (λ b. count p (all_rows (cond b (f head) head ∷ change (is_part pid) f parts))) off in
          omega (arith, after, rest, count-append p head.handles.rows (all_rows (change (is_part pid) f parts)), count-append p head.handles.rows (all_rows parts))
    ] refl

numbers_same : (f : Part → Part) → ((x : Part) → (f x).process ≡ x.process) → (pid : ℕ) (parts : List Part) → map process (change (is_part pid) f parts) ≡ map process parts
numbers_same f number pid = numbers_kept (λ x. cond (is_part pid x) (f x) x) (λ x. by x (is_part pid x))
  where
    by : (x : Part) (b : Bool) → (cond b (f x) x).process ≡ x.process
    by x true = number x
    by x false = refl

-- a handle was added
pub handed_kept : (parts : List Part) (places : List ℕ) (old new : Counted) (pid v : ℕ) (part : Part) (row : Row Object) → are_single_parts parts ≡ true → first (is_part pid) parts ≡ Some part
    → AreCounted parts places old → v ≡ least_handle (values part.handles.rows) → (length part.handles.rows ≡ HANDLE_LIMIT → ⊥) → (new.whole ≡ true → Gains row.object old new)
    → AreCounted (change (is_part pid) (handed v row) parts) places new
handed_kept parts places old new pid v part row one at h is few gains = record {
  placed = h.placed ∙ sym (numbers_same (handed v row) (λ x. refl) pid parts);
  within =
      let below : nat_lt (length part.handles.rows) HANDLE_LIMIT ≡ true =
      let le : is_within part ≡ true = every-found parts h.within at in grind (arith, nat_tests) in
      let own = own-rows process (λ x. nat_lt (length x.handles.rows) HANDLE_LIMIT) pid parts part one at below in
      every-changed is_within (λ x. not (is_part pid x) || nat_lt (length x.handles.rows) HANDLE_LIMIT) (is_part pid) (handed v row) (λ x within fewer own. grind (arith, nat_tests, length-more v row x.handles.rows)) parts h.within own;
  counted = λ whole o.
      let g = gains whole in
      omega (arith, g.counts o, h.counted g.whole o, count-changed (names_it o) (handed v row) parts pid part one at, row-more (names_it o) v row part.handles.rows is);
}
  where
    every-found : (ps : List Part) → every is_within ps ≡ true → first (is_part pid) ps ≡ Some part → is_within part ≡ true
    every-found [] all found = absurd (cc)
    every-found (x ∷ ps) all found = grind (arith, every-found ps)

closed_within : (value pid : ℕ) (parts : List Part) → every is_within parts ≡ true → every is_within (change (is_part pid) (closed value) parts) ≡ true
closed_within value pid parts all = every-change is_within (is_part pid) (closed value) (λ x within. grind (arith, nat_tests, length-less (has_value value) x.handles.rows)) parts all

-- one was closed
pub closed_kept : (parts : List Part) (places : List ℕ) (old new : Counted) (pid value : ℕ) (part : Part) (row : Row Object) → are_single_parts parts ≡ true → first (is_part pid) parts ≡ Some part
    → AreCounted parts places old → Some row ≡ handles.at part.handles.rows value → (new.whole ≡ true → Loses row.object old new)
    → AreCounted (change (is_part pid) (closed value) parts) places new
closed_kept parts places old new pid value part row one at h is loses = record {
  placed = h.placed ∙ sym (numbers_same (closed value) (λ x. refl) pid parts);
  within = closed_within value pid parts h.within;
  counted = λ whole o.
      let g = loses whole in
      let less = by o (first (has_value value) part.handles.rows) refl in
      omega (arith, g.counts o, h.counted g.whole o, count-changed (names_it o) (closed value) parts pid part one at, less);
}
  where
    by : (o : Object) (r : Option (ℕ × Row Object)) → first (has_value value) part.handles.rows ≡ r → count (names_it o) (without_first (has_value value) part.handles.rows) + one_for o row.object ≡ count (names_it o) part.handles.rows
    by o None none = absurd (let clash : Some row ≡ None = is ∙ ap (option_map (λ x. x.1)) none in cc)
    by o (Some x) some =
        let own : row ≡ x.1 = let same : Some row ≡ Some x.1 = is ∙ ap (option_map (λ y. y.1)) some in cc in
        ap (λ (r : Row Object). count (names_it o) (without_first (has_value value) part.handles.rows) + one_for o r.object) own
        ∙ row-less (names_it o) (has_value value) part.handles.rows x some

-- a part was added
pub pushed_kept : (parts : List Part) (places : List ℕ) (counts : Counted) (pid : ℕ) → AreCounted parts places counts → AreCounted (parts ++ new_part pid ∷ []) (places ++ pid ∷ []) counts
pushed_kept parts places counts pid h = record {
  placed = ap (λ ns. ns ++ pid ∷ []) h.placed ∙ sym (push-map process parts (new_part pid));
  within = every-push is_within parts (new_part pid) h.within refl;
  counted = λ whole o. h.counted whole o ∙ ap (count (names_it o)) (sym (same parts));
}
  where
    same : (ps : List Part) → all_rows (ps ++ new_part pid ∷ []) ≡ all_rows ps
    same [] = refl
    same (x ∷ ps) = ap (λ rs. x.handles.rows ++ rs) (same ps)

-- What is told
pub few_named : (p : ℕ × Row Object → Bool) (parts : List Part) → every is_within parts ≡ true → count p (all_rows parts) ≤ HANDLE_LIMIT * length parts
few_named p [] all = omega arith
few_named p (x ∷ parts) all =
    let own : length x.handles.rows ≤ HANDLE_LIMIT = grind (arith, nat_tests) in
    let rest : every is_within parts ≡ true = grind arith in
    omega (arith, own, count-bound p x.handles.rows, count-append p x.handles.rows (all_rows parts), few_named p parts rest)

pub has_counted : {X : Type 0} (p : X → Bool) (xs : List X) → has p xs ≡ nat_lt 0 (count p xs)
has_counted p [] = refl
has_counted p (x ∷ xs) = grind (arith, nat_tests, has_counted p xs)

pub named_counted : (o : Object) (parts : List Part) → nat_lt 0 (count (names_it o) (all_rows parts)) ≡ has (has_name_of o) parts
named_counted o [] = refl
named_counted o (x ∷ parts) = grind (arith, nat_tests, count-append (names_it o) x.handles.rows (all_rows parts), has_counted (names_it o) x.handles.rows, named_counted o parts)
