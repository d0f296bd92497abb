-- The search among rising values, and what rising rows become.
use Rattle.std.proofs.Common.{◌≡◌, ℕ, zero, suc, ◌+◌, ◌%◌, ◌<◌, ◌≤◌, List, [], ◌∷◌, ◌++◌, Bool, true, false, cond, length, take, drop, get_or, refl, sym, ap, ◌∙◌, arith}
use Rattle.std.specs.Prelude.{Option, Some, None, IfSome, IfNone, is_some, option_map, ◌==◌}
use Rattle.std.proofs.lemmas.Bool.Decides.{nat_tests}
use Rattle.lpc_base.specs.Places.{is_in, handle_from, least_handle}
use Rattle.lpc_base.specs.Rows.{first, has, which, without, without_first}
use Rattle.lpc_base.proofs.RowWords.{without-none}
use Rattle.lpc_handles.specs.declared.table.Row.{Row}
use Rattle.lpc_handles.specs.Handles.{at, are_rising, has_value, is_above, is_below, is_from, values, with_row, IsLeastFrom}

next-place : (v x : ℕ) → v % 4 ≡ 0 → x % 4 ≡ 0 → v < x → v + 4 ≤ x
next-place v x a b lt = omega arith

next-four : (v : ℕ) → v % 4 ≡ 0 → (v + 4) % 4 ≡ 0
next-four v four = omega arith

unmapped : {X Y : Type 0} (f : X → Y) (o : Option X) → option_map f o ≡ None → is_some o ≡ false
unmapped f None is = refl
unmapped f (Some x) is = cc

module _ {O : Type 0} where
  -- the first of v, v + 4, .. that rising rows leave free, and how many rows come before it
  abbrev pub free_in : ℕ → List (ℕ × Row O) → ℕ
  free_in v [] = v
  free_in v (row ∷ rows) = cond (row.0 == v) (free_in (v + 4) rows) v

  abbrev pub place_in : ℕ → List (ℕ × Row O) → ℕ
  place_in v [] = 0
  place_in v (row ∷ rows) = cond (row.0 == v) (suc (place_in (v + 4) rows)) 0

  pub none-below : (q least : ℕ) (rows : List (ℕ × Row O)) → q < least → are_rising least rows ≡ true → is_in q (values rows) ≡ false
  none-below q least [] lt rises = refl
  none-below q least (row ∷ rows) lt rises = grind (arith, nat_tests, none-below q (row.0 + 4) rows)

  -- taken values that the search can still meet are those of the rest
  later : (q v : ℕ) (row : ℕ × Row O) (rows : List (ℕ × Row O)) → row.0 ≡ v → v + 4 ≤ q → is_in q (values (row ∷ rows)) ≡ is_in q (values rows)
  later q v row rows is le = grind (arith, nat_tests)

  here : (v : ℕ) (row : ℕ × Row O) (rows : List (ℕ × Row O)) → are_rising v (row ∷ rows) ≡ true → is_in v (values (row ∷ rows)) ≡ (row.0 == v)
  here v row rows rises = grind (arith, nat_tests, none-below v (row.0 + 4) rows)

  tail-rises : (v : ℕ) (row : ℕ × Row O) (rows : List (ℕ × Row O)) → row.0 ≡ v → are_rising v (row ∷ rows) ≡ true → are_rising (v + 4) rows ≡ true
  tail-rises v row rows is rises = grind arith

  search-step : (b : Bool) (n v : ℕ) (taken : List ℕ) (row : ℕ × Row O) (rows : List (ℕ × Row O)) → (row.0 == v) ≡ b → ((q : ℕ) → v ≤ q → is_in q taken ≡ is_in q (values (row ∷ rows))) → are_rising v (row ∷ rows) ≡ true
      → (row.0 ≡ v → handle_from n (v + 4) taken ≡ free_in (v + 4) rows) → cond (is_in v taken) (handle_from n (v + 4) taken) v ≡ cond b (free_in (v + 4) rows) v
  search-step true n v taken row rows is same rises next =
      ap (λ b. cond b (handle_from n (v + 4) taken) v) (same v (omega arith) ∙ here v row rows rises ∙ is) ∙ next (grind (arith, nat_tests))
  search-step false n v taken row rows off same rises next = ap (λ b. cond b (handle_from n (v + 4) taken) v) (same v (omega arith) ∙ here v row rows rises ∙ off)

  pub search-finds : (n v : ℕ) (taken : List ℕ) (rows : List (ℕ × Row O)) → ((q : ℕ) → v ≤ q → is_in q taken ≡ is_in q (values rows)) → are_rising v rows ≡ true → length rows ≤ n → handle_from n v taken ≡ free_in v rows
  unfolding handle_from
  search-finds zero v taken [] same rises le = refl
  search-finds (suc n) v taken [] same rises le = ap (λ b. cond b (handle_from n (v + 4) taken) v) (same v (omega arith))
  search-finds zero v taken (row ∷ rows) same rises le = absurd (omega arith)
  search-finds (suc n) v taken (row ∷ rows) same rises le =
      search-step (row.0 == v) n v taken row rows refl same rises (λ is. search-finds n (v + 4) taken rows (λ q h. same q (omega arith) ∙ later q v row rows is h) (tail-rises v row rows is rises) (omega arith))

  -- where the new row goes in
  pub free-from : (v : ℕ) (rows : List (ℕ × Row O)) → v ≤ free_in v rows
  free-from v [] = omega arith
  free-from v (row ∷ rows) = grind (arith, free-from (v + 4) rows)

  pub place-within : (v : ℕ) (rows : List (ℕ × Row O)) → place_in v rows ≤ length rows
  place-within v [] = omega arith
  place-within v (row ∷ rows) = grind (arith, place-within (v + 4) rows)

  below-none : (v least : ℕ) (rows : List (ℕ × Row O)) → v ≤ least → are_rising least rows ≡ true → which (is_below v) rows ≡ []
  below-none v least [] le rises = refl
  below-none v least (row ∷ rows) le rises = grind (arith, nat_tests, below-none v (row.0 + 4) rows)

  above-all : (v least : ℕ) (rows : List (ℕ × Row O)) → v < least → are_rising least rows ≡ true → which (is_above v) rows ≡ rows
  above-all v least [] lt rises = refl
  above-all v least (row ∷ rows) lt rises = grind (arith, nat_tests, above-all v (row.0 + 4) rows)

  abbrev pub put_in : ℕ → List (ℕ × Row O) → Row O → List (ℕ × Row O)
  put_in v rows row = take (place_in v rows) rows ++ (free_in v rows, row) ∷ drop (place_in v rows) rows

  put-step : (b : Bool) (v : ℕ) (x : ℕ × Row O) (rows : List (ℕ × Row O)) (row : Row O) → (x.0 == v) ≡ b → are_rising v (x ∷ rows) ≡ true → (x.0 ≡ v → put_in (v + 4) rows row ≡ with_row rows (free_in (v + 4) rows) row)
      → put_in v (x ∷ rows) row ≡ with_row (x ∷ rows) (free_in v (x ∷ rows)) row
  put-step true v x rows row is rises next =
      let e : x.0 ≡ v = grind (arith, nat_tests) in
      grind (arith, nat_tests, free-from (v + 4) rows, next e)
  put-step false v x rows row off rises next = grind (arith, nat_tests, below-none v (x.0 + 4) rows, above-all v (x.0 + 4) rows)

  pub put-placed : (v : ℕ) (rows : List (ℕ × Row O)) (row : Row O) → are_rising v rows ≡ true → put_in v rows row ≡ with_row rows (free_in v rows) row
  put-placed v [] row rises = refl
  put-placed v (x ∷ rows) row rises = put-step (x.0 == v) v x rows row refl rises (λ is. put-placed (v + 4) rows row (tail-rises v x rows is rises))

  rises-step : (b : Bool) (v : ℕ) (x : ℕ × Row O) (rows : List (ℕ × Row O)) (row : Row O) → (x.0 == v) ≡ b → v % 4 ≡ 0 → are_rising v (x ∷ rows) ≡ true → (x.0 ≡ v → are_rising (v + 4) (put_in (v + 4) rows row) ≡ true)
      → are_rising v (put_in v (x ∷ rows) row) ≡ true
  rises-step true v x rows row is four rises next =
      let e : x.0 ≡ v = grind (arith, nat_tests) in
      grind (arith, nat_tests, next e)
  rises-step false v x rows row off four rises next =
      let four-x : x.0 % 4 ≡ 0 = grind (arith, nat_tests) in
      let lt : v < x.0 = grind (arith, nat_tests) in
      let le : v + 4 ≤ x.0 = next-place v x.0 four four-x lt in
      grind (arith, nat_tests)

  pub put-rises : (v : ℕ) (rows : List (ℕ × Row O)) (row : Row O) → v % 4 ≡ 0 → are_rising v rows ≡ true → are_rising v (put_in v rows row) ≡ true
  put-rises v [] row four rises = grind (arith, nat_tests)
  put-rises v (x ∷ rows) row four rises = rises-step (x.0 == v) v x rows row refl four rises (λ is. put-rises (v + 4) rows row (next-four v four) (tail-rises v x rows is rises))

  length-values : (rows : List (ℕ × Row O)) → length rows ≤ length (values rows)
  length-values [] = omega arith
  length-values (row ∷ rows) = grind (arith, length-values rows)

  pub least-found : (rows : List (ℕ × Row O)) → are_rising 4 rows ≡ true → least_handle (values rows) ≡ free_in 4 rows
  least-found rows rises = search-finds (length (values rows)) 4 (values rows) rows (λ q h. refl) rises (length-values rows)

  -- the place where the loop stops
  pub record IsPlace (rows : List (ℕ × Row O)) (i v : ℕ) : Type 0 where
    pub index : i ≡ place_in 4 rows
    pub value : v ≡ free_in 4 rows

  free-here : (rows : List (ℕ × Row O)) (i v : ℕ) (x : ℕ × Row O) → i < length rows → x ≡ get_or rows i x → (x.0 ≡ v → ⊥) → free_in v (drop i rows) ≡ v
  free-here [] i v x lt is off = absurd (omega arith)
  free-here (row ∷ rows) zero v x lt is off = grind (arith, nat_tests)
  free-here (row ∷ rows) (suc i) v x lt is off = free-here rows i v x (omega arith) is off

  place-here : (rows : List (ℕ × Row O)) (i v : ℕ) (x : ℕ × Row O) → i < length rows → x ≡ get_or rows i x → (x.0 ≡ v → ⊥) → place_in v (drop i rows) ≡ 0
  place-here [] i v x lt is off = absurd (omega arith)
  place-here (row ∷ rows) zero v x lt is off = grind (arith, nat_tests)
  place-here (row ∷ rows) (suc i) v x lt is off = place-here rows i v x (omega arith) is off

  gone : (rows : List (ℕ × Row O)) (i : ℕ) → length rows ≤ i → drop i rows ≡ []
  gone [] zero le = refl
  gone [] (suc i) le = refl
  gone (row ∷ rows) zero le = absurd (omega arith)
  gone (row ∷ rows) (suc i) le = gone rows i (omega arith)

  pub stops-at : (rows : List (ℕ × Row O)) (i v : ℕ) (x : ℕ × Row O) → i < length rows → x ≡ get_or rows i x → (x.0 ≡ v → ⊥) → free_in v (drop i rows) ≡ free_in 4 rows → i + place_in v (drop i rows) ≡ place_in 4 rows → IsPlace rows i v
  stops-at rows i v x lt is off free place = record {
    index = omega (arith, place-here rows i v x lt is off, place);
    value = sym (free-here rows i v x lt is off) ∙ free;
  }

  pub stops-behind : (rows : List (ℕ × Row O)) (i v : ℕ) → i ≤ length rows → length rows ≤ i → free_in v (drop i rows) ≡ free_in 4 rows → i + place_in v (drop i rows) ≡ place_in 4 rows → IsPlace rows (length rows) v
  stops-behind rows i v le ge free place =
      let none = gone rows i ge in
      let free' : v ≡ free_in 4 rows = rw none at free in
      let place' : i + 0 ≡ place_in 4 rows = rw none at place in
      record { index = omega (arith, place'); value = free' }

  pub least-at : (rows : List (ℕ × Row O)) (i v : ℕ) → are_rising 4 rows ≡ true → IsPlace rows i v → v ≡ least_handle (values rows)
  least-at rows i v rises p = p.value ∙ sym (least-found rows rises)

  pub placed-at : (rows : List (ℕ × Row O)) (i v : ℕ) (row : Row O) → are_rising 4 rows ≡ true → IsPlace rows i v → take i rows ++ (v, row) ∷ drop i rows ≡ with_row rows v row
  placed-at rows i v row rises p = rw (p.index, p.value) (put-placed 4 rows row rises)

  pub rises-at : (rows : List (ℕ × Row O)) (i v : ℕ) (row : Row O) → are_rising 4 rows ≡ true → IsPlace rows i v → are_rising 4 (take i rows ++ (v, row) ∷ drop i rows) ≡ true
  rises-at rows i v row rises p = rw (p.index, p.value) (put-rises 4 rows row refl rises)

  -- where one goes
  rises-from : (a b : ℕ) (rows : List (ℕ × Row O)) → a ≤ b → are_rising b rows ≡ true → are_rising a rows ≡ true
  rises-from a b [] le rises = refl
  rises-from a b (row ∷ rows) le rises = grind (arith, nat_tests)

  pub without-rises : (value least : ℕ) (rows : List (ℕ × Row O)) → are_rising least rows ≡ true → are_rising least (without (has_value value) rows) ≡ true
  without-rises value least [] rises = refl
  without-rises value least (row ∷ rows) rises = grind (arith, nat_tests, without-rises value (row.0 + 4) rows, rises-from least (row.0 + 4) (without (has_value value) rows))

  pub none-goes : (value : ℕ) (rows : List (ℕ × Row O)) → at rows value ≡ None → without (has_value value) rows ≡ rows
  none-goes value rows none = without-none (has_value value) rows (unmapped (λ row. row.1) (first (has_value value) rows) none)

  pub without-within : (value : ℕ) (rows : List (ℕ × Row O)) → length (without (has_value value) rows) ≤ length rows
  without-within value [] = omega arith
  without-within value (row ∷ rows) = grind (arith, without-within value rows)

  -- rising values pass over those below them
  absent : (value least : ℕ) (rows : List (ℕ × Row O)) → value < least → are_rising least rows ≡ true → has (has_value value) rows ≡ false
  absent value least [] lt rises = refl
  absent value least (row ∷ rows) lt rises = grind (arith, nat_tests, absent value (row.0 + 4) rows)

  pub one-goes : (value least : ℕ) (rows : List (ℕ × Row O)) (x : Row O) → are_rising least rows ≡ true → at rows value ≡ Some x → length (without (has_value value) rows) + 1 ≡ length rows
  one-goes value least [] x rises is = grind arith
  one-goes value least (row ∷ rows) x rises is =
      grind (arith, nat_tests, one-goes value (row.0 + 4) rows x, absent value (row.0 + 4) rows, without-none (has_value value) rows)

  pub only-goes : (value least : ℕ) (rows : List (ℕ × Row O)) → are_rising least rows ≡ true → without (has_value value) rows ≡ without_first (has_value value) rows
  only-goes value least [] rises = refl
  only-goes value least (row ∷ rows) rises =
      grind (arith, nat_tests, only-goes value (row.0 + 4) rows, absent value (row.0 + 4) rows, without-none (has_value value) rows)

  -- the first row that isn't below
  pub first-none : (from other : ℕ) (rows : List (ℕ × Row O)) → first (is_from from) rows ≡ None → from ≤ other → at rows other ≡ None
  first-none from other [] none le = refl
  first-none from other (row ∷ rows) none le = grind (arith, nat_tests, first-none from other rows)

  first-used : (from v : ℕ) (rows : List (ℕ × Row O)) → option_map (λ row. row.0) (first (is_from from) rows) ≡ Some v → is_some (at rows v) ≡ true
  first-used from v [] is = grind arith
  first-used from v (row ∷ rows) is = grind (arith, nat_tests, first-used from v rows)

  first-within : (from v : ℕ) (rows : List (ℕ × Row O)) → option_map (λ row. row.0) (first (is_from from) rows) ≡ Some v → from ≤ v
  first-within from v [] is = grind arith
  first-within from v (row ∷ rows) is = grind (arith, nat_tests, first-within from v rows)

  pub at-above : (least other : ℕ) (rows : List (ℕ × Row O)) → are_rising least rows ≡ true → is_some (at rows other) ≡ true → least ≤ other
  at-above least other [] rises has = grind arith
  at-above least other (row ∷ rows) rises has = grind (arith, nat_tests, at-above (row.0 + 4) other rows)

  first-lowest : (least from v other : ℕ) (rows : List (ℕ × Row O)) → are_rising least rows ≡ true → option_map (λ row. row.0) (first (is_from from) rows) ≡ Some v → from ≤ other → is_some (at rows other) ≡ true → v ≤ other
  first-lowest least from v other [] rises is le has = grind arith
  first-lowest least from v other (row ∷ rows) rises is le has = grind (arith, nat_tests, first-lowest (row.0 + 4) from v other rows, at-above (row.0 + 4) other rows)

  pub first-least : (from : ℕ) (rows : List (ℕ × Row O)) (o : Option ℕ) → are_rising 4 rows ≡ true → o ≡ option_map (λ row. row.0) (first (is_from from) rows) → IfSome o (λ v. IsLeastFrom rows from v)
  first-least from rows None rises is = tt
  first-least from rows (Some v) rises is = record {
    used = first-used from v rows (sym is);
    within = first-within from v rows (sym is);
    least = λ other le has. first-lowest 4 from v other rows rises (sym is) le has;
  }

  no-first : (o : Option (ℕ × Row O)) → None ≡ option_map (λ row. row.0) o → o ≡ None
  no-first None is = refl
  no-first (Some x) is = cc

  pub first-missing : (from : ℕ) (rows : List (ℕ × Row O)) (o : Option ℕ) → o ≡ option_map (λ row. row.0) (first (is_from from) rows) → IfNone o ((other : ℕ) → from ≤ other → at rows other ≡ None)
  first-missing from rows None is = λ other le. first-none from other rows (no-first (first (is_from from) rows) is) le
  first-missing from rows (Some v) is = tt
