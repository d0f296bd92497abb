-- Rows that are found by the keys of their numbers: what a change, a new row and a removal leave.
use Rattle.std.proofs.Common.{◌≡◌, ◌≢◌, ◌+◌, ◌≤◌, ℕ, zero, suc, Bool, true, false, cond, not, refl, sym, ap, ◌∙◌, inl, inr, arith, List, [], ◌∷◌, ◌++◌, Option, Some, None, is_some, option_map, set, slice_get, length, map, true≢false}
use Rattle.std.specs.Prelude.{◌==◌}
use Rattle.std.specs.Option.{option_map_or}
use Rattle.std.specs.FinMap as map_of
use Rattle.std.proofs.lemmas.Bool.{and_parts, cases_Bool, eqb-true}
use Rattle.std.proofs.lemmas.Bool.Decides.{nat_tests}
use Rattle.std.proofs.lemmas.List.{length-map}
use Rattle.lpc_base.specs.Rows.{change, differ_by, every, first, has, without, without_first}
use Rattle.lpc_base.proofs.Differ.{set-change}
use Rattle.lpc_base.proofs.Positions.{none_at}
use Rattle.lpc_base.proofs.RowMaps.{first-map, push-map, without_first-map}
use Rattle.lpc_base.proofs.RowWords.{change-none, every-true, first-passes}
use Rattle.lpc_slots.specs.declared.Key.{Key}
use Rattle.lpc_slots.specs.Chain.{changed}
use Rattle.lpc_slots.specs.Table.{Table, at, at_key, inserted, listed, removed, with_value}
use Rattle.lpc_slots.proofs.Chains.{at_other, at_same}
use Rattle.lpc_slots.proofs.Frames.{at_inserted, inserted_beside, removed_beside}
use Rattle.lpc_slots.proofs.Keys.{key_cases, key_cmp_total, key_is, tied}
use Rattle.lpc_slots.proofs.Same.{are_apart, at_first, first_own, listed_apart, listed_put, put, without_first_same}
use Rattle.lpc_procs.specs.Kept.{AreKeyed, rows_in}

none-of : {X : Type 0} (test : X → Bool) (xs : List X) → every (λ x. not (test x)) xs ≡ true → has test xs ≡ false
none-of test [] off = refl
none-of test (x ∷ xs) off = grind (arith, none-of test xs)

none-first : {X : Type 0} (test : X → Bool) (xs : List X) → first test xs ≡ None → has test xs ≡ false
none-first test xs none = ap is_some none

module _ {T : Type 0} where
  abbrev values : List (Key × T) → List T
  values rows = map (λ row. row.1) rows

  pub rows-push : (s new : Table T) (key : Key) (row : T) → listed new ≡ listed s ++ (key, row) ∷ [] → rows_in new ≡ rows_in s ++ row ∷ []
  rows-push s new key row is = ap values is ∙ push-map (λ (r : Key × T). r.1) (listed s) (key, row)

  -- where a row of a key stands among the rows
  pub record IsPlaced (s : Table T) (key : Key) (row : T) : Type 0 where
    pub place : ℕ
    pub here : slice_get (rows_in s) place ≡ Some row
    pub writes : (other : T) → rows_in (with_value s key other) ≡ set (rows_in s) place other

  in-rows : (key : Key) (rows : List (Key × T)) (r : Key × T) → are_apart rows ≡ true → first (at_key key) rows ≡ Some r → (i : ℕ) × (slice_get (values rows) i ≡ Some r.1) × ((v : T) → values (put key (λ _. v) rows) ≡ set (values rows) i v)
  in-rows key [] r all is = absurd (cc)
  in-rows key (row ∷ rows) r all is =
      let both = and_parts (every (λ other. not (at_key row.0 other)) rows) (are_apart rows) all in
      elim (cases_Bool (at_key key row)) [
        | inl here ↦
            let found : Some row ≡ Some r = sym (ap (λ b. cond b (Some row) (first (at_key key) rows)) here) ∙ is in
            let same : row ≡ r = cc in
            let off : every (λ other. not (at_key key other)) rows ≡ true = rw (← key_is row.0 key here) both.0 in
            (0, ap (λ (x : Key × T). Some x.1) same, λ v. ap (λ b. values (cond b (row.0, v) row ∷ put key (λ _. v) rows)) here ∙ ap (λ xs. v ∷ values xs) (change-none (at_key key) (λ x. (x.0, v)) rows (none-of (at_key key) rows off)))
        | inr off ↦
            let later = in-rows key rows r both.1 (sym (ap (λ b. cond b (Some row) (first (at_key key) rows)) off) ∙ is) in
            (suc later.0, later.1, λ v. ap (λ b. values (cond b (row.0, v) row ∷ put key (λ _. v) rows)) off ∙ ap (λ xs. row.1 ∷ xs) (later.2 v))
      ]

  pub placed : (s : Table T) (key : Key) (row : T) → at s key ≡ Some row → IsPlaced s key row
  placed s key row there = by (first (at_key key) (listed s)) refl (sym (at_first s key) ∙ there)
    where
      by : (o : Option (Key × T)) → first (at_key key) (listed s) ≡ o → option_map (λ (r : Key × T). r.1) o ≡ Some row → IsPlaced s key row
      by None is some = absurd (cc)
      by (Some r) is some =
          let same : r.1 ≡ row = cc in
          let found = in-rows key (listed s) r (listed_apart s) is in
          record {
            place = found.0;
            here = found.1 ∙ ap Some same;
            writes = λ v. ap values (listed_put key (λ _. v) s row there) ∙ found.2 v;
          }

  -- the first row that passes stands under a key, and the others are left by its removal
  pub record StandsFirst (test : T → Bool) (s : Table T) (row : T) : Type 0 where
    pub key : Key
    pub there : at s key ≡ Some row
    pub left : values (without (at_key key) (listed s)) ≡ without_first test (rows_in s)

  pub stands : (test : T → Bool) (s : Table T) (row : T) → first test (rows_in s) ≡ Some row → StandsFirst test s row
  stands test s row is =
      by (first (λ (r : Key × T). test r.1) (listed s)) refl (sym (first-map (λ (r : Key × T). r.1) (λ r. true) (λ r. test r.1) test (λ r _. refl) (listed s) (every-true (listed s))) ∙ is)
    where
      by : (o : Option (Key × T)) → first (λ (r : Key × T). test r.1) (listed s) ≡ o → option_map (λ (r : Key × T). r.1) o ≡ Some row → StandsFirst test s row
      by None found some = absurd (cc)
      by (Some r) found some =
          let same : r.1 ≡ row = cc in
          let mine : option_map (λ (r : Key × T). r.0) (first (λ (r : Key × T). test r.1) (listed s)) ≡ Some r.0 = ap (option_map (λ (r : Key × T). r.0)) found in
          let own = first_own (λ (r : Key × T). test r.1) (listed s) r.0 (listed_apart s) mine in
          record {
            key = r.0;
            there = at_first s r.0 ∙ ap (option_map (λ (r : Key × T). r.1)) (own ∙ found) ∙ ap Some same;
            left = ap values (without_first_same (λ (r : Key × T). test r.1) (listed s) r.0 (listed_apart s) mine) ∙ without_first-map (λ (r : Key × T). r.1) (λ r. true) (λ r. test r.1) test (λ r _. refl) (listed s) (every-true (listed s));
          }

  removed_none : (s : Table T) (key q : Key) → q ≡ key → at (removed s key) q ≡ None
  removed_none s key q same = map_of.get-remove key_cmp_total s.rows key q ∙ ap (λ b. cond b None (at s q)) (tied q key same)

  -- a change of the row at a key, if there is one
  pub changed-some : (s : Table T) (key : Key) (f : T → T) (row : T) → at s key ≡ Some row → changed s (Some key) f ≡ with_value s key (f row)
  changed-some s key f row there = ap (λ o. option_map_or (λ v. with_value s key (f v)) o s) there

  pub changed-none : (s : Table T) (key : Key) (f : T → T) → at s key ≡ None → changed s (Some key) f ≡ s
  changed-none s key f none = ap (λ o. option_map_or (λ v. with_value s key (f v)) o s) none

  pub changed-made : (s : Table T) (key : Key) (f : T → T) → ((changed s (Some key) f).made ≡ s.made) × ((changed s (Some key) f).spare ≡ s.spare)
  changed-made s key f = by (at s key)
    where
      by : (o : Option T) → ((option_map_or (λ v. with_value s key (f v)) o s).made ≡ s.made) × ((option_map_or (λ v. with_value s key (f v)) o s).spare ≡ s.spare)
      by None = (refl, refl)
      by (Some v) = (refl, refl)

module _ {T : Type 0} (number : T → ℕ) (s : Table T) (key : ℕ → Key) (keyed : AreKeyed number s key) where
  -- a row of a number stands under its key, and else nothing does
  pub first-at : (n : ℕ) → first (λ x. number x == n) (rows_in s) ≡ at s (key n)
  first-at n = by (first (λ x. number x == n) (rows_in s)) refl
    where
      none : has (λ x. number x == n) (rows_in s) ≡ false → (o : Option T) → at s (key n) ≡ o → o ≡ None
      none off None there = refl
      none off (Some row) there =
          let here = placed s (key n) row there in
          let own : (number row == n) ≡ true = let is = keyed.own n row there in grind (arith, nat_tests, is) in
          absurd (true≢false (sym own ∙ none_at (λ x. number x == n) (rows_in s) here.place row off here.here))

      by : (o : Option T) → first (λ x. number x == n) (rows_in s) ≡ o → first (λ x. number x == n) (rows_in s) ≡ at s (key n)
      by None is = is ∙ sym (none (none-first (λ x. number x == n) (rows_in s) is) (at s (key n)) refl)
      by (Some row) is =
          let found = stands (λ x. number x == n) s row is in
          let own : number row ≡ n = eqb-true (number row) n (first-passes (λ x. number x == n) (rows_in s) row is) in
          is ∙ sym (ap (at s) (ap key (sym own) ∙ keyed.leads found.key row found.there) ∙ found.there)

  -- the first row that passes stands under the key of its number, and the others are left by its removal
  pub stands-keyed : (test : T → Bool) (row : T) → first test (rows_in s) ≡ Some row → at s (key (number row)) ≡ Some row
  stands-keyed test row is =
      let found = stands test s row is in
      ap (at s) (keyed.leads found.key row found.there) ∙ found.there

  pub left-keyed : (test : T → Bool) (row : T) → first test (rows_in s) ≡ Some row → (new : Table T) → listed new ≡ without (at_key (key (number row))) (listed s) → rows_in new ≡ without_first test (rows_in s)
  left-keyed test row is new listing =
      let found = stands test s row is in
      ap values listing ∙ ap (λ k. values (without (at_key k) (listed s))) (keyed.leads found.key row found.there) ∙ found.left

  -- rows that were there under their keys and numbers
  pub keyed-sub : (new : Table T) → ((q : Key) (x : T) → at new q ≡ Some x → (y : T) × (at s q ≡ Some y) × (number y ≡ number x)) → s.made ≤ new.made → AreKeyed number new key
  keyed-sub new sub more = record {
    own = λ n x there. (let old = sub (key n) x there in sym old.2 ∙ keyed.own n old.0 old.1);
    leads = λ q x there. (let old = sub q x there in ap key (sym old.2) ∙ keyed.leads q old.0 old.1);
    young = λ n. (let one = keyed.young n in omega (arith, one, more));
  }

  pub keyed-written : (k : Key) (old row : T) → at s k ≡ Some old → number row ≡ number old → AreKeyed number (with_value s k row) key
  keyed-written k old row there same = keyed-sub (with_value s k row) by (omega arith)
    where
      by : (q : Key) (x : T) → at (with_value s k row) q ≡ Some x → (y : T) × (at s q ≡ Some y) × (number y ≡ number x)
      by q x is =
          elim (key_cases q k) [
            | inl here ↦
                let found : Some row ≡ Some x = sym (ap (at (with_value s k row)) here ∙ at_same s k row) ∙ is in
                let e : row ≡ x = cc in
                (old, ap (at s) here ∙ there, sym same ∙ ap number e)
            | inr off ↦ (x, sym (at_other s k row q (λ e. off (let e' : k ≡ q = cc in sym e'))) ∙ is, refl)
          ]

  pub keyed-removed : (k : Key) → AreKeyed number (removed s k) key
  keyed-removed k = keyed-sub (removed s k) by (omega arith)
    where
      by : (q : Key) (x : T) → at (removed s k) q ≡ Some x → (y : T) × (at s q ≡ Some y) × (number y ≡ number x)
      by q x is =
          elim (key_cases q k) [
            | inl here ↦ absurd (let clash : Some x ≡ None = sym is ∙ removed_none s k q here in cc)
            | inr off ↦ (x, sym (removed_beside s k q off) ∙ is, refl)
          ]

  pub keyed-changed : (k : Key) (f : T → T) → ((x : T) → number (f x) ≡ number x) → AreKeyed number (changed s (Some k) f) key
  keyed-changed k f keeps = by (at s k) refl
    where
      by : (o : Option T) → at s k ≡ o → AreKeyed number (changed s (Some k) f) key
      by None none = rw (changed-none s k f none) keyed
      by (Some row) there = rw (changed-some s k f row there) (keyed-written k row (f row) there (keeps row))

  -- a row behind the others, under a key of its own and a number that had none
  pub keyed-inserted : (n : ℕ) (k : Key) (row : T) (key' : ℕ → Key) → number row ≡ n → at s (key n) ≡ None → k.generation ≡ s.made + 1 → ((m : ℕ) → key' m ≡ cond (m == n) k (key m)) → AreKeyed number (inserted s k row) key'
  keyed-inserted n k row key' is none young keys = record {
    own = λ m x there. own (m == n) m x refl there;
    leads = leads;
    young = λ m. rw (keys m) (old (m == n) m);
  }
    where
      away : (m : ℕ) → key m ≢ k
      away m same =
          let one = keyed.young m in
          let e : (key m).generation ≡ k.generation = ap (λ (q : Key). q.generation) same in
          omega (arith, one, e, young)

      here : (x : T) → at (inserted s k row) k ≡ Some x → row ≡ x
      here x there = let both : Some row ≡ Some x = sym (at_inserted s k row) ∙ there in cc

      own : (b : Bool) (m : ℕ) (x : T) → (m == n) ≡ b → at (inserted s k row) (key' m) ≡ Some x → number x ≡ m
      own true m x same there =
          let found = here x (sym (ap (at (inserted s k row)) (keys m ∙ ap (λ b. cond b k (key m)) same)) ∙ there) in
          sym (ap number found) ∙ is ∙ sym (eqb-true m n same)
      own false m x off there =
          let found : at s (key m) ≡ Some x = sym (inserted_beside s k row (key m) (away m)) ∙ sym (ap (at (inserted s k row)) (keys m ∙ ap (λ b. cond b k (key m)) off)) ∙ there in
          keyed.own m x found

      leads : (q : Key) (x : T) → at (inserted s k row) q ≡ Some x → key' (number x) ≡ q
      leads q x there =
          elim (key_cases q k) [
            | inl same ↦
                let found = here x (sym (ap (at (inserted s k row)) same) ∙ there) in
                let mine : (number x == n) ≡ true = let e : number x ≡ n = sym (ap number found) ∙ is in grind (arith, nat_tests, e) in
                keys (number x) ∙ ap (λ b. cond b k (key (number x))) mine ∙ sym same
            | inr off ↦
                let was : at s q ≡ Some x = sym (inserted_beside s k row q off) ∙ there in
                other (number x == n) q x refl was
          ]
        where
          other : (b : Bool) (q : Key) (x : T) → (number x == n) ≡ b → at s q ≡ Some x → key' (number x) ≡ q
          other true q x mine was =
              let e : number x ≡ n = eqb-true (number x) n mine in
              let clash : Some x ≡ None = sym was ∙ ap (at s) (sym (sym (ap key e) ∙ keyed.leads q x was)) ∙ none in
              absurd (cc)
          other false q x off was = keys (number x) ∙ ap (λ b. cond b k (key (number x))) off ∙ keyed.leads q x was

      old : (b : Bool) (m : ℕ) → (cond b k (key m)).generation ≤ s.made + 1
      old true m = omega (arith, young)
      old false m = let one = keyed.young m in omega (arith, one)

  module _ (differ : differ_by number (rows_in s) ≡ true) (n : ℕ) (f : T → T) where
    -- the row of a number changes where it stands
    pub rows-written : (row : T) → at s (key n) ≡ Some row → rows_in (with_value s (key n) (f row)) ≡ change (λ x. number x == n) f (rows_in s)
    rows-written row there =
        let here = placed s (key n) row there in
        here.writes (f row) ∙ set-change number f (rows_in s) here.place n row differ here.here (keyed.own n row there)

    pub rows-changed : rows_in (changed s (Some (key n)) f) ≡ change (λ x. number x == n) f (rows_in s)
    rows-changed = by (at s (key n)) refl
      where
        by : (o : Option T) → at s (key n) ≡ o → rows_in (changed s (Some (key n)) f) ≡ change (λ x. number x == n) f (rows_in s)
        by None none = ap rows_in (changed-none s (key n) f none) ∙ sym (change-none (λ x. number x == n) f (rows_in s) (none-first (λ x. number x == n) (rows_in s) (first-at n ∙ none)))
        by (Some row) there = ap rows_in (changed-some s (key n) f row there) ∙ rows-written row there

-- the rows as they stand in the list of keys and rows
module _ {T : Type 0} (s : Table T) where
  pub rows-length : length (rows_in s) ≡ length (listed s)
  rows-length = length-map (listed s) (λ (r : Key × T). r.1)

  pub row-in : (place : ℕ) (key : Key) (row : T) → slice_get (listed s) place ≡ Some (key, row) → slice_get (rows_in s) place ≡ Some row
  row-in place key row is = by (listed s) place is
    where
      by : (rows : List (Key × T)) (i : ℕ) → slice_get rows i ≡ Some (key, row) → slice_get (map (λ (r : Key × T). r.1) rows) i ≡ Some row
      by [] i is = absurd (cc)
      by (r ∷ rows) zero is = let same : r ≡ (key, row) = cc in ap (λ (x : Key × T). Some x.1) same
      by (r ∷ rows) (suc i) is = by rows i is
