-- The list of a table's keys, which stands beside its places.
use Rattle.std.proofs.Common.{◌≡◌, ℕ, zero, suc, true, false, cond, not, refl, sym, ap, ◌∙◌, List, [], ◌∷◌, Some, is_some, length, slice_get, get_or, arith, ◌+◌, ◌-◌, ◌<◌}
use Rattle.std.proofs.lemmas.Bool.{and_parts}
use Rattle.std.specs.FinMap as map
use Rattle.std.specs.FinMap.{find}
use Rattle.lpc_base.specs.Rows.{every, without}
use Rattle.lpc_slots.specs.declared.Key.{Key}
use Rattle.lpc_slots.specs.Table.{Table, at_key, is_key, key_cmp, keys_of}
use Rattle.lpc_slots.proofs.Keys.{key_cmp_total, key_differs, apart, tied}
use Rattle.lpc_slots.proofs.Same.{are_apart, listed_put, put}
use Rattle.lpc_slots.proofs.Listed.{listed-remove}
use Rattle.lpc_slots.proofs.Sound.{some_len}

-- what is read in a place stands there
pub key_in : (keys : List Key) (place : ℕ) (key : Key) → place < length keys → key ≡ get_or keys place key → slice_get keys place ≡ Some key
key_in [] place key within read = absurd (omega arith)
key_in (other ∷ keys) zero key within read = ap Some (sym read)
key_in (other ∷ keys) (suc place) key within read = key_in keys place key (omega arith) read

module _ {T : Type 0} where
  pub length_keys : (rows : List (Key × T)) → length (keys_of rows) ≡ length rows
  length_keys [] = refl
  length_keys (row ∷ rows) = ap suc (length_keys rows)

  -- the keys that are left by a removal
  pub keys_left : (key : Key) (rows : List (Key × T)) → keys_of (without (at_key key) rows) ≡ without (λ other. is_key other key) (keys_of rows)
  keys_left key [] = refl
  keys_left key (row ∷ rows) = grind (arith, keys_left key rows)

  -- the row of the key in a place
  pub row_in : (rows : List (Key × T)) (place : ℕ) (key : Key) → slice_get (keys_of rows) place ≡ Some key → (value : T) × (slice_get rows place ≡ Some (key, value))
  row_in [] place key is = absurd (cc)
  row_in (row ∷ rows) zero key is = (row.1, let same : row.0 ≡ key = cc in ap (λ k. Some (k, row.1)) same)
  row_in (row ∷ rows) (suc place) key is = row_in rows place key is

  off_place : (k : Key) (rows : List (Key × T)) (place : ℕ) (row : Key × T) → every (λ other. not (at_key k other)) rows ≡ true → slice_get rows place ≡ Some row → is_key row.0 k ≡ false
  off_place k [] place row off here = absurd (cc)
  off_place k (other ∷ rows) zero row off here = grind (arith, off, here)
  off_place k (other ∷ rows) (suc place) row off here = off_place k rows place row (and_parts _ _ off).1 here

  -- what stands in a place is found by its key
  pub found_in : (rows : List (Key × T)) (place : ℕ) (key : Key) (value : T) → are_apart rows ≡ true → slice_get rows place ≡ Some (key, value) → find key_cmp key rows ≡ Some value
  found_in [] place key value all here = absurd (cc)
  found_in (row ∷ rows) zero key value all here =
      let same : row ≡ (key, value) = cc in
      ap (λ b. cond b (Some row.1) (find key_cmp key rows)) (tied key row.0 (sym (ap (λ (r : Key × T). r.0) same))) ∙ ap (λ (r : Key × T). Some r.1) same
  found_in (row ∷ rows) (suc place) key value all here =
      let both = and_parts (every (λ other. not (at_key row.0 other)) rows) (are_apart rows) all in
      let differs = key_differs key row.0 (off_place row.0 rows place (key, value) both.0 here) in
      ap (λ b. cond b (Some row.1) (find key_cmp key rows)) (apart key row.0 differs) ∙ found_in rows place key value both.1 here

  keys_of_put : (key : Key) (g : T → T) (rows : List (Key × T)) → keys_of (put key g rows) ≡ keys_of rows
  keys_of_put key g [] = refl
  keys_of_put key g (row ∷ rows) = grind (arith, keys_of_put key g rows)

  -- a value that is written under a key leaves the keys
  pub keys_written : (rows : map.FinMap key_cmp T) (key : Key) (old new : T) → map.get rows key ≡ Some old → keys_of (map.entries (map.insert rows key new)) ≡ keys_of (map.entries rows)
  keys_written rows key old new found =
      let s : Table T = record { rows = rows; spare = 0; made = 0 } in
      ap keys_of (listed_put key (λ _. new) s old found) ∙ keys_of_put key (λ _. new) (map.entries rows)

  -- a removal leaves one row less
  pub one_gone : (rows : map.FinMap key_cmp T) (key : Key) (value : T) → map.get rows key ≡ Some value → length (without (at_key key) (map.entries rows)) + 1 ≡ length (map.entries rows)
  one_gone rows key value found =
      let left = sym (map.len-entries (map.remove rows key)) ∙ map.len-remove key_cmp_total rows key ∙ ap (λ o. cond (is_some o) (map.len rows - 1) (map.len rows)) found in
      let all = map.len-entries rows in
      let some = some_len rows key value found in
      let shown = ap length (listed-remove rows key) in
      omega (arith, left, all, some, shown)
