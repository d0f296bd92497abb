-- Keys that rise: a key is found among them by halving.
use Rattle.std.proofs.Common.{◌≡◌, ◌+◌, ◌<◌, ◌≤◌, ℕ, zero, suc, Bool, true, false, refl, sym, ap, ◌∙◌, arith, T as Holds, List, [], ◌∷◌, Some, Option, get_or, length, is_some, IsSome, Ordering, Less, Equal, Greater, nat_cmp}
use Rattle.std.specs.List.{prefix_len, remove}
use Rattle.std.specs.List.Sorted.{IsPartitionedBy, IsPartitionPoint}
use Rattle.std.specs.Ordering.{MatchOrdering, is_lt, ordering_then}
use Rattle.std.specs.Cmp.{ranked}
use Rattle.std.specs.FinMap as map
use Rattle.std.specs.FinMap.{find, is_sorted}
use Rattle.std.specs.FinMap.Entries.{below_all}
use Rattle.std.proofs.lemmas.Bool.Decides.{nat_tests}
use Rattle.std.proofs.lemmas.List.Sums.{prefix_len_is}
use Rattle.lpc_base.specs.Rows.{every, has, without}
use Rattle.lpc_base.proofs.RowWords.{without-none}
use Rattle.lpc_slots.specs.declared.Key.{Key}
use Rattle.lpc_slots.specs.Layout.{is_before, rise}
use Rattle.lpc_slots.specs.Table.{is_key, key_cmp, keys_of}
use Rattle.lpc_slots.proofs.Keys.{same_test}

-- what comes before in the order of keys
less_before : (x y : Key) → is_lt (key_cmp x y) ≡ true → is_before y x ≡ true
less_before x y less = at (nat_cmp x.generation y.generation) (nat_cmp x.index y.index) (ranked x.generation y.generation _ refl) (ranked x.index y.index _ refl) less
  where
    at : (a b : Ordering) → MatchOrdering a (x.generation < y.generation) (x.generation ≡ y.generation) (y.generation < x.generation) → MatchOrdering b (x.index < y.index) (x.index ≡ y.index) (y.index < x.index) → is_lt (ordering_then a b) ≡ true → is_before y x ≡ true
    at Less b first second less = grind (arith, nat_tests, first)
    at Equal Less first second less = grind (arith, nat_tests, first, second)
    at Equal Equal first second less = absurd (cc)
    at Equal Greater first second less = absurd (cc)
    at Greater b first second less = absurd (cc)

held : (b : Bool) → Holds b → b ≡ true
held true holds = refl
held false holds = absurd holds

module _ {T : Type 0} where
  all_before : (x : Key) (rows : List (Key × T)) → below_all key_cmp x rows ≡ true → every (λ other. is_before other x) (keys_of rows) ≡ true
  all_before x [] below = refl
  all_before x (row ∷ rows) below = grind (arith, less_before x row.0, all_before x rows)

  rise_sorted : (rows : List (Key × T)) → is_sorted key_cmp rows ≡ true → rise (keys_of rows) ≡ true
  rise_sorted [] sorted = refl
  rise_sorted (row ∷ rows) sorted = grind (arith, all_before row.0 rows, rise_sorted rows)

  has_found : (key : Key) (rows : List (Key × T)) → is_some (find key_cmp key rows) ≡ true → has (λ other. is_key other key) (keys_of rows) ≡ true
  has_found key [] some = absurd (cc)
  has_found key (row ∷ rows) some = grind (arith, same_test key row.0, has_found key rows)

  -- the keys of a map's rows rise, and a key that has a value stands among them
  pub rise-rows : (rows : map.FinMap key_cmp T) → rise (keys_of (map.entries rows)) ≡ true
  rise-rows rows = rise_sorted (map.entries rows) (held _ (map.entries_sorted rows))

  pub has-rows : (rows : map.FinMap key_cmp T) (key : Key) (value : T) → map.get rows key ≡ Some value → has (λ other. is_key other key) (keys_of (map.entries rows)) ≡ true
  has-rows rows key value found = has_found key (map.entries rows) (ap is_some (sym (map.get-entries rows key) ∙ found))

-- The search: where a key doesn't come before this one, none behind it does.
every-at : (q : Key → Bool) (keys : List Key) (j : ℕ) (d : Key) → every q keys ≡ true → j < length keys → q (get_or keys j d) ≡ true
every-at q [] j d all lt = absurd (omega arith)
every-at q (k ∷ keys) zero d all lt = grind arith
every-at q (k ∷ keys) (suc j) d all lt = every-at q keys j d (grind arith) (omega arith)

chain : (x y z : Key) → is_before y x ≡ true → is_before z y ≡ true → is_before z x ≡ true
chain x y z one two = grind (arith, nat_tests)

pub partitioned : (key : Key) (keys : List Key) → rise keys ≡ true → IsPartitionedBy (is_before key) keys
partitioned key [] up i j d le lt before = absurd (omega arith)
partitioned key (k ∷ keys) up zero zero d le lt before = before
partitioned key (k ∷ keys) up zero (suc j) d le lt before = chain k (get_or keys j d) key (every-at (λ other. is_before other k) keys j d (grind arith) (omega arith)) before
partitioned key (k ∷ keys) up (suc i) zero d le lt before = absurd (omega arith)
partitioned key (k ∷ keys) up (suc i) (suc j) d le lt before = partitioned key keys (grind arith) i j d (omega arith) (omega arith) before

pub place-is : (key : Key) (keys : List Key) (i : ℕ) → i ≤ length keys → IsPartitionPoint (λ k. is_before key k ≡ true) (λ k. is_before key k ≡ false) keys i → i ≡ prefix_len (is_before key) keys
place-is key keys i bound point = sym (prefix_len_is (is_before key) keys i key bound (λ k l. point.0 k key (omega arith) l) (λ l. point.1 i key (omega arith) l))

-- The key stands in the place that the search gives.
behind-none : (key k : Key) (keys : List Key) → is_before key k ≡ false → every (λ other. is_before other k) keys ≡ true → has (λ other. is_key other key) keys ≡ false
behind-none key k [] away all = refl
behind-none key k (other ∷ keys) away all = at (is_key other key) refl (behind-none key k keys away (grind arith))
  where
    at : (b : Bool) → is_key other key ≡ b → has (λ (x : Key). is_key x key) keys ≡ false → has (λ (x : Key). is_key x key) (other ∷ keys) ≡ false
    at true own rest = absurd (let no : false ≡ true = grind (arith, nat_tests) in cc)
    at false off rest = rw off rest

pub gone : (key : Key) (keys : List Key) → rise keys ≡ true → has (λ other. is_key other key) keys ≡ true → (prefix_len (is_before key) keys < length keys) × (remove keys (prefix_len (is_before key) keys) ≡ without (λ other. is_key other key) keys)
gone key [] up stands = absurd (cc)
gone key (k ∷ keys) up stands = at (is_before key k) refl (is_key k key) refl (gone key keys (grind arith))
  where
    at : (b : Bool) → is_before key k ≡ b → (c : Bool) → is_key k key ≡ c → (has (λ (other : Key). is_key other key) keys ≡ true → (prefix_len (is_before key) keys < length keys) × (remove keys (prefix_len (is_before key) keys) ≡ without (λ (other : Key). is_key other key) keys)) → (prefix_len (is_before key) (k ∷ keys) < length (k ∷ keys)) × (remove (k ∷ keys) (prefix_len (is_before key) (k ∷ keys)) ≡ without (λ (other : Key). is_key other key) (k ∷ keys))
    at true before true own rest = absurd (let no : false ≡ true = grind (arith, nat_tests) in cc)
    at true before false off rest =
        let later : has (λ (other : Key). is_key other key) keys ≡ true = rw off at stands in
        let more : 1 + prefix_len (is_before key) keys ≡ suc (prefix_len (is_before key) keys) = omega arith in
        let found = rest later in
        rw (before, off, more) (omega (arith, found.0), ap (λ r. k ∷ r) found.1)
    at false away true own rest =
        let none = behind-none key k keys away (grind arith) in
        rw (away, own) (omega arith, sym (without-none (λ (other : Key). is_key other key) keys none))
    at false away false off rest =
        let none = behind-none key k keys away (grind arith) in
        absurd (let no : false ≡ true = sym none ∙ (rw off at stands) in cc)
