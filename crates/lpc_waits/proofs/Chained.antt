-- What a change of links does to the rows, and to the chains on which they stand.
use Rattle.std.proofs.Common.{◌≡◌, ◌+◌, ℕ, zero, suc, cond, refl, sym, ap, ◌∙◌, subst, inl, inr, List, [], ◌∷◌, ◌++◌, Option, Some, None, is_some, option_map, length, slice_get, take, drop, ◌≤◌, arith}
use Rattle.std.proofs.lemmas.Bool.{cases_Bool}
use Rattle.lpc_base.specs.Rows.{first, without}
use Rattle.lpc_slots.specs.declared.Key.{Key}
use Rattle.lpc_slots.specs.declared.chain.Links.{Links}
use Rattle.lpc_slots.specs.declared.chain.Chain.{Chain}
use Rattle.lpc_slots.specs.Table.{Table, at, at_key, is_key, keys_of, listed, parts}
use Rattle.lpc_slots.specs.Chain.{IsAlone, IsAway, IsDistinct, IsRelinked}
use Rattle.std.specs.FinMap as map
use Rattle.lpc_slots.proofs.Chains.{distinct_left, front_is_away}
use Rattle.lpc_slots.proofs.Keys.{key_is}
use Rattle.lpc_slots.proofs.Ordered.{found_in}
use Rattle.lpc_slots.proofs.Same.{listed_apart}
use Rattle.lpc_slots.proofs.Frames.{distinct_listed, keys_parts, parts_push, parts_without, same_parts}
use Rattle.lpc_slots.specs.Buckets.{Enters, IsPlaced, Leaves, RelinksSome, Stand}
use Rattle.lpc_waits.specs.Table.{WaitingThread}
use Rattle.lpc_waits.specs.declared.WaitRow.{WaitRow}
use Rattle.lpc_waits.specs.Lent.{keyed, waiting_of}
use Rattle.lpc_waits.specs.Layout.{KeepsRows}

-- a change of links keeps the rows
pub keeps : (with_links : WaitRow → Links → WaitRow) → ((value : WaitRow) (links : Links) → waiting_of (with_links value links) ≡ waiting_of value) → (old new : Table WaitRow) → RelinksSome with_links old new → KeepsRows old new
keeps with_links same old new links = record {
  rows = λ key. by (at old key) (at new key) (links.1.values key);
  spare = links.1.spare;
  made = links.1.made;
}
  where
    by : (o n : Option WaitRow) → IsRelinked with_links o n → option_map waiting_of n ≡ option_map waiting_of o
    by o n (inl e) = ap (option_map waiting_of) e
    by o n (inr p) = ap (option_map waiting_of) p.3 ∙ ap Some (same p.0 p.1) ∙ sym (ap (option_map waiting_of) p.2)

-- a change of links of other chains keeps a row that stands alone so
pub alone_across : (links_of : WaitRow → Links) (old new : Table WaitRow) (key : Key) (with_links : WaitRow → Links → WaitRow) → ((value : WaitRow) (links : Links) → links_of (with_links value links) ≡ links_of value) → RelinksSome with_links old new → IsAlone links_of old key → IsAlone links_of new key
alone_across links_of old new key with_links same links alone = by (at old key) (at new key) (links.1.values key) ∙ alone
  where
    by : (o n : Option WaitRow) → IsRelinked with_links o n → option_map links_of n ≡ option_map links_of o
    by o n (inl e) = ap (option_map links_of) e
    by o n (inr p) = ap (option_map links_of) p.3 ∙ ap Some (same p.0 p.1) ∙ sym (ap (option_map links_of) p.2)

pub keeps_none : (rows : Table WaitRow) → KeepsRows rows rows
keeps_none rows = record { rows = λ _. refl; spare = refl; made = refl }

pub keeps_twice : (one two three : Table WaitRow) → KeepsRows one two → KeepsRows two three → KeepsRows one three
keeps_twice one two three first second = record {
  rows = λ key. second.rows key ∙ first.rows key;
  spare = second.spare ∙ first.spare;
  made = second.made ∙ first.made;
}

pub mapped_some : {A B : Type 0} (f : A → B) (o : Option A) → is_some (option_map f o) ≡ is_some o
mapped_some f None = refl
mapped_some f (Some x) = refl

module _ (old new : Table WaitRow) (kept : KeepsRows old new) where
  pub kept_keyed : keyed new ≡ keyed old
  kept_keyed = same_parts waiting_of old.rows new.rows kept.rows

  pub kept_some : (key : Key) → is_some (at new key) ≡ is_some (at old key)
  kept_some key = sym (mapped_some waiting_of (at new key)) ∙ ap is_some (kept.rows key) ∙ mapped_some waiting_of (at old key)

pub keyed_distinct : (rows : Table WaitRow) → IsDistinct (keys_of (keyed rows))
keyed_distinct rows = subst (λ (ks : List Key). IsDistinct ks) (sym (keys_parts waiting_of (listed rows))) (distinct_listed rows)

-- the row of a key, where its number is shown alone
numbered : (number_of : WaitingThread → ℕ) (key : Key) (row : WaitingThread) (all : List (Key × WaitingThread)) → first (at_key key) all ≡ Some (key, row) → first (at_key key) (parts number_of all) ≡ Some (key, number_of row)
numbered number_of key row [] is = absurd (cc)
numbered number_of key row (other ∷ all) is =
    elim (cases_Bool (at_key key other)) [
      | inl on ↦
          let both : Some other ≡ Some (key, row) = sym (ap (λ b. cond b (Some other) (first (at_key key) all)) on) ∙ is in
          let same : other ≡ (key, row) = cc in
          rw on (ap (λ (r : Key × WaitingThread). Some (r.0, number_of r.1)) same)
      | inr off ↦ rw off (numbered number_of key row all (sym (ap (λ b. cond b (Some other) (first (at_key key) all)) off) ∙ is))
    ]

-- where the key of a row stands among the keys
pub split_key : {A : Type 0} (key : Key) (row : A) (all : List (Key × A)) → first (at_key key) all ≡ Some (key, row) → (front : List Key) × (back : List Key) × (keys_of all ≡ front ++ key ∷ back)
split_key key row [] is = absurd (cc)
split_key {A} key row (other ∷ all) is =
    elim (cases_Bool (is_key other.0 key)) [
      | inl on ↦ ([], keys_of all, ap (λ k. k ∷ keys_of all) (key_is other.0 key on))
      | inr off ↦
          let rest = split_key key row all (sym (ap (λ b. cond b (Some other) (first (at_key key) all)) off) ∙ is) in
          (other.0 ∷ rest.0, rest.1, ap (λ ks. other.0 ∷ ks) rest.2)
    ]

module _ {LIST : ℕ} (links_of : WaitRow → Links) (number_of : WaitingThread → ℕ) (old new : Table WaitRow) (from to : List (Chain LIST)) (key : Key) (number : ℕ) where
  -- a row comes on the chain of its number
  pub enters_on : Enters links_of old new from to key number → (all : List (Key × WaitingThread)) (row : WaitingThread) → Stand links_of old from (parts number_of all) → IsDistinct (keys_of all) → IsAway (Some key) (keys_of all) → number_of row ≡ number → Stand links_of new to (parts number_of (all ++ (key, row) ∷ []))
  enters_on enters all row stand distinct away own =
      rw (parts_push number_of all key row, own)
      (enters (parts number_of all) stand (subst (λ (ks : List Key). IsDistinct ks) (sym (keys_parts number_of all)) distinct) (subst (λ (ks : List Key). IsAway (Some key) ks) (sym (keys_parts number_of all)) away))

  pub placed_on : (all : List (Key × WaitingThread)) (row : WaitingThread) → IsDistinct (keys_of all) → first (at_key key) all ≡ Some (key, row) → number_of row ≡ number → IsPlaced key number (parts number_of all)
  placed_on all row distinct stands own = record {
    distinct = subst (λ (ks : List Key). IsDistinct ks) (sym (keys_parts number_of all)) distinct;
    stands = numbered number_of key row all stands ∙ ap (λ n. Some (key, n)) own;
  }

  -- a row goes from the chain of its number
  pub leaves_on : Leaves links_of old new from to key number → (all : List (Key × WaitingThread)) (row : WaitingThread) → Stand links_of old from (parts number_of all) → IsDistinct (keys_of all) → first (at_key key) all ≡ Some (key, row) → number_of row ≡ number → Stand links_of new to (parts number_of (without (at_key key) all))
  leaves_on leaves all row stand distinct stands own =
      rw (parts_without number_of key all) (leaves (parts number_of all) stand (placed_on all row distinct stands own))

-- the rows up to a place, and the one there
take_suc : {A : Type 0} (xs : List A) (i : ℕ) (x : A) → slice_get xs i ≡ Some x → take (suc i) xs ≡ take i xs ++ x ∷ []
take_suc [] i x here = absurd (cc)
take_suc (y ∷ ys) zero x here = let same : y ≡ x = cc in ap (λ z. z ∷ []) same
take_suc (y ∷ ys) (suc i) x here = ap (λ zs. y ∷ zs) (take_suc ys i x here)

pub take_next : {A : Type 0} (xs : List A) (i : ℕ) (x : A) → slice_get xs i ≡ Some x → take (i + 1) xs ≡ take i xs ++ x ∷ []
take_next xs i x here =
    let more : i + 1 ≡ suc i = omega arith in
    ap (λ k. take k xs) more ∙ take_suc xs i x here

split_at : {A : Type 0} (xs : List A) (i : ℕ) (x : A) → slice_get xs i ≡ Some x → xs ≡ take i xs ++ x ∷ drop (suc i) xs
split_at [] i x here = absurd (cc)
split_at (y ∷ ys) zero x here = let same : y ≡ x = cc in ap (λ z. z ∷ ys) same
split_at (y ∷ ys) (suc i) x here = ap (λ zs. y ∷ zs) (split_at ys i x here)

pub take_all : {A : Type 0} (xs : List A) (i : ℕ) → length xs ≤ i → take i xs ≡ xs
take_all [] zero le = refl
take_all [] (suc i) le = refl
take_all (x ∷ xs) zero le = absurd (omega arith)
take_all (x ∷ xs) (suc i) le = ap (λ zs. x ∷ zs) (take_all xs i (omega arith))

pub keys_append : {A : Type 0} (front back : List (Key × A)) → keys_of (front ++ back) ≡ keys_of front ++ keys_of back
keys_append [] back = refl
keys_append (row ∷ front) back = ap (λ ks. row.0 ∷ ks) (keys_append front back)

-- a row at a place of the table
module _ (rows : Table WaitRow) (place : ℕ) (key : Key) (standing : WaitRow) (here : slice_get (listed rows) place ≡ Some (key, standing)) where
  pub at_place : at rows key ≡ Some standing
  at_place = map.get-entries rows.rows key ∙ found_in (listed rows) place key standing (listed_apart rows) here

  pub shown_place : slice_get (keyed rows) place ≡ Some (key, (waiting_of standing))
  shown_place = by (listed rows) place here
    where
      by : (all : List (Key × WaitRow)) (i : ℕ) → slice_get all i ≡ Some (key, standing) → slice_get (parts waiting_of all) i ≡ Some (key, (waiting_of standing))
      by [] i is = absurd (cc)
      by (row ∷ all) zero is = let same : row ≡ (key, standing) = cc in ap (λ (r : Key × WaitRow). Some (r.0, (waiting_of r.1))) same
      by (row ∷ all) (suc i) is = by all i is

-- a key at a place stands apart from those before it, which are apart from each other
pub before_place : (all : List (Key × WaitingThread)) (place : ℕ) (key : Key) (row : WaitingThread) → IsDistinct (keys_of all) → slice_get all place ≡ Some (key, row) → IsDistinct (keys_of (take place all)) × IsAway (Some key) (keys_of (take place all))
before_place all place key row distinct here =
    let front = take place all in
    let back = drop (suc place) all in
    let keys : keys_of all ≡ keys_of front ++ key ∷ keys_of back = ap keys_of (split_at all place (key, row) here) ∙ keys_append front ((key, row) ∷ back) in
    let both : IsDistinct (keys_of front ++ key ∷ keys_of back) = subst (λ (ks : List Key). IsDistinct ks) keys distinct in
    (distinct_left (keys_of front) (key ∷ keys_of back) both, front_is_away (keys_of front) key (keys_of back) both)

pub length_keyed : (rows : Table WaitRow) → length (keyed rows) ≡ length (listed rows)
length_keyed rows = by (listed rows)
  where
    by : (all : List (Key × WaitRow)) → length (parts waiting_of all) ≡ length all
    by [] = refl
    by (row ∷ all) = ap suc (by all)
