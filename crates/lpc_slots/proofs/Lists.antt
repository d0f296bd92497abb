-- The rows that pass a test among all rows.
use Rattle.std.proofs.Common.{◌≡◌, ◌≢◌, ◌⊎◌, ℕ, zero, suc, Bool, true, false, cond, refl, sym, ap, ◌∙◌, subst, inl, inr, List, [], ◌∷◌, ◌++◌, Option, Some, None, option_to_list, set, slice_get, arith}
use Rattle.std.proofs.lemmas.Bool.{cases_Bool}
use Rattle.lpc_base.specs.Rows.{which, without, first}
use Rattle.lpc_base.proofs.RowWords.{which-without}
use Rattle.lpc_slots.specs.declared.Key.{Key}
use Rattle.lpc_slots.specs.Table.{at_key, keys_of}
use Rattle.lpc_slots.specs.Chain.{IsAway, IsDistinct, first_or, last_or}
use Rattle.lpc_slots.proofs.Frames.{EachAway, each_nil, each_cons, keys_without, without_away}

-- a key that is apart from each key of the second list, and one of the first
each_at : (front : List Key) (key : Key) (back xs : List Key) → EachAway (front ++ key ∷ back) xs → IsAway (Some key) xs
each_at [] key back xs each = each.0
each_at (k ∷ front) key back xs each = each_at front key back xs each.1

each_left : (front back xs : List Key) → EachAway (front ++ back) xs → EachAway front xs
each_left [] back xs each = tt
each_left (k ∷ front) back xs each = (each.0, each_left front back xs each.1)

each_right : (front back xs : List Key) → EachAway (front ++ back) xs → EachAway back xs
each_right [] back xs each = each
each_right (k ∷ front) back xs each = each_right front back xs each.1

each_last : (d : Option Key) (ks xs : List Key) (k : Key) → EachAway ks xs → IsAway d xs → last_or d ks ≡ Some k → IsAway (Some k) xs
each_last d [] xs k each away last = subst (λ (o : Option Key). IsAway o xs) last away
each_last d (key ∷ ks) xs k each away last = each_last (Some key) ks xs k each.1 each.0 last

last_off : (ks xs : List Key) (k : Key) → EachAway ks xs → last_or None ks ≡ Some k → IsAway (Some k) xs
last_off [] xs k each last = absurd (cc)
last_off (key ∷ ks) xs k each last = each_last (Some key) ks xs k each.1 each.0 last

each_one : (xs : List Key) (o : Option Key) (rest : List Key) → ((k : Key) → o ≡ Some k → IsAway (Some k) xs) → EachAway xs rest → EachAway xs (option_to_list o ++ rest)
each_one xs None rest away each = each
each_one xs (Some k) rest away each = each_cons xs k rest (away k refl) each

-- the keys at the ends of a list that is apart
pub ends_last : (ks xs : List Key) → EachAway ks xs → EachAway xs (option_to_list (last_or None ks))
ends_last ks xs each = by (last_or None ks) (λ k last. last_off ks xs k each last)
  where
    by : (o : Option Key) → ((k : Key) → o ≡ Some k → IsAway (Some k) xs) → EachAway xs (option_to_list o)
    by None away = each_nil xs
    by (Some k) away = each_cons xs k [] (away k refl) (each_nil xs)

first_off : (ks xs : List Key) (k : Key) → EachAway ks xs → first_or None ks ≡ Some k → IsAway (Some k) xs
first_off [] xs k each is = absurd (cc)
first_off (key ∷ ks) xs k each is = subst (λ (o : Option Key). IsAway o xs) is each.0

pub ends_next : (front : List Key) (key : Key) (back xs : List Key) → EachAway (front ++ key ∷ back) xs → EachAway xs (option_to_list (last_or None front) ++ option_to_list (first_or None back))
ends_next front key back xs each =
    let last = each_left front (key ∷ back) xs each in
    let behind = (each_right front (key ∷ back) xs each).1 in
    each_one xs (last_or None front) (option_to_list (first_or None back)) (λ k is. last_off front xs k last is) (by (first_or None back) (λ k is. first_off back xs k behind is))
  where
    by : (o : Option Key) → ((k : Key) → o ≡ Some k → IsAway (Some k) xs) → EachAway xs (option_to_list o)
    by None away = each_nil xs
    by (Some k) away = each_cons xs k [] (away k refl) (each_nil xs)

-- where something is written in a list
pub written : {A : Type 0} (xs : List A) (i : ℕ) (fresh : A) (j : ℕ) (x : A) → slice_get (set xs i fresh) j ≡ Some x → ((j ≡ i) × (x ≡ fresh)) ⊎ ((j ≢ i) × (slice_get xs j ≡ Some x))
written [] i fresh j x is = absurd (cc)
written (y ∷ ys) zero fresh zero x is = inl (refl, let same : x ≡ fresh = cc in same)
written (y ∷ ys) zero fresh (suc j) x is = inr ((λ e. omega (arith, e)), is)
written (y ∷ ys) (suc i) fresh zero x is = inr ((λ e. omega (arith, e)), is)
written (y ∷ ys) (suc i) fresh (suc j) x is =
    elim (written ys i fresh j x is) [
      | inl here ↦ inl (ap suc here.0, here.1)
      | inr there ↦ inr ((λ e. there.0 (omega (arith, e))), there.1)
    ]

module _ {X : Type 0} where
  -- the keys of the rows that pass
  abbrev pub keys_by : (Key × X → Bool) → List (Key × X) → List Key
  keys_by test rows = keys_of (which test rows)

  on : (test : Key × X → Bool) (row : Key × X) (rows : List (Key × X)) → test row ≡ true → keys_by test (row ∷ rows) ≡ row.0 ∷ keys_by test rows
  on test row rows is = ap (λ b. keys_of (cond b (row ∷ which test rows) (which test rows))) is

  off : (test : Key × X → Bool) (row : Key × X) (rows : List (Key × X)) → test row ≡ false → keys_by test (row ∷ rows) ≡ keys_by test rows
  off test row rows is = ap (λ b. keys_of (cond b (row ∷ which test rows) (which test rows))) is

  pub away_by : (k : Option Key) (test : Key × X → Bool) (rows : List (Key × X)) → IsAway k (keys_of rows) → IsAway k (keys_by test rows)
  away_by k test [] away = tt
  away_by k test (row ∷ rows) away =
      elim (cases_Bool (test row)) [
        | inl is ↦ rw (on test row rows is) (away.0, away_by k test rows away.1)
        | inr not ↦ rw (off test row rows not) (away_by k test rows away.1)
      ]

  pub distinct_by : (test : Key × X → Bool) (rows : List (Key × X)) → IsDistinct (keys_of rows) → IsDistinct (keys_by test rows)
  distinct_by test [] distinct = tt
  distinct_by test (row ∷ rows) distinct =
      elim (cases_Bool (test row)) [
        | inl is ↦ rw (on test row rows is) (away_by (Some row.0) test rows distinct.0, distinct_by test rows distinct.1)
        | inr not ↦ rw (off test row rows not) (distinct_by test rows distinct.1)
      ]

  -- a row goes behind the others
  pub push_on : (test : Key × X → Bool) (rows : List (Key × X)) (row : Key × X) → test row ≡ true → keys_by test (rows ++ row ∷ []) ≡ keys_by test rows ++ row.0 ∷ []
  push_on test [] row same = on test row [] same
  push_on test (other ∷ rows) row same =
      elim (cases_Bool (test other)) [
        | inl is ↦ on test other (rows ++ row ∷ []) is ∙ ap (λ ks. other.0 ∷ ks) (push_on test rows row same) ∙ ap (λ ks. ks ++ row.0 ∷ []) (sym (on test other rows is))
        | inr not ↦ off test other (rows ++ row ∷ []) not ∙ push_on test rows row same ∙ ap (λ ks. ks ++ row.0 ∷ []) (sym (off test other rows not))
      ]

  pub push_off : (test : Key × X → Bool) (rows : List (Key × X)) (row : Key × X) → test row ≡ false → keys_by test (rows ++ row ∷ []) ≡ keys_by test rows
  push_off test [] row differs = off test row [] differs
  push_off test (other ∷ rows) row differs =
      elim (cases_Bool (test other)) [
        | inl is ↦ on test other (rows ++ row ∷ []) is ∙ ap (λ ks. other.0 ∷ ks) (push_off test rows row differs) ∙ sym (on test other rows is)
        | inr not ↦ off test other (rows ++ row ∷ []) not ∙ push_off test rows row differs ∙ sym (off test other rows not)
      ]

  -- no row passes two tests of which each leaves out what passes the other
  pub disjoint : (p q : Key × X → Bool) → ((row : Key × X) → p row ≡ true → q row ≡ false) → (rows : List (Key × X)) → IsDistinct (keys_of rows) → EachAway (keys_by p rows) (keys_by q rows)
  disjoint p q differ [] distinct = tt
  disjoint p q differ (row ∷ rows) distinct =
      let rest = disjoint p q differ rows distinct.1 in
      elim (cases_Bool (p row)) [
        | inl first ↦ rw (on p row rows first, off q row rows (differ row first)) (away_by (Some row.0) q rows distinct.0, rest)
        | inr not_first ↦
            elim (cases_Bool (q row)) [
              | inl second ↦ rw (off p row rows not_first, on q row rows second) (each_cons (keys_by p rows) row.0 (keys_by q rows) (away_by (Some row.0) p rows distinct.0) rest)
              | inr not_second ↦ rw (off p row rows not_first, off q row rows not_second) rest
            ]
      ]

  -- where a row stands among those that pass
  pub split_by : (test : Key × X → Bool) (key : Key) (value : X) (rows : List (Key × X)) → first (at_key key) rows ≡ Some (key, value) → test (key, value) ≡ true → (front : List Key) × (back : List Key) × (keys_by test rows ≡ front ++ key ∷ back)
  split_by test key value [] is passes = absurd (cc)
  split_by test key value (row ∷ rows) is passes =
      elim (cases_Bool (at_key key row)) [
        | inl here ↦
            let both : Some row ≡ Some (key, value) = sym (ap (λ b. cond b (Some row) (first (at_key key) rows)) here) ∙ is in
            let same : row ≡ (key, value) = cc in
            ([], keys_by test rows, on test row rows (ap test same ∙ passes) ∙ ap (λ (r : Key × X). r.0 ∷ keys_by test rows) same)
        | inr there ↦
            let later = split_by test key value rows (sym (ap (λ b. cond b (Some row) (first (at_key key) rows)) there) ∙ is) passes in
            elim (cases_Bool (test row)) [
              | inl own ↦ (row.0 ∷ later.0, later.1, on test row rows own ∙ ap (λ ks. row.0 ∷ ks) later.2)
              | inr not ↦ (later.0, later.1, off test row rows not ∙ later.2)
            ]
      ]

  -- a row goes: the keys of those that pass are those before it and those behind it, and those of another test are as they
  -- were
  pub gone_on : (test : Key × X → Bool) (key : Key) (rows : List (Key × X)) (front back : List Key) → IsDistinct (keys_of rows) → keys_by test rows ≡ front ++ key ∷ back → keys_by test (without (at_key key) rows) ≡ front ++ back
  gone_on test key rows front back distinct split =
      ap keys_of (which-without test (at_key key) rows)
      ∙ keys_without key front back (which test rows) (distinct_by test rows distinct) split

  pub gone_off : (p q : Key × X → Bool) (key : Key) (rows : List (Key × X)) (front back : List Key) → IsDistinct (keys_of rows) → keys_by p rows ≡ front ++ key ∷ back → ((row : Key × X) → p row ≡ true → q row ≡ false) → keys_by q (without (at_key key) rows) ≡ keys_by q rows
  gone_off p q key rows front back distinct split differ =
      let apart : EachAway (front ++ key ∷ back) (keys_by q rows) = subst (λ (ks : List Key). EachAway ks (keys_by q rows)) split (disjoint p q differ rows distinct) in
      ap keys_of (which-without q (at_key key) rows)
      ∙ ap keys_of (without_away key (which q rows) (each_at front key back (keys_by q rows) apart))
