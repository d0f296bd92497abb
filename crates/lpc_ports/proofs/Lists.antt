-- The messages of one port among all messages.
use Rattle.std.proofs.Common.{◌≡◌, ◌≢◌, ◌&&◌, ◌||◌, arith, Bool, true, cond, refl, sym, ap, ◌∙◌, subst, inl, inr, List, [], ◌∷◌, ◌++◌, Option, Some, None, option_map, option_to_list, is_some}
use Rattle.std.proofs.lemmas.Bool.{cases_Bool, and_parts}
use Rattle.lpc_base.specs.Rows.{has, which, without, first}
use Rattle.lpc_base.proofs.RowWords.{which-without}
use Rattle.lpc_slots.specs.declared.Key.{Key}
use Rattle.lpc_slots.specs.Table.{at_key, is_key, keys_of}
use Rattle.lpc_slots.specs.Chain.{IsAway, IsDistinct, first_or, last_or}
use Rattle.lpc_slots.proofs.Keys.{key_cases, key_is, key_itself, key_apart}
use Rattle.lpc_slots.proofs.Frames.{EachAway, each_nil, each_cons, keys_without, without_away}
use Rattle.lpc_ports.specs.Table.{QueuedMessage, is_in, is_message_at, is_sent_on}
use Rattle.lpc_ports.specs.Lent.{is_by, keys_by}

-- the first key of rows
pub first_of_which : {X : Type 0} (test : Key × X → Bool) (rows : List (Key × X)) → first_or None (keys_of (which test rows)) ≡ option_map (λ row. row.0) (first test rows)
first_of_which test [] = refl
first_of_which test (row ∷ rows) =
    elim (cases_Bool (test row)) [
      | inl on ↦ rw on refl
      | inr off ↦ rw off (first_of_which test rows)
    ]

-- there is a first key where a row passes
pub first_has : {X : Type 0} (test : Key × X → Bool) (rows : List (Key × X)) → is_some (first_or None (keys_of (which test rows))) ≡ has test rows
first_has test [] = refl
first_has test (row ∷ rows) =
    elim (cases_Bool (test row)) [
      | inl on ↦ rw on refl
      | inr off ↦ rw off (first_has test rows)
    ]

-- a message is at a port where it was sent on it or stands in its queue
pub either_has : (port : Key) (rows : List (Key × QueuedMessage)) → has (is_message_at port) rows ≡ (has (is_sent_on port) rows || has (is_in port) rows)
either_has port [] = refl
either_has port (row ∷ rows) = grind (arith, either_has port rows)

-- a key that is apart from each key of the second list, and one of the first
pub each_at : (front : List Key) (key : Key) (back xs : List Key) → EachAway (front ++ key ∷ back) xs → IsAway (Some key) xs
each_at [] key back xs each = each.0
each_at (k ∷ front) key back xs each = each_at front key back xs each.1

each_left : (front back xs : List Key) → EachAway (front ++ back) xs → EachAway front xs
each_left [] back xs each = tt
each_left (k ∷ front) back xs each = (each.0, each_left front back xs each.1)

each_right : (front back xs : List Key) → EachAway (front ++ back) xs → EachAway back xs
each_right [] back xs each = each
each_right (k ∷ front) back xs each = each_right front back xs each.1

each_last : (d : Option Key) (ks xs : List Key) (k : Key) → EachAway ks xs → IsAway d xs → last_or d ks ≡ Some k → IsAway (Some k) xs
each_last d [] xs k each away last = subst (λ (o : Option Key). IsAway o xs) last away
each_last d (key ∷ ks) xs k each away last = each_last (Some key) ks xs k each.1 each.0 last

last_off : (ks xs : List Key) (k : Key) → EachAway ks xs → last_or None ks ≡ Some k → IsAway (Some k) xs
last_off [] xs k each last = absurd (cc)
last_off (key ∷ ks) xs k each last = each_last (Some key) ks xs k each.1 each.0 last

each_one : (xs : List Key) (o : Option Key) (rest : List Key) → ((k : Key) → o ≡ Some k → IsAway (Some k) xs) → EachAway xs rest → EachAway xs (option_to_list o ++ rest)
each_one xs None rest away each = each
each_one xs (Some k) rest away each = each_cons xs k rest (away k refl) each

-- the keys at the ends of a list that is apart
pub ends_last : (ks xs : List Key) → EachAway ks xs → EachAway xs (option_to_list (last_or None ks))
ends_last ks xs each = by (last_or None ks) (λ k last. last_off ks xs k each last)
  where
    by : (o : Option Key) → ((k : Key) → o ≡ Some k → IsAway (Some k) xs) → EachAway xs (option_to_list o)
    by None away = each_nil xs
    by (Some k) away = each_cons xs k [] (away k refl) (each_nil xs)

first_off : (ks xs : List Key) (k : Key) → EachAway ks xs → first_or None ks ≡ Some k → IsAway (Some k) xs
first_off [] xs k each is = absurd (cc)
first_off (key ∷ ks) xs k each is = subst (λ (o : Option Key). IsAway o xs) is each.0

-- the keys next to a key of a list that is apart
pub ends_next : (front : List Key) (key : Key) (back xs : List Key) → EachAway (front ++ key ∷ back) xs → EachAway xs (option_to_list (last_or None front) ++ option_to_list (first_or None back))
ends_next front key back xs each =
    let behind : EachAway back xs = (each_right front (key ∷ back) xs each).1 in
    each_one xs (last_or None front) _ (λ k is. last_off front xs k (each_left front (key ∷ back) xs each) is)
    (by (first_or None back) (λ k is. first_off back xs k behind is))
  where
    by : (o : Option Key) → ((k : Key) → o ≡ Some k → IsAway (Some k) xs) → EachAway xs (option_to_list o)
    by None away = each_nil xs
    by (Some k) away = each_cons xs k [] (away k refl) (each_nil xs)

module _ (owner : QueuedMessage → Key) where
  abbrev mine : Key → List (Key × QueuedMessage) → List (Key × QueuedMessage)
  mine port rows = which (is_by owner port) rows

  on : (port : Key) (row : Key × QueuedMessage) (rows : List (Key × QueuedMessage)) → owner row.1 ≡ port → keys_by owner port (row ∷ rows) ≡ row.0 ∷ keys_by owner port rows
  on port row rows same = ap (λ b. keys_of (cond b (row ∷ mine port rows) (mine port rows))) (key_itself (owner row.1) port same)

  off : (port : Key) (row : Key × QueuedMessage) (rows : List (Key × QueuedMessage)) → owner row.1 ≢ port → keys_by owner port (row ∷ rows) ≡ keys_by owner port rows
  off port row rows differs = ap (λ b. keys_of (cond b (row ∷ mine port rows) (mine port rows))) (key_apart (owner row.1) port differs)

  pub away_by : (k : Option Key) (port : Key) (rows : List (Key × QueuedMessage)) → IsAway k (keys_of rows) → IsAway k (keys_by owner port rows)
  away_by k port [] away = tt
  away_by k port (row ∷ rows) away =
      elim (key_cases (owner row.1) port) [
        | inl same ↦ rw (on port row rows same) (away.0, away_by k port rows away.1)
        | inr differs ↦ rw (off port row rows differs) (away_by k port rows away.1)
      ]

  pub distinct_by : (port : Key) (rows : List (Key × QueuedMessage)) → IsDistinct (keys_of rows) → IsDistinct (keys_by owner port rows)
  distinct_by port [] distinct = tt
  distinct_by port (row ∷ rows) distinct =
      elim (key_cases (owner row.1) port) [
        | inl same ↦ rw (on port row rows same) (away_by (Some row.0) port rows distinct.0, distinct_by port rows distinct.1)
        | inr differs ↦ rw (off port row rows differs) (distinct_by port rows distinct.1)
      ]

  -- a message goes behind the others
  pub push_on : (port : Key) (rows : List (Key × QueuedMessage)) (row : Key × QueuedMessage) → owner row.1 ≡ port → keys_by owner port (rows ++ row ∷ []) ≡ keys_by owner port rows ++ row.0 ∷ []
  push_on port [] row same = on port row [] same
  push_on port (other ∷ rows) row same =
      elim (key_cases (owner other.1) port) [
        | inl is ↦ on port other (rows ++ row ∷ []) is ∙ ap (λ ks. other.0 ∷ ks) (push_on port rows row same) ∙ ap (λ ks. ks ++ row.0 ∷ []) (sym (on port other rows is))
        | inr differs ↦ off port other (rows ++ row ∷ []) differs ∙ push_on port rows row same ∙ ap (λ ks. ks ++ row.0 ∷ []) (sym (off port other rows differs))
      ]

  pub push_off : (port : Key) (rows : List (Key × QueuedMessage)) (row : Key × QueuedMessage) → owner row.1 ≢ port → keys_by owner port (rows ++ row ∷ []) ≡ keys_by owner port rows
  push_off port [] row differs = off port row [] differs
  push_off port (other ∷ rows) row differs =
      elim (key_cases (owner other.1) port) [
        | inl is ↦ on port other (rows ++ row ∷ []) is ∙ ap (λ ks. other.0 ∷ ks) (push_off port rows row differs) ∙ sym (on port other rows is)
        | inr apart ↦ off port other (rows ++ row ∷ []) apart ∙ push_off port rows row differs ∙ sym (off port other rows apart)
      ]

  -- no message stands on the chains of two ports
  pub disjoint : (p q : Key) → p ≢ q → (rows : List (Key × QueuedMessage)) → IsDistinct (keys_of rows) → EachAway (keys_by owner p rows) (keys_by owner q rows)
  disjoint p q differ [] distinct = tt
  disjoint p q differ (row ∷ rows) distinct =
      let rest = disjoint p q differ rows distinct.1 in
      elim (key_cases (owner row.1) p) [
        | inl first ↦ rw (on p row rows first, off q row rows (λ e. differ (sym first ∙ e))) (away_by (Some row.0) q rows distinct.0, rest)
        | inr not_first ↦
            elim (key_cases (owner row.1) q) [
              | inl second ↦ rw (off p row rows not_first, on q row rows second) (each_cons (keys_by owner p rows) row.0 (keys_by owner q rows) (away_by (Some row.0) p rows distinct.0) rest)
              | inr not_second ↦ rw (off p row rows not_first, off q row rows not_second) rest
            ]
      ]

  -- where a message stands among its port's
  pub split_by : (key port : Key) (rows : List (Key × QueuedMessage)) → has (λ row. is_key row.0 key && is_by owner port row) rows ≡ true → (front : List Key) × (back : List Key) × (keys_by owner port rows ≡ front ++ key ∷ back)
  split_by key port [] some = absurd (cc)
  split_by key port (row ∷ rows) some =
      elim (cases_Bool (is_key row.0 key && is_by owner port row)) [
        | inl here ↦
            let both = and_parts (is_key row.0 key) (is_by owner port row) here in
            ([], keys_by owner port rows, on port row rows (key_is (owner row.1) port both.1) ∙ ap (λ k. k ∷ keys_by owner port rows) (key_is row.0 key both.0))
        | inr there ↦
            let later = split_by key port rows (sym (ap (λ b. is_some (cond b (Some row) (first (λ row. is_key row.0 key && is_by owner port row) rows))) there) ∙ some) in
            elim (key_cases (owner row.1) port) [
              | inl is ↦ (row.0 ∷ later.0, later.1, on port row rows is ∙ ap (λ ks. row.0 ∷ ks) later.2)
              | inr differs ↦ (later.0, later.1, off port row rows differs ∙ later.2)
            ]
      ]

  -- a message goes: its port's keys are those before it and those behind it, and another port's are as they were
  pub gone_on : (key port : Key) (rows : List (Key × QueuedMessage)) (front back : List Key) → IsDistinct (keys_of rows) → keys_by owner port rows ≡ front ++ key ∷ back → keys_by owner port (without (at_key key) rows) ≡ front ++ back
  gone_on key port rows front back distinct split =
      ap keys_of (which-without (is_by owner port) (at_key key) rows)
      ∙ keys_without key front back (mine port rows) (distinct_by port rows distinct) split

  pub gone_off : (key port other : Key) (rows : List (Key × QueuedMessage)) (front back : List Key) → IsDistinct (keys_of rows) → keys_by owner port rows ≡ front ++ key ∷ back → port ≢ other → keys_by owner other (without (at_key key) rows) ≡ keys_by owner other rows
  gone_off key port other rows front back distinct split differ =
      let apart : EachAway (front ++ key ∷ back) (keys_by owner other rows) = subst (λ (ks : List Key). EachAway ks (keys_by owner other rows)) split (disjoint port other differ rows distinct) in
      ap keys_of (which-without (is_by owner other) (at_key key) rows)
      ∙ ap keys_of (without_away key (mine other rows) (each_at front key back (keys_by owner other rows) apart))
