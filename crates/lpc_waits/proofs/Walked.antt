-- A walk along a chain, to the first row that passes a test or through all of them. As lpc_ports has it for the messages
-- of a queue, here for any test.
use Rattle.std.proofs.Common.{◌≡◌, ◌≢◌, ◌<◌, ◌≤◌, ◌+◌, arith, ℕ, Bool, true, false, cond, length, refl, sym, ap, ◌∙◌, subst, inl, inr, List, [], ◌∷◌, ◌++◌, Option, Some, None, is_some, option_map, true≢false, slice_get, get_or}
use Rattle.std.specs.Prelude.{◌%◌, ◌==◌, option_and_then}
use Rattle.std.proofs.Math.Nat.{mod-lt}
use Rattle.std.proofs.lemmas.Bool.{cases_Bool, cases_lt}
use Rattle.std.proofs.lemmas.Option.{slice_get-get_or}
use Rattle.lpc_base.specs.Rows.{count, first, which}
use Rattle.lpc_slots.specs.declared.Key.{Key}
use Rattle.lpc_slots.specs.declared.chain.Chain.{Chain}
use Rattle.lpc_slots.specs.declared.chain.Links.{Links}
use Rattle.lpc_slots.specs.Table.{Table, at, at_key, is_key, keys_of, listed, parts}
use Rattle.lpc_slots.specs.Chain.{IsAway, IsDistinct, StandsFor, first_or, last_or}
use Rattle.lpc_slots.proofs.Chains.{away_right, neighbours, present_in}
use Rattle.lpc_slots.proofs.Keys.{key_apart, key_is, key_itself}
use Rattle.lpc_slots.proofs.Same.{at_first}
use Rattle.lpc_slots.specs.Buckets.{Stand, first_under, keys_in}
use Rattle.lpc_slots.proofs.Lists.{distinct_by}
use Rattle.lpc_waits.specs.Table.{WaitingThread}
use Rattle.lpc_waits.specs.declared.WaitRow.{WaitRow}
use Rattle.lpc_waits.specs.Lent.{keyed, waiting_of}
use Rattle.lpc_waits.specs.Walk.{chain_rows, is_beside, rows_from}
use Rattle.lpc_waits.proofs.Chained.{keyed_distinct, keys_append}

abbrev Row : Type 0
Row = Key × WaitingThread

-- ---- lists of rows

-- what passes a test passes another too
pub first_among : (test among : Row → Bool) → ((row : Row) → test row ≡ true → among row ≡ true) → (all : List Row) → first test (which among all) ≡ first test all
first_among test among more [] = refl
first_among test among more (row ∷ all) = grind (arith, more row, first_among test among more all)

pub count_among : (test among : Row → Bool) → ((row : Row) → test row ≡ true → among row ≡ true) → (all : List Row) → count test (which among all) ≡ count test all
count_among test among more [] = refl
count_among test among more (row ∷ all) = grind (arith, more row, count_among test among more all)

-- the rows from the first key on are all rows
pub from_first : (rows : List Row) → rows_from (first_or None (keys_of rows)) rows ≡ rows
from_first [] = refl
from_first (row ∷ rows) = ap (λ b. cond b (row ∷ rows) (rows_from (Some row.0) rows)) (key_itself row.0 row.0 refl)

split_from : (key : Key) (rows : List Row) → (front : List Row) × (rows ≡ front ++ rows_from (Some key) rows)
split_from key [] = ([], refl)
split_from key (row ∷ rows) =
    elim (cases_Bool (is_key row.0 key)) [
      | inl on ↦ ([], sym (ap (λ b. cond b (row ∷ rows) (rows_from (Some key) rows)) on))
      | inr off ↦
          let rest = split_from key rows in
          (row ∷ rest.0, ap (λ rs. row ∷ rs) rest.1 ∙ ap (λ rs. row ∷ rest.0 ++ rs) (sym (ap (λ b. cond b (row ∷ rows) (rows_from (Some key) rows)) off)))
    ]

-- behind a front without the key of a row
from_behind : (front : List Row) (row : Row) (back : List Row) → IsDistinct (keys_of (front ++ row ∷ back)) → rows_from (Some row.0) (front ++ row ∷ back) ≡ row ∷ back
from_behind [] row back distinct = ap (λ b. cond b (row ∷ back) (rows_from (Some row.0) back)) (key_itself row.0 row.0 refl)
from_behind (other ∷ front) row back distinct =
    let away : IsAway (Some other.0) (keys_of front ++ row.0 ∷ keys_of back) = subst (IsAway (Some other.0)) (keys_append front (row ∷ back)) distinct.0 in
    let differs : other.0 ≢ row.0 = λ e. (away_right (Some other.0) (keys_of front) (row.0 ∷ keys_of back) away).0 (ap Some e) in
    ap (λ b. cond b (other ∷ front ++ row ∷ back) (rows_from (Some row.0) (front ++ row ∷ back))) (key_apart other.0 row.0 differs) ∙ from_behind front row back distinct.1

assoc : (front : List Row) (row : Row) (back : List Row) → front ++ row ∷ back ≡ (front ++ row ∷ []) ++ back
assoc [] row back = refl
assoc (other ∷ front) row back = ap (λ rs. other ∷ rs) (assoc front row back)

from_next : (front : List Row) (row : Row) (back : List Row) → IsDistinct (keys_of (front ++ row ∷ back)) → rows_from (first_or None (keys_of back)) (front ++ row ∷ back) ≡ back
from_next front row [] distinct = refl
from_next front row (next ∷ back) distinct =
    let same = assoc front row (next ∷ back) in
    ap (rows_from (Some next.0)) same ∙ from_behind (front ++ row ∷ []) next back (subst (λ (rows : List Row). IsDistinct (keys_of rows)) same distinct)

-- each row of a key holds this value
abbrev HoldsAt : Key → WaitingThread → List Row → Type 0
HoldsAt key value [] = Unit {0}
HoldsAt key value (row ∷ rows) = (row.0 ≡ key → row.1 ≡ value) × HoldsAt key value rows

holds_away : (key : Key) (value : WaitingThread) (rows : List Row) → IsAway (Some key) (keys_of rows) → HoldsAt key value rows
holds_away key value [] away = tt
holds_away key value (row ∷ rows) away = ((λ same. absurd (away.0 (ap Some (sym same)))), holds_away key value rows away.1)

holds_at : (key : Key) (value : WaitingThread) (rows : List Row) → IsDistinct (keys_of rows) → option_map (λ row. row.1) (first (at_key key) rows) ≡ Some value → HoldsAt key value rows
holds_at key value [] distinct there = tt
holds_at key value (row ∷ rows) distinct there =
    elim (cases_Bool (is_key row.0 key)) [
      | inl on ↦
          let same : row.0 ≡ key = key_is row.0 key on in
          let is : Some row.1 ≡ Some value = sym (ap found on) ∙ there in
          ((λ _. let e : row.1 ≡ value = cc in e), holds_away key value rows (subst (λ (k : Key). IsAway (Some k) (keys_of rows)) same distinct.0))
      | inr off ↦ ((λ same. absurd (true≢false (sym (key_itself row.0 key same) ∙ off))), holds_at key value rows distinct.1 (sym (ap found off) ∙ there))
    ]
  where
    found : Bool → Option WaitingThread
    found b = option_map (λ (row : Row). row.1) (cond b (Some row) (first (at_key key) rows))

holds_which : (key : Key) (value : WaitingThread) (test : Row → Bool) (rows : List Row) → HoldsAt key value rows → HoldsAt key value (which test rows)
holds_which key value test [] holds = tt
holds_which key value test (row ∷ rows) holds =
    elim (cases_Bool (test row)) [
      | inl on ↦ rw on (holds.0, holds_which key value test rows holds.1)
      | inr off ↦ rw off (holds_which key value test rows holds.1)
    ]

holds_behind : (key : Key) (value : WaitingThread) (front back : List Row) → HoldsAt key value (front ++ back) → HoldsAt key value back
holds_behind key value [] back holds = holds
holds_behind key value (row ∷ front) back holds = holds_behind key value front back holds.1

-- ---- what stands in the table

part_at : (key : Key) (all : List (Key × WaitRow)) → option_map (λ (row : Row). row.1) (first (at_key key) (parts waiting_of all)) ≡ option_map (λ (row : Key × WaitRow). (waiting_of row.1)) (first (at_key key) all)
part_at key [] = refl
part_at key (row ∷ all) =
    elim (cases_Bool (is_key row.0 key)) [
      | inl on ↦ rw on refl
      | inr off ↦ rw off (part_at key all)
    ]

-- the row at a key
pub keyed_at : (rows : Table WaitRow) (key : Key) → option_map (λ (row : Row). row.1) (first (at_key key) (keyed rows)) ≡ option_map waiting_of (at rows key)
keyed_at rows key = part_at key (listed rows) ∙ twice (first (at_key key) (listed rows)) ∙ ap (option_map waiting_of) (sym (at_first rows key))
  where
    twice : (o : Option (Key × WaitRow)) → option_map (λ (row : Key × WaitRow). (waiting_of row.1)) o ≡ option_map waiting_of (option_map (λ (row : Key × WaitRow). row.1) o)
    twice None = refl
    twice (Some row) = refl

-- the rows whose numbers leave one remainder
bridge : (number_of : WaitingThread → ℕ) (many rest : ℕ) (all : List Row) → keys_in many rest (parts number_of all) ≡ keys_of (which (λ (row : Row). (number_of row.1 % many) == rest) all)
bridge number_of many rest [] = refl
bridge number_of many rest (row ∷ all) =
    elim (cases_Bool ((number_of row.1 % many) == rest)) [
      | inl on ↦ rw on (ap (λ ks. row.0 ∷ ks) (bridge number_of many rest all))
      | inr off ↦ rw off (bridge number_of many rest all)
    ]

-- the chain of a number, and where a walk along it begins
pub record HasChain (LIST : ℕ) (links_of : WaitRow → Links) (rows : Table WaitRow) (mine : List Row) (front : Option Key) : Type 0 where
  pub chain : Chain LIST
  pub stands : StandsFor links_of rows chain (keys_of mine)
  pub begins : front ≡ first_or None (keys_of mine)

none_of : (among : Row → Bool) (all : List Row) → length all ≤ 0 → which among all ≡ []
none_of among [] few = refl
none_of among (row ∷ all) few = absurd (omega arith)

pub chain_of : (LIST : ℕ) (links_of : WaitRow → Links) (rows : Table WaitRow) (chains : List (Chain LIST)) (number_of : WaitingThread → ℕ) (number : ℕ) → Stand links_of rows chains (parts number_of (keyed rows)) → (0 < length (keyed rows) → 0 < length chains) → HasChain LIST links_of rows (chain_rows number_of (length chains) number rows) (first_under chains number)
chain_of LIST links_of rows chains number_of number stand wide = by (slice_get chains (number % length chains)) refl
  where
    no_chain : Chain LIST
    no_chain = record { first = None; last = None }

    by : (o : Option (Chain LIST)) → slice_get chains (number % length chains) ≡ o → HasChain LIST links_of rows (chain_rows number_of (length chains) number rows) (first_under chains number)
    by (Some chain) is =
        let mine = subst (λ (ks : List Key). StandsFor links_of rows chain ks) (bridge number_of (length chains) (number % length chains) (keyed rows)) (stand (number % length chains) chain is) in
        record {
          chain = chain;
          stands = mine;
          begins = ap (option_and_then (λ (c : Chain LIST). c.first)) is ∙ mine.first;
        }
    by None is =
        let empty : which (is_beside number_of (length chains) number) (keyed rows) ≡ [] = none_of (is_beside number_of (length chains) number) (keyed rows) few in
        record {
          chain = no_chain;
          stands = subst (λ (mine : List Row). StandsFor links_of rows no_chain (keys_of mine)) (sym empty) (record { linked = tt; distinct = tt; first = refl; last = refl });
          begins = ap (option_and_then (λ (c : Chain LIST). c.first)) is ∙ sym (ap (λ mine. first_or None (keys_of mine)) empty);
        }
      where
        few : length (keyed rows) ≤ 0
        few =
            elim (cases_lt 0 (length (keyed rows))) [
              | inl some ↦
                  let there = slice_get-get_or chains (number % length chains) (record { first = None; last = None }) (mod-lt number (wide some)) in
                  let clash : None ≡ Some (get_or chains (number % length chains) (record { first = None; last = None })) = sym is ∙ there in
                  absurd (cc)
              | inr none ↦ omega arith
            ]

-- where a walk stands: at a row of the chain, with the rows behind it
record At (key : Key) (mine : List Row) : Type 0 where
  pub front : List Row
  pub row : Row
  pub back : List Row
  pub all : mine ≡ front ++ row ∷ back
  pub from : rows_from (Some key) mine ≡ row ∷ back
  pub is : row.0 ≡ key

walk_at : (key : Key) (mine : List Row) → first_or None (keys_of (rows_from (Some key) mine)) ≡ Some key → At key mine
walk_at key mine stands =
    let split = split_from key mine in
    by (rows_from (Some key) mine) refl split.0 split.1
  where
    by : (rest : List Row) → rows_from (Some key) mine ≡ rest → (front : List Row) → mine ≡ front ++ rows_from (Some key) mine → At key mine
    by [] from front all = absurd (let clash : None ≡ Some key = sym (ap (λ rows. first_or None (keys_of rows)) from) ∙ stands in cc)
    by (row ∷ back) from front all =
        let both : Some row.0 ≡ Some key = sym (ap (λ rows. first_or None (keys_of rows)) from) ∙ stands in
        record { front = front; row = row; back = back; all = all ∙ ap (λ rows. front ++ rows) from; from = from; is = (let e : row.0 ≡ key = cc in e) }

module _ {LIST : ℕ} (links_of : WaitRow → Links) (with_links : WaitRow → Links → WaitRow) (gives : (value : WaitRow) (links : Links) → links_of (with_links value links) ≡ links) (over : (value : WaitRow) (one two : Links) → with_links (with_links value one) two ≡ with_links value two)
    (rows : Table WaitRow) (among : Row → Bool) (front : Option Key) (on : HasChain LIST links_of rows (which among (keyed rows)) front) where
  abbrev mine : List Row
  mine = which among (keyed rows)

  -- where the walk begins
  pub all_from : rows_from front mine ≡ mine
  all_from = ap (λ o. rows_from o mine) on.begins ∙ from_first mine

  pub begins_there : first_or None (keys_of (rows_from front mine)) ≡ front
  begins_there = ap (λ rs. first_or None (keys_of rs)) all_from ∙ sym on.begins

  module _ (key : Key) (stands : first_or None (keys_of (rows_from (Some key) mine)) ≡ Some key) where
    here : At key mine
    here = walk_at key mine stands

    keys : keys_of mine ≡ keys_of here.front ++ key ∷ keys_of here.back
    keys = ap keys_of here.all ∙ keys_append here.front (here.row ∷ here.back) ∙ ap (λ k. keys_of here.front ++ k ∷ keys_of here.back) here.is

    split : StandsFor links_of rows on.chain (keys_of here.front ++ key ∷ keys_of here.back)
    split = subst (λ (ks : List Key). StandsFor links_of rows on.chain ks) keys on.stands

    -- there is a row
    pub row_there : at rows key ≢ None
    row_there none = absurd (let some = present_in links_of with_links gives over rows on.chain (keys_of here.front) key (keys_of here.back) split in true≢false (sym some ∙ ap is_some none))

    module _ (standing : WaitRow) (found : at rows key ≡ Some standing) where
      value_is : here.row.1 ≡ (waiting_of standing)
      value_is =
          let there : option_map (λ (row : Row). row.1) (first (at_key key) (keyed rows)) ≡ Some (waiting_of standing) = keyed_at rows key ∙ ap (option_map waiting_of) found in
          let all = holds_which key (waiting_of standing) among (keyed rows) (holds_at key (waiting_of standing) (keyed rows) (keyed_distinct rows) there) in
          (holds_behind key (waiting_of standing) here.front (here.row ∷ here.back) (subst (HoldsAt key (waiting_of standing)) here.all all)).0 here.is

      row_is : here.row ≡ (key, (waiting_of standing))
      row_is i = (here.is i, value_is i)

      from_here : rows_from (Some key) mine ≡ (key, (waiting_of standing)) ∷ here.back
      from_here = here.from ∙ ap (λ (r : Row). r ∷ here.back) row_is

      -- a row that passes is the first one from there on
      pub met_here : (test : Row → Bool) → test (key, (waiting_of standing)) ≡ true → first test (rows_from (Some key) mine) ≡ Some (key, (waiting_of standing))
      met_here test met = ap (first test) from_here ∙ ap (λ b. cond b (Some (key, (waiting_of standing))) (first test here.back)) met

      after_is : (links_of standing).after ≡ first_or None (keys_of here.back)
      after_is =
          let links : Some (links_of standing) ≡ Some (record { before = last_or None (keys_of here.front); after = first_or None (keys_of here.back) }) = sym (ap (option_map links_of) found) ∙ neighbours links_of with_links gives over rows on.chain (keys_of here.front) key (keys_of here.back) split in
          let same : links_of standing ≡ record { before = last_or None (keys_of here.front); after = first_or None (keys_of here.back) } = cc in
          ap (λ (l : Links). l.after) same

      -- the rows from the next key on are those behind this one
      from_after : rows_from (links_of standing).after mine ≡ here.back
      from_after =
          let distinct : IsDistinct (keys_of (here.front ++ here.row ∷ here.back)) = subst (λ (rs : List Row). IsDistinct (keys_of rs)) here.all (distinct_by among (keyed rows) (keyed_distinct rows)) in
          ap (λ o. rows_from o mine) after_is ∙ ap (rows_from (first_or None (keys_of here.back))) here.all ∙ from_next here.front here.row here.back distinct

      pub stands_after : first_or None (keys_of (rows_from (links_of standing).after mine)) ≡ (links_of standing).after
      stands_after = ap (λ rs. first_or None (keys_of rs)) from_after ∙ sym after_is

      pub passed_over : (test : Row → Bool) → test (key, (waiting_of standing)) ≡ false → first test (rows_from (links_of standing).after mine) ≡ first test (rows_from (Some key) mine)
      passed_over test off =
          ap (first test) from_after ∙ sym (ap (first test) from_here ∙ ap (λ b. cond b (Some (key, (waiting_of standing))) (first test here.back)) off)

      pub counted_on : (test : Row → Bool) → count test (rows_from (Some key) mine) ≡ cond (test (key, (waiting_of standing))) 1 0 + count test (rows_from (links_of standing).after mine)
      counted_on test = ap (count test) from_here ∙ by (test (key, (waiting_of standing))) ∙ ap (λ rs. cond (test (key, (waiting_of standing))) 1 0 + count test rs) (sym from_after)
        where
          by : (b : Bool) → length (cond b ((key, (waiting_of standing)) ∷ which test here.back) (which test here.back)) ≡ cond b 1 0 + count test here.back
          by true = omega arith
          by false = omega arith

      pub fewer_after : length (rows_from (links_of standing).after mine) < length (rows_from (Some key) mine)
      fewer_after = shorter _ _ _ from_after here.from
        where
          shorter : (one two back : List Row) → one ≡ back → two ≡ here.row ∷ back → length one < length two
          shorter one two back is all = omega (arith, ap length is, ap length all)
