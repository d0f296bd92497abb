-- A walk along a queue's chain, to the first connection request.
use Rattle.std.proofs.Common.{◌≡◌, ◌≢◌, ◌<◌, arith, Bool, true, false, cond, not, length, refl, sym, ap, ◌∙◌, subst, inl, inr, List, [], ◌∷◌, ◌++◌, Option, Some, None, is_some, option_map, true≢false}
use Rattle.std.proofs.lemmas.Bool.{cases_Bool}
use Rattle.lpc_base.specs.Rows.{every, first, which}
use Rattle.lpc_slots.specs.declared.Key.{Key}
use Rattle.lpc_slots.specs.declared.chain.Chain.{Chain}
use Rattle.lpc_slots.specs.declared.chain.Links.{Links}
use Rattle.lpc_slots.specs.Table.{Table, at, at_key, is_key, keys_of}
use Rattle.lpc_slots.specs.Chain.{IsAway, IsDistinct, StandsFor, first_or, last_or}
use Rattle.lpc_slots.proofs.Chains.{away_right, neighbours, present_in}
use Rattle.lpc_slots.proofs.Keys.{key_apart, key_is, key_itself}
use Rattle.lpc_ports.specs.declared.messages.Block.{Block}
use Rattle.lpc_ports.specs.Table.{QueuedMessage, is_connect_in, is_in, row_at}
use Rattle.lpc_ports.specs.Layout.{with_in_queue}
use Rattle.lpc_ports.specs.Lent.{in_queue_of, keys_by, messages_of, queue_of, queued_of}
use Rattle.lpc_ports.specs.Walk.{is_connect, queue_rows, rows_from}
use Rattle.lpc_ports.proofs.Lists.{distinct_by}
use Rattle.lpc_ports.proofs.Ordered.{keys_apart, shown_at}

-- the first connection request of a queue is the first among the messages of the queue
pub first_walked : (queue : Key) (messages : List (Key × QueuedMessage)) → first (is_connect_in queue) messages ≡ first is_connect (queue_rows queue messages)
first_walked queue [] = refl
first_walked queue (row ∷ messages) = grind (arith, first_walked queue messages)

pub connect_none : (queue : Key) (messages : List (Key × QueuedMessage)) → every (λ row. not (is_in queue row)) messages ≡ true → first (is_connect_in queue) messages ≡ None
connect_none queue [] all = refl
connect_none queue (row ∷ messages) all = grind (arith, connect_none queue messages)

-- the rows from the first key on are all rows
pub from_first : (rows : List (Key × QueuedMessage)) → rows_from (first_or None (keys_of rows)) rows ≡ rows
from_first [] = refl
from_first (row ∷ rows) = ap (λ b. cond b (row ∷ rows) (rows_from (Some row.0) rows)) (key_itself row.0 row.0 refl)

split_from : (key : Key) (rows : List (Key × QueuedMessage)) → (front : List (Key × QueuedMessage)) × (rows ≡ front ++ rows_from (Some key) rows)
split_from key [] = ([], refl)
split_from key (row ∷ rows) =
    elim (cases_Bool (is_key row.0 key)) [
      | inl on ↦ ([], sym (ap (λ b. cond b (row ∷ rows) (rows_from (Some key) rows)) on))
      | inr off ↦
          let rest = split_from key rows in
          (row ∷ rest.0, ap (λ rs. row ∷ rs) rest.1 ∙ ap (λ rs. row ∷ rest.0 ++ rs) (sym (ap (λ b. cond b (row ∷ rows) (rows_from (Some key) rows)) off)))
    ]

keys_append : (front back : List (Key × QueuedMessage)) → keys_of (front ++ back) ≡ keys_of front ++ keys_of back
keys_append [] back = refl
keys_append (row ∷ front) back = ap (λ ks. row.0 ∷ ks) (keys_append front back)

-- behind a front without the key of a row
from_behind : (front : List (Key × QueuedMessage)) (row : Key × QueuedMessage) (back : List (Key × QueuedMessage)) → IsDistinct (keys_of (front ++ row ∷ back)) → rows_from (Some row.0) (front ++ row ∷ back) ≡ row ∷ back
from_behind [] row back distinct = ap (λ b. cond b (row ∷ back) (rows_from (Some row.0) back)) (key_itself row.0 row.0 refl)
from_behind (other ∷ front) row back distinct =
    let away : IsAway (Some other.0) (keys_of front ++ row.0 ∷ keys_of back) = subst (IsAway (Some other.0)) (keys_append front (row ∷ back)) distinct.0 in
    let differs : other.0 ≢ row.0 = λ e. (away_right (Some other.0) (keys_of front) (row.0 ∷ keys_of back) away).0 (ap Some e) in
    ap (λ b. cond b (other ∷ front ++ row ∷ back) (rows_from (Some row.0) (front ++ row ∷ back))) (key_apart other.0 row.0 differs) ∙ from_behind front row back distinct.1

assoc : (front : List (Key × QueuedMessage)) (row : Key × QueuedMessage) (back : List (Key × QueuedMessage)) → front ++ row ∷ back ≡ (front ++ row ∷ []) ++ back
assoc [] row back = refl
assoc (other ∷ front) row back = ap (λ rs. other ∷ rs) (assoc front row back)

from_next : (front : List (Key × QueuedMessage)) (row : Key × QueuedMessage) (back : List (Key × QueuedMessage)) → IsDistinct (keys_of (front ++ row ∷ back)) → rows_from (first_or None (keys_of back)) (front ++ row ∷ back) ≡ back
from_next front row [] distinct = refl
from_next front row (next ∷ back) distinct =
    let same = assoc front row (next ∷ back) in
    ap (rows_from (Some next.0)) same ∙ from_behind (front ++ row ∷ []) next back (subst (λ (rows : List (Key × QueuedMessage)). IsDistinct (keys_of rows)) same distinct)

-- each row of a key holds this value
abbrev HoldsAt : Key → QueuedMessage → List (Key × QueuedMessage) → Type 0
HoldsAt key value [] = Unit {0}
HoldsAt key value (row ∷ rows) = (row.0 ≡ key → row.1 ≡ value) × HoldsAt key value rows

holds_away : (key : Key) (value : QueuedMessage) (rows : List (Key × QueuedMessage)) → IsAway (Some key) (keys_of rows) → HoldsAt key value rows
holds_away key value [] away = tt
holds_away key value (row ∷ rows) away = ((λ same. absurd (away.0 (ap Some (sym same)))), holds_away key value rows away.1)

holds_at : (key : Key) (value : QueuedMessage) (rows : List (Key × QueuedMessage)) → IsDistinct (keys_of rows) → row_at rows key ≡ Some value → HoldsAt key value rows
holds_at key value [] distinct there = tt
holds_at key value (row ∷ rows) distinct there =
    elim (cases_Bool (is_key row.0 key)) [
      | inl on ↦
          let same : row.0 ≡ key = key_is row.0 key on in
          let is : Some row.1 ≡ Some value = sym (ap found on) ∙ there in
          ((λ _. let e : row.1 ≡ value = cc in e), holds_away key value rows (subst (λ (k : Key). IsAway (Some k) (keys_of rows)) same distinct.0))
      | inr off ↦ ((λ same. absurd (true≢false (sym (key_itself row.0 key same) ∙ off))), holds_at key value rows distinct.1 (sym (ap found off) ∙ there))
    ]
  where
    found : Bool → Option QueuedMessage
    found b = option_map (λ (row : Key × QueuedMessage). row.1) (cond b (Some row) (first (at_key key) rows))

holds_which : (key : Key) (value : QueuedMessage) (test : Key × QueuedMessage → Bool) (rows : List (Key × QueuedMessage)) → HoldsAt key value rows → HoldsAt key value (which test rows)
holds_which key value test [] holds = tt
holds_which key value test (row ∷ rows) holds =
    elim (cases_Bool (test row)) [
      | inl on ↦ rw on (holds.0, holds_which key value test rows holds.1)
      | inr off ↦ rw off (holds_which key value test rows holds.1)
    ]

holds_behind : (key : Key) (value : QueuedMessage) (front back : List (Key × QueuedMessage)) → HoldsAt key value (front ++ back) → HoldsAt key value back
holds_behind key value [] back holds = holds
holds_behind key value (row ∷ front) back holds = holds_behind key value front back holds.1

-- where a walk stands: at a row of the queue, with the rows behind it
record At (queue key : Key) (messages : List (Key × QueuedMessage)) : Type 0 where
  pub front : List (Key × QueuedMessage)
  pub row : Key × QueuedMessage
  pub back : List (Key × QueuedMessage)
  pub all : queue_rows queue messages ≡ front ++ row ∷ back
  pub from : rows_from (Some key) (queue_rows queue messages) ≡ row ∷ back
  pub is : row.0 ≡ key

walk_at : (queue key : Key) (messages : List (Key × QueuedMessage)) → first_or None (keys_of (rows_from (Some key) (queue_rows queue messages))) ≡ Some key → At queue key messages
walk_at queue key messages stands =
    let split = split_from key (queue_rows queue messages) in
    by (rows_from (Some key) (queue_rows queue messages)) refl split.0 split.1
  where
    by : (rest : List (Key × QueuedMessage)) → rows_from (Some key) (queue_rows queue messages) ≡ rest → (front : List (Key × QueuedMessage)) → queue_rows queue messages ≡ front ++ rows_from (Some key) (queue_rows queue messages) → At queue key messages
    by [] from front all = absurd (let clash : None ≡ Some key = sym (ap (λ rows. first_or None (keys_of rows)) from) ∙ stands in cc)
    by (row ∷ back) from front all =
        let both : Some row.0 ≡ Some key = sym (ap (λ rows. first_or None (keys_of rows)) from) ∙ stands in
        record { front = front; row = row; back = back; all = all ∙ ap (λ rows. front ++ rows) from; from = from; is = (let e : row.0 ≡ key = cc in e) }

module _ (blocks : Table Block) (chain : Chain 0) (queue key : Key) (stands_for : StandsFor in_queue_of blocks chain (keys_by queue_of queue (messages_of blocks))) (stands : first_or None (keys_of (rows_from (Some key) (queue_rows queue (messages_of blocks)))) ≡ Some key) where
  abbrev rows : List (Key × QueuedMessage)
  rows = messages_of blocks

  here : At queue key rows
  here = walk_at queue key rows stands

  keys : keys_by queue_of queue rows ≡ keys_of here.front ++ key ∷ keys_of here.back
  keys = ap keys_of here.all ∙ keys_append here.front (here.row ∷ here.back) ∙ ap (λ k. keys_of here.front ++ k ∷ keys_of here.back) here.is

  split : StandsFor in_queue_of blocks chain (keys_of here.front ++ key ∷ keys_of here.back)
  split = subst (StandsFor in_queue_of blocks chain) keys stands_for

  -- there is a block
  pub block_there : at blocks key ≢ None
  block_there none = absurd (let some = present_in in_queue_of with_in_queue (λ _ _. refl) (λ _ _ _. refl) blocks chain (keys_of here.front) key (keys_of here.back) split in true≢false (sym some ∙ ap is_some none))

  module _ (block : Block) (found : at blocks key ≡ Some block) where
    value_is : here.row.1 ≡ queued_of block
    value_is =
        let there : row_at rows key ≡ Some (queued_of block) = shown_at queued_of blocks key ∙ ap (option_map queued_of) found in
        let all = holds_which key (queued_of block) (is_in queue) rows (holds_at key (queued_of block) rows (keys_apart blocks) there) in
        (holds_behind key (queued_of block) here.front (here.row ∷ here.back) (subst (HoldsAt key (queued_of block)) here.all all)).0 here.is

    connects : is_connect here.row ≡ is_connect (key, queued_of block)
    connects = ap (λ (value : QueuedMessage). is_connect (key, value)) value_is

    -- a request that is met is the first one from there on
    pub met_here : is_connect (key, queued_of block) ≡ true → option_map (λ (row : Key × QueuedMessage). row.0) (first is_connect (rows_from (Some key) (queue_rows queue rows))) ≡ Some key
    met_here met =
        ap (λ rs. option_map (λ (row : Key × QueuedMessage). row.0) (first is_connect rs)) here.from
        ∙ ap (λ b. option_map (λ (row : Key × QueuedMessage). row.0) (cond b (Some here.row) (first is_connect here.back))) (connects ∙ met)
        ∙ ap Some here.is

    after_is : block.in_queue.after ≡ first_or None (keys_of here.back)
    after_is =
        let links : Some block.in_queue ≡ Some (record { before = last_or None (keys_of here.front); after = first_or None (keys_of here.back) }) = sym (ap (option_map in_queue_of) found) ∙ neighbours in_queue_of with_in_queue (λ _ _. refl) (λ _ _ _. refl) blocks chain (keys_of here.front) key (keys_of here.back) split in
        let same : block.in_queue ≡ record { before = last_or None (keys_of here.front); after = first_or None (keys_of here.back) } = cc in
        ap (λ (l : Links). l.after) same

    -- the rows from the next key on are those behind this one
    from_after : rows_from block.in_queue.after (queue_rows queue rows) ≡ here.back
    from_after =
        let distinct : IsDistinct (keys_of (here.front ++ here.row ∷ here.back)) = subst (λ (rs : List (Key × QueuedMessage)). IsDistinct (keys_of rs)) here.all (distinct_by queue_of queue rows (keys_apart blocks)) in
        ap (λ o. rows_from o (queue_rows queue rows)) after_is ∙ ap (rows_from (first_or None (keys_of here.back))) here.all ∙ from_next here.front here.row here.back distinct

    pub stands_after : first_or None (keys_of (rows_from block.in_queue.after (queue_rows queue rows))) ≡ block.in_queue.after
    stands_after = ap (λ rs. first_or None (keys_of rs)) from_after ∙ sym after_is

    pub passed_over : is_connect (key, queued_of block) ≡ false → first is_connect (rows_from block.in_queue.after (queue_rows queue rows)) ≡ first is_connect (rows_from (Some key) (queue_rows queue rows))
    passed_over off =
        ap (first is_connect) from_after ∙ sym (ap (first is_connect) here.from ∙ ap (λ b. cond b (Some here.row) (first is_connect here.back)) (connects ∙ off))

    pub fewer_after : length (rows_from block.in_queue.after (queue_rows queue rows)) < length (rows_from (Some key) (queue_rows queue rows))
    fewer_after = shorter _ _ _ from_after here.from
      where
        shorter : (one two back : List (Key × QueuedMessage)) → one ≡ back → two ≡ here.row ∷ back → length one < length two
        shorter one two back is all = omega (arith, ap length is, ap length all)
