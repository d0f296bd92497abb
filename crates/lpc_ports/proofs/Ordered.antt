-- How the two tables stay in order.
use Rattle.std.specs.FinMap as map
use Rattle.std.proofs.Common.{slice_get, length, zero, suc, ◌⊎◌, OnSome, if◌then◌else◌, ◌≡◌, ◌≢◌, ◌≤◌, ◌<◌, ◌+◌, ◌&&◌, ℕ, Bool, true, false, cond, not, refl, sym, ap, ◌∙◌, subst, arith, is_some, IsSome, List, [], ◌∷◌, ◌++◌, Option, Some, None, option_map, inl, inr, true≢false}
use Rattle.std.proofs.lemmas.Bool.{and_parts, cases_Bool}
use Rattle.lpc_base.specs.Rows.{count, every, first, has, without}
use Rattle.lpc_base.proofs.RowWords.{every-more}
use Rattle.lpc_slots.specs.declared.Key.{Key}
use Rattle.lpc_slots.specs.Table.{Table, at, at_key, is_key, keys_of, inserted, listed, parts, removed}
use Rattle.lpc_slots.specs.Chain.{IsAway, IsDistinct}
use Rattle.lpc_slots.proofs.Keys.{key_apart, key_cases, key_cmp_total, key_differs, key_itself, tied}
use Rattle.lpc_slots.proofs.Frames.{at_inserted, away_listed, distinct_listed, inserted_beside, keys_parts, removed_beside, same_parts, stands_kept}
use Rattle.lpc_slots.proofs.Same.{are_apart, at_first}
use Rattle.lpc_ports.specs.declared.rows.PortRow.{PortRow}
use Rattle.lpc_ports.specs.declared.messages.Block.{Block}
use Rattle.lpc_ports.specs.Table.{QueuedMessage, is_asking, is_connected_to, is_datagram_of, is_in, is_of_type, is_own_of, is_paired_to, row_at}
use Rattle.lpc_message.specs.declared.kind.TheConstants.{DATAGRAM}
use Rattle.lpc_ports.specs.Layout.{ChangesLinks, IsPlaced, IsSentBefore, InOrder, is_open, port_of, ports_of, seen, QueuesStand, SendersStand, IsCounted, AreDatagrams, IsDatagramPlaced}
use Rattle.lpc_ports.specs.Names.{AreNames}
use Rattle.lpc_ports.specs.Lent.{in_queue_of, is_by, keys_by, messages_of, of_sender_of, queue_of, queued_of, sender_of}

pub mapped_some : {A B : Type 0} (f : A → B) (o : Option A) → is_some (option_map f o) ≡ is_some o
mapped_some f None = refl
mapped_some f (Some x) = refl

-- a part of the row of a key, in the list of parts
pub part_at : {T X : Type 0} (h : T → X) (key : Key) (rows : List (Key × T)) → row_at (parts h rows) key ≡ option_map h (row_at rows key)
part_at h key [] = refl
part_at h key (row ∷ rows) =
    elim (cases_Bool (is_key row.0 key)) [
      | inl on ↦ rw on refl
      | inr off ↦ rw off (part_at h key rows)
    ]

-- what contracts see at a key is what the row there holds
pub shown_at : {T X : Type 0} (h : T → X) (s : Table T) (key : Key) → row_at (parts h (listed s)) key ≡ option_map h (at s key)
shown_at h s key = part_at h key (listed s) ∙ ap (option_map h) (sym (at_first s key))

none_mapped : {X : Type 0} (o : Option (Key × X)) → option_map (λ (row : Key × X). row.1) o ≡ None → o ≡ None
none_mapped None is = refl
none_mapped (Some row) is = absurd (cc)

pub none_first : {X : Type 0} (key : Key) (rows : List (Key × X)) → row_at rows key ≡ None → first (at_key key) rows ≡ None
none_first key rows none = none_mapped (first (at_key key) rows) none

-- no row has a key that is vacant
pub vacant_shown : {T X : Type 0} (h : T → X) (s : Table T) (key : Key) → at s key ≡ None → first (at_key key) (parts h (listed s)) ≡ None
vacant_shown h s key none = none_first key (parts h (listed s)) (shown_at h s key ∙ ap (option_map h) none)

pub keys_apart : (blocks : Table Block) → IsDistinct (keys_of (messages_of blocks))
keys_apart blocks = subst (λ (ks : List Key). IsDistinct ks) (sym (keys_parts queued_of (listed blocks))) (distinct_listed blocks)

pub ports_apart : (ports : Table PortRow) → IsDistinct (keys_of (ports_of ports))
ports_apart ports = subst (λ (ks : List Key). IsDistinct ks) (sym (keys_parts port_of (listed ports))) (distinct_listed ports)

pub key_is_new : (blocks : Table Block) (key : Key) → at blocks key ≡ None → IsAway (Some key) (keys_of (messages_of blocks))
key_is_new blocks key none = subst (λ (ks : List Key). IsAway (Some key) ks) (sym (keys_parts queued_of (listed blocks))) (away_listed blocks key none)

-- what no change of links changes
module _ (old_ports new_ports : Table PortRow) (old_blocks new_blocks : Table Block) (links : ChangesLinks old_ports new_ports old_blocks new_blocks) where
  pub kept_ports : ports_of new_ports ≡ ports_of old_ports
  kept_ports = same_parts port_of old_ports.rows new_ports.rows links.ports

  pub kept_messages : messages_of new_blocks ≡ messages_of old_blocks
  kept_messages = same_parts queued_of old_blocks.rows new_blocks.rows links.blocks

  pub kept_port : (key : Key) → is_some (at new_ports key) ≡ is_some (at old_ports key)
  kept_port key = sym (mapped_some port_of (at new_ports key)) ∙ ap is_some (links.ports key) ∙ mapped_some port_of (at old_ports key)

  pub kept_block : (key : Key) → is_some (at new_blocks key) ≡ is_some (at old_blocks key)
  kept_block key = sym (mapped_some queued_of (at new_blocks key)) ∙ ap is_some (links.blocks key) ∙ mapped_some queued_of (at old_blocks key)

  pub kept_open : (messages : List (Key × QueuedMessage)) → every (is_open old_ports) messages ≡ true → every (is_open new_ports) messages ≡ true
  kept_open messages = every-more (is_open old_ports) (is_open new_ports) (λ row is. kept_port (queue_of row.1) ∙ is) messages

  pub kept_seen : seen new_ports new_blocks ≡ seen old_ports old_blocks
  kept_seen i = record {
    ports = kept_ports i;
    messages = kept_messages i;
    port_room = links.port_spare i;
    message_room = links.block_spare i;
    ports_made = links.port_made i;
    messages_made = links.block_made i;
  }

  pub kept_names : (whole : Bool) → AreNames old_ports whole → AreNames new_ports whole
  kept_names whole names = record {
    paired = λ yes q. links.paired q ∙ names.paired yes q ∙ sym (ap (count (is_paired_to q)) kept_ports);
    connected = λ yes q. links.connected q ∙ names.connected yes q ∙ sym (ap (count (is_connected_to q)) kept_ports);
  }

-- senders
pub sent_push : (made : ℕ) (messages : List (Key × QueuedMessage)) (row : Key × QueuedMessage) → IsSentBefore made messages → (sender_of row.1).generation ≤ made → IsSentBefore made (messages ++ row ∷ [])
sent_push made [] row sent is = (is, tt)
sent_push made (other ∷ messages) row sent is = (sent.0, sent_push made messages row sent.1 is)

pub sent_without : (made : ℕ) (test : Key × QueuedMessage → Bool) (messages : List (Key × QueuedMessage)) → IsSentBefore made messages → IsSentBefore made (without test messages)
sent_without made test [] sent = tt
sent_without made test (row ∷ messages) sent =
    elim (cases_Bool (test row)) [
      | inl on ↦ rw on (sent_without made test messages sent.1)
      | inr off ↦ rw off (sent.0, sent_without made test messages sent.1)
    ]

pub sent_more : (made more : ℕ) (messages : List (Key × QueuedMessage)) → made ≤ more → IsSentBefore made messages → IsSentBefore more messages
sent_more made more [] above sent = tt
sent_more made more (row ∷ messages) above sent = ((let one = sent.0 in omega arith), sent_more made more messages above sent.1)

-- a message that has a row stands among its port's
pub placed_at : (owner : QueuedMessage → Key) (blocks : Table Block) (key : Key) (block : Block) → at blocks key ≡ Some block → IsPlaced owner key (owner (queued_of block)) (messages_of blocks)
placed_at owner blocks key block there = record {
  distinct = keys_apart blocks;
  stands = by (messages_of blocks) (shown_at queued_of blocks key ∙ ap (option_map queued_of) there);
}
  where
    by : (rows : List (Key × QueuedMessage)) → row_at rows key ≡ Some (queued_of block) → has (λ row. is_key row.0 key && is_by owner (owner (queued_of block)) row) rows ≡ true
    by [] is = absurd (cc)
    by (row ∷ rows) is =
        elim (cases_Bool (is_key row.0 key)) [
          | inl on ↦
              let same : row.1 ≡ queued_of block = some_is (sym (ap (λ b. row_at_if b row rows) on) ∙ is) in
              rw (on, key_itself (owner row.1) (owner (queued_of block)) (ap owner same)) refl
          | inr off ↦ rw off (by rows (sym (ap (λ b. row_at_if b row rows) off) ∙ is))
        ]
      where
        row_at_if : Bool → Key × QueuedMessage → List (Key × QueuedMessage) → Option QueuedMessage
        row_at_if b row rows = option_map (λ (row : Key × QueuedMessage). row.1) (cond b (Some row) (first (at_key key) rows))

        some_is : {x y : QueuedMessage} → Some x ≡ Some y → x ≡ y
        some_is e = cc

-- a message that has a row counts as what it is
pub datagram_placed : (blocks : Table Block) (key : Key) (block : Block) (datagram : Bool) → at blocks key ≡ Some block → is_of_type DATAGRAM block.message ≡ datagram → IsDatagramPlaced key block.message.sender datagram (messages_of blocks)
datagram_placed blocks key block datagram found is = record {
  value = queued_of block;
  distinct = keys_apart blocks;
  there = shown_at queued_of blocks key ∙ ap (option_map queued_of) found;
  sent = (refl, is);
}

-- no message of a port that had no row when they were sent
pub none_of_new : (owner : QueuedMessage → Key) (port : Key) (messages : List (Key × QueuedMessage)) → every (λ row. not (is_key (owner row.1) port)) messages ≡ true → keys_by owner port messages ≡ []
none_of_new owner port [] all = refl
none_of_new owner port (row ∷ messages) all =
    elim (cases_Bool (is_key (owner row.1) port)) [
      | inl on ↦ absurd (let e : every (λ row. not (is_key (owner row.1) port)) (row ∷ messages) ≡ false = ap (λ b. not b && every (λ row. not (is_key (owner row.1) port)) messages) on in true≢false (sym all ∙ e))
      | inr off ↦ rw off (none_of_new owner port messages (sym (ap (λ b. not b && every (λ row. not (is_key (owner row.1) port)) messages) off) ∙ all))
    ]

pub in_order : (ports : Table PortRow) (blocks : Table Block) (messages : List (Key × QueuedMessage)) → messages_of blocks ≡ messages → QueuesStand ports blocks messages → SendersStand ports blocks messages → every (is_open ports) messages ≡ true → IsSentBefore ports.made messages → IsCounted ports messages → AreDatagrams ports messages → InOrder ports blocks
in_order ports blocks messages is queues senders stood young counted datagrams = record {
  queues = subst (λ (ms : List (Key × QueuedMessage)). QueuesStand ports blocks ms) (sym is) queues;
  senders = subst (λ (ms : List (Key × QueuedMessage)). SendersStand ports blocks ms) (sym is) senders;
  stood_in = ap (every (is_open ports)) is ∙ stood;
  young = subst (λ (ms : List (Key × QueuedMessage)). IsSentBefore ports.made ms) (sym is) young;
  counts = subst (λ (ms : List (Key × QueuedMessage)). IsCounted ports ms) (sym is) counted;
  datagrams = subst (λ (ms : List (Key × QueuedMessage)). AreDatagrams ports ms) (sym is) datagrams;
}

-- a removal of a row that is there
pub gone : (old new : Table Block) (key : Key) (found : Option Block) → found ≡ at old key → IsSome (at old key) → new ≡ (if is_some found then removed old key else old) → OnSome found (listed new ≡ without (at_key key) (listed old)) → (new ≡ removed old key) × (listed new ≡ without (at_key key) (listed old))
gone old new key None is some table rows = absurd (let e : false ≡ true = ap is_some is ∙ some in cc)
gone old new key (Some value) is some table rows = (table, rows)

pub away_gone : (key : Key) (rows : List (Key × QueuedMessage)) → IsAway (Some key) (keys_of (without (at_key key) rows))
away_gone key [] = tt
away_gone key (row ∷ rows) =
    elim (cases_Bool (is_key row.0 key)) [
      | inl on ↦ rw on (away_gone key rows)
      | inr off ↦ rw off ((λ same. let e : row.0 ≡ key = cc in true≢false (sym (key_itself row.0 key e) ∙ off)), away_gone key rows)
    ]

-- keys apart, by the test of keys
others_apart : (k : Key) (rows : List (Key × QueuedMessage)) → IsAway (Some k) (keys_of rows) → every (λ other. not (at_key k other)) rows ≡ true
others_apart k [] away = refl
others_apart k (row ∷ rows) away =
    ap (λ b. not b && every (λ other. not (at_key k other)) rows) (key_apart row.0 k (λ e. away.0 (ap Some (sym e))))
    ∙ others_apart k rows away.1

pub all_apart : (rows : List (Key × QueuedMessage)) → IsDistinct (keys_of rows) → are_apart rows ≡ true
all_apart [] distinct = refl
all_apart (row ∷ rows) distinct = λ i. others_apart row.0 rows distinct.0 i && all_apart rows distinct.1 i

-- no message stands in the queue of a port that has no row
pub none_in_closed : (ports : Table PortRow) (queue : Key) (messages : List (Key × QueuedMessage)) → at ports queue ≡ None → every (is_open ports) messages ≡ true → every (λ row. not (is_by queue_of queue row)) messages ≡ true
none_in_closed ports queue [] none open_ = refl
none_in_closed ports queue (row ∷ messages) none open_ =
    let both = and_parts (is_open ports row) (every (is_open ports) messages) open_ in
    let differs : row.1.queue ≢ queue = λ e. true≢false (sym both.0 ∙ ap (λ k. is_some (at ports k)) e ∙ ap is_some none) in
    ap (λ b. not b && every (λ row. not (is_by queue_of queue row)) messages) (key_apart row.1.queue queue differs)
    ∙ none_in_closed ports queue messages none both.1

pub none_sent_by_new : (port : Key) (made : ℕ) (messages : List (Key × QueuedMessage)) → made < port.generation → IsSentBefore made messages → every (λ row. not (is_by sender_of port row)) messages ≡ true
none_sent_by_new port made [] above sent = refl
none_sent_by_new port made (row ∷ messages) above sent =
    let one : (sender_of row.1).generation ≤ made = sent.0 in
    let differs : sender_of row.1 ≢ port = λ e. let g : (sender_of row.1).generation ≡ port.generation = ap (λ (k : Key). k.generation) e in omega arith in
    ap (λ b. not b && every (λ row. not (is_by sender_of port row)) messages) (key_apart (sender_of row.1) port differs)
    ∙ none_sent_by_new port made messages above sent.1

pub first_none : (test : Key × QueuedMessage → Bool) (messages : List (Key × QueuedMessage)) → every (λ row. not (test row)) messages ≡ true → first test messages ≡ None
first_none test [] all = refl
first_none test (row ∷ messages) all = grind (arith, first_none test messages)

pub count_none : (test : Key × QueuedMessage → Bool) (messages : List (Key × QueuedMessage)) → every (λ row. not (test row)) messages ≡ true → count test messages ≡ 0
count_none test [] all = refl
count_none test (row ∷ messages) all = grind (arith, count_none test messages)

pub no_datagram : (port : Key) (messages : List (Key × QueuedMessage)) → every (λ row. not (is_by sender_of port row)) messages ≡ true → count (is_datagram_of port) messages ≡ 0
no_datagram port [] all = refl
no_datagram port (row ∷ messages) all = grind (arith, no_datagram port messages)

-- no message asks of a thread where none asks
pub none_asks : (thread : ℕ) (messages : List (Key × QueuedMessage)) → count is_asking messages ≡ 0 → first (is_own_of thread) messages ≡ None
none_asks thread [] none = refl
none_asks thread (row ∷ messages) none = grind (arith, none_asks thread messages)

-- room alone
pub roomy : (ports : Table PortRow) (blocks : Table Block) (x y : ℕ) → InOrder ports blocks → InOrder (record ports { spare = x }) (record blocks { spare = y })
roomy ports blocks x y inside = record {
  queues = λ q row found. stands_kept in_queue_of blocks (record blocks { spare = y }) row.queued _ refl (inside.queues q row found);
  senders = λ q row found. stands_kept of_sender_of blocks (record blocks { spare = y }) row.sent _ refl (inside.senders q row found);
  stood_in = inside.stood_in;
  counts = inside.counts;
  datagrams = inside.datagrams;
  young = inside.young;
}

-- a port is made
module _ (ports : Table PortRow) (blocks : Table Block) (inside : InOrder ports blocks) (key : Key) (fresh : PortRow) (vacant : at ports key ≡ None) (next : key.generation ≡ ports.made + 1) (first : fresh.queued.first ≡ None) (last : fresh.queued.last ≡ None) (first_sent : fresh.sent.first ≡ None) (last_sent : fresh.sent.last ≡ None) (zero_sent : fresh.sent_count ≡ 0) (zero_datagrams : fresh.datagrams ≡ 0) where
  abbrev more : Table PortRow
  more = inserted ports key fresh

  at_more : (q : Key) (row : PortRow) → at more q ≡ Some row → ((q ≡ key) × (row ≡ fresh)) ⊎ (at ports q ≡ Some row)
  at_more q row found =
      elim (key_cases q key) [
        | inl same ↦
            let both : Some row ≡ Some fresh = sym found ∙ ap (at more) same ∙ at_inserted ports key fresh in
            inl (same, (let e : row ≡ fresh = cc in e))
        | inr differs ↦ inr (sym (inserted_beside ports key fresh q differs) ∙ found)
      ]

  still_open : (q : Key) → is_some (at ports q) ≡ true → is_some (at more q) ≡ true
  still_open q is =
      elim (key_cases q key) [
        | inl same ↦ ap (λ k. is_some (at more k)) same ∙ ap is_some (at_inserted ports key fresh)
        | inr differs ↦ ap is_some (inserted_beside ports key fresh q differs) ∙ is
      ]

  pub added_order : InOrder more blocks
  added_order = record {
    queues = λ q row found. elim (at_more q row found) [
      | inl new ↦
          let none : keys_by queue_of q (messages_of blocks) ≡ [] = ap (λ k. keys_by queue_of k (messages_of blocks)) new.0 ∙ none_of_new queue_of key (messages_of blocks) (none_in_closed ports key (messages_of blocks) vacant inside.stood_in) in
          rw (new.1, none) (record { linked = tt; distinct = tt; first = first; last = last })
      | inr old ↦ inside.queues q row old
    ];
    senders = λ q row found. elim (at_more q row found) [
      | inl new ↦
          let none : keys_by sender_of q (messages_of blocks) ≡ [] = ap (λ k. keys_by sender_of k (messages_of blocks)) new.0 ∙ none_of_new sender_of key (messages_of blocks) (none_sent_by_new key ports.made (messages_of blocks) (omega (arith, next)) inside.young) in
          rw (new.1, none) (record { linked = tt; distinct = tt; first = first_sent; last = last_sent })
      | inr old ↦ inside.senders q row old
    ];
    stood_in = every-more (is_open ports) (is_open more) (λ row. still_open (queue_of row.1)) (messages_of blocks) inside.stood_in;
    counts = λ q row found. elim (at_more q row found) [
      | inl new ↦
          let none : count (is_by sender_of q) (messages_of blocks) ≡ 0 = ap (λ k. count (is_by sender_of k) (messages_of blocks)) new.0 ∙ count_none (is_by sender_of key) (messages_of blocks) (none_sent_by_new key ports.made (messages_of blocks) (omega (arith, next)) inside.young) in
          ap (λ (r : PortRow). r.sent_count) new.1 ∙ zero_sent ∙ sym none
      | inr old ↦ inside.counts q row old
    ];
    datagrams = λ q row found. elim (at_more q row found) [
      | inl new ↦
          let none : count (is_datagram_of q) (messages_of blocks) ≡ 0 = ap (λ k. count (is_datagram_of k) (messages_of blocks)) new.0 ∙ no_datagram key (messages_of blocks) (none_sent_by_new key ports.made (messages_of blocks) (omega (arith, next)) inside.young) in
          ap (λ (r : PortRow). r.datagrams) new.1 ∙ zero_datagrams ∙ sym none
      | inr old ↦ inside.datagrams q row old
    ];
    young = sent_more ports.made (ports.made + 1) (messages_of blocks) (omega arith) inside.young;
  }

-- a port goes whose queue is empty
module _ (ports : Table PortRow) (blocks : Table Block) (inside : InOrder ports blocks) (key : Key) (empty : first (is_in key) (messages_of blocks) ≡ None) where
  abbrev fewer : Table PortRow
  fewer = removed ports key

  pub gone_here : at fewer key ≡ None
  gone_here = map.get-remove key_cmp_total ports.rows key key ∙ ap (λ b. cond b None (at ports key)) (tied key key refl)

  at_fewer : (q : Key) (row : PortRow) → at fewer q ≡ Some row → at ports q ≡ Some row
  at_fewer q row found =
      elim (key_cases q key) [
        | inl same ↦ absurd (let clash : Some row ≡ None = sym found ∙ ap (at fewer) same ∙ gone_here in cc)
        | inr differs ↦ sym (removed_beside ports key q differs) ∙ found
      ]

  open_left : (rows : List (Key × QueuedMessage)) → first (is_in key) rows ≡ None → every (is_open ports) rows ≡ true → every (is_open fewer) rows ≡ true
  open_left [] none all = refl
  open_left (row ∷ rows) none all =
      let both = and_parts (is_open ports row) (every (is_open ports) rows) all in
      elim (cases_Bool (is_in key row)) [
        | inl on ↦ absurd (let clash : Some row ≡ None = sym (ap (λ b. cond b (Some row) (first (is_in key) rows)) on) ∙ none in cc)
        | inr off ↦
            let here : is_open fewer row ≡ true = ap is_some (removed_beside ports key row.1.queue (key_differs row.1.queue key off)) ∙ both.0 in
            let rest : every (is_open fewer) rows ≡ true = open_left rows (sym (ap (λ b. cond b (Some row) (first (is_in key) rows)) off) ∙ none) both.1 in
            λ i. here i && rest i
      ]

  pub freed_order : InOrder fewer blocks
  freed_order = record {
    queues = λ q row found. inside.queues q row (at_fewer q row found);
    senders = λ q row found. inside.senders q row (at_fewer q row found);
    stood_in = open_left (messages_of blocks) empty inside.stood_in;
    counts = λ q row found. inside.counts q row (at_fewer q row found);
    datagrams = λ q row found. inside.datagrams q row (at_fewer q row found);
    young = inside.young;
  }

-- a row at a place
pub place_shown : {T X : Type 0} (h : T → X) (rows : List (Key × T)) (place : ℕ) (key : Key) (value : T) → slice_get rows place ≡ Some (key, value) → slice_get (parts h rows) place ≡ Some (key, h value)
place_shown h [] place key value is = absurd (cc)
place_shown h (row ∷ rows) zero key value is = let e : row ≡ (key, value) = some_row is in ap (λ (r : Key × _). Some (r.0, h r.1)) e
  where
    some_row : Some row ≡ Some (key, value) → row ≡ (key, value)
    some_row e = cc
place_shown h (row ∷ rows) (suc place) key value is = place_shown h rows place key value is

pub length_shown : {T X : Type 0} (h : T → X) (rows : List (Key × T)) → length (parts h rows) ≡ length rows
length_shown h [] = refl
length_shown h (row ∷ rows) = ap suc (length_shown h rows)

pub gone_port : (old new : Table PortRow) (key : Key) (found : Option PortRow) → found ≡ at old key → IsSome (at old key) → new ≡ (if is_some found then removed old key else old) → OnSome found (listed new ≡ without (at_key key) (listed old)) → (new ≡ removed old key) × (listed new ≡ without (at_key key) (listed old))
gone_port old new key None is some table rows = absurd (let e : false ≡ true = ap is_some is ∙ some in cc)
gone_port old new key (Some value) is some table rows = (table, rows)

pub first_mapped : (o : Option (Key × QueuedMessage)) → option_map (λ (row : Key × QueuedMessage). row.0) o ≡ None → o ≡ None
first_mapped None is = refl
first_mapped (Some row) is = absurd (cc)
