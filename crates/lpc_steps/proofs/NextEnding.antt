-- The next of the waits that end when a port is closed is found in the tables.
use Rattle.std.proofs.Common.{◌≡◌, ◌∙◌, ℕ, List, [], ◌∷◌, Bool, true, false, cond, not, ◌&&◌, ◌||◌, Option, Some, None, MatchOption, IfSome, length, map, option_and_then, option_map, refl, ap, sym, subst, arith}
use Rattle.std.specs.Prelude.{is_none, is_some}
use Rattle.lpc_base.specs.declared.birth.Birth.{Birth}
use Rattle.lpc_base.specs.Rows.{every, first, has, passes}
use Rattle.lpc_base.proofs.RowMaps.{every-first, first-map, mapped-twice}
use Rattle.lpc_base.proofs.RowWords.{first-passes}
use Rattle.lpc_base.proofs.Births.{birth-same}
use Rattle.lpc_model.specs.Close.{is_accepted_across, is_across, is_offered_to, is_queued_request, is_receive_across, is_receiver, is_request_across, is_request_on}
use Rattle.lpc_model.specs.Found.{is_accepted, is_client_port, is_connect, is_made_on, is_offered, is_port, is_receive, is_request, is_taken, is_the, pair_of, port_row, same_birth, waits_as}
use Rattle.lpc_model.specs.Linked.{is_mutual}
use Rattle.lpc_model.specs.World as model
use Rattle.lpc_model.specs.World.{Offer, PortRow, WaitRow, World}
use Rattle.lpc_slots.specs.Table.{is_key}
use Rattle.lpc_slots.specs.declared.Key.{Key}
use Rattle.lpc_waits.specs.Table as waits
use Rattle.lpc_waits.specs.Table.{WaitTable, WaitingThread, first_thread}
use Rattle.lpc_waits.specs.declared.Accepted.{Accepted}
use Rattle.lpc_waits.specs.declared.WaitKind.{WaitKind}
use Rattle.lpc_waits.specs.declared.WaitKind.TheVariants as wait
use Rattle.lpc_rows.specs.Closing.{HasMutualPairs}
use Rattle.lpc_steps.specs.Closing.{client_across, ends, is_of_connects, withdraws}
use Rattle.lpc_rows.specs.Kept.{OwnPend, has_queued, is_pending, is_pending_in}
use Rattle.lpc_rows.specs.Lawful.{are_single}
use Rattle.lpc_rows.specs.Names.{are_apart, name_of, some_stands, stands}
use Rattle.lpc_rows.specs.Ready.{waiter}
use Rattle.lpc_rows.specs.Shown.{Births, all_pass, birth_of, object_stands, shown_kind, shown_offer, shown_wait, wait_refs}
use Rattle.lpc_steps.specs.declared.ending.Ending.{Ending}
use Rattle.lpc_steps.specs.declared.ending.Ending.TheVariants.{AcceptedAcross, Offers, QueuedRequests, Receives, ReceivesAcross, Requests, RequestsAcross}
use Rattle.lpc_homes.specs.declared.object.Object.{Object}
use Rattle.lpc_rows.proofs.Connecting.{IsMet, met, received_off}
use Rattle.lpc_rows.proofs.Finds as finds
use Rattle.lpc_rows.proofs.Finished.{found-waiter, own-waiter}
use Rattle.lpc_rows.proofs.Naming.{agrees}

-- Across a pair
either : (a b : Bool) → (a ≡ true → b ≡ true) → (b ≡ true → a ≡ true) → a ≡ b
either true b one two = sym (one refl)
either false true one two = two refl
either false false one two = refl

module _ (w : World) (pairs : HasMutualPairs w) where
  one_way : (b c : Birth) → is_the b (pair_of w c) ≡ true → is_the c (pair_of w b) ≡ true
  one_way b c is = at (port_row w c) refl is
    where
      by_pair : (p : PortRow) (o : Option Birth) → p.pair ≡ o → port_row w c ≡ Some p → is_the b o ≡ true → is_the c (pair_of w b) ≡ true
      by_pair p None pair row is = absurd (cc)
      by_pair p (Some q) pair row is =
          let own : p.birth ≡ c = birth-same p.birth c (first-passes (is_port c) w.ports p row) in
          let same : b ≡ q = birth-same b q is in
          let here : is_the p.birth (pair_of w q) ≡ true = subst (λ (o : Option Birth). (is_none o || passes o (λ d. is_the p.birth (pair_of w d))) ≡ true) pair (every-first (is_mutual w) (is_port c) w.ports p pairs row) in
          subst (λ d. is_the c (pair_of w d) ≡ true) (sym same) (subst (λ d. is_the d (pair_of w q) ≡ true) own here)

      at : (o : Option PortRow) → port_row w c ≡ o → is_the b (option_and_then (λ (p : PortRow). p.pair) o) ≡ true → is_the c (pair_of w b) ≡ true
      at None row is = absurd (cc)
      at (Some p) row is = by_pair p p.pair refl row is

  -- a wait was made on a port whose other end this is exactly where it was made on the port's other end
  pub turned : (b : Birth) (x : WaitRow) → is_across w b x ≡ is_the x.port (pair_of w b)
  turned b x = either _ _ (one_way b x.port) (one_way x.port b)

  request-turned : (b : Birth) (x : WaitRow) → is_request_across b w x ≡ is_request x && is_the x.port (pair_of w b)
  request-turned b x = ap (λ t. is_request x && t) (turned b x)

  accepted-turned : (b : Birth) (x : WaitRow) → is_accepted_across b w x ≡ is_accepted x && (is_made_on b x || is_the x.port (pair_of w b))
  accepted-turned b x = ap (λ t. is_accepted x && (is_made_on b x || t)) (turned b x)

  -- and that is a client port
  receive-turned : (b : Birth) (x : WaitRow) → is_receive_across b w x ≡ is_receive x && is_the x.port (client_across w b)
  receive-turned b x = ap (λ t. is_receive x && (t && passes (port_row w x.port) is_client_port)) (turned b x) ∙ at (pair_of w b)
    where
      chosen : (q : Birth) (k : Bool) → is_the x.port (cond k (Some q) None) ≡ k && same_birth x.port q
      chosen q true = refl
      chosen q false = refl

      both : (r t z k : Bool) → (t ≡ true → z ≡ k) → r && (t && z) ≡ r && (k && t)
      both r true z true same = ap (λ b. r && b) (same refl)
      both r true z false same = ap (λ b. r && b) (same refl)
      both r false z true same = refl
      both r false z false same = refl

      at : (o : Option Birth) → is_receive x && (is_the x.port o && passes (port_row w x.port) is_client_port) ≡ is_receive x && is_the x.port (cond (passes o (λ q. passes (port_row w q) is_client_port)) o None)
      at None = refl
      at (Some q) =
          both (is_receive x) (same_birth x.port q) (passes (port_row w x.port) is_client_port) (passes (port_row w q) is_client_port) (λ here. ap (λ d. passes (port_row w d) is_client_port) (birth-same x.port q here))
          ∙ ap (λ t. is_receive x && t) (sym (chosen q (passes (port_row w q) is_client_port)))

-- What is known of a wait that ends
idle_taker : (k : model.WaitKind) (z received : Bool) → ((elim k [ model.Receive ↦ true | _ ↦ false ]) || (elim k [ model.Listen ↦ true | _ ↦ false ])) && z ≡ true
    → ((elim k [ model.Request m ↦ true | _ ↦ false ]) || ((elim k [ model.Event r ↦ true | _ ↦ false ]) || ((elim k [ model.Connect m offer ↦ true | _ ↦ false ]) || (elim k [ model.Accepted m reply ↦ true | _ ↦ false ])))) && not received ≡ false
idle_taker model.Receive z received is = refl
idle_taker model.Listen z received is = refl
idle_taker b z received is = absurd (cc)

idle_receive : (k : model.WaitKind) (z received : Bool) → (elim k [ model.Receive ↦ true | _ ↦ false ]) && z ≡ true
    → ((elim k [ model.Request m ↦ true | _ ↦ false ]) || ((elim k [ model.Event r ↦ true | _ ↦ false ]) || ((elim k [ model.Connect m offer ↦ true | _ ↦ false ]) || (elim k [ model.Accepted m reply ↦ true | _ ↦ false ])))) && not received ≡ false
idle_receive model.Receive z received is = refl
idle_receive b z received is = absurd (cc)

left_of : (a b : Bool) → a && b ≡ true → a ≡ true
left_of true b is = refl
left_of false b is = absurd (cc)

taken_by : (a b : Bool) → not a || b ≡ true → a ≡ true → b ≡ true
taken_by true b is accepted = is
taken_by false b is accepted = absurd (cc)

-- where its message stays, it doesn't pend
idle-by : (e : Ending) (b : Birth) (w : World) (x : WaitRow) → withdraws e ≡ false → is_taken x ≡ true → ends e b w x ≡ true → is_pending x ≡ false
idle-by Receives b w x stays taken is = idle_taker x.kind _ x.received is
idle-by ReceivesAcross b w x stays taken is = idle_receive x.kind _ x.received is
idle-by AcceptedAcross b w x stays taken is = received_off x (taken_by (is_accepted x) x.received taken (left_of (is_accepted x) _ is))
idle-by e b w x stays taken is = absurd (cc)

connect_left : (a b : Bool) → a ≡ true → a || b ≡ true
connect_left true b is = refl
connect_left false b is = absurd (cc)

connect_right : (a b : Bool) → b ≡ true → a || b ≡ true
connect_right true b is = refl
connect_right false b is = is

connect-by : (e : Ending) (b : Birth) (w : World) (x : WaitRow) → is_of_connects e ≡ true → ends e b w x ≡ true → is_connect x ≡ true
connect-by Offers b w x of is = connect_left (is_offered x) (is_accepted x) (left_of (is_offered x) _ is)
connect-by AcceptedAcross b w x of is = connect_right (is_offered x) (is_accepted x) (left_of (is_accepted x) _ is)
connect-by e b w x of is = absurd (cc)

-- The kinds of waits, as the table's rows have them
record IsSeenAs (k : model.WaitKind) (kind : WaitKind) (answer : Option Accepted) : Type 0 where
  request : (elim k [ model.Request m ↦ true | _ ↦ false ]) ≡ waits.is_request kind
  receive : (elim k [ model.Receive ↦ true | _ ↦ false ]) ≡ waits.is_receive kind
  listen : (elim k [ model.Listen ↦ true | _ ↦ false ]) ≡ waits.is_listen kind
  offered : (elim k [ model.Connect m offer ↦ true | _ ↦ false ]) ≡ waits.is_connect kind && not (is_some answer)
  accepted : (elim k [ model.Accepted m reply ↦ true | _ ↦ false ]) ≡ waits.is_connect kind && is_some answer

seen : (kind : WaitKind) (bytes : List ℕ) (offer : Option Offer) (accepted : Option Accepted) → IsSeenAs (shown_kind kind bytes offer accepted) kind accepted
seen wait.Connect bytes offer None = record { request = refl; receive = refl; listen = refl; offered = refl; accepted = refl }
seen wait.Connect bytes offer (Some a) = record { request = refl; receive = refl; listen = refl; offered = refl; accepted = refl }
seen b bytes offer accepted = record { request = refl; receive = refl; listen = refl; offered = refl; accepted = refl }

-- the wait that is found
pub record IsNext (w : World) (e : Ending) (b : Birth) (r : Option ℕ) : Type 0 where
  pub found : MatchOption r (first (ends e b w) w.waits ≡ None) (λ tid. first (ends e b w) w.waits ≡ Some (waiter w tid))
  pub waits : IfSome r (λ tid. has (waits_as tid) w.waits ≡ true)

-- what is told of the waits where they are lent
pub record AreLent (n : Births) (w : World) (lent : WaitTable) : Type 0 where
  pub waits : w.waits ≡ map (shown_wait (birth_of n)) lent.rows
  pub stand : every (all_pass wait_refs (object_stands n)) lent.rows ≡ true
  pub apart : are_apart n.ports ≡ true
  pub single : are_single w.waits ≡ true

-- what its end needs
module _ (w : World) (single : are_single w.waits ≡ true) (taken : every is_taken w.waits ≡ true) (own : OwnPend w) where
  waiter-idle : (tid : ℕ) → has (waits_as tid) w.waits ≡ true → is_pending (waiter w tid) ≡ false → is_pending_in w tid ≡ false
  waiter-idle tid there idle =
      subst (λ m. is_pending_in w m ≡ false) (own-waiter w tid there)
      (finds.idle_first (waits_as tid) w.waits (waiter w tid) single (found-waiter w tid there) idle)

  passes-by : (e : Ending) (b : Birth) (tid : ℕ) → IsNext w e b (Some tid) → ends e b w (waiter w tid) ≡ true
  passes-by e b tid next = first-passes (ends e b w) w.waits (waiter w tid) next.found

  pub left-by : (e : Ending) (b : Birth) (r : Option ℕ) → IsNext w e b r → IfSome r (λ tid. withdraws e ≡ false → has_queued w tid ≡ false)
  left-by e b None next = tt
  left-by e b (Some tid) next = λ stays. own.left tid
      (waiter-idle tid next.waits (idle-by e b w (waiter w tid) stays (every-first is_taken (waits_as tid) w.waits (waiter w tid) taken (found-waiter w tid next.waits)) (passes-by e b tid next)))

  pub connect_of : (e : Ending) (b : Birth) (r : Option ℕ) → IsNext w e b r → IfSome r (λ tid. is_of_connects e ≡ true → is_connect (waiter w tid) ≡ true)
  connect_of e b None next = tt
  connect_of e b (Some tid) next = λ of. connect-by e b w (waiter w tid) of (passes-by e b tid next)

module _ (n : Births) (rows : World) (lent : WaitTable) (is : AreLent n rows lent) where
  abbrev f : Object → Birth
  f = birth_of n

  -- where no thread waits, none is found
  pub none_waits : (e : Ending) (b : Birth) → length lent.rows ≡ 0 → first (ends e b rows) rows.waits ≡ None
  none_waits e b none = ap (first (ends e b rows)) is.waits ∙ by lent.rows none
    where
      by : (xs : List WaitingThread) → length xs ≡ 0 → first (ends e b rows) (map (shown_wait f) xs) ≡ None
      by [] none = refl
      by (x ∷ xs) none = absurd (omega arith)

  -- where the tests of the tables' rows are those of the waits
  module _ (e : Ending) (b : Birth) (s : WaitingThread → Bool) (same : (row : WaitingThread) → all_pass wait_refs (object_stands n) row ≡ true → ends e b rows (shown_wait f row) ≡ s row) where
    next_of : {r : Option ℕ} → IsMet rows (ends e b rows) r → IsNext rows e b r
    next_of m = record { found = m.found; waits = m.waits }

    next_met : (r : Option ℕ) → r ≡ first_thread s lent → IsNext rows e b r
    next_met r at =
        let firsts = ap (first (ends e b rows)) is.waits ∙ first-map (shown_wait f) (all_pass wait_refs (object_stands n)) s (ends e b rows) same lent.rows is.stand in
        next_of (met rows (ends e b rows) r is.single
        (at ∙ sym (ap (λ o. option_map (λ (x : WaitRow). x.thread) o) firsts ∙ mapped-twice (shown_wait f) (λ (x : WaitRow). x.thread) (first s lent.rows))))

  -- the ports of a row, and the kind of its wait
  module _ (key : Key) (there : stands n.ports key ≡ true) (row : WaitingThread) (ok : all_pass wait_refs (object_stands n) row ≡ true) where
    port_same : same_birth (name_of n.ports row.wait.port) (name_of n.ports key) ≡ is_key row.wait.port key
    port_same = agrees n.ports row.wait.port key is.apart (grind arith) there

    queue_same : same_birth (name_of n.ports row.wait.queue) (name_of n.ports key) ≡ is_key row.wait.queue key
    queue_same = agrees n.ports row.wait.queue key is.apart (grind arith) there

    kinds : IsSeenAs (shown_kind row.wait.kind row.message.items (option_map (shown_offer f) row.offer) row.accepted) row.wait.kind row.accepted
    kinds = seen row.wait.kind row.message.items (option_map (shown_offer f) row.offer) row.accepted

    receiver_same : is_receiver (name_of n.ports key) (shown_wait f row) ≡ waits.is_receiver_at key row
    receiver_same = rw (port_same, queue_same, kinds.receive, kinds.listen) refl

    request_same : is_request_on (name_of n.ports key) (shown_wait f row) ≡ waits.is_request_on key row
    request_same = rw (port_same, kinds.request) refl

    queued_same : is_queued_request (name_of n.ports key) (shown_wait f row) ≡ waits.is_unreceived_request_in key row
    queued_same = rw (queue_same, kinds.request) refl

    offered_same : is_offered_to (name_of n.ports key) (shown_wait f row) ≡ waits.is_offered_to key row
    offered_same = rw (queue_same, kinds.offered) refl

  pub next-receiver : (key : Key) → stands n.ports key ≡ true → (r : Option ℕ) → r ≡ first_thread (waits.is_receiver_at key) lent → IsNext rows Receives (name_of n.ports key) r
  next-receiver key there = next_met Receives (name_of n.ports key) (waits.is_receiver_at key) (receiver_same key there)

  pub next-request : (key : Key) → stands n.ports key ≡ true → (r : Option ℕ) → r ≡ first_thread (waits.is_request_on key) lent → IsNext rows Requests (name_of n.ports key) r
  next-request key there = next_met Requests (name_of n.ports key) (waits.is_request_on key) (request_same key there)

  pub next-queued : (key : Key) → stands n.ports key ≡ true → (r : Option ℕ) → r ≡ first_thread (waits.is_unreceived_request_in key) lent → IsNext rows QueuedRequests (name_of n.ports key) r
  next-queued key there = next_met QueuedRequests (name_of n.ports key) (waits.is_unreceived_request_in key) (queued_same key there)

  pub next-offered : (key : Key) → stands n.ports key ≡ true → (r : Option ℕ) → r ≡ first_thread (waits.is_offered_to key) lent → IsNext rows Offers (name_of n.ports key) r
  next-offered key there = next_met Offers (name_of n.ports key) (waits.is_offered_to key) (offered_same key there)

  -- Across a pair
  abbrev name_in : Option Key → Option Birth
  name_in other = option_map (name_of n.ports) other

  -- a wait that was made on an optional port
  abbrev is_at : Option Key → WaitingThread → Bool
  is_at other row = passes other (is_key row.wait.port)

  at_same : (other : Option Key) → some_stands n.ports other ≡ true → (row : WaitingThread) → all_pass wait_refs (object_stands n) row ≡ true → is_the (name_of n.ports row.wait.port) (name_in other) ≡ is_at other row
  at_same None there row ok = refl
  at_same (Some key) there row ok = port_same key there row ok

  none-first : (p : WaitingThread → Bool) (xs : List WaitingThread) → None ≡ option_map (λ (row : WaitingThread). row.thread) (first (λ row. p row && false) xs)
  none-first p [] = refl
  none-first p (x ∷ xs) = none (p x) (none-first p xs)
    where
      none : (a : Bool) → None ≡ option_map (λ (row : WaitingThread). row.thread) (first (λ row. p row && false) xs)
          → None ≡ option_map (λ (row : WaitingThread). row.thread) (cond (a && false) (Some x) (first (λ row. p row && false) xs))
      none true rest = rest
      none false rest = rest

  module _ (key : Key) (there : stands n.ports key ≡ true) (pairs : HasMutualPairs rows) where
    request_across : (other : Option Key) → some_stands n.ports other ≡ true → name_in other ≡ pair_of rows (name_of n.ports key) → (r : Option ℕ)
        → r ≡ first_thread (λ row. waits.is_request row.wait.kind && is_at other row) lent → IsNext rows RequestsAcross (name_of n.ports key) r
    request_across other stand pair = next_met RequestsAcross (name_of n.ports key) (λ row. waits.is_request row.wait.kind && is_at other row) (λ row ok.
        request-turned rows pairs (name_of n.ports key) (shown_wait f row)
        ∙ ap (λ o. is_request (shown_wait f row) && is_the (name_of n.ports row.wait.port) o) (sym pair)
        ∙ ap (λ t. is_request (shown_wait f row) && t) (at_same other stand row ok)
        ∙ ap (λ t. t && is_at other row) (seen row.wait.kind row.message.items (option_map (shown_offer f) row.offer) row.accepted).request)

    pub next-request_across : (other : Key) → stands n.ports other ≡ true → Some (name_of n.ports other) ≡ pair_of rows (name_of n.ports key) → (r : Option ℕ)
        → r ≡ first_thread (waits.is_request_on other) lent → IsNext rows RequestsAcross (name_of n.ports key) r
    next-request_across other stand pair r at = request_across (Some other) stand pair r at

    pub no-request_across : None ≡ pair_of rows (name_of n.ports key) → IsNext rows RequestsAcross (name_of n.ports key) None
    no-request_across pair = request_across None refl pair None (none-first (λ row. waits.is_request row.wait.kind) lent.rows)

    receive_across : (other : Option Key) → some_stands n.ports other ≡ true → name_in other ≡ client_across rows (name_of n.ports key) → (r : Option ℕ)
        → r ≡ first_thread (λ row. waits.is_receive row.wait.kind && is_at other row) lent → IsNext rows ReceivesAcross (name_of n.ports key) r
    receive_across other stand client = next_met ReceivesAcross (name_of n.ports key) (λ row. waits.is_receive row.wait.kind && is_at other row) (λ row ok.
        receive-turned rows pairs (name_of n.ports key) (shown_wait f row)
        ∙ ap (λ o. is_receive (shown_wait f row) && is_the (name_of n.ports row.wait.port) o) (sym client)
        ∙ ap (λ t. is_receive (shown_wait f row) && t) (at_same other stand row ok)
        ∙ ap (λ t. t && is_at other row) (seen row.wait.kind row.message.items (option_map (shown_offer f) row.offer) row.accepted).receive)

    pub next-receive_across : (other : Key) → stands n.ports other ≡ true → Some (name_of n.ports other) ≡ client_across rows (name_of n.ports key) → (r : Option ℕ)
        → r ≡ first_thread (waits.is_receive_on other) lent → IsNext rows ReceivesAcross (name_of n.ports key) r
    next-receive_across other stand client r at = receive_across (Some other) stand client r at

    pub no-receive_across : None ≡ client_across rows (name_of n.ports key) → IsNext rows ReceivesAcross (name_of n.ports key) None
    no-receive_across client = receive_across None refl client None (none-first (λ row. waits.is_receive row.wait.kind) lent.rows)

    pub next-accepted_across : (other : Option Key) → some_stands n.ports other ≡ true → name_in other ≡ pair_of rows (name_of n.ports key) → (r : Option ℕ)
        → r ≡ first_thread (waits.is_accepted_at key other) lent → IsNext rows AcceptedAcross (name_of n.ports key) r
    next-accepted_across other stand pair = next_met AcceptedAcross (name_of n.ports key) (waits.is_accepted_at key other) (λ row ok.
        accepted-turned rows pairs (name_of n.ports key) (shown_wait f row)
        ∙ ap (λ o. is_accepted (shown_wait f row) && (is_made_on (name_of n.ports key) (shown_wait f row) || is_the (name_of n.ports row.wait.port) o)) (sym pair)
        ∙ ap (λ t. is_accepted (shown_wait f row) && (is_made_on (name_of n.ports key) (shown_wait f row) || t)) (at_same other stand row ok)
        ∙ ap (λ t. is_accepted (shown_wait f row) && (t || is_at other row)) (port_same key there row ok)
        ∙ ap (λ t. t && waits.is_made_at key other row) (seen row.wait.kind row.message.items (option_map (shown_offer f) row.offer) row.accepted).accepted)
