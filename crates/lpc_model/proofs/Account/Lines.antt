-- Each line is in balance: of the messages that it finds and posts each stands behind it, is shown as received, or is lost.
use Rattle.std.proofs.Common.{◌≡◌, ℕ, ◌+◌, List, [], ◌∷◌, ◌++◌, Bool, true, false, not, Option, Some, None, refl, sym, subst, arith, ap, append_assoc, suc, ◌∙◌, zero}
use Rattle.std.proofs.lemmas.Bool.{and_from}
use Rattle.lpc_base.specs.Rows.{count, every, first, when, without_first}
use Rattle.lpc_base.proofs.RowWords.{count-append, first-passes, every-append}
use Rattle.lpc_base.proofs.RowMaps.{every-first}
use Rattle.lpc_base.proofs.Births.{birth-same, birth-self}
use Rattle.lpc_base.specs.declared.birth.Birth.{Birth}
use Rattle.lpc_base.specs.declared.status.Status.{Status}
use Rattle.lpc_base.specs.declared.status.TheConstants.{REPLY_MESSAGE_MISMATCH, SUCCESS}
use Rattle.lpc_message.specs.declared.kind.TheConstants.{DATAGRAM, REQUEST}
use Rattle.lpc_message.specs.declared.message.ClientId.{ClientId}
use Rattle.lpc_model.specs.declared.entry.CallName.{CallName}
use Rattle.lpc_model.specs.declared.entry.CallName.TheVariants.{NtAcceptConnectPort, NtClose, NtListenPort, NtReplyWaitReceivePort, NtReplyPort}
use Rattle.lpc_model.specs.declared.entry.Entry.{Entry}
use Rattle.lpc_model.specs.declared.entry.Entry.TheVariants as entry
use Rattle.lpc_model.specs.declared.message.Message.{Message}
use Rattle.lpc_model.specs.World.{HandleRow, MessageRow, PortRow, ThreadRow, World, ViewRow, ProcessRow, Raised, WaitRow, Chance, Event, FirstDebug, LastDebug, LastException, Request}
use Rattle.lpc_model.specs.Accounts.{Receipt, is_message, is_received, has_receipt, received_on, standing, is_woken, lost, receipts}
use Rattle.lpc_model.specs.Basics.{Basic, Receives, Takes, TakesConnect, Tells, Wakes, world_after, Marks, Dooms, Frees, Leaves, doing, entries_of, first_code, posts_of}
use Rattle.lpc_model.specs.Close.{close_handle, close_steps}
use Rattle.lpc_model.specs.Connect.{client_port, connection_request, connect_start, accept_steps, accept_start, shared_fields, allow_steps, connect_steps, create_steps, guard_steps, listen_steps, named_steps}
use Rattle.lpc_model.specs.Death.{end_threads, code_status}
use Rattle.lpc_model.specs.Entering.{enter, row_of, woken}
use Rattle.lpc_model.specs.Fields.{msg, receipt}
use Rattle.lpc_model.specs.Found.{fits, fitted, is_asking, is_queued, is_queued_connect, free_handle, live_threads, same_birth}
use Rattle.lpc_model.specs.Lines.{ScriptLine, listen_port, reply_wait_receive_port, run, connect_port, boot}
use Rattle.lpc_model.specs.Machine.{bare_steps, steps, own_steps, step}
use Rattle.lpc_model.specs.Message.{asks, is_connection_request}
use Rattle.lpc_model.specs.Request.{datagram_start, given_reply, receive_steps, receive_test, reply_test, request_start, sent_by, reply_steps}
use Rattle.lpc_model.specs.OwnCalls.{HasOwnCalls, is_kind_of, waits_in_call}
use Rattle.lpc_model.specs.PlainConnects.{HasPlainConnects, is_plain_connect}
use Rattle.lpc_model.specs.SoundWaits.{HasShutConnects, IsSoundWorld}
use Rattle.lpc_model.specs.Sweep.{sweep}
use Rattle.lpc_model.proofs.Account.Steps.{ArePlain, end_balances, handle_balances, plain-level, sent_balances, sweep-plain, Balances, enter_balances, plain_balances, then_balances}
use Rattle.lpc_model.proofs.Calls.Acts.{tested-queue}
use Rattle.lpc_model.proofs.Account.OwnCalls.{calls_line}
use Rattle.lpc_model.proofs.Account.Balance.{AreBalanced, is_listening, may_show, both-balanced, is_level, level-balanced, none-read, tells_message, entries-both, lost-both}
use Rattle.lpc_model.proofs.Account.DryQueues.{count-one, dry-first, listened-as, one-each, seen-as, IsEntered}
use Rattle.lpc_model.proofs.Steps.Ending.{answered_end}
use Rattle.lpc_model.proofs.Calls.Holding.{Holds, bind_holds, found_holds, holds_ok}
use Rattle.lpc_model.proofs.Calls.Lines.{IsCalled, LineLaw, line-does, shows_status}
use Rattle.lpc_model.proofs.Calls.Outcomes.{Outcomes}
use Rattle.lpc_model.proofs.Sound.Drops.{count-first, one_if}
use Rattle.lpc_model.specs.Offers.{mapped, shared_steps}
use Rattle.lpc_model.proofs.Calls.Sharing.{mapped-pass, shared-pass, guard-pass}
use Rattle.lpc_model.specs.Tests.{next_birth, client_of, client_test}
use Rattle.lpc_model.proofs.Calls.Raising.{set-passes, on-holds}
use Rattle.lpc_model.proofs.Sound.Reply.{fits-asking, reply-cases}
use Rattle.lpc_model.proofs.Sound.Worlds.{by_kind}
use Rattle.lpc_model.specs.Raise.{event_begun, event_message, raise_told, set_port_steps, Handled, Heard, Hearing, Next, Unhandled, behind_chance, go_on, goes_on}
use Rattle.lpc_model.proofs.Closings.Told.{posts-append}
use Rattle.lpc_model.proofs.Settling.Settled.{IsReady}
use Rattle.lpc_model.proofs.Steps.InTurn.{after-append}
use Rattle.lpc_model.proofs.Steps.Sweep.{sweep_every}
use Rattle.lpc_model.specs.Settle.{turns, and_then_on, doomed_processes, end_doomed, least, most_turns, settle, turn, turn_by}
use Rattle.std.specs.Prelude.{◌&&◌, option_map}
use Rattle.lpc_base.proofs.Bools.{first-true, second-true}

-- an entry that shows a status alone tells of no receipt
status-level : (e : Entry) → shows_status e ≡ true → not (tells_message e) ≡ true
status-level (entry.Wakes who call status fields) is = absurd (cc)
status-level (entry.Answer who call status []) is = refl
status-level (entry.Answer who call status (f ∷ fields)) is = absurd (cc)
status-level e is = refl

-- a reply wakes a thread that didn't listen
asked-call : (call : CallName) (m : Message) → is_kind_of call (Request m) ≡ true → is_listening call ≡ false
asked-call NtListenPort m is = absurd (cc)
asked-call call m is = refl

raised-call : (call : CallName) (r : Raised) → is_kind_of call (Event r) ≡ true → is_listening call ≡ false
raised-call NtListenPort r is = absurd (cc)
raised-call call r is = refl

asking-call : (x : WaitRow) → is_asking x ≡ true → waits_in_call x ≡ true → is_listening x.call ≡ false
asking-call =
    by_kind (λ x. is_asking x ≡ true → waits_in_call x ≡ true → is_listening x.call ≡ false)
    (λ x m is own. asked-call x.call m own) (λ x is own. absurd (cc)) (λ x is own. absurd (cc)) (λ x m offer is own. absurd (cc)) (λ x m a is own. absurd (cc)) (λ x r is own. raised-call x.call r own)

answered-call : (w : World) (port : PortRow) (m : Message) → HasOwnCalls w → Holds (λ (x : WaitRow). is_listening x.call ≡ false) (reply_test w port m)
answered-call w port m own =
    let P : WaitRow → Type 0 = λ x. is_listening x.call ≡ false in
    bind_holds (client_test w m.header.client) _ P (λ _ _.
    found_holds P (fitted w port.birth m) REPLY_MESSAGE_MISMATCH (λ x at.
    asking-call x (fits-asking w port.birth m x (first-passes (fits w port.birth m) w.waits x at)) (every-first waits_in_call (fits w port.birth m) w.waits x own at)))

-- an event is no connection request
event-plain : (client : ClientId) (identifier code : ℕ) (h : Hearing) → is_plain_connect (row_of h.queue h.port (event_message client identifier code h.chance)) ≡ true
event-plain client identifier code h = at h.chance
  where
    at : (c : Chance) → is_plain_connect (row_of h.queue h.port (event_message client identifier code c)) ≡ true
    at FirstDebug = refl
    at LastDebug = refl
    at LastException = refl

-- waits are those of their calls, and connection requests have no context
abbrev IsReceivable : World → Type 0
IsReceivable w = HasOwnCalls w × HasPlainConnects w

-- what is told of a token is no message
told-level : (b : Bool) → not (b && false) ≡ true
told-level b = grind arith

module _ (s : Receipt) where
  abbrev Balanced : ScriptLine → World → List Basic → Type 0
  Balanced line w bs = AreBalanced s w line w bs

  -- what the law says of a line, in which its steps can be read
  record IsBalanced (line : ScriptLine) (w : World) (bs : List Basic) : Type 0 where
    sum : Balanced line w bs

  level : (w : World) (line : ScriptLine) (bs : List Basic) → every is_level bs ≡ true → IsBalanced line w bs
  level w line bs all = record { sum = level-balanced s w line w bs all }

  sent : (w : World) (line : ScriptLine) (m : MessageRow) (start : List Basic) → is_plain_connect m ≡ true → ArePlain start → IsSoundWorld w → HasOwnCalls w → IsBalanced line w (start ++ enter m (world_after w start))
  sent w line m start connects plain sound own = record { sum = sent_balances s w line m start connects plain (dry-first w sound own) }

  -- A receive takes what it shows
  -- what a reply does before: nothing, a wake, or a mark
  abbrev are_replies : List Basic → Bool
  are_replies [] = true
  are_replies (Wakes who call status fields ∷ []) = not (may_show call fields)
  are_replies (Marks who ∷ []) = true
  are_replies bs = false

  given-replies : (w : World) (port : PortRow) (o : Option Message) → HasOwnCalls w → Holds (λ bs. are_replies bs ≡ true) (given_reply w port o)
  given-replies w port None own = refl
  given-replies w port (Some m) own = bind_holds (reply_test w port m) _ (λ bs. are_replies bs ≡ true) (λ x fits.
      let off = holds_ok (λ (x : WaitRow). is_listening x.call ≡ false) (reply_test w port m) x (answered-call w port m own) fits in
      reply-cases (λ b. are_replies (b ∷ []) ≡ true) x m (rw off refl) refl (λ _. refl))

  module _ (w : World) (line : ScriptLine) (by : ThreadRow) (port : PortRow) (queue : Birth) (m : MessageRow) (found : first (is_queued queue) w.messages ≡ Some m) (from : received_on w line ≡ Some queue) where
    abbrev answer : Entry
    answer = entry.Answer by.number NtReplyWaitReceivePort SUCCESS (receipt m)

    its_queue : m.queue ≡ queue
    its_queue = birth-same m.queue queue (first-passes (is_queued queue) w.messages m found)

    seen : is_received s w line answer ≡ has_receipt s m
    seen = seen-as s w line (received_on w line) m (rw (from, its_queue) (birth-self queue))

    -- it stood, and is shown
    taken-sum : standing s w ≡ count (has_receipt s) (without_first (is_queued m.queue) w.messages) + count (is_received s w line) (answer ∷ [])
    taken-sum =
        let first = count-first (has_receipt s) (is_queued queue) w.messages m found in
        let here : count (has_receipt s) (without_first (is_queued m.queue) w.messages) + one_if (has_receipt s m) ≡ standing s w = subst (λ q. count (has_receipt s) (without_first (is_queued q) w.messages) + one_if (has_receipt s m) ≡ standing s w) (sym its_queue) first in
        let one = one-each (has_receipt s) (is_received s w line) m answer seen (count (has_receipt s) (without_first (is_queued m.queue) w.messages)) in
        let own = count-one (has_receipt s) m in
        omega (arith, here, one, own)

    taken-balanced : (replied : List Basic) → are_replies replied ≡ true → Balanced line w (receive_steps by port queue replied (Some m))
    taken-balanced [] is = at (asks m.message)
      where
        at : (a : Bool) → Balanced line w (Tells answer ∷ Takes m.queue ∷ when a (Receives m.message.header.client.thread m.queue ∷ []))
        at true = omega (arith, taken-sum)
        at false = omega (arith, taken-sum)
    taken-balanced (Wakes who call status fields ∷ []) is = at (asks m.message)
      where
        none : count (is_received s w line) (entry.Wakes who call status fields ∷ []) ≡ 0
        none = none-read s w line (entry.Wakes who call status fields) is

        more : count (is_received s w line) (answer ∷ entry.Wakes who call status fields ∷ []) ≡ count (is_received s w line) (answer ∷ []) + count (is_received s w line) (entry.Wakes who call status fields ∷ [])
        more = count-append (is_received s w line) (answer ∷ []) (entry.Wakes who call status fields ∷ [])

        at : (a : Bool) → Balanced line w (Tells answer ∷ Wakes who call status fields ∷ Takes m.queue ∷ when a (Receives m.message.header.client.thread m.queue ∷ []))
        at true = omega (arith, taken-sum, none, more)
        at false = omega (arith, taken-sum, none, more)
    taken-balanced (Marks who ∷ []) is = at (asks m.message)
      where
        at : (a : Bool) → Balanced line w (Tells answer ∷ Marks who ∷ Takes m.queue ∷ when a (Receives m.message.header.client.thread m.queue ∷ []))
        at true = omega (arith, taken-sum)
        at false = omega (arith, taken-sum)
    taken-balanced (Wakes who call status fields ∷ b ∷ bs) is = absurd (cc)
    taken-balanced (Marks who ∷ b ∷ bs) is = absurd (cc)
    taken-balanced (b ∷ bs) is = absurd (cc)

  -- A listen takes the connection request that it shows
  module _ (w : World) (line : ScriptLine) (by : ThreadRow) (queue : Birth) (m : MessageRow) (found : first (is_queued_connect queue) w.messages ≡ Some m) (from : received_on w line ≡ Some queue) (connects : HasPlainConnects w) where
    abbrev shown_alone : Entry
    shown_alone = entry.Answer by.number NtListenPort SUCCESS (msg m.message ∷ [])

    is_its : (same_birth m.queue queue && is_connection_request m.message) ≡ true
    is_its = first-passes (is_queued_connect queue) w.messages m found

    listen_queue : m.queue ≡ queue
    listen_queue = birth-same m.queue queue (first-true (same_birth m.queue queue) (is_connection_request m.message) is_its)

    heard : is_received s w line shown_alone ≡ has_receipt s m
    heard = listened-as s w line (received_on w line) m (second-true (same_birth m.queue queue) (is_connection_request m.message) is_its) (every-first is_plain_connect (is_queued_connect queue) w.messages m connects found) (rw (from, listen_queue) (birth-self queue))

    listened-balanced : Balanced line w (listen_steps by queue (Some m))
    listened-balanced = at (asks m.message)
      where
        sum : standing s w ≡ count (has_receipt s) (without_first (is_queued_connect m.queue) w.messages) + count (is_received s w line) (shown_alone ∷ [])
        sum =
            let taken = count-first (has_receipt s) (is_queued_connect queue) w.messages m found in
            let here : count (has_receipt s) (without_first (is_queued_connect m.queue) w.messages) + one_if (has_receipt s m) ≡ standing s w = subst (λ q. count (has_receipt s) (without_first (is_queued_connect q) w.messages) + one_if (has_receipt s m) ≡ standing s w) (sym listen_queue) taken in
            let one = one-each (has_receipt s) (is_received s w line) m shown_alone heard (count (has_receipt s) (without_first (is_queued_connect m.queue) w.messages)) in
            let own = count-one (has_receipt s) m in
            omega (arith, here, one, own)

        at : (a : Bool) → Balanced line w (Tells shown_alone ∷ TakesConnect m.queue ∷ when a (Receives m.message.header.client.thread m.queue ∷ []))
        at true = omega (arith, sum)
        at false = omega (arith, sum)

  waits-balanced : (w : World) (line : ScriptLine) (by : ThreadRow) (port : PortRow) (queue : Birth) (replied : List Basic) → are_replies replied ≡ true → IsBalanced line w (receive_steps by port queue replied None)
  waits-balanced w line by port queue [] is = level w line (receive_steps by port queue [] None) refl
  waits-balanced w line by port queue (Wakes who call status fields ∷ []) is = level w line (receive_steps by port queue (Wakes who call status fields ∷ []) None) (rw is refl)
  waits-balanced w line by port queue (Marks who ∷ []) is = level w line (receive_steps by port queue (Marks who ∷ []) None) refl
  waits-balanced w line by port queue (Wakes who call status fields ∷ b ∷ bs) is = absurd (cc)
  waits-balanced w line by port queue (Marks who ∷ b ∷ bs) is = absurd (cc)
  waits-balanced w line by port queue (b ∷ bs) is = absurd (cc)

  -- A port, a thread, a process ends
  -- behind an answer without fields
  answered : (w : World) (line : ScriptLine) (by : ThreadRow) (name : CallName) (bs : List Basic) → Balanced line w bs → IsBalanced line w (Tells (entry.Answer by.number name SUCCESS []) ∷ bs)
  answered w line by name bs sum =
      let told = Tells (entry.Answer by.number name SUCCESS []) ∷ [] in
      record { sum = both-balanced s w line w told bs (level-balanced s w line w told refl) sum }

  closed-balanced : (w : World) (line : ScriptLine) (by : ThreadRow) (r : HandleRow) → IsSoundWorld w → HasOwnCalls w → IsBalanced line w (close_steps by r w)
  closed-balanced w line by r sound own = let closed = handle_balances s w line by.process r w (dry-first w sound own) in answered w line by NtClose (close_handle by.process r w) closed.balanced

  ended-balanced : (w : World) (line : ScriptLine) (by : ThreadRow) (name : CallName) (own : Bool) (pid : ℕ) (code : Status) (ts : List ThreadRow) → IsSoundWorld w → HasOwnCalls w → IsBalanced line w (answered_end by name own pid code ts w)
  ended-balanced w line by name true pid code ts sound calls = let ends = end_balances s w line pid code ts w (dry-first w sound calls) in record { sum = ends.balanced }
  ended-balanced w line by name false pid code ts sound calls = let ends = end_balances s w line pid code ts w (dry-first w sound calls) in answered w line by name (end_threads pid code ts w) ends.balanced

  -- an accept shows no message
  shared-level : (value : ℕ) (own theirs across : Option ViewRow) → not (may_show NtAcceptConnectPort (shared_fields value (record { own = own; theirs = theirs; across = across }))) ≡ true
  shared-level value None None None = refl
  shared-level value None None (Some c) = refl
  shared-level value None (Some b) None = refl
  shared-level value None (Some b) (Some c) = refl
  shared-level value (Some a) None None = refl
  shared-level value (Some a) None (Some c) = refl
  shared-level value (Some a) (Some b) None = refl
  shared-level value (Some a) (Some b) (Some c) = refl

  -- The calls
  calls-balanced : (by : ThreadRow) (w : World) → IsCalled IsReceivable w by → Outcomes w by (λ call. IsBalanced (run by.number call) w)
  calls-balanced by w called = let is = called in record {
    creates = λ dacl. level w _ _ refl;
    founds = λ name dacl path free. level w _ _ (every-append is_level (create_steps by (named_steps (next_birth by) path) (free_handle w by.process)) (guard_steps (next_birth by) (Some name) dacl) refl (guard-pass is_level (λ _ _. refl) (next_birth by) dacl));
    connects = λ name quality view bytes offer own connection c.
        let m = connection_request by offer bytes in
        let line = run by.number (connect_port name quality view bytes) in
        let start = connect_start by connection offer own m in
        let row = row_of connection (client_port by connection) m in
        let bs = start ++ enter row (world_after w start) in
        let one = sent w line row start refl refl is.sound is.known.0 in
        let maps = mapped by.process own in
        let both = both-balanced s w line w bs maps one.sum (level-balanced s w line (world_after w bs) maps (mapped-pass is_level by.process (λ _. refl) own)) in
        let all = connect_steps by connection offer own m w in
        record { sum = both-balanced s w line w all (allow_steps w by quality) both (level-balanced s w line (world_after w all) (allow_steps w by quality) refl) };
    listens = λ handle port m l at.
        let line = run by.number (listen_port handle) in
        record { sum = listened-balanced w line by port.birth m at (rw (is.can.lives, l.port_found) refl) is.known.1 };
    awaits_connect = λ handle port l at. level w _ _ refl;
    refuses = λ context bytes view a at. level w _ _ refl;
    accepts = λ context bytes view offer a views c. level w _ (accept_steps by context (free_handle w by.process) a views)
        (every-append is_level (accept_start by context (free_handle w by.process) a views) (shared_steps by a.wait views) (and_from _ _ (shared-level (free_handle w by.process) views.own views.theirs views.across) refl) (shared-pass is_level by a.wait (λ _. refl) (λ _. refl) views));
    completes = λ handle c at. level w _ _ refl;
    sends = λ handle bytes t at. sent w _ (row_of t.queue t.port (sent_by by DATAGRAM t.message)) (datagram_start by) refl refl is.sound is.known.0;
    asks = λ handle bytes t at. let m = sent_by by REQUEST t.message in sent w _ (row_of t.queue t.port m) (request_start by t.port.birth t.queue m) refl refl is.sound is.known.0;
    replies = λ handle bytes port m x at read fits.
        let off = holds_ok (λ (x : WaitRow). is_listening x.call ≡ false) (reply_test w port m) x (answered-call w port m is.known.0) fits in
        level w _ (reply_steps by x m) (reply-cases (λ b. every is_level (Tells (entry.Answer by.number NtReplyPort SUCCESS []) ∷ b ∷ []) ≡ true) x m (rw off refl) refl (λ _. refl));
    receives = λ handle bytes o port queue replied m r at.
        let line = run by.number (reply_wait_receive_port handle bytes) in
        let from : received_on w line ≡ Some queue = rw (is.can.lives, r.port_found) (holds_ok _ (receive_test w port) queue (tested-queue w port) r.queue_found) in
        record { sum = taken-balanced w line by port queue m at from replied (holds_ok _ (given_reply w port o) replied (given-replies w port o is.known.0) r.reply_made) };
    awaits_message = λ handle bytes o port queue replied r at. waits-balanced w _ by port queue replied (holds_ok _ (given_reply w port o) replied (given-replies w port o is.known.0) r.reply_made);
    registers = λ handle port at new few. level w _ _ refl;
    repeats = λ handle port at known. level w _ _ refl;
    closes = λ handle r at. closed-balanced w _ by r is.sound is.known.0;
    duplicates = λ handle access r at. level w _ _ refl;
    queries = λ handle r at. level w _ _ refl;
    spawns = λ pid tid new unused. level w _ _ refl;
    starts = λ target tid pid _ live unused. level w _ _ refl;
    makes_section = λ size prot asked. level w _ _ refl;
    maps_view = λ handle offset size prot t rounded base m. level w _ _ refl;
    unmaps_view = λ address v at. level w _ _ refl;
    reads_memory = λ address n v at. level w _ _ refl;
    writes_memory = λ address new v at may. level w _ _ refl;
    reads_range = λ handle bytes index n d at. level w _ _ refl;
    writes_range = λ handle bytes index new d at may. level w _ _ refl;
    impersonates = λ handle bytes own allowed. level w _ _ refl;
    reverts = λ class. level w _ _ refl;
    opens_own = λ own at. level w _ _ refl;
    opens_primary = level w _ _ refl;
    asks_token = λ handle class t field at told. level w _ _ (and_from _ true (told-level (is_message field)) refl);
    sets = λ target class handle pid port at found live. level w _ (set_port_steps by class pid port.birth) (set-passes (λ bs. every is_level bs ≡ true) by class pid port.birth refl refl);
    handles = λ code handled. level w _ _ refl;
    hears = λ code handled h heard. sent w _ (row_of h.queue h.port (event_message (client_of by) by.next_identifier code h.chance)) (raise_told by ∷ event_begun by code handled h) (event-plain (client_of by) by.next_identifier code h) refl is.sound is.known.0;
    fails = λ code handled. level w _ _ refl;
    ends = λ call name own pid code ts doomed. ended-balanced w _ by name own pid code ts is.sound is.known.0;
  }

  -- The lines
  balanced-lines : LineLaw IsReceivable IsBalanced
  balanced-lines = record {
    tells = λ line w e is. level w line _ (and_from _ true (status-level e is) refl);
    calls = calls-balanced;
    names = λ w name content more. level w _ _ refl;
    boots = λ w pid tid name content new unused sound more. level w _ _ refl;
    threads = λ w tid pid live unused sound more. level w _ _ refl;
    dirs = λ w text path free more. level w _ _ refl;
    links = λ w text target path to free more. level w _ _ refl;
  }

  -- Settling: its receives began before it
  -- a line that receives nothing
  abbrev no_receive : ScriptLine
  no_receive = boot 0 0 None

  woken-same : (v : World) (e : Entry) → is_received s v no_receive e ≡ is_woken s v e
  woken-same v (entry.Wakes tid call status fields) = refl
  woken-same v (entry.Answer tid call status fields) = refl
  woken-same v e = refl

  on-balances : (v : World) (tid : ℕ) → Balances s v no_receive (go_on tid)
  on-balances v tid u dry = on-holds (IsEntered s v no_receive u) u tid (plain_balances s v no_receive (doing []) (λ _. refl) u dry) (λ t x r g. at t x r (behind_chance u x.process r.handled r.chance))
    where
      at : (t : ThreadRow) (x : WaitRow) (r : Raised) (n : Next) → IsEntered s v no_receive u (goes_on t x r n u)
      at t x r Handled = plain_balances s v no_receive (doing (woken SUCCESS [] x ∷ [])) (λ _. refl) u dry
      at t x r (Heard h) =
          then_balances s v no_receive (doing (Leaves x.thread ∷ event_begun t r.code r.handled h)) (enter (row_of h.queue h.port (event_message (client_of t) t.next_identifier r.code h.chance)))
          (plain_balances s v no_receive (doing (Leaves x.thread ∷ event_begun t r.code r.handled h)) (λ _. refl)) (enter_balances s v no_receive (row_of h.queue h.port (event_message (client_of t) t.next_identifier r.code h.chance)) (event-plain (client_of t) t.next_identifier r.code h)) u dry
      at t x r Unhandled = plain_balances s v no_receive (doing (Leaves x.thread ∷ Dooms x.process r.code ∷ [])) (λ _. refl) u dry

  doomed-balances : (v : World) (p : ProcessRow) → Balances s v no_receive (end_doomed p)
  unfolding end_doomed
  doomed-balances v p u dry = end_balances s v no_receive p.number (code_status (first_code 0 p.doom)) (live_threads u p.number) u dry

  turns-balance : (v : World) (n : ℕ) → Balances s v no_receive (turns n)
  turns-balance v zero u dry = plain_balances s v no_receive (doing []) (λ _. refl) u dry
  turns-balance v (suc n) u dry = at (turn u) refl (turns-balance v n)
    where
      turned : (bs : List Basic) → turn u ≡ Some bs → IsEntered s v no_receive u bs
      turned bs = marked u.marks
        where
          by_process : (o : Option ProcessRow) → option_map (λ p. end_doomed p u) o ≡ Some bs → IsEntered s v no_receive u bs
          by_process None is = absurd (cc)
          by_process (Some p) is = let same : end_doomed p u ≡ bs = cc in subst (IsEntered s v no_receive u) same (doomed-balances v p u dry)

          marked : (ms : List ℕ) → turn_by u ms ≡ Some bs → IsEntered s v no_receive u bs
          marked [] is = by_process (least (doomed_processes u)) is
          marked (tid ∷ later) is = let same : go_on tid u ≡ bs = cc in subst (IsEntered s v no_receive u) same (on-balances v tid u dry)

      at : (o : Option (List Basic)) → turn u ≡ o → Balances s v no_receive (turns n) → IsEntered s v no_receive u (and_then_on u o (turns n))
      at None none later = plain_balances s v no_receive (doing []) (λ _. refl) u dry
      at (Some bs) some later =
          let one = turned bs some in
          let z = world_after u bs in
          let two = later z one.dry in
          record {
            balanced = both-balanced s v no_receive u bs (turns n z) one.balanced two.balanced;
            dry = rw (after-append u bs (turns n z)) two.dry;
          }

  settled-balanced : (v : World) → IsSoundWorld v → HasOwnCalls v → Balanced no_receive v (settle v)
  unfolding settle
  settled-balanced v sound own = let all = turns-balance v (most_turns v) v (dry-first v sound own) in all.balanced

  -- steps one behind the other, of which the later are counted in a world of their own
  joined-balanced : (w : World) (xs ys : List Basic) (m n : ℕ) → standing s w + count (has_receipt s) (posts_of xs) ≡ standing s (world_after w xs) + (m + lost s w xs) → standing s (world_after w xs) + count (has_receipt s) (posts_of ys) ≡ standing s (world_after (world_after w xs) ys) + (n + lost s (world_after w xs) ys)
      → standing s w + count (has_receipt s) (posts_of (xs ++ ys)) ≡ standing s (world_after w (xs ++ ys)) + ((m + n) + lost s w (xs ++ ys))
  joined-balanced w xs ys m n one two =
      let posts : count (has_receipt s) (posts_of (xs ++ ys)) ≡ count (has_receipt s) (posts_of xs) + count (has_receipt s) (posts_of ys) = ap (count (has_receipt s)) (posts-append xs ys) ∙ count-append (has_receipt s) (posts_of xs) (posts_of ys) in
      let losses = lost-both s w no_receive w xs ys in
      let worlds : standing s (world_after w (xs ++ ys)) ≡ standing s (world_after (world_after w xs) ys) = ap (standing s) (after-append w xs ys) in
      omega (arith, one, two, posts, losses, worlds)

  -- rows that go tell of nothing
  abbrev is_row_gone : Basic → Bool
  is_row_gone (Frees o) = true
  is_row_gone b = false

  gone-silent : (bs : List Basic) → every is_row_gone bs ≡ true → entries_of bs ≡ []
  gone-silent [] all = refl
  gone-silent (Frees o ∷ bs) all = gone-silent bs all
  gone-silent (b ∷ bs) all = absurd (cc)

  woken-count : (v : World) (es : List Entry) → count (is_received s v no_receive) es ≡ count (is_woken s v) es
  woken-count v [] = refl
  woken-count v (e ∷ es) = grind (arith, woken-same v e, woken-count v es)

  pub line-balanced : (w : World) (line : ScriptLine) → IsSoundWorld w → HasShutConnects w → HasOwnCalls w → HasPlainConnects w → IsReady (world_after w (own_steps line w)) → standing s w + count (has_receipt s) (posts_of (steps line w)) ≡ standing s (step w line).world + (receipts s w line + lost s w (steps line w))
  unfolding bare_steps
  line-balanced w line sound shut calls connects ready =
      let own = own_steps line w in
      let v = world_after w own in
      let set = settle v in
      let u = world_after v set in
      let bare = own ++ set in
      let swept = sweep (world_after w bare) in
      let one = line-does IsReceivable IsBalanced balanced-lines w sound (calls, connects) line in
      let two = settled-balanced v ready.safe.sound (calls_line w line sound shut calls) in
      let same : world_after w bare ≡ u = after-append w own set in
      let three : Balanced no_receive v (set ++ swept) = both-balanced s v no_receive v set swept two (level-balanced s v no_receive u swept (plain-level swept (sweep-plain (world_after w bare)))) in
      let parts = entries-both s v no_receive set swept in
      let none : count (is_received s v no_receive) (entries_of swept) ≡ 0 = ap (λ es. count (is_received s v no_receive) es) (gone-silent swept (sweep_every is_row_gone (λ _. refl) (world_after w bare))) in
      let woken = woken-count v (entries_of set) in
      let whole : standing s w + count (has_receipt s) (posts_of (own ++ (set ++ swept))) ≡ standing s (world_after w (own ++ (set ++ swept))) + ((count (is_received s w line) (entries_of own) + count (is_received s v no_receive) (entries_of (set ++ swept))) + lost s w (own ++ (set ++ swept))) = joined-balanced w own (set ++ swept) _ _ one.sum three in
      subst (λ bs. standing s w + count (has_receipt s) (posts_of bs) ≡ standing s (world_after w bs) + ((count (is_received s w line) (entries_of own) + count (is_woken s v) (entries_of set)) + lost s w bs)) (sym (append_assoc own set swept))
      (woken-sum _ _ _ _ _ _ _ _ _ whole parts none woken)
    where
      woken-sum : (a b c r q p n l m : ℕ) → a + b ≡ c + ((r + q) + l) → q ≡ p + n → n ≡ 0 → p ≡ m → a + b ≡ c + ((r + m) + l)
      woken-sum a b c r q p n l m one two three four = omega (arith, one, two, three, four)
