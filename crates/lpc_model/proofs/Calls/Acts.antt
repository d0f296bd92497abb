-- What calls do, as acts, of which their outcomes are made: a law on steps that holds of each act holds of each outcome.
use Rattle.lpc_tokens.specs.declared.security.Security.TheVariants.{Allows, Guarded}
use Rattle.lpc_model.specs.declared.entry.ObjectKind.TheVariants as kind
use Rattle.lpc_base.proofs.Births.{birth-same, birth-self}
use Rattle.lpc_base.proofs.RowMaps.{every-first}
use Rattle.lpc_base.proofs.RowWords.{first-behind, first-passes, has-kept, has-push}
use Rattle.lpc_base.specs.Rows.{count, every, first, given, has, when}
use Rattle.lpc_base.specs.declared.status.Status.{Status}
use Rattle.lpc_base.specs.declared.status.TheConstants.{INVALID_PARAMETER, INVALID_PORT_HANDLE, PORT_DISCONNECTED, SUCCESS, INVALID_HANDLE, REPLY_MESSAGE_MISMATCH}
use Rattle.lpc_message.specs.declared.kind.TheConstants.{DATAGRAM, REQUEST, PORT_CLOSED}
use Rattle.lpc_model.proofs.Steps.Closing.{behind}
use Rattle.lpc_model.proofs.Calls.Creating.{rows-behind}
use Rattle.lpc_model.proofs.Steps.Ending.{AreEnding, answered_end, behind_dead, behind_told, die-ending, ending-enter, first-at, handle-ending, rows-left, told-facts, turn-keeps}
use Rattle.lpc_model.proofs.Calls.Holding.{Holds, bind_holds, found_ok, holds_ok, found_holds}
use Rattle.lpc_model.proofs.Calls.Lines.{IsCalled, Shut}
use Rattle.lpc_model.proofs.Calls.Offers.{Given, IsOffer, IsViewOf, fits, found-row, found-size, offered, viewed}
pub use Rattle.lpc_model.proofs.Calls.Sharing.{accept_act, connect_act}
use Rattle.lpc_model.proofs.Calls.Sharing.{AreShared, IsMapped, entered-beside, mapped-alike, mapped-ports, mapped-sections, own-mapped, shared, their-mapped, connect_begun}
use Rattle.lpc_model.proofs.Sound.Ties.{joined-birth}
use Rattle.lpc_model.proofs.Sound.Connect.{offered-client}
use Rattle.lpc_model.specs.Lines.{ViewWord}
use Rattle.lpc_model.specs.Offers.{SharedViews, acceptance, if_given, mapped, offer_test, server_views, shared_test, view_test}
use Rattle.lpc_model.specs.SoundViews.{is_sized, is_sound_offer}
use Rattle.lpc_base.specs.Views.{passes_section, view_size}
use Rattle.lpc_base.proofs.Bools.{first-true, second-true}
use Rattle.std.proofs.lemmas.Bool.{and_from, eqb-true}
use Rattle.lpc_model.proofs.Calls.Outcomes.{IsAccepting, IsConnecting, IsListening, IsReceiving, Outcomes, IsBuilding, IsMapping}
use Rattle.lpc_model.proofs.Steps.Rows.{count-change, has-found}
use Rattle.lpc_model.proofs.Sound.Basics.{sound-ordinal, sound-process}
use Rattle.lpc_model.proofs.Sound.Close.{found-value}
use Rattle.lpc_model.proofs.Sound.Terminate.{IsSafe, die-safe, enter-safe, handle-safe, sound-of, unregister-safe, lets-safe}
use Rattle.lpc_model.proofs.Steps.InTurn.{after-append}
use Rattle.lpc_model.proofs.Calls.Tested.{CanComplete, can-complete, name-open, named-wait}
use Rattle.lpc_model.proofs.Calls.Usable.{CanCall, IsUsable, by_port_kind, handle-open, if-same, port-usable, queue-open, routed}
use Rattle.lpc_model.specs.Basics.{joined, Acts, AddsHandle, AddsProcess, AddsThread, AddsToken, Secures, Awaits, Basic, Completes, DrawsIdentifier, DrawsOrdinal, DropsOwned, DropsViewsOf, Registers, Steps, Tells, Unregisters, basic, in_turn, no_handles, with_handle, world_after, AddsSection, Maps, Unmaps, Writes, Dooms, Leaves, LetsGo, Marks, SetsDebug, SetsException}
use Rattle.lpc_model.specs.Close.{close_handle}
use Rattle.lpc_model.specs.Closings.{is_closed_post}
use Rattle.lpc_model.specs.Connect.{Completable, ConnectAnswer, accept_steps, acceptance_of, answer_test, client_port, connect_steps, complete_steps, complete_test, connection_request, is_accepted_on, listen_steps, listen_wait, named_steps, names_connect, server_port, unnamed_steps}
use Rattle.lpc_model.specs.Counts.{asked}
use Rattle.lpc_model.specs.Impersonation.{TOKEN_ACCESS, new_token, token_steps}
use Rattle.lpc_model.specs.Creation.{gives_life, making_process, making_thread, new_process, new_thread, second_birth, second_handle}
use Rattle.lpc_model.specs.Death.{death_post, die, end_process, end_threads, post_death, post_deaths}
use Rattle.lpc_model.specs.Entering.{end_connect, enter, row_of, take_connect_steps, take_steps, woken}
use Rattle.lpc_model.specs.Fields.{completion_fields}
use Rattle.lpc_model.specs.Found.{acting_token, is_token, token_name, token_of, free_handle, handle_at, handles_of, has_value, is_accepted, is_born_process, is_born_thread, is_connect, is_connected_to, is_cut, is_live, is_open, is_paired_to, is_port, is_offered, is_server_port, is_table, is_the, names_wait, offer_of, port_name, port_row, process_name, queue_of, route, rows_in, same_birth, same_kind, thread_name, way, was_process, was_thread, is_section, section_name, section_row, is_asking, fitted, is_event}
use Rattle.lpc_model.specs.Memory.{SECTION_ACCESS, mapped_view, mapping_right, new_section, place_in, section_steps, section_test, size_test}
use Rattle.lpc_model.specs.Message.{message_test}
use Rattle.lpc_model.specs.Named.{free_name, named_port}
use Rattle.lpc_model.specs.Raise.{DEBUG_CLASS, Hearing, event_kind, event_message, event_wait, send_event, set_port_steps}
use Rattle.lpc_model.proofs.Calls.Raising.{IsHeard, heard-routed}
use Rattle.lpc_model.proofs.Sound.Reply.{reply-cases}
use Rattle.lpc_model.specs.Refusal.{found_or, refuse_if}
use Rattle.lpc_model.specs.Request.{Sendable, datagram_send_test, datagram_steps, datagram_test, given_reply, is_spent, receive_steps, receive_test, receive_wait, reply_test, request_steps, request_wait, send_test, sent_by}
use Rattle.lpc_model.specs.OwnCalls.{waits_in_call}
use Rattle.lpc_model.specs.PlainConnects.{is_plain_connect}
use Rattle.lpc_model.specs.SoundWaits.{IsSoundWorld, can_stay_sound}
use Rattle.lpc_model.specs.Standing.{has_near_queue, port_stands, is_near, names_object, stands_as, section_stands}
use Rattle.lpc_model.specs.Targets.{LIFE_ACCESS}
use Rattle.lpc_model.specs.Tests.{PORT_ACCESS, handle_row, next_birth, port_test, object_test, client_of, client_test}
use Rattle.lpc_model.specs.World.{Acceptance, Dacl, Effective, Impersonation, Security, Token, Birth, HandleRow, HandleTable, Message, MessageRow, ObjectName, Offer, Path, PortRow, SectionRow, ThreadRow, ViewRow, WaitRow, World, Chance, FirstDebug, LastDebug, LastException}
use Rattle.lpc_model.specs.declared.entry.CallName.{CallName}
use Rattle.lpc_model.specs.declared.entry.CallName.TheVariants.{NtOpenProcessToken, NtOpenThreadToken}
use Rattle.lpc_model.specs.declared.entry.Entry.{Entry}
use Rattle.lpc_model.specs.declared.entry.Field.{Field}
use Rattle.std.proofs.Common.{Bool, List, None, Option, Some, [], ap, arith, false, map, not, refl, subst, sym, true, ℕ, ◌++◌, ◌∙◌, ◌∷◌, ◌≡◌, ◌≤◌}
use Rattle.std.specs.Prelude.{Ok, ◌%◌, ◌&&◌, ◌+◌, ◌==◌, ◌||◌, nat_le, if◌then◌else◌}
use Rattle.lpc_model.proofs.Sound.Marked.{own-event}
use Rattle.lpc_model.specs.Settle.{has_event, is_event_of}

-- What the tests of calls find
-- a message is sent on a port that stands, into an open queue; it tells of no closing, and where it is a connection request it
-- has context 0
pub record IsPost (w : World) (m : MessageRow) : Type 0 where
  pub stands : has (is_port m.sender) w.ports ≡ true
  pub opens : is_open w m.queue ≡ true
  pub other : not (is_closed_post m) ≡ true
  pub plain : is_plain_connect m ≡ true

-- a wait begins on a port that stands, near its queue, which is open, in the call of its kind
pub record IsBegun (w : World) (x : WaitRow) : Type 0 where
  pub near : has_near_queue w x ≡ true
  pub opens : is_open w x.queue ≡ true
  pub begins : not (is_accepted x) ≡ true
  pub in_call : waits_in_call x ≡ true

-- handles name what stands
abbrev pub HandlesName : World → Type 0
HandlesName w = every (λ t. every (names_object w) t.rows) w.handles ≡ true

-- a further handle is given, to an object that stands where handles name what stands, and to no port but an open one
pub record IsGift (w : World) (pid : ℕ) (o : ObjectName) : Type 0 where
  pub stands : HandlesName w → stands_as w o.kind o.birth ≡ true
  pub opens : same_kind o.kind kind.Port ≡ true → is_open w o.birth ≡ true
  pub one : count (is_table pid) w.handles ≤ 1

-- a connection can be completed, whose connect is found
pub record IsCompleted (w : World) (c : Completable) : Type 0 where
  pub can : CanComplete w c
  pub found : first (is_accepted_on c.client) w.waits ≡ Some c.wait
  pub sound : IsSoundWorld w

-- worlds in which threads end
pub record IsFirm (K : World → Type 0) (w : World) : Type 0 where
  pub safe : IsSafe w
  pub known : K w

-- The acts; those of a connect and of an accept stand beside what is known of their views
abbrev pub complete_act : World → Completable → List Basic
complete_act w c =
    let value = free_handle w c.wait.process in
    Completes c.server ∷ Completes c.client ∷ AddsHandle c.wait.process (handle_row value (port_name c.client) PORT_ACCESS) ∷ woken SUCCESS (completion_fields value (acceptance_of c.wait)) c.wait ∷ []

-- a port is made with a handle, with or without a name
abbrev pub create_act : World → ThreadRow → List Basic → List Basic
create_act w by made = DrawsOrdinal by.number ∷ made ++ AddsHandle by.process (handle_row (free_handle w by.process) (port_name (next_birth by)) PORT_ACCESS) ∷ []

-- A law on steps, of the world before them: it holds of each act, and of acts one behind the other. What else is known of the
-- worlds, steps keep by which something ends.
pub record Law (by : ThreadRow) (C K : World → Type 0) (P : World → List Basic → Type 0) : Type 0 where
  pub keeps : (w : World) (bs : List Basic) → AreEnding bs → K w → K (world_after w bs)
  pub nothing : (w : World) → P w []
  pub follows : (w : World) (xs ys : List Basic) → P w xs → P (world_after w xs) ys → P w (xs ++ ys)
  -- an entry; a number that is drawn; a wait that ends
  pub says : (w : World) (e : Entry) → P w (Tells e ∷ [])
  pub numbers : (w : World) → P w (DrawsIdentifier by.number ∷ [])
  pub wakes : (w : World) (status : Status) (fields : List Field) (x : WaitRow) → P w (woken status fields x ∷ [])
  -- an event is marked; a wait ends untold; a process gets a port that is told of its exceptions, and is to end
  pub marks : (w : World) (who : ℕ) → has_event w who ≡ true → P w (Marks who ∷ [])
  pub abandons : (w : World) (who : ℕ) → P w (Leaves who ∷ [])
  pub debugs : (w : World) (pid : ℕ) (b : Birth) → has (is_port b) w.ports ≡ true → is_live w pid ≡ true → P w (SetsDebug pid b ∷ [])
  pub excepts : (w : World) (pid : ℕ) (b : Birth) → has (is_port b) w.ports ≡ true → is_live w pid ≡ true → P w (SetsException pid b ∷ [])
  pub dooms : (w : World) (pid code : ℕ) → P w (Dooms pid code ∷ [])
  -- a message is taken; a wait begins; a message is sent, and its sender waits for what comes of it
  pub takes : (w : World) (m : MessageRow) → P w (take_steps m)
  pub listens : (w : World) (m : MessageRow) → P w (take_connect_steps m)
  pub waits : (w : World) (x : WaitRow) → not (is_connect x) ≡ true → IsBegun w x → P w (Awaits x ∷ [])
  pub sends : (w : World) (m : MessageRow) → IsPost w m → P w (enter m w)
  pub asks : (w : World) (x : WaitRow) (m : MessageRow) → not (is_connect x) ≡ true → IsBegun w x → IsPost w m → P w (Awaits x ∷ enter m (basic w (Awaits x)))
  -- a port is made with its handle, with or without a name, or for a connect; a further handle is given
  pub creates : (w : World) → IsCalled C w by → P w (create_act w by (unnamed_steps (next_birth by)))
  pub founds : (w : World) (name : List ℕ) (path : Path) → free_name w name ≡ Ok path → IsCalled C w by → P w (create_act w by (named_steps (next_birth by) path))
  pub connects : (w : World) (connection : Birth) (offer : Option Offer) (bytes : List ℕ) → is_open w connection ≡ true → Given (IsOffer w) offer → IsCalled C w by → P w (connect_act w by connection offer (connection_request by offer bytes))
  pub gives : (w : World) (pid : ℕ) (o : ObjectName) (access : ℕ) → IsGift w pid o → P w (AddsHandle pid (handle_row (free_handle w pid) o access) ∷ [])
  -- a connect is accepted, a connection completed, a port registered
  pub accepts : (w : World) (context : ℕ) (m : Message) (x : WaitRow) (a : Acceptance) → first (names_connect w by m) w.waits ≡ Some x → IsCalled C w by → P w (accept_act w by context x a)
  pub completes : (w : World) (c : Completable) → IsCompleted w c → P w (complete_act w c)
  pub registers : (w : World) (b : Birth) → has (is_port b) w.ports ≡ true → P w (Registers by.number b ∷ [])
  -- a process is made with its thread, a thread is made
  pub spawns : (w : World) (pid tid : ℕ) (token : Token) → was_process w pid ≡ false → was_thread w tid ≡ false → IsSoundWorld w → P w (DrawsOrdinal by.number ∷ DrawsOrdinal by.number ∷ AddsProcess (new_process pid (Some by.process) (next_birth by) token) ∷ AddsThread (new_thread tid pid (second_birth by)) ∷ [])
  pub starts : (w : World) (tid pid : ℕ) → is_live w pid ≡ true → was_thread w tid ≡ false → IsSoundWorld w → P w (DrawsOrdinal by.number ∷ AddsThread (new_thread tid pid (next_birth by)) ∷ [])
  -- a handle goes, a thread ends, a registration goes, the views of a process go, and those of a port
  pub closes : (w : World) (pid : ℕ) (r : HandleRow) → handle_at w pid r.value ≡ Some r → IsSoundWorld w → K w → P w (close_handle pid r w)
  pub dies : (w : World) (code : Status) (t : ThreadRow) → IsSafe w → P w (die code t w)
  pub leaves : (w : World) (n : ℕ) (b : Birth) → P w (Unregisters n b ∷ [])
  pub lets_go : (w : World) (pid : ℕ) → P w (LetsGo pid ∷ [])
  pub vacates : (w : World) (pid : ℕ) → P w (DropsViewsOf pid ∷ [])
  pub disowns : (w : World) (b : Birth) → P w (DropsOwned b ∷ [])
  -- a section is made, without a handle; a view is mapped, and goes; bytes are written
  pub builds : (w : World) (size prot : ℕ) → IsBuilding size prot → P w (DrawsOrdinal by.number ∷ AddsSection (new_section by size prot) ∷ [])
  pub maps : (w : World) (pid : ℕ) (v : ViewRow) → IsMapped C w pid v → P w (Maps pid v ∷ [])
  pub unmaps : (w : World) (pid base : ℕ) → P w (Unmaps pid base ∷ [])
  pub writes : (w : World) (b : Birth) (place : ℕ) (new : List ℕ) → P w (Writes b place new ∷ [])
  -- a port gets its access list, or what it allows; a thread acts as its client, or as itself; a token is made, without a handle
  pub secures : (w : World) (b : Birth) (s : Security) → P w (Secures b s ∷ [])
  pub acts : (w : World) (own : Option Impersonation) → P w (Acts by.number own ∷ [])
  pub holds_token : (w : World) (content : Effective) → P w (DrawsOrdinal by.number ∷ AddsToken (new_token by content) ∷ [])

-- what steps keep, steps behind others keep
pub keeps_on : (Q : World → Type 0) (w : World) (xs ys : List Basic) → (Q w → Q (world_after w xs)) → (Q (world_after w xs) → Q (world_after (world_after w xs) ys)) → Q w → Q (world_after w (xs ++ ys))
keeps_on Q w xs ys one two q = subst Q (sym (after-append w xs ys)) (two (one q))

-- Facts
pub row-stands : (w : World) (b : Birth) (p : PortRow) → port_row w b ≡ Some p → has (is_port b) w.ports ≡ true
row-stands w b p at = rw at refl

usable-stands : (w : World) (port : PortRow) → IsUsable w port → has (is_port port.birth) w.ports ≡ true
usable-stands w port u = row-stands w port.birth port u.stands

-- a port's own queue is near it, and so is that which a message enters that is sent on it
own-near : (x : WaitRow) (p : PortRow) → same_birth p.birth x.queue ≡ true → is_near x p ≡ true
own-near x p is = rw is refl

same-own : (b q : Birth) → Some b ≡ Some q → same_birth b q ≡ true
same-own b q at = let same : b ≡ q = cc in subst (λ b. same_birth b q ≡ true) (sym same) (birth-self q)

uncut-same : (q : Birth) (c : Bool) (o : Option Birth) → is_the q (if c then None else o) ≡ true → is_the q o ≡ true
uncut-same q true o is = absurd (cc)
uncut-same q false o is = is

second-of : (a b c : Bool) → b ≡ true → (a || (b || c)) ≡ true
second-of a b c is = grind arith

third-of : (a b c : Bool) → c ≡ true → (a || (b || c)) ≡ true
third-of a b c is = grind arith

queue-near : (w : World) (x : WaitRow) (p : PortRow) → queue_of w p ≡ Some x.queue → is_near x p ≡ true
queue-near w x =
    by_port_kind (λ p. queue_of w p ≡ Some x.queue → is_near x p ≡ true)
    (λ p at. own-near x p (turned x.queue p.birth (if-same w (Some p.birth) x.queue at)))
    (λ p at. own-near x p (turned x.queue p.birth (if-same w (Some p.birth) x.queue at)))
    (λ p at. own-near x p (turned x.queue p.birth (if-same w (Some p.birth) x.queue at)))
    (λ p at. second-of (is_port x.queue p) (is_connected_to x.queue p) _ (if-same w p.connection x.queue at))
  where
    turned : (a b : Birth) → same_birth a b ≡ true → same_birth b a ≡ true
    turned a b is = subst (λ c. same_birth b c ≡ true) (sym (birth-same a b is)) (birth-self b)

way-near : (w : World) (x : WaitRow) (p : PortRow) → is_asking x ≡ true → way w p ≡ Some x.queue → is_near x p ≡ true
way-near w x p asks =
    by_port_kind (λ p. way w p ≡ Some x.queue → is_near x p ≡ true)
    (λ p at. own-near x p (same-own p.birth x.queue at))
    (λ p at. own-near x p (same-own p.birth x.queue at))
    (λ p at. second-of (is_port x.queue p) (is_connected_to x.queue p) _ (uncut-same x.queue (is_cut p) p.connection (if-same w (if is_cut p then None else p.connection) x.queue at)))
    (λ p at. third-of (is_port x.queue p) (is_connected_to x.queue p) (is_asking x && is_paired_to x.queue p) (and_from _ _ asks (if-same w p.pair x.queue at))) p

-- a handle of a process names an object that stands
pub found-object : (w : World) (pid value : ℕ) (r : HandleRow) → handle_at w pid value ≡ Some r → HandlesName w → names_object w r ≡ true
found-object w pid value r at n = of (first (is_table pid) w.handles) refl at
  where
    of : (o : Option HandleTable) → first (is_table pid) w.handles ≡ o → first (has_value value) (rows_in o) ≡ Some r → names_object w r ≡ true
    of None none at = absurd (cc)
    of (Some t) found at = every-first (names_object w) (has_value value) t.rows r (every-first (λ t. every (names_object w) t.rows) (is_table pid) w.handles t n found) at

-- a message is sent on a port that stands, and its way is near and open
record IsSent (w : World) (s : Sendable) : Type 0 where
  usable : IsUsable w s.port
  way : way w s.port ≡ Some s.queue
  opens : is_open w s.queue ≡ true

sent : (w : World) (by : ThreadRow) (handle : ℕ) (bytes : List ℕ) → Holds (IsSent w) (send_test w by handle bytes)
sent w by handle bytes =
    bind_holds (port_test w by handle) _ (IsSent w) (λ port at.
    bind_holds (message_test bytes) _ (IsSent w) (λ m _.
    bind_holds (found_or (route w port) PORT_DISCONNECTED) _ (IsSent w) (λ queue found.
    let u = holds_ok (IsUsable w) (port_test w by handle) port (port-usable w by handle) at in
    let routes = found_ok (route w port) PORT_DISCONNECTED queue found in
    let r = routed w port queue u routes in
    record { usable = u; way = rw u.opens at routes; opens = r.to })))

-- an event that a message fits waits
fitted-event : (w : World) (port : PortRow) (m : Message) → Holds (λ (x : WaitRow). is_event x ≡ true → has_event w x.thread ≡ true) (reply_test w port m)
fitted-event w port m =
    let P : WaitRow → Type 0 = λ x. is_event x ≡ true → has_event w x.thread ≡ true in
    bind_holds (client_test w m.header.client) _ P (λ _ _.
    found_holds P (fitted w port.birth m) REPLY_MESSAGE_MISMATCH (λ x at event. has-found (is_event_of x.thread) (Rattle.lpc_model.specs.Found.fits w port.birth m) w.waits x at (own-event x event)))

answered-event : (w : World) (port : PortRow) (m : Message) (x : WaitRow) → reply_test w port m ≡ Ok x → is_event x ≡ true → has_event w x.thread ≡ true
answered-event w port m x at event = holds_ok (λ (x : WaitRow). is_event x ≡ true → has_event w x.thread ≡ true) (reply_test w port m) x (fitted-event w port m) at event

pub tested-queue : (w : World) (port : PortRow) → Holds (λ queue. queue_of w port ≡ Some queue) (receive_test w port)
tested-queue w port =
    let P : Birth → Type 0 = λ queue. queue_of w port ≡ Some queue in
    bind_holds (found_or (queue_of w port) PORT_DISCONNECTED) _ P (λ queue at.
    bind_holds (refuse_if (is_spent w port queue) PORT_DISCONNECTED) _ P (λ _ _. found_ok (queue_of w port) PORT_DISCONNECTED queue at))

-- a section that a handle names stands
pub tested-section : (w : World) (by : ThreadRow) (rights handle : ℕ) → Holds (λ (s : SectionRow). section_stands w s.birth ≡ true) (section_test w by rights handle)
tested-section w by rights handle =
    let P : SectionRow → Type 0 = λ s. section_stands w s.birth ≡ true in
    bind_holds (object_test w by kind.Section rights handle) _ P (λ birth _.
    found_holds P (section_row w birth) INVALID_HANDLE (λ s row. has-found (is_section s.birth) (is_section birth) w.sections s row (birth-self s.birth)))

may-write : (prot writable : Bool) → (prot && not writable) ≡ false → (not prot || writable) ≡ true
may-write prot writable off = grind arith

pub view-mapped : (C : World → Type 0) (w : World) (by : ThreadRow) (handle offset size prot : ℕ) (s : SectionRow) (rounded base : ℕ) → C w → IsMapping w by handle offset size prot s rounded base → IsMapped C w by.process (mapped_view s offset rounded prot base)
view-mapped C w by handle offset size prot s rounded base known m =
    let row = holds_ok (λ (s : SectionRow). section_row w s.birth ≡ Some s) (section_test w by (mapping_right prot) handle) s (found-row w by (mapping_right prot) handle) m.section in
    record {
      before = w;
      known = known;
      shows = λ _. record {
        section = s;
        row = row;
        part = λ t.
            let sized = holds_ok (λ n. (passes_section s.size offset size ≡ false) × (n ≡ view_size s.size offset size)) (size_test s offset size) rounded (found-size s offset size) m.size_found in
            let lawful : is_sized s ≡ true = every-first is_sized (is_section s.birth) w.sections s t.sizes row in
            let whole : s.size % 4096 ≡ 0 = eqb-true (s.size % 4096) 0 (first-true _ _ lawful) in
            let part : nat_le (offset + rounded) s.size ≡ true = subst (λ n. nat_le (offset + n) s.size ≡ true) (sym sized.1) (fits s.size offset size whole m.pages sized.0) in
            and_from _ _ part (may-write (prot == 4) s.writable m.written);
      };
      owner = refl;
      place = m.base_found;
    }

-- the accepted connect that is completed waits on the client port
pub complete-found : (w : World) (by : ThreadRow) (handle : ℕ) → Holds (λ (c : Completable). first (is_accepted_on c.client) w.waits ≡ Some c.wait) (complete_test w by handle)
complete-found w by handle =
    let P : Completable → Type 0 = λ c. first (is_accepted_on c.client) w.waits ≡ Some c.wait in
    bind_holds (port_test w by handle) _ P (λ port _.
    bind_holds (refuse_if (not (is_server_port port)) INVALID_PORT_HANDLE) _ P (λ _ _.
    bind_holds (refuse_if port.completed INVALID_PARAMETER) _ P (λ _ _.
    bind_holds (found_or port.pair PORT_DISCONNECTED) _ P (λ client _.
    bind_holds (found_or (first (is_accepted_on client) w.waits) PORT_DISCONNECTED) _ P (λ x wait.
    found_ok (first (is_accepted_on client) w.waits) PORT_DISCONNECTED x wait)))))

-- the client port of a connect that is answered stands
offered-client-stands : (w : World) (by : ThreadRow) (m : Message) (x : WaitRow) → first (names_connect w by m) w.waits ≡ Some x → IsSoundWorld w → port_stands w x.port ≡ true
offered-client-stands w by m x at s =
    let named = first-passes (names_connect w by m) w.waits x at in
    let offered : is_offered x ≡ true = first-true (is_offered x) _ (second-true (names_wait x m) _ named) in
    first-true _ _ (offered-client w x offered (every-first (can_stay_sound w) (names_connect w by m) w.waits x s.stay at))

has-joined : (client server : Birth) (context : ℕ) (c : Birth) (ps : List PortRow) → has (is_port c) (map (joined client server context) ps) ≡ has (is_port c) ps
has-joined client server context c [] = refl
has-joined client server context c (p ∷ ps) = let same = joined-birth client server context p in grind (arith, has-joined client server context c ps)

-- The calls
module _ (by : ThreadRow) (C K : World → Type 0) (P : World → List Basic → Type 0) (k : Law by C K P) where
  -- an entry first
  told-first : (w : World) (e : Entry) (bs : List Basic) → P w bs → P w (Tells e ∷ bs)
  told-first w e bs is = k.follows w (Tells e ∷ []) bs (k.says w e) is

  listening : (w : World) (handle : ℕ) (port : PortRow) → IsListening w by handle port → P w (listen_steps by port.birth None)
  listening w handle port l =
      let u = holds_ok (IsUsable w) (port_test w by handle) port (port-usable w by handle) l.port_found in
      told-first w _ _ (k.waits w (listen_wait by port.birth) refl (record { near = rw (u.stands, birth-self port.birth) refl; opens = u.opens; begins = refl; in_call = refl }))

  -- behind the number that its sender draws
  post : (w : World) (s : Sendable) (kind : ℕ) → not (is_closed_post (row_of s.queue s.port (sent_by by kind s.message))) ≡ true → is_plain_connect (row_of s.queue s.port (sent_by by kind s.message)) ≡ true → IsSent w s → IsPost (basic w (DrawsIdentifier by.number)) (row_of s.queue s.port (sent_by by kind s.message))
  post w s kind other plain is = record { stands = usable-stands w s.port is.usable; opens = is.opens; other = other; plain = plain }

  datagram-sent : (w : World) (handle : ℕ) (bytes : List ℕ) → Holds (IsSent w) (datagram_send_test w by handle bytes)
  datagram-sent w handle bytes = bind_holds (send_test w by handle bytes) _ (IsSent w) (λ s at. bind_holds (datagram_test w s.port) _ (IsSent w) (λ _ _. holds_ok (IsSent w) (send_test w by handle bytes) s (sent w by handle bytes) at))

  sending : (w : World) (handle : ℕ) (bytes : List ℕ) (s : Sendable) → datagram_send_test w by handle bytes ≡ Ok s → P w (datagram_steps by s.port s.queue (sent_by by DATAGRAM s.message) w)
  sending w handle bytes s at =
      let is = holds_ok (IsSent w) (datagram_send_test w by handle bytes) s (datagram-sent w handle bytes) at in
      told-first w _ _ (k.follows w (DrawsIdentifier by.number ∷ []) _ (k.numbers w) (k.sends (basic w (DrawsIdentifier by.number)) (row_of s.queue s.port (sent_by by DATAGRAM s.message)) (post w s DATAGRAM refl refl is)))

  asking : (w : World) (handle : ℕ) (bytes : List ℕ) (s : Sendable) → send_test w by handle bytes ≡ Ok s → P w (request_steps by s.port s.queue (sent_by by REQUEST s.message) w)
  asking w handle bytes s at =
      let m = sent_by by REQUEST s.message in
      let is = holds_ok (IsSent w) (send_test w by handle bytes) s (sent w by handle bytes) at in
      let near : has_near_queue w (request_wait by s.port.birth s.queue m) ≡ true = rw is.usable.stands (way-near w (request_wait by s.port.birth s.queue m) s.port refl is.way) in
      told-first w _ _ (k.follows w (DrawsIdentifier by.number ∷ []) _ (k.numbers w) (k.asks (basic w (DrawsIdentifier by.number)) (request_wait by s.port.birth s.queue m) (row_of s.queue s.port m) refl (record { near = near; opens = is.opens; begins = refl; in_call = refl }) (post w s REQUEST refl refl is)))

  -- an event is sent as a request
  pub hearing : (w : World) (code : ℕ) (handled : Bool) (chance : Chance) (h : Hearing) → IsHeard w chance h → P w (send_event by code handled h w)
  hearing w code handled chance h is =
      let x = event_wait by code handled h in
      let m = row_of h.queue h.port (event_message (client_of by) by.next_identifier code h.chance) in
      let near : has_near_queue w x ≡ true = rw is.stands (way-near w x h.port refl is.way) in
      let opens = let r = is.route in r.to in
      k.follows w (DrawsIdentifier by.number ∷ []) _ (k.numbers w) (k.asks (basic w (DrawsIdentifier by.number)) x m refl (record { near = near; opens = opens; begins = refl; in_call = refl }) (record { stands = row-stands w h.port.birth h.port is.stands; opens = opens; other = other h.chance; plain = plain h.chance }))
    where
      other : (c : Chance) → not (event_kind c == PORT_CLOSED) ≡ true
      other FirstDebug = refl
      other LastDebug = refl
      other LastException = refl

      plain : (c : Chance) → is_plain_connect (row_of h.queue h.port (event_message (client_of by) by.next_identifier code c)) ≡ true
      plain FirstDebug = refl
      plain LastDebug = refl
      plain LastException = refl

  setting : (w : World) (class pid : ℕ) (b : Birth) → has (is_port b) w.ports ≡ true → is_live w pid ≡ true → P w (set_port_steps by class pid b)
  setting w class pid b stands live = told-first w _ _ (at (class == DEBUG_CLASS))
    where
      at : (debug : Bool) → P w ((if debug then SetsDebug pid b else SetsException pid b) ∷ [])
      at true = k.debugs w pid b stands live
      at false = k.excepts w pid b stands live

  -- a receive may reply first
  record IsReplied (w : World) (bs : List Basic) : Type 0 where
    does : P w bs
    ports : (world_after w bs).ports ≡ w.ports
    handles : (world_after w bs).handles ≡ w.handles

  given-does : (w : World) (port : PortRow) (m : Option Message) → Holds (IsReplied w) (given_reply w port m)
  given-does w port None = record { does = k.nothing w; ports = refl; handles = refl }
  given-does w port (Some m) = bind_holds (reply_test w port m) _ (IsReplied w) (λ x fits.
      reply-cases (λ b. IsReplied w (b ∷ [])) x m
      (record { does = k.wakes w _ _ x; ports = refl; handles = refl })
      (record { does = k.wakes w _ _ x; ports = refl; handles = refl })
      (λ event. record { does = k.marks w x.thread (answered-event w port m x fits event); ports = refl; handles = refl }))

  receiving : (w : World) (handle : ℕ) (bytes : Option (List ℕ)) (o : Option Message) (port : PortRow) (queue : Birth) (replied : List Basic) (m : MessageRow) → IsReceiving w by handle bytes o port queue replied → P w (receive_steps by port queue replied (Some m))
  receiving w handle bytes o port queue replied m r =
      let is = holds_ok (IsReplied w) (given_reply w port o) replied (given-does w port o) r.reply_made in
      told-first w _ _ (k.follows w replied (take_steps m) is.does (k.takes (world_after w replied) m))

  awaiting : (w : World) (handle : ℕ) (bytes : Option (List ℕ)) (o : Option Message) (port : PortRow) (queue : Birth) (replied : List Basic) → IsReceiving w by handle bytes o port queue replied → P w (receive_steps by port queue replied None)
  awaiting w handle bytes o port queue replied r =
      let x = receive_wait by port.birth queue in
      let v = world_after w replied in
      let is = holds_ok (IsReplied w) (given_reply w port o) replied (given-does w port o) r.reply_made in
      let u = holds_ok (IsUsable w) (port_test w by handle) port (port-usable w by handle) r.port_found in
      let at = holds_ok (λ queue. queue_of w port ≡ Some queue) (receive_test w port) queue (tested-queue w port) r.queue_found in
      let near : has_near_queue w x ≡ true = rw u.stands (queue-near w x port at) in
      let opens : is_open w queue ≡ true = queue-open w queue port at in
      told-first w _ _ (k.follows w replied (Awaits x ∷ []) is.does (k.waits v x refl (record { near = rw is.ports near; opens = rw is.handles opens; begins = refl; in_call = refl })))

  completing : (w : World) (handle : ℕ) (c : Completable) → complete_test w by handle ≡ Ok c → IsSoundWorld w → P w (complete_steps by (free_handle w c.wait.process) c)
  completing w handle c at s = told-first w _ _ (k.completes w c (record {
    can = holds_ok (CanComplete w) (complete_test w by handle) c (can-complete w by handle s) at;
    found = holds_ok (λ (c : Completable). first (is_accepted_on c.client) w.waits ≡ Some c.wait) (complete_test w by handle) c (complete-found w by handle) at;
    sound = s;
  }))

  gift : (w : World) (handle : ℕ) (r : HandleRow) → IsSoundWorld w → handle_at w by.process handle ≡ Some r → IsGift w by.process r.object
  gift w handle r s at = record { stands = found-object w by.process handle r at; opens = handle-open w by.process handle r at; one = s.tables by.process }

  -- a process is made, with its first thread
  spawning : (w : World) (pid tid : ℕ) → was_process w pid ≡ false → was_thread w tid ≡ false → CanCall w by → IsSoundWorld w → P w (making_process w by pid tid)
  spawning w pid tid new unused c s =
      let p = new_process pid (Some by.process) (next_birth by) (token_of w by.process) in
      let t = new_thread tid pid (second_birth by) in
      let drawn : World = basic (basic w (DrawsOrdinal by.number)) (DrawsOrdinal by.number) in
      let bs = DrawsOrdinal by.number ∷ DrawsOrdinal by.number ∷ AddsProcess p ∷ AddsThread t ∷ [] in
      let made : World = world_after w bs in
      let tables = sound-process drawn p new (sound-ordinal (basic w (DrawsOrdinal by.number)) by.number (sound-ordinal w by.number s)) in
      let value = free_handle w by.process in
      let same : free_handle made by.process ≡ value = rw (first-behind (is_table by.process) w.handles (no_handles pid ∷ []) c.home) refl in
      let one = gives made (process_name p.birth) value same (λ _. has-push (is_born_process p.birth) drawn.processes p (birth-self p.birth)) (λ is. absurd (cc)) (tables.tables by.process) in
      let given : World = basic made (gives_life by value (process_name p.birth)) in
      let next : free_handle given by.process ≡ second_handle w by = rw (rows-behind w.handles by.process pid (handle_row value (process_name p.birth) LIFE_ACCESS) c.home) refl in
      let few : count (is_table by.process) given.handles ≤ 1 = rw (count-change (is_table by.process) (is_table by.process) (with_handle (handle_row value (process_name p.birth) LIFE_ACCESS)) (λ t. refl) made.handles) (tables.tables by.process) in
      let two = gives given (thread_name t.birth) (second_handle w by) next (λ _. has-push (is_born_thread t.birth) drawn.threads t (birth-self t.birth)) (λ is. absurd (cc)) few in
      told-first w _ _ (k.follows w bs _ (k.spawns w pid tid (token_of w by.process) new unused s) (k.follows made (gives_life by value (process_name p.birth) ∷ []) _ one two))
    where
      gives : (v : World) (o : ObjectName) (value : ℕ) → free_handle v by.process ≡ value → (HandlesName v → stands_as v o.kind o.birth ≡ true) → (same_kind o.kind kind.Port ≡ true → is_open v o.birth ≡ true) → count (is_table by.process) v.handles ≤ 1 → P v (gives_life by value o ∷ [])
      gives v o value same stands opens one = subst (λ n. P v (gives_life by n o ∷ [])) same (k.gives v by.process o LIFE_ACCESS (record { stands = stands; opens = opens; one = one }))

  starting : (w : World) (tid pid : ℕ) → is_live w pid ≡ true → was_thread w tid ≡ false → IsSoundWorld w → P w (making_thread w by tid pid)
  starting w tid pid live unused s =
      let t = new_thread tid pid (next_birth by) in
      let drawn : World = basic w (DrawsOrdinal by.number) in
      let bs = DrawsOrdinal by.number ∷ AddsThread t ∷ [] in
      told-first w _ _ (k.follows w bs _ (k.starts w tid pid live unused s) (k.gives (world_after w bs) by.process (thread_name t.birth) LIFE_ACCESS (record { stands = λ _. has-push (is_born_thread t.birth) drawn.threads t (birth-self t.birth); opens = λ is. absurd (cc); one = s.tables by.process })))

  -- a section is made, with a handle
  building : (w : World) (size prot : ℕ) → IsBuilding size prot → IsSoundWorld w → P w (section_steps by size prot (free_handle w by.process))
  building w size prot asked s =
      let made = new_section by size prot in
      let bs = DrawsOrdinal by.number ∷ AddsSection made ∷ [] in
      told-first w _ _ (k.follows w bs _ (k.builds w size prot asked) (k.gives (world_after w bs) by.process (section_name made.birth) SECTION_ACCESS (record { stands = λ _. has-push (is_section made.birth) w.sections made (birth-self made.birth); opens = λ is. absurd (cc); one = s.tables by.process })))

  -- a token is made, with a handle
  holding : (w : World) (name : CallName) (content : Effective) → IsSoundWorld w → P w (token_steps by name content (free_handle w by.process))
  holding w name content s =
      let made = new_token by content in
      let bs = DrawsOrdinal by.number ∷ AddsToken made ∷ [] in
      told-first w _ _ (k.follows w bs _ (k.holds_token w content) (k.gives (world_after w bs) by.process (token_name made.birth) TOKEN_ACCESS (record { stands = λ _. has-push (is_token made.birth) w.tokens made (birth-self made.birth); opens = λ is. absurd (cc); one = s.tables by.process })))

  -- a port with a name, and perhaps an access list
  guarding : (w : World) (b : Birth) (dacl : Option Dacl) → P w (given dacl (λ d. Secures b (Guarded d) ∷ []))
  guarding w b None = k.nothing w
  guarding w b (Some d) = k.secures w b (Guarded d)

  -- views are mapped
  mapping : (w : World) (pid : ℕ) (o : Option ViewRow) → Given (IsMapped C w pid) o → P w (mapped pid o)
  mapping w pid None is = k.nothing w
  mapping w pid (Some v) is = k.maps w pid v is

  connecting : (w : World) (name : List ℕ) (view : Option ViewWord) (bytes : List ℕ) (offer : Option Offer) (own : Option ViewRow) (connection : Birth) → IsConnecting w by name view offer own connection → IsCalled C w by → P w (connect_steps by connection offer own (connection_request by offer bytes) w)
  connecting w name view bytes offer own connection c is =
      let m = connection_request by offer bytes in
      let bs = connect_begun by connection offer m in
      let row = row_of connection (client_port by connection) m in
      let u = world_after w bs in
      let v = world_after u (enter row u) in
      let act = connect_act w by connection offer m in
      let offering = holds_ok (Given (IsOffer w)) (if_given offer_test c.wanted) offer (offered w by view c.wanted c.wanted_found) c.offer_made in
      let seen = holds_ok (IsViewOf w by.process (next_birth by) offer) (if_given (view_test w by.process (next_birth by)) offer) own (viewed w by.process (next_birth by) offer) c.view_placed in
      let beside = entered-beside row u in
      let stands : port_stands v (next_birth by) ≡ true = subst (λ (ps : List PortRow). has (is_port (next_birth by)) ps ≡ true) (sym beside.ports) (has-push (is_port (next_birth by)) w.ports (client_port by connection) (birth-self (next_birth by))) in
      let one = k.connects w connection offer bytes (holds_ok (λ port. is_open w port ≡ true) (named_port w name) connection (name-open w name is.sound) c.port_named) offering is in
      let two = mapping v by.process own (own-mapped C w v is.known beside.sections w by.process (next_birth by) offer own seen offering (sym beside.views) stands) in
      told-first w _ _ (k.follows w act (mapped by.process own) one (subst (λ (u : World). P u (mapped by.process own)) (sym (after-append w bs (enter row u))) two))

  accepting : (w : World) (context : ℕ) (bytes : List ℕ) (view : Option ViewWord) (offer : Option Offer) (a : ConnectAnswer) (views : SharedViews) → IsAccepting w by bytes view offer a views → IsCalled C w by → P w (accept_steps by context (free_handle w by.process) a views)
  accepting w context bytes view offer a views c is =
      let x = a.wait in
      let found = holds_ok (λ (a : ConnectAnswer). first (names_connect w by a.message) w.waits ≡ Some a.wait) (answer_test w by bytes) a (named-wait w by bytes) c.answered in
      let act = accept_act w by context x (acceptance a.message.body views) in
      let v = world_after w act in
      let own = mapped by.process views.own in
      let theirs = mapped by.process views.theirs in
      let across = mapped x.process views.across in
      let u = world_after v own in
      let t = world_after u theirs in
      let offering = holds_ok (Given (IsOffer w)) (if_given offer_test c.wanted) offer (offered w by view c.wanted c.wanted_found) c.offer_made in
      let s = holds_ok (AreShared w by x offer) (shared_test w by x offer) views (shared w by x offer) c.views_placed in
      let server : port_stands v (next_birth by) ≡ true = rw (has-joined x.port (next_birth by) context (next_birth by) (w.ports ++ server_port (next_birth by) x.queue ∷ [])) (has-push (is_port (next_birth by)) w.ports (server_port (next_birth by) x.queue) (birth-self (next_birth by))) in
      let client : port_stands v x.port ≡ true = rw (has-joined x.port (next_birth by) context x.port (w.ports ++ server_port (next_birth by) x.queue ∷ [])) (has-kept (is_port x.port) w.ports (server_port (next_birth by) x.queue) (offered-client-stands w by a.message x found is.sound)) in
      let first-views = mapped-alike w v by.process views.own refl in
      let both-views = mapped-alike (world_after w own) u by.process views.theirs first-views in
      let here : port_stands u (next_birth by) ≡ true = subst (λ (ps : List PortRow). has (is_port (next_birth by)) ps ≡ true) (sym (mapped-ports v by.process views.own)) server in
      let there : port_stands t x.port ≡ true = subst (λ (ps : List PortRow). has (is_port x.port) ps ≡ true) (sym (mapped-ports u by.process views.theirs ∙ mapped-ports v by.process views.own)) client in
      let sections = mapped-sections v by.process views.own in
      let both-sections = mapped-sections u by.process views.theirs ∙ sections in
      let one = mapping v by.process views.own (own-mapped C w v is.known refl w by.process (next_birth by) offer views.own s.own offering refl server) in
      let two = mapping u by.process views.theirs (their-mapped C w u is.known sections (world_after w own) by.process (next_birth by) x (offer_of x) views.theirs s.theirs refl (λ all. every-first (is_sound_offer w) (names_connect w by a.message) w.waits x all found) first-views here) in
      let three = mapping t x.process views.across (own-mapped C w t is.known both-sections (world_after w (server_views by views.own views.theirs)) x.process x.port offer views.across s.across offering (ap (λ (w : World). w.views) (after-append w own theirs) ∙ both-views) there) in
      told-first w _ _ (k.follows w act _ (k.accepts w context a.message x (acceptance a.message.body views) found is)
      (k.follows v (own ++ theirs) across (k.follows v own theirs one two) (subst (λ (u : World). P u across) (sym (after-append v own theirs)) three)))

  -- Threads end in turn
  firm : (w : World) (bs : List Basic) → AreEnding bs → IsFirm K w → IsSafe (world_after w bs) → IsFirm K (world_after w bs)
  firm w bs all is safe = record { safe = safe; known = k.keeps w bs all is.known }

  die-firm : (code : Status) (t : ThreadRow) (w : World) → IsFirm K w → IsFirm K (behind (die code t) w)
  die-firm code t w is = firm w (die code t w) (die-ending code t w) is (die-safe code t w is.safe)

  death-firm : (t : ThreadRow) (b : Birth) (w : World) → IsFirm K w → IsFirm K (behind (post_death t b) w)
  death-firm t b w is = let v = basic w (Unregisters t.number b) in at (death_post v t b) (firm w (Unregisters t.number b ∷ []) refl is (unregister-safe t.number b w is.safe))
    where
      at : (o : Option MessageRow) → IsFirm K (basic w (Unregisters t.number b)) → IsFirm K (world_after (basic w (Unregisters t.number b)) (given o (λ m. enter m (basic w (Unregisters t.number b)))))
      at None is = is
      at (Some m) is = let v = basic w (Unregisters t.number b) in firm v (enter m v) (ending-enter m v) is (enter-safe m v is.safe)

  turn-does : {X : Type 0} (f : X → Steps) → ((x : X) (v : World) → IsFirm K v → IsFirm K (behind (f x) v)) → ((x : X) (v : World) → IsFirm K v → P v (f x v)) → (xs : List X) (w : World) → IsFirm K w → P w (in_turn f xs w)
  turn-does f keeps does [] w is = k.nothing w
  turn-does f keeps does (x ∷ xs) w is = k.follows w (f x w) (in_turn f xs (behind (f x) w)) (does x w is) (turn-does f keeps does xs (behind (f x) w) (keeps x w is))

  death-does : (t : ThreadRow) (b : Birth) (w : World) → P w (post_death t b w)
  death-does t b w = let v = basic w (Unregisters t.number b) in k.follows w (Unregisters t.number b ∷ []) _ (k.leaves w t.number b) (at (death_post v t b) refl)
    where
      at : (o : Option MessageRow) → death_post (basic w (Unregisters t.number b)) t b ≡ o → P (basic w (Unregisters t.number b)) (given o (λ m. enter m (basic w (Unregisters t.number b))))
      at None none = k.nothing _
      at (Some m) some = let told = told-facts t b m (basic w (Unregisters t.number b)) some in k.sends (basic w (Unregisters t.number b)) m (record { stands = told.stands; opens = told.opens; other = told.other; plain = told.plain })

  handles-do : (pid : ℕ) (rows : List HandleRow) (w : World) → handles_of w pid ≡ rows → IsFirm K w → P w (in_turn (close_handle pid) rows w)
  handles-do pid [] w same is = k.nothing w
  handles-do pid (r ∷ rows) w same is =
      let at = first-at w pid r rows same in
      let s = sound-of w is.safe in
      k.follows w (close_handle pid r w) _ (k.closes w pid r at s is.known) (handles-do pid rows (behind (close_handle pid r) w) (rows-left w pid r rows same s) (firm w (close_handle pid r w) (handle-ending pid r w) is (handle-safe w pid r at is.safe)))

  pub end-does : (pid : ℕ) (code : Status) (ts : List ThreadRow) (w : World) → IsFirm K w → P w (end_threads pid code ts w)
  unfolding end_threads
  end-does pid code ts w is =
      let one = behind_dead code ts w in
      let dead = turn-keeps (IsFirm K) (die code) (λ t v. die-firm code t v) ts w is in
      k.follows w (in_turn (die code) ts w) _ (turn-does (die code) (λ t v. die-firm code t v) (λ t v is. k.dies v code t is.safe) ts w is)
      (k.follows one (in_turn post_deaths ts one) _ (turn-does post_deaths (λ t v. turn-keeps (IsFirm K) (post_death t) (λ b u. death-firm t b u) t.registrations v) (λ t v is. turn-does (post_death t) (λ b u. death-firm t b u) (λ b u _. death-does t b u) t.registrations v is) ts one dead)
      (at (not (is_live (behind_told code ts w) pid)) (turn-keeps (IsFirm K) post_deaths (λ t v. turn-keeps (IsFirm K) (post_death t) (λ b u. death-firm t b u) t.registrations v) ts one dead)))
    where
      at : (last : Bool) → IsFirm K (behind_told code ts w) → P (behind_told code ts w) (when last (end_process pid (behind_told code ts w)))
      at true is =
          let v = behind_told code ts w in
          let u = basic v (LetsGo pid) in
          let rows = handles_of u pid in
          let free = firm v (LetsGo pid ∷ []) refl is (lets-safe v pid is.safe) in
          k.follows v (LetsGo pid ∷ []) _ (k.lets_go v pid)
          (k.follows u (in_turn (close_handle pid) rows u) _ (handles-do pid rows u refl free) (k.vacates (behind (in_turn (close_handle pid) rows) u) pid))
      at false is = k.nothing _

  ending : (w : World) (name : CallName) (own : Bool) (pid : ℕ) (code : Status) (ts : List ThreadRow) → IsFirm K w → P w (answered_end by name own pid code ts w)
  ending w name true pid code ts is = end-does pid code ts w is
  ending w name false pid code ts is = told-first w _ _ (end-does pid code ts w is)

  -- a law that holds of each act holds of what each call comes to
  pub outcomes : ((w : World) → C w → Shut K w) → (w : World) → IsCalled C w by → Outcomes w by (λ _. P w)
  outcomes deep w is = record {
    creates = λ dacl. told-first w _ _ (k.creates w is);
    founds = λ name dacl path free. k.follows w _ _ (told-first w _ _ (k.founds w name path free is)) (guarding _ (next_birth by) dacl);
    connects = λ name quality view bytes offer own connection c. k.follows w _ _ (connecting w name view bytes offer own connection c is) (k.secures _ (next_birth by) (Allows quality (acting_token w by)));
    listens = λ handle port m l at. told-first w _ _ (k.listens w m);
    awaits_connect = λ handle port l at. listening w handle port l;
    refuses = λ context bytes view a at. told-first w _ _ (k.follows w (end_connect a.message.body a.wait ∷ []) (DropsOwned a.wait.port ∷ []) (k.wakes w _ _ a.wait) (k.disowns _ a.wait.port));
    accepts = λ context bytes view offer a views c. accepting w context bytes view offer a views c is;
    completes = λ handle c at. completing w handle c at is.sound;
    sends = λ handle bytes s at. sending w handle bytes s at;
    asks = λ handle bytes s at. asking w handle bytes s at;
    replies = λ handle bytes port m x at read fits. told-first w _ _ (reply-cases (λ b. P w (b ∷ [])) x m (k.wakes w _ _ x) (k.wakes w _ _ x) (λ event. k.marks w x.thread (answered-event w port m x fits event)));
    receives = λ handle bytes o port queue replied m r at. receiving w handle bytes o port queue replied m r;
    awaits_message = λ handle bytes o port queue replied r at. awaiting w handle bytes o port queue replied r;
    registers = λ handle port at new few. told-first w _ _ (k.registers w port.birth (usable-stands w port (holds_ok (IsUsable w) (port_test w by handle) port (port-usable w by handle) at)));
    repeats = λ handle port at known. k.says w _;
    closes = λ handle r at. told-first w _ _ (k.closes w by.process r (found-value w by.process handle r at) is.sound (deep w is.known).1);
    duplicates = λ handle access r at. told-first w _ _ (k.gives w by.process r.object (asked r access) (gift w handle r is.sound at));
    queries = λ handle r at. k.says w _;
    spawns = λ pid tid new unused. spawning w pid tid new unused is.can is.sound;
    starts = λ target tid pid at live unused. starting w tid pid live unused is.sound;
    makes_section = λ size prot asked. building w size prot asked is.sound;
    maps_view = λ handle offset size prot s rounded base m. told-first w _ _ (k.maps w by.process (mapped_view s offset rounded prot base) (view-mapped C w by handle offset size prot s rounded base is.known m));
    unmaps_view = λ address v at. told-first w _ _ (k.unmaps w by.process v.base);
    reads_memory = λ address n v at. k.says w _;
    writes_memory = λ address new v at writes. told-first w _ _ (k.writes w v.section (place_in v address) new);
    reads_range = λ handle bytes index n d at. k.says w _;
    writes_range = λ handle bytes index new d at writes. told-first w _ _ (k.writes w d.view.section (place_in d.view d.address) new);
    impersonates = λ handle bytes own is. told-first w _ _ (k.acts w (Some own));
    reverts = λ class. told-first w _ _ (k.acts w None);
    opens_own = λ own at. holding w NtOpenThreadToken _ is.sound;
    opens_primary = holding w NtOpenProcessToken _ is.sound;
    asks_token = λ handle class t field at told. k.says w _;
    sets = λ target class handle pid port at found live. setting w class pid port.birth (usable-stands w port (holds_ok (IsUsable w) (port_test w by handle) port (port-usable w by handle) found)) live;
    handles = λ code handled. k.says w _;
    hears = λ code handled h is. told-first w _ _ (hearing w code handled is.chance h (heard-routed w by.process is.chance h is.found));
    fails = λ code handled. k.dooms w by.process code;
    ends = λ call name own pid code ts doomed. ending w name own pid code ts (record { safe = record { sound = is.sound; shut = (deep w is.known).0 }; known = (deep w is.known).1 });
  }
