-- No call is refused with success.
use Rattle.lpc_sid.specs.Access.{grants}
use Rattle.lpc_tokens.specs.declared.level.TheConstants.{IMPERSONATION}
use Rattle.lpc_tokens.specs.Tokens.{counts_as}
use Rattle.lpc_model.specs.Ranges.{asked_test, request_test}
use Rattle.std.proofs.Common.{◌≡◌, ℕ, List, Bool, true, false, not, Option, Some, None, refl, map}
use Rattle.std.specs.Prelude.{◌==◌, ◌+◌, Result, Ok, Err, is_some, length, nat_lt, nat_le, ◌%◌}
use Rattle.lpc_model.specs.Basics.{world_after}
use Rattle.lpc_model.specs.Memory.{SECTION_MAP_WRITE, base_test, section_test, size_test, view_count_test}
use Rattle.lpc_base.specs.Rows.{first}
use Rattle.lpc_base.specs.declared.limits.TheConstants.{DATAGRAM_LIMIT, HANDLE_LIMIT, HEADER_SIZE, MESSAGE_LIMIT}
use Rattle.lpc_message.specs.Layout.{fault_of, header_of}
use Rattle.lpc_message.specs.declared.message.ClientId.{ClientId}
use Rattle.lpc_model.specs.declared.entry.ObjectKind.TheVariants as kind
use Rattle.lpc_model.specs.declared.message.Message.{Message}
use Rattle.lpc_model.specs.Found.{datagrams, fitted, handle_at, is_connection_port, is_server_port, port_row, queue_of, route, same_kind, section_row, offer_of, views_of, acting_token, access_list, is_event}
use Rattle.lpc_base.specs.declared.status.Status.{Status}
use Rattle.lpc_base.specs.declared.status.TheConstants.{ACCESS_DENIED, INVALID_CID, INVALID_HANDLE, INVALID_PARAMETER, INVALID_PORT_HANDLE, OBJECT_TYPE_MISMATCH, PORT_DISCONNECTED, PORT_MESSAGE_TOO_LONG, QUOTA_EXCEEDED, REPLY_MESSAGE_MISMATCH, SUCCESS, MAPPED_ALIGNMENT, SECTION_PROTECTION, INVALID_VIEW_SIZE, BAD_IMPERSONATION_LEVEL}
use Rattle.lpc_names.specs.declared.fault.NameFault.{NameFault}
use Rattle.lpc_names.specs.declared.fault.NameFault.TheVariants as fault
use Rattle.lpc_names.specs.declared.names.Found.{Found}
use Rattle.lpc_names.specs.declared.names.Found.TheVariants.{Directory, Item}
use Rattle.lpc_names.specs.Walk.{free_path, lookup}
use Rattle.lpc_model.specs.Then.{◌>>=◌}
use Rattle.lpc_model.specs.Refusal.{found_or, refuse_if}
use Rattle.lpc_model.specs.Message.{message_test}
use Rattle.lpc_model.specs.Named.{as_status, free_name, named_port, port_found}
use Rattle.lpc_model.specs.World.{Birth, PortRow, ThreadRow, World, SectionRow, Offer, WaitRow, ViewRow, Dacl, Qos}
use Rattle.lpc_model.specs.Connect.{ConnectAnswer, is_accepted_on, names_connect, answer_test, answered_steps, complete_test, completion_test, info_test, making, nt_accept_connect_port, nt_complete_connect_port, nt_connect_port, nt_create_port, nt_listen_port, accepted_view, access_test, CONNECT_RIGHT}
use Rattle.lpc_model.specs.Request.{reply_test, is_spent, datagram_send_test, datagram_test, given_reply, nt_reply_port, nt_reply_wait_receive_port, nt_request_port, nt_request_wait_reply_port, optional_message, receive_test, send_test}
use Rattle.lpc_model.specs.Tests.{PORT_RIGHT, client_test, handle_load, includes, is_client, next_birth, handles_test, object_test, own_handle, port_test}
use Rattle.lpc_model.specs.Lines.{accept_connect_port, complete_connect_port, connect_port, create_port, listen_port, reply_port, reply_wait_receive_port, request_port, request_wait_reply_port}
use Rattle.lpc_isolation.proofs.Gone.Served.{served}
use Rattle.lpc_model.specs.Offers.{if_given, Wanted, wanted_test, offer_test, view_test, shared_test, mapped, server_views}
use Rattle.lpc_base.specs.Views.{passes_section, least_base}
use Rattle.lpc_model.specs.declared.line.ViewWord.{ViewWord}

abbrev pub Refuses : {A : Type 0} → Result A Status → Type 0
Refuses (Ok x) = Unit {0}
Refuses (Err s) = (s.0 == SUCCESS.0) ≡ false

pub bind : {A B : Type 0} (r : Result A Status) (f : A → Result B Status) → Refuses r → ((x : A) → Refuses (f x)) → Refuses (r >>= f)
bind (Ok x) f one more = more x
bind (Err s) f one more = one

pub if_refuses : (b : Bool) (s : Status) → (s.0 == SUCCESS.0) ≡ false → Refuses (refuse_if b s)
if_refuses true s off = off
if_refuses false s off = tt

pub found : {A : Type 0} (o : Option A) (s : Status) → (s.0 == SUCCESS.0) ≡ false → Refuses (found_or o s)
found None s off = off
found (Some x) s off = tt

pub named : {X : Type 0} (r : Result X NameFault) → Refuses (as_status r)
named (Ok x) = tt
named (Err fault.PathSyntax) = refl
named (Err fault.NameInvalid) = refl
named (Err fault.PathNotFound) = refl
named (Err fault.NameNotFound) = refl
named (Err fault.Collision) = refl

port-found : (f : Found Birth) → Refuses (port_found f)
port-found Directory = refl
port-found (Item port) = tt

-- the tests
pub message : (bytes : List ℕ) → Refuses (message_test bytes)
unfolding message_test
message bytes =
    bind (refuse_if (is_some (fault_of bytes)) INVALID_PARAMETER) _ (if_refuses (is_some (fault_of bytes)) INVALID_PARAMETER refl) (λ _.
    bind (refuse_if (nat_lt MESSAGE_LIMIT (header_of bytes).message_size) PORT_MESSAGE_TOO_LONG) _ (if_refuses (nat_lt MESSAGE_LIMIT (header_of bytes).message_size) PORT_MESSAGE_TOO_LONG refl) (λ _. tt))

object : (w : World) (by : ThreadRow) (value : ℕ) → Refuses (object_test w by kind.Port PORT_RIGHT value)
object w by value =
    bind (own_handle w by value) _ (found (handle_at w by.process value) INVALID_HANDLE refl) (λ h.
    bind (refuse_if (not (same_kind h.object.kind kind.Port)) OBJECT_TYPE_MISMATCH) _ (if_refuses (not (same_kind h.object.kind kind.Port)) OBJECT_TYPE_MISMATCH refl) (λ _.
    bind (refuse_if (not (includes h.access PORT_RIGHT)) ACCESS_DENIED) _ (if_refuses (not (includes h.access PORT_RIGHT)) ACCESS_DENIED refl) (λ _. tt)))

pub port : (w : World) (by : ThreadRow) (value : ℕ) → Refuses (port_test w by value)
port w by value = bind (object_test w by kind.Port PORT_RIGHT value) _ (object w by value) (λ b. found (port_row w b) INVALID_HANDLE refl)

pub handles : (w : World) (pid more : ℕ) → Refuses (handles_test w pid more)
handles w pid more = if_refuses (nat_lt HANDLE_LIMIT (handle_load w pid + more)) QUOTA_EXCEEDED refl

pub client : (w : World) (c : ClientId) → Refuses (client_test w c)
client w c = if_refuses (not (is_client w c)) INVALID_CID refl

made : (w : World) (b : Birth) (name : Option (List ℕ)) → Refuses (making w b name)
made w b None = tt
made w b (Some name) = bind (free_name w name) _ (named (free_path w.bindings name)) (λ path. tt)

to-port : (w : World) (name : List ℕ) → Refuses (named_port w name)
to-port w name = bind (as_status (lookup w.bindings name)) _ (named (lookup w.bindings name)) port-found

answered : (w : World) (p : PortRow) (a : Message) → Refuses (reply_test w p a)
answered w p a = bind (client_test w a.header.client) _ (client w a.header.client) (λ _. found (fitted w p.birth a) REPLY_MESSAGE_MISMATCH refl)

send : (w : World) (by : ThreadRow) (handle : ℕ) (bytes : List ℕ) → Refuses (send_test w by handle bytes)
send w by handle bytes =
    bind (port_test w by handle) _ (port w by handle) (λ p. bind (message_test bytes) _ (message bytes) (λ a. bind (found_or (route w p) PORT_DISCONNECTED) _ (found (route w p) PORT_DISCONNECTED refl) (λ q. tt)))

answer : (w : World) (by : ThreadRow) (bytes : List ℕ) → Refuses (answer_test w by bytes)
answer w by bytes =
    bind (message_test bytes) _ (message bytes) (λ m. bind (client_test w m.header.client) _ (client w m.header.client) (λ _.
    bind (found_or (first (names_connect w by m) w.waits) REPLY_MESSAGE_MISMATCH) _ (found (first (names_connect w by m) w.waits) REPLY_MESSAGE_MISMATCH refl) (λ x. tt)))

-- views
pub section-refuses : (w : World) (by : ThreadRow) (rights value : ℕ) → Refuses (section_test w by rights value)
section-refuses w by rights value =
    bind (object_test w by kind.Section rights value) _
    (bind (own_handle w by value) _ (found (handle_at w by.process value) INVALID_HANDLE refl) (λ h.
    bind (refuse_if (not (same_kind h.object.kind kind.Section)) OBJECT_TYPE_MISMATCH) _ (if_refuses (not (same_kind h.object.kind kind.Section)) OBJECT_TYPE_MISMATCH refl) (λ _.
    bind (refuse_if (not (includes h.access rights)) ACCESS_DENIED) _ (if_refuses (not (includes h.access rights)) ACCESS_DENIED refl) (λ _. tt))))
    (λ b. found (section_row w b) INVALID_HANDLE refl)

pub size-refuses : (s : SectionRow) (offset size : ℕ) → Refuses (size_test s offset size)
size-refuses s offset size = bind (refuse_if (passes_section s.size offset size) INVALID_VIEW_SIZE) _ (if_refuses (passes_section s.size offset size) INVALID_VIEW_SIZE refl) (λ _. tt)

pub base-refuses : (w : World) (pid size : ℕ) → Refuses (base_test w pid size)
base-refuses w pid size = bind (view_count_test w pid) _ (if_refuses _ QUOTA_EXCEEDED refl) (λ _. found (least_base (map (λ (v : ViewRow). (v.base, v.size)) (views_of w pid)) size) QUOTA_EXCEEDED refl)

if-given : {A B : Type 0} (test : A → Result B Status) → ((x : A) → Refuses (test x)) → (o : Option A) → Refuses (if_given test o)
if-given test off None = tt
if-given test off (Some x) = bind (test x) _ (off x) (λ y. tt)

wanted-refuses : (w : World) (by : ThreadRow) (view : Option ViewWord) → Refuses (if_given (wanted_test w by) view)
wanted-refuses w by view = if-given (wanted_test w by) (λ word. bind (section_test w by SECTION_MAP_WRITE word.handle) _ (section-refuses w by SECTION_MAP_WRITE word.handle) (λ s. tt)) view

offer-refuses : (wanted : Option Wanted) → Refuses (if_given offer_test wanted)
offer-refuses wanted = if-given offer_test (λ v.
    bind (refuse_if (not (v.offset % 4096 == 0)) MAPPED_ALIGNMENT) _ (if_refuses (not (v.offset % 4096 == 0)) MAPPED_ALIGNMENT refl) (λ _.
    bind (refuse_if (not v.section.writable) SECTION_PROTECTION) _ (if_refuses (not v.section.writable) SECTION_PROTECTION refl) (λ _.
    bind (size_test v.section v.offset v.size) _ (size-refuses v.section v.offset v.size) (λ n. tt)))) wanted

placed-refuses : (w : World) (pid : ℕ) (port : Birth) (offer : Option Offer) → Refuses (if_given (view_test w pid port) offer)
placed-refuses w pid port offer = if-given (view_test w pid port) (λ o. bind (base_test w pid o.size) _ (base-refuses w pid o.size) (λ b. tt)) offer

shared-refuses : (w : World) (by : ThreadRow) (x : WaitRow) (offer : Option Offer) → Refuses (shared_test w by x offer)
shared-refuses w by x offer =
    bind (if_given (view_test w by.process (next_birth by)) offer) _ (placed-refuses w by.process (next_birth by) offer) (λ own.
    bind (if_given (view_test (world_after w (mapped by.process own)) by.process (next_birth by)) (offer_of x)) _ (placed-refuses (world_after w (mapped by.process own)) by.process (next_birth by) (offer_of x)) (λ theirs.
    bind (if_given (view_test (world_after w (server_views by own theirs)) x.process x.port) offer) _ (placed-refuses (world_after w (server_views by own theirs)) x.process x.port offer) (λ across. tt)))

answered-as : (w : World) (by : ThreadRow) (context : ℕ) (accept : Bool) (wanted : Option Wanted) (a : ConnectAnswer) → Refuses (answered_steps w by context accept wanted a)
answered-as w by context false wanted a = tt
answered-as w by context true wanted a =
    bind (if_given offer_test wanted) _ (offer-refuses wanted) (λ offer. bind (handles_test w by.process 1) _ (handles w by.process 1) (λ _.
    bind (shared_test w by a.wait offer) _ (shared-refuses w by a.wait offer) (λ views. tt)))

completion : (w : World) (p : PortRow) → Refuses (completion_test w p)
completion w p =
    bind (refuse_if (not (is_server_port p)) INVALID_PORT_HANDLE) _ (if_refuses (not (is_server_port p)) INVALID_PORT_HANDLE refl) (λ _.
    bind (refuse_if p.completed INVALID_PARAMETER) _ (if_refuses p.completed INVALID_PARAMETER refl) (λ _.
    bind (found_or p.pair PORT_DISCONNECTED) _ (found p.pair PORT_DISCONNECTED refl) (λ c.
    bind (found_or (first (is_accepted_on c) w.waits) PORT_DISCONNECTED) _ (found (first (is_accepted_on c) w.waits) PORT_DISCONNECTED refl) (λ x. tt))))

optional : (bytes : Option (List ℕ)) → Refuses (optional_message bytes)
optional None = tt
optional (Some bytes) = bind (message_test bytes) _ (message bytes) (λ m. tt)

receive : (w : World) (p : PortRow) → Refuses (receive_test w p)
receive w p = bind (found_or (queue_of w p) PORT_DISCONNECTED) _ (found (queue_of w p) PORT_DISCONNECTED refl) (λ q. bind (refuse_if (is_spent w p q) PORT_DISCONNECTED) _ (if_refuses (is_spent w p q) PORT_DISCONNECTED refl) (λ _. tt))

given : (w : World) (p : PortRow) (a : Option Message) → Refuses (given_reply w p a)
given w p None = tt
given w p (Some a) = bind (reply_test w p a) _ (answered w p a) (λ x. tt)

-- the services
pub refuses-create : (w : World) (by : ThreadRow) (name : Option (List ℕ)) (dacl : Option Dacl) → Refuses (served w by (create_port name dacl))
unfolding nt_create_port
refuses-create w by name dacl = bind (making w (next_birth by) name) _ (made w (next_birth by) name) (λ m. bind (handles_test w by.process 1) _ (handles w by.process 1) (λ _. tt))

access : (w : World) (by : ThreadRow) (q : Birth) → Refuses (access_test w by q)
access w by q =
    bind (refuse_if (nat_lt (counts_as (acting_token w by)) IMPERSONATION) BAD_IMPERSONATION_LEVEL) (λ _. refuse_if (not (grants (acting_token w by).token (access_list w q) CONNECT_RIGHT)) ACCESS_DENIED)
    (if_refuses (nat_lt (counts_as (acting_token w by)) IMPERSONATION) BAD_IMPERSONATION_LEVEL refl) (λ _. if_refuses (not (grants (acting_token w by).token (access_list w q) CONNECT_RIGHT)) ACCESS_DENIED refl)

pub refuses-connect : (w : World) (by : ThreadRow) (name : List ℕ) (quality : Qos) (word : Option ViewWord) (bytes : List ℕ) → Refuses (served w by (connect_port name quality word bytes))
unfolding nt_connect_port
refuses-connect w by name quality word bytes =
    bind (if_given (wanted_test w by) word) _ (wanted-refuses w by word) (λ wanted.
    bind (info_test bytes) _ (if_refuses (nat_lt MESSAGE_LIMIT (HEADER_SIZE + length bytes)) PORT_MESSAGE_TOO_LONG refl) (λ _.
    bind (if_given offer_test wanted) _ (offer-refuses wanted) (λ offer.
    bind (named_port w name) _ (to-port w name) (λ q. bind (access_test w by q) _ (access w by q) (λ _. bind (handles_test w by.process 1) _ (handles w by.process 1) (λ _.
    bind (if_given (view_test w by.process (next_birth by)) offer) _ (placed-refuses w by.process (next_birth by) offer) (λ own. tt)))))))

pub refuses-listen : (w : World) (by : ThreadRow) (handle : ℕ) → Refuses (served w by (listen_port handle))
unfolding nt_listen_port
refuses-listen w by handle = bind (port_test w by handle) _ (port w by handle) (λ p. bind (refuse_if (not (is_connection_port p)) INVALID_PORT_HANDLE) _ (if_refuses (not (is_connection_port p)) INVALID_PORT_HANDLE refl) (λ _. tt))

pub refuses-accept : (w : World) (by : ThreadRow) (context : ℕ) (message : List ℕ) (accept : Bool) (word : Option ViewWord) → Refuses (served w by (accept_connect_port context message accept word))
unfolding nt_accept_connect_port
refuses-accept w by context bytes accept word =
    bind (if_given (wanted_test w by) (accepted_view accept word)) _ (wanted-refuses w by (accepted_view accept word)) (λ wanted. bind (answer_test w by bytes) _ (answer w by bytes) (answered-as w by context accept wanted))

pub refuses-complete : (w : World) (by : ThreadRow) (handle : ℕ) → Refuses (served w by (complete_connect_port handle))
unfolding nt_complete_connect_port
refuses-complete w by handle = bind (complete_test w by handle) _ (bind (port_test w by handle) _ (port w by handle) (completion w)) (λ c. tt)

pub refuses-datagram : (w : World) (by : ThreadRow) (handle : ℕ) (message : List ℕ) → Refuses (served w by (request_port handle message))
unfolding nt_request_port
refuses-datagram w by handle bytes = bind (datagram_send_test w by handle bytes) _ (bind (send_test w by handle bytes) _ (send w by handle bytes) (λ s. bind (datagram_test w s.port) _ (if_refuses (nat_le DATAGRAM_LIMIT (datagrams w s.port.birth)) QUOTA_EXCEEDED refl) (λ _. tt))) (λ s. tt)

pub refuses-request : (w : World) (by : ThreadRow) (handle : ℕ) (message : List ℕ) → Refuses (served w by (request_wait_reply_port handle message))
unfolding nt_request_wait_reply_port
refuses-request w by handle bytes = bind (send_test w by handle bytes) _ (send w by handle bytes) (λ s. tt)

pub refuses-reply : (w : World) (by : ThreadRow) (handle : ℕ) (message : List ℕ) → Refuses (served w by (reply_port handle message))
unfolding nt_reply_port
refuses-reply w by handle bytes = bind (port_test w by handle) _ (port w by handle) (λ p. bind (message_test bytes) _ (message bytes) (λ m. bind (reply_test w p m) _ (answered w p m) (λ x. tt)))

-- the request that a call on a described range names
pub refuses-asked : (w : World) (by : ThreadRow) (handle : ℕ) (bytes : List ℕ) → Refuses (asked_test w by handle bytes)
refuses-asked w by handle bytes = bind (port_test w by handle) _ (port w by handle) (λ p. bind (message_test bytes) _ (message bytes) (λ m. bind (reply_test w p m) _ (answered w p m) (λ x. bind (request_test x) _ (if_refuses (is_event x) REPLY_MESSAGE_MISMATCH refl) (λ _. tt))))

pub refuses-receive : (w : World) (by : ThreadRow) (handle : ℕ) (message : Option (List ℕ)) → Refuses (served w by (reply_wait_receive_port handle message))
unfolding nt_reply_wait_receive_port
refuses-receive w by handle bytes = bind (port_test w by handle) _ (port w by handle) (λ p. bind (optional_message bytes) _ (optional bytes) (λ m. bind (receive_test w p) _ (receive w p) (λ q. bind (given_reply w p m) _ (given w p m) (λ r. tt))))
