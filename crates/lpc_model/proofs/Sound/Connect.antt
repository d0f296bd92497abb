-- Calls that make and join ports leave sound waits behind.
use Rattle.lpc_base.proofs.Births.{birth-self}
use Rattle.lpc_base.proofs.Bools.{same-number}
use Rattle.lpc_base.proofs.RowMaps.{every-both, every-first, every-none}
use Rattle.lpc_base.proofs.RowWords.{every-more, every-push, first-passes, has-kept, has-push, has_none-more}
use Rattle.lpc_base.specs.Rows.{every, first, has}
use Rattle.lpc_base.specs.declared.status.TheConstants.{PORT_CONNECTION_REFUSED, SUCCESS}
use Rattle.lpc_model.proofs.Steps.Handles.{open-new}
use Rattle.lpc_model.proofs.Steps.Rows.{first-change, has-found, has-off, lone, passes-change}
use Rattle.lpc_model.proofs.Sound.Basics.{no-server, once-awaits, sound-handle, sound-identifier, sound-made, sound-wakes, sound-wakes-quiet}
use Rattle.lpc_model.proofs.Sound.Calls.{LeaveSound, drawn-client}
use Rattle.lpc_model.proofs.Sound.Pairs.{awaited-finished, is_apart, tied-awaits, tied-of}
use Rattle.lpc_model.proofs.Sound.Ports.{is_known, sound-accepts, sound-completes}
use Rattle.lpc_model.proofs.Sound.Queues.{is_ready, ready-sure, sound-enter}
use Rattle.lpc_model.proofs.Sound.Ties.{IsFree, elsewhere-completed, is_offered_on, still-elsewhere}
use Rattle.lpc_model.proofs.Sound.Worlds.{by_kind, is_sure, order-of, sound-memory, sure-waits}
use Rattle.lpc_model.proofs.Calls.Tested.{CanComplete}
use Rattle.lpc_model.proofs.Calls.Usable.{CanCall}
use Rattle.lpc_model.specs.Basics.{AddsHandle, Awaits, Completes, DrawsIdentifier, DrawsOrdinal, Makes, basic, past_identifier, past_ordinal, world_after}
use Rattle.lpc_model.specs.Connect.{Completable, ConnectAnswer, acceptance_of, client_port, complete_steps, connect_wait, connection_request, is_accepted_on, names_connect, new_port, refuse_steps, server_port}
use Rattle.lpc_model.specs.Entering.{row_of, woken, enter}
use Rattle.lpc_model.specs.Fields.{h, info, completion_fields}
use Rattle.lpc_model.specs.Found.{free_handle, is_accepted, is_connect, is_live_thread, is_offered, is_open, is_port, is_server_port, is_thread, port_name, same_birth, waits_as}
use Rattle.lpc_model.specs.SoundWaits.{IsSoundWorld, can_stay_sound, has_client_port, is_connect_on, is_message_of, is_past, lacks_connects}
use Rattle.lpc_model.specs.Tests.{PORT_ACCESS, client_of, handle_row, is_client, next_birth}
use Rattle.lpc_model.specs.World.{Birth, Message, PortKind, PortRow, ThreadRow, WaitRow, World, Acceptance, Offer}
use Rattle.std.proofs.Common.{Bool, List, [], arith, cond, false, not, refl, true, ℕ, ◌++◌, ◌∷◌, ◌≡◌, Option}
use Rattle.std.proofs.lemmas.Bool.Decides.{nat_tests}
use Rattle.std.specs.Prelude.{Some, ◌&&◌, ◌==◌, ◌||◌}
use Rattle.lpc_model.proofs.Calls.Sharing.{accept_act, connect_begun}

-- NtCreatePort
-- a port is made by steps that leave a sound world, and then gets a handle
pub created-sound : (w : World) (by : ThreadRow) (kind : PortKind) → CanCall w by → is_server_port (new_port (next_birth by) kind) ≡ false → IsSoundWorld w
    → LeaveSound w (DrawsOrdinal by.number ∷ Makes (new_port (next_birth by) kind) ∷ AddsHandle by.process (handle_row (free_handle w by.process) (port_name (next_birth by)) PORT_ACCESS) ∷ [])
created-sound w by kind c off s =
    let port = new_port (next_birth by) kind in
    let made = sound-made w by port c s refl refl (no-server w port off) in
    sound-handle (basic (basic w (DrawsOrdinal by.number)) (Makes port)) by.process (port_name (next_birth by)) PORT_ACCESS made

-- NtConnectPort
-- the wait of a connect is sound once its request has entered
own-request : (by : ThreadRow) (connection : Birth) (offer : Option Offer) (bytes : List ℕ) → let m = connection_request by offer bytes in is_message_of (connect_wait by connection offer m) (row_of connection (client_port by connection) m) ≡ true
own-request by connection offer bytes = let self = birth-self connection in grind (arith, nat_tests)

connect-parts : (c q h p o : Bool) → c ≡ true → q ≡ true → h ≡ true → p ≡ true → o ≡ true → ((c && (q && h)) && (p && o)) ≡ true
connect-parts c q h p o one two three four five = grind arith

drawn-ordinal : (w : World) (by : ThreadRow) → is_client w (client_of by) ≡ true → is_client (basic w (DrawsOrdinal by.number)) (client_of by) ≡ true
drawn-ordinal w by is = rw (passes-change (is_live_thread by.number) (λ t. t.process == by.process) (is_thread by.number) past_ordinal (λ t. refl) (λ t. refl) w.threads) is

-- the caller can call once it has drawn an identifier
drawn-caller : (w : World) (by : ThreadRow) → CanCall w by → CanCall (basic w (DrawsIdentifier by.number)) (past_identifier by)
drawn-caller w by c = record {
  lives = rw (first-change (is_live_thread by.number) (is_thread by.number) past_identifier (λ t. refl) w.threads, c.lives) (own (is_thread by.number by) (same-number by.number));
  client = drawn-client w by c.client;
  idle = c.idle;
  home = c.home;
}
  where
    own : (same : Bool) → same ≡ true → Some (cond same (past_identifier by) by) ≡ Some (past_identifier by)
    own true is = refl
    own false is = absurd (cc)

-- no port has the caller's next birth yet
new-birth : (by : ThreadRow) (p : PortRow) → is_past p by ≡ true → same_birth (next_birth by) p.birth ≡ false
new-birth by p is = grind (arith, nat_tests)

new-apart : (by : ThreadRow) (x : WaitRow) → x.port ≡ next_birth by → (p : PortRow) → is_past p by ≡ true → is_apart x p ≡ true
new-apart by x own p is = at (is_server_port p) (is_connect x) (same_birth x.port p.birth) (rw own (new-birth by p is))
  where
    at : (s c h : Bool) → h ≡ false → not (s && (c && h)) ≡ true
    at s c h off = grind arith

pub connected-sound : (w : World) (by : ThreadRow) (connection : Birth) (offer : Option Offer) (bytes : List ℕ) → CanCall w by → is_open w connection ≡ true → IsSoundWorld w → (let m = connection_request by offer bytes in let u = world_after w (connect_begun by connection offer m) in LeaveSound u (enter (row_of connection (client_port by connection) m) u))
connected-sound w by connection offer bytes c opens s =
    let m = connection_request by offer bytes in
    let port = client_port by connection in
    let row = row_of connection port m in
    let x = connect_wait by connection offer m in
    let drawn = basic w (DrawsIdentifier by.number) in
    let made = basic (basic drawn (DrawsOrdinal by.number)) (Makes port) in
    let t = sound-made drawn (past_identifier by) port (drawn-caller w by c) (sound-identifier w by.number s) refl refl refl in
    let others = every-more (is_sure made) (is_ready made row) (ready-sure made row) w.waits (sure-waits made t) in
    let request = has-push (is_message_of x) w.messages row (own-request by connection offer bytes) in
    let stands = has-push (is_port port.birth) w.ports port (birth-self port.birth) in
    let lives = drawn-ordinal drawn by (drawn-client w by c.client) in
    let own : is_ready made row x ≡ true = connect-parts (is_client made (client_of by)) (is_open w connection) (has (is_message_of x) (w.messages ++ row ∷ [])) (has (is_port port.birth) (w.ports ++ port ∷ [])) (by.number == by.number) lives opens request stands (same-number by.number) in
    let apart = every-push (is_apart x) w.ports port (every-more (λ p. is_past p by) (is_apart x) (new-apart by x refl) w.ports (s.ordinals by.number by c.lives)) refl in
    sound-enter (basic made (Awaits x)) row (every-push (is_ready made row) w.waits x others own) (once-awaits w x c.idle s.once) (order-of made t) (tied-awaits made.ports w.waits x apart (tied-of made t))

-- NtAcceptConnectPort
-- the connect that is named isn't accepted, and waits alone for its thread
pub names-offered : (w : World) (by : ThreadRow) (m : Message) (x : WaitRow) → names_connect w by m x ≡ true → is_offered x ≡ true
names-offered w by m x is = grind arith

offered-quiet : (x : WaitRow) → is_offered x ≡ true → not (is_accepted x) ≡ true
offered-quiet = by_kind (λ x. is_offered x ≡ true → not (is_accepted x) ≡ true) (λ x m is. refl) (λ x is. refl) (λ x is. refl) (λ x m offer is. refl) (λ x m reply is. absurd (cc)) (λ x r is. refl)

pub named-alone : (w : World) (by : ThreadRow) (m : Message) (x : WaitRow) (f : WaitRow → Bool) → first (names_connect w by m) w.waits ≡ Some x → f x ≡ true → IsSoundWorld w → every (λ y. not (waits_as x.thread y) || f y) w.waits ≡ true
named-alone w by m x f at is s =
    let self : waits_as x.thread x ≡ true = grind (arith, nat_tests) in
    lone (waits_as x.thread) f (names_connect w by m) w.waits x (s.once x.thread) at self is

known-waits : (w : World) (by : ThreadRow) (m : Message) (x : WaitRow) → first (names_connect w by m) w.waits ≡ Some x → CanCall w by → IsSoundWorld w → every (λ y. not (waits_as by.number y) && (not (waits_as x.thread y) || same_birth y.port x.port)) w.waits ≡ true
known-waits w by m x at c s =
    let alone = named-alone w by m x (λ y. same_birth y.port x.port) at (birth-self x.port) s in
    every-both (λ y. not (waits_as by.number y)) (λ y. not (waits_as x.thread y) || same_birth y.port x.port) _ (λ y one two. rw (one, two) refl) w.waits (every-none (waits_as by.number) w.waits c.idle) alone

-- no connect waits on a port that a thread made which doesn't wait
pub foreign-connect : (w : World) (b : Birth) (y : WaitRow) → can_stay_sound w y ≡ true → not (waits_as b.maker y) ≡ true → not (is_connect_on b y) ≡ true
foreign-connect w b =
    by_kind (λ y. can_stay_sound w y ≡ true → not (waits_as b.maker y) ≡ true → not (is_connect_on b y) ≡ true)
    (λ y m is off. refl)
    (λ y is off. refl)
    (λ y is off. refl)
    (λ y m offer is off. foreign y is off)
    (λ y m reply is off. foreign y is off)
    (λ y r is off. refl)
  where
    foreign : (y : WaitRow) → has_client_port w y ≡ true → not (waits_as b.maker y) ≡ true → not (same_birth y.port b) ≡ true
    foreign y is off = grind (arith, nat_tests)

pub unconnected : (w : World) (by : ThreadRow) → CanCall w by → IsSoundWorld w → has (is_connect_on (next_birth by)) w.waits ≡ false
unconnected w by c s =
    has-off (is_connect_on (next_birth by)) w.waits (every-both (can_stay_sound w) (λ y. not (waits_as by.number y)) (λ y. not (is_connect_on (next_birth by) y)) (foreign-connect w (next_birth by)) w.waits s.stay (every-none (waits_as by.number) w.waits c.idle))

-- a connect that isn't accepted has its client port
pub offered-client : (w : World) (x : WaitRow) → is_offered x ≡ true → can_stay_sound w x ≡ true → has_client_port w x ≡ true
offered-client w =
    by_kind (λ x. is_offered x ≡ true → can_stay_sound w x ≡ true → has_client_port w x ≡ true) (λ x m of is. absurd (cc)) (λ x of is. absurd (cc)) (λ x of is. absurd (cc)) (λ x m offer of is. is) (λ x m reply of is. absurd (cc)) (λ x r of is. absurd (cc))

-- no accepted connect waits on the client port of one that isn't accepted
unaccepted : (w : World) (x : WaitRow) → has_client_port w x ≡ true → (y : WaitRow) → can_stay_sound w y ≡ true → (not (waits_as x.thread y) || is_offered y) ≡ true → not (is_accepted_on x.port y) ≡ true
unaccepted w x own =
    by_kind (λ y. can_stay_sound w y ≡ true → (not (waits_as x.thread y) || is_offered y) ≡ true → not (is_accepted_on x.port y) ≡ true)
    (λ y m is off. refl)
    (λ y is off. refl)
    (λ y is off. refl)
    (λ y m offer is off. refl)
    (λ y m reply is off. other y is off)
    (λ y r is off. refl)
  where
    other : (y : WaitRow) → has_client_port w y ≡ true → (not (waits_as x.thread y) || false) ≡ true → not (same_birth y.port x.port) ≡ true
    other y is off = grind (arith, nat_tests)

accepted-connect : (b : Birth) (y : WaitRow) → is_connect_on b y ≡ false → is_accepted_on b y ≡ false
accepted-connect b y off = at (is_offered y) (is_accepted y) (same_birth y.port b) off
  where
    at : (o a h : Bool) → ((o || a) && h) ≡ false → (a && h) ≡ false
    at o a h none = grind arith

-- the connect that is named can be accepted, by a port that the caller makes next
named-free : (w : World) (by : ThreadRow) (m : Message) (x : WaitRow) (port : PortRow) → first (names_connect w by m) w.waits ≡ Some x → CanCall w by → IsSoundWorld w → IsFree (w.ports ++ port ∷ []) w.waits x.port (next_birth by) x.thread
named-free w by m x port at c s =
    let offered = names-offered w by m x (first-passes (names_connect w by m) w.waits x at) in
    let own = offered-client w x offered (every-first (can_stay_sound w) (names_connect w by m) w.waits x s.stay at) in
    record {
      stands = has-kept (is_port x.port) w.ports port (grind arith);
      offered = has-found (is_offered_on x.thread x.port) (names_connect w by m) w.waits x at (offered-on x offered);
      on_client = has-off (is_accepted_on x.port) w.waits (every-both (can_stay_sound w) (λ y. not (waits_as x.thread y) || is_offered y) (λ y. not (is_accepted_on x.port y)) (unaccepted w x own) w.waits s.stay (named-alone w by m x is_offered at offered s));
      on_server = has_none-more (is_connect_on (next_birth by)) (is_accepted_on (next_birth by)) (accepted-connect (next_birth by)) w.waits (unconnected w by c s);
    }
  where
    offered-on : (x : WaitRow) → is_offered x ≡ true → is_offered_on x.thread x.port x ≡ true
    offered-on x is = let self = birth-self x.port in grind (arith, nat_tests)

-- no connect waits on the server port that is made
server-lacks : (w : World) (p : PortRow) → has (is_connect_on p.birth) w.waits ≡ false → lacks_connects w p ≡ true
server-lacks w p none = at (is_server_port p) (has (is_connect_on p.birth) w.waits) none
  where
    at : (s h : Bool) → h ≡ false → not (s && h) ≡ true
    at s h off = grind arith

pub accepted-sound : (w : World) (by : ThreadRow) (context : ℕ) (m : Message) (x : WaitRow) (a : Acceptance) → first (names_connect w by m) w.waits ≡ Some x → CanCall w by → IsSoundWorld w
    → LeaveSound w (accept_act w by context x a)
accepted-sound w by context m x a at c s =
    let server = next_birth by in
    let port = server_port server x.queue in
    let made = basic (basic w (DrawsOrdinal by.number)) (Makes port) in
    let t = sound-made w by port c s refl refl (server-lacks w port (unconnected w by c s)) in
    let held = basic made (AddsHandle by.process (handle_row (free_handle w by.process) (port_name server) PORT_ACCESS)) in
    let u = sound-handle made by.process (port_name server) PORT_ACCESS t in
    let opens = open-new made by.process (free_handle w by.process) PORT_ACCESS server c.home in
    let all = every-both (is_sure held) (λ y. not (waits_as by.number y) && (not (waits_as x.thread y) || same_birth y.port x.port)) (is_known held by.number x.thread x.port) (λ y one two. rw (one, two) refl) w.waits (sure-waits held u) (known-waits w by m x at c s) in
    sound-accepts held x.port server context x.thread a opens all (named-free w by m x port at c s) u

-- where it is refused, its thread waits no longer
pub refused-sound : (w : World) (by : ThreadRow) (a : ConnectAnswer) → first (names_connect w by a.message) w.waits ≡ Some a.wait → IsSoundWorld w → LeaveSound w (refuse_steps by a)
refused-sound w by a at s =
    let quiet = named-alone w by a.message a.wait (λ y. not (is_accepted y)) at (offered-quiet a.wait (names-offered w by a.message a.wait (first-passes (names_connect w by a.message) w.waits a.wait at))) s in
    sound-memory (world_after w (woken PORT_CONNECTION_REFUSED (info a.message.body ∷ []) a.wait ∷ [])) _ _ _ (sound-wakes-quiet w a.wait.thread a.wait.call PORT_CONNECTION_REFUSED (info a.message.body ∷ []) quiet s)

-- NtCompleteConnectPort
pub completed-sound : (w : World) (by : ThreadRow) (c : Completable) → CanComplete w c → IsSoundWorld w → LeaveSound w (complete_steps by (free_handle w c.wait.process) c)
completed-sound w by c can s =
    let value = free_handle w c.wait.process in
    let one = basic w (Completes c.server) in
    let two = basic one (Completes c.client) in
    let t = sound-completes one c.client (sound-completes w c.server s) in
    let u = sound-handle two c.wait.process (port_name c.client) PORT_ACCESS t in
    let held = basic two (AddsHandle c.wait.process (handle_row value (port_name c.client) PORT_ACCESS)) in
    let elsewhere = still-elsewhere one.ports c.client c.client (elsewhere-completed w.ports w.waits c.server c.client can.joined (tied-of w s)) in
    let pairs = awaited-finished held.ports w.waits c.wait.thread c.client can.on elsewhere (tied-of held u) in
    sound-wakes held c.wait.thread c.wait.call SUCCESS (completion_fields value (acceptance_of c.wait)) pairs u
