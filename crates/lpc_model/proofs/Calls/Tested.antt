-- What the tests of calls find in a sound world: where names lead, connects that wait, routes and queues.
use Rattle.lpc_base.proofs.RowMaps.{every-first}
use Rattle.lpc_base.proofs.RowWords.{first-passes}
use Rattle.lpc_base.specs.Rows.{every, first, has}
use Rattle.lpc_base.specs.declared.status.TheConstants.{INVALID_PARAMETER, INVALID_PORT_HANDLE, PORT_DISCONNECTED, REPLY_MESSAGE_MISMATCH}
use Rattle.lpc_model.proofs.Calls.Holding.{Holds, bind_holds, found_ok, holds_ok, not_refused}
use Rattle.lpc_model.proofs.Steps.Rows.{lone}
use Rattle.lpc_model.proofs.Sound.Pairs.{is_on}
use Rattle.lpc_model.proofs.Calls.Usable.{HasRoute, IsUsable, port-usable, queue-open, routed, unspent}
use Rattle.lpc_model.specs.Connect.{Completable, ConnectAnswer, answer_test, complete_test, is_accepted_on, names_connect}
use Rattle.lpc_model.specs.Found.{is_open, is_port, is_queued, is_server_port, is_the, pair_of, port_row, queue_of, route, same_birth, waits_as}
use Rattle.lpc_model.specs.Message.{message_test}
use Rattle.lpc_model.specs.Named.{as_status, named_port, port_found}
use Rattle.lpc_model.specs.Refusal.{found_or, refuse_if}
use Rattle.lpc_model.specs.Request.{Sendable, is_spent, receive_test, send_test}
use Rattle.lpc_model.specs.SoundWaits.{IsSoundWorld, is_awaited, is_joined, leads_open}
use Rattle.lpc_model.specs.Tests.{client_test, port_test}
use Rattle.lpc_model.specs.Then.{◌>>=◌}
use Rattle.lpc_model.specs.World.{Bindings, Birth, PortRow, ThreadRow, WaitRow, World}
use Rattle.lpc_names.proofs.Bound.{nameless-is-not-found}
use Rattle.lpc_names.specs.Binding.{has_name}
use Rattle.lpc_names.specs.Walk.{LinkTo, Stands, lookup}
use Rattle.lpc_names.specs.declared.fault.NameFault.{NameFault}
use Rattle.lpc_names.specs.declared.names.Found.{Found}
use Rattle.lpc_names.specs.declared.names.Found.TheVariants.{Directory, Item}
use Rattle.std.proofs.Common.{Bool, List, [], arith, false, not, refl, true, ℕ, ◌∷◌, ◌≡◌}
use Rattle.std.proofs.lemmas.Bool.Decides.{nat_tests}
use Rattle.std.specs.Prelude.{Err, None, Ok, Result, Some, ◌&&◌, ◌||◌}

-- Names
-- the port that a name leads to is open
unnamed : (w : World) (bindings : Bindings Birth) → every (λ b. leads_open w b.1) bindings ≡ true → (port : Birth) → has_name (λ other _. not (is_open w other)) port bindings ≡ false
unnamed w [] opens port = refl
unnamed w ((path, LinkTo target) ∷ rest) opens port = unnamed w rest opens port
unnamed w ((path, Stands Directory) ∷ rest) opens port = unnamed w rest opens port
unnamed w ((path, Stands (Item other)) ∷ rest) opens port = grind (arith, unnamed w rest)

pub name-open : (w : World) (text : List ℕ) → IsSoundWorld w → Holds (λ port. is_open w port ≡ true) (named_port w text)
name-open w text s = at (lookup w.bindings text) refl
  where
    at : (r : Result (Found Birth) NameFault) → lookup w.bindings text ≡ r → Holds (λ port. is_open w port ≡ true) (as_status r >>= port_found)
    at (Err fault) is = tt
    at (Ok Directory) is = tt
    at (Ok (Item port)) is =
        let closed = nameless-is-not-found (λ other _. not (is_open w other)) port port w.bindings text (unnamed w w.bindings s.names port) is in grind arith

-- Connects
-- the connect that an answer names is found among the waits
pub named-wait : (w : World) (by : ThreadRow) (bytes : List ℕ) → Holds (λ (a : ConnectAnswer). first (names_connect w by a.message) w.waits ≡ Some a.wait) (answer_test w by bytes)
named-wait w by bytes =
    let P : ConnectAnswer → Type 0 = λ a. first (names_connect w by a.message) w.waits ≡ Some a.wait in
    bind_holds (message_test bytes) _ P (λ m _.
    bind_holds (client_test w m.header.client) _ P (λ _ _.
    bind_holds (found_or (first (names_connect w by m) w.waits) REPLY_MESSAGE_MISMATCH) _ P (λ x at.
    found_ok (first (names_connect w by m) w.waits) REPLY_MESSAGE_MISMATCH x at)))

-- what the tests of a completion find: the client port's pair is the server port, and the connect's thread waits on the
-- client port alone
pub record CanComplete (w : World) (c : Completable) : Type 0 where
  pub joined : is_the c.server (pair_of w c.client) ≡ true
  pub on : every (is_on c.wait.thread c.client) w.waits ≡ true

joined-parts : (s d a b : Bool) → not s ≡ false → d ≡ false → (not (s && not d) || (false || (a && b))) ≡ true → b ≡ true
joined-parts s d a b one two is = grind arith

found-joined : (w : World) (port : PortRow) (client : Birth) → port_row w port.birth ≡ Some port → not (is_server_port port) ≡ false → port.completed ≡ false → port.pair ≡ Some client → IsSoundWorld w → is_the port.birth (pair_of w client) ≡ true
found-joined w port client stands server open_yet pair s =
    let awaited = every-first (is_awaited w) (is_port port.birth) w.ports port s.pairs stands in
    joined-parts (is_server_port port) port.completed (has (is_accepted_on client) w.waits) (is_the port.birth (pair_of w client)) server open_yet (rw pair at awaited)

found-on : (w : World) (client : Birth) (x : WaitRow) → first (is_accepted_on client) w.waits ≡ Some x → IsSoundWorld w → every (is_on x.thread client) w.waits ≡ true
found-on w client x at s =
    let self : waits_as x.thread x ≡ true = grind (arith, nat_tests) in
    let here = first-passes (is_accepted_on client) w.waits x at in
    lone (waits_as x.thread) (λ y. same_birth y.port client) (is_accepted_on client) w.waits x (s.once x.thread) at self (grind arith)

pub can-complete : (w : World) (by : ThreadRow) (handle : ℕ) → IsSoundWorld w → Holds (CanComplete w) (complete_test w by handle)
can-complete w by handle s =
    bind_holds (port_test w by handle) _ (CanComplete w) (λ port at.
    let u = holds_ok (IsUsable w) (port_test w by handle) port (port-usable w by handle) at in
    bind_holds (refuse_if (not (is_server_port port)) INVALID_PORT_HANDLE) _ (CanComplete w) (λ one server.
    bind_holds (refuse_if port.completed INVALID_PARAMETER) _ (CanComplete w) (λ two open_yet.
    bind_holds (found_or port.pair PORT_DISCONNECTED) _ (CanComplete w) (λ client pair.
    bind_holds (found_or (first (is_accepted_on client) w.waits) PORT_DISCONNECTED) _ (CanComplete w) (λ x wait.
    record {
      joined = found-joined w port client u.stands (not_refused (not (is_server_port port)) INVALID_PORT_HANDLE one server) (not_refused port.completed INVALID_PARAMETER two open_yet) (found_ok port.pair PORT_DISCONNECTED client pair) s;
      on = found-on w client x (found_ok (first (is_accepted_on client) w.waits) PORT_DISCONNECTED x wait) s;
    })))))

-- Messages
-- what the tests of a message that is sent find
pub send-routed : (w : World) (by : ThreadRow) (handle : ℕ) (bytes : List ℕ) → Holds (λ (s : Sendable). HasRoute w s.port s.queue) (send_test w by handle bytes)
send-routed w by handle bytes =
    let P : Sendable → Type 0 = λ s. HasRoute w s.port s.queue in
    bind_holds (port_test w by handle) _ P (λ port at.
    bind_holds (message_test bytes) _ P (λ m _.
    bind_holds (found_or (route w port) PORT_DISCONNECTED) _ P (λ queue way.
    routed w port queue (holds_ok (IsUsable w) (port_test w by handle) port (port-usable w by handle) at) (found_ok (route w port) PORT_DISCONNECTED queue way))))

-- a receive finds its queue open, and a message can come where none stands in it
pub record CanWait (w : World) (port : PortRow) (queue : Birth) : Type 0 where
  pub usable : IsUsable w port
  pub opens : is_open w queue ≡ true
  pub unspent : first (is_queued queue) w.messages ≡ None → is_joined port ≡ true

pub can-wait : (w : World) (port : PortRow) → IsUsable w port → Holds (CanWait w port) (receive_test w port)
can-wait w port u =
    bind_holds (found_or (queue_of w port) PORT_DISCONNECTED) _ (CanWait w port) (λ queue at.
    bind_holds (refuse_if (is_spent w port queue) PORT_DISCONNECTED) _ (CanWait w port) (λ t off. record {
      usable = u;
      opens = queue-open w queue port (found_ok (queue_of w port) PORT_DISCONNECTED queue at);
      unspent = λ none. unspent w queue port none (not_refused (is_spent w port queue) PORT_DISCONNECTED t off);
    }))
