-- Steps that are steady whatever the world: they make no port, process, thread or handle, and join none. So messages
-- enter, and are received.
use Rattle.lpc_model.proofs.Sound.Reply.{reply-cases}
use Rattle.std.proofs.Common.{◌≡◌, ℕ, List, [], ◌∷◌, ◌++◌, Bool, true, false, Option, Some, None, refl}
use Rattle.lpc_base.specs.Rows.{every, first, given, when}
use Rattle.lpc_base.proofs.RowWords.{every-append}
use Rattle.lpc_base.specs.declared.status.TheConstants.{SUCCESS}
use Rattle.lpc_model.specs.World.{Birth, Message, MessageRow, PortRow, ThreadRow, WaitRow, World}
use Rattle.lpc_message.specs.declared.kind.TheConstants.{DATAGRAM, REQUEST}
use Rattle.lpc_model.specs.Request.{Sendable, datagram_start, datagram_steps, given_reply, receive_steps, reply_test, request_start, request_steps, sent_by}
use Rattle.lpc_model.proofs.Calls.Holding.{Holds, bind_holds, holds_ok}
use Rattle.lpc_model.proofs.Calls.Outcomes.{IsReceiving}
use Rattle.lpc_model.specs.Basics.{Basic, Receives, world_after, Awaits, DrawsIdentifier, basic}
use Rattle.lpc_model.specs.Entering.{enter, given_steps, received_steps, row_of, shown, takes, woken}
use Rattle.lpc_model.specs.Message.{asks}
use Rattle.lpc_model.proofs.Sound.Worlds.{by_kind}
use Rattle.lpc_model.proofs.Linked.Steps.{is_steady}
use Rattle.lpc_model.specs.Raise.{Heard, Hearing, event_message, event_wait, raise_steps}
use Rattle.lpc_model.specs.Tests.{client_of}

-- each step is steady
abbrev pub AreSteady : List Basic → Type 0
AreSteady bs = every is_steady bs ≡ true

-- Messages that enter
pub steady-receipt : (m : MessageRow) → AreSteady (received_steps m)
steady-receipt m = at (asks m.message)
  where
    at : (a : Bool) → every is_steady (when a (Receives m.message.header.client.thread m.queue ∷ [])) ≡ true
    at true = refl
    at false = refl

steady-given : (m : MessageRow) (x : WaitRow) → AreSteady (given_steps x m ++ woken SUCCESS (shown x m) x ∷ [])
steady-given m x =
    by_kind (λ x. every is_steady (given_steps x m ++ woken SUCCESS (shown x m) x ∷ []) ≡ true)
    (λ x r. every-append is_steady (received_steps m) _ (steady-receipt m) refl)
    (λ x. every-append is_steady (received_steps m) _ (steady-receipt m) refl)
    (λ x. every-append is_steady (received_steps m) _ (steady-receipt m) refl)
    (λ x r offer. every-append is_steady (received_steps m) _ (steady-receipt m) refl)
    (λ x r reply. every-append is_steady (received_steps m) _ (steady-receipt m) refl)
    (λ x r. every-append is_steady (received_steps m) _ (steady-receipt m) refl) x

pub steady-enter : (m : MessageRow) (w : World) → AreSteady (enter m w)
steady-enter m w = at (first (takes m) w.waits)
  where
    at : (o : Option WaitRow) → AreSteady (given o (λ x. given_steps x m ++ woken SUCCESS (shown x m) x ∷ []))
    at None = refl
    at (Some x) = steady-given m x

-- so messages are sent
pub steady-send : (w : World) (by : ThreadRow) (s : Sendable) → AreSteady (datagram_steps by s.port s.queue (sent_by by DATAGRAM s.message) w)
steady-send w by s = steady-enter (row_of s.queue s.port (sent_by by DATAGRAM s.message)) (world_after w (datagram_start by))

pub steady-ask : (w : World) (by : ThreadRow) (s : Sendable) → AreSteady (request_steps by s.port s.queue (sent_by by REQUEST s.message) w)
steady-ask w by s = let m = sent_by by REQUEST s.message in steady-enter (row_of s.queue s.port m) (world_after w (request_start by s.port.birth s.queue m))

pub steady-hears : (w : World) (by : ThreadRow) (code : ℕ) (handled : Bool) (h : Hearing) → AreSteady (raise_steps by code handled (Heard h) w)
steady-hears w by code handled h =
    steady-enter (row_of h.queue h.port (event_message (client_of by) by.next_identifier code h.chance)) (basic (basic w (DrawsIdentifier by.number)) (Awaits (event_wait by code handled h)))

-- Receives
replied-steady : (w : World) (port : PortRow) (m : Option Message) → Holds AreSteady (given_reply w port m)
replied-steady w port None = refl
replied-steady w port (Some m) = bind_holds (reply_test w port m) _ AreSteady (λ x _. reply-cases (λ b. AreSteady (b ∷ [])) x m refl refl (λ _. refl))

given-steady : (w : World) (by : ThreadRow) (handle : ℕ) (bytes : Option (List ℕ)) (o : Option Message) (port : PortRow) (queue : Birth) (replied : List Basic) → IsReceiving w by handle bytes o port queue replied → AreSteady replied
given-steady w by handle bytes o port queue replied r = holds_ok AreSteady (given_reply w port o) replied (replied-steady w port o) r.reply_made

-- a receive may reply first, and then takes a message, or waits
pub steady-receive : (w : World) (by : ThreadRow) (handle : ℕ) (bytes : Option (List ℕ)) (o : Option Message) (port : PortRow) (queue : Birth) (replied : List Basic) (m : MessageRow) → IsReceiving w by handle bytes o port queue replied → AreSteady (receive_steps by port queue replied (Some m))
steady-receive w by handle bytes o port queue replied m r = every-append is_steady replied _ (given-steady w by handle bytes o port queue replied r) (steady-receipt m)

pub steady-await : (w : World) (by : ThreadRow) (handle : ℕ) (bytes : Option (List ℕ)) (o : Option Message) (port : PortRow) (queue : Birth) (replied : List Basic) → IsReceiving w by handle bytes o port queue replied → AreSteady (receive_steps by port queue replied None)
steady-await w by handle bytes o port queue replied r = every-append is_steady replied _ (given-steady w by handle bytes o port queue replied r) refl
