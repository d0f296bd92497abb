-- A message that is sent: its tests, and the steps that send it.
use Rattle.std.specs.Prelude.{ℕ, List, Result}
use Rattle.lpc_base.specs.declared.status.Status.{Status}
use Rattle.lpc_message.specs.declared.kind.TheConstants.{DATAGRAM, REQUEST}
use Rattle.lpc_model.specs.Listed.{Listed}
use Rattle.lpc_model.specs.Message.{message_of}
use Rattle.lpc_model.specs.Request as request
use Rattle.lpc_model.specs.declared.message.Message.{Message}
use Rattle.lpc_procs.specs.declared.rows.Caller.{Caller}
use Rattle.lpc_rows.specs.Clauses.{birth_at, port_at}
use Rattle.lpc_request.specs.declared.send.Sendable.{Sendable}
use Rattle.lpc_slots.specs.declared.Key.{Key}
use Rattle.lpc_rows.specs.Does.{Took}
use Rattle.lpc_rows.specs.Kept.{Kept}
use Rattle.lpc_rows.specs.Ready.{caller}
use Rattle.lpc_rows.specs.Callers.{shown_caller}

-- a message that may be sent, with the rows of its port and its queue
abbrev pub shown : Kept → Sendable → request.Sendable
shown w s = record { port = port_at w s.port; message = message_of s.message.now; queue = birth_at w s.queue }

-- the tests of a message that a thread sends on a handle, and those of a datagram
abbrev pub may_send : Kept → ℕ → ℕ → List ℕ → Result request.Sendable Status
may_send w tid handle bytes = request.send_test w.rows (caller w.rows tid) handle bytes

abbrev pub may_post : Kept → ℕ → ℕ → List ℕ → Result request.Sendable Status
may_post w tid handle bytes = request.datagram_send_test w.rows (caller w.rows tid) handle bytes

-- a thread sends a message on a port to a queue as a datagram, and as a request
abbrev pub Sends : Caller → Key → Key → Message → Kept → Kept → Listed → Listed → Type 0
Sends by port queue m old new before after =
    Took (request.datagram_steps (shown_caller by) (port_at old port) (birth_at old queue) (request.sent_by (shown_caller by) DATAGRAM m) old.rows) old new before after

abbrev pub Requests : Caller → Key → Key → Message → Kept → Kept → Listed → Listed → Type 0
Requests by port queue m old new before after =
    Took (request.request_steps (shown_caller by) (port_at old port) (birth_at old queue) (request.sent_by (shown_caller by) REQUEST m) old.rows) old new before after
