-- The wait that a reply names.
use Rattle.std.specs.Prelude.{[], Result}
use Rattle.lpc_base.specs.declared.status.Status.{Status}
use Rattle.lpc_message.specs.declared.message.Header.{Header}
use Rattle.lpc_model.specs.Request as request
use Rattle.lpc_model.specs.World.{WaitRow}
use Rattle.lpc_rows.specs.Clauses.{port_at}
use Rattle.lpc_rows.specs.Kept.{Kept}
use Rattle.lpc_slots.specs.declared.Key.{Key}

-- the wait that a message with this header fits through a port, or why there is none; its data don't matter
abbrev pub answered_by : Kept → Key → Header → Result WaitRow Status
answered_by w port header = request.reply_test w.rows (port_at w port) (record { header = header; body = [] })
