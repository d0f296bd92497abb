-- What the functions behind the calls do: the steps of a call's definition, or its refusal is left to be told.
use Rattle.std.specs.Prelude.{ℕ, Bool, false, List, Option, Result, Ok, Err}
use Rattle.lpc_base.specs.declared.status.Status.{Status}
use Rattle.lpc_model.specs.Listed.{Listed}
use Rattle.lpc_model.specs.Register.{is_registered}
use Rattle.lpc_model.specs.Request.{nt_reply_port, nt_reply_wait_receive_port, nt_request_wait_reply_port}
use Rattle.lpc_model.specs.World.{PortRow, ThreadRow, World}
use Rattle.lpc_model.specs.declared.entry.Outcome.{Outcome}
use Rattle.lpc_rows.specs.Clauses.{birth_at}
use Rattle.lpc_rows.specs.Does.{Does}
use Rattle.lpc_rows.specs.Kept.{Kept}
use Rattle.lpc_rows.specs.Ready.{caller}
use Rattle.lpc_slots.specs.declared.Key.{Key}
use Rattle.lpc_steps.specs.Clauses.{port_for}

-- NtRequestWaitReplyPort of a thread on a handle, with these bytes
abbrev pub Asked : Result Outcome Status → ℕ → ℕ → List ℕ → Kept → Kept → Listed → Listed → Type 0
Asked result tid handle bytes old new before after =
    Does result (nt_request_wait_reply_port old.rows (caller old.rows tid) handle bytes) old new before after

-- NtReplyPort
abbrev pub Answered : Result Outcome Status → ℕ → ℕ → List ℕ → Kept → Kept → Listed → Listed → Type 0
Answered result tid handle bytes old new before after =
    Does result (nt_reply_port old.rows (caller old.rows tid) handle bytes) old new before after

-- NtReplyWaitReceivePort, with the bytes of a reply or without
abbrev pub Received : Result Outcome Status → ℕ → ℕ → Option (List ℕ) → Kept → Kept → Listed → Listed → Type 0
Received result tid handle bytes old new before after =
    Does result (nt_reply_wait_receive_port old.rows (caller old.rows tid) handle bytes) old new before after

-- a port is registered with a thread
abbrev pub is_registered_at : Kept → ℕ → Key → Bool
is_registered_at w tid port = is_registered (birth_at w port) (caller w.rows tid)

-- the port that a handle names, where it names one, is registered with the thread
abbrev pub is_registered_with : ThreadRow → Result PortRow Status → Bool
is_registered_with by (Ok port) = is_registered port.birth by
is_registered_with by (Err s) = false

-- NtRegisterThreadTerminatePort of a thread on a handle makes nothing: the port is registered already
abbrev pub was_registered : World → ℕ → ℕ → Bool
was_registered w tid handle = is_registered_with (caller w tid) (port_for w tid handle)
