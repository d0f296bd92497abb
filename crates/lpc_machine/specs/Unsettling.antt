-- Behind which lines something may be due.
use Rattle.std.specs.Prelude.{◌≡◌, ◌&&◌, Bool, true, false}
use Rattle.lpc_base.specs.Rows.{every}
use Rattle.lpc_model.specs.Found.{was_process}
use Rattle.lpc_model.specs.Lines.{ScriptCall, ScriptLine, close, raise, reply_port, reply_wait_receive_port, run, terminate_process, terminate_thread}
use Rattle.lpc_model.specs.World.{World}
use Rattle.lpc_rows.specs.Ready.{is_ready}

-- the calls that may mark an event or leave a live process that is to end: replies, a handle that is closed, ends, and
-- exceptions
abbrev pub call_unsettles : ScriptCall → Bool
call_unsettles (reply_port handle message) = true
call_unsettles (reply_wait_receive_port handle reply) = true
call_unsettles (close handle) = true
call_unsettles (terminate_thread target code) = true
call_unsettles (terminate_process target code) = true
call_unsettles (raise code handled) = true
call_unsettles call = false

abbrev pub unsettles : World → ScriptLine → Bool
unsettles w (run tid call) = is_ready w tid && call_unsettles call
unsettles w line = false

-- the number of each process was used
abbrev pub HasUsedProcesses : World → Type 0
HasUsedProcesses w = every (λ p. was_process w p.number) w.processes ≡ true
