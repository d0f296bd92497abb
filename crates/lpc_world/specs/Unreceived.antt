-- The waits for an answer to a message that wasn't received.
use Rattle.std.specs.Prelude.{ℕ, ◌≡◌, ◌&&◌, Bool, true, false, not}
use Rattle.lpc_base.specs.Rows.{has, passes}
use Rattle.lpc_ports.specs.Table.{PortTable, is_own_of}
use Rattle.lpc_waits.specs.declared.Wait.{Wait}
use Rattle.lpc_waits.specs.declared.WaitKind.{WaitKind}
use Rattle.lpc_waits.specs.declared.WaitKind.TheVariants.{Connect, Event, Listen, Receive, Request}
use Rattle.lpc_waits.specs.Table.{WaitTable, row_of}

-- a wait of the kind is for an answer to what its thread sent
abbrev pub awaits_answer : WaitKind → Bool
awaits_answer Request = true
awaits_answer Receive = false
awaits_answer Listen = false
awaits_answer Connect = true
awaits_answer (Event raised) = true

-- and what was sent wasn't received
abbrev pub is_unreceived : Wait → Bool
is_unreceived wait = awaits_answer wait.kind && not wait.received

-- the thread waits so
abbrev pub has_unreceived : WaitTable → ℕ → Bool
has_unreceived waits tid = passes (row_of waits tid) (λ row. is_unreceived row.wait)

-- no message of the thread's own stands in a queue unless it does
abbrev pub HasOwnOnlyWaiting : PortTable → WaitTable → ℕ → Type 0
HasOwnOnlyWaiting ports waits tid = has_unreceived waits tid ≡ false → has (is_own_of tid) ports.messages ≡ false
