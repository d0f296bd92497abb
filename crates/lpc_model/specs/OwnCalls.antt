-- Waits and their calls: a thread waits in the call of its wait's kind.
use Rattle.std.specs.Prelude.{◌≡◌, ℕ, Bool, true, false, List}
use Rattle.std.specs.List.{AllByRecursion}
use Rattle.lpc_base.specs.Rows.{every}
use Rattle.lpc_model.specs.declared.entry.CallName.TheVariants.{NtConnectPort, NtListenPort, NtReplyWaitReceivePort, NtRequestWaitReplyPort, Raise}
use Rattle.lpc_model.specs.World.{Accepted, CallName, Connect, Event, Listen, Receive, Request, WaitKind, WaitRow, World}
use Rattle.lpc_model.specs.Run.{run_of}

-- a wait of the kind is made in this call
abbrev pub is_kind_of : CallName → WaitKind → Bool
is_kind_of NtRequestWaitReplyPort (Request m) = true
is_kind_of NtReplyWaitReceivePort Receive = true
is_kind_of NtListenPort Listen = true
is_kind_of NtConnectPort (Connect m offer) = true
is_kind_of NtConnectPort (Accepted m a) = true
is_kind_of Raise (Event r) = true
is_kind_of call kind = false

-- a thread waits in the call of its wait's kind
abbrev pub waits_in_call : WaitRow → Bool
waits_in_call x = is_kind_of x.call x.kind

-- each does
abbrev pub HasOwnCalls : World → Type 0
HasOwnCalls w = every waits_in_call w.waits ≡ true

-- so behind each line of a script
abbrev pub RunHasOwnCalls : List ℕ → Type 0
RunHasOwnCalls bytes = AllByRecursion (λ s. HasOwnCalls s.world) (run_of bytes)
