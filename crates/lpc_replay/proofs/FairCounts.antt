-- What NtDuplicateObject, NtQueryObject, NtCreateProcess and NtCreateThread tell is right.
use Rattle.std.proofs.Common.{ℕ}
use Rattle.std.specs.Prelude.{Option}
use Rattle.lpc_model.specs.Counts.{asked, nt_duplicate_object, nt_query_object, rights_test}
use Rattle.lpc_model.specs.Lines.{ScriptLine}
use Rattle.lpc_model.specs.Tests.{handles_test, own_handle}
use Rattle.lpc_model.specs.World.{ThreadRow, World}
use Rattle.lpc_model.proofs.Calls.Holding.{Holds, bind_holds}
use Rattle.lpc_model.specs.Creation.{nt_create_process, nt_create_thread}
use Rattle.lpc_model.specs.declared.line.ProcArg.{ProcArg}
use Rattle.lpc_model.proofs.Calls.Creating.{process-made, thread-made}
use Rattle.lpc_replay.proofs.Fair.{AreFair}

pub duplicate_fair : (w : World) (line : ScriptLine) (by : ThreadRow) (handle : ℕ) (access : Option ℕ) → Holds (AreFair w line) (nt_duplicate_object w by handle access)
unfolding nt_duplicate_object
duplicate_fair w line by handle access =
    let P = AreFair w line in
    bind_holds (own_handle w by handle) _ P (λ r _.
    bind_holds (rights_test r (asked r access)) _ P (λ _ _.
    bind_holds (handles_test w by.process 1) _ P (λ _ _. ((tt, tt), (tt, tt)))))

pub query_fair : (w : World) (line : ScriptLine) (by : ThreadRow) (handle : ℕ) → Holds (AreFair w line) (nt_query_object w by handle)
unfolding nt_query_object
query_fair w line by handle = bind_holds (own_handle w by handle) _ (AreFair w line) (λ r _. ((tt, tt), tt))

-- of NtCreateProcess and NtCreateThread
pub create_process_fair : (w : World) (line : ScriptLine) (by : ThreadRow) (pid tid : ℕ) → Holds (AreFair w line) (nt_create_process w by pid tid)
create_process_fair w line by pid tid = process-made (AreFair w line) w by pid tid (λ _ _. ((tt, tt), (tt, (tt, (tt, (tt, (tt, (tt, tt))))))))

pub create_thread_fair : (w : World) (line : ScriptLine) (by : ThreadRow) (target : ProcArg) (tid : ℕ) → Holds (AreFair w line) (nt_create_thread w by target tid)
create_thread_fair w line by target tid = thread-made (AreFair w line) w by target tid (λ pid _ _. ((tt, tt), (tt, (tt, (tt, tt)))))
