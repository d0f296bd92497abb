-- What the calls on the ranges of a request tell is right: they end no wait, and none of them is about a connect.
use Rattle.std.proofs.Common.{List, ℕ}
use Rattle.std.specs.Prelude.{length, not}
use Rattle.lpc_base.specs.declared.status.TheConstants.{ACCESS_VIOLATION}
use Rattle.lpc_model.specs.Lines.{ScriptLine}
use Rattle.lpc_model.specs.Ranges.{described_test, nt_read_request_data, nt_write_request_data}
use Rattle.lpc_model.specs.Refusal.{refuse_if}
use Rattle.lpc_model.specs.World.{ThreadRow, World}
use Rattle.lpc_model.proofs.Calls.Holding.{Holds, bind_holds}
use Rattle.lpc_replay.proofs.Fair.{AreFair}

pub read_range_fair : (w : World) (line : ScriptLine) (by : ThreadRow) (handle : ℕ) (bytes : List ℕ) (index n : ℕ) → Holds (AreFair w line) (nt_read_request_data w by handle bytes index n)
unfolding nt_read_request_data
read_range_fair w line by handle bytes index n = bind_holds (described_test w by handle bytes index n) _ (AreFair w line) (λ _ _. ((tt, tt), tt))

pub write_range_fair : (w : World) (line : ScriptLine) (by : ThreadRow) (handle : ℕ) (bytes : List ℕ) (index : ℕ) (new : List ℕ) → Holds (AreFair w line) (nt_write_request_data w by handle bytes index new)
unfolding nt_write_request_data
write_range_fair w line by handle bytes index new =
    let P = AreFair w line in
    bind_holds (described_test w by handle bytes index (length new)) _ P (λ d _.
    bind_holds (refuse_if (not d.view.writable) ACCESS_VIOLATION) _ P (λ _ _. ((tt, tt), (tt, tt))))
