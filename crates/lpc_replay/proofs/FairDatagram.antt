-- What NtRequestPort tells is right.
use Rattle.std.proofs.Common.{List, ℕ}
use Rattle.lpc_message.specs.declared.kind.TheConstants.{DATAGRAM}
use Rattle.lpc_model.specs.Entering.{row_of}
use Rattle.lpc_model.specs.Lines.{ScriptLine}
use Rattle.lpc_model.specs.Request.{datagram_send_test, datagram_start, nt_request_port, sent_by}
use Rattle.lpc_model.specs.World.{ThreadRow, World}
use Rattle.lpc_model.proofs.Calls.Holding.{Holds, bind_holds}
use Rattle.lpc_replay.proofs.Fair.{AreFair, HaveTheirCalls, sent_fair}

pub datagram_fair : (w : World) (line : ScriptLine) (by : ThreadRow) (handle : ℕ) (bytes : List ℕ) → HaveTheirCalls w → Holds (AreFair w line) (nt_request_port w by handle bytes)
unfolding nt_request_port
datagram_fair w line by handle bytes h =
    bind_holds (datagram_send_test w by handle bytes) _ (AreFair w line) (λ s _.
    sent_fair w line (row_of s.queue s.port (sent_by by DATAGRAM s.message)) (datagram_start by) h ((tt, tt), (tt, tt)))
