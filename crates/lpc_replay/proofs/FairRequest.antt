-- What NtRequestWaitReplyPort tells is right: at once it is refused, or waits.
use Rattle.std.proofs.Common.{List, refl, ℕ}
use Rattle.lpc_base.specs.declared.status.TheConstants.{PORT_DISCONNECTED}
use Rattle.lpc_message.specs.declared.kind.TheConstants.{REQUEST}
use Rattle.lpc_model.specs.Basics.{Basic}
use Rattle.lpc_model.specs.Entering.{row_of}
use Rattle.lpc_model.specs.Found.{route}
use Rattle.lpc_model.specs.Lines.{ScriptLine}
use Rattle.lpc_model.specs.Message.{message_test}
use Rattle.lpc_model.specs.Refusal.{found_or}
use Rattle.lpc_model.specs.Request.{Sendable, nt_request_wait_reply_port, request_start, send_test, sent_by}
use Rattle.lpc_model.specs.Tests.{port_test}
use Rattle.lpc_model.specs.World.{ThreadRow, World}
use Rattle.lpc_model.proofs.Calls.Holding.{Holds, bind_holds}
use Rattle.lpc_replay.proofs.Failing.{Fails, bind_ends, found_fails, message_fails, port_fails}
use Rattle.lpc_replay.proofs.Fair.{AreFair, HaveTheirCalls, sent_fair}

send_fails : (w : World) (by : ThreadRow) (handle : ℕ) (bytes : List ℕ) → Fails (send_test w by handle bytes)
send_fails w by handle bytes =
    let P : Sendable → Type 0 = λ _. Unit {0} in
    bind_ends (port_test w by handle) _ P (port_fails w by handle) (λ port _.
    bind_ends (message_test bytes) _ P (message_fails bytes) (λ m _.
    bind_ends (found_or (route w port) PORT_DISCONNECTED) _ P (found_fails (route w port) PORT_DISCONNECTED refl) (λ queue _. tt)))

pub request_fails : (w : World) (by : ThreadRow) (handle : ℕ) (bytes : List ℕ) → Fails (nt_request_wait_reply_port w by handle bytes)
unfolding nt_request_wait_reply_port
request_fails w by handle bytes = bind_ends (send_test w by handle bytes) _ (λ (bs : List Basic). Unit {0}) (send_fails w by handle bytes) (λ s _. tt)

pub request_fair : (w : World) (line : ScriptLine) (by : ThreadRow) (handle : ℕ) (bytes : List ℕ) → HaveTheirCalls w → Holds (AreFair w line) (nt_request_wait_reply_port w by handle bytes)
unfolding nt_request_wait_reply_port
request_fair w line by handle bytes h =
    bind_holds (send_test w by handle bytes) _ (AreFair w line) (λ s _.
    let m = sent_by by REQUEST s.message in
    sent_fair w line (row_of s.queue s.port m) (request_start by s.port.birth s.queue m) h ((tt, tt), (tt, (refl, tt))))
