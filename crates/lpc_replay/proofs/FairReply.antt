-- What NtReplyPort tells is right: a request wakes by the reply that fits it.
use Rattle.std.proofs.Common.{List, refl, ℕ, ◌≡◌}
use Rattle.std.specs.Prelude.{Some}
use Rattle.lpc_model.specs.Found.{live_thread}
use Rattle.lpc_model.specs.Lines.{reply_port, run}
use Rattle.lpc_model.specs.Message.{message_test}
use Rattle.lpc_model.specs.Replies.{Reply}
use Rattle.lpc_model.specs.Request.{reply_test, nt_reply_port}
use Rattle.lpc_model.specs.Tests.{port_test}
use Rattle.lpc_model.specs.World.{ThreadRow, World}
use Rattle.lpc_model.proofs.GivenBytes.{HasHeader}
use Rattle.lpc_model.proofs.Calls.Holding.{Holds, bind_holds, holds_ok}
use Rattle.lpc_replay.proofs.Fair.{AreFair, HaveTheirCalls}
use Rattle.lpc_replay.proofs.FairReplies.{returned_fair}

pub reply_fair : (w : World) (tid : ℕ) (by : ThreadRow) (handle : ℕ) (bytes : List ℕ) → HasHeader bytes → live_thread w tid ≡ Some by → HaveTheirCalls w → Holds (AreFair w (run tid (reply_port handle bytes))) (nt_reply_port w by handle bytes)
unfolding nt_reply_port
reply_fair w tid by handle bytes are live h =
    let line = run tid (reply_port handle bytes) in
    let r : Reply = record { by = tid; handle = handle; bytes = bytes } in
    let P = AreFair w line in
    bind_holds (port_test w by handle) _ P (λ port at.
    bind_holds (message_test bytes) _ P (λ m is.
    bind_holds (reply_test w port m) _ P (λ x fit.
    ((tt, tt), (holds_ok _ (reply_test w port m) x (returned_fair w line r by port m h refl are live at is) fit, tt)))))
