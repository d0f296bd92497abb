-- NtReplyPort refuses each misfit, and does nothing where it refuses.
use Rattle.std.proofs.Common.{List, [], ℕ, ◌≡◌}
use Rattle.std.specs.Prelude.{None, Some, ◌==◌}
use Rattle.lpc_base.specs.declared.status.TheConstants.{SUCCESS}
use Rattle.lpc_isolation.proofs.Each.Reply.{answered-fits}
use Rattle.lpc_model.specs.Found.{live_thread}
use Rattle.lpc_model.specs.Message.{message_test}
use Rattle.lpc_model.specs.Replies.{Reply, fitted_wait}
use Rattle.lpc_model.specs.Request.{reply_test, nt_reply_port, reply_steps}
use Rattle.lpc_model.specs.Tests.{port_test}
use Rattle.lpc_model.specs.World.{ThreadRow, WaitRow, World}
use Rattle.lpc_model.specs.declared.entry.CallName.TheVariants.{NtReplyPort}
use Rattle.lpc_model.specs.declared.entry.Entry.TheVariants.{Answer}
use Rattle.lpc_model.specs.declared.message.Message.{Message}
use Rattle.lpc_model.proofs.Calls.Holding.{Holds, bind_holds, holds_ok}
use Rattle.lpc_replay.proofs.Failing.{Ends, bind_ends, message_fails, port_fails}
use Rattle.lpc_replay.proofs.FairReplies.{message_holds, port_holds}
use Rattle.lpc_replay.proofs.Misfits.{OneRefusal, StaysWhereRefused, answered_fails, no_fit, no_success}

pub reply_misfits : (w : World) (r : Reply) (by : ThreadRow) → live_thread w r.by ≡ Some by → fitted_wait w r ≡ None → Ends (OneRefusal r.by) (nt_reply_port w by r.handle r.bytes)
unfolding nt_reply_port
reply_misfits w r by live misfit =
    let P = OneRefusal r.by in
    bind_ends (port_test w by r.handle) _ P (port_fails w by r.handle) (λ port at.
    bind_ends (message_test r.bytes) _ P (message_fails r.bytes) (λ m is.
    bind_ends (reply_test w port m) _ P (answered_fails w port m) (λ x fit.
    absurd (no_fit w r by port.birth m x live (holds_ok _ _ port (port_holds w by r.handle) at) (holds_ok _ _ m (message_holds r.by r.handle r.bytes) is) misfit (holds_ok _ _ x (answered-fits w port m) fit)))))

made_reply : (tid : ℕ) (by : ThreadRow) (x : WaitRow) (m : Message) → StaysWhereRefused tid (reply_steps by x m)
made_reply tid by x m later r =
    let same : r.own ≡ Answer by.number NtReplyPort SUCCESS [] = cc in
    absurd (no_success (by.number == tid) (rw same at r.refusal))

pub reply_stays : (w : World) (tid : ℕ) (by : ThreadRow) (handle : ℕ) (bytes : List ℕ) → Holds (StaysWhereRefused tid) (nt_reply_port w by handle bytes)
unfolding nt_reply_port
reply_stays w tid by handle bytes =
    let P = StaysWhereRefused tid in
    bind_holds (port_test w by handle) _ P (λ port _.
    bind_holds (message_test bytes) _ P (λ m _.
    bind_holds (reply_test w port m) _ P (λ x _. made_reply tid by x m)))
