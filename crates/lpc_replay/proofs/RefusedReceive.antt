-- NtReplyWaitReceivePort refuses each misfit, and does nothing where it refuses.
use Rattle.std.proofs.Common.{List, [], refl, subst, ℕ, ◌≡◌}
use Rattle.std.specs.Prelude.{None, Ok, Option, Some, ◌==◌}
use Rattle.lpc_base.specs.Rows.{first}
use Rattle.lpc_base.specs.declared.birth.Birth.{Birth}
use Rattle.lpc_base.specs.declared.status.TheConstants.{PORT_DISCONNECTED, SUCCESS}
use Rattle.lpc_isolation.proofs.Each.Reply.{answered-fits}
use Rattle.lpc_model.specs.Basics.{Basic}
use Rattle.lpc_model.specs.Fields.{receipt}
use Rattle.lpc_model.specs.Found.{fitted, is_queued, live_thread, queue_of}
use Rattle.lpc_model.specs.Message.{message_test}
use Rattle.lpc_model.specs.Refusal.{found_or, refuse_if}
use Rattle.lpc_model.specs.Replies.{Reply, fitted_wait}
use Rattle.lpc_model.specs.Request.{reply_test, given_reply, is_spent, nt_reply_wait_receive_port, optional_message, receive_steps, receive_test}
use Rattle.lpc_model.specs.Tests.{port_test}
use Rattle.lpc_model.specs.World.{MessageRow, PortRow, ThreadRow, WaitRow, World}
use Rattle.lpc_model.specs.declared.entry.CallName.TheVariants.{NtReplyWaitReceivePort}
use Rattle.lpc_model.specs.declared.entry.Entry.TheVariants.{Answer, Waits}
use Rattle.lpc_model.specs.declared.message.Message.{Message}
use Rattle.lpc_model.proofs.Calls.Holding.{Holds, bind_holds, holds_ok}
use Rattle.lpc_replay.proofs.Failing.{Ends, Fails, bind_ends, found_fails, message_fails, port_fails, refuse_fails}
use Rattle.lpc_replay.proofs.FairReplies.{message_holds, optional_holds, port_holds}
use Rattle.lpc_replay.proofs.Misfits.{OneRefusal, StaysWhereRefused, answered_fails, no_fit, no_success}

optional_fails : (bytes : List ℕ) → Fails (optional_message (Some bytes))
optional_fails bytes = bind_ends (message_test bytes) _ (λ (o : Option Message). Unit {0}) (message_fails bytes) (λ _ _. tt)

receive_fails : (w : World) (port : PortRow) → Fails (receive_test w port)
receive_fails w port =
    let P : Birth → Type 0 = λ _. Unit {0} in
    bind_ends (found_or (queue_of w port) PORT_DISCONNECTED) _ P (found_fails (queue_of w port) PORT_DISCONNECTED refl) (λ queue _.
    bind_ends (refuse_if (is_spent w port queue) PORT_DISCONNECTED) _ P (refuse_fails (is_spent w port queue) PORT_DISCONNECTED refl) (λ _ _. tt))

given_fails : (w : World) (port : PortRow) (o : Option Message) → Fails (given_reply w port o)
given_fails w port None = tt
given_fails w port (Some m) = bind_ends (reply_test w port m) _ (λ (bs : List Basic). Unit {0}) (answered_fails w port m) (λ _ _. tt)

-- the reply that a receive makes first fits, so a misfit makes none
made_fits : (w : World) (port : PortRow) (m : Message) → Holds (λ (bs : List Basic). (x : WaitRow) × (fitted w port.birth m ≡ Some x)) (given_reply w port (Some m))
made_fits w port m =
    bind_holds (reply_test w port m) _ (λ (bs : List Basic). (x : WaitRow) × (fitted w port.birth m ≡ Some x)) (λ x fit.
    (x, holds_ok _ (reply_test w port m) x (answered-fits w port m) fit))

no_made : (w : World) (r : Reply) (by : ThreadRow) (port : PortRow) (o : Option Message) (bs : List Basic) → live_thread w r.by ≡ Some by → port_test w by r.handle ≡ Ok port → optional_message (Some r.bytes) ≡ Ok o → fitted_wait w r ≡ None → given_reply w port o ≡ Ok bs → ⊥
no_made w r by port o bs live at is misfit made =
    let read = holds_ok _ (optional_message (Some r.bytes)) o (optional_holds r.bytes) is in
    let m = read.0 in
    let made' = subst (λ o. given_reply w port o ≡ Ok bs) read.1 made in
    let fit = holds_ok _ (given_reply w port (Some m)) bs (made_fits w port m) made' in
    no_fit w r by port.birth m fit.0 live (holds_ok _ _ port (port_holds w by r.handle) at) (holds_ok _ _ m (message_holds r.by r.handle r.bytes) read.2) misfit fit.1

pub receive_misfits : (w : World) (r : Reply) (by : ThreadRow) → live_thread w r.by ≡ Some by → fitted_wait w r ≡ None → Ends (OneRefusal r.by) (nt_reply_wait_receive_port w by r.handle (Some r.bytes))
unfolding nt_reply_wait_receive_port
receive_misfits w r by live misfit =
    let P = OneRefusal r.by in
    bind_ends (port_test w by r.handle) _ P (port_fails w by r.handle) (λ port at.
    bind_ends (optional_message (Some r.bytes)) _ P (optional_fails r.bytes) (λ o is.
    bind_ends (receive_test w port) _ P (receive_fails w port) (λ queue _.
    bind_ends (given_reply w port o) _ P (given_fails w port o) (λ bs made.
    absurd (no_made w r by port o bs live at is misfit made)))))

-- the caller's own entry of a receive comes first, and it is no refusal
made_receive : (tid : ℕ) (by : ThreadRow) (port : PortRow) (queue : Birth) (bs : List Basic) (o : Option MessageRow) → StaysWhereRefused tid (receive_steps by port queue bs o)
made_receive tid by port queue bs (Some m) later r =
    let same : r.own ≡ Answer by.number NtReplyWaitReceivePort SUCCESS (receipt m) = cc in
    absurd (no_success (by.number == tid) (rw same at r.refusal))
made_receive tid by port queue bs None later r =
    let same : r.own ≡ Waits by.number NtReplyWaitReceivePort [] = cc in
    let none = rw same at r.refusal in
    absurd (cc)

pub receive_stays : (w : World) (tid : ℕ) (by : ThreadRow) (handle : ℕ) (bytes : Option (List ℕ)) → Holds (StaysWhereRefused tid) (nt_reply_wait_receive_port w by handle bytes)
unfolding nt_reply_wait_receive_port
receive_stays w tid by handle bytes =
    let P = StaysWhereRefused tid in
    bind_holds (port_test w by handle) _ P (λ port _.
    bind_holds (optional_message bytes) _ P (λ o _.
    bind_holds (receive_test w port) _ P (λ queue _.
    bind_holds (given_reply w port o) _ P (λ bs _. made_receive tid by port queue bs (first (is_queued queue) w.messages)))))
