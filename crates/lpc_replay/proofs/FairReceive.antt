-- What NtReplyWaitReceivePort tells is right: a request wakes by the reply that it makes first.
use Rattle.std.proofs.Common.{List, [], refl, subst, sym, ℕ, ◌∷◌, ◌≡◌}
use Rattle.std.specs.Prelude.{None, Ok, Option, Some}
use Rattle.lpc_base.specs.Rows.{first}
use Rattle.lpc_base.specs.declared.birth.Birth.{Birth}
use Rattle.lpc_model.specs.Basics.{Awaits, Basic}
use Rattle.lpc_model.specs.Entering.{take_steps}
use Rattle.lpc_model.specs.Found.{is_queued, live_thread}
use Rattle.lpc_model.specs.Lines.{ScriptLine, reply_wait_receive_port, run}
use Rattle.lpc_model.specs.Message.{message_test}
use Rattle.lpc_model.specs.Replies.{Reply, reply_of}
use Rattle.lpc_model.specs.Request.{reply_test, given_reply, nt_reply_wait_receive_port, optional_message, receive_steps, receive_test, receive_wait}
use Rattle.lpc_model.specs.Tests.{port_test}
use Rattle.lpc_model.specs.World.{MessageRow, PortRow, ThreadRow, World}
use Rattle.lpc_model.specs.declared.message.Message.{Message}
use Rattle.lpc_model.proofs.GivenBytes.{HasHeader, HasBytes}
use Rattle.lpc_model.proofs.Calls.Holding.{Holds, bind_holds, holds_ok}
use Rattle.lpc_replay.proofs.Fair.{AreFair, HaveTheirCalls, IsFair, take_fair}
use Rattle.lpc_replay.proofs.FairReplies.{optional_holds, returned_fair}
use Rattle.lpc_replay.proofs.Holding.{all_append}

-- a receive wakes none beyond the reply that it makes first
receive_fair : (w : World) (line : ScriptLine) (by : ThreadRow) (port : PortRow) (queue : Birth) (bs : List Basic) (o : Option MessageRow) → AreFair w line bs → AreFair w line (receive_steps by port queue bs o)
receive_fair w line by port queue bs None fair = ((tt, tt), all_append (IsFair w line) bs (Awaits (receive_wait by port.birth queue) ∷ []) fair (refl, tt))
receive_fair w line by port queue bs (Some m) fair = ((tt, tt), all_append (IsFair w line) bs (take_steps m) fair (take_fair w line m))

-- the reply that a receive makes first
given_message_fair : (w : World) (line : ScriptLine) (r : Reply) (by : ThreadRow) (port : PortRow) (m : Message) → HaveTheirCalls w → reply_of line ≡ Some r → HasHeader r.bytes → live_thread w r.by ≡ Some by → port_test w by r.handle ≡ Ok port → message_test r.bytes ≡ Ok m → Holds (AreFair w line) (given_reply w port (Some m))
given_message_fair w line r by port m h is_reply are live at is =
    bind_holds (reply_test w port m) _ (AreFair w line) (λ x fit.
    (holds_ok _ (reply_test w port m) x (returned_fair w line r by port m h is_reply are live at is) fit, tt))

given_reply_fair : (w : World) (tid : ℕ) (by : ThreadRow) (handle : ℕ) (bytes : Option (List ℕ)) (port : PortRow) (o : Option Message) → HasBytes (reply_wait_receive_port handle bytes) → HaveTheirCalls w → live_thread w tid ≡ Some by → port_test w by handle ≡ Ok port → optional_message bytes ≡ Ok o → Holds (AreFair w (run tid (reply_wait_receive_port handle bytes))) (given_reply w port o)
given_reply_fair w tid by handle None port None are h live at is = tt
given_reply_fair w tid by handle None port (Some m) are h live at is = absurd (cc)
given_reply_fair w tid by handle (Some bytes) port o are h live at is =
    let line = run tid (reply_wait_receive_port handle (Some bytes)) in
    let r : Reply = record { by = tid; handle = handle; bytes = bytes } in
    let read = holds_ok _ (optional_message (Some bytes)) o (optional_holds bytes) is in
    subst (λ o. Holds (AreFair w line) (given_reply w port o)) (sym read.1) (given_message_fair w line r by port read.0 h refl are live at read.2)

pub receiving_fair : (w : World) (tid : ℕ) (by : ThreadRow) (handle : ℕ) (bytes : Option (List ℕ)) → HasBytes (reply_wait_receive_port handle bytes) → live_thread w tid ≡ Some by → HaveTheirCalls w → Holds (AreFair w (run tid (reply_wait_receive_port handle bytes))) (nt_reply_wait_receive_port w by handle bytes)
unfolding nt_reply_wait_receive_port
receiving_fair w tid by handle bytes are live h =
    let line = run tid (reply_wait_receive_port handle bytes) in
    let P = AreFair w line in
    bind_holds (port_test w by handle) _ P (λ port at.
    bind_holds (optional_message bytes) _ P (λ o is.
    bind_holds (receive_test w port) _ P (λ queue _.
    bind_holds (given_reply w port o) _ P (λ bs made.
    receive_fair w line by port queue bs (first (is_queued queue) w.messages)
    (holds_ok P (given_reply w port o) bs (given_reply_fair w tid by handle bytes port o are h live at is) made)))))
