-- A reply that isn't refused is that of its reply call, and returns its bytes.
use Rattle.std.proofs.Common.{Bool, List, [], ap, false, refl, subst, true, ℕ, ◌∙◌, ◌∷◌, ◌≡◌}
use Rattle.std.specs.Prelude.{None, Ok, Option, Some, is_some, nat_lt, not, option_and_then, if◌then◌else◌, ◌||◌}
use Rattle.lpc_base.proofs.RowWords.{first-passes}
use Rattle.lpc_base.proofs.Births.{birth-same}
use Rattle.lpc_base.specs.declared.birth.Birth.{Birth}
use Rattle.lpc_base.specs.declared.limits.TheConstants.{MESSAGE_LIMIT}
use Rattle.lpc_base.specs.declared.status.TheConstants.{ACCESS_DENIED, DBG_CONTINUE, INVALID_HANDLE, INVALID_PARAMETER, OBJECT_TYPE_MISMATCH, PORT_MESSAGE_TOO_LONG, REPLY_MESSAGE_MISMATCH, SUCCESS}
use Rattle.lpc_message.specs.Layout.{fault_of, header_of}
use Rattle.lpc_model.specs.Fields.{msg}
use Rattle.lpc_model.specs.Found.{fits, fitted, handle_at, is_event, is_port, is_request, live_thread, port_row, same_kind}
use Rattle.lpc_model.specs.Lines.{ScriptLine}
use Rattle.lpc_model.specs.Message.{as_reply, bytes_of, message_of, message_test}
use Rattle.lpc_model.specs.Refusal.{refuse_if}
use Rattle.lpc_model.specs.Replies.{IsContinuedBy, IsReturnedBy, Reply, as_returned, message_in, port_named_by, port_of, reply_of}
use Rattle.lpc_model.specs.Basics.{Basic, Marks}
use Rattle.lpc_model.specs.Entering.{woken}
use Rattle.lpc_model.specs.Request.{handles_event, optional_message, reply, reply_test}
use Rattle.lpc_model.specs.Tests.{PORT_RIGHT, client_test, includes, object_test, own_handle, port_test}
use Rattle.lpc_model.specs.World.{HandleRow, PortRow, ThreadRow, WaitRow, World}
use Rattle.lpc_model.specs.declared.entry.FieldName.TheVariants.{Msg}
use Rattle.lpc_model.specs.declared.entry.ObjectKind.TheVariants as kind
use Rattle.lpc_model.specs.declared.entry.Value.TheVariants.{Bytes}
use Rattle.lpc_model.specs.declared.message.Message.{Message}
use Rattle.lpc_model.proofs.GivenBytes.{HasHeader, written_back}
use Rattle.lpc_model.proofs.Calls.Holding.{Holds, bind_holds, found_holds, found_ok, holds_ok, not_refused}
use Rattle.lpc_model.proofs.Sound.Reply.{fits-asking}
use Rattle.lpc_model.proofs.Sound.Worlds.{by_kind}
use Rattle.lpc_replay.proofs.Fair.{HasItsCall, HaveTheirCalls, IsFair, continued_wakes, reply_wakes, request_wakes}
use Rattle.lpc_replay.proofs.Holding.{find_all, not_false}

-- the port on which a reply is made is the one that its handle names
handle_named : (h : HandleRow) (o : Option HandleRow) → o ≡ Some h → not (same_kind h.object.kind kind.Port) ≡ false → option_and_then port_of o ≡ Some h.object.birth
handle_named h o at same = rw (at, not_false (same_kind h.object.kind kind.Port) same) refl

object_holds : (w : World) (by : ThreadRow) (handle : ℕ) → Holds (λ (birth : Birth). option_and_then port_of (handle_at w by.process handle) ≡ Some birth) (object_test w by kind.Port PORT_RIGHT handle)
object_holds w by handle =
    let P : Birth → Type 0 = λ birth. option_and_then port_of (handle_at w by.process handle) ≡ Some birth in
    bind_holds (own_handle w by handle) _ P (λ h at.
    bind_holds (refuse_if (not (same_kind h.object.kind kind.Port)) OBJECT_TYPE_MISMATCH) _ P (λ u same.
    bind_holds (refuse_if (not (includes h.access PORT_RIGHT)) ACCESS_DENIED) _ P (λ _ _.
    handle_named h (handle_at w by.process handle) (found_ok _ _ h at) (not_refused _ _ u same))))

pub port_holds : (w : World) (by : ThreadRow) (handle : ℕ) → Holds (λ (port : PortRow). option_and_then port_of (handle_at w by.process handle) ≡ Some port.birth) (port_test w by handle)
port_holds w by handle =
    let P : PortRow → Type 0 = λ port. option_and_then port_of (handle_at w by.process handle) ≡ Some port.birth in
    bind_holds (object_test w by kind.Port PORT_RIGHT handle) _ P (λ birth at.
    found_holds P (port_row w birth) INVALID_HANDLE (λ port row.
    rw (birth-same port.birth birth (first-passes (is_port birth) w.ports port row)) (holds_ok _ _ birth (object_holds w by handle) at)))

pub message_holds : (tid handle : ℕ) (bytes : List ℕ) → Holds (λ m. message_in (record { by = tid; handle = handle; bytes = bytes }) ≡ Some m) (message_test bytes)
unfolding message_test
message_holds tid handle bytes =
    let P : Message → Type 0 = λ m. message_in (record { by = tid; handle = handle; bytes = bytes }) ≡ Some m in
    bind_holds (refuse_if (is_some (fault_of bytes)) INVALID_PARAMETER) _ P (λ u whole.
    bind_holds (refuse_if (nat_lt MESSAGE_LIMIT (header_of bytes).message_size) PORT_MESSAGE_TOO_LONG) _ P (λ _ _.
    rw (not_refused _ _ u whole) refl))

-- a message that is given is what its test finds
pub optional_holds : (bytes : List ℕ) → Holds (λ o. (m : Message) × (o ≡ Some m) × (message_test bytes ≡ Ok m)) (optional_message (Some bytes))
optional_holds bytes = bind_holds (message_test bytes) _ (λ o. (m : Message) × (o ≡ Some m) × (message_test bytes ≡ Ok m)) (λ m is. (m, refl, is))

-- a reply that isn't refused fits a wait
none_is : {A : Type 0} (o : Option A) → is_some o ≡ false → o ≡ None
none_is None h = refl
none_is (Some x) h = absurd (cc)

-- what the test of a message finds is what its bytes say
read_holds : (bytes : List ℕ) → Holds (λ m. (m ≡ message_of bytes) × (fault_of bytes ≡ None)) (message_test bytes)
unfolding message_test
read_holds bytes =
    let P : Message → Type 0 = λ m. (m ≡ message_of bytes) × (fault_of bytes ≡ None) in
    bind_holds (refuse_if (is_some (fault_of bytes)) INVALID_PARAMETER) _ P (λ u whole.
    bind_holds (refuse_if (nat_lt MESSAGE_LIMIT (header_of bytes).message_size) PORT_MESSAGE_TOO_LONG) _ P (λ _ _.
    (refl, none_is (fault_of bytes) (not_refused _ _ u whole))))

-- and its bytes are those that were given
pub bytes_again : (bytes : List ℕ) (m : Message) → HasHeader bytes → message_test bytes ≡ Ok m → bytes_of m ≡ bytes
bytes_again bytes m are is =
    let read = holds_ok _ (message_test bytes) m (read_holds bytes) is in
    ap bytes_of read.0 ∙ written_back bytes are read.1

-- what a reply shows is its own bytes
shows_own : (bytes : List ℕ) (m : Message) → bytes_of m ≡ bytes → msg (as_reply m) ∷ [] ≡ record { name = Msg; value = Bytes (record { items = as_returned bytes }) } ∷ []
unfolding bytes_of
shows_own bytes m same = subst (λ own. msg (as_reply m) ∷ [] ≡ record { name = Msg; value = Bytes (record { items = as_returned own }) } ∷ []) same refl

-- a reply wakes a request, or an event that it handles, and else it marks the event
module _ (P : Basic → Type 0) (m : Message) where
  abbrev AsReplied : WaitRow → Type 0
  AsReplied x =
      (is_request x || is_event x) ≡ true → (is_request x ≡ true → P (woken SUCCESS (msg (as_reply m) ∷ []) x)) → (is_event x ≡ true → handles_event m ≡ true → P (woken DBG_CONTINUE [] x)) → P (Marks x.thread) → P (reply x m)

  by_word : (x : WaitRow) (handles : Bool) → (handles ≡ true → P (woken DBG_CONTINUE [] x)) → P (Marks x.thread) → P (if handles then woken DBG_CONTINUE [] x else Marks x.thread)
  by_word x true two three = two refl
  by_word x false two three = three

  by_asking : (x : WaitRow) → AsReplied x
  by_asking =
      by_kind AsReplied (λ x n is one two three. one refl)
      (λ x is. absurd (cc)) (λ x is. absurd (cc)) (λ x n offer is. absurd (cc)) (λ x n a is. absurd (cc))
      (λ x r is one two three. by_word x (handles_event m) (two refl) three)

-- a reply that a line makes is that of its reply call
pub returned_fair : (w : World) (line : ScriptLine) (r : Reply) (by : ThreadRow) (port : PortRow) (m : Message) → HaveTheirCalls w → reply_of line ≡ Some r → HasHeader r.bytes → live_thread w r.by ≡ Some by → port_test w by r.handle ≡ Ok port → message_test r.bytes ≡ Ok m → Holds (λ x. IsFair w line (reply x m)) (reply_test w port m)
returned_fair w line r by port m h is_reply are live at is =
    let P : WaitRow → Type 0 = λ x. IsFair w line (reply x m) in
    bind_holds (client_test w m.header.client) _ P (λ _ _.
    found_holds P (fitted w port.birth m) REPLY_MESSAGE_MISMATCH (λ x fit.
    let passes = first-passes (fits w port.birth m) w.waits x fit in
    let its_call = find_all HasItsCall (fits w port.birth m) w.waits x h fit in
    let fields = msg (as_reply m) ∷ [] in
    by_asking (IsFair w line) m x (fits-asking w port.birth m x passes)
    (λ asks. (reply_wakes w line x fields asks its_call (returned x fit), request_wakes w line x SUCCESS fields asks its_call))
    (λ event handles. continued_wakes w line x event its_call (continued x fit handles))
    tt))
  where
    named : port_named_by w r ≡ Some port.birth
    named = rw live (holds_ok _ (port_test w by r.handle) port (port_holds w by r.handle) at)

    read : message_in r ≡ Some m
    read = holds_ok _ (message_test r.bytes) m (message_holds r.by r.handle r.bytes) is

    returned : (x : WaitRow) → fitted w port.birth m ≡ Some x → IsReturnedBy w line x.thread (msg (as_reply m) ∷ [])
    returned x fit = record {
      reply = r;
      port = port.birth;
      message = m;
      wait = x;
      is_reply = is_reply;
      names_port = named;
      is_message = read;
      fitting = fit;
      its_wait = refl;
      shows = shows_own r.bytes m (bytes_again r.bytes m are is);
    }

    continued : (x : WaitRow) → fitted w port.birth m ≡ Some x → handles_event m ≡ true → IsContinuedBy w line x.thread
    continued x fit handles = record {
      reply = r;
      port = port.birth;
      message = m;
      wait = x;
      is_reply = is_reply;
      names_port = named;
      is_message = read;
      fitting = fit;
      its_wait = refl;
      continues = handles;
    }
