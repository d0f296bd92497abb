-- Replies leave sound waits behind, and so do receives, which may reply first.
use Rattle.lpc_base.proofs.Births.{birth-same, births-apart}
use Rattle.lpc_base.proofs.RowWords.{first-passes, has_none-more}
use Rattle.lpc_base.specs.Rows.{every, first, has, passes, without}
use Rattle.lpc_base.specs.declared.status.TheConstants.{DBG_CONTINUE, REPLY_MESSAGE_MISMATCH, SUCCESS}
use Rattle.lpc_model.proofs.Calls.Holding.{Holds, bind_holds, found_holds, holds_ok}
use Rattle.lpc_model.proofs.Steps.Rows.{first-less, has-none}
use Rattle.lpc_model.proofs.Sound.Basics.{sound-awaits, sound-wakes-quiet}
use Rattle.lpc_model.proofs.Sound.Calls.{LeaveSound}
use Rattle.lpc_model.proofs.Sound.Pairs.{is_quiet}
use Rattle.lpc_model.proofs.Sound.Queues.{lone-quiet, sound-take}
use Rattle.lpc_model.proofs.Sound.Worlds.{by_kind, is_sure}
use Rattle.lpc_model.proofs.Steps.InTurn.{after-append}
use Rattle.lpc_model.proofs.Calls.Tested.{CanWait}
use Rattle.lpc_model.proofs.Calls.Usable.{CanCall}
use Rattle.lpc_model.specs.Basics.{Awaits, Basic, Marks, Wakes, basic, world_after}
use Rattle.lpc_model.specs.Entering.{take_steps, takes, woken}
use Rattle.lpc_base.specs.declared.status.Status.{Status}
use Rattle.lpc_model.specs.declared.entry.Field.{Field}
use Rattle.lpc_model.proofs.Sound.Less.{less-marks}
use Rattle.std.specs.Prelude.{if◌then◌else◌}
use Rattle.lpc_model.specs.Fields.{msg}
use Rattle.lpc_model.specs.Found.{fits, fitted, is_accepted, is_asking, is_mark, is_open, is_queued, port_row, same_birth, wait_of, waits_as, is_event}
use Rattle.lpc_model.specs.Message.{as_reply}
use Rattle.lpc_model.specs.Request.{given_reply, receive_steps, receive_wait, reply, reply_test, handles_event}
use Rattle.lpc_model.specs.SoundWaits.{IsSoundWorld, is_joined}
use Rattle.lpc_model.specs.Tests.{client_of, client_test, is_client}
use Rattle.lpc_model.specs.World.{Birth, Message, MessageRow, PortRow, ThreadRow, WaitRow, World}
use Rattle.std.proofs.Common.{Bool, List, [], ap, arith, false, not, refl, subst, sym, true, ℕ, ◌++◌, ◌∷◌, ◌≡◌}
use Rattle.std.specs.Prelude.{None, Ok, Option, Some, ◌&&◌}

-- Replies
-- the request that a reply answers is no accepted connect
asking-quiet : (x : WaitRow) → is_asking x ≡ true → not (is_accepted x) ≡ true
asking-quiet = by_kind (λ x. is_asking x ≡ true → not (is_accepted x) ≡ true) (λ x m is. refl) (λ x is. refl) (λ x is. refl) (λ x m offer is. refl) (λ x m reply is. absurd (cc)) (λ x m is. refl)

pub fits-asking : (w : World) (port : Birth) (m : Message) (x : WaitRow) → fits w port m x ≡ true → is_asking x ≡ true
fits-asking w port m x is = grind arith

answered-quiet : (w : World) (port : PortRow) (m : Message) → IsSoundWorld w → Holds (λ (x : WaitRow). every (is_quiet x.thread) w.waits ≡ true) (reply_test w port m)
answered-quiet w port m s =
    let P : WaitRow → Type 0 = λ x. every (is_quiet x.thread) w.waits ≡ true in
    bind_holds (client_test w m.header.client) _ P (λ _ _.
    found_holds P (fitted w port.birth m) REPLY_MESSAGE_MISMATCH (λ x at.
    lone-quiet w.waits (fits w port.birth m) x s.once at (asking-quiet x (fits-asking w port.birth m x (first-passes (fits w port.birth m) w.waits x at)))))

-- a reply wakes its thread, or marks its event
pub reply-holds : (P : Basic → Type 0) (x : WaitRow) (m : Message) → ((status : Status) (fields : List Field) → P (Wakes x.thread x.call status fields)) → P (Marks x.thread) → P (reply x m)
reply-holds P x m wakes marks =
    by_kind (λ x. ((status : Status) (fields : List Field) → P (Wakes x.thread x.call status fields)) → P (Marks x.thread) → P (reply x m))
    (λ x r wakes marks. wakes _ _) (λ x wakes marks. wakes _ _) (λ x wakes marks. wakes _ _) (λ x r offer wakes marks. wakes _ _) (λ x r given wakes marks. wakes _ _)
    (λ x r wakes marks. at x (handles_event m) wakes marks) x wakes marks
  where
    at : (x : WaitRow) (h : Bool) → ((status : Status) (fields : List Field) → P (Wakes x.thread x.call status fields)) → P (Marks x.thread) → P (if h then woken DBG_CONTINUE [] x else Marks x.thread)
    at x true wakes marks = wakes _ _
    at x false wakes marks = marks

pub reply-cases : (P : Basic → Type 0) (x : WaitRow) (m : Message) → P (woken SUCCESS (msg (as_reply m) ∷ []) x) → P (woken DBG_CONTINUE [] x) → (is_event x ≡ true → P (Marks x.thread)) → P (reply x m)
reply-cases P x m request event marks =
    by_kind (λ x. P (woken SUCCESS (msg (as_reply m) ∷ []) x) → P (woken DBG_CONTINUE [] x) → (is_event x ≡ true → P (Marks x.thread)) → P (reply x m))
    (λ x r one two three. one) (λ x one two three. one) (λ x one two three. one) (λ x r offer one two three. one) (λ x r given one two three. one) (λ x r one two three. at x (handles_event m) two (three refl)) x request event marks
  where
    at : (x : WaitRow) (h : Bool) → P (woken DBG_CONTINUE [] x) → P (Marks x.thread) → P (if h then woken DBG_CONTINUE [] x else Marks x.thread)
    at x true two three = two
    at x false two three = three

pub replied-sound : (w : World) (port : PortRow) (m : Message) (x : WaitRow) → reply_test w port m ≡ Ok x → IsSoundWorld w → IsSoundWorld (basic w (reply x m))
replied-sound w port m x at s = reply-holds (λ b. IsSoundWorld (basic w b)) x m (λ status fields. sound-wakes-quiet w x.thread x.call status fields quiet s) marks
  where
    quiet : every (is_quiet x.thread) w.waits ≡ true
    quiet = holds_ok (λ (x : WaitRow). every (is_quiet x.thread) w.waits ≡ true) (reply_test w port m) x (answered-quiet w port m s) at

    marks : IsSoundWorld (basic w (Marks x.thread))
    marks = let less = less-marks w x.thread s in less.sound

-- Receives
-- what a reply that is made first leaves: some waits and marks, and all else as it was
pub record IsReplied (w : World) (bs : List Basic) : Type 0 where
  pub waits : List WaitRow
  pub marks : List ℕ
  pub world : world_after w bs ≡ record w { waits = waits; marks = marks }
  pub idle : (tid : ℕ) → wait_of w tid ≡ None → first (waits_as tid) waits ≡ None
  pub sound : LeaveSound w bs

pub replied : (w : World) (port : PortRow) (o : Option Message) → IsSoundWorld w → Holds (IsReplied w) (given_reply w port o)
replied w port None s = record { waits = w.waits; marks = w.marks; world = refl; idle = λ tid none. none; sound = s }
replied w port (Some m) s =
    bind_holds (reply_test w port m) _ (IsReplied w) (λ x at.
    reply-holds (λ b. IsSoundWorld (basic w b) → IsReplied w (b ∷ [])) x m
    (λ status fields sound. record { waits = without (waits_as x.thread) w.waits; marks = without (is_mark x.thread) w.marks; world = refl; idle = λ tid none. first-less (waits_as tid) (waits_as x.thread) w.waits none; sound = sound })
    (λ sound. record { waits = w.waits; marks = w.marks ++ x.thread ∷ []; world = refl; idle = λ tid none. none; sound = sound })
    (replied-sound w port m x at s))

-- the new wait is sound where nothing stands in its queue
receive-parts : (c o q h j : Bool) → c ≡ true → o ≡ true → q ≡ true → h ≡ false → j ≡ true → ((c && (o && (q && (not h && j)))) && true) ≡ true
receive-parts c o q h j one two three four five = grind arith

-- it takes nothing of another queue
not-taken : (by : ThreadRow) (port queue : Birth) (m : MessageRow) → same_birth queue m.queue ≡ false → takes m (receive_wait by port queue) ≡ false
not-taken by port queue m off = grind arith

receive-sure : (w : World) (by : ThreadRow) (port : PortRow) (queue : Birth) → is_client w (client_of by) ≡ true → CanWait w port queue → first (is_queued queue) w.messages ≡ None → is_sure w (receive_wait by port.birth queue) ≡ true
receive-sure w by port queue client c none =
    let x = receive_wait by port.birth queue in
    let nothing = has_none-more (is_queued queue) (λ m. takes m x) (λ m off. not-taken by port.birth queue m (births-apart m.queue queue off)) w.messages (has-none (is_queued queue) w.messages none) in
    let joined : passes (port_row w port.birth) is_joined ≡ true = rw c.usable.stands (c.unspent none) in
    receive-parts (is_client w (client_of by)) (is_open w port.birth) (is_open w queue) (has (λ m. takes m x) w.messages) (passes (port_row w port.birth) is_joined)
    client c.usable.opens c.opens nothing joined

pub received-sound : (w : World) (by : ThreadRow) (port : PortRow) (queue : Birth) (bs : List Basic) (m : MessageRow) → first (is_queued queue) w.messages ≡ Some m → IsReplied w bs → LeaveSound w (receive_steps by port queue bs (Some m))
received-sound w by port queue bs m at r =
    let same : queue ≡ m.queue = sym (birth-same m.queue queue (first-passes (is_queued queue) w.messages m at)) in
    let oldest = subst (λ q. first (is_queued q) w.messages ≡ Some m) same at in
    let taken = sound-take (world_after w bs) m (rw (ap (λ v. v.messages) r.world) oldest) r.sound in
    rw (after-append w bs (take_steps m)) taken

pub receiving-sound : (w : World) (by : ThreadRow) (port : PortRow) (queue : Birth) (bs : List Basic) → first (is_queued queue) w.messages ≡ None → CanCall w by → CanWait w port queue → IsReplied w bs → LeaveSound w (receive_steps by port queue bs None)
receiving-sound w by port queue bs at can c r =
    let x = receive_wait by port.birth queue in
    let sure = subst (λ v. is_sure v x ≡ true) (sym r.world) (receive-sure w by port queue can.client c at) in
    let idle : wait_of (world_after w bs) by.number ≡ None = rw r.world (r.idle by.number can.idle) in
    rw (after-append w bs (Awaits x ∷ [])) (sound-awaits (world_after w bs) x sure idle refl r.sound)
