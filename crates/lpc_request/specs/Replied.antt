-- Replies, and the reply that a receive makes first.
use Rattle.std.specs.Prelude.{◌≡◌, ℕ, ◌+◌, ◌≤◌, true, false, List, [], ◌∷◌, length, Option, Some, None}
use Rattle.lpc_base.specs.Rows.{first, has}
use Rattle.lpc_base.specs.declared.limits.TheConstants.{MESSAGE_LIMIT}
use Rattle.lpc_model.specs.World.{World}
use Rattle.lpc_model.specs.Basics.{Basic}
use Rattle.lpc_model.specs.Found.{is_mark, is_queued, waits_as}
use Rattle.lpc_model.specs.Listed.{Listed}
use Rattle.lpc_model.specs.Message.{message_of}
use Rattle.lpc_model.specs.Request as request
use Rattle.lpc_model.specs.Request.{reply}
use Rattle.lpc_model.specs.declared.message.Message.{Message}
use Rattle.lpc_procs.specs.declared.rows.Caller.{Caller}
use Rattle.lpc_rows.specs.Clauses.{birth_at, port_at}
use Rattle.lpc_request.specs.declared.receive.Replied.{Replied}
use Rattle.lpc_slots.specs.declared.Key.{Key}
use Rattle.lpc_rows.specs.Does.{Took}
use Rattle.lpc_rows.specs.Kept.{Kept, has_queued}
use Rattle.lpc_rows.specs.Ready.{caller, waiter}
use Rattle.lpc_rows.specs.Callers.{shown_caller}

-- a thread's reply is answered, and made
abbrev pub Returns : ℕ → ℕ → Message → Kept → Kept → Listed → Listed → Type 0
Returns tid answered m old new before after =
    Took (request.reply_steps (caller old.rows tid) (waiter old.rows answered) m) old new before after

-- the steps of a reply that is made, none where there is none
abbrev pub replied_steps : World → Option Replied → List Basic
replied_steps w None = []
replied_steps w (Some r) = reply (waiter w r.thread) (message_of r.message.now) ∷ []

abbrev pub RepliesFirst : Option Replied → Kept → Kept → Listed → Listed → Type 0
RepliesFirst replied old new before after = Took (replied_steps old.rows replied) old new before after

-- the thread waits, no message of its own stands in a queue, and its event, if it waits with one, isn't marked; the
-- message is no longer than a message may be
abbrev pub may_be_told : World → Option Replied → Type 0
may_be_told w None = Unit {0}
may_be_told w (Some r) =
    (has (waits_as r.thread) w.waits ≡ true) × ((has_queued w r.thread ≡ false) × ((has (is_mark r.thread) w.marks ≡ false) × (length r.message.now ≤ MESSAGE_LIMIT)))

-- all but waits and marks is as it was
abbrev pub KeepsButWaits : World → World → Type 0
KeepsButWaits old new = new ≡ record old { waits = new.waits; marks = new.marks }

-- the threads are as they were, and at most so many waits, rows and numbers were made
pub record MakesWaits (more : ℕ) (old new : Kept) : Type 0 where
  pub threads : new.rows.threads ≡ old.rows.threads
  pub waits : length new.rows.waits ≤ length old.rows.waits + more
  pub made : new.made ≤ old.made + more

-- a thread's receive on a port, behind a reply: the oldest message of the queue is taken, or the thread waits
abbrev pub receive_by : Caller → Key → Key → Option Replied → Kept → List Basic
receive_by by port queue replied w =
    request.receive_steps (shown_caller by) (port_at w port) (birth_at w queue) (replied_steps w.rows replied) (first (is_queued (birth_at w queue)) w.rows.messages)

abbrev pub TakesOrWaits : Caller → Key → Key → Option Replied → Kept → Kept → Listed → Listed → Type 0
TakesOrWaits by port queue replied old new before after =
    Took (receive_by by port queue replied old) old new before after
