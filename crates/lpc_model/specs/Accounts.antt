-- Messages are accounted for: each that was posted stands in its queue, was received from it, was withdrawn with the
-- wait of its thread or as its event was marked, or was lost when the queue's port closed. So is each that tells of a
-- thread's end or of a closed port.
use Rattle.std.specs.Prelude.{◌≡◌, ℕ, ◌+◌, ◌++◌, ◌&&◌, ◌==◌, Bool, true, false, List, [], ◌∷◌, Option, None, Some, option_and_then, option_map, Result, Ok, Err}
use Rattle.std.specs.Str.{bytes_eq}
use Rattle.lpc_base.specs.Rows.{count, which}
use Rattle.lpc_base.specs.declared.status.Status.{Status}
use Rattle.lpc_base.specs.declared.status.TheConstants.{SUCCESS}
use Rattle.lpc_message.specs.Layout.{header_of}
use Rattle.lpc_message.specs.declared.kind.TheConstants.{CLIENT_DIED, PORT_CLOSED}
use Rattle.lpc_model.specs.declared.entry.CallName.{CallName}
use Rattle.lpc_model.specs.declared.entry.CallName.TheVariants.{NtListenPort, NtReplyWaitReceivePort}
use Rattle.lpc_model.specs.declared.entry.Entry.{Entry}
use Rattle.lpc_model.specs.declared.entry.Entry.TheVariants.{Answer, Wakes}
use Rattle.lpc_model.specs.declared.entry.Field.{Field}
use Rattle.lpc_model.specs.declared.entry.FieldName.TheVariants.{Msg}
use Rattle.lpc_model.specs.declared.entry.Value.TheVariants.{Bytes, Hex}
use Rattle.lpc_base.specs.declared.birth.Birth.{Birth}
use Rattle.lpc_model.specs.World.{MessageRow, PortRow, World, no_rows}
use Rattle.lpc_model.specs.Message.{bytes_of}
use Rattle.lpc_model.specs.Found.{is_own_of, is_the, live_thread, queue_of, queued_on, same_birth, wait_of}
use Rattle.lpc_model.specs.Basics.{Basic, Empties, Withdraws, basic, entries_of, world_after}
use Rattle.lpc_model.specs.Tests.{port_test}
use Rattle.lpc_model.specs.Lines.{ScriptLine, listen_port, reply_wait_receive_port, run}
use Rattle.lpc_model.specs.Machine.{step, steps, own_steps}
use Rattle.lpc_model.specs.Run.{all_posts, said_in, trace, world_behind}
use Rattle.lpc_model.specs.Settle.{settle}

-- what a receive from a queue shows of a message: its context, and its bytes, header and data
pub record Receipt : Type 0 where
  pub queue : Birth
  pub context : ℕ
  pub bytes : List ℕ

-- Messages
-- a message stands in its queue, or is posted so: it has this queue, context and bytes
abbrev pub has_receipt : Receipt → MessageRow → Bool
has_receipt r m = same_birth r.queue m.queue && ((m.context == r.context) && bytes_eq (bytes_of m.message) r.bytes)

-- how many such messages stand
abbrev pub standing : Receipt → World → ℕ
standing r w = count (has_receipt r) w.messages

-- Receives
-- a field shows a context, or the bytes of a message
abbrev pub shows_context : ℕ → Field → Bool
shows_context context f = elim f.value [
  | Hex n ↦ n == context
  | _ ↦ false
]

abbrev pub is_message : Field → Bool
is_message f = elim f.name [
  | Msg ↦ true
  | _ ↦ false
]

abbrev pub has_bytes : List ℕ → Field → Bool
has_bytes bytes f = elim f.value [
  | Bytes b ↦ bytes_eq b.items bytes
  | _ ↦ false
]

abbrev pub shows_bytes : List ℕ → Field → Bool
shows_bytes bytes f = is_message f && has_bytes bytes f

-- the two fields of a receive show the context and the bytes, and the one of a listen the bytes of what has context 0;
-- no other call shows what was received
abbrev pub shows_message : Receipt → CallName → List Field → Bool
shows_message r NtReplyWaitReceivePort (context ∷ bytes ∷ []) =
    shows_context r.context context && shows_bytes r.bytes bytes
shows_message r NtListenPort (bytes ∷ []) = (r.context == 0) && shows_bytes r.bytes bytes
shows_message r call fields = false

-- a call that ends with success shows so
abbrev pub shows_receipt : Receipt → CallName → Status → List Field → Bool
shows_receipt r call status fields = (status.0 == SUCCESS.0) && shows_message r call fields

-- the queue on which a thread waits
abbrev pub waited_on : World → ℕ → Option Birth
waited_on w tid = option_map (λ x. x.queue) (wait_of w tid)

-- the queue of the port that a receive's handle names, and the port itself for a listen
abbrev pub queue_at : World → Result PortRow Status → Option Birth
queue_at w (Ok port) = queue_of w port
queue_at w (Err s) = None

abbrev pub birth_at : Result PortRow Status → Option Birth
birth_at (Ok port) = Some port.birth
birth_at (Err s) = None

abbrev pub received_on : World → ScriptLine → Option Birth
received_on w (run tid (reply_wait_receive_port handle reply)) =
    option_and_then (λ by. queue_at w (port_test w by handle)) (live_thread w tid)
received_on w (run tid (listen_port handle)) = option_and_then (λ by. birth_at (port_test w by handle)) (live_thread w tid)
received_on w line = None

-- an entry shows such a message as received from the queue: that on which its thread waited before the line, or that
-- of the port that the line's receive names, or the port that its listen names
abbrev pub is_received : Receipt → World → ScriptLine → Entry → Bool
is_received r w line (Wakes tid call status fields) =
    is_the r.queue (waited_on w tid) && shows_receipt r call status fields
is_received r w line (Answer tid call status fields) =
    is_the r.queue (received_on w line) && shows_receipt r call status fields
is_received r w line entry = false

-- an entry of a line's settling shows so: the queue is that on which its thread waited when it began to settle
abbrev pub is_woken : Receipt → World → Entry → Bool
is_woken r v (Wakes tid call status fields) = is_the r.queue (waited_on v tid) && shows_receipt r call status fields
is_woken r v entry = false

-- how many entries of a line show so, those of its own steps and those of its settling
abbrev pub receipts : Receipt → World → ScriptLine → ℕ
receipts r w line =
    let v = world_after w (own_steps line w) in
    count (is_received r w line) (entries_of (own_steps line w)) + count (is_woken r v) (entries_of (settle v))

-- Losses
-- how many such messages a step loses: those of a queue that it empties, whose port is closed, and a thread's own,
-- which it withdraws as the thread's wait ends or its event is marked. A thread's own are those that ask for an answer
-- to it: so every other message is lost only as its queue is emptied.
abbrev pub loses : Receipt → World → Basic → ℕ
loses r w (Empties queue) = count (has_receipt r) (queued_on w queue)
loses r w (Withdraws who) = count (has_receipt r) (which (is_own_of who) w.messages)
loses r w b = 0

abbrev pub lost : Receipt → World → List Basic → ℕ
lost r w [] = 0
lost r w (b ∷ bs) = loses r w b + lost r (basic w b) bs

-- Lines
-- how many such messages some lines show as received, and how many they lose
unfoldable pub received_in : Receipt → World → List (Option ScriptLine) → ℕ
received_in r w [] = 0
received_in r w (None ∷ later) = received_in r w later
received_in r w (Some line ∷ later) =
    receipts r w line + received_in r (step w line).world later

unfoldable pub lost_in : Receipt → World → List (Option ScriptLine) → ℕ
lost_in r w [] = 0
lost_in r w (None ∷ later) = lost_in r w later
lost_in r w (Some line ∷ later) = lost r w (steps line w) + lost_in r (step w line).world later

-- of the messages that were posted so far, each stands, was received, or was lost
abbrev pub AreAccountedFor : Receipt → List (Option ScriptLine) → Type 0
AreAccountedFor r lines =
    count (has_receipt r) (all_posts (trace no_rows lines))
    ≡ standing r (world_behind no_rows lines) + (received_in r no_rows lines + lost_in r no_rows lines)

-- behind each line of a script, for each queue, context and bytes
abbrev pub RunAccountsForMessages : List ℕ → Type 0
RunAccountsForMessages script =
    (r : Receipt) → (front back : List (Option ScriptLine)) → said_in script ≡ front ++ back → AreAccountedFor r front

-- so of the messages of a type
abbrev pub RunAccountsForKind : ℕ → List ℕ → Type 0
RunAccountsForKind kind script =
    (r : Receipt) → (header_of r.bytes).kind ≡ kind →
    (front back : List (Option ScriptLine)) → said_in script ≡ front ++ back → AreAccountedFor r front

-- so of the messages that tell of threads' ends, and of those that tell of closed ports
abbrev pub RunAccountsForDeaths : List ℕ → Type 0
RunAccountsForDeaths script = RunAccountsForKind CLIENT_DIED script × RunAccountsForKind PORT_CLOSED script
