-- What holds of the run of every script.
use Rattle.std.specs.Prelude.{◌≡◌, ℕ, List, [], ◌∷◌}
use Rattle.lpc_model.specs.Circle.{IsCircleIn, inputs_of, items_of}
use Rattle.lpc_model.specs.Script.{script_lines}
use Rattle.lpc_model.specs.Run.{Along, said_in}
use Rattle.lpc_model.specs.Replies.{MisfitsAreRefused, RefusedRepliesAreIdle, RefusedRepliesChangeNothing, RequestsReturnByReply}
use Rattle.lpc_model.specs.Settle.{IsSettled}
use Rattle.lpc_model.specs.World.{World, no_rows}
use Rattle.lpc_model.specs.Lines.{ScriptLine}
use Rattle.lpc_model.specs.Machine.{step}
use Rattle.lpc_replay.specs.Connects.{ConnectsReturnByAnswer}
use Rattle.lpc_replay.specs.Ends.{ThreadsEndAsNamed}
use Rattle.lpc_replay.specs.Leading.{LeadsToRows}
use Rattle.lpc_replay.specs.Raises.{RaisesReturnAsHandled}
use Rattle.lpc_replay.specs.Waits.{WaitsEndAsTold}

-- the lines of a script before its first faulty one: each request returns only by a reply that fits it, and an exception
-- is continued only by one
unfoldable pub RequestsReturn : List ℕ → Type 0
RequestsReturn script = Along RequestsReturnByReply no_rows (said_in script)

-- each wait ends only as its thread is told: by a wake, or with the thread
unfoldable pub WaitsEnd : List ℕ → Type 0
WaitsEnd script = Along WaitsEndAsTold no_rows (said_in script)

-- each reply that fits no wait is refused
unfoldable pub MisfitsRefused : List ℕ → Type 0
MisfitsRefused script = Along MisfitsAreRefused no_rows (said_in script)

-- each refused reply changes nothing
unfoldable pub RefusalsStay : List ℕ → Type 0
RefusalsStay script = Along RefusedRepliesChangeNothing no_rows (said_in script)

-- without the line of a refused reply, the other lines tell the same
unfoldable pub RefusalsIdle : List ℕ → Type 0
RefusalsIdle script = RefusedRepliesAreIdle (script_lines script)

-- each connect returns only by its answer or by a closing
unfoldable pub ConnectsReturn : List ℕ → Type 0
ConnectsReturn script = Along ConnectsReturnByAnswer no_rows (said_in script)

-- each exception that returns is continued, or is handled by its frame handlers
unfoldable pub RaisesReturn : List ℕ → Type 0
RaisesReturn script = Along RaisesReturnAsHandled no_rows (said_in script)

-- each thread that ends does so by the call that names it or its process, or as its process is to end
unfoldable pub ThreadsEnd : List ℕ → Type 0
ThreadsEnd script = Along ThreadsEndAsNamed no_rows (said_in script)

-- behind each line no event is marked, and no process that is to end lives
abbrev pub LeavesSettled : World → ScriptLine → Type 0
LeavesSettled w line = IsSettled (step w line).world

unfoldable pub LinesSettle : List ℕ → Type 0
LinesSettle script = Along LeavesSettled no_rows (said_in script)

-- before each line handles lead to rows
abbrev pub LeadsBefore : World → ScriptLine → Type 0
LeadsBefore w line = LeadsToRows w

unfoldable pub HandlesLead : List ℕ → Type 0
HandlesLead script = Along LeadsBefore no_rows (said_in script)

-- a process with a circle in this script and in another one, and with the same inputs in both, does and is told the
-- same
unfoldable pub ClientsApart : List ℕ → Type 0
ClientsApart script =
    (group : List ℕ) (c : ℕ) (other : List ℕ) → IsCircleIn group c script → IsCircleIn group c other
    → inputs_of group c script ≡ inputs_of group c other → items_of (c ∷ []) script ≡ items_of (c ∷ []) other
