-- What is told of closings: each completed client port that loses its last handle is told of once.
use Rattle.std.specs.Prelude.{◌≡◌, ℕ, ◌++◌, ◌&&◌, not, Bool, List, [], ◌∷◌}
use Rattle.lpc_base.specs.Rows.{each, given, when, which}
use Rattle.lpc_model.specs.declared.entry.ObjectKind.TheVariants as kind
use Rattle.lpc_model.specs.World.{Birth, HandleRow, MessageRow, World, no_rows}
use Rattle.lpc_model.specs.Message.{tells_closing}
use Rattle.lpc_model.specs.Found.{handle_at, is_open, port_row, same_kind}
use Rattle.lpc_model.specs.Basics.{Basic, DropsHandle, basic}
use Rattle.lpc_model.specs.Close.{closing_post}
use Rattle.lpc_model.specs.Lines.{ScriptLine}
use Rattle.lpc_model.specs.Machine.{step, steps}
use Rattle.lpc_model.specs.Run.{Along, said_in}

-- a message that tells of a closed port
abbrev pub is_closed_post : MessageRow → Bool
is_closed_post m = tells_closing m.message

-- a handle names a port that is open in the one world, and isn't in the other
abbrev pub shuts : World → World → HandleRow → Bool
shuts w v r = same_kind r.object.kind kind.Port && (is_open w r.object.birth && not (is_open v r.object.birth))

-- the port whose last handle goes by a step: it is open before that, and isn't behind it
abbrev pub closes : World → Basic → List Birth
closes w (DropsHandle pid value) =
    given (handle_at w pid value) (λ r.
    when (shuts w (basic w (DropsHandle pid value)) r) (r.object.birth ∷ []))
closes w b = []

-- what is told of a closed port: one message to its connection port, where it is a completed client port and the
-- connection port is open
abbrev pub closing_posts : World → Birth → List MessageRow
closing_posts w b = given (port_row w b) (λ p. given (closing_post w p) (λ m. m ∷ []))

-- what is told of the ports whose last handles go by some steps, each seen when its handle goes
abbrev pub closings_posted : World → List Basic → List MessageRow
closings_posted w [] = []
closings_posted w (b ∷ bs) = each (closing_posts w) (closes w b) ++ closings_posted (basic w b) bs

-- the messages of a line that tell of closed ports are those of the ports that lose their last handles by it
abbrev pub ClosingsAreTold : World → ScriptLine → Type 0
ClosingsAreTold w line =
    which is_closed_post (step w line).posts ≡ closings_posted w (steps line w)

-- each line of a script tells so
abbrev pub RunTellsClosings : List ℕ → Type 0
RunTellsClosings bytes = Along ClosingsAreTold no_rows (said_in bytes)
