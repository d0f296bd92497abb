-- What a port keeps from line to line, as long as it stands.
use Rattle.std.specs.Prelude.{◌≡◌, ℕ, ◌&&◌, Bool, true, false, not, List, Some}
use Rattle.lpc_base.specs.Rows.{has}
use Rattle.lpc_model.specs.World.{Birth, PortRow, WaitRow, World, no_rows}
use Rattle.lpc_model.specs.Found.{is_made_on, is_offered, is_open, port_row}
use Rattle.lpc_model.specs.Lawful.{IsLawfulWorld}
use Rattle.lpc_model.specs.Lines.{ScriptLine}
use Rattle.lpc_model.specs.Machine.{step}
use Rattle.lpc_model.specs.Run.{Along, said_in}
use Rattle.lpc_model.specs.Standing.{port_stands}

-- a connect that isn't accepted waits on the port, which it made
abbrev pub is_offer_on : Birth → WaitRow → Bool
is_offer_on b x = is_offered x && is_made_on b x

abbrev pub is_unanswered : World → Birth → Bool
is_unanswered w b = has (is_offer_on b) w.waits

-- it waited in a world for its accept, and doesn't in a later one
abbrev pub is_answered_in : World → World → Birth → Bool
is_answered_in w later b = is_unanswered w b && not (is_unanswered later b)

-- What a port that stood in a world is like in a later one. Its kind, its connection port, the connect that made it and
-- its security are as they were, and a completed one is completed. Its context and its other end are given to it as the
-- connect that made it is accepted: unless that was answered in between, the context is as it was, and another end is
-- the one that it had. Two ends that are both open later are each other's still.
pub record KeepsPort (w later : World) (p q : PortRow) : Type 0 where
  pub kind : q.kind ≡ p.kind
  pub connection : q.connection ≡ p.connection
  pub creator : q.creator ≡ p.creator
  pub security : q.security ≡ p.security
  pub completed : p.completed ≡ true → q.completed ≡ true
  pub context : is_answered_in w later p.birth ≡ false → q.context ≡ p.context
  pub pair : is_answered_in w later p.birth ≡ false → (other : Birth) → q.pair ≡ Some other → p.pair ≡ Some other
  pub ends : (other : Birth) → p.pair ≡ Some other → is_open later p.birth ≡ true → is_open later other ≡ true → q.pair ≡ Some other

-- So is each port that stands in both. And a connect that is answered stays so: on a port that stood none waits for its
-- accept later that didn't before.
pub record KeepsPorts (w later : World) : Type 0 where
  pub ports : (b : Birth) (p q : PortRow) → port_row w b ≡ Some p → port_row later b ≡ Some q → KeepsPort w later p q
  pub answered : (b : Birth) → port_stands w b ≡ true → is_unanswered w b ≡ false → is_unanswered later b ≡ false

-- so with the step of each line, and along each script
abbrev pub StepsKeepPorts : Type 0
StepsKeepPorts = (w : World) (line : ScriptLine) → IsLawfulWorld w → KeepsPorts w (step w line).world

abbrev pub RunKeepsPorts : List ℕ → Type 0
RunKeepsPorts bytes = Along (λ w line. KeepsPorts w (step w line).world) no_rows (said_in bytes)
