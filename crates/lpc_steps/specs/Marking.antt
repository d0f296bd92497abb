-- Which events are marked when a port is closed, by the reason for it.
use Rattle.std.specs.Prelude.{Bool}
use Rattle.lpc_model.specs.World.{Birth, WaitRow, World}
use Rattle.lpc_model.specs.Basics.{Steps, end_each}
use Rattle.lpc_model.specs.Close.{is_event_across, is_event_on, is_queued_event, mark_event}
use Rattle.lpc_slots.specs.declared.Key.{Key}
use Rattle.lpc_rows.specs.Clauses.{birth_at}
use Rattle.lpc_rows.specs.Kept.{Kept}
use Rattle.lpc_steps.specs.declared.marking.Marking.{Marking}
use Rattle.lpc_steps.specs.declared.marking.Marking.TheVariants.{Queued, Sent, SentAcross}

-- the wait's event is marked for this reason when the port is closed, in the world as it is then
abbrev pub marks : Marking → Birth → World → WaitRow → Bool
marks Sent b = is_event_on b
marks Queued b = is_queued_event b
marks SentAcross b = is_event_across b

-- the same of the port at a key
abbrev pub marks_at : Kept → Key → Marking → WaitRow → Bool
marks_at w port m = marks m (birth_at w port) w.rows

-- all events are marked that are marked for this reason, in the order of sending
abbrev pub mark_all : Marking → Birth → Steps
mark_all m b = end_each (marks m b) mark_event
