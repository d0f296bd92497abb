-- Whom a sweep is to look at.
use Rattle.std.specs.Prelude.{◌≡◌, true, List, [], ◌∷◌, Option, Some, None, if◌then◌else◌, option_and_then, option_map, slice_get}
use Rattle.lpc_base.specs.declared.birth.Birth.{Birth}
use Rattle.lpc_model.specs.World.{ProcessRow}
use Rattle.lpc_views.specs.declared.view.View.{View}
use Rattle.lpc_procs.specs.declared.rows.Registration.{Registration}
use Rattle.lpc_rows.specs.Names.{Names, name_of, some_stands}
use Rattle.lpc_slots.specs.declared.Key.{Key}
use Rattle.lpc_rows.specs.Suspects.{LifeTable, SuspectTable, suspecting, suspecting_some}
use Rattle.lpc_world.specs.declared.suspected_lives.LifeSuspect.{LifeSuspect}
use Rattle.lpc_world.specs.declared.suspected_lives.LifeSuspect.TheVariants as life
use Rattle.lpc_world.specs.declared.suspects.Suspect.{Suspect}
use Rattle.lpc_world.specs.declared.suspects.Suspect.TheVariants.{Nobody, Port}

-- the port at an optional key, or nobody
abbrev pub suspect_of : Option Key → Suspect
suspect_of None = Nobody
suspect_of (Some key) = Port key

-- the process with an optional birth, or nobody; and before it a thread with one
abbrev pub process_suspect : Option Birth → LifeSuspect
process_suspect None = life.Nobody
process_suspect (Some b) = life.Process b

abbrev pub thread_suspect : Option Birth → Option Birth → LifeSuspect
thread_suspect None process = process_suspect process
thread_suspect (Some b) process = life.Thread b

-- the thread that is suspected longest, behind the threads the process that is, or any
abbrev pub first_life : LifeTable → LifeSuspect
first_life s = if s.any then life.Anybody else thread_suspect (slice_get s.threads 0) (slice_get s.processes 0)

-- these are the debug port and the exception port of a process that was found; none, where none was found
pub record AreHearers (names : Names) (found : Option ProcessRow) (debug_port exception_port : Option Key) : Type 0 where
  pub debug : option_map (name_of names) debug_port ≡ option_and_then (λ p. p.debug_port) found
  pub exception : option_map (name_of names) exception_port ≡ option_and_then (λ p. p.exception_port) found
  pub debug_stands : some_stands names debug_port ≡ true
  pub exception_stands : some_stands names exception_port ≡ true

-- with the ports of registrations suspected too
abbrev pub suspecting_each : List Registration → SuspectTable → SuspectTable
suspecting_each [] s = s
suspecting_each (r ∷ rs) s = suspecting_each rs (suspecting r.port s)

-- with the ports suspected too with which views go
abbrev pub suspecting_owners : List (View Key) → SuspectTable → SuspectTable
suspecting_owners [] s = s
suspecting_owners (v ∷ vs) s = suspecting_owners vs (suspecting_some v.owner s)
