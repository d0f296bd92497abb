-- The run of the machine whose rows never go, and the law on it.
use Rattle.std.specs.Prelude.{◌≡◌, ℕ, Bool, false, true, List, [], ◌∷◌, ◌++◌, map, Option, Some, None}
use Rattle.lpc_model.specs.World.{Birth, World, no_rows}
use Rattle.lpc_model.specs.Lines.{ScriptLine}
use Rattle.lpc_isolation.proofs.Gone.Served.{served_step, served_steps, own_served, own_served_step}
use Rattle.lpc_model.specs.Run.{said_in}
use Rattle.lpc_model.specs.Circle.{Event, Group, HasInnerViews, Ran, is_fine_line, is_seen, line_whose, told_event, members, ReadsInner, gave_event, given_in, full_inputs, full_items}
use Rattle.lpc_isolation.proofs.Views.Alone.{HasFineRows, WritesOuter, alone, ShowsOuter, HasFineRaisers}

-- what happens at a line, before rows go
abbrev pub bare_line_events : World → ScriptLine → List Event
bare_line_events w line =
    record { whose = line_whose w line; item = Ran line }
    ∷ map (told_event (served_step w line).world (line_whose w line)) (served_step w line).entries
    ++ map (gave_event (line_whose w line)) (given_in (served_steps line w))

-- and by its own steps, before the world settles
abbrev pub own_line_events : World → ScriptLine → List Event
own_line_events w line =
    record { whose = line_whose w line; item = Ran line }
    ∷ map (told_event (own_served_step w line).world (line_whose w line)) (own_served_step w line).entries
    ++ map (gave_event (line_whose w line)) (given_in (own_served line w))

-- what happens in a run from a world on
abbrev pub bare_events : World → List (Option ScriptLine) → List Event
bare_events w [] = []
bare_events w (None ∷ later) = bare_events w later
bare_events w (Some line ∷ later) = bare_line_events w line ++ bare_events (served_step w line).world later

-- in a world, c has no view of an outer section, what outsiders' views show is outer, and members' exceptions are told inside
pub record HasViewsApart (group : Group) (c : ℕ) (outer : Birth → Bool) (w : World) : Type 0 where
  pub inner : HasInnerViews c outer w
  pub shows : ShowsOuter group outer w
  pub raisers : HasFineRaisers group w

-- at a line, what it writes is outer, where it is an outsider's; and c reads of no outer section through a range that a request
-- describes
pub record IsApartAt (group : Group) (c : ℕ) (outer : Birth → Bool) (w : World) (line : ScriptLine) : Type 0 where
  pub writes : is_seen group (line_whose w line) ≡ false → WritesOuter outer (served_steps line w)
  pub reads : ReadsInner c outer w line

-- the group is a circle of c in such a run, with these sections as the outer ones
abbrev pub IsBareCircle : Group → ℕ → (Birth → Bool) → World → List (Option ScriptLine) → Type 0
IsBareCircle group c outer w [] = HasFineRows group c w × HasViewsApart group c outer w
IsBareCircle group c outer w (None ∷ later) = IsBareCircle group c outer w later
IsBareCircle group c outer w (Some line ∷ later) =
    HasFineRows group c w × HasViewsApart group c outer w × (is_fine_line group c w line ≡ true) × IsApartAt group c outer w line
    × IsBareCircle group c outer (served_step w line).world later

-- The law
-- what happens in the run of a script
abbrev pub bare_events_of : List ℕ → List Event
bare_events_of script = bare_events no_rows (said_in script)

abbrev pub IsBareCircleIn : Group → ℕ → (Birth → Bool) → List ℕ → Type 0
IsBareCircleIn group c outer script = IsBareCircle group c outer no_rows (said_in script)

-- In two scripts that agree on a process's calls and on its circle's calls and answers, that process is answered alike. Each
-- script has outer sections of its own.
abbrev pub BareIsolation : Type 0
BareIsolation =
    (group : List ℕ) (c : ℕ) (outer other : Birth → Bool) (one two : List ℕ) → members group c ≡ true →
    IsBareCircleIn (members group) c outer one → IsBareCircleIn (members group) c other two →
    full_inputs (members group) c (bare_events_of one) ≡ full_inputs (members group) c (bare_events_of two) →
    full_items (alone c) (bare_events_of one) ≡ full_items (alone c) (bare_events_of two)
