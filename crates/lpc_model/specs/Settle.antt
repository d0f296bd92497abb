-- Settling: events that weren't handled go on, then processes end whose exceptions nothing handled.
use Rattle.std.specs.Prelude.{◌≡◌, ℕ, zero, suc, ◌+◌, ◌*◌, ◌&&◌, nat_lt, not, Bool, true, List, [], ◌∷◌, Option, None, Some, is_some, map, option_map, if◌then◌else◌}
use Rattle.lpc_base.specs.Rows.{count, every, has, which}
use Rattle.lpc_model.specs.World.{ProcessRow, WaitRow, World}
use Rattle.lpc_model.specs.Found.{is_event, is_live, live_threads, waits_as}
use Rattle.lpc_model.specs.Basics.{Basic, Steps, doing, first_code, ◌▹◌}
use Rattle.lpc_model.specs.Death.{code_status, end_threads}
use Rattle.lpc_model.specs.Raise.{go_on}

-- a live process that is to end
abbrev pub is_doomed : World → ProcessRow → Bool
is_doomed w p = is_some p.doom && is_live w p.number

abbrev pub doomed_processes : World → List ProcessRow
doomed_processes w = which (is_doomed w) w.processes

-- the one of the least number
abbrev pub lesser : ProcessRow → Option ProcessRow → ProcessRow
lesser p None = p
lesser p (Some q) = if nat_lt q.number p.number then q else p

abbrev pub least : List ProcessRow → Option ProcessRow
least [] = None
least (p ∷ ps) = Some (lesser p (least ps))

-- it ends with its code
unfoldable pub end_doomed : ProcessRow → Steps
end_doomed p w = end_threads p.number (code_status (first_code 0 p.doom)) (live_threads w p.number) w

-- the next turn, where one is due: the first marked event goes on; where none is marked, the doomed process of the least
-- number ends
abbrev pub turn_by : World → List ℕ → Option (List Basic)
turn_by w (tid ∷ later) = Some (go_on tid w)
turn_by w [] = option_map (λ p. end_doomed p w) (least (doomed_processes w))

abbrev pub turn : World → Option (List Basic)
turn w = turn_by w w.marks

-- turns as long as one is due, at most n
abbrev pub and_then_on : World → Option (List Basic) → Steps → List Basic
and_then_on w None later = []
and_then_on w (Some bs) later = (doing bs ▹ later) w

abbrev pub turns : ℕ → Steps
turns zero = doing []
turns (suc n) = λ w. and_then_on w (turn w) (turns n)

-- three turns for each event that is waited for, and one for each live process
abbrev pub live_processes : World → ℕ
live_processes w = count (is_live w) (map (λ p. p.number) w.processes)

abbrev pub most_turns : World → ℕ
most_turns w = 3 * count is_event w.waits + live_processes w

unfoldable pub settle : Steps
settle w = turns (most_turns w) w

-- a mark is of a thread that waits for what is made of an event
abbrev pub is_event_of : ℕ → WaitRow → Bool
is_event_of n x = waits_as n x && is_event x

abbrev pub has_event : World → ℕ → Bool
has_event w n = has (is_event_of n) w.waits

abbrev pub HasMarkedEvents : World → Type 0
HasMarkedEvents w = every (has_event w) w.marks ≡ true

-- no event is marked, and no process that is to end lives
pub record IsSettled (w : World) : Type 0 where
  pub marks : w.marks ≡ []
  pub doomed : every (λ p. not (is_doomed w p)) w.processes ≡ true
