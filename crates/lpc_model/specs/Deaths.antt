-- What is told of threads that end: each port that such a thread registered is told once, where it is open and has a
-- way.
use Rattle.std.specs.Prelude.{◌≡◌, ℕ, ◌==◌, ◌&&◌, ◌||◌, ◌++◌, Bool, true, List, [], ◌∷◌, length, map, nat_le, not, Option, None, Some, suc, zero}
use Rattle.std.specs.List.{AllByRecursion}
use Rattle.lpc_base.specs.Rows.{each, every, first, given, when, which}
use Rattle.lpc_message.specs.declared.kind.TheConstants.{CLIENT_DIED}
use Rattle.lpc_model.specs.World.{Birth, MessageRow, ThreadRow, World, no_rows}
use Rattle.lpc_model.specs.Found.{is_thread, live_thread, same_birth}
use Rattle.lpc_model.specs.Basics.{Basic, Dies, DropsHandle, DropsViewsOf, Enters, Unbinds, Unregisters, basic, posts_of, world_after}
use Rattle.lpc_model.specs.Death.{death_post}
use Rattle.lpc_model.specs.Lines.{ScriptLine}
use Rattle.lpc_model.specs.Machine.{own_steps, steps}
use Rattle.lpc_model.specs.Settle.{most_turns, turn}
use Rattle.lpc_model.specs.Run.{Along, run_of, said_in}

-- a message that tells of a thread's end
abbrev pub is_died_post : MessageRow → Bool
is_died_post m = m.message.header.kind == CLIENT_DIED

-- a registration: the thread, and the port
pub record Registration : Type 0 where
  pub thread : ℕ
  pub port : Birth

abbrev pub registration : ℕ → Birth → Registration
registration who b = record { thread = who; port = b }

abbrev pub registrations_of : ThreadRow → List Registration
registrations_of t = map (registration t.number) t.registrations

-- the registrations of the live thread that ends by a step, in the order in which they were made, and of those that end
-- by some steps, thread by thread
abbrev pub ended_registrations : World → Basic → List Registration
ended_registrations w (Dies who status) = given (live_thread w who) registrations_of
ended_registrations w b = []

abbrev pub ending_registrations : World → List Basic → List Registration
ending_registrations w [] = []
ending_registrations w (b ∷ bs) = ended_registrations w b ++ ending_registrations (basic w b) bs

-- the registrations that go by a step
abbrev pub leaves : Basic → List Registration
leaves (Unregisters who b) = registration who b ∷ []
leaves b = []

-- what is told of a registration that goes, as the world is then: one message to the port's route, where the port is
-- open and has one, sent on that port in the name of the thread, whose data are the thread's birth
abbrev pub death_posts : World → Basic → List MessageRow
death_posts w (Unregisters who b) =
    given (first (is_thread who) w.threads) (λ t. given (death_post w t b) (λ m. m ∷ []))
death_posts w b = []

abbrev pub deaths_posted : World → List Basic → List MessageRow
deaths_posted w [] = []
deaths_posted w (b ∷ bs) = death_posts w b ++ deaths_posted (basic w b) bs

-- when a step comes in its line: first threads end, then registrations go and are told of, and then handles are closed,
-- which begins with a port's name where its last handle goes, and views go
abbrev pub rank_of : Basic → List ℕ
rank_of (Dies who status) = 0 ∷ []
rank_of (Unregisters who b) = 1 ∷ []
rank_of (Enters m) = when (is_died_post m) (1 ∷ [])
rank_of (Unbinds b) = 2 ∷ []
rank_of (DropsHandle pid value) = 2 ∷ []
rank_of (DropsViewsOf pid) = 2 ∷ []
rank_of b = []

-- no number stands behind a greater one
abbrev pub rises : List ℕ → Bool
rises [] = true
rises (n ∷ ns) = every (nat_le n) ns && rises ns

-- The messages that tell of ends are those of the registrations that go, and these are the ones of the threads that
-- end.
pub record TellsEnds (w : World) (bs : List Basic) : Type 0 where
  pub told : which is_died_post (posts_of bs) ≡ deaths_posted w bs
  pub registrations : each leaves bs ≡ ending_registrations w bs

-- They go and are told behind the end of the last of these threads, and before any handle goes.
abbrev pub IsOrdered : List Basic → Type 0
IsOrdered bs = rises (each rank_of bs) ≡ true

pub record TellsDeaths (w : World) (bs : List Basic) : Type 0 where
  pub told : which is_died_post (posts_of bs) ≡ deaths_posted w bs
  pub registrations : each leaves bs ≡ ending_registrations w bs
  pub order : rises (each rank_of bs) ≡ true

-- so is it in each of some turns of settling
abbrev pub OrderedIn : World → Option (List Basic) → (World → Type 0) → Type 0
OrderedIn w None later = Unit {0}
OrderedIn w (Some bs) later = IsOrdered bs × later (world_after w bs)

abbrev pub OrderedTurns : ℕ → World → Type 0
OrderedTurns zero = λ w. Unit {0}
OrderedTurns (suc n) = λ w. OrderedIn w (turn w) (OrderedTurns n)

-- The steps of a line tell so. Its own steps come in that order, and each turn of its settling does, one ending of a
-- process behind the other.
pub record DeathsAreTold (w : World) (line : ScriptLine) : Type 0 where
  pub ends : TellsEnds w (steps line w)
  pub order : IsOrdered (own_steps line w)
  pub turns : let v = world_after w (own_steps line w) in OrderedTurns (most_turns v) v

-- each line of a script tells so
abbrev pub RunTellsDeaths : List ℕ → Type 0
RunTellsDeaths bytes = Along DeathsAreTold no_rows (said_in bytes)

-- Registrations are of live threads alone: one that has ended has none
abbrev pub has_living_registrations : ThreadRow → Bool
has_living_registrations t = t.live || (length t.registrations == 0)

abbrev pub HasLivingRegistrations : World → Type 0
HasLivingRegistrations w = every has_living_registrations w.threads ≡ true

-- so behind each line of a script
abbrev pub RunHasLivingRegistrations : List ℕ → Type 0
RunHasLivingRegistrations bytes = AllByRecursion (λ s. HasLivingRegistrations s.world) (run_of bytes)

-- No port is registered twice with one thread
abbrev pub are_different : List Birth → Bool
are_different [] = true
are_different (b ∷ bs) = every (λ c. not (same_birth c b)) bs && are_different bs

abbrev pub registers_once : ThreadRow → Bool
registers_once t = are_different t.registrations

abbrev pub HasSingleRegistrations : World → Type 0
HasSingleRegistrations w = every registers_once w.threads ≡ true

-- so behind each line of a script
abbrev pub RunHasSingleRegistrations : List ℕ → Type 0
RunHasSingleRegistrations bytes = AllByRecursion (λ s. HasSingleRegistrations s.world) (run_of bytes)
