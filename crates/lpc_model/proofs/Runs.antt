-- What each line of a script keeps, along the whole run.
use Rattle.std.proofs.Common.{List, [], arith, refl, ℕ, ◌∷◌}
use Rattle.std.specs.Prelude.{Option, Some, None}
use Rattle.std.specs.List.{AllByRecursion}
use Rattle.lpc_model.specs.World.{World, no_rows}
use Rattle.lpc_model.specs.Lines.{ScriptLine}
use Rattle.lpc_model.specs.Machine.{Stepped, step, steps, own_steps}
use Rattle.lpc_model.specs.Run.{Along, line_step, said_in, trace}
use Rattle.lpc_model.specs.Closings.{ClosingsAreTold, RunTellsClosings}
use Rattle.lpc_model.specs.Creators.{KeepsConnects, RunKeepsConnects}
use Rattle.lpc_model.specs.Linked.{HasHeldRows, RunHoldsRows}
use Rattle.lpc_model.specs.OpenQueues.{HasOpenQueues, RunKeepsQueuesOpen}
use Rattle.lpc_model.specs.Standing.{NamesWhatStands, RunNamesWhatStands}
use Rattle.lpc_model.specs.SingleClosings.{HasSingleClosings, RunHasSingleClosings}
use Rattle.lpc_model.specs.SoundWaits.{HasSoundWaits, RefusesCutPairsAlone, RunRefusesCutPairsAlone, RunStaysSound}
use Rattle.lpc_model.proofs.Sound.Pairs.{refuses_cut_pairs}
use Rattle.lpc_model.proofs.Sound.Lines.{sound_none, sound_waits}
use Rattle.lpc_model.proofs.Linked.Lines.{held_step, linked_none, linked_step}
use Rattle.lpc_model.proofs.Standing.Lines.{names_none, names_step}
use Rattle.lpc_model.proofs.Queues.Open.{queues_none, queues_step}
use Rattle.lpc_model.proofs.Closings.Creators.{keeps_step}
use Rattle.lpc_model.proofs.Closings.ToldLines.{closings_told}
use Rattle.lpc_model.specs.KeptPorts.{KeepsPorts, RunKeepsPorts, StepsKeepPorts}
use Rattle.lpc_model.proofs.KeptPorts.Kept.{ports_kept}
use Rattle.lpc_model.proofs.Queues.Emptied.{line_empties}
use Rattle.lpc_model.proofs.Queues.Withdrawn.{line_withdraws}
use Rattle.lpc_model.specs.Leaving.{EmptiesWithHandles, RunEmptiesWithHandles, RunWithdrawsWithWaits, WithdrawsWithWaits}
use Rattle.lpc_model.proofs.Closings.SingleLines.{untold_none, untold_step}
use Rattle.lpc_model.specs.Deaths.{DeathsAreTold, HasLivingRegistrations, HasSingleRegistrations, RunHasLivingRegistrations, RunHasSingleRegistrations, RunTellsDeaths}
use Rattle.lpc_model.proofs.Lives.ThreadsOnce.{once_step, once_line}
use Rattle.lpc_model.proofs.Settling.Deaths.{deaths_told}
use Rattle.lpc_model.specs.Lawful.{IsLawfulWorld, HasThreadsOnce}
use Rattle.lpc_model.specs.Left.{LeavesNothing, RunLeavesNothing}
use Rattle.lpc_model.proofs.Sound.Terminate.{IsSafe}
use Rattle.lpc_model.proofs.Lives.Handles.{living_step}
use Rattle.lpc_model.proofs.Lives.KeptPairs.{pairs_step}
use Rattle.lpc_model.proofs.Lives.Bare.{bare}
use Rattle.lpc_model.proofs.Views.Lines.{views_none, views_step}
use Rattle.lpc_model.specs.SoundViews.{HasSoundViews, RunKeepsViews, RunKeepsOffers, HasSoundOffers}
use Rattle.lpc_model.proofs.Lives.Registrations.{living_registrations_step}
use Rattle.lpc_model.proofs.Lives.SingleRegistrations.{single_step}
use Rattle.lpc_model.proofs.Views.Offers.{offers_step}
use Rattle.lpc_model.specs.Clients.{HasAllowingClients, HasClientEnds, RefusesUnservedAlone, RunHasAllowingClients, RunHasClientEnds, RunRefusesUnservedAlone}
use Rattle.lpc_model.proofs.Clients.Allowing.{allowing_step}
use Rattle.lpc_model.proofs.Clients.Ends.{ends_step}
use Rattle.lpc_model.proofs.Clients.Refusal.{refuses_unserved}
use Rattle.lpc_model.proofs.Settling.Lines.{ready-line, settled_step}
use Rattle.lpc_model.proofs.Settling.Settled.{IsReady}
use Rattle.lpc_model.specs.AtRest.{IsAtRest, StepsHoldRows, StepsKeepOffers, StepsKeepQueuesOpen, StepsKeepSingleClosings, StepsKeepViews, StepsNameWhatStands, StepsSettle, StepsStaySound}
use Rattle.lpc_model.specs.Basics.{world_after}

-- before the first line
pub lawful_none : IsLawfulWorld no_rows
lawful_none = record {
  sound = sound_none;
  linked = linked_none;
  held = record { ports = refl; lives = record { threads = refl; processes = refl }; sections = refl; tokens = refl };
  queues = queues_none;
  names = names_none;
  single_closings = untold_none;
  creators = refl;
  threads = λ n. grind arith;
  registrations = refl;
  single = refl;
  living = refl;
  views = refl;
  sound_views = views_none;
  sound_offers = refl;
  pairs = refl;
  clients = refl;
  ends = refl;
  ports = refl;
  settled = record { marks = refl; doomed = refl };
}

-- the world is ready to settle behind the own steps of a line
pub lawful-ready : (w : World) (line : ScriptLine) → IsAtRest w → IsReady (world_after w (own_steps line w))
lawful-ready w line t = ready-line w line t.sound t.names t.single_closings t.settled.marks

pub resting : (w : World) → IsLawfulWorld w → IsAtRest w
resting w t = record { sound = t.sound; names = t.names; single_closings = t.single_closings; settled = t.settled }

pub lawful-once : (w : World) (line : ScriptLine) → IsLawfulWorld w → HasThreadsOnce (world_after w (own_steps line w))
lawful-once w line t = let shut = t.single_closings in once_line w line t.sound shut.connects t.threads

pub lawful-readied : (w : World) (line : ScriptLine) → IsLawfulWorld w → IsReady (world_after w (own_steps line w))
lawful-readied w line t = lawful-ready w line (resting w t)

-- what the step of each line keeps of a world at rest
pub sound_step : StepsStaySound
sound_step w line t = (settled_step w line t.sound t.names t.single_closings t.settled.marks).0

pub settles_step : StepsSettle
settles_step w line t = (settled_step w line t.sound t.names t.single_closings t.settled.marks).1

pub rows_step : StepsHoldRows
rows_step w line t l e =
    let ready = lawful-ready w line t in
    let shut = t.single_closings in
    let living = living_step w line (record { sound = t.sound; shut = shut.connects }) e.threads (once_line w line t.sound shut.connects e.threads) ready (record { handles = e.handles; views = e.views; ports = e.ports }) in
    let bare = living.0 in (linked_step w line t.sound ready l, held_step w line t.sound bare.ports l)

pub naming_step : StepsNameWhatStands
naming_step w line t l offers = let shut = t.single_closings in names_step w line t.sound shut.connects l offers (lawful-ready w line t) t.names

pub open_step : StepsKeepQueuesOpen
open_step w line t l q = let shut = t.single_closings in queues_step w line t.sound shut.connects l (lawful-ready w line t) q

pub closings_step : StepsKeepSingleClosings
closings_step w line t = untold_step w line t.sound t.names (lawful-ready w line t) t.single_closings

pub viewing_step : StepsKeepViews
viewing_step w line t offers v = let shut = t.single_closings in views_step w line t.sound shut.connects offers (lawful-ready w line t) v

pub offering_step : StepsKeepOffers
offering_step w line t views o = let shut = t.single_closings in offers_step w line t.sound shut.connects views (lawful-ready w line t) o

-- and behind each line
pub lawful_step : (w : World) (line : ScriptLine) → IsLawfulWorld w → IsLawfulWorld (step w line).world
lawful_step w line t =
    let rest = resting w t in
    let shut = t.single_closings in
    let safe : IsSafe w = record { sound = t.sound; shut = shut.connects } in
    let ready = lawful-ready w line rest in
    let after = lawful-once w line t in
    let living = living_step w line safe t.threads after ready (record { handles = t.living; views = t.views; ports = t.ports }) in
    let bare = living.0 in
    let left = living.1 in
    record {
      sound = sound_step w line rest;
      linked = linked_step w line t.sound ready t.linked;
      held = held_step w line t.sound bare.ports t.linked;
      queues = open_step w line rest t.linked t.queues;
      names = naming_step w line rest t.linked t.sound_offers;
      single_closings = closings_step w line rest;
      creators = keeps_step w line safe ready t.creators;
      threads = once_step w line t.sound shut.connects ready t.threads;
      registrations = living_registrations_step w line t.sound t.threads after ready t.registrations;
      single = single_step w line t.sound t.threads ready t.single;
      living = left.handles;
      views = left.views;
      ports = left.ports;
      settled = settles_step w line rest;
      sound_views = viewing_step w line rest t.sound_offers t.sound_views;
      sound_offers = offering_step w line rest t.sound_views t.sound_offers;
      pairs = pairs_step w line safe ready t.pairs;
      clients = allowing_step w line ready safe t.clients;
      ends = ends_step w line safe ready (record { linked = t.linked; clients = t.clients }) t.ends;
    }

pub said-lawful : (w : World) (said : Option ScriptLine) → IsLawfulWorld w → IsLawfulWorld (line_step w said).world
said-lawful w None t = t
said-lawful w (Some line) t = lawful_step w line t

-- what holds of each such world holds of the world that each line leaves
trace-keeps : (P : World → Type 0) → ((w : World) → IsLawfulWorld w → P w) → (w : World) (lines : List (Option ScriptLine)) → IsLawfulWorld w → AllByRecursion (λ (s : Stepped). P s.world) (trace w lines)
unfolding trace
trace-keeps P holds w [] t = tt
trace-keeps P holds w (said ∷ later) t =
    let after = said-lawful w said t in
    (holds (line_step w said).world after, trace-keeps P holds (line_step w said).world later after)

-- and what holds of each such world and a line holds along the lines
pub along-keeps : (P : World → ScriptLine → Type 0) → ((w : World) (line : ScriptLine) → IsLawfulWorld w → P w line) → (w : World) (lines : List (Option ScriptLine)) → IsLawfulWorld w → Along P w lines
along-keeps P holds w [] t = tt
along-keeps P holds w (None ∷ later) t = along-keeps P holds w later t
along-keeps P holds w (Some line ∷ later) t = (holds w line t, along-keeps P holds (step w line).world later (lawful_step w line t))

-- Runs
pub sound_run : (bytes : List ℕ) → RunStaysSound bytes
sound_run bytes = trace-keeps HasSoundWaits (λ w t. sound_waits w t.sound) no_rows (said_in bytes) lawful_none

pub cut_pairs_run : (bytes : List ℕ) → RunRefusesCutPairsAlone bytes
cut_pairs_run bytes = trace-keeps RefusesCutPairsAlone (λ w t. refuses_cut_pairs w t.sound) no_rows (said_in bytes) lawful_none

pub held_run : (bytes : List ℕ) → RunHoldsRows bytes
held_run bytes = trace-keeps HasHeldRows (λ w t. t.held) no_rows (said_in bytes) lawful_none

pub queues_run : (bytes : List ℕ) → RunKeepsQueuesOpen bytes
queues_run bytes = trace-keeps HasOpenQueues (λ w t. t.queues) no_rows (said_in bytes) lawful_none

pub names_run : (bytes : List ℕ) → RunNamesWhatStands bytes
names_run bytes = trace-keeps NamesWhatStands (λ w t. t.names) no_rows (said_in bytes) lawful_none

pub untold_run : (bytes : List ℕ) → RunHasSingleClosings bytes
untold_run bytes = trace-keeps HasSingleClosings (λ w t. t.single_closings) no_rows (said_in bytes) lawful_none

pub keeps_run : (bytes : List ℕ) → RunKeepsConnects bytes
keeps_run bytes = trace-keeps KeepsConnects (λ w t. t.creators) no_rows (said_in bytes) lawful_none

pub ports_step : StepsKeepPorts
ports_step w line t = let shut = t.single_closings in ports_kept w line (record { sound = t.sound; shut = shut.connects }) t.linked (lawful-readied w line t)

pub ports_run : (bytes : List ℕ) → RunKeepsPorts bytes
ports_run bytes = along-keeps (λ w line. KeepsPorts w (step w line).world) ports_step no_rows (said_in bytes) lawful_none

pub closings_told_run : (bytes : List ℕ) → RunTellsClosings bytes
closings_told_run bytes = along-keeps ClosingsAreTold (λ w line t. let shut = t.single_closings in closings_told w line t.sound shut.connects (lawful-readied w line t)) no_rows (said_in bytes) lawful_none

pub emptied_run : (bytes : List ℕ) → RunEmptiesWithHandles bytes
emptied_run bytes = along-keeps EmptiesWithHandles (λ w line t. let shut = t.single_closings in line_empties w line t.sound shut.connects (lawful-readied w line t)) no_rows (said_in bytes) lawful_none

pub withdrawn_run : (bytes : List ℕ) → RunWithdrawsWithWaits bytes
withdrawn_run bytes = along-keeps (λ w line. WithdrawsWithWaits (steps line w)) (λ w line t. let shut = t.single_closings in line_withdraws w line t.sound shut.connects (lawful-readied w line t)) no_rows (said_in bytes) lawful_none

pub deaths_told_run : (bytes : List ℕ) → RunTellsDeaths bytes
deaths_told_run bytes = along-keeps DeathsAreTold (λ w line t. deaths_told w line t.sound t.threads (lawful-once w line t) (lawful-readied w line t)) no_rows (said_in bytes) lawful_none

pub leaves_nothing_run : (bytes : List ℕ) → RunLeavesNothing bytes
leaves_nothing_run bytes = trace-keeps LeavesNothing (λ w t. bare w t.sound t.linked t.held t.queues t.living t.views t.ports t.pairs) no_rows (said_in bytes) lawful_none

pub living_registrations_run : (bytes : List ℕ) → RunHasLivingRegistrations bytes
living_registrations_run bytes = trace-keeps HasLivingRegistrations (λ w t. t.registrations) no_rows (said_in bytes) lawful_none

pub single_registrations_run : (bytes : List ℕ) → RunHasSingleRegistrations bytes
single_registrations_run bytes = trace-keeps HasSingleRegistrations (λ w t. t.single) no_rows (said_in bytes) lawful_none

pub views_run : (bytes : List ℕ) → RunKeepsViews bytes
views_run bytes = trace-keeps HasSoundViews (λ w t. t.sound_views) no_rows (said_in bytes) lawful_none

pub offers_run : (bytes : List ℕ) → RunKeepsOffers bytes
offers_run bytes = trace-keeps HasSoundOffers (λ w t. t.sound_offers) no_rows (said_in bytes) lawful_none

pub allowing_run : (bytes : List ℕ) → RunHasAllowingClients bytes
allowing_run bytes = trace-keeps HasAllowingClients (λ w t. t.clients) no_rows (said_in bytes) lawful_none

pub client_ends_run : (bytes : List ℕ) → RunHasClientEnds bytes
client_ends_run bytes = trace-keeps HasClientEnds (λ w t. t.ends) no_rows (said_in bytes) lawful_none

pub unserved_alone : (w : World) → IsLawfulWorld w → RefusesUnservedAlone w
unserved_alone w t = refuses_unserved w t.sound t.linked t.clients t.ends

pub unserved_run : (bytes : List ℕ) → RunRefusesUnservedAlone bytes
unserved_run bytes = trace-keeps RefusesUnservedAlone unserved_alone no_rows (said_in bytes) lawful_none
