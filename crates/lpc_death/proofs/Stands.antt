-- A process stands while threads end and are told of.
use Rattle.std.proofs.Common.{◌≡◌, ◌∙◌, ℕ, List, [], ◌∷◌, Bool, true, false, Option, Some, None, refl, ap, arith}
use Rattle.lpc_base.specs.Rows.{every, given, has}
use Rattle.lpc_base.specs.declared.status.Status.{Status}
use Rattle.lpc_base.proofs.RowWords.{every-more}
use Rattle.lpc_model.specs.Basics.{AddsProcess, Basic, Dooms, DropsOwned, Empties, Frees, LetsGo, Marks, Receives, SetsDebug, SetsException, Takes, TakesConnect, Unbinds, Unregisters, Wakes, Withdraws, basic, in_turn, world_after}
use Rattle.lpc_model.specs.Death.{die}
use Rattle.lpc_model.specs.Entering.{enter}
use Rattle.lpc_model.specs.Found.{is_process}
use Rattle.lpc_model.specs.World.{MessageRow, ThreadRow, World}
use Rattle.lpc_model.proofs.Calls.Taking.{is_taking, taken_at_once, taking-entered}
use Rattle.lpc_model.proofs.Steps.Closing.{behind, takes_away}
use Rattle.lpc_model.proofs.Steps.Ending.{behind_dead, die-pass, turn-pass}
use Rattle.lpc_rows.specs.Clauses.{has_process}
use Rattle.lpc_rows.specs.Registered.{Death}
use Rattle.lpc_death.specs.Dying.{telling_one, told_row}

-- a step that leaves the rows of processes as they are
abbrev keeps_processes : Basic → Bool
keeps_processes (AddsProcess p) = false
keeps_processes (SetsDebug pid b) = false
keeps_processes (SetsException pid b) = false
keeps_processes (LetsGo pid) = false
keeps_processes (Dooms pid code) = false
keeps_processes (Frees o) = false
keeps_processes b = true

kept-away : (b : Basic) → takes_away b ≡ true → keeps_processes b ≡ true
kept-away (Wakes who call status fields) is = refl
kept-away (Withdraws who) is = refl
kept-away (Empties q) is = refl
kept-away (Unbinds b) is = refl
kept-away (DropsOwned b) is = refl
kept-away (Marks who) is = refl
kept-away b is = absurd (cc)

kept-taking : (b : Basic) → is_taking b ≡ true → keeps_processes b ≡ true
kept-taking (Takes queue) is = refl
kept-taking (TakesConnect queue) is = refl
kept-taking (Receives who queue) is = refl
kept-taking (Wakes who call status fields) is = refl
kept-taking b is = absurd (cc)

abbrev KeepProcesses : List Basic → Type 0
KeepProcesses bs = every keeps_processes bs ≡ true

kept-step : (w : World) (b : Basic) → keeps_processes b ≡ true → (basic w b).processes ≡ w.processes
kept-step w (AddsProcess p) is = absurd (cc)
kept-step w (SetsDebug pid b) is = absurd (cc)
kept-step w (SetsException pid b) is = absurd (cc)
kept-step w (LetsGo pid) is = absurd (cc)
kept-step w (Dooms pid code) is = absurd (cc)
kept-step w (Frees o) is = absurd (cc)
kept-step w b is = refl

kept-all : (w : World) (bs : List Basic) → KeepProcesses bs → (world_after w bs).processes ≡ w.processes
kept-all w [] all = refl
kept-all w (b ∷ bs) all =
    let here : keeps_processes b ≡ true = grind arith in
    let later : every keeps_processes bs ≡ true = grind arith in
    kept-all (basic w b) bs later ∙ kept-step w b here

-- threads that end
died-keep : (code : Status) (ts : List ThreadRow) (w : World) → KeepProcesses (in_turn (die code) ts w)
died-keep code ts w = turn-pass keeps_processes (die code) (λ t v. die-pass keeps_processes kept-away (λ n c. refl) (λ b. refl) code t v) ts w

pub died-process : (code : Status) (ts : List ThreadRow) (pid : ℕ) (w : World) → has_process w pid ≡ true → has_process (behind_dead code ts w) pid ≡ true
died-process code ts pid w there = ap (has (is_process pid)) (kept-all w (in_turn (die code) ts w) (died-keep code ts w)) ∙ there

-- what is told of them
kept-enter : (m : MessageRow) (w : World) → KeepProcesses (enter m w)
kept-enter m w = every-more is_taking keeps_processes kept-taking (taken_at_once m w) (taking-entered m w)

told-keep : (us : List Death) (w : World) → KeepProcesses (in_turn telling_one us w)
told-keep us w = turn-pass keeps_processes telling_one (λ u v. at (basic v (Unregisters u.client.thread u.port)) (told_row (basic v (Unregisters u.client.thread u.port)) u)) us w
  where
    at : (v : World) (o : Option MessageRow) → KeepProcesses (given o (λ m. enter m v))
    at v None = refl
    at v (Some m) = kept-enter m v

pub told-process : (us : List Death) (pid : ℕ) (w : World) → has_process w pid ≡ true → has_process (behind (in_turn telling_one us) w) pid ≡ true
told-process us pid w there = ap (has (is_process pid)) (kept-all w (in_turn telling_one us w) (told-keep us w)) ∙ there
