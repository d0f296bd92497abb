-- Behind each line of a run each row is held and nothing is left to settle, so behind a line that does nothing the world
-- settles nothing, and no row goes.
use Rattle.std.proofs.Common.{Bool, List, [], ap, arith, not, refl, suc, true, zero, ℕ, ◌∷◌, ◌≡◌}
use Rattle.std.specs.Prelude.{None, Option}
use Rattle.lpc_base.specs.Rows.{every, which}
use Rattle.lpc_model.specs.Basics.{entries_of}
use Rattle.lpc_model.specs.Lines.{ScriptLine}
use Rattle.lpc_model.specs.Linked.{HasHeldRows}
use Rattle.lpc_model.specs.Machine.{Stepped, bare_steps, step}
use Rattle.lpc_model.specs.Run.{line_step, world_behind}
use Rattle.lpc_model.specs.Settle.{IsSettled, is_doomed, most_turns, settle, turn, turns}
use Rattle.lpc_model.specs.Sweep.{sweep}
use Rattle.lpc_model.specs.World.{World}
use Rattle.lpc_model.specs.Lawful.{IsLawfulWorld}
use Rattle.lpc_model.proofs.Runs.{said-lawful}
use Rattle.lpc_model.proofs.Held.FreedPort.{step_swept, swept_none, unheld_none}

-- no row goes at the end of a line where each is held
pub held_sweep : (w : World) → HasHeldRows w → sweep w ≡ []
held_sweep w held = swept_none w (unheld_none w held)

-- nothing settles where no event is marked, and no live process is to end
none_which : {A : Type 0} (p : A → Bool) (xs : List A) → every (λ x. not (p x)) xs ≡ true → which p xs ≡ []
none_which p [] none = refl
none_which p (x ∷ xs) none = grind (arith, none_which p xs)

no_turn : (w : World) → IsSettled w → turn w ≡ None
no_turn w is = rw (is.marks, none_which (is_doomed w) w.processes is.doomed) refl

no_turns : (n : ℕ) (w : World) → turn w ≡ None → turns n w ≡ []
no_turns zero w none = refl
no_turns (suc n) w none = rw none refl

pub settled_none : (w : World) → IsSettled w → settle w ≡ []
unfolding settle
settled_none w is = no_turns (most_turns w) w (no_turn w is)

-- a step tells what it does before rows go
pub step_tells : (w : World) (line : ScriptLine) → (step w line).entries ≡ entries_of (bare_steps line w)
step_tells w line = ap (λ (s : Stepped). s.entries) (step_swept w line)

-- a world of a run is lawful
pub lawful_behind : (w : World) (lines : List (Option ScriptLine)) → IsLawfulWorld w → IsLawfulWorld (world_behind w lines)
unfolding world_behind
lawful_behind w [] r = r
lawful_behind w (line ∷ later) r = lawful_behind (line_step w line).world later (said-lawful w line r)
