-- A step leaves a settled world where it begins in one.
use Rattle.std.proofs.Common.{◌≡◌, List, [], false, ap, refl, sym, subst, ◌∙◌}
use Rattle.std.specs.Prelude.{◌++◌}
use Rattle.lpc_model.specs.declared.entry.Entry.{Entry}
use Rattle.lpc_model.specs.World.{World, no_rows}
use Rattle.lpc_model.specs.Basics.{entries_of, world_after}
use Rattle.lpc_model.specs.Lawful.{IsLawfulWorld}
use Rattle.lpc_model.specs.Left.{LeavesNothing}
use Rattle.lpc_model.specs.Lines.{ScriptLine}
use Rattle.lpc_model.specs.Machine.{Stepped, bare_steps, step}
use Rattle.lpc_model.specs.Sweep.{loosened, sweep, unheld}
use Rattle.lpc_model.proofs.Lives.Bare.{bare}
use Rattle.lpc_model.proofs.Held.Lines.{quiet_line}
use Rattle.lpc_model.proofs.Runs.{lawful_none, lawful_step}
use Rattle.lpc_model.proofs.Held.FreedPort.{step_swept}
use Rattle.lpc_model.proofs.Steps.InTurn.{after-append}
use Rattle.lpc_rows.specs.Does.{Left, left_by}
use Rattle.lpc_rows.specs.Kept.{Kept, Same}
use Rattle.lpc_sweep.specs.Sweeping.{CanSweep}
use Rattle.lpc_machine.specs.Settled.{IsSettled}
use Rattle.lpc_machine.specs.Unsettling.{HasUsedProcesses}
use Rattle.lpc_machine.proofs.Calm.{used-all}
use Rattle.lpc_machine.proofs.Turning.{can-sweep}

-- behind the steps of a line the world can be swept, and need not be where no row went
module _ (old taken : Kept) (before list : List Entry) (line : ScriptLine) (s : IsSettled old) (empty : before ≡ [])
    (takes : let end : Left = record { world = taken.rows; entries = list; loose = taken.loose } in end ≡ left_by old.rows before old.loose (bare_steps line old.rows)) where
  pub rows_are : taken.rows ≡ world_after old.rows (bare_steps line old.rows)
  rows_are = ap (λ (l : Left). l.world) takes

  pub can_sweep : CanSweep taken.rows
  can_sweep = subst CanSweep (sym rows_are) (can-sweep old.rows line s.lawful)

  pub is_still : taken.loose ≡ false → unheld taken.rows ≡ []
  is_still none =
      let loose_is : taken.loose ≡ loosened false (bare_steps line old.rows) = ap (λ (l : Left). l.loose) takes ∙ ap (λ b. loosened b (bare_steps line old.rows)) s.still in
      ap unheld rows_are ∙ (let t = s.lawful in quiet_line old.rows line t.sound t.held (sym loose_is ∙ none))

  -- the sweep leaves the world of the line's step
  pub swept_is : (new : World) → new ≡ world_after taken.rows (sweep taken.rows) → new ≡ (let e = step old.rows line in e.world)
  swept_is new is = is ∙ ap (λ (w : World). world_after w (sweep w)) rows_are ∙ sym (after-append old.rows (bare_steps line old.rows) (sweep (world_after old.rows (bare_steps line old.rows))))

  pub told_is : list ≡ (let e = step old.rows line in e.entries)
  told_is = ap (λ (l : Left). l.entries) takes ∙ ap (λ (es : List Entry). es ++ entries_of (bare_steps line old.rows)) empty ∙ sym (ap (λ (e : Stepped). e.entries) (step_swept old.rows line))

  pub stays_settled : (new : Kept) → new.rows ≡ world_after taken.rows (sweep taken.rows) → new.loose ≡ false → IsSettled new
  stays_settled new is still = record { lawful = subst IsLawfulWorld (sym (swept_is new.rows is)) (lawful_step old.rows line s.lawful); still = still; used = subst HasUsedProcesses (sym is) (used-all taken.rows (sweep taken.rows) (subst HasUsedProcesses (sym rows_are) (used-all old.rows (bare_steps line old.rows) s.used))) }

-- after want of memory it is as it was
pub stays_same : (old new : Kept) → Same old new → IsSettled old → IsSettled new
stays_same old new same s = record { lawful = subst IsLawfulWorld (sym same.rows) s.lawful; still = same.loose ∙ s.still; used = subst HasUsedProcesses (sym same.rows) s.used }

-- before the first line
pub settled_none : (new : Kept) → new.rows ≡ no_rows → new.loose ≡ false → IsSettled new
settled_none new is still = record { lawful = subst IsLawfulWorld (sym is) lawful_none; still = still; used = subst HasUsedProcesses (sym is) refl }

-- where no process lives nothing is left
pub leaves_nothing : (w : Kept) → IsSettled w → LeavesNothing w.rows
leaves_nothing w s = let t = s.lawful in bare w.rows t.sound t.linked t.held t.queues t.living t.views t.ports t.pairs
