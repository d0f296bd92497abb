-- Behind a line's own steps the world can settle.
use Rattle.std.proofs.Common.{◌≡◌, ◌∙◌, Bool, true, false, None, ap, refl, subst, sym}
use Rattle.std.specs.Prelude.{is_some}
use Rattle.lpc_model.specs.Basics.{world_after}
use Rattle.lpc_model.specs.Lines.{ScriptLine}
use Rattle.lpc_model.specs.Listed.{Listed}
use Rattle.lpc_model.specs.Machine.{own_steps}
use Rattle.lpc_model.specs.Settle.{turn}
use Rattle.lpc_rows.specs.Does.{Left, Took}
use Rattle.lpc_rows.specs.Kept.{Kept}
use Rattle.lpc_steps.specs.Settling.{CanSettle}
use Rattle.lpc_machine.specs.Settled.{IsSettled}
use Rattle.lpc_machine.specs.Turning.{IsTurning, MaySettle}
use Rattle.lpc_machine.specs.Unsettling.{unsettles}
use Rattle.lpc_machine.proofs.Calm.{settled-behind}
use Rattle.lpc_machine.proofs.Refused.{no_turn}
use Rattle.lpc_machine.proofs.Turning.{own-turning}

module _ (old taken : Kept) (line : ScriptLine) (before between : Listed) (s : IsSettled old) (takes : Took (own_steps line old.rows) old taken before between) where
  rows_are : taken.rows ≡ world_after old.rows (own_steps line old.rows)
  rows_are = ap (λ (l : Left). l.world) takes

  pub settle-begins : IsTurning taken.rows
  settle-begins = subst IsTurning (sym rows_are) (own-turning old.rows line s.lawful)

  -- where something is due there is room for it
  pub may-settle : (unsettles old.rows line ≡ true → CanSettle taken between) → MaySettle taken between
  may-settle can due = at (unsettles old.rows line) refl
    where
      never : (o : Bool) → o ≡ true → o ≡ false → ⊥
      never o one two = absurd (cc)

      at : (c : Bool) → unsettles old.rows line ≡ c → CanSettle taken between
      at true is = can is
      at false is =
          let t = s.lawful in
          let none : turn taken.rows ≡ None = ap turn rows_are ∙ no_turn _ (settled-behind old.rows line t.sound is s.used t.settled) in
          absurd (never (is_some (turn taken.rows)) due (ap is_some none))
