-- What is told of threads that have ended, and what a process ends by, makes no thread live.
use Rattle.std.proofs.Common.{◌≡◌, ℕ, ◌≤◌, Option, Some, None, refl}
use Rattle.lpc_base.specs.Rows.{count, given}
use Rattle.lpc_base.proofs.RowWords.{every-append}
use Rattle.lpc_model.specs.Basics.{LetsGo, Unregisters, basic, in_turn}
use Rattle.lpc_model.specs.Close.{close_handle}
use Rattle.lpc_model.specs.Death.{end_process}
use Rattle.lpc_model.specs.Entering.{enter}
use Rattle.lpc_model.specs.Found.{handles_of}
use Rattle.lpc_model.specs.Listed.{Listed}
use Rattle.lpc_model.specs.World.{MessageRow, World}
use Rattle.lpc_model.proofs.Steps.Ending.{AreEnding, ending-enter, handle-ending, is_ending, turn-pass}
use Rattle.lpc_rows.specs.Does.{Took}
use Rattle.lpc_rows.specs.Kept.{Kept, is_alive}
use Rattle.lpc_rows.specs.Registered.{Death, untold_of}
use Rattle.lpc_closing.proofs.Lives.{took-lives}
use Rattle.lpc_death.specs.Dying.{telling_all, telling_one, told_row}

told-ending : (u : Death) (w : World) → AreEnding (telling_one u w)
told-ending u w = at (told_row (basic w (Unregisters u.client.thread u.port)) u)
  where
    at : (o : Option MessageRow) → AreEnding (given o (λ m. enter m (basic w (Unregisters u.client.thread u.port))))
    at None = refl
    at (Some m) = ending-enter m (basic w (Unregisters u.client.thread u.port))

pub told-lives : (pid : ℕ) (old new : Kept) (before after : Listed) → Took (telling_all pid old.rows) old new before after → count is_alive new.rows.threads ≤ count is_alive old.rows.threads
told-lives pid old new before after took = took-lives (telling_all pid old.rows) old new before after (turn-pass is_ending telling_one (λ u v. told-ending u v) (untold_of old.rows pid) old.rows) took

pub closed-lives : (pid : ℕ) (old new : Kept) (before after : Listed) → Took (end_process pid old.rows) old new before after → count is_alive new.rows.threads ≤ count is_alive old.rows.threads
closed-lives pid old new before after took =
    let u = basic old.rows (LetsGo pid) in
    took-lives (end_process pid old.rows) old new before after
    (every-append is_ending (in_turn (close_handle pid) (handles_of u pid) u) _ (turn-pass is_ending (close_handle pid) (λ r v. handle-ending pid r v) (handles_of u pid) u) refl) took
