-- The world between two lines.
use Rattle.std.specs.Prelude.{◌≡◌, false}
use Rattle.lpc_model.specs.Lawful.{IsLawfulWorld}
use Rattle.lpc_machine.specs.Unsettling.{HasUsedProcesses}
use Rattle.lpc_rows.specs.Kept.{Kept}

-- what each line leaves: what the definitions' lines keep, nothing went since the last sweep, and the number of each process
-- was used
pub record IsSettled (w : Kept) : Type 0 where
  pub lawful : IsLawfulWorld w.rows
  pub still : w.loose ≡ false
  pub used : HasUsedProcesses w.rows
