-- A process that is to end, as the code has it.
use Rattle.lpc_model.specs.Basics.{first_code}
use Rattle.lpc_model.specs.World.{ProcessRow}
use Rattle.lpc_procs.specs.declared.rows.Doomed.{Doomed}

-- its number, and the code with which it is to end
abbrev pub doomed_as : ProcessRow → Doomed
doomed_as p = record { number = p.number; code = first_code 0 p.doom }
