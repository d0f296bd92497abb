use Rattle.std.proofs.Common.{ap, option_map}
use Rattle.lpc_procs.specs.declared.rows.ProcessRow.{ProcessRow}
use Rattle.lpc_procs.proofs.procs.Procs.process_born.Goals as goal

pub returns-in-Some : goal.returns-in-Some
returns-in-Some c = record { number = ap (option_map (λ (p : ProcessRow). p.number)) c.in-Some.ensures.process }

pub returns-in-None : goal.returns-in-None
returns-in-None c = record { number = ap (option_map (λ (p : ProcessRow). p.number)) c.in-None.ensures.process }
