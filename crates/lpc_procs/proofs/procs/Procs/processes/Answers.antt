use Rattle.std.proofs.Common.{sym, ◌∙◌}
use Rattle.std.proofs.lemmas.List.{length-map}
use Rattle.lpc_procs.specs.Kept.{rows_in}
use Rattle.lpc_procs.specs.declared.rows.Counted.{Counted}
use Rattle.lpc_procs.proofs.Keyed.{rows-length}
use Rattle.lpc_procs.proofs.procs.Procs.processes.Goals as goal

pub returns : goal.returns
returns c = record { count = rw (← c.self.view_is) (c.count.ensures.number ∙ sym (length-map (rows_in c.self.inside.processes) (λ (p : Counted). p.row) ∙ rows-length c.self.inside.processes)) }
