use Rattle.std.proofs.Common.{List, ap, length, sym, ◌∙◌}
use Rattle.std.proofs.lemmas.List.{length-map}
use Rattle.lpc_model.specs.World.{ProcessRow}
use Rattle.lpc_rows.specs.Shown.{shown_process}
use Rattle.lpc_sweep.proofs.finding.process_count.Goals as goal

pub returns : goal.returns
returns c = c.processes.ensures.count ∙ sym (ap (λ (ps : List ProcessRow). length ps) c.procs.ensures.processes ∙ length-map c.procs.result.now.processes shown_process)
