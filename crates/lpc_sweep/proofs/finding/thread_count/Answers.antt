use Rattle.std.proofs.Common.{List, ap, length, sym, ◌∙◌}
use Rattle.std.proofs.lemmas.List.{length-map}
use Rattle.lpc_model.specs.World.{ThreadRow}
use Rattle.lpc_rows.specs.Shown.{shown_thread}
use Rattle.lpc_sweep.proofs.finding.thread_count.Goals as goal

pub returns : goal.returns
returns c = c.threads.ensures.count ∙ sym (ap (λ (ts : List ThreadRow). length ts) c.procs.ensures.threads ∙ length-map c.procs.result.now.threads shown_thread)
