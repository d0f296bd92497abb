use Rattle.std.proofs.Common.{List, ap, length, sym, ◌∙◌}
use Rattle.std.proofs.lemmas.List.{length-map}
use Rattle.lpc_model.specs.World.{PortRow}
use Rattle.lpc_rows.specs.Shown.{birth_of, shown_port}
use Rattle.lpc_sweep.proofs.finding.port_count.Goals as goal

pub returns : goal.returns
returns c = c.count.ensures ∙ sym (ap (λ (ps : List PortRow). length ps) c.ports.ensures.ports ∙ length-map c.ports.result.now.ports (shown_port (birth_of c.args.world.now.births)))
