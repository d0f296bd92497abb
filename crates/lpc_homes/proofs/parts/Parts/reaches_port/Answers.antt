use Rattle.std.proofs.Common.{ap, ◌∙◌}
use Rattle.lpc_base.specs.Rows.{has}
use Rattle.lpc_homes.specs.Parts.{names_it}
use Rattle.lpc_homes.specs.declared.object.Object.TheVariants.{Port}
use Rattle.lpc_homes.proofs.Named.{named_has}
use Rattle.lpc_homes.proofs.parts.Parts.reaches_port.Goals as goal

pub returns : goal.returns
returns c = c.names.ensures ∙ named_has (Port c.args.port) c.handles_of.result.now.rows ∙ ap (has (names_it (Port c.args.port))) c.handles_of.ensures.rows
