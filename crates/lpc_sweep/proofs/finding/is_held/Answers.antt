use Rattle.std.proofs.Common.{not, ap, sym, ◌∙◌}
use Rattle.lpc_rows.specs.Clauses.{birth_at, port_at}
use Rattle.lpc_rows.specs.Names.{name_of}
use Rattle.lpc_sweep.proofs.HeldPorts.{paired_held, used_as}
use Rattle.lpc_sweep.proofs.finding.is_held.Goals as goal

pub returns-in-Some : goal.returns-in-Some
returns-in-Some c =
    let w = c.args.world.now in
    let port = c.args.port in
    let pair = rw c.in-Some.is at c.port.ensures.pair in
    sym (ap not (paired_held w.rows (birth_at w port) (birth_at w c.in-Some.field-0) (port_at w port) c.requires.can c.port.ensures.found c.port.ensures.birth pair))

pub returns : goal.returns
returns c = c.is_used.ensures ∙ used_as c.args.world.now.rows (name_of c.args.world.now.births.ports c.args.port) c.requires.can
