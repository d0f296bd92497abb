use Rattle.std.proofs.Common.{sym, ◌∙◌}
use Rattle.lpc_rows.proofs.Connecting as connecting
use Rattle.lpc_rows.proofs.Readings as readings
use Rattle.lpc_rows.specs.Shown.{tables_of}
use Rattle.lpc_world.proofs.world.World.reaches.Goals as goal

pub reaches_port-requires : goal.reaches_port-requires
reaches_port-requires c =
    let there = rw (← c.self.view_is) at c.requires.table in
    (sym (readings.table_is (tables_of c.self.inside.procs c.self.inside.parts.items c.self.inside.ports c.self.inside.waits c.self.inside.names c.self.inside.sections c.self.inside.tokens c.self.inside.token_names c.self.inside.marks) c.self.invariant.kept.named c.args.pid) ∙ there)

pub returns : goal.returns
returns c =
    let there = rw (← c.self.view_is) at c.requires.port in
    rw (← c.self.view_is) (c.reaches_port.ensures
    ∙ sym (connecting.reached (tables_of c.self.inside.procs c.self.inside.parts.items c.self.inside.ports c.self.inside.waits c.self.inside.names c.self.inside.sections c.self.inside.tokens c.self.inside.token_names c.self.inside.marks) c.self.invariant.kept.named c.args.pid c.args.port there))
