use Rattle.std.proofs.Common.{sym, ◌∙◌}
use Rattle.lpc_rows.specs.Shown.{tables_of}
use Rattle.lpc_rows.proofs.Readings as readings
use Rattle.lpc_rows.proofs.Unheld as unheld
use Rattle.lpc_world.proofs.world.World.datagrams.Goals as goal

pub sent_datagrams-requires : goal.sent_datagrams-requires
sent_datagrams-requires c = unheld.has_row (tables_of c.self.inside.procs c.self.inside.parts.items c.self.inside.ports c.self.inside.waits c.self.inside.names c.self.inside.sections c.self.inside.tokens c.self.inside.token_names c.self.inside.marks) c.self.invariant.kept.named c.args.port (rw (← c.self.view_is) at c.requires)

pub returns : goal.returns
returns c =
    let there = rw (← c.self.view_is) at c.requires in
    let is = readings.standing (tables_of c.self.inside.procs c.self.inside.parts.items c.self.inside.ports c.self.inside.waits c.self.inside.names c.self.inside.sections c.self.inside.tokens c.self.inside.token_names c.self.inside.marks) c.self.invariant.kept.named c.self.inside.parts.room c.self.inside.calls c.self.inside.made c.self.inside.loose c.args.port there in
    rw (← c.self.view_is, is.birth) (c.sent_datagrams.ensures ∙ sym (readings.datagrams_are (tables_of c.self.inside.procs c.self.inside.parts.items c.self.inside.ports c.self.inside.waits c.self.inside.names c.self.inside.sections c.self.inside.tokens c.self.inside.token_names c.self.inside.marks) c.self.invariant.kept.named c.args.port there))
