use Rattle.std.proofs.Common.{ap, sym, ◌∙◌, map}
use Rattle.lpc_rows.specs.Shown.{birth_of, births_of, shown_handle, tables_of}
use Rattle.lpc_rows.proofs.Readings as readings
use Rattle.lpc_rows.proofs.Tables as tables
use Rattle.lpc_world.proofs.world.World.handles.Goals as goal

pub handles_of-requires : goal.handles_of-requires
handles_of-requires c =
    let there = rw (← c.self.view_is) at c.requires in
    (sym (readings.table_is (tables_of c.self.inside.procs c.self.inside.parts.items c.self.inside.ports c.self.inside.waits c.self.inside.names c.self.inside.sections c.self.inside.tokens c.self.inside.token_names c.self.inside.marks) c.self.invariant.kept.named c.args.pid) ∙ there)

pub returns-clause-rows : goal.returns-clause-rows
returns-clause-rows c =
    rw (← c.self.view_is) (readings.handles_are (tables_of c.self.inside.procs c.self.inside.parts.items c.self.inside.ports c.self.inside.waits c.self.inside.names c.self.inside.sections c.self.inside.tokens c.self.inside.token_names c.self.inside.marks) c.self.invariant.kept.named c.args.pid
    ∙ ap (map (shown_handle (birth_of (births_of (tables_of c.self.inside.procs c.self.inside.parts.items c.self.inside.ports c.self.inside.waits c.self.inside.names c.self.inside.sections c.self.inside.tokens c.self.inside.token_names c.self.inside.marks))))) (sym (c.handles_of.ensures.rows)))

pub returns-clause-load : goal.returns-clause-load
returns-clause-load c =
    let there = rw (← c.self.view_is) at c.requires in
    rw (← c.self.view_is) (tables.load_bound (tables_of c.self.inside.procs c.self.inside.parts.items c.self.inside.ports c.self.inside.waits c.self.inside.names c.self.inside.sections c.self.inside.tokens c.self.inside.token_names c.self.inside.marks) c.self.inside.calls c.self.inside.made c.self.invariant.kept c.args.pid there)
