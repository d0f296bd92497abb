use Rattle.std.proofs.Common.{ap, sym, ◌∙◌}
use Rattle.lpc_handles.specs.Handles as handles
use Rattle.lpc_rows.specs.Shown.{tables_of}
use Rattle.lpc_rows.proofs.Readings as readings
use Rattle.lpc_world.proofs.world.World.handle.Goals as goal

pub handles_of-requires : goal.handles_of-requires
handles_of-requires c =
    let there = rw (← c.self.view_is) at c.requires in
    (sym (readings.table_is (tables_of c.self.inside.procs c.self.inside.parts.items c.self.inside.ports c.self.inside.waits c.self.inside.names c.self.inside.sections c.self.inside.tokens c.self.inside.token_names c.self.inside.marks) c.self.invariant.kept.named c.args.pid) ∙ there)

pub returns-clause-row : goal.returns-clause-row
returns-clause-row c =
    rw (← c.self.view_is) (readings.is_at (tables_of c.self.inside.procs c.self.inside.parts.items c.self.inside.ports c.self.inside.waits c.self.inside.names c.self.inside.sections c.self.inside.tokens c.self.inside.token_names c.self.inside.marks) c.self.invariant.kept.named c.args.pid c.args.value c.get.result (c.get.ensures ∙ ap (λ rows. handles.at rows c.args.value) (c.handles_of.ensures.rows))).row

pub returns-clause-stands : goal.returns-clause-stands
returns-clause-stands c =
    rw (← c.self.view_is) (readings.is_at (tables_of c.self.inside.procs c.self.inside.parts.items c.self.inside.ports c.self.inside.waits c.self.inside.names c.self.inside.sections c.self.inside.tokens c.self.inside.token_names c.self.inside.marks) c.self.invariant.kept.named c.args.pid c.args.value c.get.result (c.get.ensures ∙ ap (λ rows. handles.at rows c.args.value) (c.handles_of.ensures.rows))).object_stands

pub returns-clause-object : goal.returns-clause-object
returns-clause-object c =
    rw (← c.self.view_is) (readings.rows_of (tables_of c.self.inside.procs c.self.inside.parts.items c.self.inside.ports c.self.inside.waits c.self.inside.names c.self.inside.sections c.self.inside.tokens c.self.inside.token_names c.self.inside.marks) c.self.invariant.kept.named c.self.inside.parts.room c.self.inside.calls c.self.inside.made c.self.inside.loose c.get.result (readings.is_at (tables_of c.self.inside.procs c.self.inside.parts.items c.self.inside.ports c.self.inside.waits c.self.inside.names c.self.inside.sections c.self.inside.tokens c.self.inside.token_names c.self.inside.marks) c.self.invariant.kept.named c.args.pid c.args.value c.get.result (c.get.ensures ∙ ap (λ rows. handles.at rows c.args.value) (c.handles_of.ensures.rows))).object_stands)
