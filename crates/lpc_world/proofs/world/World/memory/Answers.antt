use Rattle.std.proofs.Common.{sym, ◌∙◌}
use Rattle.lpc_rows.specs.Shown.{tables_of}
use Rattle.lpc_rows.proofs.Readings as readings
use Rattle.lpc_rows.proofs.ViewBytes as bytes
use Rattle.lpc_world.proofs.world.World.memory.Goals as goal

pub views_of-requires : goal.views_of-requires
views_of-requires c =
    let there = rw (← c.self.view_is) at c.requires.table in
    (sym (readings.table_is (tables_of c.self.inside.procs c.self.inside.parts.items c.self.inside.ports c.self.inside.waits c.self.inside.names c.self.inside.sections c.self.inside.tokens c.self.inside.token_names c.self.inside.marks) c.self.invariant.kept.named c.args.pid) ∙ there)

pub slice-requires : goal.slice-requires
slice-requires c = record { mapped = rw (c.views_of.ensures.views) (bytes.mapped_at (tables_of c.self.inside.procs c.self.inside.parts.items c.self.inside.ports c.self.inside.waits c.self.inside.names c.self.inside.sections c.self.inside.tokens c.self.inside.token_names c.self.inside.marks) c.self.inside.calls c.self.inside.made c.self.invariant.kept c.args.pid) }

pub returns-clause-bytes : goal.returns-clause-bytes
returns-clause-bytes c = rw (← c.self.view_is, bytes.bytes_seen (tables_of c.self.inside.procs c.self.inside.parts.items c.self.inside.ports c.self.inside.waits c.self.inside.names c.self.inside.sections c.self.inside.tokens c.self.inside.token_names c.self.inside.marks) c.self.inside.calls c.self.inside.made c.self.invariant.kept c.args.pid c.args.address c.args.len, ← (c.views_of.ensures.views)) c.slice.ensures.bytes

pub returns-clause-fault : goal.returns-clause-fault
returns-clause-fault c =
    let none = bytes.none_held (tables_of c.self.inside.procs c.self.inside.parts.items c.self.inside.ports c.self.inside.waits c.self.inside.names c.self.inside.sections c.self.inside.tokens c.self.inside.token_names c.self.inside.marks) c.self.inside.calls c.self.inside.made c.self.invariant.kept c.args.pid c.args.address c.args.len in
    let fault = rw (c.views_of.ensures.views) at c.slice.ensures.fault in
    rw (← c.self.view_is) (λ e. none.1 (fault.0 e), λ h. fault.1 (none.0 h))
