use Rattle.std.proofs.Common.{sym, ◌∙◌}
use Rattle.lpc_model.specs.Found.{live_thread}
use Rattle.lpc_model.specs.World.{World}
use Rattle.lpc_rows.specs.Callers.{as_caller}
use Rattle.lpc_rows.specs.Kept.{rows_by}
use Rattle.lpc_rows.specs.Shown.{tables_of}
use Rattle.lpc_rows.proofs.Callers.{is_called, live-called}
use Rattle.lpc_rows.proofs.Finds as finds
use Rattle.lpc_rows.proofs.Readings.{none_before}
use Rattle.lpc_world.proofs.world.World.caller.Goals as goal

pub unreachable-requires : goal.unreachable-requires
unreachable-requires c =
    let w : World = rows_by (tables_of c.self.inside.procs c.self.inside.parts.items c.self.inside.ports c.self.inside.waits c.self.inside.names c.self.inside.sections c.self.inside.tokens c.self.inside.token_names c.self.inside.marks) in
    let ready = rw (← c.self.view_is) at c.requires in
    finds.not_ready w c.args.tid ready (none_before as_caller (live_thread w c.args.tid) (live-called c.args.tid c.self.inside.procs.threads ∙ sym c.live_row.ensures.row ∙ c.in-None.is))

pub returns-clause-row : goal.returns-clause-row
returns-clause-row c =
    let w : World = rows_by (tables_of c.self.inside.procs c.self.inside.parts.items c.self.inside.ports c.self.inside.waits c.self.inside.names c.self.inside.sections c.self.inside.tokens c.self.inside.token_names c.self.inside.marks) in
    let it = is_called w c.args.tid c.in-Some.row c.self.invariant.kept.lawful.housed c.self.invariant.kept.drawn.threads_single (live-called c.args.tid c.self.inside.procs.threads ∙ sym c.live_row.ensures.row ∙ c.in-Some.is) in
    rw (← c.self.view_is) it.row

pub returns-clause-number : goal.returns-clause-number
returns-clause-number c =
    let w : World = rows_by (tables_of c.self.inside.procs c.self.inside.parts.items c.self.inside.ports c.self.inside.waits c.self.inside.names c.self.inside.sections c.self.inside.tokens c.self.inside.token_names c.self.inside.marks) in
    let it = is_called w c.args.tid c.in-Some.row c.self.invariant.kept.lawful.housed c.self.invariant.kept.drawn.threads_single (live-called c.args.tid c.self.inside.procs.threads ∙ sym c.live_row.ensures.row ∙ c.in-Some.is) in
    it.number

pub returns-clause-found : goal.returns-clause-found
returns-clause-found c =
    let w : World = rows_by (tables_of c.self.inside.procs c.self.inside.parts.items c.self.inside.ports c.self.inside.waits c.self.inside.names c.self.inside.sections c.self.inside.tokens c.self.inside.token_names c.self.inside.marks) in
    let it = is_called w c.args.tid c.in-Some.row c.self.invariant.kept.lawful.housed c.self.invariant.kept.drawn.threads_single (live-called c.args.tid c.self.inside.procs.threads ∙ sym c.live_row.ensures.row ∙ c.in-Some.is) in
    rw (← c.self.view_is) it.found

pub returns-clause-whole : goal.returns-clause-whole
returns-clause-whole c =
    let w : World = rows_by (tables_of c.self.inside.procs c.self.inside.parts.items c.self.inside.ports c.self.inside.waits c.self.inside.names c.self.inside.sections c.self.inside.tokens c.self.inside.token_names c.self.inside.marks) in
    let it = is_called w c.args.tid c.in-Some.row c.self.invariant.kept.lawful.housed c.self.invariant.kept.drawn.threads_single (live-called c.args.tid c.self.inside.procs.threads ∙ sym c.live_row.ensures.row ∙ c.in-Some.is) in
    rw (← c.self.view_is) it.whole

pub returns-clause-stands : goal.returns-clause-stands
returns-clause-stands c =
    let w : World = rows_by (tables_of c.self.inside.procs c.self.inside.parts.items c.self.inside.ports c.self.inside.waits c.self.inside.names c.self.inside.sections c.self.inside.tokens c.self.inside.token_names c.self.inside.marks) in
    let it = is_called w c.args.tid c.in-Some.row c.self.invariant.kept.lawful.housed c.self.invariant.kept.drawn.threads_single (live-called c.args.tid c.self.inside.procs.threads ∙ sym c.live_row.ensures.row ∙ c.in-Some.is) in
    rw (← c.self.view_is) it.there

pub returns-clause-process : goal.returns-clause-process
returns-clause-process c =
    let w : World = rows_by (tables_of c.self.inside.procs c.self.inside.parts.items c.self.inside.ports c.self.inside.waits c.self.inside.names c.self.inside.sections c.self.inside.tokens c.self.inside.token_names c.self.inside.marks) in
    let it = is_called w c.args.tid c.in-Some.row c.self.invariant.kept.lawful.housed c.self.invariant.kept.drawn.threads_single (live-called c.args.tid c.self.inside.procs.threads ∙ sym c.live_row.ensures.row ∙ c.in-Some.is) in
    rw (← c.self.view_is) it.process

pub returns-clause-table : goal.returns-clause-table
returns-clause-table c =
    let w : World = rows_by (tables_of c.self.inside.procs c.self.inside.parts.items c.self.inside.ports c.self.inside.waits c.self.inside.names c.self.inside.sections c.self.inside.tokens c.self.inside.token_names c.self.inside.marks) in
    let it = is_called w c.args.tid c.in-Some.row c.self.invariant.kept.lawful.housed c.self.invariant.kept.drawn.threads_single (live-called c.args.tid c.self.inside.procs.threads ∙ sym c.live_row.ensures.row ∙ c.in-Some.is) in
    rw (← c.self.view_is) it.table

pub returns-clause-live : goal.returns-clause-live
returns-clause-live c =
    let w : World = rows_by (tables_of c.self.inside.procs c.self.inside.parts.items c.self.inside.ports c.self.inside.waits c.self.inside.names c.self.inside.sections c.self.inside.tokens c.self.inside.token_names c.self.inside.marks) in
    let ready = rw (← c.self.view_is) at c.requires in
    rw (← c.self.view_is) (finds.lives_ready w c.args.tid ready)

pub returns-clause-few : goal.returns-clause-few
returns-clause-few c =
    let w : World = rows_by (tables_of c.self.inside.procs c.self.inside.parts.items c.self.inside.ports c.self.inside.waits c.self.inside.names c.self.inside.sections c.self.inside.tokens c.self.inside.token_names c.self.inside.marks) in
    let ready = rw (← c.self.view_is) at c.requires in
    rw (← c.self.view_is) (finds.few_wait w c.args.tid c.self.invariant.kept.lawful.single c.self.invariant.kept.lawful.threads ready)
