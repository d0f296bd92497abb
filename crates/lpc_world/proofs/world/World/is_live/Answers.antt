use Rattle.std.proofs.Common.{refl, sym, ◌∙◌}
use Rattle.lpc_model.specs.Found as found
use Rattle.lpc_model.specs.Found.{fits_as, is_table, port_row, waits_as}
use Rattle.lpc_procs.specs.Procs as procs
use Rattle.lpc_rows.specs.Kept.{rows_by}
use Rattle.lpc_rows.specs.Shown.{shown_thread, tables_of}
use Rattle.lpc_rows.proofs.Finds as finds
use Rattle.lpc_rows.proofs.Readings as readings
use Rattle.lpc_world.proofs.world.World.is_live.Goals as goal

pub returns-clause-live : goal.returns-clause-live
returns-clause-live c =
    rw (← c.self.view_is) (c.is_live.ensures.live ∙ sym (readings.has-shown shown_thread (procs.lives_in c.args.pid) (found.lives_in c.args.pid) (λ t. refl) c.self.inside.procs.threads))

pub returns-clause-process : goal.returns-clause-process
returns-clause-process c =
    λ yes. rw (← c.self.view_is) (finds.live_process (rows_by (tables_of c.self.inside.procs c.self.inside.parts.items c.self.inside.ports c.self.inside.waits c.self.inside.names c.self.inside.sections c.self.inside.tokens c.self.inside.token_names c.self.inside.marks)) c.args.pid c.self.invariant.kept.lawful.housed (sym (c.is_live.ensures.live ∙ sym (readings.has-shown shown_thread (procs.lives_in c.args.pid) (found.lives_in c.args.pid) (λ t. refl) c.self.inside.procs.threads)) ∙ yes)).0

pub returns-clause-table : goal.returns-clause-table
returns-clause-table c =
    λ yes. rw (← c.self.view_is) (finds.live_process (rows_by (tables_of c.self.inside.procs c.self.inside.parts.items c.self.inside.ports c.self.inside.waits c.self.inside.names c.self.inside.sections c.self.inside.tokens c.self.inside.token_names c.self.inside.marks)) c.args.pid c.self.invariant.kept.lawful.housed (sym (c.is_live.ensures.live ∙ sym (readings.has-shown shown_thread (procs.lives_in c.args.pid) (found.lives_in c.args.pid) (λ t. refl) c.self.inside.procs.threads)) ∙ yes)).1
