use Rattle.std.proofs.Common.{option_map, ap, sym, ◌∙◌}
use Rattle.lpc_base.specs.Rows.{first}
use Rattle.lpc_base.proofs.RowMaps.{mapped-twice}
use Rattle.lpc_model.specs.Entering.{takes_from}
use Rattle.lpc_model.specs.World as model
use Rattle.lpc_waits.specs.Table as waits
use Rattle.lpc_rows.specs.Kept.{rows_by}
use Rattle.lpc_rows.specs.Names.{name_of}
use Rattle.lpc_rows.specs.Shown.{birth_of, births_of, shown_wait, tables_of}
use Rattle.lpc_rows.proofs.OwnMessages.{none-queued_if}
use Rattle.lpc_rows.proofs.Finds as finds
use Rattle.lpc_rows.proofs.Follows as follows
use Rattle.lpc_world.proofs.world.World.receiver.Goals as goal

pub returns-clause-found : goal.returns-clause-found
returns-clause-found c =
    let there = rw (← c.self.view_is) at c.requires in
    rw (← c.self.view_is) (finds.found_wait (rows_by (tables_of c.self.inside.procs c.self.inside.parts.items c.self.inside.ports c.self.inside.waits c.self.inside.names c.self.inside.sections c.self.inside.tokens c.self.inside.token_names c.self.inside.marks)) (takes_from (name_of (births_of (tables_of c.self.inside.procs c.self.inside.parts.items c.self.inside.ports c.self.inside.waits c.self.inside.names c.self.inside.sections c.self.inside.tokens c.self.inside.token_names c.self.inside.marks)).ports c.args.queue) c.args.is_connection_request) c.first_on.result c.self.invariant.kept.lawful.single (finds.taker_off (name_of (births_of (tables_of c.self.inside.procs c.self.inside.parts.items c.self.inside.ports c.self.inside.waits c.self.inside.names c.self.inside.sections c.self.inside.tokens c.self.inside.token_names c.self.inside.marks)).ports c.args.queue) c.args.is_connection_request) (c.first_on.ensures ∙ sym (ap (λ o. option_map (λ (x : model.WaitRow). x.thread) o) (follows.first_taker (tables_of c.self.inside.procs c.self.inside.parts.items c.self.inside.ports c.self.inside.waits c.self.inside.names c.self.inside.sections c.self.inside.tokens c.self.inside.token_names c.self.inside.marks) c.self.invariant.kept.named c.args.queue c.args.is_connection_request there) ∙ mapped-twice (shown_wait (birth_of (births_of (tables_of c.self.inside.procs c.self.inside.parts.items c.self.inside.ports c.self.inside.waits c.self.inside.names c.self.inside.sections c.self.inside.tokens c.self.inside.token_names c.self.inside.marks)))) (λ (x : model.WaitRow). x.thread) (first (waits.is_taker_on c.args.queue c.args.is_connection_request) c.self.inside.waits.rows)))).found

pub returns-clause-waits : goal.returns-clause-waits
returns-clause-waits c =
    let there = rw (← c.self.view_is) at c.requires in
    rw (← c.self.view_is) (finds.found_wait (rows_by (tables_of c.self.inside.procs c.self.inside.parts.items c.self.inside.ports c.self.inside.waits c.self.inside.names c.self.inside.sections c.self.inside.tokens c.self.inside.token_names c.self.inside.marks)) (takes_from (name_of (births_of (tables_of c.self.inside.procs c.self.inside.parts.items c.self.inside.ports c.self.inside.waits c.self.inside.names c.self.inside.sections c.self.inside.tokens c.self.inside.token_names c.self.inside.marks)).ports c.args.queue) c.args.is_connection_request) c.first_on.result c.self.invariant.kept.lawful.single (finds.taker_off (name_of (births_of (tables_of c.self.inside.procs c.self.inside.parts.items c.self.inside.ports c.self.inside.waits c.self.inside.names c.self.inside.sections c.self.inside.tokens c.self.inside.token_names c.self.inside.marks)).ports c.args.queue) c.args.is_connection_request) (c.first_on.ensures ∙ sym (ap (λ o. option_map (λ (x : model.WaitRow). x.thread) o) (follows.first_taker (tables_of c.self.inside.procs c.self.inside.parts.items c.self.inside.ports c.self.inside.waits c.self.inside.names c.self.inside.sections c.self.inside.tokens c.self.inside.token_names c.self.inside.marks) c.self.invariant.kept.named c.args.queue c.args.is_connection_request there) ∙ mapped-twice (shown_wait (birth_of (births_of (tables_of c.self.inside.procs c.self.inside.parts.items c.self.inside.ports c.self.inside.waits c.self.inside.names c.self.inside.sections c.self.inside.tokens c.self.inside.token_names c.self.inside.marks)))) (λ (x : model.WaitRow). x.thread) (first (waits.is_taker_on c.args.queue c.args.is_connection_request) c.self.inside.waits.rows)))).waits

pub returns-clause-thread : goal.returns-clause-thread
returns-clause-thread c =
    let there = rw (← c.self.view_is) at c.requires in
    rw (← c.self.view_is) (finds.found_wait (rows_by (tables_of c.self.inside.procs c.self.inside.parts.items c.self.inside.ports c.self.inside.waits c.self.inside.names c.self.inside.sections c.self.inside.tokens c.self.inside.token_names c.self.inside.marks)) (takes_from (name_of (births_of (tables_of c.self.inside.procs c.self.inside.parts.items c.self.inside.ports c.self.inside.waits c.self.inside.names c.self.inside.sections c.self.inside.tokens c.self.inside.token_names c.self.inside.marks)).ports c.args.queue) c.args.is_connection_request) c.first_on.result c.self.invariant.kept.lawful.single (finds.taker_off (name_of (births_of (tables_of c.self.inside.procs c.self.inside.parts.items c.self.inside.ports c.self.inside.waits c.self.inside.names c.self.inside.sections c.self.inside.tokens c.self.inside.token_names c.self.inside.marks)).ports c.args.queue) c.args.is_connection_request) (c.first_on.ensures ∙ sym (ap (λ o. option_map (λ (x : model.WaitRow). x.thread) o) (follows.first_taker (tables_of c.self.inside.procs c.self.inside.parts.items c.self.inside.ports c.self.inside.waits c.self.inside.names c.self.inside.sections c.self.inside.tokens c.self.inside.token_names c.self.inside.marks) c.self.invariant.kept.named c.args.queue c.args.is_connection_request there) ∙ mapped-twice (shown_wait (birth_of (births_of (tables_of c.self.inside.procs c.self.inside.parts.items c.self.inside.ports c.self.inside.waits c.self.inside.names c.self.inside.sections c.self.inside.tokens c.self.inside.token_names c.self.inside.marks)))) (λ (x : model.WaitRow). x.thread) (first (waits.is_taker_on c.args.queue c.args.is_connection_request) c.self.inside.waits.rows)))).thread

pub returns-clause-idle : goal.returns-clause-idle
returns-clause-idle c =
    let there = rw (← c.self.view_is) at c.requires in
    rw (← c.self.view_is) (finds.found_wait (rows_by (tables_of c.self.inside.procs c.self.inside.parts.items c.self.inside.ports c.self.inside.waits c.self.inside.names c.self.inside.sections c.self.inside.tokens c.self.inside.token_names c.self.inside.marks)) (takes_from (name_of (births_of (tables_of c.self.inside.procs c.self.inside.parts.items c.self.inside.ports c.self.inside.waits c.self.inside.names c.self.inside.sections c.self.inside.tokens c.self.inside.token_names c.self.inside.marks)).ports c.args.queue) c.args.is_connection_request) c.first_on.result c.self.invariant.kept.lawful.single (finds.taker_off (name_of (births_of (tables_of c.self.inside.procs c.self.inside.parts.items c.self.inside.ports c.self.inside.waits c.self.inside.names c.self.inside.sections c.self.inside.tokens c.self.inside.token_names c.self.inside.marks)).ports c.args.queue) c.args.is_connection_request) (c.first_on.ensures ∙ sym (ap (λ o. option_map (λ (x : model.WaitRow). x.thread) o) (follows.first_taker (tables_of c.self.inside.procs c.self.inside.parts.items c.self.inside.ports c.self.inside.waits c.self.inside.names c.self.inside.sections c.self.inside.tokens c.self.inside.token_names c.self.inside.marks) c.self.invariant.kept.named c.args.queue c.args.is_connection_request there) ∙ mapped-twice (shown_wait (birth_of (births_of (tables_of c.self.inside.procs c.self.inside.parts.items c.self.inside.ports c.self.inside.waits c.self.inside.names c.self.inside.sections c.self.inside.tokens c.self.inside.token_names c.self.inside.marks)))) (λ (x : model.WaitRow). x.thread) (first (waits.is_taker_on c.args.queue c.args.is_connection_request) c.self.inside.waits.rows)))).idle

pub returns-clause-left : goal.returns-clause-left
returns-clause-left c =
    let there = rw (← c.self.view_is) at c.requires in
    rw (← c.self.view_is) (none-queued_if (rows_by (tables_of c.self.inside.procs c.self.inside.parts.items c.self.inside.ports c.self.inside.waits c.self.inside.names c.self.inside.sections c.self.inside.tokens c.self.inside.token_names c.self.inside.marks)) c.first_on.result c.self.invariant.kept.lawful.own ((finds.found_wait (rows_by (tables_of c.self.inside.procs c.self.inside.parts.items c.self.inside.ports c.self.inside.waits c.self.inside.names c.self.inside.sections c.self.inside.tokens c.self.inside.token_names c.self.inside.marks)) (takes_from (name_of (births_of (tables_of c.self.inside.procs c.self.inside.parts.items c.self.inside.ports c.self.inside.waits c.self.inside.names c.self.inside.sections c.self.inside.tokens c.self.inside.token_names c.self.inside.marks)).ports c.args.queue) c.args.is_connection_request) c.first_on.result c.self.invariant.kept.lawful.single (finds.taker_off (name_of (births_of (tables_of c.self.inside.procs c.self.inside.parts.items c.self.inside.ports c.self.inside.waits c.self.inside.names c.self.inside.sections c.self.inside.tokens c.self.inside.token_names c.self.inside.marks)).ports c.args.queue) c.args.is_connection_request) (c.first_on.ensures ∙ sym (ap (λ o. option_map (λ (x : model.WaitRow). x.thread) o) (follows.first_taker (tables_of c.self.inside.procs c.self.inside.parts.items c.self.inside.ports c.self.inside.waits c.self.inside.names c.self.inside.sections c.self.inside.tokens c.self.inside.token_names c.self.inside.marks) c.self.invariant.kept.named c.args.queue c.args.is_connection_request there) ∙ mapped-twice (shown_wait (birth_of (births_of (tables_of c.self.inside.procs c.self.inside.parts.items c.self.inside.ports c.self.inside.waits c.self.inside.names c.self.inside.sections c.self.inside.tokens c.self.inside.token_names c.self.inside.marks)))) (λ (x : model.WaitRow). x.thread) (first (waits.is_taker_on c.args.queue c.args.is_connection_request) c.self.inside.waits.rows)))).idle))

pub returns-clause-takes : goal.returns-clause-takes
returns-clause-takes c =
    let there = rw (← c.self.view_is) at c.requires in
    rw (← c.self.view_is) (finds.found_wait (rows_by (tables_of c.self.inside.procs c.self.inside.parts.items c.self.inside.ports c.self.inside.waits c.self.inside.names c.self.inside.sections c.self.inside.tokens c.self.inside.token_names c.self.inside.marks)) (takes_from (name_of (births_of (tables_of c.self.inside.procs c.self.inside.parts.items c.self.inside.ports c.self.inside.waits c.self.inside.names c.self.inside.sections c.self.inside.tokens c.self.inside.token_names c.self.inside.marks)).ports c.args.queue) c.args.is_connection_request) c.first_on.result c.self.invariant.kept.lawful.single (finds.taker_off (name_of (births_of (tables_of c.self.inside.procs c.self.inside.parts.items c.self.inside.ports c.self.inside.waits c.self.inside.names c.self.inside.sections c.self.inside.tokens c.self.inside.token_names c.self.inside.marks)).ports c.args.queue) c.args.is_connection_request) (c.first_on.ensures ∙ sym (ap (λ o. option_map (λ (x : model.WaitRow). x.thread) o) (follows.first_taker (tables_of c.self.inside.procs c.self.inside.parts.items c.self.inside.ports c.self.inside.waits c.self.inside.names c.self.inside.sections c.self.inside.tokens c.self.inside.token_names c.self.inside.marks) c.self.invariant.kept.named c.args.queue c.args.is_connection_request there) ∙ mapped-twice (shown_wait (birth_of (births_of (tables_of c.self.inside.procs c.self.inside.parts.items c.self.inside.ports c.self.inside.waits c.self.inside.names c.self.inside.sections c.self.inside.tokens c.self.inside.token_names c.self.inside.marks)))) (λ (x : model.WaitRow). x.thread) (first (waits.is_taker_on c.args.queue c.args.is_connection_request) c.self.inside.waits.rows)))).passes

pub returns-clause-quiet : goal.returns-clause-quiet
returns-clause-quiet c =
    let there = rw (← c.self.view_is) at c.requires in
    rw (← c.self.view_is) (finds.still_found (rows_by (tables_of c.self.inside.procs c.self.inside.parts.items c.self.inside.ports c.self.inside.waits c.self.inside.names c.self.inside.sections c.self.inside.tokens c.self.inside.token_names c.self.inside.marks)) (takes_from (name_of (births_of (tables_of c.self.inside.procs c.self.inside.parts.items c.self.inside.ports c.self.inside.waits c.self.inside.names c.self.inside.sections c.self.inside.tokens c.self.inside.token_names c.self.inside.marks)).ports c.args.queue) c.args.is_connection_request) c.first_on.result c.self.invariant.kept.lawful.single c.self.invariant.kept.lawful.quiet (c.first_on.ensures ∙ sym (ap (λ o. option_map (λ (x : model.WaitRow). x.thread) o) (follows.first_taker (tables_of c.self.inside.procs c.self.inside.parts.items c.self.inside.ports c.self.inside.waits c.self.inside.names c.self.inside.sections c.self.inside.tokens c.self.inside.token_names c.self.inside.marks) c.self.invariant.kept.named c.args.queue c.args.is_connection_request there) ∙ mapped-twice (shown_wait (birth_of (births_of (tables_of c.self.inside.procs c.self.inside.parts.items c.self.inside.ports c.self.inside.waits c.self.inside.names c.self.inside.sections c.self.inside.tokens c.self.inside.token_names c.self.inside.marks)))) (λ (x : model.WaitRow). x.thread) (first (waits.is_taker_on c.args.queue c.args.is_connection_request) c.self.inside.waits.rows))))
