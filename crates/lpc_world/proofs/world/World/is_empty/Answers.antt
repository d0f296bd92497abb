use Rattle.std.proofs.Common.{ap, sym, ◌∙◌}
use Rattle.std.specs.Prelude.{is_none}
use Rattle.lpc_base.specs.Rows.{first}
use Rattle.lpc_ports.specs.Table as ports
use Rattle.lpc_ports.specs.Table.{QueuedMessage, row_at}
use Rattle.lpc_slots.specs.declared.Key.{Key}
use Rattle.lpc_rows.specs.Shown.{birth_of, births_of, shown_message, tables_of}
use Rattle.lpc_rows.proofs.Follows as follows
use Rattle.lpc_rows.proofs.Readings as readings
use Rattle.lpc_world.proofs.world.World.is_empty.Goals as goal

pub returns-in-Some : goal.returns-in-Some
returns-in-Some c =
    let there = rw (← c.self.view_is) at c.requires in
    let first_is = sym c.first.ensures ∙ c.in-Some.is in
    rw (← c.self.view_is) (sym (ap is_none (follows.first_queued (tables_of c.self.inside.procs c.self.inside.parts.items c.self.inside.ports c.self.inside.waits c.self.inside.names c.self.inside.sections c.self.inside.tokens c.self.inside.token_names c.self.inside.marks) c.self.invariant.kept.named c.args.queue there) ∙ readings.none_as (shown_message (birth_of (births_of (tables_of c.self.inside.procs c.self.inside.parts.items c.self.inside.ports c.self.inside.waits c.self.inside.names c.self.inside.sections c.self.inside.tokens c.self.inside.token_names c.self.inside.marks)))) (λ (r : Key × QueuedMessage). r.0) (first (ports.is_in c.args.queue) c.self.inside.ports.messages) ∙ ap is_none first_is))

pub returns-in-None : goal.returns-in-None
returns-in-None c =
    let there = rw (← c.self.view_is) at c.requires in
    let first_is = sym c.first.ensures ∙ c.in-None.is in
    rw (← c.self.view_is) (sym (ap is_none (follows.first_queued (tables_of c.self.inside.procs c.self.inside.parts.items c.self.inside.ports c.self.inside.waits c.self.inside.names c.self.inside.sections c.self.inside.tokens c.self.inside.token_names c.self.inside.marks) c.self.invariant.kept.named c.args.queue there) ∙ readings.none_as (shown_message (birth_of (births_of (tables_of c.self.inside.procs c.self.inside.parts.items c.self.inside.ports c.self.inside.waits c.self.inside.names c.self.inside.sections c.self.inside.tokens c.self.inside.token_names c.self.inside.marks)))) (λ (r : Key × QueuedMessage). r.0) (first (ports.is_in c.args.queue) c.self.inside.ports.messages) ∙ ap is_none first_is))
