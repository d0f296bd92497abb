use Rattle.std.proofs.Common.{◌+◌, refl, ap, sym, ◌∙◌, arith}
use Rattle.lpc_rows.specs.Kept.{owed_rows}
use Rattle.lpc_rows.specs.Shown.{tables_of}
use Rattle.lpc_rows.proofs.Capacities as capacities
use Rattle.lpc_rows.proofs.Tables as tables
use Rattle.lpc_rows.proofs.Suspected as suspected
use Rattle.lpc_rows.specs.Kept.{rows_by}
use Rattle.lpc_rows.specs.Shown.{births_of}
use Rattle.lpc_rows.proofs.Lived as lived
use Rattle.lpc_world.proofs.world.World.handles_reserve.Goals as goal

pub reserve_handles-requires-clause-one : goal.reserve_handles-requires-clause-one
reserve_handles-requires-clause-one c = tables.single (tables_of c.self.inside.procs c.self.inside.parts.items c.self.inside.ports c.self.inside.waits c.self.inside.names c.self.inside.sections c.self.inside.tokens c.self.inside.token_names c.self.inside.marks) c.self.inside.calls c.self.inside.made c.self.invariant.kept

pub reserve_handles-requires-clause-part : goal.reserve_handles-requires-clause-part
reserve_handles-requires-clause-part c = sym (tables.has_table (tables_of c.self.inside.procs c.self.inside.parts.items c.self.inside.ports c.self.inside.waits c.self.inside.names c.self.inside.sections c.self.inside.tokens c.self.inside.token_names c.self.inside.marks) c.self.inside.calls c.self.inside.made c.self.invariant.kept c.args.pid) ∙ (rw (← c.self.view_is) at c.requires)

pub invariant_of-self : goal.invariant_of-self
invariant_of-self c = record {
  kept =
      tables.roomed_lawful (tables_of c.self.inside.procs c.self.inside.parts.items c.self.inside.ports c.self.inside.waits c.self.inside.names c.self.inside.sections c.self.inside.tokens c.self.inside.token_names c.self.inside.marks) c.self.inside.calls c.self.inside.made c.self.invariant.kept c.args.pid c.reserve_handles.new.self.items c.reserve_handles.ensures.parts c.reserve_handles.ensures.spare;
  watched = suspected.same-to (rows_by (tables_of c.self.inside.procs c.self.inside.parts.items c.self.inside.ports c.self.inside.waits c.self.inside.names c.self.inside.sections c.self.inside.tokens c.self.inside.token_names c.self.inside.marks)) (births_of (tables_of c.self.inside.procs c.self.inside.parts.items c.self.inside.ports c.self.inside.waits c.self.inside.names c.self.inside.sections c.self.inside.tokens c.self.inside.token_names c.self.inside.marks)).ports c.self.inside.suspects c.self.invariant.watched _ (tables.roomed_rows (tables_of c.self.inside.procs c.self.inside.parts.items c.self.inside.ports c.self.inside.waits c.self.inside.names c.self.inside.sections c.self.inside.tokens c.self.inside.token_names c.self.inside.marks) c.self.inside.calls c.self.inside.made c.self.invariant.kept c.args.pid c.reserve_handles.new.self.items c.reserve_handles.ensures.parts);
  lived = λ calm. lived.same-to (rows_by (tables_of c.self.inside.procs c.self.inside.parts.items c.self.inside.ports c.self.inside.waits c.self.inside.names c.self.inside.sections c.self.inside.tokens c.self.inside.token_names c.self.inside.marks)) (c.self.invariant.lived calm) _ (tables.roomed_rows (tables_of c.self.inside.procs c.self.inside.parts.items c.self.inside.ports c.self.inside.waits c.self.inside.names c.self.inside.sections c.self.inside.tokens c.self.inside.token_names c.self.inside.marks) c.self.inside.calls c.self.inside.made c.self.invariant.kept c.args.pid c.reserve_handles.new.self.items c.reserve_handles.ensures.parts);
}

pub returns-clause-same : goal.returns-clause-same
returns-clause-same c = rw (← c.self.view_is) (record { rows = tables.roomed_rows (tables_of c.self.inside.procs c.self.inside.parts.items c.self.inside.ports c.self.inside.waits c.self.inside.names c.self.inside.sections c.self.inside.tokens c.self.inside.token_names c.self.inside.marks) c.self.inside.calls c.self.inside.made c.self.invariant.kept c.args.pid c.reserve_handles.new.self.items c.reserve_handles.ensures.parts; births = refl; calls = refl; made = ap (λ w. c.self.inside.made + owed_rows w) (tables.roomed_rows (tables_of c.self.inside.procs c.self.inside.parts.items c.self.inside.ports c.self.inside.waits c.self.inside.names c.self.inside.sections c.self.inside.tokens c.self.inside.token_names c.self.inside.marks) c.self.inside.calls c.self.inside.made c.self.invariant.kept c.args.pid c.reserve_handles.new.self.items c.reserve_handles.ensures.parts); loose = refl })

pub returns-clause-room : goal.returns-clause-room
returns-clause-room c =
    let more = tables.roomed_spare (tables_of c.self.inside.procs c.self.inside.parts.items c.self.inside.ports c.self.inside.waits c.self.inside.names c.self.inside.sections c.self.inside.tokens c.self.inside.token_names c.self.inside.marks) c.self.inside.calls c.self.inside.made c.self.invariant.kept c.args.pid c.reserve_handles.new.self.items c.reserve_handles.ensures.parts c.reserve_handles.ensures.spare in
    rw (← c.self.view_is, c.reserve_handles.ensures.kept, tables.roomed_views (tables_of c.self.inside.procs c.self.inside.parts.items c.self.inside.ports c.self.inside.waits c.self.inside.names c.self.inside.sections c.self.inside.tokens c.self.inside.token_names c.self.inside.marks) c.self.inside.calls c.self.inside.made c.self.invariant.kept c.args.pid c.reserve_handles.new.self.items c.reserve_handles.ensures.parts) (record {
      for_processes = omega arith;
      for_threads = omega arith;
      for_waits = omega arith;
      for_messages = omega arith;
      for_ports = omega arith;
      for_names = omega arith;
      for_sections = omega arith;
      for_tokens = omega arith;
      for_token_names = omega arith;
      for_handles = λ pid. rw (tables.room_at c.self.inside.parts.items pid, tables.room_at c.reserve_handles.new.self.items pid) (more pid);
      for_views = λ pid. omega arith;
    })

pub overflow_add-places : goal.overflow_add-places
overflow_add-places c =
    let own = tables.promised_are (tables_of c.self.inside.procs c.self.inside.parts.items c.self.inside.ports c.self.inside.waits c.self.inside.names c.self.inside.sections c.self.inside.tokens c.self.inside.token_names c.self.inside.marks) c.self.inside.calls c.self.inside.made c.self.invariant.kept c.args.pid in
    let bound = tables.load_bound (tables_of c.self.inside.procs c.self.inside.parts.items c.self.inside.ports c.self.inside.waits c.self.inside.names c.self.inside.sections c.self.inside.tokens c.self.inside.token_names c.self.inside.marks) c.self.inside.calls c.self.inside.made c.self.invariant.kept c.args.pid (rw (← c.self.view_is) at c.requires) in
    omega (arith, own, bound, c.connects_of.ensures)

pub returns-clause-handles : goal.returns-clause-handles
returns-clause-handles c =
    let own = tables.promised_are (tables_of c.self.inside.procs c.self.inside.parts.items c.self.inside.ports c.self.inside.waits c.self.inside.names c.self.inside.sections c.self.inside.tokens c.self.inside.token_names c.self.inside.marks) c.self.inside.calls c.self.inside.made c.self.invariant.kept c.args.pid in
    rw (tables.room_at c.reserve_handles.new.self.items c.args.pid, own, ← c.connects_of.ensures) c.reserve_handles.ensures.room

pub returns-clause-wanting : goal.returns-clause-wanting
returns-clause-wanting c =
    let own = tables.promised_are (tables_of c.self.inside.procs c.self.inside.parts.items c.self.inside.ports c.self.inside.waits c.self.inside.names c.self.inside.sections c.self.inside.tokens c.self.inside.token_names c.self.inside.marks) c.self.inside.calls c.self.inside.made c.self.invariant.kept c.args.pid in
    rw (← c.self.view_is, tables.room_at c.self.inside.parts.items c.args.pid, own, ← c.connects_of.ensures) c.reserve_handles.ensures.wanting

pub returns-clause-most : goal.returns-clause-most
returns-clause-most c =
    let own = tables.promised_are (tables_of c.self.inside.procs c.self.inside.parts.items c.self.inside.ports c.self.inside.waits c.self.inside.names c.self.inside.sections c.self.inside.tokens c.self.inside.token_names c.self.inside.marks) c.self.inside.calls c.self.inside.made c.self.invariant.kept c.args.pid in
    let rows = tables.handle_number (tables_of c.self.inside.procs c.self.inside.parts.items c.self.inside.ports c.self.inside.waits c.self.inside.names c.self.inside.sections c.self.inside.tokens c.self.inside.token_names c.self.inside.marks) c.self.inside.calls c.self.inside.made c.self.invariant.kept c.args.pid in
    rw (← c.self.view_is, tables.room_at c.reserve_handles.new.self.items c.args.pid, tables.room_at c.self.inside.parts.items c.args.pid, own, rows, ← c.connects_of.ensures) c.reserve_handles.ensures.most

pub returns-clause-others : goal.returns-clause-others
returns-clause-others c = rw (← c.self.view_is, c.reserve_handles.ensures.kept, tables.roomed_views (tables_of c.self.inside.procs c.self.inside.parts.items c.self.inside.ports c.self.inside.waits c.self.inside.names c.self.inside.sections c.self.inside.tokens c.self.inside.token_names c.self.inside.marks) c.self.inside.calls c.self.inside.made c.self.invariant.kept c.args.pid c.reserve_handles.new.self.items c.reserve_handles.ensures.parts) refl

pub returns-clause-capacity : goal.returns-clause-capacity
returns-clause-capacity c =
    let views = capacities.views_roomed c.args.pid c.reserve_handles.new.self.items c.self.inside.parts.items c.reserve_handles.ensures.parts in
    rw (← c.self.view_is, c.reserve_handles.ensures.kept, views) refl

pub returns-clause-other_handles : goal.returns-clause-other_handles
returns-clause-other_handles c = rw (← c.self.view_is) (record { for_handles = λ other off. rw (tables.room_at c.self.inside.parts.items other, tables.room_at c.reserve_handles.new.self.items other) (tables.roomed_others (tables_of c.self.inside.procs c.self.inside.parts.items c.self.inside.ports c.self.inside.waits c.self.inside.names c.self.inside.sections c.self.inside.tokens c.self.inside.token_names c.self.inside.marks) c.self.inside.calls c.self.inside.made c.self.invariant.kept c.args.pid c.reserve_handles.new.self.items c.reserve_handles.ensures.parts other off) })

pub returns-clause-asked : goal.returns-clause-asked
returns-clause-asked c =
    let own = tables.promised_are (tables_of c.self.inside.procs c.self.inside.parts.items c.self.inside.ports c.self.inside.waits c.self.inside.names c.self.inside.sections c.self.inside.tokens c.self.inside.token_names c.self.inside.marks) c.self.inside.calls c.self.inside.made c.self.invariant.kept c.args.pid in
    let rows = tables.handle_number (tables_of c.self.inside.procs c.self.inside.parts.items c.self.inside.ports c.self.inside.waits c.self.inside.names c.self.inside.sections c.self.inside.tokens c.self.inside.token_names c.self.inside.marks) c.self.inside.calls c.self.inside.made c.self.invariant.kept c.args.pid in
    let left = capacities.roomed_number (tables_of c.self.inside.procs c.self.inside.parts.items c.self.inside.ports c.self.inside.waits c.self.inside.names c.self.inside.sections c.self.inside.tokens c.self.inside.token_names c.self.inside.marks) c.self.inside.calls c.self.inside.made c.self.invariant.kept c.args.pid c.reserve_handles.new.self.items c.reserve_handles.ensures.parts c.reserve_handles.ensures.spare c.args.pid in
    rw (← c.self.view_is, capacities.places_at c.reserve_handles.new.self.items c.args.pid, capacities.places_at c.self.inside.parts.items c.args.pid) (omega (arith, rows, left, own, c.connects_of.ensures, c.reserve_handles.ensures.most))

pub returns-clause-other_places : goal.returns-clause-other_places
returns-clause-other_places c =
    rw (← c.self.view_is) (λ other off.
    let spare = tables.roomed_others (tables_of c.self.inside.procs c.self.inside.parts.items c.self.inside.ports c.self.inside.waits c.self.inside.names c.self.inside.sections c.self.inside.tokens c.self.inside.token_names c.self.inside.marks) c.self.inside.calls c.self.inside.made c.self.invariant.kept c.args.pid c.reserve_handles.new.self.items c.reserve_handles.ensures.parts other off in
    let rows = capacities.roomed_number (tables_of c.self.inside.procs c.self.inside.parts.items c.self.inside.ports c.self.inside.waits c.self.inside.names c.self.inside.sections c.self.inside.tokens c.self.inside.token_names c.self.inside.marks) c.self.inside.calls c.self.inside.made c.self.invariant.kept c.args.pid c.reserve_handles.new.self.items c.reserve_handles.ensures.parts c.reserve_handles.ensures.spare other in
    rw (capacities.places_at c.reserve_handles.new.self.items other, capacities.places_at c.self.inside.parts.items other) (omega (arith, spare, rows)))

pub returns-clause-enough : goal.returns-clause-enough
returns-clause-enough c =
    let own = tables.promised_are (tables_of c.self.inside.procs c.self.inside.parts.items c.self.inside.ports c.self.inside.waits c.self.inside.names c.self.inside.sections c.self.inside.tokens c.self.inside.token_names c.self.inside.marks) c.self.inside.calls c.self.inside.made c.self.invariant.kept c.args.pid in
    let left = capacities.roomed_number (tables_of c.self.inside.procs c.self.inside.parts.items c.self.inside.ports c.self.inside.waits c.self.inside.names c.self.inside.sections c.self.inside.tokens c.self.inside.token_names c.self.inside.marks) c.self.inside.calls c.self.inside.made c.self.invariant.kept c.args.pid c.reserve_handles.new.self.items c.reserve_handles.ensures.parts c.reserve_handles.ensures.spare c.args.pid in
    λ some.
    let there = rw (← c.self.view_is, tables.room_at c.self.inside.parts.items c.args.pid, own, ← c.connects_of.ensures) at some in
    let spare = c.reserve_handles.ensures.enough there in
    rw (← c.self.view_is, capacities.places_at c.reserve_handles.new.self.items c.args.pid, capacities.places_at c.self.inside.parts.items c.args.pid) (omega (arith, left, spare))
