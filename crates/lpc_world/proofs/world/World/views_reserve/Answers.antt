use Rattle.std.proofs.Common.{◌+◌, refl, ap, sym, ◌∙◌, arith}
use Rattle.lpc_rows.specs.Kept.{owed_rows}
use Rattle.lpc_rows.specs.Shown.{tables_of}
use Rattle.lpc_rows.proofs.Tables as tables
use Rattle.lpc_rows.proofs.ViewRooms as rooms
use Rattle.lpc_rows.proofs.RoomedViews as roomed
use Rattle.lpc_rows.proofs.Suspected as suspected
use Rattle.lpc_rows.specs.Kept.{rows_by}
use Rattle.lpc_rows.specs.Shown.{births_of}
use Rattle.lpc_rows.proofs.Lived as lived
use Rattle.lpc_world.proofs.world.World.views_reserve.Goals as goal

pub reserve_views-requires-clause-one : goal.reserve_views-requires-clause-one
reserve_views-requires-clause-one c = tables.single (tables_of c.self.inside.procs c.self.inside.parts.items c.self.inside.ports c.self.inside.waits c.self.inside.names c.self.inside.sections c.self.inside.tokens c.self.inside.token_names c.self.inside.marks) c.self.inside.calls c.self.inside.made c.self.invariant.kept

pub reserve_views-requires-clause-part : goal.reserve_views-requires-clause-part
reserve_views-requires-clause-part c = sym (tables.has_table (tables_of c.self.inside.procs c.self.inside.parts.items c.self.inside.ports c.self.inside.waits c.self.inside.names c.self.inside.sections c.self.inside.tokens c.self.inside.token_names c.self.inside.marks) c.self.inside.calls c.self.inside.made c.self.invariant.kept c.args.pid) ∙ (rw (← c.self.view_is) at c.requires)

pub invariant_of-self : goal.invariant_of-self
invariant_of-self c = record {
  kept =
      roomed.lawful (tables_of c.self.inside.procs c.self.inside.parts.items c.self.inside.ports c.self.inside.waits c.self.inside.names c.self.inside.sections c.self.inside.tokens c.self.inside.token_names c.self.inside.marks) c.self.inside.calls c.self.inside.made c.self.invariant.kept c.args.pid c.reserve_views.new.self.items c.reserve_views.ensures.parts;
  watched = suspected.same-to (rows_by (tables_of c.self.inside.procs c.self.inside.parts.items c.self.inside.ports c.self.inside.waits c.self.inside.names c.self.inside.sections c.self.inside.tokens c.self.inside.token_names c.self.inside.marks)) (births_of (tables_of c.self.inside.procs c.self.inside.parts.items c.self.inside.ports c.self.inside.waits c.self.inside.names c.self.inside.sections c.self.inside.tokens c.self.inside.token_names c.self.inside.marks)).ports c.self.inside.suspects c.self.invariant.watched _ (roomed.rows (tables_of c.self.inside.procs c.self.inside.parts.items c.self.inside.ports c.self.inside.waits c.self.inside.names c.self.inside.sections c.self.inside.tokens c.self.inside.token_names c.self.inside.marks) c.self.inside.calls c.self.inside.made c.self.invariant.kept c.args.pid c.reserve_views.new.self.items c.reserve_views.ensures.parts);
  lived = λ calm. lived.same-to (rows_by (tables_of c.self.inside.procs c.self.inside.parts.items c.self.inside.ports c.self.inside.waits c.self.inside.names c.self.inside.sections c.self.inside.tokens c.self.inside.token_names c.self.inside.marks)) (c.self.invariant.lived calm) _ (roomed.rows (tables_of c.self.inside.procs c.self.inside.parts.items c.self.inside.ports c.self.inside.waits c.self.inside.names c.self.inside.sections c.self.inside.tokens c.self.inside.token_names c.self.inside.marks) c.self.inside.calls c.self.inside.made c.self.invariant.kept c.args.pid c.reserve_views.new.self.items c.reserve_views.ensures.parts);
}

pub returns-clause-same : goal.returns-clause-same
returns-clause-same c =
    let rows = roomed.rows (tables_of c.self.inside.procs c.self.inside.parts.items c.self.inside.ports c.self.inside.waits c.self.inside.names c.self.inside.sections c.self.inside.tokens c.self.inside.token_names c.self.inside.marks) c.self.inside.calls c.self.inside.made c.self.invariant.kept c.args.pid c.reserve_views.new.self.items c.reserve_views.ensures.parts in
    rw (← c.self.view_is) (record { rows = rows; births = refl; calls = refl; made = ap (λ w. c.self.inside.made + owed_rows w) rows; loose = refl })

pub returns-clause-room : goal.returns-clause-room
returns-clause-room c =
    let more = roomed.spare (tables_of c.self.inside.procs c.self.inside.parts.items c.self.inside.ports c.self.inside.waits c.self.inside.names c.self.inside.sections c.self.inside.tokens c.self.inside.token_names c.self.inside.marks) c.self.inside.calls c.self.inside.made c.self.invariant.kept c.args.pid c.reserve_views.new.self.items c.reserve_views.ensures.parts c.reserve_views.ensures.spare in
    rw (← c.self.view_is, c.reserve_views.ensures.kept, roomed.handle_rooms (tables_of c.self.inside.procs c.self.inside.parts.items c.self.inside.ports c.self.inside.waits c.self.inside.names c.self.inside.sections c.self.inside.tokens c.self.inside.token_names c.self.inside.marks) c.self.inside.calls c.self.inside.made c.self.invariant.kept c.args.pid c.reserve_views.new.self.items c.reserve_views.ensures.parts) (record {
      for_processes = omega arith;
      for_threads = omega arith;
      for_waits = omega arith;
      for_messages = omega arith;
      for_ports = omega arith;
      for_names = omega arith;
      for_sections = omega arith;
      for_tokens = omega arith;
      for_token_names = omega arith;
      for_handles = λ pid. omega arith;
      for_views = λ pid. rw (rooms.view_room_is c.self.inside.parts.items pid, rooms.view_room_is c.reserve_views.new.self.items pid) (more pid);
    })

pub returns-clause-views : goal.returns-clause-views
returns-clause-views c = rw (rooms.view_room_is c.reserve_views.new.self.items c.args.pid) c.reserve_views.ensures.room

pub returns-clause-wanting : goal.returns-clause-wanting
returns-clause-wanting c = rw (← c.self.view_is, rooms.view_room_is c.self.inside.parts.items c.args.pid) c.reserve_views.ensures.wanting

pub returns-clause-most : goal.returns-clause-most
returns-clause-most c =
    let rows = roomed.views_number (tables_of c.self.inside.procs c.self.inside.parts.items c.self.inside.ports c.self.inside.waits c.self.inside.names c.self.inside.sections c.self.inside.tokens c.self.inside.token_names c.self.inside.marks) c.self.invariant.kept.named c.args.pid in
    rw (← c.self.view_is, rooms.view_room_is c.reserve_views.new.self.items c.args.pid, rooms.view_room_is c.self.inside.parts.items c.args.pid, rows) c.reserve_views.ensures.most

pub returns-clause-others : goal.returns-clause-others
returns-clause-others c = rw (← c.self.view_is, c.reserve_views.ensures.kept, roomed.handle_rooms (tables_of c.self.inside.procs c.self.inside.parts.items c.self.inside.ports c.self.inside.waits c.self.inside.names c.self.inside.sections c.self.inside.tokens c.self.inside.token_names c.self.inside.marks) c.self.inside.calls c.self.inside.made c.self.invariant.kept c.args.pid c.reserve_views.new.self.items c.reserve_views.ensures.parts) refl

pub returns-clause-other_views : goal.returns-clause-other_views
returns-clause-other_views c = rw (← c.self.view_is) (record { for_views = λ other off. rw (rooms.view_room_is c.self.inside.parts.items other, rooms.view_room_is c.reserve_views.new.self.items other) (roomed.others (tables_of c.self.inside.procs c.self.inside.parts.items c.self.inside.ports c.self.inside.waits c.self.inside.names c.self.inside.sections c.self.inside.tokens c.self.inside.token_names c.self.inside.marks) c.self.inside.calls c.self.inside.made c.self.invariant.kept c.args.pid c.reserve_views.new.self.items c.reserve_views.ensures.parts other off) })

pub returns-clause-capacity : goal.returns-clause-capacity
returns-clause-capacity c = rw (← c.self.view_is, c.reserve_views.ensures.kept, roomed.handle_places (tables_of c.self.inside.procs c.self.inside.parts.items c.self.inside.ports c.self.inside.waits c.self.inside.names c.self.inside.sections c.self.inside.tokens c.self.inside.token_names c.self.inside.marks) c.self.inside.calls c.self.inside.made c.self.invariant.kept c.args.pid c.reserve_views.new.self.items c.reserve_views.ensures.parts) refl

pub returns-clause-asked : goal.returns-clause-asked
returns-clause-asked c =
    let rows = roomed.views_number (tables_of c.self.inside.procs c.self.inside.parts.items c.self.inside.ports c.self.inside.waits c.self.inside.names c.self.inside.sections c.self.inside.tokens c.self.inside.token_names c.self.inside.marks) c.self.invariant.kept.named c.args.pid in
    let left = roomed.number (tables_of c.self.inside.procs c.self.inside.parts.items c.self.inside.ports c.self.inside.waits c.self.inside.names c.self.inside.sections c.self.inside.tokens c.self.inside.token_names c.self.inside.marks) c.self.inside.calls c.self.inside.made c.self.invariant.kept c.args.pid c.reserve_views.new.self.items c.reserve_views.ensures.parts c.args.pid in
    rw (← c.self.view_is, roomed.view_places_at c.reserve_views.new.self.items c.args.pid, roomed.view_places_at c.self.inside.parts.items c.args.pid) (omega (arith, rows, left, c.reserve_views.ensures.most))

pub returns-clause-enough : goal.returns-clause-enough
returns-clause-enough c =
    let left = roomed.number (tables_of c.self.inside.procs c.self.inside.parts.items c.self.inside.ports c.self.inside.waits c.self.inside.names c.self.inside.sections c.self.inside.tokens c.self.inside.token_names c.self.inside.marks) c.self.inside.calls c.self.inside.made c.self.invariant.kept c.args.pid c.reserve_views.new.self.items c.reserve_views.ensures.parts c.args.pid in
    λ some.
    let there = rw (← c.self.view_is, rooms.view_room_is c.self.inside.parts.items c.args.pid) at some in
    let spare = c.reserve_views.ensures.enough there in
    rw (← c.self.view_is, roomed.view_places_at c.reserve_views.new.self.items c.args.pid, roomed.view_places_at c.self.inside.parts.items c.args.pid) (omega (arith, left, spare))

pub returns-clause-other_places : goal.returns-clause-other_places
returns-clause-other_places c =
    rw (← c.self.view_is) (λ other off.
    let spare = roomed.others (tables_of c.self.inside.procs c.self.inside.parts.items c.self.inside.ports c.self.inside.waits c.self.inside.names c.self.inside.sections c.self.inside.tokens c.self.inside.token_names c.self.inside.marks) c.self.inside.calls c.self.inside.made c.self.invariant.kept c.args.pid c.reserve_views.new.self.items c.reserve_views.ensures.parts other off in
    let rows = roomed.number (tables_of c.self.inside.procs c.self.inside.parts.items c.self.inside.ports c.self.inside.waits c.self.inside.names c.self.inside.sections c.self.inside.tokens c.self.inside.token_names c.self.inside.marks) c.self.inside.calls c.self.inside.made c.self.invariant.kept c.args.pid c.reserve_views.new.self.items c.reserve_views.ensures.parts other in
    rw (roomed.view_places_at c.reserve_views.new.self.items other, roomed.view_places_at c.self.inside.parts.items other) (omega (arith, spare, rows)))
