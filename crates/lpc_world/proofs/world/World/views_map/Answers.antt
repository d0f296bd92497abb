use Rattle.std.proofs.Common.{◌+◌, refl, ap, sym, ◌∙◌, arith}
use Rattle.std.specs.Prelude.{Bool, Result, Ok, Err, OnErr, ◌≡◌, ℕ, List}
use Rattle.lpc_homes.specs.declared.parts.Part.{Part}
use Rattle.lpc_rows.specs.Kept.{kept_by}
use Rattle.lpc_rows.specs.Shown.{Tables, tables_of}
use Rattle.lpc_rows.proofs.Capacities as capacities
use Rattle.lpc_rows.proofs.Tables as tables
use Rattle.lpc_rows.proofs.ViewRooms as rooms
use Rattle.lpc_rows.proofs.FoundSections as sections
use Rattle.lpc_rows.proofs.MappedViews as mapped
use Rattle.lpc_rows.proofs.RoomedViews as roomed
use Rattle.lpc_rows.proofs.Suspecting as suspecting
use Rattle.lpc_rows.specs.Kept.{rows_by}
use Rattle.lpc_rows.specs.Shown.{births_of}
use Rattle.lpc_rows.specs.Shown.{birth_of}
use Rattle.lpc_rows.specs.Shown.{shown_view}
use Rattle.lpc_rows.proofs.Lived as lived
use Rattle.lpc_world.proofs.world.World.views_map.Goals as goal

-- a fault leaves the tables
kept_same : {A B : Type 0} (r : Result A B) (it : Tables) (new : List Part) (places calls made : ℕ) (loose : Bool) → OnErr r (new ≡ it.parts) → OnErr r (kept_by (record it { parts = new }) places calls made loose ≡ kept_by it places calls made loose)
kept_same (Ok a) it new places calls made loose same = tt
kept_same (Err e) it new places calls made loose same = ap (λ (ps : List Part). kept_by (record it { parts = ps }) places calls made loose) same

pub map_view-requires-clause-one : goal.map_view-requires-clause-one
map_view-requires-clause-one c = tables.single (tables_of c.self.inside.procs c.self.inside.parts.items c.self.inside.ports c.self.inside.waits c.self.inside.names c.self.inside.sections c.self.inside.tokens c.self.inside.token_names c.self.inside.marks) c.self.inside.calls c.self.inside.made c.self.invariant.kept

pub map_view-requires-clause-part : goal.map_view-requires-clause-part
map_view-requires-clause-part c = sym (tables.has_table (tables_of c.self.inside.procs c.self.inside.parts.items c.self.inside.ports c.self.inside.waits c.self.inside.names c.self.inside.sections c.self.inside.tokens c.self.inside.token_names c.self.inside.marks) c.self.inside.calls c.self.inside.made c.self.invariant.kept c.args.pid) ∙ (rw (← c.self.view_is) at c.requires.table)

pub map_view-requires-clause-present : goal.map_view-requires-clause-present
map_view-requires-clause-present c = sections.present (tables_of c.self.inside.procs c.self.inside.parts.items c.self.inside.ports c.self.inside.waits c.self.inside.names c.self.inside.sections c.self.inside.tokens c.self.inside.token_names c.self.inside.marks) c.args.section (rw (← c.self.view_is) at c.requires.section)

pub map_view-requires-clause-room : goal.map_view-requires-clause-room
map_view-requires-clause-room c =
    let some = rw (← c.self.view_is, rooms.view_room_is c.self.inside.parts.items c.args.pid) at c.requires.room in
    let number = roomed.views_number (tables_of c.self.inside.procs c.self.inside.parts.items c.self.inside.ports c.self.inside.waits c.self.inside.names c.self.inside.sections c.self.inside.tokens c.self.inside.token_names c.self.inside.marks) c.self.invariant.kept.named c.args.pid in
    λ few. omega (arith, some (omega (arith, number, few)))

pub invariant_of-self : goal.invariant_of-self
invariant_of-self c = record {
  kept =
      let there = rw (← c.self.view_is) at c.requires in
      let answer = mapped.answered (tables_of c.self.inside.procs c.self.inside.parts.items c.self.inside.ports c.self.inside.waits c.self.inside.names c.self.inside.sections c.self.inside.tokens c.self.inside.token_names c.self.inside.marks) c.self.invariant.kept.named c.args.pid c.args.section c.args.offset c.args.size c.args.writable c.args.owner there.section c.map_view.result c.map_view.ensures.answer in
      (mapped.left (tables_of c.self.inside.procs c.self.inside.parts.items c.self.inside.ports c.self.inside.waits c.self.inside.names c.self.inside.sections c.self.inside.tokens c.self.inside.token_names c.self.inside.marks) c.self.inside.calls c.self.inside.made c.self.invariant.kept c.args.pid c.map_view.new.self.items c.args.owner c.map_view.result there.owner answer.owned c.map_view.ensures.inside c.map_view.ensures.parts c.map_view.ensures.same (tables.single (tables_of c.self.inside.procs c.self.inside.parts.items c.self.inside.ports c.self.inside.waits c.self.inside.names c.self.inside.sections c.self.inside.tokens c.self.inside.token_names c.self.inside.marks) c.self.inside.calls c.self.inside.made c.self.invariant.kept) c.map_view.ensures.place).lawful;
  watched = let there = rw (← c.self.view_is) at c.requires in let answer = mapped.answered (tables_of c.self.inside.procs c.self.inside.parts.items c.self.inside.ports c.self.inside.waits c.self.inside.names c.self.inside.sections c.self.inside.tokens c.self.inside.token_names c.self.inside.marks) c.self.invariant.kept.named c.args.pid c.args.section c.args.offset c.args.size c.args.writable c.args.owner there.section c.map_view.result c.map_view.ensures.answer in suspecting.mapped-to (rows_by (tables_of c.self.inside.procs c.self.inside.parts.items c.self.inside.ports c.self.inside.waits c.self.inside.names c.self.inside.sections c.self.inside.tokens c.self.inside.token_names c.self.inside.marks)) (births_of (tables_of c.self.inside.procs c.self.inside.parts.items c.self.inside.ports c.self.inside.waits c.self.inside.names c.self.inside.sections c.self.inside.tokens c.self.inside.token_names c.self.inside.marks)).ports c.self.inside.suspects c.self.invariant.watched _ c.args.pid (shown_view (birth_of (births_of (tables_of c.self.inside.procs c.self.inside.parts.items c.self.inside.ports c.self.inside.waits c.self.inside.names c.self.inside.sections c.self.inside.tokens c.self.inside.token_names c.self.inside.marks)))) c.map_view.result (mapped.left (tables_of c.self.inside.procs c.self.inside.parts.items c.self.inside.ports c.self.inside.waits c.self.inside.names c.self.inside.sections c.self.inside.tokens c.self.inside.token_names c.self.inside.marks) c.self.inside.calls c.self.inside.made c.self.invariant.kept c.args.pid c.map_view.new.self.items c.args.owner c.map_view.result there.owner answer.owned c.map_view.ensures.inside c.map_view.ensures.parts c.map_view.ensures.same (tables.single (tables_of c.self.inside.procs c.self.inside.parts.items c.self.inside.ports c.self.inside.waits c.self.inside.names c.self.inside.sections c.self.inside.tokens c.self.inside.token_names c.self.inside.marks) c.self.inside.calls c.self.inside.made c.self.invariant.kept) c.map_view.ensures.place).rows (suspecting.same-parts (tables_of c.self.inside.procs c.self.inside.parts.items c.self.inside.ports c.self.inside.waits c.self.inside.names c.self.inside.sections c.self.inside.tokens c.self.inside.token_names c.self.inside.marks) c.map_view.result c.map_view.new.self.items c.map_view.ensures.same);
  lived = let there = rw (← c.self.view_is) at c.requires in let answer = mapped.answered (tables_of c.self.inside.procs c.self.inside.parts.items c.self.inside.ports c.self.inside.waits c.self.inside.names c.self.inside.sections c.self.inside.tokens c.self.inside.token_names c.self.inside.marks) c.self.invariant.kept.named c.args.pid c.args.section c.args.offset c.args.size c.args.writable c.args.owner there.section c.map_view.result c.map_view.ensures.answer in λ calm. lived.mapped-to (rows_by (tables_of c.self.inside.procs c.self.inside.parts.items c.self.inside.ports c.self.inside.waits c.self.inside.names c.self.inside.sections c.self.inside.tokens c.self.inside.token_names c.self.inside.marks)) (c.self.invariant.lived calm) _ c.args.pid (shown_view (birth_of (births_of (tables_of c.self.inside.procs c.self.inside.parts.items c.self.inside.ports c.self.inside.waits c.self.inside.names c.self.inside.sections c.self.inside.tokens c.self.inside.token_names c.self.inside.marks)))) c.map_view.result (mapped.left (tables_of c.self.inside.procs c.self.inside.parts.items c.self.inside.ports c.self.inside.waits c.self.inside.names c.self.inside.sections c.self.inside.tokens c.self.inside.token_names c.self.inside.marks) c.self.inside.calls c.self.inside.made c.self.invariant.kept c.args.pid c.map_view.new.self.items c.args.owner c.map_view.result there.owner answer.owned c.map_view.ensures.inside c.map_view.ensures.parts c.map_view.ensures.same (tables.single (tables_of c.self.inside.procs c.self.inside.parts.items c.self.inside.ports c.self.inside.waits c.self.inside.names c.self.inside.sections c.self.inside.tokens c.self.inside.token_names c.self.inside.marks) c.self.inside.calls c.self.inside.made c.self.invariant.kept) c.map_view.ensures.place).rows (suspecting.same-parts (tables_of c.self.inside.procs c.self.inside.parts.items c.self.inside.ports c.self.inside.waits c.self.inside.names c.self.inside.sections c.self.inside.tokens c.self.inside.token_names c.self.inside.marks) c.map_view.result c.map_view.new.self.items c.map_view.ensures.same);
}

pub returns-clause-answer : goal.returns-clause-answer
returns-clause-answer c =
    let there = rw (← c.self.view_is) at c.requires in
    let answer = mapped.answered (tables_of c.self.inside.procs c.self.inside.parts.items c.self.inside.ports c.self.inside.waits c.self.inside.names c.self.inside.sections c.self.inside.tokens c.self.inside.token_names c.self.inside.marks) c.self.invariant.kept.named c.args.pid c.args.section c.args.offset c.args.size c.args.writable c.args.owner there.section c.map_view.result c.map_view.ensures.answer in
    rw (← c.self.view_is) answer.answer

pub returns-clause-rows : goal.returns-clause-rows
returns-clause-rows c =
    let there = rw (← c.self.view_is) at c.requires in
    let answer = mapped.answered (tables_of c.self.inside.procs c.self.inside.parts.items c.self.inside.ports c.self.inside.waits c.self.inside.names c.self.inside.sections c.self.inside.tokens c.self.inside.token_names c.self.inside.marks) c.self.invariant.kept.named c.args.pid c.args.section c.args.offset c.args.size c.args.writable c.args.owner there.section c.map_view.result c.map_view.ensures.answer in
    rw (← c.self.view_is) (mapped.left (tables_of c.self.inside.procs c.self.inside.parts.items c.self.inside.ports c.self.inside.waits c.self.inside.names c.self.inside.sections c.self.inside.tokens c.self.inside.token_names c.self.inside.marks) c.self.inside.calls c.self.inside.made c.self.invariant.kept c.args.pid c.map_view.new.self.items c.args.owner c.map_view.result there.owner answer.owned c.map_view.ensures.inside c.map_view.ensures.parts c.map_view.ensures.same (tables.single (tables_of c.self.inside.procs c.self.inside.parts.items c.self.inside.ports c.self.inside.waits c.self.inside.names c.self.inside.sections c.self.inside.tokens c.self.inside.token_names c.self.inside.marks) c.self.inside.calls c.self.inside.made c.self.invariant.kept) c.map_view.ensures.place).rows

pub returns-clause-made : goal.returns-clause-made
returns-clause-made c =
    let there = rw (← c.self.view_is) at c.requires in
    let answer = mapped.answered (tables_of c.self.inside.procs c.self.inside.parts.items c.self.inside.ports c.self.inside.waits c.self.inside.names c.self.inside.sections c.self.inside.tokens c.self.inside.token_names c.self.inside.marks) c.self.invariant.kept.named c.args.pid c.args.section c.args.offset c.args.size c.args.writable c.args.owner there.section c.map_view.result c.map_view.ensures.answer in
    rw (← c.self.view_is) (ap (λ k. c.self.inside.made + k) (mapped.left (tables_of c.self.inside.procs c.self.inside.parts.items c.self.inside.ports c.self.inside.waits c.self.inside.names c.self.inside.sections c.self.inside.tokens c.self.inside.token_names c.self.inside.marks) c.self.inside.calls c.self.inside.made c.self.invariant.kept c.args.pid c.map_view.new.self.items c.args.owner c.map_view.result there.owner answer.owned c.map_view.ensures.inside c.map_view.ensures.parts c.map_view.ensures.same (tables.single (tables_of c.self.inside.procs c.self.inside.parts.items c.self.inside.ports c.self.inside.waits c.self.inside.names c.self.inside.sections c.self.inside.tokens c.self.inside.token_names c.self.inside.marks) c.self.inside.calls c.self.inside.made c.self.invariant.kept) c.map_view.ensures.place).owed)

pub returns-clause-same : goal.returns-clause-same
returns-clause-same c =
    rw (← c.self.view_is, c.map_view.ensures.kept) (kept_same c.map_view.result (tables_of c.self.inside.procs c.self.inside.parts.items c.self.inside.ports c.self.inside.waits c.self.inside.names c.self.inside.sections c.self.inside.tokens c.self.inside.token_names c.self.inside.marks) c.map_view.new.self.items c.self.inside.parts.room c.self.inside.calls c.self.inside.made c.self.inside.loose c.map_view.ensures.same)

pub returns-clause-places : goal.returns-clause-places
returns-clause-places c =
    let there = rw (← c.self.view_is) at c.requires in
    let answer = mapped.answered (tables_of c.self.inside.procs c.self.inside.parts.items c.self.inside.ports c.self.inside.waits c.self.inside.names c.self.inside.sections c.self.inside.tokens c.self.inside.token_names c.self.inside.marks) c.self.invariant.kept.named c.args.pid c.args.section c.args.offset c.args.size c.args.writable c.args.owner there.section c.map_view.result c.map_view.ensures.answer in
    rw (← c.self.view_is, rooms.view_room_is c.self.inside.parts.items c.args.pid, rooms.view_room_is c.map_view.new.self.items c.args.pid) (mapped.left (tables_of c.self.inside.procs c.self.inside.parts.items c.self.inside.ports c.self.inside.waits c.self.inside.names c.self.inside.sections c.self.inside.tokens c.self.inside.token_names c.self.inside.marks) c.self.inside.calls c.self.inside.made c.self.invariant.kept c.args.pid c.map_view.new.self.items c.args.owner c.map_view.result there.owner answer.owned c.map_view.ensures.inside c.map_view.ensures.parts c.map_view.ensures.same (tables.single (tables_of c.self.inside.procs c.self.inside.parts.items c.self.inside.ports c.self.inside.waits c.self.inside.names c.self.inside.sections c.self.inside.tokens c.self.inside.token_names c.self.inside.marks) c.self.inside.calls c.self.inside.made c.self.invariant.kept) c.map_view.ensures.place).places

pub returns-clause-others : goal.returns-clause-others
returns-clause-others c =
    let there = rw (← c.self.view_is) at c.requires in
    let answer = mapped.answered (tables_of c.self.inside.procs c.self.inside.parts.items c.self.inside.ports c.self.inside.waits c.self.inside.names c.self.inside.sections c.self.inside.tokens c.self.inside.token_names c.self.inside.marks) c.self.invariant.kept.named c.args.pid c.args.section c.args.offset c.args.size c.args.writable c.args.owner there.section c.map_view.result c.map_view.ensures.answer in
    rw (← c.self.view_is, c.map_view.ensures.kept, (mapped.left (tables_of c.self.inside.procs c.self.inside.parts.items c.self.inside.ports c.self.inside.waits c.self.inside.names c.self.inside.sections c.self.inside.tokens c.self.inside.token_names c.self.inside.marks) c.self.inside.calls c.self.inside.made c.self.invariant.kept c.args.pid c.map_view.new.self.items c.args.owner c.map_view.result there.owner answer.owned c.map_view.ensures.inside c.map_view.ensures.parts c.map_view.ensures.same (tables.single (tables_of c.self.inside.procs c.self.inside.parts.items c.self.inside.ports c.self.inside.waits c.self.inside.names c.self.inside.sections c.self.inside.tokens c.self.inside.token_names c.self.inside.marks) c.self.inside.calls c.self.inside.made c.self.invariant.kept) c.map_view.ensures.place).handle_rooms) refl

pub returns-clause-other_views : goal.returns-clause-other_views
returns-clause-other_views c =
    let there = rw (← c.self.view_is) at c.requires in
    let answer = mapped.answered (tables_of c.self.inside.procs c.self.inside.parts.items c.self.inside.ports c.self.inside.waits c.self.inside.names c.self.inside.sections c.self.inside.tokens c.self.inside.token_names c.self.inside.marks) c.self.invariant.kept.named c.args.pid c.args.section c.args.offset c.args.size c.args.writable c.args.owner there.section c.map_view.result c.map_view.ensures.answer in
    rw (← c.self.view_is) (record { for_views = λ other off. rw (rooms.view_room_is c.self.inside.parts.items other, rooms.view_room_is c.map_view.new.self.items other) ((mapped.left (tables_of c.self.inside.procs c.self.inside.parts.items c.self.inside.ports c.self.inside.waits c.self.inside.names c.self.inside.sections c.self.inside.tokens c.self.inside.token_names c.self.inside.marks) c.self.inside.calls c.self.inside.made c.self.invariant.kept c.args.pid c.map_view.new.self.items c.args.owner c.map_view.result there.owner answer.owned c.map_view.ensures.inside c.map_view.ensures.parts c.map_view.ensures.same (tables.single (tables_of c.self.inside.procs c.self.inside.parts.items c.self.inside.ports c.self.inside.waits c.self.inside.names c.self.inside.sections c.self.inside.tokens c.self.inside.token_names c.self.inside.marks) c.self.inside.calls c.self.inside.made c.self.invariant.kept) c.map_view.ensures.place).others other off) })

pub returns-clause-capacity : goal.returns-clause-capacity
returns-clause-capacity c =
    let there = rw (← c.self.view_is) at c.requires in
    let answer = mapped.answered (tables_of c.self.inside.procs c.self.inside.parts.items c.self.inside.ports c.self.inside.waits c.self.inside.names c.self.inside.sections c.self.inside.tokens c.self.inside.token_names c.self.inside.marks) c.self.invariant.kept.named c.args.pid c.args.section c.args.offset c.args.size c.args.writable c.args.owner there.section c.map_view.result c.map_view.ensures.answer in
    let left = mapped.left (tables_of c.self.inside.procs c.self.inside.parts.items c.self.inside.ports c.self.inside.waits c.self.inside.names c.self.inside.sections c.self.inside.tokens c.self.inside.token_names c.self.inside.marks) c.self.inside.calls c.self.inside.made c.self.invariant.kept c.args.pid c.map_view.new.self.items c.args.owner c.map_view.result there.owner answer.owned c.map_view.ensures.inside c.map_view.ensures.parts c.map_view.ensures.same (tables.single (tables_of c.self.inside.procs c.self.inside.parts.items c.self.inside.ports c.self.inside.waits c.self.inside.names c.self.inside.sections c.self.inside.tokens c.self.inside.token_names c.self.inside.marks) c.self.inside.calls c.self.inside.made c.self.invariant.kept) c.map_view.ensures.place in
    rw (← c.self.view_is, c.map_view.ensures.kept) (capacities.of_handles (tables_of c.self.inside.procs c.self.inside.parts.items c.self.inside.ports c.self.inside.waits c.self.inside.names c.self.inside.sections c.self.inside.tokens c.self.inside.token_names c.self.inside.marks) c.self.inside.parts.room c.map_view.new.self.items left.handle_places left.view_places)

pub returns-clause-owner : goal.returns-clause-owner
returns-clause-owner c =
    let there = rw (← c.self.view_is) at c.requires in
    let answer = mapped.answered (tables_of c.self.inside.procs c.self.inside.parts.items c.self.inside.ports c.self.inside.waits c.self.inside.names c.self.inside.sections c.self.inside.tokens c.self.inside.token_names c.self.inside.marks) c.self.invariant.kept.named c.args.pid c.args.section c.args.offset c.args.size c.args.writable c.args.owner there.section c.map_view.result c.map_view.ensures.answer in
    answer.owned
