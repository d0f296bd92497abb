use Rattle.std.proofs.Common.{arith}
use Rattle.lpc_rows.specs.Kept.{rows_by}
use Rattle.lpc_rows.specs.Shown.{births_of, tables_of}
use Rattle.lpc_rows.proofs.Vacated as vacated
use Rattle.lpc_rows.proofs.Lived as lived
use Rattle.lpc_world.proofs.Hearers as hearers
use Rattle.lpc_world.proofs.world.World.processes_free.Goals as goal

pub invariant_of-self : goal.invariant_of-self
invariant_of-self c = record {
  kept =
      let there = rw (← c.self.view_is) at c.requires in
      rw c.free_process_born.ensures.table (vacated.process-gone (tables_of c.self.inside.procs c.self.inside.parts.items c.self.inside.ports c.self.inside.waits c.self.inside.names c.self.inside.sections c.self.inside.tokens c.self.inside.token_names c.self.inside.marks) c.self.inside.calls c.self.inside.made c.self.invariant.kept c.args.birth c.free_process_born.new.self.process_room there.empty);
  watched = let are = rw (← c.self.view_is) at c.hearers_born-hearers.ensures in rw (c.free_process_born.ensures.table, c.add_both.ensures) (hearers.unmade-to (rows_by (tables_of c.self.inside.procs c.self.inside.parts.items c.self.inside.ports c.self.inside.waits c.self.inside.names c.self.inside.sections c.self.inside.tokens c.self.inside.token_names c.self.inside.marks)) (births_of (tables_of c.self.inside.procs c.self.inside.parts.items c.self.inside.ports c.self.inside.waits c.self.inside.names c.self.inside.sections c.self.inside.tokens c.self.inside.token_names c.self.inside.marks)).ports c.self.inside.suspects c.self.invariant.watched _ c.args.birth c.hearers_born-hearers.result.0 c.hearers_born-hearers.result.1 (c.self.invariant.kept.born.process_births c.args.birth) are (vacated.process-shown (tables_of c.self.inside.procs c.self.inside.parts.items c.self.inside.ports c.self.inside.waits c.self.inside.names c.self.inside.sections c.self.inside.tokens c.self.inside.token_names c.self.inside.marks) c.self.inside.calls c.self.inside.made c.self.invariant.kept c.args.birth c.free_process_born.new.self.process_room));
  lived = rw (c.free_process_born.ensures.table, c.remove_process.ensures) (λ calm. lived.process-freed-to (rows_by (tables_of c.self.inside.procs c.self.inside.parts.items c.self.inside.ports c.self.inside.waits c.self.inside.names c.self.inside.sections c.self.inside.tokens c.self.inside.token_names c.self.inside.marks)) c.self.inside.lives (c.self.invariant.lived calm) _ c.args.birth (vacated.process-shown (tables_of c.self.inside.procs c.self.inside.parts.items c.self.inside.ports c.self.inside.waits c.self.inside.names c.self.inside.sections c.self.inside.tokens c.self.inside.token_names c.self.inside.marks) c.self.inside.calls c.self.inside.made c.self.invariant.kept c.args.birth c.free_process_born.new.self.process_room));
}

pub returns-clause-rows : goal.returns-clause-rows
returns-clause-rows c = rw (← c.self.view_is, c.free_process_born.ensures.table) (vacated.process-shown (tables_of c.self.inside.procs c.self.inside.parts.items c.self.inside.ports c.self.inside.waits c.self.inside.names c.self.inside.sections c.self.inside.tokens c.self.inside.token_names c.self.inside.marks) c.self.inside.calls c.self.inside.made c.self.invariant.kept c.args.birth c.free_process_born.new.self.process_room)

pub returns-clause-made : goal.returns-clause-made
returns-clause-made c = rw (← c.self.view_is, c.free_process_born.ensures.table) (omega arith)

pub returns-clause-room : goal.returns-clause-room
returns-clause-room c =
    let w = rows_by (tables_of c.self.inside.procs c.self.inside.parts.items c.self.inside.ports c.self.inside.waits c.self.inside.names c.self.inside.sections c.self.inside.tokens c.self.inside.token_names c.self.inside.marks) in
    let room = c.free_process_born.ensures.room in
    rw (← c.self.view_is, c.free_process_born.ensures.table) (vacated.room-vacated _ _ _ _ _ _ _ _ _ _ _ w _ _ w.processes (omega (arith, room)))
