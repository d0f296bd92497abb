use Rattle.std.proofs.Common.{length, ap, arith}
use Rattle.lpc_model.specs.World.{World}
use Rattle.lpc_rows.specs.Kept.{registered_ports, rows_by}
use Rattle.lpc_model.specs.Found.{is_born_thread}
use Rattle.lpc_rows.specs.Shown.{tables_of}
use Rattle.lpc_rows.proofs.Registered.{registered-less_threads}
use Rattle.lpc_rows.proofs.Vacated as vacated
use Rattle.lpc_rows.proofs.Suspected as suspected
use Rattle.lpc_rows.proofs.Suspecting as suspecting
use Rattle.lpc_rows.specs.Shown.{births_of}
use Rattle.lpc_rows.proofs.Lived as lived
use Rattle.lpc_world.proofs.world.World.threads_free.Goals as goal

pub free_thread_born-requires : goal.free_thread_born-requires
free_thread_born-requires c =
    let there = rw (← c.self.view_is) at c.requires in
    record { ended = vacated.no-life (tables_of c.self.inside.procs c.self.inside.parts.items c.self.inside.ports c.self.inside.waits c.self.inside.names c.self.inside.sections c.self.inside.tokens c.self.inside.token_names c.self.inside.marks) c.self.inside.calls c.self.inside.made c.self.invariant.kept c.args.birth there.ended }

pub invariant_of-self : goal.invariant_of-self
invariant_of-self c = record {
  kept =
      let there = rw (← c.self.view_is) at c.requires in
      rw c.free_thread_born.ensures.table (vacated.thread-gone (tables_of c.self.inside.procs c.self.inside.parts.items c.self.inside.ports c.self.inside.waits c.self.inside.names c.self.inside.sections c.self.inside.tokens c.self.inside.token_names c.self.inside.marks) c.self.inside.calls c.self.inside.made c.self.invariant.kept c.args.birth c.free_thread_born.new.self.thread_room there.ended);
  watched = let there = rw (← c.self.view_is) at c.requires in rw (c.free_thread_born.ensures.table) (suspected.thread-gone-to (rows_by (tables_of c.self.inside.procs c.self.inside.parts.items c.self.inside.ports c.self.inside.waits c.self.inside.names c.self.inside.sections c.self.inside.tokens c.self.inside.token_names c.self.inside.marks)) (births_of (tables_of c.self.inside.procs c.self.inside.parts.items c.self.inside.ports c.self.inside.waits c.self.inside.names c.self.inside.sections c.self.inside.tokens c.self.inside.token_names c.self.inside.marks)).ports c.self.inside.suspects c.self.invariant.watched _ c.args.birth (vacated.thread-shown (tables_of c.self.inside.procs c.self.inside.parts.items c.self.inside.ports c.self.inside.waits c.self.inside.names c.self.inside.sections c.self.inside.tokens c.self.inside.token_names c.self.inside.marks) c.self.inside.calls c.self.inside.made c.self.invariant.kept c.args.birth c.free_thread_born.new.self.thread_room) (suspecting.dead (rows_by (tables_of c.self.inside.procs c.self.inside.parts.items c.self.inside.ports c.self.inside.waits c.self.inside.names c.self.inside.sections c.self.inside.tokens c.self.inside.token_names c.self.inside.marks)) c.args.birth there.ended));
  lived = let there = rw (← c.self.view_is) at c.requires in rw (c.free_thread_born.ensures.table, c.remove_thread.ensures) (λ calm. lived.thread-freed-to (rows_by (tables_of c.self.inside.procs c.self.inside.parts.items c.self.inside.ports c.self.inside.waits c.self.inside.names c.self.inside.sections c.self.inside.tokens c.self.inside.token_names c.self.inside.marks)) c.self.inside.lives (c.self.invariant.lived calm) _ c.args.birth there.ended (vacated.thread-shown (tables_of c.self.inside.procs c.self.inside.parts.items c.self.inside.ports c.self.inside.waits c.self.inside.names c.self.inside.sections c.self.inside.tokens c.self.inside.token_names c.self.inside.marks) c.self.inside.calls c.self.inside.made c.self.invariant.kept c.args.birth c.free_thread_born.new.self.thread_room));
}

pub returns-clause-rows : goal.returns-clause-rows
returns-clause-rows c = rw (← c.self.view_is, c.free_thread_born.ensures.table) (vacated.thread-shown (tables_of c.self.inside.procs c.self.inside.parts.items c.self.inside.ports c.self.inside.waits c.self.inside.names c.self.inside.sections c.self.inside.tokens c.self.inside.token_names c.self.inside.marks) c.self.inside.calls c.self.inside.made c.self.invariant.kept c.args.birth c.free_thread_born.new.self.thread_room)

pub returns-clause-made : goal.returns-clause-made
returns-clause-made c =
    let w = rows_by (tables_of c.self.inside.procs c.self.inside.parts.items c.self.inside.ports c.self.inside.waits c.self.inside.names c.self.inside.sections c.self.inside.tokens c.self.inside.token_names c.self.inside.marks) in
    let shown = vacated.thread-shown (tables_of c.self.inside.procs c.self.inside.parts.items c.self.inside.ports c.self.inside.waits c.self.inside.names c.self.inside.sections c.self.inside.tokens c.self.inside.token_names c.self.inside.marks) c.self.inside.calls c.self.inside.made c.self.invariant.kept c.args.birth c.free_thread_born.new.self.thread_room in
    let owed = ap (λ (v : World). length (registered_ports v)) shown in
    let less = registered-less_threads (is_born_thread c.args.birth) w.threads in
    rw (← c.self.view_is, c.free_thread_born.ensures.table) (omega (arith, owed, less))

pub returns-clause-room : goal.returns-clause-room
returns-clause-room c =
    let w = rows_by (tables_of c.self.inside.procs c.self.inside.parts.items c.self.inside.ports c.self.inside.waits c.self.inside.names c.self.inside.sections c.self.inside.tokens c.self.inside.token_names c.self.inside.marks) in
    let shown = vacated.thread-shown (tables_of c.self.inside.procs c.self.inside.parts.items c.self.inside.ports c.self.inside.waits c.self.inside.names c.self.inside.sections c.self.inside.tokens c.self.inside.token_names c.self.inside.marks) c.self.inside.calls c.self.inside.made c.self.invariant.kept c.args.birth c.free_thread_born.new.self.thread_room in
    rw (← c.self.view_is, c.free_thread_born.ensures.table) (rw (ap (λ (v : World). v.threads) shown) (vacated.room-less _ _ _ _ _ _ _ _ _ _ _ w _ c.free_thread_born.new.self.thread_room (is_born_thread c.args.birth) c.free_thread_born.ensures.room))
