use Rattle.std.proofs.Common.{ap, refl, length, ◌∙◌, arith}
use Rattle.lpc_model.specs.Basics.{ended}
use Rattle.lpc_model.specs.World.{World}
use Rattle.lpc_rows.specs.Kept.{registered_ports, rows_by}
use Rattle.lpc_rows.specs.Shown.{tables_of}
use Rattle.lpc_rows.proofs.Dying.{fewer-alive}
use Rattle.lpc_rows.proofs.Enrolling as enrolling
use Rattle.lpc_rows.proofs.Lived as lived
use Rattle.lpc_rows.proofs.Registered.{registered-change}
use Rattle.lpc_world.proofs.Enrolled as enrolled
use Rattle.lpc_world.proofs.world.World.procs_end_thread.Goals as goal

pub end_thread-requires : goal.end_thread-requires
end_thread-requires c =
    let live = rw (← c.self.view_is) at c.requires.live in
    record { present = enrolling.stands_live (tables_of c.self.inside.procs c.self.inside.parts.items c.self.inside.ports c.self.inside.waits c.self.inside.names c.self.inside.sections c.self.inside.tokens c.self.inside.token_names c.self.inside.marks) c.self.inside.calls c.self.inside.made c.self.invariant.kept c.args.tid live }

pub registrations_of-requires : goal.registrations_of-requires
registrations_of-requires c =
    let live = rw (← c.self.view_is) at c.requires.live in
    record { present = enrolling.stands_live (tables_of c.self.inside.procs c.self.inside.parts.items c.self.inside.ports c.self.inside.waits c.self.inside.names c.self.inside.sections c.self.inside.tokens c.self.inside.token_names c.self.inside.marks) c.self.inside.calls c.self.inside.made c.self.invariant.kept c.args.tid live }

pub invariant_of-self : goal.invariant_of-self
invariant_of-self c = record {
  kept =
      let ready = rw (← c.self.view_is) at c.requires.ready in
      rw c.end_thread.ensures.table (enrolling.ending-lawful (tables_of c.self.inside.procs c.self.inside.parts.items c.self.inside.ports c.self.inside.waits c.self.inside.names c.self.inside.sections c.self.inside.tokens c.self.inside.token_names c.self.inside.marks) c.self.inside.calls c.self.inside.made c.self.invariant.kept c.args.tid ready);
  watched = rw (c.end_thread.ensures.table, c.add_each.ensures) (enrolled.ended-to (tables_of c.self.inside.procs c.self.inside.parts.items c.self.inside.ports c.self.inside.waits c.self.inside.names c.self.inside.sections c.self.inside.tokens c.self.inside.token_names c.self.inside.marks) c.self.inside.calls c.self.inside.made c.self.invariant.kept c.self.inside.suspects c.self.invariant.watched _ c.args.tid c.registrations_of.result.now c.registrations_of.ensures.rows (enrolling.ends (tables_of c.self.inside.procs c.self.inside.parts.items c.self.inside.ports c.self.inside.waits c.self.inside.names c.self.inside.sections c.self.inside.tokens c.self.inside.token_names c.self.inside.marks) c.self.inside.calls c.self.inside.made c.self.invariant.kept c.args.tid));
  lived = let thread = rw (← c.self.view_is) at c.born_of_live-born.ensures.thread in let home = rw (← c.self.view_is) at c.born_of_live-born.ensures.process in rw (c.end_thread.ensures.table, c.suspect_process.ensures, c.suspect_thread.ensures) (λ calm. lived.ended-by (rows_by (tables_of c.self.inside.procs c.self.inside.parts.items c.self.inside.ports c.self.inside.waits c.self.inside.names c.self.inside.sections c.self.inside.tokens c.self.inside.token_names c.self.inside.marks)) c.self.inside.lives c.self.invariant.lived _ c.args.tid c.born_of_live-born.result.0 c.born_of_live-born.result.1 c.self.invariant.kept.drawn.threads_single c.self.invariant.kept.born.processes_single thread home (enrolling.ends (tables_of c.self.inside.procs c.self.inside.parts.items c.self.inside.ports c.self.inside.waits c.self.inside.names c.self.inside.sections c.self.inside.tokens c.self.inside.token_names c.self.inside.marks) c.self.inside.calls c.self.inside.made c.self.invariant.kept c.args.tid) calm);
}

pub returns-clause-step : goal.returns-clause-step
returns-clause-step c =
    let ends = enrolling.ends (tables_of c.self.inside.procs c.self.inside.parts.items c.self.inside.ports c.self.inside.waits c.self.inside.names c.self.inside.sections c.self.inside.tokens c.self.inside.token_names c.self.inside.marks) c.self.inside.calls c.self.inside.made c.self.invariant.kept c.args.tid in
    let owed = ap (λ (v : World). length (registered_ports v)) ends ∙ ap length (registered-change ended (λ t. refl) c.args.tid (rows_by (tables_of c.self.inside.procs c.self.inside.parts.items c.self.inside.ports c.self.inside.waits c.self.inside.names c.self.inside.sections c.self.inside.tokens c.self.inside.token_names c.self.inside.marks)).threads) in
    let alive = fewer-alive c.args.tid (rows_by (tables_of c.self.inside.procs c.self.inside.parts.items c.self.inside.ports c.self.inside.waits c.self.inside.names c.self.inside.sections c.self.inside.tokens c.self.inside.token_names c.self.inside.marks)).threads in
    record {
      rows = rw (← c.self.view_is, c.end_thread.ensures.table) ends;
      births = rw (← c.self.view_is) refl;
      calls = rw (← c.self.view_is) refl;
      made = rw (← c.self.view_is, c.end_thread.ensures.table) (omega (arith, owed));
      room = rw (← c.self.view_is, c.end_thread.ensures.table, ap (λ (v : World). v.threads) ends) (enrolling.room_ended _ _ _ _ _ _ _ _ _ _ _ (rows_by (tables_of c.self.inside.procs c.self.inside.parts.items c.self.inside.ports c.self.inside.waits c.self.inside.names c.self.inside.sections c.self.inside.tokens c.self.inside.token_names c.self.inside.marks)) _ c.args.tid);
    }
