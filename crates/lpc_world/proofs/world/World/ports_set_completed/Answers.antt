use Rattle.std.proofs.Common.{arith, refl}
use Rattle.lpc_rows.specs.Shown.{tables_of}
use Rattle.lpc_rows.proofs.Joins as joins
use Rattle.lpc_rows.proofs.Suspected as suspected
use Rattle.lpc_rows.proofs.Suspecting as suspecting
use Rattle.lpc_rows.specs.Kept.{rows_by}
use Rattle.lpc_rows.specs.Shown.{births_of}
use Rattle.lpc_rows.specs.Shown.{Births}
use Rattle.lpc_rows.specs.Names.{name_of}
use Rattle.lpc_rows.specs.Joined.{with_completed}
use Rattle.std.proofs.Common.{ap}
use Rattle.lpc_model.specs.Found.{is_port}
use Rattle.std.proofs.Common.{subst}
use Rattle.lpc_rows.specs.Suspects.{AreLivesWatched}
use Rattle.std.proofs.Common.{sym}
use Rattle.lpc_world.proofs.world.World.ports_set_completed.Goals as goal

pub invariant_of-self : goal.invariant_of-self
invariant_of-self c = record {
  kept =
      let there = rw (← c.self.view_is) at c.requires in
      rw c.set_completed.ensures (joins.completed_lawful (tables_of c.self.inside.procs c.self.inside.parts.items c.self.inside.ports c.self.inside.waits c.self.inside.names c.self.inside.sections c.self.inside.tokens c.self.inside.token_names c.self.inside.marks) c.self.invariant.kept.named c.args.port c.args.completed there c.self.inside.calls c.self.inside.made c.self.invariant.kept);
  watched = let there = rw (← c.self.view_is) at c.requires in rw c.set_completed.ensures (suspecting.names-to (rows_by (record (tables_of c.self.inside.procs c.self.inside.parts.items c.self.inside.ports c.self.inside.waits c.self.inside.names c.self.inside.sections c.self.inside.tokens c.self.inside.token_names c.self.inside.marks) { ports = joins.completed_table (tables_of c.self.inside.procs c.self.inside.parts.items c.self.inside.ports c.self.inside.waits c.self.inside.names c.self.inside.sections c.self.inside.tokens c.self.inside.token_names c.self.inside.marks) c.self.invariant.kept.named c.args.port c.args.completed there })) (births_of (tables_of c.self.inside.procs c.self.inside.parts.items c.self.inside.ports c.self.inside.waits c.self.inside.names c.self.inside.sections c.self.inside.tokens c.self.inside.token_names c.self.inside.marks)).ports _ c.self.inside.suspects (ap (λ (b : Births). b.ports) (joins.completed_names (tables_of c.self.inside.procs c.self.inside.parts.items c.self.inside.ports c.self.inside.waits c.self.inside.names c.self.inside.sections c.self.inside.tokens c.self.inside.token_names c.self.inside.marks) c.self.invariant.kept.named c.args.port c.args.completed there)) (suspected.ports-to (rows_by (tables_of c.self.inside.procs c.self.inside.parts.items c.self.inside.ports c.self.inside.waits c.self.inside.names c.self.inside.sections c.self.inside.tokens c.self.inside.token_names c.self.inside.marks)) (births_of (tables_of c.self.inside.procs c.self.inside.parts.items c.self.inside.ports c.self.inside.waits c.self.inside.names c.self.inside.sections c.self.inside.tokens c.self.inside.token_names c.self.inside.marks)).ports c.self.inside.suspects c.self.invariant.watched _ (is_port (name_of (births_of (tables_of c.self.inside.procs c.self.inside.parts.items c.self.inside.ports c.self.inside.waits c.self.inside.names c.self.inside.sections c.self.inside.tokens c.self.inside.token_names c.self.inside.marks)).ports c.args.port)) (with_completed c.args.completed) (λ p. refl) (λ p. refl) (λ p. refl) (joins.completes (tables_of c.self.inside.procs c.self.inside.parts.items c.self.inside.ports c.self.inside.waits c.self.inside.names c.self.inside.sections c.self.inside.tokens c.self.inside.token_names c.self.inside.marks) c.self.invariant.kept.named c.args.port c.args.completed there)));
  lived = let there = rw (← c.self.view_is) at c.requires in rw c.set_completed.ensures (λ calm. subst (λ w. AreLivesWatched w c.self.inside.lives) (sym (joins.completes (tables_of c.self.inside.procs c.self.inside.parts.items c.self.inside.ports c.self.inside.waits c.self.inside.names c.self.inside.sections c.self.inside.tokens c.self.inside.token_names c.self.inside.marks) c.self.invariant.kept.named c.args.port c.args.completed there)) (let held = c.self.invariant.lived calm in record { threads = held.threads; processes = held.processes }));
}

pub returns-clause-step : goal.returns-clause-step
returns-clause-step c = record {
  rows = let there = rw (← c.self.view_is) at c.requires in
      rw (← c.self.view_is, c.set_completed.ensures) (joins.completes (tables_of c.self.inside.procs c.self.inside.parts.items c.self.inside.ports c.self.inside.waits c.self.inside.names c.self.inside.sections c.self.inside.tokens c.self.inside.token_names c.self.inside.marks) c.self.invariant.kept.named c.args.port c.args.completed there);
  births = let there = rw (← c.self.view_is) at c.requires in
      rw (← c.self.view_is, c.set_completed.ensures) (joins.completed_names (tables_of c.self.inside.procs c.self.inside.parts.items c.self.inside.ports c.self.inside.waits c.self.inside.names c.self.inside.sections c.self.inside.tokens c.self.inside.token_names c.self.inside.marks) c.self.invariant.kept.named c.args.port c.args.completed there);
  calls = rw (← c.self.view_is) refl;
  made = let there = rw (← c.self.view_is) at c.requires in
      let owed = joins.completed_owed (tables_of c.self.inside.procs c.self.inside.parts.items c.self.inside.ports c.self.inside.waits c.self.inside.names c.self.inside.sections c.self.inside.tokens c.self.inside.token_names c.self.inside.marks) c.self.invariant.kept.named c.args.port c.args.completed there in
      rw (← c.self.view_is, c.set_completed.ensures) (omega (arith, owed));
  room = let there = rw (← c.self.view_is) at c.requires in
      rw (← c.self.view_is, c.set_completed.ensures) (joins.completed_room (tables_of c.self.inside.procs c.self.inside.parts.items c.self.inside.ports c.self.inside.waits c.self.inside.names c.self.inside.sections c.self.inside.tokens c.self.inside.token_names c.self.inside.marks) c.self.invariant.kept.named c.args.port c.args.completed there c.self.inside.parts.room);
}
