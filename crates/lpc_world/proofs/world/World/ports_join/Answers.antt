use Rattle.std.proofs.Common.{refl}
use Rattle.std.proofs.Common.{arith}
use Rattle.lpc_rows.specs.Shown.{tables_of}
use Rattle.lpc_rows.proofs.Joins as joins
use Rattle.lpc_rows.proofs.Suspected as suspected
use Rattle.lpc_rows.proofs.Suspecting as tabled
use Rattle.lpc_rows.specs.Kept.{rows_by}
use Rattle.lpc_rows.specs.Shown.{births_of}
use Rattle.lpc_rows.specs.Shown.{Births}
use Rattle.std.proofs.Common.{ap}
use Rattle.lpc_rows.specs.Suspects.{suspecting_some}
use Rattle.lpc_rows.proofs.Lived as lived
use Rattle.lpc_rows.specs.Names.{name_of}
use Rattle.lpc_model.specs.Basics.{Joins}
use Rattle.lpc_world.proofs.world.World.ports_join.Goals as goal

pub invariant_of-self : goal.invariant_of-self
invariant_of-self c = record {
  kept =
      let there = rw (← c.self.view_is) at c.requires in
      rw c.join.ensures (joins.joined_lawful (tables_of c.self.inside.procs c.self.inside.parts.items c.self.inside.ports c.self.inside.waits c.self.inside.names c.self.inside.sections c.self.inside.tokens c.self.inside.token_names c.self.inside.marks) c.self.invariant.kept.named c.args.client c.args.server c.args.context there.client there.server c.self.inside.calls c.self.inside.made c.self.invariant.kept);
  watched = let there = rw (← c.self.view_is) at c.requires in let found = rw (← c.self.view_is) at c.port.ensures.found in let pairs = rw (← c.self.view_is) at c.port.ensures.pair in let stood = rw (← c.self.view_is) at c.port.ensures.pair_stands in let found' = rw (← c.self.view_is) at c.port-2.ensures.found in let pairs' = rw (← c.self.view_is) at c.port-2.ensures.pair in let stood' = rw (← c.self.view_is) at c.port-2.ensures.pair_stands in rw (c.join.ensures, c.add_some-2.ensures, c.add_some.ensures) (tabled.names-to (rows_by (record (tables_of c.self.inside.procs c.self.inside.parts.items c.self.inside.ports c.self.inside.waits c.self.inside.names c.self.inside.sections c.self.inside.tokens c.self.inside.token_names c.self.inside.marks) { ports = joins.joined_table (tables_of c.self.inside.procs c.self.inside.parts.items c.self.inside.ports c.self.inside.waits c.self.inside.names c.self.inside.sections c.self.inside.tokens c.self.inside.token_names c.self.inside.marks) c.self.invariant.kept.named c.args.client c.args.server c.args.context there.client there.server })) (births_of (tables_of c.self.inside.procs c.self.inside.parts.items c.self.inside.ports c.self.inside.waits c.self.inside.names c.self.inside.sections c.self.inside.tokens c.self.inside.token_names c.self.inside.marks)).ports _ (suspecting_some c.port-2.result.now.pair (suspecting_some c.port.result.now.pair c.self.inside.suspects)) (ap (λ (b : Births). b.ports) (joins.joined_names (tables_of c.self.inside.procs c.self.inside.parts.items c.self.inside.ports c.self.inside.waits c.self.inside.names c.self.inside.sections c.self.inside.tokens c.self.inside.token_names c.self.inside.marks) c.self.invariant.kept.named c.args.client c.args.server c.args.context there.client there.server)) (suspected.joined-to (rows_by (tables_of c.self.inside.procs c.self.inside.parts.items c.self.inside.ports c.self.inside.waits c.self.inside.names c.self.inside.sections c.self.inside.tokens c.self.inside.token_names c.self.inside.marks)) (births_of (tables_of c.self.inside.procs c.self.inside.parts.items c.self.inside.ports c.self.inside.waits c.self.inside.names c.self.inside.sections c.self.inside.tokens c.self.inside.token_names c.self.inside.marks)).ports c.self.inside.suspects c.self.invariant.watched _ c.args.client c.args.server c.args.context _ _ c.port.result.now.pair c.port-2.result.now.pair (tabled.single-ports (tables_of c.self.inside.procs c.self.inside.parts.items c.self.inside.ports c.self.inside.waits c.self.inside.names c.self.inside.sections c.self.inside.tokens c.self.inside.token_names c.self.inside.marks) c.self.invariant.kept.named) found found' pairs pairs' stood stood' (joins.joins (tables_of c.self.inside.procs c.self.inside.parts.items c.self.inside.ports c.self.inside.waits c.self.inside.names c.self.inside.sections c.self.inside.tokens c.self.inside.token_names c.self.inside.marks) c.self.invariant.kept.named c.args.client c.args.server c.args.context there.client there.server)));
  lived = let there = rw (← c.self.view_is) at c.requires in rw c.join.ensures (λ calm. lived.step-to (rows_by (tables_of c.self.inside.procs c.self.inside.parts.items c.self.inside.ports c.self.inside.waits c.self.inside.names c.self.inside.sections c.self.inside.tokens c.self.inside.token_names c.self.inside.marks)) (c.self.invariant.lived calm) _ (Joins (name_of (births_of (tables_of c.self.inside.procs c.self.inside.parts.items c.self.inside.ports c.self.inside.waits c.self.inside.names c.self.inside.sections c.self.inside.tokens c.self.inside.token_names c.self.inside.marks)).ports c.args.client) (name_of (births_of (tables_of c.self.inside.procs c.self.inside.parts.items c.self.inside.ports c.self.inside.waits c.self.inside.names c.self.inside.sections c.self.inside.tokens c.self.inside.token_names c.self.inside.marks)).ports c.args.server) c.args.context) (joins.joins (tables_of c.self.inside.procs c.self.inside.parts.items c.self.inside.ports c.self.inside.waits c.self.inside.names c.self.inside.sections c.self.inside.tokens c.self.inside.token_names c.self.inside.marks) c.self.invariant.kept.named c.args.client c.args.server c.args.context there.client there.server) refl);
}

pub returns-clause-step : goal.returns-clause-step
returns-clause-step c = record {
  rows = let there = rw (← c.self.view_is) at c.requires in
      rw (← c.self.view_is, c.join.ensures) (joins.joins (tables_of c.self.inside.procs c.self.inside.parts.items c.self.inside.ports c.self.inside.waits c.self.inside.names c.self.inside.sections c.self.inside.tokens c.self.inside.token_names c.self.inside.marks) c.self.invariant.kept.named c.args.client c.args.server c.args.context there.client there.server);
  births = let there = rw (← c.self.view_is) at c.requires in
      rw (← c.self.view_is, c.join.ensures) (joins.joined_names (tables_of c.self.inside.procs c.self.inside.parts.items c.self.inside.ports c.self.inside.waits c.self.inside.names c.self.inside.sections c.self.inside.tokens c.self.inside.token_names c.self.inside.marks) c.self.invariant.kept.named c.args.client c.args.server c.args.context there.client there.server);
  calls = rw (← c.self.view_is) refl;
  made = let there = rw (← c.self.view_is) at c.requires in
      let owed = joins.joined_owed (tables_of c.self.inside.procs c.self.inside.parts.items c.self.inside.ports c.self.inside.waits c.self.inside.names c.self.inside.sections c.self.inside.tokens c.self.inside.token_names c.self.inside.marks) c.self.invariant.kept.named c.args.client c.args.server c.args.context there.client there.server in
      rw (← c.self.view_is, c.join.ensures) (omega (arith, owed));
  room = let there = rw (← c.self.view_is) at c.requires in
      rw (← c.self.view_is, c.join.ensures) (joins.joined_room (tables_of c.self.inside.procs c.self.inside.parts.items c.self.inside.ports c.self.inside.waits c.self.inside.names c.self.inside.sections c.self.inside.tokens c.self.inside.token_names c.self.inside.marks) c.self.invariant.kept.named c.args.client c.args.server c.args.context there.client there.server c.self.inside.parts.room);
}
