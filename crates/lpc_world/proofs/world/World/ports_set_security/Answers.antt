use Rattle.std.proofs.Common.{arith, refl}
use Rattle.lpc_rows.specs.Shown.{tables_of}
use Rattle.lpc_rows.proofs.Secured as secured
use Rattle.lpc_rows.proofs.Suspected as suspected
use Rattle.lpc_rows.proofs.Suspecting as suspecting
use Rattle.lpc_rows.specs.Kept.{rows_by}
use Rattle.lpc_rows.specs.Shown.{births_of}
use Rattle.lpc_rows.specs.Shown.{Births}
use Rattle.lpc_rows.specs.Names.{name_of}
use Rattle.std.proofs.Common.{ap}
use Rattle.lpc_model.specs.Basics.{Secures}
use Rattle.lpc_rows.proofs.Lived as lived
use Rattle.lpc_world.proofs.world.World.ports_set_security.Goals as goal

pub invariant_of-self : goal.invariant_of-self
invariant_of-self c = record {
  kept =
      let there = rw (← c.self.view_is) at c.requires in
      rw c.set_security.ensures (secured.secured_lawful (tables_of c.self.inside.procs c.self.inside.parts.items c.self.inside.ports c.self.inside.waits c.self.inside.names c.self.inside.sections c.self.inside.tokens c.self.inside.token_names c.self.inside.marks) c.self.invariant.kept.named c.args.port c.args.security there c.self.inside.calls c.self.inside.made c.self.invariant.kept);
  watched = let there = rw (← c.self.view_is) at c.requires in rw c.set_security.ensures (suspecting.names-to (rows_by (record (tables_of c.self.inside.procs c.self.inside.parts.items c.self.inside.ports c.self.inside.waits c.self.inside.names c.self.inside.sections c.self.inside.tokens c.self.inside.token_names c.self.inside.marks) { ports = secured.secured_table (tables_of c.self.inside.procs c.self.inside.parts.items c.self.inside.ports c.self.inside.waits c.self.inside.names c.self.inside.sections c.self.inside.tokens c.self.inside.token_names c.self.inside.marks) c.self.invariant.kept.named c.args.port c.args.security there })) (births_of (tables_of c.self.inside.procs c.self.inside.parts.items c.self.inside.ports c.self.inside.waits c.self.inside.names c.self.inside.sections c.self.inside.tokens c.self.inside.token_names c.self.inside.marks)).ports _ c.self.inside.suspects (ap (λ (b : Births). b.ports) (secured.secured_names (tables_of c.self.inside.procs c.self.inside.parts.items c.self.inside.ports c.self.inside.waits c.self.inside.names c.self.inside.sections c.self.inside.tokens c.self.inside.token_names c.self.inside.marks) c.self.invariant.kept.named c.args.port c.args.security there)) (suspected.step-to (rows_by (tables_of c.self.inside.procs c.self.inside.parts.items c.self.inside.ports c.self.inside.waits c.self.inside.names c.self.inside.sections c.self.inside.tokens c.self.inside.token_names c.self.inside.marks)) (births_of (tables_of c.self.inside.procs c.self.inside.parts.items c.self.inside.ports c.self.inside.waits c.self.inside.names c.self.inside.sections c.self.inside.tokens c.self.inside.token_names c.self.inside.marks)).ports c.self.inside.suspects c.self.invariant.watched _ (Secures (name_of (births_of (tables_of c.self.inside.procs c.self.inside.parts.items c.self.inside.ports c.self.inside.waits c.self.inside.names c.self.inside.sections c.self.inside.tokens c.self.inside.token_names c.self.inside.marks)).ports c.args.port) c.args.security) (secured.secures (tables_of c.self.inside.procs c.self.inside.parts.items c.self.inside.ports c.self.inside.waits c.self.inside.names c.self.inside.sections c.self.inside.tokens c.self.inside.token_names c.self.inside.marks) c.self.invariant.kept.named c.args.port c.args.security there) refl));
  lived = let there = rw (← c.self.view_is) at c.requires in rw c.set_security.ensures (λ calm. lived.step-to (rows_by (tables_of c.self.inside.procs c.self.inside.parts.items c.self.inside.ports c.self.inside.waits c.self.inside.names c.self.inside.sections c.self.inside.tokens c.self.inside.token_names c.self.inside.marks)) (c.self.invariant.lived calm) _ (Secures (name_of (births_of (tables_of c.self.inside.procs c.self.inside.parts.items c.self.inside.ports c.self.inside.waits c.self.inside.names c.self.inside.sections c.self.inside.tokens c.self.inside.token_names c.self.inside.marks)).ports c.args.port) c.args.security) (secured.secures (tables_of c.self.inside.procs c.self.inside.parts.items c.self.inside.ports c.self.inside.waits c.self.inside.names c.self.inside.sections c.self.inside.tokens c.self.inside.token_names c.self.inside.marks) c.self.invariant.kept.named c.args.port c.args.security there) refl);
}

pub returns-clause-step : goal.returns-clause-step
returns-clause-step c = record {
  rows = let there = rw (← c.self.view_is) at c.requires in
      rw (← c.self.view_is, c.set_security.ensures) (secured.secures (tables_of c.self.inside.procs c.self.inside.parts.items c.self.inside.ports c.self.inside.waits c.self.inside.names c.self.inside.sections c.self.inside.tokens c.self.inside.token_names c.self.inside.marks) c.self.invariant.kept.named c.args.port c.args.security there);
  births = let there = rw (← c.self.view_is) at c.requires in
      rw (← c.self.view_is, c.set_security.ensures) (secured.secured_names (tables_of c.self.inside.procs c.self.inside.parts.items c.self.inside.ports c.self.inside.waits c.self.inside.names c.self.inside.sections c.self.inside.tokens c.self.inside.token_names c.self.inside.marks) c.self.invariant.kept.named c.args.port c.args.security there);
  calls = rw (← c.self.view_is) refl;
  made = let there = rw (← c.self.view_is) at c.requires in
      let owed = secured.secured_owed (tables_of c.self.inside.procs c.self.inside.parts.items c.self.inside.ports c.self.inside.waits c.self.inside.names c.self.inside.sections c.self.inside.tokens c.self.inside.token_names c.self.inside.marks) c.self.invariant.kept.named c.args.port c.args.security there in
      rw (← c.self.view_is, c.set_security.ensures) (omega (arith, owed));
  room = let there = rw (← c.self.view_is) at c.requires in
      rw (← c.self.view_is, c.set_security.ensures) (secured.secured_room (tables_of c.self.inside.procs c.self.inside.parts.items c.self.inside.ports c.self.inside.waits c.self.inside.names c.self.inside.sections c.self.inside.tokens c.self.inside.token_names c.self.inside.marks) c.self.invariant.kept.named c.args.port c.args.security there c.self.inside.parts.room);
}
