use Rattle.std.proofs.Common.{refl}
use Rattle.std.proofs.Common.{arith}
use Rattle.lpc_rows.specs.Shown.{tables_of}
use Rattle.lpc_rows.proofs.Cut as cut
use Rattle.lpc_rows.proofs.Suspected as suspected
use Rattle.lpc_rows.proofs.Suspecting as tabled
use Rattle.lpc_rows.specs.Kept.{rows_by}
use Rattle.lpc_rows.specs.Shown.{births_of}
use Rattle.lpc_rows.specs.Shown.{Births}
use Rattle.std.proofs.Common.{ap}
use Rattle.lpc_rows.specs.Suspects.{suspecting, suspecting_some}
use Rattle.lpc_rows.proofs.Lived as lived
use Rattle.lpc_rows.specs.Names.{name_of}
use Rattle.lpc_model.specs.Basics.{Cuts}
use Rattle.lpc_world.proofs.world.World.ports_cut.Goals as goal

pub invariant_of-self : goal.invariant_of-self
invariant_of-self c = record {
  kept =
      let there = rw (← c.self.view_is) at c.requires in
      rw c.cut.ensures (cut.cut_lawful (tables_of c.self.inside.procs c.self.inside.parts.items c.self.inside.ports c.self.inside.waits c.self.inside.names c.self.inside.sections c.self.inside.tokens c.self.inside.token_names c.self.inside.marks) c.self.invariant.kept.named c.args.port there.port there.pairs c.self.inside.calls c.self.inside.made c.self.invariant.kept);
  watched = let there = rw (← c.self.view_is) at c.requires in let found = rw (← c.self.view_is) at c.port.ensures.found in let pairs = rw (← c.self.view_is) at c.port.ensures.pair in let stood = rw (← c.self.view_is) at c.port.ensures.pair_stands in rw (c.cut.ensures, c.add_some.ensures, c.add.ensures) (tabled.names-to (rows_by (record (tables_of c.self.inside.procs c.self.inside.parts.items c.self.inside.ports c.self.inside.waits c.self.inside.names c.self.inside.sections c.self.inside.tokens c.self.inside.token_names c.self.inside.marks) { ports = cut.cut_table (tables_of c.self.inside.procs c.self.inside.parts.items c.self.inside.ports c.self.inside.waits c.self.inside.names c.self.inside.sections c.self.inside.tokens c.self.inside.token_names c.self.inside.marks) c.self.invariant.kept.named c.args.port there.port there.pairs })) (births_of (tables_of c.self.inside.procs c.self.inside.parts.items c.self.inside.ports c.self.inside.waits c.self.inside.names c.self.inside.sections c.self.inside.tokens c.self.inside.token_names c.self.inside.marks)).ports _ (suspecting_some c.port.result.now.pair (suspecting c.args.port c.self.inside.suspects)) (ap (λ (b : Births). b.ports) (cut.cut_names (tables_of c.self.inside.procs c.self.inside.parts.items c.self.inside.ports c.self.inside.waits c.self.inside.names c.self.inside.sections c.self.inside.tokens c.self.inside.token_names c.self.inside.marks) c.self.invariant.kept.named c.args.port there.port there.pairs)) (suspected.cut-to (rows_by (tables_of c.self.inside.procs c.self.inside.parts.items c.self.inside.ports c.self.inside.waits c.self.inside.names c.self.inside.sections c.self.inside.tokens c.self.inside.token_names c.self.inside.marks)) (births_of (tables_of c.self.inside.procs c.self.inside.parts.items c.self.inside.ports c.self.inside.waits c.self.inside.names c.self.inside.sections c.self.inside.tokens c.self.inside.token_names c.self.inside.marks)).ports c.self.inside.suspects c.self.invariant.watched _ c.args.port _ c.port.result.now.pair (tabled.single-ports (tables_of c.self.inside.procs c.self.inside.parts.items c.self.inside.ports c.self.inside.waits c.self.inside.names c.self.inside.sections c.self.inside.tokens c.self.inside.token_names c.self.inside.marks) c.self.invariant.kept.named) found pairs there.port stood (cut.cuts (tables_of c.self.inside.procs c.self.inside.parts.items c.self.inside.ports c.self.inside.waits c.self.inside.names c.self.inside.sections c.self.inside.tokens c.self.inside.token_names c.self.inside.marks) c.self.invariant.kept.named c.args.port there.port there.pairs)));
  lived = let there = rw (← c.self.view_is) at c.requires in rw c.cut.ensures (λ calm. lived.step-to (rows_by (tables_of c.self.inside.procs c.self.inside.parts.items c.self.inside.ports c.self.inside.waits c.self.inside.names c.self.inside.sections c.self.inside.tokens c.self.inside.token_names c.self.inside.marks)) (c.self.invariant.lived calm) _ (Cuts (name_of (births_of (tables_of c.self.inside.procs c.self.inside.parts.items c.self.inside.ports c.self.inside.waits c.self.inside.names c.self.inside.sections c.self.inside.tokens c.self.inside.token_names c.self.inside.marks)).ports c.args.port)) (cut.cuts (tables_of c.self.inside.procs c.self.inside.parts.items c.self.inside.ports c.self.inside.waits c.self.inside.names c.self.inside.sections c.self.inside.tokens c.self.inside.token_names c.self.inside.marks) c.self.invariant.kept.named c.args.port there.port there.pairs) refl);
}

pub returns-clause-step : goal.returns-clause-step
returns-clause-step c = record {
  rows = let there = rw (← c.self.view_is) at c.requires in
      rw (← c.self.view_is, c.cut.ensures) (cut.cuts (tables_of c.self.inside.procs c.self.inside.parts.items c.self.inside.ports c.self.inside.waits c.self.inside.names c.self.inside.sections c.self.inside.tokens c.self.inside.token_names c.self.inside.marks) c.self.invariant.kept.named c.args.port there.port there.pairs);
  births = let there = rw (← c.self.view_is) at c.requires in
      rw (← c.self.view_is, c.cut.ensures) (cut.cut_names (tables_of c.self.inside.procs c.self.inside.parts.items c.self.inside.ports c.self.inside.waits c.self.inside.names c.self.inside.sections c.self.inside.tokens c.self.inside.token_names c.self.inside.marks) c.self.invariant.kept.named c.args.port there.port there.pairs);
  calls = rw (← c.self.view_is) refl;
  made = let there = rw (← c.self.view_is) at c.requires in
      let owed = cut.cut_owed (tables_of c.self.inside.procs c.self.inside.parts.items c.self.inside.ports c.self.inside.waits c.self.inside.names c.self.inside.sections c.self.inside.tokens c.self.inside.token_names c.self.inside.marks) c.self.invariant.kept.named c.args.port there.port there.pairs in
      rw (← c.self.view_is, c.cut.ensures) (omega (arith, owed));
  room = let there = rw (← c.self.view_is) at c.requires in
      rw (← c.self.view_is, c.cut.ensures) (cut.cut_room (tables_of c.self.inside.procs c.self.inside.parts.items c.self.inside.ports c.self.inside.waits c.self.inside.names c.self.inside.sections c.self.inside.tokens c.self.inside.token_names c.self.inside.marks) c.self.invariant.kept.named c.args.port there.port there.pairs c.self.inside.parts.room);
}
