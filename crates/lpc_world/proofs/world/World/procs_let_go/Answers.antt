use Rattle.std.proofs.Common.{refl, sym, ◌∙◌}
use Rattle.lpc_model.specs.Basics as basics
use Rattle.lpc_rows.specs.Shown.{births_of, tables_of}
use Rattle.lpc_rows.proofs.Raising as raising
use Rattle.lpc_rows.proofs.Rooms as rooms
use Rattle.lpc_rows.proofs.Steps as steps
use Rattle.lpc_rows.proofs.Lived as lived
use Rattle.lpc_model.specs.Basics.{LetsGo}
use Rattle.lpc_rows.specs.Kept.{rows_by}
use Rattle.lpc_world.proofs.Hearers as hearers
use Rattle.lpc_world.proofs.world.World.procs_let_go.Goals as goal

pub let_go-requires : goal.let_go-requires
let_go-requires c = record { present = sym (steps.process_same (tables_of c.self.inside.procs c.self.inside.parts.items c.self.inside.ports c.self.inside.waits c.self.inside.names c.self.inside.sections c.self.inside.tokens c.self.inside.token_names c.self.inside.marks) c.self.inside.calls c.self.inside.made c.self.invariant.kept c.args.pid) ∙ (rw (← c.self.view_is) at c.requires.process) }

pub invariant_of-self : goal.invariant_of-self
invariant_of-self c = record {
  kept =
      rw c.let_go.ensures.table (raising.let-go-lawful (tables_of c.self.inside.procs c.self.inside.parts.items c.self.inside.ports c.self.inside.waits c.self.inside.names c.self.inside.sections c.self.inside.tokens c.self.inside.token_names c.self.inside.marks) c.self.inside.calls c.self.inside.made c.self.invariant.kept c.args.pid);
  watched = let are = rw (← c.self.view_is) at c.hearers-hearers.ensures in rw (c.let_go.ensures.table, c.add_both.ensures) (hearers.retold-to (rows_by (tables_of c.self.inside.procs c.self.inside.parts.items c.self.inside.ports c.self.inside.waits c.self.inside.names c.self.inside.sections c.self.inside.tokens c.self.inside.token_names c.self.inside.marks)) (births_of (tables_of c.self.inside.procs c.self.inside.parts.items c.self.inside.ports c.self.inside.waits c.self.inside.names c.self.inside.sections c.self.inside.tokens c.self.inside.token_names c.self.inside.marks)).ports c.self.inside.suspects c.self.invariant.watched _ c.args.pid basics.portless c.hearers-hearers.result.0 c.hearers-hearers.result.1 c.self.invariant.kept.born.processes_single are (raising.lets-go (tables_of c.self.inside.procs c.self.inside.parts.items c.self.inside.ports c.self.inside.waits c.self.inside.names c.self.inside.sections c.self.inside.tokens c.self.inside.token_names c.self.inside.marks) c.self.inside.calls c.self.inside.made c.self.invariant.kept c.args.pid));
  lived = rw (c.let_go.ensures.table) (λ calm. lived.step-to (rows_by (tables_of c.self.inside.procs c.self.inside.parts.items c.self.inside.ports c.self.inside.waits c.self.inside.names c.self.inside.sections c.self.inside.tokens c.self.inside.token_names c.self.inside.marks)) (c.self.invariant.lived calm) _ (LetsGo c.args.pid) (raising.lets-go (tables_of c.self.inside.procs c.self.inside.parts.items c.self.inside.ports c.self.inside.waits c.self.inside.names c.self.inside.sections c.self.inside.tokens c.self.inside.token_names c.self.inside.marks) c.self.inside.calls c.self.inside.made c.self.invariant.kept c.args.pid) refl);
}

pub returns-clause-step : goal.returns-clause-step
returns-clause-step c = record {
  rows = rw (← c.self.view_is, c.let_go.ensures.table) (raising.lets-go (tables_of c.self.inside.procs c.self.inside.parts.items c.self.inside.ports c.self.inside.waits c.self.inside.names c.self.inside.sections c.self.inside.tokens c.self.inside.token_names c.self.inside.marks) c.self.inside.calls c.self.inside.made c.self.invariant.kept c.args.pid);
  births = rw (← c.self.view_is) refl;
  calls = rw (← c.self.view_is) refl;
  made = rw (← c.self.view_is, c.let_go.ensures.table) refl;
  room = rw (← c.self.view_is, c.let_go.ensures.table) (rooms.roomy_same _);
}
