use Rattle.std.proofs.Common.{ap, refl, sym, ◌∙◌}
use Rattle.lpc_procs.specs.Procs.{registration}
use Rattle.lpc_model.specs.Basics.{basic, SetsException}
use Rattle.lpc_rows.specs.Kept.{rows_by}
use Rattle.lpc_model.specs.Basics as basics
use Rattle.lpc_rows.specs.Shown.{births_of, tables_of}
use Rattle.lpc_rows.proofs.Raising as raising
use Rattle.lpc_rows.proofs.Rooms as rooms
use Rattle.lpc_rows.proofs.Steps as steps
use Rattle.lpc_rows.proofs.Lived as lived
use Rattle.lpc_world.proofs.Hearers as hearers
use Rattle.lpc_world.proofs.world.World.procs_set_exception_port.Goals as goal

pub set_exception_port-requires : goal.set_exception_port-requires
set_exception_port-requires c = record { present = sym (steps.process_same (tables_of c.self.inside.procs c.self.inside.parts.items c.self.inside.ports c.self.inside.waits c.self.inside.names c.self.inside.sections c.self.inside.tokens c.self.inside.token_names c.self.inside.marks) c.self.inside.calls c.self.inside.made c.self.invariant.kept c.args.pid) ∙ (rw (← c.self.view_is) at c.requires.process) }

pub invariant_of-self : goal.invariant_of-self
invariant_of-self c = record {
  kept =
      let there = rw (← c.self.view_is) at c.requires.port in
      let birth = rw (← c.self.view_is) at (sym c.port.ensures.own ∙ c.port.ensures.birth) in
      rw c.set_exception_port.ensures.table (raising.exception-lawful (tables_of c.self.inside.procs c.self.inside.parts.items c.self.inside.ports c.self.inside.waits c.self.inside.names c.self.inside.sections c.self.inside.tokens c.self.inside.token_names c.self.inside.marks) c.self.inside.calls c.self.inside.made c.self.invariant.kept c.args.pid (registration c.args.port c.port.result.now.birth) there (sym birth));
  watched = let are = rw (← c.self.view_is) at c.hearers-hearers.ensures in rw (c.set_exception_port.ensures.table, c.add_both.ensures) (hearers.retold-to (rows_by (tables_of c.self.inside.procs c.self.inside.parts.items c.self.inside.ports c.self.inside.waits c.self.inside.names c.self.inside.sections c.self.inside.tokens c.self.inside.token_names c.self.inside.marks)) (births_of (tables_of c.self.inside.procs c.self.inside.parts.items c.self.inside.ports c.self.inside.waits c.self.inside.names c.self.inside.sections c.self.inside.tokens c.self.inside.token_names c.self.inside.marks)).ports c.self.inside.suspects c.self.invariant.watched _ c.args.pid (basics.excepted c.port.result.now.birth) c.hearers-hearers.result.0 c.hearers-hearers.result.1 c.self.invariant.kept.born.processes_single are (raising.sets-exception (tables_of c.self.inside.procs c.self.inside.parts.items c.self.inside.ports c.self.inside.waits c.self.inside.names c.self.inside.sections c.self.inside.tokens c.self.inside.token_names c.self.inside.marks) c.self.inside.calls c.self.inside.made c.self.invariant.kept c.args.pid (registration c.args.port c.port.result.now.birth)));
  lived = rw (c.set_exception_port.ensures.table) (λ calm. lived.step-to (rows_by (tables_of c.self.inside.procs c.self.inside.parts.items c.self.inside.ports c.self.inside.waits c.self.inside.names c.self.inside.sections c.self.inside.tokens c.self.inside.token_names c.self.inside.marks)) (c.self.invariant.lived calm) _ (SetsException c.args.pid c.port.result.now.birth) (raising.sets-exception (tables_of c.self.inside.procs c.self.inside.parts.items c.self.inside.ports c.self.inside.waits c.self.inside.names c.self.inside.sections c.self.inside.tokens c.self.inside.token_names c.self.inside.marks) c.self.inside.calls c.self.inside.made c.self.invariant.kept c.args.pid (registration c.args.port c.port.result.now.birth)) refl);
}

pub returns-clause-step : goal.returns-clause-step
returns-clause-step c = record {
  rows = let birth = rw (← c.self.view_is) at (sym c.port.ensures.own ∙ c.port.ensures.birth) in rw (← c.self.view_is, c.set_exception_port.ensures.table) (raising.sets-exception (tables_of c.self.inside.procs c.self.inside.parts.items c.self.inside.ports c.self.inside.waits c.self.inside.names c.self.inside.sections c.self.inside.tokens c.self.inside.token_names c.self.inside.marks) c.self.inside.calls c.self.inside.made c.self.invariant.kept c.args.pid (registration c.args.port c.port.result.now.birth) ∙ ap (λ b. basic (rows_by (tables_of c.self.inside.procs c.self.inside.parts.items c.self.inside.ports c.self.inside.waits c.self.inside.names c.self.inside.sections c.self.inside.tokens c.self.inside.token_names c.self.inside.marks)) (SetsException c.args.pid b)) birth);
  births = rw (← c.self.view_is) refl;
  calls = rw (← c.self.view_is) refl;
  made = rw (← c.self.view_is, c.set_exception_port.ensures.table) refl;
  room = rw (← c.self.view_is, c.set_exception_port.ensures.table) (rooms.roomy_same _);
}
