use Rattle.std.proofs.Common.{◌-◌, [], true, None, refl, sym, ◌∙◌, arith}
use Rattle.lpc_rows.specs.Shown.{tables_of}
use Rattle.lpc_rows.proofs.Raising.{living-are}
use Rattle.lpc_rows.proofs.Steps as steps
use Rattle.lpc_rows.proofs.Suspected as suspected
use Rattle.lpc_rows.specs.Kept.{rows_by}
use Rattle.lpc_rows.specs.Shown.{births_of}
use Rattle.lpc_rows.specs.Shown.{shown_thread}
use Rattle.lpc_rows.proofs.Changes as changes
use Rattle.lpc_rows.proofs.Lived as lived
use Rattle.lpc_world.proofs.world.World.procs_add_thread.Goals as goal

pub add_thread-requires-clause-new : goal.add_thread-requires-clause-new
add_thread-requires-clause-new c = sym (steps.used_same (tables_of c.self.inside.procs c.self.inside.parts.items c.self.inside.ports c.self.inside.waits c.self.inside.names c.self.inside.sections c.self.inside.tokens c.self.inside.token_names c.self.inside.marks) c.self.inside.calls c.self.inside.made c.self.invariant.kept c.args.tid) ∙ (rw (← c.self.view_is) at c.requires.new)

pub add_thread-requires-clause-process : goal.add_thread-requires-clause-process
add_thread-requires-clause-process c = sym (steps.process_same (tables_of c.self.inside.procs c.self.inside.parts.items c.self.inside.ports c.self.inside.waits c.self.inside.names c.self.inside.sections c.self.inside.tokens c.self.inside.token_names c.self.inside.marks) c.self.inside.calls c.self.inside.made c.self.invariant.kept c.args.pid) ∙ (rw (← c.self.view_is) at c.requires.process)

pub invariant_of-self : goal.invariant_of-self
invariant_of-self c = record {
  kept =
      let there = rw (← c.self.view_is) at c.requires in
      let waits = there.wait_room in
      let messages = there.message_room in
      rw c.add_thread.ensures.table
      (steps.added_thread (tables_of c.self.inside.procs c.self.inside.parts.items c.self.inside.ports c.self.inside.waits c.self.inside.names c.self.inside.sections c.self.inside.tokens c.self.inside.token_names c.self.inside.marks) c.self.inside.calls c.self.inside.made c.self.invariant.kept (record { number = c.args.tid; process = c.args.pid; birth = c.args.birth; live = true; next_identifier = 1; next_ordinal = 1; registered = record { items = [] }; own = None }) (c.self.inside.procs.thread_room - 1) there.number.above there.new there.budget refl refl (rw (there.process, there.table) refl) (omega (arith, waits)) (omega (arith, messages)) (let alive = living-are (tables_of c.self.inside.procs c.self.inside.parts.items c.self.inside.ports c.self.inside.waits c.self.inside.names c.self.inside.sections c.self.inside.tokens c.self.inside.token_names c.self.inside.marks) c.self.inside.calls c.self.inside.made c.self.invariant.kept in omega (arith, waits, alive)) there.birth there.fresh);
  watched = rw (c.add_thread.ensures.table) (suspected.thread-to (rows_by (tables_of c.self.inside.procs c.self.inside.parts.items c.self.inside.ports c.self.inside.waits c.self.inside.names c.self.inside.sections c.self.inside.tokens c.self.inside.token_names c.self.inside.marks)) (births_of (tables_of c.self.inside.procs c.self.inside.parts.items c.self.inside.ports c.self.inside.waits c.self.inside.names c.self.inside.sections c.self.inside.tokens c.self.inside.token_names c.self.inside.marks)).ports c.self.inside.suspects c.self.invariant.watched _ (shown_thread (record { number = c.args.tid; process = c.args.pid; birth = c.args.birth; live = true; next_identifier = 1; next_ordinal = 1; registered = record { items = [] }; own = None })) (changes.adds_thread (tables_of c.self.inside.procs c.self.inside.parts.items c.self.inside.ports c.self.inside.waits c.self.inside.names c.self.inside.sections c.self.inside.tokens c.self.inside.token_names c.self.inside.marks) c.self.invariant.kept.named (record { number = c.args.tid; process = c.args.pid; birth = c.args.birth; live = true; next_identifier = 1; next_ordinal = 1; registered = record { items = [] }; own = None }) (c.self.inside.procs.thread_room - 1)) refl);
  lived = rw (c.add_thread.ensures.table) (λ calm. lived.thread-to (rows_by (tables_of c.self.inside.procs c.self.inside.parts.items c.self.inside.ports c.self.inside.waits c.self.inside.names c.self.inside.sections c.self.inside.tokens c.self.inside.token_names c.self.inside.marks)) (c.self.invariant.lived calm) _ (shown_thread (record { number = c.args.tid; process = c.args.pid; birth = c.args.birth; live = true; next_identifier = 1; next_ordinal = 1; registered = record { items = [] }; own = None })) refl (changes.adds_thread (tables_of c.self.inside.procs c.self.inside.parts.items c.self.inside.ports c.self.inside.waits c.self.inside.names c.self.inside.sections c.self.inside.tokens c.self.inside.token_names c.self.inside.marks) c.self.invariant.kept.named (record { number = c.args.tid; process = c.args.pid; birth = c.args.birth; live = true; next_identifier = 1; next_ordinal = 1; registered = record { items = [] }; own = None }) (c.self.inside.procs.thread_room - 1)));
}
