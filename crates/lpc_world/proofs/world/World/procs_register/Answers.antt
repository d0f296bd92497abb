use Rattle.std.proofs.Common.{ap, sym, length, ◌∙◌, arith}
use Rattle.lpc_model.specs.Basics.{Registers, basic}
use Rattle.lpc_model.specs.World.{World}
use Rattle.lpc_procs.specs.declared.rows.Registration.{Registration}
use Rattle.lpc_rows.specs.Kept.{registered_ports, rows_by}
use Rattle.lpc_rows.specs.Shown.{tables_of}
use Rattle.lpc_rows.proofs.Dying.{longer-registered}
use Rattle.lpc_rows.proofs.Enrolling as enrolling
use Rattle.lpc_rows.proofs.Steps as steps
use Rattle.lpc_rows.proofs.Suspected as suspected
use Rattle.lpc_rows.specs.Shown.{births_of}
use Rattle.std.proofs.Common.{refl}
use Rattle.lpc_rows.proofs.Lived as lived
use Rattle.lpc_world.proofs.world.World.procs_register.Goals as goal

pub register-requires : goal.register-requires
register-requires c =
    let there = rw (← c.self.view_is) at c.requires in
    record { left = enrolling.left_to_register (tables_of c.self.inside.procs c.self.inside.parts.items c.self.inside.ports c.self.inside.waits c.self.inside.names c.self.inside.sections c.self.inside.tokens c.self.inside.token_names c.self.inside.marks) c.self.inside.calls c.self.inside.made c.self.invariant.kept c.args.tid there.thread (sym (steps.has_thread (tables_of c.self.inside.procs c.self.inside.parts.items c.self.inside.ports c.self.inside.waits c.self.inside.names c.self.inside.sections c.self.inside.tokens c.self.inside.token_names c.self.inside.marks) c.self.inside.calls c.self.inside.made c.self.invariant.kept c.args.tid) ∙ there.thread) there.few }

pub invariant_of-self : goal.invariant_of-self
invariant_of-self c = record {
  kept =
      let there = rw (← c.self.view_is) at c.requires in
      let birth = sym c.port.ensures.own ∙ c.port.ensures.birth in
      let own = rw (← c.self.view_is) at birth in
      let r : Registration = record { port = c.args.port; birth = c.port.result.now.birth } in
      let room = there.room in
      rw c.register.ensures.table (enrolling.registering-lawful (tables_of c.self.inside.procs c.self.inside.parts.items c.self.inside.ports c.self.inside.waits c.self.inside.names c.self.inside.sections c.self.inside.tokens c.self.inside.token_names c.self.inside.marks) c.self.inside.calls c.self.inside.made c.self.invariant.kept c.args.tid r there.port (sym own) there.budget (omega (arith, room)) there.thread);
  watched = rw (c.register.ensures.table) (suspected.step-to (rows_by (tables_of c.self.inside.procs c.self.inside.parts.items c.self.inside.ports c.self.inside.waits c.self.inside.names c.self.inside.sections c.self.inside.tokens c.self.inside.token_names c.self.inside.marks)) (births_of (tables_of c.self.inside.procs c.self.inside.parts.items c.self.inside.ports c.self.inside.waits c.self.inside.names c.self.inside.sections c.self.inside.tokens c.self.inside.token_names c.self.inside.marks)).ports c.self.inside.suspects c.self.invariant.watched _ (Registers c.args.tid c.port.result.now.birth) (enrolling.registers (tables_of c.self.inside.procs c.self.inside.parts.items c.self.inside.ports c.self.inside.waits c.self.inside.names c.self.inside.sections c.self.inside.tokens c.self.inside.token_names c.self.inside.marks) c.self.inside.calls c.self.inside.made c.self.invariant.kept c.args.tid (record { port = c.args.port; birth = c.port.result.now.birth })) refl);
  lived = rw (c.register.ensures.table) (λ calm. lived.step-to (rows_by (tables_of c.self.inside.procs c.self.inside.parts.items c.self.inside.ports c.self.inside.waits c.self.inside.names c.self.inside.sections c.self.inside.tokens c.self.inside.token_names c.self.inside.marks)) (c.self.invariant.lived calm) _ (Registers c.args.tid c.port.result.now.birth) (enrolling.registers (tables_of c.self.inside.procs c.self.inside.parts.items c.self.inside.ports c.self.inside.waits c.self.inside.names c.self.inside.sections c.self.inside.tokens c.self.inside.token_names c.self.inside.marks) c.self.inside.calls c.self.inside.made c.self.invariant.kept c.args.tid (record { port = c.args.port; birth = c.port.result.now.birth })) refl);
}

pub returns-clause-rows : goal.returns-clause-rows
returns-clause-rows c =
    let birth = sym c.port.ensures.own ∙ c.port.ensures.birth in
    let own = rw (← c.self.view_is) at birth in
    let r : Registration = record { port = c.args.port; birth = c.port.result.now.birth } in
    rw (← c.self.view_is, c.register.ensures.table) (enrolling.registers (tables_of c.self.inside.procs c.self.inside.parts.items c.self.inside.ports c.self.inside.waits c.self.inside.names c.self.inside.sections c.self.inside.tokens c.self.inside.token_names c.self.inside.marks) c.self.inside.calls c.self.inside.made c.self.invariant.kept c.args.tid r ∙ ap (λ b. basic (rows_by (tables_of c.self.inside.procs c.self.inside.parts.items c.self.inside.ports c.self.inside.waits c.self.inside.names c.self.inside.sections c.self.inside.tokens c.self.inside.token_names c.self.inside.marks)) (Registers c.args.tid b)) own)

pub returns-clause-made : goal.returns-clause-made
returns-clause-made c =
    let there = rw (← c.self.view_is) at c.requires in
    let r : Registration = record { port = c.args.port; birth = c.port.result.now.birth } in
    let rows = rows_by (tables_of c.self.inside.procs c.self.inside.parts.items c.self.inside.ports c.self.inside.waits c.self.inside.names c.self.inside.sections c.self.inside.tokens c.self.inside.token_names c.self.inside.marks) in
    let owed = ap (λ (v : World). length (registered_ports v)) (enrolling.registers (tables_of c.self.inside.procs c.self.inside.parts.items c.self.inside.ports c.self.inside.waits c.self.inside.names c.self.inside.sections c.self.inside.tokens c.self.inside.token_names c.self.inside.marks) c.self.inside.calls c.self.inside.made c.self.invariant.kept c.args.tid r) ∙ longer-registered c.args.tid c.port.result.now.birth rows.threads c.self.invariant.kept.drawn.threads_single there.thread in
    rw (← c.self.view_is, c.register.ensures.table) (omega (arith, owed))

pub returns-clause-room : goal.returns-clause-room
returns-clause-room c =
    let there = rw (← c.self.view_is) at c.requires in
    let r : Registration = record { port = c.args.port; birth = c.port.result.now.birth } in
    rw (← c.self.view_is, c.register.ensures.table, ap (λ (v : World). v.threads) (enrolling.registers (tables_of c.self.inside.procs c.self.inside.parts.items c.self.inside.ports c.self.inside.waits c.self.inside.names c.self.inside.sections c.self.inside.tokens c.self.inside.token_names c.self.inside.marks) c.self.inside.calls c.self.inside.made c.self.invariant.kept c.args.tid r)) (enrolling.room_registered _ _ _ _ _ _ _ _ _ _ _ (rows_by (tables_of c.self.inside.procs c.self.inside.parts.items c.self.inside.ports c.self.inside.waits c.self.inside.names c.self.inside.sections c.self.inside.tokens c.self.inside.token_names c.self.inside.marks)) _ c.args.tid c.port.result.now.birth c.self.invariant.kept.drawn.threads_single there.thread)
