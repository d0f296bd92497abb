use Rattle.std.proofs.Common.{ap, refl, length, arith}
use Rattle.lpc_model.specs.World.{World}
use Rattle.lpc_rows.specs.Kept.{registered_ports, rows_by}
use Rattle.lpc_rows.specs.Shown.{tables_of}
use Rattle.lpc_rows.proofs.Dying.{fewer-registered}
use Rattle.lpc_rows.proofs.Enrolling as enrolling
use Rattle.lpc_model.specs.Basics.{Unregisters, unregistering}
use Rattle.lpc_rows.proofs.Lived as lived
use Rattle.lpc_world.proofs.Enrolled as enrolled
use Rattle.lpc_world.proofs.world.World.procs_unregister.Goals as goal
use Rattle.lpc_rows.proofs.Lawful.{alive-change}

pub unregister-requires : goal.unregister-requires
unregister-requires c =
    let there = rw (← c.self.view_is) at c.requires.registered in
    record { present = enrolling.stands_registered (tables_of c.self.inside.procs c.self.inside.parts.items c.self.inside.ports c.self.inside.waits c.self.inside.names c.self.inside.sections c.self.inside.tokens c.self.inside.token_names c.self.inside.marks) c.self.inside.calls c.self.inside.made c.self.invariant.kept c.args.tid c.args.birth there }

pub registrations_of-requires : goal.registrations_of-requires
registrations_of-requires c =
    let there = rw (← c.self.view_is) at c.requires.registered in
    record { present = enrolling.stands_registered (tables_of c.self.inside.procs c.self.inside.parts.items c.self.inside.ports c.self.inside.waits c.self.inside.names c.self.inside.sections c.self.inside.tokens c.self.inside.token_names c.self.inside.marks) c.self.inside.calls c.self.inside.made c.self.invariant.kept c.args.tid c.args.birth there }

pub invariant_of-self : goal.invariant_of-self
invariant_of-self c = record {
  kept =
      rw c.unregister.ensures.table (enrolling.unregistering-lawful (tables_of c.self.inside.procs c.self.inside.parts.items c.self.inside.ports c.self.inside.waits c.self.inside.names c.self.inside.sections c.self.inside.tokens c.self.inside.token_names c.self.inside.marks) c.self.inside.calls c.self.inside.made c.self.invariant.kept c.args.tid c.args.birth);
  watched = rw (c.unregister.ensures.table, c.add_some.ensures) (enrolled.unregistered-to (tables_of c.self.inside.procs c.self.inside.parts.items c.self.inside.ports c.self.inside.waits c.self.inside.names c.self.inside.sections c.self.inside.tokens c.self.inside.token_names c.self.inside.marks) c.self.inside.calls c.self.inside.made c.self.invariant.kept c.self.inside.suspects c.self.invariant.watched _ c.args.tid c.args.birth c.registrations_of.result.now c.registered_key-port.result c.registrations_of.ensures.rows c.registered_key-port.ensures (enrolling.unregisters (tables_of c.self.inside.procs c.self.inside.parts.items c.self.inside.ports c.self.inside.waits c.self.inside.names c.self.inside.sections c.self.inside.tokens c.self.inside.token_names c.self.inside.marks) c.self.inside.calls c.self.inside.made c.self.invariant.kept c.args.tid c.args.birth));
  lived = rw (c.unregister.ensures.table) (λ calm. lived.step-to (rows_by (tables_of c.self.inside.procs c.self.inside.parts.items c.self.inside.ports c.self.inside.waits c.self.inside.names c.self.inside.sections c.self.inside.tokens c.self.inside.token_names c.self.inside.marks)) (c.self.invariant.lived calm) _ (Unregisters c.args.tid c.args.birth) (enrolling.unregisters (tables_of c.self.inside.procs c.self.inside.parts.items c.self.inside.ports c.self.inside.waits c.self.inside.names c.self.inside.sections c.self.inside.tokens c.self.inside.token_names c.self.inside.marks) c.self.inside.calls c.self.inside.made c.self.invariant.kept c.args.tid c.args.birth) refl);
}

pub returns-clause-rows : goal.returns-clause-rows
returns-clause-rows c = rw (← c.self.view_is, c.unregister.ensures.table) (enrolling.unregisters (tables_of c.self.inside.procs c.self.inside.parts.items c.self.inside.ports c.self.inside.waits c.self.inside.names c.self.inside.sections c.self.inside.tokens c.self.inside.token_names c.self.inside.marks) c.self.inside.calls c.self.inside.made c.self.invariant.kept c.args.tid c.args.birth)

pub returns-clause-made : goal.returns-clause-made
returns-clause-made c =
    let there = rw (← c.self.view_is) at c.requires.registered in
    let same = ap (λ (v : World). length (registered_ports v)) (enrolling.unregisters (tables_of c.self.inside.procs c.self.inside.parts.items c.self.inside.ports c.self.inside.waits c.self.inside.names c.self.inside.sections c.self.inside.tokens c.self.inside.token_names c.self.inside.marks) c.self.inside.calls c.self.inside.made c.self.invariant.kept c.args.tid c.args.birth) in
    let less = fewer-registered c.args.tid c.args.birth (rows_by (tables_of c.self.inside.procs c.self.inside.parts.items c.self.inside.ports c.self.inside.waits c.self.inside.names c.self.inside.sections c.self.inside.tokens c.self.inside.token_names c.self.inside.marks)) there in
    rw (← c.self.view_is, c.unregister.ensures.table) (omega (arith, same, less))

pub returns-clause-budget : goal.returns-clause-budget
returns-clause-budget c =
    let there = rw (← c.self.view_is) at c.requires.registered in
    let same = ap (λ (v : World). length (registered_ports v)) (enrolling.unregisters (tables_of c.self.inside.procs c.self.inside.parts.items c.self.inside.ports c.self.inside.waits c.self.inside.names c.self.inside.sections c.self.inside.tokens c.self.inside.token_names c.self.inside.marks) c.self.inside.calls c.self.inside.made c.self.invariant.kept c.args.tid c.args.birth) in
    let less = fewer-registered c.args.tid c.args.birth (rows_by (tables_of c.self.inside.procs c.self.inside.parts.items c.self.inside.ports c.self.inside.waits c.self.inside.names c.self.inside.sections c.self.inside.tokens c.self.inside.token_names c.self.inside.marks)) there in
    let budget = c.self.invariant.kept.lawful.budget in
    rw c.unregister.ensures.table (omega (arith, same, less, budget))

pub returns-clause-room : goal.returns-clause-room
returns-clause-room c =
    rw (← c.self.view_is, c.unregister.ensures.table, ap (λ (v : World). v.threads) (enrolling.unregisters (tables_of c.self.inside.procs c.self.inside.parts.items c.self.inside.ports c.self.inside.waits c.self.inside.names c.self.inside.sections c.self.inside.tokens c.self.inside.token_names c.self.inside.marks) c.self.inside.calls c.self.inside.made c.self.invariant.kept c.args.tid c.args.birth)) (enrolling.room_unregistered _ _ _ _ _ _ _ _ _ _ _ (rows_by (tables_of c.self.inside.procs c.self.inside.parts.items c.self.inside.ports c.self.inside.waits c.self.inside.names c.self.inside.sections c.self.inside.tokens c.self.inside.token_names c.self.inside.marks)) _ c.args.tid c.args.birth)

pub returns-clause-place : goal.returns-clause-place
returns-clause-place c =
    let there = rw (← c.self.view_is) at c.requires.registered in
    let less = fewer-registered c.args.tid c.args.birth (rows_by (tables_of c.self.inside.procs c.self.inside.parts.items c.self.inside.ports c.self.inside.waits c.self.inside.names c.self.inside.sections c.self.inside.tokens c.self.inside.token_names c.self.inside.marks)) there in
    let alive = alive-change (unregistering c.args.birth) (λ t. refl) c.args.tid (rows_by (tables_of c.self.inside.procs c.self.inside.parts.items c.self.inside.ports c.self.inside.waits c.self.inside.names c.self.inside.sections c.self.inside.tokens c.self.inside.token_names c.self.inside.marks)).threads in
    let fit = c.self.invariant.kept.lawful.messages_fit in
    rw (c.unregister.ensures.table, ap (λ (v : World). v.threads) (enrolling.unregisters (tables_of c.self.inside.procs c.self.inside.parts.items c.self.inside.ports c.self.inside.waits c.self.inside.names c.self.inside.sections c.self.inside.tokens c.self.inside.token_names c.self.inside.marks) c.self.inside.calls c.self.inside.made c.self.invariant.kept c.args.tid c.args.birth)) (omega (arith, less, alive, fit))
