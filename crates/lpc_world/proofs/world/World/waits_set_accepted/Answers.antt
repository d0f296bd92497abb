use Rattle.std.proofs.Common.{arith}
use Rattle.lpc_rows.specs.Shown.{tables_of}
use Rattle.lpc_rows.proofs.Accepts as accepts
use Rattle.lpc_rows.proofs.Steps as steps
use Rattle.lpc_rows.proofs.Suspecting as suspecting
use Rattle.lpc_rows.specs.Kept.{rows_by}
use Rattle.lpc_rows.specs.Shown.{births_of}
use Rattle.lpc_rows.specs.Shown.{shown_acceptance}
use Rattle.lpc_world.proofs.world.World.waits_set_accepted.Goals as goal

pub set_accepted-requires : goal.set_accepted-requires
set_accepted-requires c = record { waits = steps.some_wait (tables_of c.self.inside.procs c.self.inside.parts.items c.self.inside.ports c.self.inside.waits c.self.inside.names c.self.inside.sections c.self.inside.tokens c.self.inside.token_names c.self.inside.marks) c.self.inside.calls c.self.inside.made c.self.invariant.kept c.args.tid (rw (← c.self.view_is) at c.requires.waits) }

pub invariant_of-self : goal.invariant_of-self
invariant_of-self c = record {
  kept =
      let off = rw (← c.self.view_is) at c.requires.offered in
      rw c.set_accepted.ensures.table (accepts.accepted_lawful (tables_of c.self.inside.procs c.self.inside.parts.items c.self.inside.ports c.self.inside.waits c.self.inside.names c.self.inside.sections c.self.inside.tokens c.self.inside.token_names c.self.inside.marks) c.self.inside.calls c.self.inside.made c.args.tid c.self.invariant.kept off c.args.accepted (rw (← c.self.view_is) at c.requires.received) (rw (← c.self.view_is) at c.requires.waits));
  watched = let off = rw (← c.self.view_is) at c.requires.offered in rw (c.set_accepted.ensures.table) (suspecting.accepted-to (rows_by (tables_of c.self.inside.procs c.self.inside.parts.items c.self.inside.ports c.self.inside.waits c.self.inside.names c.self.inside.sections c.self.inside.tokens c.self.inside.token_names c.self.inside.marks)) (births_of (tables_of c.self.inside.procs c.self.inside.parts.items c.self.inside.ports c.self.inside.waits c.self.inside.names c.self.inside.sections c.self.inside.tokens c.self.inside.token_names c.self.inside.marks)).ports c.self.inside.suspects c.self.invariant.watched _ c.args.tid shown_acceptance c.args.accepted (accepts.accepts_if (tables_of c.self.inside.procs c.self.inside.parts.items c.self.inside.ports c.self.inside.waits c.self.inside.names c.self.inside.sections c.self.inside.tokens c.self.inside.token_names c.self.inside.marks) c.self.inside.calls c.self.inside.made c.args.tid c.self.invariant.kept off c.args.accepted) (accepts.leaves_if (tables_of c.self.inside.procs c.self.inside.parts.items c.self.inside.ports c.self.inside.waits c.self.inside.names c.self.inside.sections c.self.inside.tokens c.self.inside.token_names c.self.inside.marks) c.self.inside.calls c.self.inside.made c.args.tid c.self.invariant.kept off c.args.accepted));
  lived = λ calm. let held = c.self.invariant.lived calm in record { threads = held.threads; processes = held.processes };
}

pub returns-clause-some : goal.returns-clause-some
returns-clause-some c =
    let off = rw (← c.self.view_is) at c.requires.offered in
    rw (← c.self.view_is, c.set_accepted.ensures.table) (accepts.accepts_if (tables_of c.self.inside.procs c.self.inside.parts.items c.self.inside.ports c.self.inside.waits c.self.inside.names c.self.inside.sections c.self.inside.tokens c.self.inside.token_names c.self.inside.marks) c.self.inside.calls c.self.inside.made c.args.tid c.self.invariant.kept off c.args.accepted)

pub returns-clause-none : goal.returns-clause-none
returns-clause-none c =
    let off = rw (← c.self.view_is) at c.requires.offered in
    rw (← c.self.view_is, c.set_accepted.ensures.table) (accepts.leaves_if (tables_of c.self.inside.procs c.self.inside.parts.items c.self.inside.ports c.self.inside.waits c.self.inside.names c.self.inside.sections c.self.inside.tokens c.self.inside.token_names c.self.inside.marks) c.self.inside.calls c.self.inside.made c.args.tid c.self.invariant.kept off c.args.accepted)

pub returns-clause-room : goal.returns-clause-room
returns-clause-room c = rw (← c.self.view_is, c.set_accepted.ensures.table) (accepts.accepted_room (tables_of c.self.inside.procs c.self.inside.parts.items c.self.inside.ports c.self.inside.waits c.self.inside.names c.self.inside.sections c.self.inside.tokens c.self.inside.token_names c.self.inside.marks) c.self.inside.calls c.self.inside.made c.args.tid c.self.invariant.kept c.args.accepted c.self.inside.parts.room)

pub returns-clause-unqueued : goal.returns-clause-unqueued
returns-clause-unqueued c = rw (← c.self.view_is, c.set_accepted.ensures.table) (accepts.accepted_unqueued (tables_of c.self.inside.procs c.self.inside.parts.items c.self.inside.ports c.self.inside.waits c.self.inside.names c.self.inside.sections c.self.inside.tokens c.self.inside.token_names c.self.inside.marks) c.self.inside.calls c.self.inside.made c.args.tid c.self.invariant.kept c.args.accepted)

pub returns-clause-still : goal.returns-clause-still
returns-clause-still c = rw (← c.self.view_is, c.set_accepted.ensures.table) (accepts.accepted_ready (tables_of c.self.inside.procs c.self.inside.parts.items c.self.inside.ports c.self.inside.waits c.self.inside.names c.self.inside.sections c.self.inside.tokens c.self.inside.token_names c.self.inside.marks) c.self.inside.calls c.self.inside.made c.args.tid c.self.invariant.kept c.args.accepted)

pub returns-clause-made : goal.returns-clause-made
returns-clause-made c =
    let off = rw (← c.self.view_is) at c.requires.offered in
    let owed = accepts.accepted_owed (tables_of c.self.inside.procs c.self.inside.parts.items c.self.inside.ports c.self.inside.waits c.self.inside.names c.self.inside.sections c.self.inside.tokens c.self.inside.token_names c.self.inside.marks) c.self.inside.calls c.self.inside.made c.args.tid c.self.invariant.kept off c.args.accepted in
    rw (← c.self.view_is, c.set_accepted.ensures.table) (omega (arith, owed))
