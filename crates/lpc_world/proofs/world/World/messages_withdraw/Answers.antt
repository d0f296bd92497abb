use Rattle.std.proofs.Common.{refl}
use Rattle.std.proofs.Common.{ap, ◌∙◌}
use Rattle.lpc_rows.specs.Shown.{tables_of}
use Rattle.lpc_rows.proofs.Withdrawn as withdrawn
use Rattle.std.proofs.Common.{◌+◌, length}
use Rattle.lpc_ports.specs.Table.{PortTable}
use Rattle.lpc_ports.specs.Table as ports
use Rattle.lpc_rows.proofs.Capacities as capacities
use Rattle.lpc_rows.proofs.Suspecting as suspecting
use Rattle.lpc_world.proofs.Unreceived as unreceived
use Rattle.lpc_world.proofs.world.World.messages_withdraw.Goals as goal

pub invariant_of-self : goal.invariant_of-self
invariant_of-self c = record {
  kept =
      rw c.withdraw-went.ensures.table (withdrawn.withdrawn_lawful (tables_of c.self.inside.procs c.self.inside.parts.items c.self.inside.ports c.self.inside.waits c.self.inside.names c.self.inside.sections c.self.inside.tokens c.self.inside.token_names c.self.inside.marks) c.self.inside.calls c.self.inside.made c.self.invariant.kept c.args.tid);
  watched = rw (c.withdraw-went.ensures.table, c.add_any_if.ensures, c.withdraw-went.ensures.went) (suspecting.emptied-to (tables_of c.self.inside.procs c.self.inside.parts.items c.self.inside.ports c.self.inside.waits c.self.inside.names c.self.inside.sections c.self.inside.tokens c.self.inside.token_names c.self.inside.marks) c.self.inside.suspects c.self.invariant.watched (ports.is_own_of c.args.tid));
  lived = rw (c.withdraw-went.ensures.table) (λ calm. let held = c.self.invariant.lived calm in record { threads = held.threads; processes = held.processes });
}

pub returns-clause-left : goal.returns-clause-left
returns-clause-left c = rw c.withdraw-went.ensures.table (withdrawn.withdrawn_left (tables_of c.self.inside.procs c.self.inside.parts.items c.self.inside.ports c.self.inside.waits c.self.inside.names c.self.inside.sections c.self.inside.tokens c.self.inside.token_names c.self.inside.marks) c.self.inside.calls c.self.inside.made c.self.invariant.kept c.args.tid)

pub returns-clause-unqueued : goal.returns-clause-unqueued
returns-clause-unqueued c = rw (← c.self.view_is, c.withdraw-went.ensures.table) (withdrawn.withdrawn_unqueued (tables_of c.self.inside.procs c.self.inside.parts.items c.self.inside.ports c.self.inside.waits c.self.inside.names c.self.inside.sections c.self.inside.tokens c.self.inside.token_names c.self.inside.marks) c.self.inside.calls c.self.inside.made c.self.invariant.kept c.args.tid)

pub returns-clause-step : goal.returns-clause-step
returns-clause-step c = record {
  rows = rw (← c.self.view_is, c.withdraw-went.ensures.table) (withdrawn.withdraws (tables_of c.self.inside.procs c.self.inside.parts.items c.self.inside.ports c.self.inside.waits c.self.inside.names c.self.inside.sections c.self.inside.tokens c.self.inside.token_names c.self.inside.marks) c.self.inside.calls c.self.inside.made c.self.invariant.kept c.args.tid);
  births = rw (← c.self.view_is, c.withdraw-went.ensures.table) refl;
  calls = rw (← c.self.view_is) refl;
  made = rw (← c.self.view_is, c.withdraw-went.ensures.table) refl;
  room = rw (← c.self.view_is, c.withdraw-went.ensures.table) (withdrawn.withdrawn_room (tables_of c.self.inside.procs c.self.inside.parts.items c.self.inside.ports c.self.inside.waits c.self.inside.names c.self.inside.sections c.self.inside.tokens c.self.inside.token_names c.self.inside.marks) c.self.inside.calls c.self.inside.made c.self.invariant.kept c.args.tid c.self.inside.parts.room);
}

pub returns-clause-capacity : goal.returns-clause-capacity
returns-clause-capacity c =
    rw (← c.self.view_is)
    (capacities.of_ports (tables_of c.self.inside.procs c.self.inside.parts.items c.self.inside.ports c.self.inside.waits c.self.inside.names c.self.inside.sections c.self.inside.tokens c.self.inside.token_names c.self.inside.marks) c.self.inside.parts.room c.withdraw-went.new.ports (ap (λ (s : PortTable). s.port_room + length s.ports) c.withdraw-went.ensures.table)
    (ap (λ (s : PortTable). s.message_room + length s.messages) c.withdraw-went.ensures.table ∙ capacities.passing_less (ports.is_own_of c.args.tid) c.self.inside.ports.message_room c.self.inside.ports.messages))

pub withdraw-went-requires : goal.withdraw-went-requires
withdraw-went-requires c = record { own = unreceived.own-only-waiting (tables_of c.self.inside.procs c.self.inside.parts.items c.self.inside.ports c.self.inside.waits c.self.inside.names c.self.inside.sections c.self.inside.tokens c.self.inside.token_names c.self.inside.marks) c.self.inside.calls c.self.inside.made c.self.invariant.kept c.args.tid }
