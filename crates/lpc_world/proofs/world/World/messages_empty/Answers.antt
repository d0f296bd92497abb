use Rattle.std.proofs.Common.{refl}
use Rattle.lpc_rows.specs.Shown.{tables_of}
use Rattle.lpc_rows.proofs.Emptied as emptied
use Rattle.std.proofs.Common.{◌+◌, ap, ◌∙◌, length}
use Rattle.lpc_ports.specs.Table.{PortTable}
use Rattle.lpc_ports.specs.Table as ports
use Rattle.lpc_rows.proofs.Capacities as capacities
use Rattle.lpc_rows.proofs.Suspecting as suspecting
use Rattle.lpc_world.proofs.world.World.messages_empty.Goals as goal

pub invariant_of-self : goal.invariant_of-self
invariant_of-self c = record {
  kept =
      let there = rw (← c.self.view_is) at c.requires.port in
      rw c.empty-went.ensures.table (emptied.emptied_lawful (tables_of c.self.inside.procs c.self.inside.parts.items c.self.inside.ports c.self.inside.waits c.self.inside.names c.self.inside.sections c.self.inside.tokens c.self.inside.token_names c.self.inside.marks) c.self.inside.calls c.self.inside.made c.self.invariant.kept c.args.port there);
  watched = rw (c.empty-went.ensures.table, c.add_any_if.ensures, c.empty-went.ensures.went) (suspecting.emptied-to (tables_of c.self.inside.procs c.self.inside.parts.items c.self.inside.ports c.self.inside.waits c.self.inside.names c.self.inside.sections c.self.inside.tokens c.self.inside.token_names c.self.inside.marks) c.self.inside.suspects c.self.invariant.watched (ports.is_in c.args.port));
  lived = rw (c.empty-went.ensures.table) (λ calm. let held = c.self.invariant.lived calm in record { threads = held.threads; processes = held.processes });
}

pub returns-clause-step : goal.returns-clause-step
returns-clause-step c = record {
  rows = let there = rw (← c.self.view_is) at c.requires.port in
      rw (← c.self.view_is, c.empty-went.ensures.table) (emptied.empties (tables_of c.self.inside.procs c.self.inside.parts.items c.self.inside.ports c.self.inside.waits c.self.inside.names c.self.inside.sections c.self.inside.tokens c.self.inside.token_names c.self.inside.marks) c.self.inside.calls c.self.inside.made c.self.invariant.kept c.args.port there);
  births = rw (← c.self.view_is, c.empty-went.ensures.table) refl;
  calls = rw (← c.self.view_is) refl;
  made = rw (← c.self.view_is, c.empty-went.ensures.table) refl;
  room = let there = rw (← c.self.view_is) at c.requires.port in
      rw (← c.self.view_is, c.empty-went.ensures.table) (emptied.emptied_room (tables_of c.self.inside.procs c.self.inside.parts.items c.self.inside.ports c.self.inside.waits c.self.inside.names c.self.inside.sections c.self.inside.tokens c.self.inside.token_names c.self.inside.marks) c.self.inside.calls c.self.inside.made c.self.invariant.kept c.args.port there c.self.inside.parts.room);
}

pub returns-clause-capacity : goal.returns-clause-capacity
returns-clause-capacity c =
    rw (← c.self.view_is)
    (capacities.of_ports (tables_of c.self.inside.procs c.self.inside.parts.items c.self.inside.ports c.self.inside.waits c.self.inside.names c.self.inside.sections c.self.inside.tokens c.self.inside.token_names c.self.inside.marks) c.self.inside.parts.room c.empty-went.new.self (ap (λ (s : PortTable). s.port_room + length s.ports) c.empty-went.ensures.table)
    (ap (λ (s : PortTable). s.message_room + length s.messages) c.empty-went.ensures.table ∙ capacities.passing_less (ports.is_in c.args.port) c.self.inside.ports.message_room c.self.inside.ports.messages))
