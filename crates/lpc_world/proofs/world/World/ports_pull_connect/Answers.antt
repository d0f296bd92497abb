use Rattle.std.proofs.Common.{rules, refl, sym}
use Rattle.lpc_rows.specs.Shown.{births_of, pulled_row, tables_of}
use Rattle.lpc_rows.proofs.Pulls as pulls
use Rattle.std.proofs.Common.{◌+◌, ap, ◌∙◌, length}
use Rattle.lpc_ports.specs.Table.{PortTable}
use Rattle.lpc_ports.specs.Table as ports
use Rattle.lpc_rows.proofs.Capacities as capacities
use Rattle.lpc_rows.proofs.Suspected as suspected
use Rattle.lpc_rows.proofs.Suspecting as suspecting
use Rattle.lpc_rows.specs.Kept.{rows_by}
use Rattle.lpc_rows.specs.Names.{name_of}
use Rattle.lpc_model.specs.Found.{is_queued_connect}
use Rattle.lpc_world.proofs.world.World.ports_pull_connect.Goals as goal

pub returns-in_err-message-clause-message : goal.returns-in_err-message-clause-message
returns-in_err-message-clause-message c =
    let there = rw (← c.self.view_is) at c.requires in
    rw (← c.self.view_is, pulls.no_connect (tables_of c.self.inside.procs c.self.inside.parts.items c.self.inside.ports c.self.inside.waits c.self.inside.names c.self.inside.sections c.self.inside.tokens c.self.inside.token_names c.self.inside.marks) c.self.inside.calls c.self.inside.made c.self.invariant.kept c.args.queue there (sym c.in_err-message.ensures)) (search rules)

pub pull-pulled-requires : goal.pull-pulled-requires
pull-pulled-requires c =
    let there = rw (← c.self.view_is) at c.requires in
    record { stands = pulls.connect_there (tables_of c.self.inside.procs c.self.inside.parts.items c.self.inside.ports c.self.inside.waits c.self.inside.names c.self.inside.sections c.self.inside.tokens c.self.inside.token_names c.self.inside.marks) c.self.inside.calls c.self.inside.made c.self.invariant.kept c.args.queue there c.in_ok-message.message (sym c.in_ok-message.ensures) }

pub invariant_of-self : goal.invariant_of-self
invariant_of-self c = record {
  kept =
      let there = rw (← c.self.view_is) at c.requires in
      let at = sym c.in_ok-message.ensures in
      let found = pulls.found (tables_of c.self.inside.procs c.self.inside.parts.items c.self.inside.ports c.self.inside.waits c.self.inside.names c.self.inside.sections c.self.inside.tokens c.self.inside.token_names c.self.inside.marks) c.self.inside.calls c.self.inside.made c.self.invariant.kept c.args.queue there c.pull-pulled.result (c.pull-pulled.ensures.first_connect c.args.queue at) in
      rw (pulls.pulled (tables_of c.self.inside.procs c.self.inside.parts.items c.self.inside.ports c.self.inside.waits c.self.inside.names c.self.inside.sections c.self.inside.tokens c.self.inside.token_names c.self.inside.marks) c.self.inside.calls c.self.inside.made c.self.invariant.kept c.args.queue there c.in_ok-message.message c.pull-pulled.new.self c.pull-pulled.ensures.table (c.pull-pulled.ensures.oldest_connect c.args.queue at))
      (pulls.pulled_lawful (tables_of c.self.inside.procs c.self.inside.parts.items c.self.inside.ports c.self.inside.waits c.self.inside.names c.self.inside.sections c.self.inside.tokens c.self.inside.token_names c.self.inside.marks) c.self.inside.calls c.self.inside.made c.self.invariant.kept c.args.queue there (pulled_row (births_of (tables_of c.self.inside.procs c.self.inside.parts.items c.self.inside.ports c.self.inside.waits c.self.inside.names c.self.inside.sections c.self.inside.tokens c.self.inside.token_names c.self.inside.marks)) c.args.queue c.pull-pulled.result) found);
  watched = let there = rw (← c.self.view_is) at c.requires in let at = sym c.in_ok-message.ensures in let found = pulls.found (tables_of c.self.inside.procs c.self.inside.parts.items c.self.inside.ports c.self.inside.waits c.self.inside.names c.self.inside.sections c.self.inside.tokens c.self.inside.token_names c.self.inside.marks) c.self.inside.calls c.self.inside.made c.self.invariant.kept c.args.queue there c.pull-pulled.result (c.pull-pulled.ensures.first_connect c.args.queue at) in rw (pulls.pulled (tables_of c.self.inside.procs c.self.inside.parts.items c.self.inside.ports c.self.inside.waits c.self.inside.names c.self.inside.sections c.self.inside.tokens c.self.inside.token_names c.self.inside.marks) c.self.inside.calls c.self.inside.made c.self.invariant.kept c.args.queue there c.in_ok-message.message c.pull-pulled.new.self c.pull-pulled.ensures.table (c.pull-pulled.ensures.oldest_connect c.args.queue at), c.add.ensures) (suspected.taken-to (rows_by (tables_of c.self.inside.procs c.self.inside.parts.items c.self.inside.ports c.self.inside.waits c.self.inside.names c.self.inside.sections c.self.inside.tokens c.self.inside.token_names c.self.inside.marks)) (births_of (tables_of c.self.inside.procs c.self.inside.parts.items c.self.inside.ports c.self.inside.waits c.self.inside.names c.self.inside.sections c.self.inside.tokens c.self.inside.token_names c.self.inside.marks)).ports c.self.inside.suspects c.self.invariant.watched _ (is_queued_connect (name_of (births_of (tables_of c.self.inside.procs c.self.inside.parts.items c.self.inside.ports c.self.inside.waits c.self.inside.names c.self.inside.sections c.self.inside.tokens c.self.inside.token_names c.self.inside.marks)).ports c.args.queue)) (pulled_row (births_of (tables_of c.self.inside.procs c.self.inside.parts.items c.self.inside.ports c.self.inside.waits c.self.inside.names c.self.inside.sections c.self.inside.tokens c.self.inside.token_names c.self.inside.marks)) c.args.queue c.pull-pulled.result) c.pull-pulled.result.sender found refl (suspecting.sender-stands (tables_of c.self.inside.procs c.self.inside.parts.items c.self.inside.ports c.self.inside.waits c.self.inside.names c.self.inside.sections c.self.inside.tokens c.self.inside.token_names c.self.inside.marks) c.self.invariant.kept.named (ports.is_connect_in c.args.queue) c.pull-pulled.result (c.pull-pulled.ensures.first_connect c.args.queue at)) (pulls.pulls (tables_of c.self.inside.procs c.self.inside.parts.items c.self.inside.ports c.self.inside.waits c.self.inside.names c.self.inside.sections c.self.inside.tokens c.self.inside.token_names c.self.inside.marks) c.self.inside.calls c.self.inside.made c.self.invariant.kept c.args.queue there));
  lived = let there = rw (← c.self.view_is) at c.requires in let at = sym c.in_ok-message.ensures in let found = pulls.found (tables_of c.self.inside.procs c.self.inside.parts.items c.self.inside.ports c.self.inside.waits c.self.inside.names c.self.inside.sections c.self.inside.tokens c.self.inside.token_names c.self.inside.marks) c.self.inside.calls c.self.inside.made c.self.invariant.kept c.args.queue there c.pull-pulled.result (c.pull-pulled.ensures.first_connect c.args.queue at) in rw (pulls.pulled (tables_of c.self.inside.procs c.self.inside.parts.items c.self.inside.ports c.self.inside.waits c.self.inside.names c.self.inside.sections c.self.inside.tokens c.self.inside.token_names c.self.inside.marks) c.self.inside.calls c.self.inside.made c.self.invariant.kept c.args.queue there c.in_ok-message.message c.pull-pulled.new.self c.pull-pulled.ensures.table (c.pull-pulled.ensures.oldest_connect c.args.queue at)) (λ calm. let held = c.self.invariant.lived calm in record { threads = held.threads; processes = held.processes });
}

pub returns-clause-message : goal.returns-clause-message
returns-clause-message c =
    let there = rw (← c.self.view_is) at c.requires in
    rw (← c.self.view_is) (sym (pulls.found (tables_of c.self.inside.procs c.self.inside.parts.items c.self.inside.ports c.self.inside.waits c.self.inside.names c.self.inside.sections c.self.inside.tokens c.self.inside.token_names c.self.inside.marks) c.self.inside.calls c.self.inside.made c.self.invariant.kept c.args.queue there c.pull-pulled.result (c.pull-pulled.ensures.first_connect c.args.queue (sym c.in_ok-message.ensures))))

pub returns-clause-left : goal.returns-clause-left
returns-clause-left c =
    let there = rw (← c.self.view_is) at c.requires in
    let at = sym c.in_ok-message.ensures in
    let found = pulls.found (tables_of c.self.inside.procs c.self.inside.parts.items c.self.inside.ports c.self.inside.waits c.self.inside.names c.self.inside.sections c.self.inside.tokens c.self.inside.token_names c.self.inside.marks) c.self.inside.calls c.self.inside.made c.self.invariant.kept c.args.queue there c.pull-pulled.result (c.pull-pulled.ensures.first_connect c.args.queue at) in
    rw (pulls.pulled (tables_of c.self.inside.procs c.self.inside.parts.items c.self.inside.ports c.self.inside.waits c.self.inside.names c.self.inside.sections c.self.inside.tokens c.self.inside.token_names c.self.inside.marks) c.self.inside.calls c.self.inside.made c.self.invariant.kept c.args.queue there c.in_ok-message.message c.pull-pulled.new.self c.pull-pulled.ensures.table (c.pull-pulled.ensures.oldest_connect c.args.queue at))
    (pulls.pulled_left (tables_of c.self.inside.procs c.self.inside.parts.items c.self.inside.ports c.self.inside.waits c.self.inside.names c.self.inside.sections c.self.inside.tokens c.self.inside.token_names c.self.inside.marks) c.self.inside.calls c.self.inside.made c.self.invariant.kept c.args.queue there (pulled_row (births_of (tables_of c.self.inside.procs c.self.inside.parts.items c.self.inside.ports c.self.inside.waits c.self.inside.names c.self.inside.sections c.self.inside.tokens c.self.inside.token_names c.self.inside.marks)) c.args.queue c.pull-pulled.result) found)

pub returns-clause-unqueued : goal.returns-clause-unqueued
returns-clause-unqueued c =
    let there = rw (← c.self.view_is) at c.requires in
    let at = sym c.in_ok-message.ensures in
    let found = pulls.found (tables_of c.self.inside.procs c.self.inside.parts.items c.self.inside.ports c.self.inside.waits c.self.inside.names c.self.inside.sections c.self.inside.tokens c.self.inside.token_names c.self.inside.marks) c.self.inside.calls c.self.inside.made c.self.invariant.kept c.args.queue there c.pull-pulled.result (c.pull-pulled.ensures.first_connect c.args.queue at) in
    rw (← c.self.view_is, pulls.pulled (tables_of c.self.inside.procs c.self.inside.parts.items c.self.inside.ports c.self.inside.waits c.self.inside.names c.self.inside.sections c.self.inside.tokens c.self.inside.token_names c.self.inside.marks) c.self.inside.calls c.self.inside.made c.self.invariant.kept c.args.queue there c.in_ok-message.message c.pull-pulled.new.self c.pull-pulled.ensures.table (c.pull-pulled.ensures.oldest_connect c.args.queue at))
    (pulls.pulled_unqueued (tables_of c.self.inside.procs c.self.inside.parts.items c.self.inside.ports c.self.inside.waits c.self.inside.names c.self.inside.sections c.self.inside.tokens c.self.inside.token_names c.self.inside.marks) c.self.inside.calls c.self.inside.made c.self.invariant.kept c.args.queue there (pulled_row (births_of (tables_of c.self.inside.procs c.self.inside.parts.items c.self.inside.ports c.self.inside.waits c.self.inside.names c.self.inside.sections c.self.inside.tokens c.self.inside.token_names c.self.inside.marks)) c.args.queue c.pull-pulled.result) found)

pub returns-clause-long : goal.returns-clause-long
returns-clause-long c =
    let there = rw (← c.self.view_is) at c.requires in
    pulls.long_connect (tables_of c.self.inside.procs c.self.inside.parts.items c.self.inside.ports c.self.inside.waits c.self.inside.names c.self.inside.sections c.self.inside.tokens c.self.inside.token_names c.self.inside.marks) c.self.inside.calls c.self.inside.made c.self.invariant.kept c.args.queue there c.pull-pulled.result (c.pull-pulled.ensures.first_connect c.args.queue (sym c.in_ok-message.ensures))

pub returns-in_err-message-clause-step : goal.returns-in_err-message-clause-step
returns-in_err-message-clause-step c = record {
  rows = let there = rw (← c.self.view_is) at c.requires in
      rw (← c.self.view_is) (pulls.takes_none (tables_of c.self.inside.procs c.self.inside.parts.items c.self.inside.ports c.self.inside.waits c.self.inside.names c.self.inside.sections c.self.inside.tokens c.self.inside.token_names c.self.inside.marks) c.self.inside.calls c.self.inside.made c.self.invariant.kept c.args.queue there (sym c.in_err-message.ensures));
  births = rw (← c.self.view_is) refl;
  calls = rw (← c.self.view_is) refl;
  made = rw (← c.self.view_is) refl;
  room = search rules;
}

pub returns-clause-step : goal.returns-clause-step
returns-clause-step c = record {
  rows = let there = rw (← c.self.view_is) at c.requires in
      let at = sym c.in_ok-message.ensures in
      rw (← c.self.view_is, pulls.pulled (tables_of c.self.inside.procs c.self.inside.parts.items c.self.inside.ports c.self.inside.waits c.self.inside.names c.self.inside.sections c.self.inside.tokens c.self.inside.token_names c.self.inside.marks) c.self.inside.calls c.self.inside.made c.self.invariant.kept c.args.queue there c.in_ok-message.message c.pull-pulled.new.self c.pull-pulled.ensures.table (c.pull-pulled.ensures.oldest_connect c.args.queue at))
      (pulls.pulls (tables_of c.self.inside.procs c.self.inside.parts.items c.self.inside.ports c.self.inside.waits c.self.inside.names c.self.inside.sections c.self.inside.tokens c.self.inside.token_names c.self.inside.marks) c.self.inside.calls c.self.inside.made c.self.invariant.kept c.args.queue there);
  births = let there = rw (← c.self.view_is) at c.requires in
      let at = sym c.in_ok-message.ensures in
      rw (← c.self.view_is, pulls.pulled (tables_of c.self.inside.procs c.self.inside.parts.items c.self.inside.ports c.self.inside.waits c.self.inside.names c.self.inside.sections c.self.inside.tokens c.self.inside.token_names c.self.inside.marks) c.self.inside.calls c.self.inside.made c.self.invariant.kept c.args.queue there c.in_ok-message.message c.pull-pulled.new.self c.pull-pulled.ensures.table (c.pull-pulled.ensures.oldest_connect c.args.queue at)) refl;
  calls = rw (← c.self.view_is) refl;
  made = let there = rw (← c.self.view_is) at c.requires in
      let at = sym c.in_ok-message.ensures in
      rw (← c.self.view_is, pulls.pulled (tables_of c.self.inside.procs c.self.inside.parts.items c.self.inside.ports c.self.inside.waits c.self.inside.names c.self.inside.sections c.self.inside.tokens c.self.inside.token_names c.self.inside.marks) c.self.inside.calls c.self.inside.made c.self.invariant.kept c.args.queue there c.in_ok-message.message c.pull-pulled.new.self c.pull-pulled.ensures.table (c.pull-pulled.ensures.oldest_connect c.args.queue at)) refl;
  room = let there = rw (← c.self.view_is) at c.requires in
      let at = sym c.in_ok-message.ensures in
      let found = pulls.found (tables_of c.self.inside.procs c.self.inside.parts.items c.self.inside.ports c.self.inside.waits c.self.inside.names c.self.inside.sections c.self.inside.tokens c.self.inside.token_names c.self.inside.marks) c.self.inside.calls c.self.inside.made c.self.invariant.kept c.args.queue there c.pull-pulled.result (c.pull-pulled.ensures.first_connect c.args.queue at) in
      rw (← c.self.view_is, pulls.pulled (tables_of c.self.inside.procs c.self.inside.parts.items c.self.inside.ports c.self.inside.waits c.self.inside.names c.self.inside.sections c.self.inside.tokens c.self.inside.token_names c.self.inside.marks) c.self.inside.calls c.self.inside.made c.self.invariant.kept c.args.queue there c.in_ok-message.message c.pull-pulled.new.self c.pull-pulled.ensures.table (c.pull-pulled.ensures.oldest_connect c.args.queue at))
      (pulls.pulled_room (tables_of c.self.inside.procs c.self.inside.parts.items c.self.inside.ports c.self.inside.waits c.self.inside.names c.self.inside.sections c.self.inside.tokens c.self.inside.token_names c.self.inside.marks) c.self.inside.calls c.self.inside.made c.self.invariant.kept c.args.queue there (pulled_row (births_of (tables_of c.self.inside.procs c.self.inside.parts.items c.self.inside.ports c.self.inside.waits c.self.inside.names c.self.inside.sections c.self.inside.tokens c.self.inside.token_names c.self.inside.marks)) c.args.queue c.pull-pulled.result) found c.self.inside.parts.room);
}

pub returns-clause-capacity : goal.returns-clause-capacity
returns-clause-capacity c =
    let there = rw (← c.self.view_is) at c.requires in
    rw (← c.self.view_is)
    (capacities.of_ports (tables_of c.self.inside.procs c.self.inside.parts.items c.self.inside.ports c.self.inside.waits c.self.inside.names c.self.inside.sections c.self.inside.tokens c.self.inside.token_names c.self.inside.marks) c.self.inside.parts.room c.pull-pulled.new.self (ap (λ (s : PortTable). s.port_room + length s.ports) c.pull-pulled.ensures.table)
    (ap (λ (s : PortTable). s.message_room + length s.messages) (pulls.pulled (tables_of c.self.inside.procs c.self.inside.parts.items c.self.inside.ports c.self.inside.waits c.self.inside.names c.self.inside.sections c.self.inside.tokens c.self.inside.token_names c.self.inside.marks) c.self.inside.calls c.self.inside.made c.self.invariant.kept c.args.queue there c.in_ok-message.message c.pull-pulled.new.self c.pull-pulled.ensures.table (c.pull-pulled.ensures.oldest_connect c.args.queue (sym c.in_ok-message.ensures))) ∙ capacities.first_less (ports.is_connect_in c.args.queue) c.self.inside.ports.message_room c.self.inside.ports.messages c.in_ok-message.message (sym c.in_ok-message.ensures)))
