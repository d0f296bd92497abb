use Rattle.std.proofs.Common.{refl, arith}
use Rattle.std.proofs.Common.{◌+◌, ◌-◌, None, ap, sym, ◌∙◌, []}
use Rattle.lpc_model.specs.World.{World}
use Rattle.lpc_rows.specs.Kept.{rows_by}
use Rattle.lpc_rows.specs.Shown.{birth_of, births_of, shown_wait, tables_of}
use Rattle.lpc_rows.proofs.Changes as changes
use Rattle.lpc_rows.proofs.Lawful.{owed-push}
use Rattle.lpc_rows.proofs.OwnMessages.{unsent-begun}
use Rattle.lpc_rows.proofs.Promised as promised
use Rattle.lpc_rows.proofs.Raising.{ready-unmarked}
use Rattle.lpc_rows.proofs.Rooms as rooms
use Rattle.lpc_rows.proofs.Steps as steps
use Rattle.lpc_rows.proofs.Tables as tables
use Rattle.std.proofs.Common.{length}
use Rattle.lpc_waits.specs.Table.{WaitTable, WaitingThread}
use Rattle.lpc_rows.proofs.Capacities as capacities
use Rattle.lpc_rows.proofs.Suspected as suspected
use Rattle.lpc_model.specs.Basics.{Awaits}
use Rattle.lpc_world.proofs.world.World.waits_begin.Goals as goal

pub add-requires-clause-alone : goal.add-requires-clause-alone
add-requires-clause-alone c = steps.no_wait (tables_of c.self.inside.procs c.self.inside.parts.items c.self.inside.ports c.self.inside.waits c.self.inside.names c.self.inside.sections c.self.inside.tokens c.self.inside.token_names c.self.inside.marks) c.self.inside.calls c.self.inside.made c.self.invariant.kept c.args.tid (rw (← c.self.view_is) at c.requires.ready)

pub add-requires-clause-room : goal.add-requires-clause-room
add-requires-clause-room c = steps.wait_place (tables_of c.self.inside.procs c.self.inside.parts.items c.self.inside.ports c.self.inside.waits c.self.inside.names c.self.inside.sections c.self.inside.tokens c.self.inside.token_names c.self.inside.marks) c.self.inside.calls c.self.inside.made c.self.invariant.kept c.args.tid (rw (← c.self.view_is) at c.requires.live) (rw (← c.self.view_is) at c.requires.ready)

pub invariant_of-self : goal.invariant_of-self
invariant_of-self c = record {
  kept =
      let there = rw (← c.self.view_is) at c.requires in
      rw c.add.ensures.table (steps.awaited (tables_of c.self.inside.procs c.self.inside.parts.items c.self.inside.ports c.self.inside.waits c.self.inside.names c.self.inside.sections c.self.inside.tokens c.self.inside.token_names c.self.inside.marks) c.self.inside.calls c.self.inside.made c.self.invariant.kept (record { thread = c.args.tid; wait = c.args.wait; message = record { items = [] }; offer = None; accepted = None }) (steps.begun_stands (tables_of c.self.inside.procs c.self.inside.parts.items c.self.inside.ports c.self.inside.waits c.self.inside.names c.self.inside.sections c.self.inside.tokens c.self.inside.token_names c.self.inside.marks) c.self.inside.calls c.self.inside.made c.self.invariant.kept c.args.wait.kind c.args.wait.port c.args.wait.queue there.port there.queue) there.budget there.live there.ready there.quiet
      (promised.begins (rows_by (tables_of c.self.inside.procs c.self.inside.parts.items c.self.inside.ports c.self.inside.waits c.self.inside.names c.self.inside.sections c.self.inside.tokens c.self.inside.token_names c.self.inside.marks)).waits (rows_by (tables_of c.self.inside.procs c.self.inside.parts.items c.self.inside.ports c.self.inside.waits c.self.inside.names c.self.inside.sections c.self.inside.tokens c.self.inside.token_names c.self.inside.marks)).handles c.self.inside.parts.items c.self.invariant.kept.promised (shown_wait (birth_of (births_of (tables_of c.self.inside.procs c.self.inside.parts.items c.self.inside.ports c.self.inside.waits c.self.inside.names c.self.inside.sections c.self.inside.tokens c.self.inside.token_names c.self.inside.marks))) (record { thread = c.args.tid; wait = c.args.wait; message = record { items = [] }; offer = None; accepted = None })) (tables.single (tables_of c.self.inside.procs c.self.inside.parts.items c.self.inside.ports c.self.inside.waits c.self.inside.names c.self.inside.sections c.self.inside.tokens c.self.inside.token_names c.self.inside.marks) c.self.inside.calls c.self.inside.made c.self.invariant.kept) c.self.invariant.kept.lawful.tables_single (tables.fresh_taken (tables_of c.self.inside.procs c.self.inside.parts.items c.self.inside.ports c.self.inside.waits c.self.inside.names c.self.inside.sections c.self.inside.tokens c.self.inside.token_names c.self.inside.marks) c.self.inside.calls c.self.inside.made c.self.invariant.kept c.args.tid c.args.wait)
      (λ connects. let is = sym (tables.connect_same (birth_of (births_of (tables_of c.self.inside.procs c.self.inside.parts.items c.self.inside.ports c.self.inside.waits c.self.inside.names c.self.inside.sections c.self.inside.tokens c.self.inside.token_names c.self.inside.marks))) (record { thread = c.args.tid; wait = c.args.wait; message = record { items = [] }; offer = None; accepted = None })) ∙ connects in tables.welcome (tables_of c.self.inside.procs c.self.inside.parts.items c.self.inside.ports c.self.inside.waits c.self.inside.names c.self.inside.sections c.self.inside.tokens c.self.inside.token_names c.self.inside.marks) c.self.inside.calls c.self.inside.made c.self.invariant.kept c.args.wait.process (there.table is) (there.load is) (there.handles is))));
  watched = rw (c.add.ensures.table) (suspected.step-to (rows_by (tables_of c.self.inside.procs c.self.inside.parts.items c.self.inside.ports c.self.inside.waits c.self.inside.names c.self.inside.sections c.self.inside.tokens c.self.inside.token_names c.self.inside.marks)) (births_of (tables_of c.self.inside.procs c.self.inside.parts.items c.self.inside.ports c.self.inside.waits c.self.inside.names c.self.inside.sections c.self.inside.tokens c.self.inside.token_names c.self.inside.marks)).ports c.self.inside.suspects c.self.invariant.watched _ (Awaits (shown_wait (birth_of (births_of (tables_of c.self.inside.procs c.self.inside.parts.items c.self.inside.ports c.self.inside.waits c.self.inside.names c.self.inside.sections c.self.inside.tokens c.self.inside.token_names c.self.inside.marks))) (record { thread = c.args.tid; wait = c.args.wait; message = record { items = [] }; offer = None; accepted = None }))) (changes.awaits (tables_of c.self.inside.procs c.self.inside.parts.items c.self.inside.ports c.self.inside.waits c.self.inside.names c.self.inside.sections c.self.inside.tokens c.self.inside.token_names c.self.inside.marks) c.self.invariant.kept.named (record { thread = c.args.tid; wait = c.args.wait; message = record { items = [] }; offer = None; accepted = None }) (c.self.inside.waits.spare - 1) (c.self.inside.waits.made + 1)) refl);
  lived = λ calm. let held = c.self.invariant.lived calm in record { threads = held.threads; processes = held.processes };
}

pub returns-clause-unsent : goal.returns-clause-unsent
returns-clause-unsent c =
    let x : WaitingThread = record { thread = c.args.tid; wait = c.args.wait; message = record { items = [] }; offer = None; accepted = None } in
    let ready = rw (← c.self.view_is) at c.requires.ready in
    rw (c.add.ensures.table, ap (λ (v : World). v.waits) (changes.awaits (tables_of c.self.inside.procs c.self.inside.parts.items c.self.inside.ports c.self.inside.waits c.self.inside.names c.self.inside.sections c.self.inside.tokens c.self.inside.token_names c.self.inside.marks) c.self.invariant.kept.named x (c.self.inside.waits.spare - 1) (c.self.inside.waits.made + 1))) (λ pends. unsent-begun (rows_by (tables_of c.self.inside.procs c.self.inside.parts.items c.self.inside.ports c.self.inside.waits c.self.inside.names c.self.inside.sections c.self.inside.tokens c.self.inside.token_names c.self.inside.marks)) (shown_wait (birth_of (births_of (tables_of c.self.inside.procs c.self.inside.parts.items c.self.inside.ports c.self.inside.waits c.self.inside.names c.self.inside.sections c.self.inside.tokens c.self.inside.token_names c.self.inside.marks))) x) c.self.invariant.kept.lawful.own ready (ready-unmarked (tables_of c.self.inside.procs c.self.inside.parts.items c.self.inside.ports c.self.inside.waits c.self.inside.names c.self.inside.sections c.self.inside.tokens c.self.inside.token_names c.self.inside.marks) c.self.inside.calls c.self.inside.made c.self.invariant.kept c.args.tid ready) pends)

pub returns-clause-rows : goal.returns-clause-rows
returns-clause-rows c = rw (← c.self.view_is, c.add.ensures.table) (changes.awaits (tables_of c.self.inside.procs c.self.inside.parts.items c.self.inside.ports c.self.inside.waits c.self.inside.names c.self.inside.sections c.self.inside.tokens c.self.inside.token_names c.self.inside.marks) c.self.invariant.kept.named (record { thread = c.args.tid; wait = c.args.wait; message = record { items = [] }; offer = None; accepted = None }) (c.self.inside.waits.spare - 1) (c.self.inside.waits.made + 1))

pub returns-clause-made : goal.returns-clause-made
returns-clause-made c =
    let x : WaitingThread = record { thread = c.args.tid; wait = c.args.wait; message = record { items = [] }; offer = None; accepted = None } in
    let owed = owed-push (rows_by (tables_of c.self.inside.procs c.self.inside.parts.items c.self.inside.ports c.self.inside.waits c.self.inside.names c.self.inside.sections c.self.inside.tokens c.self.inside.token_names c.self.inside.marks)).waits (shown_wait (birth_of (births_of (tables_of c.self.inside.procs c.self.inside.parts.items c.self.inside.ports c.self.inside.waits c.self.inside.names c.self.inside.sections c.self.inside.tokens c.self.inside.token_names c.self.inside.marks))) x) in
    rw (← c.self.view_is, c.add.ensures.table, ap (λ (v : World). v.waits) (changes.awaits (tables_of c.self.inside.procs c.self.inside.parts.items c.self.inside.ports c.self.inside.waits c.self.inside.names c.self.inside.sections c.self.inside.tokens c.self.inside.token_names c.self.inside.marks) c.self.invariant.kept.named x (c.self.inside.waits.spare - 1) (c.self.inside.waits.made + 1))) (omega (arith, owed))

pub returns-clause-room : goal.returns-clause-room
returns-clause-room c =
    let x : WaitingThread = record { thread = c.args.tid; wait = c.args.wait; message = record { items = [] }; offer = None; accepted = None } in
    let place = steps.more_alive (tables_of c.self.inside.procs c.self.inside.parts.items c.self.inside.ports c.self.inside.waits c.self.inside.names c.self.inside.sections c.self.inside.tokens c.self.inside.token_names c.self.inside.marks) c.self.inside.calls c.self.inside.made c.self.invariant.kept c.args.tid (rw (← c.self.view_is) at c.requires.live) (rw (← c.self.view_is) at c.requires.ready) in
    rw (← c.self.view_is, c.add.ensures.table, ap (λ (v : World). v.waits) (changes.awaits (tables_of c.self.inside.procs c.self.inside.parts.items c.self.inside.ports c.self.inside.waits c.self.inside.names c.self.inside.sections c.self.inside.tokens c.self.inside.token_names c.self.inside.marks) c.self.invariant.kept.named x (c.self.inside.waits.spare - 1) (c.self.inside.waits.made + 1))) (rooms.room_wait _ _ _ _ _ _ _ _ _ _ _ (rows_by (tables_of c.self.inside.procs c.self.inside.parts.items c.self.inside.ports c.self.inside.waits c.self.inside.names c.self.inside.sections c.self.inside.tokens c.self.inside.token_names c.self.inside.marks)) _ (shown_wait (birth_of (births_of (tables_of c.self.inside.procs c.self.inside.parts.items c.self.inside.ports c.self.inside.waits c.self.inside.names c.self.inside.sections c.self.inside.tokens c.self.inside.token_names c.self.inside.marks))) x) place)

pub returns-clause-capacity : goal.returns-clause-capacity
returns-clause-capacity c =
    let place = steps.wait_place (tables_of c.self.inside.procs c.self.inside.parts.items c.self.inside.ports c.self.inside.waits c.self.inside.names c.self.inside.sections c.self.inside.tokens c.self.inside.token_names c.self.inside.marks) c.self.inside.calls c.self.inside.made c.self.invariant.kept c.args.tid (rw (← c.self.view_is) at c.requires.live) (rw (← c.self.view_is) at c.requires.ready) in
    rw (← c.self.view_is)
    (capacities.of_waits (tables_of c.self.inside.procs c.self.inside.parts.items c.self.inside.ports c.self.inside.waits c.self.inside.names c.self.inside.sections c.self.inside.tokens c.self.inside.token_names c.self.inside.marks) c.self.inside.parts.room c.add.new.self (ap (λ (s : WaitTable). s.spare + length s.rows) c.add.ensures.table ∙ capacities.one_more c.self.inside.waits.spare c.self.inside.waits.rows (record { thread = c.args.tid; wait = c.args.wait; message = record { items = [] }; offer = None; accepted = None }) place))
