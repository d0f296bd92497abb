use Rattle.std.proofs.Common.{refl}
use Rattle.lpc_rows.specs.Shown.{tables_of}
use Rattle.lpc_rows.proofs.Raising as raising
use Rattle.lpc_rows.proofs.Rooms as rooms
use Rattle.lpc_world.proofs.world.World.events_mark.Goals as goal

pub add-requires-clause-room : goal.add-requires-clause-room
add-requires-clause-room c =
    let there = rw (← c.self.view_is) at c.requires in
    raising.mark-place (tables_of c.self.inside.procs c.self.inside.parts.items c.self.inside.ports c.self.inside.waits c.self.inside.names c.self.inside.sections c.self.inside.tokens c.self.inside.token_names c.self.inside.marks) c.self.inside.calls c.self.inside.made c.self.invariant.kept c.args.tid there.event there.unmarked there.left

pub add-requires-clause-unmarked : goal.add-requires-clause-unmarked
add-requires-clause-unmarked c = let there = rw (← c.self.view_is) at c.requires in there.unmarked

pub invariant_of-self : goal.invariant_of-self
invariant_of-self c = record {
  kept =
      let there = rw (← c.self.view_is) at c.requires in
      rw c.add.ensures (raising.marked-lawful (tables_of c.self.inside.procs c.self.inside.parts.items c.self.inside.ports c.self.inside.waits c.self.inside.names c.self.inside.sections c.self.inside.tokens c.self.inside.token_names c.self.inside.marks) c.self.inside.calls c.self.inside.made c.self.invariant.kept c.args.tid there.event there.unmarked there.left);
  watched = c.self.invariant.watched;
  lived = λ calm. let held = c.self.invariant.lived calm in record { threads = held.threads; processes = held.processes };
}

pub returns-clause-step : goal.returns-clause-step
returns-clause-step c = record {
  rows = rw (← c.self.view_is, c.add.ensures) refl;
  births = rw (← c.self.view_is) refl;
  calls = rw (← c.self.view_is) refl;
  made = rw (← c.self.view_is, c.add.ensures) refl;
  room = rw (← c.self.view_is, c.add.ensures) (rooms.roomy_same _);
}
