use Rattle.std.proofs.Common.{◌≡◌, ◌+◌, ◌≤◌, length}
use Rattle.lpc_base.specs.Rows.{without}
use Rattle.lpc_procs.specs.Procs.{is_process_born}
use Rattle.lpc_procs.proofs.procs.Procs.free_process_born.Given as goal

-- what still goes leaves what is to be left
abbrev pub invariant-loop-birth : goal.invariant-loop-birth
invariant-loop-birth l = record {
  left : without (is_process_born l.birth) l.self.processes ≡ without (is_process_born l.birth) l.fn.self.processes;
  same : l.self ≡ record l.fn.self { processes = l.self.processes; process_room = l.self.process_room };
  room : l.fn.self.process_room ≤ l.self.process_room;
  most : l.self.process_room + length l.self.processes ≤ l.fn.self.process_room + length l.fn.self.processes;
}

abbrev pub decreases-loop-birth : goal.decreases-loop-birth
decreases-loop-birth l = length l.self.processes
