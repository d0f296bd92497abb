use Rattle.std.proofs.Common.{◌≡◌, ◌+◌, ◌≤◌, length, false}
use Rattle.lpc_base.specs.Rows.{has, without}
use Rattle.lpc_procs.specs.Procs.{is_life, is_thread_born}
use Rattle.lpc_procs.proofs.procs.Procs.free_thread_born.Given as goal

-- what still goes leaves what is to be left
abbrev pub invariant-loop-birth : goal.invariant-loop-birth
invariant-loop-birth l = record {
  left : without (is_thread_born l.birth) l.self.threads ≡ without (is_thread_born l.birth) l.fn.self.threads;
  same : l.self ≡ record l.fn.self { threads = l.self.threads; thread_room = l.self.thread_room };
  room : l.fn.self.thread_room ≤ l.self.thread_room;
  most : l.self.thread_room + length l.self.threads ≤ l.fn.self.thread_room + length l.fn.self.threads;
  ended : has (is_life l.birth) l.self.threads ≡ false;
}

abbrev pub decreases-loop-birth : goal.decreases-loop-birth
decreases-loop-birth l = length l.self.threads
