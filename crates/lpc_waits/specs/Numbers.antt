-- The numbers by which rows stand on chains. No public clause cites this module.
use Rattle.std.specs.Prelude.{◌-◌, ◌^◌, ℕ, Bool, true, if◌then◌else◌}
use Rattle.lpc_waits.specs.declared.Wait.{Wait}
use Rattle.lpc_waits.specs.declared.numbers.Numbers.{Numbers}
use Rattle.lpc_waits.specs.Table.{is_connect, takes}

-- the number itself, or as far from the greatest as it is from 0
abbrev pub apart : ℕ → Bool → ℕ
apart number itself = if itself then number else 2 ^ 64 - 1 - number

-- the numbers of a thread's wait
abbrev pub numbers_of : ℕ → Wait → Numbers
numbers_of thread wait = record {
  thread = thread;
  port = wait.port.index;
  queue = apart wait.queue.index (takes true wait.kind);
  process = apart wait.process (is_connect wait.kind);
}
