use Rattle.std.proofs.Common.{ap, option_map}
use Rattle.lpc_procs.specs.Procs.{born_thread}
use Rattle.lpc_procs.proofs.procs.Procs.thread_born.Goals as goal

pub returns-in-Some : goal.returns-in-Some
returns-in-Some c = record { thread = rw (c.born_thread.ensures) (ap (option_map born_thread) c.in-Some.ensures) }

pub returns-in-None : goal.returns-in-None
returns-in-None c = record { thread = ap (option_map born_thread) c.in-None.ensures }
