use Rattle.lpc_sweep.proofs.Ahead.{ahead_then}
use Rattle.lpc_sweep.proofs.freeing.free_lives.Goals as goal

pub returns-then-free_suspected_lives-clause-held : goal.returns-then-free_suspected_lives-clause-held
returns-then-free_suspected_lives-clause-held c = c.free_suspected_lives.ensures.held c.if-free_suspected_lives.true

pub free_threads-requires : goal.free_threads-requires
free_threads-requires c = record { can = c.free_suspected_lives.ensures.ahead.can }

pub returns-clause-ahead : goal.returns-clause-ahead
returns-clause-ahead c = ahead_then _ _ _ c.free_suspected_lives.ensures.ahead (ahead_then _ _ _ c.free_threads.ensures.ahead c.free_processes.ensures.ahead)
