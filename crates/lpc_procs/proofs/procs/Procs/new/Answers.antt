use Rattle.lpc_procs.proofs.Tables.{stored-none}
use Rattle.lpc_procs.proofs.procs.Procs.new.Goals as goal

pub invariant_of-result : goal.invariant_of-result
invariant_of-result c = stored-none c.new.result c.new-2.result c.new-5.result.entries c.new-6.result.entries c.new-3.result c.new-4.result c.new-7.result c.new-8.result c.new-9.result c.new-10.result c.new.ensures.listed c.new-2.ensures.listed c.new.ensures.made c.new-2.ensures.made c.new-5.ensures.entries c.new-6.ensures.entries c.new-3.ensures.firsts c.new-4.ensures.firsts c.new-7.ensures.none c.new-8.ensures.rows c.new-9.ensures.none c.new-10.ensures.none
