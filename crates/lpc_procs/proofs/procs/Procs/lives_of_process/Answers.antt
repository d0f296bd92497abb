use Rattle.std.proofs.Common.{sym, subst, ◌≤◌, ℕ, length}
use Rattle.lpc_base.proofs.RowWords.{count-bound}
use Rattle.lpc_procs.specs.Procs.{lives_by}
use Rattle.lpc_procs.proofs.procs.Procs.lives_of_process.Goals as goal

pub returns-in-Some-clause-count : goal.returns-in-Some-clause-count
returns-in-Some-clause-count c = sym (c.in-Some.ensures.live c.requires.one)

pub returns-in-Some-clause-bound : goal.returns-in-Some-clause-bound
returns-in-Some-clause-bound c = subst (λ (n : ℕ). n ≤ length c.args.self.now.threads) (c.in-Some.ensures.live c.requires.one) (count-bound (lives_by c.args.self.now c.args.birth) c.args.self.now.threads)

pub returns-in-None-clause-count : goal.returns-in-None-clause-count
returns-in-None-clause-count c = sym (c.in-None.ensures.live c.requires.one)
