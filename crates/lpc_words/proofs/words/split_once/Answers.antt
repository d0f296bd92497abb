use Rattle.std.proofs.Common.{arith, sym}
use Rattle.lpc_words.proofs.Parts.{parts_here, parts_end, cut_here, cut_end}
use Rattle.lpc_words.proofs.words.split_once.Goals as goal

pub returns-then-text-i-clause-parts : goal.returns-then-text-i-clause-parts
returns-then-text-i-clause-parts c = parts_here _ _ _ (omega arith) c.if-text-i.true c.loop-i.invariant

pub returns-then-text-i-clause-first : goal.returns-then-text-i-clause-first
returns-then-text-i-clause-first c = sym (cut_here _ _ _ (omega arith) c.if-text-i.true c.loop-i.invariant)

pub returns-clause-parts : goal.returns-clause-parts
returns-clause-parts c = parts_end _ _ (λ k lt e. c.loop-i.invariant k (omega arith) e)

pub returns-clause-first : goal.returns-clause-first
returns-clause-first c = sym (cut_end _ _ (λ k lt e. c.loop-i.invariant k (omega arith) e))
