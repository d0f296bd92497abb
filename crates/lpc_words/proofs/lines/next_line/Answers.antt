use Rattle.std.proofs.Common.{arith}
use Rattle.lpc_model.specs.Script.{script_lines}
use Rattle.lpc_words.proofs.Parts.{lines_here, lines_end}
use Rattle.lpc_words.proofs.lines.next_line.Goals as goal

pub returns-then-bytes-i-eq10-clause-lines : goal.returns-then-bytes-i-eq10-clause-lines
returns-then-bytes-i-eq10-clause-lines c = lines_here _ _ (omega arith) c.if-bytes-i-eq10.true c.loop-i.invariant

pub returns-clause-lines : goal.returns-clause-lines
unfolding script_lines
returns-clause-lines c = lines_end _ (omega arith) (λ k lt e. c.loop-i.invariant k (omega arith) e)
