use Rattle.std.proofs.Common.{arith, ◌∙◌}
use Rattle.lpc_words.proofs.Parts.{words_space}
use Rattle.lpc_words.proofs.words.trimmed.Goals as goal

pub loop-i-preserved : goal.loop-i-preserved
loop-i-preserved c = words_space c.args.text.now c.loop-i.i (omega arith) c.if-text-i-ne32.false ∙ c.loop-i.invariant
