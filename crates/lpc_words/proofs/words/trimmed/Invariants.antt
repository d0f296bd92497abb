use Rattle.std.proofs.Common.{◌≡◌, drop}
use Rattle.lpc_model.specs.Words.{words}
use Rattle.lpc_words.proofs.words.trimmed.Given as goal

abbrev pub invariant-loop-i : goal.invariant-loop-i
invariant-loop-i l = words (drop l.i l.text) ≡ words l.text
