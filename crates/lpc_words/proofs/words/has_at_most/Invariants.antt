use Rattle.std.proofs.Common.{◌≡◌, ◌+◌, length}
use Rattle.lpc_model.specs.Words.{words}
use Rattle.lpc_words.proofs.words.has_at_most.Given as goal

abbrev pub invariant-loop-passed : goal.invariant-loop-passed
invariant-loop-passed l = length (words l.text) ≡ l._passed + length (words l.rest)
