use Rattle.std.proofs.Common.{◌≡◌, ◌+◌, length}
use Rattle.lpc_model.specs.Words.{parts}
use Rattle.lpc_words.proofs.words.has_parts_at_most.Given as goal

abbrev pub invariant-loop-passed : goal.invariant-loop-passed
invariant-loop-passed l = length (parts l.by l.text) ≡ l._passed + length (parts l.by l.rest)
