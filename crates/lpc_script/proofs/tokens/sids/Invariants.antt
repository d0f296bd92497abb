use Rattle.std.proofs.Common.{◌≡◌, ◌+◌, ◌≤◌, length}
use Rattle.arrayvec.specs.ArrayVec.{array_vec_len}
use Rattle.lpc_model.specs.Grammar.{each_word, sid_word}
use Rattle.lpc_model.specs.Words.{words}
use Rattle.lpc_script.proofs.Each.{onto}
use Rattle.lpc_script.proofs.tokens.sids.Given as goal

abbrev pub invariant-loop-word : goal.invariant-loop-word
invariant-loop-word l = record {
  read : each_word sid_word (words l.text) ≡ onto l.list.items (each_word sid_word (words l.rest));
  room : array_vec_len l.list + length (words l.rest) ≤ 16;
}

abbrev pub decreases-loop-word : goal.decreases-loop-word
decreases-loop-word l = length (words l.rest)
