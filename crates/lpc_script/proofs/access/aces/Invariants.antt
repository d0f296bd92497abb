use Rattle.std.proofs.Common.{◌≡◌, ◌+◌, ◌≤◌, length}
use Rattle.arrayvec.specs.ArrayVec.{array_vec_len}
use Rattle.lpc_model.specs.Grammar.{each_word}
use Rattle.lpc_model.specs.Words.{parts}
use Rattle.lpc_script.specs.Entries.{entry_word}
use Rattle.lpc_script.proofs.Each.{onto}
use Rattle.lpc_script.proofs.access.aces.Given as goal

abbrev pub invariant-loop-front : goal.invariant-loop-front
invariant-loop-front l = record {
  read : each_word entry_word (parts 44 l.text) ≡ onto l.list.items (each_word entry_word (parts 44 l.rest));
  room : array_vec_len l.list + length (parts 44 l.rest) ≤ 16;
}

abbrev pub decreases-loop-front : goal.decreases-loop-front
decreases-loop-front l = length (parts 44 l.rest)
