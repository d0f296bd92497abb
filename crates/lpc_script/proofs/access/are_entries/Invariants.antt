use Rattle.std.proofs.Common.{◌≡◌, length}
use Rattle.lpc_model.specs.Grammar.{each_word, entry_form}
use Rattle.lpc_model.specs.Words.{parts}
use Rattle.lpc_script.specs.Entries.{is_read}
use Rattle.lpc_script.proofs.access.are_entries.Given as goal

abbrev pub invariant-loop-front : goal.invariant-loop-front
invariant-loop-front l = is_read (each_word entry_form (parts 44 l.text)) ≡ is_read (each_word entry_form (parts 44 l.rest))

abbrev pub decreases-loop-front : goal.decreases-loop-front
decreases-loop-front l = length (parts 44 l.rest)
