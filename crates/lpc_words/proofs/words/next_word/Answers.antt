use Rattle.std.proofs.Common.{arith, sym, ◌∙◌, ◌<◌, length}
use Rattle.std.proofs.lemmas.Grind.{common_steps}
use Rattle.lpc_words.proofs.Parts.{words_none, word_here, word_alone}
use Rattle.lpc_words.proofs.words.next_word.Goals as goal

pub returns-then-is_empty-clause-words : goal.returns-then-is_empty-clause-words
returns-then-is_empty-clause-words c = sym c.trimmed-text.ensures.words ∙ words_none c.trimmed-text.result.now (grind (arith, common_steps))

pub returns-in-Some-clause-words : goal.returns-in-Some-clause-words
returns-in-Some-clause-words c =
    let some : 0 < length c.trimmed-text.result.now = grind (arith, common_steps) in
    sym c.trimmed-text.ensures.words ∙ word_here c.trimmed-text.result.now c.in-Some.word.now c.in-Some.rest.now some (c.trimmed-text.ensures.front some) c.in-Some.ensures.parts

pub returns-clause-words : goal.returns-clause-words
returns-clause-words c =
    let some : 0 < length c.trimmed-text.result.now = grind (arith, common_steps) in
    sym c.trimmed-text.ensures.words ∙ word_alone c.trimmed-text.result.now some (c.trimmed-text.ensures.front some) c.in_default.ensures.parts
