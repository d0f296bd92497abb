use Rattle.std.proofs.Common.{refl}
use Rattle.std.proofs.lemmas.Result.{err_from_is_err_and}
use Rattle.lpc_script.proofs.Heads.{two_words_more}
use Rattle.lpc_script.proofs.read.number_and_word.Goals as goal

pub returns-in_err-word-clause-value : goal.returns-in_err-word-clause-value
returns-in_err-word-clause-value c =
    let p = err_from_is_err_and c.from_residual.result c.from_residual.ensures.1 in
    rw (p.1, p.2, c.in-Some.ensures.words, two_words_more, c.in_err-word.ensures.value) refl

pub returns-in-Some-clause-value : goal.returns-in-Some-clause-value
returns-in-Some-clause-value c = rw (c.in-Some.ensures.words, two_words_more, c.in_ok-word.ensures.value, c.in-Some.ensures.value) refl
