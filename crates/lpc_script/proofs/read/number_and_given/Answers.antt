use Rattle.std.proofs.Common.{refl}
use Rattle.std.proofs.lemmas.Result.{err_from_is_err_and}
use Rattle.lpc_script.proofs.Heads.{one_of_two, two_of_two}
use Rattle.lpc_script.proofs.read.number_and_given.Goals as goal

pub returns-in_default-next_word-clause-value : goal.returns-in_default-next_word-clause-value
returns-in_default-next_word-clause-value c = rw (c.in-Some.ensures.words, c.in_default-next_word.ensures.words, one_of_two, c.in-Some.ensures.value) refl

pub returns-in_err-no_words-clause-value : goal.returns-in_err-no_words-clause-value
returns-in_err-no_words-clause-value c =
    let p = err_from_is_err_and c.from_residual.result c.from_residual.ensures.1 in
    rw (p.1, p.2, c.in-Some.ensures.words, c.in-Some-next_word.ensures.words, two_of_two, c.in_err-no_words.ensures) refl

pub returns-in-Some-clause-value : goal.returns-in-Some-clause-value
returns-in-Some-clause-value c = rw (c.in-Some.ensures.words, c.in-Some-next_word.ensures.words, two_of_two, c.in_ok-no_words.ensures, c.in-Some.ensures.value) refl
