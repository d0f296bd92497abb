use Rattle.std.proofs.Common.{refl}
use Rattle.std.proofs.lemmas.Result.{err_from_is_err_and}
use Rattle.lpc_script.proofs.Heads.{one_word_more}
use Rattle.lpc_script.proofs.read.one_handle.Goals as goal

pub returns-in_err-no_words : goal.returns-in_err-no_words
returns-in_err-no_words c =
    let p = err_from_is_err_and c.from_residual.result c.from_residual.ensures.1 in
    rw (p.1, p.2, c.in-Some.ensures.words, one_word_more, c.in_err-no_words.ensures) refl

pub returns-in-Some : goal.returns-in-Some
returns-in-Some c = rw (c.in-Some.ensures.words, one_word_more, c.in_ok-no_words.ensures) c.in-Some.ensures.value
