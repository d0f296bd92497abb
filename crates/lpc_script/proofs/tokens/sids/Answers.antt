use Rattle.std.proofs.Common.{◌∙◌, ap, sym, arith, length}
use Rattle.std.proofs.lemmas.Result.{err_from_is_err_and}
use Rattle.lpc_model.specs.Grammar.{each_word, sid_word}
use Rattle.lpc_model.specs.Words.{words}
use Rattle.lpc_script.proofs.Each.{onto, each_more, each_fault, each_end}
use Rattle.lpc_script.proofs.tokens.sids.Goals as goal

pub returns-in_err-sid : goal.returns-in_err-sid
returns-in_err-sid c =
    let p = err_from_is_err_and c.from_residual.result c.from_residual.ensures.1 in
    rw (p.1, p.2)
    (c.loop-word.invariant.read
    ∙ ap (λ ws. onto c.loop-word.list.items (each_word sid_word ws)) c.in-Some.ensures.words
    ∙ each_fault sid_word c.in-Some.word.now (words c.in-Some.behind.now) _ c.loop-word.list.items c.in_err-sid.ensures)

pub loop-word-preserved : goal.loop-word-preserved
loop-word-preserved c = record {
  read =
      c.loop-word.invariant.read
      ∙ ap (λ ws. onto c.loop-word.list.items (each_word sid_word ws)) c.in-Some.ensures.words
      ∙ each_more sid_word c.in-Some.word.now (words c.in-Some.behind.now) c.in_ok-sid.sid c.loop-word.list.items c.in_ok-sid.ensures
      ∙ sym (ap (λ sids. onto sids (each_word sid_word (words c.in-Some.behind.now))) c.push.ensures.items);
  room = let count = ap length c.in-Some.ensures.words in omega arith;
}

pub returns : goal.returns
returns c =
    c.loop-word.invariant.read
    ∙ ap (λ ws. onto c.loop-word.list.items (each_word sid_word ws)) c.in_default.ensures.words
    ∙ each_end sid_word c.loop-word.list.items
