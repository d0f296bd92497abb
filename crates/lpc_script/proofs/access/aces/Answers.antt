use Rattle.std.proofs.Common.{◌∙◌, ◌∷◌, ◌++◌, [], ap, sym, arith, length}
use Rattle.std.specs.Prelude.{Ok}
use Rattle.std.proofs.lemmas.Result.{err_from_is_err_and}
use Rattle.lpc_model.specs.Grammar.{each_word}
use Rattle.lpc_model.specs.Words.{parts}
use Rattle.lpc_script.specs.Entries.{entry_word}
use Rattle.lpc_script.proofs.Each.{onto, each_more, each_fault, each_end}
use Rattle.lpc_script.proofs.access.aces.Goals as goal

pub returns-in_err-ace : goal.returns-in_err-ace
returns-in_err-ace c =
    let p = err_from_is_err_and c.from_residual.result c.from_residual.ensures.1 in
    rw (p.1, p.2)
    (c.loop-front.invariant.read
    ∙ ap (λ texts. onto c.loop-front.list.items (each_word entry_word texts)) c.in-Some.ensures.parts
    ∙ each_fault entry_word c.in-Some.front.now (parts 44 c.in-Some.behind.now) _ c.loop-front.list.items c.in_err-ace.ensures)

pub loop-front-preserved : goal.loop-front-preserved
loop-front-preserved c = record {
  read =
      c.loop-front.invariant.read
      ∙ ap (λ texts. onto c.loop-front.list.items (each_word entry_word texts)) c.in-Some.ensures.parts
      ∙ each_more entry_word c.in-Some.front.now (parts 44 c.in-Some.behind.now) c.in_ok-ace.ace c.loop-front.list.items c.in_ok-ace.ensures
      ∙ sym (ap (λ aces. onto aces (each_word entry_word (parts 44 c.in-Some.behind.now))) c.push.ensures.items);
  room = let count = ap length c.in-Some.ensures.parts in omega arith;
}

pub returns-in_err-last : goal.returns-in_err-last
returns-in_err-last c =
    let p = err_from_is_err_and c.from_residual-in_err-last.result c.from_residual-in_err-last.ensures.1 in
    rw (p.1, p.2)
    (c.loop-front.invariant.read
    ∙ ap (λ texts. onto c.loop-front.list.items (each_word entry_word texts)) c.in_default.ensures.parts
    ∙ each_fault entry_word c.loop-front.rest.now [] _ c.loop-front.list.items c.in_err-last.ensures)

pub returns : goal.returns
returns c =
    c.loop-front.invariant.read
    ∙ ap (λ texts. onto c.loop-front.list.items (each_word entry_word texts)) c.in_default.ensures.parts
    ∙ each_more entry_word c.loop-front.rest.now [] c.in_ok-last.last c.loop-front.list.items c.in_ok-last.ensures
    ∙ each_end entry_word (c.loop-front.list.items ++ c.in_ok-last.last ∷ [])
    ∙ sym (ap Ok c.push-2.ensures.items)
