use Rattle.std.proofs.Common.{◌∙◌, [], ap}
use Rattle.std.proofs.lemmas.Result.{err_from_is_err_and}
use Rattle.lpc_model.specs.Grammar.{each_word, entry_form}
use Rattle.lpc_model.specs.Words.{parts}
use Rattle.lpc_script.specs.Entries.{is_read}
use Rattle.lpc_script.proofs.Each.{form_more, form_fault, form_end}
use Rattle.lpc_script.proofs.access.are_entries.Goals as goal

pub returns-in_err-entry_form : goal.returns-in_err-entry_form
returns-in_err-entry_form c =
    let p = err_from_is_err_and c.from_residual.result c.from_residual.ensures.1 in
    rw (p.1, p.2)
    (c.loop-front.invariant
    ∙ ap (λ texts. is_read (each_word entry_form texts)) c.in-Some.ensures.parts
    ∙ form_fault entry_form c.in-Some.front.now (parts 44 c.in-Some.behind.now) _ c.in_err-entry_form.ensures)

pub loop-front-preserved : goal.loop-front-preserved
loop-front-preserved c =
    c.loop-front.invariant
    ∙ ap (λ texts. is_read (each_word entry_form texts)) c.in-Some.ensures.parts
    ∙ form_more entry_form c.in-Some.front.now (parts 44 c.in-Some.behind.now) _ c.in_ok-entry_form.ensures

pub returns-in_err-entry_form-2 : goal.returns-in_err-entry_form-2
returns-in_err-entry_form-2 c =
    let p = err_from_is_err_and c.from_residual-in_err-entry_form-2.result c.from_residual-in_err-entry_form-2.ensures.1 in
    rw (p.1, p.2)
    (c.loop-front.invariant
    ∙ ap (λ texts. is_read (each_word entry_form texts)) c.in_default.ensures.parts
    ∙ form_fault entry_form c.loop-front.rest.now [] _ c.in_err-entry_form-2.ensures)

pub returns : goal.returns
returns c =
    c.loop-front.invariant
    ∙ ap (λ texts. is_read (each_word entry_form texts)) c.in_default.ensures.parts
    ∙ form_more entry_form c.loop-front.rest.now [] _ c.in_ok-entry_form-2.ensures
    ∙ form_end entry_form
