use Rattle.std.proofs.Common.{◌≡◌, sym, ◌∙◌, ap, append-nil, true, false, is_some}
use Rattle.lpc_base.specs.Rows.{has}
use Rattle.lpc_model.specs.Script.{script_lines}
use Rattle.lpc_states.specs.Changes.{is_named}
use Rattle.lpc_states.proofs.Puts.{where_err}
use Rattle.lpc_states.proofs.Searching.{by_name, none_found, went_missing, went_there}
use Rattle.lpc_states.proofs.changes.put_if_went.Goals as goal

pub returns-in-Some-clause-ok : goal.returns-in-Some-clause-ok
returns-in-Some-clause-ok c =
    let named : has (is_named c.name_of-name.result.now) (script_lines c.args.after.now) ≡ true = sym (by_name c.name_of-name.result.now (script_lines c.args.after.now)) ∙ (sym c.find.ensures.found ∙ ap is_some c.in-Some.is) in
    let there = went_there c.args.line (script_lines c.args.after.now) c.args.row.now (rw (sym c.name_of-name.ensures) named) in
    rw there (sym (append-nil c.args.into.now.items))

pub returns-clause-ok : goal.returns-clause-ok
returns-clause-ok c =
    let named : has (is_named c.name_of-name.result.now) (script_lines c.args.after.now) ≡ false = sym (by_name c.name_of-name.result.now (script_lines c.args.after.now)) ∙ (sym c.find.ensures.found ∙ none_found c.find.result c.in_default.not-Some) in
    let missing = went_missing c.args.line (script_lines c.args.after.now) c.args.row.now (rw (sym c.name_of-name.ensures) named) in
    rw (missing, sym c.name_of-name.ensures) c.in_ok-put_told.ensures.ok

pub returns-in_err-put_told-clause-wanting : goal.returns-in_err-put_told-clause-wanting
returns-in_err-put_told-clause-wanting c =
    let named : has (is_named c.name_of-name.result.now) (script_lines c.args.after.now) ≡ false = sym (by_name c.name_of-name.result.now (script_lines c.args.after.now)) ∙ (sym c.find.ensures.found ∙ none_found c.find.result c.in_default.not-Some) in
    let missing = went_missing c.args.line (script_lines c.args.after.now) c.args.row.now (rw (sym c.name_of-name.ensures) named) in
    where_err c.from_residual.result (rw (missing, sym c.name_of-name.ensures) c.in_err-put_told.ensures.wanting)
