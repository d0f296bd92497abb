use Rattle.std.proofs.Common.{◌≡◌, sym, ◌∙◌, ap, append-nil, true, is_some}
use Rattle.lpc_base.specs.Rows.{has}
use Rattle.lpc_model.specs.Script.{script_lines}
use Rattle.lpc_states.specs.Changes.{is_row}
use Rattle.lpc_states.proofs.Searching.{by_row, new_there, none_found}
use Rattle.lpc_states.proofs.changes.put_if_new.Goals as goal

pub returns-in-Some-clause-ok : goal.returns-in-Some-clause-ok
returns-in-Some-clause-ok c =
    let there : has (is_row c.args.row.now) (script_lines c.args.before.now) ≡ true = sym (by_row c.args.row.now (script_lines c.args.before.now)) ∙ (sym c.find.ensures.found ∙ ap is_some c.in-Some.is) in
    rw (new_there c.args.line (script_lines c.args.before.now) c.args.row.now there) (sym (append-nil c.args.into.now.items))

pub put_new-requires : goal.put_new-requires
put_new-requires c = record {
  new = sym (by_row c.args.row.now (script_lines c.args.before.now)) ∙ (sym c.find.ensures.found ∙ none_found c.find.result c.in_default.not-Some);
}
