use Rattle.std.proofs.Common.{◌≡◌, sym, ◌∙◌, ap, true, false, is_some}
use Rattle.lpc_base.specs.Rows.{has}
use Rattle.lpc_model.specs.Script.{script_lines}
use Rattle.lpc_states.specs.Changes.{is_named}
use Rattle.lpc_states.proofs.Searching.{by_name, new_came, new_changed}
use Rattle.lpc_states.proofs.changes.put_new.Goals as goal

pub returns-in-Some-clause-ok : goal.returns-in-Some-clause-ok
returns-in-Some-clause-ok c =
    let named : has (is_named c.name_of.result.now) (script_lines c.args.before.now) ≡ true = sym (by_name c.name_of.result.now (script_lines c.args.before.now)) ∙ (sym c.walk.ensures.found ∙ ap is_some c.in-Some.is) in
    let changed = new_changed c.args.line (script_lines c.args.before.now) c.args.row.now c.requires.new (rw (sym c.name_of.ensures) named) in
    rw changed c.put_told.ensures.ok

pub returns-in-Some-clause-wanting : goal.returns-in-Some-clause-wanting
returns-in-Some-clause-wanting c =
    let named : has (is_named c.name_of.result.now) (script_lines c.args.before.now) ≡ true = sym (by_name c.name_of.result.now (script_lines c.args.before.now)) ∙ (sym c.walk.ensures.found ∙ ap is_some c.in-Some.is) in
    let changed = new_changed c.args.line (script_lines c.args.before.now) c.args.row.now c.requires.new (rw (sym c.name_of.ensures) named) in
    rw changed c.put_told.ensures.wanting

pub returns-in-None-clause-ok : goal.returns-in-None-clause-ok
returns-in-None-clause-ok c =
    let named : has (is_named c.name_of.result.now) (script_lines c.args.before.now) ≡ false = sym (by_name c.name_of.result.now (script_lines c.args.before.now)) ∙ (sym c.walk.ensures.found ∙ ap is_some c.in-None.is) in
    let came = new_came c.args.line (script_lines c.args.before.now) c.args.row.now c.requires.new (rw (sym c.name_of.ensures) named) in
    rw came c.put_told-in-None.ensures.ok

pub returns-in-None-clause-wanting : goal.returns-in-None-clause-wanting
returns-in-None-clause-wanting c =
    let named : has (is_named c.name_of.result.now) (script_lines c.args.before.now) ≡ false = sym (by_name c.name_of.result.now (script_lines c.args.before.now)) ∙ (sym c.walk.ensures.found ∙ ap is_some c.in-None.is) in
    let came = new_came c.args.line (script_lines c.args.before.now) c.args.row.now c.requires.new (rw (sym c.name_of.ensures) named) in
    rw came c.put_told-in-None.ensures.wanting
