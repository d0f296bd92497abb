use Rattle.std.proofs.Common.{rules, arith, sym, ◌∙◌, ap, ◌++◌}
use Rattle.std.specs.List.{flat_map}
use Rattle.lpc_model.specs.Script.{script_lines}
use Rattle.lpc_states.specs.Changes.{came_or_changed}
use Rattle.lpc_states.proofs.Puts.{begins_first, lacks_left, still_begins}
use Rattle.lpc_states.proofs.Searching.{all_told, text_later}
use Rattle.lpc_states.proofs.changes.put_news.Goals as goal

pub loop-rest-preserved : goal.loop-rest-preserved
loop-rest-preserved c = record {
  text =
      let one = came_or_changed c.args.line (script_lines c.args.before.now) in
      let later = text_later one c.next_line.result.0.now (script_lines c.next_line.result.1.now) c.loop-rest.into.items in
      ap (λ text. text ++ flat_map one (script_lines c.next_line.result.1.now)) c.in_ok-ahead.ensures.ok
      ∙ (later ∙ (ap (λ rows. c.loop-rest.into.items ++ flat_map one rows) (sym c.next_line.ensures.lines) ∙ c.loop-rest.invariant.text));
  begins = still_begins _ _ _ _ c.loop-rest.invariant.begins c.in_ok-ahead.ensures.ok;
  room = omega (arith, c.loop-rest.invariant.room, c.in_ok-ahead.ensures.capacity);
  behind = c.in_ok-ahead.ensures.place;
}

pub returns-in_err-ahead-clause-err : goal.returns-in_err-ahead-clause-err
returns-in_err-ahead-clause-err c = begins_first _ _ _ _ c.in_err-ahead.ensures.err c.loop-rest.invariant.begins

pub returns-in_err-ahead-clause-wanting : goal.returns-in_err-ahead-clause-wanting
returns-in_err-ahead-clause-wanting c =
    let one = came_or_changed c.args.line (script_lines c.args.before.now) in
    let text = ap (λ rows. c.loop-rest.into.items ++ flat_map one rows) (sym c.next_line.ensures.lines) ∙ c.loop-rest.invariant.text in
    lacks_left _ _ (one c.next_line.result.0.now) _ _ _ _ _ text c.loop-rest.invariant.room c.in_err-ahead.ensures.wanting

pub returns-clause-ok : goal.returns-clause-ok
returns-clause-ok c = all_told (came_or_changed c.args.line (script_lines c.args.before.now)) c.loop-rest.rest.now c.loop-rest.into.items _ (search rules) c.loop-rest.invariant.text
