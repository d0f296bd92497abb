use Rattle.std.proofs.Common.{Some, is_some, ap, sym, ◌∙◌}
use Rattle.std.proofs.lemmas.Option.{slice_get-get_or}
use Rattle.lpc_waits.specs.Table.{is_mark}
use Rattle.lpc_waits.proofs.Marks.{at-place, has-mark, some-place}
use Rattle.lpc_waits.proofs.mark_place.Goals as goal

pub returns-then-marks-expected-clause-marked : goal.returns-then-marks-expected-clause-marked
returns-then-marks-expected-clause-marked c =
    sym (has-mark c.args.tid c.args.marks.now c.args.expected c.if-expected-marks.true c.if-marks-expected.true)

pub returns-then-marks-expected-clause-place : goal.returns-then-marks-expected-clause-place
returns-then-marks-expected-clause-place c =
    slice_get-get_or c.args.marks.now c.args.expected 0 c.if-expected-marks.true ∙ ap Some c.if-marks-expected.true

pub returns-clause-marked : goal.returns-clause-marked
returns-clause-marked c = ap is_some c.first_mark.ensures.place ∙ some-place (is_mark c.args.tid) c.args.marks.now

pub returns-clause-place : goal.returns-clause-place
returns-clause-place c = at-place c.args.tid c.args.marks.now c.first_mark.result c.first_mark.ensures.place
