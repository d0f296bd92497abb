use Rattle.std.proofs.Common.{◌≡◌, List, length, take, is_some, ap, sym, ◌∙◌, subst, slice_get, Some, arith}
use Rattle.lpc_slots.specs.declared.Key.{Key}
use Rattle.lpc_waits.specs.Table.{WaitingThread}
use Rattle.lpc_waits.specs.Lent.{keyed, waiting_of}
use Rattle.lpc_waits.specs.Layout.{AreOn}
use Rattle.lpc_waits.proofs.Chained.{at_place, before_place, keeps_twice, kept_keyed, keyed_distinct, length_keyed, shown_place, take_all, take_next}
use Rattle.lpc_waits.proofs.chains.Chains.put_all.Goals as goal

pub row-requires : goal.row-requires
row-requires c =
    let same = ap length (kept_keyed c.args.rows.now c.loop-place.rows c.loop-place.invariant.rows) in
    omega (arith, same, length_keyed c.args.rows.now, length_keyed c.loop-place.rows, c.count-place-end.ensures.number, c.loop-place-test.true)

pub push-requires-clause-present : goal.push-requires-clause-present
push-requires-clause-present c = ap is_some (at_place c.loop-place.rows c.loop-place.place c.row.result.0 c.row.result.1.now c.row.ensures)

pub loop-place-preserved : goal.loop-place-preserved
loop-place-preserved c =
    let all = keyed c.args.rows.now in
    let place = c.loop-place.place in
    let key = c.row.result.0 in
    let row = (waiting_of c.row.result.1.now) in
    let same = kept_keyed c.args.rows.now c.loop-place.rows c.loop-place.invariant.rows in
    let here : slice_get all place ≡ Some (key, row) = ap (λ (rows : List (Key × WaitingThread)). slice_get rows place) (sym same) ∙ shown_place c.loop-place.rows place key c.row.result.1.now c.row.ensures in
    let before = before_place all place key row (keyed_distinct c.args.rows.now) here in
    record {
      on =
          rw (take_next all place (key, row) here)
          (c.push.ensures.enters (take place all) row c.loop-place.invariant.on before.0 before.1 (sym c.numbers_of-numbers.ensures));
      wide = c.push.ensures.wide;
      rows = keeps_twice c.args.rows.now c.loop-place.rows c.push.new.rows c.loop-place.invariant.rows c.push.ensures.rows;
    }

pub returns-clause-on : goal.returns-clause-on
returns-clause-on c =
    let all = keyed c.args.rows.now in
    let same = kept_keyed c.args.rows.now c.loop-place.rows c.loop-place.invariant.rows in
    let whole = take_all all c.loop-place.place (omega (arith, length_keyed c.args.rows.now, c.count-place-end.ensures.number, c.loop-place-test.false)) in
    subst (λ (rows : List (Key × WaitingThread)). AreOn c.loop-place.rows c.loop-place.self rows) (whole ∙ sym same) c.loop-place.invariant.on
