use Rattle.std.proofs.Common.{◌∙◌}
use Rattle.lpc_model.specs.Listed.{Aside}
use Rattle.lpc_residents.proofs.Gained.{heard-next, wants-here, wants-next}
use Rattle.lpc_residents.proofs.Rows.{where-err}
use Rattle.lpc_residents.proofs.residents.Residents.hear.Goals as goal

pub returns-in_err-hear_entry-clause-wanting : goal.returns-in_err-hear_entry-clause-wanting
returns-in_err-hear_entry-clause-wanting c =
    let aside : Aside = record { read = c.args.out.now.read; groups = c.args.out.now.groups } in
    where-err c.from_residual.result
    (c.loop-entry.invariant.wanting
    (wants-here c.args.in_turn aside c.list-entries.result.now c.loop-entry.entry-index c.entry-item.result c.loop-entry-test.true c.entry-item.is _ c.in_err-hear_entry.ensures.wanting))

pub loop-entry-preserved : goal.loop-entry-preserved
loop-entry-preserved c =
    let aside : Aside = record { read = c.args.out.now.read; groups = c.args.out.now.groups } in
    let same = rw c.read_bytes.ensures.bytes at (c.in_ok-hear_entry.ensures.heard aside.groups) in
    record {
      heard = heard-next c.args.in_turn aside c.list-entries.result.now c.loop-entry.entry-index c.entry-item.result c.loop-entry-test.true c.entry-item.is _ _ same ∙ c.loop-entry.invariant.heard;
      wanting = λ wants. c.loop-entry.invariant.wanting (wants-next c.args.in_turn aside c.list-entries.result.now c.loop-entry.entry-index c.entry-item.result c.loop-entry-test.true c.entry-item.is _ _ same wants);
    }
