use Rattle.std.proofs.Common.{◌-◌, length, arith}
use Rattle.lpc_script.proofs.Printable.{all_ended, all_parted}
use Rattle.lpc_script.proofs.read.is_printable.Goals as goal

pub loop-start-preserved : goal.loop-start-preserved
loop-start-preserved c = record {
  printable = all_parted _ _ c.loop-start.start _ 8 _ _ c.loop-start.invariant.printable c.is_printable_run-printable.ensures (omega arith);
  inside = omega arith;
}

pub returns : goal.returns
returns c = all_ended _ c.args.text.now (length c.args.text.now - 8) c.loop-start.start (length c.args.text.now - (length c.args.text.now - 8)) _ _ c.loop-start.invariant.printable c.is_printable_run-2.ensures (omega arith) (omega arith)
