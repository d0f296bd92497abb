use Rattle.std.proofs.Common.{arith}
use Rattle.lpc_transcript.proofs.Placed.{one_digit, one_digit_more, twenty_digits}
use Rattle.lpc_transcript.proofs.spell.count_many.Goals as goal

pub overflow_add-count : goal.overflow_add-count
overflow_add-count c = omega (arith, twenty_digits c.args.number c.ranges.number.fits)

pub loop-left-preserved : goal.loop-left-preserved
loop-left-preserved c = omega (arith, one_digit_more c.loop-left.left c.loop-left-test.true c.loop-left.auto.left-fits.fits)

pub returns : goal.returns
returns c = omega (arith, one_digit c.loop-left.left c.loop-left-test.false)
