use Rattle.std.proofs.Common.{◌+◌, arith}
use Rattle.std.specs.Prelude.{decimal}
use Rattle.lpc_transcript.proofs.Placed.{placed, twenty_digits}
use Rattle.lpc_transcript.proofs.spell.write_counted.Goals as goal

pub overflow_add-end : goal.overflow_add-end
overflow_add-end c = omega (arith, c.requires.count, twenty_digits c.args.number c.ranges.number.fits)

pub write_digits-start-requires : goal.write_digits-start-requires
write_digits-start-requires c =
    let few = twenty_digits c.args.number c.ranges.number.fits in (omega arith, omega arith)

pub returns-clause-end : goal.returns-clause-end
returns-clause-end c = omega (arith, c.requires.count, twenty_digits c.args.number c.ranges.number.fits)

pub returns-clause-text : goal.returns-clause-text
returns-clause-text c =
    let few = twenty_digits c.args.number c.ranges.number.fits in
    placed c.args.to.now c.write_digits-start.new.buf c.args.at c.write_digits-start.result (c.args.at + c.args.count) (decimal c.args.number) c.write_digits-start.ensures.start (omega arith) (omega arith) c.write_digits-start.ensures.written c.write_digits-start.ensures.before
