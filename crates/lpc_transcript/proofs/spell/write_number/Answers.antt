use Rattle.std.proofs.Common.{sym, ◌/◌, arith}
use Rattle.itoa.proofs.Decimal.{length_one, length_two, length_pair}
use Rattle.lpc_transcript.proofs.spell.write_number.Goals as goal

pub write_counted-requires-clause-count : goal.write_counted-requires-clause-count
write_counted-requires-clause-count c = sym (length_one c.args.number c.if-number-lt10.true)

pub write_counted-requires-then-number-lt100-clause-count : goal.write_counted-requires-then-number-lt100-clause-count
write_counted-requires-then-number-lt100-clause-count c = sym (length_two c.args.number c.if-number-lt10.false c.if-number-lt100.true)

pub write_counted-requires-then-number-lt1000-clause-count : goal.write_counted-requires-then-number-lt1000-clause-count
write_counted-requires-then-number-lt1000-clause-count c = omega (arith, length_pair c.args.number c.if-number-lt100.false (omega arith), length_one (c.args.number / 100) (omega arith))

pub write_counted-requires-then-number-lt10000-clause-count : goal.write_counted-requires-then-number-lt10000-clause-count
write_counted-requires-then-number-lt10000-clause-count c = omega (arith, length_pair c.args.number c.if-number-lt100.false (omega arith), length_two (c.args.number / 100) (omega arith) (omega arith))
