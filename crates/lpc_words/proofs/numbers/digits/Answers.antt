use Rattle.std.proofs.Common.{arith}
use Rattle.lpc_words.proofs.Digits.{NextDigit, next_digit, digits_one_more, all_one_more, digits_over}
use Rattle.lpc_words.proofs.numbers.digits.Goals as goal

pub returns-then-value-from : goal.returns-then-value-from
returns-then-value-from c =
    let next : NextDigit c.args.base c.args.text.now c.loop-byte.byte-index c.in-Some.digit = next_digit _ _ _ _ _ (omega arith) c.from.ensures c.in-Some.ensures.value in
    let value = digits_one_more _ _ _ _ _ _ _ next c.loop-byte.invariant.value c.from-in-loop-byte.ensures c.from-in-loop-byte-2.ensures in
    digits_over _ _ _ _ c.requires.least value (omega arith)

pub loop-byte-preserved : goal.loop-byte-preserved
loop-byte-preserved c =
    let next : NextDigit c.args.base c.args.text.now c.loop-byte.byte-index c.in-Some.digit = next_digit _ _ _ _ _ (omega arith) c.from.ensures c.in-Some.ensures.value in
    record {
      value = digits_one_more _ _ _ _ _ _ _ next c.loop-byte.invariant.value c.from-in-loop-byte.ensures c.from-in-loop-byte-2.ensures;
      digits = all_one_more _ _ _ _ next c.loop-byte.invariant.digits;
      small = omega arith;
    }
