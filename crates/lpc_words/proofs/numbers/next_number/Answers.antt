use Rattle.std.proofs.Common.{◌≡◌, take, arith, refl, below_more}
use Rattle.std.proofs.lemmas.List.{take_all}
use Rattle.lpc_words.proofs.Parts.{parts_here, parts_end, word_here, word_alone}
use Rattle.lpc_words.proofs.Digits.{all_one_more, digits_one_more, front_kept, front_spelled, next_decimal, some_digit}
use Rattle.lpc_words.proofs.numbers.next_number.Goals as goal

pub returns-then-not-is_ascii_digit-clause-words : goal.returns-then-not-is_ascii_digit-clause-words
returns-then-not-is_ascii_digit-clause-words c =
    let front = c.loop-i.invariant.front (omega arith) in
    word_here c.args.text.now _ _ (omega arith) (λ e. omega (arith, front)) (parts_here 32 c.args.text.now c.loop-i.i c.loop-i-test.true c.if-byte-ne32.false c.loop-i.invariant.spaceless)

pub returns-then-not-is_ascii_digit-clause-value : goal.returns-then-not-is_ascii_digit-clause-value
returns-then-not-is_ascii_digit-clause-value c =
    let i = c.loop-i.invariant in
    front_spelled c.args.text.now c.loop-i.i c.loop-i.value i.none (omega arith) (i.front (omega arith)) i.digits i.small i.value

pub loop-i-preserved : goal.loop-i-preserved
loop-i-preserved c =
    let range = c.if-not-is_ascii_digit.ensures.cases in
    let next = next_decimal c.args.text.now c.loop-i.i c.from.result c.loop-i-test.true range c.from.ensures in
    record {
      value = digits_one_more 10 _ _ _ _ 10 _ next c.loop-i.invariant.value refl refl;
      digits = all_one_more 10 _ _ _ next c.loop-i.invariant.digits;
      spaceless = below_more _ _ c.loop-i.invariant.spaceless (λ e. omega (arith, range));
      none = λ e. absurd (omega arith);
      front = front_kept c.args.text.now c.loop-i.i c.loop-i.value c.from.result c.loop-i.invariant.none c.loop-i.invariant.some c.loop-i.invariant.front range.1 c.from.ensures;
      some = λ e. omega arith;
      small = omega (arith, range);
    }

pub returns-clause-words : goal.returns-clause-words
returns-clause-words c =
    let front = c.loop-i.invariant.front (omega arith) in
    let some = some_digit c.loop-i.i c.loop-i.value c.loop-i.invariant.none (omega arith) in
    word_alone c.args.text.now (omega arith) (λ e. omega (arith, front)) (parts_end 32 c.args.text.now (λ k lt e. c.loop-i.invariant.spaceless k (omega arith) e))

pub returns-clause-value : goal.returns-clause-value
returns-clause-value c =
    let i = c.loop-i.invariant in
    let all : take c.loop-i.i c.args.text.now ≡ c.args.text.now = take_all _ _ (omega arith) in
    rw all at (front_spelled c.args.text.now c.loop-i.i c.loop-i.value i.none (omega arith) (i.front (omega arith)) i.digits i.small i.value)
