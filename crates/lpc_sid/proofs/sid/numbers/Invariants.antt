use Rattle.std.proofs.Common.{◌≡◌, true, map}
use Rattle.std.specs.Prelude.{decimal}
use Rattle.lpc_sid.specs.Spelling.{are_words}
use Rattle.lpc_sid.proofs.sid.numbers.Given as goal

abbrev pub invariant-loop-part : goal.invariant-loop-part
invariant-loop-part l = record {
  words : are_words l.list.items ≡ true;
  text : map decimal l.list.items ≡ map (λ part. part.now) l.yielded;
}
