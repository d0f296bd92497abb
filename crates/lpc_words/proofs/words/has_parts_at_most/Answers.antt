use Rattle.std.proofs.Common.{arith, ◌<◌, length}
use Rattle.std.proofs.lemmas.Bool.Decides.{nat_tests}
use Rattle.lpc_model.specs.Words.{parts}
use Rattle.lpc_words.proofs.Parts.{parts_some}
use Rattle.lpc_words.proofs.words.has_parts_at_most.Goals as goal

pub returns : goal.returns
returns c =
    let some = parts_some c.args.by c.loop-passed.rest.now in
    let over : c.args.most < length (parts c.args.by c.args.text.now) = omega arith in
    grind (arith, nat_tests)
