use Rattle.std.proofs.Common.{◌≡◌, ◌∙◌, true, arith}
use Rattle.std.proofs.lemmas.Grind.{common_steps}
use Rattle.lpc_names.proofs.Paths.{has_empty, empty_parts}
use Rattle.lpc_names.proofs.text.has_empty_part.Goals as goal

pub returns-then-ends : goal.returns-then-ends
returns-then-ends c =
    let found : true ≡ has_empty true c.args.names.now = grind (arith, common_steps) in
    found ∙ empty_parts c.args.names.now

pub returns : goal.returns
returns c =
    let found : c.loop-byte.begins ≡ has_empty true c.args.names.now = grind (arith, common_steps) in
    found ∙ empty_parts c.args.names.now
