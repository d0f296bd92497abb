use Rattle.std.proofs.Common.{◌≡◌, ◌∙◌, ◌+◌, ◌<◌, ◌≤◌, ◌++◌, length, refl, ap, rules, arith}
use Rattle.std.proofs.lemmas.Grind.{common_steps}
use Rattle.lpc_names.specs.Kept.{path_of}
use Rattle.lpc_names.proofs.Paths.{join-long, join-fits, path-join}
use Rattle.lpc_names.proofs.text.join.Goals as goal

pub returns-then-is_err : goal.returns-then-is_err
returns-then-is_err c =
    let long : 256 < length c.args.target.now.items + length c.args.rest.now = grind (arith, common_steps) in
    (refl, join-long _ _ long)

pub returns : goal.returns
returns c =
    let joined : c.try_extend_from_slice-2.new.self.items ≡ c.args.target.now.items ++ c.args.rest.now = search rules in
    let fits : length c.args.target.now.items + length c.args.rest.now ≤ 256 = grind (arith, common_steps) in
    (ap path_of joined ∙ path-join c.args.target.now.items c.args.rest.now c.requires, join-fits _ _ fits)
