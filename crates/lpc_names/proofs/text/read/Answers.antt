use Rattle.std.proofs.Common.{◌≡◌, ◌∙◌, ◌<◌, ◌≤◌, Ok, sym, ap, length, arith, rules}
use Rattle.std.proofs.lemmas.Grind.{common_steps}
use Rattle.lpc_names.specs.Kept.{path_of}
use Rattle.lpc_names.proofs.Paths.{read-empty, read-long, read-fits}
use Rattle.lpc_names.proofs.text.read.Goals as goal

pub returns-then-has_empty_part : goal.returns-then-has_empty_part
returns-then-has_empty_part c =
    let some : 0 < length c.in-Some.names.now = grind (arith, common_steps) in
    read-empty c.args.text.now c.in-Some.names.now c.in-Some.ensures some (sym c.if-has_empty_part.ensures)

pub returns-then-is_err : goal.returns-then-is_err
returns-then-is_err c =
    let some : 0 < length c.in-Some.names.now = grind (arith, common_steps) in
    let long : 256 < length c.args.text.now = grind (arith, common_steps) in
    read-long c.args.text.now c.in-Some.names.now c.in-Some.ensures some long

pub returns : goal.returns
returns c =
    let some : 0 < length c.in-Some.names.now = grind (arith, common_steps) in
    let fits : length c.args.text.now ≤ 256 = grind (arith, common_steps) in
    let copied : c.try_extend_from_slice.new.self.items ≡ c.args.text.now = search rules in
    ap (λ t. Ok (path_of t)) copied ∙ read-fits c.args.text.now c.in-Some.names.now c.in-Some.ensures some (sym c.if-has_empty_part.ensures) fits
