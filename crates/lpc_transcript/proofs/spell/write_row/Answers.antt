use Rattle.std.proofs.Common.{◌++◌, ◌∙◌, ap, List, ℕ, ◌+◌, ◌-◌, take, arith}
use Rattle.lpc_transcript.proofs.Placed.{row_placed}
use Rattle.lpc_transcript.proofs.spell.write_row.Goals as goal

pub returns-clause-text : goal.returns-clause-text
returns-clause-text c =
    row_placed c.args.to.now c.copy_from_slice.new.self c.args.at (c.args.at + 16 - c.args.at) c.args.count (omega arith) (omega arith)
    ∙ ap (λ (row : List ℕ). take c.args.at c.args.to.now ++ take c.args.count row) c.copy_from_slice.ensures.after
