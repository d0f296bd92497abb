use Rattle.lpc_script.proofs.Filled.{filled}
use Rattle.lpc_script.proofs.scratch.fill.Goals as goal

pub returns-clause-value : goal.returns-clause-value
returns-clause-value c = filled c.args.front.now c.args.digits.now c.copy_from_slice.new.self c.decode.new.room _ c.in_ok-decode.ensures c.copy_from_slice.ensures.after
