use Rattle.std.proofs.Common.{arith}
use Rattle.lpc_replay.proofs.Storming.{lines_end, lines_go}
use Rattle.lpc_replay.proofs.storm.Storm.run_lines.Goals as goal

pub loop-line-preserved : goal.loop-line-preserved
loop-line-preserved c = lines_go c.loop-line.self _ _ c.args.lines.now c.loop-line.line-index _ (omega arith) c.loop-line.invariant c.in_ok-run_line.ensures

pub returns : goal.returns
returns c = lines_end c.loop-line.self _ c.args.lines.now c.loop-line.line-index (omega arith) c.loop-line.invariant
