use Rattle.std.proofs.Common.{◌≡◌, drop}
use Rattle.lpc_replay.specs.Storming.{behind_storm}
use Rattle.lpc_replay.proofs.storm.Storm.run_lines.Given as goal

abbrev pub invariant-loop-line : goal.invariant-loop-line
invariant-loop-line l = behind_storm l.self (drop l.line-index l.lines) ≡ behind_storm l.fn.self l.lines
