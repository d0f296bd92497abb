use Rattle.std.proofs.Common.{◌≡◌, ◌-◌}
use Rattle.lpc_storm.specs.Generated.{rounds, start}
use Rattle.lpc_storm.proofs.Printable.{HadFew}
use Rattle.lpc_replay.specs.Storming.{behind_storm}
use Rattle.lpc_replay.proofs.storm.Storm.run_rounds.Given as goal

abbrev pub invariant-loop-round : goal.invariant-loop-round
invariant-loop-round l = record {
  few : HadFew l._round l.rounds;
  rest : behind_storm l.self (rounds (l.count - l._round) l.rounds) ≡ behind_storm l.fn.self (rounds l.fn.count (start l.fn.seed));
}
