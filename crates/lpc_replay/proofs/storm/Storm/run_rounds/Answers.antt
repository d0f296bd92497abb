use Rattle.std.proofs.Common.{arith}
use Rattle.lpc_storm.proofs.Printable.{few_behind}
use Rattle.lpc_replay.proofs.Storming.{rounds_end, rounds_go}
use Rattle.lpc_replay.proofs.storm.Storm.run_rounds.Goals as goal

pub loop-round-preserved : goal.loop-round-preserved
loop-round-preserved c =
    let l = c.loop-round in
    let ran = rw (c.lines.ensures, c.next_round.ensures.lines) at c.in_ok-run_lines.ensures in
    record {
      few = rw c.next_round.ensures.behind (few_behind l._round l.rounds l.invariant.few);
      rest = rw c.next_round.ensures.behind (rounds_go l.self c.run_lines.new.self _ c.args.count l._round l.rounds (omega arith) l.invariant.rest ran);
    }

pub returns : goal.returns
returns c = let l = c.loop-round in rounds_end l.self _ c.args.count l._round l.rounds (omega arith) l.invariant.rest
