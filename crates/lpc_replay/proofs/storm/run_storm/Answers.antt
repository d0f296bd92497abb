use Rattle.lpc_replay.proofs.Storming.{storm_is}
use Rattle.lpc_replay.proofs.storm.run_storm.Goals as goal

pub returns : goal.returns
returns c =
    let first = rw (c.in_ok-storm.ensures, c.opening.ensures) at c.in_ok-run_lines.ensures in
    let last = rw c.ending.ensures at c.in_ok-run_lines-2.ensures in
    let whole = storm_is c.args.count c.args.seed c.run_lines.new.self c.connect.new.self c.run_rounds.new.self c.run_lines-2.new.self c.requires first c.in_ok-connect.ensures c.in_ok-run_rounds.ensures last in
    rw whole at c.sum_up.ensures
