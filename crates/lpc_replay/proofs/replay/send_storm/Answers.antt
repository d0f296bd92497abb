use Rattle.lpc_replay.specs.TopCall.{storm_text}
use Rattle.lpc_replay.proofs.Tells.{front_none}
use Rattle.lpc_replay.proofs.replay.send_storm.Goals as goal

pub returns-in_err-summary-clause-front : goal.returns-in_err-summary-clause-front
returns-in_err-summary-clause-front g c = front_none (g.K.Sink.sent c.args.sink.now) (storm_text (c.args.count, c.args.seed))

pub returns-in_err-print_summary-clause-front : goal.returns-in_err-print_summary-clause-front
returns-in_err-print_summary-clause-front g c = front_none (g.K.Sink.sent c.args.sink.now) (storm_text (c.args.count, c.args.seed))
