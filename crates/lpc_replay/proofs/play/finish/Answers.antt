use Rattle.std.proofs.Common.{length}
use Rattle.lpc_replay.specs.Playing.{last_text}
use Rattle.lpc_replay.proofs.Spending.{less_than}
use Rattle.lpc_replay.proofs.Tells.{front_none}
use Rattle.lpc_replay.proofs.play.finish.Goals as goal

pub returns-in_err-end-clause-front : goal.returns-in_err-end-clause-front
returns-in_err-end-clause-front g c = front_none (g.K.Sink.sent c.args.sink.now) (last_text c.args.playback.now.at c.args.fault)

pub returns-in_err-send_all-clause-unsure : goal.returns-in_err-send_all-clause-unsure
returns-in_err-send_all-clause-unsure g c =
    let all = rw c.text.ensures at c.in_err-send_all.ensures.sure in
    let text = c.in_ok-end.ensures.text in
    λ _. less_than (length (last_text c.args.playback.now.at c.args.fault)) (g.K.Sink.sure c.args.sink.now) (rw text at all)
