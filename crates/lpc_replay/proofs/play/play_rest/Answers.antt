use Rattle.std.proofs.Common.{◌≡◌, ◌<◌, length, arith}
use Rattle.std.proofs.lemmas.Bool.Decides.{nat_tests}
use Rattle.lpc_model.specs.Script.{script_lines}
use Rattle.lpc_replay.specs.Playing.{body_text}
use Rattle.lpc_replay.proofs.Resting.{rest_faulty, rest_front, rest_none, rest_run}
use Rattle.lpc_replay.proofs.Spending.{less_than, rest_spends, rest_spends_fault, rest_spends_none, rest_unsure}
use Rattle.lpc_replay.proofs.Tells.{front_none}
use Rattle.lpc_replay.proofs.play.play_rest.Goals as goal

pub returns-then-is_empty-clause-ends : goal.returns-then-is_empty-clause-ends
returns-then-is_empty-clause-ends g c =
    let none : length c.args.rest.now ≡ 0 = grind (arith, nat_tests) in
    rest_none c.args.playback.now.form c.args.playback.now.at c.args.rest.now (g.K.Sink.sent c.args.sink.now) none

pub returns-then-is_empty-clause-front : goal.returns-then-is_empty-clause-front
returns-then-is_empty-clause-front g c = front_none (g.K.Sink.sent c.args.sink.now) (body_text c.args.playback.now.form c.args.playback.now.at (script_lines c.args.rest.now))

pub returns-in_err-fault-clause-front : goal.returns-in_err-fault-clause-front
returns-in_err-fault-clause-front g c = front_none (g.K.Sink.sent c.args.sink.now) (body_text c.args.playback.now.form c.args.playback.now.at (script_lines c.args.rest.now))

pub returns-in-Some-clause-ends : goal.returns-in-Some-clause-ends
returns-in-Some-clause-ends g c =
    let some : 0 < length c.args.rest.now = grind (arith, nat_tests) in
    let runs = rw c.in-Some.is at c.in_ok-fault.ensures.runs in
    rest_faulty c.args.playback.now.form c.args.playback.now.at c.run_line.new.self.at c.args.rest.now c.run_line.new.self.text c.in-Some.fault (g.K.Sink.sent c.args.sink.now) c.requires.lacks some runs

pub returns-in-Some-clause-front : goal.returns-in-Some-clause-front
returns-in-Some-clause-front g c = front_none (g.K.Sink.sent c.args.sink.now) (body_text c.args.playback.now.form c.args.playback.now.at (script_lines c.args.rest.now))

pub returns-in_err-send_all-clause-front : goal.returns-in_err-send_all-clause-front
returns-in_err-send_all-clause-front g c =
    let some : 0 < length c.args.rest.now = grind (arith, nat_tests) in
    let runs = rw c.in_default.is at c.in_ok-fault.ensures.runs in
    rest_front c.args.playback.now.form c.args.playback.now.at c.run_line.new.self.at c.args.rest.now c.run_line.new.self.text (g.K.Sink.sent c.args.sink.now) (g.K.Sink.sent c.send_all.new.sink) c.requires.lacks some runs (rw c.text.ensures at c.send_all.ensures.front)

pub returns-clause-ends : goal.returns-clause-ends
returns-clause-ends g c =
    let some : 0 < length c.args.rest.now = grind (arith, nat_tests) in
    let runs = rw c.in_default.is at c.in_ok-fault.ensures.runs in
    rest_run c.args.playback.now.form c.args.playback.now.at c.run_line.new.self.at c.args.rest.now c.run_line.new.self.text (g.K.Sink.sent c.args.sink.now) (g.K.Sink.sent c.send_all.new.sink) c.requires.lacks some runs (rw c.text.ensures at c.in_ok-send_all.ensures.sent)

pub returns-clause-front : goal.returns-clause-front
returns-clause-front g c =
    let some : 0 < length c.args.rest.now = grind (arith, nat_tests) in
    let runs = rw c.in_default.is at c.in_ok-fault.ensures.runs in
    rest_front c.args.playback.now.form c.args.playback.now.at c.run_line.new.self.at c.args.rest.now c.run_line.new.self.text (g.K.Sink.sent c.args.sink.now) (g.K.Sink.sent c.send_all.new.sink) c.requires.lacks some runs (rw c.text.ensures at c.send_all.ensures.front)

pub returns-then-is_empty-clause-spends : goal.returns-then-is_empty-clause-spends
returns-then-is_empty-clause-spends g c =
    let none : length c.args.rest.now ≡ 0 = grind (arith, nat_tests) in
    rest_spends_none c.args.playback.now.form c.args.playback.now.at c.args.rest.now (g.K.Sink.sure c.args.sink.now) none

pub returns-in-Some-clause-spends : goal.returns-in-Some-clause-spends
returns-in-Some-clause-spends g c =
    let some : 0 < length c.args.rest.now = grind (arith, nat_tests) in
    let runs = rw c.in-Some.is at c.in_ok-fault.ensures.runs in
    rest_spends_fault c.args.playback.now.form c.args.playback.now.at c.run_line.new.self.at c.args.rest.now c.run_line.new.self.text c.in-Some.fault (g.K.Sink.sure c.args.sink.now) c.requires.lacks some runs

pub returns-in_err-send_all-clause-unsure : goal.returns-in_err-send_all-clause-unsure
returns-in_err-send_all-clause-unsure g c =
    let some : 0 < length c.args.rest.now = grind (arith, nat_tests) in
    let runs = rw c.in_default.is at c.in_ok-fault.ensures.runs in
    let less = less_than (length c.run_line.new.self.text) (g.K.Sink.sure c.args.sink.now) (rw c.text.ensures at c.in_err-send_all.ensures.sure) in
    λ _. rest_unsure c.args.playback.now.form c.args.playback.now.at c.run_line.new.self.at c.args.rest.now c.run_line.new.self.text (g.K.Sink.sure c.args.sink.now) c.requires.lacks some runs less

pub returns-clause-spends : goal.returns-clause-spends
returns-clause-spends g c =
    let some : 0 < length c.args.rest.now = grind (arith, nat_tests) in
    let runs = rw c.in_default.is at c.in_ok-fault.ensures.runs in
    rest_spends c.args.playback.now.form c.args.playback.now.at c.run_line.new.self.at c.args.rest.now c.run_line.new.self.text (g.K.Sink.sure c.args.sink.now) (g.K.Sink.sure c.send_all.new.sink) c.requires.lacks some runs (rw c.text.ensures at c.in_ok-send_all.ensures.spends)
