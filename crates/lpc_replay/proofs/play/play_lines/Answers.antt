use Rattle.std.proofs.Common.{sym, refl, ◌∙◌, length}
use Rattle.lpc_replay.specs.TopCall.{Begins, ReadsInTime}
use Rattle.lpc_replay.proofs.Asking.{asked_nothing, asked_then}
use Rattle.lpc_replay.proofs.Coming.{come_begun, come_end, come_failed, come_fault, come_long, come_many, come_whole, few_lines}
use Rattle.lpc_replay.proofs.Played.{begins_here, cuts_here, grows_front, grows_none, line_run, played_none, reads_in_time}
use Rattle.lpc_replay.proofs.Spending.{less_than, spends_end, spends_fault, spends_line, spends_long, spends_many, spends_none, spends_nothing, spends_whole, unsure_line}
use Rattle.lpc_replay.proofs.Stopping.{on_err}
use Rattle.lpc_replay.proofs.play.play_lines.Goals as goal

pub loop-playback-init : goal.loop-playback-init
loop-playback-init g c = record {
  form = refl;
  played = rw (c.requires.begin, c.requires.unread) (played_none c.args.playback.now.form (g.S.Source.left c.args.source.now) (g.K.Sink.sent c.args.sink.now));
  faults = refl;
  read_faults = refl;
  asked = asked_nothing (g.S.Source.asked c.args.source.now);
  spent = rw (c.requires.begin, c.requires.unread) (spends_none c.args.playback.now.form (g.S.Source.left c.args.source.now) (g.K.Sink.sure c.args.sink.now));
  runs = λ r. r;
  alone = λ r. refl;
  sink_runs = λ r. r;
}

pub returns-in-TooLong-clause-stops : goal.returns-in-TooLong-clause-stops
returns-in-TooLong-clause-stops g c =
    let left = g.S.Source.left in
    let sent = g.K.Sink.sent in
    let l = c.loop-playback in
    let p = l.playback.at in
    let now = c.next_line.new.self in
    come_long c.args.playback.now.form (left c.args.source.now) (left l.source) (left c.next_line.new.source) (sent c.args.sink.now) (sent l.sink) p l.reader.piece now.line.line now.piece l.invariant.played c.in-TooLong.ensures.read c.next_line.ensures.lacks c.next_line.ensures.ahead (sym c.is_full.ensures ∙ c.in-TooLong.ensures.room refl)

pub returns-in-TooMany-clause-stops : goal.returns-in-TooMany-clause-stops
returns-in-TooMany-clause-stops g c =
    let left = g.S.Source.left in
    let sent = g.K.Sink.sent in
    let l = c.loop-playback in
    let p = l.playback.at in
    let now = c.next_line.new.self in
    come_many c.args.playback.now.form (left c.args.source.now) (left l.source) (left c.next_line.new.source) (sent c.args.sink.now) (sent l.sink) p l.reader.piece now.line.line now.piece l.invariant.played c.in-TooMany.ensures.read c.next_line.ensures.ahead (sym c.is_full.ensures ∙ c.in-TooMany.ensures.many refl)

pub returns-in-End-clause-stops : goal.returns-in-End-clause-stops
returns-in-End-clause-stops g c =
    let left = g.S.Source.left in
    let sent = g.K.Sink.sent in
    let l = c.loop-playback in
    let p = l.playback.at in
    let now = c.next_line.new.self in
    come_end c.args.playback.now.form (left c.args.source.now) (left l.source) (left c.next_line.new.source) (sent c.args.sink.now) (sent l.sink) p l.reader.piece now.line.line now.piece l.invariant.played c.in-End.ensures.read c.next_line.ensures.lacks (λ full. c.next_line.ensures.empty (c.is_full.ensures ∙ full)) c.next_line.ensures.limit

pub returns-in-SourceFailed-clause-stops : goal.returns-in-SourceFailed-clause-stops
returns-in-SourceFailed-clause-stops g c =
    let left = g.S.Source.left in
    let sent = g.K.Sink.sent in
    let l = c.loop-playback in
    let p = l.playback.at in
    let now = c.next_line.new.self in
    come_failed c.args.playback.now.form (left c.args.source.now) (left l.source) (left c.next_line.new.source) (sent c.args.sink.now) (sent l.sink) p l.reader.piece now.line.line now.piece l.invariant.played c.in-SourceFailed.ensures.read c.next_line.ensures.lacks (λ full. c.next_line.ensures.empty (c.is_full.ensures ∙ full)) c.next_line.ensures.limit

pub returns-in-TooLong-clause-spends : goal.returns-in-TooLong-clause-spends
returns-in-TooLong-clause-spends g c =
    let left = g.S.Source.left in
    let sure = g.K.Sink.sure in
    let l = c.loop-playback in
    let p = l.playback.at in
    let now = c.next_line.new.self in
    spends_long c.args.playback.now.form (left c.args.source.now) (left l.source) (left c.next_line.new.source) (sure c.args.sink.now) (sure l.sink) p l.reader.piece now.line.line now.piece l.invariant.spent c.in-TooLong.ensures.read c.next_line.ensures.lacks (sym c.is_full.ensures ∙ c.in-TooLong.ensures.room refl)

pub returns-in-TooMany-clause-spends : goal.returns-in-TooMany-clause-spends
returns-in-TooMany-clause-spends g c =
    let left = g.S.Source.left in
    let sure = g.K.Sink.sure in
    let l = c.loop-playback in
    let p = l.playback.at in
    let now = c.next_line.new.self in
    spends_many c.args.playback.now.form (left c.args.source.now) (left l.source) (left c.next_line.new.source) (sure c.args.sink.now) (sure l.sink) p l.reader.piece now.line.line now.piece l.invariant.spent c.in-TooMany.ensures.read (sym c.is_full.ensures ∙ c.in-TooMany.ensures.many refl)

pub returns-in-End-clause-spends : goal.returns-in-End-clause-spends
returns-in-End-clause-spends g c =
    let left = g.S.Source.left in
    let sure = g.K.Sink.sure in
    let l = c.loop-playback in
    let p = l.playback.at in
    let now = c.next_line.new.self in
    spends_end c.args.playback.now.form (left c.args.source.now) (left l.source) (left c.next_line.new.source) (sure c.args.sink.now) (sure l.sink) p l.reader.piece now.line.line now.piece l.invariant.spent c.in-End.ensures.read (c.in-End.ensures.end refl)

pub returns-in-SourceFailed-clause-spends : goal.returns-in-SourceFailed-clause-spends
returns-in-SourceFailed-clause-spends g c =
    let left = g.S.Source.left in
    let sure = g.K.Sink.sure in
    let l = c.loop-playback in
    spends_nothing c.args.playback.now.form (left c.args.source.now) (left l.source) (sure c.args.sink.now) (sure l.sink) l.playback.at l.reader.piece l.invariant.spent

pub returns-in-Some-clause-spends : goal.returns-in-Some-clause-spends
returns-in-Some-clause-spends g c =
    let left = g.S.Source.left in
    let sure = g.K.Sink.sure in
    let l = c.loop-playback in
    let p = l.playback.at in
    let now = c.next_line.new.self in
    let h = spends_whole c.args.playback.now.form (left c.args.source.now) (left l.source) (left c.next_line.new.source) (sure c.args.sink.now) (sure l.sink) p l.reader.piece now.line.line now.piece l.invariant.spent c.in-Whole.ensures.read in
    let runs = rw (c.in-Some.is, c.line.ensures.line) at c.in_ok-fault.ensures.runs in
    spends_fault c.args.playback.now.form (left c.args.source.now) (left c.next_line.new.source) (sure c.args.sink.now) (sure l.sink) p c.run_line.new.self.at now.line.line now.piece c.run_line.new.self.text c.in-Some.fault h c.next_line.ensures.lacks runs

pub returns-in_err-send_all-clause-unsure : goal.returns-in_err-send_all-clause-unsure
returns-in_err-send_all-clause-unsure g c =
    let left = g.S.Source.left in
    let sure = g.K.Sink.sure in
    let l = c.loop-playback in
    let p = l.playback.at in
    let now = c.next_line.new.self in
    let h = spends_whole c.args.playback.now.form (left c.args.source.now) (left l.source) (left c.next_line.new.source) (sure c.args.sink.now) (sure l.sink) p l.reader.piece now.line.line now.piece l.invariant.spent c.in-Whole.ensures.read in
    let runs = rw (c.in_default.is, c.line.ensures.line, l.invariant.form) at c.in_ok-fault.ensures.runs in
    let less = less_than (length c.run_line.new.self.text) (sure l.sink) (rw c.text.ensures at c.in_err-send_all.ensures.sure) in
    λ _. unsure_line c.args.playback.now.form (left c.args.source.now) (left c.next_line.new.source) (sure c.args.sink.now) (sure l.sink) p c.run_line.new.self.at now.line.line now.piece c.run_line.new.self.text h c.next_line.ensures.lacks runs less

pub returns-in_err-fault-clause-begun : goal.returns-in_err-fault-clause-begun
returns-in_err-fault-clause-begun g c =
    let left = g.S.Source.left in
    let sent = g.K.Sink.sent in
    let l = c.loop-playback in
    let p = l.playback.at in
    let now = c.next_line.new.self in
    let h = come_whole c.args.playback.now.form (left c.args.source.now) (left l.source) (left c.next_line.new.source) (sent c.args.sink.now) (sent l.sink) p l.reader.piece now.line.line now.piece l.invariant.played c.in-Whole.ensures.read c.next_line.ensures.lacks c.next_line.ensures.ahead in
    on_err c.from_residual.result (Begins c.args.playback.now.form (left c.args.source.now) (left c.next_line.new.source) (sent c.args.sink.now) (sent l.sink)) (begins_here c.args.playback.now.form (left c.args.source.now) (left c.next_line.new.source) (sent c.args.sink.now) (sent l.sink) p _ h)

pub returns-in_err-fault-clause-in_time : goal.returns-in_err-fault-clause-in_time
returns-in_err-fault-clause-in_time g c =
    let left = g.S.Source.left in
    let sent = g.K.Sink.sent in
    let l = c.loop-playback in
    let p = l.playback.at in
    let now = c.next_line.new.self in
    let h = come_whole c.args.playback.now.form (left c.args.source.now) (left l.source) (left c.next_line.new.source) (sent c.args.sink.now) (sent l.sink) p l.reader.piece now.line.line now.piece l.invariant.played c.in-Whole.ensures.read c.next_line.ensures.lacks c.next_line.ensures.ahead in
    on_err c.from_residual.result (ReadsInTime c.args.playback.now.form (left c.args.source.now) (left c.next_line.new.source) (sent c.args.sink.now) (sent l.sink)) (reads_in_time c.args.playback.now.form (left c.args.source.now) (left c.next_line.new.source) (sent c.args.sink.now) (sent l.sink) (sent l.sink) p _ h (grows_none (sent l.sink)))

pub returns-in_err-fault-clause-cut : goal.returns-in_err-fault-clause-cut
returns-in_err-fault-clause-cut g c =
    let left = g.S.Source.left in
    let sent = g.K.Sink.sent in
    let l = c.loop-playback in
    let p = l.playback.at in
    let now = c.next_line.new.self in
    let h = come_whole c.args.playback.now.form (left c.args.source.now) (left l.source) (left c.next_line.new.source) (sent c.args.sink.now) (sent l.sink) p l.reader.piece now.line.line now.piece l.invariant.played c.in-Whole.ensures.read c.next_line.ensures.lacks c.next_line.ensures.ahead in
    λ _. cuts_here c.args.playback.now.form (left c.args.source.now) (left c.next_line.new.source) (sent c.args.sink.now) (sent l.sink) p _ h

pub returns-in-Some-clause-stops : goal.returns-in-Some-clause-stops
returns-in-Some-clause-stops g c =
    let left = g.S.Source.left in
    let sent = g.K.Sink.sent in
    let l = c.loop-playback in
    let p = l.playback.at in
    let now = c.next_line.new.self in
    let h = come_whole c.args.playback.now.form (left c.args.source.now) (left l.source) (left c.next_line.new.source) (sent c.args.sink.now) (sent l.sink) p l.reader.piece now.line.line now.piece l.invariant.played c.in-Whole.ensures.read c.next_line.ensures.lacks c.next_line.ensures.ahead in
    let runs = rw (c.in-Some.is, c.line.ensures.line) at c.in_ok-fault.ensures.runs in
    come_fault c.args.playback.now.form (left c.args.source.now) (left c.next_line.new.source) (sent c.args.sink.now) (sent l.sink) p c.run_line.new.self.at now.line.line now.piece c.run_line.new.self.text c.in-Some.fault h c.next_line.ensures.lacks runs

pub loop-playback-preserved : goal.loop-playback-preserved
loop-playback-preserved g c =
    let left = g.S.Source.left in
    let sent = g.K.Sink.sent in
    let l = c.loop-playback in
    let p = l.playback.at in
    let now = c.next_line.new.self in
    let h = come_whole c.args.playback.now.form (left c.args.source.now) (left l.source) (left c.next_line.new.source) (sent c.args.sink.now) (sent l.sink) p l.reader.piece now.line.line now.piece l.invariant.played c.in-Whole.ensures.read c.next_line.ensures.lacks c.next_line.ensures.ahead in
    let sure = g.K.Sink.sure in
    let spent = spends_whole c.args.playback.now.form (left c.args.source.now) (left l.source) (left c.next_line.new.source) (sure c.args.sink.now) (sure l.sink) p l.reader.piece now.line.line now.piece l.invariant.spent c.in-Whole.ensures.read in
    let asked = g.S.Source.asked in
    let v = l.invariant in
    let runs = rw (c.in_default.is, c.line.ensures.line, l.invariant.form) at c.in_ok-fault.ensures.runs in
    let told = rw c.text.ensures at c.in_ok-send_all.ensures.sent in
    let few = few_lines p.lines (sym c.is_full.ensures ∙ c.in-Whole.ensures.room refl) in
    record {
      form = c.run_line.ensures.form ∙ v.form;
      played = line_run c.args.playback.now.form (left c.args.source.now) (left c.next_line.new.source) (sent c.args.sink.now) (sent l.sink) (sent c.send_all.new.sink) p c.run_line.new.self.at now.line.line now.piece c.run_line.new.self.text h c.next_line.ensures.lacks c.next_line.ensures.limit few runs told c.next_line.ensures.ahead;
      faults = c.in_ok-send_all.ensures.still ∙ v.faults;
      read_faults = c.in-Whole.ensures.still refl ∙ v.read_faults;
      asked = asked_then (asked c.args.source.now) (asked l.source) (asked c.next_line.new.source) v.runs v.asked c.next_line.ensures.asked;
      spent = spends_line c.args.playback.now.form (left c.args.source.now) (left c.next_line.new.source) (sure c.args.sink.now) (sure l.sink) (sure c.send_all.new.sink) p c.run_line.new.self.at now.line.line now.piece c.run_line.new.self.text spent c.next_line.ensures.lacks runs (rw c.text.ensures at c.in_ok-send_all.ensures.spends);
      runs = λ r. c.in-Whole.ensures.runs refl (v.runs r);
      alone = λ r. c.in_ok-send_all.ensures.left_alone (v.sink_runs r) ∙ v.alone r;
      sink_runs = λ r. c.in_ok-send_all.ensures.runs_on (v.sink_runs r);
    }

pub returns-in_err-send_all-clause-begun : goal.returns-in_err-send_all-clause-begun
returns-in_err-send_all-clause-begun g c =
    let left = g.S.Source.left in
    let sent = g.K.Sink.sent in
    let l = c.loop-playback in
    let p = l.playback.at in
    let now = c.next_line.new.self in
    let h = come_whole c.args.playback.now.form (left c.args.source.now) (left l.source) (left c.next_line.new.source) (sent c.args.sink.now) (sent l.sink) p l.reader.piece now.line.line now.piece l.invariant.played c.in-Whole.ensures.read c.next_line.ensures.lacks c.next_line.ensures.ahead in
    let runs = rw (c.in_default.is, c.line.ensures.line, l.invariant.form) at c.in_ok-fault.ensures.runs in
    let told = rw c.text.ensures at c.send_all.ensures.front in
    on_err c.from_residual-in_err-send_all.result _ (come_begun c.args.playback.now.form (left c.args.source.now) (left c.next_line.new.source) (sent c.args.sink.now) (sent l.sink) (sent c.send_all.new.sink) p c.run_line.new.self.at now.line.line now.piece c.run_line.new.self.text h c.next_line.ensures.lacks runs told)

pub returns-in_err-send_all-clause-in_time : goal.returns-in_err-send_all-clause-in_time
returns-in_err-send_all-clause-in_time g c =
    let left = g.S.Source.left in
    let sent = g.K.Sink.sent in
    let l = c.loop-playback in
    let p = l.playback.at in
    let now = c.next_line.new.self in
    let h = come_whole c.args.playback.now.form (left c.args.source.now) (left l.source) (left c.next_line.new.source) (sent c.args.sink.now) (sent l.sink) p l.reader.piece now.line.line now.piece l.invariant.played c.in-Whole.ensures.read c.next_line.ensures.lacks c.next_line.ensures.ahead in
    let told = rw c.text.ensures at c.send_all.ensures.front in
    on_err c.from_residual-in_err-send_all.result _ (reads_in_time c.args.playback.now.form (left c.args.source.now) (left c.next_line.new.source) (sent c.args.sink.now) (sent l.sink) (sent c.send_all.new.sink) p _ h (grows_front (sent l.sink) (sent c.send_all.new.sink) c.run_line.new.self.text told))
