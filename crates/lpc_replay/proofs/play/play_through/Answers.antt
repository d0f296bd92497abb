use Rattle.std.proofs.Common.{ap, refl, sym}
use Rattle.std.specs.Prelude.{Err, Some}
use Rattle.lpc_replay.specs.Playing.{last_text, text_from}
use Rattle.lpc_model.specs.Script.{script_lines}
use Rattle.lpc_replay.proofs.Played.{begins_here, begins_more, cuts_here, grows_front, grows_none, reads_in_time}
use Rattle.lpc_replay.proofs.Stopping.{begins_last, breaks_off, broken_sound, ends_faulty, ends_formed, ends_sound_read, ends_stopped, ends_transcript, last_cut, last_fault, last_in_time, last_of_rest, text_front}
use Rattle.lpc_replay.proofs.Spending.{falls_short, spends_then}
use Rattle.lpc_replay.proofs.play.play_through.Goals as goal

pub returns-in-SourceFailed-clause-failed_text : goal.returns-in-SourceFailed-clause-failed_text
returns-in-SourceFailed-clause-failed_text g c =
    let left = g.S.Source.left in
    let sent = g.K.Sink.sent in
    let rest = c.play_lines.new.reader.line.line in
    let at = c.play_lines.new.playback.at in
    let r = rw c.in-SourceFailed.is at c.in_ok-play_lines.ensures.stops in
    λ _. breaks_off c.args.playback.now.form (left c.args.source.now) (left c.play_lines.new.source) (sent c.args.sink.now) (sent c.play_lines.new.sink) at rest r c.in_ok-play_lines.ensures.lacks

pub returns-in-SourceFailed-clause-failed_sound : goal.returns-in-SourceFailed-clause-failed_sound
returns-in-SourceFailed-clause-failed_sound g c =
    let left = g.S.Source.left in
    let sent = g.K.Sink.sent in
    let rest = c.play_lines.new.reader.line.line in
    let at = c.play_lines.new.playback.at in
    let r = rw c.in-SourceFailed.is at c.in_ok-play_lines.ensures.stops in
    λ _. broken_sound c.args.playback.now.form (left c.args.source.now) (left c.play_lines.new.source) (sent c.args.sink.now) (sent c.play_lines.new.sink) at rest 3 r c.in_ok-play_lines.ensures.lacks

pub returns-in-SourceFailed-clause-begun : goal.returns-in-SourceFailed-clause-begun
returns-in-SourceFailed-clause-begun g c =
    let left = g.S.Source.left in
    let sent = g.K.Sink.sent in
    let rest = c.play_lines.new.reader.line.line in
    let at = c.play_lines.new.playback.at in
    let r = rw c.in-SourceFailed.is at c.in_ok-play_lines.ensures.stops in
    begins_here c.args.playback.now.form (left c.args.source.now) (left c.play_lines.new.source) (sent c.args.sink.now) (sent c.play_lines.new.sink) at rest r.played

pub returns-in-SourceFailed-clause-in_time : goal.returns-in-SourceFailed-clause-in_time
returns-in-SourceFailed-clause-in_time g c =
    let left = g.S.Source.left in
    let sent = g.K.Sink.sent in
    let rest = c.play_lines.new.reader.line.line in
    let at = c.play_lines.new.playback.at in
    let r = rw c.in-SourceFailed.is at c.in_ok-play_lines.ensures.stops in
    reads_in_time c.args.playback.now.form (left c.args.source.now) (left c.play_lines.new.source) (sent c.args.sink.now) (sent c.play_lines.new.sink) (sent c.play_lines.new.sink) at rest r.played (grows_none (sent c.play_lines.new.sink))

pub returns-in-Fault-clause-stopped : goal.returns-in-Fault-clause-stopped
returns-in-Fault-clause-stopped g c =
    let left = g.S.Source.left in
    let sent = g.K.Sink.sent in
    let stops = rw c.in-Fault.is at c.in_ok-play_lines.ensures.stops in
    ends_stopped c.args.playback.now.form (left c.args.source.now) (left c.play_lines.new.source) (sent c.args.sink.now) (sent c.play_lines.new.sink) (sent c.finish.new.sink) c.play_lines.new.playback.at (Some c.in-Fault.fault) c.finish.result (last_fault c.args.playback.now.form (left c.args.source.now) (left c.play_lines.new.source) (sent c.args.sink.now) (sent c.play_lines.new.sink) c.play_lines.new.playback.at c.in-Fault.fault stops) c.finish.ensures.sent c.finish.ensures.ending

pub returns-in-Fault-clause-faulty : goal.returns-in-Fault-clause-faulty
returns-in-Fault-clause-faulty g c =
    let left = g.S.Source.left in
    let sent = g.K.Sink.sent in
    let stops = rw c.in-Fault.is at c.in_ok-play_lines.ensures.stops in
    ends_faulty c.args.playback.now.form (left c.args.source.now) (left c.play_lines.new.source) (sent c.args.sink.now) (sent c.play_lines.new.sink) (sent c.finish.new.sink) c.play_lines.new.playback.at (Some c.in-Fault.fault) c.finish.result (last_fault c.args.playback.now.form (left c.args.source.now) (left c.play_lines.new.source) (sent c.args.sink.now) (sent c.play_lines.new.sink) c.play_lines.new.playback.at c.in-Fault.fault stops) c.finish.ensures.sent c.finish.ensures.ending

pub returns-in-Fault-clause-begun : goal.returns-in-Fault-clause-begun
returns-in-Fault-clause-begun g c =
    let left = g.S.Source.left in
    let sent = g.K.Sink.sent in
    let stops = rw c.in-Fault.is at c.in_ok-play_lines.ensures.stops in
    begins_last c.args.playback.now.form (left c.args.source.now) (left c.play_lines.new.source) (sent c.args.sink.now) (sent c.play_lines.new.sink) (sent c.finish.new.sink) c.play_lines.new.playback.at (Some c.in-Fault.fault) (last_fault c.args.playback.now.form (left c.args.source.now) (left c.play_lines.new.source) (sent c.args.sink.now) (sent c.play_lines.new.sink) c.play_lines.new.playback.at c.in-Fault.fault stops) c.finish.ensures.front

pub returns-in-Fault-clause-in_time : goal.returns-in-Fault-clause-in_time
returns-in-Fault-clause-in_time g c =
    let left = g.S.Source.left in
    let sent = g.K.Sink.sent in
    let stops = rw c.in-Fault.is at c.in_ok-play_lines.ensures.stops in
    last_in_time c.args.playback.now.form (left c.args.source.now) (left c.play_lines.new.source) (sent c.args.sink.now) (sent c.play_lines.new.sink) (sent c.finish.new.sink) c.play_lines.new.playback.at (Some c.in-Fault.fault) (last_fault c.args.playback.now.form (left c.args.source.now) (left c.play_lines.new.source) (sent c.args.sink.now) (sent c.play_lines.new.sink) c.play_lines.new.playback.at c.in-Fault.fault stops) c.finish.ensures.front

pub returns-in-Fault-clause-cut : goal.returns-in-Fault-clause-cut
returns-in-Fault-clause-cut g c =
    let left = g.S.Source.left in
    let sent = g.K.Sink.sent in
    let stops = rw c.in-Fault.is at c.in_ok-play_lines.ensures.stops in
    λ is. last_cut c.args.playback.now.form (left c.args.source.now) (left c.play_lines.new.source) (sent c.args.sink.now) (sent c.play_lines.new.sink) (sent c.finish.new.sink) c.play_lines.new.playback.at (Some c.in-Fault.fault) (last_fault c.args.playback.now.form (left c.args.source.now) (left c.play_lines.new.source) (sent c.args.sink.now) (sent c.play_lines.new.sink) c.play_lines.new.playback.at c.in-Fault.fault stops) (c.finish.ensures.unsent is)

pub returns-in_err-fault-in-End-clause-begun : goal.returns-in_err-fault-in-End-clause-begun
returns-in_err-fault-in-End-clause-begun g c =
    let left = g.S.Source.left in
    let sent = g.K.Sink.sent in
    let rest = c.play_lines.new.reader.line.line in
    let at = c.play_lines.new.playback.at in
    let r = rw c.in-End.is at c.in_ok-play_lines.ensures.stops in
    let end = rw c.in-End.is at c.in_ok-play_lines.ensures.end refl in
    let t = text_front c.args.playback.now.form at rest in
    begins_more c.args.playback.now.form (left c.args.source.now) (left c.play_lines.new.source) (sent c.args.sink.now) (sent c.play_lines.new.sink) (sent c.play_rest.new.sink) at rest _ t.0 r.played (rw (c.line.ensures.line, c.play_lines.ensures.form) at c.play_rest.ensures.front) t.1

pub returns-in_err-fault-in-End-clause-in_time : goal.returns-in_err-fault-in-End-clause-in_time
returns-in_err-fault-in-End-clause-in_time g c =
    let left = g.S.Source.left in
    let sent = g.K.Sink.sent in
    let rest = c.play_lines.new.reader.line.line in
    let at = c.play_lines.new.playback.at in
    let r = rw c.in-End.is at c.in_ok-play_lines.ensures.stops in
    let end = rw c.in-End.is at c.in_ok-play_lines.ensures.end refl in
    reads_in_time c.args.playback.now.form (left c.args.source.now) (left c.play_lines.new.source) (sent c.args.sink.now) (sent c.play_lines.new.sink) (sent c.play_rest.new.sink) at rest r.played (grows_front (sent c.play_lines.new.sink) (sent c.play_rest.new.sink) _ c.play_rest.ensures.front)

pub returns-in_err-fault-in-End-clause-cut : goal.returns-in_err-fault-in-End-clause-cut
returns-in_err-fault-in-End-clause-cut g c =
    let left = g.S.Source.left in
    let sent = g.K.Sink.sent in
    let rest = c.play_lines.new.reader.line.line in
    let at = c.play_lines.new.playback.at in
    let r = rw c.in-End.is at c.in_ok-play_lines.ensures.stops in
    let end = rw c.in-End.is at c.in_ok-play_lines.ensures.end refl in
    λ is. rw (c.in_err-fault-in-End.ensures.unsent (ap (λ e. Err e) (sym (rw is at c.from_residual-in_err-fault-in-End.ensures).1))) (cuts_here c.args.playback.now.form (left c.args.source.now) (left c.play_lines.new.source) (sent c.args.sink.now) (sent c.play_lines.new.sink) at rest r.played)

pub returns-in_ok-fault-in-End-clause-transcript : goal.returns-in_ok-fault-in-End-clause-transcript
returns-in_ok-fault-in-End-clause-transcript g c =
    let left = g.S.Source.left in
    let sent = g.K.Sink.sent in
    let rest = c.play_lines.new.reader.line.line in
    let at = c.play_lines.new.playback.at in
    let r = rw c.in-End.is at c.in_ok-play_lines.ensures.stops in
    let end = rw c.in-End.is at c.in_ok-play_lines.ensures.end refl in
    let ends = rw (c.line.ensures.line, c.play_lines.ensures.form) at c.in_ok-fault-in-End.ensures.ends in
    ends_transcript c.args.playback.now.form (left c.args.source.now) (left c.play_lines.new.source) (sent c.args.sink.now) (sent c.play_rest.new.sink) (sent c.finish-in-End.new.sink) c.play_rest.new.playback.at c.in_ok-fault-in-End.fault c.finish-in-End.result (last_of_rest c.args.playback.now.form (left c.args.source.now) (left c.play_lines.new.source) (sent c.args.sink.now) (sent c.play_lines.new.sink) (sent c.play_rest.new.sink) at c.play_rest.new.playback.at rest c.in_ok-fault-in-End.fault r end ends) c.finish-in-End.ensures.sent c.finish-in-End.ensures.ending

pub returns-in_ok-fault-in-End-clause-whole : goal.returns-in_ok-fault-in-End-clause-whole
returns-in_ok-fault-in-End-clause-whole g c =
    let left = g.S.Source.left in
    let sent = g.K.Sink.sent in
    let rest = c.play_lines.new.reader.line.line in
    let at = c.play_lines.new.playback.at in
    let r = rw c.in-End.is at c.in_ok-play_lines.ensures.stops in
    let end = rw c.in-End.is at c.in_ok-play_lines.ensures.end refl in
    let ends = rw (c.line.ensures.line, c.play_lines.ensures.form) at c.in_ok-fault-in-End.ensures.ends in
    ends_formed c.args.playback.now.form (left c.args.source.now) (left c.play_lines.new.source) (sent c.args.sink.now) (sent c.play_rest.new.sink) (sent c.finish-in-End.new.sink) c.play_rest.new.playback.at c.in_ok-fault-in-End.fault c.finish-in-End.result (last_of_rest c.args.playback.now.form (left c.args.source.now) (left c.play_lines.new.source) (sent c.args.sink.now) (sent c.play_lines.new.sink) (sent c.play_rest.new.sink) at c.play_rest.new.playback.at rest c.in_ok-fault-in-End.fault r end ends) c.finish-in-End.ensures.sent c.finish-in-End.ensures.ending

pub returns-in_ok-fault-in-End-clause-sound : goal.returns-in_ok-fault-in-End-clause-sound
returns-in_ok-fault-in-End-clause-sound g c =
    let left = g.S.Source.left in
    let sent = g.K.Sink.sent in
    let rest = c.play_lines.new.reader.line.line in
    let at = c.play_lines.new.playback.at in
    let r = rw c.in-End.is at c.in_ok-play_lines.ensures.stops in
    let end = rw c.in-End.is at c.in_ok-play_lines.ensures.end refl in
    let ends = rw (c.line.ensures.line, c.play_lines.ensures.form) at c.in_ok-fault-in-End.ensures.ends in
    ends_sound_read c.args.playback.now.form (left c.args.source.now) (left c.play_lines.new.source) (sent c.args.sink.now) (sent c.play_rest.new.sink) (sent c.finish-in-End.new.sink) c.play_rest.new.playback.at c.in_ok-fault-in-End.fault c.finish-in-End.result (last_of_rest c.args.playback.now.form (left c.args.source.now) (left c.play_lines.new.source) (sent c.args.sink.now) (sent c.play_lines.new.sink) (sent c.play_rest.new.sink) at c.play_rest.new.playback.at rest c.in_ok-fault-in-End.fault r end ends) c.finish-in-End.ensures.sent c.finish-in-End.ensures.ending

pub returns-in_ok-fault-in-End-clause-stopped : goal.returns-in_ok-fault-in-End-clause-stopped
returns-in_ok-fault-in-End-clause-stopped g c =
    let left = g.S.Source.left in
    let sent = g.K.Sink.sent in
    let rest = c.play_lines.new.reader.line.line in
    let at = c.play_lines.new.playback.at in
    let r = rw c.in-End.is at c.in_ok-play_lines.ensures.stops in
    let end = rw c.in-End.is at c.in_ok-play_lines.ensures.end refl in
    let ends = rw (c.line.ensures.line, c.play_lines.ensures.form) at c.in_ok-fault-in-End.ensures.ends in
    ends_stopped c.args.playback.now.form (left c.args.source.now) (left c.play_lines.new.source) (sent c.args.sink.now) (sent c.play_rest.new.sink) (sent c.finish-in-End.new.sink) c.play_rest.new.playback.at c.in_ok-fault-in-End.fault c.finish-in-End.result (last_of_rest c.args.playback.now.form (left c.args.source.now) (left c.play_lines.new.source) (sent c.args.sink.now) (sent c.play_lines.new.sink) (sent c.play_rest.new.sink) at c.play_rest.new.playback.at rest c.in_ok-fault-in-End.fault r end ends) c.finish-in-End.ensures.sent c.finish-in-End.ensures.ending

pub returns-in_ok-fault-in-End-clause-faulty : goal.returns-in_ok-fault-in-End-clause-faulty
returns-in_ok-fault-in-End-clause-faulty g c =
    let left = g.S.Source.left in
    let sent = g.K.Sink.sent in
    let rest = c.play_lines.new.reader.line.line in
    let at = c.play_lines.new.playback.at in
    let r = rw c.in-End.is at c.in_ok-play_lines.ensures.stops in
    let end = rw c.in-End.is at c.in_ok-play_lines.ensures.end refl in
    let ends = rw (c.line.ensures.line, c.play_lines.ensures.form) at c.in_ok-fault-in-End.ensures.ends in
    ends_faulty c.args.playback.now.form (left c.args.source.now) (left c.play_lines.new.source) (sent c.args.sink.now) (sent c.play_rest.new.sink) (sent c.finish-in-End.new.sink) c.play_rest.new.playback.at c.in_ok-fault-in-End.fault c.finish-in-End.result (last_of_rest c.args.playback.now.form (left c.args.source.now) (left c.play_lines.new.source) (sent c.args.sink.now) (sent c.play_lines.new.sink) (sent c.play_rest.new.sink) at c.play_rest.new.playback.at rest c.in_ok-fault-in-End.fault r end ends) c.finish-in-End.ensures.sent c.finish-in-End.ensures.ending

pub returns-in_ok-fault-in-End-clause-begun : goal.returns-in_ok-fault-in-End-clause-begun
returns-in_ok-fault-in-End-clause-begun g c =
    let left = g.S.Source.left in
    let sent = g.K.Sink.sent in
    let rest = c.play_lines.new.reader.line.line in
    let at = c.play_lines.new.playback.at in
    let r = rw c.in-End.is at c.in_ok-play_lines.ensures.stops in
    let end = rw c.in-End.is at c.in_ok-play_lines.ensures.end refl in
    let ends = rw (c.line.ensures.line, c.play_lines.ensures.form) at c.in_ok-fault-in-End.ensures.ends in
    begins_last c.args.playback.now.form (left c.args.source.now) (left c.play_lines.new.source) (sent c.args.sink.now) (sent c.play_rest.new.sink) (sent c.finish-in-End.new.sink) c.play_rest.new.playback.at c.in_ok-fault-in-End.fault (last_of_rest c.args.playback.now.form (left c.args.source.now) (left c.play_lines.new.source) (sent c.args.sink.now) (sent c.play_lines.new.sink) (sent c.play_rest.new.sink) at c.play_rest.new.playback.at rest c.in_ok-fault-in-End.fault r end ends) c.finish-in-End.ensures.front

pub returns-in_ok-fault-in-End-clause-in_time : goal.returns-in_ok-fault-in-End-clause-in_time
returns-in_ok-fault-in-End-clause-in_time g c =
    let left = g.S.Source.left in
    let sent = g.K.Sink.sent in
    let rest = c.play_lines.new.reader.line.line in
    let at = c.play_lines.new.playback.at in
    let r = rw c.in-End.is at c.in_ok-play_lines.ensures.stops in
    let end = rw c.in-End.is at c.in_ok-play_lines.ensures.end refl in
    let ends = rw (c.line.ensures.line, c.play_lines.ensures.form) at c.in_ok-fault-in-End.ensures.ends in
    last_in_time c.args.playback.now.form (left c.args.source.now) (left c.play_lines.new.source) (sent c.args.sink.now) (sent c.play_rest.new.sink) (sent c.finish-in-End.new.sink) c.play_rest.new.playback.at c.in_ok-fault-in-End.fault (last_of_rest c.args.playback.now.form (left c.args.source.now) (left c.play_lines.new.source) (sent c.args.sink.now) (sent c.play_lines.new.sink) (sent c.play_rest.new.sink) at c.play_rest.new.playback.at rest c.in_ok-fault-in-End.fault r end ends) c.finish-in-End.ensures.front

pub returns-in_ok-fault-in-End-clause-cut : goal.returns-in_ok-fault-in-End-clause-cut
returns-in_ok-fault-in-End-clause-cut g c =
    let left = g.S.Source.left in
    let sent = g.K.Sink.sent in
    let rest = c.play_lines.new.reader.line.line in
    let at = c.play_lines.new.playback.at in
    let r = rw c.in-End.is at c.in_ok-play_lines.ensures.stops in
    let end = rw c.in-End.is at c.in_ok-play_lines.ensures.end refl in
    let ends = rw (c.line.ensures.line, c.play_lines.ensures.form) at c.in_ok-fault-in-End.ensures.ends in
    λ is. last_cut c.args.playback.now.form (left c.args.source.now) (left c.play_lines.new.source) (sent c.args.sink.now) (sent c.play_rest.new.sink) (sent c.finish-in-End.new.sink) c.play_rest.new.playback.at c.in_ok-fault-in-End.fault (last_of_rest c.args.playback.now.form (left c.args.source.now) (left c.play_lines.new.source) (sent c.args.sink.now) (sent c.play_lines.new.sink) (sent c.play_rest.new.sink) at c.play_rest.new.playback.at rest c.in_ok-fault-in-End.fault r end ends) (c.finish-in-End.ensures.unsent is)

pub returns-in-Fault-clause-unsure : goal.returns-in-Fault-clause-unsure
returns-in-Fault-clause-unsure g c =
    let left = g.S.Source.left in
    let sure = g.K.Sink.sure in
    let spends = rw c.in-Fault.is at c.in_ok-play_lines.ensures.spends in
    λ is. falls_short c.args.playback.now.form (left c.args.source.now) (last_text c.play_lines.new.playback.at (Some c.in-Fault.fault)) (sure c.args.sink.now) (sure c.play_lines.new.sink) spends (c.finish.ensures.unsure is)

pub returns-in_err-fault-in-End-clause-unsure : goal.returns-in_err-fault-in-End-clause-unsure
returns-in_err-fault-in-End-clause-unsure g c =
    let left = g.S.Source.left in
    let sure = g.K.Sink.sure in
    let rest = c.play_lines.new.reader.line.line in
    let at = c.play_lines.new.playback.at in
    let spends = rw c.in-End.is at c.in_ok-play_lines.ensures.spends in
    λ is. falls_short c.args.playback.now.form (left c.args.source.now) (text_from c.args.playback.now.form at (script_lines rest)) (sure c.args.sink.now) (sure c.play_lines.new.sink) spends (rw (c.line.ensures.line, c.play_lines.ensures.form) at c.in_err-fault-in-End.ensures.unsure (ap (λ e. Err e) (sym (rw is at c.from_residual-in_err-fault-in-End.ensures).1)))

pub returns-in_ok-fault-in-End-clause-unsure : goal.returns-in_ok-fault-in-End-clause-unsure
returns-in_ok-fault-in-End-clause-unsure g c =
    let left = g.S.Source.left in
    let sure = g.K.Sink.sure in
    let rest = c.play_lines.new.reader.line.line in
    let at = c.play_lines.new.playback.at in
    let spends = rw c.in-End.is at c.in_ok-play_lines.ensures.spends in
    let last = last_text c.play_rest.new.playback.at c.in_ok-fault-in-End.fault in
    let then = spends_then c.args.playback.now.form (left c.args.source.now) (text_from c.args.playback.now.form at (script_lines rest)) last (sure c.args.sink.now) (sure c.play_lines.new.sink) (sure c.play_rest.new.sink) spends (rw (c.line.ensures.line, c.play_lines.ensures.form) at c.in_ok-fault-in-End.ensures.spends) in
    λ is. falls_short c.args.playback.now.form (left c.args.source.now) last (sure c.args.sink.now) (sure c.play_rest.new.sink) then (c.finish-in-End.ensures.unsure is)
