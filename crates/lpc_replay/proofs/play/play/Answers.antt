use Rattle.std.proofs.Common.{[]}
use Rattle.lpc_replay.specs.Playing.{begin}
use Rattle.lpc_replay.proofs.Played.{begins_here, cuts_here, grows_none, played_none, reads_in_time}
use Rattle.lpc_replay.proofs.play.play.Goals as goal

pub returns-in_err-scratch-clause-begun : goal.returns-in_err-scratch-clause-begun
returns-in_err-scratch-clause-begun g c =
    let left = g.S.Source.left in
    let sent = g.K.Sink.sent in
    begins_here c.args.form (left c.args.source.now) (left c.args.source.now) (sent c.args.sink.now) (sent c.args.sink.now) begin [] (played_none c.args.form (left c.args.source.now) (sent c.args.sink.now))

pub returns-in_err-scratch-clause-in_time : goal.returns-in_err-scratch-clause-in_time
returns-in_err-scratch-clause-in_time g c =
    let left = g.S.Source.left in
    let sent = g.K.Sink.sent in
    reads_in_time c.args.form (left c.args.source.now) (left c.args.source.now) (sent c.args.sink.now) (sent c.args.sink.now) (sent c.args.sink.now) begin [] (played_none c.args.form (left c.args.source.now) (sent c.args.sink.now)) (grows_none (sent c.args.sink.now))

pub returns-in_err-scratch-clause-cut : goal.returns-in_err-scratch-clause-cut
returns-in_err-scratch-clause-cut g c =
    let left = g.S.Source.left in
    let sent = g.K.Sink.sent in
    λ _. cuts_here c.args.form (left c.args.source.now) (left c.args.source.now) (sent c.args.sink.now) (sent c.args.sink.now) begin [] (played_none c.args.form (left c.args.source.now) (sent c.args.sink.now))

pub returns-in_err-playback-clause-begun : goal.returns-in_err-playback-clause-begun
returns-in_err-playback-clause-begun g c =
    let left = g.S.Source.left in
    let sent = g.K.Sink.sent in
    begins_here c.args.form (left c.args.source.now) (left c.args.source.now) (sent c.args.sink.now) (sent c.args.sink.now) begin [] (played_none c.args.form (left c.args.source.now) (sent c.args.sink.now))

pub returns-in_err-playback-clause-in_time : goal.returns-in_err-playback-clause-in_time
returns-in_err-playback-clause-in_time g c =
    let left = g.S.Source.left in
    let sent = g.K.Sink.sent in
    reads_in_time c.args.form (left c.args.source.now) (left c.args.source.now) (sent c.args.sink.now) (sent c.args.sink.now) (sent c.args.sink.now) begin [] (played_none c.args.form (left c.args.source.now) (sent c.args.sink.now)) (grows_none (sent c.args.sink.now))

pub returns-in_err-playback-clause-cut : goal.returns-in_err-playback-clause-cut
returns-in_err-playback-clause-cut g c =
    let left = g.S.Source.left in
    let sent = g.K.Sink.sent in
    λ _. cuts_here c.args.form (left c.args.source.now) (left c.args.source.now) (sent c.args.sink.now) (sent c.args.sink.now) begin [] (played_none c.args.form (left c.args.source.now) (sent c.args.sink.now))

pub returns-in_err-reader-clause-begun : goal.returns-in_err-reader-clause-begun
returns-in_err-reader-clause-begun g c =
    let left = g.S.Source.left in
    let sent = g.K.Sink.sent in
    begins_here c.args.form (left c.args.source.now) (left c.args.source.now) (sent c.args.sink.now) (sent c.args.sink.now) begin [] (played_none c.args.form (left c.args.source.now) (sent c.args.sink.now))

pub returns-in_err-reader-clause-in_time : goal.returns-in_err-reader-clause-in_time
returns-in_err-reader-clause-in_time g c =
    let left = g.S.Source.left in
    let sent = g.K.Sink.sent in
    reads_in_time c.args.form (left c.args.source.now) (left c.args.source.now) (sent c.args.sink.now) (sent c.args.sink.now) (sent c.args.sink.now) begin [] (played_none c.args.form (left c.args.source.now) (sent c.args.sink.now)) (grows_none (sent c.args.sink.now))

pub returns-in_err-reader-clause-cut : goal.returns-in_err-reader-clause-cut
returns-in_err-reader-clause-cut g c =
    let left = g.S.Source.left in
    let sent = g.K.Sink.sent in
    λ _. cuts_here c.args.form (left c.args.source.now) (left c.args.source.now) (sent c.args.sink.now) (sent c.args.sink.now) begin [] (played_none c.args.form (left c.args.source.now) (sent c.args.sink.now))

pub returns-clause-transcript : goal.returns-clause-transcript
returns-clause-transcript g c = rw c.in_ok-playback.ensures at c.play_through.ensures.transcript

pub returns-clause-whole : goal.returns-clause-whole
returns-clause-whole g c = c.play_through.ensures.whole

pub returns-clause-sound : goal.returns-clause-sound
returns-clause-sound g c = c.play_through.ensures.sound

pub returns-clause-stopped : goal.returns-clause-stopped
returns-clause-stopped g c = rw c.in_ok-playback.ensures at c.play_through.ensures.stopped

pub returns-clause-faulty : goal.returns-clause-faulty
returns-clause-faulty g c = c.play_through.ensures.faulty

pub returns-clause-failed_text : goal.returns-clause-failed_text
returns-clause-failed_text g c = rw c.in_ok-playback.ensures at c.play_through.ensures.failed_text

pub returns-clause-failed_sound : goal.returns-clause-failed_sound
returns-clause-failed_sound g c = c.play_through.ensures.failed_sound

pub returns-clause-begun : goal.returns-clause-begun
returns-clause-begun g c = rw c.in_ok-playback.ensures at c.play_through.ensures.begun

pub returns-clause-in_time : goal.returns-clause-in_time
returns-clause-in_time g c = rw c.in_ok-playback.ensures at c.play_through.ensures.in_time

pub returns-clause-cut : goal.returns-clause-cut
returns-clause-cut g c = rw c.in_ok-playback.ensures at c.play_through.ensures.cut

pub returns-clause-failed : goal.returns-clause-failed
returns-clause-failed g c = c.play_through.ensures.failed

pub returns-clause-still : goal.returns-clause-still
returns-clause-still g c = c.play_through.ensures.still

pub returns-clause-out_of_memory : goal.returns-clause-out_of_memory
returns-clause-out_of_memory g c = c.play_through.ensures.out_of_memory

pub returns-clause-later : goal.returns-clause-later
returns-clause-later g c = c.play_through.ensures.later

pub returns-clause-asked : goal.returns-clause-asked
returns-clause-asked g c = c.play_through.ensures.asked

pub returns-clause-source_failed : goal.returns-clause-source_failed
returns-clause-source_failed g c = c.play_through.ensures.source_failed

pub returns-clause-source_still : goal.returns-clause-source_still
returns-clause-source_still g c = c.play_through.ensures.source_still

pub returns-clause-source_later : goal.returns-clause-source_later
returns-clause-source_later g c = c.play_through.ensures.source_later

pub returns-clause-unsure : goal.returns-clause-unsure
returns-clause-unsure g c = rw c.in_ok-playback.ensures at c.play_through.ensures.unsure
