use Rattle.std.proofs.Common.{◌≡◌, ◌-◌, true}
use Rattle.lpc_base.specs.declared.limits.TheConstants.{LINES_LIMIT}
use Rattle.lpc_replay.specs.Playing.{HasPlayed, SpendsAt}
use Rattle.lpc_replay.specs.Reading.{IsAskedForPieces}
use Rattle.lpc_replay.specs.Sending.{IsLeftAlone, RunsOn}
use Rattle.lpc_replay.proofs.play.play_lines.Given as goal

-- each line that was read whole was run, and what it tells was sent
abbrev pub invariant-loop-playback : goal.invariant-loop-playback
invariant-loop-playback g l = record {
  form : l.playback.form ≡ l.fn.playback.form;
  played : HasPlayed l.fn.playback.form (g.S.Source.left l.fn.source) (g.S.Source.left l.source) (g.K.Sink.sent l.fn.sink) (g.K.Sink.sent l.sink) l.playback.at l.reader.piece;
  faults : g.K.Sink.faults l.sink ≡ g.K.Sink.faults l.fn.sink;
  read_faults : g.S.Source.faults l.source ≡ g.S.Source.faults l.fn.source;
  asked : IsAskedForPieces (g.S.Source.asked l.fn.source) (g.S.Source.asked l.source);
  spent : SpendsAt l.fn.playback.form (g.S.Source.left l.fn.source) (g.S.Source.left l.source) (g.K.Sink.sure l.fn.sink) (g.K.Sink.sure l.sink) l.playback.at l.reader.piece;
  alone : IsLeftAlone (g.K.Sink.asked l.fn.sink) (g.K.Sink.asked l.sink);
  sink_runs : RunsOn (g.K.Sink.asked l.fn.sink) (g.K.Sink.asked l.sink);
  runs : (g.S.Source.asked l.fn.source).running ≡ true → (g.S.Source.asked l.source).running ≡ true;
}

abbrev pub decreases-loop-playback : goal.decreases-loop-playback
decreases-loop-playback g l = LINES_LIMIT - l.playback.at.lines
