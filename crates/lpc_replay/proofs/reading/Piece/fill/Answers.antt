use Rattle.std.proofs.Common.{◌≡◌, ◌++◌, take}
use Rattle.lpc_base.specs.Streams.{Gives}
use Rattle.lpc_replay.proofs.Taking.{piece_all, piece_none}
use Rattle.lpc_replay.proofs.Tells.{told_weaker}
use Rattle.lpc_replay.proofs.reading.Piece.fill.Goals as goal

pub returns-clause-read : goal.returns-clause-read
returns-clause-read g c =
    let left = g.S.Source.left in
    let n = c.in_ok-self-inside.field-0 in
    let bytes = c.read.new.into in
    record {
      read = take n bytes;
      told = told_weaker (left c.args.source.now) (left c.read.new.self) (Gives n bytes) (λ old new. old ≡ take n bytes ++ new) (λ old new gives. gives.next) c.in_ok-self-inside.ensures.bytes;
      parts = rw (← c.self.view_is, piece_none c.self.inside.bytes c.self.inside.start c.self.inside.end c.if-self.false) (piece_all bytes n);
    }
