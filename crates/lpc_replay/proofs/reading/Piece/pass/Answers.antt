use Rattle.lpc_replay.proofs.Taking.{passed}
use Rattle.lpc_replay.proofs.reading.Piece.pass.Goals as goal

pub returns : goal.returns
returns c = rw (← c.self.view_is) (passed c.self.inside.bytes c.self.inside.start c.self.inside.end c.args.count (rw (← c.self.view_is) at c.requires))
