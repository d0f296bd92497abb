use Rattle.std.proofs.Common.{arith}
use Rattle.lpc_transcript.proofs.Pairs.{pairs_at}
use Rattle.lpc_transcript.proofs.Placed.{two_more}
use Rattle.lpc_transcript.proofs.spell.write_pair.Goals as goal

pub returns : goal.returns
returns c =
    let pair = pairs_at c.args.byte c.ranges.byte.fits in
    rw (pair.0, pair.1) (two_more c.args.to.now c.args.at _ _ (omega arith))
