use Rattle.std.proofs.Common.{◌+◌, ◌%◌, ◌^◌, ap, arith}
use Rattle.lpc_replay.proofs.Storming.{sum_goes}
use Rattle.lpc_replay.proofs.storm.summed.Goals as goal

pub loop-byte-preserved : goal.loop-byte-preserved
loop-byte-preserved c =
    let l = c.loop-byte in
    sum_goes c.args.total l.total _ c.args.bytes.now l.byte-index (omega arith) l.invariant (ap (λ n. (l.total + n) % 2 ^ 32) c.from-total.ensures)
