use Rattle.std.proofs.Common.{◌≡◌, ◌+◌, ◌%◌, ◌^◌, take}
use Rattle.std.specs.Prelude.{sum}
use Rattle.lpc_replay.proofs.storm.summed.Given as goal

abbrev pub invariant-loop-byte : goal.invariant-loop-byte
invariant-loop-byte l = l.total ≡ (l.fn.total + sum (take l.byte-index l.bytes)) % 2 ^ 32
