use Rattle.std.proofs.Common.{◌≡◌, ◌+◌, ◌*◌, ◌++◌, take}
use Rattle.hex.specs.Hex.{encode_lower}
use Rattle.lpc_transcript.proofs.spell.write_read.Given as goal

abbrev pub invariant-loop-byte : goal.invariant-loop-byte
invariant-loop-byte l = record {
  end : l.end ≡ l.at + 2 * l.byte-index;
  text : take l.end l.to ≡ take l.at l.fn.to ++ encode_lower (take l.byte-index l.bytes);
}
