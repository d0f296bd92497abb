use Rattle.std.proofs.Common.{sym, append-nil, append_assoc, get_or, take, arith}
use Rattle.hex.specs.Hex.{encode_lower, encode_with}
use Rattle.lpc_transcript.specs.Printing.{pair_of}
use Rattle.lpc_transcript.proofs.Pairs.{encode_more}
use Rattle.lpc_transcript.proofs.spell.write_read.Goals as goal

pub loop-byte-init : goal.loop-byte-init
unfolding encode_with
loop-byte-init c = record { end = omega arith; text = sym (append-nil (take c.args.at c.args.to.now)) }

pub loop-byte-preserved : goal.loop-byte-preserved
loop-byte-preserved c =
    let more = encode_more c.args.bytes.now c.loop-byte.byte-index c.loop-byte-test.true in
    record {
      end = omega arith;
      text = rw (c.write_pair.ensures, c.loop-byte.invariant.text, more) (append_assoc (take c.args.at c.args.to.now) (encode_lower (take c.loop-byte.byte-index c.args.bytes.now)) (pair_of (get_or c.args.bytes.now c.loop-byte.byte-index 0)));
    }
