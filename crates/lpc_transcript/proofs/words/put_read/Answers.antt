use Rattle.std.proofs.Common.{arith}
use Rattle.hex.specs.Hex.{lower_digits}
use Rattle.hex.proofs.HexLemmas.{length-encode_with}
use Rattle.lpc_transcript.proofs.words.put_read.Goals as goal

pub returns-then-is_err-clause-wanting : goal.returns-then-is_err-clause-wanting
returns-then-is_err-clause-wanting c = grind (arith, length-encode_with lower_digits c.args.bytes.now)
