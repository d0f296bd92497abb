use Rattle.std.proofs.Common.{refl}
use Rattle.lpc_states.specs.Values.{spelled_byte}
use Rattle.lpc_states.proofs.Puts.{lacks_one}
use Rattle.lpc_states.proofs.values.put_name.Goals as goal

pub returns-in_err-put_name_byte-clause-wanting : goal.returns-in_err-put_name_byte-clause-wanting
returns-in_err-put_name_byte-clause-wanting c =
    lacks_one spelled_byte c.args.bytes.now c.loop-byte.byte-index _ 0 _ _ _ _ _ c.loop-byte-test.true refl c.loop-byte.invariant.text c.loop-byte.invariant.room c.in_err-put_name_byte.ensures.wanting
