use Rattle.std.proofs.Common.{◌≡◌, refl}
use Rattle.lpc_model.specs.Message.{bytes_of, message_of}
use Rattle.lpc_steps.proofs.message.bytes_receipt.Goals as goal

pub returns : goal.returns
returns c =
    let again : bytes_of (message_of c.args.bytes.items) ≡ c.args.bytes.items = rw (c.as_slice.ensures.value) at c.bytes_again.ensures in
    rw (c.add-2.ensures, c.add.ensures, c.none-fields.ensures, again) refl
