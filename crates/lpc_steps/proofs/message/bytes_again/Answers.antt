use Rattle.std.proofs.Common.{◌<◌, arith}
use Rattle.std.specs.Prelude.{All}
use Rattle.std.proofs.lemmas.List.Elements.{All-from_get_or}
use Rattle.lpc_model.specs.Message.{bytes_of}
use Rattle.lpc_steps.proofs.message.bytes_again.Goals as goal

pub returns : goal.returns
unfolding bytes_of
returns c =
    let small : All (λ byte. byte < 256) c.args.bytes.now = All-from_get_or (λ byte. byte < 256) c.args.bytes.now 0 (λ i inside. omega (arith, c.type_inv.bytes i)) in
    c.law_read_header_is_written_back.ensures c.args.bytes.now small c.requires
