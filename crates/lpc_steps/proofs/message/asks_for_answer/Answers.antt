use Rattle.std.proofs.Common.{ap, sym}
use Rattle.lpc_message.specs.declared.message.Header.{Header}
use Rattle.lpc_model.specs.Message.{message_of}
use Rattle.lpc_steps.proofs.message.asks_for_answer.Goals as goal

pub returns : goal.returns
returns c = c.is_asking.ensures (message_of c.args.bytes.now) (sym (ap (λ (h : Header). h.kind) c.read_header.ensures))
