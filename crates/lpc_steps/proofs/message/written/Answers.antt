use Rattle.std.proofs.Common.{◌≡◌, ◌++◌, rules}
use Rattle.lpc_message.specs.Layout.{header_bytes}
use Rattle.lpc_steps.proofs.message.written.Goals as goal

pub returns-clause-message : goal.returns-clause-message
returns-clause-message c =
    let all : c.try_extend_from_slice-2.new.self.items ≡ header_bytes c.args.header ++ c.args.body.now = search rules in
    let read = c.law_written_header_is_read_back.ensures c.args.header c.args.body.now c.front_of.ensures.fits in
    rw all (λ i. record { header = read i; body = c.args.body.now })
