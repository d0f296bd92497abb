use Rattle.std.proofs.Common.{ap, ◌∙◌, length, arith}
use Rattle.std.specs.List.{prefix_len, remove}
use Rattle.lpc_slots.specs.Layout.{is_before}
use Rattle.lpc_slots.proofs.Rising.{gone}
use Rattle.lpc_slots.proofs.forget_among.Goals as goal

pub remove-requires : goal.remove-requires
remove-requires c =
    let within = (gone c.args.key c.args.order.now.items c.requires.rise c.requires.stands).0 in
    omega (arith, within, c.key_place-place.ensures ∙ ap (λ keys. prefix_len (is_before c.args.key) keys) c.as_slice.ensures.value, c.args.order.now.ok.0)

pub returns-clause-keys : goal.returns-clause-keys
returns-clause-keys c =
    let place = c.key_place-place.ensures ∙ ap (λ keys. prefix_len (is_before c.args.key) keys) c.as_slice.ensures.value in
    c.remove.ensures.items ∙ ap (remove c.args.order.now.items) place ∙ (gone c.args.key c.args.order.now.items c.requires.rise c.requires.stands).1

pub returns-clause-len : goal.returns-clause-len
returns-clause-len c =
    let place = c.key_place-place.ensures ∙ ap (λ keys. prefix_len (is_before c.args.key) keys) c.as_slice.ensures.value in
    c.remove.new.self.ok.0 ∙ ap length (c.remove.ensures.items ∙ ap (remove c.args.order.now.items) place ∙ (gone c.args.key c.args.order.now.items c.requires.rise c.requires.stands).1)
