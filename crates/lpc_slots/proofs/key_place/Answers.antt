use Rattle.std.proofs.Common.{rules, of_calls}
use Rattle.std.proofs.lemmas.Fn.{always_returns_same}
use Rattle.lpc_slots.specs.Layout.{is_before}
use Rattle.lpc_slots.proofs.Rising.{partitioned, place-is}
use Rattle.lpc_slots.proofs.key_place.Goals as goal

pub returns : goal.returns
returns c =
    let keys = c.args.order.now in
    let point = c.partition_point.ensures.partitioned (is_before c.args.key) (always_returns_same _ _ _ (λ a r f k. search (rules, of_calls))) (partitioned c.args.key keys c.requires) in
    place-is c.args.key keys c.partition_point.result c.partition_point.ensures.bound point
