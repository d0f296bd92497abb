use Rattle.std.proofs.Common.{◌≡◌, ◌-◌, ap, ◌∙◌, arith, length}
use Rattle.std.specs.Prelude.{◌==◌, if◌then◌else◌}
use Rattle.lpc_names.specs.Binding.{without_names}
use Rattle.lpc_slots.specs.Table.{is_key}
use Rattle.lpc_world.specs.PortNames.{number_of}
use Rattle.lpc_world.proofs.Told.{cancel, fewer, left}
use Rattle.lpc_world.proofs.port_names.PortNames.look_through.Goals as goal

pub overflow_sub-gone : goal.overflow_sub-gone
overflow_sub-gone c =
    let less = fewer c.args.port c.self.inside.names.bindings in
    let after = c.count.ensures ∙ ap length c.unbind_all.ensures.bindings in
    let before = c.count-before.ensures in
    omega (arith, less, after, before)

pub invariant_of-self : goal.invariant_of-self
invariant_of-self c = λ whole n.
    let rows = c.self.inside.names.bindings in
    let port = c.args.port in
    let after = c.count.ensures ∙ ap length c.unbind_all.ensures.bindings in
    let before = c.count-before.ensures in
    let loses = c.take_many.ensures.loses whole in
    let same : (if n == c.number_of.result then c.count-before.result - c.count.result else 0) ≡ (if n == number_of port then length rows - length (without_names is_key port rows) else 0) = λ i. if n == c.number_of.ensures i then before i - after i else 0 in
    rw c.unbind_all.ensures.bindings
    (cancel _ _ _ _ _ (loses.counts n ∙ c.self.invariant loses.whole n) (left port n rows) same)
