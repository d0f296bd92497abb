use Rattle.std.proofs.Common.{◌≡◌, drop, length}
use Rattle.lpc_names.specs.Binding as binding
use Rattle.lpc_names.proofs.names.Names.has_name.Given as goal

abbrev pub invariant-loop-place : goal.invariant-loop-place
invariant-loop-place g l = record {
  same : l.self ≡ l.fn.self;
  count : l.place-end ≡ length l.fn.self.bindings;
  none : binding.has_name g.T.PartialEq.eq l.item (drop l.place l.fn.self.bindings) ≡ binding.has_name g.T.PartialEq.eq l.item l.fn.self.bindings;
}
