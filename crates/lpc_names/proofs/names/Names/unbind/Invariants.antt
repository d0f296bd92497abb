use Rattle.std.proofs.Common.{◌≡◌, ◌++◌, take, drop, length}
use Rattle.lpc_names.specs.Binding as binding
use Rattle.lpc_names.proofs.names.Names.unbind.Given as goal

abbrev pub invariant-loop-index : goal.invariant-loop-index
invariant-loop-index g l = record {
  same : l.self ≡ l.fn.self;
  count : l.index-end ≡ length l.fn.self.bindings;
  none : binding.has_name g.T.PartialEq.eq l.item (drop l.index l.fn.self.bindings) ≡ binding.has_name g.T.PartialEq.eq l.item l.fn.self.bindings;
  rest : take l.index l.fn.self.bindings ++ binding.without_name g.T.PartialEq.eq l.item (drop l.index l.fn.self.bindings) ≡ binding.without_name g.T.PartialEq.eq l.item l.fn.self.bindings;
}
