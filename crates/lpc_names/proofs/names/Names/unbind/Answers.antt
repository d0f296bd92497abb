use Rattle.std.proofs.Common.{◌≡◌, ◌∙◌, ◌<◌, sym, ap, add-one, length, remove, true, false, arith, slice_get}
use Rattle.std.specs.Option.{option_map_or}
use Rattle.lpc_names.specs.Binding as binding
use Rattle.lpc_names.proofs.Shown.{shown-remove}
use Rattle.lpc_names.proofs.Named.{name-at, other-at}
use Rattle.lpc_names.proofs.names.Names.unbind.Goals as goal

pub returns-then-is_name-clause-answer : goal.returns-then-is_name-clause-answer
returns-then-is_name-clause-answer g c =
    let found : option_map_or (binding.is_name g.T.PartialEq.eq c.args.item) (slice_get c.args.self.now.bindings c.loop-index.index) false ≡ true = cc in
    sym (name-at g.T.PartialEq.eq c.args.item c.args.self.now.bindings c.loop-index.index found).named ∙ c.loop-index.invariant.none

pub returns-then-is_name-clause-bindings : goal.returns-then-is_name-clause-bindings
returns-then-is_name-clause-bindings g c =
    let found : option_map_or (binding.is_name g.T.PartialEq.eq c.args.item) (slice_get c.args.self.now.bindings c.loop-index.index) false ≡ true = cc in
    let seen = ap (λ n. n.bindings) (c.self-in-loop-index.view_is ∙ c.loop-index.invariant.same) in
    rw c.shift_remove_index.ensures.entries (shown-remove _ _ ∙ ap (λ bs. remove bs c.loop-index.index) seen ∙ sym (name-at g.T.PartialEq.eq c.args.item c.args.self.now.bindings c.loop-index.index found).removed ∙ c.loop-index.invariant.rest)

pub loop-index-preserved : goal.loop-index-preserved
loop-index-preserved g c =
    let other : option_map_or (binding.is_name g.T.PartialEq.eq c.args.item) (slice_get c.args.self.now.bindings c.loop-index.index) false ≡ false = cc in
    let within : c.loop-index.index < length c.args.self.now.bindings = omega arith in
    let r = other-at g.T.PartialEq.eq c.args.item c.args.self.now.bindings c.loop-index.index within other in
    record {
      same = c.loop-index.invariant.same;
      count = c.loop-index.invariant.count;
      none = rw add-one (r.named ∙ c.loop-index.invariant.none);
      rest = rw add-one (r.kept ∙ c.loop-index.invariant.rest);
    }
