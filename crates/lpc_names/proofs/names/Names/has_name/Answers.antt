use Rattle.std.proofs.Common.{◌≡◌, ◌∙◌, ◌<◌, sym, add-one, length, true, false, arith, slice_get}
use Rattle.std.specs.Option.{option_map_or}
use Rattle.lpc_names.specs.Binding as binding
use Rattle.lpc_names.proofs.Named.{name-at, other-at}
use Rattle.lpc_names.proofs.names.Names.has_name.Goals as goal

pub returns-then-is_name : goal.returns-then-is_name
returns-then-is_name g c =
    let found : option_map_or (binding.is_name g.T.PartialEq.eq c.args.item) (slice_get c.args.self.now.bindings c.loop-place.place) false ≡ true = cc in
    sym (name-at g.T.PartialEq.eq c.args.item c.args.self.now.bindings c.loop-place.place found).named ∙ c.loop-place.invariant.none

pub loop-place-preserved : goal.loop-place-preserved
loop-place-preserved g c =
    let other : option_map_or (binding.is_name g.T.PartialEq.eq c.args.item) (slice_get c.args.self.now.bindings c.loop-place.place) false ≡ false = cc in
    let within : c.loop-place.place < length c.args.self.now.bindings = omega arith in
    record {
      same = c.loop-place.invariant.same;
      count = c.loop-place.invariant.count;
      none = rw add-one ((other-at g.T.PartialEq.eq c.args.item c.args.self.now.bindings c.loop-place.place within other).named ∙ c.loop-place.invariant.none);
    }
