use Rattle.std.proofs.Common.{sym, ◌∙◌}
use Rattle.lpc_homes.proofs.Counted.{place-part}
use Rattle.lpc_homes.proofs.OnePart.{no_place}
use Rattle.lpc_homes.proofs.parts.Parts.place_of.Goals as goal

pub returns : goal.returns
returns c = rw (← c.self.view_is) (sym (place-part c.args.pid c.self.inside.parts.items c.self.inside.places.entries c.self.invariant.of_handles.placed) ∙ sym c.place.ensures ∙ c.in-Some.is)

pub unreachable-requires : goal.unreachable-requires
unreachable-requires c =
    no_place c.self.inside.parts.items c.args.pid (rw (← c.self.view_is) at c.requires) (sym (place-part c.args.pid c.self.inside.parts.items c.self.inside.places.entries c.self.invariant.of_handles.placed) ∙ sym c.place.ensures ∙ c.in-None.is)
