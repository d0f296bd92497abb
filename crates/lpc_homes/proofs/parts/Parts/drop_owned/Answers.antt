use Rattle.std.proofs.Common.{◌∙◌}
use Rattle.lpc_homes.specs.Parts.{dropped}
use Rattle.lpc_homes.proofs.Places.{change_here, place_below}
use Rattle.lpc_homes.proofs.parts.Parts.drop_owned.Goals as goal

pub drop_owned_at-requires : goal.drop_owned_at-requires
drop_owned_at-requires c = place_below c.args.self.now.items c.args.pid c.place_of-place.result c.place_of-place.ensures

pub returns-clause-parts : goal.returns-clause-parts
returns-clause-parts c = c.drop_owned_at.ensures.parts ∙ change_here (dropped c.args.owner) c.args.self.now.items c.args.pid c.place_of-place.result c.requires.one c.place_of-place.ensures
