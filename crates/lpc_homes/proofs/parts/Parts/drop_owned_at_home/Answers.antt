use Rattle.std.proofs.Common.{map, ap, ◌∙◌}
use Rattle.lpc_homes.specs.Parts.{dropped}
use Rattle.lpc_homes.proofs.Places.{change-again}
use Rattle.lpc_homes.proofs.Viewed.{dropped_twice}
use Rattle.lpc_homes.proofs.parts.Parts.drop_owned_at_home.Goals as goal

pub returns-then-home-items-clause-left : goal.returns-then-home-items-clause-left
returns-then-home-items-clause-left c =
    ap (map (dropped c.args.owner)) c.drop_owned_at.ensures.parts
    ∙ change-again (dropped c.args.owner) (dropped_twice c.args.owner) c.args.self.now.items c.home_of-home.result
