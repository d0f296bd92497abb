use Rattle.lpc_homes.specs.declared.object.Object.TheVariants.{Port}
use Rattle.lpc_homes.proofs.Viewed.{told, told_few}
use Rattle.lpc_homes.proofs.parts.Parts.owned_count.Goals as goal

pub returns-clause-count : goal.returns-clause-count
returns-clause-count c = rw (← c.self.view_is) (told c.views_for.result c.self.inside.parts.items c.self.inside.counts.views (Port c.args.owner) c.self.invariant.of_views c.views_for.ensures.whole c.views_for.ensures.count)

pub returns-clause-bound : goal.returns-clause-bound
returns-clause-bound c = rw (← c.self.view_is) (told_few c.views_for.result c.self.inside.parts.items c.self.inside.counts.views (Port c.args.owner) c.self.invariant.of_views c.views_for.ensures.whole c.views_for.ensures.count)
