use Rattle.lpc_views.proofs.Mapped.{place-part}
use Rattle.lpc_views.proofs.space.Space.slice.Goals as goal

pub part_of-requires : goal.part_of-requires
part_of-requires g c = place-part c.args.sections.now c.args.self.now.views c.args.address c.args.len c.in-Some.place c.requires.mapped c.in-Some.ensures
