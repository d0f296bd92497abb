use Rattle.lpc_views.proofs.Mapped.{place-part}
use Rattle.lpc_views.proofs.parts.part_mut.Goals as goal

pub part_of_mut-requires : goal.part_of_mut-requires
part_of_mut-requires g c = place-part c.args.sections.now c.args.space.now.views c.args.address c.args.len c.in-Some.place c.requires.mapped c.in-Some.ensures
