use Rattle.std.proofs.Common.{length}
use Rattle.lpc_views.proofs.Mapped.{place-part, still-mapped}
use Rattle.lpc_views.proofs.space.Space.write.Goals as goal

pub write_in-requires : goal.write_in-requires
write_in-requires g c = record { within = place-part c.args.sections.now c.args.self.now.views c.args.address (length c.args.bytes.now) c.in-Some.place c.requires.mapped c.in-Some.ensures }

pub returns-clause-mapped : goal.returns-clause-mapped
returns-clause-mapped g c = still-mapped c.args.sections.now c.write_in.new.sections c.args.self.now.views c.write_in.ensures.sizes c.requires.mapped
