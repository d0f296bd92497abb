use Rattle.std.proofs.Common.{sym}
use Rattle.lpc_views.proofs.Mapped.{sizes-kept}
use Rattle.lpc_views.proofs.parts.write_in.Goals as goal

pub returns-clause-sizes : goal.returns-clause-sizes
returns-clause-sizes c = sizes-kept c.args.sections.now c.args.key c.in-Some.section.now c.write.new.self (sym c.in-Some.ensures.value) c.write.ensures.size
