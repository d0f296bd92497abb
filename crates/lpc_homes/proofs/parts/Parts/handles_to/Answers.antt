use Rattle.lpc_homes.specs.Parts.{names_it}
use Rattle.lpc_homes.proofs.Counted.{few_named}
use Rattle.lpc_homes.proofs.parts.Parts.handles_to.Goals as goal

pub returns-in-Some-clause-bound : goal.returns-in-Some-clause-bound
returns-in-Some-clause-bound c =
    rw (← c.self.view_is, c.in-Some.ensures.count, c.self.invariant.of_handles.counted c.in-Some.ensures.whole c.args.object)
    (few_named (names_it c.args.object) c.self.inside.parts.items c.self.invariant.of_handles.within)
