use Rattle.std.proofs.Common.{ap, ◌∙◌}
use Rattle.lpc_base.specs.Rows.{has}
use Rattle.lpc_homes.specs.Parts.{has_name_of}
use Rattle.lpc_homes.proofs.Counted.{named_counted}
use Rattle.lpc_homes.proofs.parts.Parts.names.Goals as goal

pub returns-in-None : goal.returns-in-None
returns-in-None c = rw (← c.self.view_is) (c.is_named.ensures ∙ ap (has (has_name_of c.args.object)) c.deref.ensures.value)

pub returns-in-Some : goal.returns-in-Some
returns-in-Some c =
    rw (← c.self.view_is, c.in-Some.ensures.count, c.self.invariant.of_handles.counted c.in-Some.ensures.whole c.args.object)
    (named_counted c.args.object c.self.inside.parts.items)
