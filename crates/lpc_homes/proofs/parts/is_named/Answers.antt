use Rattle.std.proofs.Common.{sym, ◌∙◌}
use Rattle.lpc_homes.proofs.Named.{named_at, named_has}
use Rattle.lpc_homes.proofs.parts.is_named.Goals as goal

pub returns-then-names : goal.returns-then-names
returns-then-names c =
    let passes = sym (c.names.ensures ∙ named_has c.args.object c.part-item.result.handles.rows) ∙ c.if-names.true in
    named_at c.args.object c.args.parts.now c.loop-part.part-index c.part-item.result c.loop-part-test.true c.part-item.is c.loop-part.invariant passes
