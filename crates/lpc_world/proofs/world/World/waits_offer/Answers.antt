use Rattle.std.proofs.Common.{Some, ap, sym, ◌∙◌}
use Rattle.lpc_rows.specs.Shown.{tables_of}
use Rattle.lpc_rows.proofs.Connecting as connecting
use Rattle.lpc_world.proofs.world.World.waits_offer.Goals as goal

pub offer-requires : goal.offer-requires
offer-requires c = record { waits = connecting.has_its_row (tables_of c.self.inside.procs c.self.inside.parts.items c.self.inside.ports c.self.inside.waits c.self.inside.names c.self.inside.sections c.self.inside.tokens c.self.inside.token_names c.self.inside.marks) c.self.invariant.kept.named c.args.tid (rw (← c.self.view_is) at c.requires) }

pub returns-then-is_offered-clause-offer : goal.returns-then-is_offered-clause-offer
returns-then-is_offered-clause-offer c =
    let on = rw (← c.self.view_is) at (sym c.is_offered.ensures ∙ c.if-is_offered.true) in
    let found = connecting.offer_is (tables_of c.self.inside.procs c.self.inside.parts.items c.self.inside.ports c.self.inside.waits c.self.inside.names c.self.inside.sections c.self.inside.tokens c.self.inside.token_names c.self.inside.marks) c.self.invariant.kept.named c.args.tid c.copied.result (c.offer.ensures.value ∙ ap Some (sym c.copied.ensures)) on in
    rw (← c.self.view_is) found.offer

pub returns-then-is_offered-clause-stands : goal.returns-then-is_offered-clause-stands
returns-then-is_offered-clause-stands c =
    let on = rw (← c.self.view_is) at (sym c.is_offered.ensures ∙ c.if-is_offered.true) in
    let found = connecting.offer_is (tables_of c.self.inside.procs c.self.inside.parts.items c.self.inside.ports c.self.inside.waits c.self.inside.names c.self.inside.sections c.self.inside.tokens c.self.inside.token_names c.self.inside.marks) c.self.invariant.kept.named c.args.tid c.copied.result (c.offer.ensures.value ∙ ap Some (sym c.copied.ensures)) on in
    rw (← c.self.view_is) found.there
