use Rattle.std.proofs.Common.{Some, ap, ◌∙◌}
use Rattle.std.specs.Prelude.{option_copied}
use Rattle.lpc_rows.specs.Shown.{tables_of}
use Rattle.lpc_rows.proofs.Connecting as connecting
use Rattle.lpc_world.proofs.world.World.acceptance.Goals as goal

pub accepted-requires : goal.accepted-requires
accepted-requires c = record { waits = connecting.has_its_row (tables_of c.self.inside.procs c.self.inside.parts.items c.self.inside.ports c.self.inside.waits c.self.inside.names c.self.inside.sections c.self.inside.tokens c.self.inside.token_names c.self.inside.marks) c.self.invariant.kept.named c.args.tid (rw (← c.self.view_is) at c.requires.waits) }

pub unreachable-requires : goal.unreachable-requires
unreachable-requires c = connecting.no_acceptance_there (tables_of c.self.inside.procs c.self.inside.parts.items c.self.inside.ports c.self.inside.waits c.self.inside.names c.self.inside.sections c.self.inside.tokens c.self.inside.token_names c.self.inside.marks) c.self.invariant.kept.named c.args.tid (c.accepted.ensures.value ∙ ap (λ o. Some (option_copied o)) c.in-None.is) (rw (← c.self.view_is) at c.requires.accepted)

pub returns : goal.returns
returns c =
    let accepted = c.in-Some.accepted.now in
    let same = ap (λ bytes. record { reply = bytes; target = accepted.target; vbase = accepted.vbase; vsize = accepted.vsize }) (c.held.ensures ∙ c.as_slice.ensures.value) in
    rw (← c.self.view_is) (same ∙ connecting.acceptance_is (tables_of c.self.inside.procs c.self.inside.parts.items c.self.inside.ports c.self.inside.waits c.self.inside.names c.self.inside.sections c.self.inside.tokens c.self.inside.token_names c.self.inside.marks) c.self.invariant.kept.named c.args.tid accepted (c.accepted.ensures.value ∙ ap (λ o. Some (option_copied o)) c.in-Some.is) (rw (← c.self.view_is) at c.requires.accepted))
