use denote.Ref.{Bor}
use Rattle.lpc_waits.specs.declared.Accepted.{Accepted}
use Rattle.std.proofs.Common.{◌∙◌}
use Rattle.std.specs.Prelude.{option_copied}
use Rattle.lpc_rows.specs.Shown.{tables_of}
use Rattle.lpc_rows.proofs.Connecting as connecting
use Rattle.lpc_world.proofs.world.World.is_offered.Goals as goal

pub accepted-requires : goal.accepted-requires
accepted-requires c = record { waits = connecting.has_its_row (tables_of c.self.inside.procs c.self.inside.parts.items c.self.inside.ports c.self.inside.waits c.self.inside.names c.self.inside.sections c.self.inside.tokens c.self.inside.token_names c.self.inside.marks) c.self.invariant.kept.named c.args.tid (rw (← c.self.view_is) at c.requires) }

pub returns-in-Connect : goal.returns-in-Connect
returns-in-Connect c =
    let call = rw (← c.self.view_is) at c.waiting.ensures.wait.call in
    rw (← c.self.view_is) (connecting.turned _ _ c.is_none.ensures ∙ connecting.none_of (λ (r : Bor Accepted). r.now) c.accepted.result ∙ connecting.offered_is (tables_of c.self.inside.procs c.self.inside.parts.items c.self.inside.ports c.self.inside.waits c.self.inside.names c.self.inside.sections c.self.inside.tokens c.self.inside.token_names c.self.inside.marks) c.self.invariant.kept.named c.args.tid c.waiting.result.kind (option_copied c.accepted.result) c.accepted.ensures.value call c.in-Connect.is)

pub returns-in_default : goal.returns-in_default
returns-in_default c =
    let call = rw (← c.self.view_is) at c.waiting.ensures.wait.call in
    let there = rw (← c.self.view_is) at c.requires in
    rw (← c.self.view_is) (connecting.offered_never (tables_of c.self.inside.procs c.self.inside.parts.items c.self.inside.ports c.self.inside.waits c.self.inside.names c.self.inside.sections c.self.inside.tokens c.self.inside.token_names c.self.inside.marks) c.self.invariant.kept.named c.args.tid c.waiting.result.kind there call c.in_default.not-Connect)
