use Rattle.std.proofs.Common.{◌≡◌, false, ap, sym, ◌∙◌}
use Rattle.std.specs.Prelude.{is_some, option_copied}
use Rattle.lpc_slots.specs.Table.{at}
use Rattle.lpc_rows.specs.Shown.{tables_of}
use Rattle.lpc_rows.proofs.FoundTokens as tokens
use Rattle.lpc_world.proofs.world.World.token.Goals as goal

pub unreachable-requires : goal.unreachable-requires
unreachable-requires c =
    let some = tokens.present (tables_of c.self.inside.procs c.self.inside.parts.items c.self.inside.ports c.self.inside.waits c.self.inside.names c.self.inside.sections c.self.inside.tokens c.self.inside.token_names c.self.inside.marks) c.args.token (rw (← c.self.view_is) at c.requires) in
    let none : is_some (at c.self.inside.tokens c.args.token) ≡ false = sym (ap is_some c.get.ensures.value) ∙ ap (λ o. is_some (option_copied o)) c.in-None.is in
    absurd (cc)

pub returns-clause-token : goal.returns-clause-token
returns-clause-token c = rw (← c.self.view_is) (tokens.found (tables_of c.self.inside.procs c.self.inside.parts.items c.self.inside.ports c.self.inside.waits c.self.inside.names c.self.inside.sections c.self.inside.tokens c.self.inside.token_names c.self.inside.marks) c.self.invariant.kept.named c.args.token c.in-Some.row.now (sym c.get.ensures.value ∙ ap (λ o. option_copied o) c.in-Some.is))

pub returns-clause-birth : goal.returns-clause-birth
returns-clause-birth c = rw (← c.self.view_is) (tokens.named (tables_of c.self.inside.procs c.self.inside.parts.items c.self.inside.ports c.self.inside.waits c.self.inside.names c.self.inside.sections c.self.inside.tokens c.self.inside.token_names c.self.inside.marks) c.self.invariant.kept.named c.args.token c.in-Some.row.now (sym c.get.ensures.value ∙ ap (λ o. option_copied o) c.in-Some.is))
