use Rattle.std.proofs.Common.{ap, sym, ◌∙◌, arith}
use Rattle.lpc_base.specs.Rows.{count}
use Rattle.lpc_model.specs.Found.{same_birth}
use Rattle.lpc_procs.specs.Procs.{is_of_birth, live_registrations}
use Rattle.lpc_rows.specs.Clauses.{birth_at}
use Rattle.lpc_rows.specs.Kept.{rows_by}
use Rattle.lpc_rows.specs.Shown.{tables_of}
use Rattle.lpc_rows.proofs.Registered.{live-counted, live-few}
use Rattle.lpc_world.proofs.world.World.registered_to.Goals as goal

pub returns-clause-number : goal.returns-clause-number
returns-clause-number c =
    let birth = sym c.port.ensures.own ∙ c.port.ensures.birth in
    let counted = c.registered_to.ensures.count ∙ ap (λ b. count (is_of_birth b) (live_registrations c.self.inside.procs.threads)) birth ∙ sym (live-counted (birth_at c.args.self.now c.args.port) c.self.inside.procs.threads) in
    rw (← c.self.view_is) (rw (← c.self.view_is) at counted)

pub returns-clause-few : goal.returns-clause-few
returns-clause-few c =
    let counted = c.registered_to.ensures.count ∙ sym (live-counted c.port.result.now.birth c.self.inside.procs.threads) in
    let few = live-few (same_birth c.port.result.now.birth) (rows_by (tables_of c.self.inside.procs c.self.inside.parts.items c.self.inside.ports c.self.inside.waits c.self.inside.names c.self.inside.sections c.self.inside.tokens c.self.inside.token_names c.self.inside.marks)).threads in
    rw (← c.self.view_is) (omega (arith, counted, few))
