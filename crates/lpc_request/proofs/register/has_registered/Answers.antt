use Rattle.std.proofs.Common.{ap, subst, sym, ◌∙◌}
use Rattle.std.specs.Prelude.{◌≡◌, Some, is_some}
use Rattle.lpc_model.specs.Register.{is_registered}
use Rattle.lpc_rows.specs.Clauses.{thread_row}
use Rattle.lpc_rows.specs.Ready.{caller}
use Rattle.lpc_request.proofs.Registrations.{its_row, registered_is}
use Rattle.lpc_request.proofs.register.has_registered.Goals as goal

pub is_registered-requires : goal.is_registered-requires
is_registered-requires c =
    let w = c.args.world.now.rows in
    let whole = subst (λ n. thread_row w n ≡ Some (caller w c.args.tid)) (sym c.caller-by.ensures.number) c.caller-by.ensures.whole in
    record { present = ap is_some (its_row w.threads c.procs.result.now.threads c.procs.ensures.threads c.caller-by.result.number (caller w c.args.tid) whole).found }

pub returns : goal.returns
returns c =
    let w = c.args.world.now.rows in
    let whole = subst (λ n. thread_row w n ≡ Some (caller w c.args.tid)) (sym c.caller-by.ensures.number) c.caller-by.ensures.whole in
    let birth = sym c.port.ensures.own ∙ c.port.ensures.birth in
    registered_is w.threads c.procs.result.now.threads c.procs.ensures.threads c.caller-by.result.number (caller w c.args.tid) whole c.port.result.now.birth c.is_registered.result c.is_registered.ensures.registered
    ∙ ap (λ b. is_registered b (caller w c.args.tid)) birth
