use Rattle.std.proofs.Common.{◌≡◌, ◌<◌, ◌∙◌, Some, ap, length, subst, sym}
use Rattle.std.specs.Prelude.{is_some}
use Rattle.lpc_base.specs.Rows.{given}
use Rattle.lpc_model.specs.World as model
use Rattle.lpc_rows.specs.Clauses.{birth_at, thread_row}
use Rattle.lpc_rows.specs.Ready.{caller}
use Rattle.lpc_request.proofs.Registrations.{is_granted, is_refused, its_row, registered_many}
use Rattle.lpc_request.proofs.register.registration_test.Goals as goal

pub registration_count-requires : goal.registration_count-requires
registration_count-requires c =
    let w = c.args.world.now.rows in
    let whole = subst (λ n. thread_row w n ≡ Some (caller w c.args.tid)) (sym c.caller-by.ensures.number) c.caller-by.ensures.whole in
    record { present = ap is_some (its_row w.threads c.procs.result.now.threads c.procs.ensures.threads c.caller-by.result.number (caller w c.args.tid) whole).found }

pub returns-then-registration_count-ge-REGISTRATION_LIMIT-clause-test : goal.returns-then-registration_count-ge-REGISTRATION_LIMIT-clause-test
returns-then-registration_count-ge-REGISTRATION_LIMIT-clause-test c =
    let w = c.args.world.now in
    let whole = subst (λ n. thread_row w.rows n ≡ Some (caller w.rows c.args.tid)) (sym c.caller-by.ensures.number) c.caller-by.ensures.whole in
    let long = registered_many w.rows.threads c.procs.result.now.threads c.procs.ensures.threads c.caller-by.result.number (caller w.rows c.args.tid) whole c.registration_count.result c.registration_count.ensures.count in
    let off = sym c.has_registered.ensures ∙ c.if-has_registered.false in
    sym (is_refused (caller w.rows c.args.tid) (birth_at w c.args.port) c.registration_count.result off long c.if-registration_count-ge-REGISTRATION_LIMIT.true)

pub returns-clause-test : goal.returns-clause-test
returns-clause-test c =
    let w = c.args.world.now in
    let whole = subst (λ n. thread_row w.rows n ≡ Some (caller w.rows c.args.tid)) (sym c.caller-by.ensures.number) c.caller-by.ensures.whole in
    let long = registered_many w.rows.threads c.procs.result.now.threads c.procs.ensures.threads c.caller-by.result.number (caller w.rows c.args.tid) whole c.registration_count.result c.registration_count.ensures.count in
    let off = sym c.has_registered.ensures ∙ c.if-has_registered.false in
    sym (is_granted (caller w.rows c.args.tid) (birth_at w c.args.port) c.registration_count.result off long c.if-registration_count-ge-REGISTRATION_LIMIT.false)

pub returns-clause-few : goal.returns-clause-few
returns-clause-few c = λ off.
    let w = c.args.world.now in
    let whole = subst (λ n. thread_row w.rows n ≡ Some (caller w.rows c.args.tid)) (sym c.caller-by.ensures.number) c.caller-by.ensures.whole in
    let many = registered_many w.rows.threads c.procs.result.now.threads c.procs.ensures.threads c.caller-by.result.number (caller w.rows c.args.tid) whole c.registration_count.result c.registration_count.ensures.count in
    let own = ap (λ o. given o (λ (t : model.ThreadRow). t.registrations)) c.caller-by.ensures.whole in
    subst (λ bs. length bs < 16) (sym own) (subst (λ k. k < 16) (sym many) c.if-registration_count-ge-REGISTRATION_LIMIT.false)
