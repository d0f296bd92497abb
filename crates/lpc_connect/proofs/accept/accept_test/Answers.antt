use Rattle.std.proofs.Common.{◌≡◌, ap, sym, true, option_map, rules}
use Rattle.lpc_model.specs.Connect.{accepted_view}
use Rattle.lpc_model.specs.World.{ThreadRow}
use Rattle.lpc_procs.specs.declared.rows.Caller.{Caller}
use Rattle.lpc_rows.specs.Ready.{caller}
use Rattle.lpc_connect.specs.Calls.{shown_answer}
use Rattle.lpc_steps.specs.Offers.{offer_shown, wanted_shown}
use Rattle.lpc_connect.proofs.Shared.{fails, views_refused}
use Rattle.lpc_connect.proofs.accept.accept_test.Goals as goal
use Rattle.lpc_connect.proofs.accept.accept_test.Goals.{then-accept, else-accept}

pub returns-in_err-views-clause-refused : goal.returns-in_err-views-clause-refused
returns-in_err-views-clause-refused c =
    let w = c.args.world.now in
    let s = c.in_err-views.field-0.0 in
    let t : ThreadRow = caller w.rows c.args.by.now.number in
    let accepts : c.args.accept ≡ true = search rules in
    let saw : c.if-accept.wanted_test ≡ accepted_view c.args.accept c.args.view = elim c.if-accept.branch [ then-accept v ↦ rw accepts v.wanted_test-is | else-accept v ↦ absurd (cc) ] in
    let own = ap (λ (k : Caller). k.process) c.requires.row in
    let few = rw own at c.in_ok-handles_test.ensures.full in
    let shares = c.in_err-views.ensures.test t (sym own) in
    rw (fails c.from_residual-in_err-views.result s c.from_residual-in_err-views.ensures.1)
    (λ context. views_refused w.rows t context c.args.bytes.now c.args.accept c.args.view c.if-accept.wanted_test (option_map (wanted_shown w) c.in_ok-wanted.wanted) (shown_answer w.rows c.in_ok-answer.answer) (offer_shown w c.in_ok-offer.offer) s
    accepts saw c.in_ok-wanted.ensures.test c.in_ok-answer.ensures.found c.in_ok-offer.ensures.test few shares)
