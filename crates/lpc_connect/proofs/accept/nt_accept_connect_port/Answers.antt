use Rattle.std.proofs.Common.{◌≡◌, ap, true, ◌∙◌, arith, refl, rules}
use Rattle.lpc_model.specs.World.{World}
use Rattle.lpc_procs.specs.declared.rows.Caller.{Caller}
use Rattle.lpc_rows.specs.Kept.{Room}
use Rattle.lpc_rows.specs.Ready.{caller}
use Rattle.lpc_rows.specs.Callers.{shown_caller}
use Rattle.lpc_connect.proofs.Accepted.{same-accept}
use Rattle.lpc_connect.proofs.Shared.{fails}
use Rattle.lpc_connect.proofs.Lacking.{lacks-offered}
use Rattle.lpc_connect.proofs.accept.nt_accept_connect_port.Goals as goal

pub returns-clause-serves : goal.returns-clause-serves
returns-clause-serves c =
    let w : World = c.args.world.now.rows in
    let same : c.begin_call-2.new.self.rows ≡ w = c.begin_call-2.ensures.rows ∙ c.reserve_views.ensures.same.rows ∙ c.handles_reserve.ensures.same.rows ∙ c.ports_reserve.ensures.same.rows in
    let births : c.begin_call-2.new.self.births ≡ c.args.world.now.births = c.begin_call-2.ensures.births ∙ c.reserve_views.ensures.same.births ∙ c.handles_reserve.ensures.same.births ∙ c.ports_reserve.ensures.same.births in
    let loose : c.begin_call-2.new.self.loose ≡ c.args.world.now.loose = c.begin_call-2.ensures.loose ∙ c.reserve_views.ensures.same.loose ∙ c.handles_reserve.ensures.same.loose ∙ c.ports_reserve.ensures.same.loose in
    let accepts : c.args.accept ≡ true = search rules in
    let took = c.accept_connect.ensures.takes ∙ same-accept c.args.world.now c.begin_call-2.new.self c.args.out.now.list (shown_caller c.caller-caller.result) c.in-Ok.found.answer c.args.context c.in-Ok.found.views same births loose in
    record {
      takes = rw (← c.caller-caller.ensures.number, c.in-Ok.ensures.accepts accepts c.args.context) took;
      outcome = rw (← c.caller-caller.ensures.number, c.in-Ok.ensures.accepts accepts c.args.context) refl;
      calls = grind arith;
    }

pub returns-in_err-reserve_views-clause-wanting : goal.returns-in_err-reserve_views-clause-wanting
returns-in_err-reserve_views-clause-wanting c =
    let w : World = c.args.world.now.rows in
    let accepts : c.args.accept ≡ true = search rules in
    rw (fails c.from_residual-in_err-reserve_views.result c.in_err-reserve_views.field-0.0 c.from_residual-in_err-reserve_views.ensures.1)
    (lacks-offered c.args.world.now c.handles_reserve.new.self (caller w c.args.by) c.caller-caller.result.process c.in-Ok.found.answer.thread c.args.message.now c.args.view c.in-Ok.found.answer.message c.in-Ok.found.views
    (rw (c.caller-caller.ensures.number) at c.in-Ok.ensures.answer) (c.in-Ok.ensures.given accepts)
    (c.handles_reserve.ensures.same.rows ∙ c.ports_reserve.ensures.same.rows)
    (ap (λ (r : Room). r.views) c.handles_reserve.ensures.others ∙ ap (λ (r : Room). r.views) c.ports_reserve.ensures.others)
    (ap (λ (k : Caller). k.process) c.caller-caller.ensures.row) c.in_err-reserve_views.ensures.wanting)
