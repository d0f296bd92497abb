use Rattle.std.proofs.Common.{ap, ◌∙◌}
use Rattle.lpc_base.specs.Rows.{has}
use Rattle.lpc_model.specs.Found.{waits_as}
use Rattle.lpc_model.specs.World.{World}
use Rattle.lpc_rows.specs.Clauses.{without_wait}
use Rattle.lpc_rows.specs.Registered.{with_ended}
use Rattle.lpc_death.proofs.Dead.{none-waits, took-end}
use Rattle.lpc_death.proofs.dying.end_thread.Goals as goal

pub procs_end_thread-requires-clause-ready : goal.procs_end_thread-requires-clause-ready
procs_end_thread-requires-clause-ready c =
    let tid = c.args.tid in
    ap (λ (v : World). has (waits_as tid) v.waits) c.waits_end.ensures.step.rows ∙ none-waits tid c.messages_withdraw.new.self.rows.waits

-- the message, the wait and the life go one after the other
pub returns-clause-took : goal.returns-clause-took
returns-clause-took c =
    let tid = c.args.tid in
    let waited = c.waits_end.ensures.step.rows ∙ ap (λ (v : World). without_wait v tid) c.messages_withdraw.ensures.step.rows in
    took-end tid c.args.code c.args.world.now c.procs_end_thread.new.self c.args.out.now c.push.new.self (c.procs_end_thread.ensures.step.rows ∙ ap (λ (v : World). with_ended v tid) waited) c.procs_end_thread.ensures.loose c.push.ensures.list
