use Rattle.std.proofs.Common.{◌≡◌, ◌∙◌, ap, arith, length, subst, sym}
use Rattle.lpc_base.specs.Rows.{count}
use Rattle.lpc_rows.specs.Kept.{is_alive}
use Rattle.std.specs.Prelude.{◌==◌, Ok, Err}
use Rattle.lpc_model.specs.World.{World}
use Rattle.lpc_procs.specs.declared.rows.Caller.{Caller}
use Rattle.lpc_rows.specs.Ready.{caller}
use Rattle.lpc_death.specs.Ends.{living_process}
use Rattle.lpc_death.proofs.OwnEnds.{served-process, served-process-refused}
use Rattle.lpc_death.proofs.terminate.nt_terminate_process.Goals as goal

pub returns-in-Ok-clause-served : goal.returns-in-Ok-clause-served
returns-in-Ok-clause-served c =
    let old = c.args.world.now in
    let mid = c.begin_call.new.self in
    let rows = c.begin_call.ensures.rows in
    let number = ap (λ (x : Caller). x.number) c.caller-caller.ensures.row in
    let process = ap (λ (x : Caller). x.process) c.caller-caller.ensures.row in
    let found = subst (λ (w : World). living_process w (caller w c.args.by) c.args.process ≡ Ok c.in-Ok.pid) rows (sym c.living_process.ensures.process ∙ c.in-Ok.is) in
    served-process c.args.by c.args.code c.args.process c.in-Ok.pid _ c.answer_unless-outcome.result old mid c.end_threads.new.world c.args.out.now c.answer_unless-outcome.new.out c.end_threads.new.out found
    (ap (λ m. c.in-Ok.pid == m) process) rows c.begin_call.ensures.loose (rw number at c.answer_unless-outcome.ensures.list) c.end_threads.ensures.took c.answer_unless-outcome.ensures.outcome (c.end_threads.ensures.calls ∙ c.begin_call.ensures.calls)

pub returns-in-Err-clause-served : goal.returns-in-Err-clause-served
returns-in-Err-clause-served c =
    let old = c.args.world.now in
    let mid = c.begin_call.new.self in
    let rows = c.begin_call.ensures.rows in
    let number = ap (λ (x : Caller). x.number) c.caller-caller.ensures.row in
    let found = subst (λ (w : World). living_process w (caller w c.args.by) c.args.process ≡ Err c.in-Err.status) rows (sym c.living_process.ensures.process ∙ c.in-Err.is) in
    served-process-refused c.args.by c.args.code c.args.process c.in-Err.status c.refuse.result old mid c.args.out.now c.refuse.new.out found rows c.begin_call.ensures.loose c.begin_call.ensures.calls (rw number at c.refuse.ensures.list) c.refuse.ensures.outcome

pub returns-in-Ok-clause-settles : goal.returns-in-Ok-clause-settles
returns-in-Ok-clause-settles c =
    let alive = ap (λ (w : World). count is_alive w.threads) c.begin_call.ensures.rows in
    let waits = ap (λ (w : World). length w.waits) c.begin_call.ensures.rows in
    record {
      spare = omega (arith, alive, waits, c.caller-caller.ensures.few, c.requires.room, c.answer_unless-outcome.ensures.spare, c.end_threads.ensures.spare);
      budget = omega (arith, c.begin_call.ensures.budget, c.end_threads.ensures.made, c.end_threads.ensures.calls);
    }

pub returns-in-Err-clause-settles : goal.returns-in-Err-clause-settles
returns-in-Err-clause-settles c =
    let alive = ap (λ (w : World). count is_alive w.threads) c.begin_call.ensures.rows in
    let waits = ap (λ (w : World). length w.waits) c.begin_call.ensures.rows in
    record {
      spare = omega (arith, alive, waits, c.caller-caller.ensures.few, c.requires.room, c.refuse.ensures.spare);
      budget = omega (arith, c.begin_call.ensures.budget);
    }
