use Rattle.std.proofs.Common.{◌≡◌, ◌∙◌, ap, arith, length, subst, sym}
use Rattle.lpc_base.specs.Rows.{count}
use Rattle.lpc_rows.specs.Kept.{is_alive}
use Rattle.std.specs.Prelude.{◌==◌, Ok, Err}
use Rattle.lpc_model.specs.World.{World}
use Rattle.lpc_model.proofs.Calls.Usable.{live-number}
use Rattle.lpc_procs.specs.declared.rows.Caller.{Caller}
use Rattle.lpc_rows.specs.Ready.{caller}
use Rattle.lpc_death.specs.Ends.{living_thread}
use Rattle.lpc_death.proofs.OwnEnds.{served-thread, served-thread-refused}
use Rattle.lpc_death.proofs.terminate.nt_terminate_thread.Goals as goal

pub returns-in-Ok-clause-served : goal.returns-in-Ok-clause-served
returns-in-Ok-clause-served c =
    let old = c.args.world.now in
    let mid = c.begin_call.new.self in
    let new = c.end_thread.new.world in
    let before = c.args.out.now in
    let between = c.answer_unless-outcome.new.out in
    let after = c.end_thread.new.out in
    let n = c.in-Ok.thread in
    let t = caller mid.rows n in
    let rows = c.begin_call.ensures.rows in
    let number = ap (λ (x : Caller). x.number) c.caller-caller.ensures.row in
    let found = subst (λ (w : World). living_thread w (caller w c.args.by) c.args.thread ≡ Ok t) rows c.in-Ok.ensures.thread in
    let by = caller old.rows c.args.by in
    let own_is = ap (λ m. m == by.number) (sym (live-number mid.rows n t c.in-Ok.ensures.live)) in
    let ends = rw number at c.answer_unless-outcome.ensures.outcome in
    let list = rw number at c.answer_unless-outcome.ensures.list in
    served-thread c.args.by c.args.code c.args.thread t (n == by.number) c.answer_unless-outcome.result old mid new before between after found own_is rows c.begin_call.ensures.loose list c.end_thread.ensures.took ends (c.end_thread.ensures.calls ∙ c.begin_call.ensures.calls)

pub returns-in-Err-clause-served : goal.returns-in-Err-clause-served
returns-in-Err-clause-served c =
    let old = c.args.world.now in
    let mid = c.begin_call.new.self in
    let rows = c.begin_call.ensures.rows in
    let number = ap (λ (x : Caller). x.number) c.caller-caller.ensures.row in
    let found = subst (λ (w : World). living_thread w (caller w c.args.by) c.args.thread ≡ Err c.in-Err.status) rows c.in-Err.ensures.thread in
    served-thread-refused c.args.by c.args.code c.args.thread c.in-Err.status c.refuse.result old mid c.args.out.now c.refuse.new.out found rows c.begin_call.ensures.loose c.begin_call.ensures.calls (rw number at c.refuse.ensures.list) c.refuse.ensures.outcome

pub returns-in-Ok-clause-settles : goal.returns-in-Ok-clause-settles
returns-in-Ok-clause-settles c =
    let alive = ap (λ (w : World). count is_alive w.threads) c.begin_call.ensures.rows in
    let waits = ap (λ (w : World). length w.waits) c.begin_call.ensures.rows in
    record {
      spare = omega (arith, alive, waits, c.caller-caller.ensures.few, c.requires.room, c.answer_unless-outcome.ensures.spare, c.end_thread.ensures.spare);
      budget = omega (arith, c.begin_call.ensures.budget, c.end_thread.ensures.made, c.end_thread.ensures.calls);
    }

pub returns-in-Err-clause-settles : goal.returns-in-Err-clause-settles
returns-in-Err-clause-settles c =
    let alive = ap (λ (w : World). count is_alive w.threads) c.begin_call.ensures.rows in
    let waits = ap (λ (w : World). length w.waits) c.begin_call.ensures.rows in
    record {
      spare = omega (arith, alive, waits, c.caller-caller.ensures.few, c.requires.room, c.refuse.ensures.spare);
      budget = omega (arith, c.begin_call.ensures.budget);
    }
