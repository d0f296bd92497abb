use Rattle.std.proofs.Common.{ap, arith, length}
use Rattle.lpc_base.specs.Rows.{count}
use Rattle.lpc_model.specs.World.{World}
use Rattle.lpc_rows.specs.Clauses.{row_shown}
use Rattle.lpc_rows.specs.Kept.{is_alive}
use Rattle.lpc_closing.proofs.Lives.{handle-lives}
use Rattle.lpc_closing.proofs.close.nt_close.Goals as goal

pub returns-in-Ok-clause-settles : goal.returns-in-Ok-clause-settles
returns-in-Ok-clause-settles c =
    let mid = c.begin_call.new.self in
    let row = row_shown mid c.args.handle c.in-Ok.row in
    let lives = handle-lives c.caller-caller.result.process row mid c.close_handle.new.world c.push.new.self c.close_handle.new.out c.close_handle.ensures.takes in
    let alive = ap (λ (w : World). count is_alive w.threads) c.begin_call.ensures.rows in
    let waits = ap (λ (w : World). length w.waits) c.begin_call.ensures.rows in
    record {
      spare = omega (arith, lives, alive, waits, c.caller-caller.ensures.few, c.requires.room, c.push.ensures.spare, c.close_handle.ensures.spare);
      budget = omega (arith, c.begin_call.ensures.budget, c.close_handle.ensures.made, c.close_handle.ensures.calls);
    }

pub returns-in-Err-clause-settles : goal.returns-in-Err-clause-settles
returns-in-Err-clause-settles c =
    let alive = ap (λ (w : World). count is_alive w.threads) c.begin_call.ensures.rows in
    let waits = ap (λ (w : World). length w.waits) c.begin_call.ensures.rows in
    record {
      spare = omega (arith, alive, waits, c.caller-caller.ensures.few, c.requires.room, c.refuse.ensures.spare);
      budget = omega (arith, c.begin_call.ensures.budget);
    }
