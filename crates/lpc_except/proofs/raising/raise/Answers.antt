use Rattle.std.proofs.Common.{◌≡◌, ◌<◌, ◌*◌, ◌≤◌, ◌∙◌, ap, arith, length, subst, sym}
use Rattle.lpc_base.specs.Rows.{count}
use Rattle.lpc_except.proofs.Lives.{raised-lives}
use Rattle.lpc_except.specs.Chances.{shown_hearing}
use Rattle.lpc_model.specs.World.{World}
use Rattle.lpc_rows.specs.Callers.{shown_caller}
use Rattle.lpc_rows.specs.Does.{Left}
use Rattle.lpc_rows.specs.Kept.{CALL_BUDGET, is_alive}
use Rattle.lpc_except.proofs.raising.raise.Goals as goal

pub returns-in-Heard-clause-settles : goal.returns-in-Heard-clause-settles
returns-in-Heard-clause-settles c =
    let w = c.begin_call.new.self.rows in
    let lives : count is_alive c.begin_event.new.world.rows.threads ≤ count is_alive w.threads =
    subst (λ (v : World). count is_alive v.threads ≤ count is_alive w.threads) (sym (ap (λ (l : Left). l.world) c.begin_event.ensures.took))
    (raised-lives (shown_caller c.caller-caller.result) c.args.code c.args.handled (shown_hearing c.begin_call.new.self c.in-Heard.hearing) w) in
    let alive = ap (λ (v : World). count is_alive v.threads) c.begin_call.ensures.rows in
    let waits = ap (λ (v : World). length v.waits) c.begin_call.ensures.rows in
    let few = c.caller-caller.ensures.few in
    let room = c.requires.room in
    let entries = c.begin_event.ensures.entries in
    record {
      spare = omega (arith, lives, alive, waits, few, room, entries);
      budget =
          let made = c.begin_event.ensures.made in
          let whole = c.begin_call.ensures.budget in
          subst (λ n. c.begin_event.new.world.made < CALL_BUDGET * n) (sym c.begin_event.ensures.calls) (omega (arith, made, whole));
    }
