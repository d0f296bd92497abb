use Rattle.std.proofs.Common.{rules, ◌≡◌, ℕ, Bool, true, false, cond, Some, None, ap, sym, ◌∙◌}
use Rattle.lpc_base.specs.Rows.{has}
use Rattle.lpc_message.specs.declared.message.ClientId.{ClientId}
use Rattle.lpc_model.specs.Found.{waits_as}
use Rattle.lpc_model.specs.World.{ThreadRow, World}
use Rattle.lpc_procs.specs.declared.rows.Caller.{Caller}
use Rattle.lpc_steps.specs.Connecting.{is_answered}
use Rattle.lpc_rows.specs.Lawful.{are_single}
use Rattle.lpc_rows.specs.Ready.{caller, waiter}
use Rattle.lpc_rows.proofs.Finds as finds
use Rattle.lpc_steps.proofs.Answered as answered
use Rattle.lpc_steps.proofs.connections.answered_connect.Goals as goal

found_as : (w : World) (by : ThreadRow) (pid : ℕ) (client : ClientId) (identifier : ℕ) → are_single w.waits ≡ true → has (waits_as client.thread) w.waits ≡ true → pid ≡ by.process → (b : Bool) → b ≡ is_answered w pid client identifier (waiter w client.thread) → finds.IsFound w (is_answered w by.process client identifier) (cond b (Some client.thread) None)
found_as w by pid client identifier one there own b is =
    answered.answered_as w by.process client identifier one there b (is ∙ ap (λ q. is_answered w q client identifier (waiter w client.thread)) own)

pub returns-then-not-is_waiting-clause-found : goal.returns-then-not-is_waiting-clause-found
returns-then-not-is_waiting-clause-found c =
    answered.for_message c.args.world.now.rows (caller c.args.world.now.rows c.args.by) c.args.client c.args.identifier None (answered.answered_none c.args.world.now.rows (caller c.args.world.now.rows c.args.by).process c.args.client c.args.identifier c.is_waiting.ensures.single (sym c.is_waiting.ensures.waits ∙ search (rules, c.if-not-is_waiting.true)))

pub returns-then-is_answered-clause-found : goal.returns-then-is_answered-clause-found
returns-then-is_answered-clause-found c =
    answered.for_message c.args.world.now.rows (caller c.args.world.now.rows c.args.by) c.args.client c.args.identifier (Some c.args.client.thread) (found_as c.args.world.now.rows (caller c.args.world.now.rows c.args.by) c.caller-process.result.process c.args.client c.args.identifier c.is_waiting.ensures.single (sym c.is_waiting.ensures.waits ∙ search (rules, c.if-not-is_waiting.false)) (ap (λ (k : Caller). k.process) c.caller-process.ensures.row) true (sym c.if-is_answered.true ∙ c.is_answered.ensures))

pub returns-then-is_answered-clause-idle : goal.returns-then-is_answered-clause-idle
returns-then-is_answered-clause-idle c = (found_as c.args.world.now.rows (caller c.args.world.now.rows c.args.by) c.caller-process.result.process c.args.client c.args.identifier c.is_waiting.ensures.single (sym c.is_waiting.ensures.waits ∙ search (rules, c.if-not-is_waiting.false)) (ap (λ (k : Caller). k.process) c.caller-process.ensures.row) true (sym c.if-is_answered.true ∙ c.is_answered.ensures)).idle

pub returns-then-is_answered-clause-left : goal.returns-then-is_answered-clause-left
returns-then-is_answered-clause-left c = c.is_waiting.ensures.own.left c.args.client.thread (returns-then-is_answered-clause-idle c)

pub returns-else-is_answered-clause-found : goal.returns-else-is_answered-clause-found
returns-else-is_answered-clause-found c =
    answered.for_message c.args.world.now.rows (caller c.args.world.now.rows c.args.by) c.args.client c.args.identifier None (found_as c.args.world.now.rows (caller c.args.world.now.rows c.args.by) c.caller-process.result.process c.args.client c.args.identifier c.is_waiting.ensures.single (sym c.is_waiting.ensures.waits ∙ search (rules, c.if-not-is_waiting.false)) (ap (λ (k : Caller). k.process) c.caller-process.ensures.row) false (sym c.if-is_answered.false ∙ c.is_answered.ensures))
