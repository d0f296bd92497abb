use Rattle.std.proofs.Common.{sym, ◌∙◌}
use Rattle.lpc_model.specs.Message.{message_of}
use Rattle.lpc_rows.specs.Ready.{waiter}
use Rattle.lpc_rows.specs.Shown.{row_with}
use Rattle.lpc_steps.proofs.Delivered.{passed-asking, passed-other}
use Rattle.lpc_steps.proofs.entering.pass.Goals as goal

pub returns-then-asks_for_answer-clause-rows : goal.returns-then-asks_for_answer-clause-rows
returns-then-asks_for_answer-clause-rows c =
    (rw (c.read_header.ensures) at c.waits_receive.ensures.step.rows)
    ∙ sym (passed-asking c.args.world.now.rows (row_with c.args.world.now.births c.args.queue c.args.sender c.args.context (message_of c.args.bytes.now)) (waiter c.args.world.now.rows c.args.tid) c.requires.takes c.requires.quiet (sym c.asks_for_answer.ensures ∙ c.if-asks_for_answer.true))

pub returns-else-asks_for_answer-clause-rows : goal.returns-else-asks_for_answer-clause-rows
returns-else-asks_for_answer-clause-rows c =
    sym (passed-other c.args.world.now.rows (row_with c.args.world.now.births c.args.queue c.args.sender c.args.context (message_of c.args.bytes.now)) (waiter c.args.world.now.rows c.args.tid) c.requires.takes c.requires.quiet (sym c.asks_for_answer.ensures ∙ c.if-asks_for_answer.false))
