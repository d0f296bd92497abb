use Rattle.std.proofs.Common.{◌≡◌, ◌≤◌, ◌+◌, ◌*◌, ◌∙◌, ap, arith, length, subst, sym}
use Rattle.lpc_base.specs.Rows.{has}
use Rattle.lpc_except.specs.Chances.{later_rows, shown_hearing}
use Rattle.lpc_except.proofs.Going.{hearing-kept, heard-kept, sent-behind}
use Rattle.lpc_except.proofs.Leaving.{freed, length-one, none-left}
use Rattle.lpc_model.specs.Found.{waits_as}
use Rattle.lpc_model.specs.World.{World}
use Rattle.lpc_rows.proofs.Finished.{own-waiter}
use Rattle.lpc_rows.specs.Callers.{shown_caller}
use Rattle.lpc_rows.specs.Kept.{CALL_BUDGET}
use Rattle.lpc_rows.specs.Ready.{waiter}
use Rattle.lpc_rows.specs.Shown.{shown_raised}
use Rattle.lpc_except.proofs.settle.send_next.Goals as goal

pub send_event-requires-clause-heard : goal.send_event-requires-clause-heard
send_event-requires-clause-heard c =
    heard-kept c.args.world.now c.waits_end.new.self c.args.by.now.number c.args.hearing c.waits_end.ensures.step.rows c.waits_end.ensures.step.births c.requires.heard

pub send_event-requires-clause-ready : goal.send_event-requires-clause-ready
send_event-requires-clause-ready c =
    ap (λ (v : World). has (waits_as c.args.by.now.number) v.waits) c.waits_end.ensures.step.rows
    ∙ none-left (waits_as c.args.by.now.number) c.args.world.now.rows.waits

pub send_event-requires-clause-budget : goal.send_event-requires-clause-budget
send_event-requires-clause-budget c =
    let free = freed c.args.world.now c.waits_end.new.self c.args.by.now.number c.args.raised c.waits_end.ensures.step.rows c.waits_end.ensures.step.counted c.requires.waits c.requires.once c.requires.raised in
    let later = c.requires.later in
    let budget = c.requires.budget in
    subst (λ n. c.waits_end.new.self.made + (later_rows c.args.hearing.chance + 3) ≤ CALL_BUDGET * n) (sym c.waits_end.ensures.step.calls) (omega (arith, free, later, budget))

pub returns-clause-took : goal.returns-clause-took
returns-clause-took c =
    let w = c.args.world.now.rows in
    let n = c.args.by.now.number in
    sent-behind (shown_caller c.args.by.now) (waiter w n) (shown_raised c.args.raised) (shown_hearing c.args.world.now c.args.hearing) (shown_hearing c.waits_end.new.self c.args.hearing)
    w c.waits_end.new.self.rows c.args.out.now.list c.args.world.now.loose c.waits_end.new.self.loose
    (record { world = c.send_event.new.world.rows; entries = c.send_event.new.out.list; loose = c.send_event.new.world.loose }) n
    (own-waiter w n c.requires.waits) c.waits_end.ensures.step.rows c.waits_end.ensures.loose
    (hearing-kept c.args.world.now c.waits_end.new.self n c.args.hearing c.waits_end.ensures.step.rows c.waits_end.ensures.step.births) c.send_event.ensures.took

pub returns-clause-made : goal.returns-clause-made
returns-clause-made c =
    let free = freed c.args.world.now c.waits_end.new.self c.args.by.now.number c.args.raised c.waits_end.ensures.step.rows c.waits_end.ensures.step.counted c.requires.waits c.requires.once c.requires.raised in
    let later = c.requires.later in
    let made = c.send_event.ensures.made in
    omega (arith, free, later, made)

pub returns-clause-entries : goal.returns-clause-entries
returns-clause-entries c =
    let rest : length c.waits_end.new.self.rows.waits + 1 ≡ length c.args.world.now.rows.waits =
    ap (λ (v : World). length v.waits + 1) c.waits_end.ensures.step.rows ∙ length-one (waits_as c.args.by.now.number) c.args.world.now.rows.waits c.requires.waits c.requires.once in
    let entries = c.send_event.ensures.entries in
    omega (arith, rest, entries)
