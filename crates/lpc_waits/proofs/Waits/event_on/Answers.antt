use Rattle.std.proofs.Common.{option_map, refl, ap, sym, ◌∙◌}
use Rattle.lpc_waits.specs.Table.{WaitingThread, is_event_on}
use Rattle.lpc_waits.specs.Kept.{is_event_row}
use Rattle.lpc_waits.specs.Lent.{keyed, shown}
use Rattle.lpc_waits.proofs.Found.{none-counted}
use Rattle.lpc_waits.proofs.Waits.event_on.Goals as goal

pub returns-then-self-eq0 : goal.returns-then-self-eq0
returns-then-self-eq0 c =
    let none = none-counted is_event_row (is_event_on c.args.marks.now c.args.port) (λ row off. rw off refl) (shown (keyed c.self.inside.rows)) (sym c.self.invariant.events_are ∙ c.if-self-eq0.true) in
    rw (← c.self.view_is) (sym (ap (option_map (λ (row : WaitingThread). row.thread)) none))

pub returns : goal.returns
returns c = c.thread_on.ensures
