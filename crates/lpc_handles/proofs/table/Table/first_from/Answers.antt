use Rattle.lpc_handles.proofs.Places.{first-least, first-missing}
use Rattle.lpc_handles.proofs.table.Table.first_from.Goals as goal

pub returns-clause-least : goal.returns-clause-least
returns-clause-least g c = first-least c.args.value c.args.self.now.rows c.value_from.result (rw (← c.self.view_is) c.self.invariant.1) (rw (← c.self.view_is, ← c.deref.ensures.value) c.value_from.ensures)

pub returns-clause-none : goal.returns-clause-none
returns-clause-none g c = first-missing c.args.value c.args.self.now.rows c.value_from.result (rw (← c.self.view_is, ← c.deref.ensures.value) c.value_from.ensures)
