use Rattle.std.proofs.Common.{sym}
use Rattle.lpc_states.specs.Searching.{is_sought}
use Rattle.lpc_states.proofs.changes.is_sought.Goals as goal

pub returns-in-Row : goal.returns-in-Row
unfolding is_sought
returns-in-Row c = rw c.in-Row.is c.eq.ensures

pub returns-in-Name : goal.returns-in-Name
unfolding is_sought
returns-in-Name c = rw (c.in-Name.is, sym c.name_of.ensures) c.eq-in-Name.ensures
