use Rattle.std.proofs.Common.{refl}
use Rattle.std.specs.Fmt.{digits}
use Rattle.lpc_sid.specs.Spelling.{spelling}
use Rattle.lpc_sid.proofs.token.Token.system.Goals as goal

pub returns-clause-user : goal.returns-clause-user
unfolding spelling digits
returns-clause-user c = rw c.well_known-3.ensures refl

pub returns-clause-groups : goal.returns-clause-groups
unfolding spelling digits
returns-clause-groups c = rw (c.push-2.ensures.items, c.push.ensures.items, c.new-groups.ensures, c.well_known.ensures, c.well_known-2.ensures) refl
