use Rattle.std.proofs.Common.{arith}
use Rattle.std.proofs.lemmas.Nat.{le_or_r}
use Rattle.lpc_waits.proofs.chains.Chains.suit.Goals as goal

pub widen-requires : goal.widen-requires
widen-requires c = record { some = omega (arith, le_or_r c.saturating_add-wanted.result 1) }
