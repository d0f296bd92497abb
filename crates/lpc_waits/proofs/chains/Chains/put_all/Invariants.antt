use Rattle.std.proofs.Common.{take}
use Rattle.lpc_waits.specs.Lent.{keyed}
use Rattle.lpc_waits.specs.Layout.{AreOn, AreWide, KeepsRows}
use Rattle.lpc_waits.proofs.chains.Chains.put_all.Given as goal

-- the chains stand for the rows up to the place
abbrev pub invariant-loop-place : goal.invariant-loop-place
invariant-loop-place l = record {
  on : AreOn l.rows l.self (take l.place (keyed l.fn.rows));
  wide : AreWide l.self;
  rows : KeepsRows l.fn.rows l.rows;
}
