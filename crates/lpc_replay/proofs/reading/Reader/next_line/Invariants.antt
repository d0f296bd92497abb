use Rattle.std.proofs.Common.{◌≡◌, ◌+◌, ◌-◌, ◌≤◌, [], true, false, length}
use Rattle.lpc_base.specs.declared.limits.TheConstants.{LINE_LIMIT}
use Rattle.lpc_script.specs.Feeding.{has_end}
use Rattle.lpc_replay.specs.Reading.{IsAskedForPieces}
use Rattle.lpc_replay.proofs.Taking.{HasTaken}
use Rattle.lpc_replay.proofs.reading.Reader.next_line.Given as goal

abbrev pub invariant-loop-self : goal.invariant-loop-self
invariant-loop-self g l = record {
  taken : HasTaken (g.S.Source.left l.fn.source) (g.S.Source.left l.source) l.fn.self.piece l.self.line.line l.self.piece;
  still_open : l.self.line.is_open ≡ true;
  empty : l.is_full ≡ true → l.self.line.line ≡ [];
  lacks : has_end l.self.line.line ≡ false;
  limit : length l.self.line.line ≤ LINE_LIMIT;
  faults : g.S.Source.faults l.source ≡ g.S.Source.faults l.fn.source;
  asked : IsAskedForPieces (g.S.Source.asked l.fn.source) (g.S.Source.asked l.source);
  runs : (g.S.Source.asked l.fn.source).running ≡ true → (g.S.Source.asked l.source).running ≡ true;
}

abbrev pub decreases-loop-self : goal.decreases-loop-self
decreases-loop-self g l = LINE_LIMIT + 1 - length l.self.line.line
