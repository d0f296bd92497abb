-- What was counted went to the writer, and each turn counts some more.
use Rattle.std.proofs.Common.{length, take, ◌-◌, ◌≤◌}
use Rattle.std.specs.Io.KnownBytes.{Appends}
use Rattle.ntlpc.proofs.edge.write_all.Given as goal

abbrev pub invariant-loop-count : goal.invariant-loop-count
invariant-loop-count g l = (l.count ≤ length l.text) ×
    Appends (g.W.Write.contents l.initial.writer) (g.W.Write.contents l.writer) (take l.count l.text)

abbrev pub decreases-loop-count : goal.decreases-loop-count
decreases-loop-count g l = length l.text - l.count
