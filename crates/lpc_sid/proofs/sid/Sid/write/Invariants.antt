use Rattle.std.proofs.Common.{◌≡◌, ◌≤◌, ◌+◌, ◌*◌, ◌++◌, length, take}
use Rattle.std.specs.Prelude.{codes, decimal}
use Rattle.std.specs.List.{flat_map}
use Rattle.lpc_sid.specs.Spelling.{dashed}
use Rattle.lpc_sid.proofs.sid.Sid.write.Given as goal

abbrev pub invariant-loop-sub : goal.invariant-loop-sub
invariant-loop-sub l = record {
  text : l.into.bytes ≡ codes "S-1-" ++ decimal l.self.authority ++ flat_map dashed (take l.sub-index l.self.subs.items);
  room : length l.into.bytes ≤ 24 + 11 * l.sub-index;
}
