use Rattle.std.proofs.Common.{◌≡◌, ◌+◌, ◌*◌, drop}
use Rattle.lpc_handles.proofs.Places.{free_in, place_in}
use Rattle.lpc_handles.proofs.table.free_place.Given as goal

abbrev pub invariant-loop-index : goal.invariant-loop-index
invariant-loop-index g l = record {
  value : l.value ≡ 4 + 4 * l.index;
  free : free_in l.value (drop l.index l.rows) ≡ free_in 4 l.rows;
  place : l.index + place_in l.value (drop l.index l.rows) ≡ place_in 4 l.rows;
}
