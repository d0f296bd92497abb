use Rattle.std.proofs.Common.{◌≡◌}
use Rattle.lpc_homes.specs.Parts.{dropped}
use Rattle.lpc_homes.proofs.Places.{walked}
use Rattle.lpc_homes.proofs.parts.Parts.drop_owned_views.Given as goal

abbrev pub invariant-loop-place : goal.invariant-loop-place
invariant-loop-place l = record {
  parts : l.self.items ≡ walked (dropped l.owner) l.place l.initial.self.items;
  kept : l.self.room ≡ l.initial.self.room;
}
