use Rattle.std.proofs.Common.{◌≡◌, ◌+◌, ◌*◌, ◌≤◌, drop, map}
use Rattle.std.specs.List.{sum}
use Rattle.lpc_base.specs.Rows.{which}
use Rattle.lpc_base.specs.declared.limits.TheConstants.{SECTION_LIMIT}
use Rattle.lpc_model.specs.Memory.{is_section_of}
use Rattle.lpc_rows.specs.Shown.{shown_section}
use Rattle.lpc_slots.specs.Table.{listed}
use Rattle.lpc_world.proofs.world.sections.bytes_made_by.Given as goal

-- the bytes so far with those of the sections from the place on are those of all
abbrev pub invariant-loop-place : goal.invariant-loop-place
invariant-loop-place l = record {
  sum : l.bytes + sum (map (λ s. s.size) (which (is_section_of l.pid) (map shown_section (drop l.place (listed l.sections))))) ≡ sum (map (λ s. s.size) (which (is_section_of l.pid) (map shown_section (listed l.sections))));
  most : l.bytes ≤ SECTION_LIMIT * l.place;
}
