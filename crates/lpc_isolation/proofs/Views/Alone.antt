-- Short words for the law's proof: a process alone, and what the circle says of a world's processes and ports and of what
-- outsiders write.
use Rattle.std.specs.Prelude.{◌≡◌, ℕ, ◌==◌, Bool, List, true}
use Rattle.lpc_base.specs.Rows.{every, has}
use Rattle.lpc_model.specs.World.{Birth, World}
use Rattle.lpc_model.specs.Basics.{Basic}
use Rattle.lpc_model.specs.Circle.{Group, is_fine_port, is_fine_process, is_write_of, outsider_sees, is_fine_raiser}

-- the group of one process
abbrev pub alone : ℕ → Group
alone c = λ p. p == c

-- what the circle says of the processes and the ports of a world
abbrev pub HasFineRows : Group → ℕ → World → Type 0
HasFineRows group c w = (every (is_fine_process group) w.processes ≡ true) × (every (is_fine_port group c) w.ports ≡ true)

-- and of the ports that are told of members' exceptions
abbrev pub HasFineRaisers : Group → World → Type 0
HasFineRaisers group w = every (is_fine_raiser group w) w.processes ≡ true

-- what outsiders' views show is outer, and what an outsider's steps write
abbrev pub ShowsOuter : Group → (Birth → Bool) → World → Type 0
ShowsOuter group outer w = (b : Birth) → has (outsider_sees group b) w.views ≡ true → outer b ≡ true

abbrev pub WritesOuter : (Birth → Bool) → List Basic → Type 0
WritesOuter outer bs = (b : Birth) → has (is_write_of b) bs ≡ true → outer b ≡ true
