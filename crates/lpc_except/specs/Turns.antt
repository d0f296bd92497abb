-- The turn of the first marked event.
use Rattle.std.specs.Prelude.{ℕ, List, [], ◌∷◌}
use Rattle.lpc_model.specs.Basics.{Basic}
use Rattle.lpc_model.specs.Raise.{go_on}
use Rattle.lpc_model.specs.World.{World}

-- it goes on; nothing happens where none is marked
abbrev pub marked_turn_by : World → List ℕ → List Basic
marked_turn_by w [] = []
marked_turn_by w (tid ∷ later) = go_on tid w

abbrev pub marked_turn : World → List Basic
marked_turn w = marked_turn_by w w.marks
