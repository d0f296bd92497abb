-- The handles of a process that ends.
use Rattle.std.specs.Prelude.{ℕ, [], ◌∷◌}
use Rattle.lpc_handles.specs.declared.table.Row.{Row}
use Rattle.lpc_homes.specs.declared.object.Object.{Object}
use Rattle.lpc_model.specs.Basics.{DropsViewsOf, Steps, doing, ◌▹◌}
use Rattle.lpc_model.specs.Death.{close_handles}
use Rattle.lpc_model.specs.World.{HandleRow}
use Rattle.lpc_rows.specs.Clauses.{row_shown}
use Rattle.lpc_rows.specs.Kept.{Kept}

-- a handle's row, with its value
abbrev pub row_of : Kept → ℕ × Row Object → HandleRow
row_of w handle = row_shown w handle.0 handle.1

-- once the process's ports are let go, its handles are closed, and then its views go
abbrev pub closing_all : ℕ → Steps
closing_all pid = close_handles pid ▹ doing (DropsViewsOf pid ∷ [])
