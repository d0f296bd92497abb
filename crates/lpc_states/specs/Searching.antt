-- How a row is looked for among others.
use Rattle.std.specs.Prelude.{◌≡◌, ℕ, Bool, List, ◌++◌}
use Rattle.lpc_model.specs.Script.{script_lines}
use Rattle.lpc_states.specs.Changes.{is_named, is_row}
use Rattle.lpc_states.specs.declared.changes.Sought.{Sought}
use Rattle.lpc_states.specs.declared.changes.Sought.TheVariants as by

-- a row is what is looked for: this row, or one of this name
unfoldable pub is_sought : Sought → List ℕ → List ℕ → Bool
is_sought by.Row wanted row = is_row wanted row
is_sought by.Name wanted row = is_named wanted row

-- some rows stand behind others in a text
pub record IsBehind (rows rest : List ℕ) : Type 0 where
  pub front : List (List ℕ)
  pub parts : script_lines rows ≡ front ++ script_lines rest
