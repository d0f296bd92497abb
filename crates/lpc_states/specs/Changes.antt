-- What becomes of rows in a line: which came, which changed, and which went.
use Rattle.std.specs.Prelude.{ℕ, Bool, List, [], ◌∷◌, ◌++◌, Option, None, Some, codes, decimal, if◌then◌else◌}
use Rattle.std.specs.List.{flat_map}
use Rattle.std.specs.Str.{bytes_eq}
use Rattle.lpc_base.specs.Rows.{has}
use Rattle.lpc_model.specs.Script.{script_lines}
use Rattle.lpc_model.specs.Words.{split_once}
use Rattle.lpc_model.specs.World.{World}
use Rattle.lpc_states.specs.Rows.{rows_text}
use Rattle.lpc_states.specs.Values.{joined}

-- the name of a row: what stands before its first comma
abbrev pub before : List ℕ → Option (List ℕ × List ℕ) → List ℕ
before row None = row
before row (Some parts) = parts.0

abbrev pub name_of : List ℕ → List ℕ
name_of row = before row (split_once 44 row)

-- a row is this one; it has this name
abbrev pub is_row : List ℕ → List ℕ → Bool
is_row row other = bytes_eq other row

abbrev pub is_named : List ℕ → List ℕ → Bool
is_named name other = bytes_eq (name_of other) name

-- the line that tells of a row: the number of the script's line, what became of the row, and the row, or its name
unfoldable pub told_as : ℕ → List ℕ → List ℕ → List ℕ
told_as n word row = joined (
    codes "{\"line\":" ∷ decimal n
    ∷ codes ",\"" ∷ word
    ∷ codes "\":" ∷ row
    ∷ codes "}\n"
    ∷ []
    )

-- a row that stands behind a line whose world before had these rows: it came, or changed; or nothing is told
unfoldable pub came_or_changed : ℕ → List (List ℕ) → List ℕ → List ℕ
came_or_changed n before row =
    if has (is_row row) before then []
    else told_as n (if has (is_named (name_of row)) before then codes "changed" else codes "came") row

-- a row that stood before a line: it went, where no row behind it has its name
unfoldable pub went : ℕ → List (List ℕ) → List ℕ → List ℕ
went n after row = if has (is_named (name_of row)) after then [] else told_as n (codes "went") (name_of row)

-- what is told of two lists of rows
unfoldable pub changes : ℕ → List (List ℕ) → List (List ℕ) → List ℕ
changes n before after = flat_map (went n after) before ++ flat_map (came_or_changed n before) after

-- the rows of a world
abbrev pub rows : World → List (List ℕ)
rows w = script_lines (rows_text w)

-- what a line of this number tells of the rows of its world
abbrev pub states_text : ℕ → World → World → List ℕ
states_text n before after = changes n (rows before) (rows after)
