-- Values under numbers that differ.
use Rattle.std.specs.Prelude.{ℕ, ◌==◌, Bool, List, map, Option, option_map}
use Rattle.lpc_base.specs.Rows.{first}

-- the numbers with their values, in the order in which they came, and how many more go in without memory
pub record Numbered (V : Type 0) : Type 0 where
  pub entries : List (ℕ × V)
  pub room : ℕ

-- an entry has the number
abbrev pub is_at : {V : Type 0} → ℕ → ℕ × V → Bool
is_at number e = e.0 == number

-- the value under a number
abbrev pub value_at : {V : Type 0} → List (ℕ × V) → ℕ → Option V
value_at entries number = option_map (λ e. e.1) (first (is_at number) entries)

-- the numbers alone
abbrev pub numbers : {V : Type 0} → List (ℕ × V) → List ℕ
numbers entries = map (λ e. e.0) entries
