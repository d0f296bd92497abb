-- How many there are of each number, as it is kept.
use Rattle.std.specs.Prelude.{ℕ, ◌≡◌, ◌+◌, ◌==◌, Bool, true, List, if◌then◌else◌, nat_eq, unwrap_or}
use Rattle.std.specs.Map.{lookup}

-- the numbers with their counts, and whether each was counted
pub record Tally : Type 0 where
  pub entries : List (ℕ × ℕ)
  pub whole : Bool

-- the count of a number, 0 of one that has none
abbrev pub count_in : List (ℕ × ℕ) → ℕ → ℕ
count_in entries n = unwrap_or (lookup (nat_eq n) entries) 0

-- what one of a number adds to the count of a number
abbrev pub one_for : ℕ → ℕ → ℕ
one_for n number = if n == number then 1 else 0

-- there is one more of the number, as long as each is counted
pub record Gains (number : ℕ) (old new : Tally) : Type 0 where
  pub whole : old.whole ≡ true
  pub counts : (n : ℕ) → count_in new.entries n ≡ count_in old.entries n + one_for n number

-- there are so many less of the number, and one less, as long as each is counted
pub record LosesMany (number many : ℕ) (old new : Tally) : Type 0 where
  pub whole : old.whole ≡ true
  pub counts : (n : ℕ) → count_in new.entries n + (if n == number then many else 0) ≡ count_in old.entries n

abbrev pub Loses : ℕ → Tally → Tally → Type 0
Loses number old new = LosesMany number 1 old new
