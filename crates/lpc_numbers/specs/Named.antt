-- The first number of each birth.
use Rattle.std.specs.Prelude.{ℕ, ◌≡◌, ◌≤◌, ◌++◌, ◌%◌, Bool, List, Option, None, Some, option_map, if◌then◌else◌, true}
use Rattle.std.specs.Hash as fed
use Rattle.std.specs.Map.{lookup}
use Rattle.lpc_base.specs.Births.{same_birth}
use Rattle.lpc_base.specs.Rows.{count, first}
use Rattle.lpc_base.specs.declared.birth.Birth.{Birth}
use Rattle.lpc_numbers.specs.Recent.{AreRight}
use Rattle.lpc_numbers.specs.declared.named.Name.{Name}
use Rattle.lpc_numbers.specs.declared.recent.TheConstants.{SPOTS}

-- what of a birth goes into its hash: who made it, and which of its maker's objects it is
abbrev pub hashed : Name → List (List ℕ)
hashed name = fed.u32 name.birth.maker ++ fed.u32 name.birth.ordinal

-- a number's birth is this one
abbrev pub is_named : Birth → ℕ × Birth → Bool
is_named birth e = same_birth e.1 birth

-- the first number of a birth
abbrev pub number_named : List (ℕ × Birth) → Birth → Option ℕ
number_named entries birth = option_map (λ e. e.0) (first (is_named birth) entries)

-- the number that is kept under a birth
abbrev pub number_in : List (Name × ℕ) → Birth → Option ℕ
number_in names birth = lookup (λ name. same_birth name.birth birth) names

-- where a birth stands among those that came or went last, and that what stands there is right
abbrev pub spot_of : Birth → ℕ
spot_of birth = birth.ordinal % SPOTS

abbrev pub AreRecent : List (Name × ℕ) → List (Birth × Option ℕ) → Type 0
AreRecent names recent = AreRight spot_of same_birth (number_in names) recent

-- this one, or another where there is none
abbrev pub or_else : Option ℕ → Option ℕ → Option ℕ
or_else None other = other
or_else (Some n) other = Some n

-- the number that a birth has once this one is put behind the others
abbrev pub with_number : Birth → ℕ → Birth → Option ℕ
with_number birth number b = if same_birth birth b then Some number else None

-- a birth takes the number where it has none, and no other does
abbrev pub Takes : Birth → ℕ → List (Name × ℕ) → List (Name × ℕ) → Type 0
Takes birth number old new = (b : Birth) → number_in new b ≡ or_else (number_in old b) (with_number birth number b)

-- a birth has no number then, and each other has what it had
abbrev pub Forgets : Birth → List (Name × ℕ) → List (Name × ℕ) → Type 0
Forgets birth old new = (b : Birth) → number_in new b ≡ (if same_birth b birth then None else number_in old b)

-- the first number of each birth, how many more go in without memory, and whether no birth came twice
pub record Named : Type 0 where
  pub firsts : List (Name × ℕ)
  pub room : ℕ
  pub single : Bool

-- The births of the entries are those that came: where none came twice, under each its number is kept, and no two
-- entries have it.
pub record IsOnlyNamed (entries : List (ℕ × Birth)) (names : Named) (birth : Birth) : Type 0 where
  pub kept : number_in names.firsts birth ≡ number_named entries birth
  pub one : count (is_named birth) entries ≤ 1

abbrev pub AreNamed : List (ℕ × Birth) → Named → Type 0
AreNamed entries names = names.single ≡ true → (birth : Birth) → IsOnlyNamed entries names birth
