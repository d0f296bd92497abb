-- What contracts see of the handles of one process.
use Rattle.std.specs.Prelude.{ℕ, ◌+◌, ◌%◌, ◌≤◌, ◌≡◌, ◌==◌, ◌&&◌, Bool, true, not, nat_lt, List, [], ◌∷◌, ◌++◌, insert, map, Option, None, is_some, option_map, refl}
use Rattle.std.specs.Coded.{Coded, code_by, coded×, coded_ℕ, coded_list}
use Rattle.lpc_base.specs.Rows.{first, which}
use Rattle.lpc_handles.specs.declared.table.Row.{Row}

-- the handles by rising value, each under its value; how many more go in without memory
pub record Handles (O : Type 0) : Type 0 where
  pub rows : List (ℕ × Row O)
  pub spare : ℕ

abbrev pub row_code : {O : Type 0} → Coded O → Coded (Row O)
row_code {O} code = code_by (O × ℕ) (coded× code coded_ℕ) (λ r. (r.object, r.access)) (λ p. record { object = p.0; access = p.1 }) (λ _. refl)

abbrev pub handles_code : {O : Type 0} → Coded O → Coded (Handles O)
handles_code {O} code =
    code_by (List (ℕ × Row O) × ℕ) (coded× (coded_list (coded× coded_ℕ (row_code code))) coded_ℕ) (λ h. (h.rows, h.spare)) (λ p. record { rows = p.0; spare = p.1 }) (λ _. refl)

module _ {O : Type 0} where
  -- what a new handle names and grants
  abbrev pub new_row : O → ℕ → Row O
  new_row object access = record { object = object; access = access }

  -- a handle has the value
  abbrev pub has_value : ℕ → ℕ × Row O → Bool
  has_value value row = row.0 == value

  -- a handle names the object, as told by a test of two objects
  abbrev pub is_named : (O → O → Bool) → O → ℕ × Row O → Bool
  is_named same object row = same row.1.object object

  -- a handle's value isn't below this one
  abbrev pub is_from : ℕ → ℕ × Row O → Bool
  is_from value row = not (nat_lt row.0 value)

  -- a handle's value is below this one, or above it
  abbrev pub is_below : ℕ → ℕ × Row O → Bool
  is_below value row = nat_lt row.0 value

  abbrev pub is_above : ℕ → ℕ × Row O → Bool
  is_above value row = nat_lt value row.0

  -- the values in use
  abbrev pub values : List (ℕ × Row O) → List ℕ
  values rows = map (λ row. row.0) rows

  -- what the handle with a value names and grants
  abbrev pub at : List (ℕ × Row O) → ℕ → Option (Row O)
  at rows value = option_map (λ row. row.1) (first (has_value value) rows)

  -- the handles with one more, behind those of lesser values and before those of greater ones
  abbrev pub with_row : List (ℕ × Row O) → ℕ → Row O → List (ℕ × Row O)
  with_row rows value row = which (is_below value) rows ++ (value, row) ∷ which (is_above value) rows

  -- the handles come to have one more, of this value
  abbrev pub Gains : List (ℕ × Row O) → Row O → List (ℕ × Row O) → ℕ → Type 0
  Gains old row new value = new ≡ with_row old value row

  -- a handle of the value goes in at the index, whatever it names
  abbrev pub IsPlaceOf : List (ℕ × Row O) → ℕ → ℕ → Type 0
  IsPlaceOf rows index value = (row : Row O) → insert rows index (value, row) ≡ with_row rows value row

  -- the least value that isn't below this one, and that there is none
  abbrev pub first_from : List (ℕ × Row O) → ℕ → Option ℕ
  first_from rows value = option_map (λ row. row.0) (first (is_from value) rows)

  abbrev pub HasNoneFrom : List (ℕ × Row O) → ℕ → Type 0
  HasNoneFrom rows value = (other : ℕ) → value ≤ other → at rows other ≡ None

  -- the values are multiples of 4 that rise, none below `least`
  abbrev pub are_rising : ℕ → List (ℕ × Row O) → Bool
  are_rising least [] = true
  are_rising least (row ∷ rows) = is_from least row && ((row.0 % 4 == 0) && are_rising (row.0 + 4) rows)

  -- the values still rise with a handle of this value at the index
  abbrev pub KeepsRising : List (ℕ × Row O) → ℕ → ℕ → Type 0
  KeepsRising rows index value = (row : Row O) → are_rising 4 (insert rows index (value, row)) ≡ true

  -- the value is in use and not below another one, and each such value is at least it
  pub record IsLeastFrom (rows : List (ℕ × Row O)) (from value : ℕ) : Type 0 where
    pub used : is_some (at rows value) ≡ true
    pub within : from ≤ value
    pub least : (other : ℕ) → from ≤ other → is_some (at rows other) ≡ true → value ≤ other
