-- Chains of rows by a number of each row: those whose numbers leave one remainder stand on one chain.
use Rattle.std.specs.Prelude.{◌≡◌, ◌==◌, ◌%◌, ◌++◌, ℕ, Bool, List, [], ◌∷◌, Option, None, Some, length, option_and_then, slice_get}
use Rattle.lpc_base.specs.Rows.{first, which, without}
use Rattle.lpc_slots.specs.declared.Key.{Key}
use Rattle.lpc_slots.specs.declared.chain.Links.{Links}
use Rattle.lpc_slots.specs.declared.chain.Chain.{Chain}
use Rattle.lpc_slots.specs.Table.{Table, at_key, keys_of}
use Rattle.lpc_slots.specs.Chain.{IsAway, IsDistinct, Relinks, StandsFor}

-- a row's number leaves this remainder
abbrev pub leaves : ℕ → ℕ → Key × ℕ → Bool
leaves many rest row = (row.1 % many) == rest

-- the keys of such rows, in order
abbrev pub keys_in : ℕ → ℕ → List (Key × ℕ) → List Key
keys_in many rest rows = keys_of (which (leaves many rest) rows)

-- the row of this key is one of the rows, which have different keys, and has this number
pub record IsPlaced (key : Key) (number : ℕ) (rows : List (Key × ℕ)) : Type 0 where
  pub distinct : IsDistinct (keys_of rows)
  pub stands : first (at_key key) rows ≡ Some (key, number)

module _ {LIST : ℕ} where
  -- the first key on the chain of a number
  abbrev pub first_under : List (Chain LIST) → ℕ → Option Key
  first_under chains number = option_and_then (λ (chain : Chain LIST). chain.first) (slice_get chains (number % length chains))

  -- each chain is empty
  abbrev pub AreEmpty : List (Chain LIST) → Type 0
  AreEmpty chains = (rest : ℕ) (chain : Chain LIST) → slice_get chains rest ≡ Some chain → (chain.first ≡ None) × (chain.last ≡ None)

  module _ {T : Type 0} (links_of : T → Links) where
    -- each chain stands for the rows whose numbers leave its place as the remainder
    abbrev pub Stand : Table T → List (Chain LIST) → List (Key × ℕ) → Type 0
    Stand s chains rows = (rest : ℕ) (chain : Chain LIST) → slice_get chains rest ≡ Some chain → StandsFor links_of s chain (keys_in (length chains) rest rows)

    -- they stand for some rows of which this is one
    abbrev pub HasPlaced : Table T → List (Chain LIST) → Key → ℕ → Type 0
    HasPlaced s chains key number = (rows : List (Key × ℕ)) × Stand s chains rows × IsPlaced key number rows

    -- a row comes behind the others, and one goes
    abbrev pub Enters : Table T → Table T → List (Chain LIST) → List (Chain LIST) → Key → ℕ → Type 0
    Enters old new from to key number =
        (rows : List (Key × ℕ)) → Stand old from rows → IsDistinct (keys_of rows) → IsAway (Some key) (keys_of rows)
        → Stand new to (rows ++ (key, number) ∷ [])

    abbrev pub Leaves : Table T → Table T → List (Chain LIST) → List (Chain LIST) → Key → ℕ → Type 0
    Leaves old new from to key number =
        (rows : List (Key × ℕ)) → Stand old from rows → IsPlaced key number rows → Stand new to (without (at_key key) rows)

-- no values change but in their links
abbrev pub RelinksSome : {T : Type 0} → (T → Links → T) → Table T → Table T → Type 0
RelinksSome with_links old new = (keys : List Key) × Relinks with_links keys old new
