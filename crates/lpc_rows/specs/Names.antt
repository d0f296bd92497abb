-- Keys with the births of their objects: the program's rows name objects by keys, the definitions' rows by births.
use Rattle.std.specs.Prelude.{◌≡◌, List, [], ◌∷◌, Bool, true, false, cond, not, ◌&&◌, Option, Some, None, map}
use Rattle.lpc_base.specs.declared.birth.Birth.{Birth}
use Rattle.lpc_base.specs.Rows.{every}
use Rattle.lpc_model.specs.Found.{same_birth}
use Rattle.lpc_slots.specs.Table.{is_key}
use Rattle.lpc_slots.specs.declared.Key.{Key}

-- keys with the births of their objects, in order of making
abbrev pub Names : Type 0
Names = List (Key × Birth)

-- the birth of the object at a key
unfoldable pub name_of : Names → Key → Birth
name_of [] key = record { maker = 0; ordinal = 0; process = 0 }
name_of (n ∷ names) key = cond (is_key n.0 key) n.1 (name_of names key)

-- an object stands at the key
unfoldable pub stands : Names → Key → Bool
stands [] key = false
stands (n ∷ names) key = cond (is_key n.0 key) true (stands names key)

-- an object stands at an optional key, where there is one
abbrev pub some_stands : Names → Option Key → Bool
some_stands names None = true
some_stands names (Some key) = stands names key

-- what stood stands, under its name
pub record KeepsNames (old new : Names) : Type 0 where
  pub name : (key : Key) → stands old key ≡ true → name_of new key ≡ name_of old key
  pub there : (key : Key) → stands old key ≡ true → stands new key ≡ true

-- what stood and isn't this key stands, under its name
pub record KeepsOthers (gone : Key) (old new : Names) : Type 0 where
  pub name : (key : Key) → is_key key gone ≡ false → stands old key ≡ true → name_of new key ≡ name_of old key
  pub there : (key : Key) → is_key key gone ≡ false → stands old key ≡ true → stands new key ≡ true

-- two entries have other keys and other births
abbrev pub differs : Key × Birth → Key × Birth → Bool
differs n m = not (is_key n.0 m.0) && not (same_birth n.1 m.1)

-- no two entries have one key or one birth
unfoldable pub are_apart : Names → Bool
are_apart [] = true
are_apart (n ∷ names) = every (differs n) names && are_apart names

-- the entries of rows that have keys and births
abbrev pub names_of : {R : Type 0} → (R → Birth) → List (Key × R) → Names
names_of birth rows = map (λ row. (row.0, birth row.1)) rows
