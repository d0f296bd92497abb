-- How many sections and how many tokens are held: a section by a handle or a view, a token by a handle.
use Rattle.std.specs.Prelude.{ℕ, ◌≡◌, ◌||◌, Bool, List, length, if◌then◌else◌}
use Rattle.lpc_base.specs.Rows.{count, has}
use Rattle.lpc_homes.specs.Parts.{has_name_of, has_view_of}
use Rattle.lpc_homes.specs.declared.object.Object.TheVariants as object
use Rattle.lpc_homes.specs.declared.parts.Part.{Part}
use Rattle.lpc_slots.specs.Table.{is_key}
use Rattle.lpc_slots.specs.declared.Key.{Key}

-- so many keys pass: they can be listed, each of them once
pub record AreSoMany (passes : Key → Bool) (n : ℕ) : Type 0 where
  pub keys : List Key
  pub each_once : (key : Key) → count (is_key key) keys ≡ (if passes key then 1 else 0)
  pub number : length keys ≡ n

-- a handle of some process names the section, or a view of one shows it
abbrev pub is_held_section : List Part → Key → Bool
is_held_section parts key = has (has_name_of (object.Section key)) parts || has (has_view_of key) parts

-- a handle of some process names the token
abbrev pub is_held_token : List Part → Key → Bool
is_held_token parts key = has (has_name_of (object.Token key)) parts
