-- How many names lead to ports of each number. No public clause cites this module.
use Rattle.std.specs.Prelude.{ℕ, ◌≡◌, ◌%◌, ◌==◌, Bool, false, true}
use Rattle.lpc_base.specs.Rows.{count}
use Rattle.lpc_names.specs.Path.{Path}
use Rattle.lpc_names.specs.Walk.{Bindings, LinkTo, Node, Stands}
use Rattle.lpc_names.specs.declared.names.Found.TheVariants.{Directory, Item}
use Rattle.lpc_numbers.specs.Tally.{Tally, count_in}
use Rattle.lpc_slots.specs.declared.Key.{Key}

-- the number under which the names of a port are counted
abbrev pub number_of : Key → ℕ
number_of key = key.index % 4294967296

-- a name of a port of this number
abbrev pub leads_to : ℕ → Node Key → Bool
leads_to n node = elim node [
  | LinkTo target ↦ false
  | Stands found ↦ elim found [ Directory ↦ false | Item key ↦ number_of key == n ]
]

abbrev pub is_numbered : ℕ → Path × Node Key → Bool
is_numbered n binding = leads_to n binding.1

-- as long as the tally is whole, it has of each number how many names lead to its ports
abbrev pub IsTold : Bindings Key → Tally → Type 0
IsTold bindings tally = tally.whole ≡ true → (n : ℕ) → count_in tally.entries n ≡ count (is_numbered n) bindings
