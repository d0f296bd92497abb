-- How the code keeps paths: as texts without links. Of the public clauses that of `binding_at` alone cites this module.
use Rattle.std.specs.Prelude.{◌≡◌, ℕ, suc, Bool, true, false, ◌==◌, if◌then◌else◌, List, [], ◌∷◌, ◌++◌, map, MatchResult, Option, Result, Ok, Err}
use Rattle.std.specs.Borrow.{Bor}
use Rattle.std.specs.Option.{option_copied, option_map}
use Rattle.arrayvec.specs.ArrayVec.{ArrayVec}
use Rattle.lpc_names.specs.Binding.{bound}
use Rattle.lpc_names.specs.Walk as names
use Rattle.lpc_names.specs.declared.names.Node as kept
use Rattle.lpc_names.specs.declared.names.Node.TheVariants as kept_as
use Rattle.lpc_names.specs.declared.names.Place as place
use Rattle.lpc_names.specs.declared.names.Way as way
use Rattle.lpc_names.specs.declared.names.Way.TheVariants as way_as
use Rattle.lpc_names.specs.declared.fault.NameFault.{NameFault}
use Rattle.lpc_names.specs.declared.fault.NameFault.TheVariants.{NameInvalid}
use Rattle.lpc_names.specs.Path.{Path, is_too_long, parts_of}
use Rattle.lpc_names.specs.Walk.{Node, Stands, LinkTo, Bindings, Place, Way, Ends, Turns, node_at}

-- the path of a text in which each component stands behind a backslash
abbrev pub path_of : List ℕ → Path
path_of [] = []
path_of (backslash ∷ names) = parts_of names

-- a text is empty or begins with a backslash
abbrev pub begins_part : List ℕ → Bool
begins_part [] = true
begins_part (byte ∷ bytes) = byte == 92

-- how many bytes stand before the first backslash
abbrev pub name_length : List ℕ → ℕ
name_length [] = 0
name_length (byte ∷ bytes) = if byte == 92 then 0 else suc (name_length bytes)

module _ {T : Type 0} where
  -- what a name stands for
  abbrev pub shown_node : kept.Node T → Node T
  shown_node (kept_as.Stands found) = Stands found
  shown_node (kept_as.Link target) = LinkTo (path_of target.items)

  -- an entry of the table, whose key is a path without its first backslash
  abbrev pub shown : ArrayVec ℕ × kept.Node T → Path × Node T
  shown entry = (parts_of entry.0.items, shown_node entry.1)

  -- the bindings, in the table's order
  abbrev pub shown_all : List (ArrayVec ℕ × kept.Node T) → Bindings T
  shown_all entries = map shown entries

  -- what is bound at the path of a text, and the bindings with one more at it
  abbrev pub node_of : Bindings T → List ℕ → Option (Node T)
  node_of bindings text = node_at bindings (path_of text)

  abbrev pub with_node_at : Bindings T → List ℕ → Node T → Bindings T
  with_node_at bindings text node = bindings ++ (path_of text, node) ∷ []

  -- the bindings with one more, where a text leads
  abbrev pub bound_node : Bindings T → List ℕ → kept.Node T → Result (Bindings T) NameFault
  bound_node bindings text node = bound bindings text (shown_node node)

  -- what is lent of the table, seen so
  abbrev pub seen_node : Option (Bor (kept.Node T)) → Option (Node T)
  seen_node node = option_map shown_node (option_copied node)

  -- the way along a text
  abbrev pub way_of : Bindings T → List ℕ → Result (Way T) NameFault
  way_of bindings text = names.way bindings [] (path_of text)

  -- the end of a walk
  abbrev pub shown_place : place.Place T → Place T
  shown_place p = record { path = path_of p.path.items; found = p.found }

  -- how a walk goes on
  abbrev pub shown_way : way.Way T → Way T
  shown_way (way_as.Ends found) = Ends found
  shown_way (way_as.Turns text) = Turns (path_of text.items)

-- an answer, seen as the definitions have it
abbrev pub seen : {A B E : Type 0} → (A → B) → Result A E → Result B E
seen view (Ok value) = Ok (view value)
seen view (Err fault) = Err fault

-- a text that is answered, seen as its path
abbrev pub seen_path : {E : Type 0} → Result (ArrayVec ℕ) E → Result Path E
seen_path answer = seen (λ text. path_of text.items) answer

-- the answer is the whole path, or that it is too long
abbrev pub IsJoined : Path → Result (ArrayVec ℕ) NameFault → Type 0
IsJoined whole answer = MatchResult answer
    (λ text. (path_of text.items ≡ whole) × (is_too_long whole ≡ false))
    (λ fault. (fault ≡ NameInvalid) × (is_too_long whole ≡ true))
