-- Where a path leads: the walk along its components, with at most 32 links replaced by their targets.
use Rattle.std.specs.Prelude.{ℕ, zero, suc, if◌then◌else◌, List, [], ◌∷◌, ◌++◌, Option, None, Some, Result, Ok, Err}
use Rattle.std.specs.Map.{lookup as value_of}
use Rattle.lpc_names.specs.declared.fault.NameFault.{NameFault}
use Rattle.lpc_names.specs.declared.fault.NameFault.TheVariants.{NameInvalid, PathNotFound, NameNotFound, Collision}
pub use Rattle.lpc_names.specs.declared.names.Found.{Found}
use Rattle.lpc_names.specs.declared.names.Found.TheVariants.{Directory, Item}
pub use Rattle.lpc_names.specs.Path.{Path}
use Rattle.lpc_names.specs.Path.{same_path, spelled, is_too_long}

-- what a name stands for: a directory or an item, or a link to the path that is its target
pub data Node (T : Type 0) : Type 0 where
  Stands : Found T → Node T
  LinkTo : Path → Node T

-- what each path names, in the order of binding; the root, which always stands, is never among them
abbrev pub Bindings : Type 0 → Type 0
Bindings T = List (Path × Node T)

-- where a path ends, and what stands there
pub record Place (T : Type 0) : Type 0 where
  pub path : Path
  pub found : Option (Found T)

-- how a walk goes on: it comes to the end of the path, or a link stands on the way and another path is to be walked
pub data Way (T : Type 0) : Type 0 where
  Ends : Option (Found T) → Way T
  Turns : Path → Way T

module _ {T : Type 0} where
  -- what is bound at a path
  abbrev pub node_at : Bindings T → Path → Option (Node T)
  node_at bindings path = value_of (same_path path) bindings

  -- no directory stands here, so this must be the end of the path
  abbrev pub at_end : Option (Found T) → Path → Result (Way T) NameFault
  at_end found [] = Ok (Ends found)
  at_end found (name ∷ rest) = Err PathNotFound

  -- a link gives way to its target and what follows it
  abbrev pub turned : Path → Result (Way T) NameFault
  turned path = if is_too_long path then Err NameInvalid else Ok (Turns path)

  -- the way on from what is bound here, with the way further along a directory
  abbrev pub past : Option (Node T) → Result (Way T) NameFault → Path → Result (Way T) NameFault
  past None further rest = at_end None rest
  past (Some (LinkTo target)) further rest = turned (target ++ rest)
  past (Some (Stands Directory)) further rest = further
  past (Some (Stands (Item item))) further rest = at_end (Some (Item item)) rest

  -- the way along the rest of a path behind the front, on which directories alone stand
  abbrev pub way : Bindings T → Path → Path → Result (Way T) NameFault
  way bindings front [] = Ok (Ends (Some Directory))
  way bindings front (name ∷ rest) = past (node_at bindings (front ++ name ∷ [])) (way bindings (front ++ name ∷ []) rest) rest

  -- the end of a walk, or the walk of another path
  abbrev pub onwards : Path → (Path → Result (Place T) NameFault) → Result (Way T) NameFault → Result (Place T) NameFault
  onwards path further (Err fault) = Err fault
  onwards path further (Ok (Ends found)) = Ok (record { path = path; found = found })
  onwards path further (Ok (Turns other)) = further other

  -- the walk of a path along which so many links may still be replaced
  unfoldable pub walk_by : ℕ → Bindings T → Path → Result (Place T) NameFault
  walk_by zero bindings path = onwards path (λ other. Err NameInvalid) (way bindings [] path)
  walk_by (suc left) bindings path = onwards path (walk_by left bindings) (way bindings [] path)

  -- the fault of a path's form, else its walk with at most 32 replacements
  abbrev pub walk_if : Bindings T → Result Path NameFault → Result (Place T) NameFault
  walk_if bindings (Err fault) = Err fault
  walk_if bindings (Ok path) = walk_by 32 bindings path

  -- the walk of what a text spells
  unfoldable pub walk : Bindings T → List ℕ → Result (Place T) NameFault
  walk bindings text = walk_if bindings (spelled text)

  -- what is found, which must not be missing
  abbrev pub there : Option (Found T) → Result (Found T) NameFault
  there None = Err NameNotFound
  there (Some found) = Ok found

  -- the path, where nothing may stand yet
  abbrev pub unless_taken : Path → Option (Found T) → Result Path NameFault
  unless_taken path None = Ok path
  unless_taken path (Some found) = Err Collision

  -- what stands at the end of a walk
  abbrev pub found_at : Result (Place T) NameFault → Result (Found T) NameFault
  found_at (Err fault) = Err fault
  found_at (Ok place) = there place.found

  -- the free path at the end of a walk
  abbrev pub free_at : Result (Place T) NameFault → Result Path NameFault
  free_at (Err fault) = Err fault
  free_at (Ok place) = unless_taken place.path place.found

  -- a look-up of a text
  abbrev pub lookup : Bindings T → List ℕ → Result (Found T) NameFault
  lookup bindings text = found_at (walk bindings text)

  -- the path at which a new name goes
  abbrev pub free_path : Bindings T → List ℕ → Result Path NameFault
  free_path bindings text = free_at (walk bindings text)
