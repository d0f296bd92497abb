-- What holds of the walk for all bindings.
use Rattle.std.specs.Prelude.{◌≡◌, ℕ, suc, Bool, false, List, [], Some, Ok}
use Rattle.lpc_names.specs.declared.names.Found.TheVariants.{Item}
use Rattle.lpc_names.specs.Path.{Path, same_path, spelled}
use Rattle.lpc_names.specs.Walk.{Bindings, Found, Node, Stands, Place, Turns, node_at, way, walk_by, walk, lookup, free_path}
use Rattle.lpc_names.specs.Binding.{bound, has_name, without_name}

-- an item or a directory that was bound is what its path leads to
abbrev pub BoundIsFound : Type 0 → Type 0
BoundIsFound T = (bindings after : Bindings T) (text : List ℕ) (found : Found T) → bound bindings text (Stands found) ≡ Ok after → lookup after text ≡ Ok found

-- a binding puts its node at one path, and leaves what every other path names
abbrev pub BindingChangesOnePath : Type 0 → Type 0
BindingChangesOnePath T = (bindings after : Bindings T) (text : List ℕ) (place : Path) (node : Node T) → free_path bindings text ≡ Ok place → bound bindings text node ≡ Ok after
    → (node_at after place ≡ Some node) × ((path : Path) → same_path path place ≡ false → node_at after path ≡ node_at bindings path)

-- no path leads to an item that has no name
abbrev pub NamelessIsNotFound : {T : Type 0} → (T → T → Bool) → Type 0
NamelessIsNotFound {T} same = (bindings : Bindings T) (item other : T) (text : List ℕ) → has_name same item bindings ≡ false → lookup bindings text ≡ Ok (Item other) → same other item ≡ false

-- an item has one name at most
abbrev pub HasOneName : {T : Type 0} → (T → T → Bool) → T → Bindings T → Type 0
HasOneName same item bindings = has_name same item (without_name same item bindings) ≡ false

-- no path leads to an item whose one name was taken away
abbrev pub UnboundIsNotFound : {T : Type 0} → (T → T → Bool) → Type 0
UnboundIsNotFound {T} same = (bindings : Bindings T) (item other : T) (text : List ℕ) → HasOneName same item bindings → lookup (without_name same item bindings) text ≡ Ok (Item other) → same other item ≡ false

-- where a link stands on the way, the walk is that of the path that comes in its place, with one replacement less
abbrev pub LinkGivesWay : Type 0 → Type 0
LinkGivesWay T = (bindings : Bindings T) (left : ℕ) (path other : Path) → way bindings [] path ≡ Ok (Turns other) → walk_by (suc left) bindings path ≡ walk_by left bindings other

-- a text with a link on its way leads where the direct text leads, if that takes no more than 31 replacements
abbrev pub LinkedPathLeadsAsDirect : Type 0 → Type 0
LinkedPathLeadsAsDirect T = (bindings : Bindings T) (text direct : List ℕ) (path other : Path) (place : Place T) → spelled text ≡ Ok path → spelled direct ≡ Ok other → way bindings [] path ≡ Ok (Turns other) → walk_by 31 bindings other ≡ Ok place
    → (walk bindings text ≡ Ok place) × (walk bindings direct ≡ Ok place)
