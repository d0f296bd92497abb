-- A name space whose items are seen as something else.
use Rattle.lpc_names.specs.declared.names.Found.{Found}
use Rattle.lpc_names.specs.declared.names.Found.TheVariants.{Directory, Item}
use Rattle.lpc_names.specs.Path.{Path}
use Rattle.lpc_names.specs.Walk.{Node, Stands, LinkTo}

module _ {T S : Type 0} (f : T → S) where
  -- what is found, with the item seen so
  abbrev pub found_as : Found T → Found S
  found_as Directory = Directory
  found_as (Item item) = Item (f item)

  -- what a name stands for
  abbrev pub node_as : Node T → Node S
  node_as (Stands found) = Stands (found_as found)
  node_as (LinkTo target) = LinkTo target

  -- a binding
  abbrev pub binding_as : Path × Node T → Path × Node S
  binding_as binding = (binding.0, node_as binding.1)
