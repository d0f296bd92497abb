-- The world with a name more, at the free path to which a text leads.
use Rattle.std.specs.Prelude.{ℕ, List, Result, Ok, Err}
use Rattle.lpc_base.specs.declared.birth.Birth.{Birth}
use Rattle.lpc_model.specs.Basics.{Binds, basic}
use Rattle.lpc_model.specs.World.{World}
use Rattle.lpc_base.specs.declared.error.OutOfMemory.{OutOfMemory}
use Rattle.lpc_base.specs.declared.status.Status.{Status}
use Rattle.lpc_base.specs.declared.status.TheConstants.{SUCCESS}
use Rattle.lpc_names.specs.Faults.{status_of}
use Rattle.lpc_names.specs.declared.fault.BindFault.{BindFault}
use Rattle.lpc_names.specs.declared.fault.BindFault.TheVariants as bind
use Rattle.lpc_names.specs.declared.fault.NameFault.{NameFault}
use Rattle.lpc_names.specs.Path.{Path, spelled}
use Rattle.lpc_names.specs.Walk.{LinkTo, Node, free_path}

-- the world with a path bound, where it is free
abbrev pub bound_at : World → Node Birth → Result Path NameFault → Result World NameFault
bound_at w node (Err fault) = Err fault
bound_at w node (Ok path) = Ok (basic w (Binds path node))

-- the world with a node where a text leads
abbrev pub with_name : World → List ℕ → Node Birth → Result World NameFault
with_name w text node = bound_at w node (free_path w.bindings text)

-- the world with a link to a path, which must have been spelled
abbrev pub linked_at : World → List ℕ → Result Path NameFault → Result World NameFault
linked_at w text (Err fault) = Err fault
linked_at w text (Ok target) = with_name w text (LinkTo target)

-- the world with a link from where a text leads to what another spells
abbrev pub with_link : World → List ℕ → List ℕ → Result World NameFault
with_link w text target = linked_at w text (spelled target)

-- the status of a directive that binds a name
abbrev pub status_of_binding : Result Unit BindFault → Result Status OutOfMemory
status_of_binding (Ok u) = Ok SUCCESS
status_of_binding (Err (bind.Name fault)) = Ok (status_of fault)
status_of_binding (Err bind.OutOfMemory) = Err (record {})
