-- Further handles to an object, and what counts for it.
use Rattle.std.specs.Prelude.{ℕ, List, [], ◌∷◌, not, Option, None, Some, Result, Ok}
use Rattle.lpc_base.specs.declared.status.Status.{Status}
use Rattle.lpc_base.specs.declared.status.TheConstants.{ACCESS_DENIED, SUCCESS}
use Rattle.lpc_model.specs.declared.entry.CallName.TheVariants.{NtDuplicateObject, NtQueryObject}
use Rattle.lpc_model.specs.declared.entry.Entry.TheVariants.{Answer}
use Rattle.lpc_model.specs.declared.entry.Field.{Field}
use Rattle.lpc_model.specs.Refusal.{refuse_if}
use Rattle.lpc_model.specs.Then.{◌>>=◌}
use Rattle.lpc_model.specs.World.{HandleRow, ThreadRow, World}
use Rattle.lpc_model.specs.Found.{free_handle, handle_count, pointer_count}
use Rattle.lpc_model.specs.Basics.{AddsHandle, Basic, Tells}
use Rattle.lpc_model.specs.Fields.{h, object_fields}
use Rattle.lpc_model.specs.Tests.{handle_row, handles_test, includes, own_handle}

-- NtDuplicateObject
-- the rights that are asked for, those of the handle where none are named
abbrev pub asked : HandleRow → Option ℕ → ℕ
asked r None = r.access
asked r (Some access) = access

-- a right is asked for that the handle lacks
abbrev pub rights_test : HandleRow → ℕ → Result Unit Status
rights_test r access = refuse_if (not (includes r.access access)) ACCESS_DENIED

-- the process gets another handle to the object, with these rights
abbrev pub duplicate_steps : ThreadRow → ℕ → HandleRow → ℕ → List Basic
duplicate_steps by value r access =
    Tells (Answer by.number NtDuplicateObject SUCCESS (h value ∷ []))
    ∷ AddsHandle by.process (handle_row value r.object access)
    ∷ []

-- NtDuplicateObject: no such handle, a right that the handle lacks, too many handles
unfoldable pub nt_duplicate_object : World → ThreadRow → ℕ → Option ℕ → Result (List Basic) Status
nt_duplicate_object w by value access = do
  r ← own_handle w by value
  _ ← rights_test r (asked r access)
  _ ← handles_test w by.process 1
  Ok (duplicate_steps by (free_handle w by.process) r (asked r access))

-- NtQueryObject
-- what is told of the object of a handle: its kind, the handle's rights, and both counts
abbrev pub counts_of : World → HandleRow → List Field
counts_of w r = object_fields r.object.kind r.access (handle_count w r.object) (pointer_count w r.object)

-- NtQueryObject: no such handle
unfoldable pub nt_query_object : World → ThreadRow → ℕ → Result (List Basic) Status
nt_query_object w by value = do
  r ← own_handle w by value
  Ok (Tells (Answer by.number NtQueryObject SUCCESS (counts_of w r)) ∷ [])
