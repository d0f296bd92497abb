-- What the calls on handles find and do.
use Rattle.std.specs.Prelude.{ℕ, Bool, List, [], ◌∷◌, nat_le}
use Rattle.lpc_base.specs.declared.status.TheConstants.{SUCCESS}
use Rattle.lpc_handles.specs.declared.table.Row.{Row}
use Rattle.lpc_model.specs.declared.entry.CallName.TheVariants.{NtQueryObject}
use Rattle.lpc_model.specs.declared.entry.Entry.TheVariants.{Answer}
use Rattle.lpc_model.specs.declared.entry.Field.{Field}
use Rattle.lpc_model.specs.Basics.{Basic, Tells}
use Rattle.lpc_model.specs.Counts.{duplicate_steps}
use Rattle.lpc_model.specs.Found.{free_handle}
use Rattle.lpc_model.specs.World as model
use Rattle.lpc_model.specs.World.{ThreadRow}
use Rattle.lpc_rows.specs.Clauses.{row_shown}
use Rattle.lpc_rows.specs.Kept.{Kept, handle_room, owed_handles}
use Rattle.lpc_steps.specs.declared.closing.Closed.{Closed}
use Rattle.lpc_homes.specs.declared.object.Object.{Object}

-- an object is told of
abbrev pub telling : ThreadRow → List Field → List Basic
telling by fields = Tells (Answer by.number NtQueryObject SUCCESS fields) ∷ []

-- a thread's process gets another handle to the object of a handle, the least free one, with these rights
abbrev pub granting : Kept → ThreadRow → ℕ → Row Object → List Basic
granting w by handle row = duplicate_steps by (free_handle w.rows by.process) (row_shown w handle row) row.access

-- without memory there is no room for a further handle of the thread's process
abbrev pub lacks_handle_room : Kept → ThreadRow → Bool
lacks_handle_room w by = nat_le (handle_room w.room by.process) (owed_handles w.rows by.process)

-- the connect that made a closed port
abbrev pub creator_of : Closed → model.Creator
creator_of c = record { client = c.client; identifier = c.message_id }
