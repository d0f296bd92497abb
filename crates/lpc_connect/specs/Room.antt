-- The room that the calls need, and the room that they keep.
use Rattle.std.specs.Prelude.{ℕ, ◌≤◌, ◌==◌, ◌&&◌, ◌||◌, Bool, nat_le, is_some, List, Option}
use Rattle.lpc_model.specs.World.{ThreadRow}
use Rattle.lpc_rows.specs.Kept.{Kept, handle_room, owed_handles, view_room}

-- no process lost room for handles
abbrev pub KeepsHandleRoom : Kept → Kept → Type 0
KeepsHandleRoom old new = (pid : ℕ) → handle_room old.room pid ≤ handle_room new.room pid

-- nor for views
abbrev pub KeepsViewRoom : Kept → Kept → Type 0
KeepsViewRoom old new = (pid : ℕ) → view_room old.room pid ≤ view_room new.room pid

-- without memory there is no room for a further port, or for a thread's handle to it
abbrev pub lacks_port_room : Kept → ThreadRow → Bool
lacks_port_room w by =
    (w.room.ports == 0) || nat_le (handle_room w.room by.process) (owed_handles w.rows by.process)

-- nor for a view of a process, where there is one
abbrev pub lacks_room_of_view : {V : Type 0} → Kept → ℕ → Option V → Bool
lacks_room_of_view w pid view = is_some view && (view_room w.room pid == 0)

-- nor for a client port, the message that is to tell that it is closed, and a view
abbrev pub lacks_connect_room : {V : Type 0} → Kept → ThreadRow → Option V → Bool
lacks_connect_room w by view =
    lacks_port_room w by || ((w.room.messages == 0) || lacks_room_of_view w by.process view)

-- nor for a port that may get a name
abbrev pub lacks_room_for : Kept → ThreadRow → Option (List ℕ) → Bool
lacks_room_for w by name = lacks_port_room w by || (is_some name && (w.room.names == 0))
