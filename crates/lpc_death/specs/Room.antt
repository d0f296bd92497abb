-- When there is no room for what the calls that make processes and threads make.
use Rattle.std.specs.Prelude.{◌+◌, ◌||◌, Bool, nat_le}
use Rattle.lpc_closing.specs.Calls.{lacks_handle_room}
use Rattle.lpc_model.specs.World.{ThreadRow}
use Rattle.lpc_rows.specs.Kept.{Kept, handle_room, lacks_process_room, lacks_thread_room, owed_handles}

-- without memory there is no room for two further handles of the thread's process
abbrev pub lacks_two_handles_room : Kept → ThreadRow → Bool
lacks_two_handles_room w by = nat_le (handle_room w.room by.process) (owed_handles w.rows by.process + 1)

-- nor for a process with its first thread and a handle to each; nor for a thread and a handle to it
abbrev pub lacks_child_room : Kept → ThreadRow → Bool
lacks_child_room w by = lacks_process_room w || lacks_two_handles_room w by

abbrev pub lacks_member_room : Kept → ThreadRow → Bool
lacks_member_room w by = lacks_thread_room w || lacks_handle_room w by
