-- What names a port in the tables, and what counts for an object.
use Rattle.std.specs.Prelude.{◌==◌, ◌||◌, Bool, not}
use Rattle.lpc_base.specs.Rows.{has}
use Rattle.lpc_names.specs.Binding.{has_name}
use Rattle.lpc_model.specs.World.{Birth, MessageRow, ObjectName, PortRow, WaitRow, World}
use Rattle.lpc_model.specs.Found.{all_views, event_ports, handle_count, holders, is_connected_to, is_made_on, is_open, is_owned_by, is_paired_to, is_queued, is_sent_on, same_birth}
use Rattle.lpc_rows.specs.Kept.{registered_ports}

-- a port has this one as its other end or as its connection port
abbrev pub is_joined_to : Birth → PortRow → Bool
is_joined_to b p = is_paired_to b p || is_connected_to b p

-- a message was sent on the port, or stands in its queue
abbrev pub is_message_at : Birth → MessageRow → Bool
is_message_at b m = is_sent_on b m || is_queued b m

-- a wait was made on the port, or is on its queue
abbrev pub is_wait_at : Birth → WaitRow → Bool
is_wait_at b x = is_made_on b x || same_birth x.queue b

-- a row but a thread's, a process's, a view's or a name's names the port: a handle, another port, a message, or a wait
abbrev pub is_used_by_row : World → Birth → Bool
is_used_by_row w b =
    is_open w b || (has (is_joined_to b) w.ports || (has (is_message_at b) w.messages
    || has (is_wait_at b) w.waits))

-- one of these names the port, or a name does
abbrev pub is_named_by_row : World → Birth → Bool
is_named_by_row w b =
    is_open w b || (has (is_joined_to b) w.ports || (has (is_message_at b) w.messages
    || (has (is_wait_at b) w.waits || has_name same_birth b w.bindings)))

-- a thread registered the port, be it live or ended
abbrev pub is_registered_port : World → Birth → Bool
is_registered_port w b = has (same_birth b) (registered_ports w)

-- a view goes with the port
abbrev pub is_owner : World → Birth → Bool
is_owner w b = has (is_owned_by b) (all_views w)

-- the port is told of the exceptions of a process
abbrev pub is_event_port : World → Birth → Bool
is_event_port w b = has (same_birth b) (event_ports w)

-- Some row but a name's names the port: one of these, a thread by a registration, a view that goes with it, or a process
-- whose exceptions it is told of.
abbrev pub is_used : World → Birth → Bool
is_used w b = is_used_by_row w b || is_registered_port w b || is_owner w b || is_event_port w b

-- Some row names the port, be it a name's. That is more than what counts: a queue and a name don't hold a port. But the
-- ports of messages' queues and of names are open, the queue of a wait is near the port on which the wait was made, which
-- counts for it, and threads that have ended have no registrations.
abbrev pub is_named : World → Birth → Bool
is_named w b = is_named_by_row w b || is_registered_port w b || is_owner w b || is_event_port w b

-- a handle names an object
abbrev pub has_handles : World → ObjectName → Bool
has_handles w o = not (handle_count w o == 0)

-- a row but handles counts for an object
abbrev pub has_holders : World → ObjectName → Bool
has_holders w o = not (holders w o.kind o.birth == 0)
