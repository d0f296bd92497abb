-- The caller of a call, whether it can make one, and the room for entries that it asks for.
use Rattle.std.specs.Prelude.{◌≡◌, ℕ, ◌+◌, ◌*◌, ◌≤◌, ◌&&◌, [], Bool, true, false, Option, Some, None, IsSome, is_none, is_some}
use Rattle.lpc_base.specs.Rows.{count}
use Rattle.lpc_base.specs.declared.birth.Birth.{Birth}
use Rattle.lpc_base.specs.declared.port_kind.PortKind.TheVariants.{Unnamed}
use Rattle.lpc_model.specs.declared.entry.CallName.TheVariants.{NtReplyWaitReceivePort}
use Rattle.lpc_model.specs.Listed.{Listed}
use Rattle.lpc_model.specs.World.{World, PortRow, Receive, ThreadRow, WaitRow}
use Rattle.lpc_model.specs.Found.{is_event, is_listen, is_request, live_thread, no_birth, port_row, section_row, token_row, wait_of}
use Rattle.lpc_waits.specs.Table as table
use Rattle.lpc_waits.specs.declared.Wait.{Wait}
use Rattle.lpc_rows.specs.Names.{name_of, stands}
use Rattle.lpc_rows.specs.Shown.{call_of_wait}
use Rattle.lpc_rows.specs.Kept.{Kept, is_alive}
use Rattle.lpc_slots.specs.declared.Key.{Key}
use Rattle.lpc_homes.specs.declared.object.Object.{Object}
use Rattle.lpc_homes.specs.declared.object.Object.TheVariants as object
use Rattle.lpc_tokens.specs.declared.security.Security.TheVariants.{Unsecured}

-- a thread that lives and doesn't wait can make a call
abbrev pub is_ready : World → ℕ → Bool
is_ready w tid = is_some (live_thread w tid) && is_none (wait_of w tid)

-- the row of a live thread
abbrev pub no_thread : ThreadRow
no_thread = record { number = 0; process = 0; birth = record { maker = 0; ordinal = 0; process = 0 }; live = false; next_identifier = 0; next_ordinal = 0; registrations = []; own = None }

abbrev pub thread_in : Option ThreadRow → ThreadRow
thread_in None = no_thread
thread_in (Some t) = t

unfoldable pub caller : World → ℕ → ThreadRow
caller w tid = thread_in (live_thread w tid)

-- the row of a port that stands
abbrev pub no_port : PortRow
no_port = record { birth = no_birth; kind = Unnamed; connection = None; pair = None; context = 0; completed = false; creator = None; security = Unsecured }

abbrev pub port_in : Option PortRow → PortRow
port_in None = no_port
port_in (Some p) = p

unfoldable pub port_of : World → Birth → PortRow
port_of w b = port_in (port_row w b)

-- a port that stands is found under its name, and a port that stands has its row
pub record IsStanding (w : Kept) (key : Key) : Type 0 where
  pub found : port_row w.rows (name_of w.births.ports key) ≡ Some (port_of w.rows (name_of w.births.ports key))
  pub birth : let p = port_of w.rows (name_of w.births.ports key) in p.birth ≡ name_of w.births.ports key

abbrev pub HasRow : Kept → Object → Type 0
HasRow w (object.Port key) = IsStanding w key
HasRow w (object.Process birth) = Unit
HasRow w (object.Thread birth) = Unit
HasRow w (object.Section key) = IsSome (section_row w.rows (name_of w.births.sections key))
HasRow w (object.Token key) = IsSome (token_row w.rows (name_of w.births.tokens key))

-- the wait of a thread that waits
abbrev pub no_wait : WaitRow
no_wait = record { call = NtReplyWaitReceivePort; thread = 0; process = 0; kind = Receive; port = no_birth; queue = no_birth; identifier = 0; received = false }

abbrev pub wait_in : Option WaitRow → WaitRow
wait_in None = no_wait
wait_in (Some x) = x

unfoldable pub waiter : World → ℕ → WaitRow
waiter w tid = wait_in (wait_of w tid)

-- the wait of a thread that waits is this one, and the ports that it names stand
pub record IsWait (w : Kept) (tid : ℕ) (x : Wait) : Type 0 where
  pub thread : let y = waiter w.rows tid in y.thread ≡ tid
  pub call : let y = waiter w.rows tid in y.call ≡ call_of_wait x.kind
  pub process : let y = waiter w.rows tid in y.process ≡ x.process
  pub request : is_request (waiter w.rows tid) ≡ table.is_request x.kind
  pub listen : is_listen (waiter w.rows tid) ≡ table.is_listen x.kind
  pub event : is_event (waiter w.rows tid) ≡ table.is_event x.kind
  pub port : let y = waiter w.rows tid in y.port ≡ name_of w.births.ports x.port
  pub queue : let y = waiter w.rows tid in y.queue ≡ name_of w.births.ports x.queue
  pub identifier : let y = waiter w.rows tid in y.identifier ≡ x.identifier
  pub received : let y = waiter w.rows tid in y.received ≡ x.received
  pub port_stands : stands w.births.ports x.port ≡ true
  pub queue_stands : stands w.births.ports x.queue ≡ true

-- the room for entries that one step asks for: three for each live thread, and one
abbrev pub room_needed : World → ℕ
room_needed w = 3 * count is_alive w.threads + 1

-- There is room for them. A thread that can make a call lives and doesn't wait, so in each world where one can that is room
-- for the call's own entry, for one more, and for one more of each wait.
abbrev pub HasRoom : Kept → Listed → Type 0
HasRoom w out = room_needed w.rows ≤ out.spare
