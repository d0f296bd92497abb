-- Words of the clauses of steps: what a test finds, and what a step leaves of the rows.
use Rattle.std.specs.Prelude.{◌≡◌, ℕ, ◌∷◌, Bool, not, List, Option, Result}
use Rattle.lpc_base.specs.declared.birth.Birth.{Birth}
use Rattle.lpc_base.specs.declared.status.Status.{Status}
use Rattle.lpc_model.specs.Basics.{Basic, world_after, Enters}
use Rattle.lpc_model.specs.Connect as connect
use Rattle.lpc_model.specs.Connect.{names_connect}
use Rattle.lpc_model.specs.Entering.{given_steps, woken}
use Rattle.lpc_model.specs.Found.{fits_as, queue_of, route}
use Rattle.lpc_model.specs.Request.{receive_test}
use Rattle.lpc_model.specs.Tests.{object_test, own_handle, port_test}
use Rattle.lpc_model.specs.World as model
use Rattle.lpc_model.specs.World.{World}
use Rattle.lpc_model.specs.declared.entry.ObjectKind.{ObjectKind}
use Rattle.lpc_message.specs.declared.message.ClientId.{ClientId}
use Rattle.lpc_model.specs.declared.entry.Field.{Field}
use Rattle.lpc_model.specs.declared.message.Message as whole
use Rattle.lpc_slots.specs.declared.Key.{Key}
use Rattle.lpc_rows.specs.Kept.{Kept}
use Rattle.lpc_rows.specs.Ready.{caller, waiter}
use Rattle.lpc_steps.specs.declared.connections.Completable.{Completable}
use Rattle.lpc_model.specs.Listed.{is_read}
use Rattle.std.specs.List.{list_any}
use Rattle.lpc_rows.specs.Clauses.{FindsWait, birth_at, port_at}

-- the port at a key is found under its name
abbrev pub IsUnderName : Kept → Key → Type 0
IsUnderName w key = let port = port_at w key in port.birth ≡ birth_at w key

-- a handle of a thread's process, the object that it names, and the port that it names
abbrev pub handle_for : World → ℕ → ℕ → Result model.HandleRow Status
handle_for w tid value = own_handle w (caller w tid) value

abbrev pub object_for : World → ℕ → ObjectKind → ℕ → ℕ → Result Birth Status
object_for w tid kind right handle = object_test w (caller w tid) kind right handle

abbrev pub port_for : World → ℕ → ℕ → Result model.PortRow Status
port_for w tid handle = port_test w (caller w tid) handle

-- of the port at a key the queue that what is sent on it enters, its own queue, and that of a receive on it
abbrev pub route_at : Kept → Key → Option Birth
route_at w key = route w.rows (port_at w key)

abbrev pub queue_at : Kept → Key → Option Birth
queue_at w key = queue_of w.rows (port_at w key)

abbrev pub receive_at : Kept → Key → Result Birth Status
receive_at w key = receive_test w.rows (port_at w key)

-- a wait that a message fits through a port
abbrev pub fits_at : Kept → Key → ClientId → ℕ → model.WaitRow → Bool
fits_at w port client identifier = fits_as w.rows (birth_at w port) client identifier

-- the thread whose connect a caller's answer names
abbrev pub FindsConnect : Kept → ℕ → whole.Message → Option ℕ → Type 0
FindsConnect w by m result = FindsWait w (names_connect w.rows (caller w.rows by) m) result

-- a connection that can be completed, on its server port
abbrev pub completion_at : Kept → Key → Completable → connect.Completable
completion_at w port c = record { server = birth_at w port; client = birth_at w c.client; wait = waiter w.rows c.thread }

-- the step by which a thread's wait ends
abbrev pub waking : Kept → ℕ → Status → List Field → Basic
waking w tid status fields = woken status fields (waiter w.rows tid)

-- a message entered a queue, and a thread that waited there was given it
abbrev pub passed : World → ℕ → model.MessageRow → World
passed w tid m = world_after w (Enters m ∷ given_steps (waiter w tid) m)

-- no field shows the bytes of a memory read, nor the groups of a token
abbrev pub has_no_read : List Field → Bool
has_no_read fields = not (list_any (λ (field : Field). is_read field.value) fields)
