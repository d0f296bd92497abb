-- What rows name stands: the objects of handles, and the ports of messages, of waits and of registrations.
use Rattle.std.specs.Prelude.{◌≡◌, ℕ, ◌&&◌, ◌||◌, Bool, true, List}
use Rattle.std.specs.List.{AllByRecursion}
use Rattle.lpc_base.specs.Rows.{every, has, passes}
use Rattle.lpc_model.specs.declared.entry.ObjectKind.TheVariants as kind
use Rattle.lpc_model.specs.World.{Birth, HandleRow, ObjectKind, PortRow, ViewRow, WaitRow, World}
use Rattle.lpc_model.specs.Found.{all_registrations, is_born_process, is_born_thread, is_connected_to, is_paired_to, is_port, is_section, is_token, port_row, event_ports, is_asking}
use Rattle.lpc_model.specs.Run.{run_of}
use Rattle.lpc_model.specs.Linked.{passes_or_none}

-- the port of a birth stands
abbrev pub port_stands : World → Birth → Bool
port_stands w b = has (is_port b) w.ports

-- the section of a birth stands
abbrev pub section_stands : World → Birth → Bool
section_stands w b = has (is_section b) w.sections

-- the token object of a birth stands
abbrev pub token_stands : World → Birth → Bool
token_stands w b = has (is_token b) w.tokens

-- the object of a name stands
abbrev pub stands_as : World → ObjectKind → Birth → Bool
stands_as w kind.Port b = port_stands w b
stands_as w kind.Section b = section_stands w b
stands_as w kind.Token b = token_stands w b
stands_as w kind.Process b = has (is_born_process b) w.processes
stands_as w kind.Thread b = has (is_born_thread b) w.threads

abbrev pub names_object : World → HandleRow → Bool
names_object w h = stands_as w h.object.kind h.object.birth

-- the queue of a wait is that of the port, or of its connection port, or, for a request or event, of its other end
abbrev pub is_near : WaitRow → PortRow → Bool
is_near x p = is_port x.queue p || (is_connected_to x.queue p || (is_asking x && is_paired_to x.queue p))

-- the port on which a wait was made stands, and the wait's queue is near it
abbrev pub has_near_queue : World → WaitRow → Bool
has_near_queue w x = passes (port_row w x.port) (is_near x)

-- the section that a view shows stands, and the port that owns it, where one does
abbrev pub shows_standing : World → ViewRow → Bool
shows_standing w v = section_stands w v.section && passes_or_none v.owner (port_stands w)

-- each handle names an object that stands; each queued message was sent on a port that stands, each wait was made on
-- one, near its queue, live threads registered such ports, and such ports are told of exceptions; each view shows a section
-- that stands, and is owned by no port or by one that stands
pub record NamesWhatStands (w : World) : Type 0 where
  pub handles : every (λ t. every (names_object w) t.rows) w.handles ≡ true
  pub senders : every (λ m. has (is_port m.sender) w.ports) w.messages ≡ true
  pub queues : every (has_near_queue w) w.waits ≡ true
  pub registrations : every (port_stands w) (all_registrations w) ≡ true
  pub event_ports : every (port_stands w) (event_ports w) ≡ true
  pub views : every (λ t. every (shows_standing w) t.rows) w.views ≡ true

-- in the world that each line of a script leaves, what rows name stands
abbrev pub RunNamesWhatStands : List ℕ → Type 0
RunNamesWhatStands bytes = AllByRecursion (λ s. NamesWhatStands s.world) (run_of bytes)
