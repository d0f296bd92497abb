-- What a group sees of a world.
use Rattle.std.proofs.Common.{◌≡◌, ℕ, Bool, true, false, cond, Option, Some, None, ap, arith}
use Rattle.std.specs.Prelude.{◌&&◌, ◌==◌, map}
use Rattle.std.proofs.lemmas.Bool.{eqb-true, false_from_ne_true}
use Rattle.lpc_base.specs.Rows.{has, which}
use Rattle.lpc_names.specs.Walk.{LinkTo, Stands}
use Rattle.lpc_names.specs.declared.names.Found.TheVariants.{Directory, Item}
use Rattle.lpc_model.specs.World.{Birth, HandleTable, MessageRow, Node, Path, PortRow, ProcessRow, SectionRow, ThreadRow, Unknown, UsedThread, ViewRow, ViewTable, WaitRow, World, TokenRow}
use Rattle.lpc_model.specs.Found.{same_birth}
use Rattle.lpc_model.specs.Settle.{is_event_of}
use Rattle.lpc_model.specs.Circle.{Group}
use Rattle.lpc_isolation.proofs.Views.Filters.{shown}

abbrev pub our_process : Group → ProcessRow → Bool
our_process m p = m p.number

abbrev pub our_thread : Group → ThreadRow → Bool
our_thread m t = m t.process

abbrev pub our_used : Group → UsedThread → Bool
our_used m u = m u.process

abbrev pub our_table : Group → HandleTable → Bool
our_table m t = m t.process

abbrev pub our_port : Group → PortRow → Bool
our_port m p = m p.birth.process

-- An outsider's pair isn't seen. What a server gave a connection is: a member's ports have it of members alone.
abbrev pub seen_pair : Group → Option Birth → Option Birth
seen_pair m None = None
seen_pair m (Some b) = cond (m b.process) (Some b) None

abbrev pub seen_port : Group → PortRow → PortRow
seen_port m p = record p { pair = seen_pair m p.pair }

-- from a member to a member
abbrev pub our_message : Group → MessageRow → Bool
our_message m x = m x.sender.process && m x.queue.process

abbrev pub our_wait : Group → WaitRow → Bool
our_wait m x = m x.process && m x.queue.process

-- an outsider's port has no name
abbrev pub our_node : Group → Node Birth → Bool
our_node m (LinkTo target) = true
our_node m (Stands Directory) = true
our_node m (Stands (Item port)) = m port.process

abbrev pub our_binding : Group → Path × Node Birth → Bool
our_binding m b = our_node m b.1

abbrev pub our_section : Group → SectionRow → Bool
our_section m s = m s.birth.process

abbrev pub our_space : Group → ViewTable → Bool
our_space m t = m t.process

-- Which section a view shows is seen where that is a member's, and so is where the view lies in it. Of an outsider's section
-- its process is seen alone.
abbrev pub hidden_section : Birth → Birth
hidden_section b = record { maker = 0; ordinal = 0; process = b.process }

abbrev pub seen_view : Group → ViewRow → ViewRow
seen_view m v = cond (m v.section.process) v (record v { section = hidden_section v.section; offset = 0 })

abbrev pub seen_space : Group → ViewTable → ViewTable
seen_space m t = record t { rows = map (seen_view m) t.rows }

abbrev pub our_token : Group → TokenRow → Bool
our_token m t = m t.birth.process

-- a mark is seen where the event that waits is
abbrev pub our_mark : Group → World → ℕ → Bool
our_mark m w n = has (is_event_of n) (which (our_wait m) w.waits)

-- no bytes are seen, and the names of all tokens
abbrev pub view : Group → World → World
view m w = record {
  processes = which (our_process m) w.processes;
  threads = which (our_thread m) w.threads;
  used_processes = which m w.used_processes;
  used_threads = which (our_used m) w.used_threads;
  handles = which (our_table m) w.handles;
  ports = shown (our_port m) (seen_port m) w.ports;
  messages = which (our_message m) w.messages;
  waits = which (our_wait m) w.waits;
  marks = which (our_mark m w) w.marks;
  bindings = which (our_binding m) w.bindings;
  sections = which (our_section m) w.sections;
  contents = Unknown;
  views = shown (our_space m) (seen_space m) w.views;
  tokens = which (our_token m) w.tokens;
  token_names = w.token_names;
}

-- small facts
pub of_birth : (m : Group) (a b : Birth) → same_birth a b ≡ true → m a.process ≡ m b.process
of_birth m a b is =
    let process : (a.process == b.process) ≡ true = grind arith in ap m (eqb-true _ _ process)

pub differ : (m : Group) (a b : ℕ) → m a ≡ false → m b ≡ true → (a == b) ≡ false
differ m a b out is = false_from_ne_true (a == b) (λ same. let k : m a ≡ m b = ap m (eqb-true a b same) in cc)
