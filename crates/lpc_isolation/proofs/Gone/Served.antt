-- The machine whose rows never go: it counts for an object what counts for it once rows that nothing names have gone.
use Rattle.lpc_model.specs.Settle.{settle}
use Rattle.std.specs.List.{sum}
use Rattle.lpc_base.specs.declared.limits.TheConstants.{SECTION_LIMIT}
use Rattle.lpc_base.specs.Views.{whole_pages}
use Rattle.lpc_model.specs.Refusal.{refuse_if}
use Rattle.lpc_model.specs.Memory.{is_section_of, protection_test, section_steps}
use Rattle.std.specs.Prelude.{ℕ, ◌+◌, ◌==◌, ◌&&◌, ◌||◌, Bool, not, List, [], ◌∷◌, Option, None, Some, Result, Ok, map, nat_lt}
use Rattle.lpc_base.specs.Rows.{count, has, which}
use Rattle.lpc_base.specs.declared.status.Status.{Status}
use Rattle.lpc_base.specs.declared.status.TheConstants.{SUCCESS, INVALID_PARAMETER_4, QUOTA_EXCEEDED, SECTION_TOO_BIG}
use Rattle.lpc_model.specs.declared.entry.CallName.TheVariants.{NtQueryObject}
use Rattle.lpc_model.specs.declared.entry.Entry.TheVariants.{Answer, Busy, NoThread}
use Rattle.lpc_model.specs.declared.entry.Field.{Field}
use Rattle.lpc_model.specs.declared.entry.ObjectKind.{ObjectKind}
use Rattle.lpc_model.specs.declared.entry.ObjectKind.TheVariants as kind
use Rattle.lpc_model.specs.Then.{◌>>=◌}
use Rattle.lpc_model.specs.World.{Birth, HandleRow, MessageRow, ObjectName, PortRow, ThreadRow, WaitRow, World, SectionRow}
use Rattle.lpc_model.specs.Found.{handle_count, is_client_port, is_connected_to, is_cut, is_made_on, is_paired_to, holders, is_queued, is_sent_on, live_thread, port_name, wait_of, same_birth, all_registrations, section_name, free_handle, all_views, is_owned_by, event_ports}
use Rattle.lpc_model.specs.Basics.{Basic, Steps, Tells, ◌▹◌}
use Rattle.lpc_model.specs.Fields.{object_fields}
use Rattle.lpc_model.specs.Standing.{is_near}
use Rattle.lpc_model.specs.Tests.{own_handle, handles_test}
use Rattle.lpc_model.specs.Lines.{ScriptCall, ScriptLine, boot, dir, link, query_object, run, thread, create_section, token, of_resident}
use Rattle.lpc_model.specs.Machine.{Stepped, own_steps, landed, name_of_call, service_of, settled}

-- What counts for an object
-- A handle to a client or server port; a message that was sent on it, which is a client port's in the queue of its connection
-- port; a wait that was made on it, which is a client port's on a queue near it; that a live thread registered it; a view that it owns; or a process that has it for its exceptions.
abbrev pub is_sent_to : Birth → PortRow → MessageRow → Bool
is_sent_to b p x = is_sent_on p.birth x && (is_queued b x || not (is_client_port p))

abbrev pub is_made_to : PortRow → WaitRow → Bool
is_made_to p x = is_made_on p.birth x && (is_near x p || not (is_client_port p))

abbrev pub is_aside : World → Birth → PortRow → Bool
is_aside v b p =
    not (handle_count v (port_name p.birth) == 0)
    || (has (is_sent_to b p) v.messages || (has (is_made_to p) v.waits || (has (same_birth p.birth) (all_registrations v)
    || (has (is_owned_by p.birth) (all_views v) || has (same_birth p.birth) (event_ports v)))))

-- a port connected to this one, for which such a row or its other end counts
abbrev pub is_standing : World → Birth → PortRow → Bool
is_standing v b p = is_connected_to b p && (is_aside v b p || not (is_cut p))

-- the rows but handles that count for a port
abbrev pub standing_holders : World → Birth → ℕ
standing_holders v b =
    count (is_paired_to b) v.ports + (count (is_standing v b) v.ports + (count (is_sent_on b) v.messages
    + (count (is_made_on b) v.waits + (count (same_birth b) (all_registrations v) + (count (is_owned_by b) (all_views v)
    + count (same_birth b) (event_ports v))))))

abbrev pub standing_as : World → ObjectKind → Birth → ℕ
standing_as v kind.Port b = standing_holders v b
standing_as v kind.Section b = holders v kind.Section b
standing_as v kind.Token b = holders v kind.Token b
standing_as v kind.Process b = holders v kind.Process b
standing_as v kind.Thread b = holders v kind.Thread b

abbrev pub standing_count : World → ObjectName → ℕ
standing_count v o = handle_count v o + standing_as v o.kind o.birth

-- NtQueryObject
abbrev pub standing_counts : World → HandleRow → List Field
standing_counts v r = object_fields r.object.kind r.access (handle_count v r.object) (standing_count v r.object)

abbrev pub query_steps : World → ThreadRow → HandleRow → List Basic
query_steps v by r = Tells (Answer by.number NtQueryObject SUCCESS (standing_counts v r)) ∷ []

abbrev pub standing_query : World → ThreadRow → ℕ → Result (List Basic) Status
standing_query v by value = own_handle v by value >>= (λ r. Ok (query_steps v by r))

-- NtCreateSection
-- a section that something counts for: of those that a process made, these are loaded
abbrev pub is_standing_section : World → SectionRow → Bool
is_standing_section v s = not (standing_count v (section_name s.birth) == 0)

abbrev pub standing_load : World → ℕ → ℕ
standing_load v pid = sum (map (λ s. s.size) (which (λ s. is_section_of pid s && is_standing_section v s) v.sections))

abbrev pub standing_load_test : World → ℕ → ℕ → Result Unit Status
standing_load_test v pid size = refuse_if (nat_lt SECTION_LIMIT (standing_load v pid + size)) QUOTA_EXCEEDED

abbrev pub standing_create : World → ThreadRow → ℕ → ℕ → Result (List Basic) Status
standing_create v by size prot = do
  _ ← protection_test prot
  _ ← refuse_if (size == 0) INVALID_PARAMETER_4
  _ ← refuse_if (nat_lt SECTION_LIMIT size) SECTION_TOO_BIG
  _ ← standing_load_test v by.process (whole_pages size)
  _ ← handles_test v by.process 1
  Ok (section_steps by size prot (free_handle v by.process))

-- Calls and lines
-- every other call is served as it is
abbrev pub served : World → ThreadRow → ScriptCall → Result (List Basic) Status
served w by (query_object handle) = standing_query w by handle
served w by (create_section size prot) = standing_create w by size prot
served w by call = service_of w by call

abbrev pub served_ready : ThreadRow → ScriptCall → Option WaitRow → Steps
served_ready by call (Some x) w = Tells (Busy by.number) ∷ []
served_ready by call None w = settled by (name_of_call call) (served w by call)

abbrev pub served_thread : ℕ → ScriptCall → Option ThreadRow → Steps
served_thread tid call None w = Tells (NoThread tid) ∷ []
served_thread tid call (Some by) w = served_ready by call (wait_of w tid) w

abbrev pub own_served : ScriptLine → Steps
own_served (boot pid tid name) w = own_steps (boot pid tid name) w
own_served (token name content) w = own_steps (token name content) w
own_served (thread tid pid) w = own_steps (thread tid pid) w
own_served (dir path) w = own_steps (dir path) w
own_served (link path target) w = own_steps (link path target) w
own_served (of_resident tid what had) w = own_steps (of_resident tid what had) w
own_served (run tid call) w = served_thread tid call (live_thread w tid) w

abbrev pub own_served_step : World → ScriptLine → Stepped
own_served_step w line = landed w (own_served line w)

-- and then the world settles
abbrev pub served_steps : ScriptLine → Steps
served_steps line = own_served line ▹ settle

abbrev pub served_step : World → ScriptLine → Stepped
served_step w line = landed w (served_steps line w)
