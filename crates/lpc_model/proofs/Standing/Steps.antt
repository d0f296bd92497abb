-- Basic steps keep what rows name.
use Rattle.std.proofs.Common.{◌≡◌, ◌+◌, ◌≤◌, List, [], ◌∷◌, Bool, true, false, cond, map, not, Option, Some, None, refl, sym, subst, ◌∙◌, arith, ℕ, ◌++◌}
use Rattle.std.specs.Prelude.{◌&&◌, ◌||◌, nat_lt}
use Rattle.std.proofs.lemmas.Bool.Decides.{nat_tests}
use Rattle.std.proofs.lemmas.Bool.{and_from, not-true, or_right}
use Rattle.lpc_base.specs.Rows.{count, every, has, passes, which, without, change, each}
use Rattle.lpc_base.proofs.RowWords.{every-any, every-append, every-change, every-more, every-push, every-which, every-without, first-passes, has-change, has-kept}
use Rattle.lpc_base.proofs.RowMaps.{every-both, every-first, every-mapped, every-without_first}
use Rattle.lpc_base.proofs.Bools.{first-true, second-true}
use Rattle.lpc_base.proofs.Births.{birth-same, births-apart}
use Rattle.lpc_model.specs.declared.entry.ObjectKind.TheVariants as kind
use Rattle.lpc_model.specs.World.{Acceptance, Birth, HandleRow, HandleTable, MessageRow, ObjectKind, ObjectName, PortRow, ProcessRow, SectionRow, ThreadRow, ViewRow, ViewTable, WaitRow, World, TokenRow}
use Rattle.lpc_model.specs.Found.{all_handles, all_registrations, all_views, handle_count, has_value, holders, is_born_process, is_born_thread, is_connected_to, is_made_on, is_own_of, is_owned_by, is_paired_to, is_port, is_queued, is_queued_connect, is_request, is_section, is_sent_on, is_space, is_table, is_the, is_thread, lies_at, pointer_count, port_name, port_row, process_name, registered_by, same_birth, same_kind, same_object, section_name, shows_section, thread_name, waits_as, waits_at, offers_section, is_token, token_name, event_ports, event_ports_of, is_asking, is_event, is_mark, is_marked, is_process, listed}
use Rattle.lpc_model.specs.Basics.{Accepts, AddsHandle, AddsProcess, AddsSection, AddsThread, Awaits, Basic, Binds, Completes, Cuts, Dies, DrawsIdentifier, DrawsOrdinal, DropsHandle, DropsOwned, DropsViewsOf, Empties, Enters, Frees, Joins, Makes, Maps, Receives, Registers, Takes, TakesConnect, Tells, Unbinds, Unmaps, Unregisters, Wakes, Withdraws, Writes, accepted, basic, completed, cut, ended, freed, is_end_of, no_handles, no_views, past_identifier, past_ordinal, put_handle, received, registering, unregistering, with_handle, with_view, without_handle, without_owned, without_view, without_views, world_after, Acts, AddsToken, NamesToken, Secures, acting, secured, Dooms, Leaves, LetsGo, Marks, SetsDebug, SetsException, debugged, doomed, excepted, left_by, portless}
use Rattle.lpc_model.specs.Sweep.{free_unheld, is_unheld, sweep, unheld}
use Rattle.lpc_model.specs.Standing.{NamesWhatStands, has_near_queue, is_near, names_object, port_stands, section_stands, shows_standing, stands_as, token_stands}
use Rattle.lpc_model.proofs.Steps.Rows.{has-without, passes-change}
use Rattle.lpc_model.proofs.Sound.Worlds.{by_kind}
use Rattle.lpc_model.proofs.Sound.Frees.{is-zero, less-held, none-pass, sum-first, sum-second, which-all}
use Rattle.lpc_model.proofs.Sound.Cuts.{cut-row}
use Rattle.lpc_model.proofs.Sound.Closing.{is_cut_request, cut_hit, is_clear, left-marks}
use Rattle.lpc_model.proofs.Linked.Steps.{push-passes}
use Rattle.lpc_model.proofs.Linked.Joins.{row-freed}
use Rattle.lpc_model.proofs.Steps.Registrations.{All, all-changed, all-left, all-pushed, every-each, registering-all, unregistering-all}
use Rattle.lpc_model.proofs.Steps.InTurn.{after-append}
use Rattle.lpc_model.specs.Linked.{passes_or_none}
use Rattle.lpc_model.proofs.Sound.Less.{keeps-same, keeps_mark, or-then}

-- What keeps it
-- the objects that stand in one world do in another, and what is near a port there is here
pub record StaysNear (w v : World) : Type 0 where
  pub ports : (b : Birth) → has (is_port b) w.ports ≡ true → has (is_port b) v.ports ≡ true
  pub processes : (b : Birth) → has (is_born_process b) w.processes ≡ true → has (is_born_process b) v.processes ≡ true
  pub threads : (b : Birth) → has (is_born_thread b) w.threads ≡ true → has (is_born_thread b) v.threads ≡ true
  pub sections : (b : Birth) → section_stands w b ≡ true → section_stands v b ≡ true
  pub tokens : (b : Birth) → token_stands w b ≡ true → token_stands v b ≡ true
  pub queues : (x : WaitRow) → has_near_queue w x ≡ true → has_near_queue v x ≡ true

-- What rows name stands, while events that are marked haven't gone on: near no port need be the queue of such a one.
abbrev pub near_or_marked : World → WaitRow → Bool
near_or_marked w x = is_marked w x || has_near_queue w x

pub record NamesInside (w : World) : Type 0 where
  pub handles : every (λ t. every (names_object w) t.rows) w.handles ≡ true
  pub senders : every (λ m. has (is_port m.sender) w.ports) w.messages ≡ true
  pub queues : every (near_or_marked w) w.waits ≡ true
  pub registrations : every (port_stands w) (all_registrations w) ≡ true
  pub event_ports : every (port_stands w) (event_ports w) ≡ true
  pub views : every (λ t. every (shows_standing w) t.rows) w.views ≡ true

-- so between two lines, where no event is marked
pub inside : (w : World) → NamesWhatStands w → NamesInside w
inside w n = record {
  handles = n.handles;
  senders = n.senders;
  queues = every-more (has_near_queue w) (near_or_marked w) (λ x is. or_right (is_marked w x) _ is) w.waits n.queues;
  registrations = n.registrations;
  event_ports = n.event_ports;
  views = n.views;
}

pub unmarked-names : (w : World) → w.marks ≡ [] → NamesInside w → NamesWhatStands w
unmarked-names w none n = record {
  handles = n.handles;
  senders = n.senders;
  queues = every-more (near_or_marked w) (has_near_queue w) (λ x is. near x (subst (λ ms. (has (is_mark x.thread) ms || has_near_queue w x) ≡ true) none is)) w.waits n.queues;
  registrations = n.registrations;
  event_ports = n.event_ports;
  views = n.views;
}
  where
    near : (x : WaitRow) → (false || has_near_queue w x) ≡ true → has_near_queue w x ≡ true
    near x is = is

-- what holds of each part of some rows holds of all parts, and the other way round
all-each : {X Y : Type 0} (p : Y → Bool) (f : X → List Y) (xs : List X) → every (λ x. every p (f x)) xs ≡ true → every p (each f xs) ≡ true
all-each p f xs all = every-each p f xs ∙ all

each-all : {X Y : Type 0} (p : Y → Bool) (f : X → List Y) (xs : List X) → every p (each f xs) ≡ true → every (λ x. every p (f x)) xs ≡ true
each-all p f xs all = sym (every-each p f xs) ∙ all

-- one world behind another
pub record KeepsNames (w v : World) : Type 0 where
  pub near : StaysNear w v
  pub names : NamesInside w → NamesInside v

abbrev tables_to_objects : World → HandleTable → Bool
tables_to_objects w t = every (names_object w) t.rows

abbrev shows_sections : World → ViewTable → Bool
shows_sections w t = every (shows_standing w) t.rows

abbrev sent_on_port : World → MessageRow → Bool
sent_on_port w m = has (is_port m.sender) w.ports

-- the object that a handle names still stands
pub object-kept : (w v : World) → ((b : Birth) → port_stands w b ≡ true → port_stands v b ≡ true) → ((b : Birth) → has (is_born_process b) w.processes ≡ true → has (is_born_process b) v.processes ≡ true)
    → ((b : Birth) → has (is_born_thread b) w.threads ≡ true → has (is_born_thread b) v.threads ≡ true) → ((b : Birth) → section_stands w b ≡ true → section_stands v b ≡ true) → ((b : Birth) → token_stands w b ≡ true → token_stands v b ≡ true)
    → (h : HandleRow) → names_object w h ≡ true → names_object v h ≡ true
object-kept w v ports processes threads sections tokens h is = at h.object.kind h.object.birth is
  where
    at : (k : ObjectKind) (b : Birth) → stands_as w k b ≡ true → stands_as v k b ≡ true
    at kind.Port b is = ports b is
    at kind.Section b is = sections b is
    at kind.Token b is = tokens b is
    at kind.Process b is = processes b is
    at kind.Thread b is = threads b is

to-object-kept : (w v : World) → StaysNear w v → (h : HandleRow) → names_object w h ≡ true → names_object v h ≡ true
to-object-kept w v s = object-kept w v s.ports s.processes s.threads s.sections s.tokens

-- a view still shows a section that stands, for a port that stands
pub shows-kept : (w v : World) → ((b : Birth) → section_stands w b ≡ true → section_stands v b ≡ true) → ((b : Birth) → port_stands w b ≡ true → port_stands v b ≡ true) → (x : ViewRow) → shows_standing w x ≡ true → shows_standing v x ≡ true
shows-kept w v sections ports x is = and_from _ _ (sections x.section (first-true (section_stands w x.section) _ is)) (owned x.owner (second-true (section_stands w x.section) _ is))
  where
    owned : (o : Option Birth) → passes_or_none o (port_stands w) ≡ true → passes_or_none o (port_stands v) ≡ true
    owned None is = refl
    owned (Some b) is = ports b is

near-parts : (m k a b : Bool) → (a ≡ true → b ≡ true) → (not m || k) ≡ true → (m || a) ≡ true → (k || b) ≡ true
near-parts m k a b more one two = grind (arith, more)

pub kept : (w v : World) → StaysNear w v → (every (tables_to_objects w) w.handles ≡ true → every (tables_to_objects w) v.handles ≡ true) → (every (sent_on_port w) w.messages ≡ true → every (sent_on_port w) v.messages ≡ true)
    → (every (near_or_marked w) w.waits ≡ true → every (near_or_marked w) v.waits ≡ true) → (All (port_stands w) w.threads → All (port_stands w) v.threads)
    → (every (shows_sections w) w.views ≡ true → every (shows_sections w) v.views ≡ true) → (every (port_stands w) (event_ports w) ≡ true → every (port_stands w) (event_ports v) ≡ true) → every (keeps_mark w v) v.waits ≡ true → KeepsNames w v
kept w v s handles senders queues registrations views events marks = record {
  near = s;
  names = λ n. record {
    handles = every-more (tables_to_objects w) (tables_to_objects v) (λ t is. every-more (names_object w) (names_object v) (to-object-kept w v s) t.rows is) v.handles (handles n.handles);
    senders = every-more (sent_on_port w) (sent_on_port v) (λ m is. s.ports m.sender is) v.messages (senders n.senders);
    queues = every-both (keeps_mark w v) (near_or_marked w) (near_or_marked v) (λ x one is. near-parts (is_marked w x) (is_marked v x) (has_near_queue w x) (has_near_queue v x) (s.queues x) one is) v.waits marks (queues n.queues);
    registrations = every-more (port_stands w) (port_stands v) s.ports (all_registrations v) (registrations n.registrations);
    event_ports = every-more (port_stands w) (port_stands v) s.ports (event_ports v) (events n.event_ports);
    views = every-more (shows_sections w) (shows_sections v) (λ t is. every-more (shows_standing w) (shows_standing v) (shows-kept w v s.sections s.ports) t.rows is) v.views (views n.views);
  };
}

stays : (w : World) → StaysNear w w
stays w = record { sections = λ b is. is; tokens = λ b is. is; ports = λ b is. is; queues = λ x is. is; processes = λ b is. is; threads = λ b is. is }

-- a world whose ports stay, with other handles, messages, waits, or views
handles-kept : (w : World) (handles : List HandleTable) → (every (tables_to_objects w) w.handles ≡ true → every (tables_to_objects w) handles ≡ true) → KeepsNames w (record w { handles = handles })
handles-kept w handles all = let v : World = record w { handles = handles } in kept w v (record { sections = λ d is. is; tokens = λ d is. is; ports = λ b is. is; queues = λ x is. is; processes = λ b is. is; threads = λ b is. is }) all (λ all. all) (λ all. all) (λ all. all) (λ all. all) (λ all. all) (keeps-same w _)

messages-kept : (w : World) (messages : List MessageRow) → (every (sent_on_port w) w.messages ≡ true → every (sent_on_port w) messages ≡ true) → KeepsNames w (record w { messages = messages })
messages-kept w messages all = let v : World = record w { messages = messages } in kept w v (record { sections = λ d is. is; tokens = λ d is. is; ports = λ b is. is; queues = λ x is. is; processes = λ b is. is; threads = λ b is. is }) (λ all. all) all (λ all. all) (λ all. all) (λ all. all) (λ all. all) (keeps-same w _)

waits-kept : (w : World) (waits : List WaitRow) → (every (near_or_marked w) w.waits ≡ true → every (near_or_marked w) waits ≡ true) → KeepsNames w (record w { waits = waits })
waits-kept w waits all = let v : World = record w { waits = waits } in kept w v (record { sections = λ d is. is; tokens = λ d is. is; ports = λ b is. is; queues = λ x is. is; processes = λ b is. is; threads = λ b is. is }) (λ all. all) (λ all. all) all (λ all. all) (λ all. all) (λ all. all) (keeps-same w _)

views-kept : (w : World) (views : List ViewTable) → (every (shows_sections w) w.views ≡ true → every (shows_sections w) views ≡ true) → KeepsNames w (record w { views = views })
views-kept w views all = let v : World = record w { views = views } in kept w v (record { sections = λ d is. is; tokens = λ d is. is; ports = λ b is. is; queues = λ x is. is; processes = λ b is. is; threads = λ b is. is }) (λ all. all) (λ all. all) (λ all. all) (λ all. all) all (λ all. all) (keeps-same w _)

accepted-near : (w : World) (reply : Acceptance) (x : WaitRow) → near_or_marked w x ≡ true → near_or_marked w (accepted reply x) ≡ true
accepted-near w reply = by_kind (λ x. near_or_marked w x ≡ true → near_or_marked w (accepted reply x) ≡ true) (λ x m is. is) (λ x is. is) (λ x is. is) (λ x m offer is. is) (λ x m r is. is) (λ x r is. is)

put-all : (p : HandleRow → Bool) (h : HandleRow) (rows : List HandleRow) → p h ≡ true → every p rows ≡ true → every p (put_handle h rows) ≡ true
put-all p h rows own all =
    every-append p (which (λ r. nat_lt r.value h.value) rows) (h ∷ which (λ r. nat_lt h.value r.value) rows) (every-which p (λ r. nat_lt r.value h.value) rows all)
    (and_from (p h) _ own (every-which p (λ r. nat_lt h.value r.value) rows all))

left-kept : (w : World) (who : ℕ) → KeepsNames w (left_by who w)
left-kept w who = kept w (left_by who w) (record { sections = λ d is. is; tokens = λ d is. is; ports = λ b is. is; queues = λ x is. is; processes = λ b is. is; threads = λ b is. is }) (λ all. all) (λ all. all) (every-without (near_or_marked w) (waits_as who) w.waits) (λ all. all) (λ all. all) (λ all. all) (left-marks w who)

-- Steps
-- a basic step that keeps it whatever stands behind it: what enters, waits, is given, registered or mapped names what stands,
-- and no pair changes
abbrev pub is_naming : World → Basic → Bool
is_naming w (Awaits x) = has_near_queue w x
is_naming w (Enters m) = has (is_port m.sender) w.ports
is_naming w (AddsHandle pid h) = names_object w h
is_naming w (AddsThread t) = every (port_stands w) (registered_by t)
is_naming w (Registers who b) = port_stands w b
is_naming w (SetsDebug pid b) = port_stands w b
is_naming w (SetsException pid b) = port_stands w b
is_naming w (AddsProcess p) = every (port_stands w) (event_ports_of p)
is_naming w (Maps pid x) = shows_standing w x
is_naming w (Joins client server context) = false
is_naming w (Cuts b) = false
is_naming w (Frees o) = false
is_naming w b = true

abbrev pub AreNaming : World → List Basic → Type 0
AreNaming w bs = every (is_naming w) bs ≡ true

-- processes of which other ports are told, and another
added-events : (w : World) (p : ProcessRow) → every (port_stands w) (event_ports w) ≡ true → every (port_stands w) (event_ports_of p) ≡ true → every (port_stands w) (event_ports (basic w (AddsProcess p))) ≡ true
added-events w p all own = all-each (port_stands w) event_ports_of (w.processes ++ p ∷ []) (every-push (λ p. every (port_stands w) (event_ports_of p)) w.processes p (each-all (port_stands w) event_ports_of w.processes all) own)

changed-events : (w : World) (pid : ℕ) (f : ProcessRow → ProcessRow) → ((p : ProcessRow) → every (port_stands w) (event_ports_of p) ≡ true → every (port_stands w) (event_ports_of (f p)) ≡ true) → every (port_stands w) (event_ports w) ≡ true → every (port_stands w) (each event_ports_of (change (is_process pid) f w.processes)) ≡ true
changed-events w pid f keeps all = all-each (port_stands w) event_ports_of (change (is_process pid) f w.processes) (every-change (λ p. every (port_stands w) (event_ports_of p)) (is_process pid) f keeps w.processes (each-all (port_stands w) event_ports_of w.processes all))

processes-kept : (w : World) (pid : ℕ) (f : ProcessRow → ProcessRow) → ((p : ProcessRow) → (f p).birth ≡ p.birth) → ((p : ProcessRow) → every (port_stands w) (event_ports_of p) ≡ true → every (port_stands w) (event_ports_of (f p)) ≡ true) → KeepsNames w (record w { processes = change (is_process pid) f w.processes })
processes-kept w pid f same keeps =
    let v : World = record w { processes = change (is_process pid) f w.processes } in
    kept w v (record { sections = λ d is. is; tokens = λ d is. is; ports = λ b is. is; queues = λ x is. is; processes = λ b is. rw (has-change (is_born_process b) (is_process pid) f (λ p. rw (same p) refl) w.processes) is; threads = λ b is. is })
    (λ all. all) (λ all. all) (λ all. all) (λ all. all) (λ all. all) (changed-events w pid f keeps) (keeps-same w _)

debugged-stands : (w : World) (b : Birth) (p : ProcessRow) → port_stands w b ≡ true → every (port_stands w) (event_ports_of p) ≡ true → every (port_stands w) (event_ports_of (debugged b p)) ≡ true
debugged-stands w b p stands all = at p.debug_port p.exception_port all
  where
    at : (d e : Option Birth) → every (port_stands w) (listed d ++ listed e) ≡ true → every (port_stands w) (b ∷ listed e) ≡ true
    at None e all = and_from (port_stands w b) _ stands all
    at (Some c) e all = and_from (port_stands w b) _ stands (second-true (port_stands w c) _ all)

excepted-stands : (w : World) (b : Birth) (p : ProcessRow) → port_stands w b ≡ true → every (port_stands w) (event_ports_of p) ≡ true → every (port_stands w) (event_ports_of (excepted b p)) ≡ true
excepted-stands w b p stands all = at p.debug_port p.exception_port all
  where
    own : every (port_stands w) (b ∷ []) ≡ true
    own = and_from (port_stands w b) true stands refl

    at : (d e : Option Birth) → every (port_stands w) (listed d ++ listed e) ≡ true → every (port_stands w) (listed d ++ b ∷ []) ≡ true
    at None e all = own
    at (Some c) e all = and_from (port_stands w c) _ (first-true (port_stands w c) _ all) own

-- a step that passes in a world keeps it in each later one
step-kept : (w v : World) (b : Basic) → StaysNear w v → is_naming w b ≡ true → KeepsNames v (basic v b)
step-kept w v (Tells e) s is = kept v v (stays v) (λ all. all) (λ all. all) (λ all. all) (λ all. all) (λ all. all) (λ all. all) (keeps-same v _)
step-kept w v (Wakes who call status fields) s is = left-kept v who
step-kept w v (Leaves who) s is = left-kept v who
step-kept w v (Marks who) s is = kept v (basic v (Marks who)) (record { sections = λ d is. is; tokens = λ d is. is; ports = λ b is. is; queues = λ x is. is; processes = λ b is. is; threads = λ b is. is }) (λ all. all) (λ all. all) (λ all. all) (λ all. all) (λ all. all) (λ all. all) (every-any (keeps_mark v (basic v (Marks who))) (λ x. or-then (is_marked v x) (is_marked (basic v (Marks who)) x) (has-kept (is_mark x.thread) v.marks who)) v.waits)
step-kept w v (SetsDebug pid b) s is = processes-kept v pid (debugged b) (λ p. refl) (λ p. debugged-stands v b p (s.ports b is))
step-kept w v (SetsException pid b) s is = processes-kept v pid (excepted b) (λ p. refl) (λ p. excepted-stands v b p (s.ports b is))
step-kept w v (LetsGo pid) s is = processes-kept v pid portless (λ p. refl) (λ p all. refl)
step-kept w v (Dooms pid code) s is = processes-kept v pid (doomed code) (λ p. refl) (λ p all. all)
step-kept w v (Awaits x) s is = waits-kept v _ (λ all. every-push (near_or_marked v) v.waits x all (or_right (is_marked v x) _ (s.queues x is)))
step-kept w v (Receives who queue) s is = waits-kept v _ (every-change (near_or_marked v) (waits_at who queue) received (λ x is. is) v.waits)
step-kept w v (Accepts who reply) s is = waits-kept v _ (every-change (near_or_marked v) (waits_as who) (accepted reply) (accepted-near v reply) v.waits)
step-kept w v (Enters m) s is = messages-kept v _ (λ all. every-push (sent_on_port v) v.messages m all (s.ports m.sender is))
step-kept w v (Takes q) s is = messages-kept v _ (every-without_first (sent_on_port v) (is_queued q) v.messages)
step-kept w v (TakesConnect q) s is = messages-kept v _ (every-without_first (sent_on_port v) (is_queued_connect q) v.messages)
step-kept w v (Withdraws who) s is = messages-kept v _ (every-without (sent_on_port v) (is_own_of who) v.messages)
step-kept w v (Empties q) s is = messages-kept v _ (every-without (sent_on_port v) (is_queued q) v.messages)
step-kept w v (DrawsIdentifier who) s is = kept v (basic v (DrawsIdentifier who)) (record { sections = λ d is. is; tokens = λ d is. is; ports = λ c is. is; queues = λ x is. is; processes = λ c is. is; threads = λ c is. rw (has-change (is_born_thread c) (is_thread who) past_identifier (λ t. refl) v.threads) is }) (λ all. all) (λ all. all) (λ all. all) (all-changed (port_stands v) (is_thread who) past_identifier (λ t all. all) v.threads) (λ all. all) (λ all. all) (keeps-same v _)
step-kept w v (DrawsOrdinal who) s is = kept v (basic v (DrawsOrdinal who)) (record { sections = λ d is. is; tokens = λ d is. is; ports = λ c is. is; queues = λ x is. is; processes = λ c is. is; threads = λ c is. rw (has-change (is_born_thread c) (is_thread who) past_ordinal (λ t. refl) v.threads) is }) (λ all. all) (λ all. all) (λ all. all) (all-changed (port_stands v) (is_thread who) past_ordinal (λ t all. all) v.threads) (λ all. all) (λ all. all) (keeps-same v _)
step-kept w v (Dies who status) s is = kept v (basic v (Dies who status)) (record { sections = λ d is. is; tokens = λ d is. is; ports = λ c is. is; queues = λ x is. is; processes = λ c is. is; threads = λ c is. rw (has-change (is_born_thread c) (is_thread who) ended (λ t. refl) v.threads) is }) (λ all. all) (λ all. all) (every-without (near_or_marked v) (waits_as who) v.waits) (all-changed (port_stands v) (is_thread who) ended (λ t all. refl) v.threads) (λ all. all) (λ all. all) (left-marks v who)
step-kept w v (Registers who b) s is = kept v (basic v (Registers who b)) (record { sections = λ d is. is; tokens = λ d is. is; ports = λ c is. is; queues = λ x is. is; processes = λ c is. is; threads = λ c is. rw (has-change (is_born_thread c) (is_thread who) (registering b) (λ t. refl) v.threads) is }) (λ all. all) (λ all. all) (λ all. all) (all-changed (port_stands v) (is_thread who) (registering b) (registering-all (port_stands v) b (s.ports b is)) v.threads) (λ all. all) (λ all. all) (keeps-same v _)
step-kept w v (Unregisters who b) s is = kept v (basic v (Unregisters who b)) (record { sections = λ d is. is; tokens = λ d is. is; ports = λ c is. is; queues = λ x is. is; processes = λ c is. is; threads = λ c is. rw (has-change (is_born_thread c) (is_thread who) (unregistering b) (λ t. refl) v.threads) is }) (λ all. all) (λ all. all) (λ all. all) (all-changed (port_stands v) (is_thread who) (unregistering b) (unregistering-all (port_stands v) b) v.threads) (λ all. all) (λ all. all) (keeps-same v _)
step-kept w v (AddsProcess p) s is = kept v (basic v (AddsProcess p)) (record { sections = λ d is. is; tokens = λ d is. is; ports = λ b is. is; queues = λ x is. is; processes = λ b is. has-kept (is_born_process b) v.processes p is; threads = λ b is. is }) (λ all. every-push (tables_to_objects v) v.handles (no_handles p.number) all refl) (λ all. all) (λ all. all) (λ all. all) (λ all. every-push (shows_sections v) v.views (no_views p.number) all refl) (λ all. added-events v p all (every-more (port_stands w) (port_stands v) s.ports (event_ports_of p) is)) (keeps-same v _)
step-kept w v (AddsThread t) s is = kept v (basic v (AddsThread t)) (record { sections = λ d is. is; tokens = λ d is. is; ports = λ b is. is; queues = λ x is. is; processes = λ b is. is; threads = λ b is. has-kept (is_born_thread b) v.threads t is }) (λ all. all) (λ all. all) (λ all. all) (λ all. all-pushed (port_stands v) v.threads t (every-more (port_stands w) (port_stands v) s.ports (registered_by t) is) all) (λ all. all) (λ all. all) (keeps-same v _)
step-kept w v (Makes p) s is = kept v (basic v (Makes p)) (record { sections = λ d is. is; tokens = λ d is. is; ports = λ b is. has-kept (is_port b) v.ports p is; queues = λ x is. push-passes v p x.port (is_near x) is; processes = λ b is. is; threads = λ b is. is }) (λ all. all) (λ all. all) (λ all. all) (λ all. all) (λ all. all) (λ all. all) (keeps-same v _)
step-kept w v (Joins client server context) s is = absurd (cc)
step-kept w v (Completes b) s is =
    kept v (basic v (Completes b)) (record {
      sections = λ d is. is;
      tokens = λ d is. is;
      ports = λ c is. rw (has-change (is_port c) (is_port b) completed (λ p. refl) v.ports) is;
      queues = λ x is. rw (passes-change (is_port x.port) (is_near x) (is_port b) completed (λ p. refl) (λ p. refl) v.ports) is;
      processes = λ c is. is;
      threads = λ c is. is;
    }) (λ all. all) (λ all. all) (λ all. all) (λ all. all) (λ all. all) (λ all. all) (keeps-same v _)
step-kept w v (Cuts b) s is = absurd (cc)
step-kept w v (Frees o) s is = absurd (cc)
step-kept w v (Binds path node) s is = kept v (basic v (Binds path node)) (record { sections = λ d is. is; tokens = λ d is. is; ports = λ b is. is; queues = λ x is. is; processes = λ b is. is; threads = λ b is. is }) (λ all. all) (λ all. all) (λ all. all) (λ all. all) (λ all. all) (λ all. all) (keeps-same v _)
step-kept w v (Unbinds b) s is = kept v (basic v (Unbinds b)) (record { sections = λ d is. is; tokens = λ d is. is; ports = λ b is. is; queues = λ x is. is; processes = λ b is. is; threads = λ b is. is }) (λ all. all) (λ all. all) (λ all. all) (λ all. all) (λ all. all) (λ all. all) (keeps-same v _)
step-kept w v (AddsHandle pid h) s is = handles-kept v _ (every-change (tables_to_objects v) (is_table pid) (with_handle h) (λ t all. put-all (names_object v) h t.rows (to-object-kept w v s h is) all) v.handles)
step-kept w v (DropsHandle pid value) s is = handles-kept v _ (every-change (tables_to_objects v) (is_table pid) (without_handle value) (λ t all. every-without_first (names_object v) (has_value value) t.rows all) v.handles)
step-kept w v (Secures b y) s is =
    kept v (basic v (Secures b y)) (record {
      sections = λ d is. is;
      tokens = λ d is. is;
      ports = λ c is. rw (has-change (is_port c) (is_port b) (secured y) (λ p. refl) v.ports) is;
      queues = λ x is. rw (passes-change (is_port x.port) (is_near x) (is_port b) (secured y) (λ p. refl) (λ p. refl) v.ports) is;
      processes = λ c is. is;
      threads = λ c is. is;
    }) (λ all. all) (λ all. all) (λ all. all) (λ all. all) (λ all. all) (λ all. all) (keeps-same v _)
step-kept w v (Acts who own) s is = kept v (basic v (Acts who own)) (record { sections = λ d is. is; tokens = λ d is. is; ports = λ c is. is; queues = λ x is. is; processes = λ c is. is; threads = λ c is. rw (has-change (is_born_thread c) (is_thread who) (acting own) (λ t. refl) v.threads) is }) (λ all. all) (λ all. all) (λ all. all) (all-changed (port_stands v) (is_thread who) (acting own) (λ t all. all) v.threads) (λ all. all) (λ all. all) (keeps-same v _)
step-kept w v (AddsToken x) s is = kept v (basic v (AddsToken x)) (record { sections = λ d is. is; tokens = λ d is. has-kept (is_token d) v.tokens x is; ports = λ b is. is; queues = λ x is. is; processes = λ b is. is; threads = λ b is. is }) (λ all. all) (λ all. all) (λ all. all) (λ all. all) (λ all. all) (λ all. all) (keeps-same v _)
step-kept w v (NamesToken n) s is = kept v (basic v (NamesToken n)) (record { sections = λ d is. is; tokens = λ d is. is; ports = λ b is. is; queues = λ x is. is; processes = λ b is. is; threads = λ b is. is }) (λ all. all) (λ all. all) (λ all. all) (λ all. all) (λ all. all) (λ all. all) (keeps-same v _)
step-kept w v (AddsSection x) s is = kept v (basic v (AddsSection x)) (record { sections = λ d is. has-kept (is_section d) v.sections x is; tokens = λ d is. is; ports = λ b is. is; queues = λ x is. is; processes = λ b is. is; threads = λ b is. is }) (λ all. all) (λ all. all) (λ all. all) (λ all. all) (λ all. all) (λ all. all) (keeps-same v _)
step-kept w v (Writes b place new) s is = kept v (basic v (Writes b place new)) (record { sections = λ d is. is; tokens = λ d is. is; ports = λ b is. is; queues = λ x is. is; processes = λ b is. is; threads = λ b is. is }) (λ all. all) (λ all. all) (λ all. all) (λ all. all) (λ all. all) (λ all. all) (keeps-same v _)
step-kept w v (Maps pid x) s is = views-kept v _ (every-change (shows_sections v) (is_space pid) (with_view x) (λ t all. every-push (shows_standing v) t.rows x all (shows-kept w v s.sections s.ports x is)) v.views)
step-kept w v (Unmaps pid base) s is = views-kept v _ (every-change (shows_sections v) (is_space pid) (without_view base) (λ t all. every-without (shows_standing v) (lies_at base) t.rows all) v.views)
step-kept w v (DropsOwned b) s is = views-kept v _ (every-mapped (shows_sections v) (without_owned b) (λ t all. every-without (shows_standing v) (is_owned_by b) t.rows all) v.views)
step-kept w v (DropsViewsOf pid) s is = views-kept v _ (every-change (shows_sections v) (is_space pid) without_views (λ t all. refl) v.views)

near-then : (w v u : World) → StaysNear w v → StaysNear v u → StaysNear w u
near-then w v u a b = record {
  sections = λ c is. b.sections c (a.sections c is);
  tokens = λ c is. b.tokens c (a.tokens c is);
  ports = λ c is. b.ports c (a.ports c is);
  queues = λ x is. b.queues x (a.queues x is);
  processes = λ c is. b.processes c (a.processes c is);
  threads = λ c is. b.threads c (a.threads c is);
}

steps-kept : (w v : World) (bs : List Basic) → StaysNear w v → AreNaming w bs → NamesInside v → NamesInside (world_after v bs)
steps-kept w v [] s all n = n
steps-kept w v (b ∷ bs) s all n =
    let here : is_naming w b ≡ true = grind arith in
    let later : every (is_naming w) bs ≡ true = grind arith in
    let k = step-kept w v b s here in
    steps-kept w (basic v b) bs (near-then w v (basic v b) s k.near) later (k.names n)

-- steps that all pass
pub naming-all : (w : World) (bs : List Basic) → AreNaming w bs → NamesInside w → NamesInside (world_after w bs)
naming-all w bs all n = steps-kept w w bs (stays w) all n

-- A connection that is cut
-- a request whose other end is lost isn't left
cut-near : (w : World) (b : Birth) (x : WaitRow) → not (is_asking x && cut_hit w b x) ≡ true → has_near_queue w x ≡ true → has_near_queue (basic w (Cuts b)) x ≡ true
cut-near w b x free is = at (port_row w x.port) refl
  where
    here : (p : PortRow) (own across : Bool) → not (is_asking x && (own || across)) ≡ true → is_near x p ≡ true → is_near x (cond (own || across) (cut p) p) ≡ true
    here p own across none near = of (own || across) none near
      where
        of : (c : Bool) → not (is_asking x && c) ≡ true → is_near x p ≡ true → is_near x (cond c (cut p) p) ≡ true
        of true none near = grind arith
        of false none near = near

    at : (o : Option PortRow) → port_row w x.port ≡ o → has_near_queue (basic w (Cuts b)) x ≡ true
    at None none = let never : false ≡ true = rw none at is in absurd (cc)
    at (Some p) row =
        let near : is_near x p ≡ true = rw row at is in
        let own = birth-same p.birth x.port (first-passes (is_port x.port) w.ports p row) in
        let none : not (is_asking x && (same_birth x.port b || is_the b p.pair)) ≡ true = rw row at free in
        let none' : not (is_asking x && (is_port b p || is_paired_to b p)) ≡ true = subst (λ c. not (is_asking x && (same_birth c b || is_the b p.pair)) ≡ true) (sym own) none in
        rw (cut-row w b x.port p row) (here p (is_port b p) (is_paired_to b p) none' near)

cut-or-marked : (w : World) (b : Birth) (x : WaitRow) → (not (is_cut_request w b x) && is_clear w (cut_hit w b) x) ≡ true → near_or_marked w x ≡ true → near_or_marked (basic w (Cuts b)) x ≡ true
cut-or-marked w b x free is = at (is_marked w x) refl is
  where
    parts : (r e m h : Bool) → m ≡ false → (not (r && h) && (not (e && h) || m)) ≡ true → not ((r || e) && h) ≡ true
    parts r e m h off is = grind arith

    at : (m : Bool) → is_marked w x ≡ m → (m || has_near_queue w x) ≡ true → (is_marked w x || has_near_queue (basic w (Cuts b)) x) ≡ true
    at true marked is = rw marked refl
    at false marked is = or_right (is_marked w x) _ (cut-near w b x (parts (is_request x) (is_event x) (is_marked w x) (cut_hit w b x) marked free) is)

pub cut-names : (w : World) (b : Birth) → every (λ x. not (is_cut_request w b x)) w.waits ≡ true → every (is_clear w (cut_hit w b)) w.waits ≡ true → NamesInside w → NamesInside (basic w (Cuts b))
cut-names w b free clear n =
    let v = basic w (Cuts b) in
    let stands = λ (c : Birth) (is : has (is_port c) w.ports ≡ true). subst (λ h. h ≡ true) (sym (has-change (is_port c) (is_end_of b) cut (λ p. refl) w.ports)) is in
    record {
      handles = every-more (tables_to_objects w) (tables_to_objects v) (λ t is. every-more (names_object w) (names_object v) (object-kept w v stands (λ c is. is) (λ c is. is) (λ c is. is) (λ c is. is)) t.rows is) w.handles n.handles;
      senders = every-more (sent_on_port w) (sent_on_port v) (λ m. stands m.sender) w.messages n.senders;
      queues = every-both (λ x. not (is_cut_request w b x) && is_clear w (cut_hit w b) x) (near_or_marked w) (near_or_marked v) (λ x none is. cut-or-marked w b x none is) w.waits (every-both (λ x. not (is_cut_request w b x)) (is_clear w (cut_hit w b)) _ (λ x one two. and_from _ _ one two) w.waits free clear) n.queues;
      registrations = every-more (port_stands w) (port_stands v) stands (all_registrations w) n.registrations;
      event_ports = every-more (port_stands w) (port_stands v) stands (event_ports w) n.event_ports;
      views = every-more (shows_sections w) (shows_sections v) (λ t is. every-more (shows_standing w) (shows_standing v) (shows-kept w v (λ c is. is) stands) t.rows is) w.views n.views;
    }

-- A row that goes
-- a port that isn't the one that goes stands
port-left : (w : World) (b c : Birth) → same_birth c b ≡ false → has (is_port c) w.ports ≡ true → has (is_port c) (without (is_port b) w.ports) ≡ true
port-left w b c off is = has-without (is_port c) (is_port b) w.ports (every-any (λ p. not (is_port b p) || not (is_port c p)) (λ p. apart p.birth) w.ports) is
  where
    apart : (d : Birth) → (not (same_birth d b) || not (same_birth d c)) ≡ true
    apart d = grind (arith, nat_tests)

-- so with a process, a thread, a section and a token
born-left : {X : Type 0} (birth : X → Birth) (b c : Birth) (xs : List X) → same_birth c b ≡ false → has (λ x. same_birth (birth x) c) xs ≡ true → has (λ x. same_birth (birth x) c) (without (λ x. same_birth (birth x) b) xs) ≡ true
born-left birth b c xs off is = has-without (λ x. same_birth (birth x) c) (λ x. same_birth (birth x) b) xs (every-any (λ x. not (same_birth (birth x) b) || not (same_birth (birth x) c)) (λ x. apart (birth x)) xs) is
  where
    apart : (d : Birth) → (not (same_birth d b) || not (same_birth d c)) ≡ true
    apart d = grind (arith, nat_tests)

-- a handle to another object names one that stands
handle-left : (w : World) (o : ObjectName) (h : HandleRow) → names_object w h ≡ true → not (same_object h.object o) ≡ true → names_object (basic w (Frees o)) h ≡ true
handle-left w o h is off = at o.kind o.birth h.object.kind h.object.birth is off
  where
    apart : (s : Bool) → not (true && s) ≡ true → s ≡ false
    apart s one = grind arith

    at : (k : ObjectKind) (b : Birth) (l : ObjectKind) (c : Birth) → stands_as w l c ≡ true → not (same_kind l k && same_birth c b) ≡ true → stands_as (freed w k b) l c ≡ true
    at kind.Port b kind.Port c is off = port-left w b c (apart (same_birth c b) off) is
    at kind.Port b kind.Section c is off = is
    at kind.Port b kind.Token c is off = is
    at kind.Port b kind.Process c is off = is
    at kind.Port b kind.Thread c is off = is
    at kind.Section b kind.Port c is off = is
    at kind.Section b kind.Section c is off = born-left (λ (s : SectionRow). s.birth) b c w.sections (apart (same_birth c b) off) is
    at kind.Section b kind.Token c is off = is
    at kind.Section b kind.Process c is off = is
    at kind.Section b kind.Thread c is off = is
    at kind.Token b kind.Port c is off = is
    at kind.Token b kind.Section c is off = is
    at kind.Token b kind.Token c is off = born-left (λ (t : TokenRow). t.birth) b c w.tokens (apart (same_birth c b) off) is
    at kind.Token b kind.Process c is off = is
    at kind.Token b kind.Thread c is off = is
    at kind.Process b kind.Port c is off = is
    at kind.Process b kind.Section c is off = is
    at kind.Process b kind.Token c is off = is
    at kind.Process b kind.Process c is off = born-left (λ (p : ProcessRow). p.birth) b c w.processes (apart (same_birth c b) off) is
    at kind.Process b kind.Thread c is off = is
    at kind.Thread b kind.Port c is off = is
    at kind.Thread b kind.Section c is off = is
    at kind.Thread b kind.Token c is off = is
    at kind.Thread b kind.Process c is off = is
    at kind.Thread b kind.Thread c is off = born-left (λ (t : ThreadRow). t.birth) b c w.threads (apart (same_birth c b) off) is

-- where no row counts for an object, no handle names it, and those that are left name what stands
handles-left : (w : World) (o : ObjectName) → pointer_count w o ≤ 0 → NamesWhatStands w → every (tables_to_objects (basic w (Frees o))) w.handles ≡ true
handles-left w o few n =
    let unnamed = none-pass (λ (h : HandleRow). same_object h.object o) (all_handles w) (sum-first (handle_count w o) (holders w o.kind o.birth) few) in
    every-both (tables_to_objects w) (λ t. every (λ h. not (same_object h.object o)) t.rows) (tables_to_objects (basic w (Frees o)))
    (λ t is off. every-both (names_object w) (λ h. not (same_object h.object o)) (names_object (basic w (Frees o))) (handle-left w o) t.rows is off) w.handles n.handles
    (sym (every-each (λ (h : HandleRow). not (same_object h.object o)) (λ (t : HandleTable). t.rows) w.handles) ∙ unnamed)

port-names : (w : World) (b : Birth) → pointer_count w (port_name b) ≤ 0 → NamesWhatStands w → NamesWhatStands (basic w (Frees (port_name b)))
port-names w b few n =
    let v = basic w (Frees (port_name b)) in
    let held : count (is_paired_to b) w.ports + (count (is_connected_to b) w.ports + (count (is_sent_on b) w.messages + (count (is_made_on b) w.waits + (count (same_birth b) (all_registrations w) + (count (is_owned_by b) (all_views w) + count (same_birth b) (event_ports w)))))) ≤ 0 = sum-second _ _ few in
    let made = none-pass (is_made_on b) w.waits (omega (arith, held)) in
    let sent = none-pass (is_sent_on b) w.messages (omega (arith, held)) in
    let unregistered = none-pass (same_birth b) (all_registrations w) (omega (arith, held)) in
    let unowned = none-pass (is_owned_by b) (all_views w) (omega (arith, held)) in
    record {
      handles = handles-left w (port_name b) few n;
      senders = every-both (sent_on_port w) (λ m. not (is_sent_on b m)) (sent_on_port v) (λ m is off. port-left w b m.sender (not-true (same_birth m.sender b) off) is) w.messages n.senders sent;
      queues = every-both (has_near_queue w) (λ x. not (is_made_on b x)) (has_near_queue v) (λ x is off. rw (row-freed w b x.port (not-true (same_birth x.port b) off)) is) w.waits n.queues made;
      registrations = every-both (port_stands w) (λ c. not (same_birth b c)) (port_stands v) (λ c is off. port-left w b c (births-apart b c (not-true (same_birth b c) off)) is) (all_registrations w) n.registrations unregistered;
      event_ports = every-both (port_stands w) (λ c. not (same_birth b c)) (port_stands v) (λ c is off. port-left w b c (births-apart b c (not-true (same_birth b c) off)) is) (event_ports w) n.event_ports (none-pass (same_birth b) (event_ports w) (omega (arith, held)));
      views = every-both (shows_sections w) (λ t. every (λ x. not (is_owned_by b x)) t.rows) (shows_sections v) (λ t is off. every-both (shows_standing w) (λ x. not (is_owned_by b x)) (shows_standing v) (λ x is off. left x is (owned x.owner off (second-true (section_stands w x.section) _ is))) t.rows is off) w.views n.views (sym (every-each (λ x. not (is_owned_by b x)) (λ (t : ViewTable). t.rows) w.views) ∙ unowned);
    }
  where
    left : (x : ViewRow) → shows_standing w x ≡ true → passes_or_none x.owner (port_stands (basic w (Frees (port_name b)))) ≡ true → shows_standing (basic w (Frees (port_name b))) x ≡ true
    left x is owns = and_from (section_stands w x.section) _ (first-true (section_stands w x.section) _ is) owns

    owned : (o : Option Birth) → not (is_the b o) ≡ true → passes_or_none o (port_stands w) ≡ true → passes_or_none o (port_stands (basic w (Frees (port_name b)))) ≡ true
    owned None off is = refl
    owned (Some c) off is = port-left w b c (births-apart b c (not-true (same_birth b c) off)) is

-- a section that no row counts for goes: no view shows it
section-names : (w : World) (b : Birth) → pointer_count w (section_name b) ≤ 0 → NamesWhatStands w → NamesWhatStands (basic w (Frees (section_name b)))
section-names w b few n =
    let gone = basic w (Frees (section_name b)) in
    let unshown = none-pass (shows_section b) (all_views w) (sum-first (count (shows_section b) (all_views w)) (count (offers_section b) w.waits) (sum-second (handle_count w (section_name b)) _ few)) in
    let left = λ (x : ViewRow) (is : shows_standing w x ≡ true) (off : not (shows_section b x) ≡ true). and_from (section_stands gone x.section) _ (born-left (λ (s : SectionRow). s.birth) b x.section w.sections (not-true (same_birth x.section b) off) (first-true (section_stands w x.section) _ is)) (second-true (section_stands w x.section) _ is) in
    record {
      handles = handles-left w (section_name b) few n;
      senders = n.senders;
      queues = n.queues;
      registrations = n.registrations;
      event_ports = n.event_ports;
      views = every-both (shows_sections w) (λ t. every (λ x. not (shows_section b x)) t.rows) (shows_sections gone) (λ t is off. every-both (shows_standing w) (λ x. not (shows_section b x)) (shows_standing gone) left t.rows is off) w.views n.views (sym (every-each (λ x. not (shows_section b x)) (λ (t : ViewTable). t.rows) w.views) ∙ unshown);
    }

pub gone-names : (w : World) (o : ObjectName) → is_unheld w o ≡ true → NamesWhatStands w → NamesWhatStands (basic w (Frees o))
gone-names w o none n = at o.kind o.birth (is-zero (pointer_count w o) none)
  where
    at : (k : ObjectKind) (b : Birth) → pointer_count w (record { kind = k; birth = b }) ≤ 0 → NamesWhatStands (basic w (Frees (record { kind = k; birth = b })))
    at kind.Port b few = port-names w b few n
    at kind.Section b few = section-names w b few n
    at kind.Token b few = record { handles = handles-left w (token_name b) few n; senders = n.senders; queues = n.queues; registrations = n.registrations; event_ports = n.event_ports; views = n.views }
    at kind.Process b few = record { handles = handles-left w (process_name b) few n; senders = n.senders; queues = n.queues; registrations = n.registrations; event_ports = all-each (port_stands w) event_ports_of (without (λ p. same_birth p.birth b) w.processes) (every-without (λ p. every (port_stands w) (event_ports_of p)) (λ p. same_birth p.birth b) w.processes (each-all (port_stands w) event_ports_of w.processes n.event_ports)); views = n.views }
    at kind.Thread b few = record { handles = handles-left w (thread_name b) few n; senders = n.senders; queues = n.queues; registrations = all-left (port_stands w) (λ t. same_birth t.birth b) w.threads n.registrations; event_ports = n.event_ports; views = n.views }

all-gone : (w : World) (os : List ObjectName) → every (is_unheld w) os ≡ true → NamesWhatStands w → NamesWhatStands (world_after w (map Frees os))
all-gone w [] all n = n
all-gone w (o ∷ os) all n =
    let here : is_unheld w o ≡ true = grind arith in
    let later : every (is_unheld w) os ≡ true = grind arith in
    all-gone (basic w (Frees o)) os (every-more (is_unheld w) (is_unheld (basic w (Frees o))) (less-held w o) os later) (gone-names w o here n)

pub swept-names : (w : World) → NamesWhatStands w → NamesWhatStands (world_after w (sweep w))
unfolding sweep
swept-names w n =
    let v = world_after w (free_unheld w) in
    let m = all-gone w (unheld w) (which-all (is_unheld w) _) n in
    rw (after-append w (free_unheld w) (free_unheld v)) (all-gone v (unheld v) (which-all (is_unheld v) _) m)

-- the queue of no wait is that of a port that no row counts for
pub unheld_no_queue : (w : World) (b : Birth) → NamesWhatStands w → is_unheld w (port_name b) ≡ true → every (λ x. not (same_birth x.queue b)) w.waits ≡ true
unheld_no_queue w b n none =
    let few = is-zero (pointer_count w (port_name b)) none in
    let held : count (is_paired_to b) w.ports + (count (is_connected_to b) w.ports + (count (is_sent_on b) w.messages + (count (is_made_on b) w.waits + (count (same_birth b) (all_registrations w) + (count (is_owned_by b) (all_views w) + count (same_birth b) (event_ports w)))))) ≤ 0 = sum-second _ _ few in
    let made = none-pass (is_made_on b) w.waits (omega (arith, held)) in
    let unpaired = none-pass (is_paired_to b) w.ports (omega (arith, held)) in
    let unconnected = none-pass (is_connected_to b) w.ports (omega (arith, held)) in
    every-both (has_near_queue w) (λ x. not (is_made_on b x)) (λ x. not (same_birth x.queue b)) (λ x near off. elsewhere unpaired unconnected x near off) w.waits n.queues made
  where
    parts : (own q c r p : Bool) → own ≡ false → c ≡ false → p ≡ false → (q ≡ true → own ≡ true) → (q || (c || (r && p))) ≡ true → false ≡ true
    parts own q c r p one two three more is = grind (arith, more)

    elsewhere : every (λ p. not (is_paired_to b p)) w.ports ≡ true → every (λ p. not (is_connected_to b p)) w.ports ≡ true → (x : WaitRow) → has_near_queue w x ≡ true → not (is_made_on b x) ≡ true → not (same_birth x.queue b) ≡ true
    elsewhere unpaired unconnected x near off = at (same_birth x.queue b) refl
      where
        of : x.queue ≡ b → (o : Option PortRow) → port_row w x.port ≡ o → passes o (is_near x) ≡ true → false ≡ true
        of same None row is = is
        of same (Some p) row is =
            let own = birth-same p.birth x.port (first-passes (is_port x.port) w.ports p row) in
            let near' : (same_birth p.birth b || (is_the b p.connection || (is_asking x && is_the b p.pair))) ≡ true = subst (λ q. (same_birth p.birth q || (is_the q p.connection || (is_asking x && is_the q p.pair))) ≡ true) same is in
            parts (same_birth x.port b) (same_birth p.birth b) (is_the b p.connection) (is_asking x) (is_the b p.pair) (not-true _ off)
            (not-true _ (every-first (λ p. not (is_connected_to b p)) (is_port x.port) w.ports p unconnected row)) (not-true _ (every-first (λ p. not (is_paired_to b p)) (is_port x.port) w.ports p unpaired row))
            (λ is. subst (λ c. same_birth c b ≡ true) own is) near'

        at : (k : Bool) → same_birth x.queue b ≡ k → not k ≡ true
        at false is = refl
        at true is = of (birth-same x.queue b is) (port_row w x.port) refl near
