-- A world without some rows that no other row names: what each basic step and the sweep do to it.
use Rattle.lpc_model.specs.Left.{HasLivingPorts, is_living_process, is_portless}
use Rattle.std.proofs.Common.{◌≡◌, ◌≤◌, ℕ, List, [], ◌∷◌, ◌++◌, Bool, true, false, not, map, Option, Some, None, refl, ap, sym, subst, ◌∙◌, arith}
use Rattle.std.specs.Prelude.{◌&&◌, ◌||◌, ◌+◌, ◌==◌, nat_lt, is_some, is_none}
use Rattle.std.proofs.lemmas.Bool.{and_from, eqb-true, not-true, or_left}
use Rattle.lpc_base.specs.Rows.{change, count, each, every, has, which, without, first}
use Rattle.lpc_base.proofs.RowWords.{every-back, every-change, every-front, every-more, every-push, every-which, every-without, first-passes}
use Rattle.lpc_base.proofs.RowMaps.{every-both, every-first, every-mapped, every-without_first}
use Rattle.lpc_base.proofs.Bools.{apart-second, first-true, same-number, second-true}
use Rattle.lpc_base.proofs.Births.{birth-same, births-apart}
use Rattle.lpc_model.specs.declared.entry.ObjectKind.{ObjectKind}
use Rattle.lpc_model.specs.declared.entry.ObjectKind.TheVariants as kind
use Rattle.lpc_model.specs.World.{Birth, ContentRow, Contents, HandleRow, HandleTable, Known, MessageRow, ObjectName, PortRow, ProcessRow, SectionRow, ThreadRow, Unknown, ViewRow, ViewTable, WaitRow, World, Offer, Acceptance, WaitKind, Request, Connect, Accepted, Receive, Listen, TokenRow, Event}
use Rattle.lpc_model.specs.Found.{all_handles, all_views, handle_count, has_value, is_connected_to, is_content, is_cut, is_life, is_made_on, is_own_of, is_paired_to, is_port, is_queued, is_section, is_sent_on, is_table, is_the, is_thread, lies_at, is_space, holders, lives_by, port_name, process_name, same_birth, same_kind, same_object, section_name, shows_section, thread_name, waits_as, waits_at, all_registrations, registered_by, live_thread, live_threads, is_live, is_live_thread, lives_in, is_owned_by, offer_of, offers_section, is_token, token_name, event_ports, event_ports_of, is_process, listed}
use Rattle.lpc_model.specs.Basics.{Accepts, AddsHandle, AddsProcess, AddsSection, AddsThread, Awaits, Basic, Binds, Completes, Cuts, DrawsIdentifier, DrawsOrdinal, DropsHandle, DropsViewsOf, Empties, Enters, Frees, Joins, Makes, Maps, Receives, Takes, TakesConnect, Tells, Unbinds, Unmaps, Wakes, Withdraws, Writes, accepted, basic, completed, cut, freed, in_known, is_end_of, joined, no_handles, no_views, past_identifier, past_ordinal, received, with_handle, with_view, without_handle, without_view, without_views, world_after, written, zeros, Dies, Registers, Unregisters, ended, registering, unregistering, DropsOwned, without_owned, Acts, AddsToken, NamesToken, Secures, acting, secured, Dooms, Leaves, LetsGo, Marks, SetsDebug, SetsException, debugged, doomed, excepted, portless}
use Rattle.lpc_model.specs.Sweep.{free_unheld, is_unheld, sweep, unheld}
use Rattle.lpc_model.specs.SoundWaits.{IsSoundWorld}
use Rattle.lpc_model.specs.Linked.{IsLinked}
use Rattle.lpc_model.proofs.Linked.Joins.{gone-linked}
use Rattle.lpc_model.proofs.Held.Ports.{lonely}
use Rattle.lpc_model.proofs.Sound.Frees.{freed-sound, is-zero, less-held, none-pass, sum-first, sum-second, which-all}
use Rattle.lpc_model.proofs.Steps.Registrations.{all-pushed, all-changed, registering-all, unregistering-all}
use Rattle.lpc_message.specs.declared.message.ClientId.{ClientId}
use Rattle.lpc_model.specs.Tests.{client_test}
use Rattle.lpc_model.proofs.Steps.Rows.{has-off}
use Rattle.lpc_model.proofs.Steps.InTurn.{after-append}
use Rattle.lpc_isolation.proofs.Views.Filters.{first-where, has-inside, kept-change, kept-push, which-where}

-- the births of the ports, sections, tokens, processes and threads that stand, and the numbers of processes that stand while they live
pub record Alive : Type 0 where
  pub ports : Birth → Bool
  pub sections : Birth → Bool
  pub tokens : Birth → Bool
  pub processes : Birth → Bool
  pub threads : Birth → Bool
  pub homes : ℕ → Bool

abbrev pub port_alive : Alive → PortRow → Bool
port_alive k p = k.ports p.birth

abbrev pub process_alive : Alive → ProcessRow → Bool
process_alive k p = k.processes p.birth

abbrev pub thread_alive : Alive → ThreadRow → Bool
thread_alive k t = k.threads t.birth

abbrev pub section_alive : Alive → SectionRow → Bool
section_alive k s = k.sections s.birth

abbrev pub token_alive : Alive → TokenRow → Bool
token_alive k t = k.tokens t.birth

abbrev pub content_alive : Alive → ContentRow → Bool
content_alive k c = k.sections c.section

-- the world without the others' rows, and without the bytes of other sections
abbrev pub thin : Alive → World → World
thin k u = record u {
  processes = which (process_alive k) u.processes;
  threads = which (thread_alive k) u.threads;
  ports = which (port_alive k) u.ports;
  sections = which (section_alive k) u.sections;
  contents = in_known (which (content_alive k)) u.contents;
  tokens = which (token_alive k) u.tokens;
}

-- what a row names is alive
abbrev pub all_alive : (Birth → Bool) → Option Birth → Bool
all_alive f None = true
all_alive f (Some b) = f b

abbrev pub alive_as : Alive → ObjectKind → Birth → Bool
alive_as k kind.Port b = k.ports b
alive_as k kind.Section b = k.sections b
alive_as k kind.Token b = k.tokens b
alive_as k kind.Process b = k.processes b
alive_as k kind.Thread b = k.threads b

abbrev pub object_alive : Alive → ObjectName → Bool
object_alive k o = alive_as k o.kind o.birth

abbrev pub handle_closed : Alive → HandleRow → Bool
handle_closed k h = object_alive k h.object

abbrev pub table_closed : Alive → HandleTable → Bool
table_closed k t = every (handle_closed k) t.rows

abbrev pub port_closed : Alive → PortRow → Bool
port_closed k p = not (k.ports p.birth) || (all_alive k.ports p.pair && all_alive k.ports p.connection)

abbrev pub message_closed : Alive → MessageRow → Bool
message_closed k x = k.ports x.sender

abbrev pub offer_alive : Alive → Option Offer → Bool
offer_alive k None = true
offer_alive k (Some o) = k.sections o.section

abbrev pub wait_closed : Alive → WaitRow → Bool
wait_closed k x = k.ports x.port && offer_alive k (offer_of x)

abbrev pub view_closed : Alive → ViewRow → Bool
view_closed k v = k.sections v.section && all_alive k.ports v.owner

abbrev pub space_closed : Alive → ViewTable → Bool
space_closed k t = every (view_closed k) t.rows

-- a port that a handle names is alive
kind-live : (k : Alive) (s : ObjectKind) (b : Birth) → alive_as k s b ≡ true → same_kind s kind.Port ≡ true → k.ports b ≡ true
kind-live k kind.Port b live port = live
kind-live k e b live port = absurd (cc)

pub section-live-as : (k : Alive) (s : ObjectKind) (b : Birth) → alive_as k s b ≡ true → same_kind s kind.Section ≡ true → k.sections b ≡ true
section-live-as k kind.Section b live section = live
section-live-as k e b live section = absurd (cc)

pub token-live-as : (k : Alive) (s : ObjectKind) (b : Birth) → alive_as k s b ≡ true → same_kind s kind.Token ≡ true → k.tokens b ≡ true
token-live-as k kind.Token b live token = live
token-live-as k e b live token = absurd (cc)

pub port-live : (k : Alive) (o : ObjectName) → object_alive k o ≡ true → same_kind o.kind kind.Port ≡ true → k.ports o.birth ≡ true
port-live k o live port = kind-live k o.kind o.birth live port

-- a thread that lives stands, and so does its process, by each row of its number
abbrev pub thread_closed : Alive → ThreadRow → Bool
thread_closed k t = not t.live || (k.threads t.birth && k.homes t.process)

abbrev pub process_closed : Alive → ProcessRow → Bool
process_closed k p = not (k.homes p.number) || k.processes p.birth

-- a port that has gone has no other end
abbrev pub port_cut : Alive → PortRow → Bool
port_cut k p = k.ports p.birth || is_cut p

-- ports that are told of exceptions
abbrev pub hearer_closed : Alive → ProcessRow → Bool
hearer_closed k p = every k.ports (event_ports_of p)

-- what the rows that stand name, stands, and so do what live threads registered, and the threads and processes that live
pub record Closed (k : Alive) (u : World) : Type 0 where
  pub tables : every (table_closed k) u.handles ≡ true
  pub ports : every (port_closed k) u.ports ≡ true
  pub messages : every (message_closed k) u.messages ≡ true
  pub waits : every (wait_closed k) u.waits ≡ true
  pub registrations : every k.ports (all_registrations u) ≡ true
  pub cuts : every (port_cut k) u.ports ≡ true
  pub threads : every (thread_closed k) u.threads ≡ true
  pub processes : every (process_closed k) u.processes ≡ true
  pub views : every (space_closed k) u.views ≡ true
  pub events : every (hearer_closed k) u.processes ≡ true

-- a step that names what is alive alone
abbrev pub is_closed : Alive → Basic → Bool
is_closed k (Awaits x) = wait_closed k x
is_closed k (Enters x) = message_closed k x
is_closed k (Makes p) = k.ports p.birth && port_closed k p
is_closed k (Joins client server context) = k.ports client && k.ports server
is_closed k (Binds path node) = true
is_closed k (AddsHandle pid h) = handle_closed k h
is_closed k (Tells e) = true
is_closed k (Wakes who call status fields) = true
is_closed k (Receives who q) = true
is_closed k (Accepts who reply) = true
is_closed k (Takes q) = true
is_closed k (TakesConnect q) = true
is_closed k (DrawsIdentifier who) = true
is_closed k (DrawsOrdinal who) = true
is_closed k (Dies who status) = true
is_closed k (Registers who b) = k.ports b
is_closed k (Unregisters who b) = true
is_closed k (AddsProcess p) = k.processes p.birth && hearer_closed k p
is_closed k (AddsThread t) = k.threads t.birth && (thread_closed k t && every k.ports (registered_by t))
is_closed k (Completes b) = true
is_closed k (Withdraws who) = true
is_closed k (Frees o) = false
is_closed k (Empties q) = true
is_closed k (Cuts b) = true
is_closed k (Unbinds b) = true
is_closed k (DropsHandle pid value) = true
is_closed k (AddsSection s) = k.sections s.birth
is_closed k (Writes b place new) = true
is_closed k (Maps pid v) = view_closed k v
is_closed k (Unmaps pid base) = true
is_closed k (DropsViewsOf pid) = true
is_closed k (DropsOwned b) = true
is_closed k (Secures b s) = true
is_closed k (Acts who own) = true
is_closed k (AddsToken t) = k.tokens t.birth
is_closed k (NamesToken n) = true
is_closed k (Marks who) = true
is_closed k (Leaves who) = true
is_closed k (SetsDebug pid b) = k.ports b
is_closed k (SetsException pid b) = k.ports b
is_closed k (LetsGo pid) = true
is_closed k (Dooms pid code) = true

-- Lists
which-map : {X : Type 0} (k : X → Bool) (f : X → X) → ((x : X) → k (f x) ≡ k x) → (xs : List X) → which k (map f xs) ≡ map f (which k xs)
which-map k f same [] = refl
which-map k f same (x ∷ xs) = grind (arith, same x, which-map k f same xs)

which-but : {X : Type 0} (k t : X → Bool) (xs : List X) → which (λ x. k x && not (t x)) xs ≡ without t (which k xs)
which-but k t [] = refl
which-but k t (x ∷ xs) = grind (arith, which-but k t xs)

every-two : {X : Type 0} (p : X → Bool) (xs : List X) (y : X) (ys : List X) → every p xs ≡ true → p y ≡ true → every p ys ≡ true → every p (xs ++ y ∷ ys) ≡ true
every-two p [] y ys one here two = and_from _ _ here two
every-two p (x ∷ xs) y ys one here two = and_from _ _ (first-true _ _ one) (every-two p xs y ys (second-true _ _ one) here two)

none-which : {X : Type 0} (k t : X → Bool) (xs : List X) → has t (which k xs) ≡ false → every (λ x. not (k x) || not (t x)) xs ≡ true
none-which k t [] none = refl
none-which k t (x ∷ xs) none = grind (arith, none-which k t xs)

-- Basic steps
joined-alive : (k : Alive) (client server : Birth) (context : ℕ) (p : PortRow) → port_alive k (joined client server context p) ≡ port_alive k p
joined-alive k client server context p = at (is_port client p) (is_port server p) refl refl
  where
    at : (a b : Bool) → is_port client p ≡ a → is_port server p ≡ b → port_alive k (joined client server context p) ≡ port_alive k p
    at true b is it = rw is refl
    at false true is it = rw (is, it) refl
    at false false is it = rw (is, it) refl

-- bytes that are added, and written
added-alive : (k : Alive) (s : SectionRow) (c : Contents) → k.sections s.birth ≡ true → in_known (which (content_alive k)) (in_known (λ rows. rows ++ zeros s ∷ []) c) ≡ in_known (λ rows. rows ++ zeros s ∷ []) (in_known (which (content_alive k)) c)
added-alive k s Unknown ok = refl
added-alive k s (Known rows) ok = ap (λ rows. Known rows) (kept-push (content_alive k) rows (zeros s) ok)

written-alive : (k : Alive) (b : Birth) (place : ℕ) (new : List ℕ) (c : Contents) → in_known (which (content_alive k)) (in_known (change (is_content b) (written place new)) c) ≡ in_known (change (is_content b) (written place new)) (in_known (which (content_alive k)) c)
written-alive k b place new Unknown = refl
written-alive k b place new (Known rows) = ap (λ rows. Known rows) (kept-change (content_alive k) (is_content b) (written place new) (λ c. refl) rows)

pub thin-basic : (k : Alive) (u : World) (b : Basic) → is_closed k b ≡ true → thin k (basic u b) ≡ basic (thin k u) b
thin-basic k u (Makes p) ok = rw (kept-push (port_alive k) u.ports p (first-true _ _ ok)) refl
thin-basic k u (Joins client server context) ok = rw (which-map (port_alive k) (joined client server context) (joined-alive k client server context) u.ports) refl
thin-basic k u (Completes b) ok = rw (kept-change (port_alive k) (is_port b) completed (λ p. refl) u.ports) refl
thin-basic k u (Frees o) ok = absurd (cc)
thin-basic k u (Cuts b) ok = rw (kept-change (port_alive k) (is_end_of b) cut (λ p. refl) u.ports) refl
thin-basic k u (DrawsIdentifier who) ok = rw (kept-change (thread_alive k) (is_thread who) past_identifier (λ t. refl) u.threads) refl
thin-basic k u (DrawsOrdinal who) ok = rw (kept-change (thread_alive k) (is_thread who) past_ordinal (λ t. refl) u.threads) refl
thin-basic k u (Dies who status) ok = rw (kept-change (thread_alive k) (is_thread who) ended (λ t. refl) u.threads) refl
thin-basic k u (Registers who b) ok = rw (kept-change (thread_alive k) (is_thread who) (registering b) (λ t. refl) u.threads) refl
thin-basic k u (Unregisters who b) ok = rw (kept-change (thread_alive k) (is_thread who) (unregistering b) (λ t. refl) u.threads) refl
thin-basic k u (AddsProcess p) ok = rw (kept-push (process_alive k) u.processes p (first-true _ _ ok)) refl
thin-basic k u (AddsThread t) ok = rw (kept-push (thread_alive k) u.threads t (first-true _ _ ok)) refl
thin-basic k u (Secures b s) ok = rw (kept-change (port_alive k) (is_port b) (secured s) (λ p. refl) u.ports) refl
thin-basic k u (Acts who own) ok = rw (kept-change (thread_alive k) (is_thread who) (acting own) (λ t. refl) u.threads) refl
thin-basic k u (AddsToken t) ok = rw (kept-push (token_alive k) u.tokens t ok) refl
thin-basic k u (AddsSection s) ok = rw (kept-push (section_alive k) u.sections s ok, added-alive k s u.contents ok) refl
thin-basic k u (Writes b place new) ok = rw (written-alive k b place new u.contents) refl
thin-basic k u (SetsDebug pid b) ok = rw (kept-change (process_alive k) (is_process pid) (debugged b) (λ p. refl) u.processes) refl
thin-basic k u (SetsException pid b) ok = rw (kept-change (process_alive k) (is_process pid) (excepted b) (λ p. refl) u.processes) refl
thin-basic k u (LetsGo pid) ok = rw (kept-change (process_alive k) (is_process pid) portless (λ p. refl) u.processes) refl
thin-basic k u (Dooms pid code) ok = rw (kept-change (process_alive k) (is_process pid) (doomed code) (λ p. refl) u.processes) refl
thin-basic k u b ok = refl

put-closed : (k : Alive) (h : HandleRow) (t : HandleTable) → handle_closed k h ≡ true → table_closed k t ≡ true → table_closed k (with_handle h t) ≡ true
put-closed k h t ok all =
    every-two (handle_closed k) (which (λ r. nat_lt r.value h.value) t.rows) h (which (λ r. nat_lt h.value r.value) t.rows)
    (every-which (handle_closed k) (λ r. nat_lt r.value h.value) t.rows all) ok (every-which (handle_closed k) (λ r. nat_lt h.value r.value) t.rows all)

joined-closed : (k : Alive) (client server : Birth) (context : ℕ) → k.ports client ≡ true → k.ports server ≡ true → (p : PortRow) → port_closed k p ≡ true → port_closed k (joined client server context p) ≡ true
joined-closed k client server context one two p ok = at (is_port client p) (is_port server p) refl refl
  where
    at : (a b : Bool) → is_port client p ≡ a → is_port server p ≡ b → port_closed k (joined client server context p) ≡ true
    at true b is it = rw (is, two) (grind arith)
    at false true is it = rw (is, it, one) (grind arith)
    at false false is it = rw (is, it) ok

joined-cut : (k : Alive) (client server : Birth) (context : ℕ) → k.ports client ≡ true → k.ports server ≡ true → (p : PortRow) → port_cut k p ≡ true → port_cut k (joined client server context p) ≡ true
joined-cut k client server context one two p ok = at (is_port client p) (is_port server p) refl refl
  where
    at : (a b : Bool) → is_port client p ≡ a → is_port server p ≡ b → port_cut k (joined client server context p) ≡ true
    at true b is it = rw (is, ap k.ports (birth-same p.birth client is) ∙ one) refl
    at false true is it = rw (is, it, ap k.ports (birth-same p.birth server it) ∙ two) refl
    at false false is it = rw (is, it) ok

or-last : (a : Bool) {b : Bool} → b ≡ true → (a || b) ≡ true
or-last a is = grind arith

-- an accept takes the offer away
accepted-closed : (k : Alive) (a : Acceptance) (x : WaitRow) (sort : WaitKind) → x.kind ≡ sort → wait_closed k x ≡ true → wait_closed k (accepted a x) ≡ true
accepted-closed k a x (Request b) is live = rw is (rw is at live)
accepted-closed k a x Receive is live = rw is (rw is at live)
accepted-closed k a x Listen is live = rw is (rw is at live)
accepted-closed k a x (Connect b offer) is live = rw is (and_from _ _ (first-true _ _ live) refl)
accepted-closed k a x (Accepted b d) is live = rw is (rw is at live)
accepted-closed k a x (Event r) is live = rw is (rw is at live)

-- a process gets a port that is told of its exceptions
debugged-closed : (k : Alive) (b : Birth) → k.ports b ≡ true → (p : ProcessRow) → hearer_closed k p ≡ true → hearer_closed k (debugged b p) ≡ true
debugged-closed k b ok p all = and_from _ _ ok (every-back k.ports (listed p.debug_port) (listed p.exception_port) all)

excepted-closed : (k : Alive) (b : Birth) → k.ports b ≡ true → (p : ProcessRow) → hearer_closed k p ≡ true → hearer_closed k (excepted b p) ≡ true
excepted-closed k b ok p all = at p.debug_port (every-front k.ports (listed p.debug_port) (listed p.exception_port) all)
  where
    at : (o : Option Birth) → every k.ports (listed o) ≡ true → every k.ports (listed o ++ b ∷ []) ≡ true
    at None all = and_from _ _ ok refl
    at (Some d) all = and_from _ _ (first-true _ _ all) (and_from _ _ ok refl)

pub keeps-closed : (k : Alive) (u : World) (b : Basic) → is_closed k b ≡ true → Closed k u → Closed k (basic u b)
keeps-closed k u (Awaits x) ok c = record { tables = c.tables; ports = c.ports; messages = c.messages; waits = every-push (wait_closed k) u.waits x c.waits ok; registrations = c.registrations; cuts = c.cuts; threads = c.threads; processes = c.processes; views = c.views; events = c.events }
keeps-closed k u (Enters x) ok c = record { tables = c.tables; ports = c.ports; messages = every-push (message_closed k) u.messages x c.messages ok; waits = c.waits; registrations = c.registrations; cuts = c.cuts; threads = c.threads; processes = c.processes; views = c.views; events = c.events }
keeps-closed k u (Makes p) ok c = record { tables = c.tables; ports = every-push (port_closed k) u.ports p c.ports (second-true _ _ ok); messages = c.messages; waits = c.waits; registrations = c.registrations; cuts = every-push (port_cut k) u.ports p c.cuts (or_left (k.ports p.birth) (is_cut p) (first-true _ _ ok)); threads = c.threads; processes = c.processes; views = c.views; events = c.events }
keeps-closed k u (Joins client server context) ok c = record { tables = c.tables; ports = every-mapped (port_closed k) (joined client server context) (joined-closed k client server context (first-true _ _ ok) (second-true _ _ ok)) u.ports c.ports; messages = c.messages; waits = c.waits; registrations = c.registrations; cuts = every-mapped (port_cut k) (joined client server context) (joined-cut k client server context (first-true _ _ ok) (second-true _ _ ok)) u.ports c.cuts; threads = c.threads; processes = c.processes; views = c.views; events = c.events }
keeps-closed k u (Binds path node) ok c = record { tables = c.tables; ports = c.ports; messages = c.messages; waits = c.waits; registrations = c.registrations; cuts = c.cuts; threads = c.threads; processes = c.processes; views = c.views; events = c.events }
keeps-closed k u (AddsHandle pid h) ok c = record { tables = every-change (table_closed k) (is_table pid) (with_handle h) (λ t all. put-closed k h t ok all) u.handles c.tables; ports = c.ports; messages = c.messages; waits = c.waits; registrations = c.registrations; cuts = c.cuts; threads = c.threads; processes = c.processes; views = c.views; events = c.events }
keeps-closed k u (Empties q) ok c = record { tables = c.tables; ports = c.ports; messages = every-without (message_closed k) (is_queued q) u.messages c.messages; waits = c.waits; registrations = c.registrations; cuts = c.cuts; threads = c.threads; processes = c.processes; views = c.views; events = c.events }
keeps-closed k u (Cuts b) ok c = record { tables = c.tables; ports = every-change (port_closed k) (is_end_of b) cut (λ p is. grind arith) u.ports c.ports; messages = c.messages; waits = c.waits; registrations = c.registrations; cuts = every-change (port_cut k) (is_end_of b) cut (λ p is. grind arith) u.ports c.cuts; threads = c.threads; processes = c.processes; views = c.views; events = c.events }
keeps-closed k u (Unbinds b) ok c = record { tables = c.tables; ports = c.ports; messages = c.messages; waits = c.waits; registrations = c.registrations; cuts = c.cuts; threads = c.threads; processes = c.processes; views = c.views; events = c.events }
keeps-closed k u (DropsHandle pid value) ok c = record { tables = every-change (table_closed k) (is_table pid) (without_handle value) (λ t all. every-without_first (handle_closed k) (has_value value) t.rows all) u.handles c.tables; ports = c.ports; messages = c.messages; waits = c.waits; registrations = c.registrations; cuts = c.cuts; threads = c.threads; processes = c.processes; views = c.views; events = c.events }
keeps-closed k u (AddsSection s) ok c = record { tables = c.tables; ports = c.ports; messages = c.messages; waits = c.waits; registrations = c.registrations; cuts = c.cuts; threads = c.threads; processes = c.processes; views = c.views; events = c.events }
keeps-closed k u (Writes b place new) ok c = record { tables = c.tables; ports = c.ports; messages = c.messages; waits = c.waits; registrations = c.registrations; cuts = c.cuts; threads = c.threads; processes = c.processes; views = c.views; events = c.events }
keeps-closed k u (NamesToken n) ok c = record { tables = c.tables; ports = c.ports; messages = c.messages; waits = c.waits; registrations = c.registrations; cuts = c.cuts; threads = c.threads; processes = c.processes; views = c.views; events = c.events }
keeps-closed k u (AddsToken t) ok c = record { tables = c.tables; ports = c.ports; messages = c.messages; waits = c.waits; registrations = c.registrations; cuts = c.cuts; threads = c.threads; processes = c.processes; views = c.views; events = c.events }
keeps-closed k u (Maps pid v) ok c = record { tables = c.tables; ports = c.ports; messages = c.messages; waits = c.waits; registrations = c.registrations; cuts = c.cuts; threads = c.threads; processes = c.processes; views = every-change (space_closed k) (is_space pid) (with_view v) (λ t all. every-push (view_closed k) t.rows v all ok) u.views c.views; events = c.events }
keeps-closed k u (Unmaps pid base) ok c = record { tables = c.tables; ports = c.ports; messages = c.messages; waits = c.waits; registrations = c.registrations; cuts = c.cuts; threads = c.threads; processes = c.processes; views = every-change (space_closed k) (is_space pid) (without_view base) (λ t all. every-without (view_closed k) (lies_at base) t.rows all) u.views c.views; events = c.events }
keeps-closed k u (DropsViewsOf pid) ok c = record { tables = c.tables; ports = c.ports; messages = c.messages; waits = c.waits; registrations = c.registrations; cuts = c.cuts; threads = c.threads; processes = c.processes; views = every-change (space_closed k) (is_space pid) without_views (λ t all. refl) u.views c.views; events = c.events }
keeps-closed k u (AddsProcess p) ok c = record { tables = every-push (table_closed k) u.handles (no_handles p.number) c.tables refl; ports = c.ports; messages = c.messages; waits = c.waits; registrations = c.registrations; cuts = c.cuts; threads = c.threads; processes = every-push (process_closed k) u.processes p c.processes (or-last (not (k.homes p.number)) (first-true _ _ ok)); views = every-push (space_closed k) u.views (no_views p.number) c.views refl; events = every-push (hearer_closed k) u.processes p c.events (second-true (k.processes p.birth) _ ok) }
keeps-closed k u (AddsThread t) ok c = record { tables = c.tables; ports = c.ports; messages = c.messages; waits = c.waits; registrations = all-pushed k.ports u.threads t (second-true (thread_closed k t) _ (second-true (k.threads t.birth) _ ok)) c.registrations; cuts = c.cuts; threads = every-push (thread_closed k) u.threads t c.threads (first-true _ _ (second-true (k.threads t.birth) _ ok)); processes = c.processes; views = c.views; events = c.events }
keeps-closed k u (Wakes who call status fields) ok c = record { tables = c.tables; ports = c.ports; messages = c.messages; waits = every-without (wait_closed k) (waits_as who) u.waits c.waits; registrations = c.registrations; cuts = c.cuts; threads = c.threads; processes = c.processes; views = c.views; events = c.events }
keeps-closed k u (Receives who q) ok c = record { tables = c.tables; ports = c.ports; messages = c.messages; waits = every-change (wait_closed k) (waits_at who q) received (λ x is. is) u.waits c.waits; registrations = c.registrations; cuts = c.cuts; threads = c.threads; processes = c.processes; views = c.views; events = c.events }
keeps-closed k u (Accepts who reply) ok c = record { tables = c.tables; ports = c.ports; messages = c.messages; waits = every-change (wait_closed k) (waits_as who) (accepted reply) (λ x is. accepted-closed k reply x x.kind refl is) u.waits c.waits; registrations = c.registrations; cuts = c.cuts; threads = c.threads; processes = c.processes; views = c.views; events = c.events }
keeps-closed k u (Takes q) ok c = record { tables = c.tables; ports = c.ports; messages = every-without_first (message_closed k) _ u.messages c.messages; waits = c.waits; registrations = c.registrations; cuts = c.cuts; threads = c.threads; processes = c.processes; views = c.views; events = c.events }
keeps-closed k u (TakesConnect q) ok c = record { tables = c.tables; ports = c.ports; messages = every-without_first (message_closed k) _ u.messages c.messages; waits = c.waits; registrations = c.registrations; cuts = c.cuts; threads = c.threads; processes = c.processes; views = c.views; events = c.events }
keeps-closed k u (Withdraws who) ok c = record { tables = c.tables; ports = c.ports; messages = every-without (message_closed k) (is_own_of who) u.messages c.messages; waits = c.waits; registrations = c.registrations; cuts = c.cuts; threads = c.threads; processes = c.processes; views = c.views; events = c.events }
keeps-closed k u (Completes b) ok c = record { tables = c.tables; ports = every-change (port_closed k) (is_port b) completed (λ p is. is) u.ports c.ports; messages = c.messages; waits = c.waits; registrations = c.registrations; cuts = every-change (port_cut k) (is_port b) completed (λ p is. is) u.ports c.cuts; threads = c.threads; processes = c.processes; views = c.views; events = c.events }
keeps-closed k u (Secures b s) ok c = record { tables = c.tables; ports = every-change (port_closed k) (is_port b) (secured s) (λ p is. is) u.ports c.ports; messages = c.messages; waits = c.waits; registrations = c.registrations; cuts = every-change (port_cut k) (is_port b) (secured s) (λ p is. is) u.ports c.cuts; threads = c.threads; processes = c.processes; views = c.views; events = c.events }
keeps-closed k u (DrawsIdentifier who) ok c = record { tables = c.tables; ports = c.ports; messages = c.messages; waits = c.waits; registrations = all-changed k.ports (is_thread who) past_identifier (λ t is. is) u.threads c.registrations; cuts = c.cuts; threads = every-change (thread_closed k) (is_thread who) past_identifier (λ t is. is) u.threads c.threads; processes = c.processes; views = c.views; events = c.events }
keeps-closed k u (DrawsOrdinal who) ok c = record { tables = c.tables; ports = c.ports; messages = c.messages; waits = c.waits; registrations = all-changed k.ports (is_thread who) past_ordinal (λ t is. is) u.threads c.registrations; cuts = c.cuts; threads = every-change (thread_closed k) (is_thread who) past_ordinal (λ t is. is) u.threads c.threads; processes = c.processes; views = c.views; events = c.events }
keeps-closed k u (Acts who own) ok c = record { tables = c.tables; ports = c.ports; messages = c.messages; waits = c.waits; registrations = all-changed k.ports (is_thread who) (acting own) (λ t is. is) u.threads c.registrations; cuts = c.cuts; threads = every-change (thread_closed k) (is_thread who) (acting own) (λ t is. is) u.threads c.threads; processes = c.processes; views = c.views; events = c.events }
keeps-closed k u (Dies who status) ok c = record { tables = c.tables; ports = c.ports; messages = c.messages; waits = every-without (wait_closed k) (waits_as who) u.waits c.waits; registrations = all-changed k.ports (is_thread who) ended (λ t is. refl) u.threads c.registrations; cuts = c.cuts; threads = every-change (thread_closed k) (is_thread who) ended (λ t is. refl) u.threads c.threads; processes = c.processes; views = c.views; events = c.events }
keeps-closed k u (Registers who b) ok c = record { tables = c.tables; ports = c.ports; messages = c.messages; waits = c.waits; registrations = all-changed k.ports (is_thread who) (registering b) (registering-all k.ports b ok) u.threads c.registrations; cuts = c.cuts; threads = every-change (thread_closed k) (is_thread who) (registering b) (λ t is. is) u.threads c.threads; processes = c.processes; views = c.views; events = c.events }
keeps-closed k u (Unregisters who b) ok c = record { tables = c.tables; ports = c.ports; messages = c.messages; waits = c.waits; registrations = all-changed k.ports (is_thread who) (unregistering b) (unregistering-all k.ports b) u.threads c.registrations; cuts = c.cuts; threads = every-change (thread_closed k) (is_thread who) (unregistering b) (λ t is. is) u.threads c.threads; processes = c.processes; views = c.views; events = c.events }
keeps-closed k u (DropsOwned b) ok c = record { tables = c.tables; ports = c.ports; messages = c.messages; waits = c.waits; registrations = c.registrations; cuts = c.cuts; threads = c.threads; processes = c.processes; views = every-mapped (space_closed k) (without_owned b) (λ t all. every-without (view_closed k) (is_owned_by b) t.rows all) u.views c.views; events = c.events }
keeps-closed k u (Marks who) ok c = record { tables = c.tables; ports = c.ports; messages = c.messages; registrations = c.registrations; cuts = c.cuts; threads = c.threads; views = c.views; waits = c.waits; processes = c.processes; events = c.events }
keeps-closed k u (Leaves who) ok c = record { tables = c.tables; ports = c.ports; messages = c.messages; registrations = c.registrations; cuts = c.cuts; threads = c.threads; views = c.views; waits = every-without (wait_closed k) (waits_as who) u.waits c.waits; processes = c.processes; events = c.events }
keeps-closed k u (SetsDebug pid b) ok c = record { tables = c.tables; ports = c.ports; messages = c.messages; registrations = c.registrations; cuts = c.cuts; threads = c.threads; views = c.views; waits = c.waits; processes = every-change (process_closed k) (is_process pid) (debugged b) (λ p is. is) u.processes c.processes; events = every-change (hearer_closed k) (is_process pid) (debugged b) (debugged-closed k b ok) u.processes c.events }
keeps-closed k u (SetsException pid b) ok c = record { tables = c.tables; ports = c.ports; messages = c.messages; registrations = c.registrations; cuts = c.cuts; threads = c.threads; views = c.views; waits = c.waits; processes = every-change (process_closed k) (is_process pid) (excepted b) (λ p is. is) u.processes c.processes; events = every-change (hearer_closed k) (is_process pid) (excepted b) (excepted-closed k b ok) u.processes c.events }
keeps-closed k u (LetsGo pid) ok c = record { tables = c.tables; ports = c.ports; messages = c.messages; registrations = c.registrations; cuts = c.cuts; threads = c.threads; views = c.views; waits = c.waits; processes = every-change (process_closed k) (is_process pid) portless (λ p is. is) u.processes c.processes; events = every-change (hearer_closed k) (is_process pid) portless (λ p is. refl) u.processes c.events }
keeps-closed k u (Dooms pid code) ok c = record { tables = c.tables; ports = c.ports; messages = c.messages; registrations = c.registrations; cuts = c.cuts; threads = c.threads; views = c.views; waits = c.waits; processes = every-change (process_closed k) (is_process pid) (doomed code) (λ p is. is) u.processes c.processes; events = every-change (hearer_closed k) (is_process pid) (doomed code) (λ p is. is) u.processes c.events }
keeps-closed k u (Tells e) ok c = c
keeps-closed k u (Frees o) ok c = absurd (cc)

-- The threads that live
pub lasts : (k : Alive) (t : ThreadRow) → thread_closed k t ≡ true → t.live ≡ true → thread_alive k t ≡ true
lasts k t closed live = grind arith

pub live-thin : (k : Alive) (u : World) (tid : ℕ) → Closed k u → live_thread (thin k u) tid ≡ live_thread u tid
live-thin k u tid c = first-where (thread_closed k) (thread_alive k) (is_live_thread tid) (λ t closed is. lasts k t closed (second-true _ _ is)) u.threads c.threads

pub threads-thin : (k : Alive) (u : World) (pid : ℕ) → Closed k u → live_threads (thin k u) pid ≡ live_threads u pid
threads-thin k u pid c = which-where (thread_closed k) (thread_alive k) (lives_in pid) (λ t closed is. lasts k t closed (second-true _ _ is)) u.threads c.threads

pub is_live-thin : (k : Alive) (u : World) (pid : ℕ) → Closed k u → is_live (thin k u) pid ≡ is_live u pid
is_live-thin k u pid c = has-inside (thread_closed k) (thread_alive k) (lives_in pid) (λ t closed is. lasts k t closed (second-true _ _ is)) u.threads c.threads

pub client-thin : (k : Alive) (u : World) (client : ClientId) → Closed k u → client_test (thin k u) client ≡ client_test u client
client-thin k u client c = rw (live-thin k u client.thread c) refl

registered-live : (k : Alive) (ts : List ThreadRow) → every (thread_closed k) ts ≡ true → each registered_by (which (thread_alive k) ts) ≡ each registered_by ts
registered-live k [] all = refl
registered-live k (t ∷ ts) all = at (thread_alive k t) t.live refl refl (registered-live k ts (second-true _ _ all))
  where
    at : (a e : Bool) → thread_alive k t ≡ a → t.live ≡ e → each registered_by (which (thread_alive k) ts) ≡ each registered_by ts → each registered_by (which (thread_alive k) (t ∷ ts)) ≡ each registered_by (t ∷ ts)
    at true e alive is rest = rw alive (ap (λ bs. registered_by t ++ bs) rest)
    at false true dead is rest = let never : thread_alive k t ≡ true = lasts k t (first-true _ _ all) is in absurd (cc)
    at false false dead is rest = rw (dead, is) rest

pub registered-thin : (k : Alive) (u : World) → Closed k u → all_registrations (thin k u) ≡ all_registrations u
registered-thin k u c = registered-live k u.threads c.threads

pub thin-run : (k : Alive) (u : World) (bs : List Basic) → every (is_closed k) bs ≡ true → thin k (world_after u bs) ≡ world_after (thin k u) bs
thin-run k u [] ok = refl
thin-run k u (b ∷ bs) ok = thin-run k (basic u b) bs (second-true _ _ ok) ∙ ap (λ v. world_after v bs) (thin-basic k u b (first-true _ _ ok))

pub closed-run : (k : Alive) (u : World) (bs : List Basic) → every (is_closed k) bs ≡ true → Closed k u → Closed k (world_after u bs)
closed-run k u [] ok c = c
closed-run k u (b ∷ bs) ok c = closed-run k (basic u b) bs (second-true _ _ ok) (keeps-closed k u b (first-true _ _ ok) c)

-- The sweep
-- a world from which rows have gone is this one without them
pub record Behind (w u : World) : Type 0 where
  pub alive : Alive
  pub same : w ≡ thin alive u
  pub closed : Closed alive u

-- without a port, a section, a token, a process or a thread
abbrev but_birth : Birth → (Birth → Bool) → Birth → Bool
but_birth b f x = f x && not (same_birth x b)

abbrev pub but : Birth → Alive → Alive
but b k = record k { ports = but_birth b k.ports }

abbrev but_section : Birth → Alive → Alive
but_section b k = record k { sections = but_birth b k.sections }

abbrev but_token : Birth → Alive → Alive
but_token b k = record k { tokens = but_birth b k.tokens }

abbrev but_process : World → Birth → Alive → Alive
but_process u b k = record k { processes = but_birth b k.processes; homes = λ n. k.homes n && is_live u n }

abbrev but_thread : Birth → Alive → Alive
but_thread b k = record k { threads = but_birth b k.threads }

-- what no row counts for, isn't named
every-each : {X Y : Type 0} (p : Y → Bool) (f : X → List Y) (xs : List X) → every p (each f xs) ≡ true → every (λ x. every p (f x)) xs ≡ true
every-each p f [] all = refl
every-each p f (x ∷ xs) all = and_from _ _ (every-front p (f x) (each f xs) all) (every-each p f xs (every-back p (f x) (each f xs) all))

-- no row counts for the port
record Unnamed (b : Birth) (w : World) : Type 0 where
  handles : every (λ t. every (λ h. not (same_object h.object (port_name b))) t.rows) w.handles ≡ true
  pairs : every (λ p. not (is_paired_to b p)) w.ports ≡ true
  connections : every (λ p. not (is_connected_to b p)) w.ports ≡ true
  messages : every (λ x. not (is_sent_on b x)) w.messages ≡ true
  waits : every (λ x. not (is_made_on b x)) w.waits ≡ true
  registrations : every (λ c. not (same_birth b c)) (all_registrations w) ≡ true
  views : every (λ t. every (λ v. not (is_owned_by b v)) t.rows) w.views ≡ true
  events : every (λ p. every (λ c. not (same_birth b c)) (event_ports_of p)) w.processes ≡ true

unnamed-of : (w : World) (b : Birth) → is_unheld w (port_name b) ≡ true → Unnamed b w
unnamed-of w b none =
    let handles = handle_count w (port_name b) in
    let pairs = count (is_paired_to b) w.ports in
    let connections = count (is_connected_to b) w.ports in
    let messages = count (is_sent_on b) w.messages in
    let waits = count (is_made_on b) w.waits in
    let registered = count (same_birth b) (all_registrations w) in
    let owned = count (is_owned_by b) (all_views w) in
    let told = count (same_birth b) (event_ports w) in
    let all = is-zero (handles + (pairs + (connections + (messages + (waits + (registered + (owned + told))))))) none in
    let two = sum-second handles (pairs + (connections + (messages + (waits + (registered + (owned + told)))))) all in
    let three = sum-second pairs (connections + (messages + (waits + (registered + (owned + told))))) two in
    let four = sum-second connections (messages + (waits + (registered + (owned + told)))) three in
    let five = sum-second messages (waits + (registered + (owned + told))) four in
    let six = sum-second waits (registered + (owned + told)) five in
    let seven = sum-second registered (owned + told) six in
    record {
      handles = every-each (λ h. not (same_object h.object (port_name b))) (λ t. t.rows) w.handles (none-pass (λ h. same_object h.object (port_name b)) (all_handles w) (sum-first handles (pairs + (connections + (messages + (waits + (registered + (owned + told)))))) all));
      pairs = none-pass (is_paired_to b) w.ports (sum-first pairs (connections + (messages + (waits + (registered + (owned + told))))) two);
      connections = none-pass (is_connected_to b) w.ports (sum-first connections (messages + (waits + (registered + (owned + told)))) three);
      messages = none-pass (is_sent_on b) w.messages (sum-first messages (waits + (registered + (owned + told))) four);
      waits = none-pass (is_made_on b) w.waits (sum-first waits (registered + (owned + told)) five);
      registrations = none-pass (same_birth b) (all_registrations w) (sum-first registered (owned + told) six);
      views = every-each (λ v. not (is_owned_by b v)) (λ (t : ViewTable). t.rows) w.views (none-pass (is_owned_by b) (all_views w) (sum-first owned told seven));
      events = every-each (λ c. not (same_birth b c)) event_ports_of w.processes (none-pass (same_birth b) (event_ports w) (sum-second owned told seven));
    }

-- a handle to another object
port-apart : (k : Alive) (b : Birth) (s : ObjectKind) (x : Birth) → alive_as k s x ≡ true → not (same_kind s kind.Port && same_birth x b) ≡ true → alive_as (but b k) s x ≡ true
port-apart k b kind.Port x live off = and_from _ _ live off
port-apart k b e x live off = live

section-apart : (k : Alive) (b : Birth) (s : ObjectKind) (x : Birth) → alive_as k s x ≡ true → not (same_kind s kind.Section && same_birth x b) ≡ true → alive_as (but_section b k) s x ≡ true
section-apart k b kind.Section x live off = and_from _ _ live off
section-apart k b e x live off = live

token-apart : (k : Alive) (b : Birth) (s : ObjectKind) (x : Birth) → alive_as k s x ≡ true → not (same_kind s kind.Token && same_birth x b) ≡ true → alive_as (but_token b k) s x ≡ true
token-apart k b kind.Token x live off = and_from _ _ live off
token-apart k b e x live off = live

process-apart : (k : Alive) (u : World) (b : Birth) (s : ObjectKind) (x : Birth) → alive_as k s x ≡ true → not (same_kind s kind.Process && same_birth x b) ≡ true → alive_as (but_process u b k) s x ≡ true
process-apart k u b kind.Process x live off = and_from _ _ live off
process-apart k u b e x live off = live

thread-apart : (k : Alive) (b : Birth) (s : ObjectKind) (x : Birth) → alive_as k s x ≡ true → not (same_kind s kind.Thread && same_birth x b) ≡ true → alive_as (but_thread b k) s x ≡ true
thread-apart k b kind.Thread x live off = and_from _ _ live off
thread-apart k b e x live off = live

-- no handle names the object
abbrev NoHandles : ObjectName → World → Type 0
NoHandles o w = every (λ t. every (λ h. not (same_object h.object o)) t.rows) w.handles ≡ true

tables-off : (k n : Alive) (o : ObjectName) (u : World) → ((s : ObjectKind) (x : Birth) → alive_as k s x ≡ true → not (same_kind s o.kind && same_birth x o.birth) ≡ true → alive_as n s x ≡ true) → NoHandles o u → every (table_closed k) u.handles ≡ true → every (table_closed n) u.handles ≡ true
tables-off k n o u apart none all =
    every-both (table_closed k) (λ t. every (λ h. not (same_object h.object o)) t.rows) (table_closed n)
    (λ t closed off. every-both (handle_closed k) (λ h. not (same_object h.object o)) (handle_closed n) (λ h live off. apart h.object.kind h.object.birth live off) t.rows closed off) u.handles all none

none-handles : (w : World) (o : ObjectName) → is_unheld w o ≡ true → NoHandles o w
none-handles w o none =
    let handles = handle_count w o in
    every-each (λ h. not (same_object h.object o)) (λ t. t.rows) w.handles (none-pass (λ h. same_object h.object o) (all_handles w) (sum-first handles (holders w o.kind o.birth) (is-zero (handles + holders w o.kind o.birth) none)))

named-off : (k : Alive) (b : Birth) (o : Option Birth) → all_alive k.ports o ≡ true → not (is_the b o) ≡ true → all_alive (but_birth b k.ports) o ≡ true
named-off k b None ok off = refl
named-off k b (Some x) ok off = rw (ok, births-apart b x (grind arith)) refl

port-off : (k : Alive) (b : Birth) (p : PortRow) → port_closed k p ≡ true → (not (k.ports p.birth) || (not (is_paired_to b p) && not (is_connected_to b p))) ≡ true → port_closed (but b k) p ≡ true
port-off k b p ok off = at (k.ports p.birth) refl
  where
    at : (e : Bool) → k.ports p.birth ≡ e → port_closed (but b k) p ≡ true
    at false dead = rw dead refl
    at true live =
        let pair : all_alive (but_birth b k.ports) p.pair ≡ true = named-off k b p.pair (grind arith) (grind arith) in
        let connection : all_alive (but_birth b k.ports) p.connection ≡ true = named-off k b p.connection (grind arith) (grind arith) in
        rw (pair, connection) (grind arith)

of-kept : {X : Type 0} (k s t : X → Bool) (xs : List X) → every (λ x. not (s x)) (which k xs) ≡ true → every (λ x. not (t x)) (which k xs) ≡ true → every (λ x. not (k x) || (not (s x) && not (t x))) xs ≡ true
of-kept k s t [] one two = refl
of-kept k s t (x ∷ xs) one two = grind (arith, of-kept k s t xs)

-- ports of a birth are cut
abbrev pub is_lonely : Birth → PortRow → Bool
is_lonely b p = not (is_port b p) || is_cut p

cut-but : (k : Alive) (b : Birth) (ps : List PortRow) → every (is_lonely b) (which (port_alive k) ps) ≡ true → every (port_cut k) ps ≡ true → every (port_cut (but b k)) ps ≡ true
cut-but k b [] lonely cuts = refl
cut-but k b (p ∷ ps) lonely cuts = grind (arith, cut-but k b ps)

-- a process that lives stands
pub live-home : (k : Alive) (u : World) (n : ℕ) → Closed k u → is_live u n ≡ true → k.homes n ≡ true
live-home k u n c live = at (first (lives_in n) u.threads) refl live
  where
    at : (o : Option ThreadRow) → first (lives_in n) u.threads ≡ o → is_some o ≡ true → k.homes n ≡ true
    at None none is = absurd (cc)
    at (Some t) some is =
        let passed : lives_in n t ≡ true = first-passes (lives_in n) u.threads t some in
        let home : k.homes t.process ≡ true = last t.live (k.threads t.birth) (k.homes t.process) (second-true (t.process == n) t.live passed) (every-first (thread_closed k) (lives_in n) u.threads t c.threads some) in
        subst (λ i. k.homes i ≡ true) (eqb-true t.process n (first-true _ _ passed)) home
      where
        last : (l a h : Bool) → l ≡ true → (not l || (a && h)) ≡ true → h ≡ true
        last l a h is it = grind arith

-- so one that has gone has no port that is told of exceptions
abbrev pub hearer_gone : Alive → ProcessRow → Bool
hearer_gone k p = k.processes p.birth || is_portless p

pub hearers-gone : (k : Alive) (u : World) → Closed k u → HasLivingPorts u → every (hearer_gone k) u.processes ≡ true
hearers-gone k u c living = every-both (process_closed k) (is_living_process u) (hearer_gone k) (λ p closed lives. at p (is_live u p.number) refl closed lives) u.processes c.processes living
  where
    at : (p : ProcessRow) (e : Bool) → is_live u p.number ≡ e → process_closed k p ≡ true → is_living_process u p ≡ true → hearer_gone k p ≡ true
    at p true live closed lives = let home : k.homes p.number ≡ true = live-home k u p.number c live in let alive : (not true || k.processes p.birth) ≡ true = subst (λ h. (not h || k.processes p.birth) ≡ true) home closed in rw alive refl
    at p false dead closed lives = let none : (false || is_portless p) ≡ true = subst (λ h. (h || is_portless p) ≡ true) dead lives in or-last (k.processes p.birth) none

-- and none is lost with it
pub events-thin : (k : Alive) (u : World) → HasLivingPorts u → Closed k u → event_ports (thin k u) ≡ event_ports u
events-thin k u living c = rows u.processes (hearers-gone k u c living)
  where
    none : (p : ProcessRow) → is_portless p ≡ true → event_ports_of p ≡ []
    none p is = at p.debug_port p.exception_port is
      where
        at : (a b : Option Birth) → (is_none a && is_none b) ≡ true → listed a ++ listed b ≡ []
        at None None is = refl
        at None (Some b) is = absurd (cc)
        at (Some a) b is = absurd (cc)

    rows : (ps : List ProcessRow) → every (hearer_gone k) ps ≡ true → each event_ports_of (which (process_alive k) ps) ≡ each event_ports_of ps
    rows [] gone = refl
    rows (p ∷ ps) gone = at (k.processes p.birth) refl (rows ps (second-true _ _ gone))
      where
        at : (e : Bool) → k.processes p.birth ≡ e → each event_ports_of (which (process_alive k) ps) ≡ each event_ports_of ps → each event_ports_of (which (process_alive k) (p ∷ ps)) ≡ event_ports_of p ++ each event_ports_of ps
        at true alive rest = rw alive (ap (λ bs. event_ports_of p ++ bs) rest)
        at false dead rest =
            let off : (false || is_portless p) ≡ true = rw dead at (first-true (hearer_gone k p) _ gone) in
            rw dead (rest ∙ ap (λ bs. bs ++ each event_ports_of ps) (sym (none p off)))

pub portless-none : (f : Birth → Bool) (p : ProcessRow) → is_portless p ≡ true → every f (event_ports_of p) ≡ true
portless-none f p is = at p.debug_port p.exception_port is
  where
    at : (a b : Option Birth) → (is_none a && is_none b) ≡ true → every f (listed a ++ listed b) ≡ true
    at None None is = refl
    at None (Some b) is = absurd (cc)
    at (Some a) b is = absurd (cc)

events-off : (k : Alive) (b : Birth) (ps : List ProcessRow) → every (hearer_gone k) ps ≡ true → every (λ p. every (λ c. not (same_birth b c)) (event_ports_of p)) (which (process_alive k) ps) ≡ true → every (hearer_closed k) ps ≡ true → every (hearer_closed (but b k)) ps ≡ true
events-off k b [] gone off all = refl
events-off k b (p ∷ ps) gone off all = at (k.processes p.birth) refl off (events-off k b ps (second-true _ _ gone))
  where
    at : (e : Bool) → k.processes p.birth ≡ e → every (λ p. every (λ c. not (same_birth b c)) (event_ports_of p)) (which (process_alive k) (p ∷ ps)) ≡ true
        → (every (λ p. every (λ c. not (same_birth b c)) (event_ports_of p)) (which (process_alive k) ps) ≡ true → every (hearer_closed k) ps ≡ true → every (hearer_closed (but b k)) ps ≡ true) → every (hearer_closed (but b k)) (p ∷ ps) ≡ true
    at true alive off rest =
        let here : every (λ p. every (λ c. not (same_birth b c)) (event_ports_of p)) (p ∷ which (process_alive k) ps) ≡ true = rw alive at off in
        and_from _ _ (every-both k.ports (λ c. not (same_birth b c)) (but_birth b k.ports) (λ d live other. and_from _ _ live (rw (births-apart b d (not-true (same_birth b d) other)) refl)) (event_ports_of p) (first-true _ _ all) (first-true _ _ here)) (rest (second-true _ _ here) (second-true _ _ all))
    at false dead off rest =
        let none : (false || is_portless p) ≡ true = rw dead at (first-true (hearer_gone k p) _ gone) in
        let there : every (λ p. every (λ c. not (same_birth b c)) (event_ports_of p)) (which (process_alive k) ps) ≡ true = rw dead at off in
        and_from _ _ (portless-none (but_birth b k.ports) p none) (rest there (second-true _ _ all))

pub frees-one : (k : Alive) (u : World) (b : Birth) → HasLivingPorts u → is_unheld (thin k u) (port_name b) ≡ true → every (is_lonely b) (thin k u).ports ≡ true → Closed k u → Closed (but b k) u
frees-one k u b living none lonely c =
    let n = unnamed-of (thin k u) b none in
    record {
      tables = tables-off k (but b k) (port_name b) u (port-apart k b) n.handles c.tables;
      ports = every-both (port_closed k) (λ p. not (k.ports p.birth) || (not (is_paired_to b p) && not (is_connected_to b p))) (port_closed (but b k)) (port-off k b) u.ports c.ports (of-kept (port_alive k) (is_paired_to b) (is_connected_to b) u.ports n.pairs n.connections);
      messages = every-both (message_closed k) (λ x. not (is_sent_on b x)) (message_closed (but b k)) (λ x ok off. grind arith) u.messages c.messages n.messages;
      waits = every-both (wait_closed k) (λ x. not (is_made_on b x)) (wait_closed (but b k)) (λ x ok off. grind arith) u.waits c.waits n.waits;
      registrations = every-both k.ports (λ c. not (same_birth b c)) (but_birth b k.ports) (λ d live off. and_from _ _ live (rw (births-apart b d (not-true (same_birth b d) off)) refl)) (all_registrations u) c.registrations (subst (λ bs. every (λ d. not (same_birth b d)) bs ≡ true) (registered-thin k u c) n.registrations);
      cuts = cut-but k b u.ports lonely c.cuts;
      threads = c.threads;
      processes = c.processes;
      views = every-both (space_closed k) (λ t. every (λ v. not (is_owned_by b v)) t.rows) (space_closed (but b k))
          (λ t closed apart. every-both (view_closed k) (λ v. not (is_owned_by b v)) (view_closed (but b k)) (λ v live off. and_from _ _ (first-true _ _ live) (named-off k b v.owner (second-true (k.sections v.section) _ live) off)) t.rows closed apart) u.views c.views n.views;
      events = events-off k b u.processes (hearers-gone k u c living) n.events c.events;
    }

-- what holds of each row by a number that lives, holds of each row by its own
every-self : {X : Type 0} (f : X → ℕ) (live : ℕ → Bool) (r : ℕ → X → Bool) (xs : List X) → ((n : ℕ) → live n ≡ true → every (r n) xs ≡ true) → every (λ x. not (live (f x)) || r (f x) x) xs ≡ true
every-self f live r [] all = refl
every-self f live r (x ∷ xs) all = and_from _ _ (at (live (f x)) refl) (every-self f live r xs (λ n is. second-true (r n x) _ (all n is)))
  where
    at : (e : Bool) → live (f x) ≡ e → (not e || r (f x) x) ≡ true
    at true is = first-true _ _ (all (f x) is)
    at false off = refl

-- a thread that lives is one of its process's
living-in : (ts : List ThreadRow) → every (λ t. not t.live || has (lives_in t.process) ts) ts ≡ true
living-in [] = refl
living-in (t ∷ ts) = and_from _ _ (at t.live refl) (every-more (λ x. not x.live || has (lives_in x.process) ts) (λ x. not x.live || has (lives_in x.process) (t ∷ ts)) (λ x is. more x (lives_in x.process t) refl is) ts (living-in ts))
  where
    at : (e : Bool) → t.live ≡ e → (not e || has (lives_in t.process) (t ∷ ts)) ≡ true
    at true live = let here : lives_in t.process t ≡ true = rw (same-number t.process, live) refl in rw here refl
    at false dead = refl

    more : (x : ThreadRow) (e : Bool) → lives_in x.process t ≡ e → (not x.live || has (lives_in x.process) ts) ≡ true → (not x.live || has (lives_in x.process) (t ∷ ts)) ≡ true
    more x true here is = rw here (or-last (not x.live) refl)
    more x false off is = rw off is

-- a process that no thread of its own lives in
none-live : (k : Alive) (u : World) (b : Birth) → count (lives_by (thin k u) b) (thin k u).threads ≤ 0 → Closed k u → (n : ℕ) → is_live u n ≡ true → every (λ p. not (process_alive k p) || not (same_birth p.birth b && (p.number == n))) u.processes ≡ true
none-live k u b none c n live = at (first (lives_in n) (thin k u).threads) refl (is_live-thin k u n c ∙ live)
  where
    at : (o : Option ThreadRow) → first (lives_in n) (thin k u).threads ≡ o → is_some o ≡ true → every (λ p. not (process_alive k p) || not (same_birth p.birth b && (p.number == n))) u.processes ≡ true
    at None absent is = absurd (cc)
    at (Some t) here is =
        let passed : lives_in n t ≡ true = first-passes (lives_in n) (thin k u).threads t here in
        let apart : not (lives_by (thin k u) b t) ≡ true = every-first (λ t. not (lives_by (thin k u) b t)) (lives_in n) (thin k u).threads t (none-pass (lives_by (thin k u) b) (thin k u).threads none) here in
        let off : has (λ p. same_birth p.birth b && (p.number == t.process)) (thin k u).processes ≡ false = apart-second t.live _ (second-true _ _ passed) apart in
        subst (λ n. every (λ p. not (process_alive k p) || not (same_birth p.birth b && (p.number == n))) u.processes ≡ true) (eqb-true t.process n (first-true _ _ passed))
        (none-which (process_alive k) (λ p. same_birth p.birth b && (p.number == t.process)) u.processes off)

frees-process : (k : Alive) (u : World) (b : Birth) → is_unheld (thin k u) (process_name b) ≡ true → Closed k u → Closed (but_process u b k) u
frees-process k u b none c =
    let v : World = thin k u in
    let few = sum-second (handle_count v (process_name b)) (count (lives_by v b) v.threads) (is-zero (handle_count v (process_name b) + count (lives_by v b) v.threads) none) in
    record {
      tables = tables-off k (but_process u b k) (process_name b) u (process-apart k u b) (none-handles v (process_name b) none) c.tables;
      ports = c.ports;
      messages = c.messages;
      waits = c.waits;
      registrations = c.registrations;
      cuts = c.cuts;
      events = c.events;
      views = c.views;
      threads = every-both (thread_closed k) (λ t. not t.live || is_live u t.process) (thread_closed (but_process u b k)) (λ t closed lives. grind arith) u.threads c.threads (living-in u.threads);
      processes = every-both (process_closed k) (λ p. not (is_live u p.number) || (not (process_alive k p) || not (same_birth p.birth b && (p.number == p.number)))) (process_closed (but_process u b k))
          (λ p closed apart. goes (k.homes p.number) (is_live u p.number) (k.processes p.birth) (same_birth p.birth b) (p.number == p.number) (same-number p.number) closed apart) u.processes c.processes
          (every-self (λ (p : ProcessRow). p.number) (is_live u) (λ n p. not (process_alive k p) || not (same_birth p.birth b && (p.number == n))) u.processes (none-live k u b few c));
    }
  where
    goes : (h l a s e : Bool) → e ≡ true → (not h || a) ≡ true → (not l || (not a || not (s && e))) ≡ true → (not (h && l) || (a && not s)) ≡ true
    goes h l a s e same closed apart = grind arith

frees-thread : (k : Alive) (u : World) (b : Birth) → is_unheld (thin k u) (thread_name b) ≡ true → Closed k u → Closed (but_thread b k) u
frees-thread k u b none c =
    let v : World = thin k u in
    let few = sum-second (handle_count v (thread_name b)) (count (is_life b) v.threads) (is-zero (handle_count v (thread_name b) + count (is_life b) v.threads) none) in
    record {
      tables = tables-off k (but_thread b k) (thread_name b) u (thread-apart k b) (none-handles v (thread_name b) none) c.tables;
      ports = c.ports;
      messages = c.messages;
      waits = c.waits;
      registrations = c.registrations;
      cuts = c.cuts;
      events = c.events;
      views = c.views;
      threads = every-both (thread_closed k) (λ t. not (thread_alive k t) || not (is_life b t)) (thread_closed (but_thread b k)) (λ t closed apart. goes t.live (k.threads t.birth) (k.homes t.process) (same_birth t.birth b) closed apart) u.threads c.threads
          (none-which (thread_alive k) (is_life b) u.threads (has-off (is_life b) v.threads (none-pass (is_life b) v.threads few)));
      processes = c.processes;
    }
  where
    goes : (l a h s : Bool) → (not l || (a && h)) ≡ true → (not a || not (l && s)) ≡ true → (not l || ((a && not s) && h)) ≡ true
    goes l a h s closed apart = grind arith

frees-section : (k : Alive) (u : World) (b : Birth) → is_unheld (thin k u) (section_name b) ≡ true → Closed k u → Closed (but_section b k) u
frees-section k u b none c =
    let v : World = thin k u in
    let both = sum-second (handle_count v (section_name b)) (count (shows_section b) (all_views v) + count (offers_section b) v.waits) (is-zero (handle_count v (section_name b) + (count (shows_section b) (all_views v) + count (offers_section b) v.waits)) none) in
    let few = sum-first (count (shows_section b) (all_views v)) (count (offers_section b) v.waits) both in
    let unoffered = none-pass (offers_section b) v.waits (sum-second (count (shows_section b) (all_views v)) (count (offers_section b) v.waits) both) in
    record {
      tables = tables-off k (but_section b k) (section_name b) u (section-apart k b) (none-handles v (section_name b) none) c.tables;
      ports = c.ports;
      messages = c.messages;
      waits = every-both (wait_closed k) (λ x. not (offers_section b x)) (wait_closed (but_section b k)) (λ x live off. and_from _ _ (first-true _ _ live) (offer-left x (offer_of x) refl (second-true (k.ports x.port) _ live) off)) u.waits c.waits unoffered;
      registrations = c.registrations;
      cuts = c.cuts;
      events = c.events;
      threads = c.threads;
      processes = c.processes;
      views = every-both (space_closed k) (λ t. every (λ x. not (shows_section b x)) t.rows) (space_closed (but_section b k))
          (λ t closed apart. every-both (view_closed k) (λ x. not (shows_section b x)) (view_closed (but_section b k)) (λ x live off. and_from _ _ (and_from _ _ (first-true _ _ live) off) (second-true (k.sections x.section) _ live)) t.rows closed apart) u.views c.views
          (every-each (λ x. not (shows_section b x)) (λ (t : ViewTable). t.rows) u.views (none-pass (shows_section b) (all_views u) few));
    }
  where
    offer-left : (x : WaitRow) (o : Option Offer) → offer_of x ≡ o → offer_alive k (offer_of x) ≡ true → not (offers_section b x) ≡ true → offer_alive (but_section b k) (offer_of x) ≡ true
    offer-left x None its live off = rw its refl
    offer-left x (Some o) its live off =
        let alive : k.sections o.section ≡ true = rw its at live in
        let other : same_birth o.section b ≡ false = not-true (same_birth o.section b) (rw its at off) in
        rw its (and_from _ _ alive (rw other refl))

frees-token : (k : Alive) (u : World) (b : Birth) → is_unheld (thin k u) (token_name b) ≡ true → Closed k u → Closed (but_token b k) u
frees-token k u b none c = record {
  tables = tables-off k (but_token b k) (token_name b) u (token-apart k b) (none-handles (thin k u) (token_name b) none) c.tables;
  ports = c.ports;
  messages = c.messages;
  waits = c.waits;
  registrations = c.registrations;
  cuts = c.cuts;
  events = c.events;
  threads = c.threads;
  processes = c.processes;
  views = c.views;
}

bytes-but : (k : Alive) (b : Birth) (c : Contents) → in_known (without (is_content b)) (in_known (which (content_alive k)) c) ≡ in_known (which (content_alive (but_section b k))) c
bytes-but k b Unknown = refl
bytes-but k b (Known rows) = ap (λ rows. Known rows) (sym (which-but (content_alive k) (is_content b) rows))

lonely-at : (w : World) (b : Birth) → IsLinked w → is_unheld w (port_name b) ≡ true → every (is_lonely b) w.ports ≡ true
lonely-at w b l none = every-more (λ p. not (is_unheld w (port_name p.birth)) || is_cut p) (is_lonely b) (λ p is. at p (is_port b p) refl is) w.ports (lonely w l)
  where
    at : (p : PortRow) (e : Bool) → is_port b p ≡ e → (not (is_unheld w (port_name p.birth)) || is_cut p) ≡ true → is_lonely b p ≡ true
    at p true its is = let unheld : is_unheld w (port_name p.birth) ≡ true = subst (λ b. is_unheld w (port_name b) ≡ true) (sym (birth-same p.birth b its)) none in let off : (not true || is_cut p) ≡ true = subst (λ e. (not e || is_cut p) ≡ true) unheld is in rw off (grind arith)
    at p false off is = rw off refl

behind-one : (w u : World) (o : ObjectName) → HasLivingPorts u → IsLinked w → is_unheld w o ≡ true → Behind w u → Behind (basic w (Frees o)) u
behind-one w u o living l none r = at o.kind o.birth (subst (λ v. IsLinked v) r.same l) (subst (λ v. is_unheld v o ≡ true) r.same none)
  where
    at : (s : ObjectKind) (b : Birth) → IsLinked (thin r.alive u) → is_unheld (thin r.alive u) (record { kind = s; birth = b }) ≡ true → Behind (freed w s b) u
    at kind.Port b linked off = record {
      alive = but b r.alive;
      same = ap (λ v. freed v kind.Port b) r.same ∙ ap (λ ps. record (thin r.alive u) { ports = ps }) (sym (which-but (port_alive r.alive) (is_port b) u.ports));
      closed = frees-one r.alive u b living off (lonely-at (thin r.alive u) b linked off) r.closed;
    }
    at kind.Section b linked off = record {
      alive = but_section b r.alive;
      same = ap (λ v. freed v kind.Section b) r.same
          ∙ ap (λ ss. record (thin r.alive u) { sections = ss; contents = in_known (without (is_content b)) (thin r.alive u).contents }) (sym (which-but (section_alive r.alive) (is_section b) u.sections))
          ∙ ap (λ c. record (thin (but_section b r.alive) u) { contents = c }) (bytes-but r.alive b u.contents);
      closed = frees-section r.alive u b off r.closed;
    }
    at kind.Token b linked off = record {
      alive = but_token b r.alive;
      same = ap (λ v. freed v kind.Token b) r.same ∙ ap (λ ts. record (thin r.alive u) { tokens = ts }) (sym (which-but (token_alive r.alive) (is_token b) u.tokens));
      closed = frees-token r.alive u b off r.closed;
    }
    at kind.Process b linked off = record {
      alive = but_process u b r.alive;
      same = ap (λ v. freed v kind.Process b) r.same ∙ ap (λ ps. record (thin r.alive u) { processes = ps }) (sym (which-but (process_alive r.alive) (λ p. same_birth p.birth b) u.processes));
      closed = frees-process r.alive u b off r.closed;
    }
    at kind.Thread b linked off = record {
      alive = but_thread b r.alive;
      same = ap (λ v. freed v kind.Thread b) r.same ∙ ap (λ ts. record (thin r.alive u) { threads = ts }) (sym (which-but (thread_alive r.alive) (λ t. same_birth t.birth b) u.threads));
      closed = frees-thread r.alive u b off r.closed;
    }

behind-all : (w u : World) (os : List ObjectName) → HasLivingPorts u → IsSoundWorld w → IsLinked w → every (is_unheld w) os ≡ true → Behind w u → Behind (world_after w (map Frees os)) u
behind-all w u [] living s l all r = r
behind-all w u (o ∷ os) living s l all r =
    let none : is_unheld w o ≡ true = first-true _ _ all in
    behind-all (basic w (Frees o)) u os living (freed-sound w o none s) (gone-linked w o none s l) (every-more (is_unheld w) (is_unheld (basic w (Frees o))) (less-held w o) os (second-true _ _ all)) (behind-one w u o living l none r)

-- a pass leaves a sound world whose ports are linked
pass-kept : (w : World) (os : List ObjectName) → IsSoundWorld w → IsLinked w → every (is_unheld w) os ≡ true → IsSoundWorld (world_after w (map Frees os)) × IsLinked (world_after w (map Frees os))
pass-kept w [] s l all = (s, l)
pass-kept w (o ∷ os) s l all =
    let none : is_unheld w o ≡ true = first-true _ _ all in
    pass-kept (basic w (Frees o)) os (freed-sound w o none s) (gone-linked w o none s l) (every-more (is_unheld w) (is_unheld (basic w (Frees o))) (less-held w o) os (second-true _ _ all))

behind-unheld : (w u : World) → HasLivingPorts u → IsSoundWorld w → IsLinked w → Behind w u → Behind (world_after w (free_unheld w)) u
behind-unheld w u living s l r = behind-all w u (unheld w) living s l (which-all (is_unheld w) _) r

-- rows that nothing names go: a world is behind as before
pub behind-sweep : (w u : World) → HasLivingPorts u → IsSoundWorld w → IsLinked w → Behind w u → Behind (world_after w (sweep w)) u
unfolding sweep
behind-sweep w u living s l r =
    let v : World = world_after w (free_unheld w) in
    let next = pass-kept w (unheld w) s l (which-all (is_unheld w) _) in
    subst (λ x. Behind x u) (sym (after-append w (free_unheld w) (free_unheld v))) (behind-unheld v u living next.0 next.1 (behind-unheld w u living s l r))
