-- What each call does in a world without some rows that no row names: the same.
use Rattle.std.specs.Prelude.{◌&&◌, ◌||◌, ◌==◌}
use Rattle.lpc_model.specs.Memory.{section_test, SECTION_MAP_WRITE}
use Rattle.std.proofs.Common.{◌≡◌, ℕ, List, [], ◌∷◌, ◌++◌, Bool, true, false, not, Option, Some, None, refl, ap, ◌∙◌, arith, Result, Ok}
use Rattle.std.proofs.lemmas.Bool.{and_from, eqb-true}
use Rattle.lpc_base.specs.Rows.{every, first, given}
use Rattle.lpc_base.proofs.RowWords.{first-passes}
use Rattle.lpc_base.proofs.RowMaps.{every-first}
use Rattle.lpc_base.proofs.Births.{birth-same}
use Rattle.lpc_base.specs.declared.status.TheConstants.{ACCESS_DENIED, INVALID_HANDLE, OBJECT_TYPE_MISMATCH, SUCCESS}
use Rattle.lpc_model.specs.declared.entry.ObjectKind.TheVariants as kind
use Rattle.lpc_model.specs.declared.message.Message.{Message}
use Rattle.lpc_model.specs.Message.{asks, message_test}
use Rattle.lpc_model.specs.Refusal.{found_or, refuse_if}
use Rattle.lpc_model.specs.World.{Accepted, Birth, Connect, HandleTable, Listen, MessageRow, PortRow, Receive, Request, ThreadRow, WaitKind, WaitRow, World, SectionRow, Offer, ViewRow, Dacl, Qos, ProcessRow, Event}
use Rattle.lpc_model.specs.Found.{fits, fitted, handle_at, handles_of, has_value, is_port, is_table, port_row, rows_in, same_kind, is_section, section_row, offer_of, token_of, token_in, is_process, is_live_thread, live_thread}
use Rattle.lpc_model.specs.Basics.{Basic, world_after}
use Rattle.lpc_model.specs.Entering.{enter, given_steps, shown, takes, woken}
use Rattle.lpc_model.specs.Tests.{includes, object_test, own_handle, port_test, next_birth, handles_test}
use Rattle.lpc_model.specs.Connect.{answer_test, nt_accept_connect_port, nt_complete_connect_port, nt_connect_port, nt_create_port, nt_listen_port, connect_steps, connection_request, info_test, access_test, allow_steps}
use Rattle.lpc_model.specs.Request.{given_reply, nt_reply_port, nt_reply_wait_receive_port, nt_request_port, nt_request_wait_reply_port, optional_message, receive_test}
use Rattle.lpc_model.proofs.Calls.Holding.{Holds, bind_holds, found_holds, found_ok, holds_ok, not_refused}
use Rattle.lpc_isolation.proofs.Views.Seen.{bind-same}
use Rattle.lpc_isolation.proofs.Views.Filters.{first-inside, first-agree}
use Rattle.lpc_isolation.proofs.Gone.Thin.{client-thin, Alive, Closed, all_alive, handle_closed, is_closed, message_closed, port_alive, port_closed, table_closed, thin, wait_closed, port-live, section-live-as, section_alive, process_closed, process_alive, thread_closed}
use Rattle.lpc_base.proofs.Bools.{first-true, second-true}
use Rattle.lpc_model.specs.Lines.{}
use Rattle.lpc_model.specs.Offers.{if_given, shared_test, view_test, wanted_test, mapped, offer_test, server_views}
use Rattle.lpc_base.specs.declared.status.Status.{Status}
use Rattle.lpc_model.specs.Then.{◌>>=◌}
use Rattle.lpc_model.specs.declared.line.ViewWord.{ViewWord}
use Rattle.lpc_model.specs.Named.{named_port}

-- Look-ups
pub row-thin : (k : Alive) (u : World) (b : Birth) → k.ports b ≡ true → port_row (thin k u) b ≡ port_row u b
row-thin k u b live = first-inside (port_alive k) (is_port b) (λ p its. ap k.ports (birth-same p.birth b its) ∙ live) u.ports

pub rows-closed : (k : Alive) (pid : ℕ) (ts : List HandleTable) (o : Option HandleTable) → first (is_table pid) ts ≡ o → every (table_closed k) ts ≡ true → every (handle_closed k) (rows_in o) ≡ true
rows-closed k pid ts None is all = refl
rows-closed k pid ts (Some t) is all = every-first (table_closed k) (is_table pid) ts t all is

object-is : (k : Alive) (u : World) (by : ThreadRow) (rights value : ℕ) → Closed k u → Holds (λ b. k.ports b ≡ true) (object_test u by kind.Port rights value)
object-is k u by rights value c =
    let P : Birth → Type 0 = λ b. k.ports b ≡ true in
    bind_holds (own_handle u by value) _ P (λ h at.
    bind_holds (refuse_if (not (same_kind h.object.kind kind.Port)) OBJECT_TYPE_MISMATCH) _ P (λ _ port.
    bind_holds (refuse_if (not (includes h.access rights)) ACCESS_DENIED) _ P (λ _ _.
    let closed : handle_closed k h ≡ true = every-first (handle_closed k) (has_value value) (handles_of u by.process) h (rows-closed k by.process u.handles (first (is_table by.process) u.handles) refl c.tables) (found_ok (handle_at u by.process value) INVALID_HANDLE h at) in
    let off : not (same_kind h.object.kind kind.Port) ≡ false = not_refused (not (same_kind h.object.kind kind.Port)) OBJECT_TYPE_MISMATCH _ port in
    let here : same_kind h.object.kind kind.Port ≡ true = grind arith in
    port-live k h.object closed here)))

-- a port that a handle names stands, and so does what it names
pub record StandsBy (k : Alive) (p : PortRow) : Type 0 where
  pub here : k.ports p.birth ≡ true
  pub pair : all_alive k.ports p.pair ≡ true
  pub connection : all_alive k.ports p.connection ≡ true

stands-of : (k : Alive) (p : PortRow) → k.ports p.birth ≡ true → port_closed k p ≡ true → StandsBy k p
stands-of k p here closed = record { here = here; pair = grind arith; connection = grind arith }

pub port-stands : (k : Alive) (u : World) (by : ThreadRow) (value : ℕ) → Closed k u → Holds (StandsBy k) (port_test u by value)
port-stands k u by value c =
    bind_holds (object_test u by kind.Port _ value) _ (StandsBy k) (λ b at.
    found_holds (StandsBy k) (port_row u b) INVALID_HANDLE (λ p row.
    let same : p.birth ≡ b = birth-same p.birth b (first-passes (is_port b) u.ports p row) in
    stands-of k p (ap k.ports same ∙ holds_ok (λ b. k.ports b ≡ true) (object_test u by kind.Port _ value) b (object-is k u by _ value c) at) (every-first (port_closed k) (is_port b) u.ports p c.ports row)))

pub port-thin : (k : Alive) (u : World) (by : ThreadRow) (value : ℕ) → Closed k u → port_test (thin k u) by value ≡ port_test u by value
port-thin k u by value c =
    bind-same (object_test u by kind.Port _ value) (λ b. found_or (port_row (thin k u) b) INVALID_HANDLE) (λ b. found_or (port_row u b) INVALID_HANDLE)
    (λ b at. ap (λ o. found_or o INVALID_HANDLE) (row-thin k u b (holds_ok (λ b. k.ports b ≡ true) (object_test u by kind.Port _ value) b (object-is k u by _ value c) at)))

-- and so does a section
section-object : (k : Alive) (u : World) (by : ThreadRow) (rights value : ℕ) → Closed k u → Holds (λ b. k.sections b ≡ true) (object_test u by kind.Section rights value)
section-object k u by rights value c =
    let P : Birth → Type 0 = λ b. k.sections b ≡ true in
    bind_holds (own_handle u by value) _ P (λ h at.
    bind_holds (refuse_if (not (same_kind h.object.kind kind.Section)) OBJECT_TYPE_MISMATCH) _ P (λ _ section.
    bind_holds (refuse_if (not (includes h.access rights)) ACCESS_DENIED) _ P (λ _ _.
    let closed : handle_closed k h ≡ true = every-first (handle_closed k) (has_value value) (handles_of u by.process) h (rows-closed k by.process u.handles (first (is_table by.process) u.handles) refl c.tables) (found_ok (handle_at u by.process value) INVALID_HANDLE h at) in
    let off : not (same_kind h.object.kind kind.Section) ≡ false = not_refused (not (same_kind h.object.kind kind.Section)) OBJECT_TYPE_MISMATCH _ section in
    let here : same_kind h.object.kind kind.Section ≡ true = grind arith in
    section-live-as k h.object.kind h.object.birth closed here)))

pub section-live : (k : Alive) (u : World) (by : ThreadRow) (rights value : ℕ) → Closed k u → Holds (λ s. k.sections s.birth ≡ true) (section_test u by rights value)
section-live k u by rights value c =
    let P : SectionRow → Type 0 = λ s. k.sections s.birth ≡ true in
    bind_holds (object_test u by kind.Section rights value) _ P (λ b at.
    found_holds P (section_row u b) INVALID_HANDLE (λ s row.
    ap k.sections (birth-same s.birth b (first-passes (is_section b) u.sections s row)) ∙ holds_ok (λ b. k.sections b ≡ true) (object_test u by kind.Section rights value) b (section-object k u by rights value c) at))

pub section-thin : (k : Alive) (u : World) (by : ThreadRow) (rights value : ℕ) → Closed k u → section_test (thin k u) by rights value ≡ section_test u by rights value
section-thin k u by rights value c =
    bind-same (object_test u by kind.Section rights value) (λ b. found_or (section_row (thin k u) b) INVALID_HANDLE) (λ b. found_or (section_row u b) INVALID_HANDLE)
    (λ b at.
    let live : k.sections b ≡ true = holds_ok (λ b. k.sections b ≡ true) (object_test u by kind.Section rights value) b (section-object k u by rights value c) at in
    ap (λ o. found_or o INVALID_HANDLE) (first-inside (section_alive k) (is_section b) (λ s its. ap k.sections (birth-same s.birth b its) ∙ live) u.sections))

first-same : {X : Type 0} (p f g : X → Bool) → ((x : X) → p x ≡ true → f x ≡ g x) → (xs : List X) → every p xs ≡ true → first f xs ≡ first g xs
first-same p f g same [] all = refl
first-same p f g same (x ∷ xs) all = grind (arith, same x, first-same p f g same xs)

pub fitted-thin : (k : Alive) (u : World) (port : Birth) (m : Message) → Closed k u → fitted (thin k u) port m ≡ fitted u port m
fitted-thin k u port m c = first-same (wait_closed k) (fits (thin k u) port m) (fits u port m) (λ x closed. rw (row-thin k u x.port (first-true _ _ closed)) refl) u.waits c.waits

-- What enters
abbrev pub AreClosed : Alive → List Basic → Type 0
AreClosed k bs = every (is_closed k) bs ≡ true

given-closed : (k : Alive) (x : MessageRow) (y : WaitRow) (sort : WaitKind) (asked : Bool) → y.kind ≡ sort → asks x.message ≡ asked → AreClosed k (given_steps y x ++ woken SUCCESS (shown y x) y ∷ [])
given-closed k x y (Request a) true is asked = rw (is, asked) refl
given-closed k x y (Request a) false is asked = rw (is, asked) refl
given-closed k x y (Event e) true is asked = rw (is, asked) refl
given-closed k x y (Event e) false is asked = rw (is, asked) refl
given-closed k x y Receive true is asked = rw (is, asked) refl
given-closed k x y Receive false is asked = rw (is, asked) refl
given-closed k x y Listen true is asked = rw (is, asked) refl
given-closed k x y Listen false is asked = rw (is, asked) refl
given-closed k x y (Connect a offer) true is asked = rw (is, asked) refl
given-closed k x y (Connect a offer) false is asked = rw (is, asked) refl
given-closed k x y (Accepted a r) true is asked = rw (is, asked) refl
given-closed k x y (Accepted a r) false is asked = rw (is, asked) refl

entered-closed : (k : Alive) (x : MessageRow) (o : Option WaitRow) → AreClosed k (given o (λ y. given_steps y x ++ woken SUCCESS (shown y x) y ∷ []))
entered-closed k x None = refl
entered-closed k x (Some y) = given-closed k x y y.kind (asks x.message) refl refl

pub enter-closed : (k : Alive) (u : World) (x : MessageRow) → message_closed k x ≡ true → AreClosed k (enter x u)
enter-closed k u x ok = and_from _ _ ok (entered-closed k x (first (takes x) u.waits))

-- Each call answers alike
pub create-thin : (k : Alive) (u : World) (by : ThreadRow) (name : Option (List ℕ)) (dacl : Option Dacl) → nt_create_port (thin k u) by name dacl ≡ nt_create_port u by name dacl
unfolding nt_create_port
create-thin k u by None dacl = refl
create-thin k u by (Some name) dacl = refl

pub given-same : {A B : Type 0} (f g : A → Result B Status) → ((x : A) → f x ≡ g x) → (o : Option A) → if_given f o ≡ if_given g o
given-same f g same None = refl
given-same f g same (Some x) = rw (same x) refl

wanted-thin : (k : Alive) (u : World) (by : ThreadRow) (view : Option ViewWord) → Closed k u → if_given (wanted_test (thin k u) by) view ≡ if_given (wanted_test u by) view
wanted-thin k u by view c = given-same (wanted_test (thin k u) by) (wanted_test u by) (λ word. rw (section-thin k u by SECTION_MAP_WRITE word.handle c) refl) view

-- the process of a live thread stands, so its row is found, and its token
pub home-row : (k : Alive) (u : World) (pid : ℕ) → k.homes pid ≡ true → Closed k u → first (is_process pid) (thin k u).processes ≡ first (is_process pid) u.processes
home-row k u pid home c = first-agree (process_closed k) (process_alive k) (is_process pid) (is_process pid) (λ p closed. at p closed (p.number == pid) refl) u.processes c.processes
  where
    held : (e a : Bool) → e ≡ true → (not e || a) ≡ true → a ≡ true
    held e a is ok = grind arith

    at : (p : ProcessRow) → process_closed k p ≡ true → (e : Bool) → (p.number == pid) ≡ e → (p.number == pid) ≡ (k.processes p.birth && (p.number == pid))
    at p closed true is = let alive : k.processes p.birth ≡ true = held (k.homes p.number) (k.processes p.birth) (ap k.homes (eqb-true p.number pid is) ∙ home) closed in rw (alive, is) refl
    at p closed false is = grind arith

home-token : (k : Alive) (u : World) (pid : ℕ) → k.homes pid ≡ true → Closed k u → token_of (thin k u) pid ≡ token_of u pid
home-token k u pid home c = ap token_in (home-row k u pid home c)

pub caller-home : (k : Alive) (u : World) (by : ThreadRow) → live_thread u by.number ≡ Some by → Closed k u → k.homes by.process ≡ true
caller-home k u by live c =
    let passed : is_live_thread by.number by ≡ true = first-passes (is_live_thread by.number) u.threads by live in
    last by.live (k.threads by.birth) (k.homes by.process) (second-true (by.number == by.number) by.live passed) (every-first (thread_closed k) (is_live_thread by.number) u.threads by c.threads live)
  where
    last : (l a h : Bool) → l ≡ true → (not l || (a && h)) ≡ true → h ≡ true
    last l a h is it = grind arith

pub token-thin : (k : Alive) (u : World) (by : ThreadRow) → live_thread u by.number ≡ Some by → Closed k u → token_of (thin k u) by.process ≡ token_of u by.process
token-thin k u by live c = home-token k u by.process (caller-home k u by live c) c

pub connect-thin : (k : Alive) (u : World) (by : ThreadRow) (name : List ℕ) (quality : Qos) (view : Option ViewWord) (bytes : List ℕ) → live_thread u by.number ≡ Some by → ((q : Birth) → named_port u name ≡ Ok q → k.ports q ≡ true) → Closed k u → nt_connect_port (thin k u) by name quality view bytes ≡ nt_connect_port u by name quality view bytes
unfolding nt_connect_port
connect-thin k u by name quality view bytes live lives c = rw (wanted-thin k u by view c, token-thin k u by live c) (bind-same (if_given (wanted_test u by) view) _ _ (λ wanted _. bind-same (info_test bytes) _ _ (λ _ _. bind-same (if_given offer_test wanted) _ _ (λ offer _.
    bind-same (named_port u name) _ _ (λ q at. rw (row-thin k u q (lives q at)) (bind-same (access_test u by q) _ _ (λ _ _. bind-same (handles_test u by.process 1) _ _ (λ _ _. given-alike offer q (if_given (view_test u by.process (next_birth by)) offer) (given-same (view_test (thin k u) by.process (next_birth by)) (view_test u by.process (next_birth by)) (λ o. refl) offer)))))))))
  where
    given-alike : (offer : Option Offer) (q : Birth) (r : Result (Option ViewRow) Status) → if_given (view_test (thin k u) by.process (next_birth by)) offer ≡ r → (if_given (view_test (thin k u) by.process (next_birth by)) offer >>= (λ own. Ok (connect_steps by q offer own (connection_request by offer bytes) (thin k u) ++ allow_steps u by quality))) ≡ (r >>= (λ own. Ok (connect_steps by q offer own (connection_request by offer bytes) u ++ allow_steps u by quality)))
    given-alike offer q r same = rw same refl

pub listen-thin : (k : Alive) (u : World) (by : ThreadRow) (handle : ℕ) → Closed k u → nt_listen_port (thin k u) by handle ≡ nt_listen_port u by handle
unfolding nt_listen_port
listen-thin k u by handle c = rw (port-thin k u by handle c) refl

answer-thin : (k : Alive) (u : World) (by : ThreadRow) (bytes : List ℕ) → Closed k u → answer_test (thin k u) by bytes ≡ answer_test u by bytes
answer-thin k u by bytes c = bind-same (message_test bytes) _ _ (λ m _. rw (client-thin k u m.header.client c) refl)

shared-thin : (k : Alive) (u : World) (by : ThreadRow) (x : WaitRow) (offer : Option Offer) → shared_test (thin k u) by x offer ≡ shared_test u by x offer
shared-thin k u by x offer =
    rw (given-same (view_test (thin k u) by.process (next_birth by)) (view_test u by.process (next_birth by)) (λ o. refl) offer) (bind-same (if_given (view_test u by.process (next_birth by)) offer) _ _ (λ own _.
    rw (given-same (view_test (world_after (thin k u) (mapped by.process own)) by.process (next_birth by)) (view_test (world_after u (mapped by.process own)) by.process (next_birth by)) (λ o. one own o) (offer_of x))
    (bind-same (if_given (view_test (world_after u (mapped by.process own)) by.process (next_birth by)) (offer_of x)) _ _ (λ theirs _.
    rw (given-same (view_test (world_after (thin k u) (server_views by own theirs)) x.process x.port) (view_test (world_after u (server_views by own theirs)) x.process x.port) (λ o. two own theirs o) offer) refl))))
  where
    one : (own : Option ViewRow) (o : Offer) → view_test (world_after (thin k u) (mapped by.process own)) by.process (next_birth by) o ≡ view_test (world_after u (mapped by.process own)) by.process (next_birth by) o
    one None o = refl
    one (Some v) o = refl

    two : (own theirs : Option ViewRow) (o : Offer) → view_test (world_after (thin k u) (server_views by own theirs)) x.process x.port o ≡ view_test (world_after u (server_views by own theirs)) x.process x.port o
    two None None o = refl
    two None (Some b) o = refl
    two (Some a) None o = refl
    two (Some a) (Some b) o = refl

pub accept-thin : (k : Alive) (u : World) (by : ThreadRow) (context : ℕ) (bytes : List ℕ) (accept : Bool) (view : Option ViewWord) → Closed k u → nt_accept_connect_port (thin k u) by context bytes accept view ≡ nt_accept_connect_port u by context bytes accept view
unfolding nt_accept_connect_port
accept-thin k u by context bytes true view c =
    rw (wanted-thin k u by view c, answer-thin k u by bytes c) (bind-same (if_given (wanted_test u by) view) _ _ (λ wanted _. bind-same (answer_test u by bytes) _ _ (λ a _. bind-same (if_given offer_test wanted) _ _ (λ offer _.
    bind-same (handles_test u by.process 1) _ _ (λ _ _. rw (shared-thin k u by a.wait offer) refl)))))
accept-thin k u by context bytes false view c = rw (answer-thin k u by bytes c) refl

pub complete-thin : (k : Alive) (u : World) (by : ThreadRow) (handle : ℕ) → Closed k u → nt_complete_connect_port (thin k u) by handle ≡ nt_complete_connect_port u by handle
unfolding nt_complete_connect_port
complete-thin k u by handle c = rw (port-thin k u by handle c) refl

pub datagram-thin : (k : Alive) (u : World) (by : ThreadRow) (handle : ℕ) (bytes : List ℕ) → Closed k u → nt_request_port (thin k u) by handle bytes ≡ nt_request_port u by handle bytes
unfolding nt_request_port
datagram-thin k u by handle bytes c = rw (port-thin k u by handle c) refl

pub request-thin : (k : Alive) (u : World) (by : ThreadRow) (handle : ℕ) (bytes : List ℕ) → Closed k u → nt_request_wait_reply_port (thin k u) by handle bytes ≡ nt_request_wait_reply_port u by handle bytes
unfolding nt_request_wait_reply_port
request-thin k u by handle bytes c = rw (port-thin k u by handle c) refl

-- replies and receives
pub reply-thin : (k : Alive) (u : World) (by : ThreadRow) (handle : ℕ) (bytes : List ℕ) → Closed k u → nt_reply_port (thin k u) by handle bytes ≡ nt_reply_port u by handle bytes
unfolding nt_reply_port
reply-thin k u by handle bytes c =
    rw (port-thin k u by handle c) (bind-same (port_test u by handle) _ _ (λ p _. bind-same (message_test bytes) _ _ (λ m _. rw (client-thin k u m.header.client c, fitted-thin k u p.birth m c) refl)))

given-thin : (k : Alive) (u : World) (p : PortRow) (o : Option Message) → Closed k u → given_reply (thin k u) p o ≡ given_reply u p o
given-thin k u p None c = refl
given-thin k u p (Some m) c = rw (client-thin k u m.header.client c, fitted-thin k u p.birth m c) refl

pub receive-thin : (k : Alive) (u : World) (by : ThreadRow) (handle : ℕ) (bytes : Option (List ℕ)) → Closed k u → nt_reply_wait_receive_port (thin k u) by handle bytes ≡ nt_reply_wait_receive_port u by handle bytes
unfolding nt_reply_wait_receive_port
receive-thin k u by handle bytes c =
    rw (port-thin k u by handle c) (bind-same (port_test u by handle) _ _ (λ p _. bind-same (optional_message bytes) _ _ (λ m _. bind-same (receive_test u p) _ _ (λ q _. rw (given-thin k u p m c) refl))))
