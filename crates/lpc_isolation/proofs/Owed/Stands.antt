-- A call names what stands alone, where rows that nothing names are to go.
use Rattle.lpc_model.proofs.Sound.Reply.{reply-cases}
use Rattle.lpc_model.specs.Raise.{event_begun, raise_told}
use Rattle.lpc_model.proofs.Calls.Raising.{set-passes}
use Rattle.lpc_isolation.proofs.Each.Raises.{event_row, hearer-live, hearing-set}
use Rattle.lpc_model.specs.Memory.{section_test, SECTION_MAP_WRITE, size_test}
use Rattle.std.proofs.Common.{◌≡◌, ℕ, List, [], ◌∷◌, ◌++◌, Bool, true, false, not, Option, Some, None, refl, ap, sym, subst, ◌∙◌, arith}
use Rattle.std.proofs.lemmas.Bool.{and_from}
use Rattle.std.specs.Prelude.{◌&&◌, Result, Ok, Err, ◌%◌, ◌==◌}
use Rattle.lpc_base.specs.Rows.{every, first, has}
use Rattle.lpc_base.proofs.RowWords.{every-append, first-passes}
use Rattle.lpc_base.proofs.RowMaps.{every-first}
use Rattle.lpc_base.proofs.Bools.{first-true, second-true}
use Rattle.lpc_base.proofs.Births.{birth-same}
use Rattle.lpc_base.specs.declared.status.TheConstants.{INVALID_PARAMETER, INVALID_PORT_HANDLE, PORT_DISCONNECTED, REPLY_MESSAGE_MISMATCH, MAPPED_ALIGNMENT, SECTION_PROTECTION}
use Rattle.lpc_message.specs.declared.kind.TheConstants.{DATAGRAM, REQUEST}
use Rattle.lpc_names.specs.Binding.{has_name}
use Rattle.lpc_names.specs.Walk.{Bindings, LinkTo, Stands, lookup}
use Rattle.lpc_names.specs.declared.fault.NameFault.{NameFault}
use Rattle.lpc_names.specs.declared.names.Found.{Found}
use Rattle.lpc_names.specs.declared.names.Found.TheVariants.{Directory, Item}
use Rattle.lpc_model.specs.declared.message.Message.{Message}
use Rattle.lpc_model.specs.Message.{asks, message_test}
use Rattle.lpc_model.specs.Refusal.{found_or, refuse_if}
use Rattle.lpc_model.specs.Then.{◌>>=◌}
use Rattle.lpc_model.specs.World.{Birth, Connect, HandleRow, HandleTable, MessageRow, PortRow, ThreadRow, WaitKind, WaitRow, World, ObjectName, SectionRow, Offer, ViewRow}
use Rattle.lpc_model.specs.Found.{free_handle, handles_of, has_handle_to, has_value, is_offered, is_open, is_server_port, is_table, live_thread, names_port, route, offer_of}
use Rattle.lpc_model.specs.Basics.{Basic, world_after}
use Rattle.lpc_model.specs.Named.{as_status, named_port, port_found}
use Rattle.lpc_model.specs.Entering.{enter, row_of, take_connect_steps, take_steps}
use Rattle.lpc_model.specs.Tests.{client_test, is_client, next_birth, port_test}
use Rattle.lpc_model.specs.Connect.{Completable, ConnectAnswer, answer_test, client_port, complete_test, completion_test, connect_start, connection_request, is_accepted_on, listen_steps, names_connect, accept_start, allow_steps, create_steps, named_steps, connect_steps}
use Rattle.lpc_model.specs.Request.{Sendable, reply_test, datagram_send_test, datagram_start, datagram_test, given_reply, receive_steps, request_start, send_test, sent_by}
use Rattle.lpc_model.specs.SoundWaits.{IsSoundWorld, is_sound_as, is_sound_wait, leads_open, waiter_of}
use Rattle.lpc_model.proofs.Calls.Holding.{Holds, bind_holds, found_ok, holds_ok}
use Rattle.lpc_names.proofs.Bound.{nameless-is-not-found}
use Rattle.lpc_isolation.proofs.Gone.Thin.{Alive, Closed, all_alive, handle_closed, is_closed, message_closed, table_closed, wait_closed, port-live, offer_alive}
use Rattle.lpc_isolation.proofs.Calls.Deeds.{AreTame, gives, more, none, numbers, registers, Deeds, any-tame, maps, unmaps, writes, acts, guarded}
use Rattle.lpc_isolation.proofs.Gone.ThinCalls.{AreClosed, StandsBy, port-stands, rows-closed, enter-closed, section-live}
use Rattle.lpc_isolation.proofs.Calls.Doomed.{doomed-remains, ended}
use Rattle.lpc_isolation.proofs.Each.Closes.{handle-stands}
use Rattle.lpc_model.specs.Lines.{}
use Rattle.lpc_model.specs.Offers.{Wanted, SharedViews, wanted_test, offer_test, if_given, mapped, view_test, shared_steps, server_views, shared_test}
use Rattle.lpc_model.proofs.Calls.Offers.{IsViewOf, Given, given_holds, viewed, one_offered, given_any, none_offered}
use Rattle.lpc_model.proofs.Calls.Sharing.{AreShared, shared}
use Rattle.lpc_model.specs.declared.line.ViewWord.{ViewWord}

-- Ports that are open
-- a port that is open stands, and so does one that a name leads to
open-live : (k : Alive) (b : Birth) (ts : List HandleTable) → every (table_closed k) ts ≡ true → has (has_handle_to b) ts ≡ true → k.ports b ≡ true
open-live k b [] all opens = absurd (cc)
open-live k b (t ∷ ts) all opens = at (has_handle_to b t) refl (open-live k b ts (second-true _ _ all))
  where
    named : (hs : List HandleRow) → every (handle_closed k) hs ≡ true → has (λ h. names_port b h.object) hs ≡ true → k.ports b ≡ true
    named [] one is = absurd (cc)
    named (h ∷ hs) one is = here (names_port b h.object) refl (named hs (second-true _ _ one))
      where
        here : (e : Bool) → names_port b h.object ≡ e → (has (λ h. names_port b h.object) hs ≡ true → k.ports b ≡ true) → k.ports b ≡ true
        here true its rest = let live : k.ports h.object.birth ≡ true = port-live k h.object (first-true _ _ one) (first-true _ _ its) in ap k.ports (sym (birth-same h.object.birth b (grind arith))) ∙ live
        here false off rest = rest (grind arith)

    at : (e : Bool) → has_handle_to b t ≡ e → (has (has_handle_to b) ts ≡ true → k.ports b ≡ true) → k.ports b ≡ true
    at true its rest = named t.rows (first-true _ _ all) its
    at false off rest = rest (grind arith)

unnamed : (k : Alive) (u : World) → ((b : Birth) → is_open u b ≡ true → k.ports b ≡ true) → (bindings : Bindings Birth) → every (λ b. leads_open u b.1) bindings ≡ true → (port : Birth) → has_name (λ other _. not (k.ports other)) port bindings ≡ false
unnamed k u live [] opens port = refl
unnamed k u live ((path, LinkTo target) ∷ rest) opens port = unnamed k u live rest opens port
unnamed k u live ((path, Stands Directory) ∷ rest) opens port = unnamed k u live rest opens port
unnamed k u live ((path, Stands (Item other)) ∷ rest) opens port = grind (arith, unnamed k u live rest, live other)

pub name-live : (k : Alive) (u : World) (text : List ℕ) → IsSoundWorld u → Closed k u → Holds (λ port. k.ports port ≡ true) (named_port u text)
name-live k u text s c = at (lookup u.bindings text) refl
  where
    at : (r : Result (Found Birth) NameFault) → lookup u.bindings text ≡ r → Holds (λ port. k.ports port ≡ true) (as_status r >>= port_found)
    at (Err fault) is = tt
    at (Ok Directory) is = tt
    at (Ok (Item port)) is =
        let closed = nameless-is-not-found (λ other _. not (k.ports other)) port port u.bindings text (unnamed k u (λ b opens. open-live k b u.handles c.tables opens) u.bindings s.names port) is in grind arith

-- an answered connect's port stands, and so does its queue, which is open
abbrev answer_live : Alive → ConnectAnswer → Bool
answer_live k a = wait_closed k a.wait && k.ports a.wait.queue

offered-opens : (u : World) (x : WaitRow) (sort : WaitKind) → x.kind ≡ sort → is_offered x ≡ true → is_sound_wait u x ≡ true → is_open u x.queue ≡ true
offered-opens u x (Connect b offer) is on sound = let own : is_sound_as u x (Connect b offer) ≡ true = rw is at (second-true (is_client u (waiter_of x)) (is_sound_as u x x.kind) sound) in grind arith
offered-opens u x b is on sound = let off : false ≡ true = rw is at on in absurd (cc)

answered-live : (k : Alive) (u : World) (by : ThreadRow) (bytes : List ℕ) → IsSoundWorld u → Closed k u → Holds (λ (a : ConnectAnswer). answer_live k a ≡ true) (answer_test u by bytes)
answered-live k u by bytes s c =
    let P : ConnectAnswer → Type 0 = λ a. answer_live k a ≡ true in
    bind_holds (message_test bytes) _ P (λ m _.
    bind_holds (client_test u m.header.client) _ P (λ _ _.
    bind_holds (found_or (first (names_connect u by m) u.waits) REPLY_MESSAGE_MISMATCH) _ P (λ x at.
    let found = found_ok (first (names_connect u by m) u.waits) REPLY_MESSAGE_MISMATCH x at in
    let named = first-passes (names_connect u by m) u.waits x found in
    let opens = offered-opens u x x.kind refl (grind arith) (every-first (is_sound_wait u) (names_connect u by m) u.waits x s.waits found) in
    and_from _ _ (every-first (wait_closed k) (names_connect u by m) u.waits x c.waits found) (open-live k x.queue u.handles c.tables opens))))

-- Steps
pub then-closed : (k : Alive) (u : World) (start : List Basic) (x : MessageRow) → AreClosed k start → message_closed k x ≡ true → AreClosed k (start ++ enter x (world_after u start))
then-closed k u start x ok live = every-append (is_closed k) start (enter x (world_after u start)) ok (enter-closed k (world_after u start) x live)

taken-closed : (k : Alive) (x : MessageRow) (asked : Bool) → asks x.message ≡ asked → AreClosed k (take_steps x) × AreClosed k (take_connect_steps x)
taken-closed k x true asked = (rw asked refl, rw asked refl)
taken-closed k x false asked = (rw asked refl, rw asked refl)

listened-closed : (k : Alive) (by : ThreadRow) (port : Birth) (o : Option MessageRow) → k.ports port ≡ true → AreClosed k (listen_steps by port o)
listened-closed k by port None live = rw live refl
listened-closed k by port (Some x) live = (taken-closed k x (asks x.message) refl).1

-- what is offered stands, and so a view of it is of a section that stands, and owned by a port that does
abbrev IsLiveOffer : Alive → Offer → Type 0
IsLiveOffer k o = k.sections o.section ≡ true

wanted-live : (k : Alive) (u : World) (by : ThreadRow) (word : ViewWord) → Closed k u → Holds (λ (v : Wanted). k.sections v.section.birth ≡ true) (wanted_test u by word)
wanted-live k u by word c =
    let P : Wanted → Type 0 = λ v. k.sections v.section.birth ≡ true in
    bind_holds (section_test u by SECTION_MAP_WRITE word.handle) _ P (λ s at.
    holds_ok (λ (s : SectionRow). k.sections s.birth ≡ true) (section_test u by SECTION_MAP_WRITE word.handle) s (section-live k u by SECTION_MAP_WRITE word.handle c) at)

made-live : (k : Alive) (v : Wanted) → k.sections v.section.birth ≡ true → Holds (IsLiveOffer k) (offer_test v)
made-live k v live =
    bind_holds (refuse_if (not (v.offset % 4096 == 0)) MAPPED_ALIGNMENT) _ (IsLiveOffer k) (λ _ _.
    bind_holds (refuse_if (not v.section.writable) SECTION_PROTECTION) _ (IsLiveOffer k) (λ _ _.
    bind_holds (size_test v.section v.offset v.size) _ (IsLiveOffer k) (λ _ _. live)))

offer-live : (k : Alive) (u : World) (by : ThreadRow) (word : Option ViewWord) (wanted : Option Wanted) (offer : Option Offer) → Closed k u → if_given (wanted_test u by) word ≡ Ok wanted → if_given offer_test wanted ≡ Ok offer → Given (IsLiveOffer k) offer
offer-live k u by word wanted offer c found made =
    let P : Wanted → Type 0 = λ v. k.sections v.section.birth ≡ true in
    holds_ok (Given (IsLiveOffer k)) (if_given offer_test wanted) offer
    (given_holds offer_test P (IsLiveOffer k) (made-live k) wanted (holds_ok (Given P) (if_given (wanted_test u by) word) wanted (given_any (wanted_test u by) P (λ word. wanted-live k u by word c) word) found)) made

given-live : (k : Alive) (o : Option Offer) → Given (IsLiveOffer k) o → offer_alive k o ≡ true
given-live k None is = refl
given-live k (Some o) is = is

live-given : (k : Alive) (o : Option Offer) → offer_alive k o ≡ true → Given (IsLiveOffer k) o
live-given k None is = tt
live-given k (Some o) is = is

mapped-closed : (k : Alive) (u : World) (pid : ℕ) (port : Birth) (offer : Option Offer) (o : Option ViewRow) → IsViewOf u pid port offer o → Given (IsLiveOffer k) offer → k.ports port ≡ true → AreClosed k (mapped pid o)
mapped-closed k u pid port None None none_offered is live = refl
mapped-closed k u pid port None (Some v) never is live = elim never [ ]
mapped-closed k u pid port (Some o) None never is live = elim never [ ]
mapped-closed k u pid port (Some o) (Some v) (one_offered _ base at) is live = rw (is, live) refl

shared-closed : (k : Alive) (u : World) (by : ThreadRow) (x : WaitRow) (offer : Option Offer) (views : SharedViews) → AreShared u by x offer views → Given (IsLiveOffer k) offer → Given (IsLiveOffer k) (offer_of x) → k.ports (next_birth by) ≡ true → k.ports x.port ≡ true → AreClosed k (shared_steps by x views)
shared-closed k u by x offer views s mine theirs server client =
    every-append (is_closed k) (server_views by views.own views.theirs) (mapped x.process views.across)
    (every-append (is_closed k) (mapped by.process views.own) (mapped by.process views.theirs) (mapped-closed k _ by.process (next_birth by) offer views.own s.own mine server) (mapped-closed k _ by.process (next_birth by) (offer_of x) views.theirs s.theirs theirs server))
    (mapped-closed k _ x.process x.port offer views.across s.across mine client)

accepted-closed : (k : Alive) (by : ThreadRow) (context value : ℕ) (a : ConnectAnswer) (views : SharedViews) → k.ports (next_birth by) ≡ true → k.ports a.wait.port ≡ true → k.ports a.wait.queue ≡ true → AreClosed k (accept_start by context value a views)
accepted-closed k by context value a views new port queue = rw (new, port, queue) refl

-- a completion
completed-live : (k : Alive) (u : World) (port : PortRow) → StandsBy k port → Holds (λ (c : Completable). k.ports c.client ≡ true) (completion_test u port)
completed-live k u port s =
    let P : Completable → Type 0 = λ c. k.ports c.client ≡ true in
    bind_holds (refuse_if (not (is_server_port port)) INVALID_PORT_HANDLE) _ P (λ _ _. bind_holds (refuse_if port.completed INVALID_PARAMETER) _ P (λ _ _.
    bind_holds (found_or port.pair PORT_DISCONNECTED) _ P (λ b pair.
    bind_holds (found_or (first (is_accepted_on b) u.waits) PORT_DISCONNECTED) _ P (λ x at.
    subst (λ o. all_alive k.ports o ≡ true) (found_ok port.pair PORT_DISCONNECTED b pair) s.pair))))

-- what is sent
sent-live : (k : Alive) (u : World) (by : ThreadRow) (handle : ℕ) (bytes : List ℕ) → Closed k u → Holds (λ (s : Sendable). k.ports s.port.birth ≡ true) (send_test u by handle bytes)
sent-live k u by handle bytes c =
    let P : Sendable → Type 0 = λ s. k.ports s.port.birth ≡ true in
    bind_holds (port_test u by handle) _ P (λ p at. bind_holds (message_test bytes) _ P (λ m _. bind_holds (found_or (route u p) PORT_DISCONNECTED) _ P (λ q there.
    let s = holds_ok (StandsBy k) (port_test u by handle) p (port-stands k u by handle c) at in s.here)))

replied-closed : (k : Alive) (u : World) (p : PortRow) (o : Option Message) → Holds (AreClosed k) (given_reply u p o)
replied-closed k u p None = refl
replied-closed k u p (Some m) = bind_holds (reply_test u p m) _ (AreClosed k) (λ x _. reply-cases (λ r. AreClosed k (r ∷ [])) x m refl refl (λ _. refl))

received-closed : (k : Alive) (by : ThreadRow) (p : PortRow) (q : Birth) (rs : List Basic) (o : Option MessageRow) → k.ports p.birth ≡ true → AreClosed k rs → AreClosed k (receive_steps by p q rs o)
received-closed k by p q rs None port ok = every-append (is_closed k) rs _ ok (rw port refl)
received-closed k by p q rs (Some x) port ok = every-append (is_closed k) rs (take_steps x) ok (taken-closed k x (asks x.message) refl).0

-- what tame steps name
closeds : (k : Alive) (w : World) (by : ThreadRow) (bs : List Basic) → AreTame w by bs → Closed k w → AreClosed k bs
closeds k w by [] none c = refl
closeds k w by (b ∷ bs) (more (gives h r value at same) t) c =
    let live : handle_closed k r ≡ true = every-first (handle_closed k) (has_value value) (handles_of w by.process) r (rows-closed k by.process w.handles (first (is_table by.process) w.handles) refl c.tables) at in
    and_from _ _ (subst (λ (o : ObjectName). handle_closed k (record h { object = o }) ≡ true) same live) (closeds k w by bs t c)
closeds k w by (b ∷ bs) (more (registers p value at) t) c = and_from _ _ (holds_ok (StandsBy k) (port_test w by value) p (port-stands k w by value c) at).here (closeds k w by bs t c)
closeds k w by (b ∷ bs) (more numbers t) c = closeds k w by bs t c
closeds k w by (b ∷ bs) (more (maps x s rights value at section owner) t) c =
    let live : k.sections s.birth ≡ true = holds_ok (λ (s : SectionRow). k.sections s.birth ≡ true) (section_test w by rights value) s (section-live k w by rights value c) at in
    and_from _ _ (and_from _ _ (subst (λ b. k.sections b ≡ true) (sym section) live) (rw owner refl)) (closeds k w by bs t c)
closeds k w by (b ∷ bs) (more (unmaps base) t) c = closeds k w by bs t c
closeds k w by (b ∷ bs) (more (writes s place new) t) c = closeds k w by bs t c
closeds k w by (b ∷ bs) (more (acts other) t) c = closeds k w by bs t c

-- Each deed
pub stands-deeds : (k : Alive) (u : World) (by : ThreadRow) → live_thread u by.number ≡ Some by → IsSoundWorld u → Closed k u → k.ports (next_birth by) ≡ true → k.sections (next_birth by) ≡ true → k.tokens (next_birth by) ≡ true → Deeds u by (λ _. AreClosed k)
stands-deeds k u by live s c new made token = record {
  creates = λ _. rw new refl;
  founds = λ name dacl path free. guarded (λ bs. AreClosed k (create_steps by (named_steps (next_birth by) path) (free_handle u by.process) ++ bs)) (next_birth by) name dacl (rw new refl) (λ s. rw new refl);
  connects = λ name quality word bytes offer own q is.
      let lives : k.ports q ≡ true = holds_ok (λ port. k.ports port ≡ true) (named_port u name) q (name-live k u name s c) is.port_named in
      let mine = offer-live k u by word is.wanted offer c is.wanted_found is.offer_made in
      let seen = holds_ok (IsViewOf u by.process (next_birth by) offer) (if_given (view_test u by.process (next_birth by)) offer) own (viewed u by.process (next_birth by) offer) is.view_placed in
      let start = connect_start by q offer own (connection_request by offer bytes) in
      let row = row_of q (client_port by q) (connection_request by offer bytes) in
      every-append (is_closed k) (connect_steps by q offer own (connection_request by offer bytes) u) (allow_steps u by quality) (every-append (is_closed k) (start ++ enter row (world_after u start)) (mapped by.process own)
      (then-closed k u start row (rw (new, lives, given-live k offer mine) refl) new)
      (mapped-closed k u by.process (next_birth by) offer own seen mine new)) refl;
  listens = λ handle p o at first. listened-closed k by p.birth o (stands handle p at).here;
  refuses = λ context bytes word a at. refl;
  accepts = λ context bytes word offer a views is.
      let lives : answer_live k a ≡ true = holds_ok (λ (a : ConnectAnswer). answer_live k a ≡ true) (answer_test u by bytes) a (answered-live k u by bytes s c) is.answered in
      let wait : wait_closed k a.wait ≡ true = first-true _ _ lives in
      let client : k.ports a.wait.port ≡ true = first-true _ _ wait in
      let mine = offer-live k u by word is.wanted offer c is.wanted_found is.offer_made in
      let views_found = holds_ok (AreShared u by a.wait offer) (shared_test u by a.wait offer) views (shared u by a.wait offer) is.views_placed in
      every-append (is_closed k) (accept_start by context (free_handle u by.process) a views) (shared_steps by a.wait views)
      (accepted-closed k by context (free_handle u by.process) a views new client (second-true (wait_closed k a.wait) _ lives))
      (shared-closed k u by a.wait offer views views_found mine (live-given k (offer_of a.wait) (second-true (k.ports a.wait.port) _ wait)) new client);
  completes = λ handle r at.
      let lives : k.ports r.client ≡ true = holds_ok (λ (c : Completable). k.ports c.client ≡ true) (complete_test u by handle) r
      (bind_holds (port_test u by handle) _ (λ (c : Completable). k.ports c.client ≡ true) (λ p is. completed-live k u p (stands handle p is))) at in
      rw lives refl;
  sends = λ handle bytes x at.
      let P : Sendable → Type 0 = λ x. k.ports x.port.birth ≡ true in
      let lives : k.ports x.port.birth ≡ true = holds_ok P (datagram_send_test u by handle bytes) x
      (bind_holds (send_test u by handle bytes) _ P (λ x is. bind_holds (datagram_test u x.port) _ P (λ _ _. holds_ok P (send_test u by handle bytes) x (sent-live k u by handle bytes c) is))) at in
      then-closed k u (datagram_start by) (row_of x.queue x.port (sent_by by DATAGRAM x.message)) refl lives;
  asks = λ handle bytes x at.
      let lives : k.ports x.port.birth ≡ true = holds_ok (λ (x : Sendable). k.ports x.port.birth ≡ true) (send_test u by handle bytes) x (sent-live k u by handle bytes c) at in
      then-closed k u (request_start by x.port.birth x.queue (sent_by by REQUEST x.message)) (row_of x.queue x.port (sent_by by REQUEST x.message)) (rw lives refl) lives;
  replies = λ handle bytes p m x at read fits. reply-cases (λ r. AreClosed k (r ∷ [])) x m refl refl (λ _. refl);
  receives = λ handle bytes a p q replied o is first. received-closed k by p q replied o (stands handle p is.port_found).here (holds_ok (AreClosed k) (given_reply u p a) replied (replied-closed k u p a) is.reply_made);
  closes = λ handle r at. handle-stands k u by.process r c (every-first (handle_closed k) (has_value handle) (handles_of u by.process) r (rows-closed k by.process u.handles (first (is_table by.process) u.handles) refl c.tables) at);
  makes_section = λ size prot. rw made refl;
  impersonates = λ handle bytes own is. refl;
  opens_own = λ own is. rw token refl;
  opens_primary = rw token refl;
  sets = λ target class handle pid port at found lives.
      let p = holds_ok (StandsBy k) (port_test u by handle) port (port-stands k u by handle c) found in
      set-passes (AreClosed k) by class pid port.birth (rw p.here refl) (rw p.here refl);
  handles = λ code handled. refl;
  hears = λ code handled h is.
      let lives : k.ports h.port.birth ≡ true = hearer-live k u by.process is.chance h c (hearing-set u by.process is.chance h is.found) in
      then-closed k u (raise_told by ∷ event_begun by code handled h) (event_row by code h) (rw lives refl) lives;
  fails = λ code handled. refl;
  tames = any-tame (λ call name fields bs tame t. closeds k u by bs t c);
  ends = λ call name own pid code ts doomed.
      let r = doomed-remains k u by own pid code ts live c doomed in let is = r.stands u c in ended (AreClosed k) by name own pid code ts u (λ _. is) (λ _. is);
}
  where
    stands : (handle : ℕ) (p : PortRow) → port_test u by handle ≡ Ok p → StandsBy k p
    stands handle p at = holds_ok (StandsBy k) (port_test u by handle) p (port-stands k u by handle c) at
