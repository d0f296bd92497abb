-- What holds of the rows of each world of a run in which a group is a circle of c.
use Rattle.std.proofs.Common.{◌≡◌, ℕ, List, [], ◌∷◌, ◌++◌, Bool, true, false, cond, not, Option, Some, None, refl, ap, sym, subst, ◌∙◌, arith}
use Rattle.std.specs.Prelude.{◌&&◌, ◌||◌, ◌==◌, is_none, option_map, nat_lt}
use Rattle.std.proofs.lemmas.Bool.{and_from, eqb-true}
use Rattle.lpc_base.specs.Rows.{every, first, has, passes}
use Rattle.lpc_base.proofs.RowWords.{every-append, every-change, every-more, every-push, every-which, every-without, first-kept, first-passes, first-push}
use Rattle.lpc_base.proofs.RowMaps.{every-both, every-change_to, every-first, every-map, every-without_first, every-mapped}
use Rattle.lpc_base.proofs.Bools.{first-true, same-number, second-true}
use Rattle.lpc_model.specs.World.{Accepted, Birth, Connect, Creator, HandleRow, HandleTable, Listen, MessageRow, PortRow, ProcessRow, Receive, Request, ThreadRow, UsedThread, ViewRow, ViewTable, WaitKind, WaitRow, World, Acceptance, Offer, Event}
use Rattle.lpc_model.specs.Found.{has_value, is_client_port, is_connect, is_listen, is_own_of, is_port, is_queued, is_receive, is_server_port, is_table, is_thread, is_space, is_used_thread, lies_at, same_birth, views_in, views_of, waits_as, waits_at, is_owned_by, offer_of, event_ports_of, is_event, is_process, listed}
use Rattle.lpc_model.specs.Basics.{Accepts, AddsHandle, AddsProcess, AddsSection, AddsThread, Awaits, Basic, Binds, Completes, Cuts, DrawsIdentifier, DrawsOrdinal, DropsHandle, DropsViewsOf, Empties, Enters, Frees, Joins, Makes, Maps, Receives, Takes, TakesConnect, Tells, Unbinds, Unmaps, Wakes, Withdraws, Writes, accepted, accepted_as, basic, completed, cut, is_end_of, joined, no_handles, no_views, past_identifier, past_ordinal, received, used, with_handle, with_view, without_handle, without_view, without_views, world_after, Dies, Registers, Unregisters, ended, registering, unregistering, DropsOwned, without_owned, Acts, AddsToken, NamesToken, Secures, acting, secured, Dooms, Leaves, LetsGo, Marks, SetsDebug, SetsException, debugged, doomed, excepted, portless}
use Rattle.lpc_model.specs.Circle.{Group, owner}
use Rattle.lpc_isolation.proofs.Views.View.{of_birth}

abbrev pub implies : Bool → Bool → Bool
implies a b = not a || b

abbrev pub all_of : {X : Type 0} → Option X → (X → Bool) → Bool
all_of None f = true
all_of (Some x) f = f x

-- handles name what their process made
abbrev pub is_own : ℕ → HandleRow → Bool
is_own pid h = h.object.birth.process == pid

abbrev pub is_fair_table : HandleTable → Bool
is_fair_table t = every (is_own t.process) t.rows

-- A server port and its connection port are of one process, and only client and server ports have one. Of a pair, the client's is a member where the server's is c, and
-- only where the server's is a member.
abbrev pub is_home : PortRow → Bool
is_home p =
    implies (is_server_port p) (all_of p.connection (λ q. q.process == p.birth.process))
    && (is_server_port p || (is_client_port p || is_none p.connection))

abbrev pub is_fair_pair : Group → ℕ → PortRow → Birth → Bool
is_fair_pair m c p o =
    cond (is_server_port p) (implies (m o.process) (m p.birth.process) && implies (p.birth.process == c) (m o.process))
    (implies (m p.birth.process) (m o.process) && implies (o.process == c) (m p.birth.process))

abbrev pub is_fair_port : Group → ℕ → PortRow → Bool
is_fair_port m c p = is_home p && all_of p.pair (is_fair_pair m c p)

-- a process, and the one that made it, are both members or both outsiders; and so a thread's process, and the one that made the thread
abbrev pub are_together : Group → ℕ → ℕ → Bool
are_together m a b = implies (m a) (m b) && implies (m b) (m a)

-- between c and others than members goes no message
abbrev pub is_fair_message : Group → ℕ → MessageRow → Bool
is_fair_message m c x =
    are_together m x.message.header.client.process x.sender.process
    && (implies (x.queue.process == c) (m x.sender.process) && implies (x.sender.process == c) (m x.queue.process))

-- a wait was made on a port of its process, but for an event, whose port is of the process's side
abbrev pub is_home_wait : Group → WaitRow → Bool
is_home_wait m x = (not (is_event x) || are_together m x.port.process x.process) && (is_event x || (x.port.process == x.process))

abbrev pub is_fair_wait : Group → ℕ → WaitRow → Bool
is_fair_wait m c x =
    is_home_wait m x
    && (implies (is_receive x || is_listen x) (x.queue.process == x.process)
    && (implies (x.queue.process == c) (m x.process)
    && (implies (x.process == c) (m x.queue.process) && implies (is_connect x) (implies (m x.process) (m x.queue.process)))))

-- a thread's number was used for its process
abbrev pub is_homed : List UsedThread → ThreadRow → Bool
is_homed used t = passes (first (is_used_thread t.number) used) (λ u. u.process == t.process)

-- a thread registered ports of its process
abbrev pub is_fair_thread : ThreadRow → Bool
is_fair_thread t = every (λ (b : Birth). b.process == t.process) t.registrations

abbrev pub is_fair_process : Group → ProcessRow → Bool
is_fair_process m p = are_together m p.number p.birth.process

abbrev pub is_fair_life : Group → ThreadRow → Bool
is_fair_life m t = are_together m t.process t.birth.process

pub together : (m : Group) (a b : ℕ) → are_together m a b ≡ true → m a ≡ m b
together m a b is = grind arith

pub together-same : (m : Group) (a b : ℕ) → (a == b) ≡ true → are_together m a b ≡ true
together-same m a b is = at (m a) (m b) (ap m (eqb-true a b is))
  where
    at : (x y : Bool) → x ≡ y → (implies x y && implies y x) ≡ true
    at true true same = refl
    at false false same = refl
    at true false same = absurd (cc)
    at false true same = absurd (cc)

pub together-of : (m : Group) (a b : ℕ) → m a ≡ m b → are_together m a b ≡ true
together-of m a b same = rw same (at (m b))
  where
    at : (e : Bool) → (implies e e && implies e e) ≡ true
    at true = refl
    at false = refl

-- where a wait was made
pub port-side : (m : Group) (x : WaitRow) → is_home_wait m x ≡ true → m x.port.process ≡ m x.process
port-side m x is = at (is_event x) is
  where
    at : (e : Bool) → ((not e || are_together m x.port.process x.process) && (e || (x.port.process == x.process))) ≡ true → m x.port.process ≡ m x.process
    at true is = together m x.port.process x.process (first-true (are_together m x.port.process x.process) _ is)
    at false is = ap m (eqb-true x.port.process x.process is)

pub port-home : (m : Group) (x : WaitRow) → is_event x ≡ false → is_home_wait m x ≡ true → x.port.process ≡ x.process
port-home m x off is = eqb-true _ _ (let it : ((not false || are_together m x.port.process x.process) && (false || (x.port.process == x.process))) ≡ true = rw off at is in it)

pub home-of : (m : Group) (x : WaitRow) → is_event x ≡ false → x.port.process ≡ x.process → is_home_wait m x ≡ true
home-of m x off same = rw (off, same) (same-number x.process)

pub home-raised : (m : Group) (x : WaitRow) → is_event x ≡ true → m x.port.process ≡ m x.process → is_home_wait m x ≡ true
home-raised m x on same = rw on (and_from (are_together m x.port.process x.process) true (together-of m x.port.process x.process same) refl)

-- a message's client is the owner of its thread's number
abbrev pub is_sent : List UsedThread → MessageRow → Bool
is_sent used x = passes (first (is_used_thread x.message.header.client.thread) used) (λ u. u.process == x.message.header.client.process)

-- the client of the connect that made a port is a thread of the port's process
abbrev pub is_created : List UsedThread → PortRow → Bool
is_created used p = all_of p.creator (λ by. (by.client.process == p.birth.process) && passes (first (is_used_thread by.client.thread) used) (λ u. u.process == by.client.process))

-- Views of c's are of members' sections, and views of its sections are members'. A view's owner is a port of its process.
abbrev pub is_fair_view : Group → ℕ → ℕ → ViewRow → Bool
is_fair_view m c pid v =
    implies (pid == c) (m v.section.process)
    && (implies (v.section.process == c) (m pid) && all_of v.owner (λ (b : Birth). b.process == pid))

abbrev pub is_fair_space : Group → ℕ → ViewTable → Bool
is_fair_space m c t = every (is_fair_view m c t.process) t.rows

-- a connect offers a section that its process made
abbrev pub is_fair_offer : WaitRow → Bool
is_fair_offer x = all_of (offer_of x) (λ (o : Offer). o.section.process == x.process)

-- a member's event stands in a member's queue; the ports that are told of a process's exceptions are of its side
abbrev pub is_fair_raise : Group → WaitRow → Bool
is_fair_raise m x = implies (is_event x) (implies (m x.process) (m x.queue.process))

abbrev pub is_fair_hearer : Group → ProcessRow → Bool
is_fair_hearer m p = every (λ (b : Birth). are_together m p.number b.process) (event_ports_of p)

pub record Fair (m : Group) (c : ℕ) (w : World) : Type 0 where
  pub tables : every is_fair_table w.handles ≡ true
  pub ports : every (is_fair_port m c) w.ports ≡ true
  pub messages : every (is_fair_message m c) w.messages ≡ true
  pub waits : every (is_fair_wait m c) w.waits ≡ true
  pub threads : every (is_homed w.used_threads) w.threads ≡ true
  pub senders : every (is_sent w.used_threads) w.messages ≡ true
  pub creators : every (is_created w.used_threads) w.ports ≡ true
  pub registrations : every is_fair_thread w.threads ≡ true
  pub processes : every (is_fair_process m) w.processes ≡ true
  pub lives : every (is_fair_life m) w.threads ≡ true
  pub views : every (is_fair_space m c) w.views ≡ true
  pub offers : every is_fair_offer w.waits ≡ true
  pub raised : every (is_fair_raise m) w.waits ≡ true
  pub hearers : every (is_fair_hearer m) w.processes ≡ true

-- what a step must be, so that it stays so
abbrev pub is_server_at : Birth → PortRow → Bool
is_server_at b p = not (is_port b p) || is_server_port p

abbrev pub is_no_server_at : Birth → PortRow → Bool
is_no_server_at b p = not (is_port b p && is_server_port p)

abbrev pub is_fair_step : Group → ℕ → World → Basic → Bool
is_fair_step m c w (Awaits x) = is_fair_wait m c x && (is_fair_offer x && is_fair_raise m x)
is_fair_step m c w (Enters x) = is_fair_message m c x && is_sent w.used_threads x
is_fair_step m c w (Makes p) = is_created w.used_threads p && is_fair_port m c p
is_fair_step m c w (AddsThread t) = not (has (is_used_thread t.number) w.used_threads) && (is_fair_thread t && is_fair_life m t)
is_fair_step m c w (AddsHandle pid h) = is_own pid h
is_fair_step m c w (Joins client server context) =
    implies (m client.process) (m server.process) && (implies (server.process == c) (m client.process)
    && (every (is_no_server_at client) w.ports && every (is_server_at server) w.ports))
is_fair_step m c w (Tells e) = true
is_fair_step m c w (Wakes who call status fields) = true
is_fair_step m c w (Receives who q) = true
is_fair_step m c w (Accepts who reply) = true
is_fair_step m c w (Takes q) = true
is_fair_step m c w (TakesConnect q) = true
is_fair_step m c w (DrawsIdentifier who) = true
is_fair_step m c w (DrawsOrdinal who) = true
is_fair_step m c w (Dies who status) = true
is_fair_step m c w (Registers who b) = passes (first (is_used_thread who) w.used_threads) (λ u. u.process == b.process)
is_fair_step m c w (Unregisters who b) = true
is_fair_step m c w (AddsProcess p) = is_fair_process m p && is_fair_hearer m p
is_fair_step m c w (Completes b) = true
is_fair_step m c w (Withdraws who) = true
is_fair_step m c w (Frees o) = false
is_fair_step m c w (Empties q) = true
is_fair_step m c w (Cuts b) = true
is_fair_step m c w (Unbinds b) = true
is_fair_step m c w (DropsHandle pid value) = true
is_fair_step m c w (Binds path node) = true
is_fair_step m c w (AddsSection s) = true
is_fair_step m c w (Writes b place new) = true
is_fair_step m c w (Maps pid v) = is_fair_view m c pid v
is_fair_step m c w (Unmaps pid base) = true
is_fair_step m c w (DropsViewsOf pid) = true
is_fair_step m c w (DropsOwned b) = true
is_fair_step m c w (Secures b s) = true
is_fair_step m c w (Acts who own) = true
is_fair_step m c w (AddsToken t) = true
is_fair_step m c w (NamesToken n) = true
is_fair_step m c w (Marks who) = true
is_fair_step m c w (Leaves who) = true
is_fair_step m c w (SetsDebug pid b) = are_together m pid b.process
is_fair_step m c w (SetsException pid b) = are_together m pid b.process
is_fair_step m c w (LetsGo pid) = true
is_fair_step m c w (Dooms pid code) = true

-- what changes a row keeps it
accepted-fair : (m : Group) (c : ℕ) (reply : Acceptance) (x : WaitRow) → is_fair_wait m c x ≡ true → is_fair_wait m c (accepted reply x) ≡ true
accepted-fair m c reply x is = at x.kind refl
  where
    at : (k : WaitKind) → x.kind ≡ k → is_fair_wait m c (record x { kind = accepted_as reply x.kind }) ≡ true
    at (Request a) k = rw k (rw k at is)
    at Receive k = rw k (rw k at is)
    at Listen k = rw k (rw k at is)
    at (Connect a offer) k = rw k (rw k at is)
    at (Accepted a b) k = rw k (rw k at is)
    at (Event r) k = rw k (rw k at is)

-- an accepted connect offers nothing any more
pub accepted-offer : (a : Acceptance) (x : WaitRow) → offer_of (accepted a x) ≡ None
accepted-offer a x = at x.kind refl
  where
    at : (k : WaitKind) → x.kind ≡ k → offer_of (record x { kind = accepted_as a x.kind }) ≡ None
    at (Request b) k = rw k refl
    at Receive k = rw k refl
    at Listen k = rw k refl
    at (Connect b offer) k = rw k refl
    at (Accepted b d) k = rw k refl
    at (Event r) k = rw k refl

-- an accepted connect is no event, and an event stays as it is
accepted-raise : (m : Group) (a : Acceptance) (x : WaitRow) → is_fair_raise m x ≡ true → is_fair_raise m (accepted a x) ≡ true
accepted-raise m a x is = at x.kind refl
  where
    at : (k : WaitKind) → x.kind ≡ k → is_fair_raise m (record x { kind = accepted_as a x.kind }) ≡ true
    at (Request b) k = rw k refl
    at Receive k = rw k refl
    at Listen k = rw k refl
    at (Connect b offer) k = rw k refl
    at (Accepted b d) k = rw k refl
    at (Event r) k = rw k (rw k at is)

-- a process whose ports for exceptions change
debugged-hears : (m : Group) (pid : ℕ) (b : Birth) → are_together m pid b.process ≡ true → (p : ProcessRow) → is_fair_hearer m p ≡ true → is_process pid p ≡ true → is_fair_hearer m (debugged b p) ≡ true
debugged-hears m pid b ok p is its =
    let here : are_together m p.number b.process ≡ true = subst (λ n. are_together m n b.process ≡ true) (sym (eqb-true p.number pid its)) ok in
    at p.debug_port is here
  where
    rest : (o : Option Birth) → every (λ (b : Birth). are_together m p.number b.process) (listed o ++ listed p.exception_port) ≡ true → every (λ (b : Birth). are_together m p.number b.process) (listed p.exception_port) ≡ true
    rest None all = all
    rest (Some d) all = second-true (are_together m p.number d.process) _ all

    at : (o : Option Birth) → every (λ (b : Birth). are_together m p.number b.process) (listed o ++ listed p.exception_port) ≡ true → are_together m p.number b.process ≡ true → is_fair_hearer m (debugged b p) ≡ true
    at o all here = and_from _ _ here (rest o all)

excepted-hears : (m : Group) (pid : ℕ) (b : Birth) → are_together m pid b.process ≡ true → (p : ProcessRow) → is_fair_hearer m p ≡ true → is_process pid p ≡ true → is_fair_hearer m (excepted b p) ≡ true
excepted-hears m pid b ok p is its =
    let here : are_together m p.number b.process ≡ true = subst (λ n. are_together m n b.process ≡ true) (sym (eqb-true p.number pid its)) ok in
    at p.debug_port is here
  where
    at : (o : Option Birth) → every (λ (b : Birth). are_together m p.number b.process) (listed o ++ listed p.exception_port) ≡ true → are_together m p.number b.process ≡ true → every (λ (b : Birth). are_together m p.number b.process) (listed o ++ b ∷ []) ≡ true
    at None all here = and_from _ _ here refl
    at (Some d) all here = and_from _ _ (first-true (are_together m p.number d.process) _ all) (and_from _ _ here refl)

with-handle : (pid : ℕ) (h : HandleRow) → is_own pid h ≡ true → (t : HandleTable) → is_fair_table t ≡ true → is_table pid t ≡ true → is_fair_table (with_handle h t) ≡ true
with-handle pid h own t is its =
    let same : t.process ≡ pid = eqb-true _ _ its in
    every-append (is_own t.process) _ _ (every-which (is_own t.process) (λ r. nat_lt r.value h.value) t.rows is)
    (and_from _ _ (rw same own) (every-which (is_own t.process) (λ r. nat_lt h.value r.value) t.rows is))

with-view : (m : Group) (c pid : ℕ) (v : ViewRow) → is_fair_view m c pid v ≡ true → (t : ViewTable) → is_fair_space m c t ≡ true → is_space pid t ≡ true → is_fair_space m c (with_view v t) ≡ true
with-view m c pid v ok t is its = every-push (is_fair_view m c t.process) t.rows v is (subst (λ n. is_fair_view m c n v ≡ true) (sym (eqb-true t.process pid its)) ok)

joined-fair : (m : Group) (c : ℕ) (client server : Birth) (context : ℕ) → implies (m client.process) (m server.process) ≡ true → implies (server.process == c) (m client.process) ≡ true → (p : PortRow) → (is_no_server_at client p && is_server_at server p) ≡ true → is_fair_port m c p ≡ true → is_fair_port m c (joined client server context p) ≡ true
joined-fair m c client server context one two p kinds is = at (is_port client p) (is_port server p) refl refl
  where
    at : (a b : Bool) → is_port client p ≡ a → is_port server p ≡ b → is_fair_port m c (joined client server context p) ≡ true
    at true b here it =
        let same : m p.birth.process ≡ m client.process = of_birth m p.birth client here in
        let kind : is_server_port p ≡ false = grind arith in
        rw here (grind arith)
    at false true here it =
        let same : m p.birth.process ≡ m server.process = of_birth m p.birth server it in
        let same_c : (p.birth.process == c) ≡ (server.process == c) = ap (λ n. n == c) (eqb-true p.birth.process server.process (grind arith)) in
        let kind : is_server_port p ≡ true = grind arith in
        rw (here, it) (grind arith)
    at false false here it = rw (here, it) is

added-home : (us : List UsedThread) (u : UsedThread) (t : ThreadRow) → is_homed us t ≡ true → is_homed (us ++ u ∷ []) t ≡ true
added-home us u t is = at (first (is_used_thread t.number) us) refl is
  where
    at : (o : Option UsedThread) → first (is_used_thread t.number) us ≡ o → passes o (λ u. u.process == t.process) ≡ true → is_homed (us ++ u ∷ []) t ≡ true
    at None none is = absurd (cc)
    at (Some x) some is = rw (first-kept (is_used_thread t.number) us u x some) is

added-sent : (us : List UsedThread) (u : UsedThread) (x : MessageRow) → is_sent us x ≡ true → is_sent (us ++ u ∷ []) x ≡ true
added-sent us u x is = at (first (is_used_thread x.message.header.client.thread) us) refl is
  where
    at : (o : Option UsedThread) → first (is_used_thread x.message.header.client.thread) us ≡ o → passes o (λ u. u.process == x.message.header.client.process) ≡ true → is_sent (us ++ u ∷ []) x ≡ true
    at None none is = absurd (cc)
    at (Some y) some is = rw (first-kept (is_used_thread x.message.header.client.thread) us u y some) is

added-created : (us : List UsedThread) (u : UsedThread) (p : PortRow) → is_created us p ≡ true → is_created (us ++ u ∷ []) p ≡ true
added-created us u p is = at p.creator refl
  where
    at : (o : Option Creator) → p.creator ≡ o → is_created (us ++ u ∷ []) p ≡ true
    at None none = rw none refl
    at (Some by) some = rw some (and_from _ _ (first-true _ _ own) (found (first (is_used_thread by.client.thread) us) refl (second-true (by.client.process == p.birth.process) _ own)))
      where
        own : ((by.client.process == p.birth.process) && passes (first (is_used_thread by.client.thread) us) (λ u. u.process == by.client.process)) ≡ true
        own = rw some at is

        found : (o : Option UsedThread) → first (is_used_thread by.client.thread) us ≡ o → passes o (λ u. u.process == by.client.process) ≡ true → passes (first (is_used_thread by.client.thread) (us ++ u ∷ [])) (λ u. u.process == by.client.process) ≡ true
        found None none is = absurd (cc)
        found (Some x) some is = rw (first-kept (is_used_thread by.client.thread) us u x some) is

joined-created : (us : List UsedThread) (client server : Birth) (context : ℕ) (p : PortRow) → is_created us p ≡ true → is_created us (joined client server context p) ≡ true
joined-created us client server context p is = at (is_port client p) (is_port server p) refl refl
  where
    at : (a b : Bool) → is_port client p ≡ a → is_port server p ≡ b → is_created us (joined client server context p) ≡ true
    at true b here it = rw here is
    at false true here it = rw (here, it) is
    at false false here it = rw (here, it) is

cut-fair : (m : Group) (c : ℕ) (p : PortRow) → is_fair_port m c p ≡ true → is_fair_port m c (cut p) ≡ true
cut-fair m c p is = and_from _ _ (first-true _ _ is) refl

-- the message of an owner
pub owner-sent : (w : World) (x : MessageRow) (pid : ℕ) → owner w x.message.header.client.thread ≡ Some pid → x.message.header.client.process ≡ pid → is_sent w.used_threads x ≡ true
owner-sent w x pid own same = at (first (is_used_thread x.message.header.client.thread) w.used_threads) own
  where
    at : (o : Option UsedThread) → option_map (λ (u : UsedThread). u.process) o ≡ Some pid → passes o (λ u. u.process == x.message.header.client.process) ≡ true
    at None own = absurd (cc)
    at (Some u) own = let its : u.process ≡ x.message.header.client.process = pid-same u own ∙ sym same in rw its (same-number x.message.header.client.process)
      where
        pid-same : (u : UsedThread) → Some u.process ≡ Some pid → u.process ≡ pid
        pid-same u own = cc

-- a thread's number was used for its owner
pub owner-used : (w : World) (tid pid : ℕ) → owner w tid ≡ Some pid → passes (first (is_used_thread tid) w.used_threads) (λ u. u.process == pid) ≡ true
owner-used w tid pid own = at (first (is_used_thread tid) w.used_threads) own
  where
    at : (o : Option UsedThread) → option_map (λ (u : UsedThread). u.process) o ≡ Some pid → passes o (λ u. u.process == pid) ≡ true
    at None own = absurd (cc)
    at (Some u) own = let its : u.process ≡ pid = cc in rw its (same-number pid)

-- and the owner of a message
pub sent-owner : (w : World) (x : MessageRow) → is_sent w.used_threads x ≡ true → owner w x.message.header.client.thread ≡ Some x.message.header.client.process
sent-owner w x is = at (first (is_used_thread x.message.header.client.thread) w.used_threads) is
  where
    at : (o : Option UsedThread) → passes o (λ u. u.process == x.message.header.client.process) ≡ true → option_map (λ (u : UsedThread). u.process) o ≡ Some x.message.header.client.process
    at None is = absurd (cc)
    at (Some u) is = ap (λ p. Some p) (eqb-true _ _ is)

-- a thread whose port is registered is the port's process's
registering-fair : (us : List UsedThread) (who : ℕ) (b : Birth) (t : ThreadRow) → passes (first (is_used_thread who) us) (λ u. u.process == b.process) ≡ true → is_homed us t ≡ true → is_fair_thread t ≡ true → is_thread who t ≡ true → is_fair_thread (registering b t) ≡ true
registering-fair us who b t owned homed fair its =
    let there : passes (first (is_used_thread who) us) (λ u. u.process == t.process) ≡ true = subst (λ n. passes (first (is_used_thread n) us) (λ u. u.process == t.process) ≡ true) (eqb-true _ _ its) homed in
    every-push (λ (d : Birth). d.process == t.process) t.registrations b fair (at (first (is_used_thread who) us) owned there)
  where
    at : (o : Option UsedThread) → passes o (λ u. u.process == b.process) ≡ true → passes o (λ u. u.process == t.process) ≡ true → (b.process == t.process) ≡ true
    at None one two = absurd (cc)
    at (Some u) one two = subst (λ n. (n == t.process) ≡ true) (eqb-true _ _ one) two

-- a step that is fair leaves a fair world
pub keeps-fair : (m : Group) (c : ℕ) (w : World) (b : Basic) → is_fair_step m c w b ≡ true → Fair m c w → Fair m c (basic w b)
keeps-fair m c w (Tells e) ok f = f
keeps-fair m c w (Wakes who call status fields) ok f = record { tables = f.tables; ports = f.ports; messages = f.messages; waits = every-without (is_fair_wait m c) (waits_as who) w.waits f.waits; threads = f.threads; senders = f.senders; creators = f.creators; registrations = f.registrations; processes = f.processes; lives = f.lives; views = f.views; offers = every-without is_fair_offer (waits_as who) w.waits f.offers; raised = every-without (is_fair_raise m) (waits_as who) w.waits f.raised; hearers = f.hearers }
keeps-fair m c w (Awaits x) ok f = record { tables = f.tables; ports = f.ports; messages = f.messages; waits = every-push (is_fair_wait m c) w.waits x f.waits (first-true _ _ ok); threads = f.threads; senders = f.senders; creators = f.creators; registrations = f.registrations; processes = f.processes; lives = f.lives; views = f.views; offers = every-push is_fair_offer w.waits x f.offers (first-true _ _ (second-true (is_fair_wait m c x) _ ok)); raised = every-push (is_fair_raise m) w.waits x f.raised (second-true (is_fair_offer x) _ (second-true (is_fair_wait m c x) _ ok)); hearers = f.hearers }
keeps-fair m c w (Receives who q) ok f = record { tables = f.tables; ports = f.ports; messages = f.messages; waits = every-change (is_fair_wait m c) (waits_at who q) received (λ x is. is) w.waits f.waits; threads = f.threads; senders = f.senders; creators = f.creators; registrations = f.registrations; processes = f.processes; lives = f.lives; views = f.views; offers = every-change is_fair_offer (waits_at who q) received (λ x is. is) w.waits f.offers; raised = every-change (is_fair_raise m) (waits_at who q) received (λ x is. is) w.waits f.raised; hearers = f.hearers }
keeps-fair m c w (Accepts who reply) ok f = record { tables = f.tables; ports = f.ports; messages = f.messages; waits = every-change (is_fair_wait m c) (waits_as who) (accepted reply) (accepted-fair m c reply) w.waits f.waits; threads = f.threads; senders = f.senders; creators = f.creators; registrations = f.registrations; processes = f.processes; lives = f.lives; views = f.views; offers = every-change is_fair_offer (waits_as who) (accepted reply) (λ x is. rw (accepted-offer reply x) refl) w.waits f.offers; raised = every-change (is_fair_raise m) (waits_as who) (accepted reply) (λ x is. accepted-raise m reply x is) w.waits f.raised; hearers = f.hearers }
keeps-fair m c w (Enters x) ok f = record { tables = f.tables; ports = f.ports; messages = every-push (is_fair_message m c) w.messages x f.messages (first-true _ _ ok); waits = f.waits; threads = f.threads; senders = every-push (is_sent w.used_threads) w.messages x f.senders (second-true _ _ ok); creators = f.creators; registrations = f.registrations; processes = f.processes; lives = f.lives; views = f.views; offers = f.offers; raised = f.raised; hearers = f.hearers }
keeps-fair m c w (Takes q) ok f = record { tables = f.tables; ports = f.ports; messages = every-without_first (is_fair_message m c) _ w.messages f.messages; waits = f.waits; threads = f.threads; senders = every-without_first (is_sent w.used_threads) _ w.messages f.senders; creators = f.creators; registrations = f.registrations; processes = f.processes; lives = f.lives; views = f.views; offers = f.offers; raised = f.raised; hearers = f.hearers }
keeps-fair m c w (TakesConnect q) ok f = record { tables = f.tables; ports = f.ports; messages = every-without_first (is_fair_message m c) _ w.messages f.messages; waits = f.waits; threads = f.threads; senders = every-without_first (is_sent w.used_threads) _ w.messages f.senders; creators = f.creators; registrations = f.registrations; processes = f.processes; lives = f.lives; views = f.views; offers = f.offers; raised = f.raised; hearers = f.hearers }
keeps-fair m c w (DrawsIdentifier who) ok f = record { tables = f.tables; ports = f.ports; messages = f.messages; waits = f.waits; threads = every-change (is_homed w.used_threads) (is_thread who) past_identifier (λ t is. is) w.threads f.threads; senders = f.senders; creators = f.creators; registrations = every-change is_fair_thread (is_thread who) past_identifier (λ t is. is) w.threads f.registrations; processes = f.processes; lives = every-change (is_fair_life m) (is_thread who) past_identifier (λ t is. is) w.threads f.lives; views = f.views; offers = f.offers; raised = f.raised; hearers = f.hearers }
keeps-fair m c w (DrawsOrdinal who) ok f = record { tables = f.tables; ports = f.ports; messages = f.messages; waits = f.waits; threads = every-change (is_homed w.used_threads) (is_thread who) past_ordinal (λ t is. is) w.threads f.threads; senders = f.senders; creators = f.creators; registrations = every-change is_fair_thread (is_thread who) past_ordinal (λ t is. is) w.threads f.registrations; processes = f.processes; lives = every-change (is_fair_life m) (is_thread who) past_ordinal (λ t is. is) w.threads f.lives; views = f.views; offers = f.offers; raised = f.raised; hearers = f.hearers }
keeps-fair m c w (Acts who own) ok f = record { tables = f.tables; ports = f.ports; messages = f.messages; waits = f.waits; threads = every-change (is_homed w.used_threads) (is_thread who) (acting own) (λ t is. is) w.threads f.threads; senders = f.senders; creators = f.creators; registrations = every-change is_fair_thread (is_thread who) (acting own) (λ t is. is) w.threads f.registrations; processes = f.processes; lives = every-change (is_fair_life m) (is_thread who) (acting own) (λ t is. is) w.threads f.lives; views = f.views; offers = f.offers; raised = f.raised; hearers = f.hearers }
keeps-fair m c w (Dies who status) ok f = record { tables = f.tables; ports = f.ports; messages = f.messages; waits = every-without (is_fair_wait m c) (waits_as who) w.waits f.waits; threads = every-change (is_homed w.used_threads) (is_thread who) ended (λ t is. is) w.threads f.threads; senders = f.senders; creators = f.creators; registrations = every-change is_fair_thread (is_thread who) ended (λ t is. is) w.threads f.registrations; processes = f.processes; lives = every-change (is_fair_life m) (is_thread who) ended (λ t is. is) w.threads f.lives; views = f.views; offers = every-without is_fair_offer (waits_as who) w.waits f.offers; raised = every-without (is_fair_raise m) (waits_as who) w.waits f.raised; hearers = f.hearers }
keeps-fair m c w (Registers who b) ok f = record {
  views = f.views;
  offers = f.offers;
  raised = f.raised;
  hearers = f.hearers;
  processes = f.processes;
  lives = every-change (is_fair_life m) (is_thread who) (registering b) (λ t is. is) w.threads f.lives;
  tables = f.tables;
  ports = f.ports;
  messages = f.messages;
  waits = f.waits;
  threads = every-change (is_homed w.used_threads) (is_thread who) (registering b) (λ t is. is) w.threads f.threads;
  senders = f.senders;
  creators = f.creators;
  registrations = every-change_to (λ t. is_homed w.used_threads t && is_fair_thread t) is_fair_thread (is_thread who) (registering b) (λ t is its. registering-fair w.used_threads who b t ok (first-true _ _ is) (second-true (is_homed w.used_threads t) _ is) its) (λ t is off. second-true (is_homed w.used_threads t) _ is) w.threads
      (every-both (is_homed w.used_threads) is_fair_thread _ (λ t one two. and_from _ _ one two) w.threads f.threads f.registrations);
}
keeps-fair m c w (Unregisters who b) ok f = record { tables = f.tables; ports = f.ports; messages = f.messages; waits = f.waits; threads = every-change (is_homed w.used_threads) (is_thread who) (unregistering b) (λ t is. is) w.threads f.threads; senders = f.senders; creators = f.creators; registrations = every-change is_fair_thread (is_thread who) (unregistering b) (λ t is. every-without (λ c. c.process == t.process) (same_birth b) t.registrations is) w.threads f.registrations; processes = f.processes; lives = every-change (is_fair_life m) (is_thread who) (unregistering b) (λ t is. is) w.threads f.lives; views = f.views; offers = f.offers; raised = f.raised; hearers = f.hearers }
keeps-fair m c w (AddsProcess p) ok f = record { tables = every-push is_fair_table w.handles (no_handles p.number) f.tables refl; ports = f.ports; messages = f.messages; waits = f.waits; threads = f.threads; senders = f.senders; creators = f.creators; registrations = f.registrations; processes = every-push (is_fair_process m) w.processes p f.processes (first-true _ _ ok); lives = f.lives; views = every-push (is_fair_space m c) w.views (no_views p.number) f.views refl; offers = f.offers; raised = f.raised; hearers = every-push (is_fair_hearer m) w.processes p f.hearers (second-true (is_fair_process m p) _ ok) }
keeps-fair m c w (AddsThread t) ok f = record {
  views = f.views;
  offers = f.offers;
  raised = f.raised;
  hearers = f.hearers;
  processes = f.processes;
  lives = every-push (is_fair_life m) w.threads t f.lives (second-true (is_fair_thread t) _ (second-true (not (has (is_used_thread t.number) w.used_threads)) _ ok));
  tables = f.tables;
  ports = f.ports;
  messages = f.messages;
  waits = f.waits;
  registrations = every-push is_fair_thread w.threads t f.registrations (first-true _ _ (second-true (not (has (is_used_thread t.number) w.used_threads)) _ ok));
  senders = every-more (is_sent w.used_threads) _ (added-sent w.used_threads (used t)) w.messages f.senders;
  creators = every-more (is_created w.used_threads) _ (added-created w.used_threads (used t)) w.ports f.creators;
  threads = every-push (is_homed (w.used_threads ++ used t ∷ [])) w.threads t (every-more (is_homed w.used_threads) _ (added-home w.used_threads (used t)) w.threads f.threads)
      (rw (first-push (is_used_thread t.number) w.used_threads (used t) (grind arith) (same-number t.number)) (same-number t.process));
}
keeps-fair m c w (Makes p) ok f = record { tables = f.tables; ports = every-push (is_fair_port m c) w.ports p f.ports (second-true _ _ ok); messages = f.messages; waits = f.waits; threads = f.threads; senders = f.senders; creators = every-push (is_created w.used_threads) w.ports p f.creators (first-true _ _ ok); registrations = f.registrations; processes = f.processes; lives = f.lives; views = f.views; offers = f.offers; raised = f.raised; hearers = f.hearers }
keeps-fair m c w (Joins client server context) ok f = record {
  views = f.views;
  offers = f.offers;
  raised = f.raised;
  hearers = f.hearers;
  processes = f.processes;
  lives = f.lives;
  tables = f.tables;
  messages = f.messages;
  waits = f.waits;
  threads = f.threads;
  senders = f.senders;
  registrations = f.registrations;
  creators = rw (every-map (is_created w.used_threads) (joined client server context) w.ports) (every-more (is_created w.used_threads) _ (joined-created w.used_threads client server context) w.ports f.creators);
  ports = rw (every-map (is_fair_port m c) (joined client server context) w.ports)
      (every-both (λ p. is_no_server_at client p && is_server_at server p) (is_fair_port m c) _ (joined-fair m c client server context (grind arith) (grind arith)) w.ports
      (every-both (is_no_server_at client) (is_server_at server) _ (λ p a b. and_from _ _ a b) w.ports (grind arith) (grind arith)) f.ports);
}
keeps-fair m c w (Completes b) ok f = record { tables = f.tables; ports = every-change (is_fair_port m c) (is_port b) completed (λ p is. is) w.ports f.ports; messages = f.messages; waits = f.waits; threads = f.threads; senders = f.senders; creators = every-change (is_created w.used_threads) (is_port b) completed (λ p is. is) w.ports f.creators; registrations = f.registrations; processes = f.processes; lives = f.lives; views = f.views; offers = f.offers; raised = f.raised; hearers = f.hearers }
keeps-fair m c w (Secures b s) ok f = record { tables = f.tables; ports = every-change (is_fair_port m c) (is_port b) (secured s) (λ p is. is) w.ports f.ports; messages = f.messages; waits = f.waits; threads = f.threads; senders = f.senders; creators = every-change (is_created w.used_threads) (is_port b) (secured s) (λ p is. is) w.ports f.creators; registrations = f.registrations; processes = f.processes; lives = f.lives; views = f.views; offers = f.offers; raised = f.raised; hearers = f.hearers }
keeps-fair m c w (Withdraws who) ok f = record { tables = f.tables; ports = f.ports; messages = every-without (is_fair_message m c) (is_own_of who) w.messages f.messages; waits = f.waits; threads = f.threads; senders = every-without (is_sent w.used_threads) (is_own_of who) w.messages f.senders; creators = f.creators; registrations = f.registrations; processes = f.processes; lives = f.lives; views = f.views; offers = f.offers; raised = f.raised; hearers = f.hearers }
keeps-fair m c w (Frees o) ok f = absurd (cc)
keeps-fair m c w (Binds path node) ok f = record { tables = f.tables; ports = f.ports; messages = f.messages; waits = f.waits; threads = f.threads; senders = f.senders; creators = f.creators; registrations = f.registrations; processes = f.processes; lives = f.lives; views = f.views; offers = f.offers; raised = f.raised; hearers = f.hearers }
keeps-fair m c w (AddsHandle pid h) ok f = record { tables = every-change_to is_fair_table is_fair_table (is_table pid) (with_handle h) (λ t is its. with-handle pid h ok t is its) (λ t is off. is) w.handles f.tables; ports = f.ports; messages = f.messages; waits = f.waits; threads = f.threads; senders = f.senders; creators = f.creators; registrations = f.registrations; processes = f.processes; lives = f.lives; views = f.views; offers = f.offers; raised = f.raised; hearers = f.hearers }
keeps-fair m c w (Empties q) ok f = record { tables = f.tables; ports = f.ports; messages = every-without (is_fair_message m c) (is_queued q) w.messages f.messages; waits = f.waits; threads = f.threads; senders = every-without (is_sent w.used_threads) (is_queued q) w.messages f.senders; creators = f.creators; registrations = f.registrations; processes = f.processes; lives = f.lives; views = f.views; offers = f.offers; raised = f.raised; hearers = f.hearers }
keeps-fair m c w (Cuts b) ok f = record { tables = f.tables; ports = every-change (is_fair_port m c) (is_end_of b) cut (cut-fair m c) w.ports f.ports; messages = f.messages; waits = f.waits; threads = f.threads; senders = f.senders; creators = every-change (is_created w.used_threads) (is_end_of b) cut (λ p is. is) w.ports f.creators; registrations = f.registrations; processes = f.processes; lives = f.lives; views = f.views; offers = f.offers; raised = f.raised; hearers = f.hearers }
keeps-fair m c w (Unbinds b) ok f = record { tables = f.tables; ports = f.ports; messages = f.messages; waits = f.waits; threads = f.threads; senders = f.senders; creators = f.creators; registrations = f.registrations; processes = f.processes; lives = f.lives; views = f.views; offers = f.offers; raised = f.raised; hearers = f.hearers }
keeps-fair m c w (DropsHandle pid value) ok f = record { tables = every-change is_fair_table (is_table pid) (without_handle value) (λ t is. every-without_first (is_own t.process) (has_value value) t.rows is) w.handles f.tables; ports = f.ports; messages = f.messages; waits = f.waits; threads = f.threads; senders = f.senders; creators = f.creators; registrations = f.registrations; processes = f.processes; lives = f.lives; views = f.views; offers = f.offers; raised = f.raised; hearers = f.hearers }
keeps-fair m c w (AddsSection s) ok f = record { tables = f.tables; ports = f.ports; messages = f.messages; waits = f.waits; threads = f.threads; senders = f.senders; creators = f.creators; registrations = f.registrations; processes = f.processes; lives = f.lives; views = f.views; offers = f.offers; raised = f.raised; hearers = f.hearers }
keeps-fair m c w (Writes b place new) ok f = record { tables = f.tables; ports = f.ports; messages = f.messages; waits = f.waits; threads = f.threads; senders = f.senders; creators = f.creators; registrations = f.registrations; processes = f.processes; lives = f.lives; views = f.views; offers = f.offers; raised = f.raised; hearers = f.hearers }
keeps-fair m c w (NamesToken n) ok f = record { tables = f.tables; ports = f.ports; messages = f.messages; waits = f.waits; threads = f.threads; senders = f.senders; creators = f.creators; registrations = f.registrations; processes = f.processes; lives = f.lives; views = f.views; offers = f.offers; raised = f.raised; hearers = f.hearers }
keeps-fair m c w (AddsToken t) ok f = record { tables = f.tables; ports = f.ports; messages = f.messages; waits = f.waits; threads = f.threads; senders = f.senders; creators = f.creators; registrations = f.registrations; processes = f.processes; lives = f.lives; views = f.views; offers = f.offers; raised = f.raised; hearers = f.hearers }
keeps-fair m c w (Maps pid v) ok f = record { tables = f.tables; ports = f.ports; messages = f.messages; waits = f.waits; threads = f.threads; senders = f.senders; creators = f.creators; registrations = f.registrations; processes = f.processes; lives = f.lives; views = every-change_to (is_fair_space m c) (is_fair_space m c) (is_space pid) (with_view v) (λ t is its. with-view m c pid v ok t is its) (λ t is off. is) w.views f.views; offers = f.offers; raised = f.raised; hearers = f.hearers }
keeps-fair m c w (Unmaps pid base) ok f = record { tables = f.tables; ports = f.ports; messages = f.messages; waits = f.waits; threads = f.threads; senders = f.senders; creators = f.creators; registrations = f.registrations; processes = f.processes; lives = f.lives; views = every-change (is_fair_space m c) (is_space pid) (without_view base) (λ t is. every-without (is_fair_view m c t.process) (lies_at base) t.rows is) w.views f.views; offers = f.offers; raised = f.raised; hearers = f.hearers }
keeps-fair m c w (DropsViewsOf pid) ok f = record { tables = f.tables; ports = f.ports; messages = f.messages; waits = f.waits; threads = f.threads; senders = f.senders; creators = f.creators; registrations = f.registrations; processes = f.processes; lives = f.lives; views = every-change (is_fair_space m c) (is_space pid) without_views (λ t is. refl) w.views f.views; offers = f.offers; raised = f.raised; hearers = f.hearers }
keeps-fair m c w (DropsOwned b) ok f = record { tables = f.tables; ports = f.ports; messages = f.messages; waits = f.waits; threads = f.threads; senders = f.senders; creators = f.creators; registrations = f.registrations; processes = f.processes; lives = f.lives; views = every-mapped (is_fair_space m c) (without_owned b) (λ t is. every-without (is_fair_view m c t.process) (is_owned_by b) t.rows is) w.views f.views; offers = f.offers; raised = f.raised; hearers = f.hearers }
keeps-fair m c w (Marks who) ok f = record { tables = f.tables; ports = f.ports; messages = f.messages; threads = f.threads; senders = f.senders; creators = f.creators; registrations = f.registrations; lives = f.lives; views = f.views; offers = f.offers; waits = f.waits; processes = f.processes; raised = f.raised; hearers = f.hearers }
keeps-fair m c w (Leaves who) ok f = record { tables = f.tables; ports = f.ports; messages = f.messages; waits = every-without (is_fair_wait m c) (waits_as who) w.waits f.waits; threads = f.threads; senders = f.senders; creators = f.creators; registrations = f.registrations; processes = f.processes; lives = f.lives; views = f.views; offers = every-without is_fair_offer (waits_as who) w.waits f.offers; raised = every-without (is_fair_raise m) (waits_as who) w.waits f.raised; hearers = f.hearers }
keeps-fair m c w (SetsDebug pid b) ok f = record { tables = f.tables; ports = f.ports; messages = f.messages; threads = f.threads; senders = f.senders; creators = f.creators; registrations = f.registrations; lives = f.lives; views = f.views; offers = f.offers; waits = f.waits; processes = every-change (is_fair_process m) (is_process pid) (debugged b) (λ p is. is) w.processes f.processes; raised = f.raised; hearers = every-change_to (is_fair_hearer m) (is_fair_hearer m) (is_process pid) (debugged b) (λ p is its. debugged-hears m pid b ok p is its) (λ p is off. is) w.processes f.hearers }
keeps-fair m c w (SetsException pid b) ok f = record { tables = f.tables; ports = f.ports; messages = f.messages; threads = f.threads; senders = f.senders; creators = f.creators; registrations = f.registrations; lives = f.lives; views = f.views; offers = f.offers; waits = f.waits; processes = every-change (is_fair_process m) (is_process pid) (excepted b) (λ p is. is) w.processes f.processes; raised = f.raised; hearers = every-change_to (is_fair_hearer m) (is_fair_hearer m) (is_process pid) (excepted b) (λ p is its. excepted-hears m pid b ok p is its) (λ p is off. is) w.processes f.hearers }
keeps-fair m c w (LetsGo pid) ok f = record { tables = f.tables; ports = f.ports; messages = f.messages; threads = f.threads; senders = f.senders; creators = f.creators; registrations = f.registrations; lives = f.lives; views = f.views; offers = f.offers; waits = f.waits; processes = every-change (is_fair_process m) (is_process pid) portless (λ p is. is) w.processes f.processes; raised = f.raised; hearers = every-change (is_fair_hearer m) (is_process pid) portless (λ p is. refl) w.processes f.hearers }
keeps-fair m c w (Dooms pid code) ok f = record { tables = f.tables; ports = f.ports; messages = f.messages; threads = f.threads; senders = f.senders; creators = f.creators; registrations = f.registrations; lives = f.lives; views = f.views; offers = f.offers; waits = f.waits; processes = every-change (is_fair_process m) (is_process pid) (doomed code) (λ p is. is) w.processes f.processes; raised = f.raised; hearers = every-change (is_fair_hearer m) (is_process pid) (doomed code) (λ p is. is) w.processes f.hearers }

-- the views of one process
pub views-fair : (m : Group) (c : ℕ) (w : World) (pid : ℕ) → Fair m c w → every (is_fair_view m c pid) (views_of w pid) ≡ true
views-fair m c w pid f = at (first (is_space pid) w.views) refl
  where
    at : (o : Option ViewTable) → first (is_space pid) w.views ≡ o → every (is_fair_view m c pid) (views_in o) ≡ true
    at None none = refl
    at (Some t) some = subst (λ n. every (is_fair_view m c n) t.rows ≡ true) (eqb-true t.process pid (first-passes (is_space pid) w.views t some)) (every-first (is_fair_space m c) (is_space pid) w.views t f.views some)

abbrev pub are_fair : Group → ℕ → World → List Basic → Bool
are_fair m c w [] = true
are_fair m c w (b ∷ bs) = is_fair_step m c w b && are_fair m c (basic w b) bs

pub run-fair : (m : Group) (c : ℕ) (w : World) (bs : List Basic) → are_fair m c w bs ≡ true → Fair m c w → Fair m c (world_after w bs)
run-fair m c w [] ok f = f
run-fair m c w (b ∷ bs) ok f = run-fair m c (basic w b) bs (second-true _ _ ok) (keeps-fair m c w b (first-true _ _ ok) f)

pub fair-append : (m : Group) (c : ℕ) (w : World) (bs cs : List Basic) → are_fair m c w bs ≡ true → are_fair m c (world_after w bs) cs ≡ true → are_fair m c w (bs ++ cs) ≡ true
fair-append m c w [] cs one two = two
fair-append m c w (b ∷ bs) cs one two = and_from _ _ (first-true _ _ one) (fair-append m c (basic w b) bs cs (second-true _ _ one) two)
