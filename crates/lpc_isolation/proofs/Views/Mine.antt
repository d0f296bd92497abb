-- What the tests of c's own calls find: the same in the view as in the world.
use Rattle.std.proofs.Common.{◌≡◌, ℕ, List, Bool, true, false, cond, not, length, Option, Some, None, refl, ap, sym, subst, ◌∙◌, arith}
use Rattle.std.specs.Prelude.{◌&&◌, ◌||◌, ◌==◌, Result, Ok, Err, is_none, is_some, nat_lt, option_and_then, option_map}
use Rattle.std.proofs.lemmas.Bool.{and_from, eqb-true, not-false}
use Rattle.lpc_base.specs.Rows.{every, passes}
use Rattle.lpc_base.proofs.RowMaps.{every-both, every-first}
use Rattle.lpc_base.proofs.Bools.{first-true, or-second, second-true}
use Rattle.lpc_base.specs.declared.status.Status.{Status}
use Rattle.lpc_base.specs.declared.status.TheConstants.{INVALID_CID, INVALID_PARAMETER, PORT_MESSAGE_TOO_LONG, REPLY_MESSAGE_MISMATCH}
use Rattle.lpc_base.specs.declared.limits.TheConstants.{HEADER_SIZE, MESSAGE_LIMIT}
use Rattle.lpc_message.specs.Layout.{are_sizes_right, fault_of, header_of, is_table_right}
use Rattle.lpc_message.specs.declared.message.Shape.TheVariants.{Ranges, Short, Sizes}
use Rattle.lpc_model.specs.Message.{message_of, message_test}
use Rattle.lpc_message.specs.declared.message.ClientId.{ClientId}
use Rattle.lpc_model.specs.declared.message.Message.{Message}
use Rattle.lpc_model.specs.Then.{◌>>=◌}
use Rattle.lpc_model.specs.Refusal.{found_or, refuse_if}
use Rattle.lpc_model.specs.World.{Birth, PortRow, ThreadRow, WaitRow, World}
use Rattle.lpc_model.specs.Found.{fits, fitted, is_live_thread, is_port, is_asking, is_the, live_thread, pair_of, port_row, same_birth}
use Rattle.lpc_model.specs.Request.{reply_test, nt_reply_port}
use Rattle.lpc_model.specs.Tests.{client_test, fit_test, is_client, port_test}
use Rattle.lpc_model.proofs.Calls.Holding.{Holds, holds-more, holds_ok, not_refused}
use Rattle.lpc_model.proofs.Sound.Reply.{fits-asking}
use Rattle.lpc_model.specs.Circle.{Group, is_no_outsider, is_no_outsiders_thread, names_no_outsider, owner}
use Rattle.lpc_isolation.proofs.Views.Filters.{first-agree, first-none_kept}
use Rattle.lpc_isolation.proofs.Views.View.{of_birth, our_thread, our_wait, seen_pair, seen_port, view}
use Rattle.lpc_isolation.proofs.Rows.Fair.{Fair, implies, is_fair_port, is_fair_wait, port-side}
use Rattle.lpc_isolation.proofs.Views.Seen.{bind-same, c-port, live-owner, live-view, port-own, port-view, port_test-view, result_map}

map-same : {A : Type 0} (f : A → A) (r : Result A Status) → Holds (λ x. f x ≡ x) r → result_map f r ≡ r
map-same f (Ok x) same = rw same refl
map-same f (Err s) same = refl

-- a port that a handle of c's names
pub c-port_test : (m : Group) (c : ℕ) (w : World) (by : ThreadRow) (value : ℕ) → m c ≡ true → by.process ≡ c → Fair m c w → port_test (view m w) by value ≡ port_test w by value
c-port_test m c w by value c_in mine f =
    port_test-view m c w by value f (ap m mine ∙ c_in)
    ∙ map-same (seen_port m) (port_test w by value) (holds-more (λ (p : PortRow). (p.birth.process ≡ by.process) × (port_row w p.birth ≡ Some p)) (λ (p : PortRow). seen_port m p ≡ p) (port_test w by value)
    (λ p h. c-port m c p c_in (h.0 ∙ mine) (every-first (is_fair_port m c) (is_port p.birth) w.ports p f.ports h.1)) (port-own m c w by value f))

-- a thread that is no outsider's
pub c-live : (m : Group) (c : ℕ) (w : World) (tid : ℕ) → Fair m c w → is_no_outsiders_thread m w tid ≡ true → live_thread (view m w) tid ≡ live_thread w tid
c-live m c w tid f inside = at (live_thread w tid) refl
  where
    at : (o : Option ThreadRow) → live_thread w tid ≡ o → live_thread (view m w) tid ≡ live_thread w tid
    at None none = first-none_kept (our_thread m) (is_live_thread tid) w.threads none ∙ sym none
    at (Some t) some =
        let own : owner w tid ≡ Some t.process = live-owner m c w tid t f some in
        let is : m t.process ≡ true = member t own inside in
        live-view m c w tid t.process f own is
      where
        member : (t : ThreadRow) → owner w tid ≡ Some t.process → is_no_outsiders_thread m w tid ≡ true → m t.process ≡ true
        member t own inside = rw own at inside

pub c-client : (m : Group) (c : ℕ) (w : World) (client : ClientId) → Fair m c w → is_no_outsiders_thread m w client.thread ≡ true → is_client (view m w) client ≡ is_client w client
c-client m c w client f inside = ap (λ o. passes o (λ (t : ThreadRow). t.process == client.process)) (c-live m c w client.thread f inside)

-- a client that lives, and is no outsider, is a member
pub client-member : (m : Group) (c : ℕ) (w : World) (client : ClientId) → Fair m c w → is_no_outsiders_thread m w client.thread ≡ true → is_client w client ≡ true → m client.process ≡ true
client-member m c w client f inside is = at (live_thread w client.thread) refl is
  where
    at : (o : Option ThreadRow) → live_thread w client.thread ≡ o → passes o (λ (t : ThreadRow). t.process == client.process) ≡ true → m client.process ≡ true
    at None none is = absurd (cc)
    at (Some t) some is =
        let own : owner w client.thread ≡ Some t.process = live-owner m c w client.thread t f some in
        let t_in : m t.process ≡ true = rw own at inside in
        sym (ap m (eqb-true _ _ is)) ∙ t_in

-- the pair of a member's port, where it is a member's
pub pair-view : (m : Group) (w : World) (b : Birth) → m b.process ≡ true → pair_of (view m w) b ≡ seen_pair m (pair_of w b)
pair-view m w b is = ap (option_and_then (λ (p : PortRow). p.pair)) (port-view m w b is) ∙ at (port_row w b)
  where
    at : (o : Option PortRow) → option_and_then (λ (p : PortRow). p.pair) (option_map (seen_port m) o) ≡ seen_pair m (option_and_then (λ (p : PortRow). p.pair) o)
    at None = refl
    at (Some p) = refl

pub the-seen : (m : Group) (port : Birth) (o : Option Birth) → m port.process ≡ true → is_the port (seen_pair m o) ≡ is_the port o
the-seen m port None is = refl
the-seen m port (Some q) is = at (m q.process) (same_birth port q) refl refl
  where
    at : (a b : Bool) → m q.process ≡ a → same_birth port q ≡ b → is_the port (cond a (Some q) None) ≡ is_the port (Some q)
    at true b q_in its = refl
    at false true q_in its = let k : m port.process ≡ m q.process = of_birth m port q its in absurd (cc)
    at false false q_in its = sym its

-- a request of a member goes to a member, or to the other end of the port on which it was sent, unless that is cut off
abbrev pub is_way : Group → World → WaitRow → Bool
is_way m w x =
    implies (is_asking x && m x.process) (m x.queue.process || (is_none (pair_of w x.port) || is_the x.queue (pair_of w x.port)))

abbrev pub Ways : Group → World → Type 0
Ways m w = every (is_way m w) w.waits ≡ true

-- through a member's port a member's message fits the same waits
same-pairs : (m : Group) (c : ℕ) (w : World) (port : Birth) (a : Message) (x : WaitRow) → is_fair_wait m c x ≡ true → m port.process ≡ true → m x.process ≡ true → fits (view m w) port a x ≡ fits w port a x
same-pairs m c w port a x fair port_in x_in =
    let own : m x.port.process ≡ true = port-side m x (first-true _ _ fair) ∙ x_in in
    let same : is_the port (pair_of (view m w) x.port) ≡ is_the port (pair_of w x.port) = ap (is_the port) (pair-view m w x.port own) ∙ the-seen m port (pair_of w x.port) port_in in
    rw same refl

last-of : (a b c d e f : Bool) → (a && (b && (c && (d && (e && f))))) ≡ true → f ≡ true
last-of a b c d e f is = grind arith

pub fit-parts : (w : World) (port : Birth) (a : Message) (x : WaitRow) → fits w port a x ≡ true → (same_birth x.queue port || is_the port (pair_of w x.port)) ≡ true
fit-parts w port a x is = last-of (x.thread == a.header.client.thread) (x.process == a.header.client.process) (x.identifier == a.header.message_id) (is_asking x) x.received _ is

second-of : (a b c d e f : Bool) → (a && (b && (c && (d && (e && f))))) ≡ true → b ≡ true
second-of a b c d e f is = grind arith

pub fit-process : (w : World) (port : Birth) (a : Message) (x : WaitRow) → fits w port a x ≡ true → (x.process == a.header.client.process) ≡ true
fit-process w port a x is = second-of (x.thread == a.header.client.thread) (x.process == a.header.client.process) (x.identifier == a.header.message_id) (is_asking x) x.received (same_birth x.queue port || is_the port (pair_of w x.port)) is

two-the : (m : Group) (a b : Birth) (o : Option Birth) → is_the a o ≡ true → is_the b o ≡ true → m a.process ≡ m b.process
two-the m a b None one two = absurd (cc)
two-the m a b (Some q) one two = of_birth m a q one ∙ sym (of_birth m b q two)

fit-queue : (m : Group) (w : World) (port : Birth) (a : Message) (x : WaitRow) → is_way m w x ≡ true → m port.process ≡ true → m x.process ≡ true → fits w port a x ≡ true → m x.queue.process ≡ true
fit-queue m w port a x way port_in x_in is = at (same_birth x.queue port) (m x.queue.process) refl refl
  where
    request : is_asking x ≡ true
    request = fits-asking w port a x is

    last : (same_birth x.queue port || is_the port (pair_of w x.port)) ≡ true
    last = fit-parts w port a x is

    at : (b q : Bool) → same_birth x.queue port ≡ b → m x.queue.process ≡ q → q ≡ true
    at true q here is = sym is ∙ of_birth m x.queue port here ∙ port_in
    at false true here is = refl
    at false false here is =
        let there : is_the port (pair_of w x.port) ≡ true = or-second (same_birth x.queue port) (is_the port (pair_of w x.port)) here last in
        let to : is_the x.queue (pair_of w x.port) ≡ true = way-to (is_asking x) (m x.process) (m x.queue.process) (is_none (pair_of w x.port)) (is_the x.queue (pair_of w x.port)) request x_in is (the-some port (pair_of w x.port) there) way in
        sym is ∙ two-the m x.queue port (pair_of w x.port) to there ∙ port_in
      where
        way-to : (a b c n d : Bool) → a ≡ true → b ≡ true → c ≡ false → n ≡ false → implies (a && b) (c || (n || d)) ≡ true → d ≡ true
        way-to a b c n d one two off some is = grind arith

        the-some : (b : Birth) (o : Option Birth) → is_the b o ≡ true → is_none o ≡ false
        the-some b None is = absurd (cc)
        the-some b (Some q) is = refl

off-and : (b : Bool) → false ≡ (b && false)
off-and true = refl
off-and false = refl

agree : (m : Group) (c : ℕ) (w : World) (port : Birth) (a : Message) → m port.process ≡ true → m a.header.client.process ≡ true → (x : WaitRow) → (is_fair_wait m c x && is_way m w x) ≡ true → fits w port a x ≡ (our_wait m x && fits (view m w) port a x)
agree m c w port a port_in client_in x ok = at (fits w port a x) (m x.process) refl refl
  where
    at : (b p : Bool) → fits w port a x ≡ b → m x.process ≡ p → b ≡ ((p && m x.queue.process) && fits (view m w) port a x)
    at true p is x_is =
        let x_in : m x.process ≡ true = ap m (eqb-true _ _ (fit-process w port a x is)) ∙ client_in in
        let q_in : m x.queue.process ≡ true = fit-queue m w port a x (second-true _ _ ok) port_in x_in is in
        let p_in : p ≡ true = sym x_is ∙ x_in in
        rw (p_in, q_in, same-pairs m c w port a x (first-true _ _ ok) port_in x_in, is) refl
    at false true off x_in = rw (same-pairs m c w port a x (first-true _ _ ok) port_in x_in, off) (off-and (m x.queue.process))
    at false false off x_out = refl

pub c-fitted : (m : Group) (c : ℕ) (w : World) (port : Birth) (a : Message) → Fair m c w → Ways m w → m port.process ≡ true → m a.header.client.process ≡ true → fitted (view m w) port a ≡ fitted w port a
c-fitted m c w port a f ways port_in client_in =
    first-agree (λ x. is_fair_wait m c x && is_way m w x) (our_wait m) (fits w port a) (fits (view m w) port a) (agree m c w port a port_in client_in) w.waits
    (every-both (is_fair_wait m c) (is_way m w) _ (λ x one two. and_from _ _ one two) w.waits f.waits ways)

-- the answer of a message of c's
pub c-answered : (m : Group) (c : ℕ) (w : World) (port : PortRow) (a : Message) → Fair m c w → Ways m w → m port.birth.process ≡ true → is_no_outsiders_thread m w a.header.client.thread ≡ true → reply_test (view m w) port a ≡ reply_test w port a
c-answered m c w port a f ways port_in inside =
    ap (λ b. refuse_if (not b) INVALID_CID >>= (λ u. fit_test (view m w) port.birth a)) (c-client m c w a.header.client f inside)
    ∙ bind-same (client_test w a.header.client) (λ u. fit_test (view m w) port.birth a) (λ u. fit_test w port.birth a) (λ u is.
    let client : is_client w a.header.client ≡ true = not-false (is_client w a.header.client) (not_refused (not (is_client w a.header.client)) INVALID_CID u is) in
    ap (λ o. found_or o REPLY_MESSAGE_MISMATCH) (c-fitted m c w port.birth a f ways port_in (client-member m c w a.header.client f inside client)))

-- the client that a message of c's names is no outsider
long-enough : (bytes : List ℕ) → is_some (fault_of bytes) ≡ false → nat_lt (length bytes) HEADER_SIZE ≡ false
long-enough bytes none = at (nat_lt (length bytes) 24) refl none
  where
    at : (b : Bool) → nat_lt (length bytes) 24 ≡ b → is_some (cond b (Some Short) (cond (not (are_sizes_right bytes)) (Some Sizes) (cond (not (is_table_right bytes)) (Some Ranges) None))) ≡ false → b ≡ false
    at true is none = absurd (cc)
    at false is none = refl

either : (a b c : Bool) → a ≡ false → (a || (b && c)) ≡ true → c ≡ true
either a b c off is = grind arith

pub message-names : (m : Group) (w : World) (bytes : List ℕ) (a : Message) → message_test bytes ≡ Ok a → names_no_outsider m w bytes ≡ true → is_no_outsiders_thread m w a.header.client.thread ≡ true
unfolding message_test
message-names m w bytes a is inside = at (is_some (fault_of bytes)) (nat_lt MESSAGE_LIMIT (header_of bytes).message_size) refl is
  where
    at : (b s : Bool) → is_some (fault_of bytes) ≡ b → (refuse_if b INVALID_PARAMETER >>= (λ u. refuse_if s PORT_MESSAGE_TOO_LONG >>= (λ u. Ok (message_of bytes)))) ≡ Ok a → is_no_outsiders_thread m w a.header.client.thread ≡ true
    at true s none is = absurd (cc)
    at false true none is = absurd (cc)
    at false false none is =
        let same : message_of bytes ≡ a = cc in
        subst (λ (a : Message). is_no_outsiders_thread m w a.header.client.thread ≡ true) same
        (either (nat_lt (length bytes) HEADER_SIZE) (is_no_outsider m w (header_of bytes).client.process) (is_no_outsiders_thread m w (header_of bytes).client.thread) (long-enough bytes none) inside)

-- NtReplyPort of c
pub c-reply : (m : Group) (c : ℕ) (w : World) (by : ThreadRow) (handle : ℕ) (bytes : List ℕ) → m c ≡ true → by.process ≡ c → Fair m c w → Ways m w → names_no_outsider m w bytes ≡ true → nt_reply_port (view m w) by handle bytes ≡ nt_reply_port w by handle bytes
unfolding nt_reply_port
c-reply m c w by handle bytes c_in mine f ways inside =
    rw (c-port_test m c w by handle c_in mine f) (bind-same (port_test w by handle) _ _ (λ p at.
    bind-same (message_test bytes) _ _ (λ a is.
    let p_in : m p.birth.process ≡ true = ap m ((holds_ok _ (port_test w by handle) p (port-own m c w by handle f) at).0 ∙ mine) ∙ c_in in
    rw (c-answered m c w p a f ways p_in (message-names m w bytes a is inside)) refl)))
