-- NtAcceptConnectPort in a view.
use Rattle.std.proofs.Common.{◌≡◌, ℕ, List, [], ◌∷◌, ◌++◌, Bool, true, false, cond, map, not, Option, Some, None, refl, ap, sym, subst, ◌∙◌, arith}
use Rattle.std.specs.Prelude.{◌&&◌, ◌||◌, ◌==◌, Ok, nat_lt, option_and_then, option_map}
use Rattle.std.proofs.lemmas.Bool.{and_from, eqb-true, or_left}
use Rattle.std.proofs.lemmas.Bool.Decides.{nat_tests}
use Rattle.std.proofs.Math.Bool.{or-true}
use Rattle.lpc_base.specs.Rows.{every, first, given, has}
use Rattle.lpc_base.proofs.RowWords.{every-more, every-push, first-passes}
use Rattle.lpc_base.proofs.RowMaps.{every-first}
use Rattle.lpc_base.proofs.Bools.{first-true, same-number}
use Rattle.lpc_base.proofs.Births.{birth-same, birth-self}
use Rattle.lpc_base.specs.declared.status.TheConstants.{PORT_CONNECTION_REFUSED, REPLY_MESSAGE_MISMATCH}
use Rattle.lpc_model.specs.declared.message.Message.{Message}
use Rattle.lpc_model.specs.Message.{message_test}
use Rattle.lpc_model.specs.Fields.{info}
use Rattle.lpc_model.specs.Refusal.{found_or}
use Rattle.lpc_model.specs.World.{Birth, HandleTable, Offer, PortRow, ThreadRow, ViewRow, WaitKind, WaitRow, World, Connect, Event}
use Rattle.lpc_model.specs.Found.{free_handle, offer_of, wait_of, is_connect, is_offered, is_port, is_server_port, is_table, names_port, names_wait, port_name, rows_in, same_birth, waits_as, is_event}
use Rattle.lpc_model.specs.Basics.{Accepts, AddsHandle, Basic, DrawsOrdinal, Makes, entries_of, joined, world_after, DropsOwned, basic}
use Rattle.lpc_model.specs.Connect.{ConnectAnswer, accept_start, accept_steps, shared_fields, answer_test, names_connect, nt_accept_connect_port, reaches, refuse_steps, server_port}
use Rattle.lpc_model.specs.SoundWaits.{is_connect_on, is_past, can_stay_as, can_stay_sound}
use Rattle.lpc_model.specs.Entering.{woken}
use Rattle.lpc_model.specs.Tests.{PORT_ACCESS, client_test, handle_row, handles_test, next_birth}
use Rattle.lpc_model.proofs.Calls.Holding.{Holds, bind_holds, found_ok, holds_ok}
use Rattle.lpc_model.specs.Circle.{Group, Whose, names_no_outsider}
use Rattle.lpc_isolation.proofs.Views.Filters.{first-kept, first-where, shown, shown-push}
use Rattle.lpc_isolation.proofs.Views.View.{our_port, our_wait, seen_port, seen_view, view}
use Rattle.lpc_isolation.proofs.Views.Basics.{are_ours, basic-unseen, joins-new, ours-append, run-ours}
use Rattle.lpc_isolation.proofs.Rows.Fair.{Fair, are_fair, fair-append, implies, is_fair_offer, is_fair_port, is_fair_table, is_fair_wait, is_no_server_at, is_server_at, port-home}
use Rattle.lpc_isolation.proofs.Rows.Clients.{no-servers}
use Rattle.lpc_isolation.proofs.Views.Seen.{bind-same, free-view, handles-view, named-own}
use Rattle.lpc_isolation.proofs.Views.Apart.{apart-append, are_apart, end-apart, is_owned, wait-gone}
use Rattle.lpc_isolation.proofs.Views.Callers.{Led, handles_test-view, led-same, on_ok, unseen-thread, unseen-owned}
use Rattle.lpc_isolation.proofs.Each.Reply.{once-first, wake-not-c}
use Rattle.lpc_isolation.proofs.Views.Mine.{c-client, message-names}
use Rattle.lpc_isolation.proofs.Each.Completes.{out-other}
use Rattle.lpc_isolation.proofs.Each.Sends.{Caller}
use Rattle.lpc_isolation.proofs.Each.Listens.{own_entry}
use Rattle.lpc_isolation.proofs.Each.Shared.{AreFrom, IsFrom, mapped-ours, mapped-seen, mapped-silent, mapped-unseen, offer-own, placed-view, shared-apart, shared-fair, shared-from, shared-ours, shared-view, waits-own, wanted-view}
use Rattle.lpc_model.proofs.Calls.Offers.{Given, IsViewOf, none_offered, one_offered}
use Rattle.lpc_model.proofs.Calls.Outcomes.{IsAccepting}
use Rattle.lpc_model.proofs.Calls.Sharing.{AreShared, shared}
use Rattle.lpc_model.proofs.Steps.InTurn.{after-append, entries-append}
use Rattle.lpc_model.specs.declared.entry.Entry.{Entry}
use Rattle.lpc_model.specs.declared.entry.Entry.TheVariants as entry
use Rattle.lpc_model.specs.declared.entry.Field.{Field}
use Rattle.lpc_model.specs.declared.entry.FieldName.TheVariants.{ViewBase, ViewSize}
use Rattle.lpc_model.specs.declared.entry.Value.TheVariants.{Hex, Number}
use Rattle.lpc_model.specs.Offers.{SharedViews, acceptance, base_of, if_given, mapped, offer_test, server_views, shared_steps, shared_test, size_of_view, view_test, wanted_test}
use Rattle.lpc_model.specs.Lines.{}
use Rattle.lpc_model.specs.declared.line.ViewWord.{ViewWord}

-- Handles
-- a port that a process reaches is its own
reached-in : (m : Group) (c : ℕ) (w : World) (pid : ℕ) (b : Birth) (o : Option HandleTable) → Fair m c w → first (is_table pid) w.handles ≡ o → has (λ h. names_port b h.object) (rows_in o) ≡ true → b.process ≡ pid
reached-in m c w pid b None f at is = absurd (cc)
reached-in m c w pid b (Some t) f at is =
    let fair : is_fair_table t ≡ true = every-first is_fair_table (is_table pid) w.handles t f.tables at in
    let its : t.process ≡ pid = eqb-true _ _ (first-passes (is_table pid) w.handles t at) in
    sym (eqb-true _ _ (named-own t.process b t.rows fair is)) ∙ its

pub reached-own : (m : Group) (c : ℕ) (w : World) (pid : ℕ) (b : Birth) → Fair m c w → reaches w pid b ≡ true → b.process ≡ pid
reached-own m c w pid b f is = reached-in m c w pid b (first (is_table pid) w.handles) f refl is

-- the end of a refused connect
abbrev pub refusal : ConnectAnswer → Basic
refusal a = woken PORT_CONNECTION_REFUSED (info a.message.body ∷ []) a.wait

-- what an answer to a connect found
pub record IsAnswer (m : Group) (c : ℕ) (w : World) (by : ThreadRow) (bytes : List ℕ) (a : ConnectAnswer) : Type 0 where
  pub message : message_test bytes ≡ Ok a.message
  pub found : first (names_connect w by a.message) w.waits ≡ Some a.wait
  pub fair : is_fair_wait m c a.wait ≡ true
  pub offered : is_offered a.wait ≡ true
  pub names : names_wait a.wait a.message ≡ true
  pub queue : a.wait.queue.process ≡ by.process
  pub offers : is_fair_offer a.wait ≡ true

offered-in : (a b c d : Bool) → (a && (b && (c && d))) ≡ true → b ≡ true
offered-in a b c d is = grind arith

pub reached-of : (a b c d : Bool) → (a && (b && (c && d))) ≡ true → d ≡ true
reached-of a b c d is = grind arith

answer-found : (m : Group) (c : ℕ) (u w : World) (by : ThreadRow) (bytes : List ℕ) → Caller m c u w by → Holds (IsAnswer m c w by bytes) (answer_test w by bytes)
answer-found m c u w by bytes k =
    let P : ConnectAnswer → Type 0 = IsAnswer m c w by bytes in
    bind_holds (message_test bytes) _ P (λ b at.
    bind_holds (client_test w b.header.client) _ P (λ _ _.
    bind_holds (found_or (first (names_connect w by b) w.waits) REPLY_MESSAGE_MISMATCH) _ P (λ x is.
    let found = found_ok (first (names_connect w by b) w.waits) REPLY_MESSAGE_MISMATCH x is in
    let passed : names_connect w by b x ≡ true = first-passes (names_connect w by b) w.waits x found in
    record {
      message = at;
      found = found;
      fair = every-first (is_fair_wait m c) (names_connect w by b) w.waits x k.fair.waits found;
      offered = offered-in (names_wait x b) (is_offered x) x.received (reaches w by.process x.queue) passed;
      names = first-true _ _ passed;
      queue = reached-own m c w by.process x.queue k.fair (reached-of (names_wait x b) (is_offered x) x.received (reaches w by.process x.queue) passed);
      offers = every-first is_fair_offer (names_connect w by b) w.waits x k.fair.offers found;
    })))

pub found-answer : (m : Group) (c : ℕ) (u w : World) (by : ThreadRow) (bytes : List ℕ) (a : ConnectAnswer) → Caller m c u w by → answer_test w by bytes ≡ Ok a → IsAnswer m c w by bytes a
found-answer m c u w by bytes a k at = holds_ok (IsAnswer m c w by bytes) (answer_test w by bytes) a (answer-found m c u w by bytes k) at

-- a connect is no event
offered-event : (x : WaitRow) (k : WaitKind) → x.kind ≡ k → is_offered x ≡ true → is_event x ≡ false
offered-event x (Event r) k is = let off : false ≡ true = rw k at is in absurd (cc)
offered-event x b k is = rw k refl

-- of the client's process and the server's
pub record Sides (m : Group) (c : ℕ) (by : ThreadRow) (x : WaitRow) : Type 0 where
  pub port : x.port.process ≡ x.process
  pub in_only : implies (m x.port.process) (m by.process) ≡ true
  pub of_c : implies (by.process == c) (m x.port.process) ≡ true

pub sides : (m : Group) (c : ℕ) (by : ThreadRow) (x : WaitRow) → is_fair_wait m c x ≡ true → is_offered x ≡ true → x.queue.process ≡ by.process → Sides m c by x
sides m c by x fair offered queue =
    let port : x.port.process ≡ x.process = port-home m x (offered-event x x.kind refl offered) (first-true _ _ fair) in
    let same : m x.port.process ≡ m x.process = ap m port in
    let q : m x.queue.process ≡ m by.process = ap m queue in
    let qc : (x.queue.process == c) ≡ (by.process == c) = ap (λ p. p == c) queue in
    record { port = port; in_only = grind arith; of_c = grind arith }

-- Ports
-- the port that is made is new
past-other : (p : PortRow) (by : ThreadRow) → is_past p by ≡ true → is_port (next_birth by) p ≡ false
past-other p by past = at (is_port (next_birth by) p) refl
  where
    at : (b : Bool) → is_port (next_birth by) p ≡ b → b ≡ false
    at true is =
        let same : p.birth ≡ next_birth by = birth-same p.birth (next_birth by) is in
        let self = same-number by.number in
        let past' : (not (by.number == by.number) || nat_lt by.next_ordinal by.next_ordinal) ≡ true = subst (λ (b : Birth). (not (b.maker == by.number) || nat_lt b.ordinal by.next_ordinal) ≡ true) same past in
        absurd (less by.next_ordinal (grind arith))
      where
        less : (n : ℕ) → nat_lt n n ≡ true → ⊥
        less n is = let k : false ≡ true = grind (arith, nat_tests) in cc
    at false is = refl

none-new : (m : Group) (c : ℕ) (u w : World) (by : ThreadRow) → Caller m c u w by → every (λ p. not (is_port (next_birth by) p)) w.ports ≡ true
none-new m c u w by k = every-more (λ p. is_past p by) (λ p. not (is_port (next_birth by) p)) (λ p past. rw (past-other p by past) refl) w.ports (k.sound.ordinals by.number by k.live)

-- the port of a connect stands
client-stands : (w : World) (x : WaitRow) (k : WaitKind) → x.kind ≡ k → is_offered x ≡ true → can_stay_as w x k ≡ true → has (is_port x.port) w.ports ≡ true
client-stands w x (Connect a offer) k offered stays = first-true _ _ stays
client-stands w x b k offered stays = let none : false ≡ true = rw k at offered in absurd (cc)

-- so the new port is another one
other-port : (ports : List PortRow) (b client : Birth) → every (λ p. not (is_port b p)) ports ≡ true → has (is_port client) ports ≡ true → same_birth b client ≡ false
other-port ports b client new there = at (same_birth b client) refl
  where
    none : (ports : List PortRow) → every (λ p. not (is_port b p)) ports ≡ true → has (is_port b) ports ≡ false
    none [] all = refl
    none (p ∷ ps) all = grind (arith, none ps)

    at : (e : Bool) → same_birth b client ≡ e → e ≡ false
    at true is = let same : b ≡ client = birth-same b client is in
        let k : has (is_port b) ports ≡ true = subst (λ b. has (is_port b) ports ≡ true) (sym same) there in
        let off = none ports new in absurd (cc)
    at false is = refl

-- what the accept's steps need of the ports
pub record Joinable (m : Group) (c : ℕ) (by : ThreadRow) (x : WaitRow) (ports : List PortRow) : Type 0 where
  pub clients : every (is_no_server_at x.port) ports ≡ true
  pub servers : every (is_server_at (next_birth by)) ports ≡ true

joinable : (m : Group) (c : ℕ) (u w : World) (by : ThreadRow) (bytes : List ℕ) (a : ConnectAnswer) → Caller m c u w by → IsAnswer m c w by bytes a → Joinable m c by a.wait (w.ports ++ server_port (next_birth by) a.wait.queue ∷ [])
joinable m c u w by bytes a k is =
    let new = none-new m c u w by k in
    let x : WaitRow = a.wait in
    let here : has (is_connect_on x.port) w.waits ≡ true = has-first (names_connect w by a.message) (is_connect_on x.port) w x is.found (on-own x (offered-connect x is.offered)) in
    let stands : has (is_port x.port) w.ports ≡ true = client-stands w x x.kind refl is.offered (every-first (can_stay_sound w) (names_connect w by a.message) w.waits x k.sound.stay is.found) in
    let other : same_birth (next_birth by) x.port ≡ false = other-port w.ports (next_birth by) x.port new stands in
    record {
      clients = every-push (is_no_server_at x.port) w.ports (server_port (next_birth by) x.queue) (no-servers w x.port k.sound.servers here) (rw other refl);
      servers = every-push (is_server_at (next_birth by)) w.ports (server_port (next_birth by) x.queue) (every-more (λ p. not (is_port (next_birth by) p)) (is_server_at (next_birth by)) (λ p off. or_left (not (is_port (next_birth by) p)) (is_server_port p) off) w.ports new) (or-true (not (is_port (next_birth by) (server_port (next_birth by) x.queue))));
    }
  where
    offered-connect : (x : WaitRow) → is_offered x ≡ true → is_connect x ≡ true
    offered-connect x is = grind arith

    on-own : (x : WaitRow) → is_connect x ≡ true → is_connect_on x.port x ≡ true
    on-own x is = and_from _ _ is (self x.port)
      where
        self : (b : Birth) → same_birth b b ≡ true
        self b = grind (arith, nat_tests)

    has-first : (p q : WaitRow → Bool) (w : World) (x : WaitRow) → first p w.waits ≡ Some x → q x ≡ true → has q w.waits ≡ true
    has-first p q w x at is = found p q w.waits x at is
      where
        found : (p q : WaitRow → Bool) (xs : List WaitRow) (x : WaitRow) → first p xs ≡ Some x → q x ≡ true → has q xs ≡ true
        found p q [] x at is = absurd (cc)
        found p q (y ∷ ys) x at is = grind (arith, found p q ys x)

-- fair
server-fair : (m : Group) (c : ℕ) (by : ThreadRow) (q : Birth) → q.process ≡ by.process → is_fair_port m c (server_port (next_birth by) q) ≡ true
server-fair m c by q same = let is : (q.process == by.process) ≡ true = rw same (same-number by.process) in rw is refl

-- c's peers are members
client-of : (m : Group) (c : ℕ) (by : ThreadRow) (x : WaitRow) → m c ≡ true → Sides m c by x → implies (x.process == c) (m by.process) ≡ true
client-of m c by x c_in s = at (x.process == c) refl
  where
    member : (a b : Bool) → a ≡ true → implies a b ≡ true → b ≡ true
    member a b is it = grind arith

    at : (e : Bool) → (x.process == c) ≡ e → implies e (m by.process) ≡ true
    at true is = member (m x.port.process) (m by.process) (ap m (s.port ∙ eqb-true x.process c is) ∙ c_in) s.in_only
    at false off = refl

server-of : (m : Group) (c : ℕ) (by : ThreadRow) (x : WaitRow) → Sides m c by x → implies (by.process == c) (m x.process) ≡ true
server-of m c by x s = subst (λ p. implies (by.process == c) (m p) ≡ true) s.port s.of_c

pub accept-fair : (m : Group) (c : ℕ) (u w : World) (by : ThreadRow) (context value : ℕ) (bytes : List ℕ) (a : ConnectAnswer) (views : SharedViews) → Caller m c u w by → IsAnswer m c w by bytes a → AreFrom by a.wait views → are_fair m c w (accept_steps by context value a views) ≡ true
accept-fair m c u w by context value bytes a views k is from =
    let s = sides m c by a.wait is.fair is.offered is.queue in
    let j = joinable m c u w by bytes a k is in
    let made : is_fair_port m c (server_port (next_birth by) a.wait.queue) ≡ true = server-fair m c by a.wait.queue is.queue in
    fair-append m c w (accept_start by context value a views) (shared_steps by a.wait views)
    (and_from _ _ made (and_from _ _ (same-number by.process) (and_from _ _ (and_from _ _ s.in_only (and_from _ _ s.of_c (and_from _ _ j.clients j.servers))) refl)))
    (shared-fair m c (world_after w (accept_start by context value a views)) by a.wait views k.c_in s.port (client-of m c by a.wait k.c_in s) (server-of m c by a.wait s) from)

-- apart
pub accept-apart : (m : Group) (c : ℕ) (u : World) (d : Whose) (w : World) (by : ThreadRow) (context value : ℕ) (bytes : List ℕ) (a : ConnectAnswer) (views : SharedViews) → Caller m c u w by → IsAnswer m c w by bytes a → m by.process ≡ false → are_apart m c u d w (accept_steps by context value a views) ≡ true
accept-apart m c u d w by context value bytes a views k is out =
    let s = sides m c by a.wait is.fair is.offered is.queue in
    let client_out : m a.wait.port.process ≡ false = other-side (m a.wait.port.process) (m by.process) out s.in_only in
    let x_out : m a.wait.process ≡ false = sym (ap m s.port) ∙ client_out in
    let owned : is_owned u a.wait ≡ true = every-first (is_owned u) (names_connect w by a.message) w.waits a.wait k.owned is.found in
    apart-append m c u d w (accept_start by context value a views) (shared_steps by a.wait views)
    (rw (k.here, out, unseen-thread m c w by.number by.process k.fair k.own out, client_out, wait-gone m u w a.wait k.owned owned x_out) refl)
    (shared-apart m c u d (world_after w (accept_start by context value a views)) by a.wait views out x_out)
  where
    other-side : (a b : Bool) → b ≡ false → implies a b ≡ true → a ≡ false
    other-side a b off is = grind arith

-- the steps of an accept whose client is a member
pub accept-ours : (m : Group) (c : ℕ) (u w : World) (by : ThreadRow) (context value : ℕ) (bytes : List ℕ) (a : ConnectAnswer) (views : SharedViews) → Caller m c u w by → IsAnswer m c w by bytes a → AreFrom by a.wait views → m by.process ≡ true → m a.wait.process ≡ true → are_ours m w (accept_steps by context value a views) ≡ true
accept-ours m c u w by context value bytes a views k is from by_in x_in =
    let s = sides m c by a.wait is.fair is.offered is.queue in
    let p_in : m a.wait.port.process ≡ true = ap m s.port ∙ x_in in
    ours-append m w (accept_start by context value a views) (shared_steps by a.wait views) (rw (by_in, p_in) refl) (shared-ours m (world_after w (accept_start by context value a views)) by a.wait views by_in x_in from)

-- without the client, what a member makes: the port has what the server gave the connection at once
abbrev pub lone_steps : ThreadRow → ℕ → ℕ → Birth → List Basic
lone_steps by context value queue =
    DrawsOrdinal by.number ∷ Makes (record (server_port (next_birth by) queue) { context = context }) ∷ AddsHandle by.process (handle_row value (port_name (next_birth by)) PORT_ACCESS) ∷ []

-- and the views that it maps into its own process, as they are seen
abbrev pub lone_views : ThreadRow → Option ViewRow → Option ViewRow → List Basic
lone_views by own theirs = mapped by.process own ++ mapped by.process theirs

shared-silent : (by : ThreadRow) (x : WaitRow) (views : SharedViews) → entries_of (shared_steps by x views) ≡ []
shared-silent by x views =
    entries-append (server_views by views.own views.theirs) (mapped x.process views.across)
    ∙ rw (entries-append (mapped by.process views.own) (mapped by.process views.theirs), mapped-silent by.process views.own, mapped-silent by.process views.theirs, mapped-silent x.process views.across) refl

lone-silent : (by : ThreadRow) (own theirs : Option ViewRow) → entries_of (lone_views by own theirs) ≡ []
lone-silent by own theirs = entries-append (mapped by.process own) (mapped by.process theirs) ∙ rw (mapped-silent by.process own, mapped-silent by.process theirs) refl

start-lost : (m : Group) (c : ℕ) (u w : World) (by : ThreadRow) (context value : ℕ) (bytes : List ℕ) (a : ConnectAnswer) (views : SharedViews) → Caller m c u w by → IsAnswer m c w by bytes a → m by.process ≡ true → m a.wait.process ≡ false
    → view m (world_after w (accept_start by context value a views)) ≡ world_after (view m w) (lone_steps by context value a.wait.queue)
start-lost m c u w by context value bytes a views k is by_in out =
    let s = sides m c by a.wait is.fair is.offered is.queue in
    let client_out : m a.wait.port.process ≡ false = ap m s.port ∙ out in
    let owned : is_owned u a.wait ≡ true = every-first (is_owned u) (names_connect w by a.message) w.waits a.wait k.owned is.found in
    let made : PortRow = server_port (next_birth by) a.wait.queue in
    let v : World = world_after w (lone_steps by context value a.wait.queue) in
    let w5 : World = record v { ports = map (joined a.wait.port (next_birth by) context) (w.ports ++ made ∷ []) } in
    let ports : shown (our_port m) (seen_port m) w5.ports ≡ shown (our_port m) (seen_port m) v.ports =
    joins-new m a.wait.port (next_birth by) context w.ports made client_out (none-new m c u w by k) (birth-self (next_birth by)) by_in refl
    ∙ sym (shown-push (our_port m) (seen_port m) w.ports (record made { context = context }) by_in) in
    basic-unseen m w5 (Accepts a.wait.thread (acceptance a.message.body views)) (wait-gone m u w a.wait k.owned owned out) refl
    ∙ ap (λ ps. record (view m v) { ports = ps }) ports
    ∙ run-ours m w (lone_steps by context value a.wait.queue) (rw by_in refl)

accept-lost : (m : Group) (c : ℕ) (u : World) (d : Whose) (w : World) (by : ThreadRow) (context value : ℕ) (bytes : List ℕ) (a : ConnectAnswer) (views : SharedViews) → Caller m c u w by → IsAnswer m c w by bytes a → AreFrom by a.wait views → m by.process ≡ true → (by.process == c) ≡ false → m a.wait.process ≡ false
    → Led m c u d w (accept_steps by context value a views) (lone_steps by context value a.wait.queue ++ lone_views by views.own (option_map (seen_view m) views.theirs))
accept-lost m c u d w by context value bytes a views k is from by_in other out =
    let start = accept_start by context value a views in
    let lone = lone_steps by context value a.wait.queue in
    let own = mapped by.process views.own in
    let theirs = mapped by.process views.theirs in
    let seen = mapped by.process (option_map (seen_view m) views.theirs) in
    let across = mapped a.wait.process views.across in
    let v : World = world_after w start in
    let t : World = world_after v own in
    record {
      world = ap (view m) (after-append w start (shared_steps by a.wait views) ∙ (after-append v (own ++ theirs) across ∙ ap (λ (x : World). world_after x across) (after-append v own theirs)))
          ∙ (mapped-unseen m (world_after t theirs) a.wait.process views.across out
          ∙ (mapped-seen m t by.process views.theirs
          ∙ (ap (λ (x : World). world_after x seen) (run-ours m v own (mapped-ours m v by.process by.process (next_birth by) views.own by_in by_in from.own) ∙ ap (λ (x : World). world_after x own) (start-lost m c u w by context value bytes a views k is by_in out))
          ∙ sym (after-append (view m w) lone (own ++ seen) ∙ after-append (world_after (view m w) lone) own seen))));
      told = rw (shared-silent by a.wait views, lone-silent by views.own (option_map (seen_view m) views.theirs), k.here, other) refl;
    }

-- What an accept tells of the client's view
abbrev is_vbase : Field → Bool
is_vbase f = elim f.name [
  | ViewBase ↦ true
  | _ ↦ false
]

abbrev is_vsize : Field → Bool
is_vsize f = elim f.name [
  | ViewSize ↦ true
  | _ ↦ false
]

abbrev number_in : Field → Option ℕ
number_in f = elim f.value [
  | Hex n ↦ Some n
  | Number n ↦ Some n
  | _ ↦ None
]

abbrev pub told_as : (Field → Bool) → List Field → Option ℕ
told_as test fields = option_and_then number_in (first test fields)

abbrev pub view_told : Birth → ℕ → Option ℕ → Option ℕ → Option ViewRow
view_told port n (Some base) (Some size) = Some (record { base = base; size = size; section = record { maker = 0; ordinal = 0; process = n }; offset = 0; writable = true; owner = Some port })
view_told port n base size = None

abbrev pub told_view : Birth → ℕ → Entry → Option ViewRow
told_view port n (entry.Answer who call status fields) = view_told port n (told_as is_vbase fields) (told_as is_vsize fields)
told_view port n e = None

base-told : (value : ℕ) (own theirs across : Option ViewRow) → told_as is_vbase (shared_fields value (record { own = own; theirs = theirs; across = across })) ≡ base_of theirs
base-told value None None None = refl
base-told value None None (Some c) = refl
base-told value None (Some b) None = refl
base-told value None (Some b) (Some c) = refl
base-told value (Some a) None None = refl
base-told value (Some a) None (Some c) = refl
base-told value (Some a) (Some b) None = refl
base-told value (Some a) (Some b) (Some c) = refl

size-told : (value : ℕ) (own theirs across : Option ViewRow) → told_as is_vsize (shared_fields value (record { own = own; theirs = theirs; across = across })) ≡ size_of_view theirs
size-told value None None None = refl
size-told value None None (Some c) = refl
size-told value None (Some b) None = refl
size-told value None (Some b) (Some c) = refl
size-told value (Some a) None None = refl
size-told value (Some a) None (Some c) = refl
size-told value (Some a) (Some b) None = refl
size-told value (Some a) (Some b) (Some c) = refl

-- it is what is seen of it
seen-told : (m : Group) (u : World) (pid n : ℕ) (port : Birth) (offer : Option Offer) (theirs : Option ViewRow) → IsViewOf u pid port offer theirs → Given (IsFrom n) offer → m n ≡ false → view_told port n (base_of theirs) (size_of_view theirs) ≡ option_map (seen_view m) theirs
seen-told m u pid n port None None none_offered from out = refl
seen-told m u pid n port None (Some v) never from out = elim never [ ]
seen-told m u pid n port (Some o) None never from out = elim never [ ]
seen-told m u pid n port (Some o) (Some v) (one_offered _ base at) from out = rw (from, out) refl

-- of another member than c: the client is a member, or the queue of its connect is known from before
abbrev pub led_accept : Group → World → ThreadRow → ℕ → List ℕ → Option ViewWord → Birth → Entry → List Basic
led_accept m v by context bytes word queue e =
    let value = free_handle v by.process in
    on_ok (if_given (wanted_test v by) word) (λ wanted. on_ok (message_test bytes) (λ b. on_ok (if_given offer_test wanted) (λ offer. cond (m b.header.client.process)
    (given (wait_of v b.header.client.thread) (λ x. on_ok (shared_test v by x offer) (λ views. accept_steps by context value (record { message = b; wait = x }) views)))
    (on_ok (if_given (view_test v by.process (next_birth by)) offer) (λ own. lone_steps by context value queue ++ lone_views by own (told_view (next_birth by) b.header.client.process e))))))

names-thread : (a b c : Bool) → (a && (b && c)) ≡ true → b ≡ true
names-thread a b c is = grind arith

answered-client : (m : Group) (c : ℕ) (w : World) (by : ThreadRow) (bytes : List ℕ) (a : ConnectAnswer) → IsAnswer m c w by bytes a → a.wait.process ≡ a.message.header.client.process
answered-client m c w by bytes a is = eqb-true _ _ (names-thread (a.wait.thread == a.message.header.client.thread) (a.wait.process == a.message.header.client.process) (a.wait.identifier == a.message.header.message_id) is.names)

shared-own : (w : World) (by : ThreadRow) (x : WaitRow) (offer : Option Offer) → Holds (λ (views : SharedViews). if_given (view_test w by.process (next_birth by)) offer ≡ Ok views.own) (shared_test w by x offer)
shared-own w by x offer =
    let P : SharedViews → Type 0 = λ views. if_given (view_test w by.process (next_birth by)) offer ≡ Ok views.own in
    bind_holds (if_given (view_test w by.process (next_birth by)) offer) _ P (λ own one.
    bind_holds (if_given (view_test (world_after w (mapped by.process own)) by.process (next_birth by)) (offer_of x)) _ P (λ theirs _.
    bind_holds (if_given (view_test (world_after w (server_views by own theirs)) x.process x.port) offer) _ P (λ across _. one)))

pub accept-led : (m : Group) (c : ℕ) (u : World) (d : Whose) (w : World) (by : ThreadRow) (context : ℕ) (bytes : List ℕ) (word : Option ViewWord) (offer : Option Offer) (a : ConnectAnswer) (views : SharedViews) (queue : Birth) → (m a.wait.process ≡ false → queue ≡ a.wait.queue) → Caller m c u w by → IsAnswer m c w by bytes a → IsAccepting w by bytes word offer a views → m by.process ≡ true → (by.process == c) ≡ false
    → Led m c u d w (accept_steps by context (free_handle w by.process) a views) (led_accept m (view m w) by context bytes word queue (own_entry (accept_steps by context (free_handle w by.process) a views)))
accept-led m c u d w by context bytes word offer a views queue known k is it by_in other =
    let client : m a.message.header.client.process ≡ m a.wait.process = ap m (sym (answered-client m c w by bytes a is)) in
    rw (wanted-view m c w by word k.fair by_in, it.wanted_found, is.message, it.offer_made, client, free-view m w by.process by_in) (at (m a.wait.process) refl)
  where
    value : ℕ
    value = free_handle w by.process

    steps : List Basic
    steps = accept_steps by context value a views

    from : AreFrom by a.wait views
    from = shared-from m c w by bytes word offer a views k.fair is.offers it

    lone : (q : Birth) → List Basic
    lone q = on_ok (if_given (view_test (view m w) by.process (next_birth by)) offer) (λ own. lone_steps by context value q ++ lone_views by own (told_view (next_birth by) a.message.header.client.process (own_entry steps)))

    at : (b : Bool) → m a.wait.process ≡ b → Led m c u d w steps (cond b (given (wait_of (view m w) a.message.header.client.thread) (λ x. on_ok (shared_test (view m w) by x offer) (λ views. accept_steps by context value (record { message = a.message; wait = x }) views))) (lone queue))
    at true x_in =
        let ours : our_wait m a.wait ≡ true = and_from _ _ x_in (ap m is.queue ∙ by_in) in
        let there : wait_of w a.message.header.client.thread ≡ Some a.wait = once-first (names_connect w by a.message) (waits_as a.message.header.client.thread) (λ y passed. first-true _ _ (first-true _ _ passed)) w.waits a.wait (k.once a.message.header.client.thread) is.found in
        let mine = offer-own m c w by word it.wanted offer k.fair it.wanted_found it.offer_made in
        rw (first-kept (our_wait m) (waits_as a.message.header.client.thread) w.waits a.wait there ours, shared-view m w by a.wait offer by_in x_in mine (waits-own a.wait (offer_of a.wait) refl is.offers), it.views_placed)
        (led-same m c u d w steps (accept-ours m c u w by context value bytes a views k is from by_in x_in))
    at false out =
        let placed = holds_ok (λ (views : SharedViews). if_given (view_test w by.process (next_birth by)) offer ≡ Ok views.own) (shared_test w by a.wait offer) views (shared-own w by a.wait offer) it.views_placed in
        let s = holds_ok (AreShared w by a.wait offer) (shared_test w by a.wait offer) views (shared w by a.wait offer) it.views_placed in
        let client_out : m a.message.header.client.process ≡ false = ap m (sym (answered-client m c w by bytes a is)) ∙ out in
        let theirs_from : Given (IsFrom a.message.header.client.process) (offer_of a.wait) = subst (λ n. Given (IsFrom n) (offer_of a.wait)) (answered-client m c w by bytes a is) (waits-own a.wait (offer_of a.wait) refl is.offers) in
        let told : told_view (next_birth by) a.message.header.client.process (own_entry steps) ≡ option_map (seen_view m) views.theirs =
        rw (base-told value views.own views.theirs views.across, size-told value views.own views.theirs views.across) (seen-told m (world_after w (mapped by.process views.own)) by.process a.message.header.client.process (next_birth by) (offer_of a.wait) views.theirs s.theirs theirs_from client_out) in
        let led : lone queue ≡ lone_steps by context value a.wait.queue ++ lone_views by views.own (option_map (seen_view m) views.theirs) =
        rw (known out, placed-view m w by.process (next_birth by) offer by_in, placed, told) refl in
        subst (Led m c u d w steps) (sym led) (accept-lost m c u d w by context value bytes a views k is from by_in other out)

-- of c
c-connects : (m : Group) (c : ℕ) (w : World) (by : ThreadRow) (a : Message) → m c ≡ true → by.process ≡ c → Fair m c w → first (names_connect (view m w) by a) (view m w).waits ≡ first (names_connect w by a) w.waits
c-connects m c w by a c_in mine f =
    ap (λ hs. first (λ x. names_wait x a && (is_offered x && (x.received && has (λ h. names_port x.queue h.object) hs))) (view m w).waits) (handles-view m w by.process (ap m mine ∙ c_in))
    ∙ first-where (is_fair_wait m c) (our_wait m) (names_connect w by a) (λ x fair is.
    let queue : x.queue.process ≡ c = reached-own m c w by.process x.queue f (reached-of (names_wait x a) (is_offered x) x.received (reaches w by.process x.queue) is) ∙ mine in
    let q_c : (x.queue.process == c) ≡ true = ap (λ p. p == c) queue ∙ same-number c in
    let q_in : m x.queue.process ≡ true = ap m queue ∙ c_in in
    grind arith) w.waits f.waits

pub c-answer_test : (m : Group) (c : ℕ) (w : World) (by : ThreadRow) (bytes : List ℕ) → m c ≡ true → by.process ≡ c → Fair m c w → names_no_outsider m w bytes ≡ true → answer_test (view m w) by bytes ≡ answer_test w by bytes
c-answer_test m c w by bytes c_in mine f inside =
    bind-same (message_test bytes) _ _ (λ b at.
    rw (c-client m c w b.header.client f (message-names m w bytes b at inside), c-connects m c w by b c_in mine f) refl)

pub c-side : (m : Group) (c : ℕ) (by : ThreadRow) (x : WaitRow) → m c ≡ true → by.process ≡ c → is_fair_wait m c x ≡ true → is_offered x ≡ true → x.queue.process ≡ by.process → m x.process ≡ true
c-side m c by x c_in mine fair offered queue =
    let s = sides m c by x fair offered queue in
    let of_c = s.of_c in
    let by_c : (by.process == c) ≡ true = ap (λ p. p == c) mine ∙ same-number c in
    let p_in : m x.port.process ≡ true = grind arith in
    sym (ap m s.port) ∙ p_in

-- an accept of c's
pub c-accept : (m : Group) (c : ℕ) (u w : World) (by : ThreadRow) (context : ℕ) (bytes : List ℕ) (word : Option ViewWord) → Caller m c u w by → by.process ≡ c → names_no_outsider m w bytes ≡ true → nt_accept_connect_port (view m w) by context bytes true word ≡ nt_accept_connect_port w by context bytes true word
unfolding nt_accept_connect_port
c-accept m c u w by context bytes word k mine inside =
    let by_in : m by.process ≡ true = ap m mine ∙ k.c_in in
    let test : handles_test (view m w) by.process 1 ≡ handles_test w by.process 1 = subst (λ p. handles_test (view m w) p 1 ≡ handles_test w p 1) (sym mine) (handles_test-view m c w 1 k.c_in k.fair) in
    rw (wanted-view m c w by word k.fair by_in) (bind-same (if_given (wanted_test w by) word) _ _ (λ wanted found.
    rw (c-answer_test m c w by bytes k.c_in mine k.fair inside) (bind-same (answer_test w by bytes) _ _ (λ a at.
    let is = found-answer m c u w by bytes a k at in
    let x_in : m a.wait.process ≡ true = c-side m c by a.wait k.c_in mine is.fair is.offered is.queue in
    bind-same (if_given offer_test wanted) _ _ (λ offer made.
    rw test (bind-same (handles_test w by.process 1) _ _ (λ _ _.
    rw (shared-view m w by a.wait offer by_in x_in (offer-own m c w by word wanted offer k.fair found made) (waits-own a.wait (offer_of a.wait) refl is.offers), free-view m w by.process by_in) refl)))))))

-- a refusal
pub c-refuse : (m : Group) (c : ℕ) (u w : World) (by : ThreadRow) (context : ℕ) (bytes : List ℕ) (word : Option ViewWord) → Caller m c u w by → by.process ≡ c → names_no_outsider m w bytes ≡ true
    → nt_accept_connect_port (view m w) by context bytes false word ≡ nt_accept_connect_port w by context bytes false word
unfolding nt_accept_connect_port
c-refuse m c u w by context bytes word k mine inside =
    rw (c-answer_test m c w by bytes k.c_in mine k.fair inside) (bind-same (answer_test w by bytes) _ _ (λ a at. refl))

-- an outsider's refusal
pub refuse-apart : (m : Group) (c : ℕ) (u : World) (d : Whose) (w : World) (by : ThreadRow) (bytes : List ℕ) (a : ConnectAnswer) → Caller m c u w by → IsAnswer m c w by bytes a → m by.process ≡ false → are_apart m c u d w (refuse_steps by a) ≡ true
refuse-apart m c u d w by bytes a k is out =
    let s = sides m c by a.wait is.fair is.offered is.queue in
    let client_out : m a.wait.port.process ≡ false = other-side (m a.wait.port.process) (m by.process) out s.in_only in
    let x_out : m a.wait.process ≡ false = sym (ap m s.port) ∙ client_out in
    let owned : is_owned u a.wait ≡ true = every-first (is_owned u) (names_connect w by a.message) w.waits a.wait k.owned is.found in
    rw (k.here, out) (and_from _ _ (and_from _ _ (end-apart m c u d w a.wait PORT_CONNECTION_REFUSED (info a.message.body ∷ []) k.owned owned (out-other m c a.wait.process k.c_in x_out)) refl)
    (and_from _ _ (and_from _ _ (rw (unseen-owned m c w a.wait.port k.fair client_out) refl) refl) refl))
  where
    other-side : (a b : Bool) → b ≡ false → implies a b ≡ true → a ≡ false
    other-side a b off is = grind arith

-- a refusal by another member than c
abbrev pub led_refuse : Group → World → ThreadRow → List ℕ → List Basic
led_refuse m v by bytes = on_ok (message_test bytes) (λ b. cond (m b.header.client.process)
    (given (wait_of v b.header.client.thread) (λ x. refuse_steps by (record { message = b; wait = x }))) [])

pub refuse-ours : (m : Group) (w : World) (by : ThreadRow) (a : ConnectAnswer) → are_ours m w (refuse_steps by a) ≡ true
refuse-ours m w by a = refl

refuse-lost : (m : Group) (c : ℕ) (u : World) (d : Whose) (w : World) (by : ThreadRow) (bytes : List ℕ) (a : ConnectAnswer) → Caller m c u w by → IsAnswer m c w by bytes a → (by.process == c) ≡ false → m a.wait.process ≡ false → Led m c u d w (refuse_steps by a) []
refuse-lost m c u d w by bytes a k is other out =
    let s = sides m c by a.wait is.fair is.offered is.queue in
    let client_out : m a.wait.port.process ≡ false = ap m s.port ∙ out in
    let owned : is_owned u a.wait ≡ true = every-first (is_owned u) (names_connect w by a.message) w.waits a.wait k.owned is.found in
    record {
      world = basic-unseen m (basic w (refusal a)) (DropsOwned a.wait.port) (unseen-owned m c w a.wait.port k.fair client_out) refl ∙ basic-unseen m w (refusal a) (wait-gone m u w a.wait k.owned owned out) refl;
      told = rw (k.here, other, wake-not-c m c u d a.wait a.wait.call PORT_CONNECTION_REFUSED (info a.message.body ∷ []) owned (out-other m c a.wait.process k.c_in out)) refl;
    }

pub refuse-led : (m : Group) (c : ℕ) (u : World) (d : Whose) (w : World) (by : ThreadRow) (bytes : List ℕ) (a : ConnectAnswer) → Caller m c u w by → IsAnswer m c w by bytes a → m by.process ≡ true → (by.process == c) ≡ false
    → Led m c u d w (refuse_steps by a) (led_refuse m (view m w) by bytes)
refuse-led m c u d w by bytes a k is by_in other =
    let client : m a.message.header.client.process ≡ m a.wait.process = ap m (sym (answered-client m c w by bytes a is)) in
    rw (is.message, client) (at (m a.wait.process) refl)
  where
    at : (b : Bool) → m a.wait.process ≡ b → Led m c u d w (refuse_steps by a) (cond b (given (wait_of (view m w) a.message.header.client.thread) (λ x. refuse_steps by (record { message = a.message; wait = x }))) [])
    at true x_in =
        let ours : our_wait m a.wait ≡ true = and_from _ _ x_in (ap m is.queue ∙ by_in) in
        let there : wait_of w a.message.header.client.thread ≡ Some a.wait = once-first (names_connect w by a.message) (waits_as a.message.header.client.thread) (λ y passed. first-true _ _ (first-true _ _ passed)) w.waits a.wait (k.once a.message.header.client.thread) is.found in
        rw (first-kept (our_wait m) (waits_as a.message.header.client.thread) w.waits a.wait there ours) (led-same m c u d w (refuse_steps by a) (refuse-ours m w by a))
    at false out = refuse-lost m c u d w by bytes a k is other out

-- what an accept owes, of a member other than c and of c
abbrev pub led_answer : Group → World → ThreadRow → ℕ → List ℕ → Bool → Option ViewWord → Birth → Entry → List Basic
led_answer m v by context bytes true word queue e = led_accept m v by context bytes word queue e
led_answer m v by context bytes false word queue e = led_refuse m v by bytes

pub c-answer : (m : Group) (c : ℕ) (u w : World) (by : ThreadRow) (context : ℕ) (bytes : List ℕ) (accept : Bool) (word : Option ViewWord) → Caller m c u w by → by.process ≡ c → names_no_outsider m w bytes ≡ true → nt_accept_connect_port (view m w) by context bytes accept word ≡ nt_accept_connect_port w by context bytes accept word
c-answer m c u w by context bytes true word k mine inside = c-accept m c u w by context bytes word k mine inside
c-answer m c u w by context bytes false word k mine inside = c-refuse m c u w by context bytes word k mine inside
