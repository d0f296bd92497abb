-- The calls on tokens in a view.
use Rattle.std.proofs.lemmas.Bool.{eqb-true, not-false}
use Rattle.lpc_base.proofs.Bools.{first-true, second-true}
use Rattle.lpc_model.proofs.Calls.Usable.{live-number}
use Rattle.lpc_model.specs.Linked.{IsLinked, is_mutual}
use Rattle.lpc_isolation.proofs.Views.Mine.{c-port_test, c-client, c-live, client-member, message-names, is_way}
use Rattle.lpc_isolation.proofs.Each.Instances.{At}
use Rattle.lpc_model.specs.Basics.{Basic}
use Rattle.std.proofs.Common.{◌≡◌, ℕ, List, Bool, true, false, not, Option, Some, None, refl, ap, subst, sym, ◌∙◌, arith}
use Rattle.std.specs.Prelude.{◌==◌, Result, Ok, option_and_then, option_map}
use Rattle.lpc_base.specs.Rows.{first}
use Rattle.lpc_base.proofs.RowWords.{first-passes}
use Rattle.lpc_base.proofs.RowMaps.{every-first}
use Rattle.lpc_base.proofs.Births.{birth-same}
use Rattle.lpc_base.specs.declared.status.Status.{Status}
use Rattle.lpc_base.specs.declared.status.TheConstants.{ACCESS_DENIED, CANT_OPEN_ANONYMOUS, INVALID_HANDLE, INVALID_PARAMETER, INVALID_PORT_HANDLE, NO_TOKEN, OBJECT_TYPE_MISMATCH, REPLY_MESSAGE_MISMATCH, INVALID_CID}
use Rattle.lpc_tokens.specs.Tokens.{effective, passed_on}
use Rattle.lpc_tokens.specs.declared.level.TheConstants.{ANONYMOUS}
use Rattle.lpc_tokens.specs.declared.qos.Tracking.{Tracking}
use Rattle.lpc_tokens.specs.declared.qos.Tracking.TheVariants.{Dynamic, Static}
use Rattle.lpc_tokens.specs.declared.security.Security.TheVariants.{Allows, Guarded, Unsecured}
use Rattle.lpc_model.specs.declared.entry.ObjectKind.TheVariants as kind
use Rattle.lpc_model.specs.World.{Birth, Effective, Impersonation, PortRow, Qos, Security, ThreadRow, Token, WaitRow, World}
use Rattle.lpc_model.specs.Found.{handle_at, handles_of, has_value, is_server_port, is_table, is_token, live_thread, same_kind, token_row, token_of, port_row, pair_of, is_the, names_wait, is_request, same_birth, is_port}
use Rattle.lpc_model.specs.Impersonation.{THREAD_IMPERSONATION_TOKEN, TOKEN_RIGHT, allowed_by, is_served_by, nt_impersonate_client_of_port, nt_open_process_token, nt_open_thread_token, nt_query_information_token, nt_set_information_thread, own_test, token_test, told_of, told_steps, allowed, impersonate_steps, tracked}
use Rattle.lpc_model.specs.declared.message.Message.{Message}
use Rattle.lpc_model.specs.Message.{message_test}
use Rattle.lpc_model.specs.Refusal.{found_or, refuse_if}
use Rattle.lpc_model.specs.Then.{◌>>=◌}
use Rattle.lpc_model.specs.Tests.{client_test, handles_test, includes, object_test, own_handle, port_test, is_client}
use Rattle.lpc_model.specs.Lines.{impersonate_client_of_port, open_process_token, open_thread_token, query_information_token, set_information_thread}
use Rattle.lpc_model.specs.Circle.{Group, is_no_outsiders_thread, names_no_outsider}
use Rattle.lpc_model.proofs.Calls.Holding.{Holds, bind_holds, found_ok, holds_ok, not_refused}
use Rattle.lpc_isolation.proofs.Calls.Calm.{Calm, answers_alike}
use Rattle.lpc_isolation.proofs.Each.Refuses.{Refuses, bind, found, handles, if_refuses, client, message, port}
use Rattle.lpc_isolation.proofs.Gone.Served.{served}
use Rattle.lpc_isolation.proofs.Gone.Thin.{Alive, Closed, handle_closed, thin, token-live-as, token_alive, wait_closed, client-thin, live-thin}
use Rattle.lpc_isolation.proofs.Gone.ThinCalls.{rows-closed, token-thin, port-thin, row-thin}
use Rattle.lpc_isolation.proofs.Rows.Fair.{Fair, is_fair_wait, port-side}
use Rattle.lpc_isolation.proofs.Views.Callers.{handles_test-view}
use Rattle.lpc_isolation.proofs.Views.Filters.{first-inside, first-where}
use Rattle.lpc_isolation.proofs.Views.Seen.{bind-same, free-view, object-own, object-view, token-view, port-own, port-view}
use Rattle.lpc_isolation.proofs.Views.View.{of_birth, our_token, view, our_wait, seen_port}

-- NtSetInformationThread
refuses-revert : (w : World) (by : ThreadRow) (class : ℕ) → Refuses (served w by (set_information_thread class))
unfolding nt_set_information_thread
refuses-revert w by class = bind (refuse_if (not (class == THREAD_IMPERSONATION_TOKEN)) INVALID_PARAMETER) _ (if_refuses (not (class == THREAD_IMPERSONATION_TOKEN)) INVALID_PARAMETER refl) (λ _. tt)

alike-revert : (w v : World) (by : ThreadRow) (class : ℕ) → served v by (set_information_thread class) ≡ served w by (set_information_thread class)
unfolding nt_set_information_thread
alike-revert w v by class = refl

pub revert-calm : (class : ℕ) → Calm (set_information_thread class)
revert-calm class = record {
  refuses = λ w by. refuses-revert w by class;
  members = answers_alike refl (λ m c w by known k a mine fine right. alike-revert w (view m w) by class);
  alike = λ k u by live s ports c. alike-revert u (thin k u) by class;
}

-- NtOpenThreadToken and NtOpenProcessToken
own-refuses : (by : ThreadRow) → Refuses (own_test by)
own-refuses by = bind (found_or by.own NO_TOKEN) _ (found by.own NO_TOKEN refl) (λ own. bind (refuse_if (own.level == ANONYMOUS) CANT_OPEN_ANONYMOUS) _ (if_refuses (own.level == ANONYMOUS) CANT_OPEN_ANONYMOUS refl) (λ _. tt))

refuses-own : (w : World) (by : ThreadRow) → Refuses (served w by open_thread_token)
unfolding nt_open_thread_token
refuses-own w by = bind (own_test by) _ (own-refuses by) (λ own. bind (handles_test w by.process 1) _ (handles w by.process 1) (λ _. tt))

refuses-primary : (w : World) (by : ThreadRow) → Refuses (served w by open_process_token)
unfolding nt_open_process_token
refuses-primary w by = bind (handles_test w by.process 1) _ (handles w by.process 1) (λ _. tt)

same-load : (m : Group) (c : ℕ) (w : World) (by : ThreadRow) → m c ≡ true → by.process ≡ c → Fair m c w → handles_test (view m w) by.process 1 ≡ handles_test w by.process 1
same-load m c w by c_in mine f = subst (λ p. handles_test (view m w) p 1 ≡ handles_test w p 1) (sym mine) (handles_test-view m c w 1 c_in f)

same-own : (m : Group) (c : ℕ) (w : World) (by : ThreadRow) → m c ≡ true → by.process ≡ c → Fair m c w → served (view m w) by open_thread_token ≡ served w by open_thread_token
unfolding nt_open_thread_token
same-own m c w by c_in mine f = rw (same-load m c w by c_in mine f, free-view m w by.process (ap m mine ∙ c_in)) refl

same-primary : (m : Group) (c : ℕ) (w : World) (by : ThreadRow) → m c ≡ true → by.process ≡ c → Fair m c w → served (view m w) by open_process_token ≡ served w by open_process_token
unfolding nt_open_process_token
same-primary m c w by c_in mine f = rw (same-load m c w by c_in mine f, free-view m w by.process (ap m mine ∙ c_in), token-view m w by.process (ap m mine ∙ c_in)) refl

alike-own : (k : Alive) (u : World) (by : ThreadRow) → served (thin k u) by open_thread_token ≡ served u by open_thread_token
unfolding nt_open_thread_token
alike-own k u by = refl

alike-primary : (k : Alive) (u : World) (by : ThreadRow) → live_thread u by.number ≡ Some by → Closed k u → served (thin k u) by open_process_token ≡ served u by open_process_token
unfolding nt_open_process_token
alike-primary k u by live c = rw (token-thin k u by live c) refl

pub own-calm : Calm open_thread_token
own-calm = record {
  refuses = λ w by. refuses-own w by;
  members = answers_alike refl (λ m c w by known k a mine fine right. same-own m c w by a.c_in mine a.fair);
  alike = λ k u by live s ports c. alike-own k u by;
}

pub primary-calm : Calm open_process_token
primary-calm = record {
  refuses = λ w by. refuses-primary w by;
  members = answers_alike refl (λ m c w by known k a mine fine right. same-primary m c w by a.c_in mine a.fair);
  alike = λ k u by live s ports c. alike-primary k u by live c;
}

-- NtQueryInformationToken
token-object_refuses : (w : World) (by : ThreadRow) (value : ℕ) → Refuses (object_test w by kind.Token TOKEN_RIGHT value)
token-object_refuses w by value =
    bind (own_handle w by value) _ (found (handle_at w by.process value) INVALID_HANDLE refl) (λ h.
    bind (refuse_if (not (same_kind h.object.kind kind.Token)) OBJECT_TYPE_MISMATCH) _ (if_refuses (not (same_kind h.object.kind kind.Token)) OBJECT_TYPE_MISMATCH refl) (λ _.
    bind (refuse_if (not (includes h.access TOKEN_RIGHT)) ACCESS_DENIED) _ (if_refuses (not (includes h.access TOKEN_RIGHT)) ACCESS_DENIED refl) (λ _. tt)))

refuses-ask : (w : World) (by : ThreadRow) (handle class : ℕ) → Refuses (served w by (query_information_token handle class))
unfolding nt_query_information_token
refuses-ask w by handle class =
    bind (token_test w by handle) _ (bind (object_test w by kind.Token TOKEN_RIGHT handle) _ (token-object_refuses w by handle) (λ b. found (token_row w b) INVALID_HANDLE refl)) (λ t.
    bind (found_or (told_of t class) INVALID_PARAMETER) _ (found (told_of t class) INVALID_PARAMETER refl) (λ _. tt))

token_row-view : (m : Group) (w : World) (b : Birth) → m b.process ≡ true → token_row (view m w) b ≡ token_row w b
token_row-view m w b inside = first-inside (our_token m) (is_token b) (λ t is. of_birth m t.birth b is ∙ inside) w.tokens

token_test-view : (m : Group) (c : ℕ) (w : World) (by : ThreadRow) (value : ℕ) → Fair m c w → m by.process ≡ true → token_test (view m w) by value ≡ token_test w by value
token_test-view m c w by value f inside =
    ap (λ r. r >>= (λ b. found_or (token_row (view m w) b) INVALID_HANDLE)) (object-view m w by kind.Token TOKEN_RIGHT value inside)
    ∙ bind-same (object_test w by kind.Token TOKEN_RIGHT value) _ _ (λ b at.
    let own : b.process ≡ by.process = holds_ok (λ b. b.process ≡ by.process) (object_test w by kind.Token TOKEN_RIGHT value) b (object-own m c w by kind.Token TOKEN_RIGHT value f) at in
    ap (λ o. found_or o INVALID_HANDLE) (token_row-view m w b (ap m own ∙ inside)))

same-ask : (m : Group) (c : ℕ) (w : World) (by : ThreadRow) (handle class : ℕ) → Fair m c w → m by.process ≡ true → served (view m w) by (query_information_token handle class) ≡ served w by (query_information_token handle class)
unfolding nt_query_information_token
same-ask m c w by handle class f inside = rw (token_test-view m c w by handle f inside) refl

token-object : (k : Alive) (u : World) (by : ThreadRow) (rights value : ℕ) → Closed k u → Holds (λ b. k.tokens b ≡ true) (object_test u by kind.Token rights value)
token-object k u by rights value c =
    let P : Birth → Type 0 = λ b. k.tokens b ≡ true in
    bind_holds (own_handle u by value) _ P (λ h at.
    bind_holds (refuse_if (not (same_kind h.object.kind kind.Token)) OBJECT_TYPE_MISMATCH) _ P (λ _ token.
    bind_holds (refuse_if (not (includes h.access rights)) ACCESS_DENIED) _ P (λ _ _.
    let closed : handle_closed k h ≡ true = every-first (handle_closed k) (has_value value) (handles_of u by.process) h (rows-closed k by.process u.handles (first (is_table by.process) u.handles) refl c.tables) (found_ok (handle_at u by.process value) INVALID_HANDLE h at) in
    let off : not (same_kind h.object.kind kind.Token) ≡ false = not_refused (not (same_kind h.object.kind kind.Token)) OBJECT_TYPE_MISMATCH _ token in
    let here : same_kind h.object.kind kind.Token ≡ true = grind arith in
    token-live-as k h.object.kind h.object.birth closed here)))

alike-ask : (k : Alive) (u : World) (by : ThreadRow) (handle class : ℕ) → Closed k u → served (thin k u) by (query_information_token handle class) ≡ served u by (query_information_token handle class)
unfolding nt_query_information_token
alike-ask k u by handle class c = ap (λ r. r >>= (λ t. found_or (told_of t class) INVALID_PARAMETER >>= (λ field. Ok (told_steps by field)))) test
  where
    test : token_test (thin k u) by handle ≡ token_test u by handle
    test = bind-same (object_test u by kind.Token TOKEN_RIGHT handle) (λ b. found_or (token_row (thin k u) b) INVALID_HANDLE) (λ b. found_or (token_row u b) INVALID_HANDLE) (λ b at.
        let live : k.tokens b ≡ true = holds_ok (λ b. k.tokens b ≡ true) (object_test u by kind.Token TOKEN_RIGHT handle) b (token-object k u by TOKEN_RIGHT handle c) at in
        ap (λ o. found_or o INVALID_HANDLE) (first-inside (token_alive k) (is_token b) (λ t its. ap k.tokens (birth-same t.birth b its) ∙ live) u.tokens))

pub ask-calm : (handle class : ℕ) → Calm (query_information_token handle class)
ask-calm handle class = record {
  refuses = λ w by. refuses-ask w by handle class;
  members = answers_alike refl (λ m c w by known k a mine fine right. same-ask m c w by handle class a.fair (ap m mine ∙ a.c_in));
  alike = λ k u by live s ports c. alike-ask k u by handle class c;
}

-- NtImpersonateClientOfPort
refuses-impersonate : (w : World) (by : ThreadRow) (handle : ℕ) (bytes : List ℕ) → Refuses (served w by (impersonate_client_of_port handle bytes))
unfolding nt_impersonate_client_of_port
refuses-impersonate w by handle bytes =
    bind (port_test w by handle) _ (port w by handle) (λ p.
    bind (message_test bytes) _ (message bytes) (λ b.
    bind (refuse_if (not (is_server_port p)) INVALID_PORT_HANDLE) _ (if_refuses (not (is_server_port p)) INVALID_PORT_HANDLE refl) (λ _.
    bind (client_test w b.header.client) _ (client w b.header.client) (λ _.
    bind (found_or (first (is_served_by p b) w.waits) REPLY_MESSAGE_MISMATCH) _ (found (first (is_served_by p b) w.waits) REPLY_MESSAGE_MISMATCH refl) (λ x.
    bind (found_or (allowed_by w x) REPLY_MESSAGE_MISMATCH) _ (found (allowed_by w x) REPLY_MESSAGE_MISMATCH refl) (λ own. tt))))))

-- what the client's port allows, by who the client is
abbrev allowed_on : World → Option ThreadRow → Option PortRow → Option Impersonation
allowed_on w o row = option_and_then (λ (p : PortRow). option_and_then (allowed w p.security) o) row

allowed-alike : (v w : World) (o : Option ThreadRow) (row : Option PortRow) → ((t : ThreadRow) → o ≡ Some t → token_of v t.process ≡ token_of w t.process) → allowed_on v o row ≡ allowed_on w o row
allowed-alike v w o None same = refl
allowed-alike v w None (Some p) same = refl
allowed-alike v w (Some t) (Some p) same = at p.security
  where
    tracked-alike : (q : Qos) (kept : Effective) (tracking : Tracking) → q.tracking ≡ tracking → tracked v q kept t ≡ tracked w q kept t
    tracked-alike q kept Static is = rw is refl
    tracked-alike q kept Dynamic is = rw is (ap (λ (token : Token). effective token t.own) (same t refl))

    at : (s : Security) → allowed v s t ≡ allowed w s t
    at Unsecured = refl
    at (Guarded dacl) = refl
    at (Allows q kept) = ap (λ (e : Effective). Some (passed_on q e)) (tracked-alike q kept q.tracking refl)

abbrev rest_at : World → ThreadRow → WaitRow → Result (List Basic) Status
rest_at w by x = found_or (allowed_by w x) REPLY_MESSAGE_MISMATCH >>= (λ own. Ok (impersonate_steps by own))

-- where rows have gone
alike-impersonate : (k : Alive) (u : World) (by : ThreadRow) (handle : ℕ) (bytes : List ℕ) → Closed k u → served (thin k u) by (impersonate_client_of_port handle bytes) ≡ served u by (impersonate_client_of_port handle bytes)
unfolding nt_impersonate_client_of_port
alike-impersonate k u by handle bytes c =
    rw (port-thin k u by handle c) (bind-same (port_test u by handle) _ _ (λ p _.
    bind-same (message_test bytes) _ _ (λ b _.
    bind-same (refuse_if (not (is_server_port p)) INVALID_PORT_HANDLE) _ _ (λ _ _.
    rw (client-thin k u b.header.client c) (bind-same (client_test u b.header.client) _ _ (λ _ _.
    bind-same (found_or (first (is_served_by p b) u.waits) REPLY_MESSAGE_MISMATCH) _ _ (λ x at.
    ap (λ o. found_or o REPLY_MESSAGE_MISMATCH >>= (λ own. Ok (impersonate_steps by own))) (allowed-thin x (first-true _ _ (every-first (wait_closed k) (is_served_by p b) u.waits x c.waits (found_ok (first (is_served_by p b) u.waits) REPLY_MESSAGE_MISMATCH x at)))))))))))
  where
    allowed-thin : (x : WaitRow) → k.ports x.port ≡ true → allowed_by (thin k u) x ≡ allowed_by u x
    allowed-thin x live =
        ap (allowed_on (thin k u) (live_thread (thin k u) x.thread)) (row-thin k u x.port live)
        ∙ ap (λ o. allowed_on (thin k u) o (port_row u x.port)) (live-thin k u x.thread c)
        ∙ allowed-alike (thin k u) u (live_thread u x.thread) (port_row u x.port) (λ t some. token-thin k u t (subst (λ n. live_thread u n ≡ Some t) (sym (live-number u x.thread t some)) some) c)

-- c's clients are members, and so are their requests' queues
served-in : (m : Group) (w : World) (p : PortRow) (x : WaitRow) (o : Option Birth) → pair_of w x.port ≡ o → is_the p.birth o ≡ true → m p.birth.process ≡ true → m x.process ≡ true → is_request x ≡ true → is_way m w x ≡ true → our_wait m x ≡ true
served-in m w p x None pair back inside process request way = absurd (cc)
served-in m w p x (Some r) pair back inside process request way = at (m x.queue.process) (same_birth x.queue r) refl refl
  where
    at : (a e : Bool) → m x.queue.process ≡ a → same_birth x.queue r ≡ e → our_wait m x ≡ true
    at true e q_in its = rw (process, q_in) refl
    at false true q_in its =
        let same : m x.queue.process ≡ m p.birth.process = of_birth m x.queue r its ∙ sym (of_birth m p.birth r back) in
        let both : m x.queue.process ≡ true = same ∙ inside in absurd (cc)
    at false false q_in its = let off : false ≡ true = rw (request, process, q_in, pair, its) at way in absurd (cc)

named-process : (x : WaitRow) (b : Message) → names_wait x b ≡ true → (x.process == b.header.client.process) ≡ true
named-process x b is = grind arith

named-thread : (x : WaitRow) (b : Message) → names_wait x b ≡ true → (x.thread == b.header.client.thread) ≡ true
named-thread x b is = grind arith

-- the other end of a port's pair has the port as its own
mutual-back : (w : World) (p : PortRow) (b : Birth) → port_row w p.birth ≡ Some p → is_the b p.pair ≡ true → IsLinked w → is_the p.birth (pair_of w b) ≡ true
mutual-back w p b row on l = at p.pair refl on (every-first (is_mutual w) (is_port p.birth) w.ports p l.pairs row)
  where
    at : (o : Option Birth) → p.pair ≡ o → is_the b o ≡ true → is_mutual w p ≡ true → is_the p.birth (pair_of w b) ≡ true
    at None is on pairs = absurd (cc)
    at (Some q) is on pairs = let same : b ≡ q = birth-same b q on in subst (λ b. is_the p.birth (pair_of w b) ≡ true) (sym same) (rw is at pairs)

same-served : (m : Group) (c : ℕ) (w : World) (by : ThreadRow) (known : List ℕ → Birth) (p : PortRow) (b : Message) → At m c w by known → port_row w p.birth ≡ Some p → m p.birth.process ≡ true → m b.header.client.process ≡ true → first (is_served_by p b) (view m w).waits ≡ first (is_served_by p b) w.waits
same-served m c w by known p b a row inside client_in =
    first-where (is_way m w) (our_wait m) (is_served_by p b) (λ x way is.
    let parts = first-true (names_wait x b) _ is in
    let rest = second-true (names_wait x b) _ is in
    let on : is_the x.port p.pair ≡ true = second-true x.received _ (second-true (is_request x) _ rest) in
    let process : m x.process ≡ true = ap m (eqb-true _ _ (named-process x b parts)) ∙ client_in in
    served-in m w p x (pair_of w x.port) refl (mutual-back w p x.port row on a.linked) inside process (first-true (is_request x) _ rest) way) w.waits a.ways

same-impersonate-at : (m : Group) (c : ℕ) (w : World) (by : ThreadRow) (p : PortRow) (b : Message) (x : WaitRow) → Fair m c w → is_no_outsiders_thread m w b.header.client.thread ≡ true → is_client w b.header.client ≡ true → x.thread ≡ b.header.client.thread → m x.port.process ≡ true → m b.header.client.process ≡ true → allowed_by (view m w) x ≡ allowed_by w x
same-impersonate-at m c w by p b x f named client thread port_in client_in =
    ap (allowed_on (view m w) (live_thread (view m w) x.thread)) (port-view m w x.port port_in)
    ∙ seen-row (live_thread (view m w) x.thread) (port_row w x.port)
    ∙ ap (λ o. allowed_on (view m w) o (port_row w x.port)) (ap (live_thread (view m w)) thread ∙ c-live m c w b.header.client.thread f named ∙ ap (live_thread w) (sym thread))
    ∙ allowed-alike (view m w) w (live_thread w x.thread) (port_row w x.port) (λ t some. token-view m w t.process (owned-in t (ap (live_thread w) (sym thread) ∙ some)))
  where
    seen-row : (o : Option ThreadRow) (row : Option PortRow) → allowed_on (view m w) o (option_map (seen_port m) row) ≡ allowed_on (view m w) o row
    seen-row o None = refl
    seen-row o (Some q) = refl

    owned-in : (t : ThreadRow) → live_thread w b.header.client.thread ≡ Some t → m t.process ≡ true
    owned-in t some = let same : (t.process == b.header.client.process) ≡ true = rw some at client in ap m (eqb-true _ _ same) ∙ client_in

pub same-impersonate : (m : Group) (c : ℕ) (w : World) (by : ThreadRow) (known : List ℕ → Birth) (handle : ℕ) (bytes : List ℕ) → At m c w by known → by.process ≡ c → names_no_outsider m w bytes ≡ true → served (view m w) by (impersonate_client_of_port handle bytes) ≡ served w by (impersonate_client_of_port handle bytes)
unfolding nt_impersonate_client_of_port
same-impersonate m c w by known handle bytes a mine fine =
    rw (c-port_test m c w by handle a.c_in mine a.fair) (bind-same (port_test w by handle) _ _ (λ p at.
    let own = holds_ok (λ (p : PortRow). (p.birth.process ≡ by.process) × (port_row w p.birth ≡ Some p)) (port_test w by handle) p (port-own m c w by handle a.fair) at in
    let p_in : m p.birth.process ≡ true = ap m (own.0 ∙ mine) ∙ a.c_in in
    bind-same (message_test bytes) _ _ (λ b read.
    let named = message-names m w bytes b read fine in
    bind-same (refuse_if (not (is_server_port p)) INVALID_PORT_HANDLE) _ _ (λ _ _.
    rw (c-client m c w b.header.client a.fair named) (bind-same (client_test w b.header.client) _ _ (λ u is.
    let client : is_client w b.header.client ≡ true = not-false (is_client w b.header.client) (not_refused (not (is_client w b.header.client)) INVALID_CID u is) in
    let client_in : m b.header.client.process ≡ true = client-member m c w b.header.client a.fair named client in
    ap (λ o. found_or o REPLY_MESSAGE_MISMATCH >>= rest_at (view m w) by) (same-served m c w by known p b a own.1 p_in client_in)
    ∙ bind-same (found_or (first (is_served_by p b) w.waits) REPLY_MESSAGE_MISMATCH) (rest_at (view m w) by) (rest_at w by) (λ x there.
    let found = found_ok (first (is_served_by p b) w.waits) REPLY_MESSAGE_MISMATCH x there in
    let its = first-true (names_wait x b) _ (first-passes (is_served_by p b) w.waits x found) in
    let fair = every-first (is_fair_wait m c) (is_served_by p b) w.waits x a.fair.waits found in
    let process : m x.process ≡ true = ap m (eqb-true _ _ (named-process x b its)) ∙ client_in in
    ap (λ o. found_or o REPLY_MESSAGE_MISMATCH >>= (λ own. Ok (impersonate_steps by own)))
    (same-impersonate-at m c w by p b x a.fair named client (eqb-true _ _ (named-thread x b its)) (port-side m x (first-true _ _ fair) ∙ process) client_in))))))))

pub impersonate-calm : (handle : ℕ) (bytes : List ℕ) → Calm (impersonate_client_of_port handle bytes)
impersonate-calm handle bytes = record {
  refuses = λ w by. refuses-impersonate w by handle bytes;
  members = answers_alike refl (λ m c w by known k a mine fine right. same-impersonate m c w by known handle bytes a mine fine);
  alike = λ k u by live s ports c. alike-impersonate k u by handle bytes c;
}
