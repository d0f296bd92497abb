-- What the tests of the calls on described ranges find: a request, and a view of its client's process. They find it in a view
-- of a group too, and where rows have gone.
use Rattle.std.proofs.Common.{◌≡◌, ℕ, List, [], ◌∷◌, Bool, true, false, cond, not, Option, Some, None, refl, ap, sym, subst, ◌∙◌, arith}
use Rattle.std.specs.Prelude.{◌==◌, Result, Ok, Err, option_map}
use Rattle.std.proofs.lemmas.Bool.{eqb-true, not-false}
use Rattle.lpc_base.specs.Rows.{first, has, passes}
use Rattle.lpc_base.proofs.RowWords.{first-passes}
use Rattle.lpc_base.proofs.Births.{birth-self}
use Rattle.lpc_base.specs.declared.status.Status.{Status}
use Rattle.lpc_base.specs.declared.status.TheConstants.{ACCESS_VIOLATION, INVALID_CID, REPLY_MESSAGE_MISMATCH}
use Rattle.lpc_message.specs.declared.message.ClientId.{ClientId}
use Rattle.lpc_message.specs.declared.message.Range.{Range}
use Rattle.lpc_model.specs.declared.message.Message.{Message}
use Rattle.lpc_model.specs.World.{PortRow, ThreadRow, ViewRow, ViewTable, WaitRow, World}
use Rattle.lpc_model.specs.Found.{fits, fitted, is_space, live_thread, port_row, shows_section, view_holding, views_in}
use Rattle.lpc_model.specs.Message.{message_test}
use Rattle.lpc_model.specs.Refusal.{found_or}
use Rattle.lpc_model.specs.Request.{reply_test}
use Rattle.lpc_model.specs.Tests.{client_test, is_client, port_test}
use Rattle.lpc_model.specs.Then.{◌>>=◌}
use Rattle.lpc_model.specs.Ranges.{Described, asked_test, described_test, range_test, request_test}
use Rattle.lpc_model.specs.Circle.{Group, is_no_outsiders_thread, names_no_outsider, outsider_sees, owner}
use Rattle.lpc_model.proofs.Calls.Holding.{Holds, bind_holds, found_holds, holds-more, holds_ok, not_refused}
use Rattle.lpc_isolation.proofs.Views.View.{our_wait, seen_port, seen_view, view}
use Rattle.lpc_isolation.proofs.Views.Filters.{first-outside}
use Rattle.lpc_isolation.proofs.Views.Seen.{bind-map, bind-same, live-owner, port-own, port_test-view, result_map}
use Rattle.lpc_isolation.proofs.Views.Callers.{on_ok}
use Rattle.lpc_isolation.proofs.Views.Mine.{Ways, c-answered, c-port_test, client-member, fit-process, message-names}
use Rattle.lpc_isolation.proofs.Views.Places.{holding-view}
use Rattle.lpc_isolation.proofs.Gone.Thin.{Alive, Closed, client-thin, thin}
use Rattle.lpc_isolation.proofs.Gone.ThinCalls.{fitted-thin, port-thin}
use Rattle.lpc_isolation.proofs.Rows.Fair.{Fair}

-- What is found
-- a request, by a message that fits it
pub record IsAsked (w : World) (by : ThreadRow) (handle : ℕ) (bytes : List ℕ) (x : WaitRow) : Type 0 where
  pub port : PortRow
  pub message : Message
  pub port_found : port_test w by handle ≡ Ok port
  pub message_read : message_test bytes ≡ Ok message
  pub client : is_client w message.header.client ≡ true
  pub fits : fitted w port.birth message ≡ Some x
  pub request : (v : Unit {0}) × (request_test x ≡ Ok v)

pub asked-is : (w : World) (by : ThreadRow) (handle : ℕ) (bytes : List ℕ) → Holds (IsAsked w by handle bytes) (asked_test w by handle bytes)
asked-is w by handle bytes =
    let P : WaitRow → Type 0 = IsAsked w by handle bytes in
    bind_holds (port_test w by handle) _ P (λ p at.
    bind_holds (message_test bytes) _ P (λ a read.
    bind_holds (reply_test w p a) _ P (λ x is.
    bind_holds (request_test x) _ P (λ v asks.
    let Q : WaitRow → Type 0 = λ x. (is_client w a.header.client ≡ true) × (fitted w p.birth a ≡ Some x) in
    let both : Q x = holds_ok Q (reply_test w p a) x (bind_holds (client_test w a.header.client) _ Q (λ u off. found_holds Q (fitted w p.birth a) REPLY_MESSAGE_MISMATCH (λ x fit. (not-false (is_client w a.header.client) (not_refused (not (is_client w a.header.client)) INVALID_CID u off), fit)))) is in
    record {
      port = p;
      message = a;
      port_found = at;
      message_read = read;
      client = both.0;
      fits = both.1;
      request = (v, asks);
    }))))

-- its process is the one that the message names
asked-client : (w : World) (by : ThreadRow) (handle : ℕ) (bytes : List ℕ) (x : WaitRow) (a : IsAsked w by handle bytes x) → x.process ≡ a.message.header.client.process
asked-client w by handle bytes x a = eqb-true _ _ (fit-process w a.port.birth a.message x (first-passes (fits w a.port.birth a.message) w.waits x a.fits))

-- a view of a request's client that holds a part of a range of the request
pub record IsDescribed (w : World) (by : ThreadRow) (handle : ℕ) (bytes : List ℕ) (index n : ℕ) (d : Described) : Type 0 where
  pub wait : WaitRow
  pub range : Range
  pub asked : asked_test w by handle bytes ≡ Ok wait
  pub held : view_holding w wait.process range.base n ≡ Some d.view

pub described-is : (w : World) (by : ThreadRow) (handle : ℕ) (bytes : List ℕ) (index n : ℕ) → Holds (IsDescribed w by handle bytes index n) (described_test w by handle bytes index n)
described-is w by handle bytes index n =
    let P : Described → Type 0 = IsDescribed w by handle bytes index n in
    bind_holds (asked_test w by handle bytes) _ P (λ x at.
    bind_holds (range_test x index n) _ P (λ r _.
    bind_holds (found_or (view_holding w x.process r.base n) ACCESS_VIOLATION) _ P (λ v held.
    holds_ok (λ v. P (record { address = r.base; view = v })) (found_or (view_holding w x.process r.base n) ACCESS_VIOLATION) v
    (found_holds (λ v. P (record { address = r.base; view = v })) (view_holding w x.process r.base n) ACCESS_VIOLATION (λ v some. record { wait = x; range = r; asked = at; held = some })) held)))

-- an outsider's view shows what an outsider sees
among : {X : Type 0} (p q : X → Bool) (xs : List X) (x : X) → first p xs ≡ Some x → q x ≡ true → has q xs ≡ true
among p q [] x is ok = absurd (cc)
among p q (y ∷ ys) x is ok = grind (arith, among p q ys x)

pub behind : {X : Type 0} (q : X → Bool) (x : X) (xs : List X) → has q xs ≡ true → has q (x ∷ xs) ≡ true
behind q x xs is = grind arith

pub outsiders-view : (m : Group) (pid : ℕ) (test : ViewRow → Bool) (v : ViewRow) (ts : List ViewTable) → m pid ≡ false → first test (views_in (first (is_space pid) ts)) ≡ Some v → has (outsider_sees m v.section) ts ≡ true
outsiders-view m pid test v [] out is = absurd (cc)
outsiders-view m pid test v (t ∷ ts) out is = at (is_space pid t) refl is (outsiders-view m pid test v ts out)
  where
    at : (b : Bool) → is_space pid t ≡ b → first test (views_in (cond b (Some t) (first (is_space pid) ts))) ≡ Some v → (first test (views_in (first (is_space pid) ts)) ≡ Some v → has (outsider_sees m v.section) ts ≡ true) → has (outsider_sees m v.section) (t ∷ ts) ≡ true
    at true here is rest =
        let process : m t.process ≡ false = ap m (eqb-true t.process pid here) ∙ out in
        let sees : has (shows_section v.section) t.rows ≡ true = among test (shows_section v.section) t.rows v is (birth-self v.section) in
        rw (process, sees) refl
    at false there is rest = behind (outsider_sees m v.section) t ts (rest is)

-- In a view of a group
abbrev pub seen_described : Group → Described → Described
seen_described m d = record d { view = seen_view m d.view }

-- the parts of a test that follow the request's
abbrev shown_at : World → WaitRow → ℕ → Range → Result Described Status
shown_at w x n r = found_or (view_holding w x.process r.base n) ACCESS_VIOLATION >>= (λ v. Ok (record { address = r.base; view = v }))

abbrev ranged_at : World → ℕ → ℕ → WaitRow → Result Described Status
ranged_at w index n x = range_test x index n >>= (λ r. shown_at w x n r)

shown-view : (m : Group) (w : World) (x : WaitRow) (n : ℕ) (r : Range) → m x.process ≡ true → shown_at (view m w) x n r ≡ result_map (seen_described m) (shown_at w x n r)
shown-view m w x n r inside = ap (λ o. found_or o ACCESS_VIOLATION >>= (λ v. Ok (record { address = r.base; view = v }))) (holding-view m w x.process r.base n inside) ∙ at (view_holding w x.process r.base n)
  where
    at : (o : Option ViewRow) → (found_or (option_map (seen_view m) o) ACCESS_VIOLATION >>= (λ v. Ok (record { address = r.base; view = v }))) ≡ result_map (seen_described m) (found_or o ACCESS_VIOLATION >>= (λ v. Ok (record { address = r.base; view = v })))
    at None = refl
    at (Some v) = refl

-- where the request is found alike, and is a member's, so is the client's view
pub described-view : (m : Group) (w : World) (by : ThreadRow) (handle : ℕ) (bytes : List ℕ) (index n : ℕ) → asked_test (view m w) by handle bytes ≡ asked_test w by handle bytes → Holds (λ (x : WaitRow). m x.process ≡ true) (asked_test w by handle bytes)
    → described_test (view m w) by handle bytes index n ≡ result_map (seen_described m) (described_test w by handle bytes index n)
described-view m w by handle bytes index n same inside =
    ap (λ r. r >>= ranged_at (view m w) index n) same
    ∙ bind-same (asked_test w by handle bytes) (ranged_at (view m w) index n) (λ x. result_map (seen_described m) (ranged_at w index n x)) (λ x at.
    let x_in : m x.process ≡ true = holds_ok (λ (x : WaitRow). m x.process ≡ true) (asked_test w by handle bytes) x inside at in
    bind-same (range_test x index n) (λ r. shown_at (view m w) x n r) (λ r. result_map (seen_described m) (shown_at w x n r)) (λ r _. shown-view m w x n r x_in)
    ∙ bind-map (range_test x index n) (λ r. shown_at w x n r) (seen_described m))
    ∙ bind-map (asked_test w by handle bytes) (ranged_at w index n) (seen_described m)

-- c's own call finds the request alike, and that is a member's
c-asked : (m : Group) (c : ℕ) (w : World) (by : ThreadRow) (handle : ℕ) (bytes : List ℕ) → m c ≡ true → by.process ≡ c → Fair m c w → Ways m w → names_no_outsider m w bytes ≡ true → asked_test (view m w) by handle bytes ≡ asked_test w by handle bytes
c-asked m c w by handle bytes c_in mine f ways inside =
    rw (c-port_test m c w by handle c_in mine f) (bind-same (port_test w by handle) _ _ (λ p at.
    bind-same (message_test bytes) _ _ (λ a is.
    let p_in : m p.birth.process ≡ true = ap m ((holds_ok _ (port_test w by handle) p (port-own m c w by handle f) at).0 ∙ mine) ∙ c_in in
    ap (λ r. r >>= (λ x. request_test x >>= (λ _. Ok x))) (c-answered m c w p a f ways p_in (message-names m w bytes a is inside)))))

pub c-client_in : (m : Group) (c : ℕ) (w : World) (by : ThreadRow) (handle : ℕ) (bytes : List ℕ) → Fair m c w → names_no_outsider m w bytes ≡ true → Holds (λ (x : WaitRow). m x.process ≡ true) (asked_test w by handle bytes)
c-client_in m c w by handle bytes f inside =
    holds-more (IsAsked w by handle bytes) (λ (x : WaitRow). m x.process ≡ true) (asked_test w by handle bytes) (λ x a.
    ap m (asked-client w by handle bytes x a) ∙ client-member m c w a.message.header.client f (message-names m w bytes a.message a.message_read inside) a.client)
    (asked-is w by handle bytes)

pub c-described : (m : Group) (c : ℕ) (w : World) (by : ThreadRow) (handle : ℕ) (bytes : List ℕ) (index n : ℕ) → m c ≡ true → by.process ≡ c → Fair m c w → Ways m w → names_no_outsider m w bytes ≡ true
    → described_test (view m w) by handle bytes index n ≡ result_map (seen_described m) (described_test w by handle bytes index n)
c-described m c w by handle bytes index n c_in mine f ways inside = described-view m w by handle bytes index n (c-asked m c w by handle bytes c_in mine f ways inside) (c-client_in m c w by handle bytes f inside)

-- another member's call finds a member's request
member-thread : (m : Group) (c : ℕ) (w : World) (client : ClientId) → Fair m c w → is_client w client ≡ true → m client.process ≡ true → is_no_outsiders_thread m w client.thread ≡ true
member-thread m c w client f is inside = at (live_thread w client.thread) refl is
  where
    at : (o : Option ThreadRow) → live_thread w client.thread ≡ o → passes o (λ (t : ThreadRow). t.process == client.process) ≡ true → is_no_outsiders_thread m w client.thread ≡ true
    at None none is = absurd (cc)
    at (Some t) some is =
        let own : owner w client.thread ≡ Some t.process = live-owner m c w client.thread t f some in
        let t_in : m t.process ≡ true = ap m (eqb-true t.process client.process is) ∙ inside in
        rw (own, t_in) refl

asked-view : (m : Group) (c : ℕ) (w : World) (by : ThreadRow) (handle : ℕ) (bytes : List ℕ) (x : WaitRow) → Fair m c w → Ways m w → m by.process ≡ true → asked_test w by handle bytes ≡ Ok x → m x.process ≡ true → asked_test (view m w) by handle bytes ≡ Ok x
asked-view m c w by handle bytes x f ways inside at x_in =
    let a : IsAsked w by handle bytes x = holds_ok (IsAsked w by handle bytes) (asked_test w by handle bytes) x (asked-is w by handle bytes) at in
    let port : port_test (view m w) by handle ≡ Ok (seen_port m a.port) = port_test-view m c w by handle f inside ∙ ap (result_map (seen_port m)) a.port_found in
    let own : m a.port.birth.process ≡ true = ap m (holds_ok (λ (p : PortRow). (p.birth.process ≡ by.process) × (port_row w p.birth ≡ Some p)) (port_test w by handle) a.port (port-own m c w by handle f) a.port_found).0 ∙ inside in
    let client_in : m a.message.header.client.process ≡ true = sym (ap m (asked-client w by handle bytes x a)) ∙ x_in in
    let same : reply_test (view m w) a.port a.message ≡ reply_test w a.port a.message = c-answered m c w a.port a.message f ways own (member-thread m c w a.message.header.client f a.client client_in) in
    let fit : reply_test w a.port a.message ≡ Ok x = let client = a.client in let fits = a.fits in rw (client, fits) refl in
    ap (λ r. r >>= (λ p. message_test bytes >>= (λ b. reply_test (view m w) p b >>= (λ x. request_test x >>= (λ _. Ok x))))) port
    ∙ ap (λ r. r >>= (λ b. reply_test (view m w) (seen_port m a.port) b >>= (λ x. request_test x >>= (λ _. Ok x)))) a.message_read
    ∙ ap (λ r. r >>= (λ x. request_test x >>= (λ _. Ok x))) (same ∙ fit)
    ∙ ap (λ r. r >>= (λ _. Ok x)) a.request.1

pub member-described : (m : Group) (c : ℕ) (w : World) (by : ThreadRow) (handle : ℕ) (bytes : List ℕ) (index n : ℕ) (d : Described) (is : IsDescribed w by handle bytes index n d) → Fair m c w → Ways m w → m by.process ≡ true → m is.wait.process ≡ true
    → described_test (view m w) by handle bytes index n ≡ result_map (seen_described m) (described_test w by handle bytes index n)
member-described m c w by handle bytes index n d is f ways inside x_in =
    described-view m w by handle bytes index n (asked-view m c w by handle bytes is.wait f ways inside is.asked x_in ∙ sym is.asked)
    (subst (Holds (λ (x : WaitRow). m x.process ≡ true)) (sym is.asked) x_in)

-- an outsider's request is in no view
asked-unseen : (m : Group) (w : World) (by : ThreadRow) (handle : ℕ) (bytes : List ℕ) → ((a : Message) → message_test bytes ≡ Ok a → m a.header.client.process ≡ false) → Holds (λ (x : WaitRow). ⊥) (asked_test (view m w) by handle bytes)
asked-unseen m w by handle bytes out =
    let P : WaitRow → Type 0 = λ x. ⊥ in
    bind_holds (port_test (view m w) by handle) _ P (λ p at.
    bind_holds (message_test bytes) _ P (λ a read.
    bind_holds (reply_test (view m w) p a) _ P (λ x is. absurd (holds_ok P (reply_test (view m w) p a) x
    (bind_holds (client_test (view m w) a.header.client) _ P (λ u off.
    found_holds P (fitted (view m w) p.birth a) REPLY_MESSAGE_MISMATCH (λ x fit.
    let none : fitted (view m w) p.birth a ≡ None = first-outside (our_wait m) (fits (view m w) p.birth a) (λ x is. unseen p a (out a read) x is) w.waits in
    let both : None ≡ Some x = sym none ∙ fit in absurd (cc)))) is))))
  where
    unseen : (p : PortRow) (a : Message) → m a.header.client.process ≡ false → (x : WaitRow) → fits (view m w) p.birth a x ≡ true → our_wait m x ≡ false
    unseen p a off x is = let x_out : m x.process ≡ false = ap m (eqb-true _ _ (fit-process (view m w) p.birth a x is)) ∙ off in rw x_out refl

none-given : {A B : Type 0} (r : Result A Status) (f : A → List B) → Holds (λ (x : A). ⊥) r → on_ok r f ≡ []
none-given (Ok x) f never = absurd never
none-given (Err s) f never = refl

pub outsiders-described : {B : Type 0} (m : Group) (w : World) (by : ThreadRow) (handle : ℕ) (bytes : List ℕ) (index n : ℕ) (d : Described) (is : IsDescribed w by handle bytes index n d) (f : Described → List B) → m is.wait.process ≡ false → on_ok (described_test (view m w) by handle bytes index n) f ≡ []
outsiders-described m w by handle bytes index n d is f out =
    let a : IsAsked w by handle bytes is.wait = holds_ok (IsAsked w by handle bytes) (asked_test w by handle bytes) is.wait (asked-is w by handle bytes) is.asked in
    let named : (b : Message) → message_test bytes ≡ Ok b → m b.header.client.process ≡ false
    = λ b read. let both : Ok a.message ≡ Ok b = sym a.message_read ∙ read in let same : a.message ≡ b = cc in ap (λ (b : Message). m b.header.client.process) (sym same) ∙ sym (ap m (asked-client w by handle bytes is.wait a)) ∙ out in
    let none = asked-unseen m w by handle bytes named in
    none-given (described_test (view m w) by handle bytes index n) f
    (bind_holds (asked_test (view m w) by handle bytes) _ (λ (d : Described). ⊥) (λ x at. absurd (holds_ok (λ (x : WaitRow). ⊥) (asked_test (view m w) by handle bytes) x none at)))

-- Where rows have gone
asked-thin : (k : Alive) (u : World) (by : ThreadRow) (handle : ℕ) (bytes : List ℕ) → Closed k u → asked_test (thin k u) by handle bytes ≡ asked_test u by handle bytes
asked-thin k u by handle bytes c =
    rw (port-thin k u by handle c) (bind-same (port_test u by handle) _ _ (λ p _. bind-same (message_test bytes) _ _ (λ m _. rw (client-thin k u m.header.client c, fitted-thin k u p.birth m c) refl)))

pub described-thin : (k : Alive) (u : World) (by : ThreadRow) (handle : ℕ) (bytes : List ℕ) (index n : ℕ) → Closed k u → described_test (thin k u) by handle bytes index n ≡ described_test u by handle bytes index n
described-thin k u by handle bytes index n c = ap (λ r. r >>= ranged_at u index n) (asked-thin k u by handle bytes c)
