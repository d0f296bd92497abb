-- What a line may make is alive with what stands: it has births that no row has.
use Rattle.std.proofs.Common.{◌≡◌, ℕ, List, [], ◌∷◌, Bool, true, false, not, Option, Some, None, refl, ap, sym, subst, arith}
use Rattle.std.specs.Prelude.{◌&&◌, ◌||◌, ◌==◌, Ok, Err, Result}
use Rattle.std.proofs.lemmas.Bool.{and_from, eqb-true, or_left, or_right}
use Rattle.lpc_base.specs.Rows.{every, which}
use Rattle.lpc_base.proofs.RowWords.{every-more, every-true}
use Rattle.lpc_base.proofs.RowMaps.{every-both}
use Rattle.lpc_base.proofs.Bools.{first-true, same-number, second-true}
use Rattle.lpc_base.proofs.Births.{birth-self}
use Rattle.lpc_model.specs.declared.entry.ObjectKind.{ObjectKind}
use Rattle.lpc_model.specs.declared.entry.ObjectKind.TheVariants as kind
use Rattle.lpc_model.specs.declared.entry.Word.TheVariants as word
use Rattle.lpc_model.specs.World.{Birth, Contents, Known, PortRow, ProcessRow, SectionRow, ThreadRow, Unknown, World, Offer, Token, TokenRow}
use Rattle.lpc_model.specs.Found.{all_registrations, is_live, live_thread, same_birth, was_process, was_thread, offer_of, event_ports_of}
use Rattle.lpc_model.specs.Basics.{Basic, in_known}
use Rattle.lpc_model.specs.Lines.{ScriptCall, boot, create_process, thread}
use Rattle.lpc_model.specs.Machine.{own_steps, boot_line, directive_birth, thread_line, thread_test, boot_steps, boot_token, directed}
use Rattle.lpc_model.specs.Creation.{second_birth, unused_test}
use Rattle.lpc_model.specs.Tests.{next_birth}
use Rattle.lpc_model.specs.SoundWaits.{IsSoundWorld}
use Rattle.lpc_model.proofs.Calls.Creating.{tested-further}
use Rattle.lpc_model.proofs.Calls.Holding.{bind_holds, directed_holds, holds_ok}
use Rattle.lpc_isolation.proofs.Gone.Served.{own_served}
use Rattle.lpc_isolation.proofs.Gone.Fresh.{next-new}
use Rattle.lpc_isolation.proofs.Gone.Thin.{Alive, Closed, alive_as, all_alive, handle_closed, message_closed, content_alive, port_alive, port_closed, port_cut, process_alive, process_closed, section_alive, table_closed, thin, thread_alive, thread_closed, space_closed, view_closed, wait_closed, offer_alive, token_alive, hearer_closed}
use Rattle.lpc_isolation.proofs.Gone.ThinCalls.{AreClosed}
use Rattle.lpc_isolation.proofs.Calls.Laws.{Room, home-live, is_home}
use Rattle.lpc_isolation.proofs.Gone.Born.{Born, content_rows, directed-processes, directed-threads, next-contents, next-process, next-sections, next-threads, next-tokens}
use Rattle.lpc_model.specs.Then.{◌>>=◌}
use Rattle.lpc_base.specs.declared.status.Status.{Status}

-- what stands, and more
abbrev pub either : Alive → Alive → Alive
either n k = record {
  ports = λ b. k.ports b || n.ports b;
  sections = λ b. k.sections b || n.sections b;
  tokens = λ b. k.tokens b || n.tokens b;
  processes = λ b. k.processes b || n.processes b;
  threads = λ b. k.threads b || n.threads b;
  homes = λ i. k.homes i || n.homes i;
}

-- no row has a birth, or a process a number, of these
pub record IsNew (n : Alive) (u : World) : Type 0 where
  pub ports : every (λ p. not (n.ports p.birth)) u.ports ≡ true
  pub sections : every (λ s. not (n.sections s.birth)) u.sections ≡ true
  pub contents : every (λ c. not (n.sections c.section)) (content_rows u.contents) ≡ true
  pub tokens : every (λ t. not (n.tokens t.birth)) u.tokens ≡ true
  pub processes : every (λ p. not (n.processes p.birth) && not (n.homes p.number)) u.processes ≡ true
  pub threads : every (λ t. not (n.threads t.birth)) u.threads ≡ true

as-more : (n k : Alive) (s : ObjectKind) (b : Birth) → alive_as k s b ≡ true → alive_as (either n k) s b ≡ true
as-more n k kind.Port b is = or_left (k.ports b) (n.ports b) is
as-more n k kind.Section b is = or_left (k.sections b) (n.sections b) is
as-more n k kind.Token b is = or_left (k.tokens b) (n.tokens b) is
as-more n k kind.Process b is = or_left (k.processes b) (n.processes b) is
as-more n k kind.Thread b is = or_left (k.threads b) (n.threads b) is

all-more : (n k : Alive) (o : Option Birth) → all_alive k.ports o ≡ true → all_alive (either n k).ports o ≡ true
all-more n k None is = refl
all-more n k (Some b) is = or_left (k.ports b) (n.ports b) is

port-more : (n k : Alive) (p : PortRow) → port_closed k p ≡ true → not (n.ports p.birth) ≡ true → port_closed (either n k) p ≡ true
port-more n k p is new = at (k.ports p.birth) (n.ports p.birth) refl refl
  where
    pairs : (e : Bool) → k.ports p.birth ≡ true → (all_alive k.ports p.pair && all_alive k.ports p.connection) ≡ true
    pairs e live = grind arith

    at : (e f : Bool) → k.ports p.birth ≡ e → n.ports p.birth ≡ f → port_closed (either n k) p ≡ true
    at true f live other =
        let named = pairs true live in
        rw live (and_from _ _ (all-more n k p.pair (first-true _ _ named)) (all-more n k p.connection (second-true _ _ named)))
    at false true dead other = absurd (grind arith)
    at false false dead other = rw (dead, other) refl

thread-more : (n k : Alive) (t : ThreadRow) → thread_closed k t ≡ true → thread_closed (either n k) t ≡ true
thread-more n k t is = more t.live (k.threads t.birth) (n.threads t.birth) (k.homes t.process) (n.homes t.process) is
  where
    more : (l a b h i : Bool) → (not l || (a && h)) ≡ true → (not l || ((a || b) && (h || i))) ≡ true
    more l a b h i is = grind arith

process-more : (n k : Alive) (p : ProcessRow) → process_closed k p ≡ true → (not (n.processes p.birth) && not (n.homes p.number)) ≡ true → process_closed (either n k) p ≡ true
process-more n k p is new = more (k.homes p.number) (n.homes p.number) (k.processes p.birth) (n.processes p.birth) is new
  where
    more : (h i a b : Bool) → (not h || a) ≡ true → (not b && not i) ≡ true → (not (h || i) || (a || b)) ≡ true
    more h i a b is new = grind arith

offer-more : (n k : Alive) (o : Option Offer) → offer_alive k o ≡ true → offer_alive (either n k) o ≡ true
offer-more n k None is = refl
offer-more n k (Some o) is = or_left (k.sections o.section) (n.sections o.section) is

pub either-closed : (n k : Alive) (u : World) → IsNew n u → Closed k u → Closed (either n k) u
either-closed n k u new c = record {
  tables = every-more (table_closed k) (table_closed (either n k)) (λ t is. every-more (handle_closed k) (handle_closed (either n k)) (λ h live. as-more n k h.object.kind h.object.birth live) t.rows is) u.handles c.tables;
  ports = every-both (port_closed k) (λ p. not (n.ports p.birth)) (port_closed (either n k)) (port-more n k) u.ports c.ports new.ports;
  messages = every-more (message_closed k) (message_closed (either n k)) (λ x is. or_left (k.ports x.sender) (n.ports x.sender) is) u.messages c.messages;
  waits = every-more (wait_closed k) (wait_closed (either n k)) (λ x is. and_from _ _ (or_left (k.ports x.port) (n.ports x.port) (first-true _ _ is)) (offer-more n k (offer_of x) (second-true (k.ports x.port) _ is))) u.waits c.waits;
  registrations = every-more k.ports (either n k).ports (λ b is. or_left (k.ports b) (n.ports b) is) (all_registrations u) c.registrations;
  cuts = every-more (port_cut k) (port_cut (either n k)) (λ p is. grind arith) u.ports c.cuts;
  threads = every-more (thread_closed k) (thread_closed (either n k)) (thread-more n k) u.threads c.threads;
  processes = every-both (process_closed k) (λ p. not (n.processes p.birth) && not (n.homes p.number)) (process_closed (either n k)) (process-more n k) u.processes c.processes new.processes;
  events = every-more (hearer_closed k) (hearer_closed (either n k)) (λ p is. every-more k.ports (either n k).ports (λ b live. or_left (k.ports b) (n.ports b) live) (event_ports_of p) is) u.processes c.events;
  views = every-more (space_closed k) (space_closed (either n k)) (λ t is. every-more (view_closed k) (view_closed (either n k)) (λ v live. and_from _ _ (or_left (k.sections v.section) (n.sections v.section) (first-true _ _ live)) (all-more n k v.owner (second-true (k.sections v.section) _ live))) t.rows is) u.views c.views;
}

which-either : {X : Type 0} (k n : X → Bool) (xs : List X) → every (λ x. not (n x)) xs ≡ true → which (λ x. k x || n x) xs ≡ which k xs
which-either k n [] new = refl
which-either k n (x ∷ xs) new = grind (arith, which-either k n xs)

bytes-either : (n k : Alive) (c : Contents) → every (λ r. not (n.sections r.section)) (content_rows c) ≡ true → in_known (which (content_alive (either n k))) c ≡ in_known (which (content_alive k)) c
bytes-either n k Unknown new = refl
bytes-either n k (Known rows) new = ap (λ rows. Known rows) (which-either (content_alive k) (content_alive n) rows new)

same-rows : (u : World) (ps qs : List ProcessRow) (ts ss : List ThreadRow) (os rs : List PortRow) (xs ys : List SectionRow) (i j : Contents) (ms ns : List TokenRow) → ps ≡ qs → ts ≡ ss → os ≡ rs → xs ≡ ys → i ≡ j → ms ≡ ns
    → let v : World = record u { processes = ps; threads = ts; ports = os; sections = xs; contents = i; tokens = ms } in let w : World = record u { processes = qs; threads = ss; ports = rs; sections = ys; contents = j; tokens = ns } in v ≡ w
same-rows u ps qs ts ss os rs xs ys i j ms ns a b c d e g = rw (a, b, c, d, e, g) refl

pub either-thin : (n k : Alive) (u : World) → IsNew n u → thin (either n k) u ≡ thin k u
either-thin n k u new =
    same-rows u (which (process_alive (either n k)) u.processes) (which (process_alive k) u.processes) (which (thread_alive (either n k)) u.threads) (which (thread_alive k) u.threads) (which (port_alive (either n k)) u.ports) (which (port_alive k) u.ports)
    (which (section_alive (either n k)) u.sections) (which (section_alive k) u.sections) (in_known (which (content_alive (either n k))) u.contents) (in_known (which (content_alive k)) u.contents) (which (token_alive (either n k)) u.tokens) (which (token_alive k) u.tokens)
    (which-either (process_alive k) (process_alive n) u.processes (every-more (λ p. not (n.processes p.birth) && not (n.homes p.number)) (λ p. not (n.processes p.birth)) (λ p is. first-true _ _ is) u.processes new.processes))
    (which-either (thread_alive k) (thread_alive n) u.threads new.threads)
    (which-either (port_alive k) (port_alive n) u.ports new.ports)
    (which-either (section_alive k) (section_alive n) u.sections new.sections)
    (bytes-either n k u.contents new.contents)
    (which-either (token_alive k) (token_alive n) u.tokens new.tokens)

-- What a call may make
abbrev pub next_births : World → ThreadRow → ScriptCall → Alive
next_births u by call = record {
  ports = λ b. same_birth b (next_birth by);
  sections = λ b. same_birth b (next_birth by);
  tokens = λ b. same_birth b (next_birth by);
  processes = λ b. same_birth b (next_birth by);
  threads = λ b. same_birth b (next_birth by) || same_birth b (second_birth by);
  homes = is_home u call;
}

home-apart : (u : World) (call : ScriptCall) (n : ℕ) → was_process u n ≡ true → not (is_home u call n) ≡ true
home-apart u (create_process pid tid) n was = at (n == pid) refl
  where
    at : (e : Bool) → (n == pid) ≡ e → not (e && not (was_process u pid)) ≡ true
    at false off = refl
    at true is = let used : was_process u pid ≡ true = subst (λ i. was_process u i ≡ true) (eqb-true n pid is) was in rw used refl
home-apart u call n was = refl

pub next-births : (u : World) (by : ThreadRow) (call : ScriptCall) → live_thread u by.number ≡ Some by → IsSoundWorld u → Born u → IsNew (next_births u by call) u
next-births u by call live s o = record {
  ports = next-new u by.number by s live;
  processes = every-both (λ p. not (same_birth p.birth (next_birth by))) (λ p. was_process u p.number) (λ p. not (same_birth p.birth (next_birth by)) && not (is_home u call p.number)) (λ p new was. and_from _ _ new (home-apart u call p.number was)) u.processes (next-process u by live o) o.numbers;
  threads = next-threads u by live o;
  sections = next-sections u by live o;
  contents = next-contents u by live o;
  tokens = next-tokens u by live o;
}

pub room-of : (k : Alive) (u : World) (by : ThreadRow) (call : ScriptCall) → Room (either (next_births u by call) k) u by call
room-of k u by call =
    let n : Birth = next_birth by in
    let m : Birth = second_birth by in
    record {
      port = or_right (k.ports n) (same_birth n n) (birth-self n);
      section = or_right (k.sections n) (same_birth n n) (birth-self n);
      token = or_right (k.tokens n) (same_birth n n) (birth-self n);
      process = or_right (k.processes n) (same_birth n n) (birth-self n);
      thread = or_right (k.threads n) (same_birth n n || same_birth n m) (or_left (same_birth n n) (same_birth n m) (birth-self n));
      second = or_right (k.threads m) (same_birth m n || same_birth m m) (or_right (same_birth m n) (same_birth m m) (birth-self m));
      home = λ i is. or_right (k.homes i) (is_home u call i) is;
    }

-- What a directive makes
abbrev boot_births : ℕ → ℕ → Alive
boot_births pid tid = record {
  ports = λ b. false;
  sections = λ b. false;
  tokens = λ b. false;
  processes = λ b. same_birth b (directive_birth pid pid);
  threads = λ b. same_birth b (directive_birth tid pid);
  homes = λ n. n == pid;
}

abbrev thread_births : ℕ → ℕ → Alive
thread_births tid pid = record {
  ports = λ b. false;
  sections = λ b. false;
  tokens = λ b. false;
  processes = λ b. false;
  threads = λ b. same_birth b (directive_birth tid pid);
  homes = λ n. false;
}

-- what a line names is alive
pub record Grows (k : Alive) (u : World) (bs : List Basic) : Type 0 where
  pub alive : Alive
  pub same : thin k u ≡ thin alive u
  pub closed : Closed alive u
  pub names : AreClosed alive bs

pub grown : (n k : Alive) (u : World) (bs : List Basic) → IsNew n u → Closed k u → AreClosed (either n k) bs → Grows k u bs
grown n k u bs new c names = record { alive = either n k; same = sym (either-thin n k u new); closed = either-closed n k u new c; names = names }

boot-names : (p t h : Bool) → p ≡ true → t ≡ true → h ≡ true → ((p && true) && ((t && ((t && h) && true)) && true)) ≡ true
boot-names p t h one two three = grind arith

thread-names : (t h : Bool) → t ≡ true → h ≡ true → ((t && ((t && h) && true)) && true) ≡ true
thread-names t h one two = grind arith

pub boot-grows : (k : Alive) (u : World) (pid tid : ℕ) (name : Option (List ℕ)) → Born u → Closed k u → Grows k u (own_served (boot pid tid name) u)
unfolding own_steps boot_line
boot-grows k u pid tid name o c = by-token (boot_token u name)
  where
    at : (content : Token) (e f : Bool) → was_process u pid ≡ e → was_thread u tid ≡ f → Grows k u (directed word.Boot (unused_test u pid tid >>= (λ (v : Unit {0}). Ok (boot_steps pid tid content))))
    at content true f was used = record { alive = k; same = refl; closed = c; names = rw was refl }
    at content false true was used = record { alive = k; same = refl; closed = c; names = rw (was, used) refl }
    at content false false was used =
        let p : Birth = directive_birth pid pid in
        let t : Birth = directive_birth tid pid in
        grown (boot_births pid tid) k u _ (record { ports = every-true u.ports; sections = every-true u.sections; contents = every-true (content_rows u.contents); tokens = every-true u.tokens; processes = directed-processes u pid was o; threads = directed-threads u tid pid used o }) c
        (rw (was, used) (boot-names (k.processes p || same_birth p p) (k.threads t || same_birth t t) (k.homes pid || (pid == pid)) (or_right (k.processes p) (same_birth p p) (birth-self p)) (or_right (k.threads t) (same_birth t t) (birth-self t)) (or_right (k.homes pid) (pid == pid) (same-number pid))))

    by-token : (r : Result Token Status) → Grows k u (directed word.Boot (r >>= (λ (content : Token). unused_test u pid tid >>= (λ (v : Unit {0}). Ok (boot_steps pid tid content)))))
    by-token (Err s) = record { alive = k; same = refl; closed = c; names = refl }
    by-token (Ok content) = at content (was_process u pid) (was_thread u tid) refl refl

pub thread-grows : (k : Alive) (u : World) (tid pid : ℕ) → Born u → Closed k u → Grows k u (own_served (thread tid pid) u)
unfolding own_steps thread_line
thread-grows k u tid pid o c = at (was_thread u tid) refl
  where
    facts : (v : Unit {0}) → thread_test u tid pid ≡ Ok v → (is_live u pid ≡ true) × (was_thread u tid ≡ false)
    facts v is = holds_ok (λ _. (is_live u pid ≡ true) × (was_thread u tid ≡ false)) (thread_test u tid pid) v (tested-further u tid pid) is

    at : (e : Bool) → was_thread u tid ≡ e → Grows k u (own_served (thread tid pid) u)
    at true used = record { alive = k; same = refl; closed = c; names = directed_holds (AreClosed k) word.Thread (thread_line u tid pid) (bind_holds (thread_test u tid pid) _ (AreClosed k) (λ v is. let off = (facts v is).1 in absurd (cc))) (λ _. refl) }
    at false unused =
        let t : Birth = directive_birth tid pid in
        let k' : Alive = either (thread_births tid pid) k in
        grown (thread_births tid pid) k u _ (record { ports = every-true u.ports; sections = every-true u.sections; contents = every-true (content_rows u.contents); tokens = every-true u.tokens; processes = every-true u.processes; threads = directed-threads u tid pid unused o }) c
        (directed_holds (AreClosed k') word.Thread (thread_line u tid pid) (bind_holds (thread_test u tid pid) _ (AreClosed k') (λ v is.
        thread-names (k.threads t || same_birth t t) (k.homes pid || false) (or_right (k.threads t) (same_birth t t) (birth-self t)) (or_left (k.homes pid) false (home-live k u pid c (facts v is).0)))) (λ _. refl))
