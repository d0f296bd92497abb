-- What counts for a port, and where none of it goes.
use Rattle.std.proofs.Common.{Bool, List, [], ap, arith, cond, false, not, refl, true, ℕ, ◌++◌, ◌+◌, ◌∷◌, ◌≡◌, ◌≤◌, subst, sym, ◌∙◌, Option, Some, None}
use Rattle.std.specs.Prelude.{◌&&◌, ◌||◌, ◌==◌, map}
use Rattle.std.proofs.lemmas.Bool.Decides.{nat_tests}
use Rattle.lpc_base.specs.Rows.{change, count, each, every, first, has, passes, without, without_first}
use Rattle.lpc_base.proofs.RowWords.{count-append, count-without, has-change}
use Rattle.lpc_base.proofs.Births.{birth-same, births-apart}
use Rattle.lpc_base.proofs.Bools.{first-true, second-true}
use Rattle.lpc_model.specs.World.{Birth, HandleRow, HandleTable, MessageRow, ObjectName, PortRow, ProcessRow, ThreadRow, ViewRow, ViewTable, WaitRow, World}
use Rattle.lpc_model.specs.Found.{all_registrations, all_views, event_ports, event_ports_of, free_handle, handle_count, handles_in, has_value, is_connected_to, is_made_on, is_owned_by, is_paired_to, is_port, is_process, is_sent_on, is_space, is_table, is_the, is_thread, port_name, registered_by, same_birth, same_object, waits_as, waits_at}
use Rattle.lpc_model.specs.Basics.{Accepts, Acts, AddsHandle, AddsProcess, AddsSection, AddsThread, AddsToken, Awaits, Basic, Binds, Completes, Cuts, Dies, Dooms, DropsHandle, DropsOwned, DropsViewsOf, Empties, Frees, Joins, Leaves, LetsGo, Makes, SetsDebug, SetsException, Takes, TakesConnect, Unmaps, Unregisters, Wakes, Withdraws, DrawsIdentifier, DrawsOrdinal, Enters, Marks, Maps, NamesToken, Receives, Registers, Secures, Tells, Unbinds, Writes, accepted, acting, basic, completed, doomed, joined, past_identifier, past_ordinal, no_handles, no_views, received, registering, secured, with_view, without_handle, without_owned}
use Rattle.lpc_model.specs.Sweep.{is_unheld}
use Rattle.lpc_model.specs.Tests.{handle_row}
use Rattle.lpc_model.proofs.Held.Steps.{handle-count, handles-push, push-more}
use Rattle.lpc_model.proofs.Steps.Rows.{count-change}
use Rattle.lpc_model.proofs.Steps.Registrations.{more-each, push-each, registering-more, same-each}

-- no fewer rows of any kind count for the port
pub record KeepsClaims (w v : World) (b : Birth) : Type 0 where
  pub handles : handle_count w (port_name b) ≤ handle_count v (port_name b)
  pub paired : count (is_paired_to b) w.ports ≤ count (is_paired_to b) v.ports
  pub connected : count (is_connected_to b) w.ports ≤ count (is_connected_to b) v.ports
  pub sent : count (is_sent_on b) w.messages ≤ count (is_sent_on b) v.messages
  pub made : count (is_made_on b) w.waits ≤ count (is_made_on b) v.waits
  pub registered : count (same_birth b) (all_registrations w) ≤ count (same_birth b) (all_registrations v)
  pub owned : count (is_owned_by b) (all_views w) ≤ count (is_owned_by b) (all_views v)
  pub told : count (same_birth b) (event_ports w) ≤ count (same_birth b) (event_ports v)

no-sum : (a b c d e f g h i j k l m n p q : ℕ) → a ≤ i → b ≤ j → c ≤ k → d ≤ l → e ≤ m → f ≤ n → g ≤ p → h ≤ q
    → ((i + (j + (k + (l + (m + (n + (p + q))))))) == 0) ≡ true → ((a + (b + (c + (d + (e + (f + (g + h))))))) == 0) ≡ true
no-sum a b c d e f g h i j k l m n p q one two three four five six seven eight none = grind (arith, nat_tests)

-- so a port that nothing counts for behind the change was one before it
pub still-unheld : (w v : World) (b : Birth) → KeepsClaims w v b → is_unheld v (port_name b) ≡ true → is_unheld w (port_name b) ≡ true
still-unheld w v b k none =
    no-sum (handle_count w (port_name b)) (count (is_paired_to b) w.ports) (count (is_connected_to b) w.ports) (count (is_sent_on b) w.messages) (count (is_made_on b) w.waits) (count (same_birth b) (all_registrations w)) (count (is_owned_by b) (all_views w)) (count (same_birth b) (event_ports w))
    (handle_count v (port_name b)) (count (is_paired_to b) v.ports) (count (is_connected_to b) v.ports) (count (is_sent_on b) v.messages) (count (is_made_on b) v.waits) (count (same_birth b) (all_registrations v)) (count (is_owned_by b) (all_views v)) (count (same_birth b) (event_ports v))
    k.handles k.paired k.connected k.sent k.made k.registered k.owned k.told none

pub same : (n : ℕ) → n ≤ n
same n = omega arith

pub alike : (n m : ℕ) → m ≡ n → n ≤ m
alike n m is = omega (arith, is)

-- steps that take no row away which counts for a port, and make no port
abbrev pub keeps_claims : Basic → Bool
keeps_claims (Tells e) = true
keeps_claims (DrawsIdentifier who) = true
keeps_claims (DrawsOrdinal who) = true
keeps_claims (Registers who c) = true
keeps_claims (Binds path node) = true
keeps_claims (Unbinds b) = true
keeps_claims (Awaits x) = true
keeps_claims (Enters m) = true
keeps_claims (Receives who queue) = true
keeps_claims (Accepts who a) = true
keeps_claims (Completes c) = true
keeps_claims (Secures c y) = true
keeps_claims (Acts who own) = true
keeps_claims (AddsToken t) = true
keeps_claims (AddsSection s) = true
keeps_claims (NamesToken n) = true
keeps_claims (Marks who) = true
keeps_claims (Dooms pid code) = true
keeps_claims (Writes b place new) = true
keeps_claims (Maps pid v) = true
keeps_claims b = false

-- Where one kind of rows changes
module _ (w : World) (b : Birth) where
  -- what counts for no port
  pub plain : (v : World) → v.handles ≡ w.handles → v.ports ≡ w.ports → v.messages ≡ w.messages → v.waits ≡ w.waits → v.threads ≡ w.threads → v.views ≡ w.views → v.processes ≡ w.processes → KeepsClaims w v b
  plain v handles ports messages waits threads views processes = record {
    handles = alike _ _ (ap (λ (hs : List HandleTable). count (λ (h : HandleRow). same_object h.object (port_name b)) (handles_in hs)) handles);
    paired = alike _ _ (ap (count (is_paired_to b)) ports);
    connected = alike _ _ (ap (count (is_connected_to b)) ports);
    sent = alike _ _ (ap (count (is_sent_on b)) messages);
    made = alike _ _ (ap (count (is_made_on b)) waits);
    registered = alike _ _ (ap (λ (ts : List ThreadRow). count (same_birth b) (each registered_by ts)) threads);
    owned = alike _ _ (ap (λ (ts : List ViewTable). count (is_owned_by b) (each (λ (t : ViewTable). t.rows) ts)) views);
    told = alike _ _ (ap (λ (ps : List ProcessRow). count (same_birth b) (each event_ports_of ps)) processes);
  }

  pub handles-keep : (hs : List HandleTable) → count (λ (h : HandleRow). same_object h.object (port_name b)) (handles_in w.handles) ≤ count (λ (h : HandleRow). same_object h.object (port_name b)) (handles_in hs) → KeepsClaims w (record w { handles = hs }) b
  handles-keep hs more = record { handles = more; paired = same _; connected = same _; sent = same _; made = same _; registered = same _; owned = same _; told = same _ }

  pub ports-keep : (ps : List PortRow) → count (is_paired_to b) w.ports ≤ count (is_paired_to b) ps → count (is_connected_to b) w.ports ≤ count (is_connected_to b) ps → KeepsClaims w (record w { ports = ps }) b
  ports-keep ps one two = record { handles = same _; paired = one; connected = two; sent = same _; made = same _; registered = same _; owned = same _; told = same _ }

  pub messages-keep : (ms : List MessageRow) → count (is_sent_on b) w.messages ≤ count (is_sent_on b) ms → KeepsClaims w (record w { messages = ms }) b
  messages-keep ms more = record { handles = same _; paired = same _; connected = same _; sent = more; made = same _; registered = same _; owned = same _; told = same _ }

  pub waits-keep : (xs : List WaitRow) (marks : List ℕ) → count (is_made_on b) w.waits ≤ count (is_made_on b) xs → KeepsClaims w (record w { waits = xs; marks = marks }) b
  waits-keep xs marks more = record { handles = same _; paired = same _; connected = same _; sent = same _; made = more; registered = same _; owned = same _; told = same _ }

  pub threads-keep : (ts : List ThreadRow) → count (same_birth b) (each registered_by w.threads) ≤ count (same_birth b) (each registered_by ts) → KeepsClaims w (record w { threads = ts }) b
  threads-keep ts more = record { handles = same _; paired = same _; connected = same _; sent = same _; made = same _; registered = more; owned = same _; told = same _ }

  pub views-keep : (ts : List ViewTable) → count (is_owned_by b) (each (λ (t : ViewTable). t.rows) w.views) ≤ count (is_owned_by b) (each (λ (t : ViewTable). t.rows) ts) → KeepsClaims w (record w { views = ts }) b
  views-keep ts more = record { handles = same _; paired = same _; connected = same _; sent = same _; made = same _; registered = same _; owned = more; told = same _ }

  pub processes-keep : (ps : List ProcessRow) → count (same_birth b) (each event_ports_of w.processes) ≤ count (same_birth b) (each event_ports_of ps) → KeepsClaims w (record w { processes = ps }) b
  processes-keep ps more = record { handles = same _; paired = same _; connected = same _; sent = same _; made = same _; registered = same _; owned = same _; told = more }

  -- a change of threads that keeps what each registered
  pub drawn-keep : (who : ℕ) (f : ThreadRow → ThreadRow) → ((t : ThreadRow) → registered_by (f t) ≡ registered_by t) → KeepsClaims w (record w { threads = change (is_thread who) f w.threads }) b
  drawn-keep who f is = threads-keep (change (is_thread who) f w.threads) (alike _ _ (ap (count (same_birth b)) (same-each registered_by (is_thread who) f is w.threads)))

-- a step that takes nothing away keeps what counts for each port
pub step-keeps : (w : World) (s : Basic) → keeps_claims s ≡ true → (b : Birth) → KeepsClaims w (basic w s) b
step-keeps w (Tells e) is b = plain w b w refl refl refl refl refl refl refl
step-keeps w (DrawsIdentifier who) is b = drawn-keep w b who past_identifier (λ t. refl)
step-keeps w (DrawsOrdinal who) is b = drawn-keep w b who past_ordinal (λ t. refl)
step-keeps w (Registers who c) is b = threads-keep w b (change (is_thread who) (registering c) w.threads) (more-each (same_birth b) registered_by (is_thread who) (registering c) (registering-more b c) w.threads)
step-keeps w (Binds path node) is b = plain w b (basic w (Binds path node)) refl refl refl refl refl refl refl
step-keeps w (Unbinds c) is b = plain w b (basic w (Unbinds c)) refl refl refl refl refl refl refl
step-keeps w (Awaits x) is b = waits-keep w b (w.waits ++ x ∷ []) w.marks (push-more (is_made_on b) w.waits x)
step-keeps w (Enters m) is b = messages-keep w b (w.messages ++ m ∷ []) (push-more (is_sent_on b) w.messages m)
step-keeps w (Receives who queue) is b = waits-keep w b (change (waits_at who queue) received w.waits) w.marks (alike _ _ (count-change (is_made_on b) (waits_at who queue) received (λ x. refl) w.waits))
step-keeps w (Accepts who a) is b = waits-keep w b (change (waits_as who) (accepted a) w.waits) w.marks (alike _ _ (count-change (is_made_on b) (waits_as who) (accepted a) (λ x. refl) w.waits))
step-keeps w (Completes c) is b = ports-keep w b (change (is_port c) completed w.ports) (alike _ _ (count-change (is_paired_to b) (is_port c) completed (λ p. refl) w.ports)) (alike _ _ (count-change (is_connected_to b) (is_port c) completed (λ p. refl) w.ports))
step-keeps w (Secures c y) is b = ports-keep w b (change (is_port c) (secured y) w.ports) (alike _ _ (count-change (is_paired_to b) (is_port c) (secured y) (λ p. refl) w.ports)) (alike _ _ (count-change (is_connected_to b) (is_port c) (secured y) (λ p. refl) w.ports))
step-keeps w (Acts who own) is b = drawn-keep w b who (acting own) (λ t. refl)
step-keeps w (AddsToken t) is b = plain w b (basic w (AddsToken t)) refl refl refl refl refl refl refl
step-keeps w (AddsSection s) is b = plain w b (basic w (AddsSection s)) refl refl refl refl refl refl refl
step-keeps w (NamesToken n) is b = plain w b (basic w (NamesToken n)) refl refl refl refl refl refl refl
step-keeps w (Marks who) is b = plain w b (basic w (Marks who)) refl refl refl refl refl refl refl
step-keeps w (Dooms pid code) is b = processes-keep w b (change (is_process pid) (doomed code) w.processes) (alike _ _ (ap (count (same_birth b)) (same-each event_ports_of (is_process pid) (doomed code) (λ p. refl) w.processes)))
step-keeps w (Writes c place new) is b = plain w b (basic w (Writes c place new)) refl refl refl refl refl refl refl
step-keeps w (Maps pid v) is b = views-keep w b (change (is_space pid) (with_view v) w.views) (more-each (is_owned_by b) (λ (t : ViewTable). t.rows) (is_space pid) (with_view v) (λ t. push-more (is_owned_by b) t.rows v) w.views)
step-keeps w (Dies who status) is b = absurd (cc)
step-keeps w (Leaves who) is b = absurd (cc)
step-keeps w (Wakes who call status fields) is b = absurd (cc)
step-keeps w (Takes q) is b = absurd (cc)
step-keeps w (TakesConnect q) is b = absurd (cc)
step-keeps w (Withdraws who) is b = absurd (cc)
step-keeps w (Empties q) is b = absurd (cc)
step-keeps w (Unregisters who c) is b = absurd (cc)
step-keeps w (AddsProcess p) is b = absurd (cc)
step-keeps w (AddsThread t) is b = absurd (cc)
step-keeps w (Makes p) is b = absurd (cc)
step-keeps w (Joins client server context) is b = absurd (cc)
step-keeps w (Cuts c) is b = absurd (cc)
step-keeps w (Frees o) is b = absurd (cc)
step-keeps w (AddsHandle pid h) is b = absurd (cc)
step-keeps w (SetsDebug pid c) is b = absurd (cc)
step-keeps w (SetsException pid c) is b = absurd (cc)
step-keeps w (LetsGo pid) is b = absurd (cc)
step-keeps w (DropsHandle pid value) is b = absurd (cc)
step-keeps w (Unmaps pid base) is b = absurd (cc)
step-keeps w (DropsViewsOf pid) is b = absurd (cc)
step-keeps w (DropsOwned c) is b = absurd (cc)

-- and it makes no port
pub step-ports : (w : World) (s : Basic) → keeps_claims s ≡ true → (b : Birth) → has (is_port b) (basic w s).ports ≡ true → has (is_port b) w.ports ≡ true
step-ports w (Completes c) is b there = sym (has-change (is_port b) (is_port c) completed (λ p. refl) w.ports) ∙ there
step-ports w (Secures c y) is b there = sym (has-change (is_port b) (is_port c) (secured y) (λ p. refl) w.ports) ∙ there
step-ports w (Tells e) is b there = there
step-ports w (DrawsIdentifier who) is b there = there
step-ports w (DrawsOrdinal who) is b there = there
step-ports w (Registers who c) is b there = there
step-ports w (Binds path node) is b there = there
step-ports w (Unbinds c) is b there = there
step-ports w (Awaits x) is b there = there
step-ports w (Enters m) is b there = there
step-ports w (Receives who queue) is b there = there
step-ports w (Accepts who a) is b there = there
step-ports w (Acts who own) is b there = there
step-ports w (AddsToken t) is b there = there
step-ports w (AddsSection s) is b there = there
step-ports w (NamesToken n) is b there = there
step-ports w (Marks who) is b there = there
step-ports w (Dooms pid code) is b there = there
step-ports w (Writes c place new) is b there = there
step-ports w (Maps pid v) is b there = there
step-ports w (Dies who status) is b there = absurd (cc)
step-ports w (Leaves who) is b there = absurd (cc)
step-ports w (Wakes who call status fields) is b there = absurd (cc)
step-ports w (Takes q) is b there = absurd (cc)
step-ports w (TakesConnect q) is b there = absurd (cc)
step-ports w (Withdraws who) is b there = absurd (cc)
step-ports w (Empties q) is b there = absurd (cc)
step-ports w (Unregisters who c) is b there = absurd (cc)
step-ports w (AddsProcess p) is b there = absurd (cc)
step-ports w (AddsThread t) is b there = absurd (cc)
step-ports w (Makes p) is b there = absurd (cc)
step-ports w (Joins client server context) is b there = absurd (cc)
step-ports w (Cuts c) is b there = absurd (cc)
step-ports w (Frees o) is b there = absurd (cc)
step-ports w (AddsHandle pid h) is b there = absurd (cc)
step-ports w (SetsDebug pid c) is b there = absurd (cc)
step-ports w (SetsException pid c) is b there = absurd (cc)
step-ports w (LetsGo pid) is b there = absurd (cc)
step-ports w (DropsHandle pid value) is b there = absurd (cc)
step-ports w (Unmaps pid base) is b there = absurd (cc)
step-ports w (DropsViewsOf pid) is b there = absurd (cc)
step-ports w (DropsOwned c) is b there = absurd (cc)

-- a process and a thread that begin, and a further handle
pub process-keeps : (w : World) (p : ProcessRow) (b : Birth) → KeepsClaims w (basic w (AddsProcess p)) b
process-keeps w p b = record {
  handles = handles-push (λ (h : HandleRow). same_object h.object (port_name b)) w.handles (no_handles p.number);
  paired = same _;
  connected = same _;
  sent = same _;
  made = same _;
  registered = same _;
  owned = alike _ _ (ap (count (is_owned_by b)) (push-each (λ (t : ViewTable). t.rows) (no_views p.number) refl w.views));
  told = further w.processes;
}
  where
    sums : (a b c n m : ℕ) → n ≡ a + b → m ≡ a + c → b ≤ c → n ≤ m
    sums a b c n m one two more = omega (arith, one, two, more)

    further : (ps : List ProcessRow) → count (same_birth b) (each event_ports_of ps) ≤ count (same_birth b) (each event_ports_of (ps ++ p ∷ []))
    further [] = omega arith
    further (x ∷ xs) = sums _ _ _ _ _ (count-append (same_birth b) (event_ports_of x) (each event_ports_of xs)) (count-append (same_birth b) (event_ports_of x) (each event_ports_of (xs ++ p ∷ []))) (further xs)

pub thread-keeps : (w : World) (t : ThreadRow) → registered_by t ≡ [] → (b : Birth) → KeepsClaims w (basic w (AddsThread t)) b
thread-keeps w t none b = record {
  handles = same _;
  paired = same _;
  connected = same _;
  sent = same _;
  made = same _;
  registered = alike _ _ (ap (count (same_birth b)) (push-each registered_by t none w.threads));
  owned = same _;
  told = same _;
}

pub handle-keeps : (w : World) (pid : ℕ) (object : ObjectName) (access : ℕ) → count (is_table pid) w.handles ≤ 1 → (b : Birth) → KeepsClaims w (basic w (AddsHandle pid (handle_row (free_handle w pid) object access))) b
handle-keeps w pid object access one b = record {
  handles = handle-count w pid object access (port_name b) one;
  paired = same _;
  connected = same _;
  sent = same _;
  made = same _;
  registered = same _;
  owned = same _;
  told = same _;
}

-- Rows that go
-- one that is taken counted for another port
count-taken : {X : Type 0} (p test : X → Bool) (xs : List X) → ((x : X) → first test xs ≡ Some x → p x ≡ false) → count p xs ≤ count p (without_first test xs)
count-taken p test [] off = omega arith
count-taken p test (x ∷ xs) off = at (test x) refl (λ (missed : test x ≡ false). count-taken p test xs (λ y found. off y (grind arith)))
  where
    at : (c : Bool) → test x ≡ c → (test x ≡ false → count p xs ≤ count p (without_first test xs)) → count p (x ∷ xs) ≤ count p (without_first test (x ∷ xs))
    at true is rest = let none : p x ≡ false = off x (grind arith) in grind (arith, none)
    at false is rest = let more : count p xs ≤ count p (without_first test xs) = rest is in grind (arith, more)

pub taken-keeps : (w : World) (test : MessageRow → Bool) (b : Birth) → ((m : MessageRow) → first test w.messages ≡ Some m → is_sent_on b m ≡ false) → KeepsClaims w (record w { messages = without_first test w.messages }) b
taken-keeps w test b off = messages-keep w b (without_first test w.messages) (count-taken (is_sent_on b) test w.messages off)

-- the waits of a thread that go were made on other ports
pub left-keeps : (w : World) (who : ℕ) (marks : List ℕ) (b : Birth) → has (λ (x : WaitRow). waits_as who x && is_made_on b x) w.waits ≡ false → KeepsClaims w (record w { waits = without (waits_as who) w.waits; marks = marks }) b
left-keeps w who marks b none =
    waits-keep w b (without (waits_as who) w.waits) marks (alike _ _ (count-without (is_made_on b) (waits_as who) (λ (x : WaitRow). waits_as who x && is_made_on b x) (λ x is off. apart (waits_as who x) (is_made_on b x) is off) w.waits none))
  where
    apart : (c d : Bool) → c ≡ true → (c && d) ≡ false → d ≡ false
    apart c d is off = grind arith

-- a handle that goes names another object
pub handle-taken : (p : HandleRow → Bool) (pid value : ℕ) (ts : List HandleTable) → every (λ (t : HandleTable). not (is_table pid t && passes (first (has_value value) t.rows) p)) ts ≡ true
    → count p (handles_in ts) ≤ count p (handles_in (change (is_table pid) (without_handle value) ts))
handle-taken p pid value [] off = omega arith
handle-taken p pid value (t ∷ ts) off = at (is_table pid t) (first-true _ _ off) (handle-taken p pid value ts (second-true _ _ off))
  where
    later : List HandleTable
    later = change (is_table pid) (without_handle value) ts

    sums : (a b c d n m : ℕ) → n ≡ a + b → m ≡ c + d → a ≤ c → b ≤ d → n ≤ m
    sums a b c d n m one two front back = omega (arith, one, two, front, back)

    missed : (o : Option HandleRow) → not (true && passes o p) ≡ true → (h : HandleRow) → o ≡ Some h → p h ≡ false
    missed None off h is = absurd (grind arith)
    missed (Some k) off h is = grind arith

    at : (c : Bool) → not (c && passes (first (has_value value) t.rows) p) ≡ true → count p (handles_in ts) ≤ count p (handles_in later)
        → count p (handles_in (t ∷ ts)) ≤ count p (handles_in (cond c (without_handle value t) t ∷ later))
    at true off rest = sums _ _ _ _ _ _ (count-append p t.rows (handles_in ts)) (count-append p (without_first (has_value value) t.rows) (handles_in later)) (count-taken p (has_value value) t.rows (missed (first (has_value value) t.rows) off)) rest
    at false off rest = sums _ _ _ _ _ _ (count-append p t.rows (handles_in ts)) (count-append p t.rows (handles_in later)) (same _) rest

pub closed-keeps : (w : World) (pid value : ℕ) (b : Birth) → every (λ (t : HandleTable). not (is_table pid t && passes (first (has_value value) t.rows) (λ (h : HandleRow). same_object h.object (port_name b)))) w.handles ≡ true → KeepsClaims w (basic w (DropsHandle pid value)) b
closed-keeps w pid value b off = handles-keep w b (change (is_table pid) (without_handle value) w.handles) (handle-taken (λ (h : HandleRow). same_object h.object (port_name b)) pid value w.handles off)

-- a port that goes, and one that is cut from its other end, counted for other ports
pub freed-keeps : (w : World) (c b : Birth) → has (λ (p : PortRow). is_port c p && (is_paired_to b p || is_connected_to b p)) w.ports ≡ false → KeepsClaims w (record w { ports = without (is_port c) w.ports }) b
freed-keeps w c b none =
    let both : PortRow → Bool = λ p. is_port c p && (is_paired_to b p || is_connected_to b p) in
    ports-keep w b (without (is_port c) w.ports)
    (alike _ _ (count-without (is_paired_to b) (is_port c) both (λ p is off. one (is_port c p) (is_paired_to b p) (is_connected_to b p) is off) w.ports none))
    (alike _ _ (count-without (is_connected_to b) (is_port c) both (λ p is off. two (is_port c p) (is_paired_to b p) (is_connected_to b p) is off) w.ports none))
  where
    one : (x y z : Bool) → x ≡ true → (x && (y || z)) ≡ false → y ≡ false
    one x y z is off = grind arith

    two : (x y z : Bool) → x ≡ true → (x && (y || z)) ≡ false → z ≡ false
    two x y z is off = grind arith

-- ports that change, and don't count for this one
pub changed-keeps : (w : World) (test : PortRow → Bool) (f : PortRow → PortRow) (b : Birth) → ((p : PortRow) → (f p).connection ≡ p.connection) → has (λ (p : PortRow). test p && is_paired_to b p) w.ports ≡ false → KeepsClaims w (record w { ports = change test f w.ports }) b
changed-keeps w test f b connections none =
    ports-keep w b (change test f w.ports) (pairs w.ports none) (alike _ _ (count-change (is_connected_to b) test f (λ p. ap (is_the b) (connections p)) w.ports))
  where
    pairs : (ps : List PortRow) → has (λ (p : PortRow). test p && is_paired_to b p) ps ≡ false → count (is_paired_to b) ps ≤ count (is_paired_to b) (change test f ps)
    pairs [] none = omega arith
    pairs (p ∷ ps) none = let rest = pairs ps (grind arith) in grind (arith, rest)

-- registrations of threads that stay, and the ends of those that have none
pub ended-keeps : (w : World) (who : ℕ) (f : ThreadRow → ThreadRow) (b : Birth) → ((t : ThreadRow) → is_thread who t ≡ true → count (same_birth b) (registered_by t) ≤ count (same_birth b) (registered_by (f t))) → count (same_birth b) (each registered_by w.threads) ≤ count (same_birth b) (each registered_by (change (is_thread who) f w.threads))
ended-keeps w who f b more = all w.threads
  where
    sums : (a b c d n m : ℕ) → n ≡ a + b → m ≡ c + d → a ≤ c → b ≤ d → n ≤ m
    sums a b c d n m one two front back = omega (arith, one, two, front, back)

    all : (ts : List ThreadRow) → count (same_birth b) (each registered_by ts) ≤ count (same_birth b) (each registered_by (change (is_thread who) f ts))
    all [] = omega arith
    all (t ∷ ts) = at (is_thread who t) refl (all ts)
      where
        at : (c : Bool) → is_thread who t ≡ c → count (same_birth b) (each registered_by ts) ≤ count (same_birth b) (each registered_by (change (is_thread who) f ts))
            → count (same_birth b) (each registered_by (t ∷ ts)) ≤ count (same_birth b) (each registered_by (cond c (f t) t ∷ change (is_thread who) f ts))
        at true is rest = sums _ _ _ _ _ _ (count-append (same_birth b) (registered_by t) (each registered_by ts)) (count-append (same_birth b) (registered_by (f t)) (each registered_by (change (is_thread who) f ts))) (more t is) rest
        at false off rest = sums _ _ _ _ _ _ (count-append (same_birth b) (registered_by t) (each registered_by ts)) (count-append (same_birth b) (registered_by t) (each registered_by (change (is_thread who) f ts))) (same _) rest

-- rows that go didn't count
pub others-stay : {X : Type 0} (p test : X → Bool) → ((x : X) → test x ≡ true → p x ≡ false) → (xs : List X) → count p (without test xs) ≡ count p xs
others-stay p test off [] = refl
others-stay p test off (x ∷ xs) = grind (arith, off x, others-stay p test off xs)

-- views that go with another port go
owned-without : (c b : Birth) → same_birth c b ≡ false → (rows : List ViewRow) → count (is_owned_by b) rows ≤ count (is_owned_by b) (without (is_owned_by c) rows)
owned-without c b off rows = alike _ _ (others-stay (is_owned_by b) (is_owned_by c) (λ v is. other v.owner is) rows)
  where
    other : (o : Option Birth) → is_the c o ≡ true → is_the b o ≡ false
    other None is = refl
    other (Some d) is = subst (λ x. same_birth b x ≡ false) (birth-same c d is) (births-apart c b off)

pub owned-keeps : (w : World) (c b : Birth) → same_birth c b ≡ false → KeepsClaims w (basic w (DropsOwned c)) b
owned-keeps w c b off = views-keep w b (map (without_owned c) w.views) (all w.views)
  where
    sums : (a b c d n m : ℕ) → n ≡ a + b → m ≡ c + d → a ≤ c → b ≤ d → n ≤ m
    sums a b c d n m one two front back = omega (arith, one, two, front, back)

    all : (ts : List ViewTable) → count (is_owned_by b) (each (λ (t : ViewTable). t.rows) ts) ≤ count (is_owned_by b) (each (λ (t : ViewTable). t.rows) (map (without_owned c) ts))
    all [] = omega arith
    all (t ∷ ts) = sums _ _ _ _ _ _ (count-append (is_owned_by b) t.rows (each (λ (u : ViewTable). u.rows) ts)) (count-append (is_owned_by b) (without (is_owned_by c) t.rows) (each (λ (u : ViewTable). u.rows) (map (without_owned c) ts))) (owned-without c b off t.rows) (all ts)

-- ports that are joined, and had no other end that is this one
pub joined-keeps : (w : World) (client server : Birth) (context : ℕ) (b : Birth) → has (λ (p : PortRow). (is_port client p || is_port server p) && is_paired_to b p) w.ports ≡ false → KeepsClaims w (basic w (Joins client server context)) b
joined-keeps w client server context b none = ports-keep w b (map (joined client server context) w.ports) (pairs w.ports none) (connections w.ports)
  where
    sums : (a b c d n m : ℕ) → n ≡ a + b → m ≡ c + d → a ≤ c → b ≤ d → n ≤ m
    sums a b c d n m one two front back = omega (arith, one, two, front, back)

    count-cons : {X : Type 0} (p : X → Bool) (x : X) (xs : List X) → count p (x ∷ xs) ≡ cond (p x) 1 0 + count p xs
    count-cons p x xs = grind arith

    pair : (p : PortRow) (c d : Bool) → is_port client p ≡ c → is_port server p ≡ d → ((c || d) && is_paired_to b p) ≡ false → cond (is_paired_to b p) 1 0 ≤ cond (is_paired_to b (joined client server context p)) 1 0
    pair p true d is is' off = let none : is_paired_to b p ≡ false = off in rw (none) (omega arith)
    pair p false true is is' off = let none : is_paired_to b p ≡ false = off in rw (none) (omega arith)
    pair p false false is is' off = rw (is, is') (omega arith)

    pairs : (ps : List PortRow) → has (λ (p : PortRow). (is_port client p || is_port server p) && is_paired_to b p) ps ≡ false → count (is_paired_to b) ps ≤ count (is_paired_to b) (map (joined client server context) ps)
    pairs [] none = omega arith
    pairs (p ∷ ps) none =
        let rest = pairs ps (grind (arith, none)) in
        let here = pair p (is_port client p) (is_port server p) refl refl (grind (arith, none)) in
        sums _ _ _ _ _ _ (count-cons (is_paired_to b) p ps) (count-cons (is_paired_to b) (joined client server context p) (map (joined client server context) ps)) here rest

    connection : (p : PortRow) (c d : Bool) → is_port client p ≡ c → is_port server p ≡ d → is_connected_to b (joined client server context p) ≡ is_connected_to b p
    connection p true d is is' = rw (is) refl
    connection p false true is is' = rw (is, is') refl
    connection p false false is is' = rw (is, is') refl

    connections : (ps : List PortRow) → count (is_connected_to b) ps ≤ count (is_connected_to b) (map (joined client server context) ps)
    connections [] = omega arith
    connections (p ∷ ps) = let rest = connections ps in let here = connection p (is_port client p) (is_port server p) refl refl in grind (arith, rest, here)

-- a port is made
pub made-keeps : (w : World) (p : PortRow) (b : Birth) → KeepsClaims w (basic w (Makes p)) b
made-keeps w p b = ports-keep w b (w.ports ++ p ∷ []) (push-more (is_paired_to b) w.ports p) (push-more (is_connected_to b) w.ports p)
