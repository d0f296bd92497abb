-- What steps do to the counts of rows that name an object: where none of them falls, what was named is named.
use Rattle.std.proofs.Common.{Bool, List, [], ap, arith, cond, false, not, refl, true, ℕ, ◌++◌, ◌+◌, ◌∷◌, ◌≡◌, ◌≤◌}
use Rattle.std.specs.Prelude.{◌&&◌, ◌||◌, ◌==◌, nat_lt}
use Rattle.std.proofs.lemmas.Bool.Decides.{nat_tests}
use Rattle.std.proofs.Math.Bool.{or-true}
use Rattle.lpc_base.specs.Rows.{change, count, each, every, has, which}
use Rattle.lpc_base.proofs.RowWords.{count-append, count-push, every-change, every-more, has-change}
use Rattle.lpc_base.proofs.Bools.{first-true, number-apart, second-true}
use Rattle.lpc_model.specs.World.{Birth, HandleRow, HandleTable, ObjectName, PortRow, ProcessRow, SectionRow, ThreadRow, ViewTable, World, TokenRow}
use Rattle.lpc_model.specs.Found.{all_registrations, all_views, free_handle, handle_count, has_value, is_connected_to, is_life, is_made_on, is_owned_by, is_paired_to, is_port, is_sent_on, is_space, is_table, is_thread, lives_by, pointer_count, port_name, process_name, registered_by, same_birth, same_object, section_name, shows_section, thread_name, waits_as, waits_at, offers_section, token_name, event_ports, event_ports_of, is_process}
use Rattle.lpc_model.specs.Basics.{Accepts, AddsHandle, AddsProcess, AddsSection, AddsThread, Awaits, Basic, Binds, Completes, Cuts, Dies, DrawsIdentifier, DrawsOrdinal, DropsHandle, DropsOwned, DropsViewsOf, Empties, Enters, Frees, Joins, Makes, Maps, Receives, Registers, Takes, TakesConnect, Tells, Unbinds, Unmaps, Unregisters, Wakes, Withdraws, Writes, accepted, basic, completed, past_identifier, past_ordinal, put_handle, received, registering, unregistering, with_handle, with_view, world_after, Acts, AddsToken, NamesToken, Secures, acting, secured, Dooms, Leaves, LetsGo, Marks, SetsDebug, SetsException, debugged, doomed, excepted, portless}
use Rattle.lpc_model.specs.Sweep.{is_unheld, loosened, loosens}
use Rattle.lpc_model.specs.Linked.{AreLivesHeld, HasHeldPorts, HasHeldSections, HasHeldTokens}
use Rattle.lpc_model.specs.Tests.{handle_row}
use Rattle.lpc_model.proofs.Steps.Rows.{count-change}
use Rattle.lpc_model.proofs.Steps.Handles.{alone, value-free}
use Rattle.lpc_model.proofs.Steps.Registrations.{back-more, more-each, registering-more, same-each}
use Rattle.lpc_model.proofs.Linked.Steps.{is_steady}
use Rattle.lpc_model.proofs.Steps.InTurn.{steps-keep}
use Rattle.lpc_model.proofs.Sound.Cuts.{rest}

-- Counts
pub held-more : (a b : ℕ) → a ≤ b → not (a == 0) ≡ true → not (b == 0) ≡ true
held-more a b more is = grind (arith, nat_tests)

pub held-some : (n : ℕ) → 1 ≤ n → not (n == 0) ≡ true
held-some n some = grind (arith, nat_tests)

pub push-more : {X : Type 0} (p : X → Bool) (xs : List X) (y : X) → count p xs ≤ count p (xs ++ y ∷ [])
push-more p xs y = at (p y) (count p xs) _ (count-push p xs y)
  where
    at : (c : Bool) (n m : ℕ) → m ≡ n + cond c 1 0 → n ≤ m
    at true n m is = omega (arith, is)
    at false n m is = omega (arith, is)

-- Handles
-- a row that is above or below the new one stays
parts-count : {X : Type 0} (p s low high : X → Bool) → ((x : X) → s x ≡ false → (low x || high x) ≡ true) → (xs : List X) → has s xs ≡ false → count p xs ≤ count p (which low xs) + count p (which high xs)
parts-count p s low high parts [] none = omega arith
parts-count p s low high parts (x ∷ xs) none = grind (arith, parts x, parts-count p s low high parts xs)

put-count : (p : HandleRow → Bool) (h : HandleRow) (rows : List HandleRow) → has (has_value h.value) rows ≡ false → count p rows ≤ count p (put_handle h rows)
put-count p h rows none =
    let low : HandleRow → Bool = λ r. nat_lt r.value h.value in
    let high : HandleRow → Bool = λ r. nat_lt h.value r.value in
    let split = count-append p (which low rows) (h ∷ which high rows) in
    let parts = parts-count p (has_value h.value) low high (λ r off. number-apart r.value h.value off) rows none in
    let more = tail (p h) (count p (which high rows)) in
    omega (arith, split, parts, count-cons p h (which high rows), more)
  where
    tail : (c : Bool) (n : ℕ) → n ≤ cond c 1 0 + n
    tail true n = omega arith
    tail false n = omega arith

    count-cons : {X : Type 0} (p : X → Bool) (x : X) (xs : List X) → count p (x ∷ xs) ≡ cond (p x) 1 0 + count p xs
    count-cons p x xs = grind arith

-- a process gets a handle of a value that is free in it: as many handles as before name each object
handles-count : (pid : ℕ) (h : HandleRow) (p : HandleRow → Bool) (ts : List HandleTable) → every (λ t. not (is_table pid t && has (has_value h.value) t.rows)) ts ≡ true
    → count p (each (λ t. t.rows) ts) ≤ count p (each (λ t. t.rows) (change (is_table pid) (with_handle h) ts))
handles-count pid h p [] lacks = omega arith
handles-count pid h p (t ∷ ts) lacks = at (is_table pid t) refl (handles-count pid h p ts (second-true _ _ lacks)) (first-true _ _ lacks)
  where
    sums : (a b c d n m : ℕ) → n ≡ a + b → m ≡ c + d → a ≤ c → b ≤ d → n ≤ m
    sums a b c d n m one two front back = omega (arith, one, two, front, back)

    none : (b : Bool) → not (true && b) ≡ true → b ≡ false
    none b is = grind arith

    later : List HandleRow
    later = each (λ t. t.rows) (change (is_table pid) (with_handle h) ts)

    at : (c : Bool) → is_table pid t ≡ c → count p (each (λ t. t.rows) ts) ≤ count p (each (λ t. t.rows) (change (is_table pid) (with_handle h) ts)) → not (c && has (has_value h.value) t.rows) ≡ true
        → count p (each (λ t. t.rows) (t ∷ ts)) ≤ count p (each (λ t. t.rows) (cond c (with_handle h t) t ∷ change (is_table pid) (with_handle h) ts))
    at true is rest lack = sums _ _ _ _ _ _ (count-append p t.rows (each (λ t. t.rows) ts)) (count-append p (put_handle h t.rows) (each (λ t. t.rows) (change (is_table pid) (with_handle h) ts))) (put-count p h t.rows (none _ lack)) rest
    at false off rest lack = sums _ _ _ _ _ _ (count-append p t.rows (each (λ t. t.rows) ts)) (count-append p t.rows (each (λ t. t.rows) (change (is_table pid) (with_handle h) ts))) (omega arith) rest

pub handle-count : (w : World) (pid : ℕ) (object : ObjectName) (access : ℕ) (o : ObjectName) → count (is_table pid) w.handles ≤ 1 → handle_count w o ≤ handle_count (basic w (AddsHandle pid (handle_row (free_handle w pid) object access))) o
handle-count w pid object access o one = handles-count pid (handle_row (free_handle w pid) object access) (λ h. same_object h.object o) w.handles (alone pid (has_value (free_handle w pid)) w.handles one (value-free w pid))

-- a further table of handles
pub handles-push : (p : HandleRow → Bool) (ts : List HandleTable) (t : HandleTable) → count p (each (λ t. t.rows) ts) ≤ count p (each (λ t. t.rows) (ts ++ t ∷ []))
handles-push p [] t = omega arith
handles-push p (x ∷ xs) t = sums _ _ _ _ _ (count-append p x.rows (each (λ t. t.rows) xs)) (count-append p x.rows (each (λ t. t.rows) (xs ++ t ∷ []))) (handles-push p xs t)
  where
    sums : (a b c n m : ℕ) → n ≡ a + b → m ≡ a + c → b ≤ c → n ≤ m
    sums a b c n m one two more = omega (arith, one, two, more)

-- Processes and threads
-- steps that keep those held whatever the world
abbrev pub keeps_lives : Basic → Bool
keeps_lives (AddsProcess p) = false
keeps_lives (AddsThread t) = false
keeps_lives (AddsHandle pid h) = false
keeps_lives (DropsHandle pid value) = false
keeps_lives (Frees o) = false
keeps_lives (Dies who status) = false
keeps_lives b = true

pub steady-keeps : (b : Basic) → is_steady b ≡ true → keeps_lives b ≡ true
steady-keeps (AddsProcess p) is = absurd (cc)
steady-keeps (AddsThread t) is = absurd (cc)
steady-keeps (AddsHandle pid h) is = absurd (cc)
steady-keeps (DropsHandle pid value) is = absurd (cc)
steady-keeps (Frees o) is = absurd (cc)
steady-keeps (Dies who status) is = absurd (cc)
steady-keeps b is = refl

abbrev holds-thread : World → ThreadRow → Bool
holds-thread w t = not (is_unheld w (thread_name t.birth))

abbrev holds-process : World → ProcessRow → Bool
holds-process w p = not (is_unheld w (process_name p.birth))

same-sum : (a b c : ℕ) → c ≡ b → a + b ≤ a + c
same-sum a b c is = omega (arith, is)

-- where no count falls, what was held is
pub lives-more : (w v : World) → ((b : Birth) → pointer_count w (thread_name b) ≤ pointer_count v (thread_name b)) → ((b : Birth) → pointer_count w (process_name b) ≤ pointer_count v (process_name b))
    → AreLivesHeld w → (every (holds-thread v) w.threads ≡ true) × (every (holds-process v) w.processes ≡ true)
lives-more w v threads processes held = (every-more (holds-thread w) (holds-thread v) (λ t is. held-more _ _ (threads t.birth) is) w.threads held.threads, every-more (holds-process w) (holds-process v) (λ p is. held-more _ _ (processes p.birth) is) w.processes held.processes)

-- a thread draws a number
drawn-lives : (w : World) (who : ℕ) (f : ThreadRow → ThreadRow) → ((t : ThreadRow) → (f t).birth ≡ t.birth) → ((t : ThreadRow) → (f t).live ≡ t.live) → ((t : ThreadRow) → (f t).process ≡ t.process)
    → AreLivesHeld w → AreLivesHeld (record w { threads = change (is_thread who) f w.threads })
drawn-lives w who f births lives processes held =
    let v : World = record w { threads = change (is_thread who) f w.threads } in
    let more = lives-more w v (λ b. same-sum (handle_count w (thread_name b)) _ _ (count-change (is_life b) (is_thread who) f (λ t. rw (births t, lives t) refl) w.threads))
    (λ b. same-sum (handle_count w (process_name b)) _ _ (count-change (lives_by w b) (is_thread who) f (λ t. rw (lives t, processes t) refl) w.threads)) held in
    record { threads = every-change (holds-thread v) (is_thread who) f (λ t is. rw (births t) is) w.threads more.0; processes = more.1 }

-- a process gets or lets go a port, or is to end
count-alike : {X : Type 0} (p q : X → Bool) → ((x : X) → p x ≡ q x) → (xs : List X) → count p xs ≡ count q xs
count-alike p q same [] = refl
count-alike p q same (x ∷ xs) = grind (arith, same x, count-alike p q same xs)

changed-lives : (w : World) (pid : ℕ) (f : ProcessRow → ProcessRow) → ((p : ProcessRow) → (f p).birth ≡ p.birth) → ((p : ProcessRow) → (f p).number ≡ p.number) → AreLivesHeld w → AreLivesHeld (record w { processes = change (is_process pid) f w.processes })
changed-lives w pid f births numbers held =
    let v : World = record w { processes = change (is_process pid) f w.processes } in
    let more = lives-more w v (λ b. omega arith) (λ b. same-sum (handle_count w (process_name b)) _ _ (count-alike (lives_by v b) (lives_by w b) (same b) w.threads)) held in
    record { threads = more.0; processes = every-change (holds-process v) (is_process pid) f (λ p is. rw (births p) is) w.processes more.1 }
  where
    same : (b : Birth) (t : ThreadRow) → lives_by (record w { processes = change (is_process pid) f w.processes }) b t ≡ lives_by w b t
    same b t = ap (λ c. t.live && c) (has-change (λ p. same_birth p.birth b && (p.number == t.process)) (is_process pid) f (λ p. rw (births p, numbers p) refl) w.processes)

lives-step : (w : World) (b : Basic) → keeps_lives b ≡ true → AreLivesHeld w → AreLivesHeld (basic w b)
lives-step w (DrawsIdentifier who) is held = drawn-lives w who past_identifier (λ t. refl) (λ t. refl) (λ t. refl) held
lives-step w (DrawsOrdinal who) is held = drawn-lives w who past_ordinal (λ t. refl) (λ t. refl) (λ t. refl) held
lives-step w (Registers who b) is held = drawn-lives w who (registering b) (λ t. refl) (λ t. refl) (λ t. refl) held
lives-step w (Unregisters who b) is held = drawn-lives w who (unregistering b) (λ t. refl) (λ t. refl) (λ t. refl) held
lives-step w (Acts who own) is held = drawn-lives w who (acting own) (λ t. refl) (λ t. refl) (λ t. refl) held
lives-step w (SetsDebug pid b) is held = changed-lives w pid (debugged b) (λ p. refl) (λ p. refl) held
lives-step w (SetsException pid b) is held = changed-lives w pid (excepted b) (λ p. refl) (λ p. refl) held
lives-step w (LetsGo pid) is held = changed-lives w pid portless (λ p. refl) (λ p. refl) held
lives-step w (Dooms pid code) is held = changed-lives w pid (doomed code) (λ p. refl) (λ p. refl) held
lives-step w (Dies who status) is held = absurd (cc)
lives-step w (AddsProcess p) is held = absurd (cc)
lives-step w (AddsThread t) is held = absurd (cc)
lives-step w (AddsHandle pid h) is held = absurd (cc)
lives-step w (DropsHandle pid value) is held = absurd (cc)
lives-step w (Frees o) is held = absurd (cc)
lives-step w b is held = record { threads = held.threads; processes = held.processes }

pub lives-all : (w : World) (bs : List Basic) → every keeps_lives bs ≡ true → AreLivesHeld w → AreLivesHeld (world_after w bs)
lives-all = steps-keep keeps_lives AreLivesHeld lives-step

-- a process gets a handle of a value that is free in it
pub lives-handle : (w : World) (pid : ℕ) (object : ObjectName) (access : ℕ) → count (is_table pid) w.handles ≤ 1 → AreLivesHeld w → AreLivesHeld (basic w (AddsHandle pid (handle_row (free_handle w pid) object access)))
lives-handle w pid object access one held =
    let v = basic w (AddsHandle pid (handle_row (free_handle w pid) object access)) in
    let more = lives-more w v (λ b. more-handles (handle_count w (thread_name b)) _ (count (is_life b) w.threads) (handle-count w pid object access (thread_name b) one))
    (λ b. more-handles (handle_count w (process_name b)) _ (count (lives_by w b) w.threads) (handle-count w pid object access (process_name b) one)) held in
    record { threads = more.0; processes = more.1 }
  where
    more-handles : (a b c : ℕ) → a ≤ b → a + c ≤ b + c
    more-handles a b c is = omega (arith, is)

-- Ports
-- ports that were named are, where no count falls
abbrev pub holds-port : World → PortRow → Bool
holds-port w p = not (is_unheld w (port_name p.birth))

pub ports-more : (w v : World) → ((b : Birth) → pointer_count w (port_name b) ≤ pointer_count v (port_name b)) → HasHeldPorts w → every (holds-port v) w.ports ≡ true
ports-more w v more held = every-more (holds-port w) (holds-port v) (λ p is. held-more _ _ (more p.birth) is) w.ports held

pub counts-more : (a b c d e f i j k l m n : ℕ) → a ≤ i → b ≤ j → c ≤ k → d ≤ l → e ≤ m → f ≤ n → a + (b + (c + (d + (e + f)))) ≤ i + (j + (k + (l + (m + n))))
counts-more a b c d e f i j k l m n one two three four five six = omega (arith, one, two, three, four, five, six)

-- the registrations of a port, the views that it owns, and the processes of whose exceptions it is told
abbrev pub claims : World → Birth → ℕ
claims w b = count (same_birth b) (all_registrations w) + (count (is_owned_by b) (all_views w) + count (same_birth b) (event_ports w))

pub claims-more : (w : World) (b : Birth) (m n : ℕ) → m ≤ n → m + (count (is_owned_by b) (all_views w) + count (same_birth b) (event_ports w)) ≤ n + (count (is_owned_by b) (all_views w) + count (same_birth b) (event_ports w))
claims-more w b m n is = omega (arith, is)

front-more : (a b c : ℕ) → a ≤ b → a + c ≤ b + c
front-more a b c is = omega (arith, is)

pub not-less : (a b : ℕ) → b ≡ a → a ≤ b
not-less a b is = omega (arith, is)

-- a thread draws a number, and has registered what it had
pub drawn-quiet : (w : World) (who : ℕ) (f : ThreadRow → ThreadRow) → ((t : ThreadRow) → registered_by (f t) ≡ registered_by t) → HasHeldPorts w → HasHeldPorts (record w { threads = change (is_thread who) f w.threads })
drawn-quiet w who f same held =
    let v : World = record w { threads = change (is_thread who) f w.threads } in
    ports-more w v (λ b. counts-more (handle_count w (port_name b)) (count (is_paired_to b) w.ports) (count (is_connected_to b) w.ports) (count (is_sent_on b) w.messages) (count (is_made_on b) w.waits) (claims w b) _ _ _ _ _ _
    (omega arith) (omega arith) (omega arith) (omega arith) (omega arith) (claims-more w b _ _ (not-less _ _ (ap (count (same_birth b)) (same-each registered_by (is_thread who) f same w.threads))))) held

-- steady steps that let no name go
quiet-step : (w : World) (b : Basic) → is_steady b ≡ true → loosens b ≡ false → HasHeldPorts w → HasHeldPorts (basic w b)
quiet-step w (Tells e) is quiet held = held
quiet-step w (DrawsIdentifier who) is quiet held = drawn-quiet w who past_identifier (λ t. refl) held
quiet-step w (DrawsOrdinal who) is quiet held = drawn-quiet w who past_ordinal (λ t. refl) held
quiet-step w (Registers who c) is quiet held =
    ports-more w (basic w (Registers who c)) (λ b. counts-more (handle_count w (port_name b)) (count (is_paired_to b) w.ports) (count (is_connected_to b) w.ports) (count (is_sent_on b) w.messages) (count (is_made_on b) w.waits) _ _ _ _ _ _ _
    (omega arith) (omega arith) (omega arith) (omega arith) (omega arith) (claims-more w b _ _ (more-each (same_birth b) registered_by (is_thread who) (registering c) (registering-more b c) w.threads))) held
quiet-step w (Binds path node) is quiet held = held
quiet-step w (Unbinds b) is quiet held = held
quiet-step w (Awaits x) is quiet held = ports-more w (basic w (Awaits x)) (λ b. counts-more (handle_count w (port_name b)) (count (is_paired_to b) w.ports) (count (is_connected_to b) w.ports) (count (is_sent_on b) w.messages) _ (claims w b) _ _ _ _ _ _ (omega arith) (omega arith) (omega arith) (omega arith) (push-more (is_made_on b) w.waits x) (not-less _ _ refl)) held
quiet-step w (Enters m) is quiet held = ports-more w (basic w (Enters m)) (λ b. counts-more (handle_count w (port_name b)) (count (is_paired_to b) w.ports) (count (is_connected_to b) w.ports) _ (count (is_made_on b) w.waits) (claims w b) _ _ _ _ _ _ (omega arith) (omega arith) (omega arith) (push-more (is_sent_on b) w.messages m) (omega arith) (not-less _ _ refl)) held
quiet-step w (Receives who queue) is quiet held = ports-more w (basic w (Receives who queue)) (λ b. counts-more (handle_count w (port_name b)) (count (is_paired_to b) w.ports) (count (is_connected_to b) w.ports) (count (is_sent_on b) w.messages) _ (claims w b) _ _ _ _ _ _ (omega arith) (omega arith) (omega arith) (omega arith) (not-less _ _ (count-change (is_made_on b) (waits_at who queue) received (λ x. refl) w.waits)) (not-less _ _ refl)) held
quiet-step w (Accepts who reply) is quiet held = ports-more w (basic w (Accepts who reply)) (λ b. counts-more (handle_count w (port_name b)) (count (is_paired_to b) w.ports) (count (is_connected_to b) w.ports) (count (is_sent_on b) w.messages) _ (claims w b) _ _ _ _ _ _ (omega arith) (omega arith) (omega arith) (omega arith) (not-less _ _ (count-change (is_made_on b) (waits_as who) (accepted reply) (λ x. refl) w.waits)) (not-less _ _ refl)) held
quiet-step w (Completes c) is quiet held =
    let v = basic w (Completes c) in
    every-change (holds-port v) (is_port c) completed (λ p is. is) w.ports (ports-more w v (λ b. counts-more (handle_count w (port_name b)) _ _ (count (is_sent_on b) w.messages) (count (is_made_on b) w.waits) (claims w b) _ _ _ _ _ _
    (omega arith) (not-less _ _ (count-change (is_paired_to b) (is_port c) completed (λ p. refl) w.ports)) (not-less _ _ (count-change (is_connected_to b) (is_port c) completed (λ p. refl) w.ports)) (omega arith) (omega arith) (not-less _ _ refl)) held)
quiet-step w (Secures c y) is quiet held =
    let v = basic w (Secures c y) in
    every-change (holds-port v) (is_port c) (secured y) (λ p is. is) w.ports (ports-more w v (λ b. counts-more (handle_count w (port_name b)) _ _ (count (is_sent_on b) w.messages) (count (is_made_on b) w.waits) (claims w b) _ _ _ _ _ _
    (omega arith) (not-less _ _ (count-change (is_paired_to b) (is_port c) (secured y) (λ p. refl) w.ports)) (not-less _ _ (count-change (is_connected_to b) (is_port c) (secured y) (λ p. refl) w.ports)) (omega arith) (omega arith) (not-less _ _ refl)) held)
quiet-step w (Acts who own) is quiet held = drawn-quiet w who (acting own) (λ t. refl) held
quiet-step w (AddsToken t) is quiet held = absurd (cc)
quiet-step w (NamesToken n) is quiet held = held
quiet-step w (Marks who) is quiet held = held
quiet-step w (Dooms pid code) is quiet held = ports-more w (basic w (Dooms pid code)) (λ b. counts-more (handle_count w (port_name b)) (count (is_paired_to b) w.ports) (count (is_connected_to b) w.ports) (count (is_sent_on b) w.messages) (count (is_made_on b) w.waits) _ _ _ _ _ _ _
    (omega arith) (omega arith) (omega arith) (omega arith) (omega arith) (back-more (count (same_birth b) (all_registrations w)) _ _ (back-more (count (is_owned_by b) (all_views w)) _ _ (not-less _ _ (ap (count (same_birth b)) (same-each event_ports_of (is_process pid) (doomed code) (λ p. refl) w.processes)))))) held
quiet-step w (SetsDebug pid b) is quiet held = absurd (cc)
quiet-step w (SetsException pid b) is quiet held = absurd (cc)
quiet-step w (LetsGo pid) is quiet held = absurd (cc)
quiet-step w (Leaves who) is quiet held = absurd (cc)
quiet-step w (Dies who status) is quiet held = absurd (cc)
quiet-step w (Unregisters who c) is quiet held = absurd (cc)
quiet-step w (Makes p) is quiet held = absurd (cc)
quiet-step w (AddsProcess p) is quiet held = absurd (cc)
quiet-step w (AddsThread t) is quiet held = absurd (cc)
quiet-step w (AddsHandle pid h) is quiet held = absurd (cc)
quiet-step w (Wakes who call status fields) is quiet held = absurd (cc)
quiet-step w (Takes q) is quiet held = absurd (cc)
quiet-step w (TakesConnect q) is quiet held = absurd (cc)
quiet-step w (Withdraws who) is quiet held = absurd (cc)
quiet-step w (Empties q) is quiet held = absurd (cc)
quiet-step w (Cuts b) is quiet held = absurd (cc)
quiet-step w (DropsHandle pid value) is quiet held = absurd (cc)
quiet-step w (Joins client server context) is quiet held = absurd (cc)
quiet-step w (Frees o) is quiet held = absurd (cc)
quiet-step w (AddsSection s) is quiet held = absurd (cc)
quiet-step w (Writes b place new) is quiet held = held
quiet-step w (Maps pid v) is quiet held =
    ports-more w (basic w (Maps pid v)) (λ b. counts-more (handle_count w (port_name b)) (count (is_paired_to b) w.ports) (count (is_connected_to b) w.ports) (count (is_sent_on b) w.messages) (count (is_made_on b) w.waits) (claims w b) _ _ _ _ _ _
    (omega arith) (omega arith) (omega arith) (omega arith) (omega arith) (back-more (count (same_birth b) (all_registrations w)) _ _ (front-more _ _ (count (same_birth b) (event_ports w)) (more-each (is_owned_by b) (λ (t : ViewTable). t.rows) (is_space pid) (with_view v) (λ t. push-more (is_owned_by b) t.rows v) w.views)))) held
quiet-step w (Unmaps pid base) is quiet held = absurd (cc)
quiet-step w (DropsViewsOf pid) is quiet held = absurd (cc)
quiet-step w (DropsOwned b) is quiet held = absurd (cc)

-- Sections
-- sections that were named are, where no count falls
abbrev pub holds-section : World → SectionRow → Bool
holds-section w s = not (is_unheld w (section_name s.birth))

pub sections-more : (w v : World) → ((b : Birth) → pointer_count w (section_name b) ≤ pointer_count v (section_name b)) → HasHeldSections w → every (holds-section v) w.sections ≡ true
sections-more w v more held = every-more (holds-section w) (holds-section v) (λ s is. held-more _ _ (more s.birth) is) w.sections held

-- a further view, or a further handle
pub more-views : (a b c : ℕ) → b ≤ c → a + b ≤ a + c
more-views a b c is = omega (arith, is)

pub more-handles : (a b c : ℕ) → a ≤ b → a + c ≤ b + c
more-handles a b c is = omega (arith, is)

pub handle-sections : (w : World) (pid : ℕ) (object : ObjectName) (access : ℕ) → count (is_table pid) w.handles ≤ 1 → HasHeldSections w → HasHeldSections (basic w (AddsHandle pid (handle_row (free_handle w pid) object access)))
handle-sections w pid object access few held =
    sections-more w (basic w (AddsHandle pid (handle_row (free_handle w pid) object access))) (λ b. more-handles (handle_count w (section_name b)) _ (count (shows_section b) (all_views w) + count (offers_section b) w.waits) (handle-count w pid object access (section_name b) few)) held

-- steps that make no section, give and take no handle, and by which no object, no view and no wait goes, and no offer
abbrev pub keeps_sections : Basic → Bool
keeps_sections (Wakes who call status fields) = false
keeps_sections (Leaves who) = false
keeps_sections (Accepts who a) = false
keeps_sections (Dies who status) = false
keeps_sections (AddsProcess p) = false
keeps_sections (AddsHandle pid h) = false
keeps_sections (DropsHandle pid value) = false
keeps_sections (Frees o) = false
keeps_sections (AddsSection s) = false
keeps_sections (Unmaps pid base) = false
keeps_sections (DropsViewsOf pid) = false
keeps_sections (DropsOwned b) = false
keeps_sections b = true

sections-step : (w : World) (b : Basic) → keeps_sections b ≡ true → HasHeldSections w → HasHeldSections (basic w b)
sections-step w (Maps pid v) is held = sections-more w (basic w (Maps pid v)) (λ b. more-views (handle_count w (section_name b)) _ _ (more-handles _ _ (count (offers_section b) w.waits) (more-each (shows_section b) (λ (t : ViewTable). t.rows) (is_space pid) (with_view v) (λ t. push-more (shows_section b) t.rows v) w.views))) held
sections-step w (Awaits x) is held = sections-more w (basic w (Awaits x)) (λ b. more-views (handle_count w (section_name b)) _ _ (more-views (count (shows_section b) (all_views w)) _ _ (push-more (offers_section b) w.waits x))) held
sections-step w (Receives who queue) is held = sections-more w (basic w (Receives who queue)) (λ b. more-views (handle_count w (section_name b)) _ _ (more-views (count (shows_section b) (all_views w)) _ _ (not-less _ _ (count-change (offers_section b) (waits_at who queue) received (λ x. refl) w.waits)))) held
sections-step w (Wakes who call status fields) is held = absurd (cc)
sections-step w (Leaves who) is held = absurd (cc)
sections-step w (Accepts who a) is held = absurd (cc)
sections-step w (Dies who status) is held = absurd (cc)
sections-step w (AddsProcess p) is held = absurd (cc)
sections-step w (AddsHandle pid h) is held = absurd (cc)
sections-step w (DropsHandle pid value) is held = absurd (cc)
sections-step w (Frees o) is held = absurd (cc)
sections-step w (AddsSection s) is held = absurd (cc)
sections-step w (Unmaps pid base) is held = absurd (cc)
sections-step w (DropsViewsOf pid) is held = absurd (cc)
sections-step w (DropsOwned b) is held = absurd (cc)
sections-step w b is held = held

pub sections-all : (w : World) (bs : List Basic) → every keeps_sections bs ≡ true → HasHeldSections w → HasHeldSections (world_after w bs)
sections-all = steps-keep keeps_sections HasHeldSections sections-step

-- a steady step that lets no name go does so
steady-sections : (b : Basic) → is_steady b ≡ true → loosens b ≡ false → keeps_sections b ≡ true
steady-sections (Wakes who call status fields) is quiet = absurd (cc)
steady-sections (Leaves who) is quiet = absurd (cc)
steady-sections (Accepts who a) is quiet = absurd (cc)
steady-sections (Dies who status) is quiet = absurd (cc)
steady-sections (AddsProcess p) is quiet = absurd (cc)
steady-sections (AddsHandle pid h) is quiet = absurd (cc)
steady-sections (DropsHandle pid value) is quiet = absurd (cc)
steady-sections (Frees o) is quiet = absurd (cc)
steady-sections (AddsSection s) is quiet = absurd (cc)
steady-sections (Unmaps pid base) is quiet = absurd (cc)
steady-sections (DropsViewsOf pid) is quiet = absurd (cc)
steady-sections (DropsOwned b) is quiet = absurd (cc)
steady-sections b is quiet = refl

-- Tokens
-- tokens that were named are, where no count falls
abbrev pub holds-token : World → TokenRow → Bool
holds-token w t = not (is_unheld w (token_name t.birth))

pub tokens-more : (w v : World) → ((b : Birth) → pointer_count w (token_name b) ≤ pointer_count v (token_name b)) → HasHeldTokens w → every (holds-token v) w.tokens ≡ true
tokens-more w v more held = every-more (holds-token w) (holds-token v) (λ t is. held-more _ _ (more t.birth) is) w.tokens held

pub handle-tokens : (w : World) (pid : ℕ) (object : ObjectName) (access : ℕ) → count (is_table pid) w.handles ≤ 1 → HasHeldTokens w → HasHeldTokens (basic w (AddsHandle pid (handle_row (free_handle w pid) object access)))
handle-tokens w pid object access few held =
    tokens-more w (basic w (AddsHandle pid (handle_row (free_handle w pid) object access))) (λ b. more-handles (handle_count w (token_name b)) _ 0 (handle-count w pid object access (token_name b) few)) held

-- steps that make no token, give and take no handle, and by which no object goes
abbrev pub keeps_tokens : Basic → Bool
keeps_tokens (AddsProcess p) = false
keeps_tokens (AddsHandle pid h) = false
keeps_tokens (DropsHandle pid value) = false
keeps_tokens (Frees o) = false
keeps_tokens (AddsToken t) = false
keeps_tokens b = true

tokens-step : (w : World) (b : Basic) → keeps_tokens b ≡ true → HasHeldTokens w → HasHeldTokens (basic w b)
tokens-step w (AddsProcess p) is held = absurd (cc)
tokens-step w (AddsHandle pid h) is held = absurd (cc)
tokens-step w (DropsHandle pid value) is held = absurd (cc)
tokens-step w (Frees o) is held = absurd (cc)
tokens-step w (AddsToken t) is held = absurd (cc)
tokens-step w b is held = held

pub tokens-all : (w : World) (bs : List Basic) → every keeps_tokens bs ≡ true → HasHeldTokens w → HasHeldTokens (world_after w bs)
tokens-all = steps-keep keeps_tokens HasHeldTokens tokens-step

-- a steady step does so
steady-tokens : (b : Basic) → is_steady b ≡ true → keeps_tokens b ≡ true
steady-tokens (AddsProcess p) is = absurd (cc)
steady-tokens (AddsHandle pid h) is = absurd (cc)
steady-tokens (DropsHandle pid value) is = absurd (cc)
steady-tokens (Frees o) is = absurd (cc)
steady-tokens (AddsToken t) is = absurd (cc)
steady-tokens b is = refl

-- what is loosened stays so
or-false : (a : Bool) → (a || false) ≡ a
or-false true = refl
or-false false = refl

pub loosened-on : (bs : List Basic) → loosened true bs ≡ true
loosened-on [] = refl
loosened-on (b ∷ bs) = rw (or-true (loosens b)) (loosened-on bs)

-- what each steady step keeps that lets no name go, such steps keep
steady-keep : (Q : World → Type 0) → ((w : World) (b : Basic) → is_steady b ≡ true → loosens b ≡ false → Q w → Q (basic w b))
    → (w : World) (bs : List Basic) → every is_steady bs ≡ true → loosened false bs ≡ false → Q w → Q (world_after w bs)
steady-keep Q keeps w [] all quiet held = held
steady-keep Q keeps w (b ∷ bs) all quiet held =
    let here : is_steady b ≡ true = grind arith in
    let later : every is_steady bs ≡ true = grind arith in
    at (loosens b) refl here later (rw (or-false (loosens b)) at quiet) (λ off next. steady-keep Q keeps (basic w b) bs later off next)
  where
    at : (c : Bool) → loosens b ≡ c → is_steady b ≡ true → every is_steady bs ≡ true → loosened c bs ≡ false → (loosened false bs ≡ false → Q (basic w b) → Q (world_after (basic w b) bs)) → Q (world_after (basic w b) bs)
    at true is here later off more = let on = loosened-on bs in absurd (cc)
    at false is here later off more = more off (keeps w b here is held)

pub quiet-all : (w : World) (bs : List Basic) → every is_steady bs ≡ true → loosened false bs ≡ false → HasHeldPorts w → HasHeldPorts (world_after w bs)
quiet-all = steady-keep HasHeldPorts quiet-step

pub quiet-sections : (w : World) (bs : List Basic) → every is_steady bs ≡ true → loosened false bs ≡ false → HasHeldSections w → HasHeldSections (world_after w bs)
quiet-sections = steady-keep HasHeldSections (λ w b is quiet. sections-step w b (steady-sections b is quiet))

pub quiet-tokens : (w : World) (bs : List Basic) → every is_steady bs ≡ true → loosened false bs ≡ false → HasHeldTokens w → HasHeldTokens (world_after w bs)
quiet-tokens = steady-keep HasHeldTokens (λ w b is quiet. tokens-step w b (steady-tokens b is))
