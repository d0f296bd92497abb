-- What each basic step does to a view.
use Rattle.std.proofs.Common.{◌≡◌, ℕ, List, [], ◌∷◌, ◌++◌, Bool, true, false, cond, not, map, Option, Some, None, refl, ap, ◌∙◌, arith, sym}
use Rattle.std.specs.Prelude.{◌&&◌, ◌||◌, is_none}
use Rattle.std.proofs.lemmas.Bool.{and_from, eqb-true, or_parts}
use Rattle.lpc_base.specs.Rows.{change, every, first, has, passes, which, without, without_first, each}
use Rattle.lpc_base.proofs.RowMaps.{push-map}
use Rattle.lpc_base.proofs.RowWords.{change-none, every-true, which-without, without-none, without_first-none}
use Rattle.lpc_base.proofs.Bools.{first-true, second-true}
use Rattle.lpc_names.specs.Binding.{is_name}
use Rattle.lpc_names.specs.Walk.{LinkTo, Stands}
use Rattle.lpc_names.specs.declared.names.Found.TheVariants.{Directory, Item}
use Rattle.lpc_model.specs.World.{Birth, HandleTable, MessageRow, Node, Path, PortRow, ProcessRow, ViewRow, ViewTable, WaitRow, World, ThreadRow}
use Rattle.lpc_model.specs.Found.{is_own_of, is_the, same_birth, is_port, is_queued, is_queued_connect, is_space, is_table, is_thread, lies_at, waits_as, waits_at, all_views, is_owned_by, is_event, is_mark, is_process}
use Rattle.lpc_model.specs.Settle.{is_event_of}
use Rattle.lpc_model.specs.Basics.{Accepts, AddsHandle, AddsProcess, AddsSection, AddsThread, Awaits, Basic, Binds, Completes, Cuts, DrawsIdentifier, DrawsOrdinal, DropsHandle, DropsViewsOf, Empties, Enters, Frees, Joins, Makes, Maps, Receives, Takes, TakesConnect, Tells, Unbinds, Unmaps, Wakes, Withdraws, Writes, accepted, basic, completed, cut, is_end_of, joined, no_handles, no_views, past_identifier, past_ordinal, received, used, with_handle, with_view, without_handle, without_view, without_views, world_after, Dies, Registers, Unregisters, ended, registering, unregistering, DropsOwned, without_owned, Acts, AddsToken, NamesToken, Secures, acting, secured, Dooms, Leaves, LetsGo, Marks, SetsDebug, SetsException, debugged, doomed, excepted, left_by, portless}
use Rattle.lpc_model.specs.Circle.{Group}
use Rattle.lpc_model.proofs.Steps.Rows.{has-append}
use Rattle.lpc_isolation.proofs.Views.Filters.{kept-change, kept-push, kept-push_out, kept-without_out, kept-without_first, kept-without_first_out, shown, shown-change, shown-map, shown-push, shown-push_out, shown-change_out, shown-map_out, kept-change_out, mapped-without, shown-turn}
use Rattle.lpc_isolation.proofs.Views.View.{of_birth, our_binding, our_message, our_node, our_port, our_process, our_section, our_space, our_table, our_thread, our_used, our_wait, hidden_section, seen_port, seen_space, seen_view, view, our_mark, our_token}
use Rattle.lpc_isolation.proofs.Views.Marks.{accepted-seen, begun-seen, both-changed, left-seen, received-seen, same-marks, unmarked-seen}

-- a thread's wait is in the view, and so is its row
abbrev pub sees_wait : Group → World → ℕ → Bool
sees_wait m w who = has (waits_as who) (which (our_wait m) w.waits)

abbrev pub sees_at : Group → World → ℕ → Birth → Bool
sees_at m w who q = has (waits_at who q) (which (our_wait m) w.waits)

abbrev pub sees_thread : Group → World → ℕ → Bool
sees_thread m w who = has (is_thread who) (which (our_thread m) w.threads)

-- a thread's message that asks is in the view
abbrev pub sees_own : Group → World → ℕ → Bool
sees_own m w who = has (is_own_of who) (which (our_message m) w.messages)

-- the view changes by the step
abbrev pub sees : Group → World → Basic → Bool
sees m w (Tells e) = false
sees m w (Wakes who call status fields) = sees_wait m w who
sees m w (Awaits x) = our_wait m x
sees m w (Receives who q) = sees_at m w who q
sees m w (Accepts who reply) = sees_wait m w who
sees m w (Enters x) = our_message m x
sees m w (Takes q) = passes (first (is_queued q) w.messages) (our_message m)
sees m w (TakesConnect q) = passes (first (is_queued_connect q) w.messages) (our_message m)
sees m w (Withdraws who) = sees_own m w who
sees m w (DrawsIdentifier who) = sees_thread m w who
sees m w (DrawsOrdinal who) = sees_thread m w who
sees m w (Dies who status) = sees_wait m w who || sees_thread m w who
sees m w (Registers who b) = sees_thread m w who
sees m w (Unregisters who b) = sees_thread m w who
sees m w (AddsProcess p) = m p.number
sees m w (AddsThread t) = m t.process
sees m w (Makes p) = our_port m p
sees m w (Joins client server context) = m client.process && m server.process
sees m w (Completes b) = m b.process
sees m w (Frees o) = true
sees m w (Binds path node) = our_node m node
sees m w (AddsHandle pid h) = m pid
sees m w (Empties q) = m q.process
sees m w (Cuts b) = m b.process
sees m w (Unbinds b) = m b.process
sees m w (DropsHandle pid value) = m pid
sees m w (AddsSection s) = m s.birth.process
sees m w (Writes b place new) = false
sees m w (Maps pid v) = m pid
sees m w (Unmaps pid base) = m pid
sees m w (DropsViewsOf pid) = m pid
sees m w (DropsOwned b) = has (is_owned_by b) (all_views (view m w))
sees m w (Secures b s) = m b.process
sees m w (Acts who own) = sees_thread m w who
sees m w (AddsToken t) = our_token m t
sees m w (NamesToken n) = true
sees m w (Marks who) = our_mark m w who
sees m w (Leaves who) = sees_wait m w who
sees m w (SetsDebug pid b) = m pid
sees m w (SetsException pid b) = m pid
sees m w (LetsGo pid) = m pid
sees m w (Dooms pid code) = m pid

-- what is asked of the steps of every line
abbrev pub is_regular : Group → World → Basic → Bool
is_regular m w (Makes p) = is_none p.pair
is_regular m w (Joins client server context) = (not (m client.process) || m server.process) && (m client.process || not (m server.process))
is_regular m w (Tells e) = true
is_regular m w (Wakes who call status fields) = true
is_regular m w (Awaits x) = not (is_event x) || not (has (is_mark x.thread) w.marks)
is_regular m w (Receives who q) = true
is_regular m w (Accepts who reply) = true
is_regular m w (Enters x) = true
is_regular m w (Takes q) = true
is_regular m w (TakesConnect q) = true
is_regular m w (Withdraws who) = true
is_regular m w (DrawsIdentifier who) = true
is_regular m w (DrawsOrdinal who) = true
is_regular m w (Dies who status) = true
is_regular m w (Registers who b) = true
is_regular m w (Unregisters who b) = true
is_regular m w (AddsProcess p) = true
is_regular m w (AddsThread t) = true
is_regular m w (Completes b) = true
is_regular m w (Frees o) = false
is_regular m w (Binds path node) = true
is_regular m w (AddsHandle pid h) = true
is_regular m w (Empties q) = true
is_regular m w (Cuts b) = true
is_regular m w (Unbinds b) = true
is_regular m w (DropsHandle pid value) = true
is_regular m w (AddsSection s) = true
is_regular m w (Writes b place new) = true
is_regular m w (Maps pid v) = not (m pid) || m v.section.process
is_regular m w (Unmaps pid base) = true
is_regular m w (DropsViewsOf pid) = true
is_regular m w (DropsOwned b) = true
is_regular m w (Secures b s) = true
is_regular m w (Acts who own) = true
is_regular m w (AddsToken t) = true
is_regular m w (NamesToken n) = true
is_regular m w (Marks who) = true
is_regular m w (Leaves who) = true
is_regular m w (SetsDebug pid b) = true
is_regular m w (SetsException pid b) = true
is_regular m w (LetsGo pid) = true
is_regular m w (Dooms pid code) = true

-- Ports
new-port : (m : Group) (p : PortRow) → is_none p.pair ≡ true → seen_port m p ≡ p
new-port m p is = at p.pair refl
  where
    at : (o : Option Birth) → p.pair ≡ o → seen_port m p ≡ p
    at None none = rw none refl
    at (Some b) some = let k : is_none p.pair ≡ false = rw some refl in absurd (cc)

joined-seen : (m : Group) (client server : Birth) (context : ℕ) → m client.process ≡ true → m server.process ≡ true → (p : PortRow) → seen_port m (joined client server context p) ≡ joined client server context (seen_port m p)
joined-seen m client server context one two p = at (is_port client p) (is_port server p) refl refl
  where
    at : (a b : Bool) → is_port client p ≡ a → is_port server p ≡ b → seen_port m (joined client server context p) ≡ joined client server context (seen_port m p)
    at true b is it = rw (is, two) refl
    at false true is it = rw (is, it, one) refl
    at false false is it = rw (is, it) refl

joined-birth : (m : Group) (client server : Birth) (context : ℕ) (p : PortRow) → our_port m (joined client server context p) ≡ our_port m p
joined-birth m client server context p = at (is_port client p) (is_port server p) refl refl
  where
    at : (a b : Bool) → is_port client p ≡ a → is_port server p ≡ b → our_port m (joined client server context p) ≡ our_port m p
    at true b is it = rw is refl
    at false true is it = rw (is, it) refl
    at false false is it = rw (is, it) refl

-- Messages
take-seen : (m : Group) (test : MessageRow → Bool) (xs : List MessageRow) (o : Option MessageRow) → first test xs ≡ o → passes o (our_message m) ≡ true → which (our_message m) (without_first test xs) ≡ without_first test (which (our_message m) xs)
take-seen m test xs None at is = absurd (cc)
take-seen m test xs (Some x) at is = kept-without_first (our_message m) test xs x at is

take-unseen : (m : Group) (test : MessageRow → Bool) (xs : List MessageRow) (o : Option MessageRow) → first test xs ≡ o → passes o (our_message m) ≡ false → which (our_message m) (without_first test xs) ≡ which (our_message m) xs
take-unseen m test xs None at out = rw (without_first-none test xs at) refl
take-unseen m test xs (Some x) at out = kept-without_first_out (our_message m) test xs x at out

-- the step adds what is a member's, or takes it
abbrev pub is_ours : Group → World → Basic → Bool
is_ours m w (Awaits x) = our_wait m x
is_ours m w (Enters x) = our_message m x
is_ours m w (Takes q) = passes (first (is_queued q) w.messages) (our_message m)
is_ours m w (TakesConnect q) = passes (first (is_queued_connect q) w.messages) (our_message m)
is_ours m w (AddsProcess p) = m p.number
is_ours m w (AddsThread t) = m t.process
is_ours m w (Makes p) = our_port m p
is_ours m w (Joins client server context) = m client.process && m server.process
is_ours m w (Binds path node) = our_node m node
is_ours m w (Tells e) = true
is_ours m w (Wakes who call status fields) = true
is_ours m w (Receives who q) = true
is_ours m w (Accepts who reply) = true
is_ours m w (Withdraws who) = true
is_ours m w (DrawsIdentifier who) = true
is_ours m w (DrawsOrdinal who) = true
is_ours m w (Dies who status) = true
is_ours m w (Registers who b) = true
is_ours m w (Unregisters who b) = true
is_ours m w (Completes b) = true
is_ours m w (Frees o) = true
is_ours m w (AddsHandle pid h) = true
is_ours m w (Empties q) = true
is_ours m w (Cuts b) = m b.process
is_ours m w (Unbinds b) = true
is_ours m w (DropsHandle pid value) = true
is_ours m w (AddsSection s) = m s.birth.process
is_ours m w (Writes b place new) = true
is_ours m w (Maps pid v) = m pid
is_ours m w (Unmaps pid base) = true
is_ours m w (DropsViewsOf pid) = true
is_ours m w (DropsOwned b) = true
is_ours m w (Secures b s) = true
is_ours m w (Acts who own) = true
is_ours m w (AddsToken t) = our_token m t
is_ours m w (NamesToken n) = true
is_ours m w (Marks who) = our_mark m w who
is_ours m w (Leaves who) = true
is_ours m w (SetsDebug pid b) = true
is_ours m w (SetsException pid b) = true
is_ours m w (LetsGo pid) = true
is_ours m w (Dooms pid code) = true

-- a pair that is cut
abbrev with_pair : Option Birth → PortRow → PortRow
with_pair o p = record p { pair = o }

abbrev cut_if : Birth → PortRow → PortRow
cut_if b p = cond (is_end_of b p) (cut p) p

cut-as : (m : Group) (b : Birth) (p : PortRow) (o : Option Birth) → m b.process ≡ true → seen_port m (cut_if b (with_pair o p)) ≡ cut_if b (seen_port m (with_pair o p))
cut-as m b p None is = at (is_port b p)
  where
    at : (e : Bool) → seen_port m (cond (e || false) (cut (with_pair None p)) (with_pair None p)) ≡ cond (e || false) (cut (seen_port m (with_pair None p))) (seen_port m (with_pair None p))
    at true = refl
    at false = refl
cut-as m b p (Some x) is = at (is_port b p) (same_birth b x) (m x.process) refl refl
  where
    at : (e f g : Bool) → same_birth b x ≡ f → m x.process ≡ g → seen_port m (cond (e || f) (cut (with_pair (Some x) p)) (with_pair (Some x) p)) ≡ cond (e || is_the b (cond g (Some x) None)) (cut (record p { pair = cond g (Some x) None })) (record p { pair = cond g (Some x) None })
    at true f g its inside = refl
    at false true true its inside = rw its refl
    at false true false its inside = let k : m b.process ≡ m x.process = of_birth m b x its in absurd (cc)
    at false false true its inside = rw (its, inside) refl
    at false false false its inside = rw inside refl

cut-seen : (m : Group) (b : Birth) (p : PortRow) → m b.process ≡ true → seen_port m (cut_if b p) ≡ cut_if b (seen_port m p)
cut-seen m b p is = cut-as m b p p.pair is

cut-birth : (m : Group) (b : Birth) (p : PortRow) → our_port m (cut_if b p) ≡ our_port m p
cut-birth m b p = at (is_end_of b p)
  where
    at : (e : Bool) → our_port m (cond e (cut p) p) ≡ our_port m p
    at true = refl
    at false = refl

shown-cut : (m : Group) (b : Birth) → m b.process ≡ true → (ps : List PortRow) → shown (our_port m) (seen_port m) (change (is_end_of b) cut ps) ≡ change (is_end_of b) cut (shown (our_port m) (seen_port m) ps)
shown-cut m b is ps = shown-map (our_port m) (seen_port m) (cut_if b) (cut_if b) (cut-birth m b) (λ p kept. cut-seen m b p is) ps

-- Views
own-view : (m : Group) (v : ViewRow) → m v.section.process ≡ true → seen_view m v ≡ v
own-view m v inside = rw inside refl

base-same : (m : Group) (base : ℕ) (v : ViewRow) → lies_at base (seen_view m v) ≡ lies_at base v
base-same m base v = at (m v.section.process)
  where
    at : (e : Bool) → lies_at base (cond e v (record v { section = hidden_section v.section; offset = 0 })) ≡ lies_at base v
    at true = refl
    at false = refl

-- one more, of a member's section; and without one
more-seen : (m : Group) (v : ViewRow) → m v.section.process ≡ true → (t : ViewTable) → seen_space m (with_view v t) ≡ with_view v (seen_space m t)
more-seen m v inside t = ap (λ rows. record t { rows = rows }) (push-map (seen_view m) t.rows v ∙ ap (λ x. map (seen_view m) t.rows ++ x ∷ []) (own-view m v inside))

-- one more, as it is seen
turned-seen : (m : Group) (v : ViewRow) (t : ViewTable) → seen_space m (with_view v t) ≡ with_view (seen_view m v) (seen_space m t)
turned-seen m v t = ap (λ rows. record t { rows = rows }) (push-map (seen_view m) t.rows v)

pub maps-seen : (m : Group) (w : World) (pid : ℕ) (v : ViewRow) → view m (basic w (Maps pid v)) ≡ basic (view m w) (Maps pid (seen_view m v))
maps-seen m w pid v = rw (shown-turn (our_space m) (is_space pid) (seen_space m) (with_view v) (with_view (seen_view m v)) (λ t. refl) (λ t. refl) (turned-seen m v) w.views) refl

less-seen : (m : Group) (base : ℕ) (t : ViewTable) → seen_space m (without_view base t) ≡ without_view base (seen_space m t)
less-seen m base t = ap (λ rows. record t { rows = rows }) (mapped-without (lies_at base) (seen_view m) (base-same m base) t.rows)

pub owner-same : (m : Group) (b : Birth) (v : ViewRow) → is_owned_by b (seen_view m v) ≡ is_owned_by b v
owner-same m b v = at (m v.section.process)
  where
    at : (e : Bool) → is_owned_by b (cond e v (record v { section = hidden_section v.section; offset = 0 })) ≡ is_owned_by b v
    at true = refl
    at false = refl

owned-seen : (m : Group) (b : Birth) (t : ViewTable) → seen_space m (without_owned b t) ≡ without_owned b (seen_space m t)
owned-seen m b t = ap (λ rows. record t { rows = rows }) (mapped-without (is_owned_by b) (seen_view m) (owner-same m b) t.rows)

-- no view is the port's
pub none-owned : (b : Birth) (ts : List ViewTable) → has (is_owned_by b) (each (λ (t : ViewTable). t.rows) ts) ≡ false → map (without_owned b) ts ≡ ts
none-owned b [] none = refl
none-owned b (t ∷ ts) none =
    let rest : List ViewRow = each (λ (t : ViewTable). t.rows) ts in
    let parts = or_parts (has (is_owned_by b) t.rows) (has (is_owned_by b) rest) (sym (has-append (is_owned_by b) t.rows rest) ∙ none) in
    ap (λ rows. record t { rows = rows } ∷ map (without_owned b) ts) (without-none (is_owned_by b) t.rows parts.0) ∙ ap (λ us. t ∷ us) (none-owned b ts parts.1)

mapped-inside : (m : Group) (pid : ℕ) (v : ViewRow) → m pid ≡ true → (not (m pid) || m v.section.process) ≡ true → m v.section.process ≡ true
mapped-inside m pid v is ok = grind arith

-- a wait goes with its mark
left-ours : (m : Group) (w : World) (who : ℕ) → view m (left_by who w) ≡ left_by who (view m w)
left-ours m w who = let kept = which-without (our_wait m) (waits_as who) w.waits in both-changed (view m w) _ _ _ _ kept (same-marks _ _ (λ n. ap (has (is_event_of n)) kept) (without (is_mark who) w.marks) ∙ left-seen who (which (our_wait m) w.waits) w.marks)

-- such a step does to the view what it does to the world
pub basic-ours : (m : Group) (w : World) (b : Basic) → is_ours m w b ≡ true → is_regular m w b ≡ true → view m (basic w b) ≡ basic (view m w) b
basic-ours m w (Tells e) is ok = refl
basic-ours m w (Wakes who call status fields) is ok = left-ours m w who
basic-ours m w (Leaves who) is ok = left-ours m w who
basic-ours m w (Marks who) is ok = rw (kept-push (our_mark m w) w.marks who is) refl
basic-ours m w (SetsDebug pid b) is ok = rw (kept-change (our_process m) (is_process pid) (debugged b) (λ p. refl) w.processes) refl
basic-ours m w (SetsException pid b) is ok = rw (kept-change (our_process m) (is_process pid) (excepted b) (λ p. refl) w.processes) refl
basic-ours m w (LetsGo pid) is ok = rw (kept-change (our_process m) (is_process pid) portless (λ p. refl) w.processes) refl
basic-ours m w (Dooms pid code) is ok = rw (kept-change (our_process m) (is_process pid) (doomed code) (λ p. refl) w.processes) refl
basic-ours m w (Awaits x) is ok = both-changed (view m w) _ _ _ _ (kept-push (our_wait m) w.waits x is) (same-marks _ _ (λ n. ap (has (is_event_of n)) (kept-push (our_wait m) w.waits x is)) w.marks ∙ begun-seen x (which (our_wait m) w.waits) w.marks ok)
basic-ours m w (Receives who q) is ok = let kept = kept-change (our_wait m) (waits_at who q) received (λ x. refl) w.waits in both-changed (view m w) _ _ _ _ kept (same-marks _ _ (λ n. ap (has (is_event_of n)) kept) w.marks ∙ received-seen who q (which (our_wait m) w.waits) w.marks)
basic-ours m w (Accepts who reply) is ok = let kept = kept-change (our_wait m) (waits_as who) (accepted reply) (λ x. refl) w.waits in both-changed (view m w) _ _ _ _ kept (same-marks _ _ (λ n. ap (has (is_event_of n)) kept) w.marks ∙ accepted-seen who reply (which (our_wait m) w.waits) w.marks)
basic-ours m w (Enters x) is ok = rw (kept-push (our_message m) w.messages x is) refl
basic-ours m w (Takes q) is ok = rw (take-seen m (is_queued q) w.messages (first (is_queued q) w.messages) refl is) refl
basic-ours m w (TakesConnect q) is ok = rw (take-seen m (is_queued_connect q) w.messages (first (is_queued_connect q) w.messages) refl is) refl
basic-ours m w (Withdraws who) is ok = rw (which-without (our_message m) (is_own_of who) w.messages) refl
basic-ours m w (DrawsIdentifier who) is ok = rw (kept-change (our_thread m) (is_thread who) past_identifier (λ t. refl) w.threads) refl
basic-ours m w (DrawsOrdinal who) is ok = rw (kept-change (our_thread m) (is_thread who) past_ordinal (λ t. refl) w.threads) refl
basic-ours m w (Dies who status) is ok = ap (λ (v : World). record v { threads = which (our_thread m) (change (is_thread who) ended w.threads) }) (left-ours m w who) ∙ ap (λ (ts : List ThreadRow). record (left_by who (view m w)) { threads = ts }) (kept-change (our_thread m) (is_thread who) ended (λ t. refl) w.threads)
basic-ours m w (Registers who b) is ok = rw (kept-change (our_thread m) (is_thread who) (registering b) (λ t. refl) w.threads) refl
basic-ours m w (Unregisters who b) is ok = rw (kept-change (our_thread m) (is_thread who) (unregistering b) (λ t. refl) w.threads) refl
basic-ours m w (AddsProcess p) is ok = rw (kept-push (our_process m) w.processes p is, kept-push m w.used_processes p.number is, kept-push (our_table m) w.handles (no_handles p.number) is, shown-push (our_space m) (seen_space m) w.views (no_views p.number) is) refl
basic-ours m w (AddsThread t) is ok = rw (kept-push (our_thread m) w.threads t is, kept-push (our_used m) w.used_threads (used t) is) refl
basic-ours m w (Makes p) is ok = rw (shown-push (our_port m) (seen_port m) w.ports p is, new-port m p ok) refl
basic-ours m w (Joins client server context) is ok = rw (shown-map (our_port m) (seen_port m) (joined client server context) (joined client server context) (joined-birth m client server context) (λ p kept. joined-seen m client server context (first-true _ _ is) (second-true _ _ is) p) w.ports) refl
basic-ours m w (Completes b) is ok = rw (shown-change (our_port m) (is_port b) (seen_port m) completed (λ p. refl) (λ p. refl) (λ p. refl) w.ports) refl
basic-ours m w (Frees o) is ok = absurd (cc)
basic-ours m w (Binds path node) is ok = rw (kept-push (our_binding m) w.bindings (path, node) is) refl
basic-ours m w (AddsHandle pid h) is ok = rw (kept-change (our_table m) (is_table pid) (with_handle h) (λ t. refl) w.handles) refl
basic-ours m w (Empties q) is ok = rw (which-without (our_message m) (is_queued q) w.messages) refl
basic-ours m w (Cuts b) is ok = rw (shown-cut m b is w.ports) refl
basic-ours m w (Unbinds b) is ok = rw (which-without (our_binding m) (is_name same_birth b) w.bindings) refl
basic-ours m w (DropsHandle pid value) is ok = rw (kept-change (our_table m) (is_table pid) (without_handle value) (λ t. refl) w.handles) refl
basic-ours m w (Secures b s) is ok = rw (shown-change (our_port m) (is_port b) (seen_port m) (secured s) (λ p. refl) (λ p. refl) (λ p. refl) w.ports) refl
basic-ours m w (Acts who own) is ok = rw (kept-change (our_thread m) (is_thread who) (acting own) (λ t. refl) w.threads) refl
basic-ours m w (AddsToken t) is ok = rw (kept-push (our_token m) w.tokens t is) refl
basic-ours m w (NamesToken n) is ok = refl
basic-ours m w (AddsSection s) is ok = rw (kept-push (our_section m) w.sections s is) refl
basic-ours m w (Writes b place new) is ok = refl
basic-ours m w (Maps pid v) is ok = rw (shown-change (our_space m) (is_space pid) (seen_space m) (with_view v) (λ t. refl) (λ t. refl) (more-seen m v (mapped-inside m pid v is ok)) w.views) refl
basic-ours m w (Unmaps pid base) is ok = rw (shown-change (our_space m) (is_space pid) (seen_space m) (without_view base) (λ t. refl) (λ t. refl) (less-seen m base) w.views) refl
basic-ours m w (DropsViewsOf pid) is ok = rw (shown-change (our_space m) (is_space pid) (seen_space m) without_views (λ t. refl) (λ t. refl) (λ t. refl) w.views) refl
basic-ours m w (DropsOwned b) is ok = rw (shown-map (our_space m) (seen_space m) (without_owned b) (without_owned b) (λ t. refl) (λ t kept. owned-seen m b t) w.views) refl

-- Unseen steps
joined-out : (m : Group) (client server : Birth) (context : ℕ) → m client.process ≡ false → m server.process ≡ false → (p : PortRow) → our_port m p ≡ true → seen_port m (joined client server context p) ≡ seen_port m p
joined-out m client server context one two p kept = at (is_port client p) (is_port server p) refl refl
  where
    at : (a b : Bool) → is_port client p ≡ a → is_port server p ≡ b → seen_port m (joined client server context p) ≡ seen_port m p
    at true b is it = let k : m p.birth.process ≡ m client.process = of_birth m p.birth client is in absurd (cc)
    at false true is it = let k : m p.birth.process ≡ m server.process = of_birth m p.birth server it in absurd (cc)
    at false false is it = rw (is, it) refl

joins-unseen : (m : Group) (w : World) (client server : Birth) (context : ℕ) (a b : Bool) → m client.process ≡ a → m server.process ≡ b → (a && b) ≡ false → ((not a || b) && (a || not b)) ≡ true → shown (our_port m) (seen_port m) (map (joined client server context) w.ports) ≡ shown (our_port m) (seen_port m) w.ports
joins-unseen m w client server context true true one two out ok = absurd (cc)
joins-unseen m w client server context true false one two out ok = absurd (cc)
joins-unseen m w client server context false true one two out ok = absurd (cc)
joins-unseen m w client server context false false one two out ok =
    shown-map_out (λ p. true) (our_port m) (seen_port m) (joined client server context) (joined-birth m client server context) (λ p any kept. joined-out m client server context one two p kept) w.ports (every-true w.ports)

-- a new port of a member's that is joined to an outsider's: the view has what the server gave the connection alone
fresh-same : (m : Group) (client server : Birth) (context : ℕ) → m client.process ≡ false → (p : PortRow) → not (is_port server p) ≡ true → our_port m p ≡ true → seen_port m (joined client server context p) ≡ seen_port m p
fresh-same m client server context out p fresh kept = at (is_port client p) (is_port server p) refl refl
  where
    at : (a b : Bool) → is_port client p ≡ a → is_port server p ≡ b → seen_port m (joined client server context p) ≡ seen_port m p
    at true b is it = let k : m p.birth.process ≡ m client.process = of_birth m p.birth client is in absurd (cc)
    at false true is it = absurd (grind arith)
    at false false is it = rw (is, it) refl

new-joined : (m : Group) (client server : Birth) (context : ℕ) → m client.process ≡ false → (p : PortRow) → is_port server p ≡ true → our_port m p ≡ true → is_none p.pair ≡ true → seen_port m (joined client server context p) ≡ record p { context = context }
new-joined m client server context out p its kept none = at (is_port client p) refl p.pair refl
  where
    at : (a : Bool) → is_port client p ≡ a → (o : Option Birth) → p.pair ≡ o → seen_port m (joined client server context p) ≡ record p { context = context }
    at true is o pair = let k : m p.birth.process ≡ m client.process = of_birth m p.birth client is in absurd (cc)
    at false is None pair = rw (is, its, out, pair) refl
    at false is (Some x) pair = absurd (grind arith)

pub joins-new : (m : Group) (client server : Birth) (context : ℕ) (ps : List PortRow) (p : PortRow) → m client.process ≡ false → every (λ q. not (is_port server q)) ps ≡ true → is_port server p ≡ true → our_port m p ≡ true → is_none p.pair ≡ true
    → shown (our_port m) (seen_port m) (map (joined client server context) (ps ++ p ∷ [])) ≡ shown (our_port m) (seen_port m) ps ++ record p { context = context } ∷ []
joins-new m client server context ps p out fresh its kept none =
    ap (shown (our_port m) (seen_port m)) (push-map (joined client server context) ps p)
    ∙ shown-push (our_port m) (seen_port m) (map (joined client server context) ps) (joined client server context p) (joined-birth m client server context p ∙ kept)
    ∙ ap (λ qs. qs ++ seen_port m (joined client server context p) ∷ []) (shown-map_out (λ q. not (is_port server q)) (our_port m) (seen_port m) (joined client server context) (joined-birth m client server context) (λ q off ours. fresh-same m client server context out q off ours) ps fresh)
    ∙ ap (λ q. shown (our_port m) (seen_port m) ps ++ q ∷ []) (new-joined m client server context out p its kept none)

named-out : (m : Group) (b : Birth) → m b.process ≡ false → (p : PortRow) → is_port b p ≡ true → our_port m p ≡ false
named-out m b out p is = of_birth m p.birth b is ∙ out

table-out : (m : Group) (pid : ℕ) → m pid ≡ false → (t : HandleTable) → is_table pid t ≡ true → our_table m t ≡ false
table-out m pid out t is = ap m (eqb-true _ _ is) ∙ out

space-out : (m : Group) (pid : ℕ) → m pid ≡ false → (t : ViewTable) → is_space pid t ≡ true → our_space m t ≡ false
space-out m pid out t is = ap m (eqb-true _ _ is) ∙ out

queued-out : (m : Group) (q : Birth) → m q.process ≡ false → (x : MessageRow) → is_queued q x ≡ true → our_message m x ≡ false
queued-out m q out x is = let x_out : m x.queue.process ≡ false = of_birth m x.queue q is ∙ out in grind arith

name-out : (m : Group) (b : Birth) → m b.process ≡ false → (x : Path × Node Birth) → is_name same_birth b x ≡ true → our_binding m x ≡ false
name-out m b out (path, LinkTo target) is = absurd (cc)
name-out m b out (path, Stands Directory) is = absurd (cc)
name-out m b out (path, Stands (Item other)) is = of_birth m other b is ∙ out

-- a pair of outsiders' that is cut
cut-off : (m : Group) (b : Birth) (p : PortRow) (o : Option Birth) → m b.process ≡ false → is_port b p ≡ false → seen_port m (cut_if b (with_pair o p)) ≡ seen_port m (with_pair o p)
cut-off m b p None out its = rw its refl
cut-off m b p (Some x) out its = rw its (at (same_birth b x) refl)
  where
    at : (f : Bool) → same_birth b x ≡ f → seen_port m (cond f (cut (with_pair (Some x) p)) (with_pair (Some x) p)) ≡ seen_port m (with_pair (Some x) p)
    at true same = let k : m b.process ≡ m x.process = of_birth m b x same in let x_out : m x.process ≡ false = cc in rw x_out refl
    at false other = refl

cut-out : (m : Group) (b : Birth) (p : PortRow) → m b.process ≡ false → our_port m p ≡ true → seen_port m (cut_if b p) ≡ seen_port m p
cut-out m b p out kept = at (is_port b p) refl
  where
    at : (e : Bool) → is_port b p ≡ e → seen_port m (cut_if b p) ≡ seen_port m p
    at true its = let k : m p.birth.process ≡ m b.process = of_birth m p.birth b its in absurd (cc)
    at false its = cut-off m b p p.pair out its

shown-cut_out : (m : Group) (b : Birth) → m b.process ≡ false → (ps : List PortRow) → shown (our_port m) (seen_port m) (change (is_end_of b) cut ps) ≡ shown (our_port m) (seen_port m) ps
shown-cut_out m b out ps = shown-map_out (λ p. true) (our_port m) (seen_port m) (cut_if b) (cut-birth m b) (λ p any kept. cut-out m b p out kept) ps (every-true ps)

-- a wait that isn't seen goes, with a mark that isn't
left-unseen : (m : Group) (w : World) (who : ℕ) → sees_wait m w who ≡ false → view m (left_by who w) ≡ view m w
left-unseen m w who out =
    let vs = which (our_wait m) w.waits in
    left-ours m w who ∙ both-changed (view m w) _ _ _ _ (without-none (waits_as who) vs out) (without-none (is_mark who) (which (our_mark m w) w.marks) (unmarked-seen who vs out w.marks))

process-out : (m : Group) (pid : ℕ) → m pid ≡ false → (p : ProcessRow) → is_process pid p ≡ true → our_process m p ≡ false
process-out m pid out p is = ap m (eqb-true _ _ is) ∙ out

-- a step that isn't seen leaves the view
pub basic-unseen : (m : Group) (w : World) (b : Basic) → sees m w b ≡ false → is_regular m w b ≡ true → view m (basic w b) ≡ view m w
basic-unseen m w (Tells e) out ok = refl
basic-unseen m w (Wakes who call status fields) out ok = left-unseen m w who out
basic-unseen m w (Leaves who) out ok = left-unseen m w who out
basic-unseen m w (Marks who) out ok = rw (kept-push_out (our_mark m w) w.marks who out) refl
basic-unseen m w (SetsDebug pid b) out ok = rw (kept-change_out (our_process m) (is_process pid) (debugged b) (λ p. refl) (process-out m pid out) w.processes) refl
basic-unseen m w (SetsException pid b) out ok = rw (kept-change_out (our_process m) (is_process pid) (excepted b) (λ p. refl) (process-out m pid out) w.processes) refl
basic-unseen m w (LetsGo pid) out ok = rw (kept-change_out (our_process m) (is_process pid) portless (λ p. refl) (process-out m pid out) w.processes) refl
basic-unseen m w (Dooms pid code) out ok = rw (kept-change_out (our_process m) (is_process pid) (doomed code) (λ p. refl) (process-out m pid out) w.processes) refl
basic-unseen m w (Awaits x) out ok = let kept = kept-push_out (our_wait m) w.waits x out in both-changed (view m w) _ _ _ _ kept (same-marks _ _ (λ n. ap (has (is_event_of n)) kept) w.marks)
basic-unseen m w (Receives who q) out ok = basic-ours m w (Receives who q) refl refl ∙ ap (λ (xs : List WaitRow). record (view m w) { waits = xs }) (change-none (waits_at who q) received (which (our_wait m) w.waits) out)
basic-unseen m w (Accepts who reply) out ok = basic-ours m w (Accepts who reply) refl refl ∙ ap (λ (xs : List WaitRow). record (view m w) { waits = xs }) (change-none (waits_as who) (accepted reply) (which (our_wait m) w.waits) out)
basic-unseen m w (Enters x) out ok = rw (kept-push_out (our_message m) w.messages x out) refl
basic-unseen m w (Takes q) out ok = rw (take-unseen m (is_queued q) w.messages (first (is_queued q) w.messages) refl out) refl
basic-unseen m w (TakesConnect q) out ok = rw (take-unseen m (is_queued_connect q) w.messages (first (is_queued_connect q) w.messages) refl out) refl
basic-unseen m w (Withdraws who) out ok = rw (which-without (our_message m) (is_own_of who) w.messages, without-none (is_own_of who) (which (our_message m) w.messages) out) refl
basic-unseen m w (DrawsIdentifier who) out ok = rw (kept-change (our_thread m) (is_thread who) past_identifier (λ t. refl) w.threads, change-none (is_thread who) past_identifier (which (our_thread m) w.threads) out) refl
basic-unseen m w (DrawsOrdinal who) out ok = rw (kept-change (our_thread m) (is_thread who) past_ordinal (λ t. refl) w.threads, change-none (is_thread who) past_ordinal (which (our_thread m) w.threads) out) refl
basic-unseen m w (Dies who status) out ok =
    let parts = or_parts (sees_wait m w who) (sees_thread m w who) out in
    let still = kept-change (our_thread m) (is_thread who) ended (λ t. refl) w.threads ∙ change-none (is_thread who) ended (which (our_thread m) w.threads) parts.1 in
    ap (λ (v : World). record v { threads = which (our_thread m) (change (is_thread who) ended w.threads) }) (left-unseen m w who parts.0) ∙ ap (λ (ts : List ThreadRow). record (view m w) { threads = ts }) still
basic-unseen m w (Registers who b) out ok = rw (kept-change (our_thread m) (is_thread who) (registering b) (λ t. refl) w.threads, change-none (is_thread who) (registering b) (which (our_thread m) w.threads) out) refl
basic-unseen m w (Unregisters who b) out ok = rw (kept-change (our_thread m) (is_thread who) (unregistering b) (λ t. refl) w.threads, change-none (is_thread who) (unregistering b) (which (our_thread m) w.threads) out) refl
basic-unseen m w (AddsProcess p) out ok = rw (kept-push_out (our_process m) w.processes p out, kept-push_out m w.used_processes p.number out, kept-push_out (our_table m) w.handles (no_handles p.number) out, shown-push_out (our_space m) (seen_space m) w.views (no_views p.number) out) refl
basic-unseen m w (AddsThread t) out ok = rw (kept-push_out (our_thread m) w.threads t out, kept-push_out (our_used m) w.used_threads (used t) out) refl
basic-unseen m w (Makes p) out ok = rw (shown-push_out (our_port m) (seen_port m) w.ports p out) refl
basic-unseen m w (Joins client server context) out ok = rw (joins-unseen m w client server context (m client.process) (m server.process) refl refl out ok) refl
basic-unseen m w (Completes b) out ok = rw (shown-change_out (our_port m) (is_port b) (seen_port m) completed (λ p. refl) (named-out m b out) w.ports) refl
basic-unseen m w (Frees o) out ok = absurd (cc)
basic-unseen m w (Binds path node) out ok = rw (kept-push_out (our_binding m) w.bindings (path, node) out) refl
basic-unseen m w (AddsHandle pid h) out ok = rw (kept-change_out (our_table m) (is_table pid) (with_handle h) (λ t. refl) (table-out m pid out) w.handles) refl
basic-unseen m w (Empties q) out ok = rw (kept-without_out (our_message m) (is_queued q) (queued-out m q out) w.messages) refl
basic-unseen m w (Cuts b) out ok = rw (shown-cut_out m b out w.ports) refl
basic-unseen m w (Unbinds b) out ok = rw (kept-without_out (our_binding m) (is_name same_birth b) (name-out m b out) w.bindings) refl
basic-unseen m w (DropsHandle pid value) out ok = rw (kept-change_out (our_table m) (is_table pid) (without_handle value) (λ t. refl) (table-out m pid out) w.handles) refl
basic-unseen m w (Secures b s) out ok = rw (shown-change_out (our_port m) (is_port b) (seen_port m) (secured s) (λ p. refl) (named-out m b out) w.ports) refl
basic-unseen m w (Acts who own) out ok = rw (kept-change (our_thread m) (is_thread who) (acting own) (λ t. refl) w.threads, change-none (is_thread who) (acting own) (which (our_thread m) w.threads) out) refl
basic-unseen m w (AddsToken t) out ok = rw (kept-push_out (our_token m) w.tokens t out) refl
basic-unseen m w (NamesToken n) out ok = absurd (cc)
basic-unseen m w (AddsSection s) out ok = rw (kept-push_out (our_section m) w.sections s out) refl
basic-unseen m w (Writes b place new) out ok = refl
basic-unseen m w (Maps pid v) out ok = rw (shown-change_out (our_space m) (is_space pid) (seen_space m) (with_view v) (λ t. refl) (space-out m pid out) w.views) refl
basic-unseen m w (Unmaps pid base) out ok = rw (shown-change_out (our_space m) (is_space pid) (seen_space m) (without_view base) (λ t. refl) (space-out m pid out) w.views) refl
basic-unseen m w (DropsViewsOf pid) out ok = rw (shown-change_out (our_space m) (is_space pid) (seen_space m) without_views (λ t. refl) (space-out m pid out) w.views) refl
basic-unseen m w (DropsOwned b) out ok = rw (shown-map (our_space m) (seen_space m) (without_owned b) (without_owned b) (λ t. refl) (λ t kept. owned-seen m b t) w.views, none-owned b (shown (our_space m) (seen_space m) w.views) out) refl

-- Lists of steps
-- steps that are all members'
abbrev pub are_ours : Group → World → List Basic → Bool
are_ours m w [] = true
are_ours m w (b ∷ bs) = (is_ours m w b && is_regular m w b) && are_ours m (basic w b) bs

pub run-ours : (m : Group) (w : World) (bs : List Basic) → are_ours m w bs ≡ true → view m (world_after w bs) ≡ world_after (view m w) bs
run-ours m w [] ok = refl
run-ours m w (b ∷ bs) ok = run-ours m (basic w b) bs (second-true _ _ ok) ∙ ap (λ v. world_after v bs) (basic-ours m w b (first-true _ _ (first-true _ _ ok)) (second-true _ _ (first-true _ _ ok)))

pub ours-append : (m : Group) (w : World) (bs cs : List Basic) → are_ours m w bs ≡ true → are_ours m (world_after w bs) cs ≡ true → are_ours m w (bs ++ cs) ≡ true
ours-append m w [] cs one two = two
ours-append m w (b ∷ bs) cs one two = and_from _ _ (first-true _ _ one) (ours-append m (basic w b) bs cs (second-true _ _ one) two)
