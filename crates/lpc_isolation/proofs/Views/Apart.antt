-- An outsider's line: the view loses the waits whose ends are told to members, and c is told nothing.
use Rattle.std.proofs.Common.{◌≡◌, ℕ, List, [], ◌∷◌, ◌++◌, Bool, true, false, cond, not, Option, Some, None, refl, ap, sym, ◌∙◌, arith}
use Rattle.std.specs.Prelude.{◌&&◌, ◌||◌, ◌==◌}
use Rattle.std.proofs.lemmas.Bool.{and_from, and_left, eqb-true, false_from_ne_true, not-true}
use Rattle.std.proofs.lemmas.List.Elements.{filter-append}
use Rattle.lpc_base.specs.Rows.{every, first, given, passes, when, which}
use Rattle.lpc_base.specs.declared.status.Status.{Status}
use Rattle.lpc_base.specs.declared.status.TheConstants.{SUCCESS}
use Rattle.lpc_base.proofs.RowWords.{every-change, first-passes, has_none-more}
use Rattle.lpc_base.proofs.RowMaps.{every-first}
use Rattle.lpc_base.proofs.Bools.{first-true, second-true}
use Rattle.lpc_model.specs.declared.entry.CallName.{CallName}
use Rattle.lpc_model.specs.declared.entry.Entry.{Entry}
use Rattle.lpc_model.specs.declared.entry.Entry.TheVariants as entry
use Rattle.lpc_model.specs.declared.entry.Field.{Field}
use Rattle.lpc_model.specs.Message.{asks}
use Rattle.lpc_model.specs.World.{Accepted, Birth, Connect, Listen, MessageRow, Receive, Request, WaitKind, WaitRow, World, Event}
use Rattle.lpc_model.specs.Found.{same_birth, waits_as, waits_at}
use Rattle.lpc_model.specs.Basics.{Accepts, AddsHandle, AddsProcess, AddsSection, AddsThread, Awaits, Basic, Binds, Completes, Cuts, DrawsIdentifier, DrawsOrdinal, DropsHandle, DropsViewsOf, Empties, Enters, Frees, Joins, Makes, Maps, Receives, Takes, TakesConnect, Tells, Unbinds, Unmaps, Wakes, Withdraws, Writes, basic, entries_of, received, told, world_after, Dies, Registers, Unregisters, DropsOwned, Acts, AddsToken, NamesToken, Secures, Dooms, Leaves, LetsGo, Marks, SetsDebug, SetsException}
use Rattle.lpc_model.specs.Entering.{enter, given_steps, shown, takes, woken}
use Rattle.lpc_model.specs.Circle.{Everyone, Group, Nobody, Of, Whose, entry_whose, is_seen, owned, owner, thread_whose}
use Rattle.lpc_isolation.proofs.Views.Alone.{alone}
use Rattle.lpc_isolation.proofs.Views.Filters.{first-nowhere, first-outside}
use Rattle.lpc_isolation.proofs.Views.View.{of_birth, our_message, our_wait, view}
use Rattle.lpc_isolation.proofs.Views.Basics.{basic-ours, basic-unseen, is_regular, sees, sees_at, sees_wait}
use Rattle.lpc_isolation.proofs.Rows.Fair.{Fair, is_fair_wait}
use Rattle.lpc_isolation.proofs.Each.Enter.{Patient, is_patient, listen-first, receive-first, taker-process}

-- a wait that ended, as its entry tells
abbrev pub absorb : World → Entry → World
absorb v (entry.Wakes who call status fields) = basic v (Wakes who call status fields)
absorb v (entry.Answer who call status fields) = v
absorb v (entry.Waits who call fields) = v
absorb v (entry.Busy who) = v
absorb v (entry.NoThread who) = v
absorb v (entry.Died who status) = v
absorb v (entry.Directive word status) = v

abbrev pub absorb_all : World → List Entry → World
absorb_all v [] = v
absorb_all v (e ∷ es) = absorb_all (absorb v e) es

pub absorb-append : (v : World) (es fs : List Entry) → absorb_all v (es ++ fs) ≡ absorb_all (absorb_all v es) fs
absorb-append v [] fs = refl
absorb-append v (e ∷ es) fs = absorb-append (absorb v e) es fs

-- the entries of a group, as the numbers of threads stand in a world
abbrev pub is_heard : Group → World → Whose → Entry → Bool
is_heard m u d e = is_seen m (entry_whose u d e)

abbrev pub heard : Group → World → Whose → List Entry → List Entry
heard m u d es = which (is_heard m u d) es

-- what an outsider's line may hold
abbrev pub is_apart : Group → ℕ → World → Whose → World → Basic → Bool
is_apart m c u d w (Tells e) = not (is_heard m u d e)
is_apart m c u d w (Wakes who call status fields) =
    (is_seen m (thread_whose u who) || not (sees_wait m w who)) && not (is_seen (alone c) (thread_whose u who))
is_apart m c u d w (Awaits x) = not (our_wait m x)
is_apart m c u d w (Receives who q) = not (sees_at m w who q)
is_apart m c u d w (Accepts who reply) = not (sees_wait m w who)
is_apart m c u d w (Enters x) = not (our_message m x)
is_apart m c u d w (Takes q) = not (sees m w (Takes q))
is_apart m c u d w (TakesConnect q) = not (sees m w (TakesConnect q))
is_apart m c u d w (Withdraws who) = not (sees m w (Withdraws who))
is_apart m c u d w (DrawsIdentifier who) = not (sees m w (DrawsIdentifier who))
is_apart m c u d w (DrawsOrdinal who) = not (sees m w (DrawsOrdinal who))
is_apart m c u d w (Dies who status) = not (is_seen m (thread_whose u who)) && not (sees m w (Dies who status))
is_apart m c u d w (Registers who b) = not (sees m w (Registers who b))
is_apart m c u d w (Unregisters who b) = not (sees m w (Unregisters who b))
is_apart m c u d w (AddsProcess p) = not (sees m w (AddsProcess p))
is_apart m c u d w (AddsThread t) = not (sees m w (AddsThread t))
is_apart m c u d w (Makes p) = not (sees m w (Makes p))
is_apart m c u d w (Joins client server context) = not (sees m w (Joins client server context))
is_apart m c u d w (Completes b) = not (sees m w (Completes b))
is_apart m c u d w (Frees b) = not (sees m w (Frees b))
is_apart m c u d w (Binds path node) = not (sees m w (Binds path node))
is_apart m c u d w (AddsHandle pid h) = not (sees m w (AddsHandle pid h))
is_apart m c u d w (Empties q) = not (sees m w (Empties q))
is_apart m c u d w (Cuts b) = not (sees m w (Cuts b))
is_apart m c u d w (Unbinds b) = not (sees m w (Unbinds b))
is_apart m c u d w (DropsHandle pid value) = not (sees m w (DropsHandle pid value))
is_apart m c u d w (AddsSection s) = not (sees m w (AddsSection s))
is_apart m c u d w (Writes b place new) = not (sees m w (Writes b place new))
is_apart m c u d w (Maps pid v) = not (sees m w (Maps pid v))
is_apart m c u d w (Unmaps pid base) = not (sees m w (Unmaps pid base))
is_apart m c u d w (DropsViewsOf pid) = not (sees m w (DropsViewsOf pid))
is_apart m c u d w (DropsOwned b) = not (sees m w (DropsOwned b))
is_apart m c u d w (Secures b s) = not (sees m w (Secures b s))
is_apart m c u d w (Acts who own) = not (sees m w (Acts who own))
is_apart m c u d w (AddsToken t) = not (sees m w (AddsToken t))
is_apart m c u d w (NamesToken n) = not (sees m w (NamesToken n))
is_apart m c u d w (Marks who) = not (sees m w (Marks who))
is_apart m c u d w (Leaves who) = not (sees m w (Leaves who))
is_apart m c u d w (SetsDebug pid b) = not (sees m w (SetsDebug pid b))
is_apart m c u d w (SetsException pid b) = not (sees m w (SetsException pid b))
is_apart m c u d w (LetsGo pid) = not (sees m w (LetsGo pid))
is_apart m c u d w (Dooms pid code) = not (sees m w (Dooms pid code))

wakes-apart : (m : Group) (u w : World) (who : ℕ) (call : CallName) (status : Status) (fields : List Field) (b : Bool) → is_seen m (thread_whose u who) ≡ b → (b || not (sees_wait m w who)) ≡ true
    → view m (basic w (Wakes who call status fields)) ≡ absorb_all (view m w) (cond b (entry.Wakes who call status fields ∷ []) [])
wakes-apart m u w who call status fields true is ok = basic-ours m w (Wakes who call status fields) refl refl
wakes-apart m u w who call status fields false is ok = basic-unseen m w (Wakes who call status fields) (not-true _ ok) refl

pub basic-apart : (m : Group) (c : ℕ) (u : World) (d : Whose) (w : World) (b : Basic) → is_apart m c u d w b ≡ true → is_regular m w b ≡ true → view m (basic w b) ≡ absorb_all (view m w) (heard m u d (told b))
basic-apart m c u d w (Tells e) is ok = rw (not-true _ is) refl
basic-apart m c u d w (Wakes who call status fields) is ok = wakes-apart m u w who call status fields (is_seen m (thread_whose u who)) refl (first-true _ _ is)
basic-apart m c u d w (Dies who status) is ok = rw (not-true (is_seen m (thread_whose u who)) (first-true _ _ is)) (basic-unseen m w (Dies who status) (not-true _ (second-true (not (is_seen m (thread_whose u who))) _ is)) ok)
basic-apart m c u d w b is ok = basic-unseen m w b (not-true _ is) ok

-- a list of such steps
abbrev pub are_apart : Group → ℕ → World → Whose → World → List Basic → Bool
are_apart m c u d w [] = true
are_apart m c u d w (b ∷ bs) = (is_apart m c u d w b && is_regular m w b) && are_apart m c u d (basic w b) bs

pub run-apart : (m : Group) (c : ℕ) (u : World) (d : Whose) (w : World) (bs : List Basic) → are_apart m c u d w bs ≡ true → view m (world_after w bs) ≡ absorb_all (view m w) (heard m u d (entries_of bs))
run-apart m c u d w [] ok = refl
run-apart m c u d w (b ∷ bs) ok =
    run-apart m c u d (basic w b) bs (second-true _ _ ok)
    ∙ ap (λ v. absorb_all v (heard m u d (entries_of bs))) (basic-apart m c u d w b (first-true _ _ (first-true _ _ ok)) (second-true _ _ (first-true _ _ ok)))
    ∙ sym (absorb-append (view m w) (heard m u d (told b)) (heard m u d (entries_of bs)))
    ∙ sym (ap (absorb_all (view m w)) (filter-append (is_heard m u d) (told b) (entries_of bs)))

pub apart-append : (m : Group) (c : ℕ) (u : World) (d : Whose) (w : World) (bs cs : List Basic) → are_apart m c u d w bs ≡ true → are_apart m c u d (world_after w bs) cs ≡ true → are_apart m c u d w (bs ++ cs) ≡ true
apart-append m c u d w [] cs one two = two
apart-append m c u d w (b ∷ bs) cs one two = and_from _ _ (first-true _ _ one) (apart-append m c u d (basic w b) bs cs (second-true _ _ one) two)

-- c is told nothing
pub c_seen : (m : Group) (c : ℕ) (whose : Whose) → m c ≡ true → is_seen m whose ≡ false → is_seen (alone c) whose ≡ false
c_seen m c (Of pid) c_in out = false_from_ne_true (pid == c) (λ same. let k : m pid ≡ m c = ap m (eqb-true _ _ same) in cc)
c_seen m c Everyone c_in out = absurd (cc)
c_seen m c Nobody c_in out = refl

basic-quiet : (m : Group) (c : ℕ) (u : World) (d : Whose) (w : World) (b : Basic) → m c ≡ true → is_apart m c u d w b ≡ true → heard (alone c) u d (told b) ≡ []
basic-quiet m c u d w (Tells e) c_in is = let off : is_seen (alone c) (entry_whose u d e) ≡ false = c_seen m c (entry_whose u d e) c_in (not-true (is_heard m u d e) is) in rw off refl
basic-quiet m c u d w (Wakes who call status fields) c_in is = let off : is_seen (alone c) (thread_whose u who) ≡ false = not-true (is_seen (alone c) (thread_whose u who)) (second-true _ _ is) in rw off refl
basic-quiet m c u d w (Dies who status) c_in is = let off : is_seen (alone c) (thread_whose u who) ≡ false = c_seen m c (thread_whose u who) c_in (not-true (is_seen m (thread_whose u who)) (first-true _ _ is)) in rw off refl
basic-quiet m c u d w b c_in is = refl

pub run-quiet : (m : Group) (c : ℕ) (u : World) (d : Whose) (w : World) (bs : List Basic) → m c ≡ true → are_apart m c u d w bs ≡ true → heard (alone c) u d (entries_of bs) ≡ []
run-quiet m c u d w [] c_in ok = refl
run-quiet m c u d w (b ∷ bs) c_in ok =
    filter-append (is_heard (alone c) u d) (told b) (entries_of bs)
    ∙ ap (λ es. es ++ heard (alone c) u d (entries_of bs)) (basic-quiet m c u d w b c_in (first-true _ _ (first-true _ _ ok)))
    ∙ run-quiet m c u d (basic w b) bs c_in (second-true _ _ ok)

-- Waits and the owners of their threads
abbrev pub is_owned : World → WaitRow → Bool
is_owned u x = passes (owner u x.thread) (λ p. p == x.process)

abbrev pub Owned : World → World → Type 0
Owned u w = every (is_owned u) w.waits ≡ true

pub owned-by : (u : World) (x : WaitRow) (pid : ℕ) → owner u x.thread ≡ Some pid → is_owned u x ≡ true → pid ≡ x.process
owned-by u x pid own is = eqb-true _ _ (rw own at is)

-- an outsider's thread has no wait in the view
pub unseen-wait : (m : Group) (u w : World) (tid pid : ℕ) → Owned u w → owner u tid ≡ Some pid → m pid ≡ false → sees_wait m w tid ≡ false
unseen-wait m u w tid pid owned own out =
    rw (first-nowhere (is_owned u) (our_wait m) (waits_as tid) (λ x is its.
    let here : owner u x.thread ≡ Some pid = ap (owner u) (eqb-true _ _ its) ∙ own in
    let process : m x.process ≡ false = ap m (sym (owned-by u x pid here is)) ∙ out in grind arith) w.waits owned) refl

-- an outsider's wait
pub wait-gone : (m : Group) (u w : World) (x : WaitRow) → Owned u w → is_owned u x ≡ true → m x.process ≡ false → sees_wait m w x.thread ≡ false
wait-gone m u w x all owned out = at (owner u x.thread) refl
  where
    at : (o : Option ℕ) → owner u x.thread ≡ o → sees_wait m w x.thread ≡ false
    at None none = let none' : passes None (λ p. p == x.process) ≡ true = rw none at owned in absurd (cc)
    at (Some pid) own = unseen-wait m u w x.thread pid all own (ap m (owned-by u x pid own owned) ∙ out)

-- on no queue, either; and on an outsider's queue there is no wait in the view
pub unseen-at : (m : Group) (w : World) (tid : ℕ) (q : Birth) → sees_wait m w tid ≡ false → sees_at m w tid q ≡ false
unseen-at m w tid q out = has_none-more (waits_as tid) (waits_at tid q) (λ x off. and_left (waits_as tid x) (same_birth x.queue q) off) (which (our_wait m) w.waits) out

queue-off : (m : Group) (tid : ℕ) (q : Birth) (x : WaitRow) → m q.process ≡ false → waits_at tid q x ≡ true → our_wait m x ≡ false
queue-off m tid q x out is = let x_out : m x.queue.process ≡ false = of_birth m x.queue q (second-true _ _ is) ∙ out in grind arith

pub unseen-queue : (m : Group) (w : World) (tid : ℕ) (q : Birth) → m q.process ≡ false → sees_at m w tid q ≡ false
unseen-queue m w tid q out = rw (first-outside (our_wait m) (waits_at tid q) (λ x is. queue-off m tid q x out is) w.waits) refl

-- the end of a wait of a thread whose process isn't c
pub end-apart : (m : Group) (c : ℕ) (u : World) (d : Whose) (w : World) (x : WaitRow) (status : Status) (fields : List Field) → Owned u w → is_owned u x ≡ true → (x.process == c) ≡ false → is_apart m c u d w (woken status fields x) ≡ true
end-apart m c u d w x status fields owned is other = at (owner u x.thread) refl
  where
    at : (o : Option ℕ) → owner u x.thread ≡ o → is_apart m c u d w (woken status fields x) ≡ true
    at None none = let k : passes None (λ p. p == x.process) ≡ true = rw none at is in absurd (cc)
    at (Some pid) own =
        let same : pid ≡ x.process = owned-by u x pid own is in
        let off : (pid == c) ≡ false = ap (λ p. p == c) same ∙ other in
        rw (own, off) (inside (m pid) refl)
      where
        inside : (b : Bool) → m pid ≡ b → ((b || not (sees_wait m w x.thread)) && true) ≡ true
        inside true is = refl
        inside false out = rw (unseen-wait m u w x.thread pid owned own out) refl

-- an outsider's message
received-owned : (u w : World) (who : ℕ) (q : Birth) → Owned u w → Owned u (basic w (Receives who q))
received-owned u w who q owned = every-change (is_owned u) (waits_at who q) received (λ x is. is) w.waits owned

taken-apart : (m : Group) (c : ℕ) (u : World) (d : Whose) (w : World) (asked : Bool) (who : ℕ) (q : Birth) (y : WaitRow) (fields : List Field) → sees_at m w who q ≡ false → Owned u w → is_owned u y ≡ true → (y.process == c) ≡ false → are_apart m c u d w (when asked (Receives who q ∷ []) ++ woken SUCCESS fields y ∷ []) ≡ true
taken-apart m c u d w true who q y fields out owned is other = rw out (and_from _ _ (and_from _ _ (end-apart m c u d (basic w (Receives who q)) y SUCCESS fields (received-owned u w who q owned) is other) refl) refl)
taken-apart m c u d w false who q y fields out owned is other = and_from _ _ (and_from _ _ (end-apart m c u d w y SUCCESS fields owned is other) refl) refl

given-apart : (m : Group) (c : ℕ) (u : World) (d : Whose) (w : World) (x : MessageRow) (y : WaitRow) (k : WaitKind) → y.kind ≡ k → our_message m x ≡ false → takes x y ≡ true → is_patient w y ≡ true
    → sees_at m w x.message.header.client.thread x.queue ≡ false → Owned u w → is_owned u y ≡ true → (y.process == c) ≡ false
    → are_apart m c u d (basic w (Enters x)) (given_steps y x ++ woken SUCCESS (shown y x) y ∷ []) ≡ true
given-apart m c u d w x y (Request a) k out is patient unseen owned own other = let off : (false && same_birth y.queue x.queue) ≡ true = rw k at is in absurd (cc)
given-apart m c u d w x y (Event e) k out is patient unseen owned own other = let off : (false && same_birth y.queue x.queue) ≡ true = rw k at is in absurd (cc)
given-apart m c u d w x y Receive k out is patient unseen owned own other =
    rw (k, receive-first w x y is (rw k refl) patient, out) (taken-apart m c u d (basic (basic w (Enters x)) (Takes x.queue)) (asks x.message) x.message.header.client.thread x.queue y _ unseen owned own other)
given-apart m c u d w x y Listen k out is patient unseen owned own other =
    rw (k, listen-first w x y is (rw k refl) (rw k refl) patient, out) (taken-apart m c u d (basic (basic w (Enters x)) (TakesConnect x.queue)) (asks x.message) x.message.header.client.thread x.queue y _ unseen owned own other)
given-apart m c u d w x y (Connect a offer) k out is patient unseen owned own other = let off : (false && same_birth y.queue x.queue) ≡ true = rw k at is in absurd (cc)
given-apart m c u d w x y (Accepted a b) k out is patient unseen owned own other = let off : (false && same_birth y.queue x.queue) ≡ true = rw k at is in absurd (cc)

entered-apart : (m : Group) (c : ℕ) (u : World) (d : Whose) (w : World) (x : MessageRow) (o : Option WaitRow) → first (takes x) w.waits ≡ o → our_message m x ≡ false → (x.queue.process == c) ≡ false
    → sees_at m w x.message.header.client.thread x.queue ≡ false → Owned u w → Fair m c w → Patient w
    → are_apart m c u d w (Enters x ∷ given o (λ y. given_steps y x ++ woken SUCCESS (shown y x) y ∷ [])) ≡ true
entered-apart m c u d w x None at out other unseen owned f patient = rw out refl
entered-apart m c u d w x (Some y) at out other unseen owned f patient =
    let is : takes x y ≡ true = first-passes (takes x) w.waits y at in
    let fair : is_fair_wait m c y ≡ true = every-first (is_fair_wait m c) (takes x) w.waits y f.waits at in
    let process : y.process ≡ x.queue.process = taker-process m c x y fair is in
    rw out (given-apart m c u d w x y y.kind refl out is (every-first (is_patient w) (takes x) w.waits y patient at) unseen owned (every-first (is_owned u) (takes x) w.waits y owned at) (ap (λ p. p == c) process ∙ other))

pub enter-apart : (m : Group) (c : ℕ) (u : World) (d : Whose) (w : World) (x : MessageRow) → our_message m x ≡ false → (x.queue.process == c) ≡ false
    → sees_at m w x.message.header.client.thread x.queue ≡ false → Owned u w → Fair m c w → Patient w → are_apart m c u d w (enter x w) ≡ true
enter-apart m c u d w x out other unseen owned f patient = entered-apart m c u d w x (first (takes x) w.waits) refl out other unseen owned f patient

-- what an entering tells
pub given-entries : (x : MessageRow) (y : WaitRow) (k : WaitKind) (asked : Bool) (b : Basic) → y.kind ≡ k → asks x.message ≡ asked → entries_of (given_steps y x ++ b ∷ []) ≡ told b ++ []
given-entries x y (Request a) true b k asked = rw (k, asked) refl
given-entries x y (Request a) false b k asked = rw (k, asked) refl
given-entries x y (Event e) true b k asked = rw (k, asked) refl
given-entries x y (Event e) false b k asked = rw (k, asked) refl
given-entries x y Receive true b k asked = rw (k, asked) refl
given-entries x y Receive false b k asked = rw (k, asked) refl
given-entries x y Listen true b k asked = rw (k, asked) refl
given-entries x y Listen false b k asked = rw (k, asked) refl
given-entries x y (Connect a offer) true b k asked = rw (k, asked) refl
given-entries x y (Connect a offer) false b k asked = rw (k, asked) refl
given-entries x y (Accepted a r) true b k asked = rw (k, asked) refl
given-entries x y (Accepted a r) false b k asked = rw (k, asked) refl

-- a message in an outsider's queue tells no member
entered-silent : (m : Group) (c : ℕ) (u : World) (d : Whose) (w : World) (x : MessageRow) (o : Option WaitRow) → first (takes x) w.waits ≡ o → m x.queue.process ≡ false → Owned u w → Fair m c w → heard m u d (entries_of (given o (λ y. given_steps y x ++ woken SUCCESS (shown y x) y ∷ []))) ≡ []
entered-silent m c u d w x None at out owned f = refl
entered-silent m c u d w x (Some y) at out owned f =
    let process : y.process ≡ x.queue.process = taker-process m c x y (every-first (is_fair_wait m c) (takes x) w.waits y f.waits at) (first-passes (takes x) w.waits y at) in
    rw (given-entries x y y.kind (asks x.message) (woken SUCCESS (shown y x) y) refl refl)
    (silent (owner u y.thread) refl (ap m process ∙ out) (every-first (is_owned u) (takes x) w.waits y owned at))
  where
    silent : (o : Option ℕ) → owner u y.thread ≡ o → m y.process ≡ false → is_owned u y ≡ true → heard m u d (entry.Wakes y.thread y.call SUCCESS (shown y x) ∷ []) ≡ []
    silent None none out is = rw none refl
    silent (Some pid) own out is = let pid_out : m pid ≡ false = ap m (owned-by u y pid own is) ∙ out in rw (own, pid_out) refl

-- so a member's message to an outsider leaves the view
pub enter-gone : (m : Group) (c : ℕ) (u : World) (d : Whose) (w : World) (x : MessageRow) → m c ≡ true → m x.queue.process ≡ false → Owned u w → Fair m c w → Patient w
    → (view m (world_after w (enter x w)) ≡ view m w) × (heard (alone c) u d (entries_of (enter x w)) ≡ [])
enter-gone m c u d w x c_in out owned f patient =
    let unseen : sees_at m w x.message.header.client.thread x.queue ≡ false = unseen-queue m w x.message.header.client.thread x.queue out in
    let gone : our_message m x ≡ false = off (m x.sender.process) in
    let other : (x.queue.process == c) ≡ false = false_from_ne_true (x.queue.process == c) (λ is. let k : m x.queue.process ≡ m c = ap m (eqb-true _ _ is) in cc) in
    let apart : are_apart m c u d w (enter x w) ≡ true = enter-apart m c u d w x gone other unseen owned f patient in (
      run-apart m c u d w (enter x w) apart ∙ ap (absorb_all (view m w)) (entered-silent m c u d w x (first (takes x) w.waits) refl out owned f),
      run-quiet m c u d w (enter x w) c_in apart,
    )
  where
    off : (b : Bool) → (b && m x.queue.process) ≡ false
    off true = out
    off false = refl
