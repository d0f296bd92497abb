-- The line of a call owes what its service owes.
use Rattle.std.proofs.Common.{◌≡◌, ℕ, List, [], ◌∷◌, ◌++◌, Bool, true, false, cond, not, Option, Some, None, refl, ap, sym, subst, ◌∙◌, arith}
use Rattle.std.specs.Prelude.{◌&&◌, ◌==◌, Result, Ok, Err}
use Rattle.std.proofs.lemmas.Bool.{and_from, eqb-true}
use Rattle.lpc_base.specs.Rows.{every, passes, which, given}
use Rattle.lpc_base.specs.declared.status.Status.{Status}
use Rattle.lpc_base.specs.declared.status.TheConstants.{SUCCESS}
use Rattle.lpc_base.proofs.RowMaps.{every-both}
use Rattle.lpc_base.proofs.Bools.{first-true, same-number, second-true}
use Rattle.lpc_model.specs.declared.entry.Entry.{Entry}
use Rattle.lpc_model.specs.declared.entry.Entry.TheVariants as entry
use Rattle.lpc_model.specs.World.{Contents, ThreadRow, WaitRow, World, Impersonation}
use Rattle.lpc_model.specs.Found.{live_thread, wait_of, waits_as}
use Rattle.lpc_model.specs.Basics.{Accepts, AddsHandle, AddsProcess, AddsSection, AddsThread, Awaits, Basic, Binds, Completes, Cuts, DrawsIdentifier, DrawsOrdinal, DropsHandle, DropsViewsOf, Empties, Enters, Frees, Joins, Makes, Maps, Receives, Takes, TakesConnect, Tells, Unbinds, Unmaps, Wakes, Withdraws, Writes, entries_of, world_after, told, Dies, Registers, Unregisters, DropsOwned, Acts, AddsToken, NamesToken, Secures, Dooms, Leaves, LetsGo, Marks, SetsDebug, SetsException}
use Rattle.lpc_model.specs.Lines.{ScriptCall, run, read_virtual_memory, read_request_data}
use Rattle.lpc_model.specs.Machine.{name_of_call, settled, own_steps}
use Rattle.lpc_isolation.proofs.Gone.Served.{served, own_served_step, own_served}
use Rattle.lpc_model.proofs.Calls.Holding.{Holds, holds_ok}
use Rattle.lpc_model.proofs.Calls.Usable.{live-number}
use Rattle.lpc_model.specs.Circle.{Everyone, Group, Item, Nobody, Of, Told, Whose, entry_whose, is_seen, is_told_to, owned, owner, thread_whose, Gave, given_in}
use Rattle.lpc_isolation.proofs.Views.Alone.{HasFineRows, alone}
use Rattle.lpc_isolation.proofs.Views.Filters.{first-where}
use Rattle.lpc_isolation.proofs.Views.View.{our_wait, view}
use Rattle.lpc_isolation.proofs.Rows.Fair.{Fair, is_fair_wait}
use Rattle.lpc_isolation.proofs.Views.Seen.{live-owner, live-view}
use Rattle.lpc_isolation.proofs.Views.Apart.{Owned, are_apart, is_heard, is_owned, owned-by}
use Rattle.lpc_isolation.proofs.Views.Callers.{Answered, Led, c-wait, led-same}
use Rattle.lpc_isolation.proofs.Each.Listens.{own_entry, tells_some}
use Rattle.lpc_isolation.proofs.Plays.Play.{told_inputs, told_items, gave_items, given_inputs, is_given_input}
use Rattle.lpc_isolation.proofs.Plays.Lines.{Leads, Owes, accepts, is_done, led_line, next_entry, seeing, own_given, IsGiven, next_given}
use Rattle.lpc_isolation.proofs.Calls.Serves.{is_call_of, is_orderly, orderly-done, orderly-used, tells_thread, same_owner}

-- a call's list begins with an entry that tells its caller's process, and at its end no thread waits that it woke
pub record Begins (w : World) (tid : ℕ) (bs : List Basic) : Type 0 where
  pub step : Basic
  pub rest : List Basic
  pub entry : Entry
  pub is : bs ≡ step ∷ rest
  pub told : tells_some bs ≡ true → told step ≡ entry ∷ []
  pub own : own_entry (step ∷ rest) ≡ entry
  pub whose : tells_some bs ≡ true → (d : Whose) → entry_whose (world_after w bs) d entry ≡ thread_whose w tid
  pub accepted : accepts entry ≡ true
  pub done : every (is_done (world_after w bs)) (entries_of bs) ≡ true

-- bytes are no matter for who lives and waits
seeing-live : (k : Contents) (v : World) (tid : ℕ) (call : ScriptCall) → live_thread (seeing k v call) tid ≡ live_thread v tid
seeing-live k v tid (read_virtual_memory address n) = refl
seeing-live k v tid (read_request_data handle bytes index n) = refl
seeing-live k v tid call = refl

seeing-wait : (k : Contents) (v : World) (tid : ℕ) (call : ScriptCall) → wait_of (seeing k v call) tid ≡ wait_of v tid
seeing-wait k v tid (read_virtual_memory address n) = refl
seeing-wait k v tid (read_request_data handle bytes index n) = refl
seeing-wait k v tid call = refl

-- what a service owes to the call of a thread that waits for nothing
pub record Serves (led : Leads) (m : Group) (c : ℕ) (w : World) (by : ThreadRow) (call : ScriptCall) : Type 0 where
  pub apart : (d : Whose) → m by.process ≡ false → Holds (λ bs. HasFineRows m c (world_after w bs) → are_apart m c (world_after w bs) d w bs ≡ true) (served w by call)
  pub own : (d : Whose) → by.process ≡ c → Answered (λ bs led. HasFineRows m c (world_after w bs) → Led m c (world_after w bs) d w bs led) (served w by call) (served (seeing led.bytes (view m w) call) by call)
  pub leads : (d : Whose) → m by.process ≡ true → (by.process == c) ≡ false → Holds (λ bs. HasFineRows m c (world_after w bs) → Led m c (world_after w bs) d w bs (led.lead (view m w) by call (own_entry bs) (own_given bs))) (served w by call)
  -- the token that it lets its thread have, by the next of the inputs; c's as in the world
  pub gives : Holds (λ bs. (v : World) (e : Entry) (o : Option Impersonation) → IsGiven o (given_in bs) → led.lead v by call e o ≡ led.lead v by call e (own_given bs)) (served w by call)
  pub own_gives : by.process ≡ c → Answered (λ bs led. given_in led ≡ given_in bs) (served w by call) (served (seeing led.bytes (view m w) call) by call)
  pub begins : Holds (Begins w by.number) (served w by call)
  pub refuses : (s : Status) → served w by call ≡ Err s → (s.0 == SUCCESS.0) ≡ false

-- what the list of a line owes
record OwesAt (led : Leads) (m : Group) (c : ℕ) (w : World) (tid : ℕ) (call : ScriptCall) (bs : List Basic) : Type 0 where
  apart : is_seen m (thread_whose w tid) ≡ false → are_apart m c (world_after w bs) (thread_whose w tid) w bs ≡ true
  own : is_seen (alone c) (thread_whose w tid) ≡ true → Led m c (world_after w bs) (thread_whose w tid) w bs (own_served (run tid call) (seeing led.bytes (view m w) call))
  leads : is_seen m (thread_whose w tid) ≡ true → is_seen (alone c) (thread_whose w tid) ≡ false → Led m c (world_after w bs) (thread_whose w tid) w bs (led_line led (view m w) tid call (own_entry bs) (own_given bs))
  gives : is_seen m (thread_whose w tid) ≡ true → is_seen (alone c) (thread_whose w tid) ≡ false → (is : List Item) → led_line led (view m w) tid call (own_entry bs) (next_given (told_items (told_inputs m c (world_after w bs) (thread_whose w tid) (entries_of bs)) ++ (gave_items (given_inputs m c (thread_whose w tid) (given_in bs)) ++ is))) ≡ led_line led (view m w) tid call (own_entry bs) (own_given bs)
  own_gives : is_seen (alone c) (thread_whose w tid) ≡ true → given_in (own_served (run tid call) (seeing led.bytes (view m w) call)) ≡ given_in bs
  first : tells_some bs ≡ true → is_seen m (thread_whose w tid) ≡ true → is_seen (alone c) (thread_whose w tid) ≡ false → (is : List Item) → next_entry (told_items (told_inputs m c (world_after w bs) (thread_whose w tid) (entries_of bs)) ++ is) ≡ own_entry bs
  done : every (is_done (world_after w bs)) (entries_of bs) ≡ true

owes-of : (led : Leads) (m : Group) (c : ℕ) (w : World) (tid : ℕ) (call : ScriptCall) (bs : List Basic) → own_served (run tid call) w ≡ bs → OwesAt led m c w tid call bs → Owes led m c w tid call
owes-of led m c w tid call bs is o = from (subst (OwesAt led m c w tid call) (sym is) o)
  where
    from : OwesAt led m c w tid call (own_served (run tid call) w) → Owes led m c w tid call
    from o = record { apart = o.apart; own = o.own; leads = o.leads; gives = o.gives; own_gives = o.own_gives; first = o.first; done = o.done }

-- a member's entry, other than c's, is the next of its inputs
not-told : (c : ℕ) (whose : Whose) (e : Entry) → is_seen (alone c) whose ≡ false → is_told_to c whose (Told e) ≡ false
not-told c (Of pid) e off = rw off refl
not-told c Everyone e off = refl
not-told c Nobody e off = refl

next-is : (m : Group) (c : ℕ) (u : World) (d : Whose) (e : Entry) (es : List Entry) (is : List Item) → is_heard m u d e ≡ true → is_heard (alone c) u d e ≡ false → next_entry (told_items (told_inputs m c u d (e ∷ es)) ++ is) ≡ e
next-is m c u d e es is seen off =
    let told : is_told_to c (entry_whose u d e) (Told e) ≡ false = not-told c (entry_whose u d e) e off in
    subst (λ b. next_entry (told_items (cond b (e ∷ told_inputs m c u d es) (told_inputs m c u d es)) ++ is) ≡ e) (sym (keeps (is_heard m u d e) (is_told_to c (entry_whose u d e) (Told e)) seen told)) refl
  where
    keeps : (a b : Bool) → a ≡ true → b ≡ false → (a && not b) ≡ true
    keeps a b one off = grind arith

-- a line that tells one entry, which accepts nothing
owes-lone : (led : Leads) (m : Group) (c : ℕ) (w : World) (tid : ℕ) (call : ScriptCall) (e : Entry) → entry_whose w (thread_whose w tid) e ≡ thread_whose w tid → accepts e ≡ false → is_done w e ≡ true → (is_seen (alone c) (thread_whose w tid) ≡ true → own_served (run tid call) (seeing led.bytes (view m w) call) ≡ Tells e ∷ []) → OwesAt led m c w tid call (Tells e ∷ [])
owes-lone led m c w tid call e whose off done same = record {
  apart = λ out. let gone : is_heard m w (thread_whose w tid) e ≡ false = ap (is_seen m) whose ∙ out in rw gone refl;
  own = λ is. subst (Led m c w (thread_whose w tid) w (Tells e ∷ [])) (sym (same is)) (led-same m c w (thread_whose w tid) w (Tells e ∷ []) refl);
  leads = λ seen other. let none : is_heard (alone c) w (thread_whose w tid) e ≡ false = ap (is_seen (alone c)) whose ∙ other in record { world = rw off refl; told = rw (none, off) refl };
  gives = λ seen other is. rw off refl;
  own_gives = λ is. ap given_in (same is);
  first = λ some seen other is. next-is m c w (thread_whose w tid) e [] is (ap (is_seen m) whose ∙ seen) (ap (is_seen (alone c)) whose ∙ other);
  done = rw done refl;
}

-- the threads of c are seen as they are
pub c-idle : (m : Group) (c : ℕ) (w : World) (tid : ℕ) → m c ≡ true → Fair m c w → Owned w w → owner w tid ≡ Some c → wait_of (view m w) tid ≡ wait_of w tid
c-idle m c w tid c_in f owned own = first-where (λ x. is_fair_wait m c x && is_owned w x) (our_wait m) (waits_as tid) (λ x ok is.
    let here : owner w x.thread ≡ Some c = ap (owner w) (eqb-true _ _ is) ∙ own in
    let process : c ≡ x.process = owned-by w x c here (second-true _ _ ok) in
    let mine : (x.process == c) ≡ true = rw (sym process) (same-number c) in
    c-wait m c x c_in (first-true _ _ ok) mine) w.waits (every-both (is_fair_wait m c) (is_owned w) _ (λ x a b. and_from _ _ a b) w.waits f.waits owned)

pub owner-c : (c : ℕ) (w : World) (tid : ℕ) → is_seen (alone c) (thread_whose w tid) ≡ true → owner w tid ≡ Some c
owner-c c w tid is = at (owner w tid) is
  where
    at : (o : Option ℕ) → is_seen (alone c) (owned o) ≡ true → o ≡ Some c
    at None is = absurd (cc)
    at (Some p) is = ap (λ p. Some p) (eqb-true _ _ is)

pub owner-in : (m : Group) (w : World) (tid : ℕ) (by : ThreadRow) → owner w tid ≡ Some by.process → is_seen m (thread_whose w tid) ≡ m by.process
owner-in m w tid by own = ap (λ o. is_seen m (owned o)) own

-- The call of a thread that waits for nothing
-- its entry is its own
own-whose : (u : World) (d : Whose) (tid : ℕ) (e : Entry) → tells_thread tid e ≡ true → entry_whose u d e ≡ thread_whose u tid
own-whose u d tid (entry.Answer who call status fields) is = ap (thread_whose u) (eqb-true _ _ (first-true _ _ is))
own-whose u d tid (entry.Waits who call fields) is = ap (thread_whose u) (eqb-true _ _ is)
own-whose u d tid b is = absurd (cc)

tells-accepts : (tid : ℕ) (e : Entry) → tells_thread tid e ≡ true → accepts e ≡ true
tells-accepts tid (entry.Answer who call status fields) is = second-true _ _ is
tells-accepts tid (entry.Waits who call fields) is = refl
tells-accepts tid b is = absurd (cc)

-- the first of its list
pub record Headed (w : World) (tid : ℕ) (bs : List Basic) : Type 0 where
  pub step : Basic
  pub rest : List Basic
  pub entry : Entry
  pub is : bs ≡ step ∷ rest
  pub told : tells_some bs ≡ true → told step ≡ entry ∷ []
  pub own : own_entry (step ∷ rest) ≡ entry
  pub whose : tells_some bs ≡ true → (u : World) (d : Whose) → u.used_threads ≡ w.used_threads → entry_whose u d entry ≡ thread_whose u tid
  pub accepted : accepts entry ≡ true
  pub orderly : is_orderly bs ≡ true

tells-orderly : (tid : ℕ) (e : Entry) (bs : List Basic) → tells_thread tid e ≡ true → is_orderly bs ≡ true → is_orderly (Tells e ∷ bs) ≡ true
tells-orderly tid (entry.Answer who call status fields) bs is ok = ok
tells-orderly tid (entry.Waits who call fields) bs is ok = ok
tells-orderly tid b bs is ok = absurd (cc)

owner-same : (w : World) (tid who : ℕ) → same_owner w tid who ≡ true → owner w who ≡ owner w tid
owner-same w tid who is = at (owner w tid) (owner w who) is
  where
    at : (o l : Option ℕ) → passes o (λ p. passes l (λ q. q == p)) ≡ true → l ≡ o
    at None l is = absurd (cc)
    at (Some p) None is = absurd (cc)
    at (Some p) (Some q) is = ap (λ n. Some n) (eqb-true q p is)

-- the end of a thread of the caller's process
died-whose : (w : World) (tid who : ℕ) → same_owner w tid who ≡ true → (u : World) → u.used_threads ≡ w.used_threads → thread_whose u who ≡ thread_whose u tid
died-whose w tid who is u used = rw used (ap owned (owner-same w tid who is))

pub headed : (w : World) (tid : ℕ) (bs : List Basic) → is_call_of w tid bs ≡ true → Headed w tid bs
headed w tid [] is = absurd (cc)
headed w tid (Tells e ∷ bs) is = record {
  step = Tells e;
  rest = bs;
  entry = e;
  is = refl;
  told = λ some. refl;
  own = refl;
  whose = λ some u d used. own-whose u d tid e (first-true _ _ is);
  accepted = tells-accepts tid e (first-true _ _ is);
  orderly = tells-orderly tid e bs (first-true _ _ is) (second-true _ _ is);
}
headed w tid (Dies who status ∷ bs) is = record {
  step = Dies who status;
  rest = bs;
  entry = entry.Died who status;
  is = refl;
  told = λ some. refl;
  own = refl;
  whose = λ some u d used. died-whose w tid who (first-true _ _ is) u used;
  accepted = refl;
  orderly = second-true (same_owner w tid who) _ is;
}
headed w tid (Wakes a b d f ∷ bs) is = absurd (cc)
headed w tid (Awaits x ∷ bs) is = absurd (cc)
headed w tid (Receives a b ∷ bs) is = absurd (cc)
headed w tid (Accepts a b ∷ bs) is = absurd (cc)
headed w tid (Enters x ∷ bs) is = absurd (cc)
headed w tid (Takes q ∷ bs) is = absurd (cc)
headed w tid (TakesConnect q ∷ bs) is = absurd (cc)
headed w tid (DrawsIdentifier a ∷ bs) is = absurd (cc)
headed w tid (DrawsOrdinal a ∷ bs) is = absurd (cc)
headed w tid (Registers a b ∷ bs) is = absurd (cc)
headed w tid (Unregisters a b ∷ bs) is = absurd (cc)
headed w tid (AddsProcess p ∷ bs) is = absurd (cc)
headed w tid (AddsThread t ∷ bs) is = absurd (cc)
headed w tid (Makes p ∷ bs) is = absurd (cc)
headed w tid (Joins a b x ∷ bs) is = absurd (cc)
headed w tid (Completes b ∷ bs) is = absurd (cc)
headed w tid (Withdraws a ∷ bs) is = absurd (cc)
headed w tid (Frees o ∷ bs) is = absurd (cc)
headed w tid (Binds a b ∷ bs) is = absurd (cc)
headed w tid (AddsHandle a b ∷ bs) is = absurd (cc)
headed w tid (Empties q ∷ bs) is = absurd (cc)
headed w tid (Cuts b ∷ bs) is = absurd (cc)
headed w tid (Unbinds b ∷ bs) is = absurd (cc)
headed w tid (DropsHandle a b ∷ bs) is = absurd (cc)
headed w tid (AddsSection s ∷ bs) is = absurd (cc)
headed w tid (Writes a b d ∷ bs) is = absurd (cc)
headed w tid (Maps a v ∷ bs) is = absurd (cc)
headed w tid (Unmaps a b ∷ bs) is = absurd (cc)
headed w tid (DropsViewsOf a ∷ bs) is = absurd (cc)
headed w tid (DropsOwned a ∷ bs) is = absurd (cc)
headed w tid (Secures a b ∷ bs) is = absurd (cc)
headed w tid (Acts a b ∷ bs) is = absurd (cc)
headed w tid (AddsToken a ∷ bs) is = absurd (cc)
headed w tid (NamesToken a ∷ bs) is = absurd (cc)
headed w tid (Marks a ∷ bs) is = absurd (cc)
headed w tid (Leaves a ∷ bs) is = absurd (cc)
headed w tid (SetsDebug a b ∷ bs) is = absurd (cc)
headed w tid (SetsException a b ∷ bs) is = absurd (cc)
headed w tid (LetsGo a ∷ bs) is = absurd (cc)
headed w tid (Dooms pid code ∷ bs) is = record {
  step = Dooms pid code;
  rest = bs;
  entry = entry.Died 0 SUCCESS;
  is = refl;
  told = λ some. absurd (cc);
  own = refl;
  whose = λ some u d used. absurd (cc);
  accepted = refl;
  orderly = second-true (passes (owner w tid) (λ p. p == pid)) _ is;
}

-- an orderly list begins so
pub begins-of : (w : World) (tid : ℕ) (bs : List Basic) → is_call_of w tid bs ≡ true → Begins w tid bs
begins-of w tid bs ok =
    let h = headed w tid bs ok in
    let used : (world_after w bs).used_threads ≡ w.used_threads = orderly-used w bs h.orderly in
    record { step = h.step; rest = h.rest; entry = h.entry; is = h.is; told = h.told; own = h.own; whose = λ some d. h.whose some (world_after w bs) d used ∙ rw used refl; accepted = h.accepted; done = orderly-done w bs h.orderly }

pub own-is : (w : World) (tid : ℕ) (bs : List Basic) (h : Begins w tid bs) → own_entry bs ≡ h.entry
own-is w tid bs h = ap own_entry h.is ∙ h.own

-- what holds in each world with the same used numbers holds in the one that an orderly list leaves
pub settle : (P : World → List Basic → Type 0) (w : World) (tid : ℕ) (r : Result (List Basic) Status) → Holds (λ bs. is_call_of w tid bs ≡ true) r → ((u : World) → u.used_threads ≡ w.used_threads → Holds (P u) r) → Holds (λ bs. P (world_after w bs) bs) r
settle P w tid (Ok bs) ok h = let head = headed w tid bs ok in h (world_after w bs) (orderly-used w bs head.orderly)
settle P w tid (Err s) ok h = tt

pub settle-own : (P : World → List Basic → List Basic → Type 0) (w : World) (tid : ℕ) (r s : Result (List Basic) Status) → Holds (λ bs. is_call_of w tid bs ≡ true) r → ((u : World) → u.used_threads ≡ w.used_threads → Answered (P u) r s) → Answered (λ bs led. P (world_after w bs) bs led) r s
settle-own P w tid (Ok bs) (Ok led) ok h = let head = headed w tid bs ok in h (world_after w bs) (orderly-used w bs head.orderly)
settle-own P w tid (Ok bs) (Err t) ok h = h w refl
settle-own P w tid (Err s) (Ok led) ok h = h w refl
settle-own P w tid (Err s) (Err t) ok h = h w refl

-- a world of a run, seen from a call
pub record Ready (m : Group) (c : ℕ) (w : World) (tid : ℕ) (by : ThreadRow) : Type 0 where
  pub c_in : m c ≡ true
  pub fair : Fair m c w
  pub owned : Owned w w
  pub live : live_thread w tid ≡ Some by
  pub idle : wait_of w tid ≡ None

pub called : (w : World) (tid : ℕ) (call : ScriptCall) (by : ThreadRow) → live_thread w tid ≡ Some by → wait_of w tid ≡ None → own_served (run tid call) w ≡ settled by (name_of_call call) (served w by call)
unfolding own_steps
called w tid call by live idle = rw (live, idle) refl

-- c's call in the view
c-called : (led : Leads) (m : Group) (c : ℕ) (w : World) (tid : ℕ) (call : ScriptCall) (by : ThreadRow) → Ready m c w tid by → is_seen (alone c) (thread_whose w tid) ≡ true → own_served (run tid call) (seeing led.bytes (view m w) call) ≡ settled by (name_of_call call) (served (seeing led.bytes (view m w) call) by call)
c-called led m c w tid call by r is =
    let own : owner w tid ≡ Some c = owner-c c w tid is in
    called (seeing led.bytes (view m w) call) tid call by (seeing-live led.bytes (view m w) tid call ∙ live-view m c w tid c r.fair own r.c_in ∙ r.live) (seeing-wait led.bytes (view m w) tid call ∙ c-idle m c w tid r.c_in r.fair r.owned own ∙ r.idle)

c-calls : (m : Group) (c : ℕ) (w : World) (tid : ℕ) (by : ThreadRow) → Ready m c w tid by → is_seen (alone c) (thread_whose w tid) ≡ true → by.process ≡ c
c-calls m c w tid by r is = let both_own : Some by.process ≡ Some c = sym (live-owner m c w tid by r.fair r.live) ∙ owner-c c w tid is in cc

-- a member's token, other than c's, is the next of its inputs
given-in : (m : Group) (c : ℕ) (d : Whose) (gs : List Impersonation) → is_seen m d ≡ true → is_seen (alone c) d ≡ false → given_inputs m c d gs ≡ gs
given-in m c d [] seen other = refl
given-in m c d (own ∷ gs) seen other = at d seen other (given-in m c d gs seen other)
  where
    at : (e : Whose) → is_seen m e ≡ true → is_seen (alone c) e ≡ false → which (is_given_input m c d) gs ≡ gs → cond (is_seen m e && not (is_told_to c e (Gave own))) (own ∷ which (is_given_input m c d) gs) (which (is_given_input m c d) gs) ≡ own ∷ gs
    at (Of pid) seen other rest = rw (seen, other, rest) refl
    at Everyone seen other rest = absurd (cc)
    at Nobody seen other rest = absurd (cc)

next-given : (m : Group) (c : ℕ) (d : Whose) (es : List Entry) (gs : List Impersonation) (is : List Item) → is_seen m d ≡ true → is_seen (alone c) d ≡ false → IsGiven (next_given (told_items es ++ (gave_items (given_inputs m c d gs) ++ is))) gs
next-given m c d [] gs is seen other = subst (λ hs. IsGiven (next_given (gave_items hs ++ is)) gs) (sym (given-in m c d gs seen other)) (at gs)
  where
    at : (gs : List Impersonation) → IsGiven (next_given (gave_items gs ++ is)) gs
    at [] = tt
    at (own ∷ gs) = refl
next-given m c d (e ∷ es) gs is seen other = next-given m c d es gs is seen other

owes-ok : (led : Leads) (m : Group) (c : ℕ) (w : World) (tid : ℕ) (call : ScriptCall) (by : ThreadRow) (bs : List Basic) → Ready m c w tid by → Serves led m c w by call → served w by call ≡ Ok bs → HasFineRows m c (world_after w bs) → OwesAt led m c w tid call bs
owes-ok led m c w tid call by bs r s at fine =
    let number : by.number ≡ tid = live-number w tid by r.live in
    let own : owner w tid ≡ Some by.process = live-owner m c w tid by r.fair r.live in
    let u : World = world_after w bs in
    let d : Whose = thread_whose w tid in
    let head : Begins w tid bs = subst (λ n. Begins w n bs) number (holds_ok (Begins w by.number) (served w by call) bs s.begins at) in
    record {
      apart = λ out. holds_ok (λ bs. HasFineRows m c (world_after w bs) → are_apart m c (world_after w bs) d w bs ≡ true) (served w by call) bs (s.apart d (sym (owner-in m w tid by own) ∙ out)) at fine;
      own = λ is.
          let P : List Basic → List Basic → Type 0 = λ bs led. HasFineRows m c (world_after w bs) → Led m c (world_after w bs) d w bs led in
          let answered : Answered P (Ok bs) (served (seeing led.bytes (view m w) call) by call) = subst (λ r. Answered P r (served (seeing led.bytes (view m w) call) by call)) at (s.own d (c-calls m c w tid by r is)) in
          subst (Led m c u d w bs) (sym (c-called led m c w tid call by r is)) (taken (served (seeing led.bytes (view m w) call) by call) answered);
      leads = λ seen other.
          let by_in : m by.process ≡ true = sym (owner-in m w tid by own) ∙ seen in
          let by_other : (by.process == c) ≡ false = sym (owner-in (alone c) w tid by own) ∙ other in
          let accepted : accepts (own_entry bs) ≡ true = ap accepts (own-is w tid bs head) ∙ head.accepted in
          rw (accepted, live-view m c w tid by.process r.fair own by_in, r.live) (holds_ok (λ bs. HasFineRows m c (world_after w bs) → Led m c (world_after w bs) d w bs (led.lead (view m w) by call (own_entry bs) (own_given bs))) (served w by call) bs (s.leads d by_in by_other) at fine);
      gives = λ seen other is.
          let by_in : m by.process ≡ true = sym (owner-in m w tid by own) ∙ seen in
          let accepted : accepts (own_entry bs) ≡ true = ap accepts (own-is w tid bs head) ∙ head.accepted in
          let o : Option Impersonation = next_given (told_items (told_inputs m c u d (entries_of bs)) ++ (gave_items (given_inputs m c d (given_in bs)) ++ is)) in
          let lead = holds_ok (λ bs. (v : World) (e : Entry) (o : Option Impersonation) → IsGiven o (given_in bs) → led.lead v by call e o ≡ led.lead v by call e (own_given bs)) (served w by call) bs s.gives at in
          gives-line (accepts (own_entry bs)) (live_thread (view m w) tid) accepted (live-view m c w tid by.process r.fair own by_in ∙ r.live) o (lead (view m w) (own_entry bs) o (next-given m c d (told_inputs m c u d (entries_of bs)) (given_in bs) is seen other));
      own_gives = λ is.
          let P : List Basic → List Basic → Type 0 = λ bs led. given_in led ≡ given_in bs in
          let answered : Answered P (Ok bs) (served (seeing led.bytes (view m w) call) by call) = subst (λ r. Answered P r (served (seeing led.bytes (view m w) call) by call)) at (s.own_gives (c-calls m c w tid by r is)) in
          ap given_in (c-called led m c w tid call by r is) ∙ given_too (served (seeing led.bytes (view m w) call) by call) answered;
      first = λ some seen other is.
          let whose : entry_whose u d head.entry ≡ d = head.whose some d in
          ap (λ bs'. next_entry (told_items (told_inputs m c u d (entries_of bs')) ++ is)) head.is
          ∙ ap (λ es. next_entry (told_items (told_inputs m c u d (es ++ entries_of head.rest)) ++ is)) (head.told some)
          ∙ next-is m c u d head.entry (entries_of head.rest) is (ap (is_seen m) whose ∙ seen) (ap (is_seen (alone c)) whose ∙ other)
          ∙ sym (own-is w tid bs head);
      done = head.done;
    }
  where
    taken : (t : Result (List Basic) Status) → Answered (λ bs led. HasFineRows m c (world_after w bs) → Led m c (world_after w bs) (thread_whose w tid) w bs led) (Ok bs) t → Led m c (world_after w bs) (thread_whose w tid) w bs (settled by (name_of_call call) t)
    taken (Ok led) is = is fine
    taken (Err e) is = absurd is

    given_too : (t : Result (List Basic) Status) → Answered (λ bs led. given_in led ≡ given_in bs) (Ok bs) t → given_in (settled by (name_of_call call) t) ≡ given_in bs
    given_too (Ok led) is = is
    given_too (Err e) is = absurd is

    gives-line : (b : Bool) (l : Option ThreadRow) → b ≡ true → l ≡ Some by → (o : Option Impersonation) → led.lead (view m w) by call (own_entry bs) o ≡ led.lead (view m w) by call (own_entry bs) (own_given bs) → cond b (given l (λ by. led.lead (view m w) by call (own_entry bs) o)) [] ≡ cond b (given l (λ by. led.lead (view m w) by call (own_entry bs) (own_given bs))) []
    gives-line b l one two o same = rw (one, two) same

owes-settled : (led : Leads) (m : Group) (c : ℕ) (w : World) (tid : ℕ) (call : ScriptCall) (by : ThreadRow) (t : Result (List Basic) Status) → Ready m c w tid by → Serves led m c w by call → served w by call ≡ t → HasFineRows m c (world_after w (settled by (name_of_call call) t)) → OwesAt led m c w tid call (settled by (name_of_call call) t)
owes-settled led m c w tid call by (Ok bs) r s at fine = owes-ok led m c w tid call by bs r s at fine
owes-settled led m c w tid call by (Err e) r s at fine =
    let number : by.number ≡ tid = live-number w tid by r.live in
    owes-lone led m c w tid call (entry.Answer by.number (name_of_call call) e []) (ap (thread_whose w) number) (s.refuses e at) refl (λ is.
    let P : List Basic → List Basic → Type 0 = λ bs led. HasFineRows m c (world_after w bs) → Led m c (world_after w bs) (thread_whose w tid) w bs led in
    let answered : Answered P (Err e) (served (seeing led.bytes (view m w) call) by call) = subst (λ r. Answered P r (served (seeing led.bytes (view m w) call) by call)) at (s.own (thread_whose w tid) (c-calls m c w tid by r is)) in
    c-called led m c w tid call by r is ∙ ap (settled by (name_of_call call)) (refused P (served (seeing led.bytes (view m w) call) by call) answered))
  where
    refused : (P : List Basic → List Basic → Type 0) (t : Result (List Basic) Status) → Answered P (Err e) t → t ≡ Err e
    refused P (Ok led) is = absurd is
    refused P (Err s) is = ap (λ s. Err s) (sym is)

-- the line of a call
pub owes-call : (led : Leads) (m : Group) (c : ℕ) (w : World) (tid : ℕ) (call : ScriptCall) (by : ThreadRow) → Ready m c w tid by → Serves led m c w by call → HasFineRows m c (own_served_step w (run tid call)).world → Owes led m c w tid call
owes-call led m c w tid call by r s fine =
    let is : own_served (run tid call) w ≡ settled by (name_of_call call) (served w by call) = called w tid call by r.live r.idle in
    owes-of led m c w tid call (settled by (name_of_call call) (served w by call)) is
    (owes-settled led m c w tid call by (served w by call) r s refl (subst (λ bs. HasFineRows m c (world_after w bs)) is fine))

-- a line of a number that no live thread has, and one of a thread that waits
pub nobody : (w : World) (tid : ℕ) (call : ScriptCall) → live_thread w tid ≡ None → own_served (run tid call) w ≡ Tells (entry.NoThread tid) ∷ []
unfolding own_steps
nobody w tid call none = rw none refl

pub owes-none : (led : Leads) (m : Group) (c : ℕ) (w : World) (tid : ℕ) (call : ScriptCall) → m c ≡ true → Fair m c w → live_thread w tid ≡ None → Owes led m c w tid call
owes-none led m c w tid call c_in f none =
    owes-of led m c w tid call (Tells (entry.NoThread tid) ∷ []) (nobody w tid call none)
    (owes-lone led m c w tid call (entry.NoThread tid) refl refl refl (λ is. nobody (seeing led.bytes (view m w) call) tid call (seeing-live led.bytes (view m w) tid call ∙ live-view m c w tid c f (owner-c c w tid is) c_in ∙ none)))

pub busy : (w : World) (tid : ℕ) (call : ScriptCall) (by : ThreadRow) (x : WaitRow) → live_thread w tid ≡ Some by → wait_of w tid ≡ Some x → own_served (run tid call) w ≡ Tells (entry.Busy by.number) ∷ []
unfolding own_steps
busy w tid call by x live waits = rw (live, waits) refl

pub owes-busy : (led : Leads) (m : Group) (c : ℕ) (w : World) (tid : ℕ) (call : ScriptCall) (by : ThreadRow) (x : WaitRow) → m c ≡ true → Fair m c w → Owned w w → live_thread w tid ≡ Some by → wait_of w tid ≡ Some x → Owes led m c w tid call
owes-busy led m c w tid call by x c_in f owned live waits =
    owes-of led m c w tid call (Tells (entry.Busy by.number) ∷ []) (busy w tid call by x live waits)
    (owes-lone led m c w tid call (entry.Busy by.number) (ap (thread_whose w) (live-number w tid by live)) refl refl (λ is.
    let own : owner w tid ≡ Some c = owner-c c w tid is in
    busy (seeing led.bytes (view m w) call) tid call by x (seeing-live led.bytes (view m w) tid call ∙ live-view m c w tid c f own c_in ∙ live) (seeing-wait led.bytes (view m w) tid call ∙ c-idle m c w tid c_in f owned own ∙ waits)))
