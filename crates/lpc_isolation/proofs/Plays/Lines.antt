-- A line that is a call, in a play: what each call owes is enough.
use Rattle.lpc_isolation.proofs.Views.Marks.{unmarked-seen}
use Rattle.std.proofs.Common.{◌≡◌, ℕ, ◌≤◌, List, [], ◌∷◌, ◌++◌, Bool, true, false, cond, not, map, Option, Some, None, refl, ap, sym, subst, ◌∙◌, arith}
use Rattle.std.specs.Prelude.{◌&&◌, ◌==◌, option_map}
use Rattle.std.proofs.lemmas.Bool.{eqb-true, false_from_ne_true, not-true}
use Rattle.std.proofs.Math.Bool.{and-true}
use Rattle.lpc_base.specs.Rows.{count, every, first, given, has, which}
use Rattle.lpc_base.proofs.RowWords.{without-none}
use Rattle.lpc_base.proofs.Bools.{first-true, second-true}
use Rattle.lpc_base.specs.declared.status.TheConstants.{SUCCESS}
use Rattle.lpc_model.specs.declared.entry.Entry.{Entry}
use Rattle.lpc_model.specs.declared.entry.Entry.TheVariants as entry
use Rattle.lpc_model.specs.World.{Contents, ThreadRow, UsedThread, WaitRow, World, Impersonation}
use Rattle.lpc_model.specs.Found.{is_used_thread, live_thread, waits_as, is_mark}
use Rattle.lpc_model.specs.Basics.{Basic, entries_of, world_after}
use Rattle.lpc_model.specs.Lines.{ScriptCall, boot, dir, link, of_resident, raise, run, read_virtual_memory, read_request_data, ScriptLine, thread, token}
use Rattle.lpc_isolation.proofs.Gone.Served.{own_served_step, own_served}
use Rattle.lpc_model.specs.Circle.{Everyone, Event, Group, Item, Nobody, Of, Ran, Told, Whose, entry_whose, is_item, is_seen, is_told_to, item_of, owned, owner, thread_whose, told_event, Gave, gave_event, given_in, full_items}
use Rattle.lpc_isolation.proofs.Views.Alone.{alone}
use Rattle.lpc_isolation.proofs.Gone.Bare.{own_line_events}
use Rattle.lpc_isolation.proofs.Views.Filters.{first-kept, first-none_kept}
use Rattle.lpc_isolation.proofs.Views.View.{our_used, our_wait, view, our_mark}
use Rattle.lpc_isolation.proofs.Views.Apart.{absorb, absorb_all, are_apart, c_seen, heard, is_heard, run-apart, run-quiet}
use Rattle.lpc_isolation.proofs.Views.Callers.{Led}
use Rattle.lpc_isolation.proofs.Each.Listens.{own_entry, tells_some}
use Rattle.lpc_isolation.proofs.Plays.Play.{own_told_at, told_inputs, told_items, is_told_input, gave_items, own_given_at, items-append}

-- Owners in a view
abbrev pub OnceUsed : World → Type 0
OnceUsed w = (tid : ℕ) → count (is_used_thread tid) w.used_threads ≤ 1

abbrev seen_owner : Group → Option ℕ → Option ℕ
seen_owner m None = None
seen_owner m (Some p) = cond (m p) (Some p) None

none-left : (k q : UsedThread → Bool) (xs : List UsedThread) → count q xs ≤ 0 → first q (which k xs) ≡ None
none-left k q [] few = refl
none-left k q (y ∷ ys) few = grind (arith, none-left k q ys)

used-out : (k q : UsedThread → Bool) (xs : List UsedThread) (x : UsedThread) → count q xs ≤ 1 → first q xs ≡ Some x → k x ≡ false → first q (which k xs) ≡ None
used-out k q [] x once at out = refl
used-out k q (y ∷ ys) x once at out = grind (arith, none-left k q ys, used-out k q ys x)

pub owner-view : (m : Group) (w : World) (tid : ℕ) → OnceUsed w → owner (view m w) tid ≡ seen_owner m (owner w tid)
owner-view m w tid once = at (first (is_used_thread tid) w.used_threads) refl
  where
    at : (o : Option UsedThread) → first (is_used_thread tid) w.used_threads ≡ o → owner (view m w) tid ≡ seen_owner m (option_map (λ (u : UsedThread). u.process) o)
    at None none = rw (first-none_kept (our_used m) (is_used_thread tid) w.used_threads none) refl
    at (Some x) some = inside (m x.process) refl
      where
        inside : (b : Bool) → m x.process ≡ b → owner (view m w) tid ≡ cond b (Some x.process) None
        inside true is = rw (first-kept (our_used m) (is_used_thread tid) w.used_threads x some is) refl
        inside false out = rw (used-out (our_used m) (is_used_thread tid) w.used_threads x (once tid) some out) refl

-- whom c hears of is the same in a view
whose-view : (m : Group) (c : ℕ) (o : Option ℕ) → m c ≡ true → is_seen (alone c) (owned (seen_owner m o)) ≡ is_seen (alone c) (owned o)
whose-view m c None c_in = refl
whose-view m c (Some p) c_in = at (m p) refl
  where
    at : (b : Bool) → m p ≡ b → is_seen (alone c) (owned (cond b (Some p) None)) ≡ (p == c)
    at true is = refl
    at false out = sym (false_from_ne_true (p == c) (λ same. let k : m p ≡ m c = ap m (eqb-true _ _ same) in cc))

pub thread-view : (m : Group) (c : ℕ) (w : World) (tid : ℕ) → m c ≡ true → OnceUsed w → is_seen (alone c) (thread_whose (view m w) tid) ≡ is_seen (alone c) (thread_whose w tid)
thread-view m c w tid c_in once = ap (λ o. is_seen (alone c) (owned o)) (owner-view m w tid once) ∙ whose-view m c (owner w tid) c_in

entry-view : (m : Group) (c : ℕ) (w : World) (d : Whose) (e : Entry) → m c ≡ true → OnceUsed w → is_heard (alone c) (view m w) d e ≡ is_heard (alone c) w d e
entry-view m c w d (entry.Answer tid call status fields) c_in once = thread-view m c w tid c_in once
entry-view m c w d (entry.Waits tid call fields) c_in once = thread-view m c w tid c_in once
entry-view m c w d (entry.Wakes tid call status fields) c_in once = thread-view m c w tid c_in once
entry-view m c w d (entry.Busy tid) c_in once = thread-view m c w tid c_in once
entry-view m c w d (entry.NoThread tid) c_in once = thread-view m c w tid c_in once
entry-view m c w d (entry.Died tid status) c_in once = thread-view m c w tid c_in once
entry-view m c w d (entry.Directive word status) c_in once = refl

pub heard-view : (m : Group) (c : ℕ) (w : World) (d : Whose) (es : List Entry) → m c ≡ true → OnceUsed w → heard (alone c) (view m w) d es ≡ heard (alone c) w d es
heard-view m c w d [] c_in once = refl
heard-view m c w d (e ∷ es) c_in once = rw (entry-view m c w d e c_in once, heard-view m c w d es c_in once) refl

-- Entries that are settled: whom a line woke, waits no more at its end
abbrev pub is_done : World → Entry → Bool
is_done w (entry.Wakes who call status fields) = not (has (waits_as who) w.waits)
is_done w (entry.Answer who call status fields) = true
is_done w (entry.Waits who call fields) = true
is_done w (entry.Busy who) = true
is_done w (entry.NoThread who) = true
is_done w (entry.Died who status) = true
is_done w (entry.Directive word status) = true

has-none_kept : (k q : WaitRow → Bool) (xs : List WaitRow) → has q xs ≡ false → has q (which k xs) ≡ false
has-none_kept k q [] none = refl
has-none_kept k q (x ∷ xs) none = grind (arith, has-none_kept k q xs)

absorb-done : (m : Group) (w : World) (e : Entry) → is_done w e ≡ true → absorb (view m w) e ≡ view m w
absorb-done m w (entry.Wakes who call status fields) is =
    let none : has (waits_as who) w.waits ≡ false = not-true (has (waits_as who) w.waits) is in
    let unseen : has (waits_as who) (which (our_wait m) w.waits) ≡ false = has-none_kept (our_wait m) (waits_as who) w.waits none in
    rw (without-none (waits_as who) (which (our_wait m) w.waits) unseen, without-none (is_mark who) (which (our_mark m w) w.marks) (unmarked-seen who (which (our_wait m) w.waits) unseen w.marks)) refl
absorb-done m w (entry.Answer who call status fields) is = refl
absorb-done m w (entry.Waits who call fields) is = refl
absorb-done m w (entry.Busy who) is = refl
absorb-done m w (entry.NoThread who) is = refl
absorb-done m w (entry.Died who status) is = refl
absorb-done m w (entry.Directive word status) is = refl

pub absorbed-done : (m : Group) (w : World) (f : Entry → Bool) (es : List Entry) → every (is_done w) es ≡ true → absorb_all (view m w) (which f es) ≡ view m w
absorbed-done m w f [] done = refl
absorbed-done m w f (e ∷ es) done = at (f e) (absorbed-done m w f es (second-true _ _ done))
  where
    at : (b : Bool) → absorb_all (view m w) (which f es) ≡ view m w → absorb_all (view m w) (cond b (e ∷ which f es) (which f es)) ≡ view m w
    at true rest = ap (λ v. absorb_all v (which f es)) (absorb-done m w e (first-true _ _ done)) ∙ rest
    at false rest = rest

-- What c isn't told at a line that tells it nothing
pub same-input : (m : Group) (c : ℕ) (u : World) (d : Whose) (e : Entry) → is_heard (alone c) u d e ≡ false → is_told_input m c u d e ≡ is_heard m u d e
same-input m c u d e off = at (entry_whose u d e) off
  where
    at : (w : Whose) → is_seen (alone c) w ≡ false → (is_seen m w && not (is_told_to c w (Told e))) ≡ is_seen m w
    at (Of pid) off = rw off (and-true (m pid))
    at Everyone off = refl
    at Nobody off = refl

pub quiet-inputs : (m : Group) (c : ℕ) (u : World) (d : Whose) (es : List Entry) → heard (alone c) u d es ≡ [] → told_inputs m c u d es ≡ heard m u d es
quiet-inputs m c u d [] none = refl
quiet-inputs m c u d (e ∷ es) none = at (is_heard (alone c) u d e) refl none (quiet-inputs m c u d es)
  where
    at : (b : Bool) → is_heard (alone c) u d e ≡ b → cond b (e ∷ heard (alone c) u d es) (heard (alone c) u d es) ≡ [] → (heard (alone c) u d es ≡ [] → told_inputs m c u d es ≡ heard m u d es) → told_inputs m c u d (e ∷ es) ≡ heard m u d (e ∷ es)
    at true is none rest = absurd (cc)
    at false off none rest = rw (same-input m c u d e off, rest none) refl

-- c's items of a line's entries
pub own-told : (c : ℕ) (u : World) (d : Whose) (es : List Entry) → full_items (alone c) (map (told_event u d) es) ≡ told_items (heard (alone c) u d es)
own-told c u d [] = refl
own-told c u d (e ∷ es) = at (is_heard (alone c) u d e) (own-told c u d es)
  where
    at : (b : Bool) → full_items (alone c) (map (told_event u d) es) ≡ told_items (heard (alone c) u d es)
        → map item_of (cond b (told_event u d e ∷ which (is_item (alone c)) (map (told_event u d) es)) (which (is_item (alone c)) (map (told_event u d) es))) ≡ map Told (cond b (e ∷ heard (alone c) u d es) (heard (alone c) u d es))
    at true rest = ap (λ is. Told e ∷ is) rest
    at false rest = rest

-- A call's line
-- the entry that comes next, and whether it accepts a call
abbrev pub next_entry : List Item → Entry
next_entry [] = entry.Busy 0
next_entry (Ran line ∷ is) = entry.Busy 0
next_entry (Told e ∷ is) = e
next_entry (Gave own ∷ is) = entry.Busy 0

-- the token that comes next, behind the entries of its line
abbrev pub next_given : List Item → Option Impersonation
next_given [] = None
next_given (Ran line ∷ is) = None
next_given (Told e ∷ is) = next_given is
next_given (Gave own ∷ is) = Some own

-- the token that steps let a thread have
abbrev pub first_given : List Impersonation → Option Impersonation
first_given [] = None
first_given (own ∷ gs) = Some own

-- a token is the first that is given, where one is
abbrev pub IsGiven : Option Impersonation → List Impersonation → Type 0
IsGiven o [] = Unit {0}
IsGiven o (own ∷ gs) = o ≡ Some own

abbrev pub own_given : List Basic → Option Impersonation
own_given bs = first_given (given_in bs)

abbrev pub accepts : Entry → Bool
accepts (entry.Answer who call status fields) = status.0 == SUCCESS.0
accepts (entry.Waits who call fields) = true
accepts (entry.Wakes who call status fields) = false
accepts (entry.Busy who) = false
accepts (entry.NoThread who) = false
accepts (entry.Died who status) = true
accepts (entry.Directive word status) = false

-- what the calls of members other than c do in a view, by what they are told; the bytes that are known
pub record Leads : Type 0 where
  pub lead : World → ThreadRow → ScriptCall → Entry → Option Impersonation → List Basic
  pub bytes : Contents

-- what a call of c's sees of bytes: a read sees those that are known; the view has none, and no other call sees any
abbrev pub seeing : Contents → World → ScriptCall → World
seeing k v (read_virtual_memory address n) = record v { contents = k }
seeing k v (read_request_data handle bytes index n) = record v { contents = k }
seeing k v call = v

abbrev pub led_line : Leads → World → ℕ → ScriptCall → Entry → Option Impersonation → List Basic
led_line led v tid call e o = cond (accepts e) (given (live_thread v tid) (λ by. led.lead v by call e o)) []

abbrev pub turn : Leads → ℕ → World → ℕ → ScriptCall → List Item → List Basic
turn led c v tid call is = cond (is_seen (alone c) (thread_whose v tid)) (own_served (run tid call) (seeing led.bytes v call)) (led_line led v tid call (next_entry is) (next_given is))

abbrev pub shown_run : Leads → ℕ → World → ℕ → ScriptCall → List Item → List Item
shown_run led c v tid call is =
    cond (is_seen (alone c) (thread_whose v tid)) (Ran (run tid call) ∷ []) []
    ++ (told_items (heard (alone c) (world_after v (turn led c v tid call is)) (thread_whose v tid) (entries_of (turn led c v tid call is)))
    ++ gave_items (cond (is_seen (alone c) (thread_whose v tid)) (given_in (turn led c v tid call is)) []))

-- the entry by which a member is led comes next, or one by which its call is led alike: a call by which its process is to end
-- tells nothing itself
pub data Follows (call : ScriptCall) (e f : Entry) : Type 0 where
  follows : e ≡ f → Follows call e f
  raises : (code : ℕ) (handled : Bool) → call ≡ raise code handled → accepts e ≡ accepts f → Follows call e f

pub follows-accepts : (call : ScriptCall) (e f : Entry) → Follows call e f → accepts e ≡ accepts f
follows-accepts call e f (follows same) = ap accepts same
follows-accepts call e f (raises code handled is same) = same

abbrev pub IsLed : Group → ℕ → World → ScriptLine → List Item → Type 0
IsLed m c w (run tid call) is = is_seen m (thread_whose w tid) ≡ true → is_seen (alone c) (thread_whose w tid) ≡ false → Follows call (next_entry is) (own_entry (own_served (run tid call) w))
IsLed m c w (boot pid tid name) is = Unit {0}
IsLed m c w (token name content) is = Unit {0}
IsLed m c w (thread tid pid) is = Unit {0}
IsLed m c w (dir path) is = Unit {0}
IsLed m c w (link path target) is = Unit {0}
IsLed m c w (of_resident tid what had) is = Unit {0}

-- what a call's line owes: of an outsider, of c, of another member
pub record Owes (led : Leads) (m : Group) (c : ℕ) (w : World) (tid : ℕ) (call : ScriptCall) : Type 0 where
  pub apart : is_seen m (thread_whose w tid) ≡ false → are_apart m c (own_served_step w (run tid call)).world (thread_whose w tid) w (own_served (run tid call) w) ≡ true
  pub own : is_seen (alone c) (thread_whose w tid) ≡ true → Led m c (own_served_step w (run tid call)).world (thread_whose w tid) w (own_served (run tid call) w) (own_served (run tid call) (seeing led.bytes (view m w) call))
  pub leads : is_seen m (thread_whose w tid) ≡ true → is_seen (alone c) (thread_whose w tid) ≡ false
      → Led m c (own_served_step w (run tid call)).world (thread_whose w tid) w (own_served (run tid call) w) (led_line led (view m w) tid call (own_entry (own_served (run tid call) w)) (own_given (own_served (run tid call) w)))
  -- the token that it gives is the next of the inputs
  pub gives : is_seen m (thread_whose w tid) ≡ true → is_seen (alone c) (thread_whose w tid) ≡ false
      → (is : List Item) → led_line led (view m w) tid call (own_entry (own_served (run tid call) w)) (next_given (told_items (own_told_at m c w (run tid call)) ++ (gave_items (own_given_at m c w (run tid call)) ++ is))) ≡ led_line led (view m w) tid call (own_entry (own_served (run tid call) w)) (own_given (own_served (run tid call) w))
  pub own_gives : is_seen (alone c) (thread_whose w tid) ≡ true → given_in (own_served (run tid call) (seeing led.bytes (view m w) call)) ≡ given_in (own_served (run tid call) w)
  pub first : tells_some (own_served (run tid call) w) ≡ true → is_seen m (thread_whose w tid) ≡ true → is_seen (alone c) (thread_whose w tid) ≡ false
      → (is : List Item) → next_entry (told_items (own_told_at m c w (run tid call)) ++ is) ≡ own_entry (own_served (run tid call) w)
  pub done : every (is_done (own_served_step w (run tid call)).world) (own_served_step w (run tid call)).entries ≡ true

-- c's tokens of a line
own-gave : (c : ℕ) (d : Whose) (gs : List Impersonation) → full_items (alone c) (map (gave_event d) gs) ≡ gave_items (cond (is_seen (alone c) d) gs [])
own-gave c d [] = at (is_seen (alone c) d)
  where
    at : (b : Bool) → [] ≡ gave_items (cond b [] [])
    at true = refl
    at false = refl
own-gave c d (own ∷ gs) = at (is_seen (alone c) d) (own-gave c d gs)
  where
    at : (b : Bool) → full_items (alone c) (map (gave_event d) gs) ≡ gave_items (cond b gs [])
        → map item_of (cond b (gave_event d own ∷ which (is_item (alone c)) (map (gave_event d) gs)) (which (is_item (alone c)) (map (gave_event d) gs))) ≡ gave_items (cond b (own ∷ gs) [])
    at true rest = ap (λ is. Gave own ∷ is) rest
    at false rest = rest

abbrev own_items : ℕ → World → Whose → List Basic → ScriptLine → List Item
own_items c u d bs line = cond (is_seen (alone c) d) (Ran line ∷ []) [] ++ (told_items (heard (alone c) u d (entries_of bs)) ++ gave_items (cond (is_seen (alone c) d) (given_in bs) []))

-- c's items of the line
ran-own : (c : ℕ) (w : World) (tid : ℕ) (call : ScriptCall) → full_items (alone c) (own_line_events w (run tid call)) ≡ own_items c (own_served_step w (run tid call)).world (thread_whose w tid) (own_served (run tid call) w) (run tid call)
ran-own c w tid call = at (is_seen (alone c) (thread_whose w tid)) both
  where
    told_events : List Event
    told_events = map (told_event (own_served_step w (run tid call)).world (thread_whose w tid)) (own_served_step w (run tid call)).entries

    gave_events : List Event
    gave_events = map (gave_event (thread_whose w tid)) (given_in (own_served (run tid call) w))

    es : List Event
    es = told_events ++ gave_events

    said : List Item
    said = told_items (heard (alone c) (own_served_step w (run tid call)).world (thread_whose w tid) (own_served_step w (run tid call)).entries) ++ gave_items (cond (is_seen (alone c) (thread_whose w tid)) (given_in (own_served (run tid call) w)) [])

    both : map item_of (which (is_item (alone c)) es) ≡ said
    both = items-append (alone c) told_events gave_events
        ∙ ap (λ is. is ++ full_items (alone c) gave_events) (own-told c (own_served_step w (run tid call)).world (thread_whose w tid) (own_served_step w (run tid call)).entries)
        ∙ ap (λ is. told_items (heard (alone c) (own_served_step w (run tid call)).world (thread_whose w tid) (own_served_step w (run tid call)).entries) ++ is) (own-gave c (thread_whose w tid) (given_in (own_served (run tid call) w)))

    at : (b : Bool) → map item_of (which (is_item (alone c)) es) ≡ said
        → map item_of (cond b (record { whose = thread_whose w tid; item = Ran (run tid call) } ∷ which (is_item (alone c)) es) (which (is_item (alone c)) es)) ≡ cond b (Ran (run tid call) ∷ []) [] ++ said
    at true rest = ap (λ is. Ran (run tid call) ∷ is) rest
    at false rest = rest

-- an outsider's line is hidden
pub run-hidden : (led : Leads) (m : Group) (c : ℕ) (w : World) (tid : ℕ) (call : ScriptCall) → m c ≡ true → Owes led m c w tid call → is_seen m (thread_whose w tid) ≡ false
    → (view m (own_served_step w (run tid call)).world ≡ absorb_all (view m w) (own_told_at m c w (run tid call))) × (full_items (alone c) (own_line_events w (run tid call)) ≡ [])
run-hidden led m c w tid call c_in o out =
    let u : World = (own_served_step w (run tid call)).world in
    let d : Whose = thread_whose w tid in
    let bs : List Basic = own_served (run tid call) w in
    let quiet : heard (alone c) u d (entries_of bs) ≡ [] = run-quiet m c u d w bs c_in (o.apart out) in
    let off : is_seen (alone c) d ≡ false = c_seen m c d c_in out in (
      run-apart m c u d w bs (o.apart out) ∙ sym (ap (absorb_all (view m w)) (quiet-inputs m c u d (entries_of bs) quiet)),
      ran-own c w tid call ∙ ap (λ b. cond b (Ran (run tid call) ∷ []) [] ++ (told_items (heard (alone c) u d (entries_of bs)) ++ gave_items (cond b (given_in bs) []))) off ∙ ap (λ es. told_items es ++ []) quiet,
    )

-- a member's line is visible
whose-same : (m : Group) (o : Option ℕ) → is_seen m (owned o) ≡ true → owned (seen_owner m o) ≡ owned o
whose-same m None is = refl
whose-same m (Some p) is = rw is refl

pub thread-same : (m : Group) (w : World) (tid : ℕ) → OnceUsed w → is_seen m (thread_whose w tid) ≡ true → thread_whose (view m w) tid ≡ thread_whose w tid
thread-same m w tid once is = ap owned (owner-view m w tid once) ∙ whose-same m (owner w tid) is

-- what a turn leaves, tells c, and lets c have
pub record Turned (m : Group) (c : ℕ) (w : World) (tid : ℕ) (call : ScriptCall) (taken : List Basic) : Type 0 where
  pub world : world_after (view m w) taken ≡ view m (own_served_step w (run tid call)).world
  pub told : heard (alone c) (own_served_step w (run tid call)).world (thread_whose w tid) (entries_of taken) ≡ heard (alone c) (own_served_step w (run tid call)).world (thread_whose w tid) (own_served_step w (run tid call)).entries
  pub gave : cond (is_seen (alone c) (thread_whose w tid)) (given_in taken) [] ≡ cond (is_seen (alone c) (thread_whose w tid)) (given_in (own_served (run tid call) w)) []

-- a member is led as its own entry leads it
abbrev pub LedBy : Leads → Group → ℕ → World → ℕ → ScriptCall → List Item → Type 0
LedBy led m c w tid call said = is_seen (alone c) (thread_whose w tid) ≡ false → led_line led (view m w) tid call (next_entry said) (next_given said) ≡ led_line led (view m w) tid call (own_entry (own_served (run tid call) w)) (next_given said)

pub turned : (led : Leads) (m : Group) (c : ℕ) (w : World) (tid : ℕ) (call : ScriptCall) (is : List Item) → Owes led m c w tid call → LedBy led m c w tid call (told_items (own_told_at m c w (run tid call)) ++ (gave_items (own_given_at m c w (run tid call)) ++ is)) → OnceUsed w → is_seen m (thread_whose w tid) ≡ true → Turned m c w tid call (turn led c (view m w) tid call (told_items (own_told_at m c w (run tid call)) ++ (gave_items (own_given_at m c w (run tid call)) ++ is)))
turned led m c w tid call is o some once seen = subst (λ b. Turned m c w tid call (cond b (own_served (run tid call) (seeing led.bytes (view m w) call)) (led_line led (view m w) tid call (next_entry said) (next_given said)))) (sym mine) (at (is_seen (alone c) (thread_whose w tid)) refl)
  where
    said : List Item
    said = told_items (own_told_at m c w (run tid call)) ++ (gave_items (own_given_at m c w (run tid call)) ++ is)

    mine : is_seen (alone c) (thread_whose (view m w) tid) ≡ is_seen (alone c) (thread_whose w tid)
    mine = ap (is_seen (alone c)) (thread-same m w tid once seen)

    both : (b : Bool) (gs hs : List Impersonation) → gs ≡ hs → cond b gs [] ≡ cond b hs []
    both b gs hs same = ap (λ gs. cond b gs []) same

    none : (b : Bool) (gs hs : List Impersonation) → b ≡ false → cond b gs [] ≡ cond b hs []
    none b gs hs off = rw off refl

    at : (b : Bool) → is_seen (alone c) (thread_whose w tid) ≡ b → Turned m c w tid call (cond b (own_served (run tid call) (seeing led.bytes (view m w) call)) (led_line led (view m w) tid call (next_entry said) (next_given said)))
    at true is_c = let l = o.own is_c in record { world = sym l.world; told = sym l.told; gave = both (is_seen (alone c) (thread_whose w tid)) _ _ (o.own_gives is_c) }
    at false other =
        let l = o.leads seen other in
        subst (Turned m c w tid call) (sym (some other))
        (subst (Turned m c w tid call) (sym (o.gives seen other is)) (record { world = sym l.world; told = sym l.told; gave = none (is_seen (alone c) (thread_whose w tid)) _ _ other }))

pub run-visible : (led : Leads) (m : Group) (c : ℕ) (w : World) (tid : ℕ) (call : ScriptCall) (is : List Item) → m c ≡ true → Owes led m c w tid call → LedBy led m c w tid call (told_items (own_told_at m c w (run tid call)) ++ (gave_items (own_given_at m c w (run tid call)) ++ is)) → OnceUsed w → OnceUsed (own_served_step w (run tid call)).world → is_seen m (thread_whose w tid) ≡ true
    → (view m (own_served_step w (run tid call)).world ≡ world_after (view m w) (turn led c (view m w) tid call (told_items (own_told_at m c w (run tid call)) ++ (gave_items (own_given_at m c w (run tid call)) ++ is))))
    × (full_items (alone c) (own_line_events w (run tid call)) ≡ shown_run led c (view m w) tid call (told_items (own_told_at m c w (run tid call)) ++ (gave_items (own_given_at m c w (run tid call)) ++ is)))
run-visible led m c w tid call is c_in o some once next seen =
    let u : World = (own_served_step w (run tid call)).world in
    let d : Whose = thread_whose w tid in
    let bs : List Basic = own_served (run tid call) w in
    let taken : List Basic = turn led c (view m w) tid call (told_items (own_told_at m c w (run tid call)) ++ (gave_items (own_given_at m c w (run tid call)) ++ is)) in
    let t : Turned m c w tid call taken = turned led m c w tid call is o some once seen in
    let same : thread_whose (view m w) tid ≡ d = thread-same m w tid once seen in (
      sym t.world,
      ran-own c w tid call
          ∙ ap (λ is. cond (is_seen (alone c) d) (Ran (run tid call) ∷ []) [] ++ (told_items is ++ gave_items (cond (is_seen (alone c) d) (given_in bs) []))) (sym t.told ∙ sym (heard-view m c u d (entries_of taken) c_in next))
          ∙ ap (λ gs. cond (is_seen (alone c) d) (Ran (run tid call) ∷ []) [] ++ (told_items (heard (alone c) (view m u) d (entries_of taken)) ++ gave_items gs)) (sym t.gave)
          ∙ ap (λ v. own_items c v d taken (run tid call)) (sym t.world)
          ∙ ap (λ d. own_items c (world_after (view m w) taken) d taken (run tid call)) (sym same),
    )
