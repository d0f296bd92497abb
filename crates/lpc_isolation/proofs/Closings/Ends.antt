-- Waits that end one after the other, and what that owes as a stage of a closing.
use Rattle.lpc_isolation.proofs.Views.Marks.{unmarked-seen}
use Rattle.std.proofs.Common.{◌≡◌, ℕ, List, [], ◌∷◌, Bool, true, false, not, refl, ap, sym, subst, ◌∙◌, arith, map}
use Rattle.std.proofs.lemmas.Bool.{and_from, false_from_ne_true, not-true, or_parts}
use Rattle.std.specs.Prelude.{◌&&◌, ◌||◌, ◌==◌}
use Rattle.lpc_base.specs.Rows.{each, every, has, which, without}
use Rattle.lpc_base.specs.declared.status.Status.{Status}
use Rattle.lpc_base.proofs.RowWords.{every-more, every-which, every-without, has_none-without, which-without, without-none}
use Rattle.lpc_base.proofs.RowMaps.{every-both}
use Rattle.lpc_base.proofs.Bools.{first-true, second-true}
use Rattle.lpc_model.specs.declared.entry.Entry.TheVariants as entry
use Rattle.lpc_model.specs.declared.entry.Field.{Field}
use Rattle.lpc_model.specs.World.{Birth, MessageRow, WaitRow, World, ViewRow, ViewTable}
use Rattle.lpc_model.specs.Found.{is_own_of, waits_as, all_views, is_connect, is_owned_by, is_mark}
use Rattle.lpc_model.specs.Basics.{Basic, Steps, Withdraws, basic, end_each, entries_of, world_after, DropsOwned, without_owned, left_by}
use Rattle.lpc_model.specs.Entering.{woken}
use Rattle.lpc_model.proofs.Steps.Rows.{count-less, has-append}
use Rattle.lpc_model.specs.Circle.{Group, Whose}
use Rattle.lpc_isolation.proofs.Views.Alone.{alone}
use Rattle.lpc_isolation.proofs.Views.View.{our_message, our_wait, view, our_mark}
use Rattle.lpc_isolation.proofs.Views.Basics.{run-ours, sees_own, none-owned, sees, sees_wait}
use Rattle.lpc_isolation.proofs.Rows.Fair.{is_fair_wait, Fair, keeps-fair, port-side}
use Rattle.lpc_isolation.proofs.Views.Apart.{Owned, are_apart, end-apart, heard, is_heard, is_owned, is_apart}
use Rattle.lpc_isolation.proofs.Views.Callers.{Led, c-wait, unseen-owned}
use Rattle.lpc_isolation.proofs.Each.Reply.{wake-not-c}
use Rattle.lpc_isolation.proofs.Plays.Play.{is_told_input, told_inputs}
use Rattle.lpc_isolation.proofs.Rows.Paths.{is_path}
use Rattle.lpc_isolation.proofs.Rows.Clients.{is_client_wait}
use Rattle.lpc_isolation.proofs.Rows.Asked.{Asked, asks_of, basic-asked, has_own, is_own, is_quiet, is_settled, is_sort, still-own, still-quiet}
use Rattle.lpc_isolation.proofs.Memory.Heard.{Heard, entries_memo, entries-silent, is_silent, shown_header, takes_any}
use Rattle.lpc_isolation.proofs.Gone.Thin.{Alive, Closed, thin, wait_closed}
use Rattle.lpc_isolation.proofs.Gone.ThinCalls.{AreClosed}
use Rattle.lpc_isolation.proofs.Closings.Mild.{AreLosses, Sure, losses-fair, losses-mild, losses-ours, losses-sent, no_mark}
use Rattle.lpc_isolation.proofs.Closings.Lone.{is_lone, is_mute, lone-all, mute-all, quiet-all}
use Rattle.lpc_isolation.proofs.Closings.Stages.{Stage}
use Rattle.lpc_isolation.proofs.Closings.Shown.{are_shown, silent-shown}

-- a wait ends; where it is for an answer, its message leaves its queue; and where it is a connect, the views of its port go
abbrev pub ended : Bool → Bool → Status → List Field → WaitRow → List Basic
ended false false status fields x = woken status fields x ∷ []
ended true false status fields x = woken status fields x ∷ Withdraws x.thread ∷ []
ended false true status fields x = woken status fields x ∷ DropsOwned x.port ∷ []
ended true true status fields x = woken status fields x ∷ Withdraws x.thread ∷ DropsOwned x.port ∷ []

abbrev pub all_ended : Bool → Bool → Status → List Field → List WaitRow → List Basic
all_ended draws drops status fields xs = each (ended draws drops status fields) xs

-- what is known of a wait that stands
abbrev pub is_known_wait : Group → ℕ → World → World → WaitRow → Bool
is_known_wait m c u w x = is_fair_wait m c x && (is_path w x && (is_owned u x && is_client_wait w x))

pub known-waits : (m : Group) (c : ℕ) (u w : World) → Sure m c u w → every (is_known_wait m c u w) w.waits ≡ true
known-waits m c u w s = every-both (is_fair_wait m c) (λ x. is_path w x && (is_owned u x && is_client_wait w x)) (is_known_wait m c u w) (λ x a b. and_from _ _ a b) w.waits s.fair.waits
    (every-both (is_path w) (λ x. is_owned u x && is_client_wait w x) _ (λ x a b. and_from _ _ a b) w.waits s.paths
    (every-both (is_owned u) (is_client_wait w) _ (λ x a b. and_from _ _ a b) w.waits s.owned s.clients))

-- what is asked of the test by which waits end that a port's closing concerns
pub record IsEnd (m : Group) (c : ℕ) (b : Birth) (draws drops : Bool) (test : World → WaitRow → Bool) : Type 0 where
  -- whose message isn't drawn, has none; an outsider's closing ends no wait of c, and none in the view for messages
  pub settled : draws ≡ false → (w : World) (x : WaitRow) → test w x ≡ true → is_settled x ≡ true
  pub other : m b.process ≡ false → (u w : World) (x : WaitRow) → Sure m c u w → is_known_wait m c u w x ≡ true → test w x ≡ true → (x.process == c) ≡ false
  pub unseen : m b.process ≡ false → (u w : World) (x : WaitRow) → Sure m c u w → is_known_wait m c u w x ≡ true → test w x ≡ true → (our_wait m x && (draws || takes_any x)) ≡ false
  pub hidden : m b.process ≡ false → (u w : World) (x : WaitRow) → Sure m c u w → is_known_wait m c u w x ≡ true → test w x ≡ true → our_wait m x ≡ false
  -- whose port's views go, is a connect; in an outsider's closing on an outsider's port
  pub connects : drops ≡ true → (w : World) (x : WaitRow) → test w x ≡ true → is_connect x ≡ true
  pub away : drops ≡ true → m b.process ≡ false → (u w : World) (x : WaitRow) → Sure m c u w → is_known_wait m c u w x ≡ true → test w x ≡ true → m x.port.process ≡ false
  -- a member's closing ends in the view what it ends there in the world, and c's closing no other
  pub agree : m b.process ≡ true → (u w : World) (x : WaitRow) → Sure m c u w → is_known_wait m c u w x ≡ true → our_wait m x ≡ true → test (view m w) x ≡ test w x
  pub inside : b.process ≡ c → (u w : World) (x : WaitRow) → Sure m c u w → is_known_wait m c u w x ≡ true → test w x ≡ true → our_wait m x ≡ true
  pub thinly : (k : Alive) (u : World) (x : WaitRow) → Closed k u → wait_closed k x ≡ true → test (thin k u) x ≡ test u x

-- Lists
pub every-passing : {X : Type 0} (p t q : X → Bool) → ((x : X) → p x ≡ true → t x ≡ true → q x ≡ true) → (xs : List X) → every p xs ≡ true → every q (which t xs) ≡ true
every-passing p t q f [] all = refl
every-passing p t q f (x ∷ xs) all = grind (arith, f x, every-passing p t q f xs)

pub which-seen : {X : Type 0} (p k s t : X → Bool) → ((x : X) → p x ≡ true → k x ≡ true → s x ≡ t x) → (xs : List X) → every p xs ≡ true → which s (which k xs) ≡ which k (which t xs)
which-seen p k s t same [] all = refl
which-seen p k s t same (x ∷ xs) all = grind (arith, same x, which-seen p k s t same xs)

pub which-kept : {X : Type 0} (k : X → Bool) (xs : List X) → every k xs ≡ true → which k xs ≡ xs
which-kept k [] all = refl
which-kept k (x ∷ xs) all = grind (arith, which-kept k xs)

pub which-same : {X : Type 0} (p s t : X → Bool) → ((x : X) → p x ≡ true → s x ≡ t x) → (xs : List X) → every p xs ≡ true → which s xs ≡ which t xs
which-same p s t same [] all = refl
which-same p s t same (x ∷ xs) all = grind (arith, same x, which-same p s t same xs)

-- Rows go
pub losses-ended : (b : Birth) (draws drops : Bool) (status : Status) (fields : List Field) (xs : List WaitRow) → AreLosses b (all_ended draws drops status fields xs)
losses-ended b draws drops status fields [] = refl
losses-ended b true true status fields (x ∷ xs) = losses-ended b true true status fields xs
losses-ended b true false status fields (x ∷ xs) = losses-ended b true false status fields xs
losses-ended b false true status fields (x ∷ xs) = losses-ended b false true status fields xs
losses-ended b false false status fields (x ∷ xs) = losses-ended b false false status fields xs

pub unmarked-ended : (draws drops : Bool) (status : Status) (fields : List Field) (xs : List WaitRow) → every no_mark (all_ended draws drops status fields xs) ≡ true
unmarked-ended draws drops status fields [] = refl
unmarked-ended true true status fields (x ∷ xs) = unmarked-ended true true status fields xs
unmarked-ended true false status fields (x ∷ xs) = unmarked-ended true false status fields xs
unmarked-ended false true status fields (x ∷ xs) = unmarked-ended false true status fields xs
unmarked-ended false false status fields (x ∷ xs) = unmarked-ended false false status fields xs

closed-ended : (k : Alive) (draws drops : Bool) (status : Status) (fields : List Field) (xs : List WaitRow) → AreClosed k (all_ended draws drops status fields xs)
closed-ended k draws drops status fields [] = refl
closed-ended k true true status fields (x ∷ xs) = closed-ended k true true status fields xs
closed-ended k true false status fields (x ∷ xs) = closed-ended k true false status fields xs
closed-ended k false true status fields (x ∷ xs) = closed-ended k false true status fields xs
closed-ended k false false status fields (x ∷ xs) = closed-ended k false false status fields xs

-- a queued message that asks is still its thread's own
pub drawn-asked : (w : World) (tid : ℕ) → Asked w → Asked (record w { waits = without (waits_as tid) w.waits; messages = without (is_own_of tid) w.messages })
drawn-asked w tid a = record {
  sorts = every-without is_sort (is_own_of tid) w.messages a.sorts;
  own = still-own tid w.waits (without (waits_as tid) w.waits) (λ y other. has-off y other w.waits) (without (is_own_of tid) w.messages) (every-without (has_own w.waits) (is_own_of tid) w.messages a.own) (none-left tid w.messages);
  one = λ who. count-less (asks_of who) (is_own_of tid) w.messages 1 (a.one who);
  marked = still-quiet w.messages (without (is_own_of tid) w.messages) w.marks (λ n none. has_none-without (asks_of n) (is_own_of tid) w.messages none) a.marked;
}
  where
    has-off : (y : MessageRow) → ((z : WaitRow) → is_own y z ≡ true → (z.thread == tid) ≡ false) → (ws : List WaitRow) → has (is_own y) ws ≡ true → has (is_own y) (without (waits_as tid) ws) ≡ true
    has-off y other [] is = is
    has-off y other (z ∷ zs) is = grind (arith, other z, has-off y other zs)

    none-left : (t : ℕ) (ms : List MessageRow) → is_quiet (without (is_own_of t) ms) t ≡ true
    none-left t [] = refl
    none-left t (y ∷ ys) = grind (arith, none-left t ys)

ended-asked : (draws drops : Bool) (status : Status) (fields : List Field) (xs : List WaitRow) (w : World) → every (λ x. draws || is_quiet w.messages x.thread) xs ≡ true → Asked w → Asked (world_after w (all_ended draws drops status fields xs))
ended-asked draws drops status fields [] w quiet a = a
ended-asked true true status fields (x ∷ xs) w quiet a = ended-asked true true status fields xs (world_after w (ended true true status fields x)) (any xs) (as-after (drawn-asked w x.thread a))
  where
    as-after : Asked (record w { waits = without (waits_as x.thread) w.waits; messages = without (is_own_of x.thread) w.messages }) → Asked (world_after w (ended true true status fields x))
    as-after a = record { sorts = a.sorts; own = a.own; one = a.one; marked = every-without (is_quiet (without (is_own_of x.thread) w.messages)) (is_mark x.thread) w.marks a.marked }

    any : (xs : List WaitRow) → every (λ x. true) xs ≡ true
    any [] = refl
    any (x ∷ xs) = any xs
ended-asked true false status fields (x ∷ xs) w quiet a = ended-asked true false status fields xs (world_after w (ended true false status fields x)) (any xs) (as-after (drawn-asked w x.thread a))
  where
    as-after : Asked (record w { waits = without (waits_as x.thread) w.waits; messages = without (is_own_of x.thread) w.messages }) → Asked (world_after w (ended true false status fields x))
    as-after a = record { sorts = a.sorts; own = a.own; one = a.one; marked = every-without (is_quiet (without (is_own_of x.thread) w.messages)) (is_mark x.thread) w.marks a.marked }

    any : (xs : List WaitRow) → every (λ x. true) xs ≡ true
    any [] = refl
    any (x ∷ xs) = any xs
ended-asked false true status fields (x ∷ xs) w quiet a =
    let v : World = basic w (woken status fields x) in
    ended-asked false true status fields xs (basic v (DropsOwned x.port)) (second-true _ _ quiet) (basic-asked v (DropsOwned x.port) refl (basic-asked w (woken status fields x) (first-true _ _ quiet) a))
ended-asked false false status fields (x ∷ xs) w quiet a = ended-asked false false status fields xs (basic w (woken status fields x)) (second-true _ _ quiet) (basic-asked w (woken status fields x) (first-true _ _ quiet) a)

-- By an outsider
abbrev is_free : Group → ℕ → World → Bool → World → WaitRow → Bool
is_free m c u draws w x = is_owned u x && (not (x.process == c) && (not draws || not (sees_own m w x.thread)))

own-less : (m : Group) (w : World) (test : MessageRow → Bool) (t : ℕ) → sees_own m w t ≡ false → sees_own m (record w { messages = without test w.messages }) t ≡ false
own-less m w test t none = rw (which-without (our_message m) test w.messages) (has_none-without (is_own_of t) test (which (our_message m) w.messages) none)

free-less : (m : Group) (c : ℕ) (u w : World) (x y : WaitRow) → is_free m c u true w y ≡ true → is_free m c u true (basic w (Withdraws x.thread)) y ≡ true
free-less m c u w x y is = at (sees_own m w y.thread) refl
  where
    at : (e : Bool) → sees_own m w y.thread ≡ e → is_free m c u true (basic w (Withdraws x.thread)) y ≡ true
    at true seen = absurd (grind arith)
    at false none = rw (own-less m w (is_own_of x.thread) y.thread none) (grind arith)

abbrev is_out : Group → Bool → WaitRow → Bool
is_out m drops x = not drops || not (m x.port.process)

ended-apart : (m : Group) (c : ℕ) (u : World) (d : Whose) (draws drops : Bool) (status : Status) (fields : List Field) (xs : List WaitRow) (w : World) → Owned u w → Fair m c w → every (is_free m c u draws w) xs ≡ true → every (is_out m drops) xs ≡ true → are_apart m c u d w (all_ended draws drops status fields xs) ≡ true
ended-apart m c u d draws drops status fields [] w owned f free outs = refl
ended-apart m c u d false false status fields (x ∷ xs) w owned f free outs =
    let here : is_free m c u false w x ≡ true = first-true _ _ free in
    let v : World = basic w (woken status fields x) in
    let fv : Fair m c v = keeps-fair m c w (woken status fields x) refl f in
    let still : Owned u v = every-without (is_owned u) (waits_as x.thread) w.waits owned in
    let one : is_apart m c u d w (woken status fields x) ≡ true = end-apart m c u d w x status fields owned (first-true _ _ here) (not-true _ (first-true _ _ (second-true (is_owned u x) _ here))) in
    and_from _ _ (and_from _ _ one refl) (ended-apart m c u d false false status fields xs v still fv (second-true _ _ free) (second-true (is_out m false x) _ outs))
ended-apart m c u d false true status fields (x ∷ xs) w owned f free outs =
    let here : is_free m c u false w x ≡ true = first-true _ _ free in
    let v : World = basic w (woken status fields x) in
    let fv : Fair m c v = keeps-fair m c w (woken status fields x) refl f in
    let still : Owned u v = every-without (is_owned u) (waits_as x.thread) w.waits owned in
    let one : is_apart m c u d w (woken status fields x) ≡ true = end-apart m c u d w x status fields owned (first-true _ _ here) (not-true _ (first-true _ _ (second-true (is_owned u x) _ here))) in
    let none : sees m v (DropsOwned x.port) ≡ false = unseen-owned m c v x.port fv (not-true (m x.port.process) (first-true _ _ outs)) in
    and_from _ _ (and_from _ _ one refl) (and_from _ _ (and_from _ _ (rw none refl) refl)
    (ended-apart m c u d false true status fields xs (basic v (DropsOwned x.port)) still (keeps-fair m c v (DropsOwned x.port) refl fv) (second-true _ _ free) (second-true _ _ outs)))
ended-apart m c u d true false status fields (x ∷ xs) w owned f free outs =
    let here : is_free m c u true w x ≡ true = first-true _ _ free in
    let v : World = basic w (woken status fields x) in
    let fv : Fair m c v = keeps-fair m c w (woken status fields x) refl f in
    let still : Owned u v = every-without (is_owned u) (waits_as x.thread) w.waits owned in
    let one : is_apart m c u d w (woken status fields x) ≡ true = end-apart m c u d w x status fields owned (first-true _ _ here) (not-true _ (first-true _ _ (second-true (is_owned u x) _ here))) in
    let own : sees_own m w x.thread ≡ false = not-true _ (second-true (not (x.process == c)) _ (second-true (is_owned u x) _ here)) in
    and_from _ _ (and_from _ _ one refl) (and_from _ _ (and_from _ _ (rw own refl) refl)
    (ended-apart m c u d true false status fields xs (basic v (Withdraws x.thread)) still (keeps-fair m c v (Withdraws x.thread) refl fv)
    (every-more (is_free m c u true w) (is_free m c u true (basic v (Withdraws x.thread))) (λ y is. free-less m c u w x y is) xs (second-true _ _ free)) (second-true (is_out m false x) _ outs)))
ended-apart m c u d true true status fields (x ∷ xs) w owned f free outs =
    let here : is_free m c u true w x ≡ true = first-true _ _ free in
    let v : World = basic w (woken status fields x) in
    let fv : Fair m c v = keeps-fair m c w (woken status fields x) refl f in
    let still : Owned u v = every-without (is_owned u) (waits_as x.thread) w.waits owned in
    let one : is_apart m c u d w (woken status fields x) ≡ true = end-apart m c u d w x status fields owned (first-true _ _ here) (not-true _ (first-true _ _ (second-true (is_owned u x) _ here))) in
    let own : sees_own m w x.thread ≡ false = not-true _ (second-true (not (x.process == c)) _ (second-true (is_owned u x) _ here)) in
    let t : World = basic v (Withdraws x.thread) in
    let ft : Fair m c t = keeps-fair m c v (Withdraws x.thread) refl fv in
    let none : sees m t (DropsOwned x.port) ≡ false = unseen-owned m c t x.port ft (not-true (m x.port.process) (first-true _ _ outs)) in
    and_from _ _ (and_from _ _ one refl) (and_from _ _ (and_from _ _ (rw own refl) refl) (and_from _ _ (and_from _ _ (rw none refl) refl)
    (ended-apart m c u d true true status fields xs (basic t (DropsOwned x.port)) still (keeps-fair m c t (DropsOwned x.port) refl ft)
    (every-more (is_free m c u true w) (is_free m c u true (basic t (DropsOwned x.port))) (λ y is. free-less m c u w x y is) xs (second-true _ _ free)) (second-true _ _ outs))))

ended-silent : (v : World) (draws drops : Bool) (status : Status) (fields : List Field) (xs : List WaitRow) → every (λ x. is_silent v (entry.Wakes x.thread x.call status fields)) xs ≡ true → every (is_silent v) (entries_of (all_ended draws drops status fields xs)) ≡ true
ended-silent v draws drops status fields [] mute = refl
ended-silent v true true status fields (x ∷ xs) mute = and_from _ _ (first-true _ _ mute) (ended-silent v true true status fields xs (second-true _ _ mute))
ended-silent v true false status fields (x ∷ xs) mute = and_from _ _ (first-true _ _ mute) (ended-silent v true false status fields xs (second-true _ _ mute))
ended-silent v false true status fields (x ∷ xs) mute = and_from _ _ (first-true _ _ mute) (ended-silent v false true status fields xs (second-true _ _ mute))
ended-silent v false false status fields (x ∷ xs) mute = and_from _ _ (first-true _ _ mute) (ended-silent v false false status fields xs (second-true _ _ mute))

-- By a member: what isn't in the view leaves it
abbrev is_lost : Group → World → WaitRow → Bool
is_lost m v x = our_wait m x || (not (has (waits_as x.thread) v.waits) && (not (has (is_own_of x.thread) v.messages) && not (has (is_mark x.thread) v.marks)))

lost-less : (m : Group) (v : World) (t : WaitRow → Bool) (s : MessageRow → Bool) (r : ℕ → Bool) (y : WaitRow) → is_lost m v y ≡ true → is_lost m (record v { waits = without t v.waits; messages = without s v.messages; marks = without r v.marks }) y ≡ true
lost-less m v t s r y is = at (our_wait m y) (has (waits_as y.thread) v.waits) (has (is_own_of y.thread) v.messages) (has (is_mark y.thread) v.marks) refl refl refl refl
  where
    at : (a b c d : Bool) → our_wait m y ≡ a → has (waits_as y.thread) v.waits ≡ b → has (is_own_of y.thread) v.messages ≡ c → has (is_mark y.thread) v.marks ≡ d → is_lost m (record v { waits = without t v.waits; messages = without s v.messages; marks = without r v.marks }) y ≡ true
    at true b c d ours wait own mark = rw ours refl
    at false true c d out wait own mark = absurd (grind arith)
    at false false true d out wait own mark = absurd (grind arith)
    at false false false true out wait own mark = absurd (grind arith)
    at false false false false out wait own mark = rw (out, has_none-without (waits_as y.thread) t v.waits wait, has_none-without (is_own_of y.thread) s v.messages own, has_none-without (is_mark y.thread) r v.marks mark) refl

lost-waits : (m : Group) (v : World) (t : WaitRow → Bool) (r : ℕ → Bool) (y : WaitRow) → is_lost m v y ≡ true → is_lost m (record v { waits = without t v.waits; marks = without r v.marks }) y ≡ true
lost-waits m v t r y is = at (our_wait m y) (has (waits_as y.thread) v.waits) (has (is_own_of y.thread) v.messages) (has (is_mark y.thread) v.marks) refl refl refl refl
  where
    at : (a b c d : Bool) → our_wait m y ≡ a → has (waits_as y.thread) v.waits ≡ b → has (is_own_of y.thread) v.messages ≡ c → has (is_mark y.thread) v.marks ≡ d → is_lost m (record v { waits = without t v.waits; marks = without r v.marks }) y ≡ true
    at true b c d ours wait own mark = rw ours refl
    at false true c d out wait own mark = absurd (grind arith)
    at false false true d out wait own mark = absurd (grind arith)
    at false false false true out wait own mark = absurd (grind arith)
    at false false false false out wait own mark = rw (out, has_none-without (waits_as y.thread) t v.waits wait, own, has_none-without (is_mark y.thread) r v.marks mark) refl

none-waits : (m : Group) (v : World) (x : WaitRow) → our_wait m x ≡ false → is_lost m v x ≡ true → has (waits_as x.thread) v.waits ≡ false
none-waits m v x out is = grind arith

none-own : (m : Group) (v : World) (x : WaitRow) → our_wait m x ≡ false → is_lost m v x ≡ true → has (is_own_of x.thread) v.messages ≡ false
none-own m v x out is = grind arith

none-marks : (m : Group) (v : World) (x : WaitRow) → our_wait m x ≡ false → is_lost m v x ≡ true → has (is_mark x.thread) v.marks ≡ false
none-marks m v x out is = grind arith

wait-left : (m : Group) (v : World) (x : WaitRow) → our_wait m x ≡ false → is_lost m v x ≡ true → left_by x.thread v ≡ v
wait-left m v x out is = rw (without-none (waits_as x.thread) v.waits (none-waits m v x out is), without-none (is_mark x.thread) v.marks (none-marks m v x out is)) refl

lost-all : (m : Group) (c : ℕ) (u w : World) → Sure m c u w → every (is_lost m (view m w)) w.waits ≡ true
lost-all m c u w s = every-more (is_lone m w) (is_lost m (view m w)) (λ x lone. at x (our_wait m x) refl lone) w.waits (lone-all m c u w s)
  where
    at : (x : WaitRow) (o : Bool) → our_wait m x ≡ o → is_lone m w x ≡ true → is_lost m (view m w) x ≡ true
    at x true ours lone = rw ours refl
    at x false out lone =
        let parts : (not (sees_wait m w x.thread) && not (sees_own m w x.thread)) ≡ true = let it : (false || (not (sees_wait m w x.thread) && not (sees_own m w x.thread))) ≡ true = rw out at lone in it in
        let wait : sees_wait m w x.thread ≡ false = not-true (sees_wait m w x.thread) (first-true _ _ parts) in
        let own : sees_own m w x.thread ≡ false = not-true (sees_own m w x.thread) (second-true (not (sees_wait m w x.thread)) _ parts) in
        let mark : has (is_mark x.thread) (which (our_mark m w) w.marks) ≡ false = unmarked-seen x.thread (which (our_wait m) w.waits) wait w.marks in
        rw (out, wait, own, mark) refl

-- and its port owns nothing there
abbrev is_bare : Group → Bool → World → WaitRow → Bool
is_bare m drops v x = our_wait m x || (not drops || not (has (is_owned_by x.port) (all_views v)))

less-owned : (p : ViewRow → Bool) (b : Birth) (ts : List ViewTable) → has p (each (λ (t : ViewTable). t.rows) ts) ≡ false → has p (each (λ (t : ViewTable). t.rows) (map (without_owned b) ts)) ≡ false
less-owned p b [] none = refl
less-owned p b (t ∷ ts) none =
    let rest : List ViewRow = each (λ (t : ViewTable). t.rows) ts in
    let parts = or_parts (has p t.rows) (has p rest) (sym (has-append p t.rows rest) ∙ none) in
    has-append p (without (is_owned_by b) t.rows) (each (λ (t : ViewTable). t.rows) (map (without_owned b) ts)) ∙ rw (has_none-without p (is_owned_by b) t.rows parts.0, less-owned p b ts parts.1) refl

bare-less : (m : Group) (v : World) (b : Birth) (y : WaitRow) → is_bare m true v y ≡ true → is_bare m true (basic v (DropsOwned b)) y ≡ true
bare-less m v b y is = at (our_wait m y) (has (is_owned_by y.port) (all_views v)) refl refl
  where
    at : (a e : Bool) → our_wait m y ≡ a → has (is_owned_by y.port) (all_views v) ≡ e → is_bare m true (basic v (DropsOwned b)) y ≡ true
    at true e ours owned = rw ours refl
    at false true out owned = absurd (grind arith)
    at false false out owned = rw (out, less-owned (is_owned_by y.port) b v.views owned) refl

none-views : (m : Group) (v : World) (x : WaitRow) → our_wait m x ≡ false → is_bare m true v x ≡ true → basic v (DropsOwned x.port) ≡ v
none-views m v x out is = let none : has (is_owned_by x.port) (all_views v) ≡ false = grind arith in ap (λ vs. record v { views = vs }) (none-owned x.port v.views none)

ended-left : (m : Group) (draws drops : Bool) (status : Status) (fields : List Field) (xs : List WaitRow) (v : World) → every (is_lost m v) xs ≡ true → every (is_bare m drops v) xs ≡ true → world_after v (all_ended draws drops status fields xs) ≡ world_after v (all_ended draws drops status fields (which (our_wait m) xs))
ended-left m draws drops status fields [] v lost bare = refl
ended-left m false false status fields (x ∷ xs) v lost bare = at (our_wait m x) refl (ended-left m false false status fields xs (world_after v (ended false false status fields x)) (every-more (is_lost m v) (is_lost m (world_after v (ended false false status fields x))) (lost-waits m v (waits_as x.thread) (is_mark x.thread)) xs (second-true _ _ lost)) (second-true _ _ bare))
  where
    ws : List WaitRow
    ws = which (our_wait m) xs

    left : our_wait m x ≡ false → basic v (woken status fields x) ≡ v
    left out = wait-left m v x out (first-true _ _ lost)

    gone : our_wait m x ≡ false → world_after v (ended false false status fields x) ≡ v
    gone out = left out

    at : (e : Bool) → our_wait m x ≡ e → world_after (world_after v (ended false false status fields x)) (all_ended false false status fields xs) ≡ world_after (world_after v (ended false false status fields x)) (all_ended false false status fields ws) → world_after v (all_ended false false status fields (x ∷ xs)) ≡ world_after v (all_ended false false status fields (which (our_wait m) (x ∷ xs)))
    at true ours rest = rw ours rest
    at false out rest = rw out (rest ∙ ap (λ v. world_after v (all_ended false false status fields ws)) (gone out))
ended-left m false true status fields (x ∷ xs) v lost bare = at (our_wait m x) refl (ended-left m false true status fields xs (world_after v (ended false true status fields x)) (every-more (is_lost m v) (is_lost m (world_after v (ended false true status fields x))) (lost-waits m v (waits_as x.thread) (is_mark x.thread)) xs (second-true _ _ lost)) (every-more (is_bare m true v) (is_bare m true (world_after v (ended false true status fields x))) (λ y is. bare-less m v x.port y is) xs (second-true _ _ bare)))
  where
    ws : List WaitRow
    ws = which (our_wait m) xs

    left : our_wait m x ≡ false → basic v (woken status fields x) ≡ v
    left out = wait-left m v x out (first-true _ _ lost)

    gone : our_wait m x ≡ false → world_after v (ended false true status fields x) ≡ v
    gone out = ap (λ v. basic v (DropsOwned x.port)) (left out) ∙ none-views m v x out (first-true _ _ bare)

    at : (e : Bool) → our_wait m x ≡ e → world_after (world_after v (ended false true status fields x)) (all_ended false true status fields xs) ≡ world_after (world_after v (ended false true status fields x)) (all_ended false true status fields ws) → world_after v (all_ended false true status fields (x ∷ xs)) ≡ world_after v (all_ended false true status fields (which (our_wait m) (x ∷ xs)))
    at true ours rest = rw ours rest
    at false out rest = rw out (rest ∙ ap (λ v. world_after v (all_ended false true status fields ws)) (gone out))
ended-left m true false status fields (x ∷ xs) v lost bare = at (our_wait m x) refl (ended-left m true false status fields xs (world_after v (ended true false status fields x)) (every-more (is_lost m v) (is_lost m (world_after v (ended true false status fields x))) (lost-less m v (waits_as x.thread) (is_own_of x.thread) (is_mark x.thread)) xs (second-true _ _ lost)) (second-true _ _ bare))
  where
    ws : List WaitRow
    ws = which (our_wait m) xs

    left : our_wait m x ≡ false → world_after v (ended true false status fields x) ≡ v
    left out = rw (without-none (waits_as x.thread) v.waits (none-waits m v x out (first-true _ _ lost)), without-none (is_mark x.thread) v.marks (none-marks m v x out (first-true _ _ lost)), without-none (is_own_of x.thread) v.messages (none-own m v x out (first-true _ _ lost))) refl

    gone : our_wait m x ≡ false → world_after v (ended true false status fields x) ≡ v
    gone out = left out

    at : (e : Bool) → our_wait m x ≡ e → world_after (world_after v (ended true false status fields x)) (all_ended true false status fields xs) ≡ world_after (world_after v (ended true false status fields x)) (all_ended true false status fields ws) → world_after v (all_ended true false status fields (x ∷ xs)) ≡ world_after v (all_ended true false status fields (which (our_wait m) (x ∷ xs)))
    at true ours rest = rw ours rest
    at false out rest = rw out (rest ∙ ap (λ v. world_after v (all_ended true false status fields ws)) (gone out))
ended-left m true true status fields (x ∷ xs) v lost bare = at (our_wait m x) refl (ended-left m true true status fields xs (world_after v (ended true true status fields x)) (every-more (is_lost m v) (is_lost m (world_after v (ended true true status fields x))) (lost-less m v (waits_as x.thread) (is_own_of x.thread) (is_mark x.thread)) xs (second-true _ _ lost)) (every-more (is_bare m true v) (is_bare m true (world_after v (ended true true status fields x))) (λ y is. bare-less m v x.port y is) xs (second-true _ _ bare)))
  where
    ws : List WaitRow
    ws = which (our_wait m) xs

    left : our_wait m x ≡ false → world_after v (ended true false status fields x) ≡ v
    left out = rw (without-none (waits_as x.thread) v.waits (none-waits m v x out (first-true _ _ lost)), without-none (is_mark x.thread) v.marks (none-marks m v x out (first-true _ _ lost)), without-none (is_own_of x.thread) v.messages (none-own m v x out (first-true _ _ lost))) refl

    gone : our_wait m x ≡ false → world_after v (ended true true status fields x) ≡ v
    gone out = ap (λ v. basic v (DropsOwned x.port)) (left out) ∙ none-views m v x out (first-true _ _ bare)

    at : (e : Bool) → our_wait m x ≡ e → world_after (world_after v (ended true true status fields x)) (all_ended true true status fields xs) ≡ world_after (world_after v (ended true true status fields x)) (all_ended true true status fields ws) → world_after v (all_ended true true status fields (x ∷ xs)) ≡ world_after v (all_ended true true status fields (which (our_wait m) (x ∷ xs)))
    at true ours rest = rw ours rest
    at false out rest = rw out (rest ∙ ap (λ v. world_after v (all_ended true true status fields ws)) (gone out))

-- and c isn't told of it
abbrev is_unheard : Group → ℕ → World → Whose → Status → List Field → WaitRow → Bool
is_unheard m c u d status fields x = our_wait m x || not (is_heard (alone c) u d (entry.Wakes x.thread x.call status fields))

ended-told : (m : Group) (c : ℕ) (u : World) (d : Whose) (draws drops : Bool) (status : Status) (fields : List Field) (xs : List WaitRow) → every (is_unheard m c u d status fields) xs ≡ true
    → heard (alone c) u d (entries_of (all_ended draws drops status fields xs)) ≡ heard (alone c) u d (entries_of (all_ended draws drops status fields (which (our_wait m) xs)))
ended-told m c u d draws drops status fields [] unheard = refl
ended-told m c u d false false status fields (x ∷ xs) unheard = at (our_wait m x) (is_heard (alone c) u d (entry.Wakes x.thread x.call status fields)) refl refl (first-true _ _ unheard) (ended-told m c u d false false status fields xs (second-true _ _ unheard))
  where
    at : (a e : Bool) → our_wait m x ≡ a → is_heard (alone c) u d (entry.Wakes x.thread x.call status fields) ≡ e → is_unheard m c u d status fields x ≡ true → heard (alone c) u d (entries_of (all_ended false false status fields xs)) ≡ heard (alone c) u d (entries_of (all_ended false false status fields (which (our_wait m) xs)))
        → heard (alone c) u d (entries_of (all_ended false false status fields (x ∷ xs))) ≡ heard (alone c) u d (entries_of (all_ended false false status fields (which (our_wait m) (x ∷ xs))))
    at true true ours told is rest = rw (ours, told) (ap (λ es. entry.Wakes x.thread x.call status fields ∷ es) rest)
    at true false ours told is rest = rw (ours, told) rest
    at false true out told is rest = absurd (grind arith)
    at false false out told is rest = rw (out, told) rest
ended-told m c u d false true status fields (x ∷ xs) unheard = at (our_wait m x) (is_heard (alone c) u d (entry.Wakes x.thread x.call status fields)) refl refl (first-true _ _ unheard) (ended-told m c u d false true status fields xs (second-true _ _ unheard))
  where
    at : (a e : Bool) → our_wait m x ≡ a → is_heard (alone c) u d (entry.Wakes x.thread x.call status fields) ≡ e → is_unheard m c u d status fields x ≡ true → heard (alone c) u d (entries_of (all_ended false true status fields xs)) ≡ heard (alone c) u d (entries_of (all_ended false true status fields (which (our_wait m) xs)))
        → heard (alone c) u d (entries_of (all_ended false true status fields (x ∷ xs))) ≡ heard (alone c) u d (entries_of (all_ended false true status fields (which (our_wait m) (x ∷ xs))))
    at true true ours told is rest = rw (ours, told) (ap (λ es. entry.Wakes x.thread x.call status fields ∷ es) rest)
    at true false ours told is rest = rw (ours, told) rest
    at false true out told is rest = absurd (grind arith)
    at false false out told is rest = rw (out, told) rest
ended-told m c u d true false status fields (x ∷ xs) unheard = at (our_wait m x) (is_heard (alone c) u d (entry.Wakes x.thread x.call status fields)) refl refl (first-true _ _ unheard) (ended-told m c u d true false status fields xs (second-true _ _ unheard))
  where
    at : (a e : Bool) → our_wait m x ≡ a → is_heard (alone c) u d (entry.Wakes x.thread x.call status fields) ≡ e → is_unheard m c u d status fields x ≡ true → heard (alone c) u d (entries_of (all_ended true false status fields xs)) ≡ heard (alone c) u d (entries_of (all_ended true false status fields (which (our_wait m) xs)))
        → heard (alone c) u d (entries_of (all_ended true false status fields (x ∷ xs))) ≡ heard (alone c) u d (entries_of (all_ended true false status fields (which (our_wait m) (x ∷ xs))))
    at true true ours told is rest = rw (ours, told) (ap (λ es. entry.Wakes x.thread x.call status fields ∷ es) rest)
    at true false ours told is rest = rw (ours, told) rest
    at false true out told is rest = absurd (grind arith)
    at false false out told is rest = rw (out, told) rest
ended-told m c u d true true status fields (x ∷ xs) unheard = at (our_wait m x) (is_heard (alone c) u d (entry.Wakes x.thread x.call status fields)) refl refl (first-true _ _ unheard) (ended-told m c u d true true status fields xs (second-true _ _ unheard))
  where
    at : (a e : Bool) → our_wait m x ≡ a → is_heard (alone c) u d (entry.Wakes x.thread x.call status fields) ≡ e → is_unheard m c u d status fields x ≡ true → heard (alone c) u d (entries_of (all_ended true true status fields xs)) ≡ heard (alone c) u d (entries_of (all_ended true true status fields (which (our_wait m) xs)))
        → heard (alone c) u d (entries_of (all_ended true true status fields (x ∷ xs))) ≡ heard (alone c) u d (entries_of (all_ended true true status fields (which (our_wait m) (x ∷ xs))))
    at true true ours told is rest = rw (ours, told) (ap (λ es. entry.Wakes x.thread x.call status fields ∷ es) rest)
    at true false ours told is rest = rw (ours, told) rest
    at false true out told is rest = absurd (grind arith)
    at false false out told is rest = rw (out, told) rest

-- no message is shown, and nobody's in the view ends by an outsider's
abbrev is_out_of : Group → Bool → World → WaitRow → Bool
is_out_of m side w x = side || not (sees_wait m w x.thread)

out-less : (m : Group) (side : Bool) (w v : World) (t : ℕ) → v.waits ≡ without (waits_as t) w.waits → (x : WaitRow) → is_out_of m side w x ≡ true → is_out_of m side v x ≡ true
out-less m true w v t same x is = refl
out-less m false w v t same x is =
    let none : has (waits_as x.thread) (which (our_wait m) w.waits) ≡ false = not-true _ is in
    rw (same, which-without (our_wait m) (waits_as t) w.waits, has_none-without (waits_as x.thread) (waits_as t) (which (our_wait m) w.waits) none) refl

ended-shown : (m : Group) (side draws drops : Bool) (status : Status) (fields : List Field) (xs : List WaitRow) (w : World) → ((shown_header fields).kind == 0) ≡ true → every (is_out_of m side w) xs ≡ true → are_shown false m side w (all_ended draws drops status fields xs) ≡ true
ended-shown m side draws drops status fields [] w none outs = refl
ended-shown m side true true status fields (x ∷ xs) w none outs =
    and_from _ _ (silent-shown false m side w x.thread fields none (λ off. not-true _ (out-side off (first-true _ _ outs))))
    (ended-shown m side true true status fields xs (world_after w (ended true true status fields x)) none (every-more (is_out_of m side w) (is_out_of m side (world_after w (ended true true status fields x))) (out-less m side w (world_after w (ended true true status fields x)) x.thread refl) xs (second-true (is_out_of m side w x) _ outs)))
  where
    out-side : side ≡ false → is_out_of m side w x ≡ true → not (sees_wait m w x.thread) ≡ true
    out-side off is = rw off at is
ended-shown m side true false status fields (x ∷ xs) w none outs =
    and_from _ _ (silent-shown false m side w x.thread fields none (λ off. not-true _ (out-side off (first-true _ _ outs))))
    (ended-shown m side true false status fields xs (world_after w (ended true false status fields x)) none (every-more (is_out_of m side w) (is_out_of m side (world_after w (ended true false status fields x))) (out-less m side w (world_after w (ended true false status fields x)) x.thread refl) xs (second-true (is_out_of m side w x) _ outs)))
  where
    out-side : side ≡ false → is_out_of m side w x ≡ true → not (sees_wait m w x.thread) ≡ true
    out-side off is = rw off at is
ended-shown m side false true status fields (x ∷ xs) w none outs =
    and_from _ _ (silent-shown false m side w x.thread fields none (λ off. not-true _ (out-side off (first-true _ _ outs))))
    (ended-shown m side false true status fields xs (world_after w (ended false true status fields x)) none (every-more (is_out_of m side w) (is_out_of m side (world_after w (ended false true status fields x))) (out-less m side w (world_after w (ended false true status fields x)) x.thread refl) xs (second-true (is_out_of m side w x) _ outs)))
  where
    out-side : side ≡ false → is_out_of m side w x ≡ true → not (sees_wait m w x.thread) ≡ true
    out-side off is = rw off at is
ended-shown m side false false status fields (x ∷ xs) w none outs =
    and_from _ _ (silent-shown false m side w x.thread fields none (λ off. not-true _ (out-side off (first-true _ _ outs))))
    (ended-shown m side false false status fields xs (world_after w (ended false false status fields x)) none (every-more (is_out_of m side w) (is_out_of m side (world_after w (ended false false status fields x))) (out-less m side w (world_after w (ended false false status fields x)) x.thread refl) xs (second-true (is_out_of m side w x) _ outs)))
  where
    out-side : side ≡ false → is_out_of m side w x ≡ true → not (sees_wait m w x.thread) ≡ true
    out-side off is = rw off at is

-- The stage
module _ (m : Group) (c : ℕ) (b : Birth) (draws drops : Bool) (status : Status) (fields : List Field) (test : World → WaitRow → Bool) (e : IsEnd m c b draws drops test) (none : ((shown_header fields).kind == 0) ≡ true) where
  abbrev ends : Steps
  ends = end_each test (ended draws drops status fields)

  abbrev ending : World → List WaitRow
  ending w = which (test w) w.waits

  quiet : (u w : World) → Sure m c u w → every (λ x. draws || is_quiet w.messages x.thread) (ending w) ≡ true
  quiet u w s = every-passing (λ x. not (is_settled x) || is_quiet w.messages x.thread) (test w) (λ x. draws || is_quiet w.messages x.thread) (λ x is on. at x draws refl is on) w.waits (quiet-all m c u w s)
    where
      at : (x : WaitRow) (a : Bool) → draws ≡ a → (not (is_settled x) || is_quiet w.messages x.thread) ≡ true → test w x ≡ true → (draws || is_quiet w.messages x.thread) ≡ true
      at x true on is passed = rw on refl
      at x false off is passed = let settled : is_settled x ≡ true = e.settled off w x passed in grind arith

  free : (u w : World) → Sure m c u w → m b.process ≡ false → every (is_free m c u draws w) (ending w) ≡ true
  free u w s out = every-passing (λ x. is_known_wait m c u w x && is_lone m w x) (test w) (is_free m c u draws w) (λ x is on. at x is on) w.waits (every-both (is_known_wait m c u w) (is_lone m w) _ (λ x a b. and_from _ _ a b) w.waits (known-waits m c u w s) (lone-all m c u w s))
    where
      at : (x : WaitRow) → (is_known_wait m c u w x && is_lone m w x) ≡ true → test w x ≡ true → is_free m c u draws w x ≡ true
      at x is on =
          let known : is_known_wait m c u w x ≡ true = first-true _ _ is in
          let owned : is_owned u x ≡ true = first-true (is_owned u x) _ (second-true (is_path w x) _ (second-true (is_fair_wait m c x) _ known)) in
          let other : (x.process == c) ≡ false = e.other out u w x s known on in
          let unseen : (our_wait m x && (draws || takes_any x)) ≡ false = e.unseen out u w x s known on in
          let lone : is_lone m w x ≡ true = second-true (is_known_wait m c u w x) _ is in
          rw (owned, other) (drawn draws refl (our_wait m x) refl unseen lone)
        where
          drawn : (a : Bool) → draws ≡ a → (o : Bool) → our_wait m x ≡ o → (our_wait m x && (draws || takes_any x)) ≡ false → is_lone m w x ≡ true → (not draws || not (sees_own m w x.thread)) ≡ true
          drawn false off o ours unseen lone = rw off refl
          drawn true on true ours unseen lone = let never : true ≡ false = rw (on, ours) at unseen in absurd (cc)
          drawn true on false ours unseen lone = grind arith

  outs : (u w : World) → Sure m c u w → m b.process ≡ false → every (is_out m drops) (ending w) ≡ true
  outs u w s out = every-passing (is_known_wait m c u w) (test w) (is_out m drops) (λ x known on. at x known on drops refl) w.waits (known-waits m c u w s)
    where
      at : (x : WaitRow) → is_known_wait m c u w x ≡ true → test w x ≡ true → (a : Bool) → drops ≡ a → is_out m drops x ≡ true
      at x known on false off = rw off refl
      at x known on true is = rw (is, e.away is out u w x s known on) refl

  mute : (u : World) (d : Whose) (w : World) (memo : List Heard) → Sure m c u w → m b.process ≡ false → entries_memo m (view m w) memo (told_inputs m c u d (entries_of (ends w))) ≡ memo
  mute u d w memo s out =
      entries-silent m (view m w) memo (told_inputs m c u d (entries_of (ends w)))
      (every-which (is_silent (view m w)) (is_told_input m c u d) (entries_of (ends w)) (ended-silent (view m w) draws drops status fields (ending w) all))
    where
      at : (x : WaitRow) → (is_known_wait m c u w x && ((our_wait m x && takes_any x) || is_mute m w x)) ≡ true → test w x ≡ true → is_mute m w x ≡ true
      at x is on =
          let unseen : (our_wait m x && (draws || takes_any x)) ≡ false = e.unseen out u w x s (first-true _ _ is) on in
          let either : ((our_wait m x && takes_any x) || is_mute m w x) ≡ true = second-true (is_known_wait m c u w x) _ is in
          pick (our_wait m x) draws (takes_any x) (is_mute m w x) unseen either
        where
          pick : (o a t n : Bool) → (o && (a || t)) ≡ false → ((o && t) || n) ≡ true → n ≡ true
          pick o a t n unseen either = grind arith

      all : every (is_mute m w) (ending w) ≡ true
      all = every-passing (λ x. is_known_wait m c u w x && ((our_wait m x && takes_any x) || is_mute m w x)) (test w) (is_mute m w) (λ x is on. at x is on) w.waits
          (every-both (is_known_wait m c u w) (λ x. (our_wait m x && takes_any x) || is_mute m w x) _ (λ x a b. and_from _ _ a b) w.waits (known-waits m c u w s) (mute-all m c u w s))

  side-outs : (u w : World) → Sure m c u w → (side : Bool) → m b.process ≡ side → every (is_out_of m side w) (ending w) ≡ true
  side-outs u w s side is = every-passing (λ x. is_known_wait m c u w x && is_lone m w x) (test w) (is_out_of m side w) (λ x known on. at x known on side is) w.waits (every-both (is_known_wait m c u w) (is_lone m w) _ (λ x a b. and_from _ _ a b) w.waits (known-waits m c u w s) (lone-all m c u w s))
    where
      pick : (o a n : Bool) → o ≡ false → (o || (not a && n)) ≡ true → not a ≡ true
      pick o a n out is = grind arith

      at : (x : WaitRow) → (is_known_wait m c u w x && is_lone m w x) ≡ true → test w x ≡ true → (side : Bool) → m b.process ≡ side → is_out_of m side w x ≡ true
      at x known on true is = refl
      at x known on false is = pick (our_wait m x) (sees_wait m w x.thread) (not (sees_own m w x.thread)) (e.hidden is u w x s (first-true _ _ known) on) (second-true (is_known_wait m c u w x) _ known)

  seen : (u w : World) → Sure m c u w → m b.process ≡ true → ending (view m w) ≡ which (our_wait m) (ending w)
  seen u w s inside = which-seen (is_known_wait m c u w) (our_wait m) (test (view m w)) (test w) (λ x known ours. e.agree inside u w x s known ours) w.waits (known-waits m c u w s)

  led : (u : World) (d : Whose) (w : World) → Sure m c u w → m b.process ≡ true → Led m c u d w (ends w) (ends (view m w))
  led u d w s inside = subst (λ xs. Led m c u d w (ends w) (all_ended draws drops status fields xs)) (sym (seen u w s inside)) (record {
    world = run-ours m w (ends w) (losses-ours m b w (ends w) inside (losses-ended b draws drops status fields (ending w)) (unmarked-ended draws drops status fields (ending w))) ∙ ended-left m draws drops status fields (ending w) (view m w) lost bare;
    told = ended-told m c u d draws drops status fields (ending w) unheard;
  })
    where
      lost : every (is_lost m (view m w)) (ending w) ≡ true
      lost = every-which (is_lost m (view m w)) (test w) w.waits (lost-all m c u w s)

      bare : every (is_bare m drops (view m w)) (ending w) ≡ true
      bare = every-passing (is_known_wait m c u w) (test w) (is_bare m drops (view m w)) (λ x known on. unowned x known on drops refl (our_wait m x) refl) w.waits (known-waits m c u w s)
        where
          outside : (x : WaitRow) → is_fair_wait m c x ≡ true → is_connect x ≡ true → our_wait m x ≡ false → m x.process ≡ false
          outside x fair connect off = grind arith

          unowned : (x : WaitRow) → is_known_wait m c u w x ≡ true → test w x ≡ true → (a : Bool) → drops ≡ a → (o : Bool) → our_wait m x ≡ o → is_bare m drops (view m w) x ≡ true
          unowned x known on a is true ours = rw ours refl
          unowned x known on false is false off = rw (off, is) refl
          unowned x known on true is false off =
              let fair : is_fair_wait m c x ≡ true = first-true _ _ known in
              let out : m x.port.process ≡ false = port-side m x (first-true _ _ fair) ∙ outside x fair (e.connects is w x on) off in
              rw (off, is, unseen-owned m c w x.port s.fair out) refl

      at : (x : WaitRow) (o : Bool) → our_wait m x ≡ o → is_known_wait m c u w x ≡ true → is_unheard m c u d status fields x ≡ true
      at x true ours known = rw ours refl
      at x false off known =
          let owned : is_owned u x ≡ true = first-true (is_owned u x) _ (second-true (is_path w x) _ (second-true (is_fair_wait m c x) _ known)) in
          rw (off, wake-not-c m c u d x x.call status fields owned (not-mine x off (first-true _ _ known))) refl
        where
          not-mine : (x : WaitRow) → our_wait m x ≡ false → is_fair_wait m c x ≡ true → (x.process == c) ≡ false
          not-mine x off fair = false_from_ne_true (x.process == c) (λ is. let k : our_wait m x ≡ true = c-wait m c x s.c_in fair is in cc)

      unheard : every (is_unheard m c u d status fields) (ending w) ≡ true
      unheard = every-which (is_unheard m c u d status fields) (test w) w.waits (every-more (is_known_wait m c u w) (is_unheard m c u d status fields) (λ x known. at x (our_wait m x) refl known) w.waits (known-waits m c u w s))

  same : (u w : World) → Sure m c u w → b.process ≡ c → ends (view m w) ≡ ends w
  same u w s mine =
      let inside : m b.process ≡ true = ap m mine ∙ s.c_in in
      let all : every (our_wait m) (ending w) ≡ true = every-passing (is_known_wait m c u w) (test w) (our_wait m) (λ x known on. e.inside mine u w x s known on) w.waits (known-waits m c u w s) in
      ap (all_ended draws drops status fields) (seen u w s inside ∙ which-kept (our_wait m) (ending w) all)

  alike : (k : Alive) (u : World) → Closed k u → ends (thin k u) ≡ ends u
  alike k u closed = ap (all_ended draws drops status fields) (which-same (wait_closed k) (test (thin k u)) (test u) (λ x live. e.thinly k u x closed live) u.waits closed.waits)

  pub end-stage : Stage m c b (end_each test (ended draws drops status fields))
  end-stage = record {
    losses = λ w. losses-ended b draws drops status fields (ending w);
    good = record {
      mild = λ w. losses-mild b (ends w) (losses-ended b draws drops status fields (ending w));
      sent = λ w. losses-sent b w (ends w) (losses-ended b draws drops status fields (ending w));
      fair = λ u w s. losses-fair m c b w (ends w) (losses-ended b draws drops status fields (ending w));
      asked = λ u w s. ended-asked draws drops status fields (ending w) w (quiet u w s) s.asked;
      apart = λ u d w s out. ended-apart m c u d draws drops status fields (ending w) w s.owned s.fair (free u w s out) (outs u w s out);
      mute = λ u d w memo s n out. mute u d w memo s out;
      shown = λ u w s n side is. ended-shown m side draws drops status fields (ending w) w none (side-outs u w s side is);
      ours = λ u w s mine. losses-ours m b w (ends w) (ap m mine ∙ s.c_in) (losses-ended b draws drops status fields (ending w)) (unmarked-ended draws drops status fields (ending w));
      led = λ u d w s inside. led u d w s inside;
      same = λ u w s mine. same u w s mine;
      alike = λ k u closed live. alike k u closed;
      stands = λ k u closed live. closed-ended k draws drops status fields (ending u);
    };
  }
