-- Each turn of settling lowers a measure: the turns that events may still take, and the live processes.
use Rattle.std.proofs.Common.{◌≡◌, ◌∙◌, ℕ, ◌+◌, ◌*◌, ◌≤◌, List, [], ◌∷◌, ◌++◌, Bool, true, false, cond, not, map, Option, Some, refl, sym, ap, subst, arith}
use Rattle.std.specs.Prelude.{◌&&◌, ◌||◌, ◌==◌, ◌<◌}
use Rattle.std.proofs.lemmas.Bool.{eqb-true}
use Rattle.std.proofs.lemmas.Bool.Decides.{nat_tests}
use Rattle.lpc_base.specs.Rows.{change, count, every, first, has, which, without}
use Rattle.lpc_base.specs.declared.status.Status.{Status}
use Rattle.lpc_base.proofs.RowWords.{every-change, every-more, first-passes, has-change}
use Rattle.lpc_base.proofs.Bools.{first-true, second-true}
use Rattle.lpc_model.specs.World.{Chance, Event, FirstDebug, LastDebug, LastException, ProcessRow, Raised, ThreadRow, WaitRow, World}
use Rattle.lpc_model.specs.Found.{is_event, is_live, is_process, is_thread, live_threads, lives_in, wait_of, waits_as, waits_at}
use Rattle.lpc_model.specs.Basics.{Accepts, Acts, AddsHandle, AddsProcess, AddsThread, Awaits, Basic, Binds, Completes, Dies, Dooms, DrawsIdentifier, DrawsOrdinal, Frees, Joins, LetsGo, Makes, Receives, Registers, SetsDebug, SetsException, Unregisters, Wakes, Withdraws, basic, doing, doomed, ended, in_turn, left_by, past_identifier, portless, provided, received, unregistering, world_after, ◌▹◌}
use Rattle.lpc_model.specs.Entering.{enter, row_of}
use Rattle.lpc_model.specs.Tests.{client_of}
use Rattle.lpc_model.specs.Death.{end_client, die, end_process, end_threads, post_deaths}
use Rattle.lpc_model.specs.Raise.{Handled, Heard, Hearing, Next, Unhandled, behind_chance, event_message, event_wait, goes_on, raised_in, send_event}
use Rattle.lpc_model.specs.Settle.{live_processes, most_turns}
use Rattle.lpc_model.proofs.Steps.Closing.{behind, then-holds}
use Rattle.lpc_model.proofs.Steps.Ending.{AreEnding, die-ending, end-ending, ending-enter, is_ending}
use Rattle.lpc_model.proofs.Calls.Raising.{GoesOn, WhereHeard, behind-holds, heard-routed}
use Rattle.lpc_model.proofs.Sound.Worlds.{by_kind}
use Rattle.lpc_model.proofs.Steps.InTurn.{after-append}

-- The measure
-- how many turns an event may still take: three at the first chance of the debug port, one at the last chance of all
abbrev pub chance_turns : Chance → ℕ
chance_turns FirstDebug = 3
chance_turns LastDebug = 2
chance_turns LastException = 1

abbrev pub event_turns : WaitRow → ℕ
event_turns x = elim x.kind [
  | Event r ↦ chance_turns r.chance
  | _ ↦ 0
]

abbrev pub total : List WaitRow → ℕ
total [] = 0
total (x ∷ xs) = event_turns x + total xs

abbrev pub measure : World → ℕ
measure w = total w.waits + live_processes w

few-turns : (x : WaitRow) → event_turns x ≤ 3 * cond (is_event x) 1 0
few-turns = by_kind (λ x. event_turns x ≤ 3 * cond (is_event x) 1 0) (λ x m. omega arith) (λ x. omega arith) (λ x. omega arith) (λ x m. omega arith) (λ x m r. omega arith) (λ x r. at r.chance)
  where
    at : (c : Chance) → chance_turns c ≤ 3 * 1
    at FirstDebug = omega arith
    at LastDebug = omega arith
    at LastException = omega arith

count-cons : (x : WaitRow) (xs : List WaitRow) → count is_event (x ∷ xs) ≡ cond (is_event x) 1 0 + count is_event xs
count-cons x xs = grind arith

total-few : (xs : List WaitRow) → total xs ≤ 3 * count is_event xs
total-few [] = omega arith
total-few (x ∷ xs) = sum (event_turns x) (total xs) (cond (is_event x) 1 0) (count is_event xs) (count is_event (x ∷ xs)) (few-turns x) (total-few xs) (count-cons x xs)
  where
    sum : (a b c d e : ℕ) → a ≤ 3 * c → b ≤ 3 * d → e ≡ c + d → a + b ≤ 3 * e
    sum a b c d e one two same = omega (arith, one, two, same)

pub few : (w : World) → measure w ≤ most_turns w
few w = sum (total w.waits) (3 * count is_event w.waits) (live_processes w) (total-few w.waits)
  where
    sum : (a b c : ℕ) → a ≤ b → a + c ≤ b + c
    sum a b c one = omega (arith, one)

-- Steps by which something ends
total-without : (n : ℕ) (xs : List WaitRow) → total (without (waits_as n) xs) ≤ total xs
total-without n [] = omega arith
total-without n (x ∷ xs) = at (waits_as n x) refl (total-without n xs)
  where
    less : (a b c : ℕ) → a ≤ c → a ≤ b + c
    less a b c one = omega (arith, one)

    same : (a b c : ℕ) → a ≤ c → b + a ≤ b + c
    same a b c one = omega (arith, one)

    at : (c : Bool) → waits_as n x ≡ c → total (without (waits_as n) xs) ≤ total xs → total (without (waits_as n) (x ∷ xs)) ≤ total (x ∷ xs)
    at true is later = rw is (less (total (without (waits_as n) xs)) (event_turns x) (total xs) later)
    at false is later = rw is (same (total (without (waits_as n) xs)) (event_turns x) (total xs) later)

total-received : (n : ℕ) (q : Rattle.lpc_model.specs.World.Birth) (xs : List WaitRow) → total (change (waits_at n q) received xs) ≡ total xs
total-received n q [] = refl
total-received n q (x ∷ xs) = at (waits_at n q x) refl (total-received n q xs)
  where
    at : (c : Bool) → waits_at n q x ≡ c → total (change (waits_at n q) received xs) ≡ total xs → total (change (waits_at n q) received (x ∷ xs)) ≡ total (x ∷ xs)
    at true is later = rw is (ap (λ k. event_turns x + k) later)
    at false is later = rw is (ap (λ k. event_turns x + k) later)

-- what a world has that another one had
pub record IsLower (w v : World) : Type 0 where
  pub waits : total v.waits ≤ total w.waits
  pub numbers : map (λ p. p.number) v.processes ≡ map (λ p. p.number) w.processes
  pub live : (n : ℕ) → is_live v n ≡ true → is_live w n ≡ true

lower-none : (w : World) → IsLower w w
lower-none w = record { waits = omega arith; numbers = refl; live = λ n is. is }

lower-then : (w v u : World) → IsLower w v → IsLower v u → IsLower w u
lower-then w v u a b = record { waits = at-most _ _ _ b.waits a.waits; numbers = b.numbers ∙ a.numbers; live = λ n is. a.live n (b.live n is) }
  where
    at-most : (k n m : ℕ) → k ≤ n → n ≤ m → k ≤ m
    at-most k n m one two = omega (arith, one, two)

map-change : (t : ProcessRow → Bool) (f : ProcessRow → ProcessRow) (ps : List ProcessRow) → ((p : ProcessRow) → let q : ProcessRow = f p in q.number ≡ p.number) → map (λ p. p.number) (change t f ps) ≡ map (λ p. p.number) ps
map-change t f [] same = refl
map-change t f (p ∷ ps) same = at (t p) refl (map-change t f ps same)
  where
    at : (c : Bool) → t p ≡ c → map (λ p. p.number) (change t f ps) ≡ map (λ p. p.number) ps → map (λ p. p.number) (change t f (p ∷ ps)) ≡ map (λ p. p.number) (p ∷ ps)
    at true is later = let own = same p in grind (arith, is, later, own)
    at false is later = grind (arith, is, later)

dead-fewer : (who n : ℕ) (ts : List ThreadRow) → has (lives_in n) (change (is_thread who) ended ts) ≡ true → has (lives_in n) ts ≡ true
dead-fewer who n [] is = is
dead-fewer who n (t ∷ ts) is = grind (arith, dead-fewer who n ts)

lower-step : (w : World) (b : Basic) → is_ending b ≡ true → IsLower w (basic w b)
lower-step w (Wakes who call status fields) is = record { waits = total-without who w.waits; numbers = refl; live = λ n is. is }
lower-step w (Rattle.lpc_model.specs.Basics.Leaves who) is = record { waits = total-without who w.waits; numbers = refl; live = λ n is. is }
lower-step w (Dies who status) is = record { waits = total-without who w.waits; numbers = refl; live = λ n one. dead-fewer who n w.threads one }
lower-step w (Receives who queue) is = record { waits = rw (total-received who queue w.waits) (omega arith); numbers = refl; live = λ n is. is }
lower-step w (Unregisters who b) is = record { waits = omega arith; numbers = refl; live = λ n one. rw (sym (has-change (lives_in n) (is_thread who) (unregistering b) (λ t. refl) w.threads)) one }
lower-step w (LetsGo pid) is = record { waits = omega arith; numbers = map-change (is_process pid) portless w.processes (λ p. refl); live = λ n is. is }
lower-step w (Awaits x) is = absurd (cc)
lower-step w (Accepts who reply) is = absurd (cc)
lower-step w (DrawsIdentifier who) is = absurd (cc)
lower-step w (DrawsOrdinal who) is = absurd (cc)
lower-step w (Registers who b) is = absurd (cc)
lower-step w (AddsProcess p) is = absurd (cc)
lower-step w (AddsThread t) is = absurd (cc)
lower-step w (Makes p) is = absurd (cc)
lower-step w (Joins client server context) is = absurd (cc)
lower-step w (Completes b) is = absurd (cc)
lower-step w (Frees o) is = absurd (cc)
lower-step w (Binds path node) is = absurd (cc)
lower-step w (AddsHandle pid h) is = absurd (cc)
lower-step w (SetsDebug pid b) is = absurd (cc)
lower-step w (SetsException pid b) is = absurd (cc)
lower-step w (Dooms pid code) is = absurd (cc)
lower-step w (Acts who own) is = absurd (cc)
lower-step w b is = record { waits = omega arith; numbers = refl; live = λ n is. is }

pub lower-all : (w : World) (bs : List Basic) → AreEnding bs → IsLower w (world_after w bs)
lower-all w [] all = lower-none w
lower-all w (b ∷ bs) all = lower-then w (basic w b) (world_after (basic w b) bs) (lower-step w b (first-true (is_ending b) (every is_ending bs) all)) (lower-all (basic w b) bs (second-true (is_ending b) (every is_ending bs) all))

-- The threads of a process end
abbrev is_left : ℕ → List ThreadRow → ThreadRow → Bool
is_left pid ts u = not (lives_in pid u) || has (λ t. t.number == u.number) ts

left-step : (pid : ℕ) (ts : List ThreadRow) (w : World) (b : Basic) → is_ending b ≡ true → every (is_left pid ts) w.threads ≡ true → every (is_left pid ts) (basic w b).threads ≡ true
left-step pid ts w (Dies who status) is all = every-change (is_left pid ts) (is_thread who) ended (λ u one. dead u) w.threads all
  where
    dead : (u : ThreadRow) → is_left pid ts (ended u) ≡ true
    dead u = grind arith
left-step pid ts w (Unregisters who b) is all = every-change (is_left pid ts) (is_thread who) (unregistering b) (λ u one. one) w.threads all
left-step pid ts w (DrawsIdentifier who) is all = absurd (cc)
left-step pid ts w (DrawsOrdinal who) is all = absurd (cc)
left-step pid ts w (Registers who b) is all = absurd (cc)
left-step pid ts w (AddsThread t) is all = absurd (cc)
left-step pid ts w (Frees o) is all = absurd (cc)
left-step pid ts w (Acts who own) is all = absurd (cc)
left-step pid ts w b is all = all

left-all : (pid : ℕ) (ts : List ThreadRow) (w : World) (bs : List Basic) → AreEnding bs → every (is_left pid ts) w.threads ≡ true → every (is_left pid ts) (world_after w bs).threads ≡ true
left-all pid ts w [] end all = all
left-all pid ts w (b ∷ bs) end all = left-all pid ts (basic w b) bs (second-true (is_ending b) (every is_ending bs) end) (left-step pid ts w b (first-true (is_ending b) (every is_ending bs) end) all)

-- one of them fewer
dies-left : (pid : ℕ) (t : ThreadRow) (ts us : List ThreadRow) → every (is_left pid (t ∷ ts)) us ≡ true → every (is_left pid ts) (change (is_thread t.number) ended us) ≡ true
dies-left pid t ts [] all = refl
dies-left pid t ts (u ∷ us) all = grind (arith, nat_tests, dies-left pid t ts us)

die-left : (pid : ℕ) (code : Status) (t : ThreadRow) (ts : List ThreadRow) (w : World) → every (is_left pid (t ∷ ts)) w.threads ≡ true → every (is_left pid ts) (behind (die code t) w).threads ≡ true
die-left pid code t ts w all =
    let gone = world_after w (Dies t.number code ∷ Withdraws t.number ∷ []) in
    let rest = Withdraws t.number ∷ end_client (wait_of w t.number) gone in
    left-all pid ts (basic w (Dies t.number code)) rest (second-true true (every is_ending rest) (die-ending code t w)) (dies-left pid t ts w.threads all)

dead-left : (pid : ℕ) (code : Status) (ts : List ThreadRow) (w : World) → every (is_left pid ts) w.threads ≡ true → every (is_left pid []) (behind (in_turn (die code) ts) w).threads ≡ true
dead-left pid code [] w all = all
dead-left pid code (t ∷ ts) w all =
    then-holds (λ (v : World). every (is_left pid []) v.threads ≡ true) (die code t) (in_turn (die code) ts) w (dead-left pid code ts (behind (die code t) w) (die-left pid code t ts w all))

has-head : (u : ThreadRow) (ts : List ThreadRow) → has (λ t. t.number == u.number) (u ∷ ts) ≡ true
has-head u ts = grind (arith, nat_tests)

or-right : (a b : Bool) → b ≡ true → (a || b) ≡ true
or-right a b is = grind arith

and-both : (a b : Bool) → a ≡ true → b ≡ true → (a && b) ≡ true
and-both a b one two = grind arith

self-left : (pid : ℕ) (us : List ThreadRow) → every (is_left pid (which (lives_in pid) us)) us ≡ true
self-left pid [] = refl
self-left pid (u ∷ us) = at (lives_in pid u) refl (self-left pid us)
  where
    at : (c : Bool) → lives_in pid u ≡ c → every (is_left pid (which (lives_in pid) us)) us ≡ true → every (is_left pid (cond c (u ∷ which (lives_in pid) us) (which (lives_in pid) us))) (u ∷ us) ≡ true
    at true is later =
        let rest = every-more (is_left pid (which (lives_in pid) us)) (is_left pid (u ∷ which (lives_in pid) us)) (λ v one. grind arith) us later in
        and-both (is_left pid (u ∷ which (lives_in pid) us) u) (every (is_left pid (u ∷ which (lives_in pid) us)) us) (or-right (not (lives_in pid u)) _ (has-head u (which (lives_in pid) us))) rest
    at false is later = and-both (is_left pid (which (lives_in pid) us) u) (every (is_left pid (which (lives_in pid) us)) us) (rw is refl) later

none-live : (pid : ℕ) (us : List ThreadRow) → every (is_left pid []) us ≡ true → has (lives_in pid) us ≡ false
none-live pid [] all = refl
none-live pid (u ∷ us) all = grind (arith, none-live pid us)

pub ended-process : (w : World) (pid : ℕ) (code : Status) → is_live (behind (end_threads pid code (live_threads w pid)) w) pid ≡ false
unfolding end_threads
ended-process w pid code =
    let ts = live_threads w pid in
    let v = behind (in_turn (die code) ts) w in
    let all = end-ending pid code ts w in
    let rest = (in_turn post_deaths ts ▹ provided (λ w. not (is_live w pid)) (end_process pid)) v in
    let left = dead-left pid code ts w (self-left pid w.threads) in
    rw (after-append w (in_turn (die code) ts w) rest) (none-live pid _ (left-all pid [] v rest (every-back-of (in_turn (die code) ts w) rest all) left))
  where
    every-back-of : (xs ys : List Basic) → every is_ending (xs ++ ys) ≡ true → every is_ending ys ≡ true
    every-back-of [] ys all = all
    every-back-of (x ∷ xs) ys all = every-back-of xs ys (second-true (is_ending x) (every is_ending (xs ++ ys)) all)

-- fewer live processes
fewer : (f g : ℕ → Bool) (ns : List ℕ) → ((n : ℕ) → g n ≡ true → f n ≡ true) → count g ns ≤ count f ns
fewer f g [] more = omega arith
fewer f g (n ∷ ns) more = grind (arith, more n, fewer f g ns more)

one-fewer : (f g : ℕ → Bool) (ns : List ℕ) → ((n : ℕ) → g n ≡ true → f n ≡ true) → has (λ n. f n && not (g n)) ns ≡ true → count g ns < count f ns
one-fewer f g [] more one = absurd (cc)
one-fewer f g (n ∷ ns) more one = let rest = fewer f g ns more in grind (arith, more n, rest, one-fewer f g ns more)

pub lower-live : (w v : World) → IsLower w v → live_processes v ≤ live_processes w
lower-live w v l = rw l.numbers (fewer (is_live w) (is_live v) (map (λ p. p.number) w.processes) l.live)

-- An ending is lower
has-number : (p : ProcessRow) (ps : List ProcessRow) (f : ℕ → Bool) → has (λ q. f q.number) ps ≡ true → has f (map (λ q. q.number) ps) ≡ true
has-number p [] f is = absurd (cc)
has-number p (q ∷ qs) f is = grind (arith, has-number p qs f)

pub ending-lower : (w : World) (pid : ℕ) (code : Status) → has (λ p. p.number == pid) w.processes ≡ true → is_live w pid ≡ true → measure (behind (end_threads pid code (live_threads w pid)) w) < measure w
ending-lower w pid code stands lives =
    let v = behind (end_threads pid code (live_threads w pid)) w in
    let l = lower-all w (end_threads pid code (live_threads w pid) w) (end-ending pid code (live_threads w pid) w) in
    let dead = ended-process w pid code in
    let one = has-more (map (λ p. p.number) w.processes) (is_live w) (is_live v) pid lives dead (has-numbers w.processes stands) in
    let less : live_processes v < live_processes w = rw l.numbers (one-fewer (is_live w) (is_live v) (map (λ p. p.number) w.processes) l.live one) in
    sum (total v.waits) (total w.waits) (live_processes v) (live_processes w) l.waits less
  where
    sum : (a b c d : ℕ) → a ≤ b → c < d → a + c < b + d
    sum a b c d one two = omega (arith, one, two)

    has-numbers : (ps : List ProcessRow) → has (λ p. p.number == pid) ps ≡ true → has (λ n. n == pid) (map (λ p. p.number) ps) ≡ true
    has-numbers [] is = absurd (cc)
    has-numbers (p ∷ ps) is = grind (arith, has-numbers ps)

    has-more : (ns : List ℕ) (f g : ℕ → Bool) (pid : ℕ) → f pid ≡ true → g pid ≡ false → has (λ n. n == pid) ns ≡ true → has (λ n. f n && not (g n)) ns ≡ true
    has-more [] f g pid one two is = absurd (cc)
    has-more (n ∷ ns) f g pid one two is = at (n == pid) refl (has-more ns f g pid one two)
      where
        at : (c : Bool) → (n == pid) ≡ c → (has (λ n. n == pid) ns ≡ true → has (λ n. f n && not (g n)) ns ≡ true) → has (λ n. f n && not (g n)) (n ∷ ns) ≡ true
        at true same later = let own : n ≡ pid = eqb-true n pid same in rw own (grind (arith, one, two))
        at false other later = let rest = later (grind (arith, is, other)) in grind (arith, rest)

-- A marked event that goes on
total-first : (n : ℕ) (x : WaitRow) (xs : List WaitRow) → first (waits_as n) xs ≡ Some x → total (without (waits_as n) xs) + event_turns x ≤ total xs
total-first n x [] found = absurd (cc)
total-first n x (y ∷ ys) found = at (waits_as n y) refl (total-first n x ys)
  where
    head : (a b c : ℕ) → a ≤ c → a + b ≤ b + c
    head a b c one = omega (arith, one)

    tail : (a b c d : ℕ) → a + b ≤ c → (d + a) + b ≤ d + c
    tail a b c d one = omega (arith, one)

    at : (c : Bool) → waits_as n y ≡ c → (first (waits_as n) ys ≡ Some x → total (without (waits_as n) ys) + event_turns x ≤ total ys) → total (without (waits_as n) (y ∷ ys)) + event_turns x ≤ total (y ∷ ys)
    at true is later =
        let same : y ≡ x = some-same y x (rw is at found) in
        subst (λ z. total (without (waits_as n) (y ∷ ys)) + event_turns z ≤ total (y ∷ ys)) same (rw is (head (total (without (waits_as n) ys)) (event_turns y) (total ys) (total-without n ys)))
      where
        some-same : (a b : WaitRow) → (let o : Option WaitRow = Some a in o ≡ Some b) → a ≡ b
        some-same a b one = cc
    at false is later = rw is (tail (total (without (waits_as n) ys)) (event_turns x) (total ys) (event_turns y) (later (rw is at found)))

total-push : (xs : List WaitRow) (x : WaitRow) → total (xs ++ x ∷ []) ≡ total xs + event_turns x
total-push [] x = omega arith
total-push (y ∷ ys) x = sum (event_turns y) (total (ys ++ x ∷ [])) (total ys) (event_turns x) (total-push ys x)
  where
    sum : (a b c d : ℕ) → b ≡ c + d → a + b ≡ (a + c) + d
    sum a b c d one = omega (arith, one)

raised-turns : (x : WaitRow) (r : Raised) → raised_in x ≡ Some r → event_turns x ≡ chance_turns r.chance
raised-turns x r is = by_kind (λ x. raised_in x ≡ Some r → event_turns x ≡ chance_turns r.chance) (λ x m is. absurd (cc)) (λ x is. absurd (cc)) (λ x is. absurd (cc)) (λ x m offer is. absurd (cc)) (λ x m reply is. absurd (cc)) (λ x q is. let same : q ≡ r = some-same q r is in ap (λ (p : Raised). chance_turns p.chance) same) x is
  where
    some-same : (a b : Raised) → (let o : Option Raised = Some a in o ≡ Some b) → a ≡ b
    some-same a b one = cc

some-turns : (c : Chance) → 1 ≤ chance_turns c
some-turns FirstDebug = omega arith
some-turns LastDebug = omega arith
some-turns LastException = omega arith

same-live : (w v : World) → map (λ p. p.number) v.processes ≡ map (λ p. p.number) w.processes → ((n : ℕ) → is_live v n ≡ true → is_live w n ≡ true) → live_processes v ≤ live_processes w
same-live w v numbers live = rw numbers (fewer (is_live w) (is_live v) (map (λ p. p.number) w.processes) live)

-- a later chance has fewer turns
later-turns : (w : World) (pid : ℕ) (handled : Bool) (c : Chance) → WhereHeard (λ h. chance_turns h.chance < chance_turns c) (behind_chance w pid handled c)
later-turns w pid handled c =
    behind-holds (λ h. chance_turns h.chance < chance_turns c) w pid handled c
    (λ h first is. let heard = heard-routed w pid LastDebug h is in rw (first, heard.own_chance) (omega arith))
    (λ h first is. let heard = heard-routed w pid LastException h is in rw (first, heard.own_chance) (omega arith))
    (λ h last is. let heard = heard-routed w pid LastException h is in rw (last, heard.own_chance) (omega arith))

pub on-lower : (w : World) (tid : ℕ) (t : ThreadRow) (x : WaitRow) (r : Raised) → GoesOn w tid t x r → measure (world_after w (goes_on t x r (behind_chance w x.process r.handled r.chance) w)) < measure w
on-lower w tid t x r g = at (behind_chance w x.process r.handled r.chance) (later-turns w x.process r.handled r.chance)
  where
    thread : x.thread ≡ tid
    thread = eqb-true x.thread tid (first-passes (waits_as tid) w.waits x g.waits)

    found : first (waits_as x.thread) w.waits ≡ Some x
    found = subst (λ n. first (waits_as n) w.waits ≡ Some x) (sym thread) g.waits

    turns : event_turns x ≡ chance_turns r.chance
    turns = raised-turns x r g.raised

    gone : total (without (waits_as x.thread) w.waits) + event_turns x ≤ total w.waits
    gone = total-first x.thread x w.waits found

    less : (v : World) → v.waits ≡ without (waits_as x.thread) w.waits → live_processes v ≤ live_processes w → measure v < measure w
    less v waits live = rw waits (sum (total (without (waits_as x.thread) w.waits)) (event_turns x) (chance_turns r.chance) (total w.waits) (live_processes v) (live_processes w) gone turns (some-turns r.chance) live)
      where
        sum : (a b c d e f : ℕ) → a + b ≤ d → b ≡ c → 1 ≤ c → e ≤ f → a + e < d + f
        sum a b c d e f one two three four = omega (arith, one, two, three, four)

    sends : (h : Hearing) → chance_turns h.chance < chance_turns r.chance → measure (world_after (left_by x.thread w) (send_event t r.code r.handled h (left_by x.thread w))) < measure w
    sends h later =
        let y = event_wait t r.code r.handled h in
        let row = row_of h.queue h.port (event_message (client_of t) t.next_identifier r.code h.chance) in
        let v : World = basic (basic (left_by x.thread w) (DrawsIdentifier t.number)) (Awaits y) in
        let l = lower-all v (enter row v) (ending-enter row v) in
        let live = same-live w v refl (λ n one. rw (sym (has-change (lives_in n) (is_thread t.number) past_identifier (λ u. refl) w.threads)) one) in
        sum (total (without (waits_as x.thread) w.waits)) (event_turns x) (chance_turns r.chance) (total w.waits) (chance_turns h.chance) (total v.waits) (total (world_after v (enter row v)).waits) (live_processes (world_after v (enter row v))) (live_processes v) (live_processes w)
        gone turns later (total-push (without (waits_as x.thread) w.waits) y) l.waits (lower-live v (world_after v (enter row v)) l) live
      where
        sum : (a b c d k m o e f g : ℕ) → a + b ≤ d → b ≡ c → k < c → m ≡ a + k → o ≤ m → e ≤ f → f ≤ g → o + e < d + g
        sum a b c d k m o e f g one two three four five six seven = omega (arith, one, two, three, four, five, six, seven)

    at : (n : Next) → WhereHeard (λ h. chance_turns h.chance < chance_turns r.chance) n → measure (world_after w (goes_on t x r n w)) < measure w
    at Handled is = less (left_by x.thread w) refl (omega arith)
    at (Heard h) is = sends h is
    at Unhandled is = less (basic (left_by x.thread w) (Dooms x.process r.code)) refl (same-live w (basic (left_by x.thread w) (Dooms x.process r.code)) (map-change (is_process x.process) (doomed r.code) w.processes (λ p. refl)) (λ n one. one))
