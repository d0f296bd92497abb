-- A thread ends with its wait and its message: what ends behind it ends as it does before.
use Rattle.std.proofs.Common.{◌≡◌, ◌∙◌, ℕ, List, [], ◌∷◌, ◌++◌, Bool, true, false, not, refl, sym, ap, arith}
use Rattle.std.specs.Prelude.{◌||◌, ◌==◌}
use Rattle.std.proofs.lemmas.Bool.Decides.{nat_tests}
use Rattle.lpc_base.specs.Rows.{change, each, every, has, which, without}
use Rattle.lpc_base.specs.declared.status.Status.{Status}
use Rattle.lpc_base.specs.declared.status.TheConstants.{LPC_REPLY_LOST, PORT_DISCONNECTED}
use Rattle.lpc_base.proofs.RowWords.{which-without}
use Rattle.lpc_model.specs.World.{Birth, MessageRow, ThreadRow, ViewTable, WaitRow, World}
use Rattle.lpc_model.specs.Found.{is_own_of, is_thread, waits_as, is_event, is_mark}
use Rattle.lpc_model.specs.Basics.{Cuts, Steps, basic, doing, end_each, ended, world_after, ◌▹◌}
use Rattle.lpc_model.specs.Close.{cut_pair, end_accepted, end_request, is_accepted_across, is_receive_across, is_request_across, wake, is_event_across, mark_event}
use Rattle.lpc_model.proofs.Steps.Closing.{behind, then-holds}
use Rattle.lpc_model.proofs.Sound.Cuts.{disowned, ended-world, rest, rest_marks}
use Rattle.std.proofs.lemmas.Bool.{eqb-true}

-- Rows that go by two tests
pub without-swap : {X : Type 0} (p q : X → Bool) (xs : List X) → without p (without q xs) ≡ without q (without p xs)
without-swap p q [] = refl
without-swap p q (x ∷ xs) = grind (arith, without-swap p q xs)

pub without-again : {X : Type 0} (p : X → Bool) (xs : List X) → without p (without p xs) ≡ without p xs
without-again p [] = refl
without-again p (x ∷ xs) = grind (arith, without-again p xs)

which-apart : {X : Type 0} (t p : X → Bool) (xs : List X) → every (λ x. not (p x) || not (t x)) xs ≡ true → which t (without p xs) ≡ which t xs
which-apart t p [] apart = refl
which-apart t p (x ∷ xs) apart = grind (arith, which-apart t p xs)

-- The world without a thread
abbrev pub gone : ℕ → World → World
gone n w = record w {
  threads = change (is_thread n) ended w.threads;
  waits = without (waits_as n) w.waits;
  messages = without (is_own_of n) w.messages;
  marks = without (is_mark n) w.marks;
}

gone-same : (w : World) (xs ys : List WaitRow) (ms ns : List MessageRow) (is js : List ℕ) (ts : List ThreadRow) → xs ≡ ys → ms ≡ ns → is ≡ js
    → let v : World = record w { threads = ts; waits = xs; messages = ms; marks = is } in let u : World = record w { threads = ts; waits = ys; messages = ns; marks = js } in v ≡ u
gone-same w xs ys ms ns is js ts one two three = rw (one, two, three) refl

-- what ends behind it ends as it does before
gone-request : (status : Status) (n : ℕ) (xs : List WaitRow) (w : World) → world_after (gone n w) (each (end_request status) xs) ≡ gone n (world_after w (each (end_request status) xs))
gone-request status n [] w = refl
gone-request status n (x ∷ xs) w =
    ap (λ v. world_after v (each (end_request status) xs)) (gone-same w _ _ _ _ _ _ (change (is_thread n) ended w.threads) (without-swap (waits_as x.thread) (waits_as n) w.waits) (without-swap (is_own_of x.thread) (is_own_of n) w.messages) (without-swap (is_mark x.thread) (is_mark n) w.marks))
    ∙ gone-request status n xs (world_after w (end_request status x))

gone-wake : (status : Status) (n : ℕ) (xs : List WaitRow) (w : World) → world_after (gone n w) (each (wake status) xs) ≡ gone n (world_after w (each (wake status) xs))
gone-wake status n [] w = refl
gone-wake status n (x ∷ xs) w =
    ap (λ v. world_after v (each (wake status) xs)) (gone-same w _ _ (without (is_own_of n) w.messages) _ _ _ (change (is_thread n) ended w.threads) (without-swap (waits_as x.thread) (waits_as n) w.waits) refl (without-swap (is_mark x.thread) (is_mark n) w.marks))
    ∙ gone-wake status n xs (world_after w (wake status x))

-- events that are marked too, but for its own
without-pushed : {X : Type 0} (p : X → Bool) (xs : List X) (y : X) → p y ≡ false → without p (xs ++ y ∷ []) ≡ without p xs ++ y ∷ []
without-pushed p [] y off = grind (arith, off)
without-pushed p (x ∷ xs) y off = grind (arith, without-pushed p xs y off)

gone-marks : (n : ℕ) (xs : List WaitRow) (w : World) → every (λ x. not (waits_as n x)) xs ≡ true → world_after (gone n w) (each mark_event xs) ≡ gone n (world_after w (each mark_event xs))
gone-marks n [] w off = refl
gone-marks n (x ∷ xs) w off =
    let here : is_mark n x.thread ≡ false = grind arith in
    let later : every (λ x. not (waits_as n x)) xs ≡ true = grind arith in
    ap (λ v. world_after v (each mark_event xs)) (gone-same w _ _ _ _ _ _ (change (is_thread n) ended w.threads) refl (without-swap (is_own_of x.thread) (is_own_of n) w.messages) (sym (without-pushed (is_mark n) w.marks x.thread here)))
    ∙ gone-marks n xs (world_after w (mark_event x)) later

other-marks : (n tid : ℕ) (ns : List ℕ) → (tid == n) ≡ false → has (is_mark tid) (without (is_mark n) ns) ≡ has (is_mark tid) ns
other-marks n tid [] off = refl
other-marks n tid (m ∷ ms) off = grind (arith, nat_tests, other-marks n tid ms off)

abbrev pub is_eventless : ℕ → WaitRow → Bool
is_eventless n z = not (waits_as n z) || not (is_event z)

across-same : (n : ℕ) (b : Birth) (w : World) (zs : List WaitRow) → every (is_eventless n) zs ≡ true → which (is_event_across b (gone n w)) (without (waits_as n) zs) ≡ which (is_event_across b w) zs
across-same n b w [] all = refl
across-same n b w (z ∷ zs) all = at (waits_as n z) refl (across-same n b w zs (grind arith))
  where
    at : (a : Bool) → waits_as n z ≡ a → which (is_event_across b (gone n w)) (without (waits_as n) zs) ≡ which (is_event_across b w) zs → which (is_event_across b (gone n w)) (without (waits_as n) (z ∷ zs)) ≡ which (is_event_across b w) (z ∷ zs)
    at true same later = let none : is_event z ≡ false = grind arith in grind (arith, later)
    at false other later = let alike = other-marks n z.thread w.marks other in grind (arith, later, alike)

none-own : (n : ℕ) (t : WaitRow → Bool) (zs : List WaitRow) → ((z : WaitRow) → t z ≡ true → is_event z ≡ true) → every (is_eventless n) zs ≡ true → every (λ x. not (waits_as n x)) (which t zs) ≡ true
none-own n t [] events all = refl
none-own n t (z ∷ zs) events all = grind (arith, events z, none-own n t zs)

gone-events : (n : ℕ) (b : Birth) (w : World) → every (is_eventless n) w.waits ≡ true → behind (end_each (is_event_across b) mark_event) (gone n w) ≡ gone n (behind (end_each (is_event_across b) mark_event) w)
gone-events n b w none =
    ap (λ xs. world_after (gone n w) (each mark_event xs)) (across-same n b w w.waits none)
    ∙ gone-marks n (which (is_event_across b w) w.waits) w (none-own n (is_event_across b w) w.waits (λ z is. grind arith) none)

-- connects that end too
rest-less : (n : ℕ) (xs ws : List WaitRow) → rest (without (waits_as n) xs) (without (waits_as n) ws) ≡ without (waits_as n) (rest xs ws)
rest-less n [] ws = refl
rest-less n (x ∷ xs) ws = at (waits_as n x) refl (rest-less n xs)
  where
    same-thread : waits_as n x ≡ true → without (waits_as x.thread) ws ≡ without (waits_as n) ws
    same-thread is = ap (λ m. without (waits_as m) ws) (eqb-true x.thread n is)

    at : (a : Bool) → waits_as n x ≡ a → ((vs : List WaitRow) → rest (without (waits_as n) xs) (without (waits_as n) vs) ≡ without (waits_as n) (rest xs vs)) → rest (without (waits_as n) (x ∷ xs)) (without (waits_as n) ws) ≡ without (waits_as n) (rest (x ∷ xs) ws)
    at true is later =
        rw is (ap (λ vs. rest (without (waits_as n) xs) vs) (sym (without-again (waits_as n) ws)) ∙ (later (without (waits_as n) ws) ∙ ap (λ vs. without (waits_as n) (rest xs vs)) (sym (same-thread is))))
    at false is later =
        rw is (ap (λ vs. rest (without (waits_as n) xs) vs) (without-swap (waits_as x.thread) (waits_as n) ws) ∙ later (without (waits_as x.thread) ws))

-- the tables of views, without those of the client ports of the other threads
abbrev pub others_left : ℕ → Birth → World → List ViewTable
others_left n b w = disowned (which (is_accepted_across b w) (without (waits_as n) w.waits)) w.views

-- a world with other tables of views
abbrev pub showing : List ViewTable → World → World
showing views w = record w { views = views }

marks-less : (n : ℕ) (xs : List WaitRow) (ns : List ℕ) → rest_marks (without (waits_as n) xs) (without (is_mark n) ns) ≡ without (is_mark n) (rest_marks xs ns)
marks-less n [] ns = refl
marks-less n (x ∷ xs) ns = at (waits_as n x) refl (marks-less n xs)
  where
    same-thread : waits_as n x ≡ true → without (is_mark x.thread) ns ≡ without (is_mark n) ns
    same-thread is = ap (λ m. without (is_mark m) ns) (eqb-true x.thread n is)

    at : (a : Bool) → waits_as n x ≡ a → ((ms : List ℕ) → rest_marks (without (waits_as n) xs) (without (is_mark n) ms) ≡ without (is_mark n) (rest_marks xs ms)) → rest_marks (without (waits_as n) (x ∷ xs)) (without (is_mark n) ns) ≡ without (is_mark n) (rest_marks (x ∷ xs) ns)
    at true is later =
        rw is (ap (λ vs. rest_marks (without (waits_as n) xs) vs) (sym (without-again (is_mark n) ns)) ∙ (later (without (is_mark n) ns) ∙ ap (λ vs. without (is_mark n) (rest_marks xs vs)) (sym (same-thread is))))
    at false is later =
        rw is (ap (λ vs. rest_marks (without (waits_as n) xs) vs) (without-swap (is_mark x.thread) (is_mark n) ns) ∙ later (without (is_mark x.thread) ns))

gone-accepted : (n : ℕ) (b : Birth) (w : World) → behind (end_each (is_accepted_across b) end_accepted) (gone n w) ≡ showing (others_left n b w) (gone n (behind (end_each (is_accepted_across b) end_accepted) w))
gone-accepted n b w =
    let xs = which (is_accepted_across b w) w.waits in
    ended-world (which (is_accepted_across b w) (without (waits_as n) w.waits)) (gone n w)
    ∙ (ap (showing (others_left n b w)) (gone-same w _ _ (without (is_own_of n) w.messages) _ _ _ (change (is_thread n) ended w.threads) (ap (λ vs. rest vs (without (waits_as n) w.waits)) (which-without (is_accepted_across b w) (waits_as n) w.waits) ∙ rest-less n xs w.waits) refl (ap (λ vs. rest_marks vs (without (is_mark n) w.marks)) (which-without (is_accepted_across b w) (waits_as n) w.waits) ∙ marks-less n xs w.marks))
    ∙ ap (λ v. showing (others_left n b w) (gone n v)) (sym (ended-world xs w)))

-- so a connection is cut behind it as before it
abbrev pub asked_across : Birth → World → World
asked_across b w = behind (end_each (is_request_across b) (end_request LPC_REPLY_LOST)) w

abbrev pub marked_across : Birth → World → World
marked_across b w = behind (end_each (is_event_across b) mark_event) (asked_across b w)

abbrev pub received_across : Birth → World → World
received_across b w = behind (end_each (is_receive_across b) (wake PORT_DISCONNECTED)) (marked_across b w)

abbrev pub accepted_across : Birth → World → World
accepted_across b w = behind (end_each (is_accepted_across b) end_accepted) (received_across b w)

pub cut-parts : (b : Birth) (w : World) → behind (cut_pair b) w ≡ basic (accepted_across b w) (Cuts b)
cut-parts b w =
    let P : World → Type 0 = λ u. u ≡ basic (accepted_across b w) (Cuts b) in
    let requests : Steps = end_each (is_request_across b) (end_request LPC_REPLY_LOST) in
    let receives : Steps = end_each (is_receive_across b) (wake PORT_DISCONNECTED) in
    let accepts : Steps = end_each (is_accepted_across b) end_accepted in
    let last : Steps = doing (Cuts b ∷ []) in
    let events : Steps = end_each (is_event_across b) mark_event in
    then-holds P requests (events ▹ (receives ▹ (accepts ▹ last))) w
    (then-holds P events (receives ▹ (accepts ▹ last)) (asked_across b w)
    (then-holds P receives (accepts ▹ last) (marked_across b w)
    (then-holds P accepts last (received_across b w) refl)))

pub gone-cut : (n : ℕ) (b : Birth) (w : World) → every (λ z. not (waits_as n z) || not (is_request_across b w z)) w.waits ≡ true → every (is_eventless n) (asked_across b w).waits ≡ true → every (λ z. not (waits_as n z) || not (is_receive_across b (marked_across b w) z)) (marked_across b w).waits ≡ true
    → behind (cut_pair b) (gone n w) ≡ showing (others_left n b (received_across b w)) (gone n (behind (cut_pair b) w))
gone-cut n b w one none two =
    let v = asked_across b w in
    let t = marked_across b w in
    let first = ap (λ xs. world_after (gone n w) (each (end_request LPC_REPLY_LOST) xs)) (which-apart (is_request_across b w) (waits_as n) w.waits one) ∙ gone-request LPC_REPLY_LOST n (which (is_request_across b w) w.waits) w in
    let events = gone-events n b v none in
    let second = ap (λ xs. world_after (gone n t) (each (wake PORT_DISCONNECTED) xs)) (which-apart (is_receive_across b t) (waits_as n) t.waits two) ∙ gone-wake PORT_DISCONNECTED n (which (is_receive_across b t) t.waits) t in
    cut-parts b (gone n w)
    ∙ (ap (λ u. basic (behind (end_each (is_accepted_across b) end_accepted) (behind (end_each (is_receive_across b) (wake PORT_DISCONNECTED)) (behind (end_each (is_event_across b) mark_event) u))) (Cuts b)) first
    ∙ (ap (λ u. basic (behind (end_each (is_accepted_across b) end_accepted) (behind (end_each (is_receive_across b) (wake PORT_DISCONNECTED)) u)) (Cuts b)) events
    ∙ (ap (λ u. basic (behind (end_each (is_accepted_across b) end_accepted) u) (Cuts b)) second
    ∙ (ap (λ u. basic u (Cuts b)) (gone-accepted n b (received_across b w))
    ∙ ap (λ v. showing (others_left n b (received_across b w)) (gone n v)) (sym (cut-parts b w))))))
