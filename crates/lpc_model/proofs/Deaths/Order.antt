-- The order of a line in which threads end: they end, then their registrations go and are told of, and then handles go.
use Rattle.std.proofs.Common.{Bool, List, None, Option, Some, [], ap, arith, false, not, refl, subst, sym, true, ℕ, ◌++◌, ◌∙◌, ◌∷◌, ◌≡◌}
use Rattle.std.specs.Prelude.{nat_le, ◌==◌}
use Rattle.std.proofs.lemmas.Bool.Decides.{nat_tests}
use Rattle.std.proofs.lemmas.Bool.{and_from}
use Rattle.lpc_base.specs.Rows.{each, every, given, when, which}
use Rattle.lpc_base.specs.declared.status.Status.{Status}
use Rattle.lpc_base.specs.declared.status.TheConstants.{LPC_REPLY_LOST, PORT_DISCONNECTED}
use Rattle.lpc_base.proofs.RowWords.{every-append, every-more}
use Rattle.lpc_model.specs.World.{Birth, MessageRow, ThreadRow, WaitRow, World}
use Rattle.lpc_model.specs.Found.{is_accepted, is_connect, wait_of}
use Rattle.lpc_model.specs.Basics.{Basic, Cuts, Dies, DropsHandle, DropsOwned, DropsViewsOf, Enters, Receives, Steps, Takes, TakesConnect, Unbinds, Unregisters, Wakes, Withdraws, basic, end_each, in_turn, world_after}
use Rattle.lpc_model.specs.Entering.{enter}
use Rattle.lpc_model.specs.Close.{cut_pair, end_accepted, end_request, is_accepted_across, is_receive_across, is_request_across, wake, is_event_across, mark_event}
use Rattle.lpc_model.specs.Death.{end_client, die, post_death, post_deaths, death_post}
use Rattle.lpc_model.specs.Deaths.{is_died_post, rank_of, rises}
use Rattle.lpc_model.proofs.Steps.Closing.{behind}
use Rattle.lpc_model.proofs.Steps.Ending.{turn-pass}
use Rattle.lpc_model.proofs.Deaths.Deathless.{AreDeathless, is_deathless}
use Rattle.lpc_model.proofs.Calls.Taking.{is_taking, taken_at_once, taking-entered}

-- Ranks that rise
alike-rise : (k : ℕ) (ns : List ℕ) → every (λ n. n == k) ns ≡ true → rises ns ≡ true
alike-rise k [] all = refl
alike-rise k (n ∷ ns) all = grind (arith, nat_tests, alike-rise k ns, least k n ns)
  where
    least : (k n : ℕ) (ns : List ℕ) → (n == k) ≡ true → every (λ n. n == k) ns ≡ true → every (nat_le n) ns ≡ true
    least k n ns is all = every-more (λ m. m == k) (nat_le n) (λ m same. grind (arith, nat_tests)) ns all

both-rise : (k : ℕ) (ns ms : List ℕ) → every (λ n. nat_le n k) ns ≡ true → every (nat_le k) ms ≡ true → rises ns ≡ true → rises ms ≡ true → rises (ns ++ ms) ≡ true
both-rise k [] ms low high one two = two
both-rise k (n ∷ ns) ms low high one two = and_from _ _ (every-append (nat_le n) ns ms here above) (both-rise k ns ms later high rest two)
  where
    here : every (nat_le n) ns ≡ true
    here = grind arith

    rest : rises ns ≡ true
    rest = grind arith

    later : every (λ n. nat_le n k) ns ≡ true
    later = grind arith

    least : nat_le n k ≡ true
    least = grind arith

    above : every (nat_le n) ms ≡ true
    above = every-more (nat_le k) (nat_le n) (λ m more. grind (arith, nat_tests, least)) ms high

-- Ranks of steps
ranks-both : (xs ys : List Basic) → each rank_of (xs ++ ys) ≡ each rank_of xs ++ each rank_of ys
ranks-both [] ys = refl
ranks-both (x ∷ xs) ys = ap (λ ns. rank_of x ++ ns) (ranks-both xs ys) ∙ sym (assoc (rank_of x))
  where
    assoc : (ns : List ℕ) → (ns ++ each rank_of xs) ++ each rank_of ys ≡ ns ++ (each rank_of xs ++ each rank_of ys)
    assoc [] = refl
    assoc (n ∷ ns) = grind (arith, assoc ns)

-- a step has no other rank
abbrev pub has_rank : ℕ → Basic → Bool
has_rank k b = every (λ n. n == k) (rank_of b)

ranked : (k : ℕ) (bs : List Basic) → every (has_rank k) bs ≡ true → every (λ n. n == k) (each rank_of bs) ≡ true
ranked k [] all = refl
ranked k (b ∷ bs) all = every-append (λ n. n == k) (rank_of b) (each rank_of bs) (grind arith) (ranked k bs (grind arith))

highest : (bs : List Basic) → every (λ n. nat_le n 2) (each rank_of bs) ≡ true
highest [] = refl
highest (b ∷ bs) = every-append (λ n. nat_le n 2) (rank_of b) (each rank_of bs) (of b) (highest bs)
  where
    posts : (died : Bool) → every (λ n. nat_le n 2) (when died (1 ∷ [])) ≡ true
    posts true = refl
    posts false = refl

    of : (b : Basic) → every (λ n. nat_le n 2) (rank_of b) ≡ true
    of (Enters m) = posts (is_died_post m)
    of (Dies who status) = refl
    of (Unregisters who p) = refl
    of (Unbinds p) = refl
    of (DropsHandle pid value) = refl
    of (DropsViewsOf pid) = refl
    of b = refl

-- no step that tells of no end has a lower rank than the last
deathless-rank : (b : Basic) → is_deathless b ≡ true → has_rank 2 b ≡ true
deathless-rank (Enters m) is = at (is_died_post m) is
  where
    at : (died : Bool) → not died ≡ true → every (λ n. n == 2) (when died (1 ∷ [])) ≡ true
    at true is = absurd (cc)
    at false is = refl
deathless-rank (Dies who status) is = absurd (cc)
deathless-rank (Unregisters who b) is = absurd (cc)
deathless-rank b is = refl

last-ranks : (bs : List Basic) → AreDeathless bs → every (λ n. n == 2) (each rank_of bs) ≡ true
last-ranks bs all = ranked 2 bs (every-more is_deathless (has_rank 2) deathless-rank bs all)

pub deathless-order : (bs : List Basic) → AreDeathless bs → rises (each rank_of bs) ≡ true
deathless-order bs all = alike-rise 2 (each rank_of bs) (last-ranks bs all)

-- and so such steps may stand behind any others
pub order-behind : (xs ys : List Basic) → rises (each rank_of xs) ≡ true → AreDeathless ys → rises (each rank_of (xs ++ ys)) ≡ true
order-behind xs ys order all =
    subst (λ ns. rises ns ≡ true) (sym (ranks-both xs ys))
    (both-rise 2 (each rank_of xs) (each rank_of ys) (highest xs) (every-more (λ n. n == 2) (nat_le 2) (λ n is. grind (arith, nat_tests)) (each rank_of ys) (last-ranks ys all)) order (deathless-order ys all))

-- Threads that end
ends-rank : (ending : WaitRow → List Basic) → ((x : WaitRow) → every (has_rank 0) (ending x) ≡ true) → (xs : List WaitRow) → every (has_rank 0) (each ending xs) ≡ true
ends-rank ending all [] = refl
ends-rank ending all (x ∷ xs) = every-append (has_rank 0) (ending x) (each ending xs) (all x) (ends-rank ending all xs)

cut-rank : (b : Birth) (w : World) → every (has_rank 0) (cut_pair b w) ≡ true
cut-rank b w =
    let requests : Steps = end_each (is_request_across b) (end_request LPC_REPLY_LOST) in
    let receives : Steps = end_each (is_receive_across b) (wake PORT_DISCONNECTED) in
    let accepts : Steps = end_each (is_accepted_across b) end_accepted in
    let events : Steps = end_each (is_event_across b) mark_event in
    let t = behind requests w in
    let v = behind events t in
    let u = behind receives v in
    every-append (has_rank 0) (requests w) _ (ends-rank (end_request LPC_REPLY_LOST) (λ x. refl) (which (is_request_across b w) w.waits))
    (every-append (has_rank 0) (events t) _ (ends-rank mark_event (λ x. refl) (which (is_event_across b t) t.waits))
    (every-append (has_rank 0) (receives v) _ (ends-rank (wake PORT_DISCONNECTED) (λ x. refl) (which (is_receive_across b v) v.waits))
    (every-append (has_rank 0) (accepts u) (Cuts b ∷ []) (ends-rank end_accepted (λ x. refl) (which (is_accepted_across b u) u.waits)) refl)))

accepted-rank : (o : Option WaitRow) (w : World) → every (has_rank 0) (end_client o w) ≡ true
accepted-rank None w = refl
accepted-rank (Some x) w = every-append (has_rank 0) (when (is_accepted x) (cut_pair x.port w)) _ (at (is_accepted x)) (own (is_connect x))
  where
    at : (a : Bool) → every (has_rank 0) (when a (cut_pair x.port w)) ≡ true
    at true = cut-rank x.port w
    at false = refl

    own : (c : Bool) → every (has_rank 0) (when c (DropsOwned x.port ∷ [])) ≡ true
    own true = refl
    own false = refl

die-rank : (code : Status) (t : ThreadRow) (w : World) → every (has_rank 0) (die code t w) ≡ true
die-rank code t w =
    let first = Dies t.number code ∷ Withdraws t.number ∷ [] in
    every-append (has_rank 0) first (end_client (wait_of w t.number) (world_after w first)) refl (accepted-rank (wait_of w t.number) (world_after w first))

-- Registrations that go
taking-rank : (b : Basic) → is_taking b ≡ true → has_rank 1 b ≡ true
taking-rank (Takes queue) is = refl
taking-rank (TakesConnect queue) is = refl
taking-rank (Receives who queue) is = refl
taking-rank (Wakes who call status fields) is = refl
taking-rank b is = absurd (cc)

enter-rank : (m : MessageRow) (w : World) → every (has_rank 1) (enter m w) ≡ true
enter-rank m w = and_from _ _ (posts (is_died_post m)) (every-more is_taking (has_rank 1) taking-rank (taken_at_once m w) (taking-entered m w))
  where
    posts : (died : Bool) → every (λ n. n == 1) (when died (1 ∷ [])) ≡ true
    posts true = refl
    posts false = refl

death-rank : (t : ThreadRow) (b : Birth) (w : World) → every (has_rank 1) (post_death t b w) ≡ true
death-rank t b w = at (death_post v t b)
  where
    v : World
    v = basic w (Unregisters t.number b)

    at : (o : Option MessageRow) → every (has_rank 1) (given o (λ m. enter m (basic w (Unregisters t.number b)))) ≡ true
    at None = refl
    at (Some m) = enter-rank m (basic w (Unregisters t.number b))

-- The three parts
pub parts-order : (code : Status) (ts : List ThreadRow) (w v : World) (bs : List Basic) → AreDeathless bs → rises (each rank_of (in_turn (die code) ts w ++ (in_turn post_deaths ts v ++ bs))) ≡ true
parts-order code ts w v bs all =
    subst (λ ns. rises ns ≡ true) (sym (ranks-both dying (telling ++ bs)))
    (both-rise 0 (each rank_of dying) (each rank_of (telling ++ bs)) (every-more (λ n. n == 0) (λ n. nat_le n 0) (λ n is. grind (arith, nat_tests)) (each rank_of dying) none) (lowest (each rank_of (telling ++ bs)))
    (alike-rise 0 (each rank_of dying) none)
    (order-behind telling bs (alike-rise 1 (each rank_of telling) one) all))
  where
    dying : List Basic
    dying = in_turn (die code) ts w

    telling : List Basic
    telling = in_turn post_deaths ts v

    none : every (λ n. n == 0) (each rank_of (in_turn (die code) ts w)) ≡ true
    none = ranked 0 (in_turn (die code) ts w) (turn-pass (has_rank 0) (die code) (λ t u. die-rank code t u) ts w)

    one : every (λ n. n == 1) (each rank_of (in_turn post_deaths ts v)) ≡ true
    one = ranked 1 (in_turn post_deaths ts v) (turn-pass (has_rank 1) post_deaths (λ t u. turn-pass (has_rank 1) (post_death t) (λ b s. death-rank t b s) t.registrations u) ts v)

    lowest : (ns : List ℕ) → every (nat_le 0) ns ≡ true
    lowest [] = refl
    lowest (n ∷ ns) = grind (arith, nat_tests, lowest ns)
