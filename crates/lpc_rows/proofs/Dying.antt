-- A thread registers a port, a registration goes, and a thread ends: what each leaves of a lawful world.
use Rattle.std.proofs.Common.{◌≡◌, ◌+◌, ◌*◌, ◌<◌, ◌≤◌, ℕ, List, [], ◌∷◌, ◌++◌, Bool, true, false, length, refl, arith}
use Rattle.std.specs.Prelude.{not, ◌&&◌, ◌||◌, ◌==◌}
use Rattle.std.proofs.lemmas.Bool.{eqb-true}
use Rattle.std.proofs.lemmas.Bool.Decides.{nat_tests}
use Rattle.std.proofs.lemmas.List.{length-append}
use Rattle.lpc_base.specs.Rows.{change, count, each, every, has, without}
use Rattle.lpc_base.proofs.Differ.{rest-none}
use Rattle.lpc_base.proofs.RowWords.{change-none, every-change, every-more, length-change}
use Rattle.lpc_model.specs.Basics.{ended, registering, unregistering}
use Rattle.lpc_model.specs.Found.{is_live_thread, is_thread, same_birth, waits_as}
use Rattle.lpc_model.specs.World.{Birth, ThreadRow, WaitRow, World}
use Rattle.lpc_rows.specs.Kept.{is_alive, owed_messages, owed_rows}
use Rattle.lpc_rows.specs.Lawful.{IsLawful, are_single_threads, draws_at_most, is_housed, is_of}
use Rattle.lpc_rows.specs.Registered.{registrations_of}
use Rattle.lpc_rows.proofs.Registered.{registrations}
use Rattle.lpc_rows.proofs.Lawful.{alive-change, of-change}

-- What a change of one thread leaves
module _ (f : ThreadRow → ThreadRow) (same : (t : ThreadRow) → (f t).number ≡ t.number) (home : (t : ThreadRow) → (f t).process ≡ t.process)
    (names : (t : ThreadRow) → (f t).next_identifier ≡ t.next_identifier) (ordinals : (t : ThreadRow) → (f t).next_ordinal ≡ t.next_ordinal) where
  changed-draws : (n who : ℕ) (ts : List ThreadRow) → every (draws_at_most n) ts ≡ true → every (draws_at_most n) (change (is_thread who) f ts) ≡ true
  changed-draws n who ts all = every-change (draws_at_most n) (is_thread who) f (λ t there. rw (names t, ordinals t) there) ts all

  changed-housed : (w v : World) (who : ℕ) (ts : List ThreadRow) → ((t : ThreadRow) → (f t).live ≡ true → t.live ≡ true) → v.processes ≡ w.processes → v.handles ≡ w.handles → every (is_housed w) ts ≡ true → every (is_housed v) (change (is_thread who) f ts) ≡ true
  changed-housed w v who ts lived ps hs all =
      every-change (is_housed v) (is_thread who) f (λ t there. rw (home t) (homely (f t).live t.live _ _ (lived t) there)) ts
      (every-more (is_housed w) (is_housed v) (λ t there. rw (ps, hs) there) ts all)
    where
      homely : (later now stands table : Bool) → (later ≡ true → now ≡ true) → ((not now || stands) && table) ≡ true → ((not later || stands) && table) ≡ true
      homely false now stands table lived is = grind arith
      homely true now stands table lived is = let live : now ≡ true = lived refl in grind (arith, live)

-- One thread has a number
only-one : (who : ℕ) (t : ThreadRow) (ts : List ThreadRow) → is_thread who t ≡ true → are_single_threads (t ∷ ts) ≡ true → has (is_thread who) ts ≡ false
only-one who t ts here one = rest-none (λ (u : ThreadRow). u.number) t ts who one (eqb-true t.number who here)

-- Registered ports
-- one more, of the one thread that has the number
pub longer-registered : (who : ℕ) (b : Birth) (ts : List ThreadRow) → are_single_threads ts ≡ true → has (is_thread who) ts ≡ true
    → length (each registrations (change (is_thread who) (registering b) ts)) ≡ length (each registrations ts) + 1
longer-registered who b [] one there = absurd (cc)
longer-registered who b (t ∷ ts) one there = elim (is_thread who t) as (λ c. is_thread who t ≡ c → length (each registrations (change (is_thread who) (registering b) (t ∷ ts))) ≡ length (each registrations (t ∷ ts)) + 1) [
  | true ↦ λ here.
      let rest = change-none (is_thread who) (registering b) ts (only-one who t ts here one) in
      let long = length-append t.registrations (each registrations ts) in
      let longer = length-append (t.registrations ++ b ∷ []) (each registrations ts) in
      let pushed = length-append t.registrations (b ∷ []) in
      rw (here, rest) (omega (arith, long, longer, pushed))
  | false ↦ λ off.
      let later = longer-registered who b ts (grind arith) (grind arith) in
      let long = length-append t.registrations (each registrations ts) in
      let longer = length-append t.registrations (each registrations (change (is_thread who) (registering b) ts)) in
      rw off (omega (arith, later, long, longer))
] refl

-- fewer, where the thread has the port registered
fewer-births : (b : Birth) (bs : List Birth) → length (without (same_birth b) bs) ≤ length bs
fewer-births b [] = omega arith
fewer-births b (c ∷ bs) = grind (arith, fewer-births b bs)

less-births : (b : Birth) (bs : List Birth) → has (same_birth b) bs ≡ true → length (without (same_birth b) bs) + 1 ≤ length bs
less-births b [] there = absurd (cc)
less-births b (c ∷ bs) there = elim (same_birth b c) as (λ k. same_birth b c ≡ k → length (without (same_birth b) (c ∷ bs)) + 1 ≤ length (c ∷ bs)) [
  | true ↦ λ here. grind (arith, here, fewer-births b bs)
  | false ↦ λ off. grind (arith, off, less-births b bs)
] refl

pub shorter-registered : (who : ℕ) (b : Birth) (ts : List ThreadRow) → length (each registrations (change (is_thread who) (unregistering b) ts)) ≤ length (each registrations ts)
shorter-registered who b [] = omega arith
shorter-registered who b (t ∷ ts) =
    let rest = shorter-registered who b ts in
    let long = length-append t.registrations (each registrations ts) in
    let less = fewer-births b t.registrations in
    elim (is_thread who t) as (λ c. is_thread who t ≡ c → length (each registrations (change (is_thread who) (unregistering b) (t ∷ ts))) ≤ length (each registrations (t ∷ ts))) [
      | true ↦ λ here. rw here (let new = length-append (without (same_birth b) t.registrations) (each registrations (change (is_thread who) (unregistering b) ts)) in omega (arith, rest, long, less, new))
      | false ↦ λ off. rw off (let new = length-append t.registrations (each registrations (change (is_thread who) (unregistering b) ts)) in omega (arith, rest, long, new))
    ] refl

pub fewer-registered : (who : ℕ) (b : Birth) (w : World) → has (same_birth b) (registrations_of w who) ≡ true
    → length (each registrations (change (is_thread who) (unregistering b) w.threads)) + 1 ≤ length (each registrations w.threads)
fewer-registered who b w there = at w.threads there
  where
    at : (ts : List ThreadRow) → has (same_birth b) (registrations_of (record w { threads = ts }) who) ≡ true → length (each registrations (change (is_thread who) (unregistering b) ts)) + 1 ≤ length (each registrations ts)
    at [] there = absurd (cc)
    at (t ∷ ts) there = elim (is_thread who t) as (λ c. is_thread who t ≡ c → length (each registrations (change (is_thread who) (unregistering b) (t ∷ ts))) + 1 ≤ length (each registrations (t ∷ ts))) [
      | true ↦ λ here.
          let own : has (same_birth b) t.registrations ≡ true = rw here at there in
          let rest = shorter-registered who b ts in
          let long = length-append t.registrations (each registrations ts) in
          let less = less-births b t.registrations own in
          rw here (let new = length-append (without (same_birth b) t.registrations) (each registrations (change (is_thread who) (unregistering b) ts)) in omega (arith, rest, long, less, new))
      | false ↦ λ off.
          let later = at ts (rw off at there) in
          let long = length-append t.registrations (each registrations ts) in
          rw off (let new = length-append t.registrations (each registrations (change (is_thread who) (unregistering b) ts)) in omega (arith, later, long, new))
    ] refl

-- a thread that keeps its life and its number keeps what waits and what lives
pub lawful-register : (w : World) (calls made a b who : ℕ) (c : Birth) → IsLawful w calls made a b → made + owed_rows w < 16 * calls → owed_messages w < b → are_single_threads w.threads ≡ true → has (is_thread who) w.threads ≡ true
    → IsLawful (record w { threads = change (is_thread who) (registering c) w.threads }) calls made a b
lawful-register w calls made a b who c h lt place one there =
    let more = longer-registered who c w.threads one there in
    let alive = alive-change (registering c) (λ t. refl) who w.threads in
    record {
      few = h.few;
      budget = omega (arith, lt, more);
      rows = grind (arith, h.rows, length-change (is_thread who) (registering c) w.threads);
      draws = changed-draws (registering c) (λ t. refl) (λ t. refl) (λ t. refl) (λ t. refl) (made + 1) who w.threads h.draws;
      housed = changed-housed (registering c) (λ t. refl) (λ t. refl) (λ t. refl) (λ t. refl) w (record w { threads = change (is_thread who) (registering c) w.threads }) who w.threads (λ t is. is) refl refl h.housed;
      tables_used = h.tables_used;
      tables_single = h.tables_single;
      tables_few = h.tables_few;
      single = h.single;
      threads = of-change (registering c) (λ t. refl) (λ t. refl) who w.threads w.waits h.threads;
      quiet = h.quiet;
      own = h.own;
      told = h.told;
      waits_fit = let fit = h.waits_fit in omega (arith, alive, fit);
      messages_fit = omega (arith, alive, more, place);
    }

pub lawful-unregister : (w : World) (calls made a b who : ℕ) (c : Birth) → IsLawful w calls made a b
    → IsLawful (record w { threads = change (is_thread who) (unregistering c) w.threads }) calls made a b
lawful-unregister w calls made a b who c h =
    let less = shorter-registered who c w.threads in
    let alive = alive-change (unregistering c) (λ t. refl) who w.threads in
    let fit = h.messages_fit in
    let budget = h.budget in
    record {
      few = h.few;
      budget = omega (arith, budget, less);
      rows = grind (arith, h.rows, length-change (is_thread who) (unregistering c) w.threads);
      draws = changed-draws (unregistering c) (λ t. refl) (λ t. refl) (λ t. refl) (λ t. refl) (made + 1) who w.threads h.draws;
      housed = changed-housed (unregistering c) (λ t. refl) (λ t. refl) (λ t. refl) (λ t. refl) w (record w { threads = change (is_thread who) (unregistering c) w.threads }) who w.threads (λ t is. is) refl refl h.housed;
      tables_used = h.tables_used;
      tables_single = h.tables_single;
      tables_few = h.tables_few;
      single = h.single;
      threads = of-change (unregistering c) (λ t. refl) (λ t. refl) who w.threads w.waits h.threads;
      quiet = h.quiet;
      own = h.own;
      told = h.told;
      waits_fit = let places = h.waits_fit in omega (arith, alive, places);
      messages_fit = omega (arith, alive, less, fit);
    }

-- A thread that ends
pub fewer-alive : (who : ℕ) (ts : List ThreadRow) → count is_alive (change (is_thread who) ended ts) ≤ count is_alive ts
fewer-alive who [] = omega arith
fewer-alive who (t ∷ ts) = grind (arith, fewer-alive who ts)

-- the others that wait live still
others-live : (who q : ℕ) (ts : List ThreadRow) → (q == who) ≡ false → has (is_live_thread q) ts ≡ true → has (is_live_thread q) (change (is_thread who) ended ts) ≡ true
others-live who q [] off there = absurd (cc)
others-live who q (t ∷ ts) off there = elim (is_live_thread q t) as (λ c. is_live_thread q t ≡ c → has (is_live_thread q) (change (is_thread who) ended (t ∷ ts)) ≡ true) [
  | true ↦ λ here. let other : is_thread who t ≡ false = grind (arith, nat_tests) in grind (arith, here, other)
  | false ↦ λ none. elim (is_thread who t) as (λ c. is_thread who t ≡ c → has (is_live_thread q) (change (is_thread who) ended (t ∷ ts)) ≡ true) [
    | true ↦ λ is. grind (arith, is, none, others-live who q ts off)
    | false ↦ λ isn't. grind (arith, isn't, none, others-live who q ts off)
  ] refl
] refl

ended-waiters : (who : ℕ) (ts : List ThreadRow) (xs : List WaitRow) → has (waits_as who) xs ≡ false → every (is_of ts) xs ≡ true → every (is_of (change (is_thread who) ended ts)) xs ≡ true
ended-waiters who ts [] none all = refl
ended-waiters who ts (x ∷ xs) none all =
    let one : is_of (change (is_thread who) ended ts) x ≡ true = others-live who x.thread ts (grind arith) (grind arith) in
    grind (arith, one, ended-waiters who ts xs)

pub lawful-ended : (w : World) (calls made a b who : ℕ) → IsLawful w calls made a b → has (waits_as who) w.waits ≡ false
    → length (each registrations (change (is_thread who) ended w.threads)) ≡ length (each registrations w.threads)
    → IsLawful (record w { threads = change (is_thread who) ended w.threads }) calls made a b
lawful-ended w calls made a b who h ready kept =
    let less = fewer-alive who w.threads in
    let fit = h.messages_fit in
    let places = h.waits_fit in
    let budget = h.budget in
    record {
      few = h.few;
      budget = omega (arith, budget, kept);
      rows = grind (arith, h.rows, length-change (is_thread who) ended w.threads);
      draws = changed-draws ended (λ t. refl) (λ t. refl) (λ t. refl) (λ t. refl) (made + 1) who w.threads h.draws;
      housed = changed-housed ended (λ t. refl) (λ t. refl) (λ t. refl) (λ t. refl) w (record w { threads = change (is_thread who) ended w.threads }) who w.threads (λ t is. absurd (cc)) refl refl h.housed;
      tables_used = h.tables_used;
      tables_single = h.tables_single;
      tables_few = h.tables_few;
      single = h.single;
      threads = ended-waiters who w.threads w.waits ready h.threads;
      quiet = h.quiet;
      own = h.own;
      told = h.told;
      waits_fit = omega (arith, less, places);
      messages_fit = omega (arith, less, fit, kept);
    }
