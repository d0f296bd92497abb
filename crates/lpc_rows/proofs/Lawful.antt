-- What each basic step leaves of a lawful world.
use Rattle.std.proofs.Common.{◌≡◌, ℕ, ◌+◌, ◌*◌, ◌<◌, ◌≤◌, List, [], ◌∷◌, ◌++◌, Bool, true, false, cond, length, map, Some, refl, ap, sym, subst, ◌∙◌, arith, eqb}
use Rattle.std.specs.Prelude.{◌==◌, ◌-◌}
use Rattle.std.specs.List.{AllByRecursion, IsDistinct}
use Rattle.std.specs.Cmp.{nat_eq_equiv}
use Rattle.std.specs.Set.{is_member}
use Rattle.std.proofs.lemmas.Bool.Decides.{nat_tests}
use Rattle.std.proofs.lemmas.Bool.{eqb-true}
use Rattle.std.proofs.lemmas.List.{length-map, length_push}
use Rattle.std.proofs.lemmas.Map.Keys.{IsDistinct-cons}
use Rattle.std.proofs.lemmas.Map.Made.{length-le_from_is_member}
use Rattle.lpc_base.specs.declared.port_kind.PortKind.TheVariants.{Client, Connection, Server, Unnamed}
use Rattle.lpc_base.specs.declared.limits.TheConstants.{LINES_LIMIT}
use Rattle.lpc_base.specs.Rows.{change, count, every, first, has, which, without, without_first}
use Rattle.lpc_base.proofs.RowWords.{count-bound, count-left, count-push, every-change, every-more, every-push, every-without, has-change, has-kept, has-push, has_none-push, has_none-without, length-change}
use Rattle.lpc_base.proofs.Differ.{differ-change, differ-push, differ-without, length-ended}
use Rattle.lpc_base.proofs.RowMaps.{every-first}
use Rattle.lpc_base.proofs.Bools.{at-most-one, number-turned}
use Rattle.lpc_base.proofs.Births.{birth-self, birth-turned}
use Rattle.lpc_model.specs.World.{World, HandleRow, HandleTable, MessageRow, PortRow, ProcessRow, ThreadRow, UsedThread, WaitRow}
use Rattle.lpc_model.specs.Closings.{is_closed_post}
use Rattle.lpc_model.specs.Message.{asks}
use Rattle.lpc_model.specs.Found.{is_client_port, is_live_thread, is_open, is_own_of, is_port, is_process, is_queued, is_queued_connect, is_table, is_thread, waits_as}
use Rattle.lpc_model.specs.Entering.{takes}
use Rattle.lpc_model.specs.Basics.{left_by, no_handles, no_views, past_identifier, past_ordinal, received, with_handle, without_handle}
use Rattle.lpc_rows.specs.Kept.{goes_once, goes_twice, is_alive, is_asking, is_pending, is_unsent, owed_by, owed_for, owed_messages, owed_rows, owed_waits}
use Rattle.lpc_rows.proofs.Owed.{none-taken, owed-drop, owed-handle, owed-process, owed-shut}
use Rattle.lpc_rows.proofs.Registered.{registered-change, registered-push}
use Rattle.lpc_rows.proofs.OwnMessages.{asking-pending, count-taken_by, own-change, own-end, own-enter, own-keep, own-take, own-wait, own-withdraw, unsent-left}
use Rattle.lpc_rows.proofs.OwedClosings.{asks_no_closing, closings-fit, one-place, told-enter, told-make, told-take, told-withdraw}
use Rattle.lpc_rows.specs.OwedClosings.{TellsOnce, closing_places, is_owed}
use Rattle.lpc_rows.specs.Lawful.{IsLawful, are_single, draws_at_most, is_housed, is_of, is_quiet, is_used}

abbrev thread : WaitRow → ℕ
thread x = x.thread

-- A live thread that doesn't wait finds a place for its wait: waiting threads are fewer than live threads
member-number : (q : ℕ) (ts : List ThreadRow) → is_member eqb (map (λ t. t.number) (which is_alive ts)) q ≡ has (is_live_thread q) ts
member-number q [] = refl
member-number q (t ∷ ts) = elim (is_alive t) as (λ b. is_alive t ≡ b → is_member eqb (map (λ t. t.number) (which is_alive (t ∷ ts))) q ≡ has (is_live_thread q) (t ∷ ts)) [
  | true ↦ λ live. grind (arith, live, member-number q ts, number-turned q t.number)
  | false ↦ λ dead. grind (arith, dead, member-number q ts)
] refl

member-waiter : (q : ℕ) (xs : List WaitRow) → is_member eqb (map (λ x. x.thread) xs) q ≡ has (waits_as q) xs
member-waiter q [] = refl
member-waiter q (x ∷ xs) = grind (arith, member-waiter q xs, number-turned q x.thread)

apart : (q : ℕ) (xs : List WaitRow) → has (waits_as q) xs ≡ false → AllByRecursion (λ y. eqb q y ≡ false) (map (λ x. x.thread) xs)
apart q [] none = tt
apart q (x ∷ xs) none = (grind (arith, number-turned q x.thread), apart q xs (grind arith))

distinct : (xs : List WaitRow) → are_single xs ≡ true → IsDistinct eqb (map (λ x. x.thread) xs)
unfolding IsDistinct
distinct [] one = tt
distinct (x ∷ xs) one = IsDistinct-cons eqb x.thread (map (λ y. y.thread) xs) (apart x.thread xs (grind arith)) (distinct xs (grind arith))

among : (q : ℕ) (ts : List ThreadRow) (xs : List WaitRow) → every (is_of ts) xs ≡ true → has (waits_as q) xs ≡ true → has (is_live_thread q) ts ≡ true
among q ts [] all there = cc
among q ts (x ∷ xs) all there = elim (x.thread == q) as (λ b. (x.thread == q) ≡ b → has (is_live_thread q) ts ≡ true) [
  | true ↦ λ here. let same : x.thread ≡ q = eqb-true x.thread q here in
      let P : ℕ → Type 0 = λ n. has (is_live_thread n) ts ≡ true in subst P same (grind arith)
  | false ↦ λ off. among q ts xs (grind arith) (grind arith)
] refl

pub place-left : (ts : List ThreadRow) (xs : List WaitRow) (q : ℕ) → are_single xs ≡ true → every (is_of ts) xs ≡ true → has (is_live_thread q) ts ≡ true → has (waits_as q) xs ≡ false → length xs < count is_alive ts
place-left ts xs q one all in_ts out =
    let d : IsDistinct eqb (q ∷ map (λ x. x.thread) xs) = IsDistinct-cons eqb q (map (λ x. x.thread) xs) (apart q xs out) (distinct xs one) in
    let n = length-le_from_is_member nat_eq_equiv (q ∷ map (λ x. x.thread) xs) (map (λ t. t.number) (which is_alive ts)) d (λ r m.
    member-number r ts ∙ inside r (r == q) refl m) in
    grind (arith, n, length-map xs (λ (x : WaitRow). x.thread), length-map (which is_alive ts) (λ (t : ThreadRow). t.number))
  where
    inside : (r : ℕ) (b : Bool) → (r == q) ≡ b → is_member eqb (q ∷ map (λ x. x.thread) xs) r ≡ true → has (is_live_thread r) ts ≡ true
    inside r true here m = let P : ℕ → Type 0 = λ k. has (is_live_thread k) ts ≡ true in subst P (sym (eqb-true r q here)) in_ts
    inside r false off m = among r ts xs all (sym (member-waiter r xs) ∙ grind arith)

-- Draws
draws-more : (n m : ℕ) → n ≤ m → (t : ThreadRow) → draws_at_most n t ≡ true → draws_at_most m t ≡ true
draws-more n m le t h = grind (arith, nat_tests)

draws-past_identifier : (n who : ℕ) (t : ThreadRow) → draws_at_most n t ≡ true → draws_at_most (n + 1) (cond (is_thread who t) (past_identifier t) t) ≡ true
draws-past_identifier n who t h = elim (is_thread who t) as (λ b. draws_at_most (n + 1) (cond b (past_identifier t) t) ≡ true) [ true ↦ grind (arith, nat_tests) | false ↦ grind (arith, nat_tests) ]

draws-past_ordinal : (n who : ℕ) (t : ThreadRow) → draws_at_most n t ≡ true → draws_at_most (n + 1) (cond (is_thread who t) (past_ordinal t) t) ≡ true
draws-past_ordinal n who t h = elim (is_thread who t) as (λ b. draws_at_most (n + 1) (cond b (past_ordinal t) t) ≡ true) [ true ↦ grind (arith, nat_tests) | false ↦ grind (arith, nat_tests) ]

draws-identifiers : (n who : ℕ) (ts : List ThreadRow) → every (draws_at_most n) ts ≡ true → every (draws_at_most (n + 1)) (change (is_thread who) past_identifier ts) ≡ true
draws-identifiers n who [] all = refl
draws-identifiers n who (t ∷ ts) all = grind (arith, draws-past_identifier n who t, draws-identifiers n who ts)

draws-ordinals : (n who : ℕ) (ts : List ThreadRow) → every (draws_at_most n) ts ≡ true → every (draws_at_most (n + 1)) (change (is_thread who) past_ordinal ts) ≡ true
draws-ordinals n who [] all = refl
draws-ordinals n who (t ∷ ts) all = grind (arith, draws-past_ordinal n who t, draws-ordinals n who ts)

pub of-change : (f : ThreadRow → ThreadRow) → ((t : ThreadRow) → (f t).number ≡ t.number) → ((t : ThreadRow) → (f t).live ≡ t.live) → (who : ℕ) (ts : List ThreadRow) (xs : List WaitRow) → every (is_of ts) xs ≡ true → every (is_of (change (is_thread who) f ts)) xs ≡ true
of-change f same lives who ts xs all = every-more (is_of ts) (is_of (change (is_thread who) f ts)) (λ x h. has-change (is_live_thread x.thread) (is_thread who) f (λ t. rw (same t, lives t) refl) ts ∙ h) xs all

-- and so many threads live as before
pub alive-change : (f : ThreadRow → ThreadRow) → ((t : ThreadRow) → (f t).live ≡ t.live) → (who : ℕ) (ts : List ThreadRow) → count is_alive (change (is_thread who) f ts) ≡ count is_alive ts
alive-change f lives who [] = refl
alive-change f lives who (t ∷ ts) = grind (arith, lives t, alive-change f lives who ts)

-- The steps
pub lawful-call : (w : World) (calls made a b : ℕ) → IsLawful w calls made a b → calls < LINES_LIMIT → IsLawful w (calls + 1) made a b
lawful-call w calls made a b h lt = record {
  few = omega arith;
  budget = grind (arith, h.budget);
  rows = h.rows;
  draws = h.draws;
  housed = h.housed;
  tables_used = h.tables_used;
  tables_single = h.tables_single;
  tables_few = h.tables_few;
  single = h.single;
  threads = h.threads;
  quiet = h.quiet;
  own = h.own;
  told = h.told;
  waits_fit = h.waits_fit;
  messages_fit = h.messages_fit;
}

pub lawful-room : (w : World) (calls made a b c d : ℕ) → IsLawful w calls made a b → a ≤ c → b ≤ d → IsLawful w calls made c d
lawful-room w calls made a b c d h more most = record {
  few = h.few;
  budget = h.budget;
  rows = h.rows;
  draws = h.draws;
  housed = h.housed;
  tables_used = h.tables_used;
  tables_single = h.tables_single;
  tables_few = h.tables_few;
  single = h.single;
  threads = h.threads;
  quiet = h.quiet;
  own = h.own;
  told = h.told;
  waits_fit = grind (arith, h.waits_fit);
  messages_fit = grind (arith, h.messages_fit);
}

-- a thread that draws
module _ (f : ThreadRow → ThreadRow) (same : (t : ThreadRow) → (f t).number ≡ t.number) (home : (t : ThreadRow) → (f t).process ≡ t.process) (lives : (t : ThreadRow) → (f t).live ≡ t.live) (kept : (t : ThreadRow) → (f t).registrations ≡ t.registrations) where
  housed-drawn : (w : World) (who : ℕ) (ts : List ThreadRow) (v : World) → v.processes ≡ w.processes → v.handles ≡ w.handles → every (is_housed w) ts ≡ true → every (is_housed v) (change (is_thread who) f ts) ≡ true
  housed-drawn w who ts v ps hs all =
      every-change (is_housed v) (is_thread who) f (λ t there. rw (home t, lives t) there) ts
      (every-more (is_housed w) (is_housed v) (λ t there. rw (ps, hs) there) ts all)

  pub lawful-drawn : (w : World) (calls made a b who : ℕ) → IsLawful w calls made a b → made + owed_rows w < 16 * calls → every (draws_at_most (made + 1 + 1)) (change (is_thread who) f w.threads) ≡ true
      → IsLawful (record w { threads = change (is_thread who) f w.threads }) calls (made + 1) a b
  lawful-drawn w calls made a b who h lt draws = record {
    few = h.few;
    budget = rw (registered-change f kept who w.threads) (omega arith);
    rows = grind (arith, h.rows, length-change (is_thread who) f w.threads);
    draws = draws;
    housed = housed-drawn w who w.threads (record w { threads = change (is_thread who) f w.threads }) refl refl h.housed;
    tables_used = h.tables_used;
    tables_single = h.tables_single;
    tables_few = omega (arith, h.tables_few);
    single = h.single;
    threads = of-change f same lives who w.threads w.waits h.threads;
    quiet = h.quiet;
    own = h.own;
    told = h.told;
    waits_fit = rw (alive-change f lives who w.threads) h.waits_fit;
    messages_fit = rw (alive-change f lives who w.threads, registered-change f kept who w.threads) h.messages_fit;
  }

  -- a thread that changes, and draws nothing
  pub lawful-changed : (w : World) (calls made a b who : ℕ) → IsLawful w calls made a b → every (draws_at_most (made + 1)) (change (is_thread who) f w.threads) ≡ true
      → IsLawful (record w { threads = change (is_thread who) f w.threads }) calls made a b
  lawful-changed w calls made a b who h draws = record {
    few = h.few;
    budget = rw (registered-change f kept who w.threads) h.budget;
    rows = grind (arith, h.rows, length-change (is_thread who) f w.threads);
    draws = draws;
    housed = housed-drawn w who w.threads (record w { threads = change (is_thread who) f w.threads }) refl refl h.housed;
    tables_used = h.tables_used;
    tables_single = h.tables_single;
    tables_few = h.tables_few;
    single = h.single;
    threads = of-change f same lives who w.threads w.waits h.threads;
    quiet = h.quiet;
    own = h.own;
    told = h.told;
    waits_fit = rw (alive-change f lives who w.threads) h.waits_fit;
    messages_fit = rw (alive-change f lives who w.threads, registered-change f kept who w.threads) h.messages_fit;
  }

pub lawful-identifier : (w : World) (calls made a b who : ℕ) → IsLawful w calls made a b → made + owed_rows w < 16 * calls
    → IsLawful (record w { threads = change (is_thread who) past_identifier w.threads }) calls (made + 1) a b
lawful-identifier w calls made a b who h lt = lawful-drawn past_identifier (λ t. refl) (λ t. refl) (λ t. refl) (λ t. refl) w calls made a b who h lt (draws-identifiers (made + 1) who w.threads h.draws)

pub lawful-ordinal : (w : World) (calls made a b who : ℕ) → IsLawful w calls made a b → made + owed_rows w < 16 * calls
    → IsLawful (record w { threads = change (is_thread who) past_ordinal w.threads }) calls (made + 1) a b
lawful-ordinal w calls made a b who h lt = lawful-drawn past_ordinal (λ t. refl) (λ t. refl) (λ t. refl) (λ t. refl) w calls made a b who h lt (draws-ordinals (made + 1) who w.threads h.draws)

-- a process and its table of handles
pub unused-table : (used : List ℕ) (pid : ℕ) (ts : List HandleTable) → every (is_used used) ts ≡ true → has (λ n. n == pid) used ≡ false → has (is_table pid) ts ≡ false
unused-table used pid [] all none = refl
unused-table used pid (t ∷ ts) all none =
    elim (t.process == pid) as (λ b. (t.process == pid) ≡ b → has (is_table pid) (t ∷ ts) ≡ false) [
      | true ↦ λ here.
          let P : ℕ → Type 0 = λ n. has (λ m. m == n) used ≡ true in
          let yes : has (λ m. m == pid) used ≡ true = subst P (eqb-true t.process pid here) (grind arith) in
          cc
      | false ↦ λ off. grind (arith, unused-table used pid ts)
    ] refl

used-more : (used : List ℕ) (pid : ℕ) (ts : List HandleTable) → every (is_used used) ts ≡ true → every (is_used (used ++ pid ∷ [])) ts ≡ true
used-more used pid ts all = every-more (is_used used) (is_used (used ++ pid ∷ [])) (λ t there. has-kept (λ n. n == t.process) used pid there) ts all

used-self : (used : List ℕ) (pid : ℕ) → is_used (used ++ pid ∷ []) (no_handles pid) ≡ true
used-self used pid = has-push (λ n. n == pid) used pid (grind (arith, nat_tests))

pub lawful-process : (w : World) (calls made a b : ℕ) (p : ProcessRow) → IsLawful w calls made a b → made + owed_rows w < 16 * calls → has (λ n. n == p.number) w.used_processes ≡ false
    → IsLawful (record w { processes = w.processes ++ p ∷ []; used_processes = w.used_processes ++ p.number ∷ []; handles = w.handles ++ no_handles p.number ∷ []; views = w.views ++ no_views p.number ∷ [] }) calls (made + 1) a b
lawful-process w calls made a b p h lt new = record {
  few = h.few;
  budget = omega (arith, lt, owed-process w p.number);
  rows = grind (arith, h.rows, length_push w.processes p);
  draws = every-more (draws_at_most (made + 1)) (draws_at_most (made + 1 + 1)) (draws-more (made + 1) (made + 1 + 1) (omega arith)) w.threads h.draws;
  housed = every-more (is_housed w) _ (λ t there. grind (arith, has-kept (is_process t.process) w.processes p, has-kept (is_table t.process) w.handles (no_handles p.number))) w.threads h.housed;
  tables_used = every-push (is_used (w.used_processes ++ p.number ∷ [])) w.handles (no_handles p.number) (used-more w.used_processes p.number w.handles h.tables_used) (used-self w.used_processes p.number);
  tables_single = differ-push (λ (t : HandleTable). t.process) w.handles (no_handles p.number) h.tables_single (unused-table w.used_processes p.number w.handles h.tables_used new);
  tables_few = grind (arith, h.tables_few, length_push w.handles (no_handles p.number));
  single = h.single;
  threads = h.threads;
  quiet = h.quiet;
  own = h.own;
  told = h.told;
  waits_fit = h.waits_fit;
  messages_fit = h.messages_fit;
}

pub lawful-thread : (w : World) (calls made a b : ℕ) (t : ThreadRow) (used : List UsedThread) → IsLawful w calls made a b → made + owed_rows w < 16 * calls
    → draws_at_most 1 t ≡ true → t.registrations ≡ [] → is_housed w t ≡ true → owed_waits w < a → owed_messages w < b
    → IsLawful (record w { threads = w.threads ++ t ∷ []; used_threads = used }) calls (made + 1) a b
lawful-thread w calls made a b t used h lt young none home room place = record {
  few = h.few;
  budget = let owed = ap length (registered-push w.threads t none) in omega (arith, owed);
  rows = grind (arith, h.rows, length_push w.threads t);
  draws = every-push (draws_at_most (made + 1 + 1)) w.threads t
      (every-more (draws_at_most (made + 1)) (draws_at_most (made + 1 + 1)) (draws-more (made + 1) (made + 1 + 1) (omega arith)) w.threads h.draws)
      (draws-more 1 (made + 1 + 1) (omega arith) t young);
  housed = every-push (is_housed w) w.threads t h.housed home;
  tables_used = h.tables_used;
  tables_single = h.tables_single;
  tables_few = omega (arith, h.tables_few);
  single = h.single;
  threads = every-more (is_of w.threads) (is_of (w.threads ++ t ∷ [])) (λ x there. has-kept (is_live_thread x.thread) w.threads t there) w.waits h.threads;
  quiet = h.quiet;
  own = h.own;
  told = h.told;
  waits_fit = let more = count-push is_alive w.threads t in let one = at-most-one (is_alive t) in omega (arith, more, one, room);
  messages_fit = let more = count-push is_alive w.threads t in let one = at-most-one (is_alive t) in let owed = ap length (registered-push w.threads t none) in omega (arith, more, one, place, owed);
}

-- a port more
kind-places : (p : PortRow) → cond (is_client_port p) 1 0 ≡ closing_places p.kind
kind-places p = elim p.kind as (λ k. cond (elim k [ Client ↦ true | _ ↦ false ]) 1 0 ≡ closing_places k) [ Unnamed ↦ refl | Connection ↦ refl | Client ↦ refl | Server ↦ refl ]

pub owed-port : (w : World) (p : PortRow) → owed_messages (record w { ports = w.ports ++ p ∷ [] }) ≤ owed_messages w + closing_places p.kind
owed-port w p = let more = count-push is_client_port w.ports p in let places = kind-places p in omega (arith, more, places)

pub lawful-port : (w : World) (calls made a b : ℕ) (p : PortRow) → IsLawful w calls made a b → made + owed_rows w < 16 * calls → is_open w p.birth ≡ false → closing_places p.kind ≤ b - owed_messages w
    → IsLawful (record w { ports = w.ports ++ p ∷ [] }) calls (made + 1) a b
lawful-port w calls made a b p h lt shut place = record {
  few = h.few;
  budget = omega (arith, lt, owed-shut w p shut);
  rows = grind (arith, h.rows, length_push w.ports p);
  draws = every-more (draws_at_most (made + 1)) (draws_at_most (made + 1 + 1)) (draws-more (made + 1) (made + 1 + 1) (omega arith)) w.threads h.draws;
  housed = h.housed;
  tables_used = h.tables_used;
  tables_single = h.tables_single;
  tables_few = omega (arith, h.tables_few);
  single = h.single;
  threads = h.threads;
  quiet = h.quiet;
  own = h.own;
  told = told-make p w.messages w.ports h.told;
  waits_fit = h.waits_fit;
  messages_fit = let more = owed-port w p in let fit = h.messages_fit in omega (arith, more, fit, place);
}

lawful-handles : (w : World) (calls made a b pid : ℕ) (g : HandleTable → HandleTable) → ((t : HandleTable) → (g t).process ≡ t.process) → IsLawful w calls made a b
    → made + owed_rows (record w { handles = change (is_table pid) g w.handles }) ≤ 16 * calls
    → IsLawful (record w { handles = change (is_table pid) g w.handles }) calls made a b
lawful-handles w calls made a b pid g same h few = record {
  few = h.few;
  budget = few;
  rows = h.rows;
  draws = h.draws;
  housed = every-more (is_housed w) _ (λ t there. grind (arith, has-change (is_table t.process) (is_table pid) g (λ u. grind (arith, same u)) w.handles)) w.threads h.housed;
  tables_used = every-change (is_used w.used_processes) (is_table pid) g (λ t there. rw (same t) there) w.handles h.tables_used;
  tables_single = differ-change (λ (t : HandleTable). t.process) (is_table pid) g same w.handles h.tables_single;
  tables_few = grind (arith, h.tables_few, length-change (is_table pid) g w.handles);
  single = h.single;
  threads = h.threads;
  quiet = h.quiet;
  own = h.own;
  told = h.told;
  waits_fit = h.waits_fit;
  messages_fit = h.messages_fit;
}

pub lawful-handle : (w : World) (calls made a b pid : ℕ) (row : HandleRow) → IsLawful w calls made a b → made + owed_rows w < 16 * calls → count (is_port row.object.birth) w.ports ≤ 1
    → IsLawful (record w { handles = change (is_table pid) (with_handle row) w.handles }) calls made a b
lawful-handle w calls made a b pid row h lt one = lawful-handles w calls made a b pid (with_handle row) (λ t. refl) h (omega (arith, lt, owed-handle w pid row one))

pub lawful-drop : (w : World) (calls made a b pid value : ℕ) → IsLawful w calls made a b
    → IsLawful (record w { handles = change (is_table pid) (without_handle value) w.handles }) calls made a b
lawful-drop w calls made a b pid value h = lawful-handles w calls made a b pid (without_handle value) (λ t. refl) h (omega (arith, h.budget, owed-drop w pid value))

-- what waiting events owe
pub owed-push : (xs : List WaitRow) (x : WaitRow) → owed_for (xs ++ x ∷ []) ≡ owed_for xs + owed_by x
owed-push xs x =
    let twice = count-push goes_twice xs x in
    let once = count-push goes_once xs x in
    let one = single goes_twice in
    let other = single goes_once in
    omega (arith, twice, once, one, other)
  where
    single : (p : WaitRow → Bool) → count p (x ∷ []) ≡ cond (p x) 1 0
    single p = grind arith

pub owed-left : (p : WaitRow → Bool) (xs : List WaitRow) → owed_for (without p xs) ≤ owed_for xs
owed-left p xs = let twice = count-left goes_twice p xs in let once = count-left goes_once p xs in omega (arith, twice, once)

pub owed-kept : (tid : ℕ) (g : WaitRow → WaitRow) → ((x : WaitRow) → goes_twice (g x) ≡ goes_twice x) → ((x : WaitRow) → goes_once (g x) ≡ goes_once x) → (xs : List WaitRow) → owed_for (change (waits_as tid) g xs) ≡ owed_for xs
owed-kept tid g twice once xs =
    let two = kept goes_twice twice xs in
    let one = kept goes_once once xs in
    omega (arith, two, one)
  where
    kept : (p : WaitRow → Bool) → ((x : WaitRow) → p (g x) ≡ p x) → (ys : List WaitRow) → count p (change (waits_as tid) g ys) ≡ count p ys
    kept p same [] = refl
    kept p same (y ∷ ys) = grind (arith, same y, kept p same ys)

pub lawful-wait : (w : World) (calls made a b : ℕ) (x : WaitRow) → IsLawful w calls made a b → made + owed_rows w + (1 + owed_by x) ≤ 16 * calls
    → has (is_live_thread x.thread) w.threads ≡ true → has (waits_as x.thread) w.waits ≡ false → is_quiet w.messages x ≡ true → 0 < a
    → IsLawful (record w { waits = w.waits ++ x ∷ [] }) calls (made + 1) (a - 1) b
lawful-wait w calls made a b x h lt there none still place = record {
  few = h.few;
  budget = let owed = owed-push w.waits x in omega (arith, owed, lt);
  rows = grind (arith, h.rows);
  draws = every-more (draws_at_most (made + 1)) (draws_at_most (made + 1 + 1)) (draws-more (made + 1) (made + 1 + 1) (omega arith)) w.threads h.draws;
  housed = h.housed;
  tables_used = h.tables_used;
  tables_single = h.tables_single;
  tables_few = omega (arith, h.tables_few);
  single = differ-push thread w.waits x h.single none;
  threads = every-push (is_of w.threads) w.waits x h.threads there;
  quiet = every-push (is_quiet w.messages) w.waits x h.quiet still;
  own = own-wait w.messages w.waits x h.own;
  told = h.told;
  waits_fit = grind (arith, h.waits_fit, length_push w.waits x);
  messages_fit = h.messages_fit;
}

pub lawful-end : (w : World) (calls made a b tid : ℕ) → IsLawful w calls made a b → has (is_own_of tid) w.messages ≡ false
    → IsLawful (left_by tid w) calls made (cond (has (waits_as tid) w.waits) (a + 1) a) b
lawful-end w calls made a b tid h none = record {
  few = h.few;
  budget = let less = owed-left (waits_as tid) w.waits in let paid = h.budget in omega (arith, less, paid);
  rows = h.rows;
  draws = h.draws;
  housed = h.housed;
  tables_used = h.tables_used;
  tables_single = h.tables_single;
  tables_few = h.tables_few;
  single = differ-without thread (waits_as tid) w.waits h.single;
  threads = every-without (is_of w.threads) (waits_as tid) w.waits h.threads;
  quiet = every-without (is_quiet w.messages) (waits_as tid) w.waits h.quiet;
  own = own-end tid w.messages w.waits none h.own;
  told = h.told;
  waits_fit = grind (arith, h.waits_fit, length-ended thread tid w.waits h.single);
  messages_fit = h.messages_fit;
}

pub lawful-receive : (w : World) (calls made a b tid : ℕ) → IsLawful w calls made a b → has (is_own_of tid) w.messages ≡ false
    → IsLawful (record w { waits = change (waits_as tid) received w.waits }) calls made a b
lawful-receive w calls made a b tid h none = record {
  few = h.few;
  budget = let owed = owed-kept tid received (λ x. refl) (λ x. refl) w.waits in let paid = h.budget in omega (arith, owed, paid);
  rows = h.rows;
  draws = h.draws;
  housed = h.housed;
  tables_used = h.tables_used;
  tables_single = h.tables_single;
  tables_few = h.tables_few;
  single = differ-change thread (waits_as tid) received (λ x. refl) w.waits h.single;
  threads = every-change (is_of w.threads) (waits_as tid) received (λ x there. there) w.waits h.threads;
  quiet = every-change (is_quiet w.messages) (waits_as tid) received (λ x there. there) w.waits h.quiet;
  own = own-change tid received (λ x. refl) w.messages w.waits none h.own;
  told = h.told;
  waits_fit = grind (arith, h.waits_fit, length-change (waits_as tid) received w.waits);
  messages_fit = h.messages_fit;
}

-- a change of waits that keeps threads, kinds and what is received
pub lawful-keep : (w : World) (calls made a b tid : ℕ) (g : WaitRow → WaitRow) → ((x : WaitRow) → (g x).thread ≡ x.thread) → ((x : WaitRow) → is_pending (g x) ≡ is_pending x) → ((x : WaitRow) → is_quiet w.messages (g x) ≡ is_quiet w.messages x) → ((x : WaitRow) → goes_twice (g x) ≡ goes_twice x) → ((x : WaitRow) → goes_once (g x) ≡ goes_once x) → IsLawful w calls made a b
    → IsLawful (record w { waits = change (waits_as tid) g w.waits }) calls made a b
lawful-keep w calls made a b tid g same pends stills twice once h = record {
  few = h.few;
  budget = let owed = owed-kept tid g twice once w.waits in let paid = h.budget in omega (arith, owed, paid);
  rows = h.rows;
  draws = h.draws;
  housed = h.housed;
  tables_used = h.tables_used;
  tables_single = h.tables_single;
  tables_few = h.tables_few;
  single = differ-change thread (waits_as tid) g same w.waits h.single;
  threads = every-change (is_of w.threads) (waits_as tid) g (λ x there. rw (same x) there) w.waits h.threads;
  quiet = every-change (is_quiet w.messages) (waits_as tid) g (λ x there. stills x ∙ there) w.waits h.quiet;
  own = own-keep tid g same pends w.messages w.waits h.own;
  told = h.told;
  waits_fit = grind (arith, h.waits_fit, length-change (waits_as tid) g w.waits);
  messages_fit = h.messages_fit;
}

-- events are marked
pub lawful-marks : (w : World) (calls made a b : ℕ) (marks : List ℕ) → IsLawful w calls made a b → IsLawful (record w { marks = marks }) calls made a b
lawful-marks w calls made a b marks h = record {
  few = h.few;
  budget = h.budget;
  rows = h.rows;
  draws = h.draws;
  housed = h.housed;
  tables_used = h.tables_used;
  tables_single = h.tables_single;
  tables_few = h.tables_few;
  single = h.single;
  threads = h.threads;
  quiet = h.quiet;
  own = h.own;
  told = h.told;
  waits_fit = h.waits_fit;
  messages_fit = h.messages_fit;
}

-- a process changes, and keeps its number
pub lawful-processes : (w : World) (calls made a b pid : ℕ) (f : ProcessRow → ProcessRow) → ((p : ProcessRow) → (f p).number ≡ p.number) → IsLawful w calls made a b → IsLawful (record w { processes = change (is_process pid) f w.processes }) calls made a b
lawful-processes w calls made a b pid f same h = record {
  few = h.few;
  budget = h.budget;
  rows = grind (arith, h.rows, length-change (is_process pid) f w.processes);
  draws = h.draws;
  housed = every-more (is_housed w) _ (λ t there. grind (arith, has-change (is_process t.process) (is_process pid) f (λ p. grind (arith, same p)) w.processes)) w.threads h.housed;
  tables_used = h.tables_used;
  tables_single = h.tables_single;
  tables_few = h.tables_few;
  single = h.single;
  threads = h.threads;
  quiet = h.quiet;
  own = h.own;
  told = h.told;
  waits_fit = h.waits_fit;
  messages_fit = h.messages_fit;
}

-- a message enters a queue on which no thread waits that takes it
quiet-enter : (m : MessageRow) (ms : List MessageRow) (xs : List WaitRow) → every (is_quiet ms) xs ≡ true → has (takes m) xs ≡ false → every (is_quiet (ms ++ m ∷ [])) xs ≡ true
quiet-enter m ms [] all none = refl
quiet-enter m ms (x ∷ xs) all none =
    grind (arith, has_none-push (is_queued x.queue) ms m, has_none-push (is_queued_connect x.queue) ms m, birth-turned m.queue x.queue, quiet-enter m ms xs)

-- waiting threads are no more than live threads
pub waits-fit : (ts : List ThreadRow) (xs : List WaitRow) → are_single xs ≡ true → every (is_of ts) xs ≡ true → length xs ≤ count is_alive ts
waits-fit ts [] one all = grind arith
waits-fit ts (x ∷ xs) one all =
    let n = place-left ts xs x.thread (grind arith) (grind arith) (grind arith) (grind arith) in
    grind (arith, n)

-- Messages that ask are no more than live threads, and those that tell of closings no more than client ports, with one
-- too that enters
pub places : (w : World) (calls made a b : ℕ) (m : MessageRow) → IsLawful w calls made a b → (is_asking m ≡ true → is_unsent w m.message.header.client.thread ≡ true) → TellsOnce w m.message m.sender
    → (count is_asking w.messages + cond (is_asking m) 1 0 ≤ count is_alive w.threads) × (count is_closed_post w.messages + cond (is_closed_post m) 1 0 ≤ count is_client_port w.ports)
places w calls made a b m h asks once =
    let ask = asking-pending w.waits (w.messages ++ m ∷ []) (own-enter m w.messages w.waits (λ is. unsent-left w m.message.header.client.thread (asks is)) h.own) in
    let pending = count-bound is_pending w.waits in
    let few = waits-fit w.threads w.waits h.single h.threads in
    let asked = count-push is_asking w.messages m in
    let tell = closings-fit w.ports (w.messages ++ m ∷ []) (told-enter m w.messages w.ports once h.told) in
    let told = count-push is_closed_post w.messages m in
    (omega (arith, ask, pending, few, asked), omega (arith, tell, told))

-- so a message whose place is owed finds it
pub message-place : (w : World) (calls made a b : ℕ) (m : MessageRow) → IsLawful w calls made a b → (is_asking m ≡ true → is_unsent w m.message.header.client.thread ≡ true) → TellsOnce w m.message m.sender → is_owed m.message ≡ true → 0 < b
message-place w calls made a b m h asks once owed =
    let there = places w calls made a b m h asks once in
    let one : cond (is_asking m) 1 0 + cond (is_closed_post m) 1 0 ≡ 1 = rw (one-place m.message, owed) refl in
    omega (arith, there.0, there.1, one, h.messages_fit)

pub lawful-enter : (w : World) (calls made a b : ℕ) (m : MessageRow) → IsLawful w calls made a b → made + owed_rows w < 16 * calls → 0 < b → has (takes m) w.waits ≡ false
    → (is_asking m ≡ true → is_unsent w m.message.header.client.thread ≡ true) → TellsOnce w m.message m.sender → (is_owed m.message ≡ false → owed_messages w < b)
    → IsLawful (record w { messages = w.messages ++ m ∷ [] }) calls (made + 1) a (b - 1)
lawful-enter w calls made a b m h lt place none asks once other = record {
  few = h.few;
  budget = omega arith;
  rows = grind (arith, h.rows);
  draws = every-more (draws_at_most (made + 1)) (draws_at_most (made + 1 + 1)) (draws-more (made + 1) (made + 1 + 1) (omega arith)) w.threads h.draws;
  housed = h.housed;
  tables_used = h.tables_used;
  tables_single = h.tables_single;
  tables_few = omega (arith, h.tables_few);
  single = h.single;
  threads = h.threads;
  quiet = quiet-enter m w.messages w.waits h.quiet none;
  own = own-enter m w.messages w.waits (λ is. unsent-left w m.message.header.client.thread (asks is)) h.own;
  told = told-enter m w.messages w.ports once h.told;
  waits_fit = h.waits_fit;
  messages_fit =
      let there = places w calls made a b m h asks once in
      let asked = count-push is_asking w.messages m in
      let told = count-push is_closed_post w.messages m in
      elim (is_owed m.message) as (λ c. is_owed m.message ≡ c → owed_messages (record w { messages = w.messages ++ m ∷ [] }) ≤ b - 1) [
        | true ↦ λ e. let one : cond (is_asking m) 1 0 + cond (is_closed_post m) 1 0 ≡ 1 = rw (one-place m.message, e) refl in omega (arith, there.0, there.1, asked, told, one, h.messages_fit)
        | false ↦ λ e. let none : cond (is_asking m) 1 0 + cond (is_closed_post m) 1 0 ≡ 0 = rw (one-place m.message, e) refl in let spare = other e in omega (arith, asked, told, none, spare)
      ] refl;
}

-- one message less
pub owed-taken : (q : MessageRow → Bool) (w : World) (m : MessageRow) → first q w.messages ≡ Some m → owed_messages (record w { messages = without_first q w.messages }) ≤ owed_messages w + 1
owed-taken q w m is =
    let asked = count-taken_by is_asking q w.messages m is in
    let told = count-taken_by is_closed_post q w.messages m is in
    let one = one-place m.message in
    let most = at-most-one (is_owed m.message) in
    omega (arith, asked, told, one, most)

quiet-take : (p : MessageRow → Bool) (ms : List MessageRow) (x : WaitRow) → is_quiet ms x ≡ true → is_quiet (without_first p ms) x ≡ true
quiet-take p ms x still = grind (arith, none-taken p (is_queued x.queue) ms, none-taken p (is_queued_connect x.queue) ms)

pub lawful-take : (w : World) (calls made a b : ℕ) (p : MessageRow → Bool) (m : MessageRow) → first p w.messages ≡ Some m → IsLawful w calls made a b
    → IsLawful (record w { messages = without_first p w.messages }) calls made a (b + 1)
lawful-take w calls made a b p m is h = record {
  few = h.few;
  budget = h.budget;
  rows = h.rows;
  draws = h.draws;
  housed = h.housed;
  tables_used = h.tables_used;
  tables_single = h.tables_single;
  tables_few = h.tables_few;
  single = h.single;
  threads = h.threads;
  quiet = every-more (is_quiet w.messages) (is_quiet (without_first p w.messages)) (λ x still. quiet-take p w.messages x still) w.waits h.quiet;
  own = own-take p w.messages w.waits h.own;
  told = told-take p w.messages w.ports h.told;
  waits_fit = h.waits_fit;
  messages_fit = let more = owed-taken p w m is in let fit = h.messages_fit in omega (arith, more, fit);
}

-- messages leave their queues
owed-passed : (p : MessageRow → Bool) (ms : List MessageRow) → count is_asking ms + count is_closed_post ms ≤ count is_asking (without p ms) + count is_closed_post (without p ms) + count p ms
owed-passed p [] = omega arith
owed-passed p (m ∷ ms) =
    let rest = owed-passed p ms in
    elim (p m) as (λ c. p m ≡ c → count is_asking (m ∷ ms) + count is_closed_post (m ∷ ms) ≤ count is_asking (without p (m ∷ ms)) + count is_closed_post (without p (m ∷ ms)) + count p (m ∷ ms)) [
      | true ↦ λ e. elim (asks m.message) as (λ k. asks m.message ≡ k → count is_asking (m ∷ ms) + count is_closed_post (m ∷ ms) ≤ count is_asking (without p (m ∷ ms)) + count is_closed_post (without p (m ∷ ms)) + count p (m ∷ ms)) [
        | true ↦ λ k. grind (arith, e, k, asks_no_closing m.message k, rest)
        | false ↦ λ k. grind (arith, e, k, rest)
      ] refl
      | false ↦ λ e. grind (arith, e, rest)
    ] refl

pub owed-withdrawn : (p : MessageRow → Bool) (w : World) → owed_messages (record w { messages = without p w.messages }) ≤ owed_messages w + count p w.messages
owed-withdrawn p w =
    let passed = owed-passed p w.messages in
    let asked = count-left is_asking p w.messages in
    let told = count-left is_closed_post p w.messages in
    omega (arith, passed, asked, told)

quiet-withdraw : (p : MessageRow → Bool) (ms : List MessageRow) (x : WaitRow) → is_quiet ms x ≡ true → is_quiet (without p ms) x ≡ true
quiet-withdraw p ms x still = grind (arith, has_none-without (is_queued x.queue) p ms, has_none-without (is_queued_connect x.queue) p ms)

pub lawful-withdraw : (w : World) (calls made a b : ℕ) (p : MessageRow → Bool) → IsLawful w calls made a b
    → IsLawful (record w { messages = without p w.messages }) calls made a (b + count p w.messages)
lawful-withdraw w calls made a b p h = record {
  few = h.few;
  budget = h.budget;
  rows = h.rows;
  draws = h.draws;
  housed = h.housed;
  tables_used = h.tables_used;
  tables_single = h.tables_single;
  tables_few = h.tables_few;
  single = h.single;
  threads = h.threads;
  quiet = every-more (is_quiet w.messages) (is_quiet (without p w.messages)) (λ x still. quiet-withdraw p w.messages x still) w.waits h.quiet;
  own = own-withdraw p w.messages w.waits h.own;
  told = told-withdraw p w.messages w.ports h.told;
  waits_fit = h.waits_fit;
  messages_fit = let more = owed-withdrawn p w in let fit = h.messages_fit in omega (arith, more, fit);
}

-- Places
-- a live thread that doesn't wait has a place for its wait
pub wait-place : (w : World) (calls made a b q : ℕ) → IsLawful w calls made a b → has (is_live_thread q) w.threads ≡ true → has (waits_as q) w.waits ≡ false → 0 < a
wait-place w calls made a b q h there none = grind (arith, h.waits_fit, place-left w.threads w.waits q h.single h.threads there none)

-- numbers that may be drawn
pub drawn-numbers : (n who : ℕ) (ts : List ThreadRow) (t : ThreadRow) → every (draws_at_most n) ts ≡ true → first (is_thread who) ts ≡ Some t → (t.next_identifier ≤ n) × (t.next_ordinal ≤ n)
drawn-numbers n who ts t all is =
    let one : draws_at_most n t ≡ true = every-first (draws_at_most n) (is_thread who) ts t all is in
    (grind (arith, nat_tests), grind (arith, nat_tests))

-- what entered a queue stands there
pub queued-push : (m : MessageRow) (ms : List MessageRow) → has (is_queued m.queue) (ms ++ m ∷ []) ≡ true
queued-push m ms = has-push (is_queued m.queue) ms m (birth-self m.queue)
