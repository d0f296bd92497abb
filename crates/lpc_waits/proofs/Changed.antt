-- A row that is changed, but for its thread and for what its numbers are made of.
use Rattle.std.proofs.Common.{◌≡◌, ◌≢◌, ◌+◌, ◌≤◌, ◌<◌, arith, ℕ, suc, Bool, true, false, cond, length, refl, sym, ap, ◌∙◌, subst, inl, inr, List, [], ◌∷◌, Some, None, is_some, option_map, true≢false}
use Rattle.std.specs.Prelude.{if◌then◌else◌}
use Rattle.std.proofs.lemmas.Bool.{cases_Bool, eqb-true}
use Rattle.lpc_base.specs.Rows.{change, count, first, has, which, without}
use Rattle.lpc_base.proofs.Differ.{rest-differ, rest-none}
use Rattle.lpc_slots.specs.declared.Key.{Key}
use Rattle.lpc_slots.specs.declared.chain.Chain.{Chain}
use Rattle.lpc_slots.specs.declared.chain.Links.{Links}
use Rattle.lpc_slots.specs.Table.{Table, at, at_key, is_key, keys_of, listed, parts, with_value}
use Rattle.lpc_slots.specs.Chain.{IsAway, IsDistinct, StandsFor, links_at}
use Rattle.lpc_slots.proofs.Chains.{SameLinks, at_other, at_same, linked_same}
use Rattle.lpc_slots.proofs.Keys.{key_apart, key_cases, key_itself}
use Rattle.lpc_slots.proofs.Same.{listed_put}
use Rattle.lpc_slots.specs.Buckets.{Stand, keys_in}
use Rattle.lpc_waits.specs.Table.{WaitingThread, are_apart, is_of, with_row}
use Rattle.lpc_waits.specs.declared.chains.Chains.{Chains}
use Rattle.lpc_waits.specs.declared.numbers.Numbers.{Numbers}
use Rattle.lpc_waits.specs.declared.WaitRow.{WaitRow}
use Rattle.lpc_waits.specs.Kept.{AreKept, has_offer, is_event_row, seen}
use Rattle.lpc_waits.specs.Lent.{keyed, order_links, shown, waiting_of}
use Rattle.lpc_waits.specs.Layout.{AreOn, by_port, by_process, by_queue, by_thread, port_links, process_links, queue_links, row_numbers, thread_links}
use Rattle.lpc_waits.specs.Sought.{is_by, key_of_first}
use Rattle.lpc_waits.proofs.Apart.{apart_change}
use Rattle.lpc_waits.proofs.Chained.{keyed_distinct}
use Rattle.lpc_waits.proofs.Found.{found_is, length_shown}

abbrev Row : Type 0
Row = Key × WaitingThread

-- ---- the row of a key is the row of its thread

-- two tests agree on each row
abbrev pub Agree : (Row → Bool) → (Row → Bool) → List Row → Type 0
Agree p q [] = Unit {0}
Agree p q (row ∷ rows) = (p row ≡ q row) × Agree p q rows

agree_none : (key : Key) (tid : ℕ) (rows : List Row) → IsAway (Some key) (keys_of rows) → has (is_of tid) (shown rows) ≡ false → Agree (at_key key) (is_by tid) rows
agree_none key tid [] away none = tt
agree_none key tid (row ∷ rows) away none =
    let off : at_key key row ≡ false = key_apart row.0 key (λ e. away.0 (ap Some (sym e))) in
    elim (cases_Bool (is_by tid row)) [
      | inl on ↦ absurd (true≢false (sym (ap (λ b. is_some (cond b (Some row.1) (first (is_of tid) (shown rows)))) on) ∙ none))
      | inr other ↦ (off ∙ sym other, agree_none key tid rows away.1 (sym (ap (λ b. is_some (cond b (Some row.1) (first (is_of tid) (shown rows)))) other) ∙ none))
    ]

apart_from : (test : Row → Bool) (key k : Key) (row : WaitingThread) (rows : List Row) → first test rows ≡ Some (key, row) → IsAway (Some k) (keys_of rows) → k ≢ key
apart_from test key k row [] is away = absurd (cc)
apart_from test key k row (other ∷ rows) is away =
    elim (cases_Bool (test other)) [
      | inl on ↦
          let both : Some other ≡ Some (key, row) = sym (ap (λ b. cond b (Some other) (first test rows)) on) ∙ is in
          let same : other ≡ (key, row) = cc in
          λ e. away.0 (ap Some (e ∙ sym (ap (λ (r : Row). r.0) same)))
      | inr off ↦ apart_from test key k row rows (sym (ap (λ b. cond b (Some other) (first test rows)) off) ∙ is) away.1
    ]

pub agree : (key : Key) (tid : ℕ) (row : WaitingThread) (rows : List Row) → IsDistinct (keys_of rows) → are_apart (shown rows) ≡ true → first (is_by tid) rows ≡ Some (key, row) → Agree (at_key key) (is_by tid) rows
agree key tid row [] distinct apart is = tt
agree key tid row (other ∷ rows) distinct apart is =
    elim (cases_Bool (is_by tid other)) [
      | inl on ↦
          let both : Some other ≡ Some (key, row) = sym (ap (λ b. cond b (Some other) (first (is_by tid) rows)) on) ∙ is in
          let same : other ≡ (key, row) = cc in
          let own : other.0 ≡ key = ap (λ (r : Row). r.0) same in
          let none = rest-none (λ (r : WaitingThread). r.thread) other.1 (shown rows) tid apart (eqb-true other.1.thread tid on) in
          (key_itself other.0 key own ∙ sym on, agree_none key tid rows (subst (λ (k : Key). IsAway (Some k) (keys_of rows)) own distinct.0) none)
      | inr off ↦
          let later : first (is_by tid) rows ≡ Some (key, row) = sym (ap (λ b. cond b (Some other) (first (is_by tid) rows)) off) ∙ is in
          (key_apart other.0 key (apart_from (is_by tid) key other.0 row rows later distinct.0) ∙ sym off, agree key tid row rows distinct.1 (rest-differ (λ (r : WaitingThread). r.thread) other.1 (shown rows) apart) later)
    ]

-- what is done to the row of the key is done to that of the thread
pub change_agreed : (p : Row → Bool) (t : WaitingThread → Bool) (f : WaitingThread → WaitingThread) (rows : List Row) → Agree p (λ row. t row.1) rows → shown (change p (λ row. (row.0, f row.1)) rows) ≡ change t f (shown rows)
change_agreed p t f [] same = refl
change_agreed p t f (row ∷ rows) same =
    elim (cases_Bool (t row.1)) [
      | inl on ↦ rw (same.0, on) (ap (λ rs. f row.1 ∷ rs) (change_agreed p t f rows same.1))
      | inr off ↦ rw (same.0, off) (ap (λ rs. row.1 ∷ rs) (change_agreed p t f rows same.1))
    ]

pub without_agreed : (p : Row → Bool) (t : WaitingThread → Bool) (rows : List Row) → Agree p (λ row. t row.1) rows → shown (without p rows) ≡ without t (shown rows)
without_agreed p t [] same = refl
without_agreed p t (row ∷ rows) same =
    elim (cases_Bool (t row.1)) [
      | inl on ↦ rw (same.0, on) (without_agreed p t rows same.1)
      | inr off ↦ rw (same.0, off) (ap (λ rs. row.1 ∷ rs) (without_agreed p t rows same.1))
    ]

-- ---- counts

count-change : (p t : WaitingThread → Bool) (f : WaitingThread → WaitingThread) → ((row : WaitingThread) → p (f row) ≡ p row) → (rows : List WaitingThread) → count p (change t f rows) ≡ count p rows
count-change p t f same [] = refl
count-change p t f same (row ∷ rows) = grind (arith, same row, count-change p t f same rows)

length-change : (t : WaitingThread → Bool) (f : WaitingThread → WaitingThread) (rows : List WaitingThread) → length (change t f rows) ≡ length rows
length-change t f [] = refl
length-change t f (row ∷ rows) = ap suc (length-change t f rows)

-- the one row of a thread counts otherwise
abbrev pub one-if : Bool → ℕ
one-if b = if b then 1 else 0

change-off : (t : WaitingThread → Bool) (f : WaitingThread → WaitingThread) (rows : List WaitingThread) → has t rows ≡ false → change t f rows ≡ rows
change-off t f [] none = refl
change-off t f (row ∷ rows) none = grind (arith, change-off t f rows)

pub count-one : (p : WaitingThread → Bool) (tid : ℕ) (f : WaitingThread → WaitingThread) (row : WaitingThread) (rows : List WaitingThread) → are_apart rows ≡ true → first (is_of tid) rows ≡ Some row → count p (change (is_of tid) f rows) + one-if (p row) ≡ count p rows + one-if (p (f row))
count-one p tid f row [] apart is = absurd (cc)
count-one p tid f row (other ∷ rows) apart is =
    elim (cases_Bool (is_of tid other)) [
      | inl on ↦
          let both : Some other ≡ Some row = sym (ap (λ b. cond b (Some other) (first (is_of tid) rows)) on) ∙ is in
          let same : other ≡ row = cc in
          let none = rest-none (λ (r : WaitingThread). r.thread) other rows tid apart (eqb-true other.thread tid on) in
          let rest = change-off (is_of tid) f rows none in
          rw (on, rest, same) (sums (p row) (p (f row)))
      | inr off ↦
          let later : first (is_of tid) rows ≡ Some row = sym (ap (λ b. cond b (Some other) (first (is_of tid) rows)) off) ∙ is in
          rw off (more (p other) (count-one p tid f row rows (rest-differ (λ (r : WaitingThread). r.thread) other rows apart) later))
    ]
  where
    sums : (one two : Bool) → length (cond two (f row ∷ which p rows) (which p rows)) + one-if one ≡ length (cond one (row ∷ which p rows) (which p rows)) + one-if two
    sums true true = omega arith
    sums true false = omega arith
    sums false true = omega arith
    sums false false = omega arith

    more : (b : Bool) → count p (change (is_of tid) f rows) + one-if (p row) ≡ count p rows + one-if (p (f row)) → length (cond b (other ∷ which p (change (is_of tid) f rows)) (which p (change (is_of tid) f rows))) + one-if (p row) ≡ length (cond b (other ∷ which p rows) (which p rows)) + one-if (p (f row))
    more true sum = omega (arith, sum)
    more false sum = sum

-- what counts is within the count
pub within-one : (p : WaitingThread → Bool) (tid : ℕ) (row : WaitingThread) (rows : List WaitingThread) → first (is_of tid) rows ≡ Some row → one-if (p row) ≤ count p rows
within-one p tid row [] is = absurd (cc)
within-one p tid row (other ∷ rows) is =
    elim (cases_Bool (is_of tid other)) [
      | inl on ↦
          let both : Some other ≡ Some row = sym (ap (λ b. cond b (Some other) (first (is_of tid) rows)) on) ∙ is in
          let same : other ≡ row = cc in
          rw same (by (p row))
      | inr off ↦
          let later = within-one p tid row rows (sym (ap (λ b. cond b (Some other) (first (is_of tid) rows)) off) ∙ is) in
          more (p other) later
    ]
  where
    by : (b : Bool) → one-if b ≤ length (cond b (row ∷ which p rows) (which p rows))
    by true = omega arith
    by false = omega arith

    more : (b : Bool) → one-if (p row) ≤ count p rows → one-if (p row) ≤ length (cond b (other ∷ which p rows) (which p rows))
    more true le = omega (arith, le)
    more false le = le

-- ---- the table

module _ (rows : Table WaitRow) (key : Key) (f : WaitingThread → WaitingThread) where
  abbrev pub fresh : WaitRow → WaitRow
  fresh standing =
      let row : WaitingThread = f (waiting_of standing) in
      record standing { tid = row.thread; wait = row.wait; message = row.message; offer = row.offer; accepted = row.accepted }

  parts_changed : (all : List (Key × WaitRow)) → parts waiting_of (change (at_key key) (λ row. (row.0, fresh row.1)) all) ≡ change (at_key key) (λ row. (row.0, f row.1)) (parts waiting_of all)
  parts_changed [] = refl
  parts_changed (row ∷ all) =
      elim (cases_Bool (is_key row.0 key)) [
        | inl on ↦ rw on (ap (λ rs. (row.0, f (waiting_of row.1)) ∷ rs) (parts_changed all))
        | inr off ↦ rw off (ap (λ rs. (row.0, (waiting_of row.1)) ∷ rs) (parts_changed all))
      ]

  pub keyed_changed : (standing : WaitRow) → at rows key ≡ Some standing → keyed (with_value rows key (fresh standing)) ≡ change (at_key key) (λ row. (row.0, f row.1)) (keyed rows)
  keyed_changed standing there = ap (parts waiting_of) (listed_put key fresh rows standing there) ∙ parts_changed (listed rows)

  -- the links stay
  same_links : (links_of : WaitRow → Links) → ((standing : WaitRow) → links_of (fresh standing) ≡ links_of standing) → (standing : WaitRow) → at rows key ≡ Some standing → (q : Key) → links_at links_of (with_value rows key (fresh standing)) q ≡ links_at links_of rows q
  same_links links_of same standing there q =
      elim (key_cases q key) [
        | inl here ↦
            ap (λ k. links_at links_of (with_value rows key (fresh standing)) k) here ∙ ap (option_map links_of) (at_same rows key (fresh standing))
            ∙ ap Some (same standing) ∙ sym (ap (option_map links_of) there) ∙ sym (ap (λ k. links_at links_of rows k) here)
        | inr away ↦ ap (option_map links_of) (at_other rows key (fresh standing) q (λ e. away (let k : key ≡ q = cc in sym k)))
      ]

  stands_changed : {LIST : ℕ} (links_of : WaitRow → Links) → ((standing : WaitRow) → links_of (fresh standing) ≡ links_of standing) → (standing : WaitRow) → at rows key ≡ Some standing → (chain : Chain LIST) (keys : List Key) → StandsFor links_of rows chain keys → StandsFor links_of (with_value rows key (fresh standing)) chain keys
  stands_changed links_of same standing there chain keys stands = record {
    linked = linked_same (links_at links_of rows) (links_at links_of (with_value rows key (fresh standing))) None keys None (each keys) stands.linked;
    distinct = stands.distinct;
    first = stands.first;
    last = stands.last;
  }
    where
      each : (ks : List Key) → SameLinks (links_at links_of rows) (links_at links_of (with_value rows key (fresh standing))) ks
      each [] = tt
      each (k ∷ ks) = (same_links links_of same standing there k, each ks)

  numbers_changed : (number_of : WaitingThread → ℕ) → ((row : WaitingThread) → number_of (f row) ≡ number_of row) → (all : List Row) → parts number_of (change (at_key key) (λ row. (row.0, f row.1)) all) ≡ parts number_of all
  numbers_changed number_of same [] = refl
  numbers_changed number_of same (row ∷ all) =
      elim (cases_Bool (is_key row.0 key)) [
        | inl on ↦ rw on (λ i. (row.0, same row.1 i) ∷ numbers_changed number_of same all i)
        | inr off ↦ rw off (ap (λ rs. (row.0, number_of row.1) ∷ rs) (numbers_changed number_of same all))
      ]

  keys_changed : (all : List Row) → keys_of (change (at_key key) (λ row. (row.0, f row.1)) all) ≡ keys_of all
  keys_changed [] = refl
  keys_changed (row ∷ all) =
      elim (cases_Bool (is_key row.0 key)) [
        | inl on ↦ rw on (ap (λ ks. row.0 ∷ ks) (keys_changed all))
        | inr off ↦ rw off (ap (λ ks. row.0 ∷ ks) (keys_changed all))
      ]

  on_changed : {LIST : ℕ} (links_of : WaitRow → Links) (number_of : WaitingThread → ℕ) → ((standing : WaitRow) → links_of (fresh standing) ≡ links_of standing) → ((row : WaitingThread) → number_of (f row) ≡ number_of row) → (standing : WaitRow) → at rows key ≡ Some standing → (chains : List (Chain LIST)) → Stand links_of rows chains (parts number_of (keyed rows)) → Stand links_of (with_value rows key (fresh standing)) chains (parts number_of (keyed (with_value rows key (fresh standing))))
  on_changed links_of number_of same numbers standing there chains stand =
      let all = ap (parts number_of) (keyed_changed standing there) ∙ numbers_changed number_of numbers (keyed rows) in
      subst (λ (rs : List (Key × ℕ)). Stand links_of (with_value rows key (fresh standing)) chains rs) (sym all)
      (λ rest chain found. stands_changed links_of same standing there chain (keys_in (length chains) rest (parts number_of (keyed rows))) (stand rest chain found))

  module _ (same : (row : WaitingThread) → row_numbers (f row) ≡ row_numbers row) where
    all_changed : (chains : Chains) (standing : WaitRow) → at rows key ≡ Some standing → AreOn rows chains (keyed rows) → AreOn (with_value rows key (fresh standing)) chains (keyed (with_value rows key (fresh standing)))
    all_changed chains standing there on = record {
      order = subst (λ (ks : List Key). StandsFor order_links (with_value rows key (fresh standing)) chains.order ks) (sym (ap keys_of (keyed_changed standing there) ∙ keys_changed (keyed rows))) (stands_changed order_links (λ s. refl) standing there chains.order (keys_of (keyed rows)) on.order);
      threads = on_changed thread_links by_thread (λ s. refl) (λ row. ap (λ (n : Numbers). n.thread) (same row)) standing there chains.threads.chains.items on.threads;
      ports = on_changed port_links by_port (λ s. refl) (λ row. ap (λ (n : Numbers). n.port) (same row)) standing there chains.ports.chains.items on.ports;
      queues = on_changed queue_links by_queue (λ s. refl) (λ row. ap (λ (n : Numbers). n.queue) (same row)) standing there chains.queues.chains.items on.queues;
      processes = on_changed process_links by_process (λ s. refl) (λ row. ap (λ (n : Numbers). n.process) (same row)) standing there chains.processes.chains.items on.processes;
    }

    module _ (chains : Chains) (events offers tid : ℕ) (kept : AreKept rows chains events offers) (is : key_of_first (is_by tid) (keyed rows) ≡ Some key) (standing : WaitRow) (there : at rows key ≡ Some standing) where
      abbrev changed : Table WaitRow
      changed = with_value rows key (fresh standing)

      shown_changed : shown (keyed changed) ≡ change (is_of tid) f (shown (keyed rows))
      shown_changed =
          ap shown (keyed_changed standing there)
          ∙ change_agreed (at_key key) (is_of tid) f (keyed rows) (agree key tid (waiting_of standing) (keyed rows) (keyed_distinct rows) kept.apart (found_is rows (is_by tid) key is standing there))

      -- what contracts see of it
      pub seen_changed : seen changed ≡ with_row (seen rows) tid f
      seen_changed i = record { rows = shown_changed i; spare = rows.spare; made = rows.made }

      long : length (keyed changed) ≡ length (keyed rows)
      long = sym (length_shown (keyed changed)) ∙ ap length shown_changed ∙ length-change (is_of tid) f (shown (keyed rows)) ∙ length_shown (keyed rows)

      -- what is kept, where another number of offers may be told
      pub kept_changed : (now : ℕ) → ((row : WaitingThread) → let changed = f row in changed.thread ≡ row.thread) → ((row : WaitingThread) → is_event_row (f row) ≡ is_event_row row) → now ≡ count has_offer (change (is_of tid) f (shown (keyed rows))) → AreKept changed chains events now
      kept_changed now threads event offers_now = record {
        apart = ap are_apart shown_changed ∙ apart_change (is_of tid) f threads (shown (keyed rows)) kept.apart;
        on = all_changed chains standing there kept.on;
        wide = λ some. kept.wide (subst (λ (n : ℕ). 0 < rows.spare + n) long some);
        events_are = kept.events_are ∙ sym (ap (count is_event_row) shown_changed ∙ count-change is_event_row (is_of tid) f event (shown (keyed rows)));
        offers_are = offers_now ∙ sym (ap (count has_offer) shown_changed);
      }

      pub same_offers : ((row : WaitingThread) → has_offer (f row) ≡ has_offer row) → offers ≡ count has_offer (change (is_of tid) f (shown (keyed rows)))
      same_offers offer = kept.offers_are ∙ sym (count-change has_offer (is_of tid) f offer (shown (keyed rows)))
