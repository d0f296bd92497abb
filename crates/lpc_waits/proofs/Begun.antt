-- A wait that begins, and one that ends.
use Rattle.std.proofs.Common.{◌≡◌, ◌≢◌, ◌+◌, ◌-◌, ◌≤◌, ◌<◌, arith, ℕ, Bool, true, false, cond, length, refl, sym, ap, ◌∙◌, subst, inl, inr, List, [], ◌∷◌, ◌++◌, Option, Some, None, OnSome, IsSome, is_some, option_map, slice_get, true≢false}
use Rattle.std.specs.Prelude.{if◌then◌else◌}
use Rattle.std.proofs.lemmas.Bool.{cases_Bool, cases_lt, eqb-true}
use Rattle.lpc_base.specs.Rows.{count, first, which, without}
use Rattle.lpc_base.proofs.Differ.{rest-differ, rest-none}
use Rattle.lpc_base.proofs.RowWords.{count-bound, count-push, first-passes, without-none}
use Rattle.lpc_slots.specs.declared.Key.{Key}
use Rattle.lpc_slots.specs.Table.{Table, at, at_key, inserted, is_key, keys_of, listed, parts, removed}
use Rattle.lpc_slots.specs.Chain.{IsAway, StandsFor}
use Rattle.lpc_slots.specs.declared.chain.Chain.{Chain}
use Rattle.lpc_slots.specs.declared.chain.Links.{Links}
use Rattle.lpc_slots.proofs.Frames.{at_inserted, away_listed, inserted_beside, keys_parts, parts_push, parts_without, removed_beside, stands_beside, stands_kept}
use Rattle.lpc_slots.proofs.Keys.{key_itself}
use Rattle.lpc_slots.proofs.Same.{first_own}
use Rattle.lpc_slots.specs.Buckets.{Stand, keys_in}
use Rattle.lpc_slots.proofs.Bucketed.{beside_stand, empty_chain}
use Rattle.lpc_waits.specs.Table.{WaitingThread, are_apart, is_of}
use Rattle.lpc_waits.specs.declared.chains.Chains.{Chains}
use Rattle.lpc_waits.specs.declared.numbers.Numbers.{Numbers}
use Rattle.lpc_waits.specs.declared.WaitRow.{WaitRow}
use Rattle.lpc_waits.specs.Kept.{AreKept, has_offer, is_event_row, seen}
use Rattle.lpc_waits.specs.Lent.{keyed, order_links, shown, waiting_of}
use Rattle.lpc_waits.specs.Layout.{AreOn, AreWide, IsOf, KeepsRows, NamesNone, StandsAlone, by_port, by_process, by_queue, by_thread, port_links, process_links, queue_links, thread_links, with_order, with_port, with_process, with_queue, with_thread}
use Rattle.lpc_waits.specs.Numbers.{numbers_of}
use Rattle.lpc_waits.specs.Sought.{is_by, key_of_first}
use Rattle.lpc_waits.proofs.Apart.{apart_push, apart_without}
use Rattle.lpc_waits.proofs.Chained.{kept_keyed, keyed_distinct, length_keyed}
use Rattle.lpc_waits.proofs.Changed.{agree, one-if, without_agreed}
use Rattle.lpc_waits.proofs.Found.{all_apart, found_is, length_shown, row_found}

abbrev Row : Type 0
Row = Key × WaitingThread

-- another row of the table is made or goes
pub on_beside : (old new : Table WaitRow) (chains : Chains) (all : List Row) (key : Key) → ((q : Key) → q ≢ key → at new q ≡ at old q) → IsAway (Some key) (keys_of all) → AreOn old chains all → AreOn new chains all
on_beside old new chains all key same away on =
    let off : (number_of : WaitingThread → ℕ) → IsAway (Some key) (keys_of (parts number_of all)) = λ number_of. subst (λ (ks : List Key). IsAway (Some key) ks) (sym (keys_parts number_of all)) away in
    record {
      order = stands_beside order_links old new chains.order key (keys_of all) same away on.order;
      threads = beside_stand thread_links with_thread old new chains.threads.chains.items (parts by_thread all) key same (off by_thread) on.threads;
      ports = beside_stand port_links with_port old new chains.ports.chains.items (parts by_port all) key same (off by_port) on.ports;
      queues = beside_stand queue_links with_queue old new chains.queues.chains.items (parts by_queue all) key same (off by_queue) on.queues;
      processes = beside_stand process_links with_process old new chains.processes.chains.items (parts by_process all) key same (off by_process) on.processes;
    }

shown_push : (all : List Row) (key : Key) (row : WaitingThread) → shown (all ++ (key, row) ∷ []) ≡ shown all ++ row ∷ []
shown_push [] key row = refl
shown_push (other ∷ all) key row = ap (λ rs. other.1 ∷ rs) (shown_push all key row)

-- a row behind the others
module _ (rows : Table WaitRow) (key : Key) (standing : WaitRow) (vacant : at rows key ≡ None) where
  pub keyed_away : IsAway (Some key) (keys_of (keyed rows))
  keyed_away = subst (λ (ks : List Key). IsAway (Some key) ks) (sym (keys_parts waiting_of (listed rows))) (away_listed rows key vacant)

  module _ (mid : Table WaitRow) (table : mid ≡ inserted rows key standing) (list : listed mid ≡ listed rows ++ (key, standing) ∷ []) where
    pub keyed_push : keyed mid ≡ keyed rows ++ (key, (waiting_of standing)) ∷ []
    keyed_push = ap (parts waiting_of) list ∙ parts_push waiting_of (listed rows) key standing

    -- it stands on no chain yet
    pub made_alone : NamesNone standing → StandsAlone mid key
    made_alone none =
        let here : at mid key ≡ Some standing = ap (λ (t : Table WaitRow). at t key) table ∙ at_inserted rows key standing in
        record {
          threads = ap (option_map thread_links) here ∙ ap Some none.threads;
          ports = ap (option_map port_links) here ∙ ap Some none.ports;
          queues = ap (option_map queue_links) here ∙ ap Some none.queues;
          processes = ap (option_map process_links) here ∙ ap Some none.processes;
          order = ap (option_map order_links) here ∙ ap Some none.order;
        }

    -- the chains stand for the rows without it
    pub on_made : (chains : Chains) → AreOn rows chains (keyed rows) → AreOn mid chains (keyed rows)
    on_made chains on = on_beside rows mid chains (keyed rows) key (λ q other. ap (λ (t : Table WaitRow). at t q) table ∙ inserted_beside rows key standing q other) keyed_away on

    module _ (new : Table WaitRow) (keeps : KeepsRows mid new) where
      all_pushed : keyed new ≡ keyed rows ++ (key, (waiting_of standing)) ∷ []
      all_pushed = kept_keyed mid new keeps ∙ keyed_push

      pub shown_pushed : shown (keyed new) ≡ shown (keyed rows) ++ (waiting_of standing) ∷ []
      shown_pushed = ap shown all_pushed ∙ shown_push (keyed rows) key (waiting_of standing)

      pub seen_pushed : seen new ≡ record { rows = shown (keyed rows) ++ (waiting_of standing) ∷ []; spare = rows.spare - 1; made = rows.made + 1 }
      seen_pushed i = record {
        rows = shown_pushed i;
        spare = (keeps.spare ∙ ap (λ (t : Table WaitRow). t.spare) table) i;
        made = (keeps.made ∙ ap (λ (t : Table WaitRow). t.made) table) i;
      }

      pub kept_pushed : (old now : Chains) (events offers more : ℕ) → AreKept rows old events offers → first (is_of (waiting_of standing).thread) (shown (keyed rows)) ≡ None → AreOn new now (keyed rows ++ (key, (waiting_of standing)) ∷ []) → AreWide now → more ≡ one-if (is_event_row (waiting_of standing)) → has_offer (waiting_of standing) ≡ false → AreKept new now (events + more) offers
      kept_pushed old now events offers more kept none on wide one off =
          let ones : count is_event_row (shown (keyed rows) ++ (waiting_of standing) ∷ []) ≡ count is_event_row (shown (keyed rows)) + one-if (is_event_row (waiting_of standing)) = count-push is_event_row (shown (keyed rows)) (waiting_of standing) in
          let twos : count has_offer (shown (keyed rows) ++ (waiting_of standing) ∷ []) ≡ count has_offer (shown (keyed rows)) + one-if (has_offer (waiting_of standing)) = count-push has_offer (shown (keyed rows)) (waiting_of standing) in
          let zero_one : one-if (has_offer (waiting_of standing)) ≡ one-if false = ap one-if off in
          record {
            apart = ap are_apart shown_pushed ∙ apart_push (shown (keyed rows)) (waiting_of standing) kept.apart (ap is_some none);
            on = subst (λ (all : List Row). AreOn new now all) (sym all_pushed) on;
            wide = λ some. wide;
            events_are = omega (arith, kept.events_are, one, ones) ∙ sym (ap (count is_event_row) shown_pushed);
            offers_are = omega (arith, kept.offers_are, twos, zero_one) ∙ sym (ap (count has_offer) shown_pushed);
          }

-- there are no more that count than rows
pub few_counted : (p : WaitingThread → Bool) (rows : Table WaitRow) (n : ℕ) → n ≡ count p (shown (keyed rows)) → n ≤ length (listed rows)
few_counted p rows n are = omega (arith, are, count-bound p (shown (keyed rows)), length_shown (keyed rows), length_keyed rows)

-- ---- a row that goes

away_gone : (key : Key) (all : List Row) → IsAway (Some key) (keys_of (without (at_key key) all))
away_gone key [] = tt
away_gone key (row ∷ all) =
    elim (cases_Bool (is_key row.0 key)) [
      | inl on ↦ rw on (away_gone key all)
      | inr off ↦ rw off ((λ same. let e : row.0 ≡ key = cc in true≢false (sym (key_itself row.0 key e) ∙ off)), away_gone key all)
    ]

-- a count without the one row of a thread
pub count_gone : (p : WaitingThread → Bool) (tid : ℕ) (row : WaitingThread) (rows : List WaitingThread) → are_apart rows ≡ true → first (is_of tid) rows ≡ Some row → count p (without (is_of tid) rows) + one-if (p row) ≡ count p rows
count_gone p tid row [] apart is = absurd (cc)
count_gone p tid row (other ∷ rows) apart is =
    elim (cases_Bool (is_of tid other)) [
      | inl on ↦
          let both : Some other ≡ Some row = sym (ap (λ b. cond b (Some other) (first (is_of tid) rows)) on) ∙ is in
          let same : other ≡ row = cc in
          let none = rest-none (λ (r : WaitingThread). r.thread) other rows tid apart (eqb-true other.thread tid on) in
          let rest = without-none (is_of tid) rows none in
          rw (on, rest, same) (by (p row))
      | inr off ↦
          let later = count_gone p tid row rows (rest-differ (λ (r : WaitingThread). r.thread) other rows apart) (sym (ap (λ b. cond b (Some other) (first (is_of tid) rows)) off) ∙ is) in
          rw off (more (p other) later)
    ]
  where
    by : (b : Bool) → count p rows + one-if b ≡ length (cond b (row ∷ which p rows) (which p rows))
    by true = omega arith
    by false = omega arith

    more : (b : Bool) → count p (without (is_of tid) rows) + one-if (p row) ≡ count p rows → length (cond b (other ∷ which p (without (is_of tid) rows)) (which p (without (is_of tid) rows))) + one-if (p row) ≡ length (cond b (other ∷ which p rows) (which p rows))
    more true sum = omega (arith, sum)
    more false sum = sum

-- the thread of the row that was found
thread_of_row : (rows : Table WaitRow) (key : Key) (tid : ℕ) (standing : WaitRow) → key_of_first (is_by tid) (keyed rows) ≡ Some key → at rows key ≡ Some standing → (waiting_of standing).thread ≡ tid
thread_of_row rows key tid standing is found = eqb-true (waiting_of standing).thread tid (first-passes (is_by tid) (keyed rows) (key, (waiting_of standing)) (found_is rows (is_by tid) key is standing found))

module _ (rows : Table WaitRow) (key : Key) (tid : ℕ) (chains : Chains) (events offers : ℕ) (kept : AreKept rows chains events offers) (is : key_of_first (is_by tid) (keyed rows) ≡ Some key) (standing : WaitRow) (found : at rows key ≡ Some standing) where
  -- it is the row of its key
  pub is_of_key : (numbers : Numbers) → numbers ≡ numbers_of tid (waiting_of standing).wait → IsOf key numbers (keyed rows)
  is_of_key numbers told = record {
    row = (waiting_of standing);
    distinct = keyed_distinct rows;
    stands = first_own (is_by tid) (keyed rows) key (all_apart (keyed rows) (keyed_distinct rows)) is ∙ found_is rows (is_by tid) key is standing found;
    own = ap (λ thread. numbers_of thread (waiting_of standing).wait) (thread_of_row rows key tid standing is found) ∙ sym told;
  }

  pub is_wide : AreWide chains
  is_wide = kept.wide (some (keyed rows) (found_is rows (is_by tid) key is standing found))
    where
      some : (all : List Row) → first (is_by tid) all ≡ Some (key, (waiting_of standing)) → 0 < rows.spare + length all
      some [] none = absurd (cc)
      some (row ∷ all) one = omega arith

  pub row_is : first (is_of tid) (shown (keyed rows)) ≡ Some (waiting_of standing)
  row_is = row_found rows tid key standing is found

  module _ (mid new : Table WaitRow) (keeps : KeepsRows rows mid) (table : new ≡ removed mid key) (list : listed new ≡ without (at_key key) (listed mid)) where
    all_left : keyed new ≡ without (at_key key) (keyed rows)
    all_left = ap (parts waiting_of) list ∙ parts_without waiting_of key (listed mid) ∙ ap (without (at_key key)) (kept_keyed rows mid keeps)

    pub shown_left : shown (keyed new) ≡ without (is_of tid) (shown (keyed rows))
    shown_left = ap shown all_left ∙ without_agreed (at_key key) (is_of tid) (keyed rows) (agree key tid (waiting_of standing) (keyed rows) (keyed_distinct rows) kept.apart (found_is rows (is_by tid) key is standing found))

    pub spare_left : new.spare ≡ rows.spare + 1
    spare_left = ap (λ (t : Table WaitRow). t.spare) table ∙ ap (λ n. n + 1) keeps.spare

    pub made_left : new.made ≡ rows.made
    made_left = ap (λ (t : Table WaitRow). t.made) table ∙ keeps.made

    pub kept_left : (now : Chains) (one two : ℕ) → AreOn mid now (without (at_key key) (keyed rows)) → AreWide now → one ≡ one-if (is_event_row (waiting_of standing)) → two ≡ one-if (has_offer (waiting_of standing)) → AreKept new now (events - one) (offers - two)
    kept_left now one two on wide one_is two_is =
        let ones = count_gone is_event_row tid (waiting_of standing) (shown (keyed rows)) kept.apart row_is in
        let twos = count_gone has_offer tid (waiting_of standing) (shown (keyed rows)) kept.apart row_is in
        record {
          apart = ap are_apart shown_left ∙ apart_without (is_of tid) (shown (keyed rows)) kept.apart;
          on = subst (λ (all : List Row). AreOn new now all) (sym all_left) (on_beside mid new now (without (at_key key) (keyed rows)) key (λ q other. ap (λ (t : Table WaitRow). at t q) table ∙ removed_beside mid key q other) (away_gone key (keyed rows)) on);
          wide = λ some. wide;
          events_are = omega (arith, kept.events_are, one_is, ones) ∙ sym (ap (count is_event_row) shown_left);
          offers_are = omega (arith, kept.offers_are, two_is, twos) ∙ sym (ap (count has_offer) shown_left);
        }

-- a removal of a row that is there
pub gone : (old new : Table WaitRow) (key : Key) (found : Option WaitRow) → found ≡ at old key → IsSome (at old key) → new ≡ (if is_some found then removed old key else old) → OnSome found (listed new ≡ without (at_key key) (listed old)) → (new ≡ removed old key) × (listed new ≡ without (at_key key) (listed old))
gone old new key None is some table rows = absurd (let e : false ≡ true = ap is_some is ∙ some in cc)
gone old new key (Some value) is some table rows = (table, rows)

-- no row at all
pub none_kept : (rows : Table WaitRow) (chains : Chains) → listed rows ≡ [] → rows.spare ≡ 0 → chains.order.first ≡ None → chains.order.last ≡ None → chains.threads.chains.items ≡ [] → chains.ports.chains.items ≡ [] → chains.queues.chains.items ≡ [] → chains.processes.chains.items ≡ [] → AreKept rows chains 0 0
none_kept rows chains none spare begins ends one two three four =
    let all : keyed rows ≡ [] = ap (parts waiting_of) none in
    record {
      apart = ap (λ rs. are_apart (shown rs)) all;
      on = record {
        order = subst (λ (rs : List Row). StandsFor order_links rows chains.order (keys_of rs)) (sym all) (empty_chain order_links with_order rows chains.order begins ends);
        threads = λ rest chain found. absurd (let clash : None ≡ Some chain = sym (ap (λ cs. slice_get cs rest) one) ∙ found in cc);
        ports = λ rest chain found. absurd (let clash : None ≡ Some chain = sym (ap (λ cs. slice_get cs rest) two) ∙ found in cc);
        queues = λ rest chain found. absurd (let clash : None ≡ Some chain = sym (ap (λ cs. slice_get cs rest) three) ∙ found in cc);
        processes = λ rest chain found. absurd (let clash : None ≡ Some chain = sym (ap (λ cs. slice_get cs rest) four) ∙ found in cc);
      };
      wide = λ some. absurd (omega (arith, some, spare, ap length all));
      events_are = sym (ap (λ rs. count is_event_row (shown rs)) all);
      offers_are = sym (ap (λ rs. count has_offer (shown rs)) all);
    }

-- ---- room

-- nothing but links changed, and the chains
pub kept_suited : (rows mid : Table WaitRow) (chains now : Chains) (events offers : ℕ) → AreKept rows chains events offers → KeepsRows rows mid → (AreOn rows chains (keyed rows) → AreOn mid now (keyed mid)) → (AreWide chains → AreWide now) → AreKept mid now events offers
kept_suited rows mid chains now events offers kept keeps on wide =
    let all = kept_keyed rows mid keeps in
    record {
      apart = ap (λ rs. are_apart (shown rs)) all ∙ kept.apart;
      on = on kept.on;
      wide = λ some. wide (kept.wide (omega (arith, some, keeps.spare, ap length all)));
      events_are = kept.events_are ∙ sym (ap (λ rs. count is_event_row (shown rs)) all);
      offers_are = kept.offers_are ∙ sym (ap (λ rs. count has_offer (shown rs)) all);
    }

-- more room, where there are chains for it
roomy_in : {LIST : ℕ} (links_of : WaitRow → Links) (mid : Table WaitRow) (x : ℕ) (chains : List (Chain LIST)) (all : List (Key × ℕ)) → Stand links_of mid chains all → Stand links_of (record mid { spare = x }) chains all
roomy_in links_of mid x chains all stand rest chain found = stands_kept links_of mid (record mid { spare = x }) chain (keys_in (length chains) rest all) refl (stand rest chain found)

roomy_on : (mid : Table WaitRow) (x : ℕ) (chains : Chains) → AreOn mid chains (keyed mid) → AreOn (record mid { spare = x }) chains (keyed (record mid { spare = x }))
roomy_on mid x chains on = record {
  order = stands_kept order_links mid (record mid { spare = x }) chains.order (keys_of (keyed mid)) refl on.order;
  threads = roomy_in thread_links mid x chains.threads.chains.items (parts by_thread (keyed mid)) on.threads;
  ports = roomy_in port_links mid x chains.ports.chains.items (parts by_port (keyed mid)) on.ports;
  queues = roomy_in queue_links mid x chains.queues.chains.items (parts by_queue (keyed mid)) on.queues;
  processes = roomy_in process_links mid x chains.processes.chains.items (parts by_process (keyed mid)) on.processes;
}

pub kept_roomy : (mid new : Table WaitRow) (now : Chains) (events offers more : ℕ) → AreKept mid now events offers → new ≡ record mid { spare = new.spare } → (more ≤ mid.spare → new.spare ≡ mid.spare) → (0 < length (listed mid) + more → AreWide now) → AreKept new now events offers
kept_roomy mid new now events offers more kept same enough wide = subst (λ (t : Table WaitRow). AreKept t now events offers) (sym same) (record {
  apart = kept.apart;
  on = roomy_on mid new.spare now kept.on;
  wide = λ some. elim (cases_lt 0 (length (listed mid) + more)) [
    | inl there ↦ wide there
    | inr none ↦
        let stays = enough (omega (arith, none)) in
        kept.wide (omega (arith, some, stays, none, length_keyed mid))
  ];
  events_are = kept.events_are;
  offers_are = kept.offers_are;
})

pub length_seen : (rows : Table WaitRow) → length (shown (keyed rows)) ≡ length (listed rows)
length_seen rows = length_shown (keyed rows) ∙ length_keyed rows

pub suited_kept : (rows mid : Table WaitRow) → KeepsRows rows mid → seen mid ≡ record (seen rows) { spare = mid.spare }
suited_kept rows mid keeps i = record { rows = shown (kept_keyed rows mid keeps i); spare = mid.spare; made = keeps.made i }

pub roomy_kept : (rows mid new : Table WaitRow) → KeepsRows rows mid → new ≡ record mid { spare = new.spare } → seen new ≡ record (seen rows) { spare = new.spare }
roomy_kept rows mid new keeps same = ap seen same ∙ (λ i. record { rows = shown (kept_keyed rows mid keeps i); spare = new.spare; made = keeps.made i })
