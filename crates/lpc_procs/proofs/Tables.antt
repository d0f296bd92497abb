-- What the tables keep when a row changes, comes or goes.
use Rattle.std.proofs.Common.{◌≡◌, ◌+◌, ◌<◌, ◌≤◌, ℕ, Bool, true, false, cond, not, refl, sym, ap, subst, ◌∙◌, arith, List, [], ◌∷◌, ◌++◌, Some, None, is_some, length, map, option_map, true≢false}
use Rattle.std.proofs.lemmas.List.{length-map}
use Rattle.std.specs.Prelude.{min, IsSomeAnd, Option, ◌==◌, ◌&&◌}
use Rattle.lpc_base.specs.declared.birth.Birth.{Birth}
use Rattle.lpc_base.specs.Rows.{change, count, first, has, passes, which, without, without_first}
use Rattle.lpc_base.proofs.RowMaps.{push-map, unseen-change}
use Rattle.lpc_base.proofs.RowWords.{count-push}
use Rattle.lpc_numbers.specs.Named.{Forgets, Named, Takes, number_in}
use Rattle.lpc_numbers.specs.Numbered.{is_at, numbers}
use Rattle.lpc_numbers.specs.Tally.{Tally, count_in}
use Rattle.lpc_slots.specs.declared.Key.{Key}
use Rattle.lpc_slots.specs.Chain.{changed}
use Rattle.lpc_slots.specs.Table.{Table, at, at_key, inserted, listed, removed, with_value}
use Rattle.lpc_procs.specs.declared.keys.Use.{Use}
use Rattle.lpc_procs.specs.declared.rows.Counted.{Counted}
use Rattle.lpc_procs.specs.declared.rows.ProcessRow.{ProcessRow}
use Rattle.lpc_procs.specs.declared.rows.ThreadRow.{ThreadRow}
use Rattle.lpc_procs.specs.Kept.{AreKeyed, AreTallied, AreUsed, IsStored, counting, has_name, has_number, is_doomed_row, is_limited, is_of_used, is_peopled, is_peopled_child, is_watched, process_key, process_name, process_rows, rank_of, rows_in, thread_key, thread_name, told_by, told_in, used_rows}
use Rattle.lpc_procs.specs.Tags.{Retags}
use Rattle.lpc_procs.specs.Members.{Enters, Members, is_member, is_of_rank}
use Rattle.lpc_procs.specs.declared.rows.BornThread.{BornThread}
use Rattle.lpc_procs.specs.Procs.{born_thread, ended, event_ports_of, is_process, is_process_born, is_thread, is_thread_born, is_used_thread, lives_in, registered_by}
use Rattle.lpc_slots.proofs.Same.{at_first}
use Rattle.lpc_procs.proofs.Children.{and-off, children-left, children-push, kept-whole}
use Rattle.lpc_procs.proofs.Counts.{rows-less}
use Rattle.lpc_procs.proofs.Events.{count-unseen, count-written, one-counts, unwatched}
use Rattle.lpc_procs.proofs.Gone.{count-gone}
use Rattle.lpc_procs.proofs.Keeping.{KeepsNumbers, kept-none, unused-absent}
use Rattle.lpc_procs.proofs.Keyed.{IsPlaced, changed-made, first-at, keyed-changed, keyed-inserted, keyed-removed, keyed-written, left-keyed, placed, rows-changed, rows-length, rows-push, rows-written, stands-keyed}
use Rattle.lpc_procs.proofs.Led.{names-left, names-more, process-key-push, rank-push, thread-key-push, used-push}
use Rattle.lpc_procs.proofs.Tagged.{each-unseen, lost-none, tagged-gone, tagged-push, tagged-set, retagged}
use Rattle.lpc_procs.proofs.Owned.{grouped-change, grouped-left, grouped-push, grouped-ranks}
use Rattle.lpc_procs.proofs.Placed.{count-of, none-has, numbers-has, process-born-first, process-first, used-has}
use Rattle.lpc_procs.proofs.ProcessRows.{KeepsNames, kept-row, names-same, row-changed, with_row}
use Rattle.lpc_procs.proofs.Stored.{kept-ended, kept-process, kept-processes_left, kept-set, kept-thread, kept-threads_left, names-counting, process-unused}

less : (n a b left all : ℕ) → left + 1 ≡ all → min (n + 1) (min a b) + left ≤ min n (min a b) + all
less n a b left all fewer = omega (arith, fewer)

abbrev pub process_number : Counted → ℕ
process_number p = p.row.number

abbrev pub thread_number : ThreadRow → ℕ
thread_number t = t.number

abbrev pub process_birth : Counted → Birth
process_birth p = p.row.birth

abbrev pub thread_birth : ThreadRow → Birth
thread_birth t = t.birth

module _ {ps : Table Counted} {ts : Table ThreadRow} {up : List (ℕ × Key)} {ut : List (ℕ × Use)} {pn tn : Named} {alive registered dooms watched : ℕ} {children : Tally} {members : Members} {tags told_tags : Tally} (kept : IsStored ps ts up ut pn tn alive registered dooms watched children members tags told_tags) where
  pub thread-at : (tid : ℕ) → first (is_thread tid) (rows_in ts) ≡ at ts (thread_key ut tid)
  thread-at tid = first-at thread_number ts (thread_key ut) kept.found.thread_keys tid

  pub counted-at : (pid : ℕ) → first (has_number pid) (rows_in ps) ≡ at ps (process_key up pid)
  counted-at pid = first-at process_number ps (process_key up) kept.found.process_keys pid

  pub process-at : (pid : ℕ) → first (is_process pid) (process_rows (rows_in ps)) ≡ option_map (λ (p : Counted). p.row) (at ps (process_key up pid))
  process-at pid = process-first pid (rows_in ps) ∙ ap (option_map (λ (p : Counted). p.row)) (counted-at pid)

  -- the counts of live threads of one process are written over
  module _ (pid live : ℕ) (ps' : Table Counted) (is : ps' ≡ changed ps (Some (process_key up pid)) (counting live)) where
    counted-rows : rows_in ps' ≡ change (has_number pid) (counting live) (rows_in ps)
    counted-rows = ap rows_in is ∙ rows-changed process_number ps (process_key up) kept.found.process_keys kept.all.apart pid (counting live)

    counted-keys : AreKeyed process_number ps' (process_key up)
    counted-keys = subst (λ (s : Table Counted). AreKeyed process_number s (process_key up)) (sym is) (keyed-changed process_number ps (process_key up) kept.found.process_keys (process_key up pid) (counting live) (λ p. refl))

    counted-used : AreUsed ps'.made (numbers up)
    counted-used = subst (λ (n : ℕ). AreUsed n (numbers up)) (sym (ap (λ (s : Table Counted). s.made) is ∙ (changed-made ps (process_key up pid) (counting live)).0)) kept.found.processes_made

    counted-watched : watched ≡ count is_watched (rows_in ps')
    counted-watched = kept.watchers ∙ sym (ap (count is_watched) counted-rows ∙ count-unseen is_watched (has_number pid) (counting live) (λ p. refl) (rows_in ps))

    counted-told : told_in (rows_in ps') ≡ told_in (rows_in ps)
    counted-told = ap told_in counted-rows ∙ each-unseen told_by (has_number pid) (counting live) (λ p. refl) (rows_in ps)

    counted-names : map process_name (rows_in ps') ≡ map process_name (rows_in ps)
    counted-names = ap (map process_name) counted-rows ∙ names-counting pid live (rows_in ps)

    pub counted-shown : process_rows (rows_in ps') ≡ process_rows (rows_in ps)
    counted-shown = ap process_rows counted-rows ∙ unseen-change (λ (p : Counted). p.row) (has_number pid) (counting live) (λ p. refl) (rows_in ps)

    pub counted-spare : ps'.spare ≡ ps.spare
    counted-spare = ap (λ (s : Table Counted). s.spare) is ∙ (changed-made ps (process_key up pid) (counting live)).1

  -- a thread changes
  module _ (tid : ℕ) (row : ThreadRow) (there : at ts (thread_key ut tid) ≡ Some row) where
    its-place : IsPlaced ts (thread_key ut tid) row
    its-place = placed ts (thread_key ut tid) row there

    pub thread-own : row.number ≡ tid
    thread-own = kept.found.thread_keys.own tid row there

    pub thread-first : first (is_thread tid) (rows_in ts) ≡ Some row
    thread-first = thread-at tid ∙ there

    pub thread-place : IsPlaced ts (thread_key ut tid) row
    thread-place = its-place

    pub thread-rows : (f : ThreadRow → ThreadRow) → rows_in (with_value ts (thread_key ut tid) (f row)) ≡ change (is_thread tid) f (rows_in ts)
    thread-rows f = rows-written thread_number ts (thread_key ut) kept.found.thread_keys kept.all.rows.single tid f row there

    pub thread-kept : (f : ThreadRow → ThreadRow) → KeepsNumbers f → ((t : ThreadRow) → (f t).birth ≡ t.birth) → (f row).live ≡ row.live → (is_limited row ≡ true → is_limited (f row) ≡ true) → (total : ℕ) → total + length row.registered.items ≡ registered + length (f row).registered.items
        → (tags' : Tally) → (tags'.whole ≡ true → Retags row.registered.items (f row).registered.items tags tags')
        → IsStored ps (with_value ts (thread_key ut tid) (f row)) up ut pn tn alive total dooms watched children members tags' told_tags
    thread-kept f keeps births lives limits total is_total tags' retags = record {
      all = rw (its-place.writes (f row)) (kept-set (rows_in ps) (rows_in ts) (numbers up) (used_rows ut) alive registered kept.all its-place.place tid row its-place.here thread-own f keeps lives limits total is_total);
      found = record {
        process_keys = kept.found.process_keys;
        thread_keys = keyed-written thread_number ts (thread_key ut) kept.found.thread_keys (thread_key ut tid) row (f row) there (keeps.number row);
        processes_made = kept.found.processes_made;
        threads_made = kept.found.threads_made;
        processes_named = kept.found.processes_named;
        threads_named = rw (thread-rows f, unseen-change thread_name (is_thread tid) f (λ t. λ j. (keeps.number t j, births t j)) (rows_in ts)) kept.found.threads_named;
      };
      doomed = kept.doomed;
      watchers = kept.watchers;
      tallied = kept.tallied;
      grouped = rw (thread-rows f) (grouped-change (rank_of up) (is_thread tid) f keeps (rows_in ts) members kept.grouped);
      tagged = rw (its-place.writes (f row)) (tagged-set registered_by (rows_in ts) its-place.place row (f row) its-place.here tags tags' kept.tagged retags);
      told_tagged = kept.told_tagged;
    }

    -- a live thread ends
    pub thread-ended : row.live ≡ true → (live a : ℕ) → live + 1 ≡ count (lives_in row.process) (rows_in ts) → a + 1 ≡ alive
        → (ps' : Table Counted) → ps' ≡ changed ps (Some (process_key up row.process)) (counting live) → (d : ℕ) → d ≡ count is_doomed_row (rows_in ps') → (children' : Tally) → AreTallied (rows_in ps') children'
        → IsStored ps' (with_value ts (thread_key ut tid) (ended row)) up ut pn tn a registered d watched children' members tags told_tags
    thread-ended lives live a counted fewer ps' is d doomed children' tallied = record {
      all = rw (counted-rows row.process live ps' is, its-place.writes (ended row)) (kept-ended (rows_in ps) (rows_in ts) (numbers up) (used_rows ut) alive registered kept.all its-place.place tid row its-place.here thread-own lives live a counted fewer);
      found = record {
        process_keys = counted-keys row.process live ps' is;
        thread_keys = keyed-written thread_number ts (thread_key ut) kept.found.thread_keys (thread_key ut tid) row (ended row) there refl;
        processes_made = counted-used row.process live ps' is;
        threads_made = kept.found.threads_made;
        processes_named = rw (counted-names row.process live ps' is) kept.found.processes_named;
        threads_named = rw (thread-rows ended, unseen-change thread_name (is_thread tid) ended (λ t. refl) (rows_in ts)) kept.found.threads_named;
      };
      doomed = doomed;
      watchers = counted-watched row.process live ps' is;
      tallied = tallied;
      grouped = rw (thread-rows ended) (grouped-change (rank_of up) (is_thread tid) ended (record { number = λ t. refl; process = λ t. refl }) (rows_in ts) members kept.grouped);
      tagged = rw (its-place.writes (ended row)) (tagged-set registered_by (rows_in ts) its-place.place row (ended row) its-place.here tags tags kept.tagged (retagged row.registered.items tags));
      told_tagged = rw (counted-told row.process live ps' is) kept.told_tagged;
    }

  -- a process changes
  module _ (pid : ℕ) (p : Counted) (there : at ps (process_key up pid) ≡ Some p) where
    own-place : IsPlaced ps (process_key up pid) p
    own-place = placed ps (process_key up pid) p there

    pub process-one : (test : Counted → Bool) → cond (test p) 1 0 ≤ count test (rows_in ps)
    process-one test = one-counts test (rows_in ps) own-place.place p own-place.here

    process-counts : (test : Counted → Bool) (q : Counted) → count test (rows_in (with_value ps (process_key up pid) q)) + cond (test p) 1 0 ≡ count test (rows_in ps) + cond (test q) 1 0
    process-counts test q = rw (own-place.writes q) (count-written test (rows_in ps) own-place.place p q own-place.here)

    process-written : (f : ProcessRow → ProcessRow) → rows_in (with_value ps (process_key up pid) (with_row f p)) ≡ change (has_number pid) (with_row f) (rows_in ps)
    process-written f = rows-written process_number ps (process_key up) kept.found.process_keys kept.all.apart pid (with_row f) p there

    pub process-shown : (f : ProcessRow → ProcessRow) → process_rows (rows_in (with_value ps (process_key up pid) (with_row f p))) ≡ change (is_process pid) f (process_rows (rows_in ps))
    process-shown f = ap process_rows (process-written f) ∙ row-changed f pid (rows_in ps)

    pub process-kept : (f : ProcessRow → ProcessRow) → KeepsNames f → (d w : ℕ) → d + cond (is_doomed_row p) 1 0 ≡ dooms + cond (is_doomed_row (with_row f p)) 1 0 → w + cond (is_watched p) 1 0 ≡ watched + cond (is_watched (with_row f p)) 1 0
        → (told_tags' : Tally) → (told_tags'.whole ≡ true → Retags (event_ports_of p.row) (event_ports_of (f p.row)) told_tags told_tags')
        → IsStored (with_value ps (process_key up pid) (with_row f p)) ts up ut pn tn alive registered d w children members tags told_tags'
    process-kept f keeps d w is_d is_w told_tags' retags = record {
      all = rw (process-written f) (kept-row f keeps pid (rows_in ps) (rows_in ts) (numbers up) (used_rows ut) alive registered kept.all);
      found = record {
        process_keys = keyed-written process_number ps (process_key up) kept.found.process_keys (process_key up pid) p (with_row f p) there (keeps.number p.row);
        thread_keys = kept.found.thread_keys;
        processes_made = kept.found.processes_made;
        threads_made = kept.found.threads_made;
        processes_named = rw (process-written f, names-same f keeps pid (rows_in ps) (rows_in ts) (numbers up) (used_rows ut) alive registered kept.all) kept.found.processes_named;
        threads_named = kept.found.threads_named;
      };
      doomed = omega (arith, kept.doomed, is_d, process-counts is_doomed_row (with_row f p));
      watchers = omega (arith, kept.watchers, is_w, process-counts is_watched (with_row f p));
      tallied = λ whole n. omega (arith, kept.tallied whole n, process-counts (is_peopled_child n) (with_row f p), ap {B = ℕ} (λ m. cond (passes m (λ k. k == n) && is_peopled p) 1 0) (keeps.maker p.row));
      grouped = kept.grouped;
      tagged = kept.tagged;
      told_tagged = rw (own-place.writes (with_row f p)) (tagged-set told_by (rows_in ps) own-place.place p (with_row f p) own-place.here told_tags told_tags' kept.told_tagged retags);
    }

  -- a further process, of which no thread lives yet
  pub process-made : (row : ProcessRow) → is_watched (record { row = row; live = 0 }) ≡ false → row.number < 2147483648 → has (λ n. n == row.number) (numbers up) ≡ false
      → (k : Key) (ps' : Table Counted) → ps' ≡ inserted ps k (record { row = row; live = 0 }) → listed ps' ≡ listed ps ++ (k, record { row = row; live = 0 }) ∷ [] → k.generation ≡ ps.made + 1
      → (pn' : Named) → Takes row.birth row.number pn.firsts pn'.firsts → pn'.single ≡ (pn.single && not (is_some (number_in pn.firsts row.birth)))
      → (up' : List (ℕ × Key)) → up' ≡ up ++ (row.number, k) ∷ []
      → IsStored ps' ts up' ut pn' tn alive registered dooms watched children members tags told_tags
  process-made row unwatched_row within new k ps' is listing young pn' takes single up' used =
      let p : Counted = record { row = row; live = 0 } in
      let rows = rows-push ps ps' k p listing in
      let ns = ap numbers used ∙ push-map (λ (e : ℕ × Key). e.0) up (row.number, k) in
      let free : has (is_at row.number) up ≡ false = sym (numbers-has row.number up) ∙ new in
      let none : at ps (process_key up row.number) ≡ None = sym (counted-at row.number) ∙ none-has (has_number row.number) (rows_in ps) (process-unused row.number (numbers up) (rows_in ps) new kept.all.processes_used) in
      record {
        all = rw (rows, ns) (kept-process (rows_in ps) (rows_in ts) (numbers up) (used_rows ut) alive registered kept.all row within new);
        found = record {
          process_keys = subst (λ (s : Table Counted). AreKeyed process_number s (process_key up')) (sym is) (keyed-inserted process_number ps (process_key up) kept.found.process_keys row.number k p (process_key up') refl none young (λ m. ap (λ es. process_key es m) used ∙ process-key-push row.number k up free m));
          thread_keys = kept.found.thread_keys;
          processes_made = rw (ns, is) (used-push ps.made row.number (numbers up) kept.found.processes_made new within);
          threads_made = kept.found.threads_made;
          processes_named = rw rows (names-more process_number (λ (q : Counted). q.row.birth) (rows_in ps) p pn pn' kept.found.processes_named takes single);
          threads_named = kept.found.threads_named;
        };
        doomed = omega (arith, kept.doomed, ap (count is_doomed_row) rows, count-push is_doomed_row (rows_in ps) p, ap {B = ℕ} (λ b. cond b 1 0) (and-off (is_some row.doom)));
        watchers = omega (arith, kept.watchers, ap (count is_watched) rows, count-push is_watched (rows_in ps) p, ap {B = ℕ} (λ b. cond b 1 0) unwatched_row);
        tallied = λ whole n. kept.tallied whole n ∙ sym (ap (count (is_peopled_child n)) rows ∙ children-push n row (rows_in ps));
        grouped = grouped-ranks (rank_of up) (rank_of up') (is_of_used (numbers up)) (λ t owned. ap (λ es. rank_of es t.process) used ∙ rank-push t.process row.number k up (sym (numbers-has t.process up) ∙ owned)) (rows_in ts) kept.all.owners members kept.grouped;
        tagged = kept.tagged;
        told_tagged = rw rows (tagged-push told_by (rows_in ps) p (unwatched row.debug_port row.exception_port unwatched_row) told_tags kept.told_tagged);
      }

  -- a further live thread
  pub thread-made : (t : ThreadRow) → t.live ≡ true → t.registered.items ≡ [] → t.number < 2147483648 → has (is_used_thread t.number) (used_rows ut) ≡ false → is_some (first (is_process t.process) (process_rows (rows_in ps))) ≡ true
      → (live : ℕ) → live ≡ count (lives_in t.process) (rows_in ts) + 1
      → (ps' : Table Counted) → ps' ≡ changed ps (Some (process_key up t.process)) (counting live) → (d : ℕ) → d ≡ count is_doomed_row (rows_in ps') → (children' : Tally) → AreTallied (rows_in ps') children'
      → (k : Key) (ts' : Table ThreadRow) → ts' ≡ inserted ts k t → listed ts' ≡ listed ts ++ (k, t) ∷ [] → k.generation ≡ ts.made + 1
      → (tn' : Named) → Takes t.birth t.number tn.firsts tn'.firsts → tn'.single ≡ (tn.single && not (is_some (number_in tn.firsts t.birth)))
      → (ut' : List (ℕ × Use)) → ut' ≡ ut ++ (t.number, record { process = t.process; key = k }) ∷ []
      → (members' : Members) → (members'.whole ≡ true → Enters (rank_of up t.process) t.number members members')
      → IsStored ps' ts' up ut' pn tn' (alive + 1) registered d watched children' members' tags told_tags
  thread-made t lives none within new home live counted ps' is d doomed children' tallied k ts' is_ts listing young tn' takes single ut' used members' enters =
      let u : Use = record { process = t.process; key = k } in
      let rows = rows-push ts ts' k t listing in
      let ns = ap numbers used ∙ push-map (λ (e : ℕ × Use). e.0) ut (t.number, u) in
      let us = ap used_rows used ∙ push-map (λ (e : ℕ × Use). record { number = e.0; process = e.1.process }) ut (t.number, u) in
      let free : has (is_at t.number) ut ≡ false = sym (used-has t.number ut) ∙ new in
      let fresh : has (λ n. n == t.number) (numbers ut) ≡ false = numbers-has t.number ut ∙ free in
      let off : at ts (thread_key ut t.number) ≡ None = sym (thread-at t.number) ∙ none-has (is_thread t.number) (rows_in ts) (unused-absent t.number (used_rows ut) (rows_in ts) new kept.all.rows.noted) in
      record {
        all = rw (counted-rows t.process live ps' is, rows, us) (kept-thread (rows_in ps) (rows_in ts) (numbers up) (used_rows ut) alive registered kept.all t lives none within new home live counted);
        found = record {
          process_keys = counted-keys t.process live ps' is;
          thread_keys = subst (λ (s : Table ThreadRow). AreKeyed thread_number s (thread_key ut')) (sym is_ts) (keyed-inserted thread_number ts (thread_key ut) kept.found.thread_keys t.number k t (thread_key ut') refl off young (λ m. ap (λ es. thread_key es m) used ∙ thread-key-push t.number u ut free m));
          processes_made = counted-used t.process live ps' is;
          threads_made = rw (ns, is_ts) (used-push ts.made t.number (numbers ut) kept.found.threads_made fresh within);
          processes_named = rw (counted-names t.process live ps' is) kept.found.processes_named;
          threads_named = rw rows (names-more thread_number (λ (x : ThreadRow). x.birth) (rows_in ts) t tn tn' kept.found.threads_named takes single);
        };
        doomed = doomed;
        watchers = counted-watched t.process live ps' is;
        tallied = tallied;
        grouped = rw rows (grouped-push (rank_of up) (rows_in ts) t members members' kept.grouped enters);
        tagged = rw rows (tagged-push registered_by (rows_in ts) t none tags kept.tagged);
        told_tagged = rw (counted-told t.process live ps' is) kept.told_tagged;
      }

  -- the first process of a name goes
  pub process-lost : (b : Birth) (p : Counted) → first (has_name b) (rows_in ps) ≡ Some p
      → (ps' : Table Counted) → ps' ≡ removed ps (process_key up p.row.number) → listed ps' ≡ without (at_key (process_key up p.row.number)) (listed ps)
      → (d w : ℕ) → d + cond (is_doomed_row p) 1 0 ≡ dooms → w + cond (is_watched p) 1 0 ≡ watched
      → (children' : Tally) → children'.entries ≡ children.entries → children'.whole ≡ (children.whole && not (is_peopled p))
      → (pn' : Named) → Forgets b pn.firsts pn'.firsts → pn'.single ≡ pn.single
      → (told_tags' : Tally) → told_tags'.entries ≡ told_tags.entries → told_tags'.whole ≡ (told_tags.whole && not (is_watched p))
      → IsStored ps' ts up ut pn' tn alive registered d w children' members tags told_tags'
  process-lost b p found ps' is listing d w is_d is_w children' entries whole pn' forgets single told_tags' told_entries told_whole =
      let rows = left-keyed process_number ps (process_key up) kept.found.process_keys (has_name b) p found ps' listing in
      record {
        all = rw rows (kept-processes_left (rows_in ps) (rows_in ts) (numbers up) (used_rows ut) alive registered kept.all (has_name b));
        found = record {
          process_keys = subst (λ (s : Table Counted). AreKeyed process_number s (process_key up)) (sym is) (keyed-removed process_number ps (process_key up) kept.found.process_keys (process_key up p.row.number));
          thread_keys = kept.found.thread_keys;
          processes_made = rw is kept.found.processes_made;
          threads_made = kept.found.threads_made;
          processes_named = rw rows (names-left process_number (λ (q : Counted). q.row.birth) b (rows_in ps) pn pn' kept.found.processes_named forgets single);
          threads_named = kept.found.threads_named;
        };
        doomed = omega (arith, kept.doomed, is_d, ap (count is_doomed_row) rows, count-gone (has_name b) is_doomed_row (rows_in ps) p found);
        watchers = omega (arith, kept.watchers, is_w, ap (count is_watched) rows, count-gone (has_name b) is_watched (rows_in ps) p found);
        tallied = λ still n.
            let both = kept-whole children.whole (is_peopled p) (sym whole ∙ still) in
            rw (rows, entries) (kept.tallied both.0 n ∙ sym (children-left n (has_name b) (rows_in ps) p found both.1));
        grouped = kept.grouped;
        tagged = kept.tagged;
        told_tagged = rw rows (tagged-gone told_by (has_name b) (rows_in ps) p found told_tags told_tags' kept.told_tagged told_entries (lost-none told_tags.whole (event_ports_of p.row) (is_watched p) told_tags'.whole told_whole (λ off. ap length (unwatched p.row.debug_port p.row.exception_port off))));
      }

  -- the first thread of a name goes, which has ended
  pub thread-lost : (b : Birth) (t : ThreadRow) → first (is_thread_born b) (rows_in ts) ≡ Some t → t.live ≡ false
      → (ts' : Table ThreadRow) → ts' ≡ removed ts (thread_key ut t.number) → listed ts' ≡ without (at_key (thread_key ut t.number)) (listed ts)
      → (total : ℕ) → total + length t.registered.items ≡ registered
      → (tn' : Named) → Forgets b tn.firsts tn'.firsts → tn'.single ≡ tn.single
      → (members' : Members) → members'.rows ≡ without_first (is_member (rank_of up t.process) t.number) members.rows → members'.whole ≡ members.whole
      → (tags' : Tally) → tags'.entries ≡ tags.entries → (tags'.whole ≡ true → (tags.whole ≡ true) × (length t.registered.items ≡ 0))
      → IsStored ps ts' up ut pn tn' alive total dooms watched children members' tags' told_tags
  thread-lost b t found off ts' is listing total is_total tn' forgets single members' gone whole tags' entries lost =
      let rows = left-keyed thread_number ts (thread_key ut) kept.found.thread_keys (is_thread_born b) t found ts' listing in
      record {
        all = rw rows (kept-threads_left (rows_in ps) (rows_in ts) (numbers up) (used_rows ut) alive registered kept.all (is_thread_born b) t found off total is_total);
        found = record {
          process_keys = kept.found.process_keys;
          thread_keys = subst (λ (s : Table ThreadRow). AreKeyed thread_number s (thread_key ut)) (sym is) (keyed-removed thread_number ts (thread_key ut) kept.found.thread_keys (thread_key ut t.number));
          processes_made = kept.found.processes_made;
          threads_made = rw is kept.found.threads_made;
          processes_named = kept.found.processes_named;
          threads_named = rw rows (names-left thread_number (λ (x : ThreadRow). x.birth) b (rows_in ts) tn tn' kept.found.threads_named forgets single);
        };
        doomed = kept.doomed;
        watchers = kept.watchers;
        tallied = kept.tallied;
        grouped = rw rows (grouped-left (rank_of up) t (is_thread_born b) (rows_in ts) members members' kept.all.rows.single found kept.grouped gone whole);
        tagged = rw rows (tagged-gone registered_by (is_thread_born b) (rows_in ts) t found tags tags' kept.tagged entries lost);
        told_tagged = kept.told_tagged;
      }

  -- the row that was read under a key, and the number that has none
  pub its-process : (pid : ℕ) (k : Key) (p : Counted) → k ≡ process_key up pid → Some p ≡ at ps k → at ps (process_key up pid) ≡ Some p
  its-process pid k p is there = ap (at ps) (sym is) ∙ sym there

  pub its-thread : (tid : ℕ) (k : Key) (t : ThreadRow) → k ≡ thread_key ut tid → Some t ≡ at ts k → at ts (thread_key ut tid) ≡ Some t
  its-thread tid k t is there = ap (at ts) (sym is) ∙ sym there

  pub no-process : (pid : ℕ) (k : Key) → k ≡ process_key up pid → None ≡ at ps k → is_some (first (is_process pid) (process_rows (rows_in ps))) ≡ true → ⊥
  no-process pid k is none present = true≢false (sym present ∙ ap is_some (process-at pid ∙ ap (option_map (λ (p : Counted). p.row)) (ap (at ps) (sym is) ∙ sym none)))

  pub no-thread : (tid : ℕ) (k : Key) → k ≡ thread_key ut tid → None ≡ at ts k → is_some (first (is_thread tid) (rows_in ts)) ≡ true → ⊥
  no-thread tid k is none present = true≢false (sym present ∙ ap is_some (thread-at tid ∙ ap (at ts) (sym is) ∙ sym none))

  -- the count beside a process
  pub count-keyed : (pid : ℕ) (p : Counted) → at ps (process_key up pid) ≡ Some p → p.live ≡ count (lives_in pid) (rows_in ts)
  count-keyed pid p there = count-of (rows_in ts) (has_number pid) (rows_in ps) p kept.all.counts (counted-at pid ∙ there) ∙ ap (λ n. count (lives_in n) (rows_in ts)) (kept.found.process_keys.own pid p there)

  -- the process of a name that a number tells, and the thread
  pub born-process : (b : Birth) (pid : ℕ) → Some pid ≡ option_map (λ p. p.number) (first (is_process_born b) (process_rows (rows_in ps))) → (p : Counted) × (first (has_name b) (rows_in ps) ≡ Some p) × (p.row.number ≡ pid) × (at ps (process_key up pid) ≡ Some p)
  born-process b pid is = by (first (has_name b) (rows_in ps)) refl (is ∙ ap (option_map (λ (p : ProcessRow). p.number)) (process-born-first b (rows_in ps)))
    where
      by : (o : Option Counted) → first (has_name b) (rows_in ps) ≡ o → Some pid ≡ option_map (λ (p : ProcessRow). p.number) (option_map (λ (p : Counted). p.row) o) → (p : Counted) × (first (has_name b) (rows_in ps) ≡ Some p) × (p.row.number ≡ pid) × (at ps (process_key up pid) ≡ Some p)
      by None found told = absurd (cc)
      by (Some p) found told =
          let own : p.row.number ≡ pid = cc in
          (p, found, own, ap (λ n. at ps (process_key up n)) (sym own) ∙ stands-keyed process_number ps (process_key up) kept.found.process_keys (has_name b) p found)

  pub born-thread : (b : Birth) (born : BornThread) → Some born ≡ option_map born_thread (first (is_thread_born b) (rows_in ts)) → (t : ThreadRow) × (first (is_thread_born b) (rows_in ts) ≡ Some t) × (t.number ≡ born.number) × (at ts (thread_key ut born.number) ≡ Some t)
  born-thread b born is = by (first (is_thread_born b) (rows_in ts)) refl is
    where
      by : (o : Option ThreadRow) → first (is_thread_born b) (rows_in ts) ≡ o → Some born ≡ option_map born_thread o → (t : ThreadRow) × (first (is_thread_born b) (rows_in ts) ≡ Some t) × (t.number ≡ born.number) × (at ts (thread_key ut born.number) ≡ Some t)
      by None found told = absurd (cc)
      by (Some t) found told =
          let same : born_thread t ≡ born = cc in
          let own : t.number ≡ born.number = ap (λ (x : BornThread). x.number) same in
          (t, found, own, ap (λ n. at ts (thread_key ut n)) (sym own) ∙ stands-keyed thread_number ts (thread_key ut) kept.found.thread_keys (is_thread_born b) t found)

  pub process-left : (b : Birth) (p : Counted) → first (has_name b) (rows_in ps) ≡ Some p → (ps' : Table Counted) → listed ps' ≡ without (at_key (process_key up p.row.number)) (listed ps) → process_rows (rows_in ps') ≡ without_first (is_process_born b) (process_rows (rows_in ps))
  process-left b p found ps' listing = ap process_rows (left-keyed process_number ps (process_key up) kept.found.process_keys (has_name b) p found ps' listing) ∙ rows-less b (rows_in ps)

  pub thread-left : (b : Birth) (t : ThreadRow) → first (is_thread_born b) (rows_in ts) ≡ Some t → (ts' : Table ThreadRow) → listed ts' ≡ without (at_key (thread_key ut t.number)) (listed ts) → rows_in ts' ≡ without_first (is_thread_born b) (rows_in ts)
  thread-left b t found ts' listing = left-keyed thread_number ts (thread_key ut) kept.found.thread_keys (is_thread_born b) t found ts' listing

  -- more room
  pub roomier : (ps' : Table Counted) (ts' : Table ThreadRow) (pn' tn' : Named) → ps' ≡ record ps { spare = ps'.spare } → ts' ≡ record ts { spare = ts'.spare } → pn' ≡ record pn { room = pn'.room } → tn' ≡ record tn { room = tn'.room }
      → IsStored ps' ts' up ut pn' tn' alive registered dooms watched children members tags told_tags
  roomier ps' ts' pn' tn' is_ps is_ts is_pn is_tn =
      let one : IsStored (record ps { spare = ps'.spare }) (record ts { spare = ts'.spare }) up ut (record pn { room = pn'.room }) (record tn { room = tn'.room }) alive registered dooms watched children members tags told_tags = record {
        all = kept.all;
        found = record {
          process_keys = record { own = kept.found.process_keys.own; leads = kept.found.process_keys.leads; young = kept.found.process_keys.young };
          thread_keys = record { own = kept.found.thread_keys.own; leads = kept.found.thread_keys.leads; young = kept.found.thread_keys.young };
          processes_made = kept.found.processes_made;
          threads_made = kept.found.threads_made;
          processes_named = λ whole b. record { kept = (kept.found.processes_named whole b).kept; one = (kept.found.processes_named whole b).one };
          threads_named = λ whole b. record { kept = (kept.found.threads_named whole b).kept; one = (kept.found.threads_named whole b).one };
        };
        doomed = kept.doomed;
        watchers = kept.watchers;
        tallied = kept.tallied;
        grouped = kept.grouped;
        tagged = kept.tagged;
        told_tagged = kept.told_tagged;
      } in
      rw (is_ps, is_ts, is_pn, is_tn) one

-- the room and the rows, once a row went
pub process-most : (ps ps' : Table Counted) (a b : ℕ) → ps'.spare ≡ ps.spare + 1 → length (listed ps') + 1 ≡ length (listed ps) → min ps'.spare (min a b) + length (process_rows (rows_in ps')) ≤ min ps.spare (min a b) + length (process_rows (rows_in ps))
process-most ps ps' a b spare fewer =
    rw (spare, length-map (rows_in ps) (λ (p : Counted). p.row), length-map (rows_in ps') (λ (p : Counted). p.row), rows-length ps, rows-length ps')
    (less ps.spare a b (length (listed ps')) (length (listed ps)) fewer)

pub thread-most : (ts ts' : Table ThreadRow) (a b : ℕ) → ts'.spare ≡ ts.spare + 1 → length (listed ts') + 1 ≡ length (listed ts) → min ts'.spare (min a b) + length (rows_in ts') ≤ min ts.spare (min a b) + length (rows_in ts)
thread-most ts ts' a b spare fewer = rw (spare, rows-length ts, rows-length ts') (less ts.spare a b (length (listed ts')) (length (listed ts)) fewer)

-- what holds of a value holds where there is one
pub some-left : {X : Type 0} (P : X → Type 0) (o : Option X) → IsSomeAnd o P → is_some o ≡ true
some-left P None left = absurd left
some-left P (Some x) left = refl

keyed-none : {T : Type 0} (number : T → ℕ) (s : Table T) (key : ℕ → Key) → listed s ≡ [] → ((n : ℕ) → (key n).generation ≡ 0) → AreKeyed number s key
keyed-none {T} number s key empty young = record {
  own = λ n x there. absurd (off (key n) x there);
  leads = λ k x there. absurd (off k x there);
  young = λ n. (let one = young n in omega (arith, one));
}
  where
    off : (k : Key) (x : T) → at s k ≡ Some x → ⊥
    off k x there = let clash : None ≡ Some x = ap (λ (rows : List (Key × T)). option_map (λ (r : Key × T). r.1) (first (at_key k) rows)) (sym empty) ∙ sym (at_first s k) ∙ there in cc

-- the tables before anything was made
pub stored-none : (ps : Table Counted) (ts : Table ThreadRow) (up : List (ℕ × Key)) (ut : List (ℕ × Use)) (pn tn : Named) (children : Tally) (members : Members) (tags told_tags : Tally) → listed ps ≡ [] → listed ts ≡ [] → ps.made ≡ 0 → ts.made ≡ 0 → up ≡ [] → ut ≡ [] → pn.firsts ≡ [] → tn.firsts ≡ [] → children.entries ≡ [] → members.rows ≡ [] → tags.entries ≡ [] → told_tags.entries ≡ []
    → IsStored ps ts up ut pn tn 0 0 0 0 children members tags told_tags
stored-none ps ts up ut pn tn children members tags told_tags no_ps no_ts ps_made ts_made no_up no_ut no_pn no_tn no_children no_members no_tags no_told_tags =
    let no_processes : rows_in ps ≡ [] = ap (map (λ (r : Key × Counted). r.1)) no_ps in
    let no_threads : rows_in ts ≡ [] = ap (map (λ (r : Key × ThreadRow). r.1)) no_ts in
    record {
      all = rw (no_processes, no_threads, no_up, no_ut) (record { rows = kept-none; counts = refl; apart = refl; processes_low = refl; owners = refl; processes_used = refl; limited = refl; living = refl; told = refl });
      found = record {
        process_keys = keyed-none process_number ps (process_key up) no_ps (λ n. ap (λ es. (process_key es n).generation) no_up);
        thread_keys = keyed-none thread_number ts (thread_key ut) no_ts (λ n. ap (λ es. (thread_key es n).generation) no_ut);
        processes_made = rw (ps_made, no_up) (record { each = refl; differ = refl; low = refl });
        threads_made = rw (ts_made, no_ut) (record { each = refl; differ = refl; low = refl });
        processes_named = rw no_processes (λ whole b. record { kept = ap (λ es. number_in es b) no_pn; one = omega arith });
        threads_named = rw no_threads (λ whole b. record { kept = ap (λ es. number_in es b) no_tn; one = omega arith });
      };
      doomed = rw no_processes refl;
      watchers = rw no_processes refl;
      tallied = rw no_processes (λ whole pid. ap (λ es. count_in es pid) no_children);
      grouped = rw no_threads (λ whole n. ap (which (is_of_rank n)) no_members);
      tagged = rw no_threads (λ whole n. ap (λ es. count_in es n) no_tags);
      told_tagged = rw no_processes (λ whole n. ap (λ es. count_in es n) no_told_tags);
    }
