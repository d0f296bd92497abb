-- Some row counts for each thread and each process that isn't suspected, behind each change as before it.
use Rattle.std.proofs.Common.{Bool, cond, false, List, [], ◌∷◌, ◌++◌, ap, arith, not, refl, true, ℕ, ◌+◌, ◌≡◌, ◌≤◌, subst, sym, ◌∙◌, Option}
use Rattle.std.specs.Prelude.{◌==◌, ◌&&◌, ◌||◌, nat_lt, length, IfOk, OnErr, Result, Ok, Err, Some, None, option_and_then, option_map}
use Rattle.std.proofs.Math.Bool.{or-true}
use Rattle.lpc_base.specs.Rows.{change, count, differ_by, every, first, has, passes, without}
use Rattle.lpc_base.specs.Places.{least_handle}
use Rattle.lpc_base.proofs.Births.{birth-same, birth-self, birth-turned}
use Rattle.lpc_base.proofs.Bools.{first-true, second-true}
use Rattle.lpc_base.proofs.Differ.{one-row, own-rows}
use Rattle.lpc_base.proofs.RowWords.{count-has, count-without, every-change, every-more, every-push, every-without, has-change, has-kept, has-push}
use Rattle.lpc_handles.specs.Handles.{values}
use Rattle.lpc_handles.specs.declared.table.Row.{Row}
use Rattle.lpc_handles.specs.declared.table.TableFault.{TableFault}
use Rattle.lpc_homes.specs.Parts.{handed, is_part, rows_at}
use Rattle.lpc_homes.specs.declared.object.Object.{Object}
use Rattle.lpc_homes.specs.declared.object.Object.TheVariants as object
use Rattle.lpc_homes.specs.declared.parts.Part.{Part}
use Rattle.lpc_model.specs.World as model
use Rattle.lpc_model.specs.World.{Birth, HandleRow, HandleTable, ObjectName, ProcessRow, ThreadRow, World}
use Rattle.lpc_model.specs.Found.{free_handle, handle_at, handle_count, is_born_process, is_born_thread, is_life, is_process, is_table, is_thread, lives_by, pointer_count, process_name, same_birth, same_object, thread_name}
use Rattle.lpc_model.specs.Basics.{Acts, AddsHandle, AddsProcess, AddsThread, Basic, Dies, Dooms, DrawsIdentifier, DrawsOrdinal, DropsHandle, Frees, LetsGo, Maps, Registers, SetsDebug, SetsException, Unmaps, Unregisters, Writes, acting, basic, debugged, doomed, ended, excepted, no_handles, past_identifier, past_ordinal, portless, registering, unregistering}
use Rattle.lpc_model.specs.Linked.{AreLivesHeld}
use Rattle.lpc_model.specs.Sweep.{is_unheld}
use Rattle.lpc_model.specs.Memory.{place_in}
use Rattle.lpc_model.specs.Tests.{handle_row}
use Rattle.lpc_model.proofs.Held.Steps.{handle-count, handles-push, held-more, held-some, keeps_lives, push-more}
use Rattle.lpc_model.proofs.Steps.Rows.{count-change, every-left, has-off}
use Rattle.lpc_rows.specs.Clauses.{unmapped_at, written_through}
use Rattle.lpc_rows.specs.Held.{has_holders}
use Rattle.lpc_rows.specs.Kept.{rows_by}
use Rattle.lpc_rows.specs.Lawful.{AreLawful, are_single_processes, are_single_threads}
use Rattle.lpc_rows.specs.Shown.{Tables, birth_of, births_of, name_by, shown_handle}
use Rattle.lpc_rows.specs.Suspects.{AreLivesWatched, LifeTable, NamesLives, SUSPECT_LIMIT, is_among, is_process_of, is_thread_of, is_watched_process, is_watched_thread, home_birth, suspecting_named, suspecting_object, suspecting_process, suspecting_thread, thread_birth}
use Rattle.lpc_rows.proofs.Claims.{handle-taken}
use Rattle.lpc_rows.proofs.Counted.{zero_has}
use Rattle.lpc_rows.proofs.Suspected.{off-table}
use Rattle.lpc_rows.proofs.Tables as tables

-- threads, processes and handles are as they were
pub plainly : {s : LifeTable} (w v : World) → v.threads ≡ w.threads → v.processes ≡ w.processes → v.handles ≡ w.handles → AreLivesWatched w s → AreLivesWatched v s
plainly {s} w v threads processes handles held =
    let same : AreLivesWatched (record v { threads = w.threads; processes = w.processes; handles = w.handles }) s = record { threads = held.threads; processes = held.processes } in
    subst (λ (ts : List model.ThreadRow). AreLivesWatched (record v { threads = ts }) s) (sym threads)
    (subst (λ (ps : List model.ProcessRow). AreLivesWatched (record v { threads = w.threads; processes = ps }) s) (sym processes)
    (subst (λ (hs : List HandleTable). AreLivesWatched (record v { threads = w.threads; processes = w.processes; handles = hs }) s) (sym handles) same))

-- Suspects
-- what one table suspects another does, and these threads and these processes
pub record Suspects (s z : LifeTable) (f g : Birth → Bool) : Type 0 where
  pub threads : (b : Birth) → is_among z.threads b ≡ false → (is_among s.threads b ≡ false) × (f b ≡ false)
  pub processes : (b : Birth) → is_among z.processes b ≡ false → (is_among s.processes b ≡ false) × (g b ≡ false)

no-more : (s : LifeTable) → Suspects s s (λ b. false) (λ b. false)
no-more s = record { threads = λ b off. (off, refl); processes = λ b off. (off, refl) }

pushed-off : {X : Type 0} (p : X → Bool) (xs : List X) (y : X) → has p (xs ++ y ∷ []) ≡ false → (has p xs ≡ false) × (p y ≡ false)
pushed-off p [] y off = (refl, grind (arith, off))
pushed-off p (x ∷ xs) y off = let rest = pushed-off p xs y (grind (arith, off)) in let here : p x ≡ false = grind (arith, off) in (rw (here, rest.0) refl, rest.1)

with-thread : (b : Birth) (s : LifeTable) → (suspecting_thread b s).any ≡ false → (s.any ≡ false) × Suspects s (suspecting_thread b s) (λ c. same_birth b c) (λ c. false)
with-thread b s calm = at (nat_lt (length s.threads) SUSPECT_LIMIT) calm
  where
    more : LifeTable
    more = record s { threads = s.threads ++ b ∷ [] }

    full : LifeTable
    full = record s { any = true }

    at : (c : Bool) → (cond c more full).any ≡ false → (s.any ≡ false) × Suspects s (cond c more full) (λ d. same_birth b d) (λ d. false)
    at true calm = (calm, record { threads = λ d off. pushed-off (λ c. same_birth c d) s.threads b off; processes = λ d off. (off, refl) })
    at false calm = absurd (cc)

with-process : (b : Birth) (s : LifeTable) → (suspecting_process b s).any ≡ false → (s.any ≡ false) × Suspects s (suspecting_process b s) (λ c. false) (λ c. same_birth b c)
with-process b s calm = at (nat_lt (length s.processes) SUSPECT_LIMIT) calm
  where
    more : LifeTable
    more = record s { processes = s.processes ++ b ∷ [] }

    full : LifeTable
    full = record s { any = true }

    at : (c : Bool) → (cond c more full).any ≡ false → (s.any ≡ false) × Suspects s (cond c more full) (λ d. false) (λ d. same_birth b d)
    at true calm = (calm, record { threads = λ d off. (off, refl); processes = λ d off. pushed-off (λ c. same_birth c d) s.processes b off })
    at false calm = absurd (cc)

with-named : (row : Option (Row Object)) (s : LifeTable) → (suspecting_named row s).any ≡ false → (s.any ≡ false) × Suspects s (suspecting_named row s) (λ b. passes row (λ r. is_thread_of b r.object)) (λ b. passes row (λ r. is_process_of b r.object))
with-named None s calm = (calm, no-more s)
with-named (Some row) s calm = at row.object calm
  where
    at : (o : Object) → (suspecting_object o s).any ≡ false → (s.any ≡ false) × Suspects s (suspecting_object o s) (λ b. is_thread_of b o) (λ b. is_process_of b o)
    at (object.Thread b) calm = with-thread b s calm
    at (object.Process b) calm = with-process b s calm
    at (object.Port key) calm = (calm, no-more s)
    at (object.Section key) calm = (calm, no-more s)
    at (object.Token key) calm = (calm, no-more s)

-- Counts
-- what some row counts for, or is suspected, stays so where no count falls of what isn't suspected
still : (m n : ℕ) (x y : Bool) → (y ≡ false → (x ≡ false) × (m ≤ n)) → (not (m == 0) || x) ≡ true → (not (n == 0) || y) ≡ true
still m n x true more is = or-true (not (n == 0))
still m n x false more is =
    let off = more refl in
    let up = held-more m n off.1 (front (not (m == 0)) x off.0 is) in
    rw (up) refl
  where
    front : (c x : Bool) → x ≡ false → (c || x) ≡ true → c ≡ true
    front c x off is = grind arith

watched-by : (w v : World) (s z : LifeTable) (f g : Birth → Bool) → Suspects s z f g
    → ((b : Birth) → f b ≡ false → pointer_count w (thread_name b) ≤ pointer_count v (thread_name b))
    → ((b : Birth) → g b ≡ false → pointer_count w (process_name b) ≤ pointer_count v (process_name b))
    → AreLivesWatched w s → (every (is_watched_thread v z) w.threads ≡ true) × (every (is_watched_process v z) w.processes ≡ true)
watched-by w v s z f g more threads processes held = (
  every-more (is_watched_thread w s) (is_watched_thread v z)
      (λ t is. still (pointer_count w (thread_name t.birth)) (pointer_count v (thread_name t.birth)) (is_among s.threads t.birth) (is_among z.threads t.birth) (λ off. let o = more.threads t.birth off in (o.0, threads t.birth o.1)) is) w.threads held.threads,
  every-more (is_watched_process w s) (is_watched_process v z)
      (λ p is. still (pointer_count w (process_name p.birth)) (pointer_count v (process_name p.birth)) (is_among s.processes p.birth) (is_among z.processes p.birth) (λ off. let o = more.processes p.birth off in (o.0, processes p.birth o.1)) is) w.processes held.processes,
)

-- where no count falls at all, no more need be suspected
watched-more : {s : LifeTable} (w v : World) → ((b : Birth) → pointer_count w (thread_name b) ≤ pointer_count v (thread_name b)) → ((b : Birth) → pointer_count w (process_name b) ≤ pointer_count v (process_name b))
    → AreLivesWatched w s → (every (is_watched_thread v s) w.threads ≡ true) × (every (is_watched_process v s) w.processes ≡ true)
watched-more {s} w v threads processes held = watched-by w v s s (λ b. false) (λ b. false) (no-more s) (λ b off. threads b) (λ b off. processes b) held

-- rows behind a number don't fall, where the number stays
back-more : (a b c : ℕ) → b ≤ c → a + b ≤ a + c
back-more a b c is = omega (arith, is)

front-more : (a b c : ℕ) → a ≤ b → a + c ≤ b + c
front-more a b c is = omega (arith, is)

both-more : (a b c d : ℕ) → a ≤ b → c ≤ d → a + c ≤ b + d
both-more a b c d one two = omega (arith, one, two)

back-some : (a b : ℕ) → 1 ≤ b → 1 ≤ a + b
back-some a b is = omega (arith, is)

not-less : (a b : ℕ) → b ≡ a → a ≤ b
not-less a b is = omega (arith, is)

count-alike : {X : Type 0} (p q : X → Bool) → ((x : X) → p x ≡ q x) → (xs : List X) → count p xs ≡ count q xs
count-alike p q same [] = refl
count-alike p q same (x ∷ xs) = grind (arith, same x, count-alike p q same xs)

count-weaker : {X : Type 0} (p q : X → Bool) → ((x : X) → p x ≡ true → q x ≡ true) → (xs : List X) → count p xs ≤ count q xs
count-weaker p q more [] = omega arith
count-weaker p q more (x ∷ xs) = grind (arith, more x, count-weaker p q more xs)

-- rows that change didn't pass
count-changed : {X : Type 0} (p test : X → Bool) (f : X → X) (xs : List X) → every (λ x. not (test x) || not (p x)) xs ≡ true → count p xs ≤ count p (change test f xs)
count-changed p test f [] all = omega arith
count-changed p test f (x ∷ xs) all =
    let rest = count-changed p test f xs (second-true _ _ all) in
    let here : (not (test x) || not (p x)) ≡ true = first-true _ _ all in
    grind (arith, rest, here)

-- rows that go pass no further test: whether one passes stays
has-apart : {X : Type 0} (p goes : X → Bool) → ((x : X) → goes x ≡ true → p x ≡ false) → (xs : List X) → has p (without goes xs) ≡ has p xs
has-apart p goes off [] = refl
has-apart p goes off (x ∷ xs) = at (goes x) refl (has-apart p goes off xs)
  where
    at : (c : Bool) → goes x ≡ c → has p (without goes xs) ≡ has p xs → has p (without goes (x ∷ xs)) ≡ has p (x ∷ xs)
    at true is rest = let none = off x is in grind (arith, is, none, rest)
    at false is rest = grind (arith, is, rest)

-- and of those that stay a test tells as another did
every-apart : {X : Type 0} (p q goes : X → Bool) → ((x : X) → goes x ≡ false → q x ≡ p x) → (xs : List X) → every p xs ≡ true → every q (without goes xs) ≡ true
every-apart p q goes same [] all = refl
every-apart p q goes same (x ∷ xs) all = at (goes x) refl (every-apart p q goes same xs (second-true _ _ all))
  where
    at : (c : Bool) → goes x ≡ c → every q (without goes xs) ≡ true → every q (without goes (x ∷ xs)) ≡ true
    at true is rest = rw (is) rest
    at false is rest = let here = same x is ∙ first-true _ _ all in rw (is, here) rest

-- Steps
-- a thread draws a number, or what it has changes
drawn-watched : {s : LifeTable} (w : World) (who : ℕ) (f : ThreadRow → ThreadRow) → ((t : ThreadRow) → (f t).birth ≡ t.birth) → ((t : ThreadRow) → (f t).live ≡ t.live) → ((t : ThreadRow) → (f t).process ≡ t.process)
    → AreLivesWatched w s → AreLivesWatched (record w { threads = change (is_thread who) f w.threads }) s
drawn-watched {s} w who f births lives processes held =
    let v : World = record w { threads = change (is_thread who) f w.threads } in
    let more = watched-more w v (λ b. back-more (handle_count w (thread_name b)) _ _ (not-less _ _ (count-change (is_life b) (is_thread who) f (λ t. rw (births t, lives t) refl) w.threads)))
    (λ b. back-more (handle_count w (process_name b)) _ _ (not-less _ _ (count-change (lives_by w b) (is_thread who) f (λ t. rw (lives t, processes t) refl) w.threads))) held in
    record { threads = every-change (is_watched_thread v s) (is_thread who) f (λ t is. rw (births t) is) w.threads more.0; processes = more.1 }

-- a process gets or lets go a port, or is to end
changed-watched : {s : LifeTable} (w : World) (pid : ℕ) (f : ProcessRow → ProcessRow) → ((p : ProcessRow) → (f p).birth ≡ p.birth) → ((p : ProcessRow) → (f p).number ≡ p.number) → AreLivesWatched w s → AreLivesWatched (record w { processes = change (is_process pid) f w.processes }) s
changed-watched {s} w pid f births numbers held =
    let v : World = record w { processes = change (is_process pid) f w.processes } in
    let more = watched-more w v (λ b. omega arith) (λ b. back-more (handle_count w (process_name b)) _ _ (not-less _ _ (count-alike (lives_by v b) (lives_by w b) (same b) w.threads))) held in
    record { threads = more.0; processes = every-change (is_watched_process v s) (is_process pid) f (λ p is. rw (births p) is) w.processes more.1 }
  where
    same : (b : Birth) (t : ThreadRow) → lives_by (record w { processes = change (is_process pid) f w.processes }) b t ≡ lives_by w b t
    same b t = ap (λ c. t.live && c) (has-change (λ p. same_birth p.birth b && (p.number == t.process)) (is_process pid) f (λ p. rw (births p, numbers p) refl) w.processes)

watched-step : {s : LifeTable} (w : World) (b : Basic) → keeps_lives b ≡ true → AreLivesWatched w s → AreLivesWatched (basic w b) s
watched-step w (DrawsIdentifier who) is held = drawn-watched w who past_identifier (λ t. refl) (λ t. refl) (λ t. refl) held
watched-step w (DrawsOrdinal who) is held = drawn-watched w who past_ordinal (λ t. refl) (λ t. refl) (λ t. refl) held
watched-step w (Registers who b) is held = drawn-watched w who (registering b) (λ t. refl) (λ t. refl) (λ t. refl) held
watched-step w (Unregisters who b) is held = drawn-watched w who (unregistering b) (λ t. refl) (λ t. refl) (λ t. refl) held
watched-step w (Acts who own) is held = drawn-watched w who (acting own) (λ t. refl) (λ t. refl) (λ t. refl) held
watched-step w (SetsDebug pid b) is held = changed-watched w pid (debugged b) (λ p. refl) (λ p. refl) held
watched-step w (SetsException pid b) is held = changed-watched w pid (excepted b) (λ p. refl) (λ p. refl) held
watched-step w (LetsGo pid) is held = changed-watched w pid portless (λ p. refl) (λ p. refl) held
watched-step w (Dooms pid code) is held = changed-watched w pid (doomed code) (λ p. refl) (λ p. refl) held
watched-step w (Dies who status) is held = absurd (cc)
watched-step w (AddsProcess p) is held = absurd (cc)
watched-step w (AddsThread t) is held = absurd (cc)
watched-step w (AddsHandle pid h) is held = absurd (cc)
watched-step w (DropsHandle pid value) is held = absurd (cc)
watched-step w (Frees o) is held = absurd (cc)
watched-step w b is held = record { threads = held.threads; processes = held.processes }

module _ {s : LifeTable} (w : World) (held : AreLivesWatched w s) where
  pub same-to : (v : World) → v ≡ w → AreLivesWatched v s
  same-to v is = subst (λ (u : World). AreLivesWatched u s) (sym is) held

  pub step-to : (v : World) (b : Basic) → v ≡ basic w b → keeps_lives b ≡ true → AreLivesWatched v s
  step-to v b is keeps = subst (λ (u : World). AreLivesWatched u s) (sym is) (watched-step w b keeps held)

  pub mapped-to : {A B : Type 0} (v : World) (pid : ℕ) (shown : A → model.ViewRow) (r : Result A B) → IfOk r (λ view. v ≡ basic w (Maps pid (shown view))) → OnErr r (v ≡ w) → AreLivesWatched v s
  mapped-to v pid shown (Ok view) some none = step-to v (Maps pid (shown view)) some refl
  mapped-to v pid shown (Err e) some none = same-to v none

  pub written-to : (v : World) (address : ℕ) (bytes : List ℕ) (o : Option model.ViewRow) → v ≡ written_through w address bytes o → AreLivesWatched v s
  written-to v address bytes None is = same-to v is
  written-to v address bytes (Some r) is = step-to v (Writes r.section (place_in r address) bytes) is refl

  pub unmapped-to : (v : World) (pid : ℕ) (o : Option model.ViewRow) → v ≡ unmapped_at w pid o → AreLivesWatched v s
  unmapped-to v pid None is = same-to v is
  unmapped-to v pid (Some r) is = step-to v (Unmaps pid r.base) is refl

  -- a live thread holds itself
  pub thread-to : (v : World) (t : ThreadRow) → t.live ≡ true → v ≡ basic w (AddsThread t) → AreLivesWatched v s
  thread-to v t live is =
      let after : World = basic w (AddsThread t) in
      let more = watched-more w after (λ b. back-more (handle_count w (thread_name b)) _ _ (push-more (is_life b) w.threads t)) (λ b. back-more (handle_count w (process_name b)) _ _ (push-more (lives_by w b) w.threads t)) held in
      let own : is_life t.birth t ≡ true = rw (live) (birth-self t.birth) in
      let some = count-has (is_life t.birth) after.threads (has-push (is_life t.birth) w.threads t own) in
      subst (λ (u : World). AreLivesWatched u s) (sym is) (record {
        threads = every-push _ w.threads t more.0 (let there = held-some _ (back-some (handle_count after (thread_name t.birth)) _ some) in rw (there) refl);
        processes = more.1;
      })

  -- a thread that has ended counts for no thread and for no process
  pub thread-gone-to : (v : World) (b : Birth) → has_holders w (thread_name b) ≡ false → v ≡ record w { threads = without (is_born_thread b) w.threads } → AreLivesWatched v s
  thread-gone-to v b none is =
      let after : World = record w { threads = without (is_born_thread b) w.threads } in
      let over : has (is_life b) w.threads ≡ false = sym (zero_has (is_life b) w.threads) ∙ none in
      let more = watched-more w after
      (λ c. back-more (handle_count w (thread_name c)) _ _ (not-less _ _ (count-without (is_life c) (is_born_thread b) (is_life b) (λ t is off. ended t.live (is_born_thread b t) (is_born_thread c t) is off) w.threads over)))
      (λ c. back-more (handle_count w (process_name c)) _ _ (not-less _ _ (count-without (lives_by w c) (is_born_thread b) (is_life b) (λ t is off. ended t.live (is_born_thread b t) (has (λ (p : ProcessRow). same_birth p.birth c && (p.number == t.process)) w.processes) is off) w.threads over))) held in
      subst (λ (u : World). AreLivesWatched u s) (sym is) (record { threads = every-without _ (is_born_thread b) w.threads more.0; processes = more.1 })
    where
      ended : (l s q : Bool) → s ≡ true → (l && s) ≡ false → (l && q) ≡ false
      ended l s q is off = grind arith

  -- a process counts for nothing
  pub process-gone-to : (v : World) (b : Birth) → v ≡ record w { processes = without (is_born_process b) w.processes } → AreLivesWatched v s
  process-gone-to v b is =
      subst (λ (u : World). AreLivesWatched u s) (sym is) (record {
        threads = held.threads;
        processes = every-apart (is_watched_process w s) (is_watched_process after s) (is_born_process b)
            (λ p stays. ap (λ k. not ((handle_count w (process_name p.birth) + k) == 0) || is_among s.processes p.birth) (same p.birth stays)) w.processes held.processes;
      })
    where
      after : World
      after = record w { processes = without (is_born_process b) w.processes }

      other : (c : Birth) → same_birth c b ≡ false → (p : ProcessRow) (n : ℕ) → is_born_process b p ≡ true → (same_birth p.birth c && (p.number == n)) ≡ false
      other c off p n goes =
          let away : same_birth p.birth c ≡ false = ap (λ d. same_birth d c) (birth-same p.birth b goes) ∙ (birth-turned b c ∙ off) in
          rw (away) refl

      home : (c : Birth) → same_birth c b ≡ false → (n : ℕ) → has (λ (p : ProcessRow). same_birth p.birth c && (p.number == n)) after.processes ≡ has (λ (p : ProcessRow). same_birth p.birth c && (p.number == n)) w.processes
      home c off n = has-apart (λ (p : ProcessRow). same_birth p.birth c && (p.number == n)) (is_born_process b) (λ p goes. other c off p n goes) w.processes

      same : (c : Birth) → same_birth c b ≡ false → count (lives_by after c) w.threads ≡ count (lives_by w c) w.threads
      same c off = λ i. count (λ (t : ThreadRow). t.live && home c off t.process i) w.threads

  pub handle-to : (v : World) (pid : ℕ) (object : ObjectName) (access : ℕ) → count (is_table pid) w.handles ≤ 1 → v ≡ basic w (AddsHandle pid (handle_row (free_handle w pid) object access)) → AreLivesWatched v s
  handle-to v pid object access one is =
      let after : World = basic w (AddsHandle pid (handle_row (free_handle w pid) object access)) in
      let more = watched-more w after (λ b. front-more (handle_count w (thread_name b)) _ (count (is_life b) w.threads) (handle-count w pid object access (thread_name b) one))
      (λ b. front-more (handle_count w (process_name b)) _ (count (lives_by w b) w.threads) (handle-count w pid object access (process_name b) one)) held in
      subst (λ (u : World). AreLivesWatched u s) (sym is) (record { threads = more.0; processes = more.1 })

-- a process gets a handle, where it has a place for it
module _ {s : LifeTable} (it : Tables) (calls made : ℕ) (is : AreLawful it calls made) (held : AreLivesWatched (rows_by it) s) where
  pub given-to : (pid value : ℕ) (row : Row Object) (v : World) → value ≡ least_handle (values (rows_at it.parts pid)) → v ≡ basic (rows_by it) (AddsHandle pid (shown_handle (birth_of (births_of it)) (value, row))) → AreLivesWatched v s
  given-to pid value row v least gives =
      handle-to (rows_by it) held v pid (name_by (birth_of (births_of it)) row.object) row.access (one-row (λ (t : HandleTable). t.process) pid (rows_by it).handles is.lawful.tables_single)
      (gives ∙ ap (λ (k : ℕ). basic (rows_by it) (AddsHandle pid (handle_row k (name_by (birth_of (births_of it)) row.object) row.access))) (least ∙ sym (tables.free_value it calls made is pid)))

  pub handed-to : (pid : ℕ) (row : Row Object) (r : Result ℕ TableFault) (new : List Part) → IfOk r (λ v. v ≡ least_handle (values (rows_at it.parts pid))) → IfOk r (λ v. new ≡ change (is_part pid) (handed v row) it.parts) → OnErr r (new ≡ it.parts) → AreLivesWatched (rows_by (record it { parts = new })) s
  handed-to pid row (Ok value) new least parts none = given-to pid value row _ least (tables.hands_or_not it calls made is pid row (Ok value) new parts)
  handed-to pid row (Err e) new least parts none = same-to (rows_by it) held _ (ap (λ ps. rows_by (record it { parts = ps })) none)

-- Changes behind which a thread or a process more is suspected
module _ (w : World) (s : LifeTable) (old : s.any ≡ false → AreLivesWatched w s) where
  -- a handle goes, and the thread or the process that it named is suspected
  pub closed-to : (v : World) (pid value : ℕ) (row : Option (Row Object)) → differ_by (λ (t : HandleTable). t.process) w.handles ≡ true → NamesLives row (handle_at w pid value) → v ≡ basic w (DropsHandle pid value)
      → (suspecting_named row s).any ≡ false → AreLivesWatched v (suspecting_named row s)
  closed-to v pid value row single names is calm =
      let after : World = basic w (DropsHandle pid value) in
      let too = with-named row s calm in
      let more = watched-by w after s (suspecting_named row s) (λ b. passes row (λ r. is_thread_of b r.object)) (λ b. passes row (λ r. is_process_of b r.object)) too.1
      (λ b off. front-more _ _ _ (handle-taken (λ (h : HandleRow). same_object h.object (thread_name b)) pid value w.handles (off-table pid value (λ (h : HandleRow). same_object h.object (thread_name b)) w.handles single (names.thread b off))))
      (λ b off. front-more _ _ _ (handle-taken (λ (h : HandleRow). same_object h.object (process_name b)) pid value w.handles (off-table pid value (λ (h : HandleRow). same_object h.object (process_name b)) w.handles single (names.process b off)))) (old too.0) in
      subst (λ (u : World). AreLivesWatched u (suspecting_named row s)) (sym is) (record { threads = more.0; processes = more.1 })

  -- a process begins, and is suspected
  pub began-to : (v : World) (p : ProcessRow) → v ≡ basic w (AddsProcess p) → (suspecting_process p.birth s).any ≡ false → AreLivesWatched v (suspecting_process p.birth s)
  began-to v p is calm =
      let more = watched-by w after s z (λ b. false) (λ b. same_birth p.birth b) too.1
      (λ b off. front-more _ _ (count (is_life b) w.threads) (handles-push (λ (h : HandleRow). same_object h.object (thread_name b)) w.handles (no_handles p.number)))
      (λ b off. both-more _ _ _ _ (handles-push (λ (h : HandleRow). same_object h.object (process_name b)) w.handles (no_handles p.number)) (count-weaker (lives_by w b) (lives_by after b) (further b) w.threads)) (old too.0) in
      subst (λ (u : World). AreLivesWatched u z) (sym is) (record { threads = more.0; processes = every-push (is_watched_process after z) w.processes p more.1 (own (is_among z.processes p.birth) refl) })
    where
      after : World
      after = basic w (AddsProcess p)

      z : LifeTable
      z = suspecting_process p.birth s

      too : (s.any ≡ false) × Suspects s z (λ b. false) (λ b. same_birth p.birth b)
      too = with-process p.birth s calm

      also : (l c d : Bool) → (c ≡ true → d ≡ true) → (l && c) ≡ true → (l && d) ≡ true
      also true c d more is = more is
      also false c d more is = absurd (cc)

      further : (b : Birth) (t : ThreadRow) → lives_by w b t ≡ true → lives_by after b t ≡ true
      further b t is = also t.live _ _ (λ there. has-kept (λ (q : ProcessRow). same_birth q.birth b && (q.number == t.process)) w.processes p there) is

      own : (c : Bool) → is_among z.processes p.birth ≡ c → is_watched_process after z p ≡ true
      own true is = rw (is) (or-true _)
      own false off = let none = (too.1.processes p.birth off).1 in let self = birth-self p.birth in absurd (cc)

  -- a thread ends, and it and its process are suspected
  pub ended-to : (v : World) (who : ℕ) (t : ThreadRow) (p : ProcessRow) → are_single_threads w.threads ≡ true → are_single_processes w.processes ≡ true
      → first (is_thread who) w.threads ≡ Some t → first (is_process t.process) w.processes ≡ Some p → v ≡ record w { threads = change (is_thread who) ended w.threads }
      → (suspecting_process p.birth (suspecting_thread t.birth s)).any ≡ false → AreLivesWatched v (suspecting_process p.birth (suspecting_thread t.birth s))
  ended-to v who t p single apart found home is calm =
      let more = watched-by w after s z (λ b. same_birth t.birth b) (λ b. same_birth p.birth b) too
      (λ b off. back-more (handle_count w (thread_name b)) _ _ (count-changed (is_life b) (is_thread who) ended w.threads (own-rows (λ (y : ThreadRow). y.number) (λ y. not (is_life b y)) who w.threads t single found (no-life b off))))
      (λ b off. back-more (handle_count w (process_name b)) _ _ (count-changed (lives_by w b) (is_thread who) ended w.threads (own-rows (λ (y : ThreadRow). y.number) (λ y. not (lives_by w b y)) who w.threads t single found (no-home b off)))) (old first.0) in
      subst (λ (u : World). AreLivesWatched u z) (sym is) (record { threads = every-change (is_watched_thread after z) (is_thread who) ended (λ y is. is) w.threads more.0; processes = more.1 })
    where
      after : World
      after = record w { threads = change (is_thread who) ended w.threads }

      y : LifeTable
      y = suspecting_thread t.birth s

      z : LifeTable
      z = suspecting_process p.birth y

      last : (y.any ≡ false) × Suspects y z (λ b. false) (λ b. same_birth p.birth b)
      last = with-process p.birth y calm

      first : (s.any ≡ false) × Suspects s y (λ b. same_birth t.birth b) (λ b. false)
      first = with-thread t.birth s last.0

      too : Suspects s z (λ b. same_birth t.birth b) (λ b. same_birth p.birth b)
      too = record {
        threads = λ b off. first.1.threads b (last.1.threads b off).0;
        processes = λ b off. let o = last.1.processes b off in ((first.1.processes b o.0).0, o.1);
      }

      no-life : (b : Birth) → same_birth t.birth b ≡ false → not (is_life b t) ≡ true
      no-life b off = none t.live (same_birth t.birth b) off
        where
          none : (l c : Bool) → c ≡ false → not (l && c) ≡ true
          none l c off = grind arith

      neither : (b : Birth) (qs : List ProcessRow) → every (λ (q : ProcessRow). not (is_process t.process q) || not (same_birth q.birth b)) qs ≡ true → has (λ (q : ProcessRow). same_birth q.birth b && (q.number == t.process)) qs ≡ false
      neither b [] all = refl
      neither b (q ∷ qs) all = let rest = neither b qs (second-true _ _ all) in let here = none (is_process t.process q) (same_birth q.birth b) (first-true _ _ all) in rw (here, rest) refl
        where
          none : (c d : Bool) → (not c || not d) ≡ true → (d && c) ≡ false
          none c d is = grind arith

      no-home : (b : Birth) → same_birth p.birth b ≡ false → not (lives_by w b t) ≡ true
      no-home b off = none t.live _ (neither b w.processes (own-rows (λ (q : ProcessRow). q.number) (λ q. not (same_birth q.birth b)) t.process w.processes p apart home (rw (off) refl)))
        where
          none : (l c : Bool) → c ≡ false → not (l && c) ≡ true
          none l c off = grind arith

  -- their births tell which these are
  pub ended-by : (v : World) (who : ℕ) (b c : Birth) → are_single_threads w.threads ≡ true → are_single_processes w.processes ≡ true → thread_birth w who ≡ Some b → home_birth w who ≡ Some c
      → v ≡ record w { threads = change (is_thread who) ended w.threads } → (suspecting_process c (suspecting_thread b s)).any ≡ false → AreLivesWatched v (suspecting_process c (suspecting_thread b s))
  ended-by v who b c single apart thread home is calm = at (first (is_thread who) w.threads) refl thread home
    where
      the-home : (t : ThreadRow) (o : Option ProcessRow) → first (is_thread who) w.threads ≡ Some t → t.birth ≡ b → first (is_process t.process) w.processes ≡ o → option_map (λ (p : ProcessRow). p.birth) o ≡ Some c → AreLivesWatched v (suspecting_process c (suspecting_thread b s))
      the-home t None found own there at = absurd (cc)
      the-home t (Some p) found own there at =
          let its : p.birth ≡ c = cc in
          let same : suspecting_process p.birth (suspecting_thread t.birth s) ≡ suspecting_process c (suspecting_thread b s) = λ i. suspecting_process (its i) (suspecting_thread (own i) s) in
          subst (AreLivesWatched v) same (ended-to v who t p single apart found there is (ap (λ (z : LifeTable). z.any) same ∙ calm))

      at : (o : Option ThreadRow) → first (is_thread who) w.threads ≡ o → option_map (λ (t : ThreadRow). t.birth) o ≡ Some b → option_and_then (λ (t : ThreadRow). option_map (λ (p : ProcessRow). p.birth) (first (is_process t.process) w.processes)) o ≡ Some c → AreLivesWatched v (suspecting_process c (suspecting_thread b s))
      at None found thread home = absurd (cc)
      at (Some t) found thread home = let own : t.birth ≡ b = cc in the-home t (first (is_process t.process) w.processes) found own refl home

-- Suspects no longer
module _ (w : World) (s : LifeTable) (held : AreLivesWatched w s) (b : Birth) where
  left : (births : List Birth) (c : Birth) → same_birth c b ≡ false → is_among (without (same_birth b) births) c ≡ is_among births c
  left births c off = has-apart (λ d. same_birth d c) (same_birth b) (λ d goes. ap (λ e. same_birth e c) (sym (birth-same b d goes)) ∙ (birth-turned b c ∙ off)) births

  behind : {X : Type 0} (test : X → Bool) (x : X) (xs : List X) → has test xs ≡ true → has test (x ∷ xs) ≡ true
  behind test x xs there = grind (arith, there)

  -- a thread is held, or left as it was
  kept : (u x y z : Bool) → (z ≡ true → u ≡ false) → (z ≡ false → y ≡ x) → (not u || x) ≡ true → (not u || y) ≡ true
  kept u x y true on off is = let here = on refl in rw (here) refl
  kept u x y false on off is = let same = off refl in rw (same) is

  -- a thread that doesn't stand, or for which some row counts
  pub cleared-thread : (has (is_born_thread b) w.threads ≡ true → is_unheld w (thread_name b) ≡ false) → AreLivesWatched w (record s { threads = without (same_birth b) s.threads })
  cleared-thread is = record { threads = all w.threads is held.threads; processes = held.processes }
    where
      z : LifeTable
      z = record s { threads = without (same_birth b) s.threads }

      all : (ts : List ThreadRow) → (has (is_born_thread b) ts ≡ true → is_unheld w (thread_name b) ≡ false) → every (is_watched_thread w s) ts ≡ true → every (is_watched_thread w z) ts ≡ true
      all [] is each = refl
      all (t ∷ ts) is each =
          let rest = all ts (λ there. is (behind (is_born_thread b) t ts there)) (second-true _ _ each) in
          let here = kept (is_unheld w (thread_name t.birth)) (is_among s.threads t.birth) (is_among z.threads t.birth) (same_birth t.birth b)
          (λ own. ap (λ c. is_unheld w (thread_name c)) (birth-same t.birth b own) ∙ is (rw (own) refl)) (λ off. left s.threads t.birth off) (first-true _ _ each) in
          rw (here, rest) refl

  -- a process likewise
  pub cleared-process : (has (is_born_process b) w.processes ≡ true → is_unheld w (process_name b) ≡ false) → AreLivesWatched w (record s { processes = without (same_birth b) s.processes })
  cleared-process is = record { threads = held.threads; processes = all w.processes is held.processes }
    where
      z : LifeTable
      z = record s { processes = without (same_birth b) s.processes }

      all : (ps : List ProcessRow) → (has (is_born_process b) ps ≡ true → is_unheld w (process_name b) ≡ false) → every (is_watched_process w s) ps ≡ true → every (is_watched_process w z) ps ≡ true
      all [] is each = refl
      all (p ∷ ps) is each =
          let rest = all ps (λ there. is (behind (is_born_process b) p ps there)) (second-true _ _ each) in
          let here = kept (is_unheld w (process_name p.birth)) (is_among s.processes p.birth) (is_among z.processes p.birth) (same_birth p.birth b)
          (λ own. ap (λ c. is_unheld w (process_name c)) (birth-same p.birth b own) ∙ is (rw (own) refl)) (λ off. left s.processes p.birth off) (first-true _ _ each) in
          rw (here, rest) refl

-- a thread, and a process, that goes is suspected no longer
module _ (w : World) (s : LifeTable) (held : AreLivesWatched w s) (v : World) (b : Birth) where
  gone : {X : Type 0} (test : X → Bool) (xs ys : List X) → ys ≡ without test xs → has test ys ≡ false
  gone test xs ys is = ap (has test) is ∙ has-off test (without test xs) (every-left test xs)

  clash : {c : Bool} → c ≡ false → c ≡ true → ⊥
  clash off is = absurd (cc)

  pub thread-freed-to : has_holders w (thread_name b) ≡ false → v ≡ record w { threads = without (is_born_thread b) w.threads } → AreLivesWatched v (record s { threads = without (same_birth b) s.threads })
  thread-freed-to none is = cleared-thread v s (thread-gone-to w held v b none is) b (λ there. absurd (clash (gone (is_born_thread b) w.threads v.threads (ap (λ (u : World). u.threads) is)) there))

  pub process-freed-to : v ≡ record w { processes = without (is_born_process b) w.processes } → AreLivesWatched v (record s { processes = without (same_birth b) s.processes })
  process-freed-to is = cleared-process v s (process-gone-to w held v b is) b (λ there. absurd (clash (gone (is_born_process b) w.processes v.processes (ap (λ (u : World). u.processes) is)) there))

-- where none is suspected, some row counts for each
pub all-held : (w : World) (s : LifeTable) → AreLivesWatched w s → s.threads ≡ [] → s.processes ≡ [] → AreLivesHeld w
all-held w s held threads processes = record {
  threads = every-more (is_watched_thread w s) (λ (t : ThreadRow). not (is_unheld w (thread_name t.birth))) (λ t is. alone _ _ (ap (λ bs. is_among bs t.birth) threads) is) w.threads held.threads;
  processes = every-more (is_watched_process w s) (λ (p : ProcessRow). not (is_unheld w (process_name p.birth))) (λ p is. alone _ _ (ap (λ bs. is_among bs p.birth) processes) is) w.processes held.processes;
}
  where
    alone : (c x : Bool) → x ≡ false → (c || x) ≡ true → c ≡ true
    alone c x off is = grind arith

-- where some row counts for each, none need be suspected
pub still-held : (w : World) (s : LifeTable) → AreLivesHeld w → AreLivesWatched w s
still-held w s held = record {
  threads = every-more (λ (t : ThreadRow). not (is_unheld w (thread_name t.birth))) (is_watched_thread w s) (λ t is. rw (is) refl) w.threads held.threads;
  processes = every-more (λ (p : ProcessRow). not (is_unheld w (process_name p.birth))) (is_watched_process w s) (λ p is. rw (is) refl) w.processes held.processes;
}
