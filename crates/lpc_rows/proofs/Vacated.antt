-- The row of a thread that has ended, and of a process without a live thread, goes: the tables stay lawful, and no room
-- is lost.
use Rattle.std.proofs.Common.{◌≡◌, ℕ, ◌+◌, ◌≤◌, List, Bool, true, false, not, refl, sym, subst, ◌∙◌, arith}
use Rattle.std.specs.Prelude.{◌==◌, ◌&&◌, ◌||◌}
use Rattle.lpc_base.specs.declared.birth.Birth.{Birth}
use Rattle.lpc_base.specs.Rows.{every, has, without}
use Rattle.lpc_base.proofs.RowMaps.{every-both, without-map}
use Rattle.lpc_base.proofs.RowWords.{count-bound, count-left, every-more, every-off, every-without}
use Rattle.lpc_model.specs.World.{ProcessRow, ThreadRow, World}
use Rattle.lpc_model.specs.Found.{is_born_process, is_born_thread, is_life, is_live_thread, is_process, lives_by, process_name, same_birth, thread_name}
use Rattle.lpc_model.proofs.Steps.Rows.{has-without}
use Rattle.lpc_procs.specs.Procs as procs
use Rattle.lpc_rows.specs.Held.{has_holders}
use Rattle.lpc_rows.specs.Kept.{HandleRoom, Roomy, is_alive, rows_by}
use Rattle.lpc_rows.specs.Lawful.{AreBornIn, AreLawful, IsLawful, draws_at_most, has_named_hearers, has_named_ports, is_housed, is_living, is_of}
use Rattle.lpc_rows.specs.Shown.{Tables, births_of, shown_process, shown_thread}
use Rattle.lpc_rows.proofs.Marked as marked
use Rattle.lpc_rows.proofs.Born as born
use Rattle.lpc_rows.proofs.Changes as changes
use Rattle.lpc_rows.proofs.Drawn as drawn
use Rattle.lpc_rows.proofs.Counted.{zero_has}
use Rattle.lpc_rows.proofs.Readings.{has-shown}
use Rattle.lpc_rows.proofs.Registered.{registered-less_threads}
use Rattle.lpc_rows.proofs.Rooms.{room}

-- no row that a test takes away lives
abbrev pub AreOver : (ThreadRow → Bool) → List ThreadRow → Type 0
AreOver goes ts = every (λ t. not (goes t) || not t.live) ts ≡ true

lawful-less : (w : World) (calls made a b : ℕ) (goes : ThreadRow → Bool) → AreOver goes w.threads → IsLawful w calls made a b → IsLawful (record w { threads = without goes w.threads }) calls made a b
lawful-less w calls made a b goes over h =
    let fewer = count-left is_alive goes w.threads in
    record {
      few = h.few;
      budget = let budget = h.budget in omega (arith, budget, registered-less_threads goes w.threads);
      rows = omega (arith, h.rows, count-bound (λ t. not (goes t)) w.threads);
      draws = every-without (draws_at_most (made + 1)) goes w.threads h.draws;
      housed = every-without (is_housed w) goes w.threads h.housed;
      tables_used = h.tables_used;
      tables_single = h.tables_single;
      tables_few = h.tables_few;
      single = h.single;
      threads = every-more (is_of w.threads) (is_of (without goes w.threads)) (λ x there. has-without (is_live_thread x.thread) goes w.threads (apart x.thread) there) w.waits h.threads;
      quiet = h.quiet;
      own = h.own;
      told = h.told;
      waits_fit = let fit = h.waits_fit in omega (arith, fewer, fit);
      messages_fit = let fit = h.messages_fit in omega (arith, fewer, fit, registered-less_threads goes w.threads);
    }
  where
    apart : (n : ℕ) → every (λ t. not (goes t) || not (is_live_thread n t)) w.threads ≡ true
    apart n = every-more (λ t. not (goes t) || not t.live) (λ t. not (goes t) || not (is_live_thread n t)) (λ t is. parts (goes t) t.live (t.number == n) is) w.threads over
      where
        parts : (g l m : Bool) → (not g || not l) ≡ true → (not g || not (m && l)) ≡ true
        parts g l m is = grind arith

-- the process of a live thread stays
still-there : (n : ℕ) (b : Birth) (ps : List ProcessRow) → has (λ p. same_birth p.birth b && (p.number == n)) ps ≡ false → has (is_process n) ps ≡ true → has (is_process n) (without (is_born_process b) ps) ≡ true
still-there n b ps none there =
    has-without (is_process n) (is_born_process b) ps (every-off (λ p. same_birth p.birth b && (p.number == n)) (λ p. not (is_born_process b p) || not (is_process n p)) (λ p off. parts (is_born_process b p) (is_process n p) off) ps none) there
  where
    parts : (x y : Bool) → (x && y) ≡ false → (not x || not y) ≡ true
    parts x y off = grind arith

lawful-vacated : (w : World) (calls made a c : ℕ) (b : Birth) → has (lives_by w b) w.threads ≡ false → IsLawful w calls made a c → IsLawful (record w { processes = without (is_born_process b) w.processes }) calls made a c
lawful-vacated w calls made a c b empty h = record {
  few = h.few;
  budget = h.budget;
  rows = omega (arith, h.rows, count-bound (λ p. not (is_born_process b p)) w.processes);
  draws = h.draws;
  housed = every-both (is_housed w) (λ t. not (lives_by w b t)) (is_housed (record w { processes = without (is_born_process b) w.processes }))
      (λ t home off. both t.live _ _ _ _ (λ none there. still-there t.process b w.processes none there) home off) w.threads h.housed
      (every-off (lives_by w b) (λ t. not (lives_by w b t)) (λ t off. rw off refl) w.threads empty);
  tables_used = h.tables_used;
  tables_single = h.tables_single;
  tables_few = h.tables_few;
  single = h.single;
  threads = h.threads;
  quiet = h.quiet;
  own = h.own;
  told = h.told;
  waits_fit = h.waits_fit;
  messages_fit = h.messages_fit;
}
  where
    both : (l home there later table : Bool) → (home ≡ false → there ≡ true → later ≡ true) → ((not l || there) && table) ≡ true → not (l && home) ≡ true → ((not l || later) && table) ≡ true
    both false home there later table stays is off = is
    both true true there later table stays is off = absurd (cc)
    both true false true later table stays is off = rw (stays refl refl) is
    both true false false later table stays is off = absurd (cc)

module _ (it : Tables) (calls made : ℕ) (is : AreLawful it calls made) where
  abbrev rows : World
  rows = rows_by it

  -- what the table wants of a thread that goes
  pub no-life : (b : Birth) → has_holders rows (thread_name b) ≡ false → has (procs.is_life b) it.procs.threads ≡ false
  no-life b none = sym (has-shown shown_thread (procs.is_life b) (is_life b) (λ t. refl) it.procs.threads) ∙ (sym (zero_has (is_life b) rows.threads) ∙ none)

  pub thread-shown : (b : Birth) (left : ℕ) → rows_by (record it { procs = procs.without_thread_born it.procs b left }) ≡ record rows { threads = without (is_born_thread b) rows.threads }
  thread-shown b left = rw (without-map shown_thread (λ _. true) (procs.is_thread_born b) (is_born_thread b) (λ t _. refl) it.procs.threads (changes.all_true it is.named it.procs.threads)) refl

  pub process-shown : (b : Birth) (left : ℕ) → rows_by (record it { procs = procs.without_process_born it.procs b left }) ≡ record rows { processes = without (is_born_process b) rows.processes }
  process-shown b left = rw (without-map shown_process (λ _. true) (procs.is_process_born b) (is_born_process b) (λ p _. refl) it.procs.processes (changes.all_true it is.named it.procs.processes)) refl

  pub thread-gone : (b : Birth) (left : ℕ) → has_holders rows (thread_name b) ≡ false → AreLawful (record it { procs = procs.without_thread_born it.procs b left }) calls made
  thread-gone b left none = record {
    named = changes.threaded it is.named _;
    lawful = rw (thread-shown b left) (lawful-less rows calls made it.waits.spare it.ports.message_room (is_born_thread b) over is.lawful);
    counted = is.counted;
    registered = every-without (has_named_ports (births_of it)) (procs.is_thread_born b) it.procs.threads is.registered;
    heard = is.heard;
    marked = marked.marked-threads it.procs.threads _ it.waits.rows it.ports.messages it.marks (count-left is_living (procs.is_thread_born b) it.procs.threads) is.marked;
    mapped = is.mapped;
    headed = is.headed;
    drawn = rw (thread-shown b left) (drawn.drawn-less rows (is_born_thread b) is.drawn);
    born = subst AreBornIn (sym (thread-shown b left)) (born.born-less-threads rows.processes rows.threads rows.used_processes rows.used_threads is.born (is_born_thread b));
    promised = is.promised;
  }
    where
      parts : (l s : Bool) → (l && s) ≡ false → (not s || not l) ≡ true
      parts l s off = grind arith

      over : AreOver (is_born_thread b) rows.threads
      over = every-off (is_life b) (λ t. not (is_born_thread b t) || not t.live) (λ t off. parts t.live (is_born_thread b t) off) rows.threads (sym (zero_has (is_life b) rows.threads) ∙ none)

  pub process-gone : (b : Birth) (left : ℕ) → has_holders rows (process_name b) ≡ false → AreLawful (record it { procs = procs.without_process_born it.procs b left }) calls made
  process-gone b left none = record {
    named = changes.threaded it is.named _;
    lawful = rw (process-shown b left) (lawful-vacated rows calls made it.waits.spare it.ports.message_room b (sym (zero_has (lives_by rows b) rows.threads) ∙ none) is.lawful);
    counted = is.counted;
    registered = is.registered;
    heard = every-without (has_named_hearers (births_of it)) (procs.is_process_born b) it.procs.processes is.heard;
    marked = is.marked;
    mapped = is.mapped;
    headed = is.headed;
    drawn = drawn.same-drawn rows _ refl refl refl refl refl is.drawn;
    born = subst AreBornIn (sym (process-shown b left)) (born.born-less-processes rows.processes rows.threads rows.used_processes rows.used_threads is.born (is_born_process b));
    promised = is.promised;
  }

-- The room
module _ (j y z s : ℕ) (vs : List HandleRoom) (a b c d e g : ℕ) (w : World) (hs : List HandleRoom) where
  pub room-less : (more : ℕ) (goes : ThreadRow → Bool) → b ≤ more → Roomy (room j y z s vs a b c d e g w hs) (room j y z s vs a more c d e g (record w { threads = without goes w.threads }) hs)
  room-less more goes le = let fewer = count-left is_alive goes w.threads in let owed = registered-less_threads goes w.threads in record {
    for_processes = omega arith;
    for_threads = le;
    for_waits = omega (arith, fewer);
    for_messages = omega (arith, fewer, owed);
    for_ports = omega arith;
    for_names = omega arith;
    for_sections = omega arith;
    for_tokens = omega arith;
    for_token_names = omega arith;
    for_handles = λ pid. omega arith;
    for_views = λ pid. omega arith;
  }

  pub room-vacated : (more : ℕ) (ps : List ProcessRow) → a ≤ more → Roomy (room j y z s vs a b c d e g w hs) (room j y z s vs more b c d e g (record w { processes = ps }) hs)
  room-vacated more ps le = record {
    for_processes = le;
    for_threads = omega arith;
    for_waits = omega arith;
    for_messages = omega arith;
    for_ports = omega arith;
    for_names = omega arith;
    for_sections = omega arith;
    for_tokens = omega arith;
    for_token_names = omega arith;
    for_handles = λ pid. omega arith;
    for_views = λ pid. omega arith;
  }
