-- A thread registers a port, a registration goes, and a thread ends: the tables stay lawful, and stand for the step of
-- the rows that they stood for.
use Rattle.std.proofs.Common.{◌≡◌, ◌+◌, ◌*◌, ◌<◌, ◌∙◌, ℕ, List, [], ◌∷◌, true, false, length, map, Option, Some, None, option_map, refl, ap, sym, subst, arith}
use Rattle.std.specs.Prelude.{IsSomeAnd, is_some}
use Rattle.std.proofs.lemmas.List.{length-map}
use Rattle.lpc_base.specs.declared.birth.Birth.{Birth}
use Rattle.lpc_base.specs.Rows.{change, first, given, has}
use Rattle.lpc_base.proofs.RowMaps.{change-map, push-map, without-map}
use Rattle.lpc_base.proofs.RowWords.{every-change, every-push, every-true, every-without}
use Rattle.lpc_base.proofs.Births.{birth-self}
use Rattle.lpc_model.specs.Basics as basics
use Rattle.lpc_model.specs.Basics.{Registers, Unregisters, basic}
use Rattle.lpc_model.specs.Found.{is_live_thread, is_thread, same_birth, waits_as}
use Rattle.lpc_model.specs.World as model
use Rattle.lpc_model.specs.World.{World}
use Rattle.lpc_procs.specs.Procs as procs
use Rattle.lpc_procs.specs.declared.rows.Registration.{Registration}
use Rattle.lpc_procs.specs.declared.rows.ThreadRow.{ThreadRow}
use Rattle.lpc_rows.specs.Kept.{HandleRoom, Roomy, owed_messages, owed_rows, rows_by}
use Rattle.lpc_rows.specs.Lawful.{AreBornIn, AreLawful, are_single_threads, has_named_ports, is_under_name}
use Rattle.lpc_rows.specs.Names.{name_of, stands}
use Rattle.lpc_rows.specs.Registered.{registrations_of, with_ended}
use Rattle.lpc_rows.specs.Shown.{Births, Tables, births_of, shown_by, shown_thread}
use Rattle.lpc_rows.proofs.Marked as marked
use Rattle.lpc_rows.proofs.Born as born
use Rattle.lpc_rows.proofs.Changes as changes
use Rattle.lpc_rows.proofs.Drawn as drawn
use Rattle.lpc_rows.proofs.Dying as dying
use Rattle.lpc_rows.proofs.Registered.{registered-change}
use Rattle.lpc_rows.proofs.Rooms.{room}
use Rattle.lpc_rows.proofs.Steps.{first_thread, has_thread}
use Rattle.lpc_rows.proofs.Lawful.{alive-change}

-- A row that registers a port, and one without the registrations of a port
shown-registering : (r : Registration) (row : ThreadRow) → shown_thread (procs.registering r row) ≡ basics.registering r.birth (shown_thread row)
shown-registering r row = ap (λ bs. record (shown_thread row) { registrations = bs }) (push-map (λ (x : Registration). x.birth) row.registered.items r)

shown-unregistering : (b : Birth) (row : ThreadRow) → shown_thread (procs.unregistering b row) ≡ basics.unregistering b (shown_thread row)
shown-unregistering b row = ap (λ bs. record (shown_thread row) { registrations = bs }) (without-map (λ (x : Registration). x.birth) (λ _. true) (procs.is_of_birth b) (same_birth b) (λ x _. refl) row.registered.items (every-true row.registered.items))

module _ (it : Tables) (calls made : ℕ) (is : AreLawful it calls made) where
  abbrev n : Births
  n = births_of it

  abbrev rows : World
  rows = rows_by it

  abbrev registering : ℕ → Registration → Tables
  registering who r = record it { procs = procs.with_thread it.procs who (procs.registering r) }

  abbrev unregistering : ℕ → Birth → Tables
  unregistering who b = record it { procs = procs.with_thread it.procs who (procs.unregistering b) }

  abbrev ending : ℕ → Tables
  ending who = record it { procs = procs.with_thread it.procs who procs.ended }

  -- what they stand for
  pub registers : (who : ℕ) (r : Registration) → shown_by n (registering who r) ≡ basic rows (Registers who r.birth)
  registers who r = rw (change-map shown_thread (λ _. true) (procs.is_thread who) (is_thread who) (λ row _. refl) (procs.registering r) (basics.registering r.birth) (λ row _. shown-registering r row) it.procs.threads (every-true it.procs.threads)) refl

  pub unregisters : (who : ℕ) (b : Birth) → shown_by n (unregistering who b) ≡ basic rows (Unregisters who b)
  unregisters who b = rw (change-map shown_thread (λ _. true) (procs.is_thread who) (is_thread who) (λ row _. refl) (procs.unregistering b) (basics.unregistering b) (λ row _. shown-unregistering b row) it.procs.threads (every-true it.procs.threads)) refl

  pub ends : (who : ℕ) → shown_by n (ending who) ≡ with_ended rows who
  ends who = rw (change-map shown_thread (λ _. true) (procs.is_thread who) (is_thread who) (λ row _. refl) procs.ended basics.ended (λ row _. refl) it.procs.threads (every-true it.procs.threads)) refl

  -- the tables
  under-name : (r : Registration) → stands n.ports r.port ≡ true → name_of n.ports r.port ≡ r.birth → is_under_name n r ≡ true
  under-name r there named = rw (there, named, birth-self r.birth) refl

  pub registering-lawful : (who : ℕ) (r : Registration) → stands n.ports r.port ≡ true → name_of n.ports r.port ≡ r.birth → made + owed_rows rows < 16 * calls → owed_messages rows < it.ports.message_room → has (is_thread who) rows.threads ≡ true
      → AreLawful (registering who r) calls made
  registering-lawful who r there own lt place stand = record {
    named = changes.threaded it is.named _;
    lawful = rw (registers who r) (dying.lawful-register rows calls made it.waits.spare it.ports.message_room who r.birth is.lawful lt place is.drawn.threads_single stand);
    counted = is.counted;
    registered = every-change (has_named_ports n) (procs.is_thread who) (procs.registering r) (λ t all. every-push (is_under_name n) t.registered.items r all (under-name r there own)) it.procs.threads is.registered;
    heard = is.heard;
    marked = marked.marked-thread (procs.registering r) (λ t. refl) who it.procs.threads it.waits.rows it.ports.messages it.marks is.marked;
    mapped = is.mapped;
    headed = is.headed;
    drawn = rw (registers who r) (drawn.drawn-by (basics.registering r.birth) (λ t. refl) (λ b t h. h) rows who is.drawn);
    born = subst AreBornIn (sym (registers who r)) (born.born-by (basics.registering r.birth) (λ t. refl) (λ t. refl) (λ b t h. h) rows.processes rows.threads rows.used_processes rows.used_threads who is.born);
    promised = is.promised;
  }

  pub unregistering-lawful : (who : ℕ) (b : Birth) → AreLawful (unregistering who b) calls made
  unregistering-lawful who b = record {
    named = changes.threaded it is.named _;
    lawful = rw (unregisters who b) (dying.lawful-unregister rows calls made it.waits.spare it.ports.message_room who b is.lawful);
    counted = is.counted;
    registered = every-change (has_named_ports n) (procs.is_thread who) (procs.unregistering b) (λ t all. every-without (is_under_name n) (procs.is_of_birth b) t.registered.items all) it.procs.threads is.registered;
    heard = is.heard;
    marked = marked.marked-thread (procs.unregistering b) (λ t. refl) who it.procs.threads it.waits.rows it.ports.messages it.marks is.marked;
    mapped = is.mapped;
    headed = is.headed;
    drawn = rw (unregisters who b) (drawn.drawn-by (basics.unregistering b) (λ t. refl) (λ c t h. h) rows who is.drawn);
    born = subst AreBornIn (sym (unregisters who b)) (born.born-by (basics.unregistering b) (λ t. refl) (λ t. refl) (λ b t h. h) rows.processes rows.threads rows.used_processes rows.used_threads who is.born);
    promised = is.promised;
  }

  pub ending-lawful : (who : ℕ) → has (waits_as who) rows.waits ≡ false → AreLawful (ending who) calls made
  ending-lawful who ready = record {
    named = changes.threaded it is.named _;
    lawful = rw (ends who) (dying.lawful-ended rows calls made it.waits.spare it.ports.message_room who is.lawful ready (ap length (registered-change basics.ended (λ t. refl) who rows.threads)));
    counted = is.counted;
    registered = every-change (has_named_ports n) (procs.is_thread who) procs.ended (λ t all. all) it.procs.threads is.registered;
    heard = is.heard;
    marked = marked.marked-threads it.procs.threads _ it.waits.rows it.ports.messages it.marks (marked.fewer-living procs.ended (λ t. refl) who it.procs.threads) is.marked;
    mapped = is.mapped;
    headed = is.headed;
    drawn = rw (ends who) (drawn.drawn-by basics.ended (λ t. refl) (λ b t h. h) rows who is.drawn);
    born = subst AreBornIn (sym (ends who)) (born.born-by basics.ended (λ t. refl) (λ t. refl) (λ b t h. h) rows.processes rows.threads rows.used_processes rows.used_threads who is.born);
    promised = is.promised;
  }

  -- the registrations of a thread, as the table has them
  pub registrations_are : (who : ℕ) → registrations_of rows who ≡ given (first (procs.is_thread who) it.procs.threads) (λ t. map (λ (r : Registration). r.birth) t.registered.items)
  registrations_are who = ap (λ o. given o (λ t. t.registrations)) (first_thread it calls made is who) ∙ mapped (first (procs.is_thread who) it.procs.threads)
    where
      mapped : (o : Option ThreadRow) → given (option_map shown_thread o) (λ t. t.registrations) ≡ given o (λ t. map (λ (r : Registration). r.birth) t.registered.items)
      mapped None = refl
      mapped (Some t) = refl

  -- a further registration finds its place
  pub left_to_register : (who : ℕ) → has (is_thread who) rows.threads ≡ true → has (procs.is_thread who) it.procs.threads ≡ true → length (registrations_of rows who) < 16 → IsSomeAnd (first (procs.is_thread who) it.procs.threads) (λ t. length t.registered.items < 16)
  left_to_register who stand there few = at (first (procs.is_thread who) it.procs.threads) there (subst (λ bs. length bs < 16) (registrations_are who) few)
    where
      at : (o : Option ThreadRow) → is_some o ≡ true → length (given o (λ t. map (λ (r : Registration). r.birth) t.registered.items)) < 16 → IsSomeAnd o (λ t. length t.registered.items < 16)
      at None none few = absurd (cc)
      at (Some t) some few = omega (arith, few, length-map t.registered.items (λ (r : Registration). r.birth))

  -- a live thread has its row
  pub stands_live : (who : ℕ) → has (is_live_thread who) rows.threads ≡ true → has (procs.is_thread who) it.procs.threads ≡ true
  stands_live who live = sym (has_thread it calls made is who) ∙ has-weaker rows.threads live
    where
      has-weaker : (ts : List model.ThreadRow) → has (is_live_thread who) ts ≡ true → has (is_thread who) ts ≡ true
      has-weaker [] there = absurd (cc)
      has-weaker (t ∷ ts) there = grind (arith, has-weaker ts)

-- The room
module _ (j y z s : ℕ) (vs : List HandleRoom) (a b c d e g : ℕ) (w : World) (hs : List HandleRoom) where
  pub room_ended : (who : ℕ) → Roomy (room j y z s vs a b c d e g w hs) (room j y z s vs a b c d e g (record w { threads = change (is_thread who) basics.ended w.threads }) hs)
  room_ended who =
      let alive = dying.fewer-alive who w.threads in
      let owed = ap length (registered-change basics.ended (λ t. refl) who w.threads) in
      record {
        for_processes = omega arith;
        for_threads = omega arith;
        for_waits = omega (arith, alive);
        for_messages = omega (arith, alive, owed);
        for_ports = omega arith;
        for_names = omega arith;
        for_sections = omega arith;
        for_tokens = omega arith;
        for_token_names = omega arith;
        for_handles = λ pid. omega arith;
        for_views = λ pid. omega arith;
      }

  pub room_registered : (who : ℕ) (birth : Birth) → are_single_threads w.threads ≡ true → has (is_thread who) w.threads ≡ true
      → let after = room j y z s vs a b c d e g (record w { threads = change (is_thread who) (basics.registering birth) w.threads }) hs in Roomy (room j y z s vs a b c d e g w hs) (record after { messages = after.messages + 1 })
  room_registered who birth one there =
      let more = dying.longer-registered who birth w.threads one there in
      let alive = alive-change (basics.registering birth) (λ t. refl) who w.threads in
      record {
        for_processes = omega arith;
        for_threads = omega arith;
        for_waits = omega (arith, alive);
        for_messages = omega (arith, alive, more);
        for_ports = omega arith;
        for_names = omega arith;
        for_sections = omega arith;
        for_tokens = omega arith;
        for_token_names = omega arith;
        for_handles = λ pid. omega arith;
        for_views = λ pid. omega arith;
      }

  pub room_unregistered : (who : ℕ) (birth : Birth) → Roomy (room j y z s vs a b c d e g w hs) (room j y z s vs a b c d e g (record w { threads = change (is_thread who) (basics.unregistering birth) w.threads }) hs)
  room_unregistered who birth =
      let less = dying.shorter-registered who birth w.threads in
      let alive = alive-change (basics.unregistering birth) (λ t. refl) who w.threads in
      record {
        for_processes = omega arith;
        for_threads = omega arith;
        for_waits = omega (arith, alive);
        for_messages = omega (arith, alive, less);
        for_ports = omega arith;
        for_names = omega arith;
        for_sections = omega arith;
        for_tokens = omega arith;
        for_token_names = omega arith;
        for_handles = λ pid. omega arith;
        for_views = λ pid. omega arith;
      }

-- a thread with registrations has its row
module _ (it : Tables) (calls made : ℕ) (is : AreLawful it calls made) where
  pub stands_registered : (who : ℕ) (b : Birth) → has (same_birth b) (registrations_of (rows_by it) who) ≡ true → has (procs.is_thread who) it.procs.threads ≡ true
  stands_registered who b there = at (first (procs.is_thread who) it.procs.threads) (subst (λ bs. has (same_birth b) bs ≡ true) (registrations_are it calls made is who) there)
    where
      at : (o : Option ThreadRow) → has (same_birth b) (given o (λ t. map (λ (r : Registration). r.birth) t.registered.items)) ≡ true → is_some o ≡ true
      at None there = absurd (cc)
      at (Some t) there = refl
