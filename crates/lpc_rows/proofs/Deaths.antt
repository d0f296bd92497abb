-- What isn't told yet of threads that have ended: the table finds the first of it.
use Rattle.std.proofs.Common.{◌≡◌, ◌∙◌, ℕ, List, [], ◌∷◌, Bool, true, false, map, Option, Some, None, option_map, refl, ap, sym, subst, arith}
use Rattle.std.specs.Prelude.{◌==◌, MatchOption, is_some, option_and_then, slice_get}
use Rattle.std.proofs.lemmas.Bool.{eqb-true}
use Rattle.std.proofs.lemmas.Bool.Decides.{nat_tests}
use Rattle.std.proofs.lemmas.Option.{same_Some}
use Rattle.lpc_base.specs.declared.birth.Birth.{Birth}
use Rattle.lpc_base.specs.Rows.{differ_by, each, every, first, has, which}
use Rattle.lpc_base.proofs.RowMaps.{every-first}
use Rattle.lpc_base.proofs.RowWords.{first-passes}
use Rattle.lpc_base.proofs.Births.{birth-same}
use Rattle.lpc_model.specs.Found as found
use Rattle.lpc_model.specs.Found.{is_thread, waits_as}
use Rattle.lpc_model.specs.World as model
use Rattle.lpc_model.specs.World.{World}
use Rattle.lpc_procs.specs.Procs as procs
use Rattle.lpc_procs.specs.declared.rows.Registration.{Registration}
use Rattle.lpc_procs.specs.declared.rows.ThreadRow.{ThreadRow}
use Rattle.lpc_slots.specs.declared.Key.{Key}
use Rattle.lpc_waits.specs.Table as waits
use Rattle.lpc_waits.specs.Table.{WaitingThread}
use Rattle.lpc_rows.specs.Kept.{rows_by}
use Rattle.lpc_rows.specs.Lawful.{AreLawful, are_single_threads, has_named_ports, is_under_name}
use Rattle.lpc_rows.specs.Names.{name_of, stands}
use Rattle.lpc_rows.specs.Registered as registered
use Rattle.lpc_rows.specs.Registered.{Death, accepted_port_in, death_by, deaths_of, has_ended_in, untold_of}
use Rattle.lpc_rows.specs.Shown.{Births, Tables, all_pass, birth_of, births_of, object_stands, shown_offer, shown_thread, shown_wait, wait_refs}
use Rattle.lpc_rows.proofs.Connecting.{accepted_kind}
use Rattle.lpc_rows.proofs.Readings as readings

abbrev head_of : ThreadRow → Option Death
head_of t = option_map (λ (r : Registration). death_by (shown_thread t) r.birth) (procs.first_registered t)

-- the first is that of the first thread of the process that has ended and has registrations
pub first_untold_is : (pid : ℕ) (ts : List ThreadRow) → first (λ _. true) (each deaths_of (which (has_ended_in pid) (map shown_thread ts))) ≡ option_and_then head_of (first (procs.is_untold pid) ts)
first_untold_is pid [] = refl
first_untold_is pid (t ∷ ts) = at (first_untold_is pid ts) (has_ended_in pid (shown_thread t)) refl t.registered.items refl
  where
    at : first (λ _. true) (each deaths_of (which (has_ended_in pid) (map shown_thread ts))) ≡ option_and_then head_of (first (procs.is_untold pid) ts)
        → (c : Bool) → has_ended_in pid (shown_thread t) ≡ c → (rs : List Registration) → t.registered.items ≡ rs
        → first (λ _. true) (each deaths_of (which (has_ended_in pid) (map shown_thread (t ∷ ts)))) ≡ option_and_then head_of (first (procs.is_untold pid) (t ∷ ts))
    at later false off rs is = let none : procs.is_untold pid t ≡ false = grind (arith, off) in rw (off, none) later
    at later true here [] is = let none : procs.is_untold pid t ≡ false = rw is (grind (arith, here)) in rw (here, none, is) later
    at later true here (r ∷ rs) is = let some : procs.is_untold pid t ≡ true = rw is (grind (arith, here)) in rw (here, some, is) refl

-- the thread of a number is the one that is found
pub own_first : (p : ThreadRow → Bool) (ts : List ThreadRow) (t : ThreadRow) → differ_by (λ (u : ThreadRow). u.number) ts ≡ true → first p ts ≡ Some t → first (procs.is_thread t.number) ts ≡ Some t
own_first p [] t one found = absurd (cc)
own_first p (u ∷ ts) t one found = at (λ rest. own_first p ts t (grind arith) rest) (p u) refl
  where
    same : (a b : ThreadRow) → let x : Option ThreadRow = Some a in let y : Option ThreadRow = Some b in x ≡ y → a ≡ b
    same a b e = cc

    at : (first p ts ≡ Some t → first (procs.is_thread t.number) ts ≡ Some t) → (c : Bool) → p u ≡ c → first (procs.is_thread t.number) (u ∷ ts) ≡ Some t
    at rest true here =
        let is : u ≡ t = same u t (rw here at found) in
        let own : procs.is_thread u.number u ≡ true = grind (arith, nat_tests) in
        subst (λ (v : ThreadRow). first (procs.is_thread v.number) (u ∷ ts) ≡ Some v) is (rw own refl)
    at rest false off =
        let later : first (procs.is_thread t.number) ts ≡ Some t = rest (rw off at found) in
        let there : has (procs.is_thread t.number) ts ≡ true = ap is_some later in
        other (procs.is_thread t.number u) refl later there
      where
        other : (c : Bool) → procs.is_thread t.number u ≡ c → first (procs.is_thread t.number) ts ≡ Some t → has (procs.is_thread t.number) ts ≡ true → first (procs.is_thread t.number) (u ∷ ts) ≡ Some t
        other false not_it later there = rw not_it later
        other true it later there =
            let twice : has (procs.is_thread u.number) ts ≡ true = subst (λ n. has (procs.is_thread n) ts ≡ true) (sym (eqb-true u.number t.number it)) there in
            absurd (grind (arith, twice))

pub differ_shown : (ts : List ThreadRow) → are_single_threads (map shown_thread ts) ≡ true → differ_by (λ (u : ThreadRow). u.number) ts ≡ true
differ_shown [] one = refl
differ_shown (t ∷ ts) one =
    let same = readings.has-shown shown_thread (λ (u : ThreadRow). u.number == t.number) (λ (u : model.ThreadRow). u.number == t.number) (λ u. refl) ts in
    grind (arith, same, differ_shown ts)

-- a number and a registration that are found
same-pair : (a b : ℕ × Registration) → let x : Option (ℕ × Registration) = Some a in let y : Option (ℕ × Registration) = Some b in x ≡ y → a ≡ b
same-pair a b e = cc

pair-of : (k tid : ℕ) (r : Registration) (o : Option Registration) → option_map {U = ℕ × Registration} (λ (x : Registration). (k, x)) o ≡ Some (tid, r) → (o ≡ Some r) × (k ≡ tid)
pair-of k tid r None at = absurd (cc)
pair-of k tid r (Some x) at = let same = same-pair (k, x) (tid, r) at in (ap (λ (p : ℕ × Registration). Some p.1) same, ap (λ (p : ℕ × Registration). p.0) same)

module _ (it : Tables) (calls made : ℕ) (is : AreLawful it calls made) where
  abbrev n : Births
  n = births_of it

  abbrev rows : World
  rows = rows_by it

  -- what is found of a thread that has ended
  pub record HasSingleClosings (pid tid : ℕ) (r : Registration) : Type 0 where
    pub thread : ThreadRow
    pub row : first (procs.is_thread tid) it.procs.threads ≡ Some thread
    pub process : thread.process ≡ pid
    pub number : thread.number ≡ tid
    pub death : first (λ _. true) (untold_of rows pid) ≡ Some (death_by (shown_thread thread) r.birth)
    pub named : is_under_name n r ≡ true

  pub untold_found : (pid tid : ℕ) (r : Registration) → procs.first_untold it.procs.threads pid ≡ Some (tid, r) → HasSingleClosings pid tid r
  untold_found pid tid r found = by_thread (first (procs.is_untold pid) it.procs.threads) refl found
    where
      first_of_all : (rs : List Registration) → slice_get rs 0 ≡ Some r → every (is_under_name n) rs ≡ true → is_under_name n r ≡ true
      first_of_all [] at all = absurd (cc)
      first_of_all (x ∷ rs) at all = let same : x ≡ r = cc in subst (λ (y : Registration). is_under_name n y ≡ true) same (grind arith)

      by_thread : (o : Option ThreadRow) → first (procs.is_untold pid) it.procs.threads ≡ o → option_and_then procs.first_registration o ≡ Some (tid, r) → HasSingleClosings pid tid r
      by_thread None here at = absurd (cc)
      by_thread (Some t) here at =
          let parts = pair-of t.number tid r (procs.first_registered t) at in
          let passes : procs.is_untold pid t ≡ true = first-passes (procs.is_untold pid) it.procs.threads t here in
          let own = own_first (procs.is_untold pid) it.procs.threads t (differ_shown it.procs.threads is.drawn.threads_single) here in
          let all : has_named_ports n t ≡ true = every-first (has_named_ports n) (procs.is_untold pid) it.procs.threads t is.registered here in
          record {
            thread = t;
            row = subst (λ k. first (procs.is_thread k) it.procs.threads ≡ Some t) parts.1 own;
            process = eqb-true t.process pid (grind arith);
            number = parts.1;
            death = first_untold_is pid it.procs.threads ∙ ap (option_and_then head_of) here ∙ ap (option_map (λ (x : Registration). death_by (shown_thread t) x.birth)) parts.0;
            named = first_of_all t.registered.items parts.0 all;
          }

  pub untold_port : (r : Registration) → is_under_name n r ≡ true → stands n.ports r.port ≡ true
  untold_port r named = grind arith

  pub untold_name : (r : Registration) → is_under_name n r ≡ true → name_of n.ports r.port ≡ r.birth
  untold_name r named = birth-same (name_of n.ports r.port) r.birth (grind arith)

  pub untold_is : (pid tid : ℕ) (r : Registration) (b : Birth) → HasSingleClosings pid tid r → option_map (λ (t : ThreadRow). t.birth) (first (procs.is_thread tid) it.procs.threads) ≡ Some b
      → first (λ _. true) (untold_of rows pid) ≡ Some (record { client = record { process = pid; thread = tid }; birth = b; port = r.birth })
  untold_is pid tid r b u at =
      let own : u.thread.birth ≡ b = same_Some u.thread.birth b (sym (ap (option_map (λ (t : ThreadRow). t.birth)) u.row) ∙ at) in
      u.death ∙ (λ i. Some (record { client = record { process = u.process i; thread = u.number i }; birth = own i; port = r.birth }))

  pub untold_none : (pid : ℕ) → procs.first_untold it.procs.threads pid ≡ None → first (λ _. true) (untold_of rows pid) ≡ None
  untold_none pid none = first_untold_is pid it.procs.threads ∙ by_thread (first (procs.is_untold pid) it.procs.threads) none
    where
      mapped : (t : ThreadRow) (o : Option Registration) → option_map {U = ℕ × Registration} (λ (x : Registration). (t.number, x)) o ≡ None → option_map (λ (x : Registration). death_by (shown_thread t) x.birth) o ≡ None
      mapped t None at = refl
      mapped t (Some x) at = absurd (cc)

      by_thread : (o : Option ThreadRow) → option_and_then procs.first_registration o ≡ None → option_and_then head_of o ≡ None
      by_thread None at = refl
      by_thread (Some t) at = mapped t (procs.first_registered t) at

  -- the port of an accepted connect
  pub record IsPort (tid : ℕ) (result : Option Key) : Type 0 where
    pub found : MatchOption result (registered.accepted_port rows tid ≡ None) (λ key. registered.accepted_port rows tid ≡ Some (name_of n.ports key))
    pub there : MatchOption result Unit (λ key. stands n.ports key ≡ true)

  pub accepted_port_is : (tid : ℕ) (result : Option Key) → result ≡ waits.accepted_port it.waits tid → IsPort tid result
  accepted_port_is tid result at = subst (IsPort tid) (sym at) (by_row (first (waits.is_of tid) it.waits.rows) refl)
    where
      seen : registered.accepted_port rows tid ≡ option_and_then accepted_port_in (option_map (shown_wait (birth_of n)) (first (waits.is_of tid) it.waits.rows))
      seen = ap (option_and_then accepted_port_in) (readings.first-shown (shown_wait (birth_of n)) (waits.is_of tid) (waits_as tid) (λ row. refl) it.waits.rows)

      of_row : (row : WaitingThread) → every (object_stands n) (wait_refs row) ≡ true → registered.accepted_port rows tid ≡ accepted_port_in (shown_wait (birth_of n) row) → (c : Bool) → waits.is_accepted row ≡ c → IsPort tid (waits.accepted_port_in row)
      of_row row all shows true is_one =
          let same : found.is_accepted (shown_wait (birth_of n) row) ≡ true = accepted_kind row.wait.kind row.message.items (option_map (shown_offer (birth_of n)) row.offer) row.accepted ∙ is_one in
          rw is_one (record { found = rw same at shows; there = grind arith })
      of_row row all shows false off =
          let same : found.is_accepted (shown_wait (birth_of n) row) ≡ false = accepted_kind row.wait.kind row.message.items (option_map (shown_offer (birth_of n)) row.offer) row.accepted ∙ off in
          rw off (record { found = rw same at shows; there = tt })

      by_row : (o : Option WaitingThread) → first (waits.is_of tid) it.waits.rows ≡ o → IsPort tid (option_and_then waits.accepted_port_in o)
      by_row None none = record { found = seen ∙ ap (λ o. option_and_then accepted_port_in (option_map (shown_wait (birth_of n)) o)) none; there = tt }
      by_row (Some row) here =
          of_row row (every-first (all_pass wait_refs (object_stands n)) (waits.is_of tid) it.waits.rows row is.named.refs.in_waits here)
          (seen ∙ ap (λ o. option_and_then accepted_port_in (option_map (shown_wait (birth_of n)) o)) here) (waits.is_accepted row) refl
