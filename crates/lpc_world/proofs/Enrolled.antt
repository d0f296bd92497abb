-- Threads that end, and registrations that go: the ports that were registered are suspected.
use Rattle.std.proofs.Common.{Bool, cond, List, [], ◌∷◌, ap, arith, false, not, refl, true, ℕ, ◌≡◌, ◌≤◌, map, subst, sym, ◌∙◌, Option, Some, None}
use Rattle.std.specs.Prelude.{◌||◌, option_map}
use Rattle.lpc_base.specs.Rows.{change, count, each, every, first, has, without}
use Rattle.lpc_base.proofs.Births.{birth-same, birth-turned, births-apart}
use Rattle.lpc_base.proofs.Bools.{first-true, second-true}
use Rattle.lpc_base.proofs.Differ.{own-rows}
use Rattle.lpc_base.proofs.RowMaps.{every-first}
use Rattle.lpc_base.proofs.RowWords.{every-more, first-passes}
use Rattle.lpc_model.specs.World as model
use Rattle.lpc_model.specs.World.{Birth, World}
use Rattle.lpc_model.specs.Found.{is_thread, registered_by, same_birth}
use Rattle.lpc_model.specs.Basics.{Unregisters, basic, ended, unregistering}
use Rattle.lpc_model.proofs.Steps.Registrations.{more-each}
use Rattle.lpc_procs.specs.Procs as procs
use Rattle.lpc_procs.specs.declared.rows.Registration.{Registration}
use Rattle.lpc_procs.specs.declared.rows.ThreadRow.{ThreadRow}
use Rattle.lpc_slots.specs.declared.Key.{Key}
use Rattle.lpc_rows.specs.Kept.{rows_by}
use Rattle.lpc_rows.specs.Lawful.{AreLawful, has_named_ports, is_under_name}
use Rattle.lpc_rows.specs.Names.{Names, name_of, some_stands, stands}
use Rattle.lpc_rows.specs.Shown.{Births, Tables, births_of, shown_thread}
use Rattle.lpc_rows.specs.Suspects.{AreSuspected, SuspectTable, suspecting, suspecting_some}
use Rattle.lpc_rows.proofs.Claims.{KeepsClaims, others-stay, threads-keep}
use Rattle.lpc_rows.proofs.Steps.{first_thread}
use Rattle.lpc_rows.proofs.Suspected.{AreBut, NoNewPort, adds-two, but-adds, but-all, but-lost, covers}
use Rattle.lpc_world.specs.Suspected.{suspecting_each}
use Rattle.lpc_world.proofs.Hearers.{each-changed}

-- Changes behind which these ports are suspected
but-each : (v : World) (n : Names) (s : SuspectTable) (rs : List Registration) (x : Birth → Bool) → every (λ (r : Registration). stands n r.port) rs ≡ true → AreBut v n s (λ b. has (λ (r : Registration). same_birth (name_of n r.port) b) rs || x b) → AreBut v n (suspecting_each rs s) x
but-each v n s [] x all old = old
but-each v n s (r ∷ rs) x all old =
    but-each v n (suspecting r.port s) rs x (second-true _ _ all)
    (but-adds v n s r.port (λ b. has (λ (q : Registration). same_birth (name_of n q.port) b) rs || x b) (first-true _ _ all) (λ calm b there none off. old calm b there none (split b off)))
  where
    split : (b : Birth) → (same_birth (name_of n r.port) b || (has (λ (q : Registration). same_birth (name_of n q.port) b) rs || x b)) ≡ false → (has (λ (q : Registration). same_birth (name_of n q.port) b) (r ∷ rs) || x b) ≡ false
    split b off = grind arith

adds-each : (w v : World) (n : Names) (s : SuspectTable) (rs : List Registration) → every (λ (r : Registration). stands n r.port) rs ≡ true → NoNewPort w v
    → ((b : Birth) → has (λ (r : Registration). same_birth (name_of n r.port) b) rs ≡ false → KeepsClaims w v b) → AreSuspected w n s → AreSuspected v n (suspecting_each rs s)
adds-each w v n s rs all ports keeps old =
    but-all v n (suspecting_each rs s)
    (but-each v n s rs (λ b. false) all
    (but-lost w v n s (λ b. has (λ (r : Registration). same_birth (name_of n r.port) b) rs || false) ports (λ b off. keeps b (front _ off)) old))
  where
    front : (a : Bool) → (a || false) ≡ false → a ≡ false
    front true off = absurd (cc)
    front false off = refl

module _ (it : Tables) (calls made : ℕ) (is : AreLawful it calls made) (s : SuspectTable) (old : AreSuspected (rows_by it) (births_of it).ports s) where
  abbrev n : Births
  n = births_of it

  abbrev rows : World
  rows = rows_by it

  flip : (c : Bool) → c ≡ false → not c ≡ true
  flip true off = absurd (cc)
  flip false off = refl

  stood : (rs : List Registration) → every (is_under_name n) rs ≡ true → every (λ (r : Registration). stands n.ports r.port) rs ≡ true
  stood rs all = every-more (is_under_name n) (λ (r : Registration). stands n.ports r.port) (λ r under. first-true _ _ under) rs all

  name-is : (r : Registration) → is_under_name n r ≡ true → name_of n.ports r.port ≡ r.birth
  name-is r under = birth-same (name_of n.ports r.port) r.birth (second-true _ _ under)

  -- no registration is of a port that isn't suspected
  unheard : (b : Birth) (rs : List Registration) → every (is_under_name n) rs ≡ true → has (λ (r : Registration). same_birth (name_of n.ports r.port) b) rs ≡ false → has (same_birth b) (map (λ (r : Registration). r.birth) rs) ≡ false
  unheard b [] all off = refl
  unheard b (r ∷ rs) all off =
      let away : same_birth (name_of n.ports r.port) b ≡ false = grind (arith, off) in
      let here : same_birth b r.birth ≡ false = ap (same_birth b) (sym (name-is r (first-true _ _ all))) ∙ (birth-turned b (name_of n.ports r.port) ∙ away) in
      let rest = unheard b rs (second-true _ _ all) (grind (arith, off)) in
      rw (here, rest) refl

  -- the registrations of a thread that is found
  pub record IsThread (who : ℕ) (rs : List Registration) : Type 0 where
    pub row : model.ThreadRow
    pub found : first (is_thread who) rows.threads ≡ Some row
    pub registered : row.registrations ≡ map (λ (r : Registration). r.birth) rs
    pub named : every (is_under_name n) rs ≡ true

  the-thread : (who : ℕ) (rs : List Registration) → option_map procs.registered_by (first (procs.is_thread who) it.procs.threads) ≡ Some rs → IsThread who rs
  the-thread who rs at = by (first (procs.is_thread who) it.procs.threads) refl at
    where
      by : (o : Option ThreadRow) → first (procs.is_thread who) it.procs.threads ≡ o → option_map procs.registered_by o ≡ Some rs → IsThread who rs
      by None found at = absurd (cc)
      by (Some t) found at =
          let own : t.registered.items ≡ rs = cc in
          record {
            row = shown_thread t;
            found = first_thread it calls made is who ∙ ap (option_map shown_thread) found;
            registered = ap (map (λ (r : Registration). r.birth)) own;
            named = subst (λ (xs : List Registration). every (is_under_name n) xs ≡ true) own (every-first (has_named_ports n) (procs.is_thread who) it.procs.threads t is.registered found);
          }

  none-of : (b : Birth) (who : ℕ) (rs : List Registration) → IsThread who rs → has (same_birth b) (map (λ (r : Registration). r.birth) rs) ≡ false → every (λ (t : model.ThreadRow). not (is_thread who t) || not (has (same_birth b) (registered_by t))) rows.threads ≡ true
  none-of b who rs one off = own-rows (λ (t : model.ThreadRow). t.number) (λ (t : model.ThreadRow). not (has (same_birth b) (registered_by t))) who rows.threads one.row is.drawn.threads_single one.found (by one.row.live one.row.registrations (ap (has (same_birth b)) one.registered ∙ off))
    where
      by : (l : Bool) (bs : List Birth) → has (same_birth b) bs ≡ false → not (has (same_birth b) (cond l bs [])) ≡ true
      by true bs off = flip _ off
      by false bs off = refl

  -- a thread ends
  pub ended-to : (v : World) (who : ℕ) (rs : List Registration) → option_map procs.registered_by (first (procs.is_thread who) it.procs.threads) ≡ Some rs → v ≡ record rows { threads = change (is_thread who) ended rows.threads } → AreSuspected v n.ports (suspecting_each rs s)
  ended-to v who rs at ends =
      let one = the-thread who rs at in
      subst (λ (u : World). AreSuspected u n.ports (suspecting_each rs s)) (sym ends)
      (adds-each rows (record rows { threads = change (is_thread who) ended rows.threads }) n.ports s rs (stood rs one.named) (λ b there. there)
      (λ b off. threads-keep rows b (change (is_thread who) ended rows.threads) (each-changed (same_birth b) registered_by (is_thread who) ended rows.threads (none-of b who rs one (unheard b rs one.named off)))) old)

  -- a registration goes
  pub unregistered-to : (v : World) (who : ℕ) (c : Birth) (rs : List Registration) (key : Option Key) → option_map procs.registered_by (first (procs.is_thread who) it.procs.threads) ≡ Some rs → key ≡ option_map (λ (r : Registration). r.port) (first (procs.is_of_birth c) rs)
      → v ≡ basic rows (Unregisters who c) → AreSuspected v n.ports (suspecting_some key s)
  unregistered-to v who c rs key given is-key goes =
      let one = the-thread who rs given in
      subst (λ (u : World). AreSuspected u n.ports (suspecting_some key s)) (sym goes)
      (adds-two rows (basic rows (Unregisters who c)) n.ports s key None (subst (λ (o : Option Key). some_stands n.ports o ≡ true) (sym is-key) (there one (first (procs.is_of_birth c) rs) refl)) refl (λ b there. there)
      (λ b off away. threads-keep rows b (change (is_thread who) (unregistering c) rows.threads) (kept one b (ap (λ (o : Option Key). covers n.ports o b) (sym is-key) ∙ off) (same_birth c b) refl)) old)
    where
      named : IsThread who rs → (r : Registration) → first (procs.is_of_birth c) rs ≡ Some r → is_under_name n r ≡ true
      named one r found = every-first (is_under_name n) (procs.is_of_birth c) rs r one.named found

      there : IsThread who rs → (o : Option Registration) → first (procs.is_of_birth c) rs ≡ o → some_stands n.ports (option_map (λ (r : Registration). r.port) o) ≡ true
      there one None found = refl
      there one (Some r) found = first-true _ _ (named one r found)

      -- none of the registrations is of the port, where its key isn't suspected
      missed : (xs : List Registration) → first (procs.is_of_birth c) xs ≡ None → has (same_birth c) (map (λ (r : Registration). r.birth) xs) ≡ false
      missed [] none = refl
      missed (x ∷ xs) none = at (same_birth c x.birth) refl (λ (off : same_birth c x.birth ≡ false). missed xs (rw off at none))
        where
          at : (d : Bool) → same_birth c x.birth ≡ d → (same_birth c x.birth ≡ false → has (same_birth c) (map (λ (r : Registration). r.birth) xs) ≡ false) → has (same_birth c) (map (λ (r : Registration). r.birth) (x ∷ xs)) ≡ false
          at true here rest = absurd (grind (arith, here, none))
          at false off rest = let later = rest off in rw (off, later) refl

      uncovered : IsThread who rs → (o : Option Registration) → first (procs.is_of_birth c) rs ≡ o → covers n.ports (option_map (λ (r : Registration). r.port) o) c ≡ false → has (same_birth c) (map (λ (r : Registration). r.birth) rs) ≡ false
      uncovered one None found off = missed rs found
      uncovered one (Some r) found off =
          let own : c ≡ r.birth = birth-same c r.birth (first-passes (procs.is_of_birth c) rs r found) in
          let same : same_birth (name_of n.ports r.port) c ≡ true = ap (λ (d : Birth). same_birth d c) (name-is r (named one r found)) ∙ (birth-turned r.birth c ∙ first-passes (procs.is_of_birth c) rs r found) in
          absurd (cc)

      others : (b : Birth) → same_birth c b ≡ false → (t : model.ThreadRow) → count (same_birth b) (registered_by t) ≤ count (same_birth b) (registered_by (unregistering c t))
      others b off t = at t.live
        where
          less : (k m : ℕ) → m ≡ k → k ≤ m
          less k m same = omega (arith, same)

          at : (l : Bool) → count (same_birth b) (cond l t.registrations []) ≤ count (same_birth b) (cond l (without (same_birth c) t.registrations) [])
          at true = less _ _ (others-stay (same_birth b) (same_birth c) (λ x is. subst (λ (y : Birth). same_birth b y ≡ false) (birth-same c x is) (births-apart c b off)) t.registrations)
          at false = omega arith

      kept : IsThread who rs → (b : Birth) → covers n.ports (option_map (λ (r : Registration). r.port) (first (procs.is_of_birth c) rs)) b ≡ false → (d : Bool) → same_birth c b ≡ d
          → count (same_birth b) (each registered_by rows.threads) ≤ count (same_birth b) (each registered_by (change (is_thread who) (unregistering c) rows.threads))
      kept one b off false away = more-each (same_birth b) registered_by (is_thread who) (unregistering c) (others b away) rows.threads
      kept one b off true same =
          let equal : c ≡ b = birth-same c b same in
          let none = uncovered one (first (procs.is_of_birth c) rs) refl (ap (covers n.ports (option_map (λ (r : Registration). r.port) (first (procs.is_of_birth c) rs))) equal ∙ off) in
          each-changed (same_birth b) registered_by (is_thread who) (unregistering c) rows.threads (none-of b who rs one (ap (λ (d : Birth). has (same_birth d) (map (λ (r : Registration). r.birth) rs)) (sym equal) ∙ none))
