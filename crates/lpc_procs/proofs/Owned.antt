-- The threads of a process among all threads, and its members.
use Rattle.std.proofs.Common.{◌≡◌, ℕ, inl, inr, Bool, true, false, cond, refl, sym, ap, ◌∙◌, arith, List, [], ◌∷◌, ◌++◌, Some, map, option_to_list, eq-eqb}
use Rattle.std.specs.Prelude.{◌==◌, if◌then◌else◌}
use Rattle.std.proofs.lemmas.Bool.Decides.{nat_tests}
use Rattle.std.proofs.lemmas.Bool.{cases_Bool}
use Rattle.lpc_base.specs.Rows.{change, every, first, has, which, without_first}
use Rattle.lpc_procs.specs.declared.members.Member.{Member}
use Rattle.lpc_procs.specs.declared.rows.ThreadRow.{ThreadRow}
use Rattle.lpc_procs.specs.Kept.{AreGrouped, PassesOnly, are_single, is_in, is_ranked, member_of, rows_of}
use Rattle.lpc_procs.specs.Members.{Enters, Members, is_member, is_of_rank}
use Rattle.lpc_procs.specs.Procs.{is_thread}
use Rattle.lpc_procs.proofs.Keeping.{KeepsNumbers}

module _ (rank : ℕ → ℕ) where
  abbrev of_threads : ℕ → List ThreadRow → List Member
  of_threads n ts = map (member_of rank) (which (is_ranked rank n) ts)

  -- ---- a thread changes

  same-member : (f : ThreadRow → ThreadRow) → KeepsNumbers f → (t : ThreadRow) → member_of rank (f t) ≡ member_of rank t
  same-member f keeps t i = record { rank = rank (keeps.process t i); thread = keeps.number t i }

  of-change : (test : ThreadRow → Bool) (f : ThreadRow → ThreadRow) → KeepsNumbers f → (n : ℕ) (ts : List ThreadRow) → of_threads n (change test f ts) ≡ of_threads n ts
  of-change test f keeps n [] = refl
  of-change test f keeps n (t ∷ ts) = at (test t) (of-change test f keeps n ts)
    where
      by : (b : Bool) (x y : ThreadRow) → member_of rank x ≡ member_of rank y → of_threads n (change test f ts) ≡ of_threads n ts → map (member_of rank) (cond b (x ∷ which (is_ranked rank n) (change test f ts)) (which (is_ranked rank n) (change test f ts))) ≡ map (member_of rank) (cond b (y ∷ which (is_ranked rank n) ts) (which (is_ranked rank n) ts))
      by true x y same rest = λ i. same i ∷ rest i
      by false x y same rest = rest

      at : (b : Bool) → of_threads n (change test f ts) ≡ of_threads n ts → of_threads n (cond b (f t) t ∷ change test f ts) ≡ of_threads n (t ∷ ts)
      at true rest = ap (λ p. map (member_of rank) (cond (rank p == n) (f t ∷ which (is_ranked rank n) (change test f ts)) (which (is_ranked rank n) (change test f ts)))) (keeps.process t) ∙ by (is_ranked rank n t) (f t) t (same-member f keeps t) rest
      at false rest = by (is_ranked rank n t) t t refl rest

  pub grouped-change : (test : ThreadRow → Bool) (f : ThreadRow → ThreadRow) → KeepsNumbers f → (ts : List ThreadRow) (members : Members) → AreGrouped rank ts members → AreGrouped rank (change test f ts) members
  grouped-change test f keeps ts members grouped whole n = grouped whole n ∙ sym (of-change test f keeps n ts)

  -- ---- a thread comes

  abbrev one_of : ℕ → ThreadRow → List Member
  one_of n t = if n == rank t.process then member_of rank t ∷ [] else []

  of-push : (n : ℕ) (t : ThreadRow) (ts : List ThreadRow) → of_threads n (ts ++ t ∷ []) ≡ of_threads n ts ++ one_of n t
  of-push n t [] = at (n == rank t.process) refl
    where
      at : (b : Bool) → (n == rank t.process) ≡ b → of_threads n (t ∷ []) ≡ (if b then member_of rank t ∷ [] else [])
      at true is = let on : is_ranked rank n t ≡ true = grind (arith, nat_tests) in rw on refl
      at false off = let other : is_ranked rank n t ≡ false = grind (arith, nat_tests) in rw other refl
  of-push n t (x ∷ ts) = at (is_ranked rank n x) (of-push n t ts)
    where
      at : (b : Bool) → of_threads n (ts ++ t ∷ []) ≡ of_threads n ts ++ one_of n t → map (member_of rank) (cond b (x ∷ which (is_ranked rank n) (ts ++ t ∷ [])) (which (is_ranked rank n) (ts ++ t ∷ []))) ≡ map (member_of rank) (cond b (x ∷ which (is_ranked rank n) ts) (which (is_ranked rank n) ts)) ++ one_of n t
      at true rest = ap (λ rows. member_of rank x ∷ rows) rest
      at false rest = rest

  pub grouped-push : (ts : List ThreadRow) (t : ThreadRow) (old new : Members) → AreGrouped rank ts old → (new.whole ≡ true → Enters (rank t.process) t.number old new) → AreGrouped rank (ts ++ t ∷ []) new
  grouped-push ts t old new grouped enters whole n =
      let entered = enters whole in
      entered.rows n ∙ ap (λ rows. rows ++ one_of n t) (grouped entered.whole n) ∙ sym (of-push n t ts)

-- ---- a process comes

-- ranks that are the same for all threads
same-ranks : (old new : ℕ → ℕ) (same : (t : ThreadRow) → Bool) → ((t : ThreadRow) → same t ≡ true → new t.process ≡ old t.process) → (n : ℕ) (ts : List ThreadRow) → every same ts ≡ true → of_threads old n ts ≡ of_threads new n ts
same-ranks old new same keeps n [] all = refl
same-ranks old new same keeps n (t ∷ ts) all = at (keeps t (grind arith)) (same-ranks old new same keeps n ts (grind arith))
  where
    by : (b : Bool) → new t.process ≡ old t.process → of_threads old n ts ≡ of_threads new n ts → map (member_of old) (cond b (t ∷ which (is_ranked old n) ts) (which (is_ranked old n) ts)) ≡ map (member_of new) (cond b (t ∷ which (is_ranked new n) ts) (which (is_ranked new n) ts))
    by true rank rest = λ i. record { rank = sym rank i; thread = t.number } ∷ rest i
    by false rank rest = rest

    at : new t.process ≡ old t.process → of_threads old n ts ≡ of_threads new n ts → of_threads old n (t ∷ ts) ≡ of_threads new n (t ∷ ts)
    at rank rest = by (is_ranked old n t) rank rest ∙ sym (ap (λ r. map (member_of new) (cond (r == n) (t ∷ which (is_ranked new n) ts) (which (is_ranked new n) ts))) rank)

pub grouped-ranks : (old new : ℕ → ℕ) (same : (t : ThreadRow) → Bool) → ((t : ThreadRow) → same t ≡ true → new t.process ≡ old t.process) → (ts : List ThreadRow) → every same ts ≡ true → (members : Members) → AreGrouped old ts members → AreGrouped new ts members
grouped-ranks old new same keeps ts all members grouped whole n = grouped whole n ∙ same-ranks old new same keeps n ts all

-- ---- a thread goes

module _ {X : Type 0} (p test : X → Bool) where
  -- where only rows go that pass, and where only rows go that don't
  gone-on : ((x : X) → test x ≡ true → p x ≡ true) → (xs : List X) → which p (without_first test xs) ≡ without_first test (which p xs)
  gone-on on [] = refl
  gone-on on (x ∷ xs) = at (test x) refl (p x) refl (gone-on on xs)
    where
      at : (b : Bool) → test x ≡ b → (c : Bool) → p x ≡ c → which p (without_first test xs) ≡ without_first test (which p xs) → which p (without_first test (x ∷ xs)) ≡ without_first test (which p (x ∷ xs))
      at true is true passes rest = rw (is, passes, is) refl
      at true is false off rest = absurd (let clash : true ≡ false = sym (on x is) ∙ off in cc)
      at false other true passes rest = rw (other, passes, other) (ap (λ rows. x ∷ rows) rest)
      at false other false off rest = rw (other, off) rest

  gone-off : ((x : X) → test x ≡ true → p x ≡ false) → (xs : List X) → which p (without_first test xs) ≡ which p xs
  gone-off off [] = refl
  gone-off off (x ∷ xs) = at (test x) refl (gone-off off xs)
    where
      at : (b : Bool) → test x ≡ b → which p (without_first test xs) ≡ which p xs → which p (without_first test (x ∷ xs)) ≡ which p (x ∷ xs)
      at true is rest = rw (is, off x is) refl
      at false other rest = rw other (by (p x) rest)
        where
          by : (b : Bool) → which p (without_first test xs) ≡ which p xs → cond b (x ∷ which p (without_first test xs)) (which p (without_first test xs)) ≡ cond b (x ∷ which p xs) (which p xs)
          by true rest = ap (λ rows. x ∷ rows) rest
          by false rest = rest

module _ (rank : ℕ → ℕ) (t : ThreadRow) where
  -- the thread by its numbers, among the members and among the threads
  abbrev it : Member → Bool
  it = is_member (rank t.process) t.number

  abbrev its_row : ThreadRow → Bool
  its_row u = it (member_of rank u)

  gone-map : (us : List ThreadRow) → without_first it (map (member_of rank) us) ≡ map (member_of rank) (without_first its_row us)
  gone-map [] = refl
  gone-map (u ∷ us) = at (its_row u) (gone-map us)
    where
      at : (b : Bool) → without_first it (map (member_of rank) us) ≡ map (member_of rank) (without_first its_row us) → cond b (map (member_of rank) us) (member_of rank u ∷ without_first it (map (member_of rank) us)) ≡ map (member_of rank) (cond b us (u ∷ without_first its_row us))
      at true rest = refl
      at false rest = ap (λ rows. member_of rank u ∷ rows) rest

  -- a thread of another number isn't the one of its numbers
  apart : (test : ThreadRow → Bool) (u : ThreadRow) (vs : List ThreadRow) → has (λ y. y.number == u.number) vs ≡ false → first test vs ≡ Some t → its_row u ≡ false
  apart test u [] none found = absurd (cc)
  apart test u (v ∷ vs) none found = at (test v) refl (apart test u vs (grind arith))
    where
      at : (b : Bool) → test v ≡ b → (first test vs ≡ Some t → its_row u ≡ false) → its_row u ≡ false
      at true is rest =
          let both : Some v ≡ Some t = rw is at found in
          let same : v ≡ t = cc in
          let differs : (v.number == u.number) ≡ false = grind arith in
          let clear : (t.number == u.number) ≡ false = ap (λ (x : ThreadRow). x.number == u.number) (sym same) ∙ differs in
          grind (arith, nat_tests, clear)
      at false off rest = rest (rw off at found)

  -- the first thread that passes a test is the one of its numbers
  same-gone : (test : ThreadRow → Bool) (ts : List ThreadRow) → are_single ts ≡ true → first test ts ≡ Some t → without_first test ts ≡ without_first its_row ts
  same-gone test [] single found = refl
  same-gone test (u ∷ us) single found = at (test u) refl (same-gone test us (grind arith))
    where
      at : (b : Bool) → test u ≡ b → (first test us ≡ Some t → without_first test us ≡ without_first its_row us) → without_first test (u ∷ us) ≡ without_first its_row (u ∷ us)
      at true is rest =
          let both : Some u ≡ Some t = rw is at found in
          let same : u ≡ t = cc in
          let own : its_row u ≡ true = rw same (grind (arith, nat_tests)) in
          rw (is, own) refl
      at false off rest =
          let later : first test us ≡ Some t = rw off at found in
          let none : has (λ y. y.number == u.number) us ≡ false = grind arith in
          let other : its_row u ≡ false = apart test u us none later in
          rw (off, other) (ap (λ rows. u ∷ rows) (rest later))

  pub grouped-left : (test : ThreadRow → Bool) (ts : List ThreadRow) (old new : Members) → are_single ts ≡ true → first test ts ≡ Some t → AreGrouped rank ts old → new.rows ≡ without_first it old.rows → new.whole ≡ old.whole → AreGrouped rank (without_first test ts) new
  grouped-left test ts old new single found grouped rows same whole n =
      ap (which (is_of_rank n)) rows ∙ by (n == rank t.process) refl ∙ sym (ap (of_threads rank n) (same-gone test ts single found))
    where
      was : which (is_of_rank n) old.rows ≡ of_threads rank n ts
      was = grouped (sym same ∙ whole) n

      by : (b : Bool) → (n == rank t.process) ≡ b → which (is_of_rank n) (without_first it old.rows) ≡ of_threads rank n (without_first its_row ts)
      by true is =
          gone-on (is_of_rank n) it (λ m h. grind (arith, nat_tests)) old.rows ∙ ap (without_first it) was ∙ gone-map (which (is_ranked rank n) ts)
          ∙ sym (ap (map (member_of rank)) (gone-on (is_ranked rank n) its_row (λ u h. grind (arith, nat_tests)) ts))
      by false off =
          gone-off (is_of_rank n) it (λ m h. grind (arith, nat_tests)) old.rows ∙ was
          ∙ sym (ap (map (member_of rank)) (gone-off (is_ranked rank n) its_row (λ u h. grind (arith, nat_tests)) ts))

-- ---- the threads of the members' numbers

-- each of these threads is the one of its number
abbrev Lead : List ThreadRow → List ThreadRow → Type 0
Lead ts [] = Unit {0}
Lead ts (u ∷ us) = (first (is_thread u.number) ts ≡ Some u) × Lead ts us

lead-more : (x : ThreadRow) (ts us : List ThreadRow) → has (λ y. y.number == x.number) us ≡ false → Lead ts us → Lead (x ∷ ts) us
lead-more x ts [] none lead = tt
lead-more x ts (u ∷ us) none lead =
    let differs : (x.number == u.number) ≡ false = grind (arith, nat_tests) in
    (rw differs lead.0, lead-more x ts us (grind arith) lead.1)

lead-all : (ts : List ThreadRow) → are_single ts ≡ true → Lead ts ts
lead-all [] single = tt
lead-all (x ∷ xs) single = (rw (eq-eqb x.number x.number refl) refl, lead-more x xs xs (grind arith) (lead-all xs (grind arith)))

lead-which : (p : ThreadRow → Bool) (ts us : List ThreadRow) → Lead ts us → Lead ts (which p us)
lead-which p ts [] lead = tt
lead-which p ts (u ∷ us) lead =
    elim (cases_Bool (p u)) [
      | inl on ↦ rw on (lead.0, lead-which p ts us lead.1)
      | inr off ↦ rw off (lead-which p ts us lead.1)
    ]

led : (rank : ℕ → ℕ) (ts us : List ThreadRow) → Lead ts us → rows_of ts (map (member_of rank) us) ≡ us
led rank ts [] lead = refl
led rank ts (u ∷ us) lead = ap (λ o. option_to_list o ++ rows_of ts (map (member_of rank) us)) lead.0 ∙ ap (λ rows. u ∷ rows) (led rank ts us lead.1)

-- what passes only at one rank is found among the threads of that rank
first-in : (rank : ℕ → ℕ) (n : ℕ) (test : ThreadRow → Bool) → ((t : ThreadRow) → test t ≡ true → is_ranked rank n t ≡ true) → (ts : List ThreadRow) → first test (which (is_ranked rank n) ts) ≡ first test ts
first-in rank n test only [] = refl
first-in rank n test only (t ∷ ts) = at (is_ranked rank n t) refl (test t) refl (first-in rank n test only ts)
  where
    at : (b : Bool) → is_ranked rank n t ≡ b → (c : Bool) → test t ≡ c → first test (which (is_ranked rank n) ts) ≡ first test ts → first test (which (is_ranked rank n) (t ∷ ts)) ≡ first test (t ∷ ts)
    at true own true passes rest = rw (own, passes) refl
    at true own false off rest = rw (own, off) rest
    at false other true passes rest = absurd (let clash : true ≡ false = sym (only t passes) ∙ other in cc)
    at false other false off rest = rw (other, off) rest

-- a thread of a process has its rank
its-rank : (rank : ℕ → ℕ) (pid : ℕ) (t : ThreadRow) → is_in pid t ≡ true → is_ranked rank (rank pid) t ≡ true
its-rank rank pid t own =
    let is : t.process ≡ pid = grind (arith, nat_tests) in
    eq-eqb (rank t.process) (rank pid) (ap rank is)

pub first-among : (rank : ℕ → ℕ) (pid : ℕ) (test : ThreadRow → Bool) → PassesOnly pid test → (ts : List ThreadRow) (members : Members) → are_single ts ≡ true → AreGrouped rank ts members → members.whole ≡ true → first test (rows_of ts (which (is_of_rank (rank pid)) members.rows)) ≡ first test ts
first-among rank pid test only ts members single grouped whole =
    let own = is_ranked rank (rank pid) in
    ap (λ ms. first test (rows_of ts ms)) (grouped whole (rank pid)) ∙ ap (first test) (led rank ts (which own ts) (lead-which own ts ts (lead-all ts single))) ∙ first-in rank (rank pid) test (λ t passes. its-rank rank pid t (only t passes)) ts
