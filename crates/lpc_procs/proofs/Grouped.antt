-- The threads of each process among those of all, which rise by the ranks of their processes.
use Rattle.std.proofs.Common.{◌≡◌, ◌+◌, ◌<◌, ◌≤◌, ℕ, zero, suc, Bool, true, false, cond, refl, sym, ap, arith, List, [], ◌∷◌, ◌++◌, Some, None, get_or, length, take, drop}
use Rattle.std.specs.Prelude.{◌==◌, ◌&&◌, if◌then◌else◌, nat_le, nat_lt}
use Rattle.std.specs.List.{insert, position, position_or_len, prefix_len, remove}
use Rattle.std.specs.List.Sorted.{IsPartitionedBy, IsPartitionPoint}
use Rattle.std.proofs.lemmas.Bool.Decides.{nat_tests}
use Rattle.std.proofs.lemmas.List.{append-nil}
use Rattle.std.proofs.lemmas.List.Sums.{prefix_len_is}
use Rattle.lpc_base.specs.Rows.{every, which, without_first}
use Rattle.lpc_base.proofs.RowMaps.{every-without_first}
use Rattle.lpc_base.proofs.RowWords.{every-more}
use Rattle.lpc_procs.specs.declared.members.Member.{Member}
use Rattle.lpc_procs.specs.Members.{comes_before, comes_within, is_member, is_of_rank, names_thread, rise}

-- ---- what the searches ask

every-at : (q : Member → Bool) (ms : List Member) (j : ℕ) (d : Member) → every q ms ≡ true → j < length ms → q (get_or ms j d) ≡ true
every-at q [] j d all lt = absurd (omega arith)
every-at q (m ∷ ms) zero d all lt = grind arith
every-at q (m ∷ ms) (suc j) d all lt = every-at q ms j d (grind arith) (omega arith)

-- a test that a process of a lesser rank passes too
module _ (test : Member → Bool) (lesser : (m other : Member) → nat_le m.rank other.rank ≡ true → test other ≡ true → test m ≡ true) where
  pub partitioned : (ms : List Member) → rise ms ≡ true → IsPartitionedBy test ms
  partitioned [] up i j d le lt passes = absurd (omega arith)
  partitioned (m ∷ ms) up zero zero d le lt passes = passes
  partitioned (m ∷ ms) up zero (suc j) d le lt passes = lesser m (get_or ms j d) (every-at (λ other. nat_le m.rank other.rank) ms j d (grind arith) (omega arith)) passes
  partitioned (m ∷ ms) up (suc i) zero d le lt passes = absurd (omega arith)
  partitioned (m ∷ ms) up (suc i) (suc j) d le lt passes = partitioned ms (grind arith) i j d (omega arith) (omega arith) passes

pub before-lesser : (rank : ℕ) (m other : Member) → nat_le m.rank other.rank ≡ true → comes_before rank other ≡ true → comes_before rank m ≡ true
before-lesser rank m other up passes = grind (arith, nat_tests)

pub within-lesser : (rank : ℕ) (m other : Member) → nat_le m.rank other.rank ≡ true → comes_within rank other ≡ true → comes_within rank m ≡ true
within-lesser rank m other up passes = grind (arith, nat_tests)

pub place-is : (test : Member → Bool) (d : Member) (ms : List Member) (i : ℕ) → i ≤ length ms → IsPartitionPoint (λ m. test m ≡ true) (λ m. test m ≡ false) ms i → i ≡ prefix_len test ms
place-is test d ms i bound point = sym (prefix_len_is test ms i d bound (λ k l. point.0 k d (omega arith) l) (λ l. point.1 i d (omega arith) l))

-- ---- the threads of one process stand together

pub rise-drop : (n : ℕ) (ms : List Member) → rise ms ≡ true → rise (drop n ms) ≡ true
rise-drop zero ms up = up
rise-drop (suc n) [] up = refl
rise-drop (suc n) (m ∷ ms) up = rise-drop n ms (grind arith)

-- where all are of processes of greater ranks there is none of this one
none-behind : (rank low : ℕ) (ms : List Member) → every (λ other. nat_le low other.rank) ms ≡ true → rank < low → which (is_of_rank rank) ms ≡ []
none-behind rank low [] all less = refl
none-behind rank low (m ∷ ms) all less = grind (arith, nat_tests, none-behind rank low ms)

more-than : (low rank : ℕ) (ms : List Member) → rank ≤ low → every (λ other. nat_le low other.rank) ms ≡ true → every (λ other. nat_le rank other.rank) ms ≡ true
more-than low rank ms le all = every-more (λ (other : Member). nat_le low other.rank) (λ (other : Member). nat_le rank other.rank) (λ other h. (let up : nat_le low other.rank ≡ true = h in grind (arith, nat_tests))) ms all

module _ (rank : ℕ) where
  -- one of this process or of one behind it
  abbrev is_from : Member → Bool
  is_from m = nat_le rank m.rank

  stand-within : (ms : List Member) → rise ms ≡ true → every is_from ms ≡ true → take (prefix_len (comes_within rank) ms) ms ≡ which (is_of_rank rank) ms
  stand-within [] up from = refl
  stand-within (m ∷ ms) up from = at (comes_within rank m) refl (stand-within ms (grind arith) (grind arith))
    where
      at : (b : Bool) → comes_within rank m ≡ b → take (prefix_len (comes_within rank) ms) ms ≡ which (is_of_rank rank) ms → take (prefix_len (comes_within rank) (m ∷ ms)) (m ∷ ms) ≡ which (is_of_rank rank) (m ∷ ms)
      at true within rest =
          let own : is_of_rank rank m ≡ true = grind (arith, nat_tests, from, within) in
          let more : 1 + prefix_len (comes_within rank) ms ≡ suc (prefix_len (comes_within rank) ms) = omega arith in
          rw (within, own, more) (ap (λ rows. m ∷ rows) rest)
      at false behind rest =
          let off : is_of_rank rank m ≡ false = grind (arith, nat_tests, behind) in
          let none = none-behind rank m.rank ms (grind (arith, up)) (grind (arith, nat_tests, behind)) in
          rw (behind, off) (sym none)

  from-on : (m : Member) (ms : List Member) → rise (m ∷ ms) ≡ true → comes_before rank m ≡ false → every is_from (m ∷ ms) ≡ true
  from-on m ms up not_before =
      let le : rank ≤ m.rank = grind (arith, nat_tests) in
      let rest = more-than m.rank rank ms le (grind arith) in
      grind (arith, nat_tests, rest)

  abbrev behind : List Member → List Member
  behind ms = drop (prefix_len (comes_before rank) ms) ms

  pub members-stand : (ms : List Member) → rise ms ≡ true → take (prefix_len (comes_within rank) (behind ms)) (behind ms) ≡ which (is_of_rank rank) ms
  members-stand [] up = refl
  members-stand (m ∷ ms) up = at (comes_before rank m) refl (members-stand ms (grind arith))
    where
      at : (b : Bool) → comes_before rank m ≡ b → take (prefix_len (comes_within rank) (behind ms)) (behind ms) ≡ which (is_of_rank rank) ms → take (prefix_len (comes_within rank) (behind (m ∷ ms))) (behind (m ∷ ms)) ≡ which (is_of_rank rank) (m ∷ ms)
      at true before rest =
          let off : is_of_rank rank m ≡ false = grind (arith, nat_tests, before) in
          let more : 1 + prefix_len (comes_before rank) ms ≡ suc (prefix_len (comes_before rank) ms) = omega arith in
          rw (before, off, more) rest
      at false not_before rest = rw not_before (stand-within (m ∷ ms) up (from-on m ms up not_before))

  -- ---- one more

  module _ (new : Member) (own : new.rank ≡ rank) where
    abbrev put : List Member → List Member
    put ms = insert ms (prefix_len (comes_within rank) ms) new

    every-insert : (q : Member → Bool) (ms : List Member) (i : ℕ) → every q ms ≡ true → q new ≡ true → every q (insert ms i new) ≡ true
    every-insert q [] zero all one = grind arith
    every-insert q [] (suc i) all one = grind arith
    every-insert q (m ∷ ms) zero all one = grind arith
    every-insert q (m ∷ ms) (suc i) all one =
        let rest = every-insert q ms i (grind arith) one in
        grind (arith, rest)

    pub rise-put : (ms : List Member) → rise ms ≡ true → rise (put ms) ≡ true
    rise-put [] up = refl
    rise-put (m ∷ ms) up = at (comes_within rank m) refl (rise-put ms (grind arith))
      where
        at : (b : Bool) → comes_within rank m ≡ b → rise (put ms) ≡ true → rise (put (m ∷ ms)) ≡ true
        at true within rest =
            let more : 1 + prefix_len (comes_within rank) ms ≡ suc (prefix_len (comes_within rank) ms) = omega arith in
            let low : nat_le m.rank new.rank ≡ true = grind (arith, nat_tests, own) in
            let all = every-insert (λ (other : Member). nat_le m.rank other.rank) ms (prefix_len (comes_within rank) ms) (grind arith) low in
            rw (within, more) (both _ _ all rest)
          where
            both : (a b : Bool) → a ≡ true → b ≡ true → (a && b) ≡ true
            both a b one two = grind arith
        at false behind rest =
            let le : new.rank ≤ m.rank = grind (arith, nat_tests, own) in
            let all = more-than m.rank new.rank ms le (grind arith) in
            let low : nat_le new.rank m.rank ≡ true = grind (arith, nat_tests) in
            rw behind (grind (arith, all, low))

    abbrev one_of : ℕ → List Member
    one_of other = if other == rank then new ∷ [] else []

    pub which-put : (other : ℕ) (ms : List Member) → rise ms ≡ true → which (is_of_rank other) (put ms) ≡ which (is_of_rank other) ms ++ one_of other
    which-put other [] up = at (other == rank) refl
      where
        at : (b : Bool) → (other == rank) ≡ b → which (is_of_rank other) (new ∷ []) ≡ (if b then new ∷ [] else [])
        at true is = let on : is_of_rank other new ≡ true = grind (arith, nat_tests, own) in rw on refl
        at false off = let no : is_of_rank other new ≡ false = grind (arith, nat_tests, own) in rw no refl
    which-put other (m ∷ ms) up = at (comes_within rank m) refl (which-put other ms (grind arith))
      where
        at : (b : Bool) → comes_within rank m ≡ b → which (is_of_rank other) (put ms) ≡ which (is_of_rank other) ms ++ one_of other → which (is_of_rank other) (put (m ∷ ms)) ≡ which (is_of_rank other) (m ∷ ms) ++ one_of other
        at true within rest =
            let more : 1 + prefix_len (comes_within rank) ms ≡ suc (prefix_len (comes_within rank) ms) = omega arith in
            rw (within, more) (by (is_of_rank other m) rest)
          where
            by : (b : Bool) → which (is_of_rank other) (put ms) ≡ which (is_of_rank other) ms ++ one_of other → cond b (m ∷ which (is_of_rank other) (put ms)) (which (is_of_rank other) (put ms)) ≡ cond b (m ∷ which (is_of_rank other) ms) (which (is_of_rank other) ms) ++ one_of other
            by true rest = ap (λ rows. m ∷ rows) rest
            by false rest = rest
        at false behind rest = rw behind (by (other == rank) refl)
          where
            by : (b : Bool) → (other == rank) ≡ b → which (is_of_rank other) (new ∷ m ∷ ms) ≡ which (is_of_rank other) (m ∷ ms) ++ (if b then new ∷ [] else [])
            by true is =
                let on : is_of_rank other new ≡ true = grind (arith, nat_tests, own) in
                let all : every (λ (o : Member). nat_le m.rank o.rank) (m ∷ ms) ≡ true = grind (arith, nat_tests) in
                let none = none-behind other m.rank (m ∷ ms) all (grind (arith, nat_tests)) in
                rw (on, none) refl
            by false off =
                let no : is_of_rank other new ≡ false = grind (arith, nat_tests, own) in
                rw no (sym (append-nil (which (is_of_rank other) (m ∷ ms))))

  -- ---- one less

  module _ (tid : ℕ) where
    abbrev place : List Member → ℕ
    place ms = position_or_len (names_thread tid) (which (is_of_rank rank) ms)

    gone-within : (ms : List Member) → rise ms ≡ true → every is_from ms ≡ true → place ms < length (which (is_of_rank rank) ms) → (place ms < length ms) × (remove ms (place ms) ≡ without_first (is_member rank tid) ms)
    gone-within [] up from stands = absurd (omega arith)
    gone-within (m ∷ ms) up from stands = at (is_of_rank rank m) refl (names_thread tid m) refl (gone-within ms (grind arith) (grind arith))
      where
        at : (b : Bool) → is_of_rank rank m ≡ b → (c : Bool) → names_thread tid m ≡ c → (place ms < length (which (is_of_rank rank) ms) → (place ms < length ms) × (remove ms (place ms) ≡ without_first (is_member rank tid) ms)) → (place (m ∷ ms) < length (m ∷ ms)) × (remove (m ∷ ms) (place (m ∷ ms)) ≡ without_first (is_member rank tid) (m ∷ ms))
        at true own true is rest = rw (own, is) (omega arith, refl)
        at true own false off rest =
            let more : 1 + place ms ≡ suc (place ms) = omega arith in
            let later : 1 + place ms < length (m ∷ which (is_of_rank rank) ms) = rw (own, off) at stands in
            let found = rest (omega (arith, later)) in
            rw (own, off, more) (omega (arith, found.0), ap (λ rows. m ∷ rows) found.1)
        at false away c is rest =
            let all : every (λ (o : Member). nat_le m.rank o.rank) ms ≡ true = grind arith in
            let none = none-behind rank m.rank ms all (grind (arith, nat_tests)) in
            let short : 0 < 0 = rw (away, none) at stands in
            absurd (omega (arith, short))

    pub gone : (ms : List Member) → rise ms ≡ true → place ms < length (which (is_of_rank rank) ms) → (prefix_len (comes_before rank) ms + place ms < length ms) × (remove ms (prefix_len (comes_before rank) ms + place ms) ≡ without_first (is_member rank tid) ms)
    gone [] up stands = absurd (omega arith)
    gone (m ∷ ms) up stands = at (comes_before rank m) refl (gone ms (grind arith))
      where
        at : (b : Bool) → comes_before rank m ≡ b → (place ms < length (which (is_of_rank rank) ms) → (prefix_len (comes_before rank) ms + place ms < length ms) × (remove ms (prefix_len (comes_before rank) ms + place ms) ≡ without_first (is_member rank tid) ms)) → (prefix_len (comes_before rank) (m ∷ ms) + place (m ∷ ms) < length (m ∷ ms)) × (remove (m ∷ ms) (prefix_len (comes_before rank) (m ∷ ms) + place (m ∷ ms)) ≡ without_first (is_member rank tid) (m ∷ ms))
        at true before rest =
            let off : is_of_rank rank m ≡ false = grind (arith, nat_tests, before) in
            let more : 1 + prefix_len (comes_before rank) ms + place ms ≡ suc (prefix_len (comes_before rank) ms + place ms) = omega arith in
            let later : place ms < length (which (is_of_rank rank) ms) = rw off at stands in
            let found = rest later in
            rw (before, off, more) (omega (arith, found.0), ap (λ rows. m ∷ rows) found.1)
        at false not_before rest =
            let none : 0 + place (m ∷ ms) ≡ place (m ∷ ms) = omega arith in
            rw (not_before, none) (gone-within (m ∷ ms) up (from-on m ms up not_before) stands)

    pub kept : (ms : List Member) → length (which (is_of_rank rank) ms) ≤ place ms → ms ≡ without_first (is_member rank tid) ms
    kept [] none = refl
    kept (m ∷ ms) none = at (is_of_rank rank m) refl (names_thread tid m) refl (kept ms)
      where
        at : (b : Bool) → is_of_rank rank m ≡ b → (c : Bool) → names_thread tid m ≡ c → (length (which (is_of_rank rank) ms) ≤ place ms → ms ≡ without_first (is_member rank tid) ms) → m ∷ ms ≡ without_first (is_member rank tid) (m ∷ ms)
        at true own true is rest =
            let short : suc (length (which (is_of_rank rank) ms)) ≤ 0 = rw (own, is) at none in
            absurd (omega (arith, short))
        at true own false off rest =
            let later : suc (length (which (is_of_rank rank) ms)) ≤ 1 + place ms = rw (own, off) at none in
            rw (own, off) (ap (λ rows. m ∷ rows) (rest (omega (arith, later))))
        at false away c is rest =
            let later : length (which (is_of_rank rank) ms) ≤ place ms = rw away at none in
            rw away (ap (λ rows. m ∷ rows) (rest later))

pub rise-less : (test : Member → Bool) (ms : List Member) → rise ms ≡ true → rise (without_first test ms) ≡ true
rise-less test [] up = refl
rise-less test (m ∷ ms) up = grind (arith, every-without_first (λ other. nat_le m.rank other.rank) test ms, rise-less test ms)

-- the place that a search gives, and that there is none
pub some-place : (test : Member → Bool) (ms : List Member) (i : ℕ) → Some i ≡ position test ms → (position_or_len test ms ≡ i) × (position_or_len test ms < length ms)
some-place test ms i found = at (nat_lt (position_or_len test ms) (length ms)) refl found
  where
    at : (b : Bool) → nat_lt (position_or_len test ms) (length ms) ≡ b → Some i ≡ cond b (Some (position_or_len test ms)) None → (position_or_len test ms ≡ i) × (position_or_len test ms < length ms)
    at true within is = ((let same : position_or_len test ms ≡ i = cc in same), grind (arith, nat_tests, within))
    at false out is = absurd (cc)

pub no-place : (test : Member → Bool) (ms : List Member) → None ≡ position test ms → length ms ≤ position_or_len test ms
no-place test ms found = at (nat_lt (position_or_len test ms) (length ms)) refl found
  where
    at : (b : Bool) → nat_lt (position_or_len test ms) (length ms) ≡ b → None ≡ cond b (Some (position_or_len test ms)) None → length ms ≤ position_or_len test ms
    at true within is = absurd (cc)
    at false out is = grind (arith, nat_tests, out)
