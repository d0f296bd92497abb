-- Registrations by tags.
use Rattle.std.proofs.Common.{◌≡◌, ◌+◌, ℕ, zero, suc, Bool, true, false, cond, not, refl, sym, ap, ◌∙◌, arith, List, [], ◌∷◌, ◌++◌, Some, length, set}
use Rattle.std.specs.Prelude.{◌==◌, ◌&&◌, filter, if◌then◌else◌, nat_lt, slice_get}
use Rattle.std.proofs.lemmas.Bool.{and_parts, eqb-true}
use Rattle.std.proofs.lemmas.Bool.Decides.{nat_tests}
use Rattle.lpc_base.specs.declared.birth.Birth.{Birth}
use Rattle.lpc_base.specs.Rows.{change, count, each, first, has, when, without, without_first}
use Rattle.lpc_base.proofs.Births.{birth-same}
use Rattle.lpc_base.proofs.Bools.{number-turned}
use Rattle.lpc_base.proofs.RowWords.{count-append, count-bound, count-push, none-counted}
use Rattle.lpc_procs.proofs.Children.{kept-whole}
use Rattle.lpc_numbers.specs.Tally.{Gains, LosesMany, Tally, count_in}
use Rattle.lpc_procs.specs.declared.rows.Registration.{Registration}
use Rattle.lpc_procs.specs.declared.rows.ThreadRow.{ThreadRow}
use Rattle.lpc_procs.specs.Tags.{AreTagged, Retags, is_tagged, tag_of}
use Rattle.lpc_procs.specs.Procs.{all_registrations, is_of_birth, live_registrations, registered_live}

pub retagged : (rs : List Registration) (tally : Tally) → tally.whole ≡ true → Retags rs rs tally tally
retagged rs tally whole = record { whole = whole; counts = λ n. refl }

none-tagged : (n : ℕ) (rs : List Registration) → length rs ≡ 0 → count (is_tagged n) rs ≡ 0
none-tagged n rs none = omega (arith, none, count-bound (is_tagged n) rs)

-- ---- rows that change, come or go, each with its registrations

module _ {X : Type 0} (f : X → List Registration) where
  abbrev tags_in : ℕ → List X → ℕ
  tags_in n xs = count (is_tagged n) (each f xs)

  abbrev tags_by : ℕ → X → ℕ
  tags_by n x = count (is_tagged n) (f x)

  sum : (n : ℕ) (x : X) (xs : List X) → tags_in n (x ∷ xs) ≡ tags_by n x + tags_in n xs
  sum n x xs = count-append (is_tagged n) (f x) (each f xs)

  set-tags : (n : ℕ) (xs : List X) (i : ℕ) (x y : X) → slice_get xs i ≡ Some x → tags_in n (set xs i y) + tags_by n x ≡ tags_in n xs + tags_by n y
  set-tags n [] i x y here = absurd (cc)
  set-tags n (z ∷ xs) zero x y here =
      let same : z ≡ x = cc in
      omega (arith, ap (tags_by n) same, sum n y xs, sum n z xs)
  set-tags n (z ∷ xs) (suc i) x y here = omega (arith, set-tags n xs i x y here, sum n z (set xs i y), sum n z xs)

  pub tagged-set : (xs : List X) (i : ℕ) (x y : X) → slice_get xs i ≡ Some x → (old new : Tally) → AreTagged (each f xs) old → (new.whole ≡ true → Retags (f x) (f y) old new) → AreTagged (each f (set xs i y)) new
  tagged-set xs i x y here old new tagged retags whole n =
      let now = retags whole in
      omega (arith, now.counts n, tagged now.whole n, set-tags n xs i x y here)

  push-tags : (n : ℕ) (xs : List X) (x : X) → tags_in n (xs ++ x ∷ []) ≡ tags_in n xs + tags_by n x
  push-tags n [] x = omega (arith, sum n x [])
  push-tags n (z ∷ xs) x = omega (arith, push-tags n xs x, sum n z (xs ++ x ∷ []), sum n z xs)

  pub tagged-push : (xs : List X) (x : X) → f x ≡ [] → (tally : Tally) → AreTagged (each f xs) tally → AreTagged (each f (xs ++ x ∷ [])) tally
  tagged-push xs x none tally tagged whole n = omega (arith, tagged whole n, push-tags n xs x, ap (count (is_tagged n)) none)

  gone-tags : (n : ℕ) (test : X → Bool) (xs : List X) (x : X) → first test xs ≡ Some x → tags_in n (without_first test xs) + tags_by n x ≡ tags_in n xs
  gone-tags n test [] x found = absurd (cc)
  gone-tags n test (z ∷ xs) x found = by (test z) refl (gone-tags n test xs x)
    where
      by : (b : Bool) → test z ≡ b → (first test xs ≡ Some x → tags_in n (without_first test xs) + tags_by n x ≡ tags_in n xs) → tags_in n (without_first test (z ∷ xs)) + tags_by n x ≡ tags_in n (z ∷ xs)
      by true on rest =
          let here : Some z ≡ Some x = rw on at found in
          let same : z ≡ x = cc in
          rw (on, ← same) (omega (arith, sum n z xs))
      by false off rest =
          let later = rest (rw off at found) in
          rw off (omega (arith, later, sum n z (without_first test xs), sum n z xs))

  pub tagged-gone : (test : X → Bool) (xs : List X) (x : X) → first test xs ≡ Some x → (old new : Tally) → AreTagged (each f xs) old → new.entries ≡ old.entries → (new.whole ≡ true → (old.whole ≡ true) × (length (f x) ≡ 0)) → AreTagged (each f (without_first test xs)) new
  tagged-gone test xs x found old new tagged entries lost whole n =
      let both = lost whole in
      omega (arith, ap (λ es. count_in es n) entries, tagged both.0 n, gone-tags n test xs x found, none-tagged n (f x) both.1)

  pub each-unseen : (s : X → Bool) (g : X → X) → ((x : X) → f (g x) ≡ f x) → (xs : List X) → each f (change s g xs) ≡ each f xs
  each-unseen s g same [] = refl
  each-unseen s g same (x ∷ xs) = at (s x) ∙ ap (λ rs. f x ++ rs) (each-unseen s g same xs)
    where
      at : (b : Bool) → f (cond b (g x) x) ++ each f (change s g xs) ≡ f x ++ each f (change s g xs)
      at true = ap (λ rs. rs ++ each f (change s g xs)) (same x)
      at false = refl

  -- where none of them is of a port, no row has one of that port
  pub none-has : (b : Birth) (xs : List X) → count (is_of_birth b) (each f xs) ≡ 0 → has (λ x. has (is_of_birth b) (f x)) xs ≡ false
  none-has b [] none = refl
  none-has b (x ∷ xs) none =
      let all = count-append (is_of_birth b) (f x) (each f xs) in
      let own = none-counted (is_of_birth b) (f x) (omega (arith, all, none)) in
      grind (arith, own, none-has b xs (omega (arith, all, none)))

-- ---- a registration comes, and those of a port go

pub retags-more : (rs : List Registration) (r : Registration) (old new : Tally) → Gains (tag_of r.birth) old new → Retags rs (rs ++ r ∷ []) old new
retags-more rs r old new gains = record {
  whole = gains.whole;
  counts = λ n. omega (arith, gains.counts n, count-push (is_tagged n) rs r, ap {B = ℕ} (λ b. cond b 1 0) (number-turned (tag_of r.birth) n));
}

same-tag : (b : Birth) (r : Registration) → is_of_birth b r ≡ true → tag_of r.birth ≡ tag_of b
same-tag b r is = sym (ap tag_of (birth-same b r.birth is))

left-tags : (n : ℕ) (b : Birth) (rs : List Registration) → count (is_tagged n) (without (is_of_birth b) rs) + (if n == tag_of b then count (is_of_birth b) rs else 0) ≡ count (is_tagged n) rs
left-tags n b [] = by (n == tag_of b)
  where
    by : (c : Bool) → 0 + cond c 0 0 ≡ 0
    by true = omega arith
    by false = omega arith
left-tags n b (r ∷ rs) = at (is_of_birth b r) refl (n == tag_of b) refl (left-tags n b rs)
  where
    at : (c : Bool) → is_of_birth b r ≡ c → (d : Bool) → (n == tag_of b) ≡ d → count (is_tagged n) (without (is_of_birth b) rs) + (if n == tag_of b then count (is_of_birth b) rs else 0) ≡ count (is_tagged n) rs
        → count (is_tagged n) (without (is_of_birth b) (r ∷ rs)) + (if n == tag_of b then count (is_of_birth b) (r ∷ rs) else 0) ≡ count (is_tagged n) (r ∷ rs)
    at true is true own rest =
        let on : is_tagged n r ≡ true = ap (λ m. m == n) (same-tag b r is) ∙ number-turned (tag_of b) n ∙ own in
        let later : count (is_tagged n) (without (is_of_birth b) rs) + count (is_of_birth b) rs ≡ count (is_tagged n) rs = rw own at rest in
        rw (is, own, on) (omega (arith, later))
    at true is false other rest =
        let off : is_tagged n r ≡ false = ap (λ m. m == n) (same-tag b r is) ∙ number-turned (tag_of b) n ∙ other in
        let later : count (is_tagged n) (without (is_of_birth b) rs) + 0 ≡ count (is_tagged n) rs = rw other at rest in
        rw (is, other, off) (omega (arith, later))
    at false away d own rest = rw away (by (is_tagged n r) rest)
      where
        by : (c : Bool) → count (is_tagged n) (without (is_of_birth b) rs) + (if n == tag_of b then count (is_of_birth b) rs else 0) ≡ count (is_tagged n) rs
            → length (cond c (r ∷ filter (is_tagged n) (without (is_of_birth b) rs)) (filter (is_tagged n) (without (is_of_birth b) rs))) + (if n == tag_of b then count (is_of_birth b) rs else 0) ≡ length (cond c (r ∷ filter (is_tagged n) rs) (filter (is_tagged n) rs))
        by true rest = omega (arith, rest)
        by false rest = rest

left-many : {X : Type 0} (test : X → Bool) (xs : List X) → length (without test xs) + count test xs ≡ length xs
left-many test [] = omega arith
left-many test (x ∷ xs) = grind (arith, left-many test xs)

pub retags-less : (rs : List Registration) (b : Birth) (many : ℕ) → many + length (without (is_of_birth b) rs) ≡ length rs → (old new : Tally) → LosesMany (tag_of b) many old new → Retags rs (without (is_of_birth b) rs) old new
retags-less rs b many is old new loses = record {
  whole = loses.whole;
  counts = λ n. by n (n == tag_of b) (loses.counts n) (left-tags n b rs);
}
  where
    by : (n : ℕ) (c : Bool) → count_in new.entries n + cond c many 0 ≡ count_in old.entries n → count (is_tagged n) (without (is_of_birth b) rs) + cond c (count (is_of_birth b) rs) 0 ≡ count (is_tagged n) rs → count_in new.entries n + count (is_tagged n) rs ≡ count_in old.entries n + count (is_tagged n) (without (is_of_birth b) rs)
    by n true one two = omega (arith, one, two, is, left-many (is_of_birth b) rs)
    by n false one two = omega (arith, one, two)

-- ---- where no registration has the tag of a name, none is of it

untagged : (b : Birth) (rs : List Registration) → count (is_tagged (tag_of b)) rs ≡ 0 → count (is_of_birth b) rs ≡ 0
untagged b rs none =
    let left = left-tags (tag_of b) b rs in
    by (tag_of b == tag_of b) (number-same (tag_of b)) left
  where
    number-same : (n : ℕ) → (n == n) ≡ true
    number-same n = grind (arith, nat_tests)

    by : (c : Bool) → c ≡ true → count (is_tagged (tag_of b)) (without (is_of_birth b) rs) + cond c (count (is_of_birth b) rs) 0 ≡ count (is_tagged (tag_of b)) rs → count (is_of_birth b) rs ≡ 0
    by true is left = omega (arith, left, none)
    by false is left = absurd (cc)

-- where a tally has none of the tag, none is of the name
pub ruled-out : (b : Birth) (rs : List Registration) (tally : Tally) → AreTagged rs tally → (tally.whole && (count_in tally.entries (tag_of b) == 0)) ≡ true → count (is_of_birth b) rs ≡ 0
ruled-out b rs tally tagged none =
    let both = and_parts tally.whole (count_in tally.entries (tag_of b) == 0) none in
    untagged b rs (sym (tagged both.0 (tag_of b)) ∙ eqb-true (count_in tally.entries (tag_of b)) 0 both.1)

live-counts : {X : Type 0} (p : X → Bool) (xs : List X) (live : Bool) → count p xs ≡ 0 → count p (when live xs) ≡ 0
live-counts p xs true none = none
live-counts p xs false none = refl

pub none-registered_to : (b : Birth) (ts : List ThreadRow) → count (is_of_birth b) (all_registrations ts) ≡ 0 → count (is_of_birth b) (live_registrations ts) ≡ 0
none-registered_to b [] none = refl
none-registered_to b (t ∷ ts) none =
    let sum = count-append (is_of_birth b) t.registered.items (all_registrations ts) in
    let own = live-counts (is_of_birth b) t.registered.items t.live (omega (arith, sum, none)) in
    omega (arith, own, count-append (is_of_birth b) (registered_live t) (live_registrations ts), none-registered_to b ts (omega (arith, sum, none)))

pub none-lost : (many : ℕ) (rs : List Registration) → many ≡ length rs → nat_lt 0 many ≡ false → length rs ≡ 0
none-lost many rs is none = grind (arith, nat_tests, is, none)

-- what is kept where a thread went that had registered nothing
pub lost-none : (whole : Bool) (rs : List Registration) (lost now : Bool) → now ≡ (whole && not lost) → (lost ≡ false → length rs ≡ 0) → now ≡ true → (whole ≡ true) × (length rs ≡ 0)
lost-none whole rs lost now is none still =
    let both = kept-whole whole lost (sym is ∙ still) in
    (both.0, none both.1)

-- ---- the ports that are told of a process's exceptions

module _ (old mid new : Tally) where
  -- in place of the first registrations or of the last comes another
  pub retags-front : (were others : List Registration) (r : Registration) → Retags were [] old mid → Gains (tag_of r.birth) mid new → Retags (were ++ others) (r ∷ others) old new
  retags-front were others r less more = record {
    whole = less.whole;
    counts = λ n. omega (arith, less.counts n, more.counts n, count-append (is_tagged n) were others, count-append (is_tagged n) (r ∷ []) others, count-push (is_tagged n) [] r, ap {B = ℕ} (λ b. cond b 1 0) (number-turned (tag_of r.birth) n));
  }

  pub retags-back : (others were : List Registration) (r : Registration) → Retags were [] old mid → Gains (tag_of r.birth) mid new → Retags (others ++ were) (others ++ r ∷ []) old new
  retags-back others were r less more = record {
    whole = less.whole;
    counts = λ n. omega (arith, less.counts n, more.counts n, count-append (is_tagged n) others were, count-push (is_tagged n) others r, ap {B = ℕ} (λ b. cond b 1 0) (number-turned (tag_of r.birth) n));
  }

  pub retags-none : (front back : List Registration) → (mid.whole ≡ true → Retags front [] old mid) → Retags back [] mid new → Retags (front ++ back) [] old new
  retags-none front back one other =
      let first = one other.whole in
      record { whole = first.whole; counts = λ n. omega (arith, first.counts n, other.counts n, count-append (is_tagged n) front back) }
