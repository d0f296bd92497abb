-- The ports that live threads registered, behind steps.
use Rattle.std.proofs.Common.{Bool, List, [], ap, arith, cond, false, not, refl, sym, true, ℕ, ◌++◌, ◌+◌, ◌∙◌, ◌∷◌, ◌≡◌, ◌≤◌}
use Rattle.std.specs.Prelude.{◌&&◌}
use Rattle.lpc_base.specs.Rows.{change, count, each, every, without}
use Rattle.lpc_base.proofs.RowWords.{count-append, every-change, every-push, every-without}
use Rattle.lpc_base.proofs.Bools.{first-true, second-true}
use Rattle.lpc_model.specs.World.{Birth, ThreadRow}
use Rattle.lpc_model.specs.Found.{is_life, registered_by, same_birth}
use Rattle.lpc_model.specs.Basics.{registering, unregistering}

-- Counts
pub back-more : (a b c : ℕ) → b ≤ c → a + b ≤ a + c
back-more a b c is = omega (arith, is)

behind-more : (a b c : ℕ) → b ≤ c → b ≤ a + c
behind-more a b c is = omega (arith, is)

-- rows that go
pub fewer-each : {X Y : Type 0} (p : Y → Bool) (f : X → List Y) (gone : X → Bool) (xs : List X) → count p (each f (without gone xs)) ≤ count p (each f xs)
fewer-each p f gone [] = omega arith
fewer-each p f gone (x ∷ xs) = at (gone x) refl (fewer-each p f gone xs)
  where
    at : (c : Bool) → gone x ≡ c → count p (each f (without gone xs)) ≤ count p (each f xs) → count p (each f (without gone (x ∷ xs))) ≤ count p (each f (x ∷ xs))
    at true is later = rw (is, count-append p (f x) (each f xs)) (behind-more (count p (f x)) _ _ later)
    at false is later = rw (is, count-append p (f x) (each f xs), count-append p (f x) (each f (without gone xs))) (back-more (count p (f x)) _ _ later)

-- rows that change, and give as much as before
pub same-each : {X Y : Type 0} (f : X → List Y) (test : X → Bool) (g : X → X) → ((x : X) → f (g x) ≡ f x) → (xs : List X) → each f (change test g xs) ≡ each f xs
same-each f test g same [] = refl
same-each f test g same (x ∷ xs) = at (test x) refl (same-each f test g same xs)
  where
    at : (c : Bool) → test x ≡ c → each f (change test g xs) ≡ each f xs → each f (change test g (x ∷ xs)) ≡ each f (x ∷ xs)
    at true is later = rw (is, same x, later) refl
    at false is later = rw (is, later) refl

-- or give more
pub more-each : {X Y : Type 0} (p : Y → Bool) (f : X → List Y) (test : X → Bool) (g : X → X) → ((x : X) → count p (f x) ≤ count p (f (g x))) → (xs : List X) → count p (each f xs) ≤ count p (each f (change test g xs))
more-each p f test g more [] = omega arith
more-each p f test g more (x ∷ xs) = at (test x) refl (more-each p f test g more xs)
  where
    both : (a b c d : ℕ) → a ≤ c → b ≤ d → a + b ≤ c + d
    both a b c d one two = omega (arith, one, two)

    at : (c : Bool) → test x ≡ c → count p (each f xs) ≤ count p (each f (change test g xs)) → count p (each f (x ∷ xs)) ≤ count p (each f (change test g (x ∷ xs)))
    at true is later = rw (is, count-append p (f x) (each f xs), count-append p (f (g x)) (each f (change test g xs))) (both _ _ _ _ (more x) later)
    at false is later = rw (is, count-append p (f x) (each f xs), count-append p (f x) (each f (change test g xs))) (back-more (count p (f x)) _ _ later)

-- Threads
-- a further registration
pub registering-more : (b c : Birth) (t : ThreadRow) → count (same_birth b) (registered_by t) ≤ count (same_birth b) (registered_by (registering c t))
registering-more b c t = at t.live
  where
    more : (a b c : ℕ) → c ≡ a + b → a ≤ c
    more a b c is = omega (arith, is)

    at : (l : Bool) → count (same_birth b) (cond l t.registrations []) ≤ count (same_birth b) (cond l (t.registrations ++ c ∷ []) [])
    at true = more _ _ _ (count-append (same_birth b) t.registrations (c ∷ []))
    at false = omega arith

-- a further thread
pub push-each : {X Y : Type 0} (f : X → List Y) (y : X) → f y ≡ [] → (xs : List X) → each f (xs ++ y ∷ []) ≡ each f xs
push-each f y none [] = rw none refl
push-each f y none (x ∷ xs) = rw (push-each f y none xs) refl

-- no live thread has the birth of one that goes
dead-none : (b : Birth) (t : ThreadRow) → not (is_life b t) ≡ true → same_birth t.birth b ≡ true → registered_by t ≡ []
dead-none b t off same = at t.live (same_birth t.birth b) off same
  where
    at : (l s : Bool) → not (l && s) ≡ true → s ≡ true → cond l t.registrations [] ≡ []
    at true true off same = absurd (cc)
    at true false off same = absurd (cc)
    at false s off same = refl

pub dead-each : (b : Birth) (ts : List ThreadRow) → every (λ t. not (is_life b t)) ts ≡ true → each registered_by (without (λ t. same_birth t.birth b) ts) ≡ each registered_by ts
dead-each b [] off = refl
dead-each b (t ∷ ts) off = at (same_birth t.birth b) refl (dead-each b ts (second-true _ _ off))
  where
    at : (c : Bool) → same_birth t.birth b ≡ c → each registered_by (without (λ t. same_birth t.birth b) ts) ≡ each registered_by ts → each registered_by (without (λ t. same_birth t.birth b) (t ∷ ts)) ≡ each registered_by (t ∷ ts)
    at true is later = rw (is, dead-none b t (first-true _ _ off) is) later
    at false is later = rw (is, later) refl

-- What holds of each registration
pub every-each : {X Y : Type 0} (p : Y → Bool) (f : X → List Y) (xs : List X) → every p (each f xs) ≡ every (λ x. every p (f x)) xs
every-each p f [] = refl
every-each {Y = Y} p f (x ∷ xs) = both (f x) ∙ ap (λ b. every p (f x) && b) (every-each p f xs)
  where
    both : (ys : List Y) → every p (ys ++ each f xs) ≡ (every p ys && every p (each f xs))
    both [] = refl
    both (y ∷ ys) = let later = both ys in grind arith

abbrev pub All : (Birth → Bool) → List ThreadRow → Type 0
All p ts = every p (each registered_by ts) ≡ true

pub all-changed : (p : Birth → Bool) (test : ThreadRow → Bool) (g : ThreadRow → ThreadRow) → ((t : ThreadRow) → every p (registered_by t) ≡ true → every p (registered_by (g t)) ≡ true) → (ts : List ThreadRow) → All p ts → All p (change test g ts)
all-changed p test g stays ts all =
    every-each p registered_by (change test g ts) ∙ every-change (λ t. every p (registered_by t)) test g stays ts (sym (every-each p registered_by ts) ∙ all)

pub all-pushed : (p : Birth → Bool) (ts : List ThreadRow) (t : ThreadRow) → every p (registered_by t) ≡ true → All p ts → All p (ts ++ t ∷ [])
all-pushed p ts t own all =
    every-each p registered_by (ts ++ t ∷ []) ∙ every-push (λ t. every p (registered_by t)) ts t (sym (every-each p registered_by ts) ∙ all) own

pub all-left : (p : Birth → Bool) (gone : ThreadRow → Bool) (ts : List ThreadRow) → All p ts → All p (without gone ts)
all-left p gone ts all =
    every-each p registered_by (without gone ts) ∙ every-without (λ t. every p (registered_by t)) gone ts (sym (every-each p registered_by ts) ∙ all)

-- a thread that ends, registers or unregisters
pub registering-all : (p : Birth → Bool) (c : Birth) → p c ≡ true → (t : ThreadRow) → every p (registered_by t) ≡ true → every p (registered_by (registering c t)) ≡ true
registering-all p c own t = at t.live
  where
    at : (l : Bool) → every p (cond l t.registrations []) ≡ true → every p (cond l (t.registrations ++ c ∷ []) []) ≡ true
    at true all = every-push p t.registrations c all own
    at false all = refl

pub unregistering-all : (p : Birth → Bool) (c : Birth) (t : ThreadRow) → every p (registered_by t) ≡ true → every p (registered_by (unregistering c t)) ≡ true
unregistering-all p c t = at t.live
  where
    at : (l : Bool) → every p (cond l t.registrations []) ≡ true → every p (cond l (without (same_birth c) t.registrations) []) ≡ true
    at true all = every-without p (same_birth c) t.registrations all
    at false all = refl
