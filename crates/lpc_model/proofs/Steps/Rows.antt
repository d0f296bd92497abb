-- What the list words do to rows that are looked up by a test.
use Rattle.std.proofs.Common.{◌≡◌, ℕ, ◌≤◌, List, [], ◌∷◌, ◌++◌, Bool, true, false, cond, not, map, Option, Some, None, option_map, refl, subst, arith}
use Rattle.std.specs.Prelude.{◌&&◌, ◌||◌}
use Rattle.std.specs.Option.{option_or}
use Rattle.std.proofs.lemmas.List.Folds.{find-append}
use Rattle.lpc_base.specs.Rows.{change, count, every, first, has, passes, without, without_first}
use Rattle.lpc_base.proofs.RowWords.{count-left, every-unless, none-counted}

-- first
-- what is found with one row more was found before, or is that row
pub first-pushed : {X : Type 0} (P : X → Type 0) (p : X → Bool) (xs : List X) (y x : X) → ((z : X) → first p xs ≡ Some z → P z) → P y → first p (xs ++ y ∷ []) ≡ Some x → P x
first-pushed {X = X} P p xs y x old new is = at (first p xs) refl
  where
    one : (b : Bool) → option_or None (cond b (Some y) None) ≡ Some x → y ≡ x
    one true is = cc
    one false is = cc

    at : (o : Option X) → first p xs ≡ o → P x
    at None none =
        let last : option_or None (cond (p y) (Some y) None) ≡ Some x = rw (find-append p xs (y ∷ []), none) at is in subst P (one (p y) last) new
    at (Some z) here =
        let found : Some z ≡ Some x = rw (find-append p xs (y ∷ []), here) at is in
        let same : z ≡ x = cc in subst P same (old z here)

-- what is found among rows that are changed
pub first-change : {X : Type 0} (p s : X → Bool) (f : X → X) → ((x : X) → p (f x) ≡ p x) → (xs : List X) → first p (change s f xs) ≡ option_map (λ x. cond (s x) (f x) x) (first p xs)
first-change p s f same [] = refl
first-change p s f same (x ∷ xs) = grind (arith, same x, first-change p s f same xs)

pub passes-push : {X : Type 0} (p f : X → Bool) (xs : List X) (y : X) → passes (first p xs) f ≡ true → passes (first p (xs ++ y ∷ [])) f ≡ true
passes-push p f [] y is = absurd (cc)
passes-push p f (x ∷ xs) y is = grind (arith, passes-push p f xs y)

pub passes-change : {X : Type 0} (p f s : X → Bool) (k : X → X) → ((x : X) → p (k x) ≡ p x) → ((x : X) → f (k x) ≡ f x) → (xs : List X) → passes (first p (change s k xs)) f ≡ passes (first p xs) f
passes-change p f s k one two [] = refl
passes-change p f s k one two (x ∷ xs) = grind (arith, one x, two x, passes-change p f s k one two xs)

-- rows that are changed one by one, and pass as before
pub first-map : {X : Type 0} (p : X → Bool) (f : X → X) → ((x : X) → p (f x) ≡ p x) → (xs : List X) (y : X) → first p xs ≡ Some y → first p (map f xs) ≡ Some (f y)
first-map p f same [] y is = absurd (cc)
first-map p f same (x ∷ xs) y is = grind (arith, same x, first-map p f same xs y)

-- a row that isn't left out is found as before
pub first-without : {X : Type 0} (p test : X → Bool) → ((x : X) → p x ≡ true → test x ≡ false) → (xs : List X) (y : X) → first p xs ≡ Some y → first p (without test xs) ≡ Some y
first-without p test apart [] y is = absurd (cc)
first-without p test apart (x ∷ xs) y is = grind (arith, apart x, first-without p test apart xs y)

-- fewer rows, of which none passes
pub first-less : {X : Type 0} (p test : X → Bool) (xs : List X) → first p xs ≡ None → first p (without test xs) ≡ None
first-less p test [] none = refl
first-less p test (x ∷ xs) none = grind (arith, first-less p test xs)

-- has
pub has-none : {X : Type 0} (p : X → Bool) (xs : List X) → first p xs ≡ None → has p xs ≡ false
has-none p xs none = rw none refl

pub has-off : {X : Type 0} (p : X → Bool) (xs : List X) → every (λ x. not (p x)) xs ≡ true → has p xs ≡ false
has-off p [] off = refl
has-off p (x ∷ xs) off = grind (arith, has-off p xs)

pub has-append : {X : Type 0} (p : X → Bool) (xs ys : List X) → has p (xs ++ ys) ≡ (has p xs || has p ys)
has-append p [] ys = refl
has-append p (x ∷ xs) ys = grind (arith, has-append p xs ys)

pub has-change_to : {X : Type 0} (p s : X → Bool) (f : X → X) (xs : List X) → every (λ x. not (s x && p x) || p (f x)) xs ≡ true → has p xs ≡ true → has p (change s f xs) ≡ true
has-change_to p s f [] kept is = absurd (cc)
has-change_to p s f (x ∷ xs) kept is = grind (arith, has-change_to p s f xs)

-- a row that is changed, and then passes
pub has-changed : {X : Type 0} (p s : X → Bool) (f : X → X) → ((x : X) → p (f x) ≡ true) → (xs : List X) → has s xs ≡ true → has p (change s f xs) ≡ true
has-changed p s f passes [] is = absurd (cc)
has-changed p s f passes (x ∷ xs) is = grind (arith, passes x, has-changed p s f passes xs)

-- a row that passes another test is changed, and then passes
pub has-turned : {X : Type 0} (q p s : X → Bool) (f : X → X) → ((x : X) → q x ≡ true → s x ≡ true) → ((x : X) → q x ≡ true → p (f x) ≡ true) → (xs : List X) → has q xs ≡ true → has p (change s f xs) ≡ true
has-turned q p s f one two [] is = absurd (cc)
has-turned q p s f one two (x ∷ xs) is = grind (arith, one x, two x, has-turned q p s f one two xs)

-- a row that passes a test passes a weaker one
pub has-more : {X : Type 0} (p q : X → Bool) → ((x : X) → p x ≡ true → q x ≡ true) → (xs : List X) → has p xs ≡ true → has q xs ≡ true
has-more p q more [] is = absurd (cc)
has-more p q more (x ∷ xs) is = grind (arith, more x, has-more p q more xs)

-- what isn't left out stays
pub has-without : {X : Type 0} (p test : X → Bool) (xs : List X) → every (λ x. not (test x) || not (p x)) xs ≡ true → has p xs ≡ true → has p (without test xs) ≡ true
has-without p test [] apart is = absurd (cc)
has-without p test (x ∷ xs) apart is = grind (arith, has-without p test xs)

-- what is found among fewer rows is found
pub has-less : {X : Type 0} (p test : X → Bool) (xs : List X) → has p (without test xs) ≡ true → has p xs ≡ true
has-less p test [] is = absurd (cc)
has-less p test (x ∷ xs) is = grind (arith, has-less p test xs)

-- one taken
pub has-without_first : {X : Type 0} (p test : X → Bool) (xs : List X) (y : X) → first test xs ≡ Some y → p y ≡ false → has p xs ≡ true → has p (without_first test xs) ≡ true
has-without_first p test [] y is off one = absurd (cc)
has-without_first p test (x ∷ xs) y is off one = grind (arith, has-without_first p test xs y)

pub without_first-push : {X : Type 0} (test : X → Bool) (xs : List X) (y : X) → has test xs ≡ false → test y ≡ true → without_first test (xs ++ y ∷ []) ≡ xs
without_first-push test [] y none is = grind arith
without_first-push test (x ∷ xs) y none is = grind (arith, without_first-push test xs y)

-- counts
pub count-change : {X : Type 0} (p s : X → Bool) (f : X → X) → ((x : X) → p (f x) ≡ p x) → (xs : List X) → count p (change s f xs) ≡ count p xs
count-change p s f same [] = refl
count-change p s f same (x ∷ xs) = grind (arith, same x, count-change p s f same xs)

-- fewer rows, no more that pass
pub count-less : {X : Type 0} (p test : X → Bool) (xs : List X) (n : ℕ) → count p xs ≤ n → count p (without test xs) ≤ n
count-less p test xs n few = omega (arith, count-left p test xs)

-- where one row alone passes, each row that does is that one
pub has-found : {X : Type 0} (p test : X → Bool) (xs : List X) (x : X) → first test xs ≡ Some x → p x ≡ true → has p xs ≡ true
has-found p test [] x at is = absurd (cc)
has-found p test (y ∷ ys) x at is = grind (arith, has-found p test ys x)

lone-push : {X : Type 0} (p f test : X → Bool) (y : X) (ys : List X) (x : X) (t b : Bool) → test y ≡ t → p y ≡ b → count p (y ∷ ys) ≤ 1 → first test (y ∷ ys) ≡ Some x → p x ≡ true → f x ≡ true
    → (count p ys ≤ 1 → first test ys ≡ Some x → every (λ y. not (p y) || f y) ys ≡ true) → every (λ y. not (p y) || f y) (y ∷ ys) ≡ true
lone-push p f test y ys x true true here on one at is will more =
    let rest = every-unless p f ys (none-counted p ys (grind arith)) in grind arith
lone-push p f test y ys x true false here off one at is will more = absurd (cc)
lone-push p f test y ys x false true here on one at is will more =
    let none = none-counted p ys (grind arith) in
    let found = has-found p test ys x (grind arith) is in absurd (cc)
lone-push p f test y ys x false false here off one at is will more = grind (arith, more)

pub lone : {X : Type 0} (p f test : X → Bool) (xs : List X) (x : X) → count p xs ≤ 1 → first test xs ≡ Some x → p x ≡ true → f x ≡ true → every (λ y. not (p y) || f y) xs ≡ true
lone p f test [] x one at is will = absurd (cc)
lone p f test (y ∷ ys) x one at is will = lone-push p f test y ys x (test y) (p y) refl refl one at is will (λ few at. lone p f test ys x few at is will)

-- what is left behind a test that takes rows away doesn't pass it
pub every-left : {X : Type 0} (test : X → Bool) (xs : List X) → every (λ x. not (test x)) (without test xs) ≡ true
every-left test [] = refl
every-left test (x ∷ xs) = grind (arith, every-left test xs)
