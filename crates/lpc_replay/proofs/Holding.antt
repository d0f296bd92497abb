-- What holds of each row of a list, and of tests.
use Rattle.std.proofs.Common.{◌≡◌, refl, subst, Bool, true, false, cond, List, [], ◌∷◌, ◌++◌}
use Rattle.std.specs.Prelude.{Option, Some, find, filter, map, not}
use Rattle.std.specs.List.{AllByRecursion}

-- what holds of each holds of what is found
found_all : {A : Type 0} (P : A → Type 0) (b : Bool) (x y : A) (o : Option A) → P x → (o ≡ Some y → P y) → cond b (Some x) o ≡ Some y → P y
found_all P true x y o px h is = let same : x ≡ y = cc in subst P same px
found_all P false x y o px h is = h is

pub find_all : {A : Type 0} (P : A → Type 0) (p : A → Bool) (xs : List A) (y : A) → AllByRecursion P xs → find p xs ≡ Some y → P y
find_all P p [] y h is = absurd (cc)
find_all P p (x ∷ xs) y h is = found_all P (p x) x y (find p xs) h.0 (λ found. find_all P p xs y h.1 found) is

pub all_append : {A : Type 0} (P : A → Type 0) (xs ys : List A) → AllByRecursion P xs → AllByRecursion P ys → AllByRecursion P (xs ++ ys)
all_append P [] ys h k = k
all_append P (x ∷ xs) ys h k = (h.0, all_append P xs ys h.1 k)

kept_all : {A : Type 0} (P : A → Type 0) (b : Bool) (x : A) (ys : List A) → P x → AllByRecursion P ys → AllByRecursion P (cond b (x ∷ ys) ys)
kept_all P true x ys px h = (px, h)
kept_all P false x ys px h = h

pub all_filter : {A : Type 0} (P : A → Type 0) (p : A → Bool) (xs : List A) → AllByRecursion P xs → AllByRecursion P (filter p xs)
all_filter P p [] h = tt
all_filter P p (x ∷ xs) h = kept_all P (p x) x (filter p xs) h.0 (all_filter P p xs h.1)

pub all_more : {A : Type 0} (P Q : A → Type 0) → ((x : A) → P x → Q x) → (xs : List A) → AllByRecursion P xs → AllByRecursion Q xs
all_more P Q more [] h = tt
all_more P Q more (x ∷ xs) h = (more x h.0, all_more P Q more xs h.1)

pub all_map : {A : Type 0} (P : A → Type 0) (f : A → A) (xs : List A) → ((x : A) → P x → P (f x)) → AllByRecursion P xs → AllByRecursion P (map f xs)
all_map P f [] k h = tt
all_map P f (x ∷ xs) k h = (k x h.0, all_map P f xs k h.1)

pub not_false : (b : Bool) → not b ≡ false → b ≡ true
not_false true h = refl
not_false false h = cc
