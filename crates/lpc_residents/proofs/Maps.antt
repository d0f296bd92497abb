-- Rows seen by another view: what is found, changed and told of them.
use Rattle.std.proofs.Common.{◌≡◌, Bool, true, false, cond, not, List, [], ◌∷◌, Option, Some, None, map, fold, refl, ap, ◌∙◌, is_some, option_map}
use Rattle.lpc_base.specs.Rows.{change, first, has, without}

pub first-map : {X Y : Type 0} (g : X → Y) (p : X → Bool) (q : Y → Bool) → ((x : X) → q (g x) ≡ p x) → (xs : List X) → first q (map g xs) ≡ option_map g (first p xs)
first-map g p q same [] = refl
first-map g p q same (x ∷ xs) = at (q (g x)) (p x) (same x) (first-map g p q same xs)
  where
    at : (a b : Bool) → a ≡ b → first q (map g xs) ≡ option_map g (first p xs) → cond a (Some (g x)) (first q (map g xs)) ≡ option_map g (cond b (Some x) (first p xs))
    at true true is rest = refl
    at true false is rest = absurd (cc)
    at false true is rest = absurd (cc)
    at false false is rest = rest

pub has-map : {X Y : Type 0} (g : X → Y) (p : X → Bool) (q : Y → Bool) → ((x : X) → q (g x) ≡ p x) → (xs : List X) → has q (map g xs) ≡ has p xs
has-map {X = X} g p q same xs = ap is_some (first-map g p q same xs) ∙ some (first p xs)
  where
    some : (o : Option X) → is_some (option_map g o) ≡ is_some o
    some None = refl
    some (Some x) = refl

pub without-map : {X Y : Type 0} (g : X → Y) (p : X → Bool) (q : Y → Bool) → ((x : X) → q (g x) ≡ p x) → (xs : List X) → without q (map g xs) ≡ map g (without p xs)
without-map g p q same [] = refl
without-map g p q same (x ∷ xs) = at (q (g x)) (p x) (same x) (without-map g p q same xs)
  where
    at : (a b : Bool) → a ≡ b → without q (map g xs) ≡ map g (without p xs) → cond (not a) (g x ∷ without q (map g xs)) (without q (map g xs)) ≡ map g (cond (not b) (x ∷ without p xs) (without p xs))
    at true true is rest = rest
    at true false is rest = absurd (cc)
    at false true is rest = absurd (cc)
    at false false is rest = ap (λ ys. g x ∷ ys) rest

pub change-map : {X Y : Type 0} (g : X → Y) (p : X → Bool) (q : Y → Bool) (f : X → X) (h : Y → Y) → ((x : X) → q (g x) ≡ p x) → ((x : X) → h (g x) ≡ g (f x)) → (xs : List X) → change q h (map g xs) ≡ map g (change p f xs)
change-map g p q f h same moves [] = refl
change-map g p q f h same moves (x ∷ xs) = at (q (g x)) (p x) (same x) (change-map g p q f h same moves xs)
  where
    at : (a b : Bool) → a ≡ b → change q h (map g xs) ≡ map g (change p f xs) → cond a (h (g x)) (g x) ∷ change q h (map g xs) ≡ g (cond b (f x) x) ∷ map g (change p f xs)
    at true true is rest = ap (λ y. y ∷ change q h (map g xs)) (moves x) ∙ ap (λ ys. g (f x) ∷ ys) rest
    at true false is rest = absurd (cc)
    at false true is rest = absurd (cc)
    at false false is rest = ap (λ ys. g x ∷ ys) rest

pub fold-map : {X Y E : Type 0} (g : X → Y) (f : X → E → X) (h : Y → E → Y) → ((x : X) (e : E) → h (g x) e ≡ g (f x e)) → (x : X) (es : List E) → fold h (g x) es ≡ g (fold f x es)
fold-map g f h moves x [] = refl
fold-map g f h moves x (e ∷ es) = ap (λ y. fold h y es) (moves x e) ∙ fold-map g f h moves (f x e) es
