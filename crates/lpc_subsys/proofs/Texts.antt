-- Texts that have atoms: what one more text makes of them, and where a text stands among them.
use Rattle.std.proofs.Common.{◌≡◌, ◌≢◌, ◌+◌, ◌||◌, ℕ, zero, suc, inl, inr, Bool, true, false, cond, not, refl, sym, ap, subst, ◌∙◌, arith, List, [], ◌∷◌, ◌++◌, length, take, map, is_some, Option, Some, None, option_map}
use Rattle.std.specs.Prelude.{◌==◌}
use Rattle.std.specs.List.{position, position_from}
use Rattle.std.specs.Str.{bytes_eq}
use Rattle.std.proofs.lemmas.Bool.Decides.{nat_tests}
use Rattle.std.proofs.lemmas.Bool.{cases_Bool}
use Rattle.std.proofs.lemmas.List.{append-nil, length-map}
use Rattle.std.proofs.lemmas.List.Elements.{filter-append}
use Rattle.std.proofs.lemmas.Slice.Eq.{bytes_eq-Decides}
use Rattle.std.proofs.lemmas.Iterator.Adapters.{position_from-zero}
use Rattle.lpc_base.specs.Rows.{has, without}
use Rattle.lpc_base.proofs.Positions.{first_at, none_first}
use Rattle.lpc_base.proofs.RowMaps.{push-map}
use Rattle.lpc_subsys.specs.Clients.{with_text}
use Rattle.lpc_subsys.specs.Replies.{atom_in, different}
use Rattle.lpc_subsys.specs.declared.profile.TheConstants.{ATOM_LIMIT, FIRST_ATOM}

-- two texts are one
pub text_same : (a b : List ℕ) → bytes_eq a b ≡ true → a ≡ b
text_same a b is = (bytes_eq-Decides a b).0 is

pub text_self : (a : List ℕ) → bytes_eq a a ≡ true
text_self a = (bytes_eq-Decides a a).1 refl

pub text_other : (a b c : List ℕ) → bytes_eq a b ≡ false → bytes_eq a c ≡ true → bytes_eq b c ≡ false
text_other a b c off is =
    elim (cases_Bool (bytes_eq b c)) [
      | inl same ↦
          let one : bytes_eq a b ≡ true = (bytes_eq-Decides a b).1 (text_same a c is ∙ sym (text_same b c same)) in
          absurd (cc)
      | inr other ↦ other
    ]

-- a text is among different ones where it is among all
has-other : (y x : List ℕ) (texts : List (List ℕ)) → bytes_eq y x ≡ false → has (bytes_eq y) (without (bytes_eq x) texts) ≡ has (bytes_eq y) texts
has-other y x [] off = refl
has-other y x (z ∷ texts) off = grind (arith, text_other y x z, has-other y x texts)

pub has-different : (y : List ℕ) (texts : List (List ℕ)) → has (bytes_eq y) (different texts) ≡ has (bytes_eq y) texts
has-different y [] = refl
has-different y (x ∷ texts) =
    elim (cases_Bool (bytes_eq y x)) [
      | inl same ↦ grind arith
      | inr off ↦ grind (arith, has-other y x (different texts) off, has-different y texts)
    ]

-- the different texts with one more
abbrev pub with_new : List (List ℕ) → List ℕ → List (List ℕ)
with_new texts y = cond (has (bytes_eq y) texts) texts (texts ++ y ∷ [])

without-one : (x y : List ℕ) → bytes_eq y x ≡ true → without (bytes_eq x) (y ∷ []) ≡ []
without-one x y same =
    let is : bytes_eq x y ≡ true = subst (λ (z : List ℕ). bytes_eq x z ≡ true) (sym (text_same y x same)) (text_self x) in
    grind arith

without-other : (x y : List ℕ) → bytes_eq y x ≡ false → without (bytes_eq x) (y ∷ []) ≡ y ∷ []
without-other x y off =
    let is : bytes_eq x y ≡ false = text_other y x y off (text_self y) in
    grind arith

new-own : (x : List ℕ) (texts : List (List ℕ)) (y : List ℕ) → bytes_eq y x ≡ true → with_new (x ∷ texts) y ≡ x ∷ texts
new-own x texts y same = grind arith

new-other : (x : List ℕ) (texts : List (List ℕ)) (y : List ℕ) → bytes_eq y x ≡ false → with_new (x ∷ texts) y ≡ x ∷ with_new texts y
new-other x texts y off =
    elim (cases_Bool (has (bytes_eq y) texts)) [
      | inl there ↦ grind arith
      | inr new ↦ grind arith
    ]

without-own : (x : List ℕ) (texts : List (List ℕ)) (y : List ℕ) → bytes_eq y x ≡ true → without (bytes_eq x) (with_new texts y) ≡ without (bytes_eq x) texts
without-own x texts y same = elim (has (bytes_eq y) texts) as (λ b. without (bytes_eq x) (cond b texts (texts ++ y ∷ [])) ≡ without (bytes_eq x) texts) [
  | true ↦ refl
  | false ↦
      filter-append (λ (z : List ℕ). not (bytes_eq x z)) texts (y ∷ [])
      ∙ ap (λ (rest : List (List ℕ)). without (bytes_eq x) texts ++ rest) (without-one x y same)
      ∙ append-nil (without (bytes_eq x) texts)
]

without-new : (x : List ℕ) (texts : List (List ℕ)) (y : List ℕ) → bytes_eq y x ≡ false → without (bytes_eq x) (with_new texts y) ≡ with_new (without (bytes_eq x) texts) y
without-new x texts y off =
    (elim (has (bytes_eq y) texts) as (λ b. without (bytes_eq x) (cond b texts (texts ++ y ∷ [])) ≡ cond b (without (bytes_eq x) texts) (without (bytes_eq x) texts ++ y ∷ [])) [
      | true ↦ refl
      | false ↦
          filter-append (λ (z : List ℕ). not (bytes_eq x z)) texts (y ∷ [])
          ∙ ap (λ (rest : List (List ℕ)). without (bytes_eq x) texts ++ rest) (without-other x y off)
    ])
    ∙ ap (λ (b : Bool). cond b (without (bytes_eq x) texts) (without (bytes_eq x) texts ++ y ∷ [])) (sym (has-other y x texts off))

pub different-push : (texts : List (List ℕ)) (y : List ℕ) → different (texts ++ y ∷ []) ≡ with_new (different texts) y
different-push [] y = refl
different-push (x ∷ texts) y =
    ap (λ (rest : List (List ℕ)). x ∷ without (bytes_eq x) rest) (different-push texts y)
    ∙ (elim (cases_Bool (bytes_eq y x)) [
      | inl same ↦
          ap (λ (rest : List (List ℕ)). x ∷ rest) (without-own x (different texts) y same)
          ∙ sym (new-own x (without (bytes_eq x) (different texts)) y same)
      | inr off ↦
          ap (λ (rest : List (List ℕ)). x ∷ rest) (without-new x (different texts) y off)
          ∙ sym (new-other x (without (bytes_eq x) (different texts)) y off)
    ])

-- the first ones, with one more
take-none : (n : ℕ) → take {A = List ℕ} n [] ≡ []
take-none zero = refl
take-none (suc n) = refl

-- the texts with one more where it is new and they are fewer than a limit
abbrev with_few : ℕ → List (List ℕ) → List ℕ → List (List ℕ)
with_few n texts y = cond (has (bytes_eq y) texts || (length texts == n)) texts (texts ++ y ∷ [])

few-own : (n : ℕ) (x : List ℕ) (texts : List (List ℕ)) (y : List ℕ) → bytes_eq y x ≡ true → with_few n (x ∷ texts) y ≡ x ∷ texts
few-own n x texts y same = grind arith

few-other : (n : ℕ) (x : List ℕ) (texts : List (List ℕ)) (y : List ℕ) → bytes_eq y x ≡ false → with_few (suc n) (x ∷ texts) y ≡ x ∷ with_few n texts y
few-other n x texts y off =
    elim (cases_Bool (has (bytes_eq y) texts || (length texts == n))) [
      | inl there ↦ grind (arith, nat_tests)
      | inr new ↦ grind (arith, nat_tests)
    ]

pub take-new : (n : ℕ) (texts : List (List ℕ)) (y : List ℕ) → take n (with_new texts y) ≡ with_few n (take n texts) y
take-new zero texts y = refl
take-new (suc n) [] y =
    let unlike : (0 == suc n) ≡ false = grind (arith, nat_tests) in
    ap (λ (rest : List (List ℕ)). y ∷ rest) (take-none n) ∙ sym (ap (λ (b : Bool). cond b [] (y ∷ [])) unlike)
take-new (suc n) (x ∷ texts) y =
    elim (cases_Bool (bytes_eq y x)) [
      | inl same ↦ ap (take (suc n)) (new-own x texts y same) ∙ sym (few-own (suc n) x (take n texts) y same)
      | inr off ↦
          ap (take (suc n)) (new-other x texts y off)
          ∙ ap (λ (rest : List (List ℕ)). x ∷ rest) (take-new n texts y)
          ∙ sym (few-other n x (take n texts) y off)
    ]

-- the texts that have atoms, with one more
pub texts-push : (texts : List (List ℕ)) (y : List ℕ) → take ATOM_LIMIT (different (texts ++ y ∷ [])) ≡ with_text (take ATOM_LIMIT (different texts)) y
texts-push texts y = ap (take ATOM_LIMIT) (different-push texts y) ∙ take-new ATOM_LIMIT (different texts) y

-- Where a text stands
from-map : {X Y : Type 0} (test : Y → Bool) (f : X → Y) (low : ℕ) (xs : List X) → position_from test low (map f xs) ≡ position_from (λ x. test (f x)) low xs
from-map test f low [] = refl
from-map test f low (x ∷ xs) = grind (arith, from-map test f (low + 1) xs)

pub position-map : {X Y : Type 0} (test : Y → Bool) (f : X → Y) (xs : List X) → position test (map f xs) ≡ position (λ x. test (f x)) xs
position-map test f xs = position_from-zero test (map f xs) ∙ from-map test f 0 xs ∙ sym (position_from-zero (λ x. test (f x)) xs)

from-new : (y : List ℕ) (low : ℕ) (texts : List (List ℕ)) → has (bytes_eq y) texts ≡ false → position_from (bytes_eq y) low (texts ++ y ∷ []) ≡ Some (low + length texts)
from-new y low [] new = ap (λ (b : Bool). cond b (Some low) None) (text_self y) ∙ (let same : low ≡ low + 0 = omega arith in ap Some same)
from-new y low (x ∷ texts) new =
    let off : bytes_eq y x ≡ false = grind arith in
    let rest : has (bytes_eq y) texts ≡ false = grind arith in
    ap (λ (b : Bool). cond b (Some low) (position_from (bytes_eq y) (low + 1) (texts ++ y ∷ []))) off
    ∙ from-new y (low + 1) texts rest
    ∙ (let same : (low + 1) + length texts ≡ low + length (x ∷ texts) = omega arith in ap Some same)

pub position-new : (texts : List (List ℕ)) (y : List ℕ) → has (bytes_eq y) texts ≡ false → position (bytes_eq y) (texts ++ y ∷ []) ≡ Some (length texts)
position-new texts y new = position_from-zero (bytes_eq y) (texts ++ y ∷ []) ∙ from-new y 0 texts new ∙ (let same : 0 + length texts ≡ length texts = omega arith in ap Some same)

from-none : (y : List ℕ) (low : ℕ) (texts : List (List ℕ)) → has (bytes_eq y) texts ≡ false → position_from (bytes_eq y) low texts ≡ None
from-none y low [] new = refl
from-none y low (x ∷ texts) new =
    let off : bytes_eq y x ≡ false = grind arith in
    let rest : has (bytes_eq y) texts ≡ false = grind arith in
    ap (λ (b : Bool). cond b (Some low) (position_from (bytes_eq y) (low + 1) texts)) off ∙ from-none y (low + 1) texts rest

position-none : (texts : List (List ℕ)) (y : List ℕ) → has (bytes_eq y) texts ≡ false → position (bytes_eq y) texts ≡ None
position-none texts y new = position_from-zero (bytes_eq y) texts ∙ from-none y 0 texts new

-- A text that has an atom, one that can get none, and one that gets one
module _ (texts : List (List ℕ)) (y : List ℕ) where
  pub known-texts : (place : ℕ) → position (bytes_eq y) texts ≡ Some place → texts ≡ with_text texts y
  known-texts place at =
      let there : has (bytes_eq y) texts ≡ true = ap is_some ((first_at (bytes_eq y) texts place at).is_first) in
      sym (ap (λ (b : Bool). cond (b || (length texts == ATOM_LIMIT)) texts (texts ++ y ∷ [])) there)

  pub known-atom : (place : ℕ) → position (bytes_eq y) texts ≡ Some place → Some (FIRST_ATOM + place) ≡ atom_in texts y
  known-atom place at = sym (ap (option_map (λ n. FIRST_ATOM + n)) at)

  pub full-texts : length texts ≡ ATOM_LIMIT → texts ≡ with_text texts y
  full-texts full =
      let is : (length texts == ATOM_LIMIT) ≡ true = grind (arith, nat_tests) in
      sym (elim (has (bytes_eq y) texts) as (λ b. cond (b || (length texts == ATOM_LIMIT)) texts (texts ++ y ∷ []) ≡ texts) [
        | true ↦ refl
        | false ↦ ap (λ (b : Bool). cond b texts (texts ++ y ∷ [])) is
      ])

  pub full-atom : has (bytes_eq y) texts ≡ false → None ≡ atom_in texts y
  full-atom new = sym (ap (option_map (λ n. FIRST_ATOM + n)) (position-none texts y new))

  pub new-texts : has (bytes_eq y) texts ≡ false → length texts ≢ ATOM_LIMIT → texts ++ y ∷ [] ≡ with_text texts y
  new-texts new unlike =
      let few : (length texts == ATOM_LIMIT) ≡ false = grind (arith, nat_tests) in
      sym (ap (λ (b : Bool). cond (b || (length texts == ATOM_LIMIT)) texts (texts ++ y ∷ [])) new ∙ ap (λ (b : Bool). cond b texts (texts ++ y ∷ [])) few)

  pub new-atom : has (bytes_eq y) texts ≡ false → Some (FIRST_ATOM + length texts) ≡ atom_in (texts ++ y ∷ []) y
  new-atom new = sym (ap (option_map (λ n. FIRST_ATOM + n)) (position-new texts y new))

-- texts that are shown by a map: where one stands, and that none does
pub shown-at : {X : Type 0} (f : X → List ℕ) (xs : List X) (texts : List (List ℕ)) (y : List ℕ) (o : Option ℕ) → map f xs ≡ texts → o ≡ position (λ x. bytes_eq y (f x)) xs → position (bytes_eq y) texts ≡ o
shown-at f xs texts y o view at = ap (position (bytes_eq y)) (sym view) ∙ position-map (bytes_eq y) f xs ∙ sym at

pub none-has : (texts : List (List ℕ)) (y : List ℕ) → position (bytes_eq y) texts ≡ None → has (bytes_eq y) texts ≡ false
none-has texts y none = ap is_some (none_first (bytes_eq y) texts none)

pub shown-length : {X : Type 0} (f : X → List ℕ) (xs : List X) (texts : List (List ℕ)) → map f xs ≡ texts → length texts ≡ length xs
shown-length f xs texts view = ap length (sym view) ∙ length-map xs f

-- with one more behind them
pub shown-push : {X : Type 0} (f : X → List ℕ) (xs ys : List X) (x : X) (texts : List (List ℕ)) (y : List ℕ) → map f xs ≡ texts → f x ≡ y → ys ≡ xs ++ x ∷ [] → map f ys ≡ texts ++ y ∷ []
shown-push f xs ys x texts y view is pushed = ap (map f) pushed ∙ push-map f xs x ∙ (λ i. view i ++ is i ∷ [])
