-- Keys and their births.
use Rattle.std.proofs.Common.{◌≡◌, [], ◌∷◌, ◌++◌, Bool, true, false, cond, not, refl, ap, sym, ◌∙◌, arith}
use Rattle.lpc_base.specs.declared.birth.Birth.{Birth}
use Rattle.lpc_slots.specs.declared.Key.{Key}
use Rattle.lpc_base.specs.Rows.{every, without}
use Rattle.lpc_base.proofs.RowMaps.{every-both}
use Rattle.lpc_base.proofs.RowWords.{every-push, every-without}
use Rattle.lpc_base.proofs.Births.{birth-self, birth-turned}
use Rattle.lpc_model.specs.Found.{same_birth}
use Rattle.lpc_slots.proofs.Keys as keys
use Rattle.lpc_slots.proofs.Keys.{key_is, key_turned}
use Rattle.lpc_slots.specs.Table.{at_key, is_key}
use Rattle.lpc_rows.specs.Names.{Names, name_of, stands, differs, are_apart}

-- tests of keys and of names
pub key_itself : (a : Key) → is_key a a ≡ true
key_itself a = keys.key_itself a a refl

pub differs_turned : (n m : Key × Birth) → differs n m ≡ differs m n
differs_turned n m = grind (arith, key_turned n.0 m.0, birth-turned n.1 m.1)

-- an entry that differs from each of these names no object of theirs
pub away : (n : Key × Birth) (names : Names) (key : Key) → every (differs n) names ≡ true → stands names key ≡ true → (is_key n.0 key ≡ false) × (same_birth n.1 (name_of names key) ≡ false)
unfolding stands name_of
away n [] key apart there = absurd (cc)
away n (m ∷ names) key apart there =
    elim (is_key m.0 key) as (λ b. is_key m.0 key ≡ b → (is_key n.0 key ≡ false) × (same_birth n.1 (cond b m.1 (name_of names key)) ≡ false)) [
      | true ↦ λ here. rw (← key_is m.0 key here) (grind arith, grind arith)
      | false ↦ λ off. away n names key (grind arith) (grind arith)
    ] refl

-- keys that stand are one where their names are one
pub agrees : (names : Names) (a b : Key) → are_apart names ≡ true → stands names a ≡ true → stands names b ≡ true → same_birth (name_of names a) (name_of names b) ≡ is_key a b
unfolding stands name_of are_apart
agrees [] a b apart one two = absurd (cc)
agrees (n ∷ names) a b apart one two =
    let IH : stands names a ≡ true → stands names b ≡ true → same_birth (name_of names a) (name_of names b) ≡ is_key a b = λ x y. agrees names a b (grind arith) x y in
    let off : every (differs n) names ≡ true = grind arith in
    elim (is_key n.0 a) as (λ x. is_key n.0 a ≡ x → same_birth (cond x n.1 (name_of names a)) (cond (is_key n.0 b) n.1 (name_of names b)) ≡ is_key a b) [
      | true ↦ λ here.
          elim (is_key n.0 b) as (λ y. is_key n.0 b ≡ y → same_birth n.1 (cond y n.1 (name_of names b)) ≡ is_key a b) [
            | true ↦ λ there. birth-self n.1 ∙ sym (ap (λ k. is_key k b) (sym (key_is n.0 a here)) ∙ there)
            | false ↦ λ there.
                let other = away n names b off (grind arith) in
                other.1 ∙ sym (ap (λ k. is_key k b) (sym (key_is n.0 a here)) ∙ there)
          ] refl
      | false ↦ λ here.
          elim (is_key n.0 b) as (λ y. is_key n.0 b ≡ y → same_birth (name_of names a) (cond y n.1 (name_of names b)) ≡ is_key a b) [
            | true ↦ λ there.
                let other = away n names a off (grind arith) in
                birth-turned (name_of names a) n.1 ∙ other.1 ∙ sym (key_turned a b ∙ ap (λ k. is_key k a) (sym (key_is n.0 b there)) ∙ here)
            | false ↦ λ there. IH (grind arith) (grind arith)
          ] refl
    ] refl

-- one more entry
pub name-push : (names : Names) (key : Key) (birth : Birth) (q : Key) → stands names q ≡ true → name_of (names ++ (key, birth) ∷ []) q ≡ name_of names q
unfolding stands name_of
name-push [] key birth q there = absurd (cc)
name-push (n ∷ names) key birth q there = grind (arith, name-push names key birth q)

pub stands-push : (names : Names) (key : Key) (birth : Birth) (q : Key) → stands names q ≡ true → stands (names ++ (key, birth) ∷ []) q ≡ true
unfolding stands
stands-push [] key birth q there = absurd (cc)
stands-push (n ∷ names) key birth q there = grind (arith, stands-push names key birth q)

pub stands-new : (names : Names) (key : Key) (birth : Birth) → stands (names ++ (key, birth) ∷ []) key ≡ true
unfolding stands
stands-new [] key birth = grind (arith, key_itself key)
stands-new (n ∷ names) key birth = grind (arith, stands-new names key birth)

pub name-new : (names : Names) (key : Key) (birth : Birth) → stands names key ≡ false → name_of (names ++ (key, birth) ∷ []) key ≡ birth
unfolding stands name_of
name-new [] key birth absent = grind (arith, key_itself key)
name-new (n ∷ names) key birth absent = grind (arith, name-new names key birth)

-- an entry less
pub name-without : (names : Names) (key : Key) (q : Key) → is_key q key ≡ false → name_of (without (at_key key) names) q ≡ name_of names q
unfolding name_of
name-without [] key q other = refl
name-without (n ∷ names) key q other = grind (arith, key_is n.0 q, name-without names key q)

pub stands-without : (names : Names) (key : Key) (q : Key) → is_key q key ≡ false → stands names q ≡ true → stands (without (at_key key) names) q ≡ true
unfolding stands
stands-without [] key q other there = there
stands-without (n ∷ names) key q other there = grind (arith, key_is n.0 q, stands-without names key q)

pub apart-without : (names : Names) (key : Key) → are_apart names ≡ true → are_apart (without (at_key key) names) ≡ true
unfolding are_apart
apart-without [] key apart = refl
apart-without (n ∷ names) key apart = grind (arith, every-without (differs n) (at_key key) names, apart-without names key)

own_more : (n : Key × Birth) (names : Names) (m : Key × Birth) → differs n m ≡ true → same_birth (name_of names m.0) m.1 ≡ true → same_birth (name_of (n ∷ names) m.0) m.1 ≡ true
unfolding name_of
own_more n names m off is = grind arith

-- each entry's own name
pub own : (names : Names) → are_apart names ≡ true → every (λ n. same_birth (name_of names n.0) n.1) names ≡ true
unfolding are_apart name_of
own [] apart = refl
own (n ∷ names) apart =
    let rest = every-both (differs n) (λ m. same_birth (name_of names m.0) m.1) (λ m. same_birth (name_of (n ∷ names) m.0) m.1) (own_more n names) names (grind arith) (own names (grind arith)) in
    grind (arith, key_itself n.0, birth-self n.1, rest)

-- no entry has the birth
abbrev pub is_other : Birth → Key × Birth → Bool
is_other birth n = not (same_birth n.1 birth)

push_differs : (n : Key × Birth) (names : Names) (key : Key) (birth : Birth) → every (differs n) names ≡ true → differs n (key, birth) ≡ true → every (differs n) (names ++ (key, birth) ∷ []) ≡ true
push_differs n names key birth off one = every-push (differs n) names (key, birth) off one

pub apart-push : (names : Names) (key : Key) (birth : Birth) → are_apart names ≡ true → stands names key ≡ false → every (is_other birth) names ≡ true → are_apart (names ++ (key, birth) ∷ []) ≡ true
unfolding are_apart stands
apart-push [] key birth apart absent fresh = refl
apart-push (n ∷ names) key birth apart absent fresh = grind (arith, push_differs n names key birth, apart-push names key birth)
