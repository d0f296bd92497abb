-- A list grants the wanted rights where it grants each of them.
use Rattle.std.proofs.Common.{◌≡◌, ℕ, ◌+◌, ◌^◌, ◌<◌, ◌≤◌, ◌≢◌, drop, length, get_or, Bool, true, false, inl, inr, List, [], ◌∷◌, refl, sym, ◌∙◌, arith}
use Rattle.std.specs.Prelude.{◌==◌, ◌↔◌, bit_and, IsTrue, Option, Some, None}
use Rattle.std.specs.Int.{bit_not, w32}
use Rattle.std.proofs.lemmas.List.{drop_more, drop_all}
use Rattle.std.proofs.lemmas.Bool.{cases_Bool, true≢false}
use Rattle.std.proofs.lemmas.Bool.Decides.{nat_tests}
use Rattle.std.proofs.Math.Bool.{and-false}
use Rattle.lpc_sid.specs.Access.{GrantsEach, has_sid, has_right, grants, grants_left, grants_right, rights_without}
use Rattle.lpc_sid.specs.declared.access.Ace.{Ace}
use Rattle.lpc_sid.specs.declared.access.Dacl.{Dacl}
use Rattle.lpc_sid.specs.declared.token.Token.{Token}
use Rattle.lpc_sid.proofs.Bits.{some_right, no_right, right_of_both, both_have_right, right_left, right_was, and_not_is}

-- each wanted right is granted
abbrev pub Each : Token → ℕ → List Ace → Type 0
Each token wanted aces = (right : ℕ) → has_right wanted right ≡ true → grants_right token right aces ≡ true

pub record Law (token : Token) (left : ℕ) (aces : List Ace) : Type 0 where
  pub to : grants_left token left aces ≡ true → Each token left aces
  pub from : Each token left aces → grants_left token left aces ≡ true

-- none is wanted
none_left : (token : Token) (left : ℕ) (aces : List Ace) → left ≡ 0 → Each token left aces
none_left token left aces is right h = let off = no_right right in cc

-- the end of the list, where rights are still wanted
end_refuses : (token : Token) (left : ℕ) → left ≢ 0 → Each token left [] → ⊥
end_refuses token left some each = let one = some_right left some in let h = each one.right one.is in cc

-- an entry that doesn't count
passed_over : (token : Token) (right : ℕ) (ace : Ace) (aces : List Ace) → has_sid token ace.sid ≡ false → grants_right token right (ace ∷ aces) ≡ grants_right token right aces
passed_over token right ace aces off = rw off refl

-- an entry that doesn't name the right
not_named : (token : Token) (right : ℕ) (ace : Ace) (aces : List Ace) → has_right ace.mask right ≡ false → grants_right token right (ace ∷ aces) ≡ grants_right token right aces
not_named token right ace aces off = rw (off, and-false) refl

-- an entry that counts and names the right decides
decides : (token : Token) (right : ℕ) (ace : Ace) (aces : List Ace) → has_sid token ace.sid ≡ true → has_right ace.mask right ≡ true → grants_right token right (ace ∷ aces) ≡ ace.allow
decides token right ace aces on names = rw (on, names) refl

-- an entry that counts for none of the wanted rights changes nothing
same_law : (token : Token) (left : ℕ) (ace : Ace) (aces : List Ace) → Law token left aces → grants_left token left (ace ∷ aces) ≡ grants_left token left aces → ((right : ℕ) → has_right left right ≡ true → grants_right token right (ace ∷ aces) ≡ grants_right token right aces) → Law token left (ace ∷ aces)
same_law token left ace aces law one each = record {
  to = λ h right wanted. each right wanted ∙ law.to (sym one ∙ h) right wanted;
  from = λ h. one ∙ law.from (λ right wanted. sym (each right wanted) ∙ h right wanted);
}

-- an allow entry that counts grants its rights
allow_law : (token : Token) (left : ℕ) (ace : Ace) (aces : List Ace) → has_sid token ace.sid ≡ true → ace.allow ≡ true → Law token (rights_without left ace.mask) aces → grants_left token left (ace ∷ aces) ≡ grants_left token (rights_without left ace.mask) aces → Law token left (ace ∷ aces)
allow_law token left ace aces on allow law one = record {
  to = λ h right wanted. elim (cases_Bool (has_right ace.mask right)) [
    | inl named ↦ decides token right ace aces on named ∙ allow
    | inr other ↦ not_named token right ace aces other ∙ law.to (sym one ∙ h) right (right_left left ace.mask right wanted other)
  ];
  from = λ h. one ∙ law.from (λ right wanted.
      let was = right_was left ace.mask right wanted in
      sym (not_named token right ace aces was.1) ∙ h right was.0);
}

-- a deny entry that counts and names a wanted right refuses
deny_law : (token : Token) (left : ℕ) (ace : Ace) (aces : List Ace) → has_sid token ace.sid ≡ true → ace.allow ≡ false → bit_and ace.mask left ≢ 0 → grants_left token left (ace ∷ aces) ≡ false → Law token left (ace ∷ aces)
deny_law token left ace aces on deny some one = record {
  to = λ h. absurd (true≢false (sym h ∙ one));
  from = λ h.
      let shared = some_right (bit_and ace.mask left) some in
      let both = right_of_both ace.mask left shared.right shared.is in
      absurd (true≢false (sym (h shared.right both.1) ∙ decides token shared.right ace aces on both.0 ∙ deny));
}

-- no wanted right stands in a mask that shares none with them
unnamed : (mask left right : ℕ) → bit_and mask left ≡ 0 → has_right left right ≡ true → has_right mask right ≡ false
unnamed mask left right none wanted = elim (cases_Bool (has_right mask right)) [
  | inl named ↦ absurd (true≢false (sym (rw none at (both_have_right mask left right named wanted)) ∙ no_right right))
  | inr other ↦ other
]

pub law : (token : Token) (left : ℕ) (aces : List Ace) → Law token left aces
law token left [] = elim (cases_Bool (left == 0)) [
  | inl none ↦ record { to = λ h. none_left token left [] (grind (arith, nat_tests)); from = λ each. none }
  | inr some ↦ record { to = λ h. absurd (true≢false (sym h ∙ some)); from = λ each. absurd (end_refuses token left (grind (arith, nat_tests)) each) }
]
law token left (ace ∷ aces) = elim (cases_Bool (left == 0)) [
  | inl none ↦ record { to = λ h. none_left token left (ace ∷ aces) (grind (arith, nat_tests)); from = λ each. rw none refl }
  | inr some ↦ elim (cases_Bool (has_sid token ace.sid)) [
    | inr off ↦ same_law token left ace aces (law token left aces) (rw (some, off) refl) (λ right wanted. passed_over token right ace aces off)
    | inl on ↦ elim (cases_Bool ace.allow) [
      | inl allow ↦ allow_law token left ace aces on allow (law token (rights_without left ace.mask) aces) (rw (some, on, allow) refl)
      | inr deny ↦ elim (cases_Bool (bit_and ace.mask left == 0)) [
        | inl none ↦ same_law token left ace aces (law token left aces) (rw (some, on, deny, none) refl) (λ right wanted. not_named token right ace aces (unnamed ace.mask left right (grind (arith, nat_tests)) wanted))
        | inr shared ↦ deny_law token left ace aces on deny (grind (arith, nat_tests)) (rw (some, on, deny, shared) refl)
      ]
    ]
  ]
]

-- the check as a whole
pub check_law : (token : Token) (dacl : Option Dacl) (wanted : ℕ) (r : Bool) → r ≡ grants token dacl wanted → IsTrue r ↔ GrantsEach token dacl wanted
check_law token None wanted r is = (λ h. tt, λ h. is)
check_law token (Some dacl) wanted r is = (λ h. (law token wanted dacl.list.items).to (sym is ∙ h), λ h. is ∙ (law token wanted dacl.list.items).from h)

-- ---- one entry after the other
module _ (token : Token) (left : ℕ) (all : List Ace) (i : ℕ) (ace : Ace) (below : i < length all) (is : ace ≡ get_or all i ace) (some : left ≢ 0) where
  here : drop i all ≡ ace ∷ drop (i + 1) all
  here = rw (drop_more all i ace below) (rw (← is) refl)

  wanting : (left == 0) ≡ false
  wanting = grind (arith, nat_tests)

  pub read_over : has_sid token ace.sid ≡ false → grants_left token left (drop i all) ≡ grants_left token left (drop (i + 1) all)
  read_over off = rw here (rw (wanting, off) refl)

  pub read_allow : has_sid token ace.sid ≡ true → ace.allow ≡ true → left < 2 ^ 32 → ace.mask < 2 ^ 32 → grants_left token left (drop i all) ≡ grants_left token (bit_and left (bit_not w32 ace.mask)) (drop (i + 1) all)
  read_allow on allow h h' = rw here (rw (wanting, on, allow, and_not_is left ace.mask h h') refl)

  pub read_deny : has_sid token ace.sid ≡ true → ace.allow ≡ false → bit_and ace.mask left ≡ 0 → grants_left token left (drop i all) ≡ grants_left token left (drop (i + 1) all)
  read_deny on deny none = let off : (bit_and ace.mask left == 0) ≡ true = grind (arith, nat_tests) in rw here (rw (wanting, on, deny, off) refl)

  pub read_refused : has_sid token ace.sid ≡ true → ace.allow ≡ false → bit_and ace.mask left ≢ 0 → grants_left token left (drop i all) ≡ false
  read_refused on deny shared = let off : (bit_and ace.mask left == 0) ≡ false = grind (arith, nat_tests) in rw here (rw (wanting, on, deny, off) refl)

-- no right is wanted any more
pub all_granted : (token : Token) (aces : List Ace) → grants_left token 0 aces ≡ true
all_granted token [] = refl
all_granted token (ace ∷ aces) = refl

-- the end of the list, where a right is still wanted
pub at_end : (token : Token) (left i : ℕ) (aces : List Ace) → left ≢ 0 → length aces ≤ i → grants_left token left (drop i aces) ≡ false
at_end token left i aces some over = rw (drop_all i aces over) (grind (arith, nat_tests))
