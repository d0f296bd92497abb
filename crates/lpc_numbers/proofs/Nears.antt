-- What the places of small numbers tell, as further numbers come.
use Rattle.std.proofs.Common.{nat_eq, ◌≡◌, ◌<◌, ◌≤◌, ◌+◌, ◌==◌, ℕ, List, [], ◌∷◌, ◌++◌, length, Bool, true, false, cond, nat_lt, None, Some, option_map, replicate, slice_get, refl, sym, ap, ◌∙◌, inl, inr, is_some, zero, suc, zero-add, take, ◌-◌, arith}
use Rattle.std.specs.List.{position, position_from}
use Rattle.std.proofs.lemmas.Bool.{cases_Bool, eqb-true}
use Rattle.std.proofs.lemmas.List.{take_all}
use Rattle.std.proofs.lemmas.Iterator.Adapters.{position_from-zero}
use Rattle.lpc_base.specs.Rows.{every, has}
use Rattle.lpc_base.proofs.Positions.{first_at, none_first}
use Rattle.lpc_numbers.specs.Near.{AreFar, IsNear, Near, Notes, Widens, far_spot, rank_of}
use Rattle.lpc_numbers.specs.Recent as recent
use Rattle.lpc_numbers.specs.Numbered.{is_at, value_at}
use Rattle.lpc_numbers.proofs.Recents.{right-noted, right-opened}

-- where a further element is the first that passes, and where it isn't
module _ {X : Type 0} (test : X → Bool) (x : X) where
  missed-from : test x ≡ false → (xs : List X) (low : ℕ) → position_from test low (xs ++ x ∷ []) ≡ position_from test low xs
  missed-from fails [] low = ap (λ b. cond b (Some low) None) fails
  missed-from fails (y ∷ ys) low = ap (λ r. cond (test y) (Some low) r) (missed-from fails ys (low + 1))

  met-from : test x ≡ true → (xs : List X) (low : ℕ) → has test xs ≡ false → position_from test low (xs ++ x ∷ []) ≡ Some (low + length xs)
  met-from passes [] low none = grind arith
  met-from passes (y ∷ ys) low none = grind (arith, met-from passes ys (low + 1))

  pub missed : test x ≡ false → (xs : List X) → position test (xs ++ x ∷ []) ≡ position test xs
  missed fails xs = position_from-zero test (xs ++ x ∷ []) ∙ missed-from fails xs 0 ∙ sym (position_from-zero test xs)

  pub met : test x ≡ true → (xs : List X) → has test xs ≡ false → position test (xs ++ x ∷ []) ≡ Some (length xs)
  met passes xs none = position_from-zero test (xs ++ x ∷ []) ∙ met-from passes xs 0 none ∙ ap Some (zero-add (length xs))

-- what stands at an index of numbers behind which zeros come
at-zeros : (ns : List ℕ) (more n : ℕ) → n < length (ns ++ replicate more 0) → length ns ≤ n → slice_get (ns ++ replicate more 0) n ≡ Some 0
at-zeros [] (suc more) zero within past = refl
at-zeros [] (suc more) (suc n) within past = grind (arith, at-zeros [] more n)
at-zeros (m ∷ ns) more (suc n) within past = grind (arith, at-zeros ns more n)
at-zeros [] zero n within past = grind arith
at-zeros (m ∷ ns) more zero within past = grind arith

before-zeros : (ns : List ℕ) (more n : ℕ) → n < length ns → slice_get (ns ++ replicate more 0) n ≡ slice_get ns n
before-zeros [] more n within = grind arith
before-zeros (m ∷ ns) more zero within = refl
before-zeros (m ∷ ns) more (suc n) within = grind (arith, before-zeros ns more n)

wider : (ns : List ℕ) (more : ℕ) → length ns ≤ length (ns ++ replicate more 0)
wider [] more = grind arith
wider (m ∷ ns) more = grind (arith, wider ns more)

module _ {V : Type 0} where
  small-from : (es : List (ℕ × V)) (most n low : ℕ) → every (λ e. nat_lt e.0 most) es ≡ true → most ≤ n → position_from (is_at n) low es ≡ None
  small-from [] most n low all past = refl
  small-from (e ∷ es) most n low all past = grind (arith, small-from es most n (low + 1))

  -- a number past all that have a place has none
  none-past : (es : List (ℕ × V)) (most n : ℕ) → every (λ e. nat_lt e.0 most) es ≡ true → most ≤ n → position (is_at n) es ≡ None
  none-past es most n all past = position_from-zero (is_at n) es ∙ small-from es most n 0 all past

  further : (es : List (ℕ × V)) (most more : ℕ) → every (λ e. nat_lt e.0 most) es ≡ true → most ≤ more → every (λ e. nat_lt e.0 more) es ≡ true
  further [] most more all grows = refl
  further (e ∷ es) most more all grows = grind (arith, further es most more)

  with-one : (es : List (ℕ × V)) (e : ℕ × V) (most : ℕ) → every (λ e. nat_lt e.0 most) es ≡ true → e.0 < most → every (λ e. nat_lt e.0 most) (es ++ e ∷ []) ≡ true
  with-one [] e most all small = grind arith
  with-one (f ∷ fs) e most all small = grind (arith, with-one fs e most)

  module _ (es : List (ℕ × V)) (near near' : Near) (known : IsNear es near) where
    zeros-tell : near.whole ≡ true → (more : ℕ) → near'.ranks ≡ near.ranks ++ replicate more 0 → (n : ℕ) → n < length near'.ranks → slice_get near'.ranks n ≡ Some (rank_of (position (is_at n) es))
    zeros-tell whole more is n within =
        elim (cases_Bool (nat_lt n (length near.ranks))) [
          | inl old ↦ grind (arith, is, before-zeros near.ranks more n, known.tells n)
          | inr new ↦ grind (arith, is, at-zeros near.ranks more n, none-past es (length near.ranks) n, known.all whole)
        ]

    -- numbers that are new at the end have no place
    pub near-widened : Widens near near' → IsNear es near'
    near-widened (inl same) = rw (same) known
    near-widened (inr (whole, (more, is))) =
        let ranks : near'.ranks ≡ near.ranks ++ replicate more 0 = ap (λ (s : Near). s.ranks) is in
        record {
          tells = zeros-tell whole more ranks;
          all = λ _. further es (length near.ranks) (length near'.ranks) (known.all whole) (grind (arith, ranks, wider near.ranks more));
        }

    module _ (number : ℕ) (value : V) (free : has (is_at number) es ≡ false) (noted : Notes number (length es) near near') where
      met-here : (n : ℕ) → (n == number) ≡ true → position (is_at n) (es ++ (number, value) ∷ []) ≡ Some (length es)
      met-here n same = grind (arith, met (is_at n) (number, value))

      missed-here : (n : ℕ) → (n == number) ≡ false → position (is_at n) (es ++ (number, value) ∷ []) ≡ position (is_at n) es
      missed-here n other = missed (is_at n) (number, value) (grind arith) es

      tells : (n : ℕ) → n < length near'.ranks → slice_get near'.ranks n ≡ Some (rank_of (position (is_at n) (es ++ (number, value) ∷ [])))
      tells n within =
          elim (cases_Bool (n == number)) [
            | inl same ↦ grind (arith, met-here n same, noted.noted)
            | inr other ↦ grind (arith, missed-here n other, noted.others n within, known.tells n)
          ]

      -- behind a number that was noted
      pub near-kept : IsNear (es ++ (number, value) ∷ []) near'
      near-kept = record {
        tells = tells;
        all = λ whole.
            let before = noted.whole whole in
            with-one es (number, value) (length near'.ranks) (further es (length near.ranks) (length near'.ranks) (known.all before.0) (grind (arith, before))) (grind (arith, before));
      }

  abbrev rank_in : List (ℕ × V) → ℕ → ℕ
  rank_in es n = rank_of (position (is_at n) es)

  -- behind a number that stands at its spot
  pub far-kept : (es : List (ℕ × V)) (far far' : List (ℕ × ℕ)) (number : ℕ) (value : V) → has (is_at number) es ≡ false → AreFar es far → recent.Notes (far_spot number) (number, length es + 1) far far' → AreFar (es ++ (number, value) ∷ []) far'
  far-kept es far far' number value free right notes =
      right-noted far_spot nat_eq eqb-true (rank_in es) (rank_in (es ++ (number, value) ∷ [])) far far' number (length es + 1)
      (sym (ap rank_of (met (is_at number) (number, value) (grind arith) es free))) right notes (λ n off. ap rank_of (missed (is_at n) (number, value) off es))

  -- before any number has come
  pub far-opened : (es : List (ℕ × V)) (far far' : List (ℕ × ℕ)) → length es ≡ 0 → AreFar es far → recent.Opens (0, 0) far far' → AreFar es far'
  far-opened [] far far' none right opens = right-opened far_spot nat_eq (rank_in []) far far' 0 0 (λ n. refl) right opens
  far-opened (e ∷ es) far far' none right opens = absurd (cc)

  -- the value at the place of a number
  pub value-at-place : (es : List (ℕ × V)) (n place : ℕ) → position (is_at n) es ≡ Some place → option_map (λ e. e.1) (slice_get es place) ≡ value_at es n
  value-at-place es n place is = let at = first_at (is_at n) es place is in ap (option_map (λ e. e.1)) (at.here ∙ sym at.is_first)

  pub no-value : (es : List (ℕ × V)) (n : ℕ) → position (is_at n) es ≡ None → value_at es n ≡ None
  no-value es n is = ap (option_map (λ e. e.1)) (none_first (is_at n) es is)

-- where one passes, the first has a place
module _ {X : Type 0} (test : X → Bool) where
  some-from : (xs : List X) (low : ℕ) → is_some (position_from test low xs) ≡ has test xs
  some-from [] low = refl
  some-from (x ∷ xs) low = grind (arith, some-from xs (low + 1))

  pub some-place : (xs : List X) → is_some (position test xs) ≡ has test xs
  some-place xs = ap is_some (position_from-zero test xs) ∙ some-from xs 0

-- what is cut to at least as many numbers, and filled up with zeros
pub widened-by : (old : Near) (ranks : List ℕ) (grown : Bool) (len n : ℕ) → len ≡ length old.ranks → old.whole ≡ true → len ≤ n → ranks ≡ cond grown (take n old.ranks ++ replicate (n - len) 0) old.ranks → Widens old (record { ranks = ranks; whole = old.whole })
widened-by old ranks grown len n all whole longer is =
    elim (cases_Bool grown) [
      | inl fits ↦
          let full : ranks ≡ old.ranks ++ replicate (n - len) 0 = is ∙ ap (λ b. cond b (take n old.ranks ++ replicate (n - len) 0) old.ranks) fits ∙ ap (λ l. l ++ replicate (n - len) 0) (take_all n old.ranks (rw (← all) longer)) in
          inr (whole, (n - len, ap (λ l. record { ranks = l; whole = old.whole }) full))
      | inr fails ↦
          let same : ranks ≡ old.ranks = is ∙ ap (λ b. cond b (take n old.ranks ++ replicate (n - len) 0) old.ranks) fails in
          inl (ap (λ l. record { ranks = l; whole = old.whole }) same)
    ]
