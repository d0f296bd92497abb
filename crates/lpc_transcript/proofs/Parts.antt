-- A line as words with a space or `=` before each, and why the words can be read back.
use Rattle.std.proofs.Common.{◌≡◌, refl, sym, ap, ◌∙◌, ℕ, ◌==◌, Bool, true, false, not, ◌&&◌, ◌||◌, List, [], ◌∷◌, ◌++◌, append_assoc, arith}
use Rattle.std.proofs.lemmas.Bool.{and_parts}

-- a byte that ends a word
abbrev pub is_stop : ℕ → Bool
is_stop c = c == 10 || c == 32 || c == 61

-- a text without such a byte
abbrev pub is_plain : List ℕ → Bool
is_plain [] = true
is_plain (c ∷ text) = not (is_stop c) && is_plain text

-- a text that begins with such a byte
abbrev pub begins_with_stop : List ℕ → Bool
begins_with_stop [] = false
begins_with_stop (c ∷ text) = is_stop c

clash : (b : Bool) → b ≡ true → not b ≡ true → ⊥
clash true e h = cc
clash false e h = cc

-- two plain words with more behind them are the same where the whole is
pub split : (xs ys more others : List ℕ) → is_plain xs ≡ true → is_plain ys ≡ true → begins_with_stop more ≡ true → begins_with_stop others ≡ true → xs ++ more ≡ ys ++ others → (xs ≡ ys) × (more ≡ others)
split [] [] more others p q s t e = (refl, e)
split [] (y ∷ ys) [] others p q s t e = absurd (cc)
split [] (y ∷ ys) (c ∷ more) others p q s t e =
    let same : c ≡ y = cc in
    absurd (clash (is_stop y) (ap is_stop (sym same) ∙ s) (and_parts (not (is_stop y)) (is_plain ys) q).0)
split (x ∷ xs) [] more [] p q s t e = absurd (cc)
split (x ∷ xs) [] more (c ∷ others) p q s t e =
    let same : c ≡ x = cc in
    absurd (clash (is_stop x) (ap is_stop (sym same) ∙ t) (and_parts (not (is_stop x)) (is_plain xs) p).0)
split (x ∷ xs) (y ∷ ys) more others p q s t e =
    let head : x ≡ y = cc in
    let tail : xs ++ more ≡ ys ++ others = cc in
    let rest = split xs ys more others (and_parts (not (is_stop x)) (is_plain xs) p).1 (and_parts (not (is_stop y)) (is_plain ys) q).1 s t tail in
    let words = rest.0 in (cc, rest.1)

-- a word of a line: whether `=` stands before it, else a space, and its bytes
pub record Part : Type 0 where
  pub equals : Bool
  pub word : List ℕ

-- what stands before a word
abbrev pub gap : Bool → ℕ
gap true = 61
gap false = 32

-- the words, each behind its gap
abbrev pub joined : List Part → List ℕ
joined [] = []
joined (part ∷ parts) = gap part.equals ∷ (part.word ++ joined parts)

-- no word has a byte that ends words
abbrev pub are_plain : List Part → Bool
are_plain [] = true
are_plain (part ∷ parts) = is_plain part.word && are_plain parts

gap_stops : (b : Bool) → is_stop (gap b) ≡ true
gap_stops true = refl
gap_stops false = refl

gap_same : (b d : Bool) → gap b ≡ gap d → b ≡ d
gap_same true true e = refl
gap_same true false e = absurd (omega arith)
gap_same false true e = absurd (omega arith)
gap_same false false e = refl

gap_goes_on : (b : Bool) → gap b ≡ 10 → ⊥
gap_goes_on true e = omega arith
gap_goes_on false e = omega arith

line_stops : (parts : List Part) (more : List ℕ) → begins_with_stop (joined parts ++ 10 ∷ more) ≡ true
line_stops [] more = refl
line_stops (part ∷ parts) more = gap_stops part.equals

first_word : (part : Part) (parts : List Part) (more : List ℕ) → joined (part ∷ parts) ++ 10 ∷ more ≡ gap part.equals ∷ (part.word ++ (joined parts ++ 10 ∷ more))
first_word part parts more = ap (λ text. gap part.equals ∷ text) (append_assoc part.word (joined parts) (10 ∷ more))

same_part : (a b : Part) → a.equals ≡ b.equals → a.word ≡ b.word → a ≡ b
same_part a b e w = λ i. record { equals = e i; word = w i }

-- two lines with more behind them have the same words where the whole is the same
pub joined_unique : (ps qs : List Part) (more others : List ℕ) → are_plain ps ≡ true → are_plain qs ≡ true → joined ps ++ 10 ∷ more ≡ joined qs ++ 10 ∷ others → (ps ≡ qs) × (more ≡ others)
joined_unique [] [] more others p q e = (refl, cc)
joined_unique [] (y ∷ ys) more others p q e =
    let same : 10 ≡ gap y.equals = let whole = e ∙ first_word y ys others in cc in
    absurd (gap_goes_on y.equals (sym same))
joined_unique (x ∷ xs) [] more others p q e =
    let same : 10 ≡ gap x.equals = let whole = sym e ∙ first_word x xs more in cc in
    absurd (gap_goes_on x.equals (sym same))
joined_unique (x ∷ xs) (y ∷ ys) more others p q e =
    let whole = sym (first_word x xs more) ∙ e ∙ first_word y ys others in
    let gaps : gap x.equals ≡ gap y.equals = cc in
    let tails : x.word ++ (joined xs ++ 10 ∷ more) ≡ y.word ++ (joined ys ++ 10 ∷ others) = cc in
    let px = and_parts (is_plain x.word) (are_plain xs) p in
    let qy = and_parts (is_plain y.word) (are_plain ys) q in
    let words = split x.word y.word (joined xs ++ 10 ∷ more) (joined ys ++ 10 ∷ others) px.0 qy.0 (line_stops xs more) (line_stops ys others) tails in
    let rest = joined_unique xs ys more others px.1 qy.1 words.1 in
    let part : x ≡ y = same_part x y (gap_same x.equals y.equals gaps) words.0 in
    let parts = rest.0 in (cc, rest.1)
