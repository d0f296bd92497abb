-- A text that begins with another begins with what that one begins with.
use Rattle.std.proofs.Common.{◌≡◌, refl, sym, ap, ◌∙◌, subst, ℕ, List, [], ◌∷◌, ◌++◌, length, take, take_all, take_at, drop, arith}
use Rattle.std.proofs.lemmas.List.{take-append-drop}
use Rattle.lpc_transcript.specs.Printing.{BeginsWith}

begins_same : (xs more text : List ℕ) → take (length (xs ++ more)) text ≡ xs ++ more → take (length xs) text ≡ xs
begins_same [] more text e = refl
begins_same (x ∷ xs) more [] e = absurd (cc)
begins_same (x ∷ xs) more (t ∷ text) e =
    let whole : t ∷ take (length (xs ++ more)) text ≡ x ∷ (xs ++ more) = e in
    let tail : take (length (xs ++ more)) text ≡ xs ++ more = cc in
    let same = begins_same xs more text tail in cc

pub begins_before : (text front more : List ℕ) → BeginsWith text (front ++ more) → BeginsWith text front
begins_before text front more h = record { same = begins_same front more text h.same }

pub begins_itself : (text : List ℕ) → BeginsWith text text
begins_itself text = record { same = take_all (length text) text (omega arith) }

-- a text that more was put behind begins with it
pub begins_more : (text more : List ℕ) → BeginsWith (text ++ more) text
begins_more text more = record { same = take_at text more (length text) refl }

pub begins_after : (text middle front : List ℕ) → BeginsWith text middle → BeginsWith middle front → BeginsWith text front
begins_after text middle front h k =
    let whole = sym (take-append-drop (length front) middle) ∙ ap (λ (xs : List ℕ). xs ++ drop (length front) middle) k.same in
    let P : List ℕ → Type 0 = λ xs. BeginsWith text xs in
    begins_before text front (drop (length front) middle) (subst P whole h)
