-- The first of the parts between bytes, and the first of the words.
use Rattle.std.proofs.Common.{◌≡◌, ℕ, zero, suc, ◌+◌, ◌-◌, ◌<◌, ◌≤◌, Bool, true, false, List, [], ◌∷◌, length, take, drop, get_or, cond, eqb, refl, ◌∙◌, arith, add-one, length-drop}
use Rattle.std.specs.Prelude.{filter, not, Some, None}
use Rattle.std.specs.List.{onto_first, position_or_len}
use Rattle.std.proofs.lemmas.Bool.{ne_eqb, eq-eqb}
use Rattle.std.proofs.lemmas.Bool.Decides.{nat_tests}
use Rattle.std.proofs.lemmas.List.{take_all}
use Rattle.std.proofs.lemmas.List.Sums.{position_or_len_is}
use Rattle.lpc_model.specs.Script.{script_lines}
use Rattle.lpc_model.specs.Grammar.{two_parts}
use Rattle.lpc_model.specs.Words.{parts, words, is_empty, split_once, three_parts}

lines_at : (bs : List ℕ) (i : ℕ) → i < length bs → get_or bs i 0 ≡ 10 → ((k : ℕ) → k < i → get_or bs k 0 ≡ 10 → ⊥) → script_lines bs ≡ take i bs ∷ script_lines (drop (suc i) bs)
unfolding script_lines
lines_at [] i h at none = absurd (omega arith)
lines_at (b ∷ bs) zero h at none = rw at refl
lines_at (b ∷ bs) (suc i) h at none =
    let ne = ne_eqb b 10 (none 0 (omega arith)) in
    let ih = lines_at bs i (omega arith) at (λ k lt e. none (suc k) (omega arith) e) in
    rw (ne, ih) refl

-- a script without a byte 10 is one line
pub lines_end : (bs : List ℕ) → 0 < length bs → ((k : ℕ) → k < length bs → get_or bs k 0 ≡ 10 → ⊥) → script_lines bs ≡ bs ∷ []
unfolding script_lines
lines_end [] h none = absurd (omega arith)
lines_end (b ∷ []) h none =
    let ne = ne_eqb b 10 (none 0 (omega arith)) in rw ne refl
lines_end (b ∷ c ∷ bs) h none =
    let ne = ne_eqb b 10 (none 0 (omega arith)) in
    let ih = lines_end (c ∷ bs) (omega arith) (λ k lt e. none (suc k) (omega arith) e) in
    rw (ne, ih) refl

parts_at : (c : ℕ) (bs : List ℕ) (i : ℕ) → i < length bs → get_or bs i 0 ≡ c → ((k : ℕ) → k < i → get_or bs k 0 ≡ c → ⊥) → parts c bs ≡ take i bs ∷ parts c (drop (suc i) bs)
parts_at c [] i h at none = absurd (omega arith)
parts_at c (b ∷ bs) zero h at none = grind arith
parts_at c (b ∷ bs) (suc i) h at none =
    let ne = ne_eqb b c (none 0 (omega arith)) in
    let ih = parts_at c bs i (omega arith) at (λ k lt e. none (suc k) (omega arith) e) in
    rw (ne, ih) refl

-- a text without the byte is one part
pub parts_end : (c : ℕ) (bs : List ℕ) → ((k : ℕ) → k < length bs → get_or bs k 0 ≡ c → ⊥) → parts c bs ≡ bs ∷ []
parts_end c [] none = refl
parts_end c (b ∷ bs) none =
    let ne = ne_eqb b c (none 0 (omega arith)) in
    let ih = parts_end c bs (λ k lt e. none (suc k) (omega arith) e) in
    rw (ne, ih) refl

-- what `&bytes[i + 1..]` is
rest_is : (bs : List ℕ) (i : ℕ) → take (length bs - (i + 1)) (drop (i + 1) bs) ≡ drop (suc i) bs
rest_is bs i = take_all _ _ (rw length-drop (omega arith)) ∙ rw add-one refl

-- the first line ends before its byte 10
pub lines_here : (bs : List ℕ) (i : ℕ) → i < length bs → get_or bs i 0 ≡ 10 → ((k : ℕ) → k < i → get_or bs k 0 ≡ 10 → ⊥) → script_lines bs ≡ take i bs ∷ script_lines (take (length bs - (i + 1)) (drop (i + 1) bs))
lines_here bs i h at none = rw rest_is (lines_at bs i h at none)

-- the first part ends before the byte
pub parts_here : (c : ℕ) (bs : List ℕ) (i : ℕ) → i < length bs → get_or bs i 0 ≡ c → ((k : ℕ) → k < i → get_or bs k 0 ≡ c → ⊥) → parts c bs ≡ take i bs ∷ parts c (take (length bs - (i + 1)) (drop (i + 1) bs))
parts_here c bs i h at none = rw rest_is (parts_at c bs i h at none)

-- a space in front is no word
pub words_space : (bs : List ℕ) (i : ℕ) → i < length bs → get_or bs i 0 ≡ 32 → words (drop (i + 1) bs) ≡ words (drop i bs)
unfolding words
words_space [] i h at = absurd (omega arith)
words_space (b ∷ bs) zero h at = rw at refl
words_space (b ∷ bs) (suc i) h at = rw (add-one) (rw add-one at (words_space bs i (omega arith) at))

-- no byte, no word
pub words_none : (bs : List ℕ) → length bs ≡ 0 → words bs ≡ []
unfolding words
words_none [] h = refl
words_none (b ∷ bs) h = absurd (omega arith)

onto_full : (b : ℕ) (ps qs : List (List ℕ)) (w : List ℕ) → onto_first b ps ≡ w ∷ qs → 0 < length w
onto_full b [] qs w h = let e : b ∷ [] ≡ w = cc in rw (← e) (omega arith)
onto_full b (p ∷ ps) qs w h = let e : b ∷ p ≡ w = cc in rw (← e) (omega arith)

-- without a space in front the first part is the first word
pub word_first : (bs w : List ℕ) (ps : List (List ℕ)) → 0 < length bs → (get_or bs 0 0 ≡ 32 → ⊥) → parts 32 bs ≡ w ∷ ps → words bs ≡ w ∷ filter (λ word. not (is_empty word)) ps
unfolding words
word_first [] w ps h front first = absurd (omega arith)
word_first (b ∷ bs) w ps h front first =
    let ne = ne_eqb b 32 (front) in
    let full : 0 < length w = onto_full b (parts 32 bs) ps w (rw ne at first) in
    let some : is_empty w ≡ false = grind (arith, nat_tests) in
    rw (first, some) refl

-- the same, where a rest follows
pub word_here : (bs w rest : List ℕ) → 0 < length bs → (get_or bs 0 0 ≡ 32 → ⊥) → parts 32 bs ≡ w ∷ parts 32 rest → words bs ≡ w ∷ words rest
unfolding words
word_here bs w rest h front first = word_first bs w (parts 32 rest) h front first

pub word_alone : (bs : List ℕ) → 0 < length bs → (get_or bs 0 0 ≡ 32 → ⊥) → parts 32 bs ≡ bs ∷ [] → words bs ≡ bs ∷ words []
unfolding words
word_alone bs h front first = word_first bs bs [] h front first

-- there is always a first part
record FirstPart (ps : List (List ℕ)) : Type 0 where
  pub first : List ℕ
  pub others : List (List ℕ)
  pub is : ps ≡ first ∷ others

first_part : (c : ℕ) (bs : List ℕ) → FirstPart (parts c bs)
first_part c [] = record { first = []; others = []; is = refl }
first_part c (b ∷ bs) = first_cond (eqb b c) (parts c bs) b
  where
    first_onto : (ps : List (List ℕ)) (b : ℕ) → FirstPart (onto_first b ps)
    first_onto [] b = record { first = b ∷ []; others = []; is = refl }
    first_onto (p ∷ ps) b = record { first = b ∷ p; others = ps; is = refl }

    first_cond : (test : Bool) (ps : List (List ℕ)) (b : ℕ) → FirstPart (cond test ([] ∷ ps) (onto_first b ps))
    first_cond true ps b = record { first = []; others = ps; is = refl }
    first_cond false ps b = first_onto ps b

-- one part too many
pub parts_many : (by : ℕ) (a b d rest : List ℕ) → three_parts (a ∷ b ∷ d ∷ parts by rest) ≡ None
unfolding three_parts
parts_many by a b d rest = rw ((first_part by rest).is) refl

pub parts_two_many : (by : ℕ) (a b rest : List ℕ) → two_parts (a ∷ b ∷ parts by rest) ≡ None
unfolding two_parts
parts_two_many by a b rest = rw ((first_part by rest).is) refl

-- there is a part
pub parts_some : (by : ℕ) (text : List ℕ) → 1 ≤ length (parts by text)
parts_some by text = rw ((first_part by text).is) (omega arith)

position_here : (c : ℕ) (bs : List ℕ) (i : ℕ) → i ≤ length bs → (i < length bs → get_or bs i 0 ≡ c) → ((k : ℕ) → k < i → get_or bs k 0 ≡ c → ⊥) → position_or_len (λ b. eqb b c) bs ≡ i
position_here c bs i h at none = position_or_len_is (λ b. eqb b c) bs i 0 h (λ k lt. ne_eqb _ _ (none k lt)) (λ lt. eq-eqb _ _ (at lt))

-- the cut before and behind the first byte
pub cut_here : (c : ℕ) (bs : List ℕ) (i : ℕ) → i < length bs → get_or bs i 0 ≡ c → ((k : ℕ) → k < i → get_or bs k 0 ≡ c → ⊥) → split_once c bs ≡ Some (take i bs, take (length bs - (i + 1)) (drop (i + 1) bs))
unfolding split_once
cut_here c bs i h at none =
    let is = position_here c bs i (omega arith) (λ lt. at) none in
    let inside : eqb i (length bs) ≡ false = ne_eqb _ _ (λ e. omega arith) in
    rw (is, inside, rest_is, add-one) refl

-- no byte, no cut
pub cut_end : (c : ℕ) (bs : List ℕ) → ((k : ℕ) → k < length bs → get_or bs k 0 ≡ c → ⊥) → split_once c bs ≡ None
unfolding split_once
cut_end c bs none =
    let is = position_here c bs (length bs) (omega arith) (λ lt. absurd (omega arith)) none in
    let end : eqb (length bs) (length bs) ≡ true = eq-eqb _ _ refl in
    rw (is, end) refl
