-- What stands before the first byte 10 of a piece, and how a piece is parted behind a line.
use Rattle.std.proofs.Common.{◌≡◌, ℕ, zero, suc, ◌+◌, ◌-◌, ◌<◌, ◌≤◌, Bool, true, false, List, [], ◌∷◌, ◌++◌, length, take, drop, get_or, refl, sym, ap, ◌∙◌, arith, append_assoc, length-append}
use Rattle.std.specs.Prelude.{◌==◌, nat_lt, not, None, Some}
use Rattle.std.specs.List.{position_or_len}
use Rattle.std.proofs.lemmas.Bool.Decides.{nat_tests}
use Rattle.std.proofs.lemmas.Bool.{eqb-true, eq-eqb, ne_eqb}
use Rattle.std.proofs.lemmas.List.{take_all, length-take, length-take-le, drop_all, drop_more, take-append-drop}
use Rattle.std.proofs.lemmas.List.Folds.{list_any-append}
use Rattle.lpc_base.specs.declared.limits.TheConstants.{LINE_LIMIT}
use Rattle.lpc_model.specs.Words.{split_once}
use Rattle.lpc_script.specs.Feeding.{IsParted, before_end, has_end, line_behind, what_comes}
use Rattle.lpc_script.specs.declared.line_buffer.Fed.TheVariants.{More, Line, Long}

before_yes : (b : ℕ) (bs : List ℕ) → (b == 10) ≡ true → before_end (b ∷ bs) ≡ []
before_yes b bs h = rw h refl

before_no : (b : ℕ) (bs : List ℕ) → (b == 10) ≡ false → before_end (b ∷ bs) ≡ b ∷ before_end bs
before_no b bs h =
    let n = position_or_len (λ c. c == 10) bs in
    let e : 1 + n ≡ suc n = omega arith in
    rw (h, e) refl

-- no byte before the first byte 10 is one
lacks_case : (b : ℕ) (bs : List ℕ) (test : Bool) → (b == 10) ≡ test → has_end (before_end bs) ≡ false → has_end (before_end (b ∷ bs)) ≡ false
lacks_case b bs true h ih = rw (before_yes b bs h) refl
lacks_case b bs false h ih = rw (before_no b bs h, h) ih

pub before_lacks : (bs : List ℕ) → has_end (before_end bs) ≡ false
before_lacks [] = refl
before_lacks (b ∷ bs) = lacks_case b bs (b == 10) refl (before_lacks bs)

-- without a byte 10 all stands before it
all_case : (b : ℕ) (bs : List ℕ) (test : Bool) → (b == 10) ≡ test → has_end (b ∷ bs) ≡ false → (has_end bs ≡ false → before_end bs ≡ bs) → before_end (b ∷ bs) ≡ b ∷ bs
all_case b bs true t h ih = let wrong : true ≡ false = rw t at h in absurd (cc)
all_case b bs false t h ih = before_no b bs t ∙ ap (λ later. b ∷ later) (ih (rw t at h))

pub before_all : (bs : List ℕ) → has_end bs ≡ false → before_end bs ≡ bs
before_all [] h = refl
before_all (b ∷ bs) h = all_case b bs (b == 10) refl h (before_all bs)

-- a piece with a byte 10 is what stands before it, that byte, and the rest
parts_case : (b : ℕ) (bs : List ℕ) (test : Bool) → (b == 10) ≡ test → has_end (b ∷ bs) ≡ true → (has_end bs ≡ true → bs ≡ before_end bs ++ 10 ∷ drop (length (before_end bs) + 1) bs) → b ∷ bs ≡ before_end (b ∷ bs) ++ 10 ∷ drop (length (before_end (b ∷ bs)) + 1) (b ∷ bs)
parts_case b bs true t h ih = let ten : b ≡ 10 = eqb-true b 10 t in rw (before_yes b bs t, ten) refl
parts_case b bs false t h ih =
    let e : length (b ∷ before_end bs) + 1 ≡ suc (length (before_end bs) + 1) = omega arith in
    rw (before_no b bs t, e) (ap (λ later. b ∷ later) (ih (rw t at h)))

pub before_parts : (bs : List ℕ) → has_end bs ≡ true → bs ≡ before_end bs ++ 10 ∷ drop (length (before_end bs) + 1) bs
before_parts [] h = absurd (cc)
before_parts (b ∷ bs) h = parts_case b bs (b == 10) refl h (before_parts bs)

pub before_short : (bs : List ℕ) → length (before_end bs) ≤ length bs
before_short [] = omega arith
before_short (b ∷ bs) = short_case b bs (b == 10) refl (before_short bs)
  where
    short_case : (b : ℕ) (bs : List ℕ) (test : Bool) → (b == 10) ≡ test → length (before_end bs) ≤ length bs → length (before_end (b ∷ bs)) ≤ length (b ∷ bs)
    short_case b bs true t ih = rw (before_yes b bs t) (omega arith)
    short_case b bs false t ih = rw (before_no b bs t) (omega arith)

-- a text is cut where it has a byte 10
same_next : (n m : ℕ) (test : Bool) → (n == m) ≡ test → (suc n == suc m) ≡ test
same_next n m true h = let same : n ≡ m = eqb-true n m h in eq-eqb (suc n) (suc m) (ap suc same)
same_next n m false h = ne_eqb (suc n) (suc m) (λ e. let same : n ≡ m = omega arith in absurd (let wrong = eq-eqb n m same in let no : true ≡ false = cc in cc))

place_case : (b : ℕ) (bs : List ℕ) (test : Bool) → (b == 10) ≡ test → (position_or_len (λ c. c == 10) bs == length bs) ≡ not (has_end bs) → (position_or_len (λ c. c == 10) (b ∷ bs) == length (b ∷ bs)) ≡ not (has_end (b ∷ bs))
place_case b bs true t ih = rw t (ne_eqb 0 (suc (length bs)) (λ e. omega arith))
place_case b bs false t ih =
    let n = position_or_len (λ c. c == 10) bs in
    let e : 1 + n ≡ suc n = omega arith in
    rw (t, e) (same_next n (length bs) (not (has_end bs)) ih)

place_end : (bs : List ℕ) → (position_or_len (λ c. c == 10) bs == length bs) ≡ not (has_end bs)
place_end [] = refl
place_end (b ∷ bs) = place_case b bs (b == 10) refl (place_end bs)

none_case : (end : Bool) (bs : List ℕ) → has_end bs ≡ end → split_once 10 bs ≡ None → has_end bs ≡ false
unfolding split_once
none_case true bs e h = let wrong = rw (place_end bs, e) at h in absurd (cc)
none_case false bs e h = e

pub cut_none : (bs : List ℕ) → split_once 10 bs ≡ None → has_end bs ≡ false
cut_none bs h = none_case (has_end bs) bs refl h

some_case : (end : Bool) (bs : List ℕ) (two : List ℕ × List ℕ) → has_end bs ≡ end → split_once 10 bs ≡ Some two → (has_end bs ≡ true) × (two.0 ≡ before_end bs)
unfolding split_once
some_case true bs two e h = let same = rw (place_end bs, e) at h in (e, cc)
some_case false bs two e h = let wrong = rw (place_end bs, e) at h in absurd (cc)

pub cut_some : (bs : List ℕ) (two : List ℕ × List ℕ) → split_once 10 bs ≡ Some two → (has_end bs ≡ true) × (two.0 ≡ before_end bs)
cut_some bs two h = some_case (has_end bs) bs two refl h

-- what comes of a piece
pub comes_long : (line piece : List ℕ) → length line ≤ LINE_LIMIT → LINE_LIMIT - length line < length (before_end piece) → what_comes line piece ≡ Long
comes_long line piece few over =
    let past : nat_lt LINE_LIMIT (length line + length (before_end piece)) ≡ true = grind (arith, nat_tests) in
    rw past refl

pub comes_line : (line piece : List ℕ) → length line ≤ LINE_LIMIT → length (before_end piece) ≤ LINE_LIMIT - length line → has_end piece ≡ true → what_comes line piece ≡ Line
comes_line line piece few fits end =
    let within : nat_lt LINE_LIMIT (length line + length (before_end piece)) ≡ false = grind (arith, nat_tests) in
    rw (within, end) refl

pub comes_more : (line piece : List ℕ) → length line ≤ LINE_LIMIT → length (before_end piece) ≤ LINE_LIMIT - length line → has_end piece ≡ false → what_comes line piece ≡ More
comes_more line piece few fits end =
    let within : nat_lt LINE_LIMIT (length line + length (before_end piece)) ≡ false = grind (arith, nat_tests) in
    rw (within, end) refl

-- the line behind a piece
take_behind : (xs ys : List ℕ) (n : ℕ) → take (length xs + n) (xs ++ ys) ≡ xs ++ take n ys
take_behind [] ys n = let e : 0 + n ≡ n = omega arith in rw e refl
take_behind (x ∷ xs) ys n =
    let e : length (x ∷ xs) + n ≡ suc (length xs + n) = omega arith in
    rw e (ap (λ later. x ∷ later) (take_behind xs ys n))

pub behind_long : (line piece : List ℕ) → length line ≤ LINE_LIMIT → line_behind line piece ≡ line ++ take (LINE_LIMIT - length line) (before_end piece)
behind_long line piece few =
    let e : length line + (LINE_LIMIT - length line) ≡ LINE_LIMIT = omega arith in
    rw e at (take_behind line (before_end piece) (LINE_LIMIT - length line))

pub behind_short : (line piece : List ℕ) → length line ≤ LINE_LIMIT → length (before_end piece) ≤ LINE_LIMIT - length line → line_behind line piece ≡ line ++ before_end piece
behind_short line piece few fits =
    let size = length-append line (before_end piece) in
    take_all LINE_LIMIT (line ++ before_end piece) (omega arith)

-- a byte that is one too many stands before the first byte 10
byte_case : (b : ℕ) (bs : List ℕ) (i : ℕ) (test : Bool) → (b == 10) ≡ test → i < length (before_end (b ∷ bs)) → ((k : ℕ) → k < length (before_end bs) → ((get_or bs k 0 == 10) ≡ false) × (take k bs ≡ take k (before_end bs))) → ((get_or (b ∷ bs) i 0 == 10) ≡ false) × (take i (b ∷ bs) ≡ take i (before_end (b ∷ bs)))
byte_case b bs i true t lt ih = let none : length (before_end (b ∷ bs)) ≡ 0 = rw (before_yes b bs t) refl in absurd (omega arith)
byte_case b bs zero false t lt ih = (t, refl)
byte_case b bs (suc i) false t lt ih =
    let size : length (before_end (b ∷ bs)) ≡ suc (length (before_end bs)) = rw (before_no b bs t) refl in
    let k = ih i (omega arith) in
    (k.0, rw (before_no b bs t) (ap (λ later. b ∷ later) k.1))

before_at : (bs : List ℕ) (i : ℕ) → i < length (before_end bs) → ((get_or bs i 0 == 10) ≡ false) × (take i bs ≡ take i (before_end bs))
before_at [] i lt = absurd (omega arith)
before_at (b ∷ bs) i lt = byte_case b bs i (b == 10) refl lt (λ k l. before_at bs k l)

-- how the bytes are parted
pub parted_long : (line piece : List ℕ) → length line ≤ LINE_LIMIT → LINE_LIMIT - length line < length (before_end piece) → IsParted Long (line ++ piece) (line_behind line piece) (drop (LINE_LIMIT - length line + 1) piece)
parted_long line piece few over =
    let room = LINE_LIMIT - length line in
    let at = before_at piece room over in
    let short = before_short piece in
    let size = length-append line (before_end piece) in
    let rest = drop_more piece room 0 (omega arith) in
    let whole = take-append-drop room piece in
    record {
      byte = get_or piece room 0;
      other = at.0;
      parts = rw (behind_long line piece few, ← at.1, append_assoc, ← rest, whole) refl;
      full = length-take-le LINE_LIMIT (line ++ before_end piece) (omega arith);
    }

pub parted_line : (line piece : List ℕ) → length line ≤ LINE_LIMIT → length (before_end piece) ≤ LINE_LIMIT - length line → has_end piece ≡ true → IsParted Line (line ++ piece) (line_behind line piece) (drop (length (before_end piece) + 1) piece)
parted_line line piece few fits end =
    ap (λ all. line ++ all) (before_parts piece end)
    ∙ (sym (append_assoc line (before_end piece) (10 ∷ drop (length (before_end piece) + 1) piece))
    ∙ ap (λ all. all ++ 10 ∷ drop (length (before_end piece) + 1) piece) (sym (behind_short line piece few fits)))

pub parted_more : (line piece : List ℕ) → length line ≤ LINE_LIMIT → length (before_end piece) ≤ LINE_LIMIT - length line → has_end piece ≡ false → IsParted More (line ++ piece) (line_behind line piece) (drop (length piece) piece)
parted_more line piece few fits end =
    (ap (λ all. line ++ all) (sym (before_all piece end)) ∙ sym (behind_short line piece few fits), drop_all (length piece) piece (omega arith))

-- a piece with a byte 10 is longer than what stands before it
pub before_shorter : (bs : List ℕ) → has_end bs ≡ true → length (before_end bs) + 1 ≤ length bs
before_shorter bs end =
    let rest = drop (length (before_end bs) + 1) bs in
    let all : length bs ≡ length (before_end bs ++ 10 ∷ rest) = ap length (before_parts bs end) in
    let size = length-append (before_end bs) (10 ∷ rest) in
    omega arith

-- no byte 10 comes to the line
front_case : (x : ℕ) (xs ys : List ℕ) (test : Bool) → (x == 10) ≡ test → has_end (x ∷ (xs ++ ys)) ≡ false → (has_end (xs ++ ys) ≡ false → has_end xs ≡ false) → has_end (x ∷ xs) ≡ false
front_case x xs ys true t h ih = let wrong : true ≡ false = rw t at h in absurd (cc)
front_case x xs ys false t h ih = rw t (ih (rw t at h))

pub front_lacks : (xs ys : List ℕ) → has_end (xs ++ ys) ≡ false → has_end xs ≡ false
front_lacks [] ys h = refl
front_lacks (x ∷ xs) ys h = front_case x xs ys (x == 10) refl h (front_lacks xs ys)

pub behind_lacks : (line piece : List ℕ) → has_end line ≡ false → has_end (line_behind line piece) ≡ false
behind_lacks line piece none =
    let all = line ++ before_end piece in
    let whole : has_end all ≡ false = rw (list_any-append (λ b. b == 10) line (before_end piece), none) (before_lacks piece) in
    front_lacks (take LINE_LIMIT all) (drop LINE_LIMIT all) (rw (sym (take-append-drop LINE_LIMIT all)) at whole)

behind_size : (line piece : List ℕ) → length (line_behind line piece) ≤ LINE_LIMIT
behind_size line piece = let size = length-take LINE_LIMIT (line ++ before_end piece) in omega arith

-- the line that is kept is the line behind the piece
pub kept_long : (line piece text new : List ℕ) (r : ℕ) → r ≡ length line → text ≡ before_end piece → length line ≤ LINE_LIMIT → new ≡ line ++ take (LINE_LIMIT - r) text → new ≡ line_behind line piece
kept_long line piece text new r size is few kept = kept ∙ rw (size, is, behind_long line piece few) refl

pub kept_short : (line piece text new : List ℕ) (r : ℕ) → r ≡ length line → text ≡ before_end piece → length line ≤ LINE_LIMIT → length text ≤ LINE_LIMIT - r → new ≡ line ++ text → new ≡ line_behind line piece
kept_short line piece text new r size is few fits kept =
    let within : length (before_end piece) ≤ LINE_LIMIT - length line = rw (size, is) at fits in
    kept ∙ rw (is, behind_short line piece few within) refl

-- so it is a line without a byte 10 that isn't too long
pub kept_within : (line piece new : List ℕ) → new ≡ line_behind line piece → length new ≤ LINE_LIMIT
kept_within line piece new same = rw same (behind_size line piece)

pub kept_lacks : (line piece new : List ℕ) → new ≡ line_behind line piece → has_end line ≡ false → has_end new ≡ false
kept_lacks line piece new same none = rw same (behind_lacks line piece none)
