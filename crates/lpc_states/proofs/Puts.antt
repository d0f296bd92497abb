-- What is put piece by piece is put as a whole: where each piece is, and where one isn't, for want of memory.
use Rattle.std.proofs.Common.{◌≡◌, refl, sym, ap, subst, ◌∙◌, ℕ, ◌+◌, ◌<◌, ◌≤◌, List, [], ◌∷◌, ◌++◌, append_assoc, append-nil, codes, drop, length, length-append, map, take, get_or, ◌-◌, arith}
use Rattle.std.specs.Prelude.{Err, IsErr, Ok, OnErr, Result}
use Rattle.std.specs.List.{flat_map}
use Rattle.std.proofs.lemmas.List.{take_all}
use Rattle.std.proofs.lemmas.List.Folds.{flat_map-map, length-flat_map-take}
use Rattle.lpc_transcript.specs.Printing.{BeginsWith, Puts}
use Rattle.lpc_transcript.proofs.Begins.{begins_before}
use Rattle.lpc_states.specs.Values.{behind_comma, joined, listed}

-- what was to be put behind a text stands there, or there was no room for it, and what stood before begins the text; the
-- text with the room that it has, before and now
pub record IsPut {T E : Type 0} (before : List ℕ) (held : ℕ) (now : List ℕ) (holds : ℕ) (more : List ℕ) (result : Result T E) : Type 0 where
  pub ok : Puts before now more result
  pub err : OnErr result (BeginsWith now before)
  pub capacity : held ≤ holds
  pub wanting : OnErr result (held < length before + length more)

-- what is true is true where a call failed
pub where_err : {T E P : Type 0} (result : Result T E) → P → OnErr result P
where_err (Ok x) is = tt
where_err (Err e) is = is

-- a text that is told in other words
pub put_same : {T E : Type 0} {before now : List ℕ} {held holds : ℕ} {result : Result T E} (one other : List ℕ) → one ≡ other → IsPut before held now holds one result → IsPut before held now holds other result
put_same {T} {E} {before} {now} {held} {holds} {result} one other same put =
    subst (λ text. IsPut before held now holds text result) same put

-- ---- one text behind another
-- a text that stands there, in no less room, and what is to stand behind that
pub then_more : {T E : Type 0} {before between now : List ℕ} {held has holds : ℕ} (one rest : List ℕ) (result : Result T E) → between ≡ before ++ one → held ≤ has → IsPut between has now holds rest result → IsPut before held now holds (one ++ rest) result
then_more {T} {E} {before} one rest (Ok x) text room put = record {
  ok = put.ok ∙ (ap (λ front. front ++ rest) text ∙ append_assoc before one rest);
  err = tt;
  capacity = omega (arith, room, put.capacity);
  wanting = tt;
}
then_more {T} {E} {before} {between} {now} one rest (Err e) text room put = record {
  ok = tt;
  err = begins_before now before one (subst (λ front. BeginsWith now front) text put.err);
  capacity = omega (arith, room, put.capacity);
  wanting =
      let long = simp length-append at (ap length text) in
      omega (arith, put.wanting, long, room, length-append one rest);
}

-- a text for which there was no room: nothing is put behind it
pub then_stops : {T E : Type 0} {before now : List ℕ} {held holds : ℕ} (one rest : List ℕ) (result : Result T E) → IsErr result → BeginsWith now before → held ≤ holds → held < length before + length one → IsPut before held now holds (one ++ rest) result
then_stops one rest (Ok x) is begins room lacks = absurd (cc)
then_stops one rest (Err e) is begins room lacks = record {
  ok = tt;
  err = begins;
  capacity = room;
  wanting = omega (arith, lacks, length-append one rest);
}

-- ---- the pieces of a joined text
-- a piece, and then the rest
pub put_more : {T E : Type 0} {before between now : List ℕ} {held has holds : ℕ} {result : Result T E} (one : List ℕ) (rest : List (List ℕ)) → between ≡ before ++ one → held ≤ has → IsPut between has now holds (joined rest) result → IsPut before held now holds (joined (one ∷ rest)) result
unfolding joined
put_more one rest text room put = then_more one (joined rest) _ text room put

-- the last piece
pub put_last : {T E : Type 0} {before now : List ℕ} {held holds : ℕ} {result : Result T E} (one : List ℕ) → Puts before now one result → OnErr result (BeginsWith now before) → held ≤ holds → OnErr result (held < length before + length one) → IsPut before held now holds (joined (one ∷ [])) result
unfolding joined
put_last {T} {E} {before} {now} {held} {holds} {result} one ok err capacity wanting =
    subst (λ text. IsPut before held now holds text result) (sym (append-nil one)) (record { ok = ok; err = err; capacity = capacity; wanting = wanting })

-- a piece for which there was no room: none of the rest is put
pub put_stops : {T E : Type 0} {before now : List ℕ} {held holds : ℕ} (one : List ℕ) (rest : List (List ℕ)) (result : Result T E) → IsErr result → BeginsWith now before → held ≤ holds → held < length before + length one → IsPut before held now holds (joined (one ∷ rest)) result
unfolding joined
put_stops one rest result is begins room lacks = then_stops one (joined rest) result is begins room lacks

-- two pieces that are put at once
pub as_two : {T E : Type 0} {before now : List ℕ} {held holds : ℕ} {result : Result T E} (one other : List ℕ) (rest : List (List ℕ)) → IsPut before held now holds (joined ((one ++ other) ∷ rest)) result → IsPut before held now holds (joined (one ∷ other ∷ rest)) result
unfolding joined
as_two {T} {E} {before} {now} {held} {holds} {result} one other rest put =
    subst (λ text. IsPut before held now holds text result) (append_assoc one other (joined rest)) put

-- a piece, or a second one, that is told in other words
pub first_same : {T E : Type 0} {before now : List ℕ} {held holds : ℕ} {result : Result T E} (one other : List ℕ) (rest : List (List ℕ)) → one ≡ other → IsPut before held now holds (joined (one ∷ rest)) result → IsPut before held now holds (joined (other ∷ rest)) result
first_same {T} {E} {before} {now} {held} {holds} {result} one other rest same put =
    subst (λ piece. IsPut before held now holds (joined (piece ∷ rest)) result) same put

pub second_same : {T E : Type 0} {before now : List ℕ} {held holds : ℕ} {result : Result T E} (key one other : List ℕ) (rest : List (List ℕ)) → one ≡ other → IsPut before held now holds (joined (key ∷ one ∷ rest)) result → IsPut before held now holds (joined (key ∷ other ∷ rest)) result
second_same {T} {E} {before} {now} {held} {holds} {result} key one other rest same put =
    subst (λ piece. IsPut before held now holds (joined (key ∷ piece ∷ rest)) result) same put

-- ---- the texts of values, one after the other
-- the text of a list is that of the first value, and behind it that of the others, each behind a comma, in brackets
pub listed_parts : {A : Type 0} (show : A → List ℕ) (xs : List A) (first : A) → 1 ≤ length xs → first ≡ get_or xs 0 first → joined (codes "[" ∷ show first ∷ flat_map (behind_comma show) (take (length xs - 1) (drop 1 xs)) ∷ codes "]" ∷ []) ≡ listed show xs
listed_parts show [] first some is = absurd (omega arith)
listed_parts {A} show (x ∷ xs) first some is =
    let count : length (x ∷ xs) - 1 ≡ length xs = omega arith in
    let others : take (length (x ∷ xs) - 1) (drop 1 (x ∷ xs)) ≡ xs = rw count (take_all _ _ (omega arith)) in
    ap (λ (y : A). joined (codes "[" ∷ show y ∷ flat_map (behind_comma show) (take (length (x ∷ xs) - 1) (drop 1 (x ∷ xs))) ∷ codes "]" ∷ [])) is
    ∙ ap (λ (ys : List A). joined (codes "[" ∷ show x ∷ flat_map (behind_comma show) ys ∷ codes "]" ∷ [])) others

-- where there is no room for one of them, there was none for all
pub lacks_one : {T E A : Type 0} (show : A → List ℕ) (xs : List A) (place : ℕ) (x other : A) (before between : List ℕ) (held has : ℕ) (result : Result T E) → place < length xs → x ≡ get_or xs place other → between ≡ before ++ flat_map show (take place xs) → held ≤ has → has < length between + length (show x) → OnErr result (held < length before + length (flat_map show xs))
lacks_one show xs place x other before between held has result below is text room lacks =
    let no_longer = rw (sym is) at (length-flat_map-take show xs place other below) in
    let long = simp length-append at (ap length text) in
    where_err result (omega (arith, no_longer, long, room, lacks))

pub lacks_mapped : {T E A B : Type 0} (show : B → List ℕ) (f : A → B) (xs : List A) (place : ℕ) (x other : A) (before between : List ℕ) (held has : ℕ) (result : Result T E) → place < length xs → x ≡ get_or xs place other → between ≡ before ++ flat_map show (map f (take place xs)) → held ≤ has → has < length between + length (show (f x)) → OnErr result (held < length before + length (flat_map show (map f xs)))
lacks_mapped show f xs place x other before between held has result below is text room lacks =
    let one = simp flat_map-map at text in
    simp flat_map-map (lacks_one (λ y. show (f y)) xs place x other before between held has result below is one room lacks)

-- what begins the text of those before it begins that of all
pub begins_more : {T E : Type 0} (now before between front : List ℕ) (result : Result T E) → between ≡ before ++ front → BeginsWith now between → OnErr result (BeginsWith now before)
begins_more now before between front result text begins =
    where_err result (begins_before now before front (subst (λ whole. BeginsWith now whole) text begins))

-- ---- a text that is told of rows, while others are left
begins_longer : (text front more : List ℕ) → take (length front) text ≡ front → take (length front) (text ++ more) ≡ front
begins_longer text [] more e = refl
begins_longer [] (x ∷ front) more e = absurd (cc)
begins_longer (t ∷ text) (x ∷ front) more e =
    let whole : t ∷ take (length front) text ≡ x ∷ front = e in
    let tail : take (length front) text ≡ front = cc in
    let same = begins_longer text front more tail in cc

begins_through : (now text front : List ℕ) → take (length text) now ≡ text → take (length front) text ≡ front → take (length front) now ≡ front
begins_through now text [] e f = refl
begins_through now [] (x ∷ front) e f = absurd (cc)
begins_through [] (t ∷ text) (x ∷ front) e f = absurd (cc)
begins_through (n ∷ now) (t ∷ text) (x ∷ front) e f =
    let outer : n ∷ take (length text) now ≡ t ∷ text = e in
    let inner : t ∷ take (length front) text ≡ x ∷ front = f in
    let outer_tail : take (length text) now ≡ text = cc in
    let inner_tail : take (length front) text ≡ front = cc in
    let same = begins_through now text front outer_tail inner_tail in cc

-- what begins a text still begins it with more behind, and begins what that text begins
pub still_begins : (now text front more : List ℕ) → BeginsWith text front → now ≡ text ++ more → BeginsWith now front
still_begins now text front more begins is =
    subst (λ whole. BeginsWith whole front) (sym is) (record { same = begins_longer text front more begins.same })

pub begins_first : {T E : Type 0} (now text front : List ℕ) (result : Result T E) → BeginsWith now text → BeginsWith text front → OnErr result (BeginsWith now front)
begins_first now text front result outer inner =
    where_err result (record { same = begins_through now text front outer.same inner.same })

-- where there is no room for the text of one row, there was none for those of all
pub lacks_left : {T E : Type 0} (before between one later whole : List ℕ) (held has : ℕ) (result : Result T E) → between ++ (one ++ later) ≡ before ++ whole → held ≤ has → has < length between + length one → OnErr result (held < length before + length whole)
lacks_left before between one later whole held has result text room lacks =
    let long = simp length-append at (ap length text) in
    where_err result (omega (arith, long, room, lacks))
