-- Texts and the paths that they keep.
use Rattle.std.proofs.Common.{Result, Ok, Err, if◌then◌else◌, ◌≡◌, ◌∙◌, refl, sym, ap, ℕ, zero, suc, ◌+◌, ◌<◌, ◌≤◌, ◌==◌, Bool, true, false, cond, ◌||◌, ◌&&◌, List, [], ◌∷◌, ◌++◌, length, take, drop, nat_eq, nat_lt, arith, length-append, append_assoc}
use Rattle.std.proofs.lemmas.List.{take-append-drop}
use Rattle.std.proofs.Math.Seq.{take-append-add}
use Rattle.std.proofs.lemmas.Bool.Decides.{nat_tests}
use Rattle.std.proofs.lemmas.Bool.{or_right}
use Rattle.std.specs.List.{list_any}
use Rattle.std.specs.Cmp.Lexicographic.{pointwise}
use Rattle.lpc_names.specs.Path.{Path, parts_of, onto_first, size_of, is_empty, is_too_long, same_path, spelled, sound}
use Rattle.lpc_names.specs.declared.fault.NameFault.{NameFault}
use Rattle.lpc_names.specs.declared.fault.NameFault.TheVariants.{NameInvalid}
use Rattle.lpc_names.specs.Kept.{path_of, begins_part, name_length}

-- a text has one part at least
pub parts-some : (xs : List ℕ) → (p : List ℕ) × (ps : Path) × (parts_of xs ≡ p ∷ ps)
parts-some [] = ([], [], refl)
parts-some (b ∷ bs) = by (parts-some bs) (b == 92)
  where
    by : ((p : List ℕ) × (ps : Path) × (parts_of bs ≡ p ∷ ps)) → (t : Bool) → (p : List ℕ) × (ps : Path) × (cond t ([] ∷ parts_of bs) (onto_first b (parts_of bs)) ≡ p ∷ ps)
    by s true = ([], parts_of bs, refl)
    by s false = (b ∷ s.0, s.1, ap (onto_first b) s.2)

onto-append : (x : ℕ) (xs : List ℕ) (rest : Path) → onto_first x (parts_of xs ++ rest) ≡ onto_first x (parts_of xs) ++ rest
onto-append x xs rest = let s = parts-some xs in rw s.2 refl

pub parts-append : (front rest : List ℕ) → begins_part rest ≡ true → parts_of (front ++ rest) ≡ parts_of front ++ path_of rest
parts-append [] [] h = refl
parts-append [] (b ∷ bs) h = ap (λ t. cond t ([] ∷ parts_of bs) (onto_first b (parts_of bs))) h
parts-append (x ∷ xs) rest h = by (parts-append xs rest h) (x == 92)
  where
    by : parts_of (xs ++ rest) ≡ parts_of xs ++ path_of rest → (t : Bool) → cond t ([] ∷ parts_of (xs ++ rest)) (onto_first x (parts_of (xs ++ rest))) ≡ cond t ([] ∷ parts_of xs) (onto_first x (parts_of xs)) ++ path_of rest
    by more true = ap (λ ps. [] ∷ ps) more
    by more false = ap (onto_first x) more ∙ onto-append x xs (path_of rest)

-- the first part, and the path behind it
pub first-part : (bs : List ℕ) → parts_of bs ≡ take (name_length bs) bs ∷ path_of (drop (name_length bs) bs)
first-part [] = refl
first-part (b ∷ bs) = by (first-part bs) (b == 92)
  where
    by : parts_of bs ≡ take (name_length bs) bs ∷ path_of (drop (name_length bs) bs) → (t : Bool) → cond t ([] ∷ parts_of bs) (onto_first b (parts_of bs)) ≡ take (cond t 0 (suc (name_length bs))) (b ∷ bs) ∷ path_of (drop (cond t 0 (suc (name_length bs))) (b ∷ bs))
    by more true = refl
    by more false = ap (onto_first b) more

-- the first part alone is one part
pub name-alone : (bs : List ℕ) → parts_of (take (name_length bs) bs) ≡ take (name_length bs) bs ∷ []
name-alone [] = refl
name-alone (b ∷ bs) = by (name-alone bs) (b == 92) refl
  where
    by : parts_of (take (name_length bs) bs) ≡ take (name_length bs) bs ∷ [] → (t : Bool) → (b == 92) ≡ t → parts_of (take (cond t 0 (suc (name_length bs))) (b ∷ bs)) ≡ take (cond t 0 (suc (name_length bs))) (b ∷ bs) ∷ []
    by more true e = refl
    by more false e = ap (λ t. cond t ([] ∷ parts_of (take (name_length bs) bs)) (onto_first b (parts_of (take (name_length bs) bs)))) e ∙ ap (onto_first b) more

-- a backslash stands behind the first part
pub rest-begins : (bs : List ℕ) → begins_part (drop (name_length bs) bs) ≡ true
rest-begins [] = refl
rest-begins (b ∷ bs) = by (rest-begins bs) (b == 92) refl
  where
    by : begins_part (drop (name_length bs) bs) ≡ true → (t : Bool) → (b == 92) ≡ t → begins_part (drop (cond t 0 (suc (name_length bs))) (b ∷ bs)) ≡ true
    by more true e = e
    by more false e = more

size-onto : (b : ℕ) (bs : List ℕ) → size_of (onto_first b (parts_of bs)) ≡ suc (size_of (parts_of bs))
size-onto b bs = let s = parts-some bs in rw s.2 (omega arith)

pub size-parts : (bs : List ℕ) → size_of (parts_of bs) ≡ suc (length bs)
size-parts [] = refl
size-parts (b ∷ bs) = by (size-parts bs) (b == 92)
  where
    by : size_of (parts_of bs) ≡ suc (length bs) → (t : Bool) → size_of (cond t ([] ∷ parts_of bs) (onto_first b (parts_of bs))) ≡ suc (suc (length bs))
    by more true = rw more (omega arith)
    by more false = size-onto b bs ∙ ap suc more

-- a path has as many bytes as the text that keeps it
pub size-path : (text : List ℕ) → size_of (path_of text) ≡ length text
size-path [] = refl
size-path (b ∷ bs) = size-parts bs

pub path-some : (text : List ℕ) → 0 < size_of (path_of text) → 0 < length text
path-some text h = rw (size-path text) at h

pub path-join : (target rest : List ℕ) → begins_part rest ≡ true → path_of (target ++ rest) ≡ path_of target ++ path_of rest
path-join [] rest h = refl
path-join (b ∷ bs) rest h = parts-append bs rest h

-- a text with a byte isn't empty
some-byte : (byte : ℕ) (bytes : List ℕ) → is_empty (byte ∷ bytes) ≡ false
some-byte byte bytes = grind (arith, nat_tests)

-- the front of a path, with one more component
pub front-more : (front names : List ℕ) (b : ℕ) → (is_empty front || (b == 92)) ≡ true → path_of (front ++ b ∷ take (name_length names) names) ≡ path_of front ++ take (name_length names) names ∷ []
front-more [] names b h = name-alone names
front-more (f ∷ fs) names b h = parts-append fs (b ∷ take (name_length names) names) (rw (some-byte f fs) at h) ∙ ap (λ ps. parts_of fs ++ ps) (name-alone names)

onto-same : (x y : ℕ) (xs ys : List ℕ) → same_path (onto_first x (parts_of xs)) (onto_first y (parts_of ys)) ≡ (nat_eq x y && same_path (parts_of xs) (parts_of ys))
onto-same x y xs ys = let s = parts-some xs in let t = parts-some ys in rw (s.2, t.2) (and-assoc (nat_eq x y) _ _)
  where
    and-assoc : (a b c : Bool) → ((a && b) && c) ≡ (a && (b && c))
    and-assoc true b c = refl
    and-assoc false b c = refl

onto-apart : (y : ℕ) (ps : Path) (ys : List ℕ) → same_path ([] ∷ ps) (onto_first y (parts_of ys)) ≡ false
onto-apart y ps ys = let t = parts-some ys in rw t.2 refl

onto-apart-left : (x : ℕ) (xs : List ℕ) (ps : Path) → same_path (onto_first x (parts_of xs)) ([] ∷ ps) ≡ false
onto-apart-left x xs ps = let t = parts-some xs in rw t.2 refl

one-apart : (ys : List ℕ) → same_path ([] ∷ []) ([] ∷ parts_of ys) ≡ false
one-apart ys = let t = parts-some ys in rw t.2 refl

one-apart-left : (xs : List ℕ) → same_path ([] ∷ parts_of xs) ([] ∷ []) ≡ false
one-apart-left xs = let t = parts-some xs in rw t.2 refl

equal : (x y : ℕ) → (x == 92) ≡ true → (y == 92) ≡ true → true ≡ nat_eq x y
equal x y p q = grind arith

apart : (x y : ℕ) → (x == 92) ≡ true → (y == 92) ≡ false → false ≡ nat_eq x y
apart x y p q = grind arith

apart-left : (x y : ℕ) → (x == 92) ≡ false → (y == 92) ≡ true → false ≡ nat_eq x y
apart-left x y p q = grind arith

-- texts are one where their parts are
pub same-parts : (xs ys : List ℕ) → same_path (parts_of xs) (parts_of ys) ≡ pointwise nat_eq xs ys
same-parts [] [] = refl
same-parts [] (y ∷ ys) = by (y == 92)
  where
    by : (t : Bool) → same_path ([] ∷ []) (cond t ([] ∷ parts_of ys) (onto_first y (parts_of ys))) ≡ false
    by true = one-apart ys
    by false = onto-apart y [] ys
same-parts (x ∷ xs) [] = by (x == 92)
  where
    by : (t : Bool) → same_path (cond t ([] ∷ parts_of xs) (onto_first x (parts_of xs))) ([] ∷ []) ≡ false
    by true = one-apart-left xs
    by false = onto-apart-left x xs []
same-parts (x ∷ xs) (y ∷ ys) = by (same-parts xs ys) (x == 92) (y == 92) refl refl
  where
    by : same_path (parts_of xs) (parts_of ys) ≡ pointwise nat_eq xs ys → (s t : Bool) → (x == 92) ≡ s → (y == 92) ≡ t → same_path (cond s ([] ∷ parts_of xs) (onto_first x (parts_of xs))) (cond t ([] ∷ parts_of ys) (onto_first y (parts_of ys))) ≡ (nat_eq x y && pointwise nat_eq xs ys)
    by more true true p q = more ∙ ap (λ b. b && pointwise nat_eq xs ys) (equal x y p q)
    by more true false p q = onto-apart y (parts_of xs) ys ∙ ap (λ b. b && pointwise nat_eq xs ys) (apart x y p q)
    by more false true p q = onto-apart-left x xs (parts_of ys) ∙ ap (λ b. b && pointwise nat_eq xs ys) (apart-left x y p q)
    by more false false p q = onto-same x y xs ys ∙ ap (λ b. nat_eq x y && b) more

-- the key of a path
pub path-key : (text key : List ℕ) → 0 < length text → key ≡ drop 1 text → parts_of key ≡ path_of text
path-key [] key some e = absurd (omega arith)
path-key (b ∷ bs) key some e = ap parts_of e

pub size-append : (front rest : Path) → size_of (front ++ rest) ≡ size_of front + size_of rest
size-append [] rest = omega arith
size-append (name ∷ names) rest = let more = size-append names rest in omega arith

size-join : (target rest : List ℕ) → size_of (path_of target ++ path_of rest) ≡ length target + length rest
size-join target rest = rw (size-append (path_of target) (path_of rest), size-path target, size-path rest) refl

is-over : (n : ℕ) → 256 < n → nat_lt 256 n ≡ true
is-over n h = grind (arith, nat_tests)

is-within : (n : ℕ) → n ≤ 256 → nat_lt 256 n ≡ false
is-within n h = grind (arith, nat_tests)

pub join-long : (target rest : List ℕ) → 256 < length target + length rest → is_too_long (path_of target ++ path_of rest) ≡ true
join-long target rest h = rw (size-join target rest) (is-over _ h)

pub join-fits : (target rest : List ℕ) → length target + length rest ≤ 256 → is_too_long (path_of target ++ path_of rest) ≡ false
join-fits target rest h = rw (size-join target rest) (is-within _ h)

-- a part is empty, of a text whose first part begins here or has begun before
abbrev pub has_empty : Bool → List ℕ → Bool
has_empty begins [] = begins
has_empty begins (b ∷ bs) = cond (b == 92) (cond begins true (has_empty true bs)) (has_empty false bs)

-- what the parts behind the first have
abbrev later : Path → Bool
later [] = false
later (p ∷ ps) = list_any is_empty ps

onto-later : (b : ℕ) (bs : List ℕ) → list_any is_empty (onto_first b (parts_of bs)) ≡ later (parts_of bs)
onto-later b bs = let s = parts-some bs in rw (s.2, some-byte b s.0) refl

later-onto : (b : ℕ) (bs : List ℕ) → later (onto_first b (parts_of bs)) ≡ later (parts_of bs)
later-onto b bs = let s = parts-some bs in rw s.2 refl

both-empty : (bs : List ℕ) → (has_empty true bs ≡ list_any is_empty (parts_of bs)) × (has_empty false bs ≡ later (parts_of bs))
both-empty [] = (refl, refl)
both-empty (b ∷ bs) = by (both-empty bs) (b == 92)
  where
    by : ((has_empty true bs ≡ list_any is_empty (parts_of bs)) × (has_empty false bs ≡ later (parts_of bs))) → (t : Bool)
        → (cond t true (has_empty false bs) ≡ list_any is_empty (cond t ([] ∷ parts_of bs) (onto_first b (parts_of bs))))
        × (cond t (has_empty true bs) (has_empty false bs) ≡ later (cond t ([] ∷ parts_of bs) (onto_first b (parts_of bs))))
    by more true = (refl, more.0)
    by more false = (more.1 ∙ sym (onto-later b bs), more.1 ∙ sym (later-onto b bs))

pub empty_parts : (bs : List ℕ) → has_empty true bs ≡ list_any is_empty (parts_of bs)
empty_parts bs = (both-empty bs).0

length-within : (bs : List ℕ) → name_length bs ≤ length bs
length-within [] = omega arith
length-within (b ∷ bs) = by (length-within bs) (b == 92)
  where
    by : name_length bs ≤ length bs → (t : Bool) → cond t 0 (suc (name_length bs)) ≤ suc (length bs)
    by more true = omega arith
    by more false = omega arith

length-taken : (n : ℕ) (xs : List ℕ) → n ≤ length xs → length (take n xs) ≡ n
length-taken zero xs h = refl
length-taken (suc n) [] h = absurd (omega arith)
length-taken (suc n) (x ∷ xs) h = ap suc (length-taken n xs (omega arith))

-- A text after one more component was walked: how many bytes were walked, the front's path, and the rest of the text
-- as it was and as it is.
pub record Steps (text : List ℕ) (walked : ℕ) (front : Path) (rest name more : List ℕ) : Type 0 where
  pub whole : take walked text ++ more ≡ text
  pub within : walked + length more ≡ length text
  pub begins : begins_part more ≡ true
  pub either : (is_empty (take walked text) || begins_part more) ≡ true
  pub path : path_of (take walked text) ≡ front ++ name ∷ []
  pub parts : path_of rest ≡ name ∷ path_of more

taken : (text : List ℕ) (walked n : ℕ) (b : ℕ) (names : List ℕ) → take walked text ++ b ∷ names ≡ text → walked + suc (length names) ≡ length text → take (walked + (1 + n)) text ≡ take walked text ++ b ∷ take n names
taken text walked n b names whole within =
    let long : length (take walked text) ≡ walked = length-taken walked text (omega arith) in
    let e : take (length (take walked text) + suc n) (take walked text ++ b ∷ names) ≡ take walked text ++ take (suc n) (b ∷ names) = take-append-add (take walked text) (b ∷ names) (suc n) in
    let m : walked + (1 + n) ≡ length (take walked text) + suc n = omega arith in
    ap (λ k. take k text) m ∙ ap (take (length (take walked text) + suc n)) (sym whole) ∙ e

pub steps : (text : List ℕ) (walked n : ℕ) (rest names name more : List ℕ) → take walked text ++ rest ≡ text → walked + length rest ≡ length text → (is_empty (take walked text) || begins_part rest) ≡ true → 1 ≤ length rest → names ≡ drop 1 rest → n ≡ name_length names → name ≡ take n names → more ≡ drop n names → Steps text (walked + (1 + length name)) (path_of (take walked text)) rest name more
steps text walked n [] names name more whole within either some tail is front back = absurd (omega arith)
steps text walked n (b ∷ bs) names name more whole within either some tail is front back =
    along (front ∙ (λ i. take (count i) (tail i))) (back ∙ (λ i. drop (count i) (tail i)))
  where
    count : n ≡ name_length bs
    count = is ∙ ap name_length tail

    along : name ≡ take (name_length bs) bs → more ≡ drop (name_length bs) bs → Steps text (walked + (1 + length name)) (path_of (take walked text)) (b ∷ bs) name more
    along front back =
        let long : length name ≡ name_length bs = ap length front ∙ length-taken (name_length bs) bs (length-within bs) in
        let e : take (walked + (1 + length name)) text ≡ take walked text ++ b ∷ name = ap (λ k. take (walked + (1 + k)) text) long ∙ taken text walked (name_length bs) b bs whole within ∙ ap (λ k. take walked text ++ b ∷ k) (sym front) in
        let both : name ++ more ≡ bs = ap (λ k. k ++ more) front ∙ ap (λ k. take (name_length bs) bs ++ k) back ∙ take-append-drop (name_length bs) bs in
        let w : take (walked + (1 + length name)) text ++ more ≡ text = ap (λ k. k ++ more) e ∙ append_assoc (take walked text) (b ∷ name) more ∙ ap (λ k. take walked text ++ b ∷ k) both ∙ whole in
        let sizes : length name + length more ≡ length bs = sym (length-append name more) ∙ ap length both in
        let begun : begins_part more ≡ true = ap begins_part back ∙ rest-begins bs in
        record {
          whole = w;
          within = omega arith;
          begins = begun;
          either = or_right _ _ begun;
          path = ap path_of (e ∙ ap (λ k. take walked text ++ b ∷ k) front) ∙ front-more (take walked text) bs b either ∙ ap (λ k. path_of (take walked text) ++ k ∷ []) (sym front);
          parts = first-part bs ∙ (λ i. sym front i ∷ path_of (sym back i));
        }

or-some : (a b : Bool) → (a ≡ true) → (a || b) ≡ true
or-some true b h = refl
or-some false b h = absurd (cc)

-- what a text spells, by the tests that are made of it
module _ (names : List ℕ) where
  sound-not : (list_any is_empty (parts_of names) || is_too_long (parts_of names)) ≡ true → ◌≡◌ {A = Result Path NameFault} (sound (parts_of names)) (Err NameInvalid)
  sound-not h = ap (λ t. if t then Err NameInvalid else Ok (parts_of names)) h

  sound-is : (list_any is_empty (parts_of names) || is_too_long (parts_of names)) ≡ false → ◌≡◌ {A = Result Path NameFault} (sound (parts_of names)) (Ok (parts_of names))
  sound-is h = ap (λ t. if t then Err NameInvalid else Ok (parts_of names)) h

spelled-some : (text names : List ℕ) → text ≡ 92 ∷ names → 0 < length names → spelled text ≡ sound (parts_of names)
spelled-some text [] is some = absurd (omega arith)
spelled-some text (b ∷ bs) is some = ap spelled is

pub read-empty : (text names : List ℕ) → text ≡ 92 ∷ names → 0 < length names → list_any is_empty (parts_of names) ≡ true → ◌≡◌ {A = Result Path NameFault} (Err NameInvalid) (spelled text)
read-empty text names is some h = sym (spelled-some text names is some ∙ sound-not names (or-some _ _ h))

size-text : (text names : List ℕ) → text ≡ 92 ∷ names → size_of (parts_of names) ≡ length text
size-text text names is = size-parts names ∙ ap length (sym is)

over-parts : (text names : List ℕ) → text ≡ 92 ∷ names → 256 < length text → is_too_long (parts_of names) ≡ true
over-parts text names is h = rw (size-text text names is) (is-over _ h)

fits-parts : (text names : List ℕ) → text ≡ 92 ∷ names → length text ≤ 256 → is_too_long (parts_of names) ≡ false
fits-parts text names is h = rw (size-text text names is) (is-within _ h)

pub read-long : (text names : List ℕ) → text ≡ 92 ∷ names → 0 < length names → 256 < length text → ◌≡◌ {A = Result Path NameFault} (Err NameInvalid) (spelled text)
read-long text names is some h = sym (spelled-some text names is some ∙ sound-not names (or_right _ _ (over-parts text names is h)))

pub read-fits : (text names : List ℕ) → text ≡ 92 ∷ names → 0 < length names → list_any is_empty (parts_of names) ≡ false → length text ≤ 256 → ◌≡◌ {A = Result Path NameFault} (Ok (path_of text)) (spelled text)
read-fits text names is some h fits = sym (spelled-some text names is some ∙ sound-is names (rw h (fits-parts text names is fits)) ∙ ap (λ t. Ok (path_of t)) (sym is))
