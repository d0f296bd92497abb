-- Tests of a text's bytes, a part at a time.
use Rattle.std.proofs.Common.{◌≡◌, ℕ, zero, suc, ◌+◌, ◌≤◌, Bool, true, false, List, [], ◌∷◌, length, take, drop, length-drop, refl, arith}
use Rattle.std.specs.Prelude.{◌&&◌}
use Rattle.std.specs.List.{list_all}
use Rattle.std.proofs.lemmas.List.{take_all}
use Rattle.std.proofs.lemmas.List.Folds.{list_all-append}
use Rattle.std.proofs.Math.Seq.{take-add}

and_parted : (a b c : Bool) → ((a && b) && c) ≡ (a && (b && c))
and_parted true b c = refl
and_parted false b c = refl

-- a front that is tested once more
all_front : (p : ℕ → Bool) (xs : List ℕ) (n : ℕ) → (list_all p (take n xs) && list_all p xs) ≡ list_all p xs
all_front p xs zero = refl
all_front p [] (suc n) = refl
all_front p (x ∷ xs) (suc n) = front (p x) (list_all p (take n xs)) (list_all p xs) (all_front p xs n)
  where
    front : (b f all : Bool) → (f && all) ≡ all → ((b && f) && (b && all)) ≡ (b && all)
    front true f all same = same
    front false f all same = refl

-- a front and a rest that meet or overlap are the whole
pub all_overlap : (p : ℕ → Bool) (xs : List ℕ) (m n : ℕ) → m ≤ n → (list_all p (take n xs) && list_all p (drop m xs)) ≡ list_all p xs
all_overlap p xs zero n meet = all_front p xs n
all_overlap p xs (suc m) zero meet = absurd (omega arith)
all_overlap p [] (suc m) (suc n) meet = refl
all_overlap p (x ∷ xs) (suc m) (suc n) meet = rw (and_parted, all_overlap p xs m n (omega arith)) refl

-- a front, and the part behind it
pub all_parted : (p : ℕ → Bool) (xs : List ℕ) (n count more : ℕ) (found here : Bool) → found ≡ list_all p (take n xs) → here ≡ list_all p (take count (drop n xs)) → count ≡ more → (found && here) ≡ list_all p (take (n + more) xs)
all_parted p xs n count more found here front part same = rw (front, part, same, take-add, list_all-append) refl

-- a front, and the last part
pub all_ended : (p : ℕ → Bool) (xs : List ℕ) (m n count : ℕ) (found here : Bool) → found ≡ list_all p (take n xs) → here ≡ list_all p (take count (drop m xs)) → length xs ≤ m + count → m ≤ n → (found && here) ≡ list_all p xs
all_ended p xs m n count found here front part last meet =
    let rest : take count (drop m xs) ≡ drop m xs = take_all _ _ (rw length-drop (omega arith)) in
    rw (front, part, rest) (all_overlap p xs m n meet)
