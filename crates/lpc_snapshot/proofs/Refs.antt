-- What rows name all stands, and so does what the row at an index names.
use Rattle.std.proofs.Common.{◌≡◌, ℕ, zero, suc, ◌<◌, List, [], ◌∷◌, Bool, true, arith, get_or, length, map}
use Rattle.lpc_base.proofs.RowWords.{every-back, every-front}
use Rattle.lpc_base.specs.Rows.{each, every}

-- what passes for every row passes for the one at an index
pub map_at : {X Y : Type 0} (f : X → Y) (p : Y → Bool) (xs : List X) (k : ℕ) (d : X) → k < length xs → every p (map f xs) ≡ true → p (f (get_or xs k d)) ≡ true
map_at f p [] k d below all = absurd (omega (arith, below))
map_at f p (x ∷ xs) zero d below all = grind arith
map_at f p (x ∷ xs) (suc k) d below all = map_at f p xs k d (omega (arith, below)) (grind (arith, all))

pub each_at : {X Y : Type 0} (refs : X → List Y) (p : Y → Bool) (xs : List X) (k : ℕ) (d : X) → k < length xs → every p (each refs xs) ≡ true → every p (refs (get_or xs k d)) ≡ true
each_at refs p [] k d below all = absurd (omega (arith, below))
each_at refs p (x ∷ xs) zero d below all = every-front p (refs x) (each refs xs) all
each_at refs p (x ∷ xs) (suc k) d below all = each_at refs p xs k d (omega (arith, below)) (every-back p (refs x) (each refs xs) all)
