-- What a map's look-ups find, in the words of its entries.
use Rattle.std.proofs.Common.{◌≡◌, ◌+◌, ℕ, List, [], ◌∷◌, Bool, false, map, nat_eq, None, is_some, refl, sym, ◌∙◌, arith}
use Rattle.std.specs.List.{position, position_from}
use Rattle.std.specs.Map.{keys_of, lookup}
use Rattle.std.proofs.lemmas.Iterator.Adapters.{position_from-zero}
use Rattle.lpc_base.specs.Rows.{has}
use Rattle.lpc_base.proofs.Bools.{number-turned}
use Rattle.lpc_numbers.specs.Numbered.{is_at, value_at}

-- where the first that passes stands, among rows that are shown by a map
module _ {X Y : Type 0} (g : X → Y) (s : Y → Bool) (t : X → Bool) (same : (x : X) → s (g x) ≡ t x) where
  from-map : (low : ℕ) (xs : List X) → position_from s low (map g xs) ≡ position_from t low xs
  from-map low [] = refl
  from-map low (x ∷ xs) = grind (arith, same x, from-map (low + 1) xs)

  pub position-map : (xs : List X) → position s (map g xs) ≡ position t xs
  position-map xs = position_from-zero s (map g xs) ∙ from-map 0 xs ∙ sym (position_from-zero t xs)

module _ {V : Type 0} (n : ℕ) where
  pub value-found : (es : List (ℕ × V)) → lookup (nat_eq n) es ≡ value_at es n
  value-found [] = refl
  value-found (e ∷ es) = grind (arith, number-turned n e.0, value-found es)

  pub absent : (es : List (ℕ × V)) → has (is_at n) es ≡ false → lookup (nat_eq n) es ≡ None
  absent [] none = refl
  absent (e ∷ es) none = grind (arith, number-turned n e.0, absent es)

  pub there : (es : List (ℕ × V)) → is_some (lookup (nat_eq n) es) ≡ has (is_at n) es
  there [] = refl
  there (e ∷ es) = grind (arith, number-turned n e.0, there es)

  pub placed : (es : List (ℕ × V)) → position (nat_eq n) (keys_of es) ≡ position (is_at n) es
  placed es = position-map (λ (e : ℕ × V). e.0) (nat_eq n) (is_at n) (λ e. number-turned n e.0) es
