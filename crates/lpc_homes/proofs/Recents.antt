-- The counts that were changed last, as others are written.
use Rattle.std.proofs.Common.{◌≡◌, ℕ, List, [], ◌∷◌, length, true, false, refl, sym, ap, ◌∙◌}
use Rattle.std.specs.Prelude.{Bool, if◌then◌else◌}
use Rattle.lpc_homes.specs.Counts.{AreRecent, IsWritten, count_in, spot_of}
use Rattle.lpc_homes.specs.Parts.{is_object}
use Rattle.lpc_homes.specs.declared.object.Object.{Object}
use Rattle.lpc_homes.proofs.Keyed.{object_is, object_self}
use Rattle.lpc_numbers.specs.Recent.{Notes, Opens}
use Rattle.lpc_numbers.proofs.Recents.{right-noted, right-opened}

abbrev same : Object → Object → Bool
same one other = is_object other one

module _ (old new recent recent' : List (Object × ℕ)) (right : AreRecent old recent) where
  -- an object has the count that stands at its spot
  pub recent-written : (object : Object) (n : ℕ) → IsWritten object n old new → Notes (spot_of object) (object, n) recent recent' → AreRecent new recent'
  recent-written object n written notes =
      right-noted spot_of same (λ a b is. sym (object_is b a is)) (count_in old) (count_in new) recent recent' object n
      (sym (written object ∙ ap (λ (b : Bool). if b then n else count_in old object) (object_self object))) right notes
      (λ o off. written o ∙ ap (λ (b : Bool). if b then n else count_in old o) off)

-- before any object has a count
pub recent-opened : (entries recent recent' : List (Object × ℕ)) (object : Object) → length entries ≡ 0 → AreRecent entries recent → Opens (object, 0) recent recent' → AreRecent entries recent'
recent-opened [] recent recent' object none right opens = right-opened spot_of same (count_in []) recent recent' object 0 (λ o. refl) right opens
recent-opened (e ∷ entries) recent recent' object none right opens = absurd (cc)
