-- Bytes are lent, or none are.
use Rattle.std.proofs.Common.{◌≡◌, Bool, true, false, List, ℕ, refl, sym, subst}
use Rattle.std.specs.Prelude.{Option, Some, None, if◌then◌else◌}
use lib.Dec.{T}
use mathlib.Core.Bool.{not}

pub may_there : (b may : Bool) → b ≡ may → T b → may ≡ true
may_there b true e t = refl
may_there b false e t = absurd (subst T e t)

pub bytes_there : (now : List ℕ) (o : Option (List ℕ)) (b may : Bool) → b ≡ may → T b → o ≡ Some now → Some now ≡ (if may then o else None)
bytes_there now o b true e t is = sym is
bytes_there now o b false e t is = absurd (subst T e t)

pub no_bytes : (o : Option (List ℕ)) (b may : Bool) → b ≡ may → T (not b) → None ≡ (if may then o else None)
no_bytes o b true e t = absurd (subst (λ (x : Bool). T (not x)) e t)
no_bytes o b false e t = refl
