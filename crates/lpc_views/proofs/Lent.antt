-- Bytes are lent, or none are; and what follows a statement.
use Rattle.std.proofs.Common.{◌≡◌, Bool, true, false, ℕ, List, refl, sym, subst, IsSome}
use Rattle.std.specs.Prelude.{Option, Some, None, if◌then◌else◌}
use lib.Dec.{T}
use mathlib.Core.Bool.{not}
use mir.Syntax.{Body, skip, seq, assign, block, loop, cond, switch, exit, return, unreachable, lend_static, call, call_v}
use Rattle.lpc_base.specs.Rows.{passes}
use Rattle.lpc_views.specs.declared.view.View.{View}

-- what follows the first statement
abbrev pub tail : Body → Body
tail (seq a b) = b
tail skip = skip
tail (assign p r) = skip
tail (block a) = skip
tail (loop a) = skip
tail (cond c a b) = skip
tail (switch c x) = skip
tail (exit k) = skip
tail return = skip
tail unreachable = skip
tail (lend_static p τ c) = skip
tail (call f xs d) = skip
tail (call_v c ς xs d) = skip

pub view_there : {P : Type 0} (o : Option (View P)) (b : Bool) → b ≡ passes o (λ view. view.writable) → T b → IsSome o
view_there None b e t = absurd (subst T e t)
view_there (Some view) b e t = refl

pub bytes_there : (now : List ℕ) (o : Option (List ℕ)) (b writable : Bool) → b ≡ writable → T b → o ≡ Some now → Some now ≡ (if writable then o else None)
bytes_there now o b true e t is = sym is
bytes_there now o b false e t is = absurd (subst T e t)

pub no_bytes : (o : Option (List ℕ)) (b writable : Bool) → b ≡ writable → T (not b) → None ≡ (if writable then o else None)
no_bytes o b true e t = absurd (subst (λ (x : Bool). T (not x)) e t)
no_bytes o b false e t = refl
