-- The counts of objects by look-ups: what a write, and what a removal, makes of them.
use Rattle.std.proofs.Common.{◌≡◌, ◌+◌, ◌<◌, ℕ, Bool, true, false, cond, List, [], ◌∷◌, Option, None, Some, is_some, refl, sym, ap, ◌∙◌, arith}
use Rattle.std.specs.Prelude.{Err, Ok, OnErr, OnOk, Result, if◌then◌else◌, is_ok, unwrap_or}
use Rattle.std.specs.Map.{lookup}
use Rattle.lpc_base.proofs.Births.{birth-same, birth-self}
use Rattle.lpc_homes.specs.Counts.{count_in, one_for}
use Rattle.lpc_homes.specs.Parts.{is_object}
use Rattle.lpc_homes.specs.declared.object.Object.{Object}
use Rattle.lpc_homes.specs.declared.object.Object.TheVariants as kinds
use Rattle.lpc_homes.specs.contracts.object.ObjectPartialEq.TheImpl as the_impl
use Rattle.lpc_homes.proofs.Named.{is_same}
use Rattle.lpc_slots.proofs.Keys.{key_is}

-- an object is itself, and itself alone
pub object_self : (o : Object) → is_object o o ≡ true
object_self (kinds.Port a) = grind arith
object_self (kinds.Process a) = birth-self a
object_self (kinds.Thread a) = birth-self a
object_self (kinds.Section a) = grind arith
object_self (kinds.Token a) = grind arith

pub object_is : (one other : Object) → is_object one other ≡ true → one ≡ other
object_is (kinds.Port a) (kinds.Port b) same = ap kinds.Port (sym (key_is b a same))
object_is (kinds.Port a) (kinds.Process b) same = absurd (cc)
object_is (kinds.Port a) (kinds.Thread b) same = absurd (cc)
object_is (kinds.Port a) (kinds.Section b) same = absurd (cc)
object_is (kinds.Port a) (kinds.Token b) same = absurd (cc)
object_is (kinds.Process a) (kinds.Port b) same = absurd (cc)
object_is (kinds.Process a) (kinds.Process b) same = ap kinds.Process (sym (birth-same b a same))
object_is (kinds.Process a) (kinds.Thread b) same = absurd (cc)
object_is (kinds.Process a) (kinds.Section b) same = absurd (cc)
object_is (kinds.Process a) (kinds.Token b) same = absurd (cc)
object_is (kinds.Thread a) (kinds.Port b) same = absurd (cc)
object_is (kinds.Thread a) (kinds.Process b) same = absurd (cc)
object_is (kinds.Thread a) (kinds.Thread b) same = ap kinds.Thread (sym (birth-same b a same))
object_is (kinds.Thread a) (kinds.Section b) same = absurd (cc)
object_is (kinds.Thread a) (kinds.Token b) same = absurd (cc)
object_is (kinds.Section a) (kinds.Port b) same = absurd (cc)
object_is (kinds.Section a) (kinds.Process b) same = absurd (cc)
object_is (kinds.Section a) (kinds.Thread b) same = absurd (cc)
object_is (kinds.Section a) (kinds.Section b) same = ap kinds.Section (sym (key_is b a same))
object_is (kinds.Section a) (kinds.Token b) same = absurd (cc)
object_is (kinds.Token a) (kinds.Port b) same = absurd (cc)
object_is (kinds.Token a) (kinds.Process b) same = absurd (cc)
object_is (kinds.Token a) (kinds.Thread b) same = absurd (cc)
object_is (kinds.Token a) (kinds.Section b) same = absurd (cc)
object_is (kinds.Token a) (kinds.Token b) same = ap kinds.Token (sym (key_is b a same))

-- what holds where a call succeeds, once it did
pub from_ok : {A B P : Type 0} (r : Result A B) → is_ok r ≡ true → OnOk r P → P
from_ok (Ok a) ok p = p
from_ok (Err e) ok p = absurd (cc)

-- what a look-up finds by either comparison
lookup_same : (o : Object) (es : List (Object × ℕ)) → lookup (the_impl.eq-value.it o) es ≡ lookup (λ key. is_object key o) es
lookup_same o [] = refl
lookup_same o (e ∷ es) = grind (arith, is_same e.0 o, lookup_same o es)

-- an object that has a count is found
pub has_count : (o : Object) (es : List (Object × ℕ)) → 0 < count_in es o → is_some (lookup (the_impl.eq-value.it o) es) ≡ true
has_count o es has = ap is_some (lookup_same o es) ∙ by (lookup (λ key. is_object key o) es) has
  where
    by : (r : Option ℕ) → 0 < unwrap_or r 0 → is_some r ≡ true
    by None has = absurd (omega (arith, has))
    by (Some n) has = refl

-- a call that fails only where none is found succeeds where one is
module _ (old new : List (Object × ℕ)) (object : Object) where
  -- the counts after a write or a removal
  pub updated : (w : Option ℕ) → ((o : Object) → lookup (the_impl.eq-value.it o) new ≡ cond (the_impl.eq-value.it object o) w (lookup (the_impl.eq-value.it o) old))
      → (o : Object) → count_in new o ≡ (if is_object o object then unwrap_or w 0 else count_in old o)
  updated w updates o =
      ap (λ r. unwrap_or r 0) (sym (lookup_same o new) ∙ updates o ∙ ap (λ b. cond b w (lookup (the_impl.eq-value.it o) old)) (is_same o object) ∙ ap (λ r. cond (is_object o object) w r) (lookup_same o old))
      ∙ by (is_object o object)
    where
      by : (b : Bool) → unwrap_or (cond b w (lookup (λ key. is_object key o) old)) 0 ≡ (if b then unwrap_or w 0 else count_in old o)
      by true = refl
      by false = refl

  module _ (n count : ℕ) (is : n ≡ count_in old object) (after : (o : Object) → count_in new o ≡ (if is_object o object then count else count_in old o)) where
    -- one handle more
    pub one_more : count ≡ n + 1 → (o : Object) → count_in new o ≡ count_in old o + one_for o object
    one_more more o = after o ∙ by (is_object o object) refl
      where
        by : (b : Bool) → is_object o object ≡ b → (if b then count else count_in old o) ≡ count_in old o + (if b then 1 else 0)
        by true same = let e : count_in old o ≡ count_in old object = ap (count_in old) (object_is o object same) in omega (arith, is, more, e)
        by false off = omega arith

    -- one less
    pub one_less : count + 1 ≡ n → (o : Object) → count_in new o + one_for o object ≡ count_in old o
    one_less less o = ap (λ k. k + one_for o object) (after o) ∙ by (is_object o object) refl
      where
        by : (b : Bool) → is_object o object ≡ b → (if b then count else count_in old o) + (if b then 1 else 0) ≡ count_in old o
        by true same = let e : count_in old o ≡ count_in old object = ap (count_in old) (object_is o object same) in omega (arith, is, less, e)
        by false off = omega arith
