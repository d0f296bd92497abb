-- How many sections and tokens are held, as it is kept beside the counts of handles and of views.
use Rattle.std.specs.Prelude.{ℕ, ◌≡◌, ◌+◌, ◌-◌, ◌||◌, Bool, false, true, nat_lt, Option, Some, IfSome, if◌then◌else◌, option_map}
use Rattle.lpc_homes.specs.Counts.{Counted, count_in}
use Rattle.lpc_homes.specs.Held.{AreSoMany}
use Rattle.lpc_homes.specs.declared.held.Held.{Held}
use Rattle.lpc_homes.specs.declared.object.Object.{Object}
use Rattle.lpc_homes.specs.declared.object.Object.TheVariants as object

-- what was counted of handles, and what of views
pub record AllCounted : Type 0 where
  pub handles : Counted
  pub views : Counted

-- the kinds of which it is kept how many are held
abbrev pub is_section : Object → Bool
is_section (object.Port key) = false
is_section (object.Process birth) = false
is_section (object.Thread birth) = false
is_section (object.Section key) = true
is_section (object.Token key) = false

abbrev pub is_token : Object → Bool
is_token (object.Port key) = false
is_token (object.Process birth) = false
is_token (object.Thread birth) = false
is_token (object.Section key) = false
is_token (object.Token key) = true

abbrev pub is_numbered : Object → Bool
is_numbered o = is_section o || is_token o

-- handles and views of an object together, and whether there are any
abbrev pub total : Counted → Counted → Object → ℕ
total handles views o = count_in handles.entries o + count_in views.entries o

abbrev pub is_counted : Counted → Counted → Object → Bool
is_counted handles views o = nat_lt 0 (total handles views o)

-- a number that is known is one more, or one less, where one came, or went, and else the same
abbrev pub Grows : Bool → Option ℕ → Option ℕ → Type 0
Grows came old new = IfSome new (λ n. option_map (λ m. m + (if came then 1 else 0)) old ≡ Some n)

abbrev pub Shrinks : Bool → Option ℕ → Option ℕ → Type 0
Shrinks went old new = IfSome new (λ n. option_map (λ m. m - (if went then 1 else 0)) old ≡ Some n)

-- where each handle and each view was counted, a number that is known is that of the sections, or tokens, for which some
-- count
pub record AreNumbered (handles views : Counted) (held : Held) : Type 0 where
  pub sections : handles.whole ≡ true → views.whole ≡ true → IfSome held.sections (AreSoMany (λ key. is_counted handles views (object.Section key)))
  pub tokens : handles.whole ≡ true → views.whole ≡ true → IfSome held.tokens (AreSoMany (λ key. is_counted handles views (object.Token key)))
