-- How many handles name each object, and how many views count for it, as it is kept.
use Rattle.std.specs.Prelude.{ℕ, ◌≡◌, ◌+◌, ◌%◌, Bool, false, true, not, nat_lt, List, length, map, if◌then◌else◌, unwrap_or}
use Rattle.std.specs.Map.{lookup}
use Rattle.lpc_base.specs.Rows.{count, every}
use Rattle.lpc_base.specs.declared.limits.TheConstants.{HANDLE_LIMIT, VIEW_LIMIT}
use Rattle.lpc_homes.specs.Parts.{all_rows, all_views, goes_with, is_object, names_it}
use Rattle.lpc_homes.specs.declared.counts.TheConstants.{BIRTH_SPOTS, KEY_SPOTS}
use Rattle.lpc_homes.specs.declared.object.Object.{Object}
use Rattle.lpc_homes.specs.declared.object.Object.TheVariants as object
use Rattle.lpc_homes.specs.declared.parts.Part.{Part}
use Rattle.lpc_numbers.specs.Recent.{AreRight}
use Rattle.lpc_slots.specs.declared.Key.{Key}
use Rattle.lpc_views.specs.Views.{shows}
use Rattle.lpc_views.specs.declared.view.View.{View}

-- the objects that are named with their counts, and whether each handle, or each view, was counted
pub record Counted : Type 0 where
  pub entries : List (Object × ℕ)
  pub whole : Bool

-- the count of an object, 0 of one that has none
abbrev pub count_in : List (Object × ℕ) → Object → ℕ
count_in entries o = unwrap_or (lookup (λ key. is_object key o) entries) 0

-- an object has this count then, and each other has what it had
abbrev pub IsWritten : Object → ℕ → List (Object × ℕ) → List (Object × ℕ) → Type 0
IsWritten object n old new = (o : Object) → count_in new o ≡ (if is_object o object then n else count_in old o)

-- where an object stands among those whose counts were changed last, and that what stands there is right
abbrev pub spot_of : Object → ℕ
spot_of (object.Port key) = key.index % KEY_SPOTS
spot_of (object.Process birth) = KEY_SPOTS + birth.ordinal % BIRTH_SPOTS
spot_of (object.Thread birth) = KEY_SPOTS + BIRTH_SPOTS + birth.ordinal % BIRTH_SPOTS
spot_of (object.Section key) = key.index % KEY_SPOTS
spot_of (object.Token key) = key.index % KEY_SPOTS

abbrev pub AreRecent : List (Object × ℕ) → List (Object × ℕ) → Type 0
AreRecent entries recent = AreRight spot_of (λ one other. is_object other one) (count_in entries) recent

-- what one handle adds to the count of an object
abbrev pub one_for : Object → Object → ℕ
one_for o object = if is_object o object then 1 else 0

-- one handle more names the object, and one less, as long as each is counted
pub record Gains (object : Object) (old new : Counted) : Type 0 where
  pub whole : old.whole ≡ true
  pub counts : (o : Object) → count_in new.entries o ≡ count_in old.entries o + one_for o object

pub record Loses (object : Object) (old new : Counted) : Type 0 where
  pub whole : old.whole ≡ true
  pub counts : (o : Object) → count_in new.entries o + one_for o object ≡ count_in old.entries o

-- a view counts for the section that it shows, and for the port that it goes with
abbrev pub counts_for : Object → View Key → Bool
counts_for (object.Port key) view = goes_with key view
counts_for (object.Process birth) view = false
counts_for (object.Thread birth) view = false
counts_for (object.Section key) view = shows key view
counts_for (object.Token key) view = false

-- some views more count, and some less, as long as each is counted
pub record GainsViews (views : List (View Key)) (old new : Counted) : Type 0 where
  pub whole : old.whole ≡ true
  pub counts : (o : Object) → count_in new.entries o ≡ count_in old.entries o + count (counts_for o) views

pub record LosesViews (views : List (View Key)) (old new : Counted) : Type 0 where
  pub whole : old.whole ≡ true
  pub counts : (o : Object) → count_in new.entries o + count (counts_for o) views ≡ count_in old.entries o

-- a part has no more handles than a process may have
abbrev pub is_within : Part → Bool
is_within part = not (nat_lt HANDLE_LIMIT (length part.handles.rows))

-- Each part stands at the place of its number, and where each handle was counted, an object's count is that of its
-- handles.
pub record AreCounted (parts : List Part) (places : List ℕ) (counts : Counted) : Type 0 where
  pub placed : places ≡ map (λ part. part.process) parts
  pub within : every is_within parts ≡ true
  pub counted : counts.whole ≡ true → (o : Object) → count_in counts.entries o ≡ count (names_it o) (all_rows parts)

-- a part has no more views than a process may have
abbrev pub sees_within : Part → Bool
sees_within part = not (nat_lt VIEW_LIMIT (length part.views.views))

-- where each view was counted, an object's count is that of the views that count for it
pub record AreViewsCounted (parts : List Part) (counts : Counted) : Type 0 where
  pub within : every sees_within parts ≡ true
  pub counted : counts.whole ≡ true → (o : Object) → count_in counts.entries o ≡ count (counts_for o) (all_views parts)

-- handles and views are counted so
pub record AreAllCounted (parts : List Part) (places : List ℕ) (handles views : Counted) : Type 0 where
  pub of_handles : AreCounted parts places handles
  pub of_views : AreViewsCounted parts views
