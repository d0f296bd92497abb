-- Where small numbers stand, by the number itself.
use Rattle.std.specs.Prelude.{ℕ, ◌≡◌, ◌<◌, ◌+◌, ◌==◌, ◌⊎◌, Bool, true, false, List, ◌++◌, length, nat_eq, nat_lt, ◌%◌, Option, None, Some, slice_get, replicate}
use Rattle.std.specs.List.{position}
use Rattle.lpc_base.specs.Rows.{every}
use Rattle.lpc_numbers.specs.Numbered.{is_at}
use Rattle.lpc_numbers.specs.Recent.{AreRight}
use Rattle.lpc_numbers.specs.declared.recent.TheConstants.{SPOTS}

-- under each number one more than its place, and 0 where it has none; and that no number was left out
pub record Near : Type 0 where
  pub ranks : List ℕ
  pub whole : Bool

-- one more than a place; 0 for none
abbrev pub rank_of : Option ℕ → ℕ
rank_of None = 0
rank_of (Some place) = place + 1

-- the numbers reach as far as they did; or further, and then none was left out, and what is new has no place
abbrev pub Widens : Near → Near → Type 0
Widens old new = (new ≡ old) ⊎ ((old.whole ≡ true) × ((more : ℕ) × (new ≡ record old { ranks = old.ranks ++ replicate more 0 })))

-- A number that had no place was noted, or left out; what the others say stays.
pub record Notes (number place : ℕ) (old new : Near) : Type 0 where
  pub noted : number < length new.ranks → slice_get new.ranks number ≡ Some (place + 1)
  pub others : (n : ℕ) → n < length new.ranks → (n == number) ≡ false → (n < length old.ranks) × (slice_get new.ranks n ≡ slice_get old.ranks n)
  pub whole : new.whole ≡ true → (old.whole ≡ true) × (length new.ranks ≡ length old.ranks) × (number < length old.ranks)

-- Each number that is small tells its place among these, and where none was left out all of them are small.
pub record IsNear {V : Type 0} (entries : List (ℕ × V)) (near : Near) : Type 0 where
  pub tells : (n : ℕ) → n < length near.ranks → slice_get near.ranks n ≡ Some (rank_of (position (is_at n) entries))
  pub all : near.whole ≡ true → every (λ e. nat_lt e.0 (length near.ranks)) entries ≡ true

-- where a number stands among those that came last, and that what stands there is one more than its place, or 0 where
-- it has none
abbrev pub far_spot : ℕ → ℕ
far_spot number = number % SPOTS

abbrev pub AreFar : {V : Type 0} → List (ℕ × V) → List (ℕ × ℕ) → Type 0
AreFar entries far = AreRight far_spot nat_eq (λ n. rank_of (position (is_at n) entries)) far
