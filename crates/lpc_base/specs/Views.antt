-- Which part of a section a view shows, and at which addresses it lies.
use Rattle.std.specs.Prelude.{ℕ, zero, suc, ◌+◌, ◌-◌, ◌*◌, ◌/◌, ◌<◌, ◌≡◌, ◌==◌, ◌&&◌, ◌||◌, Bool, true, false, not, nat_lt, leb, List, [], ◌∷◌, Option, if◌then◌else◌, IfSome, IfNone}
use Rattle.lpc_base.specs.Rows.{first, has}
use Rattle.lpc_base.specs.declared.limits.TheConstants.{ALLOCATION_GRANULARITY, LOWEST_USER_ADDRESS, PAGE_SIZE, USER_ADDRESS_END}

-- so many bytes, rounded up to whole pages
abbrev pub whole_pages : ℕ → ℕ
whole_pages size = (size + (PAGE_SIZE - 1)) / PAGE_SIZE * PAGE_SIZE

-- a view of a section of so many bytes would pass its end, or begin there
abbrev pub passes_section : ℕ → ℕ → ℕ → Bool
passes_section bytes offset size = nat_lt bytes (offset + size) || ((size == 0) && leb bytes offset)

-- the size of a view: size 0 asks for all bytes from the offset on, and another size is rounded up to whole pages
abbrev pub view_size : ℕ → ℕ → ℕ → ℕ
view_size bytes offset size = if size == 0 then bytes - offset else whole_pages size

-- two ranges of addresses, each told by its base and its size, have an address in common
abbrev pub meets : ℕ → ℕ → ℕ × ℕ → Bool
meets base size other = nat_lt base (other.0 + other.1) && nat_lt other.0 (base + size)

-- a view of this size may lie at the base: it meets no other range, and ends at or below the end of user addresses
abbrev pub is_free_base : List (ℕ × ℕ) → ℕ → ℕ → Bool
is_free_base ranges size base = not (has (meets base size) ranges) && leb (base + size) USER_ADDRESS_END

-- so many bases, from one on
unfoldable pub bases_from : ℕ → ℕ → List ℕ
bases_from zero base = []
bases_from (suc n) base = base ∷ bases_from n (base + ALLOCATION_GRANULARITY)

-- the bases that a view may have: the multiples of 65536 from 00010000 that lie below the end of user addresses
abbrev pub bases : List ℕ
bases = bases_from ((USER_ADDRESS_END - LOWEST_USER_ADDRESS) / ALLOCATION_GRANULARITY) LOWEST_USER_ADDRESS

-- the base of a new view: the least that is free; none where none is
abbrev pub least_base : List (ℕ × ℕ) → ℕ → Option ℕ
least_base ranges size = first (is_free_base ranges size) bases

-- the base is a multiple of 65536 from 00010000 that is free, and no lesser one is
pub record IsLeastBase (ranges : List (ℕ × ℕ)) (size base : ℕ) : Type 0 where
  pub free : is_free_base ranges size base ≡ true
  pub place : (k : ℕ) × (base ≡ 65536 * (k + 1))
  pub least : (k : ℕ) → 65536 * (k + 1) < base → is_free_base ranges size (65536 * (k + 1)) ≡ false

-- no multiple of 65536 from 00010000 is free
abbrev pub HasNoBase : List (ℕ × ℕ) → ℕ → Type 0
HasNoBase ranges size = (k : ℕ) → is_free_base ranges size (65536 * (k + 1)) ≡ false

-- whatever ranges are taken, a new view lies at the least base that is free, and there is none only where none is
pub record NewBasesAreLeast : Type 0 where
  pub least : (ranges : List (ℕ × ℕ)) (size : ℕ) → IfSome (least_base ranges size) (λ base. IsLeastBase ranges size base)
  pub none : (ranges : List (ℕ × ℕ)) (size : ℕ) → 0 < size → IfNone (least_base ranges size) (HasNoBase ranges size)
