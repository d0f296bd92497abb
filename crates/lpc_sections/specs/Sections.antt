-- What contracts see of a section, and ranges of its bytes.
use Rattle.std.specs.Prelude.{ℕ, ◌≡◌, ◌≤◌, ◌+◌, ◌%◌, Bool, leb, List, ◌++◌, take, drop, length}
use Rattle.lpc_base.specs.declared.birth.Birth.{Birth}
use Rattle.lpc_base.specs.declared.limits.TheConstants.{PAGE_SIZE, SECTION_LIMIT}

-- a section: its bytes, whether views may write them, its name, and how many handles, and how many rows of all kinds,
-- name it
pub record SectionRow : Type 0 where
  pub bytes : List ℕ
  pub writable : Bool
  pub birth : Birth
  pub handles : ℕ
  pub pointers : ℕ

-- a section is whole pages, from one page up to the limit
pub record IsSectionSize (size : ℕ) : Type 0 where
  pub pages : size % PAGE_SIZE ≡ 0
  pub least : PAGE_SIZE ≤ size
  pub most : size ≤ SECTION_LIMIT

-- a range lies inside the section
abbrev pub is_within : SectionRow → ℕ → ℕ → Bool
is_within s at len = leb (at + len) (length s.bytes)

-- so many bytes, from an offset on
abbrev pub part : SectionRow → ℕ → ℕ → List ℕ
part s at len = take len (drop at s.bytes)

-- the bytes with others in place of as many from an offset on; what would pass the end is left out
abbrev pub overwritten : List ℕ → ℕ → List ℕ → List ℕ
overwritten bytes at others = take (length bytes) (take at bytes ++ others ++ drop (at + length others) bytes)

-- the section with those bytes
abbrev pub with_part : SectionRow → ℕ → List ℕ → SectionRow
with_part s at others = record s { bytes = overwritten s.bytes at others }
