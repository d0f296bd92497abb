-- The bytes that views show, in the sections under their keys.
use Rattle.std.specs.Prelude.{ℕ, ◌+◌, ◌≡◌, ◌≤◌, Bool, true, leb, List, [], length, Option, Some, None, Result, Ok, Err, IsSomeAnd, if◌then◌else◌, option_map}
use Rattle.std.specs.Borrow.{MutBor}
use Rattle.std.specs.Option.{option_map_or}
use Rattle.lpc_base.specs.Rows.{every, passes}
use Rattle.lpc_sections.specs.Sections.{SectionRow, part, with_part}
use Rattle.lpc_slots.specs.Table.{Table, at as row_at, with_value}
use Rattle.lpc_slots.specs.declared.Key.{Key}
use Rattle.lpc_views.specs.Views.{is_writable_at, offset_of, view_of}
use Rattle.lpc_views.specs.declared.view.Fault.{Fault}
use Rattle.lpc_views.specs.declared.view.View.{View}

-- a section stands under the key, and has so many bytes
abbrev pub HoldsPart : Table SectionRow → Key → ℕ → Type 0
HoldsPart sections key end = IsSomeAnd (row_at sections key) (λ s. end ≤ length s.bytes)

-- the same as a test
abbrev pub has_part : Table SectionRow → Key → ℕ → Bool
has_part sections key end = passes (row_at sections key) (λ s. leb end (length s.bytes))

-- the same sections stand, each with as many bytes
abbrev pub KeepsSizes : Table SectionRow → Table SectionRow → Type 0
KeepsSizes old new = (key : Key) (end : ℕ) → has_part new key end ≡ has_part old key end

-- so many bytes of a section, from an offset on
abbrev pub part_at : Table SectionRow → Key → ℕ → ℕ → List ℕ
part_at sections key at len = option_map_or (λ s. part s at len) (row_at sections key) []

-- the sections with these bytes in one of them, from an offset on
abbrev pub with_bytes : Table SectionRow → Key → ℕ → List ℕ → Table SectionRow
with_bytes sections key at bytes = option_map_or (λ s. with_value sections key (with_part s at bytes)) (row_at sections key) sections

module _ {P : Type 0} where
  -- the view's section stands, and has the bytes that the view shows
  abbrev pub is_mapped : Table SectionRow → View P → Bool
  is_mapped sections view = has_part sections view.section (view.offset + view.size)

  -- so it is with each view
  abbrev pub AreMapped : Table SectionRow → List (View P) → Type 0
  AreMapped sections views = every (is_mapped sections) views ≡ true

  -- the bytes that a view shows at an address
  abbrev pub seen : Table SectionRow → ℕ → ℕ → View P → List ℕ
  seen sections address len view = part_at sections view.section (offset_of view address) len

  -- the sections with these bytes at an address of a view; the same where there is no view
  abbrev pub written : Table SectionRow → ℕ → Option (View P) → List ℕ → Table SectionRow
  written sections address view bytes = option_map_or (λ v. with_bytes sections v.section (offset_of v address) bytes) view sections

  -- the bytes that may be written at a range of addresses: none where no one view holds it that may be written
  abbrev pub writable_bytes : Table SectionRow → List (View P) → ℕ → ℕ → Option (List ℕ)
  writable_bytes sections views address len = if is_writable_at views address len then option_map (seen sections address len) (view_of views address len) else None

-- the bytes that are lent to be written, none where there is a fault
abbrev pub lent_bytes : Result (MutBor (List ℕ)) Fault → Option (List ℕ)
lent_bytes (Err fault) = None
lent_bytes (Ok bytes) = Some bytes.now
