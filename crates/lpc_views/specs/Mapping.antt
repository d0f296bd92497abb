-- What a mapping of a section answers.
use Rattle.std.specs.Prelude.{ℕ, ◌==◌, ◌&&◌, Bool, not, List, length, Option, Some, None, Result, Ok, Err, if◌then◌else◌}
use Rattle.lpc_base.specs.Views.{least_base, passes_section, view_size}
use Rattle.lpc_base.specs.declared.limits.TheConstants.{VIEW_LIMIT}
use Rattle.lpc_sections.specs.Sections.{SectionRow}
use Rattle.lpc_slots.specs.declared.Key.{Key}
use Rattle.lpc_views.specs.Views.{ranges}
use Rattle.lpc_views.specs.declared.view.MapFault.{MapFault}
use Rattle.lpc_views.specs.declared.view.MapFault.TheVariants.{InvalidViewSize, Quota, SectionProtection}
use Rattle.lpc_views.specs.declared.view.View.{View}

-- the size of a view of a section, or why there is none: first its protection counts, then its range
abbrev pub mapped_size : SectionRow → ℕ → ℕ → Bool → Result ℕ MapFault
mapped_size s offset size writable =
    if writable && not s.writable then Err SectionProtection else
    if passes_section (length s.bytes) offset size then Err InvalidViewSize else
    Ok (view_size (length s.bytes) offset size)

-- the base of a further view of a size: none where the views are as many as may be, or none is free
abbrev pub new_base : {P : Type 0} → List (View P) → ℕ → Option ℕ
new_base views size = if length views == VIEW_LIMIT then None else least_base (ranges views) size

module _ {P : Type 0} (views : List (View P)) (section : Key) (offset : ℕ) (writable : Bool) (owner : Option P) where
  -- the new view of a size, at its base
  abbrev pub mapped_at : ℕ → Option ℕ → Result (View P) MapFault
  mapped_at size None = Err Quota
  mapped_at size (Some base) = Ok (record { base = base; size = size; section = section; offset = offset; writable = writable; owner = owner })

  abbrev pub mapped_of : Result ℕ MapFault → Result (View P) MapFault
  mapped_of (Err fault) = Err fault
  mapped_of (Ok size) = mapped_at size (new_base views size)

  -- the new view, or the first cause why there is none: its protection, its range, then the quota
  abbrev pub mapped : SectionRow → ℕ → Result (View P) MapFault
  mapped s size = mapped_of (mapped_size s offset size writable)
