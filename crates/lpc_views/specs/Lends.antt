-- What sections end as where bytes of one are lent.
use Rattle.std.specs.Prelude.{ℕ, List, Option, Result}
use Rattle.std.specs.Borrow.{Lends, LendsIfOk, MutBor, Fml, u8, Array}
use Rattle.lpc_sections.specs.Sections.{SectionRow}
use Rattle.lpc_sections.specs.contracts.section.Section.{the_row as section_row}
use Rattle.lpc_slots.specs.Table.{Table}
use Rattle.lpc_slots.specs.contracts.Slots.{the_row as slots_row}
use Rattle.lpc_slots.specs.declared.Key.{Key}
use Rattle.lpc_views.specs.Parts.{with_bytes, written}
use Rattle.lpc_views.specs.declared.view.Fault.{Fault}
use Rattle.lpc_views.specs.declared.view.View.{View}

-- the bytes that stand in the part at the end go in its place
abbrev pub LendsTable : MutBor (Table SectionRow) → Key → ℕ → MutBor (List ℕ) → Fml
LendsTable s key at r = Lends (slots_row section_row) (Array u8 0) s r (with_bytes s.now key at)

-- the bytes that stand at an address of a view at the end go in their place
abbrev pub LendsView : {P : Type 0} → MutBor (Table SectionRow) → ℕ → Option (View P) → MutBor (List ℕ) → Fml
LendsView s address view r = Lends (slots_row section_row) (Array u8 0) s r (written s.now address view)

-- the same where bytes are lent; where none are, the sections stay
abbrev pub LendsViewIf : {P : Type 0} → MutBor (Table SectionRow) → ℕ → Option (View P) → Result (MutBor (List ℕ)) Fault → Fml
LendsViewIf s address view r = LendsIfOk (slots_row section_row) (Array u8 0) s r (written s.now address view) s.now
