-- What a section ends as where a part of its bytes is lent.
use Rattle.std.specs.Prelude.{ℕ, List, Option, Bool}
use Rattle.std.specs.Borrow.{Lends, LendsIf, MutBor, Fml, u8, Array}
use Rattle.lpc_sections.specs.Sections.{SectionRow, with_part}
use Rattle.lpc_sections.specs.contracts.section.Section.{the_row}

-- the bytes that stand in the part at the end go in its place
abbrev pub LendsPart : MutBor SectionRow → ℕ → MutBor (List ℕ) → Fml
LendsPart s at r = Lends the_row (Array u8 0) s r (with_part s.now at)

-- the same where a part is lent; where none is, the section stays
abbrev pub LendsPartIf : MutBor SectionRow → ℕ → Option (MutBor (List ℕ)) → Fml
LendsPartIf s at r = LendsIf the_row (Array u8 0) s r (with_part s.now at) s.now

-- the same where the part comes with the answer to a test
abbrev pub LendsTested : MutBor SectionRow → ℕ → Bool × MutBor (List ℕ) → Fml
LendsTested s at r = Lends the_row (Array u8 0) s r.1 (with_part s.now at)
