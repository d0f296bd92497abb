-- What the world ends as where bytes that a view shows are lent.
use Rattle.std.specs.Prelude.{[], ℕ, List, Option, Result}
use Rattle.std.specs.Borrow.{Lends, LendsIfOk, MutBor, Fml, u8, Array}
use Rattle.lpc_model.specs.World.{ViewRow}
use Rattle.lpc_rows.specs.Kept.{Kept}
use Rattle.lpc_views.specs.declared.view.Fault.{Fault}
use Rattle.lpc_world.specs.Lent.{with_memory}
use Rattle.lpc_world.specs.contracts.world.World.{the_row}
use denote.RattleType.{RattleType}
use mir.Syntax.{named}

-- the world's own type, where the lifetime of its tokens is the second that a function names: behind that of the loan
abbrev pub world_row : RattleType
world_row = the_row (record { mir = named 1; lft = [] })

-- the bytes that stand at an address of a view at the end go in their place
abbrev pub LendsMemory : MutBor Kept → ℕ → Option ViewRow → MutBor (List ℕ) → Fml
LendsMemory s address view r = Lends world_row (Array u8 0) s r (with_memory s.now address view)

-- the same where bytes are lent; where none are, the world stays
abbrev pub LendsMemoryIf : MutBor Kept → ℕ → Option ViewRow → Result (MutBor (List ℕ)) Fault → Fml
LendsMemoryIf s address view r = LendsIfOk world_row (Array u8 0) s r (with_memory s.now address view) s.now
