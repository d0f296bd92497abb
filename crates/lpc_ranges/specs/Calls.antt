-- What the calls on sections, views and memory find and do, and the room that they need.
use Rattle.std.specs.Prelude.{◌≡◌, ℕ, Bool, List, [], ◌∷◌, ◌==◌, length, option_map, Some}
use Rattle.lpc_base.specs.declared.status.TheConstants.{SUCCESS}
use Rattle.lpc_model.specs.declared.entry.CallName.TheVariants.{NtReadVirtualMemory}
use Rattle.lpc_model.specs.declared.entry.Entry.TheVariants.{Answer}
use Rattle.lpc_model.specs.Basics.{Basic, Tells}
use Rattle.lpc_model.specs.Fields.{bytes_read}
use Rattle.lpc_model.specs.Found.{free_handle}
use Rattle.lpc_model.specs.Memory.{map_steps, new_section, section_steps}
use Rattle.lpc_model.specs.World as model
use Rattle.lpc_model.specs.World.{ThreadRow, World}
use Rattle.lpc_procs.specs.declared.rows.Caller.{Caller}
use Rattle.lpc_sections.specs.Sections.{SectionRow}
use Rattle.lpc_slots.specs.declared.Key.{Key}
use Rattle.lpc_views.specs.declared.view.View.{View}
use Rattle.lpc_rows.specs.Callers.{as_caller}
use Rattle.lpc_rows.specs.Clauses.{thread_row, view_shown}
use Rattle.lpc_rows.specs.Kept.{Kept, view_room}

-- Rows
-- the thread stands, and this is what a call knows of it
abbrev pub HasCaller : World → Caller → Type 0
HasCaller w c = option_map as_caller (thread_row w c.number) ≡ Some c

-- Sections
-- a section as the definitions have it
abbrev pub section_shown : SectionRow → model.SectionRow
section_shown s = record { birth = s.birth; size = length s.bytes; writable = s.writable }

-- the section is one that a thread makes of so many bytes, with this protection
abbrev pub IsNewSection : SectionRow → ThreadRow → ℕ → ℕ → Type 0
IsNewSection s by size prot = section_shown s ≡ new_section by size prot

-- a thread makes a section, and its process gets the least free handle to it
abbrev pub making : World → ThreadRow → ℕ → ℕ → List Basic
making w by size prot = section_steps by size prot (free_handle w by.process)

-- Views
-- a thread's process maps a view
abbrev pub mapping : Kept → ThreadRow → View Key → List Basic
mapping w by view = map_steps by (view_shown w view)

-- without memory there is no room for a further view of the thread's process
abbrev pub lacks_view_room : Kept → ThreadRow → Bool
lacks_view_room w by = view_room w.room by.process == 0

-- Memory
-- a thread is told the bytes that it reads
abbrev pub reading : ThreadRow → List ℕ → List Basic
reading by bytes = Tells (Answer by.number NtReadVirtualMemory SUCCESS (bytes_read bytes ∷ [])) ∷ []
