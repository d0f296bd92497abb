-- Sections and views, and what a thread reads and writes through the views of its process.
use Rattle.std.specs.Prelude.{ℕ, Bool, List, [], ◌∷◌, ◌&&◌, ◌||◌, ◌+◌, ◌-◌, ◌%◌, ◌==◌, not, nat_le, nat_lt, length, map, take, drop, None, Result, Ok, if◌then◌else◌}
use Rattle.std.specs.List.{sum}
use Rattle.lpc_base.specs.Rows.{which}
use Rattle.lpc_base.specs.Views.{least_base, passes_section, view_size, whole_pages}
use Rattle.lpc_base.specs.declared.limits.TheConstants.{MEMORY_LIMIT, PAGE_SIZE, SECTION_LIMIT, VIEW_LIMIT}
use Rattle.lpc_base.specs.declared.status.Status.{Status}
use Rattle.lpc_base.specs.declared.status.TheConstants.{ACCESS_VIOLATION, INVALID_HANDLE, INVALID_PAGE_PROTECTION, INVALID_PARAMETER, INVALID_PARAMETER_4, INVALID_VIEW_SIZE, MAPPED_ALIGNMENT, NOT_MAPPED_VIEW, QUOTA_EXCEEDED, SECTION_PROTECTION, SECTION_TOO_BIG, SUCCESS}
use Rattle.lpc_model.specs.declared.entry.CallName.TheVariants.{NtCreateSection, NtMapViewOfSection, NtReadVirtualMemory, NtUnmapViewOfSection, NtWriteVirtualMemory}
use Rattle.lpc_model.specs.declared.entry.Entry.TheVariants.{Answer}
use Rattle.lpc_model.specs.declared.entry.ObjectKind.TheVariants as kind
use Rattle.lpc_model.specs.Fields.{bytes_read, h, view_fields}
use Rattle.lpc_model.specs.Refusal.{found_or, refuse_if}
use Rattle.lpc_model.specs.Then.{◌>>=◌}
use Rattle.lpc_model.specs.World.{Contents, SectionRow, ThreadRow, ViewRow, World}
use Rattle.lpc_model.specs.Found.{content_of, free_handle, section_name, section_row, view_holding, views_of}
use Rattle.lpc_model.specs.Basics.{AddsHandle, AddsSection, Basic, DrawsOrdinal, Maps, Tells, Unmaps, Writes}
use Rattle.lpc_model.specs.Tests.{handle_row, handles_test, next_birth, object_test}

-- the rights of a handle that a call makes to a section, and those that a view wants that is written, or read alone
abbrev pub SECTION_ACCESS : ℕ
SECTION_ACCESS = 0x000F001F

abbrev pub SECTION_MAP_WRITE : ℕ
SECTION_MAP_WRITE = 2

abbrev pub SECTION_MAP_READ : ℕ
SECTION_MAP_READ = 4

-- the two protections: bytes may be read alone, or written too
abbrev pub PAGE_READONLY : ℕ
PAGE_READONLY = 2

abbrev pub PAGE_READWRITE : ℕ
PAGE_READWRITE = 4

abbrev pub protection_test : ℕ → Result Unit Status
protection_test prot = refuse_if (not ((prot == PAGE_READONLY) || (prot == PAGE_READWRITE))) INVALID_PAGE_PROTECTION

-- Sections
-- a section of those that a process made, whoever names it now; their bytes together
abbrev pub is_section_of : ℕ → SectionRow → Bool
is_section_of pid s = s.birth.process == pid

abbrev pub section_load : World → ℕ → ℕ
section_load w pid = sum (map (λ s. s.size) (which (is_section_of pid) w.sections))

-- the process may make a further section of so many bytes
abbrev pub section_load_test : World → ℕ → ℕ → Result Unit Status
section_load_test w pid size = refuse_if (nat_lt SECTION_LIMIT (section_load w pid + size)) QUOTA_EXCEEDED

abbrev pub new_section : ThreadRow → ℕ → ℕ → SectionRow
new_section by size prot = record { birth = next_birth by; size = whole_pages size; writable = prot == PAGE_READWRITE }

-- the section is made, and its maker gets a handle to it
abbrev pub section_steps : ThreadRow → ℕ → ℕ → ℕ → List Basic
section_steps by size prot value =
    Tells (Answer by.number NtCreateSection SUCCESS (h value ∷ []))
    ∷ DrawsOrdinal by.number
    ∷ AddsSection (new_section by size prot)
    ∷ AddsHandle by.process (handle_row value (section_name (next_birth by)) SECTION_ACCESS)
    ∷ []

-- NtCreateSection: no protection, no bytes, too many of them, too many with those of the process's others, too many
-- handles
unfoldable pub nt_create_section : World → ThreadRow → ℕ → ℕ → Result (List Basic) Status
nt_create_section w by size prot = do
  _ ← protection_test prot
  _ ← refuse_if (size == 0) INVALID_PARAMETER_4
  _ ← refuse_if (nat_lt SECTION_LIMIT size) SECTION_TOO_BIG
  _ ← section_load_test w by.process (whole_pages size)
  _ ← handles_test w by.process 1
  Ok (section_steps by size prot (free_handle w by.process))

-- Views
-- the section that a handle names; a handle's object stands, so its row is found
abbrev pub section_test : World → ThreadRow → ℕ → ℕ → Result SectionRow Status
section_test w by rights value = do
  birth ← object_test w by kind.Section rights value
  found_or (section_row w birth) INVALID_HANDLE

-- the right that a view with a protection wants
abbrev pub mapping_right : ℕ → ℕ
mapping_right prot = if prot == PAGE_READWRITE then SECTION_MAP_WRITE else SECTION_MAP_READ

-- the size of a view of a section from an offset on: one that would pass the section's end
abbrev pub size_test : SectionRow → ℕ → ℕ → Result ℕ Status
size_test s offset size = do
  _ ← refuse_if (passes_section s.size offset size) INVALID_VIEW_SIZE
  Ok (view_size s.size offset size)

-- the process may have a further view
abbrev pub view_count_test : World → ℕ → Result Unit Status
view_count_test w pid = refuse_if (nat_le VIEW_LIMIT (length (views_of w pid))) QUOTA_EXCEEDED

-- the base of a further view of a process: too many views, no free place
abbrev pub base_test : World → ℕ → ℕ → Result ℕ Status
base_test w pid size = do
  _ ← view_count_test w pid
  found_or (least_base (map (λ v. (v.base, v.size)) (views_of w pid)) size) QUOTA_EXCEEDED

abbrev pub mapped_view : SectionRow → ℕ → ℕ → ℕ → ℕ → ViewRow
mapped_view s offset size prot base = record {
  base = base;
  size = size;
  section = s.birth;
  offset = offset;
  writable = prot == PAGE_READWRITE;
  owner = None;
}

abbrev pub map_steps : ThreadRow → ViewRow → List Basic
map_steps by v =
    Tells (Answer by.number NtMapViewOfSection SUCCESS (view_fields v.base v.size)) ∷ Maps by.process v ∷ []

-- NtMapViewOfSection: the handle, an offset that is no whole page, no protection, a section that may not be written, a
-- view that would pass it, too many views, no free place
unfoldable pub nt_map_view_of_section : World → ThreadRow → ℕ → ℕ → ℕ → ℕ → Result (List Basic) Status
nt_map_view_of_section w by handle offset size prot = do
  s ← section_test w by (mapping_right prot) handle
  _ ← refuse_if (not (offset % PAGE_SIZE == 0)) MAPPED_ALIGNMENT
  _ ← protection_test prot
  _ ← refuse_if ((prot == PAGE_READWRITE) && not s.writable) SECTION_PROTECTION
  rounded ← size_test s offset size
  base ← base_test w by.process rounded
  Ok (map_steps by (mapped_view s offset rounded prot base))

abbrev pub unmap_steps : ThreadRow → ViewRow → List Basic
unmap_steps by v = Tells (Answer by.number NtUnmapViewOfSection SUCCESS []) ∷ Unmaps by.process v.base ∷ []

-- NtUnmapViewOfSection: no view holds the address
unfoldable pub nt_unmap_view_of_section : World → ThreadRow → ℕ → Result (List Basic) Status
nt_unmap_view_of_section w by address = do
  v ← found_or (view_holding w by.process address 1) NOT_MAPPED_VIEW
  Ok (unmap_steps by v)

-- Memory
-- some bytes, and not too many for one call
abbrev pub is_transfer : ℕ → Bool
is_transfer n = nat_le 1 n && nat_le n MEMORY_LIMIT

-- the view of the caller's process that holds so many bytes: none or too many of them, no one view holds them
abbrev pub memory_test : World → ThreadRow → ℕ → ℕ → Result ViewRow Status
memory_test w by address n = do
  _ ← refuse_if (not (is_transfer n)) INVALID_PARAMETER
  found_or (view_holding w by.process address n) ACCESS_VIOLATION

-- where an address of a view lies in the section that it shows
abbrev pub place_in : ViewRow → ℕ → ℕ
place_in v address = v.offset + (address - v.base)

-- the bytes that a view shows at an address
abbrev pub bytes_at : Contents → ViewRow → ℕ → ℕ → List ℕ
bytes_at contents v address n = take n (drop (place_in v address) (content_of contents v.section))

abbrev pub read_steps : Contents → ThreadRow → ℕ → ℕ → ViewRow → List Basic
read_steps contents by address n v =
    Tells (Answer by.number NtReadVirtualMemory SUCCESS (bytes_read (bytes_at contents v address n) ∷ [])) ∷ []

-- NtReadVirtualMemory: none or too many bytes, no one view holds them
unfoldable pub nt_read_virtual_memory : World → ThreadRow → ℕ → ℕ → Result (List Basic) Status
nt_read_virtual_memory w by address n = do
  v ← memory_test w by address n
  Ok (read_steps w.contents by address n v)

abbrev pub write_steps : ThreadRow → ℕ → List ℕ → ViewRow → List Basic
write_steps by address new v =
    Tells (Answer by.number NtWriteVirtualMemory SUCCESS []) ∷ Writes v.section (place_in v address) new ∷ []

-- NtWriteVirtualMemory: none or too many bytes, no one view holds them, a view that may not be written
unfoldable pub nt_write_virtual_memory : World → ThreadRow → ℕ → List ℕ → Result (List Basic) Status
nt_write_virtual_memory w by address new = do
  v ← memory_test w by address (length new)
  _ ← refuse_if (not v.writable) ACCESS_VIOLATION
  Ok (write_steps by address new v)
