-- What the calls on sections, views and memory tell is right: none of them is about a request or a connect.
use Rattle.std.proofs.Common.{List, ℕ}
use Rattle.std.specs.Prelude.{not, nat_lt, length, ◌%◌, ◌&&◌, ◌==◌}
use Rattle.lpc_base.specs.Views.{whole_pages}
use Rattle.lpc_base.specs.declared.limits.TheConstants.{PAGE_SIZE, SECTION_LIMIT}
use Rattle.lpc_base.specs.declared.status.TheConstants.{ACCESS_VIOLATION, INVALID_PARAMETER_4, MAPPED_ALIGNMENT, NOT_MAPPED_VIEW, SECTION_PROTECTION, SECTION_TOO_BIG}
use Rattle.lpc_model.specs.Found.{view_holding}
use Rattle.lpc_model.specs.Lines.{ScriptLine}
use Rattle.lpc_model.specs.Memory.{PAGE_READWRITE, base_test, mapping_right, memory_test, nt_create_section, nt_map_view_of_section, nt_read_virtual_memory, nt_unmap_view_of_section, nt_write_virtual_memory, protection_test, section_load_test, section_test, size_test}
use Rattle.lpc_model.specs.Refusal.{found_or, refuse_if}
use Rattle.lpc_model.specs.Tests.{handles_test}
use Rattle.lpc_model.specs.World.{ThreadRow, World}
use Rattle.lpc_model.proofs.Calls.Holding.{Holds, bind_holds}
use Rattle.lpc_replay.proofs.Fair.{AreFair}

pub create_section_fair : (w : World) (line : ScriptLine) (by : ThreadRow) (size prot : ℕ) → Holds (AreFair w line) (nt_create_section w by size prot)
unfolding nt_create_section
create_section_fair w line by size prot =
    let P = AreFair w line in
    bind_holds (protection_test prot) _ P (λ _ _.
    bind_holds (refuse_if (size == 0) INVALID_PARAMETER_4) _ P (λ _ _.
    bind_holds (refuse_if (nat_lt SECTION_LIMIT size) SECTION_TOO_BIG) _ P (λ _ _.
    bind_holds (section_load_test w by.process (whole_pages size)) _ P (λ _ _.
    bind_holds (handles_test w by.process 1) _ P (λ _ _. ((tt, tt), (tt, (tt, (tt, tt)))))))))

pub map_fair : (w : World) (line : ScriptLine) (by : ThreadRow) (handle offset size prot : ℕ) → Holds (AreFair w line) (nt_map_view_of_section w by handle offset size prot)
unfolding nt_map_view_of_section
map_fair w line by handle offset size prot =
    let P = AreFair w line in
    bind_holds (section_test w by (mapping_right prot) handle) _ P (λ s _.
    bind_holds (refuse_if (not (offset % PAGE_SIZE == 0)) MAPPED_ALIGNMENT) _ P (λ _ _.
    bind_holds (protection_test prot) _ P (λ _ _.
    bind_holds (refuse_if ((prot == PAGE_READWRITE) && not s.writable) SECTION_PROTECTION) _ P (λ _ _.
    bind_holds (size_test s offset size) _ P (λ rounded _.
    bind_holds (base_test w by.process rounded) _ P (λ _ _. ((tt, tt), (tt, tt))))))))

pub unmap_fair : (w : World) (line : ScriptLine) (by : ThreadRow) (address : ℕ) → Holds (AreFair w line) (nt_unmap_view_of_section w by address)
unfolding nt_unmap_view_of_section
unmap_fair w line by address =
    bind_holds (found_or (view_holding w by.process address 1) NOT_MAPPED_VIEW) _ (AreFair w line) (λ _ _. ((tt, tt), (tt, tt)))

pub read_fair : (w : World) (line : ScriptLine) (by : ThreadRow) (address n : ℕ) → Holds (AreFair w line) (nt_read_virtual_memory w by address n)
unfolding nt_read_virtual_memory
read_fair w line by address n = bind_holds (memory_test w by address n) _ (AreFair w line) (λ _ _. ((tt, tt), tt))

pub write_fair : (w : World) (line : ScriptLine) (by : ThreadRow) (address : ℕ) (new : List ℕ) → Holds (AreFair w line) (nt_write_virtual_memory w by address new)
unfolding nt_write_virtual_memory
write_fair w line by address new =
    let P = AreFair w line in
    bind_holds (memory_test w by address (length new)) _ P (λ v _.
    bind_holds (refuse_if (not v.writable) ACCESS_VIOLATION) _ P (λ _ _. ((tt, tt), (tt, tt))))
