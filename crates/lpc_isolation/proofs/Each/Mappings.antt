-- NtMapViewOfSection and NtUnmapViewOfSection in a view.
use Rattle.lpc_isolation.proofs.Views.Places.{base-view, holding-view, test-view}
use Rattle.std.proofs.Common.{◌≡◌, ℕ, List, Bool, true, false, cond, not, Option, Some, None, refl, ap, ◌∙◌}
use Rattle.std.specs.Prelude.{◌==◌, ◌&&◌, ◌%◌, Ok, option_map, Result}
use Rattle.lpc_base.specs.declared.limits.TheConstants.{PAGE_SIZE}
use Rattle.lpc_base.specs.declared.status.Status.{Status}
use Rattle.lpc_base.specs.declared.status.TheConstants.{INVALID_PAGE_PROTECTION, MAPPED_ALIGNMENT, NOT_MAPPED_VIEW, SECTION_PROTECTION}
use Rattle.lpc_model.specs.World.{SectionRow, ThreadRow, ViewRow, World}
use Rattle.lpc_model.specs.Found.{view_holding}
use Rattle.lpc_model.specs.Basics.{Basic}
use Rattle.lpc_model.specs.Refusal.{found_or, refuse_if}
use Rattle.lpc_model.specs.Then.{◌>>=◌}
use Rattle.lpc_model.specs.Memory.{PAGE_READWRITE, base_test, map_steps, mapped_view, mapping_right, nt_map_view_of_section, nt_unmap_view_of_section, protection_test, section_test, size_test, unmap_steps}
use Rattle.lpc_model.specs.Lines.{map_view_of_section, unmap_view_of_section}
use Rattle.lpc_model.specs.Circle.{Group}
use Rattle.lpc_model.proofs.Calls.Outcomes.{IsMapping}
use Rattle.lpc_isolation.proofs.Gone.Served.{served}
use Rattle.lpc_isolation.proofs.Views.View.{hidden_section, seen_view, view}
use Rattle.lpc_isolation.proofs.Rows.Fair.{Fair}
use Rattle.lpc_isolation.proofs.Views.Seen.{bind-same}
use Rattle.lpc_isolation.proofs.Calls.Calm.{Calm, answers_alike}
use Rattle.lpc_isolation.proofs.Each.Refuses.{Refuses, base-refuses, bind, found, if_refuses, section-refuses, size-refuses}
use Rattle.lpc_isolation.proofs.Gone.Thin.{Alive, Closed, thin}
use Rattle.lpc_isolation.proofs.Gone.ThinCalls.{section-thin}

-- Each member is answered in a view as in the world
pub same-map : (m : Group) (c : ℕ) (w : World) (by : ThreadRow) (handle offset size prot : ℕ) → Fair m c w → m by.process ≡ true → nt_map_view_of_section (view m w) by handle offset size prot ≡ nt_map_view_of_section w by handle offset size prot
unfolding nt_map_view_of_section
same-map m c w by handle offset size prot f inside =
    ap (λ r. r >>= (λ s. further (view m w) s)) (test-view m c w by (mapping_right prot) handle f inside)
    ∙ bind-same (section_test w by (mapping_right prot) handle) _ _ (λ s _.
    bind-same (refuse_if (not (offset % PAGE_SIZE == 0)) MAPPED_ALIGNMENT) _ _ (λ _ _.
    bind-same (protection_test prot) _ _ (λ _ _.
    bind-same (refuse_if ((prot == PAGE_READWRITE) && not s.writable) SECTION_PROTECTION) _ _ (λ _ _.
    bind-same (size_test s offset size) _ _ (λ rounded _.
    ap (λ r. r >>= (λ base. Ok (map_steps by (mapped_view s offset rounded prot base)))) (base-view m w by.process rounded inside))))))
  where
    further : World → SectionRow → Result (List Basic) Status
    further v s =
        refuse_if (not (offset % PAGE_SIZE == 0)) MAPPED_ALIGNMENT >>= (λ _.
        protection_test prot >>= (λ _.
        refuse_if ((prot == PAGE_READWRITE) && not s.writable) SECTION_PROTECTION >>= (λ _.
        size_test s offset size >>= (λ rounded.
        base_test v by.process rounded >>= (λ base. Ok (map_steps by (mapped_view s offset rounded prot base)))))))

pub unmapped-same : (m : Group) (by : ThreadRow) (v : ViewRow) → unmap_steps by (seen_view m v) ≡ unmap_steps by v
unmapped-same m by v = at (m v.section.process)
  where
    at : (e : Bool) → unmap_steps by (cond e v (record v { section = hidden_section v.section; offset = 0 })) ≡ unmap_steps by v
    at true = refl
    at false = refl

same-unmap : (m : Group) (w : World) (by : ThreadRow) (address : ℕ) → m by.process ≡ true → nt_unmap_view_of_section (view m w) by address ≡ nt_unmap_view_of_section w by address
unfolding nt_unmap_view_of_section
same-unmap m w by address inside = rw (holding-view m w by.process address 1 inside) (at (view_holding w by.process address 1))
  where
    at : (o : Option ViewRow) → (found_or (option_map (seen_view m) o) NOT_MAPPED_VIEW >>= (λ v. Ok (unmap_steps by v))) ≡ (found_or o NOT_MAPPED_VIEW >>= (λ v. Ok (unmap_steps by v)))
    at None = refl
    at (Some v) = ap (λ bs. Ok bs) (unmapped-same m by v)

-- what the tests of a map found
pub mapping-ok : (w : World) (by : ThreadRow) (handle offset size prot : ℕ) (s : SectionRow) (rounded base : ℕ) → IsMapping w by handle offset size prot s rounded base → nt_map_view_of_section w by handle offset size prot ≡ Ok (map_steps by (mapped_view s offset rounded prot base))
unfolding nt_map_view_of_section
mapping-ok w by handle offset size prot s rounded base is =
    let test = is.section in
    let pages = is.pages in
    let protection = is.protection in
    let written = is.written in
    let sized = is.size_found in
    let based = is.base_found in rw test (rw pages (rw protection (rw written (rw sized (rw based refl)))))

-- Refusals
pub protection-refuses : (prot : ℕ) → Refuses (protection_test prot)
protection-refuses prot = if_refuses _ INVALID_PAGE_PROTECTION refl

refuses-map : (w : World) (by : ThreadRow) (handle offset size prot : ℕ) → Refuses (nt_map_view_of_section w by handle offset size prot)
unfolding nt_map_view_of_section
refuses-map w by handle offset size prot =
    bind (section_test w by (mapping_right prot) handle) _ (section-refuses w by (mapping_right prot) handle) (λ s.
    bind (refuse_if (not (offset % PAGE_SIZE == 0)) MAPPED_ALIGNMENT) _ (if_refuses (not (offset % PAGE_SIZE == 0)) MAPPED_ALIGNMENT refl) (λ _.
    bind (protection_test prot) _ (protection-refuses prot) (λ _.
    bind (refuse_if ((prot == PAGE_READWRITE) && not s.writable) SECTION_PROTECTION) _ (if_refuses ((prot == PAGE_READWRITE) && not s.writable) SECTION_PROTECTION refl) (λ _.
    bind (size_test s offset size) _ (size-refuses s offset size) (λ rounded.
    bind (base_test w by.process rounded) _ (base-refuses w by.process rounded) (λ base. tt))))))

refuses-unmap : (w : World) (by : ThreadRow) (address : ℕ) → Refuses (nt_unmap_view_of_section w by address)
unfolding nt_unmap_view_of_section
refuses-unmap w by address = bind (found_or (view_holding w by.process address 1) NOT_MAPPED_VIEW) _ (found (view_holding w by.process address 1) NOT_MAPPED_VIEW refl) (λ v. tt)

-- Where rows have gone
alike-map : (k : Alive) (u : World) (by : ThreadRow) (handle offset size prot : ℕ) → Closed k u → served (thin k u) by (map_view_of_section handle offset size prot) ≡ served u by (map_view_of_section handle offset size prot)
unfolding nt_map_view_of_section
alike-map k u by handle offset size prot c = rw (section-thin k u by (mapping_right prot) handle c) refl

alike-unmap : (k : Alive) (u : World) (by : ThreadRow) (address : ℕ) → served (thin k u) by (unmap_view_of_section address) ≡ served u by (unmap_view_of_section address)
unfolding nt_unmap_view_of_section
alike-unmap k u by address = refl

pub map-calm : (handle offset size prot : ℕ) → Calm (map_view_of_section handle offset size prot)
map-calm handle offset size prot = record {
  refuses = λ w by. refuses-map w by handle offset size prot;
  members = answers_alike refl (λ m c w by known k a mine fine right. same-map m c w by handle offset size prot a.fair (ap m mine ∙ a.c_in));
  alike = λ k u by live s ports c. alike-map k u by handle offset size prot c;
}

pub unmap-calm : (address : ℕ) → Calm (unmap_view_of_section address)
unmap-calm address = record {
  refuses = λ w by. refuses-unmap w by address;
  members = answers_alike refl (λ m c w by known k a mine fine right. same-unmap m w by address (ap m mine ∙ a.c_in));
  alike = λ k u by live s ports c. alike-unmap k u by address;
}
