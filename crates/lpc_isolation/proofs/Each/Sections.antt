-- NtCreateSection in a view.
use Rattle.std.proofs.Common.{◌≡◌, ℕ, true, refl, ap, subst, sym, ◌∙◌}
use Rattle.std.specs.Prelude.{◌==◌, nat_lt}
use Rattle.lpc_base.specs.Views.{whole_pages}
use Rattle.lpc_base.specs.declared.limits.TheConstants.{SECTION_LIMIT}
use Rattle.lpc_base.specs.declared.status.TheConstants.{INVALID_PAGE_PROTECTION, INVALID_PARAMETER_4, QUOTA_EXCEEDED, SECTION_TOO_BIG}
use Rattle.lpc_model.specs.World.{ThreadRow, World}
use Rattle.lpc_model.specs.Memory.{protection_test}
use Rattle.lpc_model.specs.Refusal.{refuse_if}
use Rattle.lpc_model.specs.Tests.{handles_test}
use Rattle.lpc_model.specs.Lines.{create_section}
use Rattle.lpc_model.specs.Circle.{Group}
use Rattle.lpc_isolation.proofs.Calls.Calm.{Calm, answers_alike}
use Rattle.lpc_isolation.proofs.Each.Refuses.{Refuses, bind, handles, if_refuses}
use Rattle.lpc_isolation.proofs.Gone.Loaded.{load-thin, load-view}
use Rattle.lpc_isolation.proofs.Gone.Served.{served, standing_load, standing_load_test}
use Rattle.lpc_isolation.proofs.Gone.Thin.{Alive, Closed, thin}
use Rattle.lpc_isolation.proofs.Rows.Fair.{Fair}
use Rattle.lpc_isolation.proofs.Views.Alone.{HasFineRows}
use Rattle.lpc_isolation.proofs.Views.Callers.{handles_test-view}
use Rattle.lpc_isolation.proofs.Views.Seen.{free-view}
use Rattle.lpc_isolation.proofs.Views.View.{view}

same-section : (m : Group) (c : ℕ) (w : World) (by : ThreadRow) (size prot : ℕ) → m c ≡ true → by.process ≡ c → Fair m c w → HasFineRows m c w → served (view m w) by (create_section size prot) ≡ served w by (create_section size prot)
same-section m c w by size prot c_in mine f fine =
    let test : handles_test (view m w) by.process 1 ≡ handles_test w by.process 1 = subst (λ p. handles_test (view m w) p 1 ≡ handles_test w p 1) (sym mine) (handles_test-view m c w 1 c_in f) in
    let load : standing_load (view m w) by.process ≡ standing_load w by.process = subst (λ p. standing_load (view m w) p ≡ standing_load w p) (sym mine) (load-view m c w c_in f fine) in
    rw (load, test, free-view m w by.process (ap m mine ∙ c_in)) refl

refuses-section : (w : World) (by : ThreadRow) (size prot : ℕ) → Refuses (served w by (create_section size prot))
refuses-section w by size prot =
    bind (protection_test prot) _ (if_refuses _ INVALID_PAGE_PROTECTION refl) (λ _.
    bind (refuse_if (size == 0) INVALID_PARAMETER_4) _ (if_refuses (size == 0) INVALID_PARAMETER_4 refl) (λ _.
    bind (refuse_if (nat_lt SECTION_LIMIT size) SECTION_TOO_BIG) _ (if_refuses (nat_lt SECTION_LIMIT size) SECTION_TOO_BIG refl) (λ _.
    bind (standing_load_test w by.process (whole_pages size)) _ (if_refuses _ QUOTA_EXCEEDED refl) (λ _.
    bind (handles_test w by.process 1) _ (handles w by.process 1) (λ _. tt)))))

alike-section : (k : Alive) (u : World) (by : ThreadRow) (size prot : ℕ) → Closed k u → served (thin k u) by (create_section size prot) ≡ served u by (create_section size prot)
alike-section k u by size prot c = rw (load-thin k u by.process c) refl

pub section-calm : (size prot : ℕ) → Calm (create_section size prot)
section-calm size prot = record {
  refuses = λ w by. refuses-section w by size prot;
  members = answers_alike refl (λ m c w by known k a mine fine right. same-section m c w by size prot a.c_in mine a.fair a.fine);
  alike = λ k u by live s ports c. alike-section k u by size prot c;
}
