-- NtDuplicateObject in a view.
use Rattle.std.proofs.Common.{◌≡◌, ℕ, List, true, not, Option, refl, ap, sym, subst, ◌∙◌}
use Rattle.lpc_base.specs.declared.status.TheConstants.{ACCESS_DENIED, INVALID_HANDLE}
use Rattle.lpc_model.specs.World.{Birth, ThreadRow, World}
use Rattle.lpc_model.specs.Found.{handle_at}
use Rattle.lpc_model.specs.Tests.{handles_test, includes, own_handle}
use Rattle.lpc_model.specs.Counts.{asked, nt_duplicate_object, rights_test}
use Rattle.lpc_model.specs.Lines.{duplicate_object}
use Rattle.lpc_isolation.proofs.Gone.Served.{served}
use Rattle.lpc_model.specs.Circle.{Group, is_fine_call}
use Rattle.lpc_isolation.proofs.Views.View.{view}
use Rattle.lpc_isolation.proofs.Views.Seen.{free-view, handle-view}
use Rattle.lpc_isolation.proofs.Views.Callers.{handles_test-view}
use Rattle.lpc_isolation.proofs.Each.Refuses.{Refuses, bind, found, handles, if_refuses}
use Rattle.lpc_isolation.proofs.Each.Instances.{At}
use Rattle.lpc_isolation.proofs.Gone.Thin.{Alive, Closed, thin}
use Rattle.lpc_isolation.proofs.Calls.Calm.{Calm, answers_alike}

refuses-duplicate : (w : World) (by : ThreadRow) (handle : ℕ) (access : Option ℕ) → Refuses (served w by (duplicate_object handle access))
unfolding nt_duplicate_object
refuses-duplicate w by handle access =
    bind (own_handle w by handle) _ (found (handle_at w by.process handle) INVALID_HANDLE refl) (λ r.
    bind (rights_test r (asked r access)) _ (if_refuses (not (includes r.access (asked r access))) ACCESS_DENIED refl) (λ _. bind (handles_test w by.process 1) _ (handles w by.process 1) (λ _. tt)))

same-duplicate : (m : Group) (c : ℕ) (w : World) (by : ThreadRow) (known : List ℕ → Birth) (handle : ℕ) (access : Option ℕ) → At m c w by known → by.process ≡ c → is_fine_call m w (duplicate_object handle access) ≡ true → served (view m w) by (duplicate_object handle access) ≡ served w by (duplicate_object handle access)
unfolding nt_duplicate_object
same-duplicate m c w by known handle access a mine fine =
    let by_in : m by.process ≡ true = ap m mine ∙ a.c_in in
    let test : handles_test (view m w) by.process 1 ≡ handles_test w by.process 1 = subst (λ p. handles_test (view m w) p 1 ≡ handles_test w p 1) (sym mine) (handles_test-view m c w 1 a.c_in a.fair) in
    rw (handle-view m w by.process handle by_in, test, free-view m w by.process by_in) refl

alike-duplicate : (k : Alive) (u : World) (by : ThreadRow) (handle : ℕ) (access : Option ℕ) → Closed k u → served (thin k u) by (duplicate_object handle access) ≡ served u by (duplicate_object handle access)
unfolding nt_duplicate_object
alike-duplicate k u by handle access c = refl

pub duplicate-calm : (handle : ℕ) (access : Option ℕ) → Calm (duplicate_object handle access)
duplicate-calm handle access = record {
  refuses = λ w by. refuses-duplicate w by handle access;
  members = answers_alike refl (λ m c w by known k a mine fine right. same-duplicate m c w by known handle access a mine fine);
  alike = λ k u by live s ports c. alike-duplicate k u by handle access c;
}
