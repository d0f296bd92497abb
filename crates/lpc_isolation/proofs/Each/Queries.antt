-- NtQueryObject in a view.
use Rattle.lpc_model.specs.Left.{HasLivingPorts}
use Rattle.std.proofs.Common.{◌≡◌, ℕ, List, [], ◌∷◌, true, refl, ap, ◌∙◌}
use Rattle.std.specs.Prelude.{Ok}
use Rattle.lpc_base.specs.Rows.{first}
use Rattle.lpc_base.proofs.RowMaps.{every-first}
use Rattle.lpc_base.specs.declared.status.TheConstants.{INVALID_HANDLE, SUCCESS}
use Rattle.lpc_model.specs.declared.entry.CallName.TheVariants.{NtQueryObject}
use Rattle.lpc_model.specs.declared.entry.Entry.TheVariants.{Answer}
use Rattle.lpc_model.specs.World.{Birth, HandleRow, ThreadRow, World}
use Rattle.lpc_model.specs.Found.{handle_at, handle_count, handles_of, has_value, is_table}
use Rattle.lpc_model.specs.Basics.{Basic, Tells}
use Rattle.lpc_model.specs.Fields.{object_fields}
use Rattle.lpc_model.specs.Tests.{own_handle}
use Rattle.lpc_model.specs.Lines.{query_object}
use Rattle.lpc_model.specs.Circle.{Group, is_fine_call}
use Rattle.lpc_model.proofs.Calls.Holding.{found_ok}
use Rattle.lpc_isolation.proofs.Gone.Served.{served, standing_count}
use Rattle.lpc_isolation.proofs.Views.View.{view}
use Rattle.lpc_isolation.proofs.Views.Seen.{bind-same, handle-own, handle-view}
use Rattle.lpc_isolation.proofs.Each.Refuses.{Refuses, bind, found}
use Rattle.lpc_isolation.proofs.Each.Instances.{At}
use Rattle.lpc_isolation.proofs.Gone.Thin.{Alive, Closed, handle_closed, thin}
use Rattle.lpc_isolation.proofs.Gone.ThinCalls.{rows-closed}
use Rattle.lpc_isolation.proofs.Each.Closes.{handle_count-view}
use Rattle.lpc_isolation.proofs.Gone.Counted.{standing-thin, standing-view}
use Rattle.lpc_isolation.proofs.Calls.Calm.{Calm, answers_alike}

abbrev told_counts : ThreadRow → HandleRow → ℕ → ℕ → List Basic
told_counts by r handles pointers = Tells (Answer by.number NtQueryObject SUCCESS (object_fields r.object.kind r.access handles pointers)) ∷ []

refuses-query : (w : World) (by : ThreadRow) (handle : ℕ) → Refuses (served w by (query_object handle))
refuses-query w by handle = bind (own_handle w by handle) _ (found (handle_at w by.process handle) INVALID_HANDLE refl) (λ r. tt)

same-query : (m : Group) (c : ℕ) (w : World) (by : ThreadRow) (known : List ℕ → Birth) (handle : ℕ) → At m c w by known → by.process ≡ c → is_fine_call m w (query_object handle) ≡ true → served (view m w) by (query_object handle) ≡ served w by (query_object handle)
same-query m c w by known handle a mine fine =
    rw (handle-view m w by.process handle (ap m mine ∙ a.c_in)) (bind-same (own_handle w by handle) _ _ (λ r at.
    let own : r.object.birth.process ≡ c = handle-own m c w by.process handle r a.fair (found_ok (handle_at w by.process handle) INVALID_HANDLE r at) ∙ mine in
    ap (λ n. Ok (told_counts by r n (standing_count (view m w) r.object))) (handle_count-view m c w r.object a.fair.tables (ap m own ∙ a.c_in))
    ∙ ap (λ n. Ok (told_counts by r (handle_count w r.object) n)) (standing-view m c w r.object a.c_in own a.fair a.fine)))

alike-query : (k : Alive) (u : World) (by : ThreadRow) (handle : ℕ) → HasLivingPorts u → Closed k u → served (thin k u) by (query_object handle) ≡ served u by (query_object handle)
alike-query k u by handle ports c = bind-same (own_handle u by handle) _ _ (λ r at.
    let live : handle_closed k r ≡ true = every-first (handle_closed k) (has_value handle) (handles_of u by.process) r (rows-closed k by.process u.handles (first (is_table by.process) u.handles) refl c.tables) (found_ok (handle_at u by.process handle) INVALID_HANDLE r at) in
    ap (λ n. Ok (told_counts by r (handle_count u r.object) n)) (standing-thin k u r.object live ports c))

pub query-calm : (handle : ℕ) → Calm (query_object handle)
query-calm handle = record {
  refuses = λ w by. refuses-query w by handle;
  members = answers_alike refl (λ m c w by known k a mine fine right. same-query m c w by known handle a mine fine);
  alike = λ k u by live s ports c. alike-query k u by handle ports c;
}
