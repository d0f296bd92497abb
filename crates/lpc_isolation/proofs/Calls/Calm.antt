-- What a call owes the law that makes no thread and ends none of its own making.
use Rattle.lpc_model.specs.Left.{HasLivingPorts}
use Rattle.lpc_model.specs.SoundWaits.{IsSoundWorld}
use Rattle.lpc_isolation.proofs.Views.Alone.{HasFineRows}
use Rattle.lpc_isolation.proofs.Views.Callers.{Answered, Led}
use Rattle.lpc_isolation.proofs.Calls.Deeds.{spares}
use Rattle.lpc_isolation.proofs.Each.Instances.{At, Leading}
use Rattle.lpc_isolation.proofs.Each.Refuses.{Refuses}
use Rattle.lpc_isolation.proofs.Gone.Served.{served}
use Rattle.lpc_isolation.proofs.Gone.Thin.{Alive, Closed, thin}
use Rattle.lpc_isolation.proofs.Views.View.{view}
use Rattle.lpc_isolation.proofs.Views.Reads.{Reads}
use Rattle.lpc_isolation.proofs.Plays.Lines.{seeing}
use Rattle.lpc_model.proofs.Calls.Holding.{Holds}
use Rattle.lpc_model.specs.Basics.{world_after}
use Rattle.lpc_model.specs.Circle.{Group, Whose, is_fine_call}
use Rattle.lpc_model.specs.Found.{live_thread}
use Rattle.lpc_model.specs.Lines.{ScriptCall}
use Rattle.lpc_model.specs.World.{Birth, Contents, ThreadRow, World}
use Rattle.std.proofs.Common.{List, Some, false, true, ℕ, ◌≡◌}
use Rattle.std.specs.Prelude.{◌==◌}

-- of c: the view changes as the world does
abbrev pub Own : ScriptCall → Type 0
Own call = (m : Group) (c : ℕ) (u : World) (d : Whose) (w : World) (by : ThreadRow) (known : List ℕ → Birth) (k : Contents) → At m c w by known → u.used_threads ≡ w.used_threads → by.process ≡ c → is_fine_call m w call ≡ true → Reads m c k w by call → Answered (λ bs led. HasFineRows m c (world_after w bs) → Led m c u d w bs led) (served w by call) (served (seeing k (view m w) call) by call)

-- of another member: the view and what c is told follow from the view and the member's own answer
abbrev pub Leads : ScriptCall → Type 0
Leads call = (m : Group) (c : ℕ) (u : World) (d : Whose) (w : World) (by : ThreadRow) (known : List ℕ → Birth) → At m c w by known → u.used_threads ≡ w.used_threads → m by.process ≡ true → (by.process == c) ≡ false → Holds (λ bs. HasFineRows m c (world_after w bs) → Leading m c u d w by known call bs) (served w by call)

-- which both follow where the call ends no thread, and the view of c answers as the world does; or, with steps of its own, as
-- far as c is told
pub data Members (call : ScriptCall) : Type 0 where
  answers_alike : spares call ≡ true → ((m : Group) (c : ℕ) (w : World) (by : ThreadRow) (known : List ℕ → Birth) (k : Contents) → At m c w by known → by.process ≡ c → is_fine_call m w call ≡ true → Reads m c k w by call → served (seeing k (view m w) call) by call ≡ served w by call) → Members call
  tells_alike : spares call ≡ true → Own call → Members call
  ends_threads : Own call → Leads call → Members call

pub record Calm (call : ScriptCall) : Type 0 where
  -- no refusal is a success
  pub refuses : (w : World) (by : ThreadRow) → Refuses (served w by call)
  pub members : Members call
  -- it answers alike where rows that nothing names have gone
  pub alike : (k : Alive) (u : World) (by : ThreadRow) → live_thread u by.number ≡ Some by → IsSoundWorld u → HasLivingPorts u → Closed k u → served (thin k u) by call ≡ served u by call
