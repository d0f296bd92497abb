-- An event that goes on takes steady steps.
use Rattle.std.proofs.Common.{refl, ℕ}
use Rattle.lpc_model.proofs.Calls.Raising.{on-holds}
use Rattle.lpc_model.proofs.Steps.Steady.{AreSteady, steady-enter}
use Rattle.lpc_model.specs.Basics.{Awaits, DrawsIdentifier, basic, left_by}
use Rattle.lpc_model.specs.Entering.{row_of}
use Rattle.lpc_model.specs.Raise.{Handled, Heard, Unhandled, Next, behind_chance, event_message, event_wait, go_on, goes_on}
use Rattle.lpc_model.specs.Tests.{client_of}
use Rattle.lpc_model.specs.World.{Raised, ThreadRow, WaitRow, World}

pub on-steady : (w : World) (tid : ℕ) → AreSteady (go_on tid w)
on-steady w tid = on-holds AreSteady w tid refl (λ t x r g. at t x r (behind_chance w x.process r.handled r.chance))
  where
    at : (t : ThreadRow) (x : WaitRow) (r : Raised) (n : Next) → AreSteady (goes_on t x r n w)
    at t x r Handled = refl
    at t x r (Heard h) =
        let v : World = basic (basic (left_by x.thread w) (DrawsIdentifier t.number)) (Awaits (event_wait t r.code r.handled h)) in
        steady-enter (row_of h.queue h.port (event_message (client_of t) t.next_identifier r.code h.chance)) v
    at t x r Unhandled = refl
