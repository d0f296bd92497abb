-- A marked event that goes on is mild: no thread ends by it, and none is told of. So laws on lives go through settling.
use Rattle.std.proofs.Common.{refl, ℕ, ◌≡◌, List, not, true}
use Rattle.lpc_base.specs.declared.status.Status.{Status}
use Rattle.lpc_model.proofs.Calls.Lines.{AnyWorld, Keep, Shut}
use Rattle.lpc_model.proofs.Calls.Raising.{on-holds}
use Rattle.lpc_model.proofs.Deaths.Deathless.{AreMild, mild-enter}
use Rattle.lpc_model.proofs.Lives.ThreadsOnce.{once-law}
use Rattle.lpc_model.proofs.Settling.Keeps.{settling-does, doomed-does, goes-does}
use Rattle.lpc_model.proofs.Settling.Loop.{settle-kept}
use Rattle.lpc_model.proofs.Settling.Settled.{IsReady, doomed-ready, on-ready}
use Rattle.lpc_model.proofs.Sound.Terminate.{IsSafe}
use Rattle.lpc_model.proofs.Steps.Closing.{behind}
use Rattle.lpc_model.specs.Basics.{Awaits, Basic, DrawsIdentifier, basic, first_code, left_by, world_after}
use Rattle.lpc_model.specs.Death.{code_status, end_threads}
use Rattle.lpc_model.specs.Deaths.{is_died_post}
use Rattle.lpc_model.specs.Entering.{row_of}
use Rattle.lpc_model.specs.Found.{live_threads}
use Rattle.lpc_model.specs.Lawful.{HasThreadsOnce}
use Rattle.lpc_model.specs.Raise.{Handled, Heard, Hearing, Next, Unhandled, behind_chance, event_message, event_wait, go_on, goes_on}
use Rattle.lpc_model.specs.Settle.{end_doomed, settle}
use Rattle.lpc_model.specs.Tests.{client_of}
use Rattle.lpc_model.specs.World.{Chance, FirstDebug, LastDebug, LastException, ProcessRow, Raised, ThreadRow, WaitRow, World}

pub on-mild : (w : World) (tid : ℕ) → AreMild w (go_on tid w)
on-mild w tid = on-holds (AreMild w) w tid refl (λ t x r g. at t x r (behind_chance w x.process r.handled r.chance))
  where
    undied : (t : ThreadRow) (r : Raised) (c : Chance) (h : Hearing) → not (is_died_post (row_of h.queue h.port (event_message (client_of t) t.next_identifier r.code c))) ≡ true
    undied t r FirstDebug h = refl
    undied t r LastDebug h = refl
    undied t r LastException h = refl

    at : (t : ThreadRow) (x : WaitRow) (r : Raised) (n : Next) → AreMild w (goes_on t x r n w)
    at t x r Handled = refl
    at t x r (Heard h) =
        let v : World = basic (basic (left_by x.thread w) (DrawsIdentifier t.number)) (Awaits (event_wait t r.code r.handled h)) in
        mild-enter w v (row_of h.queue h.port (event_message (client_of t) t.next_identifier r.code h.chance)) (undied t r h.chance h)
    at t x r Unhandled = refl

-- threads have one row each, and Q holds besides
abbrev Living : (World → Type 0) → World → Type 0
Living Q w = IsReady w × HasThreadsOnce w × Q w

pub on-once : (w : World) (tid : ℕ) → HasThreadsOnce w → HasThreadsOnce (behind (go_on tid) w)
on-once w tid = goes-does (Shut AnyWorld) AnyWorld (Keep HasThreadsOnce) once-law w tid

pub doomed-once : (w : World) (p : ProcessRow) → IsReady w → HasThreadsOnce w → HasThreadsOnce (behind (end_doomed p) w)
doomed-once w p r = doomed-does (Shut AnyWorld) AnyWorld (Keep HasThreadsOnce) once-law w p (record { safe = r.safe; known = tt })

module _ (Q : World → Type 0) (goes : (w : World) (bs : List Basic) → AreMild w bs → Q w → Q (world_after w bs)) (ends : (pid : ℕ) (code : Status) (w : World) → IsSafe w → HasThreadsOnce w → Q w → Q (behind (end_threads pid code (live_threads w pid)) w)) where
  doomed-lives : (w : World) (p : ProcessRow) → IsSafe w → HasThreadsOnce w → Q w → Q (behind (end_doomed p) w)
  unfolding end_doomed
  doomed-lives w p s once q = ends p.number (code_status (first_code 0 p.doom)) w s once q

  -- what mild steps keep, and threads that end, settling keeps
  pub life-settles : (v : World) → IsReady v → HasThreadsOnce v → Q v → Q (behind settle v)
  life-settles v r once q =
      (settle-kept (Living Q)
      (λ w tid later some is. (on-ready w tid later some is.0, on-once w tid is.1, goes w (go_on tid w) (on-mild w tid) is.2))
      (λ w p some is. (doomed-ready w p is.0, doomed-once w p is.0 is.1, doomed-lives w p (let r = is.0 in r.safe) is.1 is.2)) v (r, once, q)).2

pub once-settles : (v : World) → IsReady v → HasThreadsOnce v → HasThreadsOnce (behind settle v)
once-settles v r once = settling-does (Shut AnyWorld) AnyWorld (Keep HasThreadsOnce) once-law (λ w tid _ _. tt) v r tt once
