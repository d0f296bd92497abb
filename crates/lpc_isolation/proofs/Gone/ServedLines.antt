-- What holds of the steps of each line holds of those of the machine whose rows never go: a section is made by the same steps,
-- and a query is told alone.
use Rattle.lpc_model.proofs.Lives.HandleSteps.{HasLivingRows}
use Rattle.lpc_model.proofs.Steps.InTurn.{after-append}
use Rattle.lpc_model.proofs.Steps.Closing.{behind}
use Rattle.lpc_model.proofs.Standing.Steps.{inside, unmarked-names}
use Rattle.lpc_model.proofs.Sound.Terminate.{IsSafe}
use Rattle.lpc_model.proofs.Sound.MarkedLines.{marked-lines}
use Rattle.lpc_model.proofs.Settling.Settled.{IsReady, settle-ready, settles}
use Rattle.lpc_model.proofs.Settling.Life.{once-settles}
use Rattle.lpc_model.proofs.Lives.ThreadsOnce.{once-lines}
use Rattle.lpc_model.proofs.Lives.Handles.{living-lines, living-settles}
use Rattle.lpc_model.specs.Settle.{HasMarkedEvents, IsSettled, settle}
use Rattle.lpc_model.specs.Lawful.{HasThreadsOnce}
use Rattle.lpc_model.specs.AtRest.{IsLived}
use Rattle.lpc_model.specs.SingleClosings.{HasSingleClosings}
use Rattle.lpc_isolation.proofs.Calls.Deeds.{served-does}
use Rattle.lpc_isolation.proofs.Gone.Served.{own_served, served, served_ready, served_step, served_thread}
use Rattle.lpc_isolation.proofs.Rows.Firm.{Firm, firm-shut}
use Rattle.lpc_model.proofs.Calls.Holding.{settled_holds}
use Rattle.lpc_model.proofs.Calls.Lines.{AnyWorld, Keep, LineLaw, Shut, line-does}
use Rattle.lpc_model.proofs.Calls.Usable.{can-call, live-number}
use Rattle.lpc_model.proofs.Closings.SingleLines.{untold-lines, untold-settles}
use Rattle.lpc_model.proofs.Linked.Lines.{linked-lines, linked-settles}
use Rattle.lpc_model.proofs.Sound.Lines.{sound-lines}
use Rattle.lpc_model.proofs.Standing.Lines.{IsNaming, KeepNames, names-lines, names-settles}
use Rattle.lpc_model.proofs.Views.Lines.{AreSound, views-lines, views-settles}
use Rattle.lpc_model.proofs.Views.Offers.{offers-lines, offers-settles}
use Rattle.lpc_model.specs.SoundViews.{HasSoundOffers, HasSoundViews}
use Rattle.lpc_model.specs.Basics.{Basic, Tells, world_after}
use Rattle.lpc_model.specs.Found.{live_thread, wait_of}
use Rattle.lpc_model.specs.Linked.{IsLinked}
use Rattle.lpc_model.specs.Lines.{of_resident, ScriptCall, ScriptLine, boot, dir, link, run, thread, token}
use Rattle.lpc_model.specs.Machine.{name_of_call}
use Rattle.lpc_model.specs.SoundWaits.{HasShutConnects, IsSoundWorld}
use Rattle.lpc_model.specs.Standing.{NamesWhatStands}
use Rattle.lpc_model.specs.World.{ThreadRow, WaitRow, World}
use Rattle.lpc_model.specs.declared.entry.Entry.{Entry}
use Rattle.std.proofs.Common.{List, None, Option, Some, [], refl, subst, sym, ℕ, ◌∷◌, ◌≡◌}

module _ (C : World → Type 0) (P : ScriptLine → World → List Basic → Type 0) (k : LineLaw C P) (w : World) (s : IsSoundWorld w) (more : C w) (tells : (line : ScriptLine) (e : Entry) → P line w (Tells e ∷ [])) where
  ready : (by : ThreadRow) (call : ScriptCall) (o : Option WaitRow) → live_thread w by.number ≡ Some by → wait_of w by.number ≡ o → P (run by.number call) w (served_ready by call o w)
  ready by call (Some x) live busy = tells (run by.number call) _
  ready by call None live idle =
      settled_holds (P (run by.number call) w) by (name_of_call call) (served w by call)
      (served-does w by (λ call. P (run by.number call) w) (k.calls by w (record { can = can-call w by.number by live idle s; sound = s; known = more })) (λ handle r fields at. tells (run by.number _) _) call)
      (λ e _. tells (run by.number call) _)

  called : (tid : ℕ) (call : ScriptCall) (o : Option ThreadRow) → live_thread w tid ≡ o → P (run tid call) w (served_thread tid call o w)
  called tid call None none = tells (run tid call) _
  called tid call (Some by) live =
      let own : by.number ≡ tid = live-number w tid by live in
      let at : live_thread w by.number ≡ Some by = subst (λ n. live_thread w n ≡ Some by) (sym own) live in
      subst (λ n. P (run n call) w (served_ready by call (wait_of w n) w)) own (ready by call (wait_of w by.number) at refl)

  pub served-line : (line : ScriptLine) → P line w (own_served line w)
  served-line (boot pid tid name) = line-does C P k w s more (boot pid tid name)
  served-line (token name content) = line-does C P k w s more (token name content)
  served-line (thread tid pid) = line-does C P k w s more (thread tid pid)
  served-line (dir path) = line-does C P k w s more (dir path)
  served-line (link path target) = line-does C P k w s more (link path target)
  served-line (of_resident tid what had) = line-does C P k w s more (of_resident tid what had)
  served-line (run tid call) = called tid call (live_thread w tid) refl

-- what is kept by the steps of a line before the world settles
pub served-ready : (u : World) (line : ScriptLine) → Firm u → IsReady (world_after u (own_served line u))
served-ready u line f =
    let rest = f.settled in
    let unmarked : HasMarkedEvents u = rw rest.marks refl in
    let shut : HasSingleClosings (world_after u (own_served line u)) = served-line (Shut NamesWhatStands) (λ _. Keep HasSingleClosings) untold-lines u f.sound (firm-shut u f, f.names) (λ line e n. n) line f.single_closings in
    record {
      safe = record {
        sound = served-line HasShutConnects (λ _. Keep IsSoundWorld) sound-lines u f.sound (firm-shut u f) (λ line e s. s) line f.sound;
        shut = shut.connects;
      };
      marked = served-line (Shut AnyWorld) (λ _. Keep HasMarkedEvents) marked-lines u f.sound (firm-shut u f, tt) (λ line e n. n) line unmarked;
    }

-- and when it has settled
pub served-firm : (u : World) (line : ScriptLine) → Firm u → Firm (served_step u line).world
served-firm u line f = subst Firm (sym (after-append u (own_served line u) (settle v))) (record {
  sound = safe.sound;
  linked = linked-settles v (served-line AnyWorld (λ _. Keep IsLinked) linked-lines u f.sound tt (λ line e l. l) line f.linked);
  names = let t : IsSettled (behind settle v) = settles v ready in unmarked-names (behind settle v) t.marks (names-settles v ready (served-line (Shut IsNaming) (λ _. KeepNames) names-lines u f.sound (firm-shut u f, record { linked = f.linked; offers = f.offers }) (λ line e n. n) line (inside u f.names)));
  single_closings = untold-settles v ready (served-line (Shut NamesWhatStands) (λ _. Keep HasSingleClosings) untold-lines u f.sound (firm-shut u f, f.names) (λ line e n. n) line f.single_closings);
  views = views-settles v ready (served-line (Shut AreSound) (λ _. Keep HasSoundViews) views-lines u f.sound (firm-shut u f, record { views = f.views; offers = f.offers }) (λ line e n. n) line f.views);
  offers = offers-settles v ready (served-line (Shut HasSoundViews) (λ _. Keep HasSoundOffers) offers-lines u f.sound (firm-shut u f, f.views) (λ line e n. n) line f.offers);
  settled = settles v ready;
  lived = record { threads = once-settles v ready once; handles = left.handles; views = left.views; ports = left.ports };
})
  where
    v : World
    v = world_after u (own_served line u)

    ready : IsReady v
    ready = served-ready u line f

    safe : IsSafe (behind settle v)
    safe = let r : IsReady (behind settle v) = settle-ready v ready in r.safe

    lived : IsLived u
    lived = f.lived

    once : HasThreadsOnce v
    once = served-line (Shut AnyWorld) (λ _. Keep HasThreadsOnce) once-lines u f.sound (firm-shut u f, tt) (λ line e n. n) line lived.threads

    rows : HasLivingRows v
    rows = served-line (Shut HasThreadsOnce) (λ _. Keep HasLivingRows) living-lines u f.sound (firm-shut u f, lived.threads) (λ line e n. n) line (record { handles = lived.handles; views = lived.views; ports = lived.ports })

    left : HasLivingRows (behind settle v)
    left = living-settles v ready once rows
