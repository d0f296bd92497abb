-- What each world of a run keeps by itself, whatever the group.
use Rattle.lpc_model.specs.Left.{HasLivingPorts}
use Rattle.std.proofs.Common.{refl, arith}
use Rattle.lpc_model.specs.AtRest.{IsAtRest, IsLived}
use Rattle.lpc_model.specs.Basics.{world_after}
use Rattle.lpc_model.specs.Lines.{ScriptLine}
use Rattle.lpc_model.specs.Linked.{IsLinked}
use Rattle.lpc_model.specs.Machine.{bare_steps, step}
use Rattle.lpc_model.specs.Settle.{IsSettled}
use Rattle.lpc_model.specs.SingleClosings.{HasSingleClosings}
use Rattle.lpc_model.specs.SoundViews.{HasSoundOffers, HasSoundViews}
use Rattle.lpc_model.specs.SoundWaits.{HasShutConnects, IsSoundWorld}
use Rattle.lpc_model.specs.Standing.{NamesWhatStands}
use Rattle.lpc_model.specs.World.{World, no_rows}
use Rattle.lpc_model.proofs.Closings.SingleLines.{untold_none}
use Rattle.lpc_model.proofs.Linked.Lines.{bare_linked, linked_none, linked_step}
use Rattle.lpc_model.proofs.Lives.Handles.{living_step}
use Rattle.lpc_model.proofs.Lives.HandleSteps.{HasLivingRows}
use Rattle.lpc_model.proofs.Lives.ThreadsOnce.{once_line, once_step}
use Rattle.lpc_model.proofs.Runs.{closings_step, lawful-ready, naming_step, offering_step, settles_step, sound_step, viewing_step}
use Rattle.lpc_model.proofs.Settling.Keeps.{bare-ready}
use Rattle.lpc_model.proofs.Settling.Settled.{IsReady}
use Rattle.lpc_model.proofs.Sound.Lines.{sound_none}
use Rattle.lpc_model.proofs.Standing.Lines.{names_none}
use Rattle.lpc_model.proofs.Views.Lines.{views_none}

-- waits are sound, ports are linked, what rows name stands, closings are told once, views and what connects offer are
-- sound, nothing is left to settle, and living processes alone have what counts for others
pub record Firm (w : World) : Type 0 where
  pub sound : IsSoundWorld w
  pub linked : IsLinked w
  pub names : NamesWhatStands w
  pub single_closings : HasSingleClosings w
  pub views : HasSoundViews w
  pub offers : HasSoundOffers w
  pub settled : IsSettled w
  pub lived : IsLived w

-- so no connect waits on an open port, and the world is at rest
pub firm-shut : (w : World) → Firm w → HasShutConnects w
firm-shut w f = let t = f.single_closings in t.connects

pub firm-rest : (w : World) → Firm w → IsAtRest w
firm-rest w f = record { sound = f.sound; names = f.names; single_closings = f.single_closings; settled = f.settled }

-- before the first line, and behind each, before and behind the sweep
pub firm_none : Firm no_rows
firm_none = record {
  sound = sound_none;
  linked = linked_none;
  names = names_none;
  single_closings = untold_none;
  views = views_none;
  offers = refl;
  settled = record { marks = refl; doomed = refl };
  lived = record { threads = λ n. omega arith; handles = refl; views = refl; ports = refl };
}

pub record IsFirmLine (w : World) : Type 0 where
  pub sound : IsSoundWorld w
  pub linked : IsLinked w
  pub ports : HasLivingPorts w

pub firm-line : (w : World) (line : ScriptLine) → Firm w → IsFirmLine (world_after w (bare_steps line w))
firm-line w line f =
    let own = lawful-ready w line (firm-rest w f) in
    let ready : IsReady (world_after w (bare_steps line w)) = bare-ready w line own in
    let safe = ready.safe in
    let e = f.lived in
    let after = once_line w line f.sound (firm-shut w f) e.threads in
    let living = living_step w line (record { sound = f.sound; shut = firm-shut w f }) e.threads after own (record { handles = e.handles; views = e.views; ports = e.ports }) in
    let left : HasLivingRows (world_after w (bare_steps line w)) = living.0 in
    record { sound = safe.sound; linked = bare_linked w line f.sound f.linked; ports = left.ports }

pub firm-step : (w : World) (line : ScriptLine) → Firm w → Firm (step w line).world
firm-step w line f =
    let t = firm-rest w f in
    let e = f.lived in
    let ready = lawful-ready w line t in
    let after = once_line w line f.sound (firm-shut w f) e.threads in
    let living = living_step w line (record { sound = f.sound; shut = firm-shut w f }) e.threads after ready (record { handles = e.handles; views = e.views; ports = e.ports }) in
    let left : HasLivingRows (step w line).world = living.1 in
    record {
      sound = sound_step w line t;
      linked = linked_step w line f.sound ready f.linked;
      names = naming_step w line t f.linked f.offers;
      single_closings = closings_step w line t;
      views = viewing_step w line t f.offers f.views;
      offers = offering_step w line t f.views f.offers;
      settled = settles_step w line t;
      lived = record { threads = once_step w line f.sound (firm-shut w f) ready e.threads; handles = left.handles; views = left.views; ports = left.ports };
    }
