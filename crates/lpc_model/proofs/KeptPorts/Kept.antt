-- The step of each line keeps the ports that stood before it.
use Rattle.std.proofs.Common.{◌≡◌, Bool, not, refl, true, ◌++◌}
use Rattle.lpc_base.proofs.RowMaps.{every-both}
use Rattle.lpc_model.specs.World.{Birth, World}
use Rattle.lpc_model.specs.Basics.{Awaits, Basic, Cuts, Joins, Makes, Secures, world_after}
use Rattle.lpc_model.specs.Found.{is_open}
use Rattle.lpc_model.specs.KeptPorts.{KeepsPorts, is_answered_in}
use Rattle.lpc_model.specs.Lines.{ScriptLine}
use Rattle.lpc_model.specs.Linked.{IsLinked}
use Rattle.lpc_model.specs.Machine.{bare_steps, own_steps, step}
use Rattle.lpc_model.specs.Sweep.{sweep}
use Rattle.lpc_model.proofs.KeptPorts.Cuts.{cuts_fair, is_due}
use Rattle.lpc_model.proofs.KeptPorts.Lines.{any, line_gentle}
use Rattle.lpc_model.proofs.KeptPorts.Steps.{gentle-keeps, is_gentle}
use Rattle.lpc_model.proofs.Settling.Settled.{IsReady}
use Rattle.lpc_model.proofs.Sound.Terminate.{IsSafe}

-- a gentle step that cuts off no open port
gentle-due : (w v : World) (joins : Birth → Bool) (b : Basic) → is_gentle w joins any b ≡ true → is_due v b ≡ true → is_gentle w joins (λ c. not (is_open v c)) b ≡ true
gentle-due w v joins (Makes p) one two = one
gentle-due w v joins (Secures b s) one two = one
gentle-due w v joins (Joins client server context) one two = one
gentle-due w v joins (Awaits x) one two = one
gentle-due w v joins (Cuts b) one two = two
gentle-due w v joins b one two = refl

pub ports_kept : (w : World) (line : ScriptLine) → IsSafe w → IsLinked w → IsReady (world_after w (own_steps line w)) → KeepsPorts w (step w line).world
ports_kept w line is l ready =
    let bare = bare_steps line w in
    let bs = bare ++ sweep (world_after w bare) in
    let v = world_after w bs in
    let joins = is_answered_in w v in
    gentle-keeps w bs l (every-both (is_gentle w joins any) (is_due v) (is_gentle w joins (λ c. not (is_open v c))) (gentle-due w v joins) bs (line_gentle w line is.sound) (cuts_fair w line is ready))
