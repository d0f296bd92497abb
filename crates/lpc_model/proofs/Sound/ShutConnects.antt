-- Where something ends, no connect comes to wait on an open port.
use Rattle.std.proofs.Common.{◌≡◌, List, true}
use Rattle.lpc_base.proofs.RowWords.{every-change, every-more, every-without}
use Rattle.lpc_model.specs.World.{World}
use Rattle.lpc_model.specs.Found.{waits_as, waits_at}
use Rattle.lpc_model.specs.Basics.{Accepts, AddsHandle, AddsProcess, Awaits, Basic, Dies, DropsHandle, Frees, Leaves, Receives, Wakes, basic, received, world_after}
use Rattle.lpc_model.specs.SoundWaits.{HasShutConnects}
use Rattle.lpc_model.proofs.Closings.Single.{dropped-shut, waits-more, waits_shut}
use Rattle.lpc_model.proofs.Steps.Ending.{AreEnding, is_ending}
use Rattle.lpc_model.proofs.Steps.InTurn.{steps-keep}

shut-step : (w : World) (b : Basic) → is_ending b ≡ true → HasShutConnects w → HasShutConnects (basic w b)
shut-step w (Wakes who call status fields) is shut = every-without (waits_shut w) (waits_as who) w.waits shut
shut-step w (Leaves who) is shut = every-without (waits_shut w) (waits_as who) w.waits shut
shut-step w (Dies who status) is shut = every-without (waits_shut w) (waits_as who) w.waits shut
shut-step w (Receives who queue) is shut = every-change (waits_shut w) (waits_at who queue) received (λ x one. one) w.waits shut
shut-step w (DropsHandle pid value) is shut = every-more (waits_shut w) (waits_shut (basic w (DropsHandle pid value))) (λ x. waits-more w (basic w (DropsHandle pid value)) x (dropped-shut w pid value x.port)) w.waits shut
shut-step w (Awaits x) is shut = absurd (cc)
shut-step w (Accepts who reply) is shut = absurd (cc)
shut-step w (AddsProcess p) is shut = absurd (cc)
shut-step w (AddsHandle pid h) is shut = absurd (cc)
shut-step w (Frees o) is shut = absurd (cc)
shut-step w b is shut = shut

pub shut-all : (w : World) (bs : List Basic) → AreEnding bs → HasShutConnects w → HasShutConnects (world_after w bs)
shut-all = steps-keep is_ending HasShutConnects shut-step
