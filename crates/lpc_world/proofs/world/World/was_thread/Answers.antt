use Rattle.std.proofs.Common.{refl, sym, ◌∙◌}
use Rattle.std.specs.Prelude.{◌==◌}
use Rattle.lpc_procs.specs.Procs as procs
use Rattle.lpc_rows.specs.Shown.{shown_used}
use Rattle.lpc_rows.proofs.Readings as readings
use Rattle.lpc_world.proofs.world.World.was_thread.Goals as goal

pub returns : goal.returns
returns c =
    rw (← c.self.view_is) (c.was_used.ensures.used ∙ sym (readings.has-shown shown_used (procs.is_used_thread c.args.tid) (λ u. u.number == c.args.tid) (λ u. refl) c.self.inside.procs.used_threads))
