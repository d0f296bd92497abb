use Rattle.std.proofs.Common.{refl, sym, ◌∙◌}
use Rattle.lpc_model.specs.Found as found
use Rattle.lpc_model.specs.Found.{fits_as, is_table, port_row, waits_as}
use Rattle.lpc_procs.specs.Procs as procs
use Rattle.lpc_rows.specs.Shown.{shown_thread}
use Rattle.lpc_rows.proofs.Readings as readings
use Rattle.lpc_world.proofs.world.World.live_count.Goals as goal

pub returns : goal.returns
returns c =
    rw (← c.self.view_is) (c.live_count.ensures.count ∙ sym (readings.count-shown shown_thread (procs.lives_in c.args.pid) (found.lives_in c.args.pid) (λ t. refl) c.self.inside.procs.threads))
