use Rattle.std.proofs.Common.{ap, refl, sym, ◌∙◌}
use Rattle.std.specs.Prelude.{option_map}
use Rattle.lpc_base.proofs.RowMaps.{mapped-twice}
use Rattle.lpc_base.specs.Rows.{first}
use Rattle.lpc_model.specs.Found as found
use Rattle.lpc_model.specs.World as model
use Rattle.lpc_procs.specs.Procs as procs
use Rattle.lpc_rows.specs.Shown.{shown_thread}
use Rattle.lpc_rows.proofs.Readings as readings
use Rattle.lpc_world.proofs.world.World.first_live.Goals as goal

pub returns : goal.returns
returns c = record {
  found = rw (← c.self.view_is) (ap (option_map (λ (t : model.ThreadRow). t.number)) (readings.first-shown shown_thread (procs.lives_in c.args.pid) (found.lives_in c.args.pid) (λ t. refl) c.self.inside.procs.threads)
      ∙ mapped-twice shown_thread (λ (t : model.ThreadRow). t.number) (first (procs.lives_in c.args.pid) c.self.inside.procs.threads) ∙ sym c.first_live.ensures.number);
}
