use Rattle.std.proofs.Common.{sym, ◌∙◌}
use Rattle.lpc_model.proofs.Held.FreedPort.{swept_none_world, unheld_ports}
use Rattle.lpc_sweep.proofs.freeing.free_unheld_ports.Goals as goal

pub returns-then-free_suspects-clause-rows : goal.returns-then-free_suspects-clause-rows
returns-then-free_suspects-clause-rows c =
    let w = c.free_suspects.new.world.rows in
    let ahead = c.free_suspects.ensures.ahead in
    let held = c.free_suspects.ensures.held c.if-free_suspects.true in
    sym (swept_none_world w (unheld_ports w c.free_suspects.ensures.lives held (ahead.sections c.requires.sections) (ahead.tokens c.requires.tokens))) ∙ ahead.leaves
