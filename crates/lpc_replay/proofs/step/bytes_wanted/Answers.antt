use Rattle.std.proofs.Common.{sym, ◌∙◌}
use Rattle.lpc_replay.proofs.Serving.{seen_on}
use Rattle.lpc_replay.proofs.step.bytes_wanted.Goals as goal

pub returns-in-Some : goal.returns-in-Some
returns-in-Some c = c.view_bytes.ensures.bytes ∙ seen_on c.args.world.now.rows c.args.residents.now c.args.tid c.in-Some.view (sym c.in-Some.is ∙ c.view_wanted.ensures)
