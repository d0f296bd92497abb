use Rattle.std.proofs.Common.{sym, ◌∙◌}
use Rattle.lpc_rows.specs.Shown.{tables_of}
use Rattle.lpc_rows.proofs.Lives as lives
use Rattle.lpc_world.proofs.world.World.process_born.Goals as goal

pub returns : goal.returns
returns c = rw (← c.self.view_is) (c.process_born.ensures.number ∙ sym (lives.process-born (tables_of c.self.inside.procs c.self.inside.parts.items c.self.inside.ports c.self.inside.waits c.self.inside.names c.self.inside.sections c.self.inside.tokens c.self.inside.token_names c.self.inside.marks) c.args.birth))
