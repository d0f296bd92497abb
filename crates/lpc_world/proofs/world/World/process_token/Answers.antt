use Rattle.std.proofs.Common.{sym, ◌∙◌}
use Rattle.lpc_rows.specs.Shown.{tables_of}
use Rattle.lpc_rows.proofs.Acting.{token_is}
use Rattle.lpc_rows.proofs.Steps as steps
use Rattle.lpc_world.proofs.world.World.process_token.Goals as goal

pub token-requires : goal.token-requires
token-requires c = record { present = sym (steps.process_same (tables_of c.self.inside.procs c.self.inside.parts.items c.self.inside.ports c.self.inside.waits c.self.inside.names c.self.inside.sections c.self.inside.tokens c.self.inside.token_names c.self.inside.marks) c.self.inside.calls c.self.inside.made c.self.invariant.kept c.args.pid) ∙ (rw (← c.self.view_is) at c.requires) }

pub returns : goal.returns
returns c = rw (← c.self.view_is) (token_is (tables_of c.self.inside.procs c.self.inside.parts.items c.self.inside.ports c.self.inside.waits c.self.inside.names c.self.inside.sections c.self.inside.tokens c.self.inside.token_names c.self.inside.marks) c.args.pid c.token.result.now c.token.ensures.token)
