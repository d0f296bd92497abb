use Rattle.std.proofs.Common.{ap, sym, ◌∙◌, option_map}
use Rattle.lpc_rows.specs.Shown.{shown_raised, tables_of}
use Rattle.lpc_rows.proofs.Raised as raised
use Rattle.lpc_world.proofs.world.World.raised.Goals as goal

pub returns : goal.returns
returns c = record { raised = rw (← c.self.view_is) (ap (option_map shown_raised) c.raised.ensures.raised ∙ sym (raised.raised-is (tables_of c.self.inside.procs c.self.inside.parts.items c.self.inside.ports c.self.inside.waits c.self.inside.names c.self.inside.sections c.self.inside.tokens c.self.inside.token_names c.self.inside.marks) c.self.inside.calls c.self.inside.made c.self.invariant.kept c.args.tid)) }
