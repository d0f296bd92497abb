use Rattle.std.proofs.Common.{Ok, Err, ap, sym, ◌∙◌}
use Rattle.lpc_names.specs.declared.names.Found.TheVariants.{Directory, Item}
use Rattle.lpc_rows.specs.Shown.{tables_of}
use Rattle.lpc_rows.proofs.Connecting as connecting
use Rattle.lpc_world.proofs.world.World.named_port.Goals as goal

pub returns-in-Ok-Item-clause-port : goal.returns-in-Ok-Item-clause-port
returns-in-Ok-Item-clause-port c = rw (← c.self.view_is) (connecting.name_leads (tables_of c.self.inside.procs c.self.inside.parts.items c.self.inside.ports c.self.inside.waits c.self.inside.names c.self.inside.sections c.self.inside.tokens c.self.inside.token_names c.self.inside.marks) c.self.invariant.kept.named c.args.path.now (Ok (Item c.in-Ok-Item.port)) (sym c.lookup.ensures ∙ c.in-Ok-Item.is ∙ ap Ok c.in-Ok-Item.field-0-is))

pub returns-in-Ok-Item-clause-stands : goal.returns-in-Ok-Item-clause-stands
returns-in-Ok-Item-clause-stands c = rw (← c.self.view_is) (connecting.name_stands (tables_of c.self.inside.procs c.self.inside.parts.items c.self.inside.ports c.self.inside.waits c.self.inside.names c.self.inside.sections c.self.inside.tokens c.self.inside.token_names c.self.inside.marks) c.self.invariant.kept.named c.args.path.now c.in-Ok-Item.port (sym c.lookup.ensures ∙ c.in-Ok-Item.is ∙ ap Ok c.in-Ok-Item.field-0-is))

pub returns-in-Ok-Directory-clause-port : goal.returns-in-Ok-Directory-clause-port
returns-in-Ok-Directory-clause-port c = rw (← c.self.view_is) (connecting.name_leads (tables_of c.self.inside.procs c.self.inside.parts.items c.self.inside.ports c.self.inside.waits c.self.inside.names c.self.inside.sections c.self.inside.tokens c.self.inside.token_names c.self.inside.marks) c.self.invariant.kept.named c.args.path.now (Ok Directory) (sym c.lookup.ensures ∙ c.in-Ok-Directory.is ∙ ap Ok c.in-Ok-Directory.field-0-is))

pub returns-in-Err-clause-port : goal.returns-in-Err-clause-port
returns-in-Err-clause-port c = rw (← c.self.view_is, c.status_of.ensures) (connecting.name_leads (tables_of c.self.inside.procs c.self.inside.parts.items c.self.inside.ports c.self.inside.waits c.self.inside.names c.self.inside.sections c.self.inside.tokens c.self.inside.token_names c.self.inside.marks) c.self.invariant.kept.named c.args.path.now (Err c.in-Err.fault) (sym c.lookup.ensures ∙ c.in-Err.is))
