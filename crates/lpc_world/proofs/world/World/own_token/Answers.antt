use Rattle.lpc_rows.specs.Shown.{tables_of}
use Rattle.lpc_rows.proofs.Acting.{own_is}
use Rattle.lpc_rows.proofs.Enrolling as enrolling
use Rattle.lpc_world.proofs.world.World.own_token.Goals as goal

pub own-requires : goal.own-requires
own-requires c = record { present = enrolling.stands_live (tables_of c.self.inside.procs c.self.inside.parts.items c.self.inside.ports c.self.inside.waits c.self.inside.names c.self.inside.sections c.self.inside.tokens c.self.inside.token_names c.self.inside.marks) c.self.inside.calls c.self.inside.made c.self.invariant.kept c.args.tid (rw (← c.self.view_is) at c.requires) }

pub returns : goal.returns
returns c = rw (← c.self.view_is) (own_is (tables_of c.self.inside.procs c.self.inside.parts.items c.self.inside.ports c.self.inside.waits c.self.inside.names c.self.inside.sections c.self.inside.tokens c.self.inside.token_names c.self.inside.marks) c.self.inside.calls c.self.inside.made c.self.invariant.kept c.args.tid _ (rw (← c.self.view_is) at c.requires) c.own.ensures.own)
