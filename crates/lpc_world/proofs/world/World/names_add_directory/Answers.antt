use Rattle.lpc_names.specs.declared.names.Found.TheVariants.{Directory}
use Rattle.lpc_names.specs.Walk.{Stands}
use Rattle.std.proofs.Common.{refl}
use Rattle.lpc_rows.specs.Shown.{tables_of}
use Rattle.lpc_rows.proofs.Bound as bound
use Rattle.lpc_world.proofs.world.World.names_add_directory.Goals as goal

pub returns-clause-bound : goal.returns-clause-bound
returns-clause-bound c = rw (← c.self.view_is) (bound.bound_clause (tables_of c.self.inside.procs c.self.inside.parts.items c.self.inside.ports c.self.inside.waits c.self.inside.names c.self.inside.sections c.self.inside.tokens c.self.inside.token_names c.self.inside.marks) c.self.invariant.kept.named c.add_directory.new.self c.args.path.now (Stands Directory) c.add_directory.result c.add_directory.ensures.bound)

pub returns-clause-refused : goal.returns-clause-refused
returns-clause-refused c = rw (← c.self.view_is) (bound.refused_clause (tables_of c.self.inside.procs c.self.inside.parts.items c.self.inside.ports c.self.inside.waits c.self.inside.names c.self.inside.sections c.self.inside.tokens c.self.inside.token_names c.self.inside.marks) c.self.invariant.kept.named c.add_directory.new.self c.args.path.now (Stands Directory) c.add_directory.result c.add_directory.ensures.refused)

pub returns-clause-kept : goal.returns-clause-kept
returns-clause-kept c =
    λ err.
    let there = rw (← c.self.view_is) at err in
    let same = bound.kept_clause (tables_of c.self.inside.procs c.self.inside.parts.items c.self.inside.ports c.self.inside.waits c.self.inside.names c.self.inside.sections c.self.inside.tokens c.self.inside.token_names c.self.inside.marks) c.self.invariant.kept.named c.add_directory.new.self c.args.path.now (Stands Directory) c.add_directory.result c.add_directory.ensures.bound c.add_directory.ensures.refused c.add_directory.ensures.left there in
    rw (← c.self.view_is, same) refl
