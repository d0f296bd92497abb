use Rattle.std.proofs.Common.{ap, sym, ◌∙◌, map}
use Rattle.lpc_base.specs.Rows.{every}
use Rattle.lpc_rows.specs.Shown.{all_pass, birth_of, births_of, object_stands, part_refs, shown_part, shown_space, space_refs, tables_of}
use Rattle.lpc_world.proofs.world.World.parts.Goals as goal

pub returns-clause-handles : goal.returns-clause-handles
returns-clause-handles c = rw (← c.self.view_is) (ap (map (shown_part (birth_of (births_of (tables_of c.self.inside.procs c.self.inside.parts.items c.self.inside.ports c.self.inside.waits c.self.inside.names c.self.inside.sections c.self.inside.tokens c.self.inside.token_names c.self.inside.marks))))) (sym c.items.ensures.items))

pub returns-clause-views : goal.returns-clause-views
returns-clause-views c = rw (← c.self.view_is) (ap (map (shown_space (birth_of (births_of (tables_of c.self.inside.procs c.self.inside.parts.items c.self.inside.ports c.self.inside.waits c.self.inside.names c.self.inside.sections c.self.inside.tokens c.self.inside.token_names c.self.inside.marks))))) (sym c.items.ensures.items))

pub returns-clause-handles_stand : goal.returns-clause-handles_stand
returns-clause-handles_stand c = rw (← c.self.view_is) (ap (every (all_pass part_refs (object_stands (births_of (tables_of c.self.inside.procs c.self.inside.parts.items c.self.inside.ports c.self.inside.waits c.self.inside.names c.self.inside.sections c.self.inside.tokens c.self.inside.token_names c.self.inside.marks))))) c.items.ensures.items ∙ c.self.invariant.kept.named.refs.in_handles)

pub returns-clause-views_stand : goal.returns-clause-views_stand
returns-clause-views_stand c = rw (← c.self.view_is) (ap (every (all_pass space_refs (object_stands (births_of (tables_of c.self.inside.procs c.self.inside.parts.items c.self.inside.ports c.self.inside.waits c.self.inside.names c.self.inside.sections c.self.inside.tokens c.self.inside.token_names c.self.inside.marks))))) c.items.ensures.items ∙ c.self.invariant.kept.named.refs.in_views)
