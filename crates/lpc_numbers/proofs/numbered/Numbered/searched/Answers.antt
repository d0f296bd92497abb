use Rattle.std.proofs.Common.{◌∙◌}
use Rattle.lpc_numbers.proofs.Lookups.{placed}
use Rattle.lpc_numbers.proofs.numbered.Numbered.searched.Goals as goal

pub returns : goal.returns
returns g c = rw (← c.self.view_is) (c.get_index_of.ensures.index ∙ placed c.args.number c.self.inside.map.entries)
