use Rattle.lpc_numbers.specs.Numbered.{numbers}
use Rattle.lpc_homes.proofs.Numbers.{sections_told}
use Rattle.lpc_homes.proofs.parts.Parts.held_sections.Goals as goal

pub returns : goal.returns
returns c = rw (← c.self.view_is) (sections_told c.self.inside.parts.items (numbers c.self.inside.places.entries) c.self.inside.counts.handles c.self.inside.counts.views c.self.invariant c.held_sections.result c.held_sections.ensures.handles c.held_sections.ensures.views c.held_sections.ensures.number)
