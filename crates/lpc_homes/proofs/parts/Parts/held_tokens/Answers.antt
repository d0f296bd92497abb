use Rattle.lpc_numbers.specs.Numbered.{numbers}
use Rattle.lpc_homes.proofs.Numbers.{tokens_told}
use Rattle.lpc_homes.proofs.parts.Parts.held_tokens.Goals as goal

pub returns : goal.returns
returns c = rw (← c.self.view_is) (tokens_told c.self.inside.parts.items (numbers c.self.inside.places.entries) c.self.inside.counts.handles c.self.inside.counts.views c.self.invariant c.held_tokens.result c.held_tokens.ensures.handles c.held_tokens.ensures.views c.held_tokens.ensures.number)
