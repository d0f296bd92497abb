use Rattle.std.proofs.Common.{◌∙◌, sym}
use Rattle.lpc_numbers.proofs.Nears.{no-value, value-at-place}
use Rattle.lpc_numbers.proofs.numbered.Numbered.get.Goals as goal

pub returns-in-Some : goal.returns-in-Some
returns-in-Some g c = c.value.ensures ∙ value-at-place c.args.self.now.entries c.args.number c.in-Some.place (sym c.place.ensures ∙ c.in-Some.is)

pub returns-in-None : goal.returns-in-None
returns-in-None g c = sym (no-value c.args.self.now.entries c.args.number (sym c.place.ensures ∙ c.in-None.is))
