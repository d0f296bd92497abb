use Rattle.std.proofs.Common.{◌∙◌, ap, is_some}
use Rattle.lpc_numbers.proofs.Nears.{some-place}
use Rattle.lpc_numbers.specs.Numbered.{is_at}
use Rattle.lpc_numbers.proofs.numbered.Numbered.has.Goals as goal

pub returns : goal.returns
returns g c = c.is_some.ensures ∙ ap is_some c.place.ensures ∙ some-place (is_at c.args.number) c.args.self.now.entries
