use Rattle.std.proofs.Common.{◌≡◌, sym, ◌∙◌}
use Rattle.std.specs.Prelude.{◌==◌}
use Rattle.std.proofs.lemmas.Bool.{and_parts, eqb-true}
use Rattle.lpc_numbers.specs.Tally.{count_in}
use Rattle.lpc_world.specs.PortNames.{number_of}
use Rattle.lpc_world.proofs.Told.{none_goes}
use Rattle.lpc_world.proofs.port_names.PortNames.unbind_all.Goals as goal

pub returns-then-has_none-clause-bindings : goal.returns-then-has_none-clause-bindings
returns-then-has_none-clause-bindings c =
    let rows = c.self.inside.names.bindings in
    let tally = c.self.inside.tally in
    let number = number_of c.args.port in
    let asked = rw (c.number_of.ensures) at c.has_none.ensures in
    let both = and_parts tally.whole (count_in tally.entries number == 0) (sym asked ∙ c.if-has_none.true) in
    let none : count_in tally.entries number ≡ 0 = eqb-true (count_in tally.entries number) 0 both.1 in
    rw (← c.self.view_is) (sym (none_goes c.args.port rows (sym (c.self.invariant both.0 number) ∙ none)))
