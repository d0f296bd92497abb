use Rattle.std.proofs.Common.{sym, subst}
use Rattle.std.specs.Prelude.{ℕ, Option}
use Rattle.lpc_rows.specs.Names.{name_of}
use Rattle.lpc_steps.specs.declared.marking.Marking.{Marking}
use Rattle.lpc_steps.specs.declared.marking.Marking.TheVariants.{SentAcross}
use Rattle.lpc_steps.proofs.Markings.{IsToMark, next-across, none-across}
use Rattle.lpc_steps.proofs.marking.first_to_mark.Goals as goal

pub returns-in_err-across-in-SentAcross-clause-found : goal.returns-in_err-across-in-SentAcross-clause-found
returns-in_err-across-in-SentAcross-clause-found c =
    let w = c.args.world.now in
    let b = name_of w.births.ports c.args.port in
    subst (λ (m : Marking). IsToMark w.rows m b c.from_residual.result) (sym c.in-SentAcross.is)
    (subst (λ (r : Option ℕ). IsToMark w.rows SentAcross b r) (sym c.from_residual.ensures) (none-across w.rows c.requires.pairs b c.in_err-across-in-SentAcross.ensures.pair))

pub returns-in_ok-across-in-SentAcross-clause-found : goal.returns-in_ok-across-in-SentAcross-clause-found
returns-in_ok-across-in-SentAcross-clause-found c =
    let w = c.args.world.now in
    let b = name_of w.births.ports c.args.port in
    subst (λ (m : Marking). IsToMark w.rows m b c.event_on-in-SentAcross.result) (sym c.in-SentAcross.is)
    (next-across w.rows c.requires.pairs b (name_of w.births.ports c.in_ok-across-in-SentAcross.field-0) c.in_ok-across-in-SentAcross.ensures.pair c.event_on-in-SentAcross.result c.event_on-in-SentAcross.ensures.found)
