use Rattle.std.proofs.Common.{false, refl, true}
use Rattle.lpc_homes.specs.declared.object.Object.TheVariants.{Section}
use Rattle.lpc_homes.proofs.Numbers.{shrinks-last, shrinks-not, view-falls, went}
use Rattle.lpc_homes.proofs.object_counts.ObjectCounts.take_view.Goals as goal

pub invariant_of-self : goal.invariant_of-self
invariant_of-self c =
    went c.self.inside.handles c.self.inside.views c.self.inside.handles c.take.new.self (Section c.args.view.section) c.is_unheld.result c.self.inside.held c.take-then-is_unheld.new.self c.self.invariant
    (λ named seen. view-falls c.self.inside.handles c.self.inside.views c.self.inside.handles c.take.new.self c.args.view named (c.take.ensures seen) refl)
    c.is_unheld.ensures
    (shrinks-last true c.is_unheld.result c.self.inside.held.sections c.take-then-is_unheld.new.self.sections c.if-is_unheld.true c.take-then-is_unheld.ensures.sections)
    (shrinks-last false c.is_unheld.result c.self.inside.held.tokens c.take-then-is_unheld.new.self.tokens c.if-is_unheld.true c.take-then-is_unheld.ensures.tokens)

pub invariant_of-self-else-is_unheld : goal.invariant_of-self-else-is_unheld
invariant_of-self-else-is_unheld c =
    went c.self.inside.handles c.self.inside.views c.self.inside.handles c.take.new.self (Section c.args.view.section) c.is_unheld.result c.self.inside.held c.self.inside.held c.self.invariant
    (λ named seen. view-falls c.self.inside.handles c.self.inside.views c.self.inside.handles c.take.new.self c.args.view named (c.take.ensures seen) refl)
    c.is_unheld.ensures
    (shrinks-not true c.is_unheld.result c.self.inside.held.sections c.if-is_unheld.false)
    (shrinks-not false c.is_unheld.result c.self.inside.held.tokens c.if-is_unheld.false)
