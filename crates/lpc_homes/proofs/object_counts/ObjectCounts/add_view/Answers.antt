use Rattle.std.proofs.Common.{false, refl, true}
use Rattle.lpc_homes.specs.declared.object.Object.TheVariants.{Section}
use Rattle.lpc_homes.proofs.Numbers.{came, grows-first, grows-not, view-rises}
use Rattle.lpc_homes.proofs.object_counts.ObjectCounts.add_view.Goals as goal

pub invariant_of-self : goal.invariant_of-self
invariant_of-self c =
    came c.self.inside.handles c.self.inside.views c.self.inside.handles c.add.new.self (Section c.args.view.section) c.is_unheld-is_first.result c.self.inside.held c.add-then-is_first.new.self c.self.invariant
    (λ named seen. view-rises c.self.inside.handles c.self.inside.views c.self.inside.handles c.add.new.self c.args.view named (c.add.ensures seen) refl)
    c.is_unheld-is_first.ensures
    (grows-first true c.is_unheld-is_first.result c.self.inside.held.sections c.add-then-is_first.new.self.sections c.if-is_first.true c.add-then-is_first.ensures.sections)
    (grows-first false c.is_unheld-is_first.result c.self.inside.held.tokens c.add-then-is_first.new.self.tokens c.if-is_first.true c.add-then-is_first.ensures.tokens)

pub invariant_of-self-else-is_first : goal.invariant_of-self-else-is_first
invariant_of-self-else-is_first c =
    came c.self.inside.handles c.self.inside.views c.self.inside.handles c.add.new.self (Section c.args.view.section) c.is_unheld-is_first.result c.self.inside.held c.self.inside.held c.self.invariant
    (λ named seen. view-rises c.self.inside.handles c.self.inside.views c.self.inside.handles c.add.new.self c.args.view named (c.add.ensures seen) refl)
    c.is_unheld-is_first.ensures
    (grows-not true c.is_unheld-is_first.result c.self.inside.held.sections c.if-is_first.false)
    (grows-not false c.is_unheld-is_first.result c.self.inside.held.tokens c.if-is_first.false)
