use Rattle.std.proofs.Common.{refl}
use Rattle.lpc_homes.specs.Numbered.{is_section, is_token}
use Rattle.lpc_homes.proofs.Numbers.{handle-falls, shrinks-last, shrinks-not, went}
use Rattle.lpc_homes.proofs.object_counts.ObjectCounts.take_handle.Goals as goal

pub invariant_of-self : goal.invariant_of-self
invariant_of-self c =
    went c.self.inside.handles c.self.inside.views c.take.new.self c.self.inside.views c.args.object c.is_unheld.result c.self.inside.held c.take-then-is_unheld.new.self c.self.invariant
    (λ named seen. handle-falls c.self.inside.handles c.self.inside.views c.take.new.self c.self.inside.views c.args.object seen (c.take.ensures.loses named) refl)
    c.is_unheld.ensures
    (shrinks-last (is_section c.args.object) c.is_unheld.result c.self.inside.held.sections c.take-then-is_unheld.new.self.sections c.if-is_unheld.true c.take-then-is_unheld.ensures.sections)
    (shrinks-last (is_token c.args.object) c.is_unheld.result c.self.inside.held.tokens c.take-then-is_unheld.new.self.tokens c.if-is_unheld.true c.take-then-is_unheld.ensures.tokens)

pub invariant_of-self-else-is_unheld : goal.invariant_of-self-else-is_unheld
invariant_of-self-else-is_unheld c =
    went c.self.inside.handles c.self.inside.views c.take.new.self c.self.inside.views c.args.object c.is_unheld.result c.self.inside.held c.self.inside.held c.self.invariant
    (λ named seen. handle-falls c.self.inside.handles c.self.inside.views c.take.new.self c.self.inside.views c.args.object seen (c.take.ensures.loses named) refl)
    c.is_unheld.ensures
    (shrinks-not (is_section c.args.object) c.is_unheld.result c.self.inside.held.sections c.if-is_unheld.false)
    (shrinks-not (is_token c.args.object) c.is_unheld.result c.self.inside.held.tokens c.if-is_unheld.false)
