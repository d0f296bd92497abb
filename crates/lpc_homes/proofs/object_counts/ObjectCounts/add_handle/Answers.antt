use Rattle.std.proofs.Common.{refl}
use Rattle.lpc_homes.specs.Numbered.{is_section, is_token}
use Rattle.lpc_homes.proofs.Numbers.{came, grows-first, grows-not, handle-rises}
use Rattle.lpc_homes.proofs.object_counts.ObjectCounts.add_handle.Goals as goal

pub invariant_of-self : goal.invariant_of-self
invariant_of-self c =
    came c.self.inside.handles c.self.inside.views c.add.new.self c.self.inside.views c.args.object c.is_unheld-is_first.result c.self.inside.held c.add-then-is_first.new.self c.self.invariant
    (λ named seen. handle-rises c.self.inside.handles c.self.inside.views c.add.new.self c.self.inside.views c.args.object seen (c.add.ensures named) refl)
    c.is_unheld-is_first.ensures
    (grows-first (is_section c.args.object) c.is_unheld-is_first.result c.self.inside.held.sections c.add-then-is_first.new.self.sections c.if-is_first.true c.add-then-is_first.ensures.sections)
    (grows-first (is_token c.args.object) c.is_unheld-is_first.result c.self.inside.held.tokens c.add-then-is_first.new.self.tokens c.if-is_first.true c.add-then-is_first.ensures.tokens)

pub invariant_of-self-else-is_first : goal.invariant_of-self-else-is_first
invariant_of-self-else-is_first c =
    came c.self.inside.handles c.self.inside.views c.add.new.self c.self.inside.views c.args.object c.is_unheld-is_first.result c.self.inside.held c.self.inside.held c.self.invariant
    (λ named seen. handle-rises c.self.inside.handles c.self.inside.views c.add.new.self c.self.inside.views c.args.object seen (c.add.ensures named) refl)
    c.is_unheld-is_first.ensures
    (grows-not (is_section c.args.object) c.is_unheld-is_first.result c.self.inside.held.sections c.if-is_first.false)
    (grows-not (is_token c.args.object) c.is_unheld-is_first.result c.self.inside.held.tokens c.if-is_first.false)
