use Rattle.std.proofs.Common.{sym, subst}
use Rattle.lpc_slots.specs.Table.{Table}
use Rattle.lpc_ports.specs.declared.rows.PortRow.{PortRow}
use Rattle.lpc_ports.specs.declared.messages.Block.{Block}
use Rattle.lpc_ports.specs.Kept.{IsKept}
use Rattle.lpc_ports.proofs.Ordered.{roomy}
use Rattle.lpc_ports.proofs.Ports.reserve.Goals as goal

pub invariant_of-self : goal.invariant_of-self
invariant_of-self c =
    subst (λ (p : Table PortRow). IsKept p c.self.inside.blocks c.self.inside.totals c.self.inside.whole) (sym c.reserve.ensures.kept)
    (record {
      order = roomy c.self.inside.ports c.self.inside.blocks c.reserve.new.self.spare c.self.inside.blocks.spare c.self.invariant.order;
      totals = c.self.invariant.totals;
      names = record { paired = c.self.invariant.names.paired; connected = c.self.invariant.names.connected };
    })

pub invariant_of-self-2 : goal.invariant_of-self-2
invariant_of-self-2 c =
    subst (λ (p : Table PortRow). IsKept p c.reserve-2.new.self c.self.inside.totals c.self.inside.whole) (sym c.reserve.ensures.kept)
    (subst (λ (b : Table Block). IsKept (record c.self.inside.ports { spare = c.reserve.new.self.spare }) b c.self.inside.totals c.self.inside.whole) (sym c.reserve-2.ensures.kept)
    (record {
      order = roomy c.self.inside.ports c.self.inside.blocks c.reserve.new.self.spare c.reserve-2.new.self.spare c.self.invariant.order;
      totals = c.self.invariant.totals;
      names = record { paired = c.self.invariant.names.paired; connected = c.self.invariant.names.connected };
    }))
