use Rattle.std.proofs.Common.{refl, sym, ◌∙◌}
use Rattle.lpc_ports.specs.Table.{unpaired}
use Rattle.lpc_ports.proofs.Fields.{repaired_kept, seen_changed, seen_kept}
use Rattle.lpc_ports.proofs.Named.{and_none, rows_seen}
use Rattle.lpc_ports.proofs.Ports.forget_pair.Goals as goal

pub invariant_of-self : goal.invariant_of-self
invariant_of-self c =
    repaired_kept c.self.inside.ports c.self.inside.blocks c.args.port unpaired c.self.inside.totals c.self.inside.whole c.self.inside.whole c.in-Some.row.now c.lose_paired.new.ports
    (sym c.in-Some.ensures.value) (λ _. refl) (λ _. refl) (λ holds. holds)
    c.lose_paired.ensures.rows
    c.lose_paired.ensures.connected
    (λ holds q. c.lose_paired.ensures.paired q ∙ and_none _)
    c.self.invariant

pub returns-in-Some : goal.returns-in-Some
returns-in-Some c =
    rw (← c.self.view_is)
    (rows_seen _ _ c.lose_paired.ensures.rows c.self.inside.blocks ∙ seen_changed c.self.inside.ports c.self.inside.blocks c.args.port unpaired c.in-Some.row.now (sym c.in-Some.ensures.value))

pub returns-in_default : goal.returns-in_default
returns-in_default c = rw (← c.self.view_is) (seen_kept c.self.inside.ports c.self.inside.blocks c.args.port unpaired (sym c.in_default.ensures.value))
