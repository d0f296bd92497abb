use Rattle.std.proofs.Common.{refl, sym}
use Rattle.lpc_ports.specs.Table.{with_completed}
use Rattle.lpc_ports.proofs.Fields.{changed_kept, seen_changed, seen_kept}
use Rattle.lpc_ports.proofs.Ports.set_completed.Goals as goal
use Rattle.lpc_ports.proofs.Ports.set_completed.Goals.{in-Some, in_default}

pub invariant_of-self : goal.invariant_of-self
invariant_of-self c =
    let ports = c.self.inside.ports in
    let blocks = c.self.inside.blocks in
    elim c.match-get_mut.branch [
      | in-Some w ↦ rw w.self-inside-is (changed_kept ports blocks c.args.port (with_completed c.args.completed) c.self.inside.totals c.self.inside.whole w.in-Some.row.now (sym w.in-Some.ensures.value) (λ _. refl) (λ _. refl) (λ _. refl) c.self.invariant)
      | in_default w ↦ rw w.self-inside-is c.self.invariant
    ]

pub returns : goal.returns
returns c =
    let ports = c.self.inside.ports in
    let blocks = c.self.inside.blocks in
    elim c.match-get_mut.branch [
      | in-Some w ↦ rw (← c.self.view_is, w.self-inside-is) (seen_changed ports blocks c.args.port (with_completed c.args.completed) w.in-Some.row.now (sym w.in-Some.ensures.value))
      | in_default w ↦ rw (← c.self.view_is, w.self-inside-is) (seen_kept ports blocks c.args.port (with_completed c.args.completed) (sym w.in_default.ensures.value))
    ]
