use Rattle.lpc_ports.specs.declared.Port.{Port}
use Rattle.lpc_rows.specs.Shown.{all_pass, birth_of, object_stands, port_refs, shown_port}
use Rattle.lpc_snapshot.proofs.Places.{every_at, its_key, its_name, shown_at}
use Rattle.lpc_snapshot.proofs.ports.port_at.Goals as goal

pub returns-clause-row : goal.returns-clause-row
returns-clause-row c = rw c.ports.ensures.ports (shown_at (shown_port (birth_of c.args.world.now.births)) c.ports.result.now.ports c.args.place _ c.port_at.ensures)

pub returns-clause-stands : goal.returns-clause-stands
returns-clause-stands c = rw c.ports.ensures.births (its_key (λ (p : Port). p.birth) c.ports.result.now.ports (rw c.ports.ensures.births at c.ports.ensures.apart) c.args.place _ c.port_at.ensures)

pub returns-clause-name : goal.returns-clause-name
returns-clause-name c = rw c.ports.ensures.births (its_name (λ (p : Port). p.birth) c.ports.result.now.ports (rw c.ports.ensures.births at c.ports.ensures.apart) c.args.place _ c.port_at.ensures)

pub returns-clause-refs : goal.returns-clause-refs
returns-clause-refs c = every_at (all_pass port_refs (object_stands c.args.world.now.births)) c.ports.result.now.ports c.args.place _ c.ports.ensures.ports_stand c.port_at.ensures
