use Rattle.lpc_rows.specs.Shown.{all_pass, binding_refs, birth_of, object_stands, shown_binding}
use Rattle.lpc_snapshot.proofs.Places.{every_at, shown_at}
use Rattle.lpc_snapshot.proofs.names.binding_at.Goals as goal

pub returns-clause-row : goal.returns-clause-row
returns-clause-row c = rw c.names.ensures.bindings (shown_at (shown_binding (birth_of c.args.world.now.births)) c.names.result.now.bindings c.args.place _ c.binding_at.ensures)

pub returns-clause-refs : goal.returns-clause-refs
returns-clause-refs c = every_at (all_pass binding_refs (object_stands c.args.world.now.births)) c.names.result.now.bindings c.args.place _ c.names.ensures.stand c.binding_at.ensures
