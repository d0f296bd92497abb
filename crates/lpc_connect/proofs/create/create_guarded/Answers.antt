use Rattle.std.proofs.Common.{ap, ◌∙◌}
use Rattle.std.specs.Prelude.{option_copied}
use Rattle.lpc_model.specs.Basics.{world_after}
use Rattle.lpc_model.specs.Connect.{create_steps, guard_steps, making}
use Rattle.lpc_model.specs.Found.{free_handle}
use Rattle.lpc_model.specs.Tests.{next_birth}
use Rattle.lpc_model.specs.World.{Birth, ThreadRow, World}
use Rattle.lpc_rows.specs.Callers.{shown_caller}
use Rattle.lpc_rows.specs.Does.{Left}
use Rattle.lpc_connect.proofs.Created.{guarded}
use Rattle.lpc_connect.proofs.create.create_guarded.Goals as goal

pub returns-clause-takes : goal.returns-clause-takes
returns-clause-takes c =
    let w : World = c.args.world.now.rows in
    let by : ThreadRow = shown_caller c.args.by.now in
    let name = option_copied c.args.name in
    let dacl = option_copied c.args.dacl in
    let mid : Left = record { world = c.create-port.new.world.rows; entries = c.create-port.new.out.list; loose = c.create-port.new.world.loose } in
    let guard = c.guard.ensures.rows ∙ ap (λ (b : Birth). world_after mid.world (guard_steps b name dacl)) c.create-port.ensures.name in
    rw (c.guard.ensures.loose) (guarded w c.args.out.now.list c.args.world.now.loose mid c.guard.new.world.rows (next_birth by) name dacl guard (making w (next_birth by) name)
    (λ made. create_steps by made (free_handle w by.process)) c.create-port.ensures.takes)
