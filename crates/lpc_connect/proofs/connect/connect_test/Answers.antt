use Rattle.std.proofs.Common.{ap, refl}
use Rattle.lpc_model.specs.Connect.{nt_connect_port}
use Rattle.lpc_model.specs.Tests.{next_birth}
use Rattle.lpc_model.specs.World.{ThreadRow}
use Rattle.lpc_procs.specs.declared.rows.Caller.{Caller}
use Rattle.lpc_rows.specs.Ready.{caller}
use Rattle.lpc_connect.proofs.connect.connect_test.Goals as goal

pub returns-in-Err-clause-refused : goal.returns-in-Err-clause-refused
unfolding nt_connect_port
returns-in-Err-clause-refused c =
    let t : ThreadRow = caller c.args.world.now.rows c.args.by.now.number in
    let own = ap (λ (k : Caller). k.process) c.requires.row in
    let full = rw own at c.in_ok-handles_test.ensures.full in
    let test = rw own at (c.in-Err.ensures.test (next_birth t)) in
    rw (c.in_ok-wanted.ensures.test, ← c.in_ok-info_test.ensures.test, c.in_ok-offer.ensures.test, c.in_ok-connection.ensures.port, ← c.in_ok-access_test.ensures.test, ← full, test) refl
