use Rattle.std.proofs.Common.{refl}
use Rattle.lpc_rows.specs.Ready.{caller}
use Rattle.lpc_connect.proofs.Shared.{client_home}
use Rattle.lpc_connect.proofs.accept.answer_test.Goals as goal

pub returns-in-Some-clause-client : goal.returns-in-Some-clause-client
returns-in-Some-clause-client c =
    let w = c.args.world.now.rows in
    client_home w (caller w c.args.by) c.kept-message.result c.in-Some.thread (c.in-Some.ensures.found c.kept-message.result refl refl) c.in_ok-client_test.ensures.table
