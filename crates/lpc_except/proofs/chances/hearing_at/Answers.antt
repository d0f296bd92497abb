use Rattle.lpc_base.proofs.Births.{birth-same}
use Rattle.lpc_base.proofs.RowWords.{first-passes}
use Rattle.lpc_model.specs.Found.{is_port}
use Rattle.lpc_rows.specs.Clauses.{birth_at, port_at}
use Rattle.lpc_except.proofs.chances.hearing_at.Goals as goal

pub returns-clause-heard : goal.returns-clause-heard
returns-clause-heard c =
    let w = c.args.world.now in
    let p = port_at w c.in_ok-port.port in
    record {
      port = c.in_ok-port.ensures.stands;
      queue = c.in_ok-queue.ensures.stands;
      name = birth-same p.birth (birth_at w c.in_ok-port.port) (first-passes (is_port (birth_at w c.in_ok-port.port)) w.rows.ports p c.in_ok-queue.ensures.row);
    }
