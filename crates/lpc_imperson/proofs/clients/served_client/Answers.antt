use Rattle.std.proofs.Common.{rules, false, true, sym, ◌∙◌}
use Rattle.lpc_imperson.specs.Calls.{headed}
use Rattle.lpc_imperson.proofs.ServedClients.{served_as, served_none}
use Rattle.lpc_rows.specs.Clauses.{port_at}
use Rattle.lpc_imperson.proofs.clients.served_client.Goals as goal

pub returns-then-not-is_waiting-clause-found : goal.returns-then-not-is_waiting-clause-found
returns-then-not-is_waiting-clause-found c =
    (served_none c.args.world.now.rows (port_at c.args.world.now c.args.port) (headed c.args.header) c.is_waiting.ensures.single (sym c.is_waiting.ensures.waits ∙ search (rules, c.if-not-is_waiting.true))).found

pub returns-then-is_served-clause-found : goal.returns-then-is_served-clause-found
returns-then-is_served-clause-found c =
    (served_as c.args.world.now.rows (port_at c.args.world.now c.args.port) (headed c.args.header) c.is_waiting.ensures.single (sym c.is_waiting.ensures.waits ∙ search (rules, c.if-not-is_waiting.false)) true (sym c.if-is_served.true ∙ c.is_served.ensures)).found

pub returns-else-is_served-clause-found : goal.returns-else-is_served-clause-found
returns-else-is_served-clause-found c =
    (served_as c.args.world.now.rows (port_at c.args.world.now c.args.port) (headed c.args.header) c.is_waiting.ensures.single (sym c.is_waiting.ensures.waits ∙ search (rules, c.if-not-is_waiting.false)) false (sym c.if-is_served.false ∙ c.is_served.ensures)).found
