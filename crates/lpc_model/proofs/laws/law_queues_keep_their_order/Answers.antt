use Rattle.lpc_model.proofs.Queues.Order.{first_in_first_out, first_waiter_takes}
use Rattle.lpc_model.proofs.laws.law_queues_keep_their_order.Goals as goal

pub returns-clause-messages : goal.returns-clause-messages
returns-clause-messages c = first_in_first_out

pub returns-clause-waiters : goal.returns-clause-waiters
returns-clause-waiters c = first_waiter_takes
