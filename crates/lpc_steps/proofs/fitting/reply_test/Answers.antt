use Rattle.std.proofs.Common.{rules}
use Rattle.lpc_steps.proofs.fitting.reply_test.Goals as goal

pub returns-in-Some-clause-found : goal.returns-in-Some-clause-found
returns-in-Some-clause-found c = rw (← c.client_test.ensures.test, c.requires.name, c.in-Some.ensures.found) (search rules)
