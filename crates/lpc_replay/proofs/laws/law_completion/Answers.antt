use Rattle.lpc_replay.proofs.EveryScript.{every_connect, every_end, every_misfit, every_raise, every_refusal, every_removal, every_request, every_settling, every_wait}
use Rattle.lpc_replay.proofs.laws.law_completion.Goals as goal

pub returns-clause-returns : goal.returns-clause-returns
returns-clause-returns c = every_request

pub returns-clause-refused : goal.returns-clause-refused
returns-clause-refused c = every_misfit

pub returns-clause-unchanged : goal.returns-clause-unchanged
returns-clause-unchanged c = every_refusal

pub returns-clause-idle : goal.returns-clause-idle
returns-clause-idle c = every_removal

pub returns-clause-answered : goal.returns-clause-answered
returns-clause-answered c = every_connect

pub returns-clause-raised : goal.returns-clause-raised
returns-clause-raised c = every_raise

pub returns-clause-died : goal.returns-clause-died
returns-clause-died c = every_end

pub returns-clause-settled : goal.returns-clause-settled
returns-clause-settled c = every_settling

pub returns-clause-ended : goal.returns-clause-ended
returns-clause-ended c = every_wait
