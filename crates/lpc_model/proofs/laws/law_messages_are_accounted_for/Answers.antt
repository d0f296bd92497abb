use Rattle.lpc_model.proofs.Account.OwnCalls.{calls_run}
use Rattle.lpc_model.proofs.Account.PlainConnects.{plain_run}
use Rattle.lpc_model.proofs.Account.Runs.{messages-accounted}
use Rattle.lpc_model.proofs.Runs.{emptied_run, withdrawn_run}
use Rattle.lpc_model.proofs.laws.law_messages_are_accounted_for.Goals as goal

pub returns : goal.returns
returns c = record { runs = messages-accounted; emptied = emptied_run; withdrawn = withdrawn_run; calls = calls_run; contexts = plain_run }
