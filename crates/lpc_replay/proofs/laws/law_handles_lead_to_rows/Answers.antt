use Rattle.lpc_replay.proofs.EveryScript.{every_handle}
use Rattle.lpc_replay.proofs.laws.law_handles_lead_to_rows.Goals as goal

pub returns : goal.returns
returns c = every_handle
