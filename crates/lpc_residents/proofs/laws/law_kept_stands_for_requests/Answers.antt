use Rattle.lpc_residents.proofs.Kept.{kept-stands}
use Rattle.lpc_residents.proofs.laws.law_kept_stands_for_requests.Goals as goal

pub returns : goal.returns
returns c = record { stands = kept-stands }
