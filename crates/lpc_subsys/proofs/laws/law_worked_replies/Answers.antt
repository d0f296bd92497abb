use Rattle.std.proofs.Common.{refl}
use Rattle.lpc_subsys.specs.Replies.{granted, number_bytes}
use Rattle.lpc_subsys.specs.Requests.{asked, asked_atom, asked_by, asked_view}
use Rattle.lpc_subsys.proofs.laws.law_worked_replies.Goals as goal

pub returns : goal.returns
unfolding asked asked_by asked_atom asked_view granted number_bytes
returns c = record { text = refl; view = refl }
