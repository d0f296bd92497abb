use Rattle.std.proofs.Common.{refl}
use Rattle.lpc_sid.specs.Spelling.{spelling}
use Rattle.lpc_sid.proofs.Spelled.{read_back, spelled_read}
use Rattle.lpc_sid.proofs.laws.law_sid_has_one_spelling.Goals as goal

pub returns-clause-read_back : goal.returns-clause-read_back
returns-clause-read_back c = λ sid form. read_back (spelling sid) sid (record { form = form; is = refl })

pub returns-clause-written_back : goal.returns-clause-written_back
returns-clause-written_back c = λ text sid is. (spelled_read text sid is).is
