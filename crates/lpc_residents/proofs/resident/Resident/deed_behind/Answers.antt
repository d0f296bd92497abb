use Rattle.lpc_residents.proofs.Outcomes.{behind-acceptance, behind-refusal}
use Rattle.lpc_residents.proofs.resident.Resident.deed_behind.Goals as goal

pub returns-in_ok-stand-in-Some-clause-resolved : goal.returns-in_ok-stand-in-Some-clause-resolved
returns-in_ok-stand-in-Some-clause-resolved c =
    rw (← c.self.view_is)
    (λ groups.
    behind-acceptance _ c.args.status (record { read = c.args.read.now; groups = groups }) c.args.fields.now _ _ _ _ _ c.in-AnswersConnect.is c.in-Some.ensures c.view.ensures c.in_ok-stand-in-Some.ensures.stands c.in_ok-stand-in-Some.ensures.joined)

pub returns-in-None-clause-resolved : goal.returns-in-None-clause-resolved
returns-in-None-clause-resolved c =
    rw (← c.self.view_is)
    (λ groups.
    behind-refusal _ c.args.status (record { read = c.args.read.now; groups = groups }) c.args.fields.now _ c.in-AnswersConnect.is c.in-None.ensures)
