use Rattle.std.proofs.Common.{ap, sym, ◌∙◌, option_copied, option_map}
use Rattle.lpc_waits.specs.Lent.{keyed, shown, waiting_of}
use Rattle.lpc_waits.proofs.Apart.{one_row}
use Rattle.lpc_waits.proofs.Found.{row_at, row_missed}
use Rattle.lpc_waits.proofs.Waits.find.Goals as goal

pub returns-in_err-key-clause-row : goal.returns-in_err-key-clause-row
returns-in_err-key-clause-row c =
    rw (← c.self.view_is) (ap (λ row. option_map waiting_of (option_copied row)) c.from_residual.ensures ∙ sym (row_missed c.self.inside.rows c.args.tid (sym c.in_err-key.ensures)))

pub returns-clause-row : goal.returns-clause-row
returns-clause-row c = rw (← c.self.view_is) (ap (option_map waiting_of) c.get.ensures.value ∙ sym (row_at c.self.inside.rows c.args.tid c.in_ok-key.key (sym c.in_ok-key.ensures)))

pub returns-in_err-key-clause-one : goal.returns-in_err-key-clause-one
returns-in_err-key-clause-one c = rw (← c.self.view_is) (one_row c.args.tid (shown (keyed c.self.inside.rows)) c.self.invariant.apart)

pub returns-clause-one : goal.returns-clause-one
returns-clause-one c = rw (← c.self.view_is) (one_row c.args.tid (shown (keyed c.self.inside.rows)) c.self.invariant.apart)
