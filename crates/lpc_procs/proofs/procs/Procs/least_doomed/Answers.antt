use Rattle.std.proofs.Common.{◌≡◌, rules, refl, sym, ◌∙◌}
use Rattle.lpc_base.specs.Rows.{count}
use Rattle.lpc_procs.specs.Kept.{is_doomed_row, rows_in}
use Rattle.lpc_procs.proofs.Events.{doomed-counted, none-doomed}
use Rattle.lpc_procs.proofs.procs.Procs.least_doomed.Goals as goal

pub returns : goal.returns
returns c = record { process = rw (← c.self.view_is, c.least_doomed.ensures) (rw (doomed-counted (rows_in c.self.inside.threads) (rows_in c.self.inside.processes) c.self.invariant.all.counts) refl) }

pub returns-then-self-eq0 : goal.returns-then-self-eq0
returns-then-self-eq0 c =
    let zero_dooms : c.self.inside.dooms ≡ 0 = search (rules, c.if-self-eq0.true) in
    let none : count is_doomed_row (rows_in c.self.inside.processes) ≡ 0 = sym c.self.invariant.doomed ∙ zero_dooms in
    record { process = rw (← c.self.view_is) (rw (doomed-counted (rows_in c.self.inside.threads) (rows_in c.self.inside.processes) c.self.invariant.all.counts) (sym (none-doomed (rows_in c.self.inside.processes) none))) }
