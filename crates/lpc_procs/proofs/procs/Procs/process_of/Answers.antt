use Rattle.std.proofs.Common.{ap, option_map, refl, sym, ◌∙◌}
use Rattle.lpc_base.specs.Rows.{first}
use Rattle.lpc_procs.specs.declared.keys.Use.{Use}
use Rattle.lpc_procs.specs.Kept.{rows_in, used_rows}
use Rattle.lpc_procs.specs.Procs.{is_thread}
use Rattle.lpc_procs.proofs.Keeping.{process-noted}
use Rattle.lpc_procs.proofs.Placed.{used-at}
use Rattle.lpc_procs.proofs.procs.Procs.process_of.Goals as goal

pub returns-in-Some-clause-process : goal.returns-in-Some-clause-process
returns-in-Some-clause-process c = rw (← c.self.view_is) (ap (option_map (λ (u : Use). u.process)) (sym c.in-Some.is ∙ c.get.ensures) ∙ sym (used-at c.args.tid c.self.inside.used_threads.entries))

pub returns-in-None-clause-process : goal.returns-in-None-clause-process
returns-in-None-clause-process c = rw (← c.self.view_is) (ap (option_map (λ (u : Use). u.process)) (sym c.in-None.is ∙ c.get.ensures) ∙ sym (used-at c.args.tid c.self.inside.used_threads.entries))

pub returns-in-Some-clause-row : goal.returns-in-Some-clause-row
returns-in-Some-clause-row c =
    let told = ap (option_map (λ (u : Use). u.process)) (sym c.in-Some.is ∙ c.get.ensures) ∙ sym (used-at c.args.tid c.self.inside.used_threads.entries) in
    rw (← c.self.view_is, told) (process-noted c.args.tid (used_rows c.self.inside.used_threads.entries) (rows_in c.self.inside.threads) (first (is_thread c.args.tid) (rows_in c.self.inside.threads)) c.self.invariant.all.rows.noted refl)

pub returns-in-None-clause-row : goal.returns-in-None-clause-row
returns-in-None-clause-row c =
    let told = ap (option_map (λ (u : Use). u.process)) (sym c.in-None.is ∙ c.get.ensures) ∙ sym (used-at c.args.tid c.self.inside.used_threads.entries) in
    rw (← c.self.view_is, told) (process-noted c.args.tid (used_rows c.self.inside.used_threads.entries) (rows_in c.self.inside.threads) (first (is_thread c.args.tid) (rows_in c.self.inside.threads)) c.self.invariant.all.rows.noted refl)
