use Rattle.std.proofs.Common.{◌≡◌, rules, true, None, ap, option_map, sym, ◌∙◌}
use Rattle.lpc_base.specs.Rows.{first}
use Rattle.lpc_slots.specs.Table.{at}
use Rattle.lpc_procs.specs.declared.rows.Counted.{Counted}
use Rattle.lpc_procs.specs.Kept.{has_name, lives_in_first, process_key, rows_in}
use Rattle.lpc_procs.proofs.Counts.{lives-of-one}
use Rattle.lpc_procs.proofs.Led.{none-named, row-named}
use Rattle.lpc_procs.proofs.Placed.{process-born-first}
use Rattle.lpc_procs.proofs.Tables.{process_birth, process_number}
use Rattle.lpc_procs.proofs.procs.Procs.found_process_born.Goals as goal

pub returns-then-not-is_single-clause-process : goal.returns-then-not-is_single-clause-process
returns-then-not-is_single-clause-process c =
    let found = c.first_row.ensures in
    rw (← c.self.view_is) (ap (option_map (λ (p : Counted). p.row)) found ∙ sym (process-born-first c.args.birth (rows_in c.self.inside.processes)))

pub returns-then-not-is_single-clause-live : goal.returns-then-not-is_single-clause-live
returns-then-not-is_single-clause-live c =
    let found = c.first_row.ensures in
    rw (← c.self.view_is) (λ one. lives-of-one (rows_in c.self.inside.threads) c.args.birth (rows_in c.self.inside.processes) one c.self.invariant.all.counts ∙ ap lives_in_first (sym found))

pub returns-in-Some-clause-process : goal.returns-in-Some-clause-process
returns-in-Some-clause-process c =
    let whole : c.self.inside.process_names.single ≡ true = sym c.is_single.ensures ∙ search (rules, c.if-not-is_single.false) in
    let found = c.get.ensures.value ∙ ap (at c.self.inside.processes) c.process_key.ensures ∙ row-named process_number process_birth c.self.inside.processes (process_key c.self.inside.used_processes.entries) c.self.invariant.found.process_keys c.self.inside.process_names c.self.invariant.found.processes_named whole c.args.birth c.in-Some.pid (sym c.number_named.ensures ∙ c.in-Some.is) in
    rw (← c.self.view_is) (ap (option_map (λ (p : Counted). p.row)) found ∙ sym (process-born-first c.args.birth (rows_in c.self.inside.processes)))

pub returns-in-Some-clause-live : goal.returns-in-Some-clause-live
returns-in-Some-clause-live c =
    let whole : c.self.inside.process_names.single ≡ true = sym c.is_single.ensures ∙ search (rules, c.if-not-is_single.false) in
    let found = c.get.ensures.value ∙ ap (at c.self.inside.processes) c.process_key.ensures ∙ row-named process_number process_birth c.self.inside.processes (process_key c.self.inside.used_processes.entries) c.self.invariant.found.process_keys c.self.inside.process_names c.self.invariant.found.processes_named whole c.args.birth c.in-Some.pid (sym c.number_named.ensures ∙ c.in-Some.is) in
    rw (← c.self.view_is) (λ one. lives-of-one (rows_in c.self.inside.threads) c.args.birth (rows_in c.self.inside.processes) one c.self.invariant.all.counts ∙ ap lives_in_first (sym found))

pub returns-in-None-clause-process : goal.returns-in-None-clause-process
returns-in-None-clause-process c =
    let whole : c.self.inside.process_names.single ≡ true = sym c.is_single.ensures ∙ search (rules, c.if-not-is_single.false) in
    let found : None ≡ first (has_name c.args.birth) (rows_in c.self.inside.processes) = sym (none-named process_number process_birth c.self.inside.processes (process_key c.self.inside.used_processes.entries) c.self.invariant.found.process_keys c.self.inside.process_names c.self.invariant.found.processes_named whole c.args.birth (sym c.number_named.ensures ∙ c.in-None.is)) in
    rw (← c.self.view_is) (ap (option_map (λ (p : Counted). p.row)) found ∙ sym (process-born-first c.args.birth (rows_in c.self.inside.processes)))

pub returns-in-None-clause-live : goal.returns-in-None-clause-live
returns-in-None-clause-live c =
    let whole : c.self.inside.process_names.single ≡ true = sym c.is_single.ensures ∙ search (rules, c.if-not-is_single.false) in
    let found : None ≡ first (has_name c.args.birth) (rows_in c.self.inside.processes) = sym (none-named process_number process_birth c.self.inside.processes (process_key c.self.inside.used_processes.entries) c.self.invariant.found.process_keys c.self.inside.process_names c.self.invariant.found.processes_named whole c.args.birth (sym c.number_named.ensures ∙ c.in-None.is)) in
    rw (← c.self.view_is) (λ one. lives-of-one (rows_in c.self.inside.threads) c.args.birth (rows_in c.self.inside.processes) one c.self.invariant.all.counts ∙ ap lives_in_first (sym found))
