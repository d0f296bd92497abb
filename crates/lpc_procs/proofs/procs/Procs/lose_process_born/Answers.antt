use Rattle.std.proofs.Common.{◌≡◌, ◌-◌, ◌&&◌, not, Some, is_some, option_map, ap, refl, sym, ◌∙◌, arith, true≢false}
use Rattle.std.proofs.lemmas.Option.{same_Some}
use Rattle.lpc_base.specs.Rows.{first}
use Rattle.lpc_slots.specs.Table.{Table, at}
use Rattle.lpc_procs.specs.declared.rows.Counted.{Counted}
use Rattle.lpc_procs.specs.Kept.{has_name, is_doomed_row, is_watched, process_key, rows_in}
use Rattle.lpc_procs.proofs.Placed.{process-born-first}
use Rattle.lpc_procs.proofs.Tables.{born-process, process-left, process-lost, process-most, process-one}
use Rattle.lpc_base.proofs.RowWords.{without_first-none}
use Rattle.lpc_procs.proofs.Led.{unmapped}
use Rattle.lpc_procs.specs.Procs.{is_process_born}
use Rattle.lpc_procs.proofs.procs.Procs.lose_process_born.Goals as goal

pub unreachable-requires : goal.unreachable-requires
unreachable-requires c =
    let born = born-process c.self.invariant c.args.birth c.in-Some.pid (sym c.in-Some.is ∙ (rw (← c.self.view_is) at c.process_born.ensures.number)) in
    true≢false (sym (ap is_some (ap (at c.self.inside.processes) c.process_key.ensures ∙ born.3)) ∙ ap is_some (sym c.in-None-remove.ensures.value))

pub overflow_sub-self : goal.overflow_sub-self
overflow_sub-self c =
    let born = born-process c.self.invariant c.args.birth c.in-Some.pid (sym c.in-Some.is ∙ (rw (← c.self.view_is) at c.process_born.ensures.number)) in
    let p = c.in-Some-remove.process in
    let same : p ≡ born.0 = same_Some p born.0 (c.in-Some-remove.ensures.value ∙ ap (at c.self.inside.processes) c.process_key.ensures ∙ born.3) in
    let there : at c.self.inside.processes (process_key c.self.inside.used_processes.entries c.in-Some.pid) ≡ Some p = born.3 ∙ ap Some (sym same) in
    omega (arith, c.self.invariant.doomed, c.doomed_count.ensures.count, process-one c.self.invariant c.in-Some.pid p there is_doomed_row)

pub overflow_sub-self-in-Some-remove : goal.overflow_sub-self-in-Some-remove
overflow_sub-self-in-Some-remove c =
    let born = born-process c.self.invariant c.args.birth c.in-Some.pid (sym c.in-Some.is ∙ (rw (← c.self.view_is) at c.process_born.ensures.number)) in
    let p = c.in-Some-remove.process in
    let same : p ≡ born.0 = same_Some p born.0 (c.in-Some-remove.ensures.value ∙ ap (at c.self.inside.processes) c.process_key.ensures ∙ born.3) in
    let there : at c.self.inside.processes (process_key c.self.inside.used_processes.entries c.in-Some.pid) ≡ Some p = born.3 ∙ ap Some (sym same) in
    omega (arith, c.self.invariant.watchers, c.watched_count.ensures, process-one c.self.invariant c.in-Some.pid p there is_watched)

pub invariant_of-self : goal.invariant_of-self
invariant_of-self c =
    let born = born-process c.self.invariant c.args.birth c.in-Some.pid (sym c.in-Some.is ∙ (rw (← c.self.view_is) at c.process_born.ensures.number)) in
    let p = c.in-Some-remove.process in
    let same : p ≡ born.0 = same_Some p born.0 (c.in-Some-remove.ensures.value ∙ ap (at c.self.inside.processes) c.process_key.ensures ∙ born.3) in
    let there : at c.self.inside.processes (process_key c.self.inside.used_processes.entries c.in-Some.pid) ≡ Some p = born.3 ∙ ap Some (sym same) in
    let found : first (has_name c.args.birth) (rows_in c.self.inside.processes) ≡ Some p = born.1 ∙ ap Some (sym same) in
    let key : c.process_key.result ≡ process_key c.self.inside.used_processes.entries p.row.number = c.process_key.ensures ∙ ap (process_key c.self.inside.used_processes.entries) (sym (ap (λ (q : Counted). q.row.number) same ∙ born.2)) in
    process-lost c.self.invariant c.args.birth p found c.remove.new.self (rw key at c.in-Some-remove.ensures.table) (rw key at c.in-Some-remove.ensures.listed)
    (c.self.inside.dooms - c.doomed_count.result) (c.self.inside.watched - c.watched_count.result)
    (omega (arith, c.self.invariant.doomed, c.doomed_count.ensures.count, process-one c.self.invariant c.in-Some.pid p there is_doomed_row))
    (omega (arith, c.self.invariant.watchers, c.watched_count.ensures, process-one c.self.invariant c.in-Some.pid p there is_watched))
    c.give_up_if.new.self c.give_up_if.ensures.entries (c.give_up_if.ensures.whole ∙ ap (λ b. c.self.inside.children.whole && not b) c.is_peopled.ensures)
    c.remove_name.new.self c.remove_name.ensures.firsts c.remove_name.ensures.single
    c.give_up_if-in-Some-remove.new.self c.give_up_if-in-Some-remove.ensures.entries (c.give_up_if-in-Some-remove.ensures.whole ∙ ap (λ b. c.self.inside.told_tags.whole && not b) c.is_watched.ensures)

pub returns-clause-went : goal.returns-clause-went
returns-clause-went c =
    let born = born-process c.self.invariant c.args.birth c.in-Some.pid (sym c.in-Some.is ∙ (rw (← c.self.view_is) at c.process_born.ensures.number)) in
    rw (← c.self.view_is) (sym (ap is_some (process-born-first c.args.birth (rows_in c.self.inside.processes) ∙ ap (option_map (λ (q : Counted). q.row)) born.1)))

pub returns-clause-table : goal.returns-clause-table
returns-clause-table c =
    let born = born-process c.self.invariant c.args.birth c.in-Some.pid (sym c.in-Some.is ∙ (rw (← c.self.view_is) at c.process_born.ensures.number)) in
    let p = c.in-Some-remove.process in
    let same : p ≡ born.0 = same_Some p born.0 (c.in-Some-remove.ensures.value ∙ ap (at c.self.inside.processes) c.process_key.ensures ∙ born.3) in
    let there : at c.self.inside.processes (process_key c.self.inside.used_processes.entries c.in-Some.pid) ≡ Some p = born.3 ∙ ap Some (sym same) in
    let found : first (has_name c.args.birth) (rows_in c.self.inside.processes) ≡ Some p = born.1 ∙ ap Some (sym same) in
    let key : c.process_key.result ≡ process_key c.self.inside.used_processes.entries p.row.number = c.process_key.ensures ∙ ap (process_key c.self.inside.used_processes.entries) (sym (ap (λ (q : Counted). q.row.number) same ∙ born.2)) in
    rw (← c.self.view_is, process-left c.self.invariant c.args.birth p found c.remove.new.self (rw key at c.in-Some-remove.ensures.listed)) refl

pub returns-in-None-clause-table : goal.returns-in-None-clause-table
returns-in-None-clause-table c =
    let none = unmapped _ (first (is_process_born c.args.birth) c.args.self.now.processes) (sym c.process_born.ensures.number ∙ c.in-None.is) in
    rw (without_first-none (is_process_born c.args.birth) c.args.self.now.processes none) refl

pub returns-clause-most : goal.returns-clause-most
returns-clause-most c =
    rw (← c.self.view_is, c.remove_name.ensures.room)
    (process-most c.self.inside.processes c.remove.new.self c.self.inside.process_names.room c.self.inside.used_processes.room (ap (λ (s : Table Counted). s.spare) c.in-Some-remove.ensures.table) c.in-Some-remove.ensures.fewer)
