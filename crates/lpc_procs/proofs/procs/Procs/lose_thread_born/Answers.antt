use Rattle.std.proofs.Common.{◌≡◌, ◌-◌, false, Some, is_some, ap, refl, sym, ◌∙◌, arith, true≢false}
use Rattle.std.proofs.lemmas.Option.{same_Some}
use Rattle.lpc_base.specs.Rows.{first}
use Rattle.lpc_slots.specs.Table.{Table, at}
use Rattle.lpc_procs.specs.declared.rows.ThreadRow.{ThreadRow}
use Rattle.lpc_procs.specs.Kept.{rows_in, thread_key}
use Rattle.lpc_procs.specs.Procs.{is_thread_born}
use Rattle.lpc_procs.proofs.Tagged.{lost-none, none-lost}
use Rattle.lpc_procs.proofs.Placed.{ended-born}
use Rattle.lpc_procs.proofs.Stored.{registered-at}
use Rattle.lpc_procs.proofs.Tables.{born-thread, thread-left, thread-lost, thread-most, thread-place}
use Rattle.lpc_base.proofs.RowWords.{without_first-none}
use Rattle.lpc_procs.proofs.Led.{unmapped, used-few}
use Rattle.lpc_procs.proofs.procs.Procs.lose_thread_born.Goals as goal

pub unreachable-requires : goal.unreachable-requires
unreachable-requires c =
    let born = born-thread c.self.invariant c.args.birth c.in-Some.thread (sym c.in-Some.is ∙ (rw (← c.self.view_is) at c.thread_born.ensures.thread)) in
    true≢false (sym (ap is_some (ap (at c.self.inside.threads) c.thread_key.ensures ∙ born.3)) ∙ ap is_some (sym c.in-None-remove.ensures.value))

pub overflow_sub-self : goal.overflow_sub-self
overflow_sub-self c =
    let born = born-thread c.self.invariant c.args.birth c.in-Some.thread (sym c.in-Some.is ∙ (rw (← c.self.view_is) at c.thread_born.ensures.thread)) in
    let t = c.in-Some-remove.thread in
    let same : t ≡ born.0 = same_Some t born.0 (c.in-Some-remove.ensures.value ∙ ap (at c.self.inside.threads) c.thread_key.ensures ∙ born.3) in
    let there : at c.self.inside.threads (thread_key c.self.inside.used_threads.entries c.in-Some.thread.number) ≡ Some t = born.3 ∙ ap Some (sym same) in
    let place = thread-place c.self.invariant c.in-Some.thread.number t there in
    omega (arith, c.self.invariant.all.told, c.len-forgotten.ensures.value, registered-at (rows_in c.self.inside.threads) place.place t place.here)

pub process_rank-rank-requires : goal.process_rank-rank-requires
process_rank-rank-requires c = used-few c.self.inside.processes.made c.self.inside.used_processes.entries c.self.invariant.found.processes_made

pub invariant_of-self : goal.invariant_of-self
invariant_of-self c =
    let born = born-thread c.self.invariant c.args.birth c.in-Some.thread (sym c.in-Some.is ∙ (rw (← c.self.view_is) at c.thread_born.ensures.thread)) in
    let t = c.in-Some-remove.thread in
    let same : t ≡ born.0 = same_Some t born.0 (c.in-Some-remove.ensures.value ∙ ap (at c.self.inside.threads) c.thread_key.ensures ∙ born.3) in
    let there : at c.self.inside.threads (thread_key c.self.inside.used_threads.entries c.in-Some.thread.number) ≡ Some t = born.3 ∙ ap Some (sym same) in
    let found : first (is_thread_born c.args.birth) (rows_in c.self.inside.threads) ≡ Some t = born.1 ∙ ap Some (sym same) in
    let key : c.thread_key.result ≡ thread_key c.self.inside.used_threads.entries t.number = c.thread_key.ensures ∙ ap (thread_key c.self.inside.used_threads.entries) (sym (ap (λ (x : ThreadRow). x.number) same ∙ born.2)) in
    let place = thread-place c.self.invariant c.in-Some.thread.number t there in
    let off : t.live ≡ false = ended-born c.args.birth (rows_in c.self.inside.threads) t found (rw (← c.self.view_is) at c.requires.ended) in
    thread-lost c.self.invariant c.args.birth t found off c.remove.new.self (rw key at c.in-Some-remove.ensures.table) (rw key at c.in-Some-remove.ensures.listed)
    (c.self.inside.registered - c.len-forgotten.result) (omega (arith, c.self.invariant.all.told, c.len-forgotten.ensures.value, registered-at (rows_in c.self.inside.threads) place.place t place.here))
    c.remove_name.new.self c.remove_name.ensures.firsts c.remove_name.ensures.single
    c.remove-in-Some-remove.new.self (rw (c.process_rank-rank.ensures) at c.remove-in-Some-remove.ensures.rows) c.remove-in-Some-remove.ensures.whole
    c.give_up_if.new.self c.give_up_if.ensures.entries (lost-none c.self.inside.tags.whole t.registered.items _ _ c.give_up_if.ensures.whole (none-lost c.len-forgotten.result t.registered.items c.len-forgotten.ensures.value))

pub returns-clause-went : goal.returns-clause-went
returns-clause-went c =
    let born = born-thread c.self.invariant c.args.birth c.in-Some.thread (sym c.in-Some.is ∙ (rw (← c.self.view_is) at c.thread_born.ensures.thread)) in
    rw (← c.self.view_is) (sym (ap is_some born.1))

pub returns-clause-table : goal.returns-clause-table
returns-clause-table c =
    let born = born-thread c.self.invariant c.args.birth c.in-Some.thread (sym c.in-Some.is ∙ (rw (← c.self.view_is) at c.thread_born.ensures.thread)) in
    let t = c.in-Some-remove.thread in
    let same : t ≡ born.0 = same_Some t born.0 (c.in-Some-remove.ensures.value ∙ ap (at c.self.inside.threads) c.thread_key.ensures ∙ born.3) in
    let there : at c.self.inside.threads (thread_key c.self.inside.used_threads.entries c.in-Some.thread.number) ≡ Some t = born.3 ∙ ap Some (sym same) in
    let found : first (is_thread_born c.args.birth) (rows_in c.self.inside.threads) ≡ Some t = born.1 ∙ ap Some (sym same) in
    let key : c.thread_key.result ≡ thread_key c.self.inside.used_threads.entries t.number = c.thread_key.ensures ∙ ap (thread_key c.self.inside.used_threads.entries) (sym (ap (λ (x : ThreadRow). x.number) same ∙ born.2)) in
    rw (← c.self.view_is, thread-left c.self.invariant c.args.birth t found c.remove.new.self (rw key at c.in-Some-remove.ensures.listed)) refl

pub returns-in-None-clause-table : goal.returns-in-None-clause-table
returns-in-None-clause-table c =
    let none = unmapped _ (first (is_thread_born c.args.birth) c.args.self.now.threads) (sym c.thread_born.ensures.thread ∙ c.in-None.is) in
    rw (without_first-none (is_thread_born c.args.birth) c.args.self.now.threads none) refl

pub returns-clause-most : goal.returns-clause-most
returns-clause-most c =
    rw (← c.self.view_is, c.remove_name.ensures.room)
    (thread-most c.self.inside.threads c.remove.new.self c.self.inside.thread_names.room c.self.inside.used_threads.room (ap (λ (s : Table ThreadRow). s.spare) c.in-Some-remove.ensures.table) c.in-Some-remove.ensures.fewer)
