use Rattle.std.proofs.Common.{◌+◌, rules, true, None, refl, ap, sym, ◌∙◌, arith}
use Rattle.lpc_base.proofs.RowMaps.{push-map}
use Rattle.lpc_base.proofs.RowWords.{count-bound}
use Rattle.lpc_procs.specs.declared.rows.ThreadRow.{ThreadRow}
use Rattle.lpc_procs.specs.Kept.{is_doomed_row, rows_in, used_rows}
use Rattle.lpc_numbers.specs.Numbered.{numbers}
use Rattle.lpc_procs.specs.Procs.{lives_in}
use Rattle.lpc_procs.proofs.Keyed.{rows-push}
use Rattle.lpc_procs.proofs.Led.{made-few, used-few}
use Rattle.lpc_procs.proofs.Placed.{used-has}
use Rattle.lpc_procs.proofs.Stored.{alive-few, processes-few, threads-few}
use Rattle.lpc_procs.proofs.Tables.{counted-shown, counted-spare, thread-made}
use Rattle.lpc_procs.proofs.procs.Procs.add_thread.Goals as goal

pub overflow_add-live : goal.overflow_add-live
overflow_add-live c =
    let counted = rw (← c.self.view_is) at c.live_count-live.ensures.count in
    omega (arith, counted, count-bound (lives_in c.args.pid) (rows_in c.self.inside.threads), threads-few (rows_in c.self.inside.processes) (rows_in c.self.inside.threads) (numbers c.self.inside.used_processes.entries) (used_rows c.self.inside.used_threads.entries) c.self.inside.alive c.self.inside.registered c.self.invariant.all)

pub insert_reserved-key-requires-clause-few : goal.insert_reserved-key-requires-clause-few
insert_reserved-key-requires-clause-few c = omega (arith, made-few c.self.inside.threads.made (numbers c.self.inside.used_threads.entries) c.self.invariant.found.threads_made)

pub add-requires-2-clause-new : goal.add-requires-2-clause-new
add-requires-2-clause-new c =
    let new = rw (← c.self.view_is) at c.requires.new in
    sym (used-has c.args.tid c.self.inside.used_threads.entries) ∙ new

pub overflow_add-self : goal.overflow_add-self
overflow_add-self c = omega (arith, alive-few (rows_in c.self.inside.processes) (rows_in c.self.inside.threads) (numbers c.self.inside.used_processes.entries) (used_rows c.self.inside.used_threads.entries) c.self.inside.alive c.self.inside.registered c.self.invariant.all)

pub recount-self-inside-requires-clause-few : goal.recount-self-inside-requires-clause-few
recount-self-inside-requires-clause-few c = processes-few (rows_in c.self.inside.processes) (rows_in c.self.inside.threads) (numbers c.self.inside.used_processes.entries) (used_rows c.self.inside.used_threads.entries) c.self.inside.alive c.self.inside.registered c.self.invariant.all is_doomed_row c.self.inside.dooms c.self.invariant.doomed

pub process_rank-requires : goal.process_rank-requires
process_rank-requires c = used-few c.self.inside.processes.made c.self.inside.used_processes.entries c.self.invariant.found.processes_made

pub invariant_of-self : goal.invariant_of-self
invariant_of-self c =
    let t : ThreadRow = record { number = c.args.tid; process = c.args.pid; birth = c.args.birth; live = true; next_identifier = 1; next_ordinal = 1; registered = c.new.result; own = None } in
    let new = rw (← c.self.view_is) at c.requires.new in
    let home = rw (← c.self.view_is) at c.requires.process in
    let counted = rw (← c.self.view_is) at c.live_count-live.ensures.count in
    let made = c.insert_reserved-key.ensures in
    thread-made c.self.invariant t refl (search rules) c.requires.number.below new home (c.live_count-live.result + 1) (ap (λ n. n + 1) counted)
    c.recount-self-inside.new.rows (rw (c.process_key.ensures) at c.recount-self-inside.ensures.rows) c.recount-self-inside.result c.recount-self-inside.ensures.dooms c.recount-self-inside.new.children c.recount-self-inside.ensures.children
    c.insert_reserved-key.result c.insert_reserved-key.new.self made.table made.listed made.generation c.add.new.self c.add.ensures.firsts c.add.ensures.single c.add-2.new.self.entries c.add-2.ensures.entries
    c.add-3.new.self (rw (c.process_rank.ensures) at c.add-3.ensures)

pub returns : goal.returns
returns c =
    let t : ThreadRow = record { number = c.args.tid; process = c.args.pid; birth = c.args.birth; live = true; next_identifier = 1; next_ordinal = 1; registered = c.new.result; own = None } in
    let rows = rows-push c.self.inside.threads c.insert_reserved-key.new.self c.insert_reserved-key.result t c.insert_reserved-key.ensures.listed in
    let is = rw (c.process_key.ensures) at c.recount-self-inside.ensures.rows in
    record { table = rw (← c.self.view_is, rows, counted-shown c.self.invariant c.args.pid (c.live_count-live.result + 1) c.recount-self-inside.new.rows is, counted-spare c.self.invariant c.args.pid (c.live_count-live.result + 1) c.recount-self-inside.new.rows is, c.add-2.ensures.entries, push-map, c.insert_reserved-key.ensures.table, c.add.ensures.room, c.add-2.ensures.room) (search rules) }
