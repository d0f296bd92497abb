use Rattle.std.proofs.Common.{◌≡◌, ◌-◌, true, false, rules, refl, sym, arith, ◌∙◌}
use Rattle.std.proofs.lemmas.Option.{same_Some}
use Rattle.lpc_procs.specs.Kept.{is_doomed_row, rows_in, used_rows}
use Rattle.lpc_numbers.specs.Numbered.{numbers}
use Rattle.lpc_procs.specs.Procs.{ended}
use Rattle.lpc_procs.proofs.Placed.{ended-again}
use Rattle.lpc_procs.proofs.Stored.{live-there, processes-few}
use Rattle.lpc_procs.proofs.Tables.{counted-shown, counted-spare, its-thread, no-thread, thread-at, thread-ended, thread-place, thread-rows}
use Rattle.lpc_procs.proofs.procs.Procs.end_thread.Goals as goal

pub returns-then-not-row : goal.returns-then-not-row
returns-then-not-row c =
    let row = c.thread-row.result.now in
    let found = rw (← c.self.view_is) at c.thread-row.ensures in
    let off : row.live ≡ false = search (rules, c.if-not-row.true) in
    record { table = rw (← c.self.view_is, ended-again c.args.tid (rows_in c.self.inside.threads) row c.self.invariant.all.rows.single found off) refl }

pub overflow_sub-live : goal.overflow_sub-live
overflow_sub-live c =
    let row = c.thread-row.result.now in
    let there = sym (thread-at c.self.invariant c.args.tid) ∙ (rw (← c.self.view_is) at c.thread-row.ensures) in
    let place = thread-place c.self.invariant c.args.tid row there in
    let lives : row.live ≡ true = search (rules, c.if-not-row.false) in
    let counted = rw (← c.self.view_is) at c.live_count-live.ensures.count in
    omega (arith, counted, (live-there (rows_in c.self.inside.threads) place.place row place.here lives).0)

pub overflow_sub-self : goal.overflow_sub-self
overflow_sub-self c =
    let row = c.thread-row.result.now in
    let there = sym (thread-at c.self.invariant c.args.tid) ∙ (rw (← c.self.view_is) at c.thread-row.ensures) in
    let place = thread-place c.self.invariant c.args.tid row there in
    let lives : row.live ≡ true = search (rules, c.if-not-row.false) in
    omega (arith, c.self.invariant.all.living, (live-there (rows_in c.self.inside.threads) place.place row place.here lives).1)

pub recount-self-inside-requires-clause-few : goal.recount-self-inside-requires-clause-few
recount-self-inside-requires-clause-few c = processes-few (rows_in c.self.inside.processes) (rows_in c.self.inside.threads) (numbers c.self.inside.used_processes.entries) (used_rows c.self.inside.used_threads.entries) c.self.inside.alive c.self.inside.registered c.self.invariant.all is_doomed_row c.self.inside.dooms c.self.invariant.doomed

pub unreachable-requires : goal.unreachable-requires
unreachable-requires c = no-thread c.self.invariant c.args.tid c.thread_key.result c.thread_key.ensures c.in-None.ensures.value (rw (← c.self.view_is) at c.requires.present)

pub invariant_of-self : goal.invariant_of-self
invariant_of-self c =
    let row = c.thread-row.result.now in
    let there = sym (thread-at c.self.invariant c.args.tid) ∙ (rw (← c.self.view_is) at c.thread-row.ensures) in
    let place = thread-place c.self.invariant c.args.tid row there in
    let again = its-thread c.self.invariant c.args.tid c.thread_key.result c.in-Some.row.now c.thread_key.ensures c.in-Some.ensures.value in
    let same : c.in-Some.row.now ≡ row = same_Some c.in-Some.row.now row (sym again ∙ there) in
    let lives : row.live ≡ true = search (rules, c.if-not-row.false) in
    let counted = rw (← c.self.view_is) at c.live_count-live.ensures.count in
    let some = live-there (rows_in c.self.inside.threads) place.place row place.here lives in
    rw (c.thread_key.ensures, same) (thread-ended c.self.invariant c.args.tid row there lives (c.live_count-live.result - 1) (c.self.inside.alive - 1) (omega (arith, counted, some.0)) (omega (arith, c.self.invariant.all.living, some.1))
    c.recount-self-inside.new.rows (rw (c.process_key.ensures) at c.recount-self-inside.ensures.rows) c.recount-self-inside.result c.recount-self-inside.ensures.dooms c.recount-self-inside.new.children c.recount-self-inside.ensures.children)

pub returns : goal.returns
returns c =
    let row = c.thread-row.result.now in
    let there = sym (thread-at c.self.invariant c.args.tid) ∙ (rw (← c.self.view_is) at c.thread-row.ensures) in
    let again = its-thread c.self.invariant c.args.tid c.thread_key.result c.in-Some.row.now c.thread_key.ensures c.in-Some.ensures.value in
    let same : c.in-Some.row.now ≡ row = same_Some c.in-Some.row.now row (sym again ∙ there) in
    let is = rw (c.process_key.ensures) at c.recount-self-inside.ensures.rows in
    record { table = rw (← c.self.view_is, c.thread_key.ensures, same, ← thread-rows c.self.invariant c.args.tid row there ended, counted-shown c.self.invariant row.process (c.live_count-live.result - 1) c.recount-self-inside.new.rows is, counted-spare c.self.invariant row.process (c.live_count-live.result - 1) c.recount-self-inside.new.rows is) refl }
