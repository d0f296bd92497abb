use Rattle.std.proofs.Common.{sym, arith}
use Rattle.lpc_procs.specs.Kept.{counting, is_doomed_row, is_peopled_child, rows_in}
use Rattle.lpc_procs.proofs.Events.{count-written, one-counts}
use Rattle.lpc_procs.proofs.Keyed.{placed}
use Rattle.lpc_procs.proofs.lists.recount.Goals as goal

pub overflow_sub-others : goal.overflow_sub-others
overflow_sub-others c =
    let p = c.in-Some.process.now in
    let here = placed c.args.rows.now c.args.key p (sym c.in-Some.ensures.value) in
    omega (arith, c.requires.dooms, c.doomed_count.ensures.count, one-counts is_doomed_row (rows_in c.args.rows.now) here.place p here.here)

pub returns-in-Some-clause-dooms : goal.returns-in-Some-clause-dooms
returns-in-Some-clause-dooms c =
    let p = c.in-Some.process.now in
    let here = placed c.args.rows.now c.args.key p (sym c.in-Some.ensures.value) in
    rw (here.writes (counting c.args.live p))
    (omega (arith, c.requires.dooms, c.doomed_count.ensures.count, c.doomed_count-in-Some.ensures.count, one-counts is_doomed_row (rows_in c.args.rows.now) here.place p here.here, count-written is_doomed_row (rows_in c.args.rows.now) here.place p (counting c.args.live p) here.here))

pub returns-in-Some-clause-children : goal.returns-in-Some-clause-children
returns-in-Some-clause-children c = λ whole pid.
    let p = c.in-Some.process.now in
    let here = placed c.args.rows.now c.args.key p (sym c.in-Some.ensures.value) in
    let told = c.retell.ensures whole in
    rw (here.writes (counting c.args.live p))
    (omega (arith, told.counts pid, c.requires.children told.whole pid, count-written (is_peopled_child pid) (rows_in c.args.rows.now) here.place p (counting c.args.live p) here.here))
