use Rattle.std.proofs.Common.{sym, ◌∙◌}
use Rattle.lpc_base.proofs.RowWords.{count-bound}
use Rattle.lpc_procs.specs.Kept.{rows_in, thread_key}
use Rattle.lpc_procs.specs.Procs.{is_life}
use Rattle.lpc_procs.proofs.Led.{one-named}
use Rattle.lpc_procs.proofs.Placed.{one-life}
use Rattle.lpc_procs.proofs.Tables.{thread_birth, thread_number}
use Rattle.lpc_procs.proofs.procs.Procs.lives_of_thread.Goals as goal

pub returns-then-is_single-clause-count : goal.returns-then-is_single-clause-count
returns-then-is_single-clause-count c =
    let one = one-named thread_number thread_birth c.self.inside.threads (thread_key c.self.inside.used_threads.entries) c.self.invariant.found.thread_keys c.self.inside.thread_names c.self.invariant.found.threads_named (sym c.is_single.ensures ∙ c.if-is_single.true) c.args.birth in
    let first = rw (← c.self.view_is) at c.life_of_first.ensures in
    rw (← c.self.view_is) (first ∙ sym (one-life c.args.birth (rows_in c.self.inside.threads) one))

pub returns-clause-bound : goal.returns-clause-bound
returns-clause-bound c = rw (← c.self.view_is, c.count_rows.ensures) (count-bound (is_life c.args.birth) (rows_in c.self.inside.threads))
