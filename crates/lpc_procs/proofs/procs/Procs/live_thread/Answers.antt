use Rattle.std.proofs.Common.{is_some, refl, ap, sym, ◌∙◌}
use Rattle.lpc_procs.specs.Kept.{rows_in}
use Rattle.lpc_procs.specs.Procs.{is_live_client}
use Rattle.lpc_procs.proofs.Placed.{first-one, none-one, some-if}
use Rattle.lpc_slots.specs.Table.{at}
use Rattle.lpc_procs.proofs.Tables.{its-thread, thread-at}
use Rattle.lpc_procs.proofs.procs.Procs.live_thread.Goals as goal

pub returns-in-Some : goal.returns-in-Some
returns-in-Some c =
    let ts = rows_in c.self.inside.threads in
    let row = c.in-Some.t.now in
    let found = thread-at c.self.invariant c.args.client.thread ∙ its-thread c.self.invariant c.args.client.thread c.thread_key.result row c.thread_key.ensures c.in-Some.ensures.value in
    let one = first-one (is_live_client c.args.client) c.args.client.thread (λ x off. rw off refl) ts row c.self.invariant.all.rows.single found in
    record { live = rw (← c.self.view_is) (c.is_client.ensures ∙ sym (ap is_some one ∙ some-if (is_live_client c.args.client row) row)) }

pub returns-in-None : goal.returns-in-None
returns-in-None c =
    let ts = rows_in c.self.inside.threads in
    let none = thread-at c.self.invariant c.args.client.thread ∙ ap (at c.self.inside.threads) (sym c.thread_key.ensures) ∙ sym c.in-None.ensures.value in
    record { live = rw (← c.self.view_is) (sym (ap is_some (none-one (is_live_client c.args.client) c.args.client.thread (λ x off. rw off refl) ts none))) }
