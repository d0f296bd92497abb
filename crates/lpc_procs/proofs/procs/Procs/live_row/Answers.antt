use Rattle.std.proofs.Common.{option_map, refl, ap, sym, ◌∙◌}
use Rattle.std.proofs.lemmas.Bool.{eqb-true}
use Rattle.lpc_base.proofs.RowWords.{first-passes}
use Rattle.lpc_procs.specs.Callers.{caller_of}
use Rattle.lpc_procs.specs.Kept.{rows_in}
use Rattle.lpc_procs.specs.Procs.{is_live_thread, is_thread}
use Rattle.lpc_procs.proofs.Placed.{first-one, live-told, none-one}
use Rattle.lpc_slots.specs.Table.{at}
use Rattle.lpc_procs.proofs.Tables.{its-thread, thread-at}
use Rattle.lpc_procs.proofs.procs.Procs.live_row.Goals as goal

pub returns-in-Some : goal.returns-in-Some
returns-in-Some c =
    let ts = rows_in c.self.inside.threads in
    let row = c.in-Some.t.now in
    let found = thread-at c.self.invariant c.args.tid ∙ its-thread c.self.invariant c.args.tid c.thread_key.result row c.thread_key.ensures c.in-Some.ensures.value in
    let own = eqb-true row.number c.args.tid (first-passes (is_thread c.args.tid) ts row found) in
    let one = first-one (is_live_thread c.args.tid) c.args.tid (λ x off. rw off refl) ts row c.self.invariant.all.rows.single found in
    record { row = rw (← c.self.view_is) (c.live_caller.ensures ∙ sym (ap (option_map caller_of) one ∙ live-told c.args.tid row own)) }

pub returns-in-None : goal.returns-in-None
returns-in-None c =
    let ts = rows_in c.self.inside.threads in
    let none = thread-at c.self.invariant c.args.tid ∙ ap (at c.self.inside.threads) (sym c.thread_key.ensures) ∙ sym c.in-None.ensures.value in
    record { row = rw (← c.self.view_is) (sym (ap (option_map caller_of) (none-one (is_live_thread c.args.tid) c.args.tid (λ x off. rw off refl) ts none))) }
