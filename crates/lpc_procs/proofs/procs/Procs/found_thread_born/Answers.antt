use Rattle.std.proofs.Common.{◌≡◌, rules, true, ap, sym, ◌∙◌}
use Rattle.lpc_slots.specs.Table.{at}
use Rattle.lpc_procs.specs.Kept.{thread_key}
use Rattle.lpc_procs.proofs.Led.{none-named, row-named}
use Rattle.lpc_procs.proofs.Tables.{thread_birth, thread_number}
use Rattle.lpc_procs.proofs.procs.Procs.found_thread_born.Goals as goal

pub returns-then-not-is_single : goal.returns-then-not-is_single
returns-then-not-is_single c = rw (← c.self.view_is) c.first_row.ensures

pub returns-in-Some : goal.returns-in-Some
returns-in-Some c =
    let whole : c.self.inside.thread_names.single ≡ true = sym c.is_single.ensures ∙ search (rules, c.if-not-is_single.false) in
    rw (← c.self.view_is) (c.get.ensures.value ∙ ap (at c.self.inside.threads) c.thread_key.ensures ∙ row-named thread_number thread_birth c.self.inside.threads (thread_key c.self.inside.used_threads.entries) c.self.invariant.found.thread_keys c.self.inside.thread_names c.self.invariant.found.threads_named whole c.args.birth c.in-Some.tid (sym c.number_named.ensures ∙ c.in-Some.is))

pub returns-in-None : goal.returns-in-None
returns-in-None c =
    let whole : c.self.inside.thread_names.single ≡ true = sym c.is_single.ensures ∙ search (rules, c.if-not-is_single.false) in
    rw (← c.self.view_is) (sym (none-named thread_number thread_birth c.self.inside.threads (thread_key c.self.inside.used_threads.entries) c.self.invariant.found.thread_keys c.self.inside.thread_names c.self.invariant.found.threads_named whole c.args.birth (sym c.number_named.ensures ∙ c.in-None.is)))
