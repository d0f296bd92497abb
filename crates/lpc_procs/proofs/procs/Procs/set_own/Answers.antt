use Rattle.std.proofs.Common.{refl}
use Rattle.lpc_procs.specs.Procs.{acting}
use Rattle.lpc_procs.proofs.Tagged.{retagged}
use Rattle.lpc_procs.proofs.Tables.{its-thread, no-thread, thread-kept, thread-rows}
use Rattle.lpc_procs.proofs.procs.Procs.set_own.Goals as goal

pub unreachable-requires : goal.unreachable-requires
unreachable-requires c = no-thread c.self.invariant c.args.tid c.thread_key.result c.thread_key.ensures c.in-None.ensures.value (rw (← c.self.view_is) at c.requires.present)

pub invariant_of-self : goal.invariant_of-self
invariant_of-self c =
    let row = c.in-Some.row.now in
    let there = its-thread c.self.invariant c.args.tid c.thread_key.result row c.thread_key.ensures c.in-Some.ensures.value in
    rw (c.thread_key.ensures) (thread-kept c.self.invariant c.args.tid row there (acting c.args.own) (record { number = λ t. refl; process = λ t. refl }) (λ t. refl) refl (λ h. h) c.self.inside.registered refl c.self.inside.tags (retagged row.registered.items c.self.inside.tags))

pub returns : goal.returns
returns c =
    let row = c.in-Some.row.now in
    let there = its-thread c.self.invariant c.args.tid c.thread_key.result row c.thread_key.ensures c.in-Some.ensures.value in
    record { table = rw (← c.self.view_is, c.thread_key.ensures, ← thread-rows c.self.invariant c.args.tid row there (acting c.args.own)) refl }
