use Rattle.std.proofs.Common.{◌+◌, refl, arith}
use Rattle.lpc_procs.specs.Kept.{rows_in, used_rows}
use Rattle.lpc_numbers.specs.Numbered.{numbers}
use Rattle.lpc_procs.specs.Procs.{HasRegistrationLeft, registering, registration}
use Rattle.lpc_procs.proofs.Keeping.{registered-as}
use Rattle.lpc_procs.proofs.Tagged.{retags-more}
use Rattle.lpc_procs.proofs.Stored.{registered-few, registered-more, registers-one}
use Rattle.lpc_procs.proofs.Tables.{its-thread, no-thread, some-left, thread-first, thread-kept, thread-rows}
use Rattle.lpc_procs.proofs.procs.Procs.register.Goals as goal

pub unreachable-requires : goal.unreachable-requires
unreachable-requires c = no-thread c.self.invariant c.args.tid c.thread_key.result c.thread_key.ensures c.in-None.ensures.value (some-left HasRegistrationLeft _ (rw (← c.self.view_is) at c.requires.left))

pub push-requires : goal.push-requires
push-requires c =
    let row = c.in-Some.row.now in
    let there = its-thread c.self.invariant c.args.tid c.thread_key.result row c.thread_key.ensures c.in-Some.ensures.value in
    let left : HasRegistrationLeft row = rw (← c.self.view_is, thread-first c.self.invariant c.args.tid row there) at c.requires.left in
    (omega arith, left)

pub overflow_add-self : goal.overflow_add-self
overflow_add-self c = omega (arith, registered-few (rows_in c.self.inside.processes) (rows_in c.self.inside.threads) (numbers c.self.inside.used_processes.entries) (used_rows c.self.inside.used_threads.entries) c.self.inside.alive c.self.inside.registered c.self.invariant.all)

pub invariant_of-self : goal.invariant_of-self
invariant_of-self c =
    let row = c.in-Some.row.now in
    let there = its-thread c.self.invariant c.args.tid c.thread_key.result row c.thread_key.ensures c.in-Some.ensures.value in
    let left : HasRegistrationLeft row = rw (← c.self.view_is, thread-first c.self.invariant c.args.tid row there) at c.requires.left in
    let shown = registered-as row c.push.new.self _ c.push.ensures.items in
    let r = registration c.args.port c.args.birth in
    rw (c.thread_key.ensures, shown) (thread-kept c.self.invariant c.args.tid row there (registering r) (record { number = λ t. refl; process = λ t. refl }) (λ t. refl) refl
    (λ h. registered-more row r left) (c.self.inside.registered + 1) (registers-one c.self.inside.registered row r)
    c.add.new.self (λ whole. retags-more row.registered.items r c.self.inside.tags c.add.new.self (rw (c.tag_of.ensures) at c.add.ensures whole)))

pub returns : goal.returns
returns c =
    let row = c.in-Some.row.now in
    let there = its-thread c.self.invariant c.args.tid c.thread_key.result row c.thread_key.ensures c.in-Some.ensures.value in
    let shown = registered-as row c.push.new.self _ c.push.ensures.items in
    record { table = rw (← c.self.view_is, c.thread_key.ensures, shown, ← thread-rows c.self.invariant c.args.tid row there (registering (registration c.args.port c.args.birth))) refl }
