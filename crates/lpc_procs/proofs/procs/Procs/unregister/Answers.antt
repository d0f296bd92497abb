use Rattle.std.proofs.Common.{◌-◌, refl, arith}
use Rattle.lpc_procs.specs.Kept.{rows_in}
use Rattle.lpc_procs.specs.Procs.{is_of_birth, unregistering}
use Rattle.lpc_procs.proofs.Keeping.{registered-as}
use Rattle.lpc_procs.proofs.Tagged.{retags-less}
use Rattle.lpc_procs.proofs.Stored.{registered-at, registered-less, without-fewer}
use Rattle.lpc_procs.proofs.Tables.{its-thread, no-thread, thread-kept, thread-place, thread-rows}
use Rattle.lpc_procs.proofs.procs.Procs.unregister.Goals as goal

pub unreachable-requires : goal.unreachable-requires
unreachable-requires c = no-thread c.self.invariant c.args.tid c.thread_key.result c.thread_key.ensures c.in-None.ensures.value (rw (← c.self.view_is) at c.requires.present)

pub overflow_sub-forgotten : goal.overflow_sub-forgotten
overflow_sub-forgotten c =
    let left = rw (c.forget.ensures) at c.len.ensures.value in
    omega (arith, c.len-before.ensures.value, left, without-fewer (is_of_birth c.args.birth) c.in-Some.row.now.registered.items)

pub overflow_sub-self : goal.overflow_sub-self
overflow_sub-self c =
    let row = c.in-Some.row.now in
    let there = its-thread c.self.invariant c.args.tid c.thread_key.result row c.thread_key.ensures c.in-Some.ensures.value in
    let place = thread-place c.self.invariant c.args.tid row there in
    omega (arith, c.len-before.ensures.value, c.self.invariant.all.told, registered-at (rows_in c.self.inside.threads) place.place row place.here)

pub invariant_of-self : goal.invariant_of-self
invariant_of-self c =
    let row = c.in-Some.row.now in
    let there = its-thread c.self.invariant c.args.tid c.thread_key.result row c.thread_key.ensures c.in-Some.ensures.value in
    let place = thread-place c.self.invariant c.args.tid row there in
    let left = rw (c.forget.ensures) at c.len.ensures.value in
    let fewer = without-fewer (is_of_birth c.args.birth) row.registered.items in
    let had = registered-at (rows_in c.self.inside.threads) place.place row place.here in
    let shown = registered-as row c.forget.new.registered _ c.forget.ensures in
    rw (c.thread_key.ensures, shown) (thread-kept c.self.invariant c.args.tid row there (unregistering c.args.birth) (record { number = λ t. refl; process = λ t. refl }) (λ t. refl) refl
    (registered-less row c.args.birth) (c.self.inside.registered - (c.len-before.result - c.len.result)) (omega (arith, c.len-before.ensures.value, left, fewer, had, c.self.invariant.all.told))
    c.take_many.new.self (λ whole. retags-less row.registered.items c.args.birth (c.len-before.result - c.len.result) (omega (arith, c.len-before.ensures.value, left, fewer)) c.self.inside.tags c.take_many.new.self (rw (c.tag_of.ensures) at c.take_many.ensures.loses whole)))

pub returns : goal.returns
returns c =
    let row = c.in-Some.row.now in
    let there = its-thread c.self.invariant c.args.tid c.thread_key.result row c.thread_key.ensures c.in-Some.ensures.value in
    let shown = registered-as row c.forget.new.registered _ c.forget.ensures in
    record { table = rw (← c.self.view_is, c.thread_key.ensures, shown, ← thread-rows c.self.invariant c.args.tid row there (unregistering c.args.birth)) refl }
