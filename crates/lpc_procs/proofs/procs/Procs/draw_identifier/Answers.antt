use Rattle.std.proofs.Common.{refl, arith}
use Rattle.lpc_procs.specs.Procs.{HasIdentifierLeft, past_identifier}
use Rattle.lpc_procs.proofs.Tagged.{retagged}
use Rattle.lpc_procs.proofs.Tables.{its-thread, no-thread, some-left, thread-first, thread-kept, thread-rows}
use Rattle.lpc_procs.proofs.procs.Procs.draw_identifier.Goals as goal

pub unreachable-requires : goal.unreachable-requires
unreachable-requires c = no-thread c.self.invariant c.args.tid c.thread_key-drawer.result c.thread_key-drawer.ensures c.in-None.ensures.value (some-left HasIdentifierLeft _ (rw (← c.self.view_is) at c.requires.identifier_left))

pub overflow_add-row : goal.overflow_add-row
overflow_add-row c =
    let row = c.in-Some.row.now in
    let there = its-thread c.self.invariant c.args.tid c.thread_key-drawer.result row c.thread_key-drawer.ensures c.in-Some.ensures.value in
    let left : HasIdentifierLeft row = rw (← c.self.view_is, thread-first c.self.invariant c.args.tid row there) at c.requires.identifier_left in
    omega (arith, left)

pub returns-clause-identifier : goal.returns-clause-identifier
returns-clause-identifier c =
    let row = c.in-Some.row.now in
    let there = its-thread c.self.invariant c.args.tid c.thread_key-drawer.result row c.thread_key-drawer.ensures c.in-Some.ensures.value in
    rw (← c.self.view_is, thread-first c.self.invariant c.args.tid row there) refl

pub invariant_of-self : goal.invariant_of-self
invariant_of-self c =
    let row = c.in-Some.row.now in
    let there = its-thread c.self.invariant c.args.tid c.thread_key-drawer.result row c.thread_key-drawer.ensures c.in-Some.ensures.value in
    rw (c.thread_key-drawer.ensures) (thread-kept c.self.invariant c.args.tid row there past_identifier (record { number = λ t. refl; process = λ t. refl }) (λ t. refl) refl (λ h. h) c.self.inside.registered refl c.self.inside.tags (retagged row.registered.items c.self.inside.tags))

pub returns-clause-table : goal.returns-clause-table
returns-clause-table c =
    let row = c.in-Some.row.now in
    let there = its-thread c.self.invariant c.args.tid c.thread_key-drawer.result row c.thread_key-drawer.ensures c.in-Some.ensures.value in
    rw (← c.self.view_is, c.thread_key-drawer.ensures, ← thread-rows c.self.invariant c.args.tid row there past_identifier) refl
