use Rattle.std.proofs.Common.{refl, arith, option_to_list, ◌+◌, ◌-◌}
use Rattle.lpc_procs.specs.Kept.{is_watched, rows_in, used_rows}
use Rattle.lpc_numbers.specs.Numbered.{numbers}
use Rattle.lpc_procs.specs.Procs.{debugged, registration}
use Rattle.lpc_procs.proofs.Tagged.{retags-front}
use Rattle.lpc_procs.proofs.Stored.{processes-few}
use Rattle.lpc_procs.proofs.Tables.{its-process, no-process, process-kept, process-one, process-shown}
use Rattle.lpc_procs.proofs.procs.Procs.set_debug_port.Goals as goal

pub unreachable-requires : goal.unreachable-requires
unreachable-requires c = no-process c.self.invariant c.args.pid c.process_key.result c.process_key.ensures c.in-None.ensures.value (rw (← c.self.view_is) at c.requires.present)

pub overflow_sub-others : goal.overflow_sub-others
overflow_sub-others c =
    let p = c.in-Some.process.now in
    let there = its-process c.self.invariant c.args.pid c.process_key.result p c.process_key.ensures c.in-Some.ensures.value in
    omega (arith, c.self.invariant.watchers, c.watched_count.ensures, process-one c.self.invariant c.args.pid p there is_watched)

pub overflow_add-self : goal.overflow_add-self
overflow_add-self c =
    let few = processes-few (rows_in c.self.inside.processes) (rows_in c.self.inside.threads) (numbers c.self.inside.used_processes.entries) (used_rows c.self.inside.used_threads.entries) c.self.inside.alive c.self.inside.registered c.self.invariant.all is_watched c.self.inside.watched c.self.invariant.watchers in
    omega (arith, few)

pub invariant_of-self : goal.invariant_of-self
invariant_of-self c =
    let p = c.in-Some.process.now in
    let there = its-process c.self.invariant c.args.pid c.process_key.result p c.process_key.ensures c.in-Some.ensures.value in
    rw (c.process_key.ensures) (process-kept c.self.invariant c.args.pid p there (debugged (registration c.args.port c.args.birth)) (record { number = λ p. refl; birth = λ p. refl; maker = λ p. refl }) c.self.inside.dooms (c.self.inside.watched - c.watched_count.result + 1) refl (omega (arith, c.self.invariant.watchers, c.watched_count.ensures, process-one c.self.invariant c.args.pid p there is_watched))
    c.add.new.self (λ whole.
    let more = rw (c.tag_of.ensures) at c.add.ensures whole in
    retags-front c.self.inside.told_tags c.untag.new.tally c.add.new.self (option_to_list p.row.debug_port) (option_to_list p.row.exception_port) (registration c.args.port c.args.birth) (c.untag.ensures more.whole) more))

pub returns : goal.returns
returns c =
    let p = c.in-Some.process.now in
    let there = its-process c.self.invariant c.args.pid c.process_key.result p c.process_key.ensures c.in-Some.ensures.value in
    record { table = rw (← c.self.view_is, c.process_key.ensures, ← process-shown c.self.invariant c.args.pid p there (debugged (registration c.args.port c.args.birth))) refl }
