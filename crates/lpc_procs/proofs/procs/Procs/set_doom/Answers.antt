use Rattle.std.proofs.Common.{◌+◌, ◌-◌, refl, arith}
use Rattle.lpc_procs.specs.Kept.{is_doomed_row, rows_in, used_rows}
use Rattle.lpc_numbers.specs.Numbered.{numbers}
use Rattle.lpc_procs.specs.Procs.{doomed, event_ports_of}
use Rattle.lpc_procs.proofs.Tagged.{retagged}
use Rattle.lpc_procs.proofs.Stored.{processes-few}
use Rattle.lpc_procs.proofs.Tables.{its-process, no-process, process-kept, process-one, process-shown}
use Rattle.lpc_procs.proofs.procs.Procs.set_doom.Goals as goal

pub unreachable-requires : goal.unreachable-requires
unreachable-requires c = no-process c.self.invariant c.args.pid c.process_key.result c.process_key.ensures c.in-None.ensures.value (rw (← c.self.view_is) at c.requires.present)

pub overflow_sub-others : goal.overflow_sub-others
overflow_sub-others c =
    let p = c.in-Some.process.now in
    let there = its-process c.self.invariant c.args.pid c.process_key.result p c.process_key.ensures c.in-Some.ensures.value in
    omega (arith, c.self.invariant.doomed, c.doomed_count.ensures.count, process-one c.self.invariant c.args.pid p there is_doomed_row)

pub overflow_add-self : goal.overflow_add-self
overflow_add-self c =
    let few = processes-few (rows_in c.self.inside.processes) (rows_in c.self.inside.threads) (numbers c.self.inside.used_processes.entries) (used_rows c.self.inside.used_threads.entries) c.self.inside.alive c.self.inside.registered c.self.invariant.all is_doomed_row c.self.inside.dooms c.self.invariant.doomed in
    let last = c.doomed_count-in-Some.ensures.most in
    omega (arith, few, last)

pub invariant_of-self : goal.invariant_of-self
invariant_of-self c =
    let p = c.in-Some.process.now in
    let there = its-process c.self.invariant c.args.pid c.process_key.result p c.process_key.ensures c.in-Some.ensures.value in
    rw (c.process_key.ensures, c.first_code.ensures) (process-kept c.self.invariant c.args.pid p there (doomed c.args.code) (record { number = λ p. refl; birth = λ p. refl; maker = λ p. refl }) (c.self.inside.dooms - c.doomed_count.result + c.doomed_count-in-Some.result) c.self.inside.watched (omega (arith, c.self.invariant.doomed, c.doomed_count.ensures.count, c.doomed_count-in-Some.ensures.count, process-one c.self.invariant c.args.pid p there is_doomed_row)) refl c.self.inside.told_tags (retagged (event_ports_of p.row) c.self.inside.told_tags))

pub returns : goal.returns
returns c =
    let p = c.in-Some.process.now in
    let there = its-process c.self.invariant c.args.pid c.process_key.result p c.process_key.ensures c.in-Some.ensures.value in
    record { table = rw (← c.self.view_is, c.process_key.ensures, c.first_code.ensures, ← process-shown c.self.invariant c.args.pid p there (doomed c.args.code)) refl }
