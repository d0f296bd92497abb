use Rattle.std.proofs.Common.{refl, arith, option_to_list, ◌-◌}
use Rattle.lpc_procs.specs.Kept.{is_watched}
use Rattle.lpc_procs.specs.Procs.{portless}
use Rattle.lpc_procs.proofs.Tagged.{retags-none}
use Rattle.lpc_procs.proofs.Tables.{its-process, no-process, process-kept, process-one, process-shown}
use Rattle.lpc_procs.proofs.procs.Procs.let_go.Goals as goal

pub unreachable-requires : goal.unreachable-requires
unreachable-requires c = no-process c.self.invariant c.args.pid c.process_key.result c.process_key.ensures c.in-None.ensures.value (rw (← c.self.view_is) at c.requires.present)

pub overflow_sub-others : goal.overflow_sub-others
overflow_sub-others c =
    let p = c.in-Some.process.now in
    let there = its-process c.self.invariant c.args.pid c.process_key.result p c.process_key.ensures c.in-Some.ensures.value in
    omega (arith, c.self.invariant.watchers, c.watched_count.ensures, process-one c.self.invariant c.args.pid p there is_watched)

pub invariant_of-self : goal.invariant_of-self
invariant_of-self c =
    let p = c.in-Some.process.now in
    let there = its-process c.self.invariant c.args.pid c.process_key.result p c.process_key.ensures c.in-Some.ensures.value in
    rw (c.process_key.ensures) (process-kept c.self.invariant c.args.pid p there portless (record { number = λ p. refl; birth = λ p. refl; maker = λ p. refl }) c.self.inside.dooms (c.self.inside.watched - c.watched_count.result) refl (omega (arith, c.self.invariant.watchers, c.watched_count.ensures, process-one c.self.invariant c.args.pid p there is_watched))
    c.untag-in-Some.new.tally (λ whole. retags-none c.self.inside.told_tags c.untag.new.tally c.untag-in-Some.new.tally (option_to_list p.row.debug_port) (option_to_list p.row.exception_port) c.untag.ensures (c.untag-in-Some.ensures whole)))

pub returns : goal.returns
returns c =
    let p = c.in-Some.process.now in
    let there = its-process c.self.invariant c.args.pid c.process_key.result p c.process_key.ensures c.in-Some.ensures.value in
    record { table = rw (← c.self.view_is, c.process_key.ensures, ← process-shown c.self.invariant c.args.pid p there portless) refl }
