use Rattle.std.proofs.Common.{ap, sym, ◌∙◌}
use Rattle.std.specs.Prelude.{is_some, option_map}
use Rattle.lpc_procs.specs.declared.rows.ThreadRow.{ThreadRow}
use Rattle.lpc_rows.specs.Shown.{tables_of}
use Rattle.lpc_rows.proofs.Deaths.{untold_found, untold_is, untold_name, untold_none, untold_port}
use Rattle.lpc_world.proofs.world.World.first_untold.Goals as goal

pub returns-in_err-thread-clause-found : goal.returns-in_err-thread-clause-found
returns-in_err-thread-clause-found c = rw (← c.self.view_is, c.from_residual.ensures) (untold_none (tables_of c.self.inside.procs c.self.inside.parts.items c.self.inside.ports c.self.inside.waits c.self.inside.names c.self.inside.sections c.self.inside.tokens c.self.inside.token_names c.self.inside.marks) c.self.inside.calls c.self.inside.made c.self.invariant.kept c.args.pid (sym c.first_to_tell.ensures.registration ∙ c.in_err-thread.was))

pub birth-requires : goal.birth-requires
birth-requires c =
    let u = untold_found (tables_of c.self.inside.procs c.self.inside.parts.items c.self.inside.ports c.self.inside.waits c.self.inside.names c.self.inside.sections c.self.inside.tokens c.self.inside.token_names c.self.inside.marks) c.self.inside.calls c.self.inside.made c.self.invariant.kept c.args.pid c.in_ok-thread.thread c.in_ok-thread.registration (sym c.first_to_tell.ensures.registration ∙ c.in_ok-thread.was) in
    record { present = ap (λ o. is_some (option_map (λ (t : ThreadRow). t.birth) o)) u.row }

pub returns-clause-found : goal.returns-clause-found
returns-clause-found c =
    let u = untold_found (tables_of c.self.inside.procs c.self.inside.parts.items c.self.inside.ports c.self.inside.waits c.self.inside.names c.self.inside.sections c.self.inside.tokens c.self.inside.token_names c.self.inside.marks) c.self.inside.calls c.self.inside.made c.self.invariant.kept c.args.pid c.in_ok-thread.thread c.in_ok-thread.registration (sym c.first_to_tell.ensures.registration ∙ c.in_ok-thread.was) in
    rw (← c.self.view_is) (untold_is (tables_of c.self.inside.procs c.self.inside.parts.items c.self.inside.ports c.self.inside.waits c.self.inside.names c.self.inside.sections c.self.inside.tokens c.self.inside.token_names c.self.inside.marks) c.self.inside.calls c.self.inside.made c.self.invariant.kept c.args.pid c.in_ok-thread.thread c.in_ok-thread.registration c.birth.result u c.birth.ensures.birth)

pub returns-clause-port : goal.returns-clause-port
returns-clause-port c =
    let u = untold_found (tables_of c.self.inside.procs c.self.inside.parts.items c.self.inside.ports c.self.inside.waits c.self.inside.names c.self.inside.sections c.self.inside.tokens c.self.inside.token_names c.self.inside.marks) c.self.inside.calls c.self.inside.made c.self.invariant.kept c.args.pid c.in_ok-thread.thread c.in_ok-thread.registration (sym c.first_to_tell.ensures.registration ∙ c.in_ok-thread.was) in
    rw (← c.self.view_is) (untold_port (tables_of c.self.inside.procs c.self.inside.parts.items c.self.inside.ports c.self.inside.waits c.self.inside.names c.self.inside.sections c.self.inside.tokens c.self.inside.token_names c.self.inside.marks) c.self.inside.calls c.self.inside.made c.self.invariant.kept c.in_ok-thread.registration u.named)

pub returns-clause-name : goal.returns-clause-name
returns-clause-name c =
    let u = untold_found (tables_of c.self.inside.procs c.self.inside.parts.items c.self.inside.ports c.self.inside.waits c.self.inside.names c.self.inside.sections c.self.inside.tokens c.self.inside.token_names c.self.inside.marks) c.self.inside.calls c.self.inside.made c.self.invariant.kept c.args.pid c.in_ok-thread.thread c.in_ok-thread.registration (sym c.first_to_tell.ensures.registration ∙ c.in_ok-thread.was) in
    rw (← c.self.view_is) (untold_name (tables_of c.self.inside.procs c.self.inside.parts.items c.self.inside.ports c.self.inside.waits c.self.inside.names c.self.inside.sections c.self.inside.tokens c.self.inside.token_names c.self.inside.marks) c.self.inside.calls c.self.inside.made c.self.invariant.kept c.in_ok-thread.registration u.named)

pub returns-in_err-thread-clause-single : goal.returns-in_err-thread-clause-single
returns-in_err-thread-clause-single c = rw (← c.self.view_is) c.self.invariant.kept.drawn.threads_single

pub returns-clause-single : goal.returns-clause-single
returns-clause-single c = rw (← c.self.view_is) c.self.invariant.kept.drawn.threads_single
