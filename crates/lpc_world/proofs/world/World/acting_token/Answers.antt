use Rattle.std.proofs.Common.{◌≡◌, None, Some, ap, sym, ◌∙◌}
use Rattle.lpc_model.specs.Found.{live_thread, token_of}
use Rattle.lpc_model.specs.World.{World}
use Rattle.lpc_procs.specs.declared.rows.Caller.{Caller}
use Rattle.lpc_tokens.specs.Tokens.{effective}
use Rattle.lpc_rows.specs.Callers.{as_caller}
use Rattle.lpc_rows.specs.Kept.{rows_by}
use Rattle.lpc_rows.specs.Ready.{caller}
use Rattle.lpc_rows.specs.Shown.{tables_of}
use Rattle.lpc_rows.proofs.Acting.{live_is, own_is, token_is}
use Rattle.lpc_rows.proofs.Callers.{is_called, live-called}
use Rattle.lpc_rows.proofs.Enrolling as enrolling
use Rattle.lpc_rows.proofs.Readings.{none_before}
use Rattle.lpc_rows.proofs.Steps as steps
use Rattle.lpc_world.proofs.world.World.acting_token.Goals as goal

pub unreachable-requires : goal.unreachable-requires
unreachable-requires c =
    let w : World = rows_by (tables_of c.self.inside.procs c.self.inside.parts.items c.self.inside.ports c.self.inside.waits c.self.inside.names c.self.inside.sections c.self.inside.tokens c.self.inside.token_names c.self.inside.marks) in
    let some : live_thread w c.args.tid ≡ Some (caller w c.args.tid) = live_is w c.args.tid (rw (← c.self.view_is) at c.requires) in
    let none : live_thread w c.args.tid ≡ None = none_before as_caller (live_thread w c.args.tid) (live-called c.args.tid c.self.inside.procs.threads ∙ sym c.live_row.ensures.row ∙ c.in-None.is) in
    absurd (cc)

pub token-requires : goal.token-requires
token-requires c =
    let w : World = rows_by (tables_of c.self.inside.procs c.self.inside.parts.items c.self.inside.ports c.self.inside.waits c.self.inside.names c.self.inside.sections c.self.inside.tokens c.self.inside.token_names c.self.inside.marks) in
    let it = is_called w c.args.tid c.in-Some.row c.self.invariant.kept.lawful.housed c.self.invariant.kept.drawn.threads_single (live-called c.args.tid c.self.inside.procs.threads ∙ sym c.live_row.ensures.row ∙ c.in-Some.is) in
    record { present = sym (steps.process_same (tables_of c.self.inside.procs c.self.inside.parts.items c.self.inside.ports c.self.inside.waits c.self.inside.names c.self.inside.sections c.self.inside.tokens c.self.inside.token_names c.self.inside.marks) c.self.inside.calls c.self.inside.made c.self.invariant.kept c.in-Some.row.process) ∙ it.process }

pub own-requires : goal.own-requires
own-requires c = record { present = enrolling.stands_live (tables_of c.self.inside.procs c.self.inside.parts.items c.self.inside.ports c.self.inside.waits c.self.inside.names c.self.inside.sections c.self.inside.tokens c.self.inside.token_names c.self.inside.marks) c.self.inside.calls c.self.inside.made c.self.invariant.kept c.args.tid (rw (← c.self.view_is) at c.requires) }

pub returns-clause-token : goal.returns-clause-token
returns-clause-token c =
    let w : World = rows_by (tables_of c.self.inside.procs c.self.inside.parts.items c.self.inside.ports c.self.inside.waits c.self.inside.names c.self.inside.sections c.self.inside.tokens c.self.inside.token_names c.self.inside.marks) in
    let it = is_called w c.args.tid c.in-Some.row c.self.invariant.kept.lawful.housed c.self.invariant.kept.drawn.threads_single (live-called c.args.tid c.self.inside.procs.threads ∙ sym c.live_row.ensures.row ∙ c.in-Some.is) in
    let token = sym (token_is (tables_of c.self.inside.procs c.self.inside.parts.items c.self.inside.ports c.self.inside.waits c.self.inside.names c.self.inside.sections c.self.inside.tokens c.self.inside.token_names c.self.inside.marks) c.in-Some.row.process c.token.result.now c.token.ensures.token) ∙ ap (λ (k : Caller). token_of w k.process) it.row in
    let own = sym (own_is (tables_of c.self.inside.procs c.self.inside.parts.items c.self.inside.ports c.self.inside.waits c.self.inside.names c.self.inside.sections c.self.inside.tokens c.self.inside.token_names c.self.inside.marks) c.self.inside.calls c.self.inside.made c.self.invariant.kept c.args.tid _ (rw (← c.self.view_is) at c.requires) c.own.ensures.own) in
    rw (← c.self.view_is) (c.effective_token.ensures ∙ (λ i. effective (token i) (own i)))

pub returns-clause-thread : goal.returns-clause-thread
returns-clause-thread c = rw (← c.self.view_is) (live_is (rows_by (tables_of c.self.inside.procs c.self.inside.parts.items c.self.inside.ports c.self.inside.waits c.self.inside.names c.self.inside.sections c.self.inside.tokens c.self.inside.token_names c.self.inside.marks)) c.args.tid (rw (← c.self.view_is) at c.requires))
