use Rattle.std.proofs.Common.{◌≡◌, [], ◌∷◌, true, ap, subst}
use Rattle.lpc_base.specs.Rows.{has}
use Rattle.lpc_model.specs.Basics.{Steps}
use Rattle.lpc_model.specs.Deaths.{HasSingleRegistrations}
use Rattle.lpc_model.specs.Found.{is_table}
use Rattle.lpc_procs.specs.declared.rows.Caller.{Caller}
use Rattle.lpc_rows.specs.Callers.{as_caller}
use Rattle.lpc_rows.specs.Clauses.{has_process}
use Rattle.lpc_rows.specs.Does.{Left, Took}
use Rattle.lpc_rows.specs.Ready.{caller}
use Rattle.lpc_steps.proofs.Composed.{took-then}
use Rattle.lpc_closing.specs.Closing.{CanCloseAll}
use Rattle.lpc_death.specs.Ends.{telling_ends}
use Rattle.lpc_death.proofs.CanEnd.{died-can, died-single, died-table}
use Rattle.lpc_death.proofs.Stands.{died-process}
use Rattle.lpc_model.specs.Death.{dying}
use Rattle.lpc_death.proofs.OwnEnds.{thread-dead, thread-ends-by}
use Rattle.lpc_death.proofs.terminate.end_thread.Goals as goal

pub end_told-requires-clause-process : goal.end_told-requires-clause-process
end_told-requires-clause-process c =
    let w = c.args.world.now.rows in
    let t = caller w c.args.tid in
    let pid = c.in-Some.thread.process in
    let left = ap (λ (l : Left). l.world) c.die.ensures.took in
    rw left (thread-dead (λ v. has_process v pid ≡ true) w c.args.tid c.args.code t c.requires.live (died-process c.args.code (t ∷ []) pid w c.in-Some.ensures.process))

pub end_told-requires-clause-table : goal.end_told-requires-clause-table
end_told-requires-clause-table c =
    let w = c.args.world.now.rows in
    let t = caller w c.args.tid in
    let pid = c.in-Some.thread.process in
    let left = ap (λ (l : Left). l.world) c.die.ensures.took in
    rw left (thread-dead (λ v. has (is_table pid) v.handles ≡ true) w c.args.tid c.args.code t c.requires.live (died-table c.args.code (t ∷ []) pid w c.in-Some.ensures.table))

pub end_told-requires-clause-can : goal.end_told-requires-clause-can
end_told-requires-clause-can c =
    let w = c.args.world.now.rows in
    let t = caller w c.args.tid in
    let left = ap (λ (l : Left). l.world) c.die.ensures.took in
    rw left (thread-dead CanCloseAll w c.args.tid c.args.code t c.requires.live (died-can c.args.code (t ∷ []) w c.requires.can.close))

pub end_told-requires-clause-single : goal.end_told-requires-clause-single
end_told-requires-clause-single c =
    let w = c.args.world.now.rows in
    let t = caller w c.args.tid in
    let left = ap (λ (l : Left). l.world) c.die.ensures.took in
    rw left (thread-dead HasSingleRegistrations w c.args.tid c.args.code t c.requires.live (died-single c.args.code (t ∷ []) w c.requires.can.single))

pub returns-clause-took : goal.returns-clause-took
returns-clause-took c =
    let old = c.args.world.now in
    let t = caller old.rows c.args.tid in
    let dies : Steps = dying c.args.code c.args.tid in
    let its : c.in-Some.thread ≡ as_caller t = (let row = rw (c.requires.live) at c.in-Some.ensures.row in cc) in
    let own = ap (λ (x : Caller). x.process) its in
    let ends = subst (λ p. Took (telling_ends p c.die.new.world.rows) c.die.new.world c.end_told.new.world c.die.new.out c.end_told.new.out) own c.end_told.ensures.took in
    let tells : Steps = telling_ends t.process in
    let both = took-then dies tells old c.die.new.world c.end_told.new.world c.args.out.now c.die.new.out c.end_told.new.out c.die.ensures.took ends in
    let is = thread-ends-by old.rows c.args.tid c.args.code t c.requires.can c.requires.live in
    subst (λ bs. Took bs old c.end_told.new.world c.args.out.now c.end_told.new.out) is both
