use Rattle.std.proofs.Common.{ap, subst}
use Rattle.lpc_model.specs.Basics.{Steps}
use Rattle.lpc_model.specs.Found.{live_threads}
use Rattle.lpc_rows.specs.Does.{Left, Took}
use Rattle.lpc_steps.proofs.Composed.{took-then}
use Rattle.lpc_death.specs.Dying.{dying_all}
use Rattle.lpc_death.specs.Ends.{telling_ends}
use Rattle.lpc_death.proofs.CanEnd.{died-can, died-single, died-table}
use Rattle.lpc_death.proofs.Stands.{died-process}
use Rattle.lpc_death.proofs.Untelling.{all-end}
use Rattle.lpc_death.proofs.terminate.end_threads.Goals as goal

pub end_told-requires-clause-process : goal.end_told-requires-clause-process
end_told-requires-clause-process c =
    let w = c.args.world.now.rows in
    let left = ap (λ (l : Left). l.world) c.die_all.ensures.took in
    rw left (died-process c.args.code (live_threads w c.args.pid) c.args.pid w c.requires.process)

pub end_told-requires-clause-table : goal.end_told-requires-clause-table
end_told-requires-clause-table c =
    let w = c.args.world.now.rows in
    let left = ap (λ (l : Left). l.world) c.die_all.ensures.took in
    rw left (died-table c.args.code (live_threads w c.args.pid) c.args.pid w c.requires.table)

pub end_told-requires-clause-can : goal.end_told-requires-clause-can
end_told-requires-clause-can c =
    let w = c.args.world.now.rows in
    let left = ap (λ (l : Left). l.world) c.die_all.ensures.took in
    rw left (died-can c.args.code (live_threads w c.args.pid) w c.requires.can.close)

pub end_told-requires-clause-single : goal.end_told-requires-clause-single
end_told-requires-clause-single c =
    let w = c.args.world.now.rows in
    let left = ap (λ (l : Left). l.world) c.die_all.ensures.took in
    rw left (died-single c.args.code (live_threads w c.args.pid) w c.requires.can.single)

pub returns-clause-took : goal.returns-clause-took
returns-clause-took c =
    let old = c.args.world.now in
    let dies : Steps = dying_all c.args.code c.args.pid in
    let tells : Steps = telling_ends c.args.pid in
    let both = took-then dies tells old c.die_all.new.world c.end_told.new.world c.args.out.now c.die_all.new.out c.end_told.new.out c.die_all.ensures.took c.end_told.ensures.took in
    subst (λ bs. Took bs old c.end_told.new.world c.args.out.now c.end_told.new.out) (all-end c.args.code c.args.pid old.rows c.requires.can.registrations) both
