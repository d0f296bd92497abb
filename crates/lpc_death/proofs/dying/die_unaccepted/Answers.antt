use Rattle.std.proofs.Common.{[], ◌∷◌, ap, arith, refl}
use Rattle.lpc_model.specs.Basics.{Dies, DropsOwned, Steps, Withdraws, doing}
use Rattle.lpc_model.specs.Death.{end_client}
use Rattle.lpc_model.specs.Found.{wait_of}
use Rattle.lpc_rows.specs.Does.{Left}
use Rattle.lpc_rows.specs.Names.{name_of}
use Rattle.lpc_steps.proofs.Composed.{took-one, took-then}
use Rattle.lpc_death.specs.Dying.{ending_entries}
use Rattle.lpc_death.proofs.Dead.{ended-spare, one-spare, took-alone, took-offered}
use Rattle.lpc_death.proofs.dying.die_unaccepted.Goals as goal

pub end_thread-requires-clause-spare : goal.end_thread-requires-clause-spare
end_thread-requires-clause-spare c =
    let one = one-spare c.args.tid c.args.world.now.rows c.requires.live in
    omega (arith, one, c.requires.spare)

pub returns-in-Some-clause-took : goal.returns-in-Some-clause-took
returns-in-Some-clause-took c =
    let w = c.args.world.now in
    let mid = c.end_thread.new.world in
    let end = c.views_drop_owned.new.self in
    let out = c.end_thread.new.out in
    let b = name_of w.births.ports c.in-Some.port in
    let o = wait_of w.rows c.args.tid in
    let ended : Steps = doing (Dies c.args.tid c.args.code ∷ Withdraws c.args.tid ∷ []) in
    let dropped = took-one (DropsOwned b) mid end out refl (rw (c.end_thread.ensures.births) at c.views_drop_owned.ensures.step.rows) c.views_drop_owned.ensures.loose in
    took-then ended (end_client o) w mid end c.args.out.now out out c.end_thread.ensures.took (took-offered o b mid end out out c.requires.unaccepted c.in-Some.ensures.port dropped)

pub returns-in-Some-clause-spare : goal.returns-in-Some-clause-spare
returns-in-Some-clause-spare c =
    let left = ap (λ (l : Left). l.world) c.end_thread.ensures.took in
    let kept = ended-spare c.args.code c.args.tid c.end_thread.new.out.spare c.args.out.now.spare c.args.world.now.rows c.end_thread.new.world.rows c.requires.live left c.end_thread.ensures.spare in
    let same = ap ending_entries c.views_drop_owned.ensures.step.rows in
    omega (arith, kept, same)

pub returns-in_default-clause-took : goal.returns-in_default-clause-took
returns-in_default-clause-took c =
    let w = c.args.world.now in
    took-alone (wait_of w.rows c.args.tid) c.args.tid c.args.code w c.end_thread.new.world c.args.out.now c.end_thread.new.out c.requires.unaccepted c.in_default.ensures.port c.end_thread.ensures.took

pub returns-in_default-clause-spare : goal.returns-in_default-clause-spare
returns-in_default-clause-spare c =
    let left = ap (λ (l : Left). l.world) c.end_thread.ensures.took in
    ended-spare c.args.code c.args.tid c.end_thread.new.out.spare c.args.out.now.spare c.args.world.now.rows c.end_thread.new.world.rows c.requires.live left c.end_thread.ensures.spare
