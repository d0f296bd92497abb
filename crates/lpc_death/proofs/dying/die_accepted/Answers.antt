use Rattle.std.proofs.Common.{[], ◌∷◌, ap, length, arith, refl}
use Rattle.lpc_model.specs.Basics.{Dies, DropsOwned, Steps, Withdraws, doing}
use Rattle.lpc_model.specs.Close.{cut_pair, drop_owned}
use Rattle.lpc_model.specs.Death.{end_client}
use Rattle.lpc_model.specs.Found.{wait_of}
use Rattle.lpc_model.specs.World.{World}
use Rattle.lpc_rows.specs.Does.{Left}
use Rattle.lpc_rows.specs.Names.{name_of}
use Rattle.lpc_steps.proofs.Composed.{took-one, took-then}
use Rattle.lpc_death.proofs.Dead.{cut-spare, ended-spare, one-spare, took-accepted}
use Rattle.lpc_death.proofs.dying.die_accepted.Goals as goal

pub end_thread-requires-clause-spare : goal.end_thread-requires-clause-spare
end_thread-requires-clause-spare c =
    let one = one-spare c.args.tid c.args.world.now.rows c.requires.live in
    omega (arith, one, c.requires.spare)

pub cut_pair-requires-clause-spare : goal.cut_pair-requires-clause-spare
cut_pair-requires-clause-spare c =
    let left = ap (λ (l : Left). l.world) c.end_thread.ensures.took in
    let kept = ended-spare c.args.code c.args.tid c.end_thread.new.out.spare c.args.out.now.spare c.args.world.now.rows c.end_thread.new.world.rows c.requires.live left c.end_thread.ensures.spare in
    omega (arith, kept, c.requires.spare)

-- its end, then the cut, and then its views
pub returns-clause-took : goal.returns-clause-took
returns-clause-took c =
    let w = c.args.world.now in
    let mid = c.end_thread.new.world in
    let parted = c.cut_pair.new.world in
    let end = c.views_drop_owned.new.self in
    let tid = c.args.tid in
    let out = c.end_thread.new.out in
    let last = c.cut_pair.new.out in
    let b = name_of w.births.ports c.args.port in
    let o = wait_of w.rows tid in
    let ended : Steps = doing (Dies tid c.args.code ∷ Withdraws tid ∷ []) in
    let cut = rw (c.end_thread.ensures.births) at c.cut_pair.ensures.takes in
    let dropped = took-one (DropsOwned b) parted end last refl (rw (c.cut_pair.ensures.births, c.end_thread.ensures.births) at c.views_drop_owned.ensures.step.rows) c.views_drop_owned.ensures.loose in
    took-then ended (end_client o) w mid end c.args.out.now out last c.end_thread.ensures.took
    (took-accepted o b mid end out last c.requires.accepted (took-then (cut_pair b) (drop_owned b) mid parted end out last last cut dropped))

pub returns-clause-spare : goal.returns-clause-spare
returns-clause-spare c =
    let left = ap (λ (l : Left). l.world) c.end_thread.ensures.took in
    let dead = ap (λ (l : Left). l.world) (returns-clause-took c) in
    let waits = ap (λ (v : World). length v.waits) c.views_drop_owned.ensures.step.rows in
    cut-spare c.args.code c.args.tid c.cut_pair.new.out.spare c.args.out.now.spare c.end_thread.new.out.spare c.args.world.now.rows c.end_thread.new.world.rows c.views_drop_owned.new.self.rows c.requires.live left c.end_thread.ensures.spare dead
    (omega (arith, waits, c.cut_pair.ensures.spare))
