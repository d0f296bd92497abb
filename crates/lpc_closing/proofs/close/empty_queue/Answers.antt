use Rattle.std.proofs.Common.{[], ◌∷◌, refl}
use Rattle.lpc_model.specs.Basics.{Empties, Steps, doing, ◌▹◌}
use Rattle.lpc_steps.specs.Closing.{end_all}
use Rattle.lpc_steps.specs.Marking.{mark_all}
use Rattle.lpc_rows.specs.Names.{name_of}
use Rattle.lpc_steps.specs.declared.ending.Ending.TheVariants.{Offers, QueuedRequests}
use Rattle.lpc_steps.specs.declared.marking.Marking.TheVariants.{Queued}
use Rattle.lpc_steps.proofs.Composed.{took-one, took-then}
use Rattle.lpc_closing.proofs.close.empty_queue.Goals as goal

pub returns-clause-takes : goal.returns-clause-takes
returns-clause-takes c =
    let w = c.args.world.now in
    let one = c.end_all.new.world in
    let marked = c.mark_all.new.world in
    let two = c.end_all-2.new.world in
    let end = c.messages_empty.new.self in
    let out = c.end_all.new.out in
    let last = c.end_all-2.new.out in
    let b = name_of w.births.ports c.args.port in
    let requests : Steps = end_all QueuedRequests b in
    let events : Steps = mark_all Queued b in
    let offers : Steps = end_all Offers b in
    let empties : Steps = doing (Empties b ∷ []) in
    let noted = rw (c.end_all.ensures.births) at c.mark_all.ensures.took out in
    let offered = rw (c.mark_all.ensures.births, c.end_all.ensures.births) at c.end_all-2.ensures.took in
    let emptied = took-one (Empties b) two end last refl (rw (c.end_all-2.ensures.births, c.mark_all.ensures.births, c.end_all.ensures.births) at c.messages_empty.ensures.step.rows) c.messages_empty.ensures.loose in
    took-then requests (events ▹ (offers ▹ empties)) w one end c.args.out.now out last c.end_all.ensures.took
    (took-then events (offers ▹ empties) one marked end out out last noted
    (took-then offers empties marked two end out last last offered emptied))
