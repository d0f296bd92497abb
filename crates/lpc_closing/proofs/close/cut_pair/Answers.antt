use Rattle.std.proofs.Common.{[], ◌∷◌, ◌∙◌, refl}
use Rattle.lpc_model.specs.Basics.{Cuts, Steps, doing, ◌▹◌}
use Rattle.lpc_steps.specs.Closing.{end_all}
use Rattle.lpc_steps.specs.Marking.{mark_all}
use Rattle.lpc_rows.specs.Names.{name_of}
use Rattle.lpc_steps.specs.declared.ending.Ending.TheVariants.{AcceptedAcross, ReceivesAcross, RequestsAcross}
use Rattle.lpc_steps.specs.declared.marking.Marking.TheVariants.{SentAcross}
use Rattle.lpc_steps.proofs.Composed.{took-one, took-then}
use Rattle.lpc_closing.proofs.close.cut_pair.Goals as goal

pub returns-clause-takes : goal.returns-clause-takes
returns-clause-takes c =
    let w = c.args.world.now in
    let one = c.end_all.new.world in
    let marked = c.mark_all.new.world in
    let two = c.end_all-2.new.world in
    let three = c.end_all-3.new.world in
    let end = c.ports_cut.new.self in
    let first = c.end_all.new.out in
    let second = c.end_all-2.new.out in
    let out = c.end_all-3.new.out in
    let b = name_of w.births.ports c.args.port in
    let requests : Steps = end_all RequestsAcross b in
    let events : Steps = mark_all SentAcross b in
    let receives : Steps = end_all ReceivesAcross b in
    let accepts : Steps = end_all AcceptedAcross b in
    let last : Steps = doing (Cuts b ∷ []) in
    let births = c.mark_all.ensures.births ∙ c.end_all.ensures.births in
    let noted = rw (c.end_all.ensures.births) at c.mark_all.ensures.took first in
    let received = rw births at c.end_all-2.ensures.took in
    let accepted = rw (c.end_all-2.ensures.births, births) at c.end_all-3.ensures.took in
    let cut = took-one (Cuts b) three end out refl (rw (c.end_all-3.ensures.births, c.end_all-2.ensures.births, births) at c.ports_cut.ensures.step.rows) c.ports_cut.ensures.loose in
    took-then requests (events ▹ (receives ▹ (accepts ▹ last))) w one end c.args.out.now first out c.end_all.ensures.took
    (took-then events (receives ▹ (accepts ▹ last)) one marked end first first out noted
    (took-then receives (accepts ▹ last) marked two end first second out received
    (took-then accepts last two three end second out out accepted cut)))
