use Rattle.std.proofs.Common.{◌≡◌, [], ◌∷◌, ap, arith, refl, ◌∙◌}
use Rattle.lpc_model.specs.Basics.{DropsOwned, Steps, Unbinds, doing, ◌▹◌}
use Rattle.lpc_model.specs.Close.{close_port, cut_pair, drop_owned, empty_queue, end_receives, end_requests, mark_events, post_closed}
use Rattle.lpc_model.proofs.Steps.Closing.{behind}
use Rattle.lpc_steps.specs.Closing.{end_all}
use Rattle.lpc_steps.specs.Marking.{mark_all}
use Rattle.lpc_rows.specs.Does.{Left}
use Rattle.lpc_rows.specs.Names.{name_of}
use Rattle.lpc_steps.specs.declared.ending.Ending.TheVariants.{Receives, Requests}
use Rattle.lpc_steps.specs.declared.marking.Marking.TheVariants.{Sent}
use Rattle.lpc_steps.proofs.Composed.{took-one, took-then}
use Rattle.lpc_closing.proofs.Five.{five-is}
use Rattle.lpc_closing.proofs.HandlesKept.{handles-kept}
use Rattle.lpc_closing.proofs.Paid.{five-clients}
use Rattle.lpc_closing.proofs.FreshClosings.{five-untold}
use Rattle.lpc_closing.proofs.close.close_port.Goals as goal

-- the world before the post is that behind the first five steps
pub post_closed-requires-clause-untold : goal.post_closed-requires-clause-untold
post_closed-requires-clause-untold c =
    let w = c.args.world.now in
    let b = name_of w.births.ports c.args.port in
    let one = c.names_unbind.ensures.step.births in
    let two = c.end_all.ensures.births ∙ one in
    let three = c.end_all-2.ensures.births ∙ two in
    let marked = c.mark_all.ensures.births ∙ three in
    let four = c.empty_queue.ensures.births ∙ marked in
    let received : c.end_all.new.world.rows ≡ behind (end_receives b) c.names_unbind.new.self.rows = ap (λ (l : Left). l.world) (rw one at c.end_all.ensures.took) in
    let requested : c.end_all-2.new.world.rows ≡ behind (end_requests b) c.end_all.new.world.rows = ap (λ (l : Left). l.world) (rw two at c.end_all-2.ensures.took) in
    let noted : c.mark_all.new.world.rows ≡ behind (mark_events b) c.end_all-2.new.world.rows = ap (λ (l : Left). l.world) (rw three at c.mark_all.ensures.took c.end_all-2.new.out) in
    let emptied : c.empty_queue.new.world.rows ≡ behind (empty_queue b) c.mark_all.new.world.rows = ap (λ (l : Left). l.world) (rw marked at c.empty_queue.ensures.takes) in
    let cut : c.cut_pair.new.world.rows ≡ behind (cut_pair b) c.empty_queue.new.world.rows = ap (λ (l : Left). l.world) (rw four at c.cut_pair.ensures.takes) in
    let five = five-is w.rows c.names_unbind.new.self.rows c.end_all.new.world.rows c.end_all-2.new.world.rows c.mark_all.new.world.rows c.empty_queue.new.world.rows c.cut_pair.new.world.rows b c.names_unbind.ensures.step.rows received requested noted emptied cut in
    rw (c.cut_pair.ensures.births ∙ four, five) (five-untold w.rows b c.requires.untold)

pub returns-clause-made : goal.returns-clause-made
returns-clause-made c =
    let w = c.args.world.now in
    let b = name_of w.births.ports c.args.port in
    let one = c.names_unbind.ensures.step.births in
    let two = c.end_all.ensures.births ∙ one in
    let three = c.end_all-2.ensures.births ∙ two in
    let marked = c.mark_all.ensures.births ∙ three in
    let four = c.empty_queue.ensures.births ∙ marked in
    let received : c.end_all.new.world.rows ≡ behind (end_receives b) c.names_unbind.new.self.rows = ap (λ (l : Left). l.world) (rw one at c.end_all.ensures.took) in
    let requested : c.end_all-2.new.world.rows ≡ behind (end_requests b) c.end_all.new.world.rows = ap (λ (l : Left). l.world) (rw two at c.end_all-2.ensures.took) in
    let noted : c.mark_all.new.world.rows ≡ behind (mark_events b) c.end_all-2.new.world.rows = ap (λ (l : Left). l.world) (rw three at c.mark_all.ensures.took c.end_all-2.new.out) in
    let emptied : c.empty_queue.new.world.rows ≡ behind (empty_queue b) c.mark_all.new.world.rows = ap (λ (l : Left). l.world) (rw marked at c.empty_queue.ensures.takes) in
    let cut : c.cut_pair.new.world.rows ≡ behind (cut_pair b) c.empty_queue.new.world.rows = ap (λ (l : Left). l.world) (rw four at c.cut_pair.ensures.takes) in
    let five = five-is w.rows c.names_unbind.new.self.rows c.end_all.new.world.rows c.end_all-2.new.world.rows c.mark_all.new.world.rows c.empty_queue.new.world.rows c.cut_pair.new.world.rows b c.names_unbind.ensures.step.rows received requested noted emptied cut in
    let posts = rw (c.cut_pair.ensures.births ∙ four, five) at c.post_closed.ensures.made in
    let clients = five-clients w.rows b in
    omega (arith, posts, clients, c.views_drop_owned.ensures.step.made, c.cut_pair.ensures.made, c.empty_queue.ensures.made, c.mark_all.ensures.made, c.end_all-2.ensures.made, c.end_all.ensures.made, c.names_unbind.ensures.step.made)

pub returns-clause-takes : goal.returns-clause-takes
unfolding close_port
returns-clause-takes c =
    let w = c.args.world.now in
    let one = c.names_unbind.new.self in
    let two = c.end_all.new.world in
    let three = c.end_all-2.new.world in
    let marked = c.mark_all.new.world in
    let four = c.empty_queue.new.world in
    let five = c.cut_pair.new.world in
    let six = c.post_closed.new.world in
    let end = c.views_drop_owned.new.self in
    let out = c.args.out.now in
    let asked = c.end_all-2.new.out in
    let last = c.post_closed.new.out in
    let b = name_of w.births.ports c.args.port in
    let names : Steps = doing (Unbinds b ∷ []) in
    let receives : Steps = end_all Receives b in
    let requests : Steps = end_all Requests b in
    let events : Steps = mark_all Sent b in
    let births-two = c.end_all.ensures.births ∙ c.names_unbind.ensures.step.births in
    let births-three = c.end_all-2.ensures.births ∙ births-two in
    let births-marked = c.mark_all.ensures.births ∙ births-three in
    let births-four = c.empty_queue.ensures.births ∙ births-marked in
    let births-five = c.cut_pair.ensures.births ∙ births-four in
    let births-six = c.post_closed.ensures.births ∙ births-five in
    let unbound = took-one (Unbinds b) w one out refl c.names_unbind.ensures.step.rows c.names_unbind.ensures.loose in
    let received = rw (c.names_unbind.ensures.step.births) at c.end_all.ensures.took in
    let requested = rw births-two at c.end_all-2.ensures.took in
    let noted = rw births-three at c.mark_all.ensures.took asked in
    let emptied = rw births-marked at c.empty_queue.ensures.takes in
    let cut = rw births-four at c.cut_pair.ensures.takes in
    let posted = rw births-five at c.post_closed.ensures.takes in
    let dropped = took-one (DropsOwned b) six end last refl (rw births-six at c.views_drop_owned.ensures.step.rows) c.views_drop_owned.ensures.loose in
    took-then names (receives ▹ (requests ▹ (events ▹ (empty_queue b ▹ (cut_pair b ▹ (post_closed b ▹ drop_owned b)))))) w one end out out last unbound
    (took-then receives (requests ▹ (events ▹ (empty_queue b ▹ (cut_pair b ▹ (post_closed b ▹ drop_owned b))))) one two end out c.end_all.new.out last received
    (took-then requests (events ▹ (empty_queue b ▹ (cut_pair b ▹ (post_closed b ▹ drop_owned b)))) two three end c.end_all.new.out asked last requested
    (took-then events (empty_queue b ▹ (cut_pair b ▹ (post_closed b ▹ drop_owned b))) three marked end asked asked last noted
    (took-then (empty_queue b) (cut_pair b ▹ (post_closed b ▹ drop_owned b)) marked four end asked c.empty_queue.new.out last emptied
    (took-then (cut_pair b) (post_closed b ▹ drop_owned b) four five end c.empty_queue.new.out c.cut_pair.new.out last cut
    (took-then (post_closed b) (drop_owned b) five six end c.cut_pair.new.out last last posted dropped))))))

pub returns-clause-handles : goal.returns-clause-handles
returns-clause-handles c =
    let w = c.args.world.now in
    let b = name_of w.births.ports c.args.port in
    ap (λ (l : Left). l.world.handles) (returns-clause-takes c) ∙ handles-kept w.rows b
