use Rattle.std.proofs.Common.{Some, option_map, ap, sym, ◌∙◌}
use Rattle.lpc_model.specs.Close.{closed_message}
use Rattle.lpc_rows.specs.Clauses.{birth_at, port_at}
use Rattle.lpc_rows.specs.Shown.{shown_creator}
use Rattle.lpc_steps.proofs.Told.{told_is}
use Rattle.lpc_steps.proofs.closing.closing_post.Goals as goal

pub returns-clause-told : goal.returns-clause-told
returns-clause-told c =
    let k = c.args.world.now in
    let port = c.port-row.ensures in
    told_is k.rows (port_at k c.args.port) (birth_at k c.in_ok-queue.queue) (shown_creator c.in_ok-by.by) (sym c.in_ok-queue.ensures.queue) (port.creator ∙ ap (option_map shown_creator) c.in_ok-by.was)
    ∙ ap Some (λ i. record {
      queue = birth_at k c.in_ok-queue.queue;
      sender = port.birth i;
      context = port.context i;
      message = closed_message (shown_creator c.in_ok-by.by) (port.own i);
    })
