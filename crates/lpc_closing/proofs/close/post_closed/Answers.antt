use Rattle.std.proofs.Common.{◌≡◌, List, Some, true, ap, sym, ◌∙◌, arith}
use Rattle.lpc_model.specs.Basics.{Basic}
use Rattle.lpc_model.specs.Entering.{enter}
use Rattle.lpc_model.specs.declared.message.Message.{Message}
use Rattle.lpc_steps.specs.Closing.{closed_row_of}
use Rattle.lpc_rows.specs.Does.{left_by}
use Rattle.lpc_rows.specs.Names.{name_of}
use Rattle.lpc_rows.specs.Ready.{port_of}
use Rattle.lpc_rows.specs.Shown.{row_with}
use Rattle.lpc_rows.specs.OwedClosings.{is_owed}
use Rattle.lpc_closing.proofs.Paid.{told-rows}
use Rattle.lpc_closing.proofs.Posted.{posted, unposted}
use Rattle.lpc_closing.proofs.FreshClosings.{place-kept}
use Rattle.lpc_closing.proofs.close.post_closed.Goals as goal

pub deliver-requires-clause-closing : goal.deliver-requires-clause-closing
deliver-requires-clause-closing c =
    let w = c.args.world.now in
    let b = name_of w.births.ports c.args.port in
    λ tells. place-kept w.rows b (port_of w.rows b) (closed_row_of w c.args.port c.in-Some.closed) c.closing_post.ensures.row c.in-Some.ensures.told c.requires.untold

pub deliver-requires-clause-other : goal.deliver-requires-clause-other
deliver-requires-clause-other c =
    let owed : is_owed c.closed_message-message.result ≡ true = ap is_owed c.closed_message-message.ensures in
    λ off. absurd (grind (arith, owed, off))

pub returns-in-Some-clause-takes : goal.returns-in-Some-clause-takes
returns-in-Some-clause-takes c =
    let w = c.args.world.now in
    let b = name_of w.births.ports c.args.port in
    let queue = c.in-Some.closed.queue in
    let context = c.in-Some.closed.context in
    c.deliver.ensures.takes
    ∙ ap (λ (m : Message). left_by w.rows c.args.out.now.list w.loose (enter (row_with w.births queue c.args.port context m) w.rows)) c.closed_message-message.ensures
    ∙ ap (λ (bs : List Basic). left_by w.rows c.args.out.now.list w.loose bs) (sym (posted w.rows b (port_of w.rows b) (Some (closed_row_of w c.args.port c.in-Some.closed)) c.closing_post.ensures.row c.in-Some.ensures.told))

pub returns-in_default-clause-takes : goal.returns-in_default-clause-takes
returns-in_default-clause-takes c =
    let w = c.args.world.now in
    let b = name_of w.births.ports c.args.port in
    unposted w.rows b (port_of w.rows b) c.args.out.now.list w.loose c.closing_post.ensures.row c.in_default.ensures.told

pub returns-in-Some-clause-made : goal.returns-in-Some-clause-made
returns-in-Some-clause-made c =
    let w = c.args.world.now in
    let b = name_of w.births.ports c.args.port in
    let one = told-rows w.rows b (port_of w.rows b) (closed_row_of w c.args.port c.in-Some.closed) c.closing_post.ensures.row c.in-Some.ensures.told in
    omega (arith, one, c.deliver.ensures.made)
