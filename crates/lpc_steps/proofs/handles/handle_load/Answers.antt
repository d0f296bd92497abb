use Rattle.std.proofs.Common.{◌+◌, ap, arith, length, sym, ◌∙◌}
use Rattle.std.proofs.lemmas.List.{length-map}
use Rattle.lpc_base.specs.Rows.{count}
use Rattle.lpc_model.specs.Tests.{is_connect_of}
use Rattle.lpc_rows.specs.Shown.{birth_of, shown_handle}
use Rattle.lpc_rows.proofs.Tables.{connects_shown}
use Rattle.lpc_steps.proofs.handles.handle_load.Goals as goal

pub overflow_add-result : goal.overflow_add-result
overflow_add-result c =
    let f = birth_of c.args.world.now.births in
    let handles = c.count.ensures ∙ sym (ap length c.handles.ensures.rows ∙ length-map c.handles.result.now.rows (shown_handle f)) in
    let connects = c.connects_of.ensures ∙ sym (ap (count (is_connect_of c.args.pid)) c.waits.ensures.waits ∙ connects_shown f c.args.pid c.waits.result.now.rows) in
    omega (arith, handles, connects, c.handles.ensures.load)

pub returns : goal.returns
returns c =
    let f = birth_of c.args.world.now.births in
    let handles = c.count.ensures ∙ sym (ap length c.handles.ensures.rows ∙ length-map c.handles.result.now.rows (shown_handle f)) in
    let connects = c.connects_of.ensures ∙ sym (ap (count (is_connect_of c.args.pid)) c.waits.ensures.waits ∙ connects_shown f c.args.pid c.waits.result.now.rows) in
    λ i. handles i + connects i
