use Rattle.std.proofs.Common.{◌≡◌, true, sym, ◌∙◌}
use Rattle.std.proofs.lemmas.Bool.{eqb-true}
use Rattle.lpc_model.specs.Found.{handle_count, port_name}
use Rattle.lpc_rows.specs.Names.{name_of}
use Rattle.lpc_closing.specs.Closing.{has_one_handle}
use Rattle.lpc_closing.proofs.FreshClosings.{last-untold}
use Rattle.lpc_closing.proofs.close.close_last.Goals as goal

pub close_port-requires-clause-untold : goal.close_port-requires-clause-untold
close_port-requires-clause-untold c =
    let w = c.args.world.now in
    let b = name_of w.births.ports c.in-Port.port in
    let one : has_one_handle w.rows (port_name b) ≡ true = sym c.has_one_handle.ensures ∙ c.if-has_one_handle.true in
    last-untold w.rows b c.requires.can.single_closings (eqb-true (handle_count w.rows (port_name b)) 1 one)
