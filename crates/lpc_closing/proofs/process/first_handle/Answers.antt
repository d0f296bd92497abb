use Rattle.std.proofs.Common.{sym, ◌∙◌}
use Rattle.lpc_model.specs.Found.{handles_of}
use Rattle.lpc_rows.specs.Shown.{birth_of}
use Rattle.lpc_closing.proofs.Turns.{none-first, some-first}
use Rattle.lpc_closing.proofs.process.first_handle.Goals as goal

pub returns-in_err-value-clause-handle : goal.returns-in_err-value-clause-handle
returns-in_err-value-clause-handle c =
    let w = c.args.world.now in
    rw (c.from_residual.ensures) (none-first (birth_of w.births) c.handles.result.now.rows (handles_of w.rows c.args.pid) c.handles.ensures.rows c.in_err-value.ensures.first)

pub returns-in_err-row-clause-handle : goal.returns-in_err-row-clause-handle
returns-in_err-row-clause-handle c =
    let w = c.args.world.now in
    rw (c.from_residual-in_err-row.ensures) (sym (some-first (birth_of w.births) c.handles.result.now.rows (handles_of w.rows c.args.pid) c.in_ok-value.value c.handles.ensures.rows c.in_ok-value.ensures.first) ∙ c.in_err-row.ensures.row)

pub returns-clause-handle : goal.returns-clause-handle
returns-clause-handle c =
    let w = c.args.world.now in
    sym (some-first (birth_of w.births) c.handles.result.now.rows (handles_of w.rows c.args.pid) c.in_ok-value.value c.handles.ensures.rows c.in_ok-value.ensures.first) ∙ c.in_ok-row.ensures.row
