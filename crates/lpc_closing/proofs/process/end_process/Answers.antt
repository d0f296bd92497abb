use Rattle.std.proofs.Common.{drop, length, ap, arith, ◌∙◌}
use Rattle.lpc_model.specs.Found.{handles_of}
use Rattle.lpc_model.specs.World.{World}
use Rattle.lpc_model.proofs.Steps.Ending.{first-at, rows-left}
use Rattle.lpc_rows.specs.Clauses.{row_shown}
use Rattle.lpc_rows.specs.Capacity.{but_names}
use Rattle.lpc_rows.specs.Does.{Left}
use Rattle.lpc_closing.proofs.Turns.{closed-can, head-is, head-none, let-can, let-go, none-closed, one-closed, table-left}
use Rattle.lpc_closing.proofs.process.end_process.Goals as goal

pub close_handle-requires-clause-found : goal.close_handle-requires-clause-found
close_handle-requires-clause-found c =
    let w = c.loop-value.world.rows in
    let r = row_shown c.loop-value.world c.in-Some.value c.in-Some.row in
    first-at w c.args.pid r (drop 1 (handles_of w c.args.pid)) (head-is (handles_of w c.args.pid) r c.in-Some.ensures.handle)

pub loop-value-init : goal.loop-value-init
loop-value-init c =
    let w = c.args.world.now in
    let v = c.procs_let_go.new.self in
    let rows = c.procs_let_go.ensures.step.rows in
    let waits = ap (λ (u : World). length u.waits) rows in
    record {
      table = rw rows c.requires.table;
      can = rw rows (let-can w.rows c.args.pid c.requires.can);
      leaves = let-go w.rows v.rows c.args.pid c.args.out.now.list w.loose v.loose rows c.procs_let_go.ensures.loose;
      calls = c.procs_let_go.ensures.step.calls;
      capacity = ap but_names c.procs_let_go.ensures.capacity;
      made = omega (arith, c.procs_let_go.ensures.step.made);
      spare = omega (arith, waits);
    }

pub loop-value-smaller : goal.loop-value-smaller
loop-value-smaller c =
    let w = c.loop-value.world.rows in
    let r = row_shown c.loop-value.world c.in-Some.value c.in-Some.row in
    let rest = drop 1 (handles_of w c.args.pid) in
    let same = head-is (handles_of w c.args.pid) r c.in-Some.ensures.handle in
    let left = ap (λ (l : Left). l.world) c.close_handle.ensures.takes in
    let fewer = ap length (ap (λ (v : World). handles_of v c.args.pid) left ∙ rows-left w c.args.pid r rest same c.loop-value.invariant.can.sound) in
    let all = ap length same in
    omega (arith, fewer, all)

pub loop-value-preserved : goal.loop-value-preserved
loop-value-preserved c =
    let w = c.loop-value.world.rows in
    let r = row_shown c.loop-value.world c.in-Some.value c.in-Some.row in
    let rest = drop 1 (handles_of w c.args.pid) in
    let same = head-is (handles_of w c.args.pid) r c.in-Some.ensures.handle in
    let left = ap (λ (l : Left). l.world) c.close_handle.ensures.takes in
    record {
      table = rw left (table-left w c.args.pid r c.loop-value.invariant.table);
      can = rw left (closed-can w c.args.pid r (first-at w c.args.pid r rest same) c.loop-value.invariant.can);
      leaves =
          one-closed w c.args.pid r rest c.loop-value.out.list c.loop-value.world.loose
          (record { world = c.close_handle.new.world.rows; entries = c.close_handle.new.out.list; loose = c.close_handle.new.world.loose }) same c.loop-value.invariant.can.sound c.close_handle.ensures.takes
          ∙ c.loop-value.invariant.leaves;
      calls = c.close_handle.ensures.calls ∙ c.loop-value.invariant.calls;
      capacity = c.close_handle.ensures.capacity ∙ c.loop-value.invariant.capacity;
      made = omega (arith, c.close_handle.ensures.made, c.loop-value.invariant.made);
      spare = omega (arith, c.close_handle.ensures.spare, c.loop-value.invariant.spare);
    }

pub returns-clause-takes : goal.returns-clause-takes
returns-clause-takes c =
    let w = c.loop-value.world.rows in
    none-closed w c.views_drop.new.self.rows c.args.pid c.loop-value.out.list c.loop-value.world.loose c.views_drop.new.self.loose (head-none (handles_of w c.args.pid) c.in_default.ensures.handle) c.views_drop.ensures.step.rows c.views_drop.ensures.loose
    ∙ c.loop-value.invariant.leaves
