use Rattle.std.proofs.Common.{◌≡◌, ◌∙◌, subst, arith}
use Rattle.lpc_connect.specs.Calls.{completing}
use Rattle.lpc_model.specs.Connect.{Completable}
use Rattle.lpc_model.specs.World.{World}
use Rattle.lpc_procs.specs.declared.rows.Caller.{Caller}
use Rattle.lpc_rows.specs.Callers.{shown_caller}
use Rattle.lpc_rows.specs.Does.{Left, left_by}
use Rattle.lpc_rows.specs.Names.{name_of}
use Rattle.lpc_rows.specs.Ready.{caller, waiter}
use Rattle.lpc_connect.proofs.Completed.{completes, completes_outcome}
use Rattle.lpc_connect.proofs.complete.nt_complete_connect_port.Goals as goal

pub returns-in-Ok-clause-served : goal.returns-in-Ok-clause-served
returns-in-Ok-clause-served c =
    let w : World = c.args.world.now.rows in
    let found : Completable = record { server = name_of c.begin_call.new.self.births.ports c.in-Ok.connection.server; client = name_of c.begin_call.new.self.births.ports c.in-Ok.connection.client; wait = waiter w c.in-Ok.connection.thread } in
    let end : Left = record { world = c.complete.new.world.rows; entries = c.complete.new.out.list; loose = c.complete.new.world.loose } in
    let told = rw (c.begin_call.ensures.rows) at c.complete.ensures.takes in
    let does = subst (λ (k : Caller). end ≡ left_by w c.args.out.now.list c.args.world.now.loose (completing w (shown_caller k) found)) c.caller-caller.ensures.row told in
    let test = rw (c.begin_call.ensures.rows) at c.in-Ok.ensures.test in
    record {
      takes = does ∙ completes w (caller w c.args.by) c.args.handle c.args.out.now.list c.args.world.now.loose found test;
      outcome = completes_outcome w (caller w c.args.by) c.args.handle found test;
      calls = grind arith;
    }
