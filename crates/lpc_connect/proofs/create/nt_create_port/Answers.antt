use Rattle.std.proofs.Common.{◌≡◌, ◌∙◌, subst, arith}
use Rattle.std.specs.Prelude.{IfOk, IsOk, option_copied}
use Rattle.lpc_connect.specs.Calls.{creating_guarded}
use Rattle.lpc_model.specs.Connect.{making}
use Rattle.lpc_model.specs.Tests.{handles_test, next_birth}
use Rattle.lpc_model.specs.World.{World}
use Rattle.lpc_procs.specs.declared.rows.Caller.{Caller}
use Rattle.lpc_rows.specs.Callers.{shown_caller}
use Rattle.lpc_rows.specs.Does.{Left, left_by}
use Rattle.lpc_rows.specs.Ready.{caller}
use Rattle.lpc_connect.proofs.Created.{creates, creates_outcome}
use Rattle.lpc_connect.proofs.create.nt_create_port.Goals as goal

pub returns-clause-serves : goal.returns-clause-serves
returns-clause-serves c =
    let w : World = c.args.world.now.rows in
    let same : c.begin_call-2.new.self.rows ≡ w = c.begin_call-2.ensures.rows ∙ c.names_reserve.ensures.same.rows ∙ c.handles_reserve.ensures.same.rows ∙ c.ports_reserve.ensures.same.rows in
    let loose : c.begin_call-2.new.self.loose ≡ c.args.world.now.loose = c.begin_call-2.ensures.loose ∙ c.names_reserve.ensures.same.loose ∙ c.handles_reserve.ensures.same.loose ∙ c.ports_reserve.ensures.same.loose in
    let end : Left = record { world = c.create_guarded.new.world.rows; entries = c.create_guarded.new.out.list; loose = c.create_guarded.new.world.loose } in
    let name = option_copied c.args.name in
    let dacl = option_copied c.args.dacl in
    let row = c.caller-caller.ensures.row in
    let told = rw (same, loose) at c.create_guarded.ensures.takes in
    let made = subst (λ (k : Caller). IfOk (making w (next_birth (shown_caller k)) name) (λ bs. end ≡ left_by w c.args.out.now.list c.args.world.now.loose (creating_guarded w (shown_caller k) name dacl bs))) row told in
    let free = subst (λ (k : Caller). IsOk (making w (next_birth (shown_caller k)) name)) row c.in_default.ensures.name in
    let few = subst (λ (k : Caller). IsOk (handles_test w k.process 1)) row c.in_default.ensures.handles in
    record {
      takes = creates w (caller w c.args.by) name dacl c.args.out.now.list c.args.world.now.loose end free few made;
      outcome = creates_outcome w (caller w c.args.by) name dacl free few;
      calls = grind arith;
    }
