use Rattle.std.proofs.Common.{◌≡◌, ◌∙◌, subst, arith}
use Rattle.lpc_imperson.proofs.Opened.{serves, serves_outcome}
use Rattle.lpc_imperson.specs.Calls.{opening}
use Rattle.lpc_model.specs.World.{World}
use Rattle.lpc_model.specs.declared.entry.CallName.TheVariants.{NtOpenProcessToken}
use Rattle.lpc_procs.specs.declared.rows.Caller.{Caller}
use Rattle.lpc_rows.specs.Callers.{shown_caller}
use Rattle.lpc_rows.specs.Does.{Left, left_by}
use Rattle.lpc_rows.specs.Ready.{caller}
use Rattle.lpc_imperson.proofs.opening.nt_open_process_token.Goals as goal

pub returns-clause-serves : goal.returns-clause-serves
returns-clause-serves c =
    let w : World = c.args.world.now.rows in
    let same : c.begin_call-2.new.self.rows ≡ w = c.begin_call-2.ensures.rows ∙ c.reserve.ensures.same.rows in
    let loose : c.begin_call-2.new.self.loose ≡ c.args.world.now.loose = c.begin_call-2.ensures.loose ∙ c.reserve.ensures.same.loose in
    let end : Left = record { world = c.open.new.world.rows; entries = c.open.new.out.list; loose = c.open.new.world.loose } in
    let told = rw (same, loose) at c.open.ensures.takes in
    let made = subst (λ (k : Caller). end ≡ left_by w c.args.out.now.list c.args.world.now.loose (opening w (shown_caller k) NtOpenProcessToken c.in-Ok.content)) c.caller-caller.ensures.row told in
    record {
      takes = serves w c.args.out.now.list c.args.world.now.loose (caller w c.args.by) NtOpenProcessToken c.in-Ok.content _ c.in-Ok.ensures.found end made;
      outcome = serves_outcome w c.args.out.now.list c.args.world.now.loose (caller w c.args.by) NtOpenProcessToken c.in-Ok.content _ c.in-Ok.ensures.found;
      calls = grind arith;
    }
