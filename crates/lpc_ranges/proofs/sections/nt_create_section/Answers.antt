use Rattle.std.proofs.Common.{◌≡◌, ◌∙◌, length, ap, subst, arith}
use Rattle.std.proofs.lemmas.List.{length-replicate}
use Rattle.lpc_model.specs.World.{World}
use Rattle.lpc_procs.specs.declared.rows.Caller.{Caller}
use Rattle.lpc_ranges.specs.Calls.{IsNewSection, making}
use Rattle.lpc_ranges.proofs.Made.{serves, serves_outcome}
use Rattle.lpc_rows.specs.Callers.{shown_caller}
use Rattle.lpc_rows.specs.Does.{Left, left_by}
use Rattle.lpc_rows.specs.Ready.{caller}
use Rattle.lpc_ranges.proofs.sections.nt_create_section.Goals as goal

pub returns-clause-serves : goal.returns-clause-serves
returns-clause-serves c =
    let w : World = c.args.world.now.rows in
    let same : c.begin_call-2.new.self.rows ≡ w = c.begin_call-2.ensures.rows ∙ c.handles_reserve.ensures.same.rows ∙ c.sections_reserve.ensures.same.rows in
    let loose : c.begin_call-2.new.self.loose ≡ c.args.world.now.loose = c.begin_call-2.ensures.loose ∙ c.handles_reserve.ensures.same.loose ∙ c.sections_reserve.ensures.same.loose in
    let end : Left = record { world = c.create.new.world.rows; entries = c.create.new.out.list; loose = c.create.new.world.loose } in
    let birth = c.in_ok-section.ensures.birth ∙ c.next_birth.ensures in
    let size = ap length c.in_ok-section.ensures.bytes ∙ length-replicate c.in-Ok.pages 0 ∙ c.in-Ok.ensures.size in
    let fresh : IsNewSection c.in_ok-section.section (shown_caller c.caller-caller.result) c.args.size c.args.protection = λ i. record { birth = birth i; size = size i; writable = c.in_ok-section.ensures.writable i } in
    let told = rw (same, loose) at c.create.ensures.takes c.args.size c.args.protection fresh in
    let made = subst (λ (k : Caller). end ≡ left_by w c.args.out.now.list c.args.world.now.loose (making w (shown_caller k) c.args.size c.args.protection)) c.caller-caller.ensures.row told in
    record {
      takes = serves w c.args.out.now.list c.args.world.now.loose (caller w c.args.by) c.args.size c.args.protection _ c.in-Ok.ensures.made end made;
      outcome = serves_outcome w c.args.out.now.list c.args.world.now.loose (caller w c.args.by) c.args.size c.args.protection _ c.in-Ok.ensures.made;
      calls = grind arith;
    }
