use Rattle.std.proofs.Common.{List, ap, ◌∙◌}
use Rattle.std.specs.Prelude.{is_ok}
use Rattle.lpc_base.specs.Rows.{has}
use Rattle.lpc_model.specs.Residents.{is_on, new_resident}
use Rattle.lpc_residents.specs.Kept.{kept}
use Rattle.lpc_residents.proofs.Rows.{Kept, single-pushed}
use Rattle.lpc_residents.proofs.residents.Residents.host.Goals as goal

pub invariant_of-self-2 : goal.invariant_of-self-2
invariant_of-self-2 c =
    let new = ap (λ (rs : List Kept). has (is_on c.args.thread) rs) c.self.view_is ∙ c.requires in
    rw (c.push.ensures.items, c.new-resident.ensures)
    (single-pushed (is_ok c.push.result) c.self.inside.list.items (new_resident kept c.args.thread c.args.handle) c.self.invariant new)
