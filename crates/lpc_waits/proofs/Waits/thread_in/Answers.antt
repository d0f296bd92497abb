use Rattle.std.proofs.Common.{ℕ, option_map, refl, ap, ◌∙◌}
use Rattle.lpc_slots.specs.declared.Key.{Key}
use Rattle.lpc_waits.specs.Lent.{keyed}
use Rattle.lpc_waits.specs.Sought.{is_found_in, is_unmarked_in}
use Rattle.lpc_waits.proofs.Found.{kept_stand, thread_found}
use Rattle.lpc_waits.proofs.Waits.thread_in.Goals as goal

pub first_in-requires : goal.first_in-requires
first_in-requires c = kept_stand c.self.inside.rows c.self.inside.chains c.self.inside.events c.self.inside.offering c.self.invariant

pub returns : goal.returns
returns c =
    rw (← c.self.view_is)
    (c.thread_of.ensures ∙ ap (option_map (λ (row : Key × ℕ). row.1)) c.first_in.ensures ∙ thread_found (is_found_in c.args.queue c.args.sought c.args.marks.now) (is_unmarked_in c.args.queue c.args.sought c.args.marks.now) (λ row. refl) (keyed c.self.inside.rows))
