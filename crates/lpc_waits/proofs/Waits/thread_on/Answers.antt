use Rattle.std.proofs.Common.{ℕ, option_map, refl, ap, ◌∙◌}
use Rattle.lpc_slots.specs.declared.Key.{Key}
use Rattle.lpc_waits.specs.Lent.{keyed}
use Rattle.lpc_waits.specs.Sought.{is_found_on, is_unmarked_on}
use Rattle.lpc_waits.proofs.Found.{kept_stand, thread_found}
use Rattle.lpc_waits.proofs.Waits.thread_on.Goals as goal

pub first_on-requires : goal.first_on-requires
first_on-requires c = kept_stand c.self.inside.rows c.self.inside.chains c.self.inside.events c.self.inside.offering c.self.invariant

pub returns : goal.returns
returns c =
    rw (← c.self.view_is)
    (c.thread_of.ensures ∙ ap (option_map (λ (row : Key × ℕ). row.1)) c.first_on.ensures ∙ thread_found (is_found_on c.args.port c.args.sought c.args.marks.now) (is_unmarked_on c.args.port c.args.sought c.args.marks.now) (λ row. refl) (keyed c.self.inside.rows))
