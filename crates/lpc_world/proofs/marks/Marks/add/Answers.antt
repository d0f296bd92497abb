use Rattle.std.proofs.Common.{ℕ}
use Rattle.lpc_base.proofs.Differ.{differ-push}
use Rattle.lpc_world.proofs.marks.Marks.add.Goals as goal

pub invariant_of-self : goal.invariant_of-self
invariant_of-self c = rw c.push_reserved.ensures.items (differ-push (λ (n : ℕ). n) c.self.inside.rows.items c.args.tid c.self.invariant (rw (← c.self.view_is) at c.requires.unmarked))
