use Rattle.std.proofs.Common.{arith, is_ok, vec_len}
use Rattle.std.proofs.lemmas.Grind.{common_steps}
use Rattle.lpc_numbers.proofs.Nears.{widened-by}
use Rattle.lpc_numbers.proofs.near.Near.widen.Goals as goal

pub returns-then-self : goal.returns-then-self
returns-then-self c =
    rw (← c.self.view_is) (widened-by (record { ranks = c.self.inside.ranks.items; whole = c.self.inside.whole }) c.resize.new.self.items (is_ok c.resize.result) (vec_len c.self.inside.ranks) c.saturating_add.result c.self.inside.ranks.ok.0 c.if-self.true (grind (arith, common_steps, c.saturating_add.ensures, c.len.ensures, c.len.type_inv)) c.resize.ensures.items)
