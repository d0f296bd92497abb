use Rattle.std.proofs.Common.{ap, ℕ}
use Rattle.std.specs.Prelude.{◌==◌}
use Rattle.lpc_sweep.proofs.freeing.is_uncounted.Goals as goal

pub returns : goal.returns
returns c = ap (λ (n : ℕ). n == 0) c.pointers_to.ensures
