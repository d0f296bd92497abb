use Rattle.std.proofs.Common.{subst, ◌<◌, ℕ}
use Rattle.lpc_procs.proofs.Keyed.{row-in, rows-length}
use Rattle.lpc_procs.proofs.keys.row_at.Goals as goal

pub row-requires : goal.row-requires
row-requires g c = subst (λ (n : ℕ). c.args.place < n) (rows-length c.args.rows.now) c.requires

pub returns : goal.returns
returns g c = row-in c.args.rows.now c.args.place c.row.result.0 c.row.result.1.now c.row.ensures
