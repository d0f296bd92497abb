-- The process that is to end and has the least number is the one that ends.
use Rattle.std.proofs.Common.{◌≡◌, [], Option, Some, None, refl}
use Rattle.std.specs.Prelude.{option_map}
use Rattle.std.proofs.lemmas.List.{append-nil}
use Rattle.lpc_base.specs.Rows.{given}
use Rattle.lpc_model.specs.Death.{code_status, end_threads}
use Rattle.lpc_model.specs.Found.{live_threads}
use Rattle.lpc_model.specs.Listed.{Listed}
use Rattle.lpc_model.specs.Settle.{doomed_processes, end_doomed, least}
use Rattle.lpc_model.specs.World.{ProcessRow, World}
use Rattle.lpc_procs.specs.declared.rows.Doomed.{Doomed}
use Rattle.lpc_rows.specs.Does.{Took}
use Rattle.lpc_rows.specs.Kept.{Kept}
use Rattle.lpc_rows.specs.Raised.{doomed_as}
use Rattle.lpc_death.specs.Ends.{doomed_turn}

pub doomed-ends : (w : World) (o : Option ProcessRow) (d : Doomed) → Some d ≡ option_map doomed_as o → given o (λ p. end_doomed p w) ≡ end_threads d.number (code_status d.code) (live_threads w d.number) w
unfolding end_doomed
doomed-ends w None d is = absurd (cc)
doomed-ends w (Some p) d is = let same : d ≡ doomed_as p = cc in rw same refl

none-ends : (w : World) (o : Option ProcessRow) → None ≡ option_map doomed_as o → given o (λ p. end_doomed p w) ≡ []
none-ends w None is = refl
none-ends w (Some p) is = absurd (cc)

-- where none is to end, nothing happens
pub none-took : (w : Kept) (out : Listed) → None ≡ option_map doomed_as (least (doomed_processes w.rows)) → Took (doomed_turn w.rows) w w out out
none-took w out is = rw (none-ends w.rows (least (doomed_processes w.rows)) is, append-nil out.list) refl
