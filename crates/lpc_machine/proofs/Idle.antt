-- What a line about the server on a thread tells where there is none.
use Rattle.std.proofs.Common.{◌≡◌, ℕ, Option, Some, None, false, refl}
use Rattle.lpc_base.specs.declared.status.TheConstants.{INVALID_CID}
use Rattle.lpc_model.specs.declared.entry.Entry.TheVariants.{Directive}
use Rattle.lpc_model.specs.declared.entry.Word.TheVariants as word
use Rattle.lpc_model.specs.declared.line.Kind.{Kind}
use Rattle.lpc_model.specs.Found.{live_thread}
use Rattle.lpc_model.specs.Lines.{hosts, moves}
use Rattle.lpc_model.specs.Machine.{hosting_status, idle_entry, resident_entry}
use Rattle.lpc_model.specs.World.{ThreadRow, World}

pub hosts_alone : (w : World) (tid : ℕ) (kind : Kind) (handle : ℕ) → resident_entry w tid (hosts kind handle) false ≡ Directive word.Resident (hosting_status (live_thread w tid) false)
unfolding resident_entry
hosts_alone w tid kind handle = refl

idle_alone : (o : Option ThreadRow) (tid : ℕ) → idle_entry tid o false ≡ Directive word.Turn INVALID_CID
idle_alone None tid = refl
idle_alone (Some t) tid = refl

pub turn_alone : (w : World) (tid : ℕ) → resident_entry w tid moves false ≡ Directive word.Turn INVALID_CID
unfolding resident_entry
turn_alone w tid = idle_alone (live_thread w tid) tid
