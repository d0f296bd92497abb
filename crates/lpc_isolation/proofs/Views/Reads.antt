-- What a call of c's reads of sections, and that it is known from the inputs.
use Rattle.std.specs.Prelude.{◌≡◌, ℕ, true, None, Ok, Some}
use Rattle.lpc_model.specs.World.{Contents, ThreadRow, ViewRow, World}
use Rattle.lpc_model.specs.Found.{live_thread, wait_of}
use Rattle.lpc_model.specs.Lines.{ScriptCall, ScriptLine, read_request_data, run}
use Rattle.lpc_model.specs.Ranges.{Described, described_test}
use Rattle.lpc_model.specs.Circle.{Group, is_fine_line}
use Rattle.lpc_isolation.proofs.Views.Bytes.{Right, held_bytes}

-- a view shows a member's section, whose bytes are those of the world
abbrev pub IsRight : Group → Contents → World → ViewRow → Type 0
IsRight m k w v = (m v.section.process ≡ true) × (held_bytes k v.section ≡ held_bytes w.contents v.section)

-- and so does the one that holds the range of which an NtReadRequestData is answered with bytes
abbrev pub RangeRight : Group → Contents → World → ThreadRow → ScriptCall → Type 0
RangeRight m k w by (read_request_data handle bytes index n) = (d : Described) → described_test w by handle bytes index n ≡ Ok d → IsRight m k w d.view
RangeRight m k w by call = Unit {0}

-- what a call of c's may read is known: c's views, and such a range
pub record Reads (m : Group) (c : ℕ) (k : Contents) (w : World) (by : ThreadRow) (call : ScriptCall) : Type 0 where
  pub views : Right c k w
  pub range : RangeRight m k w by call

-- where a line is such a call of c's
abbrev pub LineRight : Group → ℕ → Contents → World → ScriptLine → Type 0
LineRight m c k w (run tid call) = (by : ThreadRow) → live_thread w tid ≡ Some by → wait_of w tid ≡ None → by.process ≡ c → RangeRight m k w by call
LineRight m c k w line = Unit {0}

-- a line is as the circle has it, and what it reads is known
pub record FineLine (m : Group) (c : ℕ) (k : Contents) (w : World) (line : ScriptLine) : Type 0 where
  pub fine : is_fine_line m c w line ≡ true
  pub right : LineRight m c k w line
