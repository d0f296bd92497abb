-- An exception returns only where a reply continues it, or where its frame handlers handle it: as its line says, where
-- it is answered at once, or as its wait keeps, once their chance has come.
use Rattle.std.specs.Prelude.{◌≡◌, ◌⊎◌, ℕ, true, List, ◌∷◌, Some}
use Rattle.std.specs.List.{AllByRecursion}
use Rattle.lpc_base.specs.declared.status.TheConstants.{DBG_CONTINUE, SUCCESS}
use Rattle.lpc_model.specs.declared.entry.CallName.TheVariants.{Raise}
use Rattle.lpc_model.specs.declared.entry.Entry.{Entry}
use Rattle.lpc_model.specs.declared.entry.Entry.TheVariants.{Answer, Wakes}
use Rattle.lpc_model.specs.World.{FirstDebug, Raised, WaitRow, World}
use Rattle.lpc_model.specs.Found.{wait_of}
use Rattle.lpc_model.specs.Lines.{ScriptLine, raise, run}
use Rattle.lpc_model.specs.Machine.{step}
use Rattle.lpc_model.specs.Raise.{raised_in}
use Rattle.lpc_replay.specs.Connects.{turned}

-- the line raises the exception, whose frame handlers handle it
pub record IsHandledAtOnce (line : ScriptLine) (tid : ℕ) : Type 0 where
  pub code : ℕ
  pub raises : line ≡ run tid (raise code true)

-- A turn of settling wakes the thread: of the marked events its one is the first. It was sent at the first chance of the
-- debug port, which is the only one before the frame handlers, and the wait keeps that these handle the exception.
pub record IsHandledByTurn (w : World) (line : ScriptLine) (tid : ℕ) : Type 0 where
  pub before : ℕ
  pub later : List ℕ
  pub wait : WaitRow
  pub raised : Raised
  pub marked : (turned w line before).marks ≡ tid ∷ later
  pub waits : wait_of (turned w line before) tid ≡ Some wait
  pub is_event : raised_in wait ≡ Some raised
  pub chance : raised.chance ≡ FirstDebug
  pub handled : raised.handled ≡ true

-- an exception that returns is continued, by a reply, or is handled by its frame handlers, at once or by a turn of settling
abbrev pub HasHandler : World → ScriptLine → Entry → Type 0
HasHandler w line (Wakes tid Raise status fields) =
    (status ≡ DBG_CONTINUE) ⊎ ((status ≡ SUCCESS) × IsHandledByTurn w line tid)
HasHandler w line (Answer tid Raise status fields) = (status ≡ SUCCESS) × IsHandledAtOnce line tid
HasHandler w line entry = Unit {0}

-- so in a line's step
abbrev pub RaisesReturnAsHandled : World → ScriptLine → Type 0
RaisesReturnAsHandled w line = AllByRecursion (HasHandler w line) (step w line).entries
