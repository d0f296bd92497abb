-- How what ran stands to its definition's steps.
use Rattle.std.specs.Prelude.{Bool, ◌≡◌, ◌+◌, ◌++◌, [], List, Result, Ok, Err, IsOk}
use Rattle.lpc_base.specs.declared.status.Status.{Status}
use Rattle.lpc_base.specs.declared.error.OutOfMemory.{OutOfMemory}
use Rattle.lpc_base.specs.declared.status.TheConstants.{SUCCESS}
use Rattle.lpc_model.specs.declared.entry.Entry.{Entry}
use Rattle.lpc_model.specs.declared.entry.Outcome.{Outcome}
use Rattle.lpc_model.specs.World.{World}
use Rattle.lpc_model.specs.Basics.{Basic, world_after, entries_of, outcome_of}
use Rattle.lpc_model.specs.Sweep.{loosened}
use Rattle.lpc_model.specs.Listed.{Listed}
use Rattle.lpc_rows.specs.Kept.{Kept, Same}

-- what steps leave of a world, behind the entries so far, and whether a row went that may have named an object
pub record Left : Type 0 where
  pub world : World
  pub entries : List Entry
  pub loose : Bool

abbrev pub left_by : World → List Entry → Bool → List Basic → Left
left_by w es loose bs = record { world = world_after w bs; entries = es ++ entries_of bs; loose = loosened loose bs }

-- these steps were taken
abbrev pub Took : List Basic → Kept → Kept → Listed → Listed → Type 0
Took bs old new before after =
    record { world = new.rows; entries = after.list; loose = new.loose } ≡ left_by old.rows before.list old.loose bs

-- what a call leaves, and how it ended
pub record Done : Type 0 where
  pub left : Left
  pub outcome : Outcome

abbrev pub done_by : World → List Entry → Bool → Result (List Basic) Status → Result Done Status
done_by w es loose (Ok bs) = Ok (record { left = left_by w es loose bs; outcome = outcome_of bs })
done_by w es loose (Err s) = Err s

-- it took the steps of its definition, or was refused as the definition says and changed nothing
abbrev pub Does : Result Outcome Status → Result (List Basic) Status → Kept → Kept → Listed → Listed → Type 0
Does (Ok o) steps old new before after =
    done_by old.rows before.list old.loose steps
    ≡ Ok (record { left = record { world = new.rows; entries = after.list; loose = new.loose }; outcome = o })
Does (Err s) steps old new before after = (steps ≡ Err s) × Same old new × (after ≡ before)

-- what a directive's steps leave, and its status; they tell nothing
pub record Made : Type 0 where
  pub left : Left
  pub status : Status

abbrev pub made_by : World → Bool → Result (List Basic) Status → Made
made_by w loose (Ok bs) = record { left = left_by w [] loose bs; status = SUCCESS }
made_by w loose (Err s) = record { left = record { world = w; entries = []; loose = loose }; status = s }

-- a directive took the steps of its definition or was refused as the definition says, or it would have taken them but
-- found no memory
abbrev pub Directs : Result Status OutOfMemory → Result (List Basic) Status → Kept → Kept → Type 0
Directs (Ok s) steps old new =
    (record { left = record { world = new.rows; entries = []; loose = new.loose }; status = s } ≡ made_by old.rows old.loose steps)
    × (new.calls ≡ old.calls + 1)
Directs (Err e) steps old new = IsOk steps × Same old new
