-- What an entry tells the servers.
use Rattle.std.proofs.Common.{◌≡◌, ℕ, Bool, true, false, List, refl, sym, ap, ◌∙◌}
use Rattle.lpc_base.specs.Rows.{change}
use Rattle.lpc_base.specs.declared.status.Status.{Status}
use Rattle.lpc_sid.specs.declared.sid.Sid.{Sid}
use Rattle.lpc_model.specs.declared.entry.CallName.{CallName}
use Rattle.lpc_model.specs.declared.entry.Entry.{Entry}
use Rattle.lpc_model.specs.declared.entry.Entry.TheVariants.{Answer, Wakes}
use Rattle.lpc_model.specs.declared.entry.Field.{Field}
use Rattle.lpc_model.specs.Residents.{Resident, heard_by, is_on}
use Rattle.lpc_subsys.specs.Clients.{ClientRow}
use Rattle.lpc_residents.specs.Kept.{heard_one, kept}
use Rattle.lpc_residents.specs.Shown.{entry_with, fields_with}

module _ (rs : List (Resident (List ClientRow))) (read : List ℕ) (groups : List Sid) (tid : ℕ) (call : CallName) (status : Status) (fields : List Field) (entry : Entry) where
  abbrev outcome : List (Resident (List ClientRow))
  outcome = change (is_on tid) (heard_by kept status (fields_with read groups fields)) rs

  -- an answer in the line of a turn
  pub heard-answer : (in_turn : Bool) → in_turn ≡ true → entry ≡ Answer tid call status fields → outcome ≡ heard_one kept in_turn rs (entry_with read groups entry)
  heard-answer in_turn on is =
      ap (λ b. heard_one kept b rs (entry_with read groups (Answer tid call status fields))) (sym on)
      ∙ ap (λ (e : Entry). heard_one kept in_turn rs (entry_with read groups e)) (sym is)

  -- a wake in any line
  pub heard-wake : (in_turn : Bool) → entry ≡ Wakes tid call status fields → outcome ≡ heard_one kept in_turn rs (entry_with read groups entry)
  heard-wake in_turn is = at in_turn ∙ ap (λ (e : Entry). heard_one kept in_turn rs (entry_with read groups e)) (sym is)
    where
      at : (b : Bool) → outcome ≡ heard_one kept b rs (entry_with read groups (Wakes tid call status fields))
      at true = refl
      at false = refl
