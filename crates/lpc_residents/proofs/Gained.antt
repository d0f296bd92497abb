-- Where the servers hear of a connection that came of an answer to a connect.
use Rattle.std.proofs.Common.{◌≡◌, refl, sym, ap, ◌∙◌, ℕ, ◌+◌, ◌<◌, Bool, true, false, List, ◌∷◌, drop, get_or, length, map, is_some}
use Rattle.std.specs.Prelude.{◌&&◌, ◌||◌}
use Rattle.std.proofs.lemmas.List.{drop_more}
use Rattle.lpc_base.specs.Rows.{first, passes}
use Rattle.lpc_model.specs.Listed.{Aside, shown_entry, shown_field}
use Rattle.lpc_model.specs.declared.entry.Entry.{Entry}
use Rattle.lpc_model.specs.declared.entry.Entry.TheVariants.{Answer, Waits, Wakes, Busy, NoThread, Died, Directive}
use Rattle.lpc_model.specs.declared.entry.Field.{Field}
use Rattle.lpc_model.specs.Residents.{Resident, is_on}
use Rattle.lpc_subsys.specs.Clients.{ClientRow}
use Rattle.lpc_residents.specs.Kept.{heard_in, heard_one, kept}
use Rattle.lpc_residents.specs.Turns.{gains_by, gains_on, is_answer, may_want}
use Rattle.lpc_residents.proofs.Told.{handle-shown}

abbrev Server : Type 0
Server = Resident (List ClientRow)

-- no mark stands in place of a handle
on-shown : (tid : ℕ) (rs : List Server) (aside : Aside) (fields : List Field) → gains_on tid (map (shown_field aside) fields) rs ≡ gains_on tid fields rs
on-shown tid rs aside fields =
    ap (λ handle. passes (first (is_on tid) rs) (λ (r : Server). r.awaits && (is_answer r.deed && is_some handle))) (handle-shown aside fields)

by-shown : (in_turn : Bool) (rs : List Server) (aside : Aside) (entry : Entry) → gains_by in_turn rs (shown_entry aside entry) ≡ gains_by in_turn rs entry
by-shown in_turn rs aside (Answer tid call status fields) = ap (λ gains. in_turn && gains) (on-shown tid rs aside fields)
by-shown in_turn rs aside (Wakes tid call status fields) = on-shown tid rs aside fields
by-shown in_turn rs aside (Waits tid call fields) = refl
by-shown in_turn rs aside (Busy tid) = refl
by-shown in_turn rs aside (NoThread tid) = refl
by-shown in_turn rs aside (Died tid status) = refl
by-shown in_turn rs aside (Directive word status) = refl

any_true : (b : Bool) → b || true ≡ true
any_true true = refl
any_true false = refl

-- what is heard of the entries that are left is what is heard of the next one, and then of the later ones
module _ (in_turn : Bool) (aside : Aside) (entries : List Entry) (place : ℕ) (entry : Entry) (below : place < length entries) (is : entry ≡ get_or entries place entry) where
  abbrev left : List Entry
  left = map (shown_entry aside) (drop place entries)

  abbrev later : List Entry
  later = map (shown_entry aside) (drop (place + 1) entries)

  parts : left ≡ shown_entry aside entry ∷ later
  parts =
      ap (map (shown_entry aside)) (drop_more entries place entry below)
      ∙ ap (λ (e : Entry). shown_entry aside e ∷ later) (sym is)

  pub heard-next : (before after : List Server) → after ≡ heard_one kept in_turn before (shown_entry aside entry) → heard_in kept in_turn after later ≡ heard_in kept in_turn before left
  heard-next before after same = ap (λ rs. heard_in kept in_turn rs later) same ∙ ap (heard_in kept in_turn before) (sym parts)

  pub wants-next : (before after : List Server) → after ≡ heard_one kept in_turn before (shown_entry aside entry) → may_want in_turn after later ≡ true → may_want in_turn before left ≡ true
  wants-next before after same wants =
      ap (may_want in_turn before) parts
      ∙ ap (λ wanting. gains_by in_turn before (shown_entry aside entry) || wanting) (ap (λ rs. may_want in_turn rs later) (sym same) ∙ wants)
      ∙ any_true (gains_by in_turn before (shown_entry aside entry))

  pub wants-here : (rs : List Server) → gains_by in_turn rs entry ≡ true → may_want in_turn rs left ≡ true
  wants-here rs gains =
      ap (may_want in_turn rs) parts
      ∙ ap (λ here. here || may_want in_turn (heard_one kept in_turn rs (shown_entry aside entry)) later) (by-shown in_turn rs aside entry ∙ gains)
