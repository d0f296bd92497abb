-- What a thread that can make a call has registered, as the table of threads tells it.
use Rattle.std.proofs.Common.{◌≡◌, ◌<◌, ◌≤◌, ◌∙◌, ℕ, List, Bool, true, false, length, map, Option, Some, None, option_map, refl, ap, sym, arith}
use Rattle.std.specs.Prelude.{Err, Ok, nat_le}
use Rattle.std.proofs.lemmas.Bool.Decides.{nat_tests}
use Rattle.std.proofs.lemmas.List.{length-map}
use Rattle.std.proofs.lemmas.Option.{same_Some}
use Rattle.lpc_base.specs.declared.birth.Birth.{Birth}
use Rattle.lpc_base.specs.declared.status.TheConstants.{QUOTA_EXCEEDED}
use Rattle.lpc_base.specs.Rows.{first}
use Rattle.lpc_model.specs.Found.{is_thread}
use Rattle.lpc_model.specs.Register.{is_registered, registration_test}
use Rattle.lpc_model.specs.World as model
use Rattle.lpc_procs.specs.Procs as procs
use Rattle.lpc_procs.specs.declared.rows.Registration.{Registration}
use Rattle.lpc_procs.specs.declared.rows.ThreadRow.{ThreadRow}
use Rattle.lpc_rows.specs.Shown.{shown_thread}
use Rattle.lpc_rows.proofs.Readings as readings
use Rattle.lpc_rows.proofs.Registered.{births-registered}

module _ (threads : List model.ThreadRow) (lent : List ThreadRow) (are : threads ≡ map shown_thread lent) (tid : ℕ) (by : model.ThreadRow) (there : first (is_thread tid) threads ≡ Some by) where
  -- its row in the table
  pub record IsRow : Type 0 where
    pub row : ThreadRow
    pub found : first (procs.is_thread tid) lent ≡ Some row
    pub shown : by ≡ shown_thread row

  pub its_row : IsRow
  its_row = by_row (first (procs.is_thread tid) lent) refl
    where
      seen : first (is_thread tid) threads ≡ option_map shown_thread (first (procs.is_thread tid) lent)
      seen = ap (first (is_thread tid)) are ∙ readings.first-shown shown_thread (procs.is_thread tid) (is_thread tid) (λ t. refl) lent

      by_row : (o : Option ThreadRow) → first (procs.is_thread tid) lent ≡ o → IsRow
      by_row None none = let gone : first (is_thread tid) threads ≡ None = seen ∙ ap (option_map shown_thread) none in absurd (cc)
      by_row (Some t) here = record { row = t; found = here; shown = same_Some by (shown_thread t) (sym there ∙ seen ∙ ap (option_map shown_thread) here) }

  -- it registered a port, and so many
  pub registered_is : (b : Birth) (result : Bool) → option_map (procs.has_registered b) (first (procs.is_thread tid) lent) ≡ Some result → result ≡ is_registered b by
  registered_is b result at =
      let here : procs.has_registered b its_row.row ≡ result = same_Some (procs.has_registered b its_row.row) result (sym (ap (option_map (procs.has_registered b)) its_row.found) ∙ at) in
      sym here ∙ sym (births-registered b its_row.row.registered.items) ∙ sym (ap (is_registered b) its_row.shown)

  pub registered_many : (count : ℕ) → option_map (λ (t : ThreadRow). length t.registered.items) (first (procs.is_thread tid) lent) ≡ Some count → length by.registrations ≡ count
  registered_many count at =
      let here : length its_row.row.registered.items ≡ count = same_Some (length its_row.row.registered.items) count (sym (ap (option_map (λ (t : ThreadRow). length t.registered.items)) its_row.found) ∙ at) in
      ap (λ (t : model.ThreadRow). length t.registrations) its_row.shown ∙ length-map its_row.row.registered.items (λ (x : Registration). x.birth) ∙ here

-- The test of a further registration
pub is_refused : (by : model.ThreadRow) (b : Birth) (count : ℕ) → is_registered b by ≡ false → length by.registrations ≡ count → 16 ≤ count → registration_test by b ≡ Err QUOTA_EXCEEDED
is_refused by b count off long full = let le : nat_le 16 count ≡ true = grind (arith, nat_tests) in rw (off, long, le) refl

pub is_granted : (by : model.ThreadRow) (b : Birth) (count : ℕ) → is_registered b by ≡ false → length by.registrations ≡ count → count < 16 → registration_test by b ≡ Ok tt
is_granted by b count off long few = let le : nat_le 16 count ≡ false = grind (arith, nat_tests) in rw (off, long, le) refl
