-- A token that is found under its key, as the definitions have it.
use Rattle.std.proofs.Common.{◌≡◌, true, Option, Some, None, option_map, is_some, refl, ap, sym, ◌∙◌}
use Rattle.std.specs.Prelude.{IsSome}
use Rattle.lpc_base.specs.Rows.{first}
use Rattle.lpc_base.proofs.Births.{birth-same}
use Rattle.lpc_base.proofs.RowWords.{first-passes}
use Rattle.lpc_model.specs.Found.{is_token, token_row}
use Rattle.lpc_tokens.specs.declared.token_row.TokenRow.{TokenRow}
use Rattle.lpc_slots.specs.Table.{at, at_key, listed}
use Rattle.lpc_slots.specs.declared.Key.{Key}
use Rattle.lpc_slots.proofs.Same.{at_first}
use Rattle.lpc_rows.specs.Kept.{rows_by}
use Rattle.lpc_rows.specs.Names.{name_of, stands}
use Rattle.lpc_rows.specs.Shown.{AreNamed, Tables, births_of, shown_token}
use Rattle.lpc_rows.proofs.Follows as follows
use Rattle.lpc_rows.proofs.Readings as readings

-- a token that stands is present
pub present : (it : Tables) (token : Key) → stands (births_of it).tokens token ≡ true → IsSome (at it.tokens token)
present it token stand = by (first (at_key token) (listed it.tokens)) (at_first it.tokens token) (readings.row_listed (λ (t : TokenRow). t.birth) (listed it.tokens) token stand)
  where
    by : (o : Option (Key × TokenRow)) → at it.tokens token ≡ option_map (λ (row : Key × TokenRow). row.1) o → is_some o ≡ true → IsSome (at it.tokens token)
    by None is some = absurd (cc)
    by (Some row) is some = ap is_some is

-- and one that is present stands
pub stood : (it : Tables) (key : Key) (row : TokenRow) → at it.tokens key ≡ Some row → stands (births_of it).tokens key ≡ true
stood it key row there = by (first (at_key key) (listed it.tokens)) refl
  where
    by : (o : Option (Key × TokenRow)) → first (at_key key) (listed it.tokens) ≡ o → stands (births_of it).tokens key ≡ true
    by None none = let no : at it.tokens key ≡ None = at_first it.tokens key ∙ ap (option_map (λ (r : Key × TokenRow). r.1)) none in absurd (cc)
    by (Some r) some = readings.listed_stands (λ (t : TokenRow). t.birth) (listed it.tokens) key r some

-- its row, which is found under its name
module _ (it : Tables) (is : AreNamed (births_of it) it) (key : Key) (t : TokenRow) (there : at it.tokens key ≡ Some t) where
  pub found : token_row (rows_by it) (name_of (births_of it).tokens key) ≡ Some (shown_token (key, t))
  found =
      let held = readings.holds (λ (r : Key × TokenRow). r.1) (first (at_key key) (listed it.tokens)) t (sym (at_first it.tokens key) ∙ there) in
      follows.first_token it is key (stood it key t there) ∙ ap (option_map shown_token) held.found ∙ ap (λ (r : TokenRow). Some (shown_token (key, r))) held.is

  pub named : t.birth ≡ name_of (births_of it).tokens key
  named = birth-same t.birth (name_of (births_of it).tokens key) (first-passes (is_token (name_of (births_of it).tokens key)) (rows_by it).tokens (shown_token (key, t)) found)
