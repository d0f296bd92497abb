-- The names of tokens: what a name leads to, and a table of names that changes.
use Rattle.std.proofs.Common.{◌≡◌, ℕ, false, None, Some, List, Option, option_map, is_some, refl, ap, sym, ◌∙◌}
use Rattle.lpc_base.specs.Rows.{first}
use Rattle.lpc_base.proofs.RowMaps.{mapped-twice}
use Rattle.lpc_model.specs.Found.{is_called, named_token}
use Rattle.lpc_model.specs.World as model
use Rattle.lpc_model.specs.World.{Token, World}
use Rattle.lpc_tokens.specs.Names.{TokenNames, is_named, named}
use Rattle.lpc_rows.specs.Kept.{rows_by}
use Rattle.lpc_rows.specs.Lawful.{AreLawful, IsLawful}
use Rattle.lpc_rows.specs.Shown.{Tables, shown_token_name}
use Rattle.lpc_rows.proofs.Drawn as drawn
use Rattle.lpc_rows.proofs.Readings.{first-shown}

-- what the table finds under a name is what the rows have under it
pub named_is : (it : Tables) (name : List ℕ) → option_map (λ (n : model.TokenName). n.token) (named_token (rows_by it) name) ≡ named it.token_names.rows name
named_is it name =
    ap (option_map (λ (n : model.TokenName). n.token)) (first-shown shown_token_name (is_named name) (is_called name) (λ n. refl) it.token_names.rows)
    ∙ mapped-twice shown_token_name (λ (n : model.TokenName). n.token) (first (is_named name) it.token_names.rows)

-- what the rows without names of tokens keep
lawful-named : (w : World) (names : List model.TokenName) (calls made a b : ℕ) → IsLawful w calls made a b → IsLawful (record w { token_names = names }) calls made a b
lawful-named w names calls made a b h = record {
  few = h.few;
  budget = h.budget;
  rows = h.rows;
  draws = h.draws;
  housed = h.housed;
  tables_used = h.tables_used;
  tables_single = h.tables_single;
  tables_few = h.tables_few;
  single = h.single;
  threads = h.threads;
  quiet = h.quiet;
  own = h.own;
  told = h.told;
  waits_fit = h.waits_fit;
  messages_fit = h.messages_fit;
}

-- other names
pub named_lawful : (it : Tables) (calls made : ℕ) (names : TokenNames) → AreLawful it calls made → AreLawful (record it { token_names = names }) calls made
named_lawful it calls made names is = record {
  named = record {
    ports_apart = is.named.ports_apart;
    sections_apart = is.named.sections_apart;
    tokens_apart = is.named.tokens_apart;
    refs = record {
      in_handles = is.named.refs.in_handles;
      in_ports = is.named.refs.in_ports;
      in_messages = is.named.refs.in_messages;
      in_waits = is.named.refs.in_waits;
      in_names = is.named.refs.in_names;
      in_views = is.named.refs.in_views;
    };
  };
  lawful = lawful-named (rows_by it) (rows_by (record it { token_names = names })).token_names calls made it.waits.spare it.ports.message_room is.lawful;
  counted = is.counted;
  registered = is.registered;
  heard = is.heard;
  marked = is.marked;
  headed = is.headed;
  drawn = drawn.same-drawn (rows_by it) _ refl refl refl refl refl is.drawn;
  born = is.born;
  promised = is.promised;
  mapped = is.mapped;
}

-- a name that no token has in the rows has none in the table
pub none_named : (it : Tables) (name : List ℕ) → is_some (named_token (rows_by it) name) ≡ false → named it.token_names.rows name ≡ None
none_named it name none = sym (named_is it name) ∙ by (named_token (rows_by it) name) none
  where
    by : (o : Option model.TokenName) → is_some o ≡ false → option_map (λ (n : model.TokenName). n.token) o ≡ None
    by None none = refl
    by (Some n) none = absurd (cc)
