-- A token more: what stood stands under its name, the new rows are the step of the rows that the tables stood for, and
-- the tables stay lawful.
use Rattle.std.proofs.Common.{◌≡◌, ℕ, ◌+◌, ◌*◌, ◌<◌, ◌≤◌, List, [], ◌∷◌, ◌++◌, Bool, true, false, length, map, None, refl, ap, sym, subst, ◌∙◌, arith}
use Rattle.std.proofs.lemmas.Bool.Decides.{nat_tests}
use Rattle.std.proofs.lemmas.List.{length_push}
use Rattle.lpc_base.specs.Rows.{every, first, has}
use Rattle.lpc_base.proofs.RowMaps.{push-map}
use Rattle.lpc_base.proofs.RowWords.{every-more}
use Rattle.lpc_homes.specs.declared.object.Object.{Object}
use Rattle.lpc_homes.specs.declared.object.Object.TheVariants as object
use Rattle.lpc_model.specs.Basics.{AddsToken, basic}
use Rattle.lpc_model.specs.Found.{is_token}
use Rattle.lpc_model.specs.World as model
use Rattle.lpc_model.specs.World.{World}
use Rattle.lpc_slots.specs.Table.{Table, at, at_key, inserted, listed}
use Rattle.lpc_slots.specs.declared.Key.{Key}
use Rattle.lpc_slots.proofs.Same.{vacant}
use Rattle.lpc_tokens.specs.declared.token_row.TokenRow.{TokenRow}
use Rattle.lpc_rows.specs.Kept.{owed_rows, rows_by}
use Rattle.lpc_rows.specs.Lawful.{AreBornIn, AreLawful, IsLawful, IsPromised, draws_at_most, drew}
use Rattle.lpc_rows.specs.Names.{KeepsNames, Names, name_of, names_of, stands}
use Rattle.lpc_rows.specs.Shown.{AllPass, AreNamed, Births, Tables, binding_refs, birth_of, births_of, message_refs, object_stands, part_refs, port_refs, shown_binding, shown_by, shown_message, shown_part, shown_port, shown_space, shown_token, shown_wait, space_refs, wait_refs}
use Rattle.lpc_rows.proofs.Drawn as drawn
use Rattle.lpc_rows.proofs.Makes.{absent, bindings_shape, messages_shape, parts_shape, ports_shape, rows_more, shown_same, spaces_shape, waits_shape}
use Rattle.lpc_rows.proofs.Naming.{apart-push, is_other, name-new, name-push, stands-new, stands-push}
use Rattle.lpc_rows.proofs.Steps.{more_mapped}

-- Rows whose objects keep their names
module _ (it : Tables) (ok : Object → Bool) (pass : AllPass ok it) (n m : Births) (same : (o : Object) → ok o ≡ true → birth_of m o ≡ birth_of n o) (tokens : Table TokenRow) where
  pub renamed : shown_by m (record it { tokens = tokens }) ≡ record (shown_by n it) { tokens = map shown_token (listed tokens) }
  renamed =
      rw (
        shown_same part_refs shown_part parts_shape ok (birth_of m) (birth_of n) same it.parts pass.in_handles,
        shown_same port_refs shown_port ports_shape ok (birth_of m) (birth_of n) same it.ports.ports pass.in_ports,
        shown_same message_refs shown_message messages_shape ok (birth_of m) (birth_of n) same it.ports.messages pass.in_messages,
        shown_same wait_refs shown_wait waits_shape ok (birth_of m) (birth_of n) same it.waits.rows pass.in_waits,
        shown_same binding_refs shown_binding bindings_shape ok (birth_of m) (birth_of n) same it.space.bindings pass.in_names,
        shown_same space_refs shown_space spaces_shape ok (birth_of m) (birth_of n) same it.parts pass.in_views,
      ) refl

pub still_pass : (it : Tables) (ok more : Object → Bool) (tokens : Table TokenRow) → AllPass ok it → ((o : Object) → ok o ≡ true → more o ≡ true) → AllPass more (record it { tokens = tokens })
still_pass it ok more tokens pass wider = record {
  in_handles = rows_more part_refs ok more wider it.parts pass.in_handles;
  in_ports = rows_more port_refs ok more wider it.ports.ports pass.in_ports;
  in_messages = rows_more message_refs ok more wider it.ports.messages pass.in_messages;
  in_waits = rows_more wait_refs ok more wider it.waits.rows pass.in_waits;
  in_names = rows_more binding_refs ok more wider it.space.bindings pass.in_names;
  in_views = rows_more space_refs ok more wider it.parts pass.in_views;
}

-- what the rows without tokens keep
pub lawful-tokens : (w : World) (ks : List model.TokenRow) (calls made more a b : ℕ) → IsLawful w calls made a b → length ks + made ≤ length w.tokens + more → made ≤ more → more + owed_rows w ≤ 16 * calls
    → IsLawful (record w { tokens = ks }) calls more a b
lawful-tokens w ks calls made more a b h few le lt = record {
  few = h.few;
  budget = lt;
  rows = omega (arith, h.rows, few, le);
  draws = every-more (draws_at_most (made + 1)) (draws_at_most (more + 1)) (λ t there. grind (arith, nat_tests, le)) w.threads h.draws;
  housed = h.housed;
  tables_used = h.tables_used;
  tables_single = h.tables_single;
  tables_few = omega (arith, h.tables_few, le);
  single = h.single;
  threads = h.threads;
  quiet = h.quiet;
  own = h.own;
  told = h.told;
  waits_fit = h.waits_fit;
  messages_fit = h.messages_fit;
}

-- A token more
module _ (it : Tables) (is : AreNamed (births_of it) it) (key : Key) (row : TokenRow) (new : Table TokenRow) (more : listed new ≡ listed it.tokens ++ (key, row) ∷ []) (free : first (at_key key) (listed it.tokens) ≡ None) where
  abbrev n : Births
  n = births_of it

  abbrev after : Tables
  after = record it { tokens = new }

  abbrev m : Births
  m = births_of after

  abbrev longer : Names
  longer = n.tokens ++ (key, row.birth) ∷ []

  pub names_push : m.tokens ≡ longer
  names_push = ap (names_of (λ (t : TokenRow). t.birth)) more ∙ push-map (λ (r : Key × TokenRow). (r.0, r.1.birth)) (listed it.tokens) (key, row)

  unnamed : stands n.tokens key ≡ false
  unnamed = absent (λ (t : TokenRow). t.birth) key (listed it.tokens) free

  stands_more : (o : Object) → object_stands n o ≡ true → object_stands m o ≡ true
  stands_more (object.Port k) there = there
  stands_more (object.Process birth) there = refl
  stands_more (object.Thread birth) there = refl
  stands_more (object.Section k) there = there
  stands_more (object.Token k) there = rw names_push (stands-push n.tokens key row.birth k there)

  name_more : (o : Object) → object_stands n o ≡ true → birth_of m o ≡ birth_of n o
  name_more (object.Port k) there = refl
  name_more (object.Process birth) there = refl
  name_more (object.Thread birth) there = refl
  name_more (object.Section k) there = refl
  name_more (object.Token k) there = rw names_push (name-push n.tokens key row.birth k there)

  pub keeps : KeepsNames n.tokens m.tokens
  keeps = record { name = λ k there. name_more (object.Token k) there; there = λ k there. stands_more (object.Token k) there }

  pub name_new : name_of m.tokens key ≡ row.birth
  name_new = rw names_push (name-new n.tokens key row.birth unnamed)

  pub stands_new : stands m.tokens key ≡ true
  stands_new = rw names_push (stands-new n.tokens key row.birth)

  other_births : (rows : List (Key × TokenRow)) → first (is_token row.birth) (map shown_token rows) ≡ None → every (is_other row.birth) (names_of (λ (t : TokenRow). t.birth) rows) ≡ true
  other_births [] none = refl
  other_births (r ∷ rows) none = grind (arith, other_births rows)

  pub added_named : first (is_token row.birth) (map shown_token (listed it.tokens)) ≡ None → AreNamed m after
  added_named fresh = record {
    ports_apart = is.ports_apart;
    sections_apart = is.sections_apart;
    tokens_apart = rw names_push (apart-push n.tokens key row.birth is.tokens_apart unnamed (other_births (listed it.tokens) fresh));
    refs = still_pass it (object_stands n) (object_stands m) new is.refs stands_more;
  }

  pub adds : rows_by after ≡ basic (rows_by it) (AddsToken (shown_token (key, row)))
  adds =
      renamed it (object_stands n) is.refs n m name_more new
      ∙ rw (more, push-map shown_token (listed it.tokens) (key, row)) refl

module _ (it : Tables) (calls made : ℕ) (is : AreLawful it calls made) (key : Key) (row : TokenRow) (new : Table TokenRow) (is_new : new ≡ inserted it.tokens key row) (more : listed new ≡ listed it.tokens ++ (key, row) ∷ []) (none : at it.tokens key ≡ None) where
  free : first (at_key key) (listed it.tokens) ≡ None
  free = vacant it.tokens key none

  abbrev left : World
  left = basic (rows_by it) (AddsToken (shown_token (key, row)))

  pub added_lawful : first (is_token row.birth) (rows_by it).tokens ≡ None → has (drew row.birth) (rows_by it).threads ≡ true → made + owed_rows (rows_by it) < 16 * calls → AreLawful (record it { tokens = new }) calls (made + 1)
  added_lawful fresh was lt = record {
    named = added_named it is.named key row new more free fresh;
    lawful = rw (adds it is.named key row new more free) (lawful-tokens (rows_by it) left.tokens calls made (made + 1) it.waits.spare it.ports.message_room is.lawful (let long = length_push (rows_by it).tokens (shown_token (key, row)) in omega (arith, long)) (omega arith) (omega (arith, lt)));
    counted = record {
      ports_made = omega (arith, is.counted.ports_made);
      messages_made = omega (arith, is.counted.messages_made);
      waits_made = omega (arith, is.counted.waits_made);
      tokens_made = let count = ap (λ (t : Table TokenRow). t.made) is_new in omega (arith, is.counted.tokens_made, count);
    };
    registered = is.registered;
    heard = is.heard;
    marked = is.marked;
    headed = is.headed;
    drawn = rw (adds it is.named key row new more free) (drawn.drawn-token (rows_by it) (shown_token (key, row)) was is.drawn);
    born = subst AreBornIn (sym (adds it is.named key row new more free)) is.born;
    promised = subst (λ (v : World). IsPromised v.waits v.handles it.parts) (sym (adds it is.named key row new more free)) is.promised;
    mapped = more_mapped it.sections it.parts made is.mapped;
  }

-- More room for tokens
pub roomed_lawful : (it : Tables) (calls made spare : ℕ) → AreLawful it calls made → AreLawful (record it { tokens = record it.tokens { spare = spare } }) calls made
roomed_lawful it calls made spare is = record {
  named = record { ports_apart = is.named.ports_apart; sections_apart = is.named.sections_apart; tokens_apart = is.named.tokens_apart; refs = record { in_handles = is.named.refs.in_handles; in_ports = is.named.refs.in_ports; in_messages = is.named.refs.in_messages; in_waits = is.named.refs.in_waits; in_names = is.named.refs.in_names; in_views = is.named.refs.in_views } };
  lawful = is.lawful;
  counted = record { ports_made = is.counted.ports_made; messages_made = is.counted.messages_made; waits_made = is.counted.waits_made; tokens_made = is.counted.tokens_made };
  registered = is.registered;
  heard = is.heard;
  marked = is.marked;
  headed = is.headed;
  drawn = is.drawn;
  born = is.born;
  promised = is.promised;
  mapped = is.mapped;
}
