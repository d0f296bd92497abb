-- A token less, which no handle names: what else stood stands under its name, the new rows are the step of the rows that
-- the tables stood for, and the tables stay lawful.
use Rattle.std.proofs.Common.{◌≡◌, ℕ, List, [], ◌∷◌, true, false, Bool, cond, not, map, Option, Some, None, option_map, refl, ap, sym, subst, ◌∙◌, arith}
use Rattle.std.specs.Prelude.{is_some, ◌&&◌, if◌then◌else◌}
use Rattle.lpc_base.specs.Rows.{each, every, first, has, without}
use Rattle.lpc_base.proofs.RowMaps.{without-map}
use Rattle.lpc_base.proofs.RowWords.{count-bound, every-any, every-append, every-off}
use Rattle.lpc_handles.specs.declared.table.Row.{Row}
use Rattle.lpc_homes.specs.Parts.{has_name_of, is_object, names_it}
use Rattle.lpc_homes.specs.declared.object.Object.{Object}
use Rattle.lpc_homes.specs.declared.object.Object.TheVariants as object
use Rattle.lpc_model.specs.Basics.{Frees, basic}
use Rattle.lpc_model.specs.Found.{is_token, token_name}
use Rattle.lpc_model.specs.World as model
use Rattle.lpc_model.specs.World.{World}
use Rattle.lpc_names.specs.Walk.{LinkTo, Node, Stands}
use Rattle.lpc_names.specs.declared.names.Found.TheVariants.{Directory, Item}
use Rattle.lpc_ports.specs.declared.Port.{Port}
use Rattle.lpc_slots.specs.Table.{Table, at, at_key, listed, removed}
use Rattle.lpc_slots.specs.declared.Key.{Key}
use Rattle.lpc_slots.proofs.Same.{at_first}
use Rattle.lpc_tokens.specs.declared.token_row.TokenRow.{TokenRow}
use Rattle.lpc_views.specs.declared.view.View.{View}
use Rattle.lpc_waits.specs.declared.Accepted.{Accepted}
use Rattle.lpc_waits.specs.declared.Offer.{Offer}
use Rattle.lpc_waits.specs.declared.WaitKind.{WaitKind}
use Rattle.lpc_waits.specs.declared.WaitKind.TheVariants as wait
use Rattle.lpc_waits.specs.Table.{WaitingThread}
use Rattle.lpc_rows.specs.Held.{has_handles}
use Rattle.lpc_rows.specs.Kept.{rows_by}
use Rattle.lpc_rows.specs.Lawful.{AreBornIn, AreLawful, IsPromised}
use Rattle.lpc_rows.specs.Names.{KeepsOthers, name_of, names_of, stands}
use Rattle.lpc_rows.specs.Shown.{AllPass, AreNamed, Births, Tables, all_pass, binding_refs, birth_of, births_of, message_refs, node_refs, object_stands, offer_refs, part_refs, port_refs, ports_in, shown_token, space_refs, view_refs, wait_refs}
use Rattle.lpc_rows.proofs.Changes as changes
use Rattle.lpc_rows.proofs.Counted as counted
use Rattle.lpc_rows.proofs.Drawn as drawn
use Rattle.lpc_rows.proofs.Follows as follows
use Rattle.lpc_rows.proofs.Frees.{both_pass}
use Rattle.lpc_rows.proofs.Readings.{row_listed}
use Rattle.lpc_rows.proofs.Naming.{apart-without, name-without, stands-without}
use Rattle.lpc_rows.proofs.Tokens.{lawful-tokens, renamed, still_pass}

-- an object is another than the token
abbrev pub is_other : Key → Object → Bool
is_other key o = not (is_object (object.Token key) o)

-- nothing but handles names a token
module _ (key : Key) where
  handles_off : (rows : List (ℕ × Row Object)) → has (names_it (object.Token key)) rows ≡ false → every (is_other key) (map (λ row. row.1.object) rows) ≡ true
  handles_off [] none = refl
  handles_off (row ∷ rows) none = grind (arith, handles_off rows)

  owner_other : (o : Option Key) → every (is_other key) (ports_in o) ≡ true
  owner_other None = refl
  owner_other (Some k) = refl

  views_other : (vs : List (View Key)) → every (is_other key) (each view_refs vs) ≡ true
  views_other [] = refl
  views_other (v ∷ vs) = every-append (is_other key) (view_refs v) (each view_refs vs) (let owner = owner_other v.owner in grind (arith, owner)) (views_other vs)

  wait_other : (row : WaitingThread) → all_pass wait_refs (is_other key) row ≡ true
  wait_other row = by row.wait.kind row.offer row.accepted
    where
      by : (kind : WaitKind) (o : Option Offer) (a : Option Accepted) → every (is_other key) (object.Port row.wait.port ∷ object.Port row.wait.queue ∷ offer_refs kind o a) ≡ true
      by wait.Request o a = refl
      by wait.Receive o a = refl
      by wait.Listen o a = refl
      by wait.Connect None None = refl
      by wait.Connect (Some o) None = refl
      by wait.Connect o (Some a) = refl
      by (wait.Event r) o a = refl

  port_other : (row : Key × Port) → all_pass port_refs (is_other key) row ≡ true
  port_other row = every-append (is_other key) (ports_in row.1.pair) (ports_in row.1.connection) (owner_other row.1.pair) (owner_other row.1.connection)

  node_other : (node : Node Key) → every (is_other key) (node_refs node) ≡ true
  node_other (LinkTo target) = refl
  node_other (Stands Directory) = refl
  node_other (Stands (Item k)) = refl

  pub others_pass : (it : Tables) → has (has_name_of (object.Token key)) it.parts ≡ false → AllPass (is_other key) it
  others_pass it none = record {
    in_handles = every-off (has_name_of (object.Token key)) (all_pass part_refs (is_other key)) (λ part off. handles_off part.handles.rows off) it.parts none;
    in_ports = every-any (all_pass port_refs (is_other key)) port_other it.ports.ports;
    in_messages = every-any (all_pass message_refs (is_other key)) (λ row. refl) it.ports.messages;
    in_waits = every-any (all_pass wait_refs (is_other key)) wait_other it.waits.rows;
    in_names = every-any (all_pass binding_refs (is_other key)) (λ row. node_other row.1) it.space.bindings;
    in_views = every-any (all_pass space_refs (is_other key)) (λ part. views_other part.views.views) it.parts;
  }

module _ (it : Tables) (is : AreNamed (births_of it) it) (key : Key) (new : Table TokenRow) (less : listed new ≡ without (at_key key) (listed it.tokens)) (unused : has (has_name_of (object.Token key)) it.parts ≡ false) where
  abbrev n : Births
  n = births_of it

  abbrev after : Tables
  after = record it { tokens = new }

  abbrev m : Births
  m = births_of after

  -- what stands and isn't the token
  abbrev ok : Object → Bool
  ok o = object_stands n o && is_other key o

  names_less : m.tokens ≡ without (at_key key) n.tokens
  names_less =
      ap (names_of (λ (t : TokenRow). t.birth)) less
      ∙ without-map (λ (r : Key × TokenRow). (r.0, r.1.birth)) (λ _. true) (at_key key) (at_key key) (λ r _. refl) (listed it.tokens) (changes.all_true it is (listed it.tokens))

  stands_less : (o : Object) → ok o ≡ true → object_stands m o ≡ true
  stands_less (object.Port k) there = grind arith
  stands_less (object.Process birth) there = refl
  stands_less (object.Thread birth) there = refl
  stands_less (object.Section k) there = grind arith
  stands_less (object.Token k) there = rw names_less (stands-without n.tokens key k (grind arith) (grind arith))

  name_less : (o : Object) → ok o ≡ true → birth_of m o ≡ birth_of n o
  name_less (object.Port k) there = refl
  name_less (object.Process birth) there = refl
  name_less (object.Thread birth) there = refl
  name_less (object.Section k) there = refl
  name_less (object.Token k) there = rw names_less (name-without n.tokens key k (grind arith))

  pub keeps : KeepsOthers key n.tokens m.tokens
  keeps = record {
    name = λ k other there. name_less (object.Token k) (rw (there, other) refl);
    there = λ k other there. stands_less (object.Token k) (rw (there, other) refl);
  }

  pass : AllPass ok it
  pass = both_pass it (object_stands n) (is_other key) is.refs (others_pass key it unused)

  pub freed_named : AreNamed m after
  freed_named = record {
    ports_apart = is.ports_apart;
    sections_apart = is.sections_apart;
    tokens_apart = rw names_less (apart-without n.tokens key is.tokens_apart);
    refs = still_pass it ok (object_stands m) new pass stands_less;
  }

  pub frees : stands n.tokens key ≡ true → rows_by after ≡ basic (rows_by it) (Frees (token_name (name_of n.tokens key)))
  frees there =
      renamed it ok pass n m name_less new
      ∙ rw (
        less,
        without-map shown_token (follows.own_token it is) (at_key key) (is_token (name_of n.tokens key)) (follows.token_same it is key there) (listed it.tokens) (follows.own_tokens it is),
      ) refl

  pub freed_lawful : (calls made : ℕ) → AreLawful it calls made → stands n.tokens key ≡ true → new ≡ removed it.tokens key → AreLawful after calls made
  freed_lawful calls made all there is_less = record {
    named = freed_named;
    lawful = rw (frees there) (lawful-tokens (rows_by it) (basic (rows_by it) (Frees (token_name (name_of n.tokens key)))).tokens calls made made it.waits.spare it.ports.message_room all.lawful (let fewer = count-bound (λ (t : model.TokenRow). not (is_token (name_of n.tokens key) t)) (rows_by it).tokens in omega (arith, fewer)) (omega arith) all.lawful.budget);
    counted = record {
      ports_made = all.counted.ports_made;
      messages_made = all.counted.messages_made;
      waits_made = all.counted.waits_made;
      tokens_made = let count = ap (λ (t : Table TokenRow). t.made) is_less in omega (arith, all.counted.tokens_made, count);
    };
    registered = all.registered;
    heard = all.heard;
    marked = all.marked;
    headed = all.headed;
    drawn = rw (frees there) (drawn.drawn-token_freed (rows_by it) (is_token (name_of n.tokens key)) all.drawn);
    born = subst AreBornIn (sym (frees there)) all.born;
    promised = subst (λ (v : World). IsPromised v.waits v.handles it.parts) (sym (frees there)) all.promised;
    mapped = all.mapped;
  }

-- What the freeing of a token knows
module _ (it : Tables) (is : AreNamed (births_of it) it) (key : Key) (there : stands (births_of it).tokens key ≡ true) where
  -- in the tables no handle names it
  pub unused : has_handles (rows_by it) (token_name (name_of (births_of it).tokens key)) ≡ false → has (has_name_of (object.Token key)) it.parts ≡ false
  unused handles = sym (counted.handles_named it is (object.Token key) there) ∙ handles

  -- and the table has its row
  pub removed_there : (found : Option TokenRow) (new : Table TokenRow) → found ≡ at it.tokens key → new ≡ (if is_some found then removed it.tokens key else it.tokens) → new ≡ removed it.tokens key
  removed_there found new at_key_is is_new = is_new ∙ ap (λ b. cond b (removed it.tokens key) it.tokens) some
    where
      mapped : (o : Option (Key × TokenRow)) → is_some (option_map (λ (r : Key × TokenRow). r.1) o) ≡ is_some o
      mapped None = refl
      mapped (Some r) = refl

      some : is_some found ≡ true
      some = ap is_some (at_key_is ∙ at_first it.tokens key) ∙ mapped (first (at_key key) (listed it.tokens)) ∙ row_listed (λ (t : TokenRow). t.birth) (listed it.tokens) key there
