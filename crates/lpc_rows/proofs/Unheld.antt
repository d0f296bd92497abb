-- A port that no row names: the tables find what the definitions find.
use Rattle.std.proofs.Common.{◌≡◌, ℕ, List, [], ◌∷◌, ◌||◌, Bool, true, false, not, map, Option, Some, None, refl, ◌∙◌, arith}
use Rattle.std.specs.Prelude.{IsSome, is_some}
use Rattle.lpc_base.specs.declared.birth.Birth.{Birth}
use Rattle.lpc_base.specs.Rows.{each, every, has, passes}
use Rattle.lpc_base.proofs.RowMaps.{has-map}
use Rattle.lpc_base.proofs.RowWords.{every-append, every-back, every-front, every-off}
use Rattle.lpc_handles.specs.declared.table.Row.{Row}
use Rattle.lpc_model.specs.Found as found
use Rattle.lpc_model.specs.Found.{same_birth}
use Rattle.lpc_rows.specs.Held as held
use Rattle.lpc_names.specs.Binding.{has_name, is_name}
use Rattle.lpc_names.specs.Walk.{Bindings, LinkTo, Node, Path, Stands}
use Rattle.lpc_names.specs.declared.names.Found.TheVariants.{Directory, Item}
use Rattle.lpc_ports.specs.Table as ports
use Rattle.lpc_ports.specs.declared.Port.{Port}
use Rattle.lpc_ports.specs.Table.{QueuedMessage}
use Rattle.lpc_slots.specs.Table.{is_key}
use Rattle.lpc_slots.specs.declared.Key.{Key}
use Rattle.lpc_slots.proofs.Keys.{key_turned}
use Rattle.lpc_views.specs.declared.view.View.{View}
use Rattle.lpc_waits.specs.Table as waits
use Rattle.lpc_waits.specs.declared.Accepted.{Accepted}
use Rattle.lpc_waits.specs.declared.Offer.{Offer}
use Rattle.lpc_waits.specs.declared.WaitKind.{WaitKind}
use Rattle.lpc_waits.specs.declared.WaitKind.TheVariants as wait
use Rattle.lpc_waits.specs.Table.{WaitingThread}
use Rattle.lpc_rows.specs.Names.{name_of, stands}
use Rattle.lpc_homes.specs.Parts.{goes_with, has_name_of, has_view_with, is_object, names_it}
use Rattle.lpc_rows.specs.Shown.{Tables, AllPass, AreNamed, Births, all_pass, binding_refs, birth_in, birth_of, births_of, message_refs, node_refs, object_stands, part_refs, port_refs, ports_in, shown_binding, shown_by, shown_message, shown_port, shown_wait, offer_refs, section_in, space_refs, view_refs, wait_refs}
use Rattle.lpc_homes.specs.declared.object.Object.{Object}
use Rattle.lpc_homes.specs.declared.object.Object.TheVariants as object
use Rattle.lpc_rows.proofs.Follows as follows
use Rattle.lpc_rows.proofs.Readings as readings

-- a row of the tables but a name's names the port
abbrev pub is_used_in : Tables → Key → Bool
is_used_in it key =
    has (has_name_of (object.Port key)) it.parts || (has (ports.is_joined_to key) it.ports.ports || (has (ports.is_message_at key) it.ports.messages
    || has (waits.is_wait_at key) it.waits.rows))

-- one of these names it, or a name does
abbrev pub is_named_in : Tables → Key → Bool
is_named_in it key =
    has (has_name_of (object.Port key)) it.parts || (has (ports.is_joined_to key) it.ports.ports || (has (ports.is_message_at key) it.ports.messages
    || (has (waits.is_wait_at key) it.waits.rows || has_name is_key key it.space.bindings)))

-- The tests of rows agree
module _ (it : Tables) (is : AreNamed (births_of it) it) (key : Key) (there : stands (births_of it).ports key ≡ true) where
  abbrev n : Births
  n = births_of it

  abbrev f : Object → Birth
  f = birth_of n

  abbrev ok : Object → Bool
  ok = object_stands n

  abbrev b : Birth
  b = name_of n.ports key

  pub the_same : (o : Option Key) → every ok (ports_in o) ≡ true → found.is_the b (birth_in f o) ≡ ports.is_the key o
  the_same None all = refl
  the_same (Some other) all = follows.agree it is key other there (grind arith) ∙ key_turned key other

  joined_same : (row : Key × Port) → all_pass port_refs ok row ≡ true → held.is_joined_to b (shown_port f row) ≡ ports.is_joined_to key row
  joined_same row all =
      rw (
        the_same row.1.pair (every-front ok (ports_in row.1.pair) (ports_in row.1.connection) all),
        the_same row.1.connection (every-back ok (ports_in row.1.pair) (ports_in row.1.connection) all),
      ) refl

  message_same : (row : Key × QueuedMessage) → all_pass message_refs ok row ≡ true → held.is_message_at b (shown_message f row) ≡ ports.is_message_at key row
  message_same row all = rw (follows.agree it is row.1.message.sender key (grind arith) there, follows.agree it is row.1.queue key (grind arith) there) refl

  wait_same : (row : WaitingThread) → all_pass wait_refs ok row ≡ true → held.is_wait_at b (shown_wait f row) ≡ waits.is_wait_at key row
  wait_same row all = rw (follows.agree it is row.wait.port key (grind arith) there, follows.agree it is row.wait.queue key (grind arith) there) refl

  pub node_same : (path : Path) (node : Node Key) → every ok (node_refs node) ≡ true → is_name same_birth b (shown_binding f (path, node)) ≡ is_name is_key key (path, node)
  node_same path (LinkTo target) all = refl
  node_same path (Stands Directory) all = refl
  node_same path (Stands (Item other)) all = follows.agree it is other key (grind arith) there

  name_same : (rows : Bindings Key) → every (all_pass binding_refs ok) rows ≡ true → has_name same_birth b (map (shown_binding f) rows) ≡ has_name is_key key rows
  name_same [] all = refl
  name_same (row ∷ rows) all = grind (arith, node_same row.0 row.1, name_same rows)

  pub used_is : held.is_used_by_row (shown_by n it) b ≡ is_used_in it key
  used_is =
      rw (
        readings.open_is it is key there,
        has-map (shown_port f) (all_pass port_refs ok) (ports.is_joined_to key) (held.is_joined_to b) joined_same it.ports.ports is.refs.in_ports,
        has-map (shown_message f) (all_pass message_refs ok) (ports.is_message_at key) (held.is_message_at b) message_same it.ports.messages is.refs.in_messages,
        has-map (shown_wait f) (all_pass wait_refs ok) (waits.is_wait_at key) (held.is_wait_at b) wait_same it.waits.rows is.refs.in_waits,
      ) refl

  pub held_is : held.is_named_by_row (shown_by n it) b ≡ is_named_in it key
  held_is =
      rw (
        readings.open_is it is key there,
        has-map (shown_port f) (all_pass port_refs ok) (ports.is_joined_to key) (held.is_joined_to b) joined_same it.ports.ports is.refs.in_ports,
        has-map (shown_message f) (all_pass message_refs ok) (ports.is_message_at key) (held.is_message_at b) message_same it.ports.messages is.refs.in_messages,
        has-map (shown_wait f) (all_pass wait_refs ok) (waits.is_wait_at key) (held.is_wait_at b) wait_same it.waits.rows is.refs.in_waits,
        name_same it.space.bindings is.refs.in_names,
      ) refl

  -- and the port has its row
  some : {X : Type 0} (o : Option X) → is_some o ≡ true → IsSome o
  some None h = absurd (cc)
  some (Some x) h = refl

  pub has_row : IsSome (ports.row_at it.ports.ports key)
  has_row = some (ports.row_at it.ports.ports key) (readings.there it is key there)

-- Where no row names the port, each object that a row names is another
abbrev pub is_other : Key → Object → Bool
is_other key o = not (is_object (object.Port key) o)

module _ (key : Key) where
  handles_off : (rows : List (ℕ × Row Object)) → has (names_it (object.Port key)) rows ≡ false → every (is_other key) (map (λ row. row.1.object) rows) ≡ true
  handles_off [] none = refl
  handles_off (row ∷ rows) none = grind (arith, handles_off rows)

  key_off : (o : Option Key) → ports.is_the key o ≡ false → every (is_other key) (ports_in o) ≡ true
  key_off None off = refl
  key_off (Some other) off = grind arith

  port_off : (row : Key × Port) → ports.is_joined_to key row ≡ false → all_pass port_refs (is_other key) row ≡ true
  port_off row off = every-append (is_other key) (ports_in row.1.pair) (ports_in row.1.connection) (key_off row.1.pair (grind arith)) (key_off row.1.connection (grind arith))

  message_off : (row : Key × QueuedMessage) → ports.is_message_at key row ≡ false → all_pass message_refs (is_other key) row ≡ true
  message_off row off = grind arith

  wait_off : (row : WaitingThread) → waits.is_wait_at key row ≡ false → all_pass wait_refs (is_other key) row ≡ true
  wait_off row off = let offer = offer_off row.wait.kind row.offer row.accepted in grind (arith, offer)
    where
      section_off : (o : Option Offer) → every (is_other key) (section_in o) ≡ true
      section_off None = refl
      section_off (Some o) = refl

      offer_off : (kind : WaitKind) (o : Option Offer) (a : Option Accepted) → every (is_other key) (offer_refs kind o a) ≡ true
      offer_off wait.Connect o None = section_off o
      offer_off kind o a = refl

  node_off : (path : Path) (node : Node Key) → is_name is_key key (path, node) ≡ false → every (is_other key) (node_refs node) ≡ true
  node_off path (LinkTo target) off = refl
  node_off path (Stands Directory) off = refl
  node_off path (Stands (Item other)) off = grind arith

  names_off : (rows : Bindings Key) → has_name is_key key rows ≡ false → every (all_pass binding_refs (is_other key)) rows ≡ true
  names_off [] none = refl
  names_off (row ∷ rows) none = grind (arith, node_off row.0 row.1, names_off rows)

  -- a view that doesn't go with the port names its section, and another port at most
  views_off : (vs : List (View Key)) → has (goes_with key) vs ≡ false → every (is_other key) (each view_refs vs) ≡ true
  views_off [] none = refl
  views_off (v ∷ vs) none = every-append (is_other key) (view_refs v) (each view_refs vs) (owner_off v.owner (grind arith)) (views_off vs (grind arith))
    where
      owner_off : (o : Option Key) → passes o (λ other. is_key other key) ≡ false → every (is_other key) (ports_in o) ≡ true
      owner_off None off = refl
      owner_off (Some k) off = grind arith

  pub others_pass : (it : Tables) → is_named_in it key ≡ false → has (has_view_with key) it.parts ≡ false → AllPass (is_other key) it
  others_pass it none owned = record {
    in_handles = every-off (has_name_of (object.Port key)) (all_pass part_refs (is_other key)) (λ part off. handles_off part.handles.rows off) it.parts (grind arith);
    in_ports = every-off (ports.is_joined_to key) (all_pass port_refs (is_other key)) port_off it.ports.ports (grind arith);
    in_messages = every-off (ports.is_message_at key) (all_pass message_refs (is_other key)) message_off it.ports.messages (grind arith);
    in_waits = every-off (waits.is_wait_at key) (all_pass wait_refs (is_other key)) wait_off it.waits.rows (grind arith);
    in_names = names_off it.space.bindings (grind arith);
    in_views = every-off (has_view_with key) (all_pass space_refs (is_other key)) (λ part off. views_off part.views.views off) it.parts owned;
  }

  -- and no message stands in its queue
  none_in_queue : (rows : List (Key × QueuedMessage)) → has (ports.is_message_at key) rows ≡ false → ports.first_in rows key ≡ None
  none_in_queue [] none = refl
  none_in_queue (row ∷ rows) none = grind (arith, none_in_queue rows)

  pub empty_queue : (it : Tables) → is_named_in it key ≡ false → ports.has_none_in it.ports.messages key
  empty_queue it none = none_in_queue it.ports.messages (grind arith)
