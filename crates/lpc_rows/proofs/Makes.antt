-- A port more: what stood stands under its name, and the new rows are the step of the rows that the tables stood for.
use Rattle.std.proofs.Common.{◌≡◌, ◌+◌, ◌-◌, ◌∙◌, ℕ, List, [], ◌∷◌, ◌++◌, Bool, true, false, map, Option, Some, None, option_map, refl, ap, arith}
use Rattle.lpc_base.specs.declared.birth.Birth.{Birth}
use Rattle.lpc_base.specs.Rows.{each, every, first}
use Rattle.lpc_base.proofs.RowWords.{every-back, every-front, every-more, every-push}
use Rattle.lpc_base.proofs.RowMaps.{push-map, same-map}
use Rattle.lpc_handles.specs.declared.table.Row.{Row}
use Rattle.lpc_model.specs.Basics.{Makes, basic}
use Rattle.lpc_model.specs.Found.{is_port}
use Rattle.lpc_names.specs.Walk.{LinkTo, Node, Path, Stands}
use Rattle.lpc_names.specs.declared.names.Found.TheVariants.{Directory, Item}
use Rattle.lpc_base.specs.declared.port_kind.PortKind.{PortKind}
use Rattle.lpc_ports.specs.Table.{PortTable, QueuedMessage, new_port, with_creator, with_row}
use Rattle.lpc_ports.specs.declared.Creator.{Creator}
use Rattle.lpc_ports.specs.declared.Port.{Port}
use Rattle.std.proofs.lemmas.Bool.Decides.{nat_tests}
use Rattle.lpc_slots.specs.Table.{at_key}
use Rattle.lpc_slots.specs.declared.Key.{Key}
use Rattle.lpc_views.specs.declared.view.View.{View}
use Rattle.lpc_waits.specs.declared.Accepted.{Accepted}
use Rattle.lpc_waits.specs.declared.Offer.{Offer}
use Rattle.lpc_waits.specs.declared.WaitKind.{WaitKind}
use Rattle.lpc_waits.specs.declared.WaitKind.TheVariants as wait
use Rattle.lpc_waits.specs.Table.{WaitingThread}
use Rattle.lpc_rows.specs.Names.{KeepsNames, Names, name_of, names_of, some_stands, stands}
use Rattle.lpc_rows.specs.Shown.{Tables, AreNamed, Births, all_pass, binding_refs, birth_in, birth_of, births_of, call_of_wait, message_refs, name_by, node_refs, object_stands, offer_refs, section_in, shown_connect, shown_kind, shown_offer, part_refs, port_refs, ports_in, shown_binding, shown_by, shown_handle, shown_message, shown_node, shown_part, shown_port, shown_space, shown_view, shown_wait, space_refs, view_refs, wait_refs}
use Rattle.lpc_homes.specs.declared.object.Object.{Object}
use Rattle.lpc_homes.specs.declared.object.Object.TheVariants as object
use Rattle.lpc_homes.specs.declared.parts.Part.{Part}
use Rattle.lpc_rows.proofs.Naming.{apart-push, is_other, name-new, name-push, stands-new, stands-push}

-- The shape of a kind of row: under two namings that agree on what it names, it is shown the same
pub record IsShape {R N : Type 0} (refs : R → List Object) (shows : (Object → Birth) → R → N) : Type 0 where
  pub same : (ok : Object → Bool) (f g : Object → Birth) → ((o : Object) → ok o ≡ true → f o ≡ g o) → (row : R) → every ok (refs row) ≡ true → shows f row ≡ shows g row

every_first : {X : Type 0} (p : X → Bool) (x : X) (xs : List X) → every p (x ∷ xs) ≡ true → p x ≡ true
every_first p x xs all = grind arith

every_later : {X : Type 0} (p : X → Bool) (x : X) (xs : List X) → every p (x ∷ xs) ≡ true → every p xs ≡ true
every_later p x xs all = grind arith

module _ (ok : Object → Bool) (f g : Object → Birth) (same : (o : Object) → ok o ≡ true → f o ≡ g o) where
  birth_same : (key : Option Key) → every ok (ports_in key) ≡ true → birth_in f key ≡ birth_in g key
  birth_same None all = refl
  birth_same (Some k) all = ap Some (same (object.Port k) (every_first ok (object.Port k) [] all))

  handles_same : (hs : List (ℕ × Row Object)) → every ok (map (λ r. r.1.object) hs) ≡ true → map (shown_handle f) hs ≡ map (shown_handle g) hs
  handles_same [] all = refl
  handles_same (h ∷ hs) all =
      let one = same h.1.object (every_first ok h.1.object _ all) in
      let rest = handles_same hs (every_later ok h.1.object _ all) in
      λ i. (record { value = h.0; object = record { kind = (name_by f h.1.object).kind; birth = one i }; access = h.1.access }) ∷ rest i

  port_shape : (row : Key × Port) → every ok (port_refs row) ≡ true → shown_port f row ≡ shown_port g row
  port_shape row all =
      let pair = birth_same row.1.pair (every-front ok (ports_in row.1.pair) (ports_in row.1.connection) all) in
      let connection = birth_same row.1.connection (every-back ok (ports_in row.1.pair) (ports_in row.1.connection) all) in
      rw (pair, connection) refl

  message_shape : (row : Key × QueuedMessage) → every ok (message_refs row) ≡ true → shown_message f row ≡ shown_message g row
  message_shape row all = rw (same (object.Port row.1.queue) (grind arith), same (object.Port row.1.message.sender) (grind arith)) refl

  offer_shape : (o : Option Offer) → every ok (section_in o) ≡ true → option_map (shown_offer f) o ≡ option_map (shown_offer g) o
  offer_shape None all = refl
  offer_shape (Some o) all = ap (λ b. Some (record { section = b; offset = o.offset; size = o.size })) (same (object.Section o.section) (every_first ok (object.Section o.section) [] all))

  kind_shape : (kind : WaitKind) (bytes : List ℕ) (o : Option Offer) (a : Option Accepted) → every ok (offer_refs kind o a) ≡ true → shown_kind kind bytes (option_map (shown_offer f) o) a ≡ shown_kind kind bytes (option_map (shown_offer g) o) a
  kind_shape wait.Request bytes o a all = refl
  kind_shape wait.Receive bytes o a all = refl
  kind_shape wait.Listen bytes o a all = refl
  kind_shape wait.Connect bytes o None all = ap (λ offer. shown_connect bytes offer None) (offer_shape o all)
  kind_shape wait.Connect bytes o (Some a) all = refl
  kind_shape (wait.Event r) bytes o a all = refl

  wait_shape : (row : WaitingThread) → every ok (wait_refs row) ≡ true → shown_wait f row ≡ shown_wait g row
  wait_shape row all =
      let offered = offer_refs row.wait.kind row.offer row.accepted in
      let queue_on = every_later ok (object.Port row.wait.port) (object.Port row.wait.queue ∷ offered) all in
      let port = same (object.Port row.wait.port) (every_first ok (object.Port row.wait.port) (object.Port row.wait.queue ∷ offered) all) in
      let queue = same (object.Port row.wait.queue) (every_first ok (object.Port row.wait.queue) offered queue_on) in
      let kind = kind_shape row.wait.kind row.message.items row.offer row.accepted (every_later ok (object.Port row.wait.queue) offered queue_on) in
      λ i. record {
        call = call_of_wait row.wait.kind;
        thread = row.thread;
        process = row.wait.process;
        kind = kind i;
        port = port i;
        queue = queue i;
        identifier = row.wait.identifier;
        received = row.wait.received;
      }

  node_shape : (node : Node Key) → every ok (node_refs node) ≡ true → shown_node f node ≡ shown_node g node
  node_shape (LinkTo target) all = refl
  node_shape (Stands Directory) all = refl
  node_shape (Stands (Item key)) all = ap (λ b. Stands (Item b)) (same (object.Port key) (every_first ok (object.Port key) [] all))

  binding_shape : (row : Path × Node Key) → every ok (binding_refs row) ≡ true → shown_binding f row ≡ shown_binding g row
  binding_shape row all = ap (λ node. (row.0, node)) (node_shape row.1 all)

  part_shape : (part : Part) → every ok (part_refs part) ≡ true → shown_part f part ≡ shown_part g part
  part_shape part all = ap (λ hs. record { process = part.process; rows = hs }) (handles_same part.handles.rows all)

  views_same : (vs : List (View Key)) → every ok (each view_refs vs) ≡ true → map (shown_view f) vs ≡ map (shown_view g) vs
  views_same [] all = refl
  views_same (v ∷ vs) all =
      let own = every-front ok (view_refs v) (each view_refs vs) all in
      let section = same (object.Section v.section) (every_first ok (object.Section v.section) (ports_in v.owner) own) in
      let owner = birth_same v.owner (every_later ok (object.Section v.section) (ports_in v.owner) own) in
      let rest = views_same vs (every-back ok (view_refs v) (each view_refs vs) all) in
      λ i. (record { base = v.base; size = v.size; section = section i; offset = v.offset; writable = v.writable; owner = owner i }) ∷ rest i

  space_shape : (part : Part) → every ok (space_refs part) ≡ true → shown_space f part ≡ shown_space g part
  space_shape part all = ap (λ vs. record { process = part.process; rows = vs }) (views_same part.views.views all)

pub ports_shape : IsShape port_refs shown_port
ports_shape = record { same = port_shape }

pub messages_shape : IsShape message_refs shown_message
messages_shape = record { same = message_shape }

pub waits_shape : IsShape wait_refs shown_wait
waits_shape = record { same = wait_shape }

pub bindings_shape : IsShape binding_refs shown_binding
bindings_shape = record { same = binding_shape }

pub parts_shape : IsShape part_refs shown_part
parts_shape = record { same = part_shape }

pub spaces_shape : IsShape space_refs shown_space
spaces_shape = record { same = space_shape }

-- rows of a shape under another naming
pub shown_same : {R N : Type 0} (refs : R → List Object) (shows : (Object → Birth) → R → N) → IsShape refs shows → (ok : Object → Bool) (f g : Object → Birth) → ((o : Object) → ok o ≡ true → f o ≡ g o) → (rows : List R) → every (all_pass refs ok) rows ≡ true → map (shows f) rows ≡ map (shows g) rows
shown_same refs shows shape ok f g same rows all = same-map (shows f) (all_pass refs ok) (shows g) (λ row there. shape.same ok f g same row there) rows all

-- rows of a shape whose objects pass a wider test
pub rows_more : {R : Type 0} (refs : R → List Object) (ok more : Object → Bool) → ((o : Object) → ok o ≡ true → more o ≡ true) → (rows : List R) → every (all_pass refs ok) rows ≡ true → every (all_pass refs more) rows ≡ true
rows_more refs ok more wider rows all = every-more (all_pass refs ok) (all_pass refs more) (λ row there. every-more ok more wider (refs row) there) rows all

-- One more port
module _ (it : Tables) (is : AreNamed (births_of it) it) (key : Key) (row : Port) (room made : ℕ) where
  abbrev n : Births
  n = births_of it

  abbrev after : PortTable
  after = record it.ports { ports = it.ports.ports ++ (key, row) ∷ []; port_room = room; ports_made = made }

  abbrev m : Births
  m = births_of (record it { ports = after })

  abbrev longer : Names
  longer = n.ports ++ (key, row.birth) ∷ []

  pub names_push : m.ports ≡ longer
  names_push = push-map (λ (r : Key × Port). (r.0, r.1.birth)) it.ports.ports (key, row)

  stands_more : (o : Object) → object_stands n o ≡ true → object_stands m o ≡ true
  stands_more (object.Port k) there = rw names_push (stands-push n.ports key row.birth k there)
  stands_more (object.Process birth) there = refl
  stands_more (object.Thread birth) there = refl
  stands_more (object.Section k) there = there
  stands_more (object.Token k) there = there

  name_more : (o : Object) → object_stands n o ≡ true → birth_of m o ≡ birth_of n o
  name_more (object.Port k) there = rw names_push (name-push n.ports key row.birth k there)
  name_more (object.Process birth) there = refl
  name_more (object.Thread birth) there = refl
  name_more (object.Section k) there = refl
  name_more (object.Token k) there = refl

  pub keeps : KeepsNames n.ports m.ports
  keeps = record { name = λ k there. name_more (object.Port k) there; there = λ k there. stands_more (object.Port k) there }

  -- no port has the birth
  module _ (absent : stands n.ports key ≡ false) where
    pub name_new : name_of m.ports key ≡ row.birth
    name_new = rw names_push (name-new n.ports key row.birth absent)

    pub stands_new : stands m.ports key ≡ true
    stands_new = rw names_push (stands-new n.ports key row.birth)

    other_births : (rows : List (Key × Port)) → first (is_port row.birth) (map (shown_port (birth_of n)) rows) ≡ None → every (is_other row.birth) (names_of (λ (r : Port). r.birth) rows) ≡ true
    other_births [] none = refl
    other_births (r ∷ rows) none = grind (arith, other_births rows)

    pub made_named : first (is_port row.birth) (map (shown_port (birth_of n)) it.ports.ports) ≡ None → every (object_stands n) (port_refs (key, row)) ≡ true → AreNamed m (record it { ports = after })
    made_named fresh refs = record {
      ports_apart = rw names_push (apart-push n.ports key row.birth is.ports_apart absent (other_births it.ports.ports fresh));
      sections_apart = is.sections_apart;
      tokens_apart = is.tokens_apart;
      refs = record {
        in_handles = rows_more part_refs (object_stands n) (object_stands m) stands_more it.parts is.refs.in_handles;
        in_ports = every-push (all_pass port_refs (object_stands m)) it.ports.ports (key, row) (rows_more port_refs (object_stands n) (object_stands m) stands_more it.ports.ports is.refs.in_ports) (every-more (object_stands n) (object_stands m) stands_more (port_refs (key, row)) refs);
        in_messages = rows_more message_refs (object_stands n) (object_stands m) stands_more it.ports.messages is.refs.in_messages;
        in_waits = rows_more wait_refs (object_stands n) (object_stands m) stands_more it.waits.rows is.refs.in_waits;
        in_names = rows_more binding_refs (object_stands n) (object_stands m) stands_more it.space.bindings is.refs.in_names;
        in_views = rows_more space_refs (object_stands n) (object_stands m) stands_more it.parts is.refs.in_views;
      };
    }

  pub makes : every (object_stands n) (port_refs (key, row)) ≡ true → shown_by m (record it { ports = after }) ≡ basic (shown_by n it) (Makes (shown_port (birth_of n) (key, row)))
  makes refs =
      rw (
        push-map (shown_port (birth_of m)) it.ports.ports (key, row),
        shown_same part_refs shown_part parts_shape (object_stands n) (birth_of m) (birth_of n) name_more it.parts is.refs.in_handles,
        shown_same port_refs shown_port ports_shape (object_stands n) (birth_of m) (birth_of n) name_more it.ports.ports is.refs.in_ports,
        shown_same message_refs shown_message messages_shape (object_stands n) (birth_of m) (birth_of n) name_more it.ports.messages is.refs.in_messages,
        shown_same wait_refs shown_wait waits_shape (object_stands n) (birth_of m) (birth_of n) name_more it.waits.rows is.refs.in_waits,
        shown_same binding_refs shown_binding bindings_shape (object_stands n) (birth_of m) (birth_of n) name_more it.space.bindings is.refs.in_names,
        shown_same space_refs shown_space spaces_shape (object_stands n) (birth_of m) (birth_of n) name_more it.parts is.refs.in_views,
        port_shape (object_stands n) (birth_of m) (birth_of n) name_more (key, row) refs,
      ) refl

-- what the adding of a port requires
pub absent : {R : Type 0} (birth : R → Birth) (key : Key) (rows : List (Key × R)) → first (at_key key) rows ≡ None → stands (names_of birth rows) key ≡ false
unfolding stands
absent birth key [] none = refl
absent birth key (row ∷ rows) none = grind (arith, absent birth key rows)

pub vacant : (key : Key) (it : Tables) → first (at_key key) it.ports.ports ≡ None → stands (births_of it).ports key ≡ false
vacant key it none = absent (λ (r : Port). r.birth) key it.ports.ports none

pub refs_stand : (it : Tables) (key : Key) (row : Port) → row.pair ≡ None → some_stands (births_of it).ports row.connection ≡ true → every (object_stands (births_of it)) (port_refs (key, row)) ≡ true
refs_stand it key row alone there = rw alone (some row.connection there)
  where
    some : (o : Option Key) → some_stands (births_of it).ports o ≡ true → every (object_stands (births_of it)) (ports_in o) ≡ true
    some None h = refl
    some (Some k) h = rw h refl

-- a port that is added, and then given the connect that made it
change_push : (key : Key) (f : Port → Port) (rows : List (Key × Port)) (row : Port) → first (at_key key) rows ≡ None → with_row (rows ++ (key, row) ∷ []) key f ≡ rows ++ (key, f row) ∷ []
change_push key f [] row none = grind (arith, nat_tests)
change_push key f (r ∷ rows) row none = grind (arith, change_push key f rows row)

pub created : (old added new : PortTable) (key : Key) (kind : PortKind) (birth : Birth) (connection : Option Key) (creator : Option Creator) → first (at_key key) old.ports ≡ None
    → added ≡ record old { ports = old.ports ++ (key, new_port kind birth connection) ∷ []; port_room = old.port_room - 1; ports_made = old.ports_made + 1 }
    → new ≡ record added { ports = with_row added.ports key (with_creator creator) }
    → new ≡ record old { ports = old.ports ++ (key, with_creator creator (new_port kind birth connection)) ∷ []; port_room = old.port_room - 1; ports_made = old.ports_made + 1 }
created old added new key kind birth connection creator none is made =
    made ∙ ap (λ (t : PortTable). record t { ports = with_row t.ports key (with_creator creator) }) is
    ∙ ap (λ (rows : List (Key × Port)). record old { ports = rows; port_room = old.port_room - 1; ports_made = old.ports_made + 1 }) (change_push key (with_creator creator) old.ports (new_port kind birth connection) none)
