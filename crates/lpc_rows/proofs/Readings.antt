-- What reading calls find in the tables is what is found in the rows that they stand for.
use Rattle.std.proofs.Common.{◌≡◌, ℕ, List, [], ◌∷◌, ◌++◌, Bool, true, false, ◌&&◌, ◌==◌, map, Option, Some, None, option_map, refl, ap, sym, ◌∙◌, arith}
use Rattle.std.specs.Prelude.{MatchOption, IfSome, IsSome, is_none, is_some}
use Rattle.std.proofs.lemmas.Bool.{eqb-true}
use Rattle.std.proofs.lemmas.Bool.Decides.{nat_tests}
use Rattle.lpc_base.specs.declared.birth.Birth.{Birth}
use Rattle.lpc_base.specs.Rows.{count, every, first, has}
use Rattle.lpc_base.proofs.RowMaps.{count-map, every-first, every-map, first-map, has-map}
use Rattle.lpc_base.proofs.RowWords.{every-true, first-passes}
use Rattle.lpc_base.proofs.Births.{birth-same}
use Rattle.lpc_handles.specs.Handles as handles
use Rattle.lpc_handles.specs.declared.table.Row.{Row}
use Rattle.lpc_message.specs.Layout.{half_at}
use Rattle.lpc_message.specs.declared.kind.TheConstants.{DATAGRAM}
use Rattle.lpc_model.specs.World as model
use Rattle.lpc_model.specs.Closings.{is_closed_post}
use Rattle.lpc_model.specs.Found as found
use Rattle.lpc_model.specs.Found.{is_port, is_space, is_table, port_row, same_object, section_row, token_row, waits_as}
use Rattle.lpc_model.specs.Tests.{handle_row}
use Rattle.lpc_ports.specs.Table as ports
use Rattle.lpc_ports.specs.Table.{QueuedMessage, row_at}
use Rattle.lpc_ports.specs.declared.Port.{Port}
use Rattle.lpc_sections.specs.Sections.{SectionRow}
use Rattle.lpc_slots.specs.Table.{at, at_key, listed}
use Rattle.lpc_slots.specs.declared.Key.{Key}
use Rattle.lpc_slots.proofs.Same.{at_first}
use Rattle.lpc_tokens.specs.declared.token_row.TokenRow.{TokenRow}
use Rattle.lpc_views.specs.Views.{holds as holds_range, view_of}
use Rattle.lpc_views.specs.declared.view.View.{View}
use Rattle.lpc_waits.specs.Table as waits
use Rattle.lpc_waits.specs.Table.{WaitingThread, row_of}
use Rattle.lpc_waits.specs.declared.Accepted.{Accepted}
use Rattle.lpc_waits.specs.declared.Wait.{Wait}
use Rattle.lpc_waits.specs.declared.WaitKind.{WaitKind}
use Rattle.lpc_waits.specs.declared.WaitKind.TheVariants as wait
use Rattle.lpc_rows.specs.Names.{name_of, names_of, some_stands, stands}
use Rattle.lpc_rows.specs.Kept.{Kept, is_asking, kept_by, rows_by}
use Rattle.lpc_homes.specs.Parts.{has_name_of, is_object, is_part, names_it, rows_at, rows_in, views_at, views_in}
use Rattle.lpc_rows.specs.Ready.{HasRow, IsStanding, IsWait, port_in, port_of, wait_in, waiter}
use Rattle.lpc_rows.specs.Shown.{Tables, AreNamed, Births, all_pass, birth_of, births_of, message_refs, name_by, object_stands, offer_refs, part_refs, port_refs, ports_in, shown_handle, shown_kind, shown_message, shown_content, shown_offer, shown_part, shown_port, shown_section, shown_space, shown_token, shown_view, shown_wait, wait_refs}
use Rattle.lpc_homes.specs.declared.object.Object.{Object}
use Rattle.lpc_homes.specs.declared.object.Object.TheVariants as object
use Rattle.lpc_homes.specs.declared.parts.Part.{Part}
use Rattle.lpc_rows.proofs.Follows as follows

-- rows that are shown, whatever they are
module _ {X Y : Type 0} (g : X → Y) (s : X → Bool) (t : Y → Bool) (same : (x : X) → t (g x) ≡ s x) (xs : List X) where
  pub first-shown : first t (map g xs) ≡ option_map g (first s xs)
  first-shown = first-map g (λ _. true) s t (λ x _. same x) xs (every-true xs)

  pub has-shown : has t (map g xs) ≡ has s xs
  has-shown = has-map g (λ _. true) s t (λ x _. same x) xs (every-true xs)

  pub count-shown : count t (map g xs) ≡ count s xs
  count-shown = count-map g (λ _. true) s t (λ x _. same x) xs (every-true xs)

-- an optional value, and what a field of it is
pub record Holds {X Y : Type 0} (g : X → Y) (o : Option X) (y : Y) : Type 0 where
  pub row : X
  pub found : o ≡ Some row
  pub is : g row ≡ y

pub holds : {X Y : Type 0} (g : X → Y) (o : Option X) (y : Y) → option_map g o ≡ Some y → Holds g o y
holds g None y e = absurd (cc)
holds g (Some x) y e = record { row = x; found = refl; is = cc }

pub none_before : {X Y : Type 0} (g : X → Y) (o : Option X) → option_map g o ≡ None → o ≡ None
none_before g None e = refl
none_before g (Some x) e = absurd (cc)

pub none_as : {X Y Z : Type 0} (g : X → Y) (h : X → Z) (o : Option X) → is_none (option_map g o) ≡ is_none (option_map h o)
none_as g h None = refl
none_as g h (Some x) = refl

-- a key that stands has a row
pub row_there : {R : Type 0} (birth : R → Birth) (rows : List (Key × R)) (key : Key) → stands (names_of birth rows) key ≡ true → is_some (row_at rows key) ≡ true
unfolding stands
row_there birth [] key there = absurd (cc)
row_there birth (row ∷ rows) key there = grind (arith, row_there birth rows key)

pub row_listed : {R : Type 0} (birth : R → Birth) (rows : List (Key × R)) (key : Key) → stands (names_of birth rows) key ≡ true → is_some (first (at_key key) rows) ≡ true
unfolding stands
row_listed birth [] key there = absurd (cc)
row_listed birth (row ∷ rows) key there = grind (arith, row_listed birth rows key)

-- a row that is found by its key stands
pub listed_stands : {R : Type 0} (birth : R → Birth) (rows : List (Key × R)) (key : Key) (row : Key × R) → first (at_key key) rows ≡ Some row → stands (names_of birth rows) key ≡ true
unfolding stands
listed_stands birth [] key row is = absurd (cc)
listed_stands birth (r ∷ rows) key row is = grind (arith, listed_stands birth rows key row)

-- keys that a port's row names
pair_stands : (n : Births) (a b : Option Key) → every (object_stands n) (ports_in a ++ ports_in b) ≡ true → (some_stands n.ports a ≡ true) × (some_stands n.ports b ≡ true)
pair_stands n None None all = (refl, refl)
pair_stands n None (Some b) all = (refl, grind arith)
pair_stands n (Some a) None all = (grind arith, refl)
pair_stands n (Some a) (Some b) all = (grind arith, grind arith)

-- the first two of some objects pass where all do
pub first_two : (ok : Object → Bool) (a b : Object) (rest : List Object) → every ok (a ∷ b ∷ rest) ≡ true → every ok (a ∷ b ∷ []) ≡ true
first_two ok a b rest all = grind arith

request_is : (kind : WaitKind) (bytes : List ℕ) (offer : Option model.Offer) (accepted : Option Accepted) → (elim (shown_kind kind bytes offer accepted) [ model.Request m ↦ true | _ ↦ false ]) ≡ waits.is_request kind
request_is wait.Connect bytes offer None = refl
request_is wait.Connect bytes offer (Some accepted) = refl
request_is b bytes offer accepted = refl

listen_is : (kind : WaitKind) (bytes : List ℕ) (offer : Option model.Offer) (accepted : Option Accepted) → (elim (shown_kind kind bytes offer accepted) [ model.Listen ↦ true | _ ↦ false ]) ≡ waits.is_listen kind
listen_is wait.Connect bytes offer None = refl
listen_is wait.Connect bytes offer (Some accepted) = refl
listen_is b bytes offer accepted = refl

pub event_is : (kind : WaitKind) (bytes : List ℕ) (offer : Option model.Offer) (accepted : Option Accepted) → (elim (shown_kind kind bytes offer accepted) [ model.Event r ↦ true | _ ↦ false ]) ≡ waits.is_event kind
event_is wait.Connect bytes offer None = refl
event_is wait.Connect bytes offer (Some accepted) = refl
event_is b bytes offer accepted = refl

module _ (it : Tables) (is : AreNamed (births_of it) it) where
  abbrev n : Births
  n = births_of it

  abbrev f : Object → Birth
  f = birth_of n

  abbrev rows : model.World
  rows = rows_by it

  -- Ports
  pub there : (key : Key) → stands n.ports key ≡ true → is_some (row_at it.ports.ports key) ≡ true
  there key stand = row_there (λ (r : Port). r.birth) it.ports.ports key stand

  -- a port that stands has this row
  pub record IsPort (key : Key) (row : Port) : Type 0 where
    pub found : port_row rows (name_of n.ports key) ≡ Some (port_of rows (name_of n.ports key))
    pub port_is : port_of rows (name_of n.ports key) ≡ shown_port f (key, row)
    pub own : row.birth ≡ name_of n.ports key
    pub pair : some_stands n.ports row.pair ≡ true
    pub connection : some_stands n.ports row.connection ≡ true

  pub is_row : (key : Key) (row : Port) → stands n.ports key ≡ true → row_at it.ports.ports key ≡ Some row → IsPort key row
  unfolding port_of
  is_row key row stand at =
      let held = holds (λ (r : Key × Port). r.1) (first (at_key key) it.ports.ports) row at in
      let shown : shown_port f held.row ≡ shown_port f (key, row) = ap (λ (r : Port). shown_port f (key, r)) held.is in
      let found : port_row rows (name_of n.ports key) ≡ Some (shown_port f (key, row)) =
      follows.first_port it is key stand ∙ ap (λ o. option_map (shown_port f) o) held.found ∙ ap Some shown in
      let refs : every (object_stands n) (port_refs (key, row)) ≡ true =
      sym (ap (λ (r : Port). every (object_stands n) (port_refs (key, r))) held.is) ∙ every-first (all_pass port_refs (object_stands n)) (at_key key) it.ports.ports held.row is.refs.in_ports held.found in
      let both = pair_stands n row.pair row.connection refs in
      record {
        found = found ∙ ap Some (sym (ap port_in found));
        port_is = ap port_in found;
        own = birth-same row.birth (name_of n.ports key) (first-passes (is_port (name_of n.ports key)) rows.ports (shown_port f (key, row)) found);
        pair = both.0;
        connection = both.1;
      }

  -- a section that stands is found under its name
  pub section_there : (key : Key) → stands n.sections key ≡ true → IsSome (section_row rows (name_of n.sections key))
  section_there key stand = mapped (first (at_key key) (listed it.sections)) (follows.first_section it is key stand) (row_listed (λ (s : SectionRow). s.birth) (listed it.sections) key stand)
    where
      mapped : (o : Option (Key × SectionRow)) → section_row rows (name_of n.sections key) ≡ option_map shown_section o → is_some o ≡ true → IsSome (section_row rows (name_of n.sections key))
      mapped None is' some = absurd (cc)
      mapped (Some row) is' some = rw is' refl

  -- so is a token
  pub token_there : (key : Key) → stands n.tokens key ≡ true → IsSome (token_row rows (name_of n.tokens key))
  token_there key stand = mapped (first (at_key key) (listed it.tokens)) (follows.first_token it is key stand) (row_listed (λ (t : TokenRow). t.birth) (listed it.tokens) key stand)
    where
      mapped : (o : Option (Key × TokenRow)) → token_row rows (name_of n.tokens key) ≡ option_map shown_token o → is_some o ≡ true → IsSome (token_row rows (name_of n.tokens key))
      mapped None is' some = absurd (cc)
      mapped (Some row) is' some = rw is' refl

  -- what stands is found under its name
  module _ (places calls made : ℕ) (loose : Bool) where
    abbrev k : Kept
    k = kept_by it places calls made loose

    standing_by : (key : Key) → stands n.ports key ≡ true → (o : Option Port) → row_at it.ports.ports key ≡ o → is_some o ≡ true → IsStanding k key
    standing_by key stand None at some = absurd (cc)
    standing_by key stand (Some row) at some =
        let found = is_row key row stand at in
        record { found = found.found; birth = ap (λ (q : model.PortRow). q.birth) found.port_is ∙ found.own }

    pub standing : (key : Key) → stands n.ports key ≡ true → IsStanding k key
    standing key stand = standing_by key stand (row_at it.ports.ports key) refl (there key stand)

    pub has_row : (o : Object) → object_stands n o ≡ true → HasRow k o
    has_row (object.Port key) stand = standing key stand
    has_row (object.Process birth) stand = tt
    has_row (object.Thread birth) stand = tt
    has_row (object.Section key) stand = section_there key stand
    has_row (object.Token key) stand = token_there key stand

    pub rows_of : (o : Option (Row Object)) → IfSome o (λ row. object_stands n row.object ≡ true) → IfSome o (λ row. HasRow k row.object)
    rows_of None stand = tt
    rows_of (Some row) stand = has_row row.object stand

  -- the datagrams of a port
  datagram_same : (key : Key) → stands n.ports key ≡ true → (row : Key × QueuedMessage) → all_pass message_refs (object_stands n) row ≡ true → found.is_datagram_of (name_of n.ports key) (shown_message f row) ≡ ports.is_datagram_of key row
  datagram_same key stand row ok = ap (λ b. b && (half_at row.1.message.bytes.items 4 == DATAGRAM)) (follows.agree it is row.1.message.sender key (grind arith) stand)

  pub datagrams_are : (key : Key) → stands n.ports key ≡ true → found.datagrams rows (name_of n.ports key) ≡ count (ports.is_datagram_of key) it.ports.messages
  datagrams_are key stand = count-map (shown_message f) (all_pass message_refs (object_stands n)) (ports.is_datagram_of key) (found.is_datagram_of (name_of n.ports key)) (datagram_same key stand) it.ports.messages is.refs.in_messages

  -- the messages that ask
  pub asking_are : count is_asking rows.messages ≡ count ports.is_asking it.ports.messages
  asking_are = count-shown (shown_message f) ports.is_asking is_asking (λ row. refl) it.ports.messages

  -- those that tell of closings, and the client ports
  pub closings_are : count is_closed_post rows.messages ≡ count ports.is_closing it.ports.messages
  closings_are = count-shown (shown_message f) ports.is_closing is_closed_post (λ row. refl) it.ports.messages

  pub clients_are : count found.is_client_port rows.ports ≡ count ports.is_client it.ports.ports
  clients_are = count-shown (shown_port f) ports.is_client found.is_client_port (λ row. refl) it.ports.ports

  -- Waits
  pub wait_is : (tid : ℕ) (row : WaitingThread) → row_of it.waits tid ≡ Some row → waiter rows tid ≡ shown_wait f row
  unfolding waiter
  wait_is tid row at = ap wait_in (first-shown (shown_wait f) (waits.is_of tid) (waits_as tid) (λ r. refl) it.waits.rows ∙ ap (λ o. option_map (shown_wait f) o) at)

  pub is_wait : (places calls made : ℕ) (loose : Bool) (tid : ℕ) (x : Wait) → option_map (λ row. row.wait) (row_of it.waits tid) ≡ Some x → IsWait (kept_by it places calls made loose) tid x
  is_wait places calls made loose tid x at =
      let held = holds (λ (r : WaitingThread). r.wait) (row_of it.waits tid) x at in
      let same : waiter rows tid ≡ shown_wait f (record { thread = held.row.thread; wait = x; message = held.row.message; offer = held.row.offer; accepted = held.row.accepted }) =
      wait_is tid held.row held.found ∙ ap (λ (v : Wait). shown_wait f (record { thread = held.row.thread; wait = v; message = held.row.message; offer = held.row.offer; accepted = held.row.accepted })) held.is in
      let stand : every (object_stands n) (object.Port x.port ∷ object.Port x.queue ∷ []) ≡ true =
      sym (ap (λ (v : Wait). every (object_stands n) (object.Port v.port ∷ object.Port v.queue ∷ [])) held.is)
      ∙ first_two (object_stands n) (object.Port held.row.wait.port) (object.Port held.row.wait.queue) (offer_refs held.row.wait.kind held.row.offer held.row.accepted) (every-first (all_pass wait_refs (object_stands n)) (waits.is_of tid) it.waits.rows held.row is.refs.in_waits held.found) in
      record {
        thread = ap (λ (y : model.WaitRow). y.thread) same ∙ eqb-true held.row.thread tid (first-passes (waits.is_of tid) it.waits.rows held.row held.found);
        call = ap (λ (y : model.WaitRow). y.call) same;
        process = ap (λ (y : model.WaitRow). y.process) same;
        request = ap (λ (y : model.WaitRow). found.is_request y) same ∙ request_is x.kind held.row.message.items (option_map (shown_offer f) held.row.offer) held.row.accepted;
        listen = ap (λ (y : model.WaitRow). found.is_listen y) same ∙ listen_is x.kind held.row.message.items (option_map (shown_offer f) held.row.offer) held.row.accepted;
        event = ap (λ (y : model.WaitRow). found.is_event y) same ∙ event_is x.kind held.row.message.items (option_map (shown_offer f) held.row.offer) held.row.accepted;
        port = ap (λ (y : model.WaitRow). y.port) same;
        queue = ap (λ (y : model.WaitRow). y.queue) same;
        identifier = ap (λ (y : model.WaitRow). y.identifier) same;
        received = ap (λ (y : model.WaitRow). y.received) same;
        port_stands = grind arith;
        queue_stands = grind arith;
      }

  pub wait_if : (places calls made : ℕ) (loose : Bool) (tid : ℕ) (r : Option Wait) → r ≡ option_map (λ row. row.wait) (row_of it.waits tid) → IfSome r (λ x. IsWait (kept_by it places calls made loose) tid x)
  wait_if places calls made loose tid None at = tt
  wait_if places calls made loose tid (Some x) at = is_wait places calls made loose tid x (sym at)

  pub waits_are : (tid : ℕ) → has (waits_as tid) rows.waits ≡ is_some (row_of it.waits tid)
  waits_are tid = has-shown (shown_wait f) (waits.is_of tid) (waits_as tid) (λ r. refl) it.waits.rows

  -- Handles
  pub table_is : (pid : ℕ) → has (is_table pid) rows.handles ≡ has (is_part pid) it.parts
  table_is pid = has-shown (shown_part f) (is_part pid) (is_table pid) (λ r. refl) it.parts

  shown_rows : (o : Option Part) → found.rows_in (option_map (shown_part f) o) ≡ map (shown_handle f) (rows_in o)
  shown_rows None = refl
  shown_rows (Some part) = refl

  pub handles_are : (pid : ℕ) → found.handles_of rows pid ≡ map (shown_handle f) (rows_at it.parts pid)
  handles_are pid = ap found.rows_in (first-shown (shown_part f) (is_part pid) (is_table pid) (λ r. refl) it.parts) ∙ shown_rows (first (is_part pid) it.parts)

  -- the objects of a process's handles stand
  pub rows_stand : (o : Option Part) (pid : ℕ) → first (is_part pid) it.parts ≡ o → every (λ row. object_stands n row.1.object) (rows_in o) ≡ true
  rows_stand None pid at = refl
  rows_stand (Some part) pid at =
      sym (every-map (object_stands n) (λ (row : ℕ × Row Object). row.1.object) part.handles.rows)
      ∙ every-first (all_pass part_refs (object_stands n)) (is_part pid) it.parts part is.refs.in_handles at

  -- the handle of a value in a process is this one
  pub record IsHandle (pid value : ℕ) (row : Row Object) : Type 0 where
    pub handle_is : found.handle_at rows pid value ≡ Some (handle_row value (name_by f row.object) row.access)
    pub object_stands : object_stands n row.object ≡ true

  pub is_handle : (pid value : ℕ) (row : Row Object) → handles.at (rows_at it.parts pid) value ≡ Some row → IsHandle pid value row
  is_handle pid value row at =
      let held = holds (λ (r : ℕ × Row Object). r.1) (first (handles.has_value value) (rows_at it.parts pid)) row at in
      let own : held.row.0 ≡ value = eqb-true held.row.0 value (first-passes (handles.has_value value) (rows_at it.parts pid) held.row held.found) in
      let shown : shown_handle f held.row ≡ handle_row value (name_by f row.object) row.access = λ i. handle_row (own i) (name_by f (held.is i).object) (held.is i).access in
      record {
        handle_is =
            ap (λ hs. first (found.has_value value) hs) (handles_are pid)
            ∙ first-shown (shown_handle f) (handles.has_value value) (found.has_value value) (λ r. refl) (rows_at it.parts pid)
            ∙ ap (λ o. option_map (shown_handle f) o) held.found
            ∙ ap Some shown;
        object_stands =
            sym (ap (λ (r : Row Object). object_stands n r.object) held.is)
            ∙ every-first (λ row. object_stands n row.1.object) (handles.has_value value) (rows_at it.parts pid) held.row (rows_stand (first (is_part pid) it.parts) pid refl) held.found;
      }

  pub no_handle : (pid value : ℕ) → handles.at (rows_at it.parts pid) value ≡ None → found.handle_at rows pid value ≡ None
  no_handle pid value none =
      ap (λ hs. first (found.has_value value) hs) (handles_are pid)
      ∙ first-shown (shown_handle f) (handles.has_value value) (found.has_value value) (λ r. refl) (rows_at it.parts pid)
      ∙ ap (λ o. option_map (shown_handle f) o) (none_before (λ (r : ℕ × Row Object). r.1) (first (handles.has_value value) (rows_at it.parts pid)) none)

  -- what is found at a value
  pub record IsAt (pid value : ℕ) (o : Option (Row Object)) : Type 0 where
    pub row : MatchOption o (found.handle_at rows pid value ≡ None) (λ row. found.handle_at rows pid value ≡ Some (handle_row value (name_by f row.object) row.access))
    pub object_stands : IfSome o (λ row. object_stands n row.object ≡ true)

  at_by : (pid value : ℕ) (o : Option (Row Object)) → handles.at (rows_at it.parts pid) value ≡ o → IsAt pid value o
  at_by pid value None at = record { row = no_handle pid value at; object_stands = tt }
  at_by pid value (Some row) at = let is = is_handle pid value row at in record { row = is.handle_is; object_stands = is.object_stands }

  pub is_at : (pid value : ℕ) (o : Option (Row Object)) → o ≡ handles.at (rows_at it.parts pid) value → IsAt pid value o
  is_at pid value o is = at_by pid value o (sym is)

  -- what names an object
  object_same : (o : Object) → object_stands n o ≡ true → (other : Object) → object_stands n other ≡ true → same_object (name_by f other) (name_by f o) ≡ is_object o other
  object_same (object.Port key) one (object.Port other) two = follows.agree it is other key two one
  object_same (object.Port key) one (object.Process birth) two = refl
  object_same (object.Port key) one (object.Thread birth) two = refl
  object_same (object.Process birth) one (object.Port key) two = refl
  object_same (object.Process birth) one (object.Process other) two = refl
  object_same (object.Process birth) one (object.Thread other) two = refl
  object_same (object.Thread birth) one (object.Port key) two = refl
  object_same (object.Thread birth) one (object.Process other) two = refl
  object_same (object.Thread birth) one (object.Thread other) two = refl
  object_same (object.Port key) one (object.Section other) two = refl
  object_same (object.Process birth) one (object.Section other) two = refl
  object_same (object.Thread birth) one (object.Section other) two = refl
  object_same (object.Section key) one (object.Port other) two = refl
  object_same (object.Section key) one (object.Process birth) two = refl
  object_same (object.Section key) one (object.Thread birth) two = refl
  object_same (object.Section key) one (object.Section other) two = follows.agree_section it is other key two one
  object_same (object.Port key) one (object.Token other) two = refl
  object_same (object.Process birth) one (object.Token other) two = refl
  object_same (object.Thread birth) one (object.Token other) two = refl
  object_same (object.Section key) one (object.Token other) two = refl
  object_same (object.Token key) one (object.Port other) two = refl
  object_same (object.Token key) one (object.Process birth) two = refl
  object_same (object.Token key) one (object.Thread birth) two = refl
  object_same (object.Token key) one (object.Section other) two = refl
  object_same (object.Token key) one (object.Token other) two = follows.agree_token it is other key two one

  pub named_same : (o : Object) → object_stands n o ≡ true → (row : ℕ × Row Object) → object_stands n row.1.object ≡ true → same_object (name_by f row.1.object) (name_by f o) ≡ names_it o row
  named_same o stand row ok = object_same o stand row.1.object ok

  part_same : (o : Object) → object_stands n o ≡ true → (part : Part) → all_pass part_refs (object_stands n) part ≡ true → has (λ (h : model.HandleRow). same_object h.object (name_by f o)) (shown_part f part).rows ≡ has_name_of o part
  part_same o stand part ok =
      has-map (shown_handle f) (λ row. object_stands n row.1.object) (names_it o) (λ h. same_object h.object (name_by f o)) (named_same o stand) part.handles.rows
      (sym (every-map (object_stands n) (λ (row : ℕ × Row Object). row.1.object) part.handles.rows) ∙ ok)

  pub named_is : (o : Object) → object_stands n o ≡ true → has (λ (t : model.HandleTable). has (λ h. same_object h.object (name_by f o)) t.rows) rows.handles ≡ has (has_name_of o) it.parts
  named_is o stand = has-map (shown_part f) (all_pass part_refs (object_stands n)) (has_name_of o) (λ (t : model.HandleTable). has (λ h. same_object h.object (name_by f o)) t.rows) (part_same o stand) it.parts is.refs.in_handles

  -- an open port
  pub open_is : (key : Key) → stands n.ports key ≡ true → found.is_open rows (name_of n.ports key) ≡ has (has_name_of (object.Port key)) it.parts
  open_is key stand = named_is (object.Port key) stand

  -- Views
  pub space_is : (pid : ℕ) → has (is_space pid) rows.views ≡ has (is_part pid) it.parts
  space_is pid = has-shown (shown_space f) (is_part pid) (is_space pid) (λ r. refl) it.parts

  shown_views : (o : Option Part) → found.views_in (option_map (shown_space f) o) ≡ map (shown_view f) (views_in o)
  shown_views None = refl
  shown_views (Some part) = refl

  pub views_are : (pid : ℕ) → found.views_of rows pid ≡ map (shown_view f) (views_at it.parts pid)
  views_are pid = ap found.views_in (first-shown (shown_space f) (is_part pid) (is_space pid) (λ r. refl) it.parts) ∙ shown_views (first (is_part pid) it.parts)

  pub view_is : (pid address n : ℕ) → found.view_holding rows pid address n ≡ option_map (shown_view f) (view_of (views_at it.parts pid) address n)
  view_is pid address n =
      ap (first (found.holds_range address n)) (views_are pid)
      ∙ first-shown (shown_view f) (holds_range address n) (found.holds_range address n) (λ v. grind (arith, nat_tests)) (views_at it.parts pid)

  -- what is found of the views of a process
  pub found_view : (pid address k : ℕ) (r : Option (View Key)) → r ≡ view_of (views_at it.parts pid) address k → MatchOption r (found.view_holding rows pid address k ≡ None) (λ v. found.view_holding rows pid address k ≡ Some (shown_view f v))
  found_view pid address k r is' = by r (sym is')
    where
      by : (o : Option (View Key)) → view_of (views_at it.parts pid) address k ≡ o → MatchOption o (found.view_holding rows pid address k ≡ None) (λ v. found.view_holding rows pid address k ≡ Some (shown_view f v))
      by None none = view_is pid address k ∙ ap (option_map (shown_view f)) none
      by (Some v) some = view_is pid address k ∙ ap (option_map (shown_view f)) some

  -- the bytes of a section
  pub bytes_are : (key : Key) (s : SectionRow) → at it.sections key ≡ Some s → found.content_of rows.contents (name_of n.sections key) ≡ s.bytes
  bytes_are key s found_at =
      let held = holds_row (first (at_key key) (listed it.sections)) (sym (at_first it.sections key) ∙ found_at) in
      ap found.bytes_in (follows.first_content it is key (listed_stands (λ (r : SectionRow). r.birth) (listed it.sections) key held.row held.found) ∙ ap (option_map shown_content) held.found)
      ∙ ap (λ (r : SectionRow). r.bytes) held.is
    where
      holds_row : (o : Option (Key × SectionRow)) → option_map (λ (r : Key × SectionRow). r.1) o ≡ Some s → Holds (λ (r : Key × SectionRow). r.1) o s
      holds_row o e = holds (λ (r : Key × SectionRow). r.1) o s e
