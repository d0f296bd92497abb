-- Ports whose rows are changed, each keeping its key and its birth: the tables' new rows are the step of the rows that
-- they stood for, and stay lawful.
use Rattle.std.proofs.Common.{◌≡◌, ℕ, List, [], ◌∷◌, ◌++◌, Bool, true, false, cond, map, Option, Some, None, refl, ap, sym, ◌∙◌, arith, subst}
use Rattle.std.proofs.lemmas.List.{length-map}
use Rattle.lpc_base.specs.Rows.{change, count, every}
use Rattle.lpc_base.proofs.RowMaps.{every-mapped}
use Rattle.lpc_model.specs.Basics as basics
use Rattle.lpc_model.specs.Basics.{Joins, basic}
use Rattle.lpc_model.specs.Found.{is_client_port, is_port}
use Rattle.lpc_model.specs.World as model
use Rattle.lpc_model.specs.World.{World}
use Rattle.lpc_ports.specs.Table as ports
use Rattle.lpc_ports.specs.Table.{PortTable}
use Rattle.lpc_ports.specs.declared.Port.{Port}
use Rattle.lpc_slots.specs.Table.{at_key}
use Rattle.lpc_slots.specs.declared.Key.{Key}
use Rattle.lpc_slots.proofs.Keys.{key_is}
use Rattle.lpc_rows.specs.Joined.{with_completed}
use Rattle.lpc_rows.specs.Kept.{HandleRoom, Roomy, owed_rows, room_by, rows_by}
use Rattle.lpc_rows.specs.Lawful.{AreDrawn, AreLawful, IsLawful, was_drawn, IsPromised}
use Rattle.lpc_rows.specs.Names.{name_of, names_of, stands}
use Rattle.lpc_rows.specs.Shown.{Tables, AreNamed, Births, all_pass, birth_of, births_of, object_stands, port_refs, ports_in, shown_by, shown_port}
use Rattle.lpc_homes.specs.declared.object.Object.{Object}
use Rattle.lpc_homes.specs.declared.object.Object.TheVariants as object
use Rattle.lpc_rows.proofs.Owed.{owed-map}
use Rattle.lpc_rows.proofs.Follows as follows
use Rattle.lpc_rows.proofs.Rooms.{room}
use Rattle.lpc_rows.proofs.OwedClosings.{told-map}

-- rows that all pass a test, changed by a map that the shown rows follow
pub map-follows : {X Y : Type 0} (g : X → Y) (ok : X → Bool) (h : X → X) (k : Y → Y) → ((x : X) → ok x ≡ true → g (h x) ≡ k (g x)) → (xs : List X) → every ok xs ≡ true → map g (map h xs) ≡ map k (map g xs)
map-follows g ok h k same [] all = refl
map-follows g ok h k same (x ∷ xs) all = grind (arith, same x, map-follows g ok h k same xs)

-- the room is of the threads, messages and waits alone, where ports keep their kinds
pub clients_same : (k : model.PortRow → model.PortRow) → ((p : model.PortRow) → (k p).kind ≡ p.kind) → (ps : List model.PortRow) → count is_client_port (map k ps) ≡ count is_client_port ps
clients_same k kinds [] = refl
clients_same k kinds (p ∷ ps) =
    let one : is_client_port (k p) ≡ is_client_port p = rw (kinds p) refl in
    grind (arith, one, clients_same k kinds ps)

pub room_ports : (j y z s : ℕ) (vs : List HandleRoom) (a b c d e g : ℕ) (w : World) (hs : List HandleRoom) (k : model.PortRow → model.PortRow) → ((p : model.PortRow) → (k p).kind ≡ p.kind)
    → (v : World) → v.threads ≡ w.threads → v.messages ≡ w.messages → v.waits ≡ w.waits → v.ports ≡ map k w.ports → Roomy (room j y z s vs a b c d e g w hs) (room j y z s vs a b c d e g v hs)
room_ports j y z s vs a b c d e g w hs k kinds v ts ms xs ps = let clients = clients_same k kinds w.ports in rw (ts, ms, xs, ps) (record {
  for_processes = omega arith;
  for_threads = omega arith;
  for_waits = omega arith;
  for_messages = omega (arith, clients);
  for_ports = omega arith;
  for_names = omega arith;
  for_sections = omega arith;
  for_tokens = omega arith;
  for_token_names = omega arith;
  for_handles = λ pid. omega arith;
  for_views = λ pid. omega arith;
})

-- the definitions' ports, changed
lawful-ports : (w : World) (calls made a b : ℕ) (k : model.PortRow → model.PortRow) → ((p : model.PortRow) → (k p).birth ≡ p.birth) → ((p : model.PortRow) → (k p).kind ≡ p.kind) → IsLawful w calls made a b → IsLawful (record w { ports = map k w.ports }) calls made a b
lawful-ports w calls made a b k same kinds h = record {
  few = h.few;
  budget = omega (arith, h.budget, owed-map w k same kinds);
  rows = grind (arith, h.rows, length-map w.ports k);
  draws = h.draws;
  housed = h.housed;
  tables_used = h.tables_used;
  tables_single = h.tables_single;
  tables_few = h.tables_few;
  single = h.single;
  threads = h.threads;
  quiet = h.quiet;
  own = h.own;
  told = told-map k same kinds w.messages w.ports h.told;
  waits_fit = h.waits_fit;
  messages_fit = let clients = clients_same k kinds w.ports in let fit = h.messages_fit in omega (arith, clients, fit);
}

drawn-ports : (w : World) (k : model.PortRow → model.PortRow) → ((p : model.PortRow) → (k p).birth ≡ p.birth) → AreDrawn w → AreDrawn (record w { ports = map k w.ports })
drawn-ports w k same h = record {
  threads_single = h.threads_single;
  threads_noted = h.threads_noted;
  ports_drawn = every-mapped (λ p. was_drawn w.used_threads w.threads p.birth) k (λ p there. rw (same p) there) w.ports h.ports_drawn;
  sections_drawn = h.sections_drawn;
  tokens_drawn = h.tokens_drawn;
}

-- a change of the ports' rows
module _ (change_row : Key × Port → Key × Port) (same_key : (row : Key × Port) → (change_row row).0 ≡ row.0) (same_own : (row : Key × Port) → (change_row row).1.birth ≡ row.1.birth) where
  names_same : (rows : List (Key × Port)) → names_of (λ (p : Port). p.birth) (map change_row rows) ≡ names_of (λ (p : Port). p.birth) rows
  names_same [] = refl
  names_same (row ∷ rows) = λ i. (same_key row i, same_own row i) ∷ names_same rows i

  module _ (it : Tables) (is : AreNamed (births_of it) it) where
    abbrev n : Births
    n = births_of it

    abbrev after : PortTable
    after = record it.ports { ports = map change_row it.ports.ports }

    pub births_same : births_of (record it { ports = after }) ≡ n
    births_same = ap (λ names. record { ports = names; sections = n.sections; tokens = n.tokens }) (names_same it.ports.ports)

    module _ (k : model.PortRow → model.PortRow) (kept : (row : Key × Port) → all_pass port_refs (object_stands n) row ≡ true → all_pass port_refs (object_stands n) (change_row row) ≡ true)
        (ok : Key × Port → Bool) (all_ok : every ok it.ports.ports ≡ true) (shows : (row : Key × Port) → ok row ≡ true → shown_port (birth_of n) (change_row row) ≡ k (shown_port (birth_of n) row)) where
      pub changes : shown_by (births_of (record it { ports = after })) (record it { ports = after }) ≡ record (shown_by n it) { ports = map k (shown_by n it).ports }
      changes = rw births_same (ap (λ ps. record (shown_by n it) { ports = ps }) (map-follows (shown_port (birth_of n)) ok change_row k shows it.ports.ports all_ok))

      named : AreNamed (births_of (record it { ports = after })) (record it { ports = after })
      named = rw births_same (record {
        ports_apart = is.ports_apart;
        sections_apart = is.sections_apart;
        tokens_apart = is.tokens_apart;
        refs = record {
          in_handles = is.refs.in_handles;
          in_ports = every-mapped (all_pass port_refs (object_stands n)) change_row kept it.ports.ports is.refs.in_ports;
          in_messages = is.refs.in_messages;
          in_waits = is.refs.in_waits;
          in_names = is.refs.in_names;
          in_views = is.refs.in_views;
        };
      })

      pub lawful : (calls made : ℕ) → AreLawful it calls made → ((p : model.PortRow) → (k p).birth ≡ p.birth) → ((p : model.PortRow) → (k p).kind ≡ p.kind) → AreLawful (record it { ports = after }) calls made
      lawful calls made all same kinds = record {
        named = named;
        lawful = rw changes (lawful-ports (rows_by it) calls made it.waits.spare it.ports.message_room k same kinds all.lawful);
        counted = record { ports_made = all.counted.ports_made; messages_made = all.counted.messages_made; waits_made = all.counted.waits_made; tokens_made = all.counted.tokens_made };
        registered = rw births_same all.registered;
        heard = rw births_same all.heard;
        marked = all.marked;
        headed = all.headed;
        drawn = rw changes (drawn-ports (rows_by it) k same all.drawn);
        born = all.born;
        promised = subst (λ (v : World). IsPromised v.waits v.handles it.parts) (sym changes) all.promised;
        mapped = all.mapped;
      }

      pub owes : ((p : model.PortRow) → (k p).birth ≡ p.birth) → ((p : model.PortRow) → (k p).kind ≡ p.kind) → owed_rows (rows_by (record it { ports = after })) ≡ owed_rows (rows_by it)
      owes same kinds = ap owed_rows changes ∙ owed-map (rows_by it) k same kinds

      abbrev all_after : Tables
      all_after = record it { ports = after }

      pub roomy : (places : ℕ) → ((p : model.PortRow) → (k p).kind ≡ p.kind) → Roomy (room_by (rows_by it) it places) (room_by (rows_by all_after) all_after places)
      roomy places kinds = room_ports _ _ _ _ _ _ _ _ _ _ _ (rows_by it) _ k kinds (rows_by all_after) (ap (λ (v : World). v.threads) changes) (ap (λ (v : World). v.messages) changes) (ap (λ (v : World). v.waits) changes) (ap (λ (v : World). v.ports) changes)

-- the row of a key, changed
abbrev pub at_row : Key → (Port → Port) → Key × Port → Key × Port
at_row key change_port row = cond (at_key key row) (row.0, change_port row.1) row

pub key_at : (key : Key) (change_port : Port → Port) (row : Key × Port) → (at_row key change_port row).0 ≡ row.0
key_at key change_port row = elim (at_key key row) as (λ b. (cond b (row.0, change_port row.1) row).0 ≡ row.0) [ true ↦ refl | false ↦ refl ]

pub own_at : (key : Key) (change_port : Port → Port) → ((p : Port) → (change_port p).birth ≡ p.birth) → (row : Key × Port) → (at_row key change_port row).1.birth ≡ row.1.birth
own_at key change_port same row = elim (at_key key row) as (λ b. (cond b (row.0, change_port row.1) row).1.birth ≡ row.1.birth) [ true ↦ same row.1 | false ↦ refl ]

pub map-twice : {X : Type 0} (g h : X → X) (xs : List X) → map g (map h xs) ≡ map (λ x. g (h x)) xs
map-twice g h [] = refl
map-twice g h (x ∷ xs) = ap (λ ys. g (h x) ∷ ys) (map-twice g h xs)

-- a port gets another end, which stands
paired_passes : (ok : Object → Bool) (pair connection : Option Key) (other : Key) → ok (object.Port other) ≡ true → every ok (ports_in pair ++ ports_in connection) ≡ true → every ok (ports_in (Some other) ++ ports_in connection) ≡ true
paired_passes ok None connection other there all = grind arith
paired_passes ok (Some p) connection other there all = grind arith

paired_kept : (ok : Object → Bool) (key other : Key) (context : ℕ) → ok (object.Port other) ≡ true → (row : Key × Port) → all_pass port_refs ok row ≡ true → all_pass port_refs ok (at_row key (ports.paired other context) row) ≡ true
paired_kept ok key other context there row all = elim (at_key key row) as (λ b. all_pass port_refs ok (cond b (row.0, ports.paired other context row.1) row) ≡ true) [
  | true ↦ paired_passes ok row.1.pair row.1.connection other there all
  | false ↦ all
]

-- two ports become the ends of a connection
module _ (it : Tables) (is : AreNamed (births_of it) it) (client server : Key) (context : ℕ) (client_stands : stands (births_of it).ports client ≡ true) (server_stands : stands (births_of it).ports server ≡ true) where
  abbrev names : Births
  names = births_of it

  abbrev join_row : Key × Port → Key × Port
  join_row row = at_row server (ports.paired client context) (at_row client (ports.paired server context) row)

  abbrev shown_joined : model.PortRow → model.PortRow
  shown_joined = basics.joined (name_of names.ports client) (name_of names.ports server) context

  abbrev pub joined_table : PortTable
  joined_table = record it.ports { ports = ports.joined it.ports.ports client server context }

  row_joined : (row : Key × Port) (a b : Bool) → (a ≡ true → row.0 ≡ client) → (b ≡ true → row.0 ≡ server)
      → let one = cond a (row.0, ports.paired server context row.1) row in
      shown_port (birth_of names) (cond b (row.0, ports.paired client context one.1) one)
      ≡ cond a (basics.paired (name_of names.ports server) context (shown_port (birth_of names) row)) (cond b (basics.paired (name_of names.ports client) context (shown_port (birth_of names) row)) (shown_port (birth_of names) row))
  row_joined row true true is_client is_server = ap (λ k. basics.paired (name_of names.ports k) context (shown_port (birth_of names) row)) (sym (is_client refl) ∙ is_server refl)
  row_joined row true false is_client is_server = refl
  row_joined row false true is_client is_server = refl
  row_joined row false false is_client is_server = refl

  join_shows : (row : Key × Port) → follows.is_own (λ (r : Port). r.birth) it.ports.ports row ≡ true → shown_port (birth_of names) (join_row row) ≡ shown_joined (shown_port (birth_of names) row)
  join_shows row own =
      rw (follows.port_same it is client client_stands row own, follows.port_same it is server server_stands row own, key_at client (ports.paired server context) row)
      (row_joined row (at_key client row) (at_key server row) (key_is row.0 client) (key_is row.0 server))

  join_kept : (row : Key × Port) → all_pass port_refs (object_stands names) row ≡ true → all_pass port_refs (object_stands names) (join_row row) ≡ true
  join_kept row all =
      paired_kept (object_stands names) server client context client_stands (at_row client (ports.paired server context) row)
      (paired_kept (object_stands names) client server context server_stands row all)

  join_key : (row : Key × Port) → (join_row row).0 ≡ row.0
  join_key row = key_at server (ports.paired client context) (at_row client (ports.paired server context) row) ∙ key_at client (ports.paired server context) row

  join_own : (row : Key × Port) → (join_row row).1.birth ≡ row.1.birth
  join_own row = own_at server (ports.paired client context) (λ p. refl) (at_row client (ports.paired server context) row) ∙ own_at client (ports.paired server context) (λ p. refl) row

  joined_rows : ports.joined it.ports.ports client server context ≡ map join_row it.ports.ports
  joined_rows = map-twice (at_row server (ports.paired client context)) (at_row client (ports.paired server context)) it.ports.ports

  joined_birth : (p : model.PortRow) → (shown_joined p).birth ≡ p.birth
  joined_birth p = by (is_port (name_of names.ports client) p) (is_port (name_of names.ports server) p)
    where
      by : (a b : Bool) → let q = cond a (basics.paired (name_of names.ports server) context p) (cond b (basics.paired (name_of names.ports client) context p) p) in q.birth ≡ p.birth
      by true b = refl
      by false true = refl
      by false false = refl

  joined_kind : (p : model.PortRow) → (shown_joined p).kind ≡ p.kind
  joined_kind p = by (is_port (name_of names.ports client) p) (is_port (name_of names.ports server) p)
    where
      by : (a b : Bool) → let q = cond a (basics.paired (name_of names.ports server) context p) (cond b (basics.paired (name_of names.ports client) context p) p) in q.kind ≡ p.kind
      by true b = refl
      by false true = refl
      by false false = refl

  pub joined_names : births_of (record it { ports = joined_table }) ≡ names
  joined_names = rw joined_rows (births_same join_row join_key join_own it is)

  pub joins : shown_by (births_of (record it { ports = joined_table })) (record it { ports = joined_table }) ≡ basic (rows_by it) (Joins (name_of names.ports client) (name_of names.ports server) context)
  joins = rw joined_rows (changes join_row join_key join_own it is shown_joined join_kept (follows.is_own (λ (r : Port). r.birth) it.ports.ports) (follows.own_ports it is) join_shows)

  pub joined_lawful : (calls made : ℕ) → AreLawful it calls made → AreLawful (record it { ports = joined_table }) calls made
  joined_lawful calls made all = rw joined_rows (lawful join_row join_key join_own it is shown_joined join_kept (follows.is_own (λ (r : Port). r.birth) it.ports.ports) (follows.own_ports it is) join_shows calls made all joined_birth joined_kind)

  pub joined_owed : owed_rows (rows_by (record it { ports = joined_table })) ≡ owed_rows (rows_by it)
  joined_owed = rw joined_rows (owes join_row join_key join_own it is shown_joined join_kept (follows.is_own (λ (r : Port). r.birth) it.ports.ports) (follows.own_ports it is) join_shows joined_birth joined_kind)

  abbrev joined_all : Tables
  joined_all = record it { ports = joined_table }

  pub joined_room : (places : ℕ) → Roomy (room_by (rows_by it) it places) (room_by (rows_by joined_all) joined_all places)
  joined_room places = rw joined_rows (roomy join_row join_key join_own it is shown_joined join_kept (follows.is_own (λ (r : Port). r.birth) it.ports.ports) (follows.own_ports it is) join_shows places joined_kind)

-- the connection of a port is completed or not
module _ (it : Tables) (is : AreNamed (births_of it) it) (key : Key) (completed : Bool) (key_stands : stands (births_of it).ports key ≡ true) where
  abbrev named_by : Births
  named_by = births_of it

  abbrev complete_row : Key × Port → Key × Port
  complete_row = at_row key (ports.with_completed completed)

  abbrev shown_completed : model.PortRow → model.PortRow
  shown_completed p = cond (is_port (name_of named_by.ports key) p) (with_completed completed p) p

  abbrev pub completed_table : PortTable
  completed_table = record it.ports { ports = ports.with_row it.ports.ports key (ports.with_completed completed) }

  complete_shows : (row : Key × Port) → follows.is_own (λ (r : Port). r.birth) it.ports.ports row ≡ true → shown_port (birth_of named_by) (complete_row row) ≡ shown_completed (shown_port (birth_of named_by) row)
  complete_shows row own = rw (follows.port_same it is key key_stands row own) (by (at_key key row))
    where
      by : (a : Bool) → shown_port (birth_of named_by) (cond a (row.0, ports.with_completed completed row.1) row) ≡ cond a (with_completed completed (shown_port (birth_of named_by) row)) (shown_port (birth_of named_by) row)
      by true = refl
      by false = refl

  complete_kept : (row : Key × Port) → all_pass port_refs (object_stands named_by) row ≡ true → all_pass port_refs (object_stands named_by) (complete_row row) ≡ true
  complete_kept row all = elim (at_key key row) as (λ b. all_pass port_refs (object_stands named_by) (cond b (row.0, ports.with_completed completed row.1) row) ≡ true) [ true ↦ all | false ↦ all ]

  completed_birth : (p : model.PortRow) → (shown_completed p).birth ≡ p.birth
  completed_birth p = elim (is_port (name_of named_by.ports key) p) as (λ b. (cond b (with_completed completed p) p).birth ≡ p.birth) [ true ↦ refl | false ↦ refl ]

  completed_kind : (p : model.PortRow) → (shown_completed p).kind ≡ p.kind
  completed_kind p = elim (is_port (name_of named_by.ports key) p) as (λ b. (cond b (with_completed completed p) p).kind ≡ p.kind) [ true ↦ refl | false ↦ refl ]

  pub completed_names : births_of (record it { ports = completed_table }) ≡ named_by
  completed_names = births_same complete_row (key_at key (ports.with_completed completed)) (own_at key (ports.with_completed completed) (λ p. refl)) it is

  pub completes : shown_by (births_of (record it { ports = completed_table })) (record it { ports = completed_table }) ≡ record (rows_by it) { ports = change (is_port (name_of named_by.ports key)) (with_completed completed) (rows_by it).ports }
  completes = changes complete_row (key_at key (ports.with_completed completed)) (own_at key (ports.with_completed completed) (λ p. refl)) it is shown_completed complete_kept (follows.is_own (λ (r : Port). r.birth) it.ports.ports) (follows.own_ports it is) complete_shows

  pub completed_lawful : (calls made : ℕ) → AreLawful it calls made → AreLawful (record it { ports = completed_table }) calls made
  completed_lawful calls made all = lawful complete_row (key_at key (ports.with_completed completed)) (own_at key (ports.with_completed completed) (λ p. refl)) it is shown_completed complete_kept (follows.is_own (λ (r : Port). r.birth) it.ports.ports) (follows.own_ports it is) complete_shows calls made all completed_birth completed_kind

  pub completed_owed : owed_rows (rows_by (record it { ports = completed_table })) ≡ owed_rows (rows_by it)
  completed_owed = owes complete_row (key_at key (ports.with_completed completed)) (own_at key (ports.with_completed completed) (λ p. refl)) it is shown_completed complete_kept (follows.is_own (λ (r : Port). r.birth) it.ports.ports) (follows.own_ports it is) complete_shows completed_birth completed_kind

  abbrev completed_all : Tables
  completed_all = record it { ports = completed_table }

  pub completed_room : (places : ℕ) → Roomy (room_by (rows_by it) it places) (room_by (rows_by completed_all) completed_all places)
  completed_room places = roomy complete_row (key_at key (ports.with_completed completed)) (own_at key (ports.with_completed completed) (λ p. refl)) it is shown_completed complete_kept (follows.is_own (λ (r : Port). r.birth) it.ports.ports) (follows.own_ports it is) complete_shows places completed_kind
