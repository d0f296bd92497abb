-- A port less, which no row names: what else stood stands under its name, and the new rows are the step of the rows
-- that the tables stood for.
use Rattle.lpc_rows.proofs.Events.{heard-less}
use Rattle.std.proofs.Common.{◌≡◌, ℕ, ◌+◌, ◌≤◌, List, Bool, true, false, not, map, refl, ap, ◌∙◌, arith, subst, sym}
use Rattle.std.specs.Prelude.{◌&&◌}
use Rattle.lpc_base.specs.declared.birth.Birth.{Birth}
use Rattle.lpc_base.specs.Rows.{every, has, without}
use Rattle.lpc_base.proofs.RowMaps.{every-both, without-map}
use Rattle.lpc_base.proofs.RowWords.{count-bound, count-left, every-without, has_none-more}
use Rattle.lpc_model.specs.Basics.{Frees, basic}
use Rattle.lpc_model.specs.Found.{is_client_port, is_port, is_sent_on, port_name}
use Rattle.lpc_model.specs.World as model
use Rattle.lpc_model.specs.World.{World}
use Rattle.lpc_ports.specs.Table.{PortTable}
use Rattle.lpc_ports.specs.declared.Port.{Port}
use Rattle.lpc_slots.specs.Table.{at_key}
use Rattle.lpc_slots.specs.declared.Key.{Key}
use Rattle.lpc_rows.specs.Held.{is_event_port, is_message_at, is_named, is_registered_port}
use Rattle.lpc_rows.specs.Kept.{HandleRoom, Roomy, owed_rows, rows_by}
use Rattle.lpc_rows.specs.Lawful.{AreDrawn, AreLawful, IsLawful, was_drawn, IsPromised}
use Rattle.lpc_rows.specs.Names.{KeepsOthers, name_of, stands}
use Rattle.lpc_rows.specs.Shown.{AllPass, AreNamed, Births, Tables, all_pass, binding_refs, birth_of, births_of, message_refs, object_stands, part_refs, port_refs, shown_binding, shown_by, shown_message, shown_part, shown_port, shown_space, shown_wait, space_refs, wait_refs}
use Rattle.lpc_homes.specs.Parts.{has_view_with}
use Rattle.lpc_homes.specs.declared.object.Object.{Object}
use Rattle.lpc_homes.specs.declared.object.Object.TheVariants as object
use Rattle.lpc_rows.proofs.Changes as changes
use Rattle.lpc_rows.proofs.Follows as follows
use Rattle.lpc_rows.proofs.Follows.{is_own}
use Rattle.lpc_rows.proofs.Makes.{bindings_shape, messages_shape, parts_shape, ports_shape, rows_more, shown_same, spaces_shape, waits_shape}
use Rattle.lpc_rows.proofs.Naming.{apart-without, name-without, stands-without}
use Rattle.lpc_rows.proofs.Owed.{owed-free}
use Rattle.lpc_rows.proofs.Registered.{registered-less}
use Rattle.lpc_rows.proofs.Rooms.{room}
use Rattle.lpc_rows.proofs.OwedClosings.{told-free}
use Rattle.lpc_rows.proofs.Unheld.{is_named_in, is_other, others_pass}

-- rows whose objects pass two tests
rows_both : {R : Type 0} (refs : R → List Object) (p q : Object → Bool) (rows : List R) → every (all_pass refs p) rows ≡ true → every (all_pass refs q) rows ≡ true → every (all_pass refs (λ o. p o && q o)) rows ≡ true
rows_both refs p q rows one two =
    every-both (all_pass refs p) (all_pass refs q) (all_pass refs (λ o. p o && q o)) (λ row a b. every-both p q (λ o. p o && q o) (λ o c d. grind arith) (refs row) a b) rows one two

pub both_pass : (it : Tables) (p q : Object → Bool) → AllPass p it → AllPass q it → AllPass (λ o. p o && q o) it
both_pass it p q one two = record {
  in_handles = rows_both part_refs p q it.parts one.in_handles two.in_handles;
  in_ports = rows_both port_refs p q it.ports.ports one.in_ports two.in_ports;
  in_messages = rows_both message_refs p q it.ports.messages one.in_messages two.in_messages;
  in_waits = rows_both wait_refs p q it.waits.rows one.in_waits two.in_waits;
  in_names = rows_both binding_refs p q it.space.bindings one.in_names two.in_names;
  in_views = rows_both space_refs p q it.parts one.in_views two.in_views;
}

module _ (it : Tables) (is : AreNamed (births_of it) it) (key : Key) (room : ℕ) where
  abbrev n : Births
  n = births_of it

  abbrev after : PortTable
  after = record it.ports { ports = without (at_key key) it.ports.ports; port_room = room }

  abbrev m : Births
  m = births_of (record it { ports = after })

  -- what stands and isn't the port
  abbrev ok : Object → Bool
  ok o = object_stands n o && is_other key o

  names_less : m.ports ≡ without (at_key key) n.ports
  names_less = without-map (λ (r : Key × Port). (r.0, r.1.birth)) (λ _. true) (at_key key) (at_key key) (λ r _. refl) it.ports.ports (changes.all_true it is it.ports.ports)

  stands_less : (o : Object) → ok o ≡ true → object_stands m o ≡ true
  stands_less (object.Port k) there = rw names_less (stands-without n.ports key k (grind arith) (grind arith))
  stands_less (object.Process birth) there = refl
  stands_less (object.Thread birth) there = refl
  stands_less (object.Section k) there = grind arith
  stands_less (object.Token k) there = grind arith

  name_less : (o : Object) → ok o ≡ true → birth_of m o ≡ birth_of n o
  name_less (object.Port k) there = rw names_less (name-without n.ports key k (grind arith))
  name_less (object.Process birth) there = refl
  name_less (object.Thread birth) there = refl
  name_less (object.Section k) there = refl
  name_less (object.Token k) there = refl

  pub keeps : KeepsOthers key n.ports m.ports
  keeps = record {
    name = λ k other there. name_less (object.Port k) (rw (there, other) refl);
    there = λ k other there. stands_less (object.Port k) (rw (there, other) refl);
  }

  module _ (none : is_named_in it key ≡ false) (owned : has (has_view_with key) it.parts ≡ false) where
    pass : AllPass ok it
    pass = both_pass it (object_stands n) (is_other key) is.refs (others_pass key it none owned)

    pub freed_named : AreNamed m (record it { ports = after })
    freed_named = record {
      ports_apart = rw names_less (apart-without n.ports key is.ports_apart);
      sections_apart = is.sections_apart;
      tokens_apart = is.tokens_apart;
      refs = record {
        in_handles = rows_more part_refs ok (object_stands m) stands_less it.parts pass.in_handles;
        in_ports = every-without (all_pass port_refs (object_stands m)) (at_key key) it.ports.ports (rows_more port_refs ok (object_stands m) stands_less it.ports.ports pass.in_ports);
        in_messages = rows_more message_refs ok (object_stands m) stands_less it.ports.messages pass.in_messages;
        in_waits = rows_more wait_refs ok (object_stands m) stands_less it.waits.rows pass.in_waits;
        in_names = rows_more binding_refs ok (object_stands m) stands_less it.space.bindings pass.in_names;
        in_views = rows_more space_refs ok (object_stands m) stands_less it.parts pass.in_views;
      };
    }

    ports_less : stands n.ports key ≡ true → map (shown_port (birth_of m)) (without (at_key key) it.ports.ports) ≡ without (is_port (name_of n.ports key)) (map (shown_port (birth_of n)) it.ports.ports)
    ports_less there =
        shown_same port_refs shown_port ports_shape ok (birth_of m) (birth_of n) name_less (without (at_key key) it.ports.ports) (every-without (all_pass port_refs ok) (at_key key) it.ports.ports pass.in_ports)
        ∙ without-map (shown_port (birth_of n)) (is_own (λ (r : Port). r.birth) it.ports.ports) (at_key key) (is_port (name_of n.ports key)) (follows.port_same it is key there) it.ports.ports (follows.own_ports it is)

    pub frees : stands n.ports key ≡ true → shown_by m (record it { ports = after }) ≡ basic (shown_by n it) (Frees (port_name (name_of n.ports key)))
    frees there =
        rw (
          ports_less there,
          shown_same part_refs shown_part parts_shape ok (birth_of m) (birth_of n) name_less it.parts pass.in_handles,
          shown_same message_refs shown_message messages_shape ok (birth_of m) (birth_of n) name_less it.ports.messages pass.in_messages,
          shown_same wait_refs shown_wait waits_shape ok (birth_of m) (birth_of n) name_less it.waits.rows pass.in_waits,
          shown_same binding_refs shown_binding bindings_shape ok (birth_of m) (birth_of n) name_less it.space.bindings pass.in_names,
          shown_same space_refs shown_space spaces_shape ok (birth_of m) (birth_of n) name_less it.parts pass.in_views,
        ) refl

    pub freed_owed : stands n.ports key ≡ true → owed_rows (shown_by m (record it { ports = after })) ≤ owed_rows (shown_by n it)
    freed_owed there = let same = ap owed_rows (frees there) in omega (arith, same, owed-free (shown_by n it) (name_of n.ports key))

-- no message was sent on a port that no row names
pub none_sent : (w : World) (b : Birth) → is_named w b ≡ false → has (is_sent_on b) w.messages ≡ false
none_sent w b off = has_none-more (is_message_at b) (is_sent_on b) (λ m none. grind arith) w.messages (grind (arith, off))

-- The rows stay lawful
lawful-free : (w : World) (calls made a b : ℕ) (c : Birth) → has (is_sent_on c) w.messages ≡ false → IsLawful w calls made a b → IsLawful (record w { ports = without (is_port c) w.ports }) calls made a b
lawful-free w calls made a b c none h = record {
  few = h.few;
  budget = omega (arith, h.budget, owed-free w c);
  rows = grind (arith, h.rows, count-bound (λ x. not (is_port c x)) w.ports);
  draws = h.draws;
  housed = h.housed;
  tables_used = h.tables_used;
  tables_single = h.tables_single;
  tables_few = h.tables_few;
  single = h.single;
  threads = h.threads;
  quiet = h.quiet;
  own = h.own;
  told = told-free c w.messages w.ports none h.told;
  waits_fit = h.waits_fit;
  messages_fit = let clients = count-left is_client_port (is_port c) w.ports in let fit = h.messages_fit in omega (arith, clients, fit);
}

drawn-free : (w : World) (p : model.PortRow → Bool) → AreDrawn w → AreDrawn (record w { ports = without p w.ports })
drawn-free w p h = record { threads_single = h.threads_single; threads_noted = h.threads_noted; ports_drawn = every-without (λ q. was_drawn w.used_threads w.threads q.birth) p w.ports h.ports_drawn; sections_drawn = h.sections_drawn; tokens_drawn = h.tokens_drawn }

pub freed_lawful : (it : Tables) (calls made : ℕ) (key : Key) (room : ℕ) → AreLawful it calls made → stands (births_of it).ports key ≡ true → is_named_in it key ≡ false → has (has_view_with key) it.parts ≡ false
    → has (is_sent_on (name_of (births_of it).ports key)) (rows_by it).messages ≡ false → is_registered_port (rows_by it) (name_of (births_of it).ports key) ≡ false → is_event_port (rows_by it) (name_of (births_of it).ports key) ≡ false → AreLawful (record it { ports = record it.ports { ports = without (at_key key) it.ports.ports; port_room = room } }) calls made
freed_lawful it calls made key room is there none owned unsent unregistered unheard = record {
  named = freed_named it is.named key room none owned;
  lawful = rw (frees it is.named key room none owned there) (lawful-free (rows_by it) calls made it.waits.spare it.ports.message_room (name_of (births_of it).ports key) unsent is.lawful);
  counted = record { ports_made = is.counted.ports_made; messages_made = is.counted.messages_made; waits_made = is.counted.waits_made; tokens_made = is.counted.tokens_made };
  registered = registered-less (births_of it) (births_of (record it { ports = record it.ports { ports = without (at_key key) it.ports.ports; port_room = room } })) key (keeps it is.named key room) it.procs.threads is.registered unregistered;
  heard = heard-less (births_of it) (births_of (record it { ports = record it.ports { ports = without (at_key key) it.ports.ports; port_room = room } })) key (keeps it is.named key room) it.procs.processes is.heard unheard;
  marked = is.marked;
  headed = is.headed;
  drawn = rw (frees it is.named key room none owned there) (drawn-free (rows_by it) (is_port (name_of (births_of it).ports key)) is.drawn);
  born = is.born;
  promised = subst (λ (v : World). IsPromised v.waits v.handles it.parts) (sym (frees it is.named key room none owned there)) is.promised;
  mapped = is.mapped;
}

-- The room
pub room_freed : (j y z s : ℕ) (vs : List HandleRoom) (a b c d e g : ℕ) (w : World) (hs : List HandleRoom) (p : model.PortRow → Bool) → Roomy (room j y z s vs a b c d e g w hs) (room j y z s vs a b c d (e + 1) g (record w { ports = without p w.ports }) hs)
room_freed j y z s vs a b c d e g w hs p = let clients = count-left is_client_port p w.ports in record {
  for_processes = omega arith;
  for_threads = omega arith;
  for_waits = omega arith;
  for_messages = omega (arith, clients);
  for_ports = omega arith;
  for_names = omega arith;
  for_sections = omega arith;
  for_tokens = omega arith;
  for_token_names = omega arith;
  for_handles = λ pid. omega arith;
  for_views = λ pid. omega arith;
}
