-- The oldest connection request of a queue is taken: what is found in the table is what is found in the rows, the new
-- rows are the step of those that stood, and stay lawful.
use Rattle.std.proofs.Common.{◌≡◌, ℕ, ◌+◌, ◌≤◌, ◌&&◌, ◌==◌, List, [], ◌∷◌, Bool, true, false, cond, length, Option, Some, None, option_map, refl, ap, sym, subst, ◌∙◌, arith}
use Rattle.std.specs.Prelude.{IsSome, is_some}
use Rattle.std.proofs.lemmas.Bool.Decides.{nat_tests}
use Rattle.std.proofs.lemmas.Option.{same_Some}
use Rattle.lpc_base.specs.declared.birth.Birth.{Birth}
use Rattle.lpc_base.specs.Rows.{first, without, without_first}
use Rattle.lpc_base.proofs.RowMaps.{every-first, every-without_first, first-map, without_first-map}
use Rattle.lpc_base.proofs.RowWords.{first-passes, has_none-without_first, without_first-none}
use Rattle.lpc_base.proofs.Bools.{first-true}
use Rattle.lpc_message.specs.Layout.{half_at}
use Rattle.lpc_message.specs.declared.kind.TheConstants.{CONNECTION_REQUEST}
use Rattle.lpc_model.specs.Basics.{TakesConnect, basic}
use Rattle.lpc_model.specs.Found.{is_queued_connect}
use Rattle.lpc_model.specs.Message.{message_of}
use Rattle.lpc_model.specs.World as model
use Rattle.lpc_model.specs.World.{World}
use Rattle.lpc_ports.specs.Table as ports
use Rattle.lpc_ports.specs.Table.{PortTable, QueuedMessage}
use Rattle.lpc_ports.specs.declared.messages.Message.{Message}
use Rattle.lpc_slots.specs.Table.{at_key, is_key}
use Rattle.lpc_slots.specs.declared.Key.{Key}
use Rattle.lpc_slots.proofs.Keys.{key_is}
use Rattle.lpc_rows.specs.Clauses.{HasLeft}
use Rattle.lpc_rows.specs.Kept.{Roomy, StaysUnqueued, room_by, rows_by}
use Rattle.lpc_rows.specs.Lawful.{AreLawful, has_header}
use Rattle.lpc_rows.specs.Names.{name_of, stands}
use Rattle.lpc_rows.specs.Shown.{Tables, AreNamed, Births, all_pass, birth_of, births_of, message_refs, object_stands, pulled_row, shown_message}
use Rattle.lpc_homes.specs.declared.object.Object.{Object}
use Rattle.lpc_rows.proofs.Marked as marked
use Rattle.lpc_rows.proofs.Drawn as drawn
use Rattle.lpc_rows.proofs.Follows as follows
use Rattle.lpc_rows.proofs.Lawful as lawful
use Rattle.lpc_rows.proofs.Naming.{key_itself}
use Rattle.lpc_rows.proofs.OwnMessages.{left-pulled, unqueued-pulled}
use Rattle.lpc_rows.proofs.Rooms.{room}
use Rattle.lpc_rows.specs.Kept.{HandleRoom}

-- the room that a message leaves which is taken
room_taken : (j y z s : ℕ) (vs : List HandleRoom) (a b c d e g : ℕ) (w : World) (hs : List HandleRoom) (p : model.MessageRow → Bool) (m : model.MessageRow) → first p w.messages ≡ Some m → (v : World) → v.threads ≡ w.threads → v.waits ≡ w.waits → v.ports ≡ w.ports → v.messages ≡ without_first p w.messages
    → Roomy (room j y z s vs a b c d e g w hs) (room j y z s vs a b c (d + 1) e g v hs)
room_taken j y z s vs a b c d e g w hs p m at v ts xs ps ms =
    let less = lawful.owed-taken p w m at in
    rw (ts, xs, ps, ms) (record {
      for_processes = omega arith;
      for_threads = omega arith;
      for_waits = omega arith;
      for_messages = omega (arith, less);
      for_ports = omega arith;
      for_names = omega arith;
      for_sections = omega arith;
      for_tokens = omega arith;
      for_token_names = omega arith;
      for_handles = λ pid. omega arith;
      for_views = λ pid. omega arith;
    })

module _ (it : Tables) (calls made : ℕ) (is : AreLawful it calls made) (queue : Key) (queue_stands : stands (births_of it).ports queue ≡ true) where
  abbrev n : Births
  n = births_of it

  abbrev f : Object → Birth
  f = birth_of n

  abbrev rows : World
  rows = rows_by it

  abbrev in_table : Key × QueuedMessage → Bool
  in_table = ports.is_connect_in queue

  abbrev in_rows : model.MessageRow → Bool
  in_rows = is_queued_connect (name_of n.ports queue)

  abbrev pub pulled_table : PortTable
  pulled_table = record it.ports { messages = without_first in_table it.ports.messages; message_room = it.ports.message_room + 1 }

  abbrev after : Tables
  after = record it { ports = pulled_table }

  connect_same : (row : Key × QueuedMessage) → all_pass message_refs (object_stands n) row ≡ true → in_rows (shown_message f row) ≡ in_table row
  connect_same row ok = ap (λ b. b && (half_at row.1.message.bytes.items 4 == CONNECTION_REQUEST)) (follows.queue_same it is.named queue queue_stands row ok)

  first_connect : first in_rows rows.messages ≡ option_map (shown_message f) (first in_table it.ports.messages)
  first_connect = first-map (shown_message f) (all_pass message_refs (object_stands n)) in_table in_rows connect_same it.ports.messages is.named.refs.in_messages

  -- where there is none
  no_row : (o : Option (Key × QueuedMessage)) → option_map (λ (row : Key × QueuedMessage). row.0) o ≡ None → o ≡ None
  no_row None h = refl
  no_row (Some row) h = absurd (cc)

  pub no_connect : ports.first_connect_in it.ports.messages queue ≡ None → first in_rows rows.messages ≡ None
  no_connect none = first_connect ∙ ap (option_map (shown_message f)) (no_row (first in_table it.ports.messages) none)

  pub takes_none : ports.first_connect_in it.ports.messages queue ≡ None → rows ≡ basic rows (TakesConnect (name_of n.ports queue))
  takes_none none = ap (λ ms. record rows { messages = ms }) (sym (without_first-none in_rows rows.messages (no_connect none)))

  -- the key that is found has a row
  key_found : (key : Key) (ms : List (Key × QueuedMessage)) → option_map (λ (row : Key × QueuedMessage). row.0) (first in_table ms) ≡ Some key → is_some (first (at_key key) ms) ≡ true
  key_found key [] at = absurd (cc)
  key_found key (m ∷ ms) at =
      elim (in_table m) as (λ b. in_table m ≡ b → is_some (first (at_key key) (m ∷ ms)) ≡ true) [
        | true ↦ λ here.
            let same : m.0 ≡ key = same_Some m.0 key (sym (ap (option_map (λ (row : Key × QueuedMessage). row.0)) (ap (λ b. cond b (Some m) (first in_table ms)) here)) ∙ at) in
            rw same (grind (arith, key_itself key))
        | false ↦ λ off. grind (arith, key_found key ms)
      ] refl

  pub connect_there : (key : Key) → ports.first_connect_in it.ports.messages queue ≡ Some key → IsSome (ports.row_at it.ports.messages key)
  connect_there key at = mapped (first (at_key key) it.ports.messages) (key_found key it.ports.messages at)
    where
      mapped : (o : Option (Key × QueuedMessage)) → is_some o ≡ true → IsSome (option_map (λ (row : Key × QueuedMessage). row.1) o)
      mapped None h = absurd (cc)
      mapped (Some row) h = refl

  -- the message that is found
  module _ (m : Message) (at : option_map (λ (row : Key × QueuedMessage). row.1.message) (first in_table it.ports.messages) ≡ Some m) where
    shown_found : (o : Option (Key × QueuedMessage)) → first in_table it.ports.messages ≡ o → option_map (λ (row : Key × QueuedMessage). row.1.message) o ≡ Some m → option_map (shown_message f) o ≡ Some (pulled_row n queue m)
    shown_found None is' h = absurd (cc)
    shown_found (Some row) is' h =
        let same : row.1.message ≡ m = same_Some row.1.message m h in
        let passes : in_table row ≡ true = first-passes in_table it.ports.messages row is' in
        let own : row.1.queue ≡ queue = key_is row.1.queue queue (first-true (is_key row.1.queue queue) (half_at row.1.message.bytes.items 4 == CONNECTION_REQUEST) passes) in
        λ i. Some (record { queue = name_of n.ports (own i); sender = name_of n.ports (same i).sender; context = (same i).context; message = message_of (same i).bytes.items })

    pub found : first in_rows rows.messages ≡ Some (pulled_row n queue m)
    found = first_connect ∙ shown_found (first in_table it.ports.messages) refl at

    long_found : (o : Option (Key × QueuedMessage)) → first in_table it.ports.messages ≡ o → option_map (λ (row : Key × QueuedMessage). row.1.message) o ≡ Some m → 24 ≤ length m.bytes.items
    long_found None is' h = absurd (cc)
    long_found (Some row) is' h =
        let long : has_header row ≡ true = every-first has_header in_table it.ports.messages row is.headed is' in
        let P : Message → Type 0 = λ x. 24 ≤ length x.bytes.items in
        subst P (same_Some row.1.message m h) (grind (arith, nat_tests))

    pub long_connect : 24 ≤ length m.bytes.items
    long_connect = long_found (first in_table it.ports.messages) refl at

  -- the table without it
  pub pulled : (key : Key) (new : PortTable) → new ≡ record it.ports { messages = without (at_key key) it.ports.messages; message_room = it.ports.message_room + 1 } → new.messages ≡ without_first in_table it.ports.messages → new ≡ pulled_table
  pulled key new table oldest = table ∙ ap (λ ms. record it.ports { messages = ms; message_room = it.ports.message_room + 1 }) (sym (ap (λ (q : PortTable). q.messages) table) ∙ oldest)

  pulled_named : AreNamed n after
  pulled_named = record {
    ports_apart = is.named.ports_apart;
    sections_apart = is.named.sections_apart;
    tokens_apart = is.named.tokens_apart;
    refs = record {
      in_handles = is.named.refs.in_handles;
      in_ports = is.named.refs.in_ports;
      in_messages = every-without_first (all_pass message_refs (object_stands n)) in_table it.ports.messages is.named.refs.in_messages;
      in_waits = is.named.refs.in_waits;
      in_names = is.named.refs.in_names;
      in_views = is.named.refs.in_views;
    };
  }

  pub pulls : rows_by after ≡ basic rows (TakesConnect (name_of n.ports queue))
  pulls = rw (without_first-map (shown_message f) (all_pass message_refs (object_stands n)) in_table in_rows connect_same it.ports.messages is.named.refs.in_messages) refl

  module _ (m : model.MessageRow) (at : first in_rows rows.messages ≡ Some m) where
    pub pulled_lawful : AreLawful after calls made
    pulled_lawful = record {
      named = pulled_named;
      lawful = rw pulls (lawful.lawful-take rows calls made it.waits.spare it.ports.message_room in_rows m at is.lawful);
      counted = record { ports_made = is.counted.ports_made; messages_made = is.counted.messages_made; waits_made = is.counted.waits_made; tokens_made = is.counted.tokens_made };
      registered = is.registered;
      heard = is.heard;
      marked = marked.marked-fewer it.procs.threads it.waits.rows it.ports.messages (without_first in_table it.ports.messages) it.marks (λ who none. has_none-without_first (ports.is_own_of who) in_table it.ports.messages none) is.marked;
      mapped = is.mapped;
      headed = every-without_first has_header in_table it.ports.messages is.headed;
      drawn = drawn.same-drawn rows _ refl refl refl refl refl is.drawn;
      born = is.born;
      promised = is.promised;
    }

    pub pulled_room : (places : ℕ) → Roomy (room_by rows it places) (room_by (rows_by after) after places)
    pulled_room places = room_taken _ _ _ _ _ _ _ _ _ _ _ rows _ in_rows m at (rows_by after) refl refl refl (ap (λ (v : World). v.messages) pulls)

    pub pulled_left : HasLeft (rows_by after) m.message
    pulled_left = subst (λ (v : World). HasLeft v m.message) (sym pulls) (left-pulled in_rows rows m is.lawful.own is.lawful.single at)

    pub pulled_unqueued : StaysUnqueued rows (rows_by after)
    pulled_unqueued = subst (λ (v : World). StaysUnqueued rows v) (sym pulls) (unqueued-pulled in_rows rows)
