-- All messages of a queue go: the tables' new rows are the step of those that stood, and stay lawful.
use Rattle.std.proofs.Common.{◌≡◌, ℕ, true, refl, ap}
use Rattle.lpc_base.specs.declared.birth.Birth.{Birth}
use Rattle.lpc_base.specs.Rows.{count, without}
use Rattle.lpc_base.proofs.RowMaps.{count-map, without-map}
use Rattle.lpc_base.proofs.RowWords.{every-without, has_none-without}
use Rattle.lpc_model.specs.Basics.{Empties, basic}
use Rattle.lpc_model.specs.Found.{is_queued}
use Rattle.lpc_model.specs.World.{World}
use Rattle.lpc_ports.specs.Table as ports
use Rattle.lpc_slots.specs.declared.Key.{Key}
use Rattle.lpc_rows.specs.Kept.{Roomy, room_by, rows_by}
use Rattle.lpc_rows.specs.Lawful.{AreLawful, has_header}
use Rattle.lpc_rows.specs.Names.{name_of, stands}
use Rattle.lpc_rows.specs.Shown.{Births, Tables, all_pass, birth_of, births_of, message_refs, object_stands, shown_message}
use Rattle.lpc_homes.specs.declared.object.Object.{Object}
use Rattle.lpc_rows.proofs.Marked as marked
use Rattle.lpc_rows.proofs.Drawn as drawn
use Rattle.lpc_rows.proofs.Follows as follows
use Rattle.lpc_rows.proofs.Lawful as lawful
use Rattle.lpc_rows.proofs.Rooms as rooms

module _ (it : Tables) (calls made : ℕ) (is : AreLawful it calls made) (queue : Key) (there : stands (births_of it).ports queue ≡ true) where
  abbrev n : Births
  n = births_of it

  abbrev f : Object → Birth
  f = birth_of n

  abbrev b : Birth
  b = name_of n.ports queue

  abbrev rows : World
  rows = rows_by it

  abbrev after : Tables
  after = record it { ports = ports.without_messages (ports.is_in queue) it.ports }

  pub empties : rows_by after ≡ basic rows (Empties b)
  empties = rw (without-map (shown_message f) (all_pass message_refs (object_stands n)) (ports.is_in queue) (is_queued b) (follows.queue_same it is.named queue there) it.ports.messages is.named.refs.in_messages) refl

  same_count : count (is_queued b) rows.messages ≡ count (ports.is_in queue) it.ports.messages
  same_count = count-map (shown_message f) (all_pass message_refs (object_stands n)) (ports.is_in queue) (is_queued b) (follows.queue_same it is.named queue there) it.ports.messages is.named.refs.in_messages

  pub emptied_lawful : AreLawful after calls made
  emptied_lawful = record {
    named = record {
      ports_apart = is.named.ports_apart;
      sections_apart = is.named.sections_apart;
      tokens_apart = is.named.tokens_apart;
      refs = record {
        in_handles = is.named.refs.in_handles;
        in_ports = is.named.refs.in_ports;
        in_messages = every-without (all_pass message_refs (object_stands n)) (ports.is_in queue) it.ports.messages is.named.refs.in_messages;
        in_waits = is.named.refs.in_waits;
        in_names = is.named.refs.in_names;
        in_views = is.named.refs.in_views;
      };
    };
    lawful = rw (empties, ← same_count) (lawful.lawful-withdraw rows calls made it.waits.spare it.ports.message_room (is_queued b) is.lawful);
    counted = record { ports_made = is.counted.ports_made; messages_made = is.counted.messages_made; waits_made = is.counted.waits_made; tokens_made = is.counted.tokens_made };
    registered = is.registered;
    heard = is.heard;
    marked = marked.marked-fewer it.procs.threads it.waits.rows it.ports.messages (without (ports.is_in queue) it.ports.messages) it.marks (λ n none. has_none-without (ports.is_own_of n) (ports.is_in queue) it.ports.messages none) is.marked;
    mapped = is.mapped;
    headed = every-without has_header (ports.is_in queue) it.ports.messages is.headed;
    drawn = drawn.same-drawn rows _ refl refl refl refl refl is.drawn;
    born = is.born;
    promised = is.promised;
  }

  pub emptied_room : (places : ℕ) → Roomy (room_by rows it places) (room_by (rows_by after) after places)
  emptied_room places = rw (ap (λ (v : World). v.messages) empties, ← same_count) (rooms.room_withdraw _ _ _ _ _ _ _ _ _ _ _ rows _ (is_queued b))
