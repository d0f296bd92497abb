-- A thread's own messages leave their queues: the tables' new rows are the step of those that stood, and stay lawful.
use Rattle.std.proofs.Common.{◌≡◌, ℕ, List, [], ◌∷◌, Bool, true, false, refl, ap, arith}
use Rattle.lpc_base.specs.declared.birth.Birth.{Birth}
use Rattle.lpc_base.specs.Rows.{count, has, without}
use Rattle.lpc_base.proofs.RowMaps.{without-map}
use Rattle.lpc_base.proofs.RowWords.{every-without, has_none-without}
use Rattle.lpc_model.specs.Basics.{Withdraws, basic}
use Rattle.lpc_model.specs.Found.{is_own_of}
use Rattle.lpc_model.specs.World.{World}
use Rattle.lpc_ports.specs.Table as ports
use Rattle.lpc_rows.specs.Kept.{Roomy, StaysUnqueued, has_queued, room_by, rows_by}
use Rattle.lpc_rows.specs.Lawful.{AreLawful, has_header}
use Rattle.lpc_rows.specs.Shown.{Births, Tables, all_pass, birth_of, births_of, message_refs, object_stands, shown_message}
use Rattle.lpc_homes.specs.declared.object.Object.{Object}
use Rattle.lpc_rows.proofs.Marked as marked
use Rattle.lpc_rows.proofs.Changes as changes
use Rattle.lpc_rows.proofs.Drawn as drawn
use Rattle.lpc_rows.proofs.Lawful as lawful
use Rattle.lpc_rows.proofs.Readings.{count-shown}
use Rattle.lpc_rows.proofs.Rooms as rooms

none_left : {X : Type 0} (p : X → Bool) (xs : List X) → has p (without p xs) ≡ false
none_left p [] = refl
none_left p (x ∷ xs) = grind (arith, none_left p xs)

module _ (it : Tables) (calls made : ℕ) (is : AreLawful it calls made) (who : ℕ) where
  abbrev n : Births
  n = births_of it

  abbrev f : Object → Birth
  f = birth_of n

  abbrev rows : World
  rows = rows_by it

  abbrev after : Tables
  after = record it { ports = ports.without_messages (ports.is_own_of who) it.ports }

  pub withdraws : rows_by after ≡ basic rows (Withdraws who)
  withdraws = rw (without-map (shown_message f) (λ row. true) (ports.is_own_of who) (is_own_of who) (λ row _. refl) it.ports.messages (changes.all_true it is.named it.ports.messages)) refl

  same_count : count (is_own_of who) rows.messages ≡ count (ports.is_own_of who) it.ports.messages
  same_count = count-shown (shown_message f) (ports.is_own_of who) (is_own_of who) (λ row. refl) it.ports.messages

  pub withdrawn_lawful : AreLawful after calls made
  withdrawn_lawful = record {
    named = record {
      ports_apart = is.named.ports_apart;
      sections_apart = is.named.sections_apart;
      tokens_apart = is.named.tokens_apart;
      refs = record {
        in_handles = is.named.refs.in_handles;
        in_ports = is.named.refs.in_ports;
        in_messages = every-without (all_pass message_refs (object_stands n)) (ports.is_own_of who) it.ports.messages is.named.refs.in_messages;
        in_waits = is.named.refs.in_waits;
        in_names = is.named.refs.in_names;
        in_views = is.named.refs.in_views;
      };
    };
    lawful = rw (withdraws, ← same_count) (lawful.lawful-withdraw rows calls made it.waits.spare it.ports.message_room (is_own_of who) is.lawful);
    counted = record { ports_made = is.counted.ports_made; messages_made = is.counted.messages_made; waits_made = is.counted.waits_made; tokens_made = is.counted.tokens_made };
    registered = is.registered;
    heard = is.heard;
    marked = marked.marked-fewer it.procs.threads it.waits.rows it.ports.messages (without (ports.is_own_of who) it.ports.messages) it.marks (λ n none. has_none-without (ports.is_own_of n) (ports.is_own_of who) it.ports.messages none) is.marked;
    mapped = is.mapped;
    headed = every-without has_header (ports.is_own_of who) it.ports.messages is.headed;
    drawn = drawn.same-drawn rows _ refl refl refl refl refl is.drawn;
    born = is.born;
    promised = is.promised;
  }

  pub withdrawn_room : (places : ℕ) → Roomy (room_by rows it places) (room_by (rows_by after) after places)
  withdrawn_room places = rw (ap (λ (v : World). v.messages) withdraws, ← same_count) (rooms.room_withdraw _ _ _ _ _ _ _ _ _ _ _ rows _ (is_own_of who))

  pub withdrawn_left : has_queued (rows_by after) who ≡ false
  withdrawn_left = rw (ap (λ (v : World). v.messages) withdraws) (none_left (is_own_of who) rows.messages)

  pub withdrawn_unqueued : StaysUnqueued rows (rows_by after)
  withdrawn_unqueued = rw (ap (λ (v : World). v.messages) withdraws) (record { unqueued = λ tid none. has_none-without (is_own_of tid) (is_own_of who) rows.messages none })
