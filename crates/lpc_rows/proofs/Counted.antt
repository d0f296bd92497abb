-- How many rows count for an object: the tables count what the definitions count.
use Rattle.std.proofs.Common.{◌≡◌, ◌+◌, ◌≤◌, ◌||◌, ℕ, zero, suc, Option, Some, None, List, [], ◌∷◌, ◌++◌, Bool, true, false, length, map, not, refl, ap, sym, subst, ◌∙◌, arith}
use Rattle.std.specs.Prelude.{◌&&◌, ◌==◌}
use Rattle.std.proofs.lemmas.List.{length-map, map-append}
use Rattle.lpc_base.specs.declared.birth.Birth.{Birth}
use Rattle.lpc_base.specs.Rows.{count, each, every, has}
use Rattle.lpc_base.proofs.RowMaps.{count-map, every-map}
use Rattle.lpc_base.proofs.RowWords.{count-bound, every-append, every-back, every-front}
use Rattle.lpc_handles.specs.declared.table.Row.{Row}
use Rattle.lpc_model.specs.World.{HandleRow, ObjectName, World}
use Rattle.lpc_model.specs.Found as found
use Rattle.lpc_ports.specs.Table as ports
use Rattle.lpc_ports.specs.declared.Port.{Port}
use Rattle.lpc_ports.specs.Table.{QueuedMessage}
use Rattle.lpc_procs.specs.Procs as procs
use Rattle.lpc_slots.specs.declared.Key.{Key}
use Rattle.lpc_views.specs.Views.{shows}
use Rattle.lpc_views.specs.declared.view.View.{View}
use Rattle.lpc_waits.specs.Table as waits
use Rattle.lpc_waits.specs.declared.Accepted.{Accepted}
use Rattle.lpc_waits.specs.declared.Offer.{Offer}
use Rattle.lpc_waits.specs.declared.WaitKind.{WaitKind}
use Rattle.lpc_waits.specs.declared.WaitKind.TheVariants as wait
use Rattle.lpc_waits.specs.Table.{WaitingThread}
use Rattle.lpc_model.specs.declared.entry.ObjectKind.TheVariants as kind
use Rattle.lpc_rows.specs.Kept.{is_alive, rows_by}
use Rattle.lpc_model.specs.Found.{all_handles, handle_count, is_born_process, same_object, section_name}
use Rattle.lpc_model.proofs.Steps.Handles.{has-each}
use Rattle.lpc_rows.specs.Held.{has_handles, has_holders}
use Rattle.lpc_rows.specs.Lawful.{AreLawful}
use Rattle.lpc_rows.specs.Names.{name_of, stands}
use Rattle.lpc_homes.specs.Parts.{all_rows, all_views, has_name_of, has_view_of, names_it}
use Rattle.lpc_rows.specs.Shown.{Tables, AreNamed, Births, all_pass, birth_of, births_of, message_refs, name_by, object_stands, part_refs, port_refs, ports_in, offer_refs, shown_handle, shown_message, shown_part, shown_port, shown_process, shown_thread, shown_view, shown_wait, view_refs, wait_refs}
use Rattle.lpc_homes.specs.declared.object.Object.{Object}
use Rattle.lpc_homes.specs.declared.parts.Part.{Part}
use Rattle.lpc_rows.proofs.Follows as follows
use Rattle.lpc_rows.proofs.Lawful.{waits-fit}
use Rattle.lpc_rows.proofs.Readings as readings
use Rattle.lpc_rows.proofs.Readings.{count-shown, has-shown}
use Rattle.lpc_rows.proofs.ShownViews.{views_shown, views_stand}
use Rattle.lpc_rows.proofs.Unheld.{the_same}

-- Some rows count where one passes
pub zero_has : {X : Type 0} (p : X → Bool) (xs : List X) → not (count p xs == 0) ≡ has p xs
zero_has p [] = refl
zero_has p (x ∷ xs) = at (p x) refl (zero_has p xs)
  where
    at : (c : Bool) → p x ≡ c → not (count p xs == 0) ≡ has p xs → not (count p (x ∷ xs) == 0) ≡ has p (x ∷ xs)
    at true is later = grind arith
    at false is later = grind (arith, later)

-- an object has a handle where one of a process's names it
pub named-counted : (w : World) (o : ObjectName) → not (handle_count w o == 0) ≡ has (λ t. has (λ h. same_object h.object o) t.rows) w.handles
named-counted w o = zero_has (λ (h : HandleRow). same_object h.object o) (all_handles w) ∙ has-each (λ (h : HandleRow). same_object h.object o) (λ t. t.rows) w.handles

-- Handles that name an object
module _ (it : Tables) (is : AreNamed (births_of it) it) (o : Object) (there : object_stands (births_of it) o ≡ true) where
  abbrev g : Object → Birth
  g = birth_of (births_of it)

  abbrev stand : Object → Bool
  stand = object_stands (births_of it)

  rows_shown : (parts : List Part) → each (λ t. t.rows) (map (shown_part g) parts) ≡ map (shown_handle g) (all_rows parts)
  rows_shown [] = refl
  rows_shown (part ∷ parts) =
      ap (λ hs. map (shown_handle g) part.handles.rows ++ hs) (rows_shown parts) ∙ sym (map-append (shown_handle g) part.handles.rows (all_rows parts))

  rows_stand : (parts : List Part) → every (all_pass part_refs stand) parts ≡ true → every (λ row. stand row.1.object) (all_rows parts) ≡ true
  rows_stand [] all = refl
  rows_stand (part ∷ parts) all =
      every-append (λ (row : ℕ × Row Object). stand row.1.object) part.handles.rows (all_rows parts)
      (sym (every-map stand (λ (row : ℕ × Row Object). row.1.object) part.handles.rows) ∙ grind arith) (rows_stand parts (grind arith))

  pub handles_counted : found.handle_count (rows_by it) (name_by g o) ≡ count (names_it o) (all_rows it.parts)
  handles_counted =
      ap (count (λ h. found.same_object h.object (name_by g o))) (rows_shown it.parts)
      ∙ count-map (shown_handle g) (λ row. stand row.1.object) (names_it o) (λ h. found.same_object h.object (name_by g o)) (readings.named_same it is o there) (all_rows it.parts) (rows_stand it.parts is.refs.in_handles)

  pub handles_named : has_handles (rows_by it) (name_by g o) ≡ has (has_name_of o) it.parts
  handles_named = named-counted (rows_by it) (name_by g o) ∙ readings.named_is it is o there

-- Rows that count for a port, but the views that it owns
module _ (it : Tables) (is : AreNamed (births_of it) it) (key : Key) (there : stands (births_of it).ports key ≡ true) where
  abbrev n : Births
  n = births_of it

  abbrev f : Object → Birth
  f = birth_of n

  abbrev ok : Object → Bool
  ok = object_stands n

  abbrev b : Birth
  b = name_of n.ports key

  paired_same : (row : Key × Port) → all_pass port_refs ok row ≡ true → found.is_paired_to b (shown_port f row) ≡ ports.is_paired_to key row
  paired_same row all = the_same it is key there row.1.pair (every-front ok (ports_in row.1.pair) (ports_in row.1.connection) all)

  connected_same : (row : Key × Port) → all_pass port_refs ok row ≡ true → found.is_connected_to b (shown_port f row) ≡ ports.is_connected_to key row
  connected_same row all = the_same it is key there row.1.connection (every-back ok (ports_in row.1.pair) (ports_in row.1.connection) all)

  sent_same : (row : Key × QueuedMessage) → all_pass message_refs ok row ≡ true → found.is_sent_on b (shown_message f row) ≡ ports.is_sent_on key row
  sent_same row all = follows.agree it is row.1.message.sender key (grind arith) there

  made_same : (row : WaitingThread) → all_pass wait_refs ok row ≡ true → found.is_made_on b (shown_wait f row) ≡ waits.is_made_on key row
  made_same row all = follows.agree it is row.wait.port key (grind arith) there

  pub paired_counted : count (found.is_paired_to b) (rows_by it).ports ≡ count (ports.is_paired_to key) it.ports.ports
  paired_counted = count-map (shown_port f) (all_pass port_refs ok) (ports.is_paired_to key) (found.is_paired_to b) paired_same it.ports.ports is.refs.in_ports

  pub connected_counted : count (found.is_connected_to b) (rows_by it).ports ≡ count (ports.is_connected_to key) it.ports.ports
  connected_counted = count-map (shown_port f) (all_pass port_refs ok) (ports.is_connected_to key) (found.is_connected_to b) connected_same it.ports.ports is.refs.in_ports

  pub sent_counted : count (found.is_sent_on b) (rows_by it).messages ≡ count (ports.is_sent_on key) it.ports.messages
  sent_counted = count-map (shown_message f) (all_pass message_refs ok) (ports.is_sent_on key) (found.is_sent_on b) sent_same it.ports.messages is.refs.in_messages

  pub made_counted : count (found.is_made_on b) (rows_by it).waits ≡ count (waits.is_made_on key) it.waits.rows
  made_counted = count-map (shown_wait f) (all_pass wait_refs ok) (waits.is_made_on key) (found.is_made_on b) made_same it.waits.rows is.refs.in_waits

-- Live threads that count for a process, and for a thread
module _ (it : Tables) (calls made : ℕ) (is : AreLawful it calls made) (b : Birth) where
  pub born-once : count (procs.is_process_born b) it.procs.processes ≤ 1
  born-once = subst (λ (n : ℕ). n ≤ 1) (count-shown shown_process (procs.is_process_born b) (is_born_process b) (λ p. refl) it.procs.processes) (is.born.process_births b)

  pub process-lives : count (found.lives_by (rows_by it) b) (rows_by it).threads ≡ count (procs.lives_by it.procs b) it.procs.threads
  process-lives =
      count-shown shown_thread (procs.lives_by it.procs b) (found.lives_by (rows_by it) b)
      (λ t. ap (λ c. t.live && c) (has-shown shown_process (λ p. procs.is_process_born b p && procs.is_process t.process p) (λ p. found.same_birth p.birth b && (p.number == t.process)) (λ p. refl) it.procs.processes)) it.procs.threads

  pub thread-lives : count (found.is_life b) (rows_by it).threads ≡ count (procs.is_life b) it.procs.threads
  thread-lives = count-shown shown_thread (procs.is_life b) (found.is_life b) (λ t. refl) it.procs.threads

  pub threads-few : length it.procs.threads ≤ made
  threads-few = omega (arith, is.lawful.rows, length-map it.procs.threads shown_thread)

-- each of these counts is no more than was made
module _ (it : Tables) (calls made : ℕ) (is : AreLawful it calls made) (key : Key) (there : stands (births_of it).ports key ≡ true) where
  ports_few : length it.ports.ports ≤ made
  ports_few = omega (arith, is.lawful.rows, length-map it.ports.ports (shown_port (birth_of (births_of it))))

  pub paired_few : count (ports.is_paired_to key) it.ports.ports ≤ made
  paired_few = omega (arith, ports_few, count-bound (ports.is_paired_to key) it.ports.ports)

  pub connected_few : count (ports.is_connected_to key) it.ports.ports ≤ made
  connected_few = omega (arith, ports_few, count-bound (ports.is_connected_to key) it.ports.ports)

  pub made_few : count (waits.is_made_on key) it.waits.rows ≤ made
  made_few =
      omega (arith, made_counted it is.named key there, count-bound (found.is_made_on (name_of (births_of it).ports key)) (rows_by it).waits, waits-fit (rows_by it).threads (rows_by it).waits is.lawful.single is.lawful.threads, count-bound is_alive (rows_by it).threads, is.lawful.rows)

  pub parts_few : length it.parts ≤ made
  parts_few = omega (arith, is.lawful.tables_few, length-map it.parts (shown_part (birth_of (births_of it))))

-- Views that show a section, and connects that offer it
module _ (it : Tables) (is : AreNamed (births_of it) it) (key : Key) (there : stands (births_of it).sections key ≡ true) where
  abbrev k : Births
  k = births_of it

  abbrev h : Object → Birth
  h = birth_of k

  abbrev standing : Object → Bool
  standing = object_stands k

  abbrev c : Birth
  c = name_of k.sections key

  first-one : (v : View Key) → all_pass view_refs standing v ≡ true → stands k.sections v.section ≡ true
  first-one v all = grind arith

  view_same : (v : View Key) → all_pass view_refs standing v ≡ true → found.shows_section c (shown_view h v) ≡ shows key v
  view_same v all = follows.agree_section it is v.section key (first-one v all) there

  pub views_counted : count (found.shows_section c) (found.all_views (rows_by it)) ≡ count (shows key) (all_views it.parts)
  views_counted =
      ap (count (found.shows_section c)) (views_shown h it.parts)
      ∙ count-map (shown_view h) (all_pass view_refs standing) (shows key) (found.shows_section c) view_same (all_views it.parts) (views_stand standing it.parts is.refs.in_views)

  offer_same : (row : WaitingThread) → all_pass wait_refs standing row ≡ true → found.offers_section c (shown_wait h row) ≡ waits.is_offering key row
  offer_same row all = by row.wait.kind row.offer row.accepted (grind arith)
    where
      by : (kind : WaitKind) (o : Option Offer) (a : Option Accepted) → every standing (offer_refs kind o a) ≡ true → let x : WaitingThread = record row { wait = record row.wait { kind = kind }; offer = o; accepted = a } in found.offers_section c (shown_wait h x) ≡ waits.is_offering key x
      by wait.Request o a all = refl
      by wait.Receive o a all = refl
      by wait.Listen o a all = refl
      by wait.Connect None None all = refl
      by wait.Connect (Some o) None all = follows.agree_section it is o.section key (grind arith) there
      by wait.Connect o (Some a) all = refl
      by (wait.Event r) o a all = refl

  pub offers_counted : count (found.offers_section c) (rows_by it).waits ≡ count (waits.is_offering key) it.waits.rows
  offers_counted = count-map (shown_wait h) (all_pass wait_refs standing) (waits.is_offering key) (found.offers_section c) offer_same it.waits.rows is.refs.in_waits

  pub section_counted : found.holders (rows_by it) kind.Section c ≡ count (shows key) (all_views it.parts) + count (waits.is_offering key) it.waits.rows
  section_counted = ap (λ n. n + count (found.offers_section c) (rows_by it).waits) views_counted ∙ ap (λ n. count (shows key) (all_views it.parts) + n) offers_counted

  some_of : (a b : ℕ) → not (a + b == 0) ≡ not (a == 0) || not (b == 0)
  some_of zero zero = refl
  some_of zero (suc b) = grind arith
  some_of (suc a) b = grind arith

  pub section_held : has_holders (rows_by it) (section_name c) ≡ has (has_view_of key) it.parts || has (waits.is_offering key) it.waits.rows
  section_held =
      ap (λ n. not (n == 0)) section_counted
      ∙ some_of (count (shows key) (all_views it.parts)) (count (waits.is_offering key) it.waits.rows)
      ∙ rw (zero_has (shows key) (all_views it.parts), zero_has (waits.is_offering key) it.waits.rows, has-each (shows key) (λ (part : Part). part.views.views) it.parts) refl

-- no more processes have a home than were made
pub homes-few : (it : Tables) (calls made : ℕ) → AreLawful it calls made → length it.parts ≤ made
homes-few it calls made is = omega (arith, is.lawful.tables_few, length-map it.parts (shown_part (birth_of (births_of it))))

-- and no more waits than were made, whatever they offer
pub offering-few : (it : Tables) (calls made : ℕ) → AreLawful it calls made → (section : Key) → count (waits.is_offering section) it.waits.rows ≤ made
offering-few it calls made is section =
    omega (arith, count-bound (waits.is_offering section) it.waits.rows, length-map it.waits.rows (shown_wait (birth_of (births_of it))), waits-fit (rows_by it).threads (rows_by it).waits is.lawful.single is.lawful.threads, count-bound is_alive (rows_by it).threads, is.lawful.rows)
