-- Each line keeps messages in queues of open ports, and what waits to be received.
use Rattle.lpc_model.specs.declared.entry.ObjectKind.TheVariants as kind
use Rattle.lpc_base.proofs.Bools.{first-true, or-last, second-true}
use Rattle.lpc_base.proofs.RowMaps.{every-both, every-change_to, every-without_first}
use Rattle.lpc_base.proofs.RowWords.{every-append, every-change, every-more, every-push, every-without, first-passes, has-kept, every-any}
use Rattle.lpc_base.specs.Rows.{count, every, first, given, when, has}
use Rattle.lpc_base.specs.declared.status.TheConstants.{SUCCESS}
use Rattle.lpc_model.proofs.Calls.Acts.{Law, accept_act, complete_act, connect_act, create_act, keeps_on, outcomes}
use Rattle.lpc_model.proofs.Calls.Lines.{Shut, LineLaw, line-does, passing-lines}
use Rattle.lpc_model.proofs.Steps.Closing.{takes_away}
use Rattle.lpc_model.proofs.Steps.Sweep.{stepped, sweep_every}
use Rattle.lpc_model.proofs.Steps.Ending.{die-pass}
use Rattle.lpc_model.proofs.Steps.Handles.{alone, open-add}
use Rattle.lpc_model.proofs.Linked.Lines.{ended-linked, line_linked}
use Rattle.lpc_model.proofs.Queues.Closing.{closed-messages, closed-waits, is_elsewhere}
use Rattle.lpc_model.proofs.Sound.Connect.{named-alone}
use Rattle.lpc_model.proofs.Sound.Close.{but-opens, close_handle-sound, shut-found, still-open}
use Rattle.lpc_model.proofs.Sound.Closing.{close-shut, left-marks}
use Rattle.lpc_model.proofs.Sound.Worlds.{by_kind}
use Rattle.lpc_model.proofs.Steps.InTurn.{after-append}
use Rattle.lpc_model.specs.Basics.{Accepts, AddsHandle, AddsProcess, AddsThread, Awaits, Basic, Completes, Cuts, Dies, DrawsIdentifier, DrawsOrdinal, DropsHandle, DropsOwned, DropsViewsOf, Empties, Enters, Frees, Joins, Makes, Receives, Registers, Takes, TakesConnect, Tells, Unbinds, Unregisters, Wakes, Withdraws, accepted, basic, freed, no_handles, received, world_after, AddsSection, Maps, Unmaps, Writes, Secures, Acts, AddsToken, Dooms, Leaves, LetsGo, Marks, SetsDebug, SetsException}
use Rattle.lpc_model.specs.Close.{close_handle, close_port, is_last}
use Rattle.lpc_model.specs.Connect.{Completable, acceptance_of, client_port, connection_request, named_steps, names_connect, server_port, unnamed_steps}
use Rattle.lpc_model.specs.Creation.{new_process, new_thread, second_birth}
use Rattle.lpc_model.specs.Death.{die}
use Rattle.lpc_model.specs.Entering.{enter, given_steps, received_steps, row_of, shown, take_connect_steps, take_steps, takes, woken}
use Rattle.lpc_model.specs.Fields.{completion_fields}
use Rattle.lpc_model.specs.Found.{free_handle, handle_at, has_handle_to, is_accepted, is_open, is_own_of, is_queued, is_queued_connect, is_table, is_taken, port_name, waits_as, waits_at, is_mark, is_marked}
use Rattle.lpc_model.specs.Lines.{ScriptLine}
use Rattle.lpc_model.specs.Linked.{IsLinked}
use Rattle.lpc_model.specs.Memory.{new_section}
use Rattle.lpc_model.specs.Machine.{bare_steps, own_steps, step}
use Rattle.lpc_model.specs.Message.{asks, made}
use Rattle.lpc_model.specs.OpenQueues.{HasOpenQueues}
use Rattle.lpc_model.specs.SoundWaits.{HasShutConnects, IsSoundWorld, is_sound_wait}
use Rattle.lpc_model.specs.Sweep.{sweep}
use Rattle.lpc_model.specs.Tests.{PORT_ACCESS, handle_row, next_birth}
use Rattle.lpc_model.specs.World.{Acceptance, Birth, HandleRow, Message, MessageRow, ObjectKind, ObjectName, ThreadRow, WaitRow, World, no_rows, Offer}
use Rattle.std.proofs.Common.{Bool, List, None, Option, Some, [], arith, false, not, refl, subst, sym, true, ℕ, ◌++◌, ◌∷◌, ◌≡◌, ◌≤◌}
use Rattle.std.proofs.lemmas.Bool.{and_from, not-true, or_left, or_right}
use Rattle.std.specs.Prelude.{◌&&◌, ◌||◌}
use Rattle.lpc_model.proofs.Calls.Sharing.{connect_begun}
use Rattle.lpc_model.specs.Impersonation.{new_token}
use Rattle.lpc_model.proofs.Linked.Calls.{steady-all}
use Rattle.lpc_model.proofs.Settling.Keeps.{bare-does, bare-unmarked, marks-swept, settling-does}
use Rattle.lpc_model.proofs.Settling.Settled.{IsReady}
use Rattle.lpc_model.proofs.Settling.Steady.{on-steady}
use Rattle.lpc_model.proofs.Sound.Less.{keeps-same, keeps_mark, or-then}
use Rattle.lpc_model.specs.Raise.{go_on}

-- The queue of each message is that of an open port, and so is that of each wait that isn't received, but for events that are
-- marked; a connect that is accepted was received.
pub record HasClearQueues (w : World) : Type 0 where
  pub messages : every (λ m. is_open w m.queue) w.messages ≡ true
  pub waits : every (λ x. is_marked w x || (x.received || is_open w x.queue)) w.waits ≡ true
  pub accepts : every is_taken w.waits ≡ true

-- What keeps queues open
-- the ports that are open in one world are open in another
abbrev StayOpen : World → World → Type 0
StayOpen w v = (b : Birth) → is_open w b ≡ true → is_open v b ≡ true

abbrev enters_open : World → MessageRow → Bool
enters_open w m = is_open w m.queue

abbrev waits_open : World → WaitRow → Bool
waits_open w x = is_marked w x || (x.received || is_open w x.queue)

-- one world behind another: open ports stay open, and so do the queues of messages and waits
record KeepsOpen (w v : World) : Type 0 where
  opens : StayOpen w v
  queues : HasClearQueues w → HasClearQueues v

open-parts : (m n r o p : Bool) → (o ≡ true → p ≡ true) → (not m || n) ≡ true → (m || (r || o)) ≡ true → (n || (r || p)) ≡ true
open-parts m n r o p more one is = grind (arith, more)

kept : (w v : World) → StayOpen w v → (every (enters_open w) w.messages ≡ true → every (enters_open w) v.messages ≡ true) → (every (waits_open w) w.waits ≡ true → every (waits_open w) v.waits ≡ true)
    → (every is_taken w.waits ≡ true → every is_taken v.waits ≡ true) → every (keeps_mark w v) v.waits ≡ true → KeepsOpen w v
kept w v opens messages waits accepts marks = record {
  opens = opens;
  queues = λ q. record {
    messages = every-more (enters_open w) (enters_open v) (λ m is. opens m.queue is) v.messages (messages q.messages);
    waits = every-both (keeps_mark w v) (waits_open w) (waits_open v) (λ x one is. open-parts (is_marked w x) (is_marked v x) x.received (is_open w x.queue) (is_open v x.queue) (opens x.queue) one is) v.waits marks (waits q.waits);
    accepts = accepts q.accepts;
  };
}

-- the messages change alone, and the waits alone, and neither does
messages-kept : (w : World) (messages : List MessageRow) → (every (enters_open w) w.messages ≡ true → every (enters_open w) messages ≡ true) → KeepsOpen w (record w { messages = messages })
messages-kept w messages all = kept w (record w { messages = messages }) (λ b is. is) all (λ all. all) (λ all. all) (keeps-same w _)

waits-kept : (w : World) (waits : List WaitRow) → (every (waits_open w) w.waits ≡ true → every (waits_open w) waits ≡ true) → (every is_taken w.waits ≡ true → every is_taken waits ≡ true) → KeepsOpen w (record w { waits = waits })
waits-kept w waits all accepts = kept w (record w { waits = waits }) (λ b is. is) (λ all. all) all accepts (keeps-same w _)

-- a basic step that keeps queues open whatever stands behind it: it gives and takes no handle and accepts nothing, and what
-- enters or waits does so in a queue of an open port
abbrev is_open_step : World → Basic → Bool
is_open_step w (Awaits x) = is_open w x.queue && not (is_accepted x)
is_open_step w (Accepts who reply) = false
is_open_step w (Enters m) = is_open w m.queue
is_open_step w (AddsHandle pid row) = false
is_open_step w (DropsHandle pid value) = false
is_open_step w b = true

abbrev AreOpen : World → List Basic → Type 0
AreOpen w bs = every (is_open_step w) bs ≡ true

freed-kept : (w : World) (k : ObjectKind) (b : Birth) → KeepsOpen w (freed w k b)
freed-kept w kind.Token b = kept w (freed w kind.Token b) (λ b is. is) (λ all. all) (λ all. all) (λ all. all) (keeps-same w _)
freed-kept w e b = kept w (freed w e b) (λ b is. is) (λ all. all) (λ all. all) (λ all. all) (keeps-same w _)

-- a step that passes in a world keeps queues open in each later one
step-kept : (w v : World) (b : Basic) → StayOpen w v → is_open_step w b ≡ true → KeepsOpen v (basic v b)
step-kept w v (Tells e) stay is = kept v v (λ b is. is) (λ all. all) (λ all. all) (λ all. all) (keeps-same v _)
step-kept w v (Wakes who call status fields) stay is = kept v (basic v (Leaves who)) (λ b is. is) (λ all. all) (every-without (waits_open v) (waits_as who) v.waits) (every-without is_taken (waits_as who) v.waits) (left-marks v who)
step-kept w v (Leaves who) stay is = kept v (basic v (Leaves who)) (λ b is. is) (λ all. all) (every-without (waits_open v) (waits_as who) v.waits) (every-without is_taken (waits_as who) v.waits) (left-marks v who)
step-kept w v (Marks who) stay is = kept v (basic v (Marks who)) (λ b is. is) (λ all. all) (λ all. all) (λ all. all) (every-any (keeps_mark v (basic v (Marks who))) (λ x. or-then (is_marked v x) (is_marked (basic v (Marks who)) x) (has-kept (is_mark x.thread) v.marks who)) v.waits)
step-kept w v (Awaits x) stay is = waits-kept v _ (λ all. every-push (waits_open v) v.waits x all (or_right (is_marked v x) _ (or_right x.received _ (stay x.queue (first-true (is_open w x.queue) _ is))))) (λ all. every-push is_taken v.waits x all (or_left _ x.received (second-true (is_open w x.queue) _ is)))
step-kept w v (Receives who queue) stay is = waits-kept v _ (every-change (waits_open v) (waits_at who queue) received (λ x is. or_right (is_marked v x) true refl) v.waits) (every-change is_taken (waits_at who queue) received (λ x is. or_right (not (is_accepted x)) true refl) v.waits)
step-kept w v (Accepts who reply) stay is = absurd (cc)
step-kept w v (Enters m) stay is = messages-kept v _ (λ all. every-push (enters_open v) v.messages m all (stay m.queue is))
step-kept w v (Takes q) stay is = messages-kept v _ (every-without_first (enters_open v) (is_queued q) v.messages)
step-kept w v (TakesConnect q) stay is = messages-kept v _ (every-without_first (enters_open v) (is_queued_connect q) v.messages)
step-kept w v (Withdraws who) stay is = messages-kept v _ (every-without (enters_open v) (is_own_of who) v.messages)
step-kept w v (Dies who status) stay is = kept v (basic v (Dies who status)) (λ b is. is) (λ all. all) (every-without (waits_open v) (waits_as who) v.waits) (every-without is_taken (waits_as who) v.waits) (left-marks v who)
step-kept w v (Registers who b) stay is = kept v (basic v (Registers who b)) (λ b is. is) (λ all. all) (λ all. all) (λ all. all) (keeps-same v _)
step-kept w v (Unregisters who b) stay is = kept v (basic v (Unregisters who b)) (λ b is. is) (λ all. all) (λ all. all) (λ all. all) (keeps-same v _)
step-kept w v (AddsProcess p) stay is = kept v (basic v (AddsProcess p)) (λ b is. has-kept (has_handle_to b) v.handles (no_handles p.number) is) (λ all. all) (λ all. all) (λ all. all) (keeps-same v _)
step-kept w v (Completes b) stay is = kept v (basic v (Completes b)) (λ b is. is) (λ all. all) (λ all. all) (λ all. all) (keeps-same v _)
step-kept w v (Frees o) stay is = freed-kept v o.kind o.birth
step-kept w v (AddsHandle pid row) stay is = absurd (cc)
step-kept w v (DropsHandle pid value) stay is = absurd (cc)
step-kept w v (Empties q) stay is = messages-kept v _ (every-without (enters_open v) (is_queued q) v.messages)
step-kept w v (Cuts b) stay is = kept v (basic v (Cuts b)) (λ b is. is) (λ all. all) (λ all. all) (λ all. all) (keeps-same v _)
step-kept w v (Unbinds b) stay is = kept v (basic v (Unbinds b)) (λ b is. is) (λ all. all) (λ all. all) (λ all. all) (keeps-same v _)
step-kept w v e stay is = kept v (basic v e) (λ b is. is) (λ all. all) (λ all. all) (λ all. all) (keeps-same v _)

steps-kept : (w v : World) (bs : List Basic) → StayOpen w v → AreOpen w bs → HasClearQueues v → HasClearQueues (world_after v bs)
steps-kept w v [] stay all q = q
steps-kept w v (b ∷ bs) stay all q =
    let here : is_open_step w b ≡ true = grind arith in
    let later : every (is_open_step w) bs ≡ true = grind arith in
    let k = step-kept w v b stay here in
    steps-kept w (basic v b) bs (λ c is. k.opens c (stay c is)) later (k.queues q)

-- steps that all pass keep queues open
open-all : (w : World) (bs : List Basic) → AreOpen w bs → HasClearQueues w → HasClearQueues (world_after w bs)
open-all w bs all q = steps-kept w w bs (λ c is. is) all q

-- a process gets a handle at a free value
handled : (w : World) (pid : ℕ) (object : ObjectName) (access : ℕ) → count (is_table pid) w.handles ≤ 1 → HasClearQueues w → HasClearQueues (basic w (AddsHandle pid (handle_row (free_handle w pid) object access)))
handled w pid object access one q =
    let v = basic w (AddsHandle pid (handle_row (free_handle w pid) object access)) in
    let k = kept w v (λ b is. open-add w pid object access b one is) (λ all. all) (λ all. all) (λ all. all) (keeps-same w _) in
    k.queues q

-- Messages that enter
open-receipt : (w : World) (m : MessageRow) → AreOpen w (received_steps m)
open-receipt w m = at (asks m.message)
  where
    at : (a : Bool) → AreOpen w (when a (Receives m.message.header.client.thread m.queue ∷ []))
    at true = refl
    at false = refl

open-given : (w : World) (m : MessageRow) (x : WaitRow) → AreOpen w (given_steps x m ++ woken SUCCESS (shown x m) x ∷ [])
open-given w m x =
    by_kind (λ x. AreOpen w (given_steps x m ++ woken SUCCESS (shown x m) x ∷ []))
    (λ x r. every-append (is_open_step w) (received_steps m) _ (open-receipt w m) refl)
    (λ x. every-append (is_open_step w) (received_steps m) _ (open-receipt w m) refl)
    (λ x. every-append (is_open_step w) (received_steps m) _ (open-receipt w m) refl)
    (λ x r offer. every-append (is_open_step w) (received_steps m) _ (open-receipt w m) refl)
    (λ x r reply. every-append (is_open_step w) (received_steps m) _ (open-receipt w m) refl)
    (λ x r. every-append (is_open_step w) (received_steps m) _ (open-receipt w m) refl) x

-- a message enters a queue that is open in one world, in a later one
open-enter : (w : World) (m : MessageRow) (v : World) → is_open w m.queue ≡ true → AreOpen w (enter m v)
open-enter w m v opens = and_from (is_open w m.queue) _ opens (at (first (takes m) v.waits))
  where
    at : (o : Option WaitRow) → AreOpen w (given o (λ x. given_steps x m ++ woken SUCCESS (shown x m) x ∷ []))
    at None = refl
    at (Some x) = open-given w m x

-- Acts
abbrev KeepOpen : World → List Basic → Type 0
KeepOpen w bs = HasClearQueues w → HasClearQueues (world_after w bs)

created-open : (w : World) (by : ThreadRow) (made : List Basic) → IsSoundWorld w → (world_after (basic w (DrawsOrdinal by.number)) made).handles ≡ w.handles → AreOpen w made → KeepOpen w (create_act w by made)
created-open w by made s same all q =
    let bs = DrawsOrdinal by.number ∷ made in
    let v = world_after w bs in
    let value : free_handle v by.process ≡ free_handle w by.process = rw same refl in
    let one : count (is_table by.process) v.handles ≤ 1 = rw same (s.tables by.process) in
    let given = handled v by.process (port_name (next_birth by)) PORT_ACCESS one (open-all w bs all q) in
    rw (after-append w bs (AddsHandle by.process (handle_row (free_handle w by.process) (port_name (next_birth by)) PORT_ACCESS) ∷ [])) (subst (λ n. HasClearQueues (basic v (AddsHandle by.process (handle_row n (port_name (next_birth by)) PORT_ACCESS)))) value given)

-- a name leads to an open port, in whose queue the request enters and its thread waits
connected-open : (w : World) (by : ThreadRow) (connection : Birth) (offer : Option Offer) (bytes : List ℕ) → is_open w connection ≡ true → KeepOpen w (connect_act w by connection offer (connection_request by offer bytes))
connected-open w by connection offer bytes opens =
    let m = connection_request by offer bytes in
    open-all w (connect_act w by connection offer m) (and_from (is_open w connection && true) _ (and_from (is_open w connection) true opens refl) (open-enter w (row_of connection (client_port by connection) m) (world_after w (connect_begun by connection offer m)) opens))

-- a connect that an answer names was received, and is its thread's only wait
received-alone : (w : World) (by : ThreadRow) (m : Message) (x : WaitRow) → first (names_connect w by m) w.waits ≡ Some x → IsSoundWorld w → every (λ y. not (waits_as x.thread y) || y.received) w.waits ≡ true
received-alone w by m x at s = named-alone w by m x (λ y. y.received) at (named x (first-passes (names_connect w by m) w.waits x at)) s
  where
    named : (x : WaitRow) → names_connect w by m x ≡ true → x.received ≡ true
    named x is = grind arith

accepted-alone : (w : World) (who : ℕ) (reply : Acceptance) → every (λ y. not (waits_as who y) || y.received) w.waits ≡ true → HasClearQueues w → HasClearQueues (basic w (Accepts who reply))
accepted-alone w who reply alone q =
    let both = every-both is_taken (λ y. not (waits_as who y) || y.received) (λ y. is_taken y && (not (waits_as who y) || y.received)) (λ y one two. and_from _ _ one two) w.waits q.accepts alone in
    record {
      messages = q.messages;
      waits = every-change (waits_open w) (waits_as who) (accepted reply) (λ x is. is) w.waits q.waits;
      accepts = every-change_to (λ y. is_taken y && (not (waits_as who y) || y.received)) is_taken (waits_as who) (accepted reply)
          (λ y is own. or_right (not (is_accepted (accepted reply y))) y.received (or-last (waits_as who y) y.received own (second-true (is_taken y) _ is))) (λ y is off. first-true (is_taken y) _ is) w.waits both;
    }

accepted-open : (w : World) (by : ThreadRow) (context : ℕ) (m : Message) (x : WaitRow) (a : Acceptance) → first (names_connect w by m) w.waits ≡ Some x → IsSoundWorld w → KeepOpen w (accept_act w by context x a)
accepted-open w by context m x a at s q =
    let server = next_birth by in
    let bs = DrawsOrdinal by.number ∷ Makes (server_port server x.queue) ∷ [] in
    let made = world_after w bs in
    let held = basic made (AddsHandle by.process (handle_row (free_handle w by.process) (port_name server) PORT_ACCESS)) in
    let t = handled made by.process (port_name server) PORT_ACCESS (s.tables by.process) (open-all w bs refl q) in
    open-all (basic held (Accepts x.thread a)) (Joins x.port server context ∷ []) refl (accepted-alone held x.thread a (received-alone w by m x at s) t)

completed-open : (w : World) (c : Completable) → IsSoundWorld w → KeepOpen w (complete_act w c)
completed-open w c s q =
    let pid = c.wait.process in
    let value = free_handle w pid in
    let bs = Completes c.server ∷ Completes c.client ∷ [] in
    let held = basic (world_after w bs) (AddsHandle pid (handle_row value (port_name c.client) PORT_ACCESS)) in
    open-all held (woken SUCCESS (completion_fields value (acceptance_of c.wait)) c.wait ∷ []) refl
    (handled (world_after w bs) pid (port_name c.client) PORT_ACCESS (s.tables pid) (open-all w bs refl q))

-- what waits to be received does so on the queue of an open port, in a sound world where accepted connects were received
waits-open : (w : World) (x : WaitRow) → is_sound_wait w x ≡ true → is_taken x ≡ true → waits_open w x ≡ true
waits-open w =
    by_kind (λ x. is_sound_wait w x ≡ true → is_taken x ≡ true → waits_open w x ≡ true)
    (λ x m is was. grind arith) (λ x is was. grind arith) (λ x is was. grind arith) (λ x m offer is was. grind arith) (λ x m reply is was. grind arith) (λ x r is was. grind arith)

from-sound : (w : World) → IsSoundWorld w → every (enters_open w) w.messages ≡ true → every is_taken w.waits ≡ true → HasClearQueues w
from-sound w s messages accepts = record {
  messages = messages;
  waits = every-both (is_sound_wait w) is_taken (waits_open w) (waits-open w) w.waits s.waits accepts;
  accepts = accepts;
}

-- the handle that goes is the last one of a port that was closed, or leaves each port open
closed-open : (w : World) (pid : ℕ) (r : HandleRow) → handle_at w pid r.value ≡ Some r → IsSoundWorld w → IsLinked w → KeepOpen w (close_handle pid r w)
closed-open w pid r at s l q = by_last (is_last r w) refl (close_handle-sound w pid r at s)
  where
    by_last : (last : Bool) → is_last r w ≡ last → IsSoundWorld (world_after w (when last (close_port r.object.birth w) ++ DropsHandle pid r.value ∷ [])) → HasClearQueues (world_after w (when last (close_port r.object.birth w) ++ DropsHandle pid r.value ∷ []))
    by_last true is sound =
        let b = r.object.birth in
        let bs = close_port b w in
        let v = world_after w bs in
        let u = basic v (DropsHandle pid r.value) in
        let shut = close-shut w b s in
        let same : world_after w (bs ++ DropsHandle pid r.value ∷ []) ≡ u = after-append w bs (DropsHandle pid r.value ∷ []) in
        let opens = but-opens v pid r (shut.sound.tables pid) (shut-found w v pid r shut.handles at) in
        let elsewhere : every (is_elsewhere v b) v.messages ≡ true = subst (λ hs. every (is_elsewhere (record w { handles = hs }) b) v.messages ≡ true) (sym shut.handles) (closed-messages w b s l q.messages) in
        let messages = every-more (is_elsewhere v b) (enters_open u) (λ m is. opens m.queue (not-true _ (second-true (is_open v m.queue) _ is)) (first-true (is_open v m.queue) _ is)) v.messages elsewhere in
        subst HasClearQueues (sym same) (from-sound u (subst IsSoundWorld same sound) messages (closed-waits w b s is_taken q.accepts))
    by_last false more sound =
        let u = basic w (DropsHandle pid r.value) in
        let opens = still-open w pid r (s.tables pid) at more in
        from-sound u sound (every-more (enters_open w) (enters_open u) (λ m is. opens m.queue is) w.messages q.messages) q.accepts

away-open : (w : World) (x : Basic) → takes_away x ≡ true → is_open_step w x ≡ true
away-open w (Wakes who call status fields) is = refl
away-open w (Withdraws who) is = refl
away-open w (Empties q) is = refl
away-open w (Unbinds b) is = refl
away-open w (DropsOwned b) is = refl
away-open w (Marks who) is = refl
away-open w x is = absurd (cc)

open-law : (by : ThreadRow) → Law by (Shut IsLinked) IsLinked KeepOpen
open-law by = record {
  keeps = ended-linked;
  nothing = λ w q. q;
  follows = keeps_on HasClearQueues;
  says = λ w e q. open-all w (Tells e ∷ []) refl q;
  numbers = λ w. open-all w (DrawsIdentifier by.number ∷ []) refl;
  wakes = λ w status fields x. open-all w (woken status fields x ∷ []) refl;
  marks = λ w who is. open-all w (Marks who ∷ []) refl;
  abandons = λ w who. open-all w (Leaves who ∷ []) refl;
  debugs = λ w pid b stands live. open-all w (SetsDebug pid b ∷ []) refl;
  excepts = λ w pid b stands live. open-all w (SetsException pid b ∷ []) refl;
  dooms = λ w pid code. open-all w (Dooms pid code ∷ []) refl;
  takes = λ w m. open-all w (take_steps m) (open-receipt w m);
  listens = λ w m. open-all w (take_connect_steps m) (open-receipt w m);
  waits = λ w x off is. open-all w (Awaits x ∷ []) (and_from (is_open w x.queue && not (is_accepted x)) true (and_from (is_open w x.queue) _ is.opens is.begins) refl);
  sends = λ w m is. open-all w (enter m w) (open-enter w m w is.opens);
  asks = λ w x m off wait post. open-all w (Awaits x ∷ enter m (basic w (Awaits x))) (and_from (is_open w x.queue && not (is_accepted x)) _ (and_from (is_open w x.queue) _ wait.opens wait.begins) (open-enter w m (basic w (Awaits x)) post.opens));
  creates = λ w is. created-open w by (unnamed_steps (next_birth by)) is.sound refl refl;
  founds = λ w name path free is. created-open w by (named_steps (next_birth by) path) is.sound refl refl;
  connects = λ w connection offer bytes opens offers is. connected-open w by connection offer bytes opens;
  gives = λ w pid o access is. handled w pid o access is.one;
  accepts = λ w context m x a at is. accepted-open w by context m x a at is.sound;
  completes = λ w c is. completed-open w c is.sound;
  registers = λ w b stands. open-all w (Registers by.number b ∷ []) refl;
  spawns = λ w pid tid token new unused s. open-all w (DrawsOrdinal by.number ∷ DrawsOrdinal by.number ∷ AddsProcess (new_process pid (Some by.process) (next_birth by) token) ∷ AddsThread (new_thread tid pid (second_birth by)) ∷ []) refl;
  starts = λ w tid pid live unused s. open-all w (DrawsOrdinal by.number ∷ AddsThread (new_thread tid pid (next_birth by)) ∷ []) refl;
  closes = λ w pid r at s l. closed-open w pid r at s l;
  dies = λ w code t is. open-all w (die code t w) (die-pass (is_open_step w) (away-open w) (λ n c. refl) (λ b. refl) code t w);
  leaves = λ w n b. open-all w (Unregisters n b ∷ []) refl;
  lets_go = λ w pid. open-all w (LetsGo pid ∷ []) refl;
  vacates = λ w pid. open-all w (DropsViewsOf pid ∷ []) refl;
  disowns = λ w b. open-all w (DropsOwned b ∷ []) refl;
  secures = λ w b s. open-all w (Secures b s ∷ []) refl;
  acts = λ w own. open-all w (Acts by.number own ∷ []) refl;
  holds_token = λ w content. open-all w (DrawsOrdinal by.number ∷ AddsToken (new_token by content) ∷ []) refl;
  builds = λ w size prot is. open-all w (DrawsOrdinal by.number ∷ AddsSection (new_section by size prot) ∷ []) refl;
  maps = λ w pid v m. open-all w (Maps pid v ∷ []) refl;
  unmaps = λ w pid base. open-all w (Unmaps pid base ∷ []) refl;
  writes = λ w b place new. open-all w (Writes b place new ∷ []) refl;
}

-- Lines
open-lines : LineLaw (Shut IsLinked) (λ _. KeepOpen)
open-lines = passing-lines (Shut IsLinked) KeepOpen is_open_step open-all (λ w. record { tells = λ _. refl; processes = λ _ _ _. refl; threads = λ _ _ _. refl; binds = λ _ _. refl; names = λ _. refl }) (λ by. outcomes by (Shut IsLinked) IsLinked KeepOpen (open-law by) (λ w c. c))

-- before the world settles
pub queues_line : (w : World) (line : ScriptLine) → IsSoundWorld w → HasShutConnects w → IsLinked w → HasClearQueues w → HasClearQueues (world_after w (own_steps line w))
queues_line w line s shut l q = line-does (Shut IsLinked) (λ _. KeepOpen) open-lines w s (shut, l) line q

-- the row of an object that goes takes no handle, no message and no wait away
queues_swept : (w : World) → HasClearQueues w → HasClearQueues (world_after w (sweep w))
queues_swept w = open-all w (sweep w) (sweep_every (is_open_step w) (λ _. refl) w)

clear-of : (w : World) → HasOpenQueues w → HasClearQueues w
clear-of w q = record { messages = q.messages; waits = every-more (λ x. x.received || is_open w x.queue) (waits_open w) (λ x is. or_right (is_marked w x) _ is) w.waits q.waits; accepts = q.accepts }

-- where no event is marked, queues are open
open-of : (w : World) → w.marks ≡ [] → HasClearQueues w → HasOpenQueues w
open-of w none q = record {
  messages = q.messages;
  waits = every-more (waits_open w) (λ x. x.received || is_open w x.queue) (λ x is. of x (subst (λ ms. (has (is_mark x.thread) ms || (x.received || is_open w x.queue)) ≡ true) none is)) w.waits q.waits;
  accepts = q.accepts;
}
  where
    of : (x : WaitRow) → (false || (x.received || is_open w x.queue)) ≡ true → (x.received || is_open w x.queue) ≡ true
    of x is = is

-- the step of a line keeps queues open
pub queues_step : (w : World) (line : ScriptLine) → IsSoundWorld w → HasShutConnects w → IsLinked w → IsReady (world_after w (own_steps line w)) → HasOpenQueues w → HasOpenQueues (step w line).world
queues_step w line s shut l ready q =
    let v = world_after w (own_steps line w) in
    let bare = world_after w (bare_steps line w) in
    let settled = settling-does (Shut IsLinked) IsLinked KeepOpen open-law (λ w tid _ l. steady-all w (go_on tid w) (on-steady w tid) l) v ready (line_linked w line s l) in
    let clear = bare-does KeepOpen (λ w xs ys one two. keeps_on HasClearQueues w xs ys one two) w line (queues_line w line s shut l) settled (clear-of w q) in
    open-of (step w line).world (marks-swept w line (bare-unmarked w line ready)) (stepped HasClearQueues w line queues_swept clear)

pub queues_none : HasOpenQueues no_rows
queues_none = record { messages = refl; waits = refl; accepts = refl }
