-- Calls that send, ask and listen leave sound waits behind; a message enters a sound world.
use Rattle.lpc_base.proofs.Births.{birth-same, birth-self}
use Rattle.lpc_base.proofs.RowWords.{every-more, every-push, first-passes, has-push, has_none-more}
use Rattle.lpc_base.specs.Rows.{first, has}
use Rattle.lpc_message.specs.declared.kind.TheConstants.{REQUEST}
use Rattle.lpc_model.proofs.Steps.Rows.{has-none, passes-change}
use Rattle.lpc_model.proofs.Sound.Basics.{once-awaits, sound-awaits, sound-identifier}
use Rattle.lpc_model.proofs.Sound.Pairs.{apart-other, tied-awaits, tied-of}
use Rattle.lpc_model.proofs.Sound.Queues.{is_ready, ready-sure, sound-enter, sound-take-connect}
use Rattle.lpc_model.proofs.Sound.Worlds.{is_sure, order-of, sure-waits}
use Rattle.lpc_model.proofs.Calls.Usable.{CanCall, HasRoute}
use Rattle.lpc_model.specs.Basics.{Awaits, Basic, DrawsIdentifier, basic, past_identifier, world_after}
use Rattle.lpc_model.specs.Connect.{listen_steps, listen_wait}
use Rattle.lpc_model.specs.Entering.{enter, row_of, take_connect_steps, takes}
use Rattle.lpc_model.specs.Fields.{h}
use Rattle.lpc_model.specs.Found.{is_live_thread, is_open, is_queued_connect, is_thread, same_birth}
use Rattle.lpc_model.specs.Request.{request_steps, request_wait, sent_by}
use Rattle.lpc_model.specs.SoundWaits.{IsSoundWorld, is_answerable, is_message_of}
use Rattle.lpc_model.specs.Tests.{client_of, is_client}
use Rattle.lpc_model.specs.World.{Birth, Message, MessageRow, PortRow, ThreadRow, World}
use Rattle.std.proofs.Common.{Bool, List, [], arith, false, not, refl, subst, sym, true, ◌++◌, ◌∷◌, ◌≡◌}
use Rattle.std.proofs.lemmas.Bool.Decides.{nat_tests}
use Rattle.std.specs.Prelude.{None, Some, ◌&&◌, ◌==◌}

-- the steps leave a sound world
abbrev pub LeaveSound : World → List Basic → Type 0
LeaveSound w bs = IsSoundWorld (world_after w bs)

-- Messages that are sent
-- a message enters a sound world
pub entered-sound : (w : World) (m : MessageRow) → IsSoundWorld w → LeaveSound w (enter m w)
entered-sound w m s = sound-enter w m (every-more (is_sure w) (is_ready w m) (ready-sure w m) w.waits (sure-waits w s)) s.once (order-of w s) (tied-of w s)

-- a thread that draws an identifier lives on
pub drawn-client : (w : World) (by : ThreadRow) → is_client w (client_of by) ≡ true → is_client (basic w (DrawsIdentifier by.number)) (client_of by) ≡ true
drawn-client w by is = rw (passes-change (is_live_thread by.number) (λ t. t.process == by.process) (is_thread by.number) past_identifier (λ t. refl) (λ t. refl) w.threads) is

-- Requests
own-message : (by : ThreadRow) (port : PortRow) (queue : Birth) (m : Message) → is_message_of (request_wait by port.birth queue (sent_by by REQUEST m)) (row_of queue port (sent_by by REQUEST m)) ≡ true
own-message by port queue m = let self = birth-self queue in grind (arith, nat_tests)

-- its wait is sound once its message has entered
ready-parts : (c o q h a : Bool) → c ≡ true → o ≡ true → q ≡ true → h ≡ true → a ≡ true → ((c && (o && (h && q))) && a) ≡ true
ready-parts c o q h a one two three four five = grind arith

request-ready : (w : World) (by : ThreadRow) (port : PortRow) (queue : Birth) (m : Message) → is_client w (client_of by) ≡ true → HasRoute w port queue
    → is_ready (basic w (DrawsIdentifier by.number)) (row_of queue port (sent_by by REQUEST m)) (request_wait by port.birth queue (sent_by by REQUEST m)) ≡ true
request-ready w by port queue m client r =
    let x = request_wait by port.birth queue (sent_by by REQUEST m) in
    let row = row_of queue port (sent_by by REQUEST m) in
    let stands = has-push (is_message_of x) w.messages row (own-message by port queue m) in
    ready-parts (is_client (basic w (DrawsIdentifier by.number)) (client_of by)) (is_open w port.birth) (is_open w queue) (has (is_message_of x) (w.messages ++ row ∷ [])) (is_answerable w x)
    (drawn-client w by client) r.from r.to stands r.answers

pub requested-sound : (w : World) (by : ThreadRow) (port : PortRow) (queue : Birth) (m : Message) → IsSoundWorld w → CanCall w by → HasRoute w port queue
    → LeaveSound w (request_steps by port queue (sent_by by REQUEST m) w)
requested-sound w by port queue m s c r =
    let row = row_of queue port (sent_by by REQUEST m) in
    let x = request_wait by port.birth queue (sent_by by REQUEST m) in
    let drawn = basic w (DrawsIdentifier by.number) in
    let t = sound-identifier w by.number s in
    let others = every-more (is_sure drawn) (is_ready drawn row) (ready-sure drawn row) w.waits (sure-waits drawn t) in
    sound-enter (basic drawn (Awaits x)) row (every-push (is_ready drawn row) w.waits x others (request-ready w by port queue m c.client r)) (once-awaits w x c.idle s.once) (order-of drawn t) (tied-awaits w.ports w.waits x (apart-other x refl w.ports) (tied-of drawn t))

-- Listens
listen-parts : (c o h : Bool) → c ≡ true → o ≡ true → h ≡ false → ((c && (o && (o && not h))) && true) ≡ true
listen-parts c o h one two three = grind arith

not-taken : (by : ThreadRow) (port : Birth) (m : MessageRow) → is_queued_connect port m ≡ false → takes m (listen_wait by port) ≡ false
not-taken by port m off = grind (arith, nat_tests)

listen-sure : (w : World) (by : ThreadRow) (port : Birth) → is_client w (client_of by) ≡ true → is_open w port ≡ true → first (is_queued_connect port) w.messages ≡ None → is_sure w (listen_wait by port) ≡ true
listen-sure w by port client opens none =
    let x = listen_wait by port in
    let nothing = has_none-more (is_queued_connect port) (λ m. takes m x) (λ m off. not-taken by port m off) w.messages (has-none (is_queued_connect port) w.messages none) in
    listen-parts (is_client w (client_of by)) (is_open w port) (has (λ m. takes m x) w.messages) client opens nothing

pub listened-sound : (w : World) (port : Birth) (m : MessageRow) → first (is_queued_connect port) w.messages ≡ Some m → IsSoundWorld w → LeaveSound w (take_connect_steps m)
listened-sound w port m at s =
    let here = first-passes (is_queued_connect port) w.messages m at in
    let queue : same_birth m.queue port ≡ true = grind arith in
    sound-take-connect w m (subst (λ q. first (is_queued_connect q) w.messages ≡ Some m) (sym (birth-same m.queue port queue)) at) s

pub listening-sound : (w : World) (by : ThreadRow) (port : Birth) → first (is_queued_connect port) w.messages ≡ None → CanCall w by → is_open w port ≡ true → IsSoundWorld w → LeaveSound w (listen_steps by port None)
listening-sound w by port at c opens s = sound-awaits w (listen_wait by port) (listen-sure w by port c.client opens at) c.idle refl s
