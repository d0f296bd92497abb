-- The ways of messages: what a call sends from a port goes the port's own way, and steps that send nothing keep the ways.
use Rattle.lpc_model.proofs.Sound.Reply.{reply-cases}
use Rattle.std.proofs.Common.{◌≡◌, ℕ, List, [], ◌∷◌, ◌++◌, Bool, true, false, not, Option, Some, None, refl, sym, subst, arith}
use Rattle.std.proofs.lemmas.Bool.{and_from}
use Rattle.std.specs.Prelude.{if◌then◌else◌}
use Rattle.lpc_base.specs.Rows.{every, first, given, passes}
use Rattle.lpc_base.proofs.RowWords.{every-append}
use Rattle.lpc_base.specs.declared.port_kind.PortKind.TheVariants.{Client, Connection, Server, Unnamed}
use Rattle.lpc_base.specs.declared.status.TheConstants.{INVALID_HANDLE, PORT_DISCONNECTED, SUCCESS}
use Rattle.lpc_model.specs.Message.{asks, message_test}
use Rattle.lpc_model.specs.World.{Accepted, Birth, Connect, Listen, MessageRow, PortRow, Receive, Request, ThreadRow, WaitKind, WaitRow, World, Event}
use Rattle.lpc_model.specs.Found.{is_port}
use Rattle.lpc_model.specs.Basics.{Awaits, Basic, Enters, Frees, Joins, basic, world_after}
use Rattle.lpc_model.specs.Entering.{enter, given_steps, shown, take_connect_steps, take_steps, takes, woken}
use Rattle.lpc_model.specs.declared.entry.ObjectKind.TheVariants as kind
use Rattle.lpc_model.specs.Refusal.{found_or}
use Rattle.lpc_model.specs.declared.message.Message.{Message}
use Rattle.lpc_model.specs.World.{PortKind}
use Rattle.lpc_model.specs.Request.{Sendable, reply_test, datagram_send_test, datagram_test, given_reply, receive_steps, receive_wait, send_test}
use Rattle.lpc_model.specs.Tests.{PORT_RIGHT, object_test, port_test}
use Rattle.lpc_model.specs.Connect.{listen_steps}
use Rattle.lpc_model.proofs.Calls.Holding.{Holds, bind_holds, found_holds, found_ok, holds_ok}
use Rattle.lpc_model.proofs.Calls.Usable.{if-same}
use Rattle.lpc_isolation.proofs.Rows.Sent.{append-sent, are_sent, is_sent_home, leads_home, none-sent, sends_none}
use Rattle.lpc_model.specs.Found.{if_open, is_cut, is_open, is_asking, is_the, port_row, route, same_birth, way}
use Rattle.lpc_base.proofs.RowWords.{every-more, first-passes}
use Rattle.lpc_base.proofs.Bools.{first-true, second-true}
use Rattle.lpc_base.proofs.Births.{birth-same, birth-self}
use Rattle.lpc_isolation.proofs.Rows.Paths.{append-paths, are_paths, keeps_paths, leads}

-- steps that join nothing, begin no wait for a reply, and send nothing
abbrev stays : Basic → Bool
stays (Awaits x) = not (is_asking x)
stays (Joins client server context) = false
stays (Frees o) = false
stays (Enters x) = false
stays b = true

abbrev pub AreStill : List Basic → Type 0
AreStill bs = every stays bs ≡ true

still-step : (w : World) (b : Basic) → stays b ≡ true → keeps_paths w b ≡ true
still-step w (Awaits x) ok = grind arith
still-step w (Joins client server context) ok = absurd (cc)
still-step w (Frees o) ok = absurd (cc)
still-step w (Enters x) ok = absurd (cc)
still-step w b ok = refl

pub still-paths : (w : World) (bs : List Basic) → AreStill bs → are_paths w bs ≡ true
still-paths w [] ok = refl
still-paths w (b ∷ bs) ok = and_from _ _ (still-step w b (first-true _ _ ok)) (still-paths (basic w b) bs (second-true _ _ ok))

given-still : (x : MessageRow) (z : WaitRow) (sort : WaitKind) (asked : Bool) → z.kind ≡ sort → asks x.message ≡ asked → AreStill (given_steps z x ++ woken SUCCESS (shown z x) z ∷ [])
given-still x z (Request a) true is asked = rw (is, asked) refl
given-still x z (Request a) false is asked = rw (is, asked) refl
given-still x z (Event e) true is asked = rw (is, asked) refl
given-still x z (Event e) false is asked = rw (is, asked) refl
given-still x z Receive true is asked = rw (is, asked) refl
given-still x z Receive false is asked = rw (is, asked) refl
given-still x z Listen true is asked = rw (is, asked) refl
given-still x z Listen false is asked = rw (is, asked) refl
given-still x z (Connect a offer) true is asked = rw (is, asked) refl
given-still x z (Connect a offer) false is asked = rw (is, asked) refl
given-still x z (Accepted a r) true is asked = rw (is, asked) refl
given-still x z (Accepted a r) false is asked = rw (is, asked) refl

entered-still : (x : MessageRow) (o : Option WaitRow) → AreStill (given o (λ z. given_steps z x ++ woken SUCCESS (shown z x) z ∷ []))
entered-still x None = refl
entered-still x (Some z) = given-still x z z.kind (asks x.message) refl refl

-- a message that enters
pub enter-paths : (v : World) (x : MessageRow) → are_paths v (enter x v) ≡ true
enter-paths v x = still-paths (basic v (Enters x)) (given (first (takes x) v.waits) (λ z. given_steps z x ++ woken SUCCESS (shown z x) z ∷ [])) (entered-still x (first (takes x) v.waits))

pub then-paths : (u : World) (start : List Basic) (x : MessageRow) → AreStill start → are_paths u (start ++ enter x (world_after u start)) ≡ true
then-paths u start x ok = append-paths u start (enter x (world_after u start)) (still-paths u start ok) (enter-paths (world_after u start) x)

still-none : (b : Basic) → stays b ≡ true → sends_none b ≡ true
still-none (Enters x) ok = absurd (cc)
still-none (Frees o) ok = absurd (cc)
still-none b ok = refl

pub still-sent : (w : World) (bs : List Basic) → AreStill bs → are_sent w bs ≡ true
still-sent w bs ok = none-sent w bs (every-more stays sends_none still-none bs ok)

pub then-sent : (u : World) (start : List Basic) (x : MessageRow) → are_sent u start ≡ true → is_sent_home (world_after u start) x ≡ true → are_sent u (start ++ enter x (world_after u start)) ≡ true
then-sent u start x ok home =
    let v : World = world_after u start in
    append-sent u start (enter x v) ok (and_from _ _ home (still-sent (basic v (Enters x)) (given (first (takes x) v.waits) (λ z. given_steps z x ++ woken SUCCESS (shown z x) z ∷ [])) (entered-still x (first (takes x) v.waits))))

taken-still : (x : MessageRow) (asked : Bool) → asks x.message ≡ asked → AreStill (take_steps x) × AreStill (take_connect_steps x)
taken-still x true asked = (rw asked refl, rw asked refl)
taken-still x false asked = (rw asked refl, rw asked refl)

pub listened-still : (by : ThreadRow) (port : Birth) (o : Option MessageRow) → AreStill (listen_steps by port o)
listened-still by port None = refl
listened-still by port (Some x) = (taken-still x (asks x.message) refl).1

pub replied-still : (u : World) (p : PortRow) (o : Option Message) → Holds (AreStill) (given_reply u p o)
replied-still u p None = refl
replied-still u p (Some b) = bind_holds (reply_test u p b) _ (AreStill) (λ x _. reply-cases (λ r. AreStill (r ∷ [])) x b refl refl (λ _. refl))

pub received-still : (by : ThreadRow) (p : PortRow) (q : Birth) (rs : List Basic) (o : Option MessageRow) → AreStill rs → AreStill (receive_steps by p q rs o)
received-still by p q rs None ok = every-append (stays) rs (Awaits (receive_wait by p.birth q) ∷ []) ok refl
received-still by p q rs (Some x) ok = every-append (stays) rs (take_steps x) ok (taken-still x (asks x.message) refl).0

itself : (p : PortRow) (q : Birth) → Some p.birth ≡ Some q → same_birth q p.birth ≡ true
itself p q to = let same : p.birth ≡ q = cc in subst (λ b. same_birth q b ≡ true) (sym same) (birth-self q)

-- the queue that messages from a port enter
pub way-lead : (w : World) (p : PortRow) (q : Birth) (sort : PortKind) → p.kind ≡ sort → way w p ≡ Some q → leads q p ≡ true
way-lead w p q Client is to = rw is (client (is_cut p) (rw is at to))
  where
    client : (e : Bool) → if_open w (if e then None else p.connection) ≡ Some q → is_the q p.connection ≡ true
    client true to = absurd (cc)
    client false to = if-same w p.connection q to
way-lead w p q Server is to = let on : is_the q p.pair ≡ true = if-same w p.pair q (rw is at to) in rw (is, on) (grind arith)
way-lead w p q Connection is to = rw is (itself p q (rw is at to))
way-lead w p q Unnamed is to = rw is (itself p q (rw is at to))

pub route-way : (w : World) (p : PortRow) (q : Birth) → route w p ≡ Some q → way w p ≡ Some q
route-way w p q is = at (is_open w p.birth) is
  where
    at : (e : Bool) → (if e then way w p else None) ≡ Some q → way w p ≡ Some q
    at true is = is
    at false is = absurd (cc)

-- What each call sends
-- the row of a port that a handle names
port-row : (w : World) (by : ThreadRow) (value : ℕ) → Holds (λ p. port_row w p.birth ≡ Some p) (port_test w by value)
port-row w by value =
    let P : PortRow → Type 0 = λ p. port_row w p.birth ≡ Some p in
    bind_holds (object_test w by kind.Port PORT_RIGHT value) _ P (λ b at.
    found_holds P (port_row w b) INVALID_HANDLE (λ p here. subst (λ b. port_row w b ≡ Some p) (sym (birth-same p.birth b (first-passes (is_port b) w.ports p here))) here))

-- and the queue that messages from it enter
client-lead : (q : Birth) (p : PortRow) (sort : PortKind) → p.kind ≡ sort → leads q p ≡ true → leads_home q p ≡ true
client-lead q p Client is on = rw is (rw is at on)
client-lead q p b is on = rw is refl

pub route-home : (w : World) (p : PortRow) (q : Birth) → route w p ≡ Some q → leads_home q p ≡ true
route-home w p q to = client-lead q p p.kind refl (way-lead w p q p.kind refl (route-way w p q to))

pub sends-home : (w : World) (by : ThreadRow) (handle : ℕ) (bytes : List ℕ) → Holds (λ s. passes (port_row w s.port.birth) (leads_home s.queue) ≡ true) (send_test w by handle bytes)
sends-home w by handle bytes =
    let P : Sendable → Type 0 = λ s. passes (port_row w s.port.birth) (leads_home s.queue) ≡ true in
    bind_holds (port_test w by handle) _ P (λ p at.
    bind_holds (message_test bytes) _ P (λ a _.
    bind_holds (found_or (route w p) PORT_DISCONNECTED) _ P (λ q to.
    let here : port_row w p.birth ≡ Some p = holds_ok (λ p. port_row w p.birth ≡ Some p) (port_test w by handle) p (port-row w by handle) at in
    rw here (route-home w p q (found_ok (route w p) PORT_DISCONNECTED q to)))))

pub datagram-home : (w : World) (by : ThreadRow) (handle : ℕ) (bytes : List ℕ) → Holds (λ s. passes (port_row w s.port.birth) (leads_home s.queue) ≡ true) (datagram_send_test w by handle bytes)
datagram-home w by handle bytes =
    let P : Sendable → Type 0 = λ s. passes (port_row w s.port.birth) (leads_home s.queue) ≡ true in
    bind_holds (send_test w by handle bytes) _ P (λ s is. bind_holds (datagram_test w s.port) _ P (λ _ _. holds_ok P (send_test w by handle bytes) s (sends-home w by handle bytes) is))
