-- What the tests of a call find: open ports with standing rows, open queues, ways on which an answer comes back.
use Rattle.std.proofs.Common.{◌≡◌, ℕ, List, [], ◌∷◌, Bool, true, false, cond, not, Option, Some, None, refl, sym, subst, arith}
use Rattle.std.specs.Prelude.{◌&&◌, ◌||◌, ◌==◌, is_none, is_some, if◌then◌else◌}
use Rattle.std.proofs.lemmas.Bool.{eqb-true, or_right}
use Rattle.std.proofs.lemmas.Bool.Decides.{nat_tests}
use Rattle.lpc_base.specs.Rows.{first, has}
use Rattle.lpc_base.specs.declared.port_kind.PortKind.{PortKind}
use Rattle.lpc_base.specs.declared.port_kind.PortKind.TheVariants.{Client, Connection, Server, Unnamed}
use Rattle.lpc_base.specs.declared.status.TheConstants.{ACCESS_DENIED, INVALID_HANDLE, OBJECT_TYPE_MISMATCH}
use Rattle.lpc_base.proofs.RowWords.{first-passes}
use Rattle.lpc_base.proofs.RowMaps.{every-first}
use Rattle.lpc_base.proofs.Births.{birth-same, birth-self}
use Rattle.lpc_model.specs.declared.entry.ObjectKind.TheVariants as kind
use Rattle.lpc_model.specs.World.{Birth, HandleRow, HandleTable, MessageRow, PortRow, ThreadRow, World}
use Rattle.lpc_model.specs.Refusal.{refuse_if}
use Rattle.lpc_model.specs.Found.{handle_at, has_value, if_open, is_cut, is_live_thread, is_open, is_port, is_queued, is_table, is_the, live_thread, names_port, pair_of, port_row, queue_of, route, rows_in, same_birth, same_kind, wait_of, way}
use Rattle.lpc_model.specs.Tests.{PORT_RIGHT, client_of, includes, is_client, object_test, own_handle, port_test}
use Rattle.lpc_model.specs.Request.{is_spent}
use Rattle.lpc_model.specs.SoundWaits.{IsSoundWorld, has_home, is_joined}
use Rattle.lpc_model.proofs.Steps.Rows.{has-found}
use Rattle.lpc_model.proofs.Calls.Holding.{Holds, bind_holds, found_holds, found_ok, holds_ok, not_refused}

-- Threads
-- a thread that can make a call: it lives, doesn't wait, and its process has a table of handles
pub record CanCall (w : World) (by : ThreadRow) : Type 0 where
  pub lives : live_thread w by.number ≡ Some by
  pub client : is_client w (client_of by) ≡ true
  pub idle : wait_of w by.number ≡ None
  pub home : has (is_table by.process) w.handles ≡ true

-- a live thread has the number by which it is found
pub live-number : (w : World) (tid : ℕ) (by : ThreadRow) → live_thread w tid ≡ Some by → by.number ≡ tid
live-number w tid by live =
    let passed = first-passes (is_live_thread tid) w.threads by live in
    let number : (by.number == tid) ≡ true = grind arith in eqb-true _ _ number

-- and a port the name by which it is found
pub port-birth : (w : World) (b : Birth) (p : PortRow) → port_row w b ≡ Some p → p.birth ≡ b
port-birth w b p at = birth-same p.birth b (first-passes (is_port b) w.ports p at)

-- a live thread is a client
live-client : (w : World) (tid : ℕ) (by : ThreadRow) → live_thread w tid ≡ Some by → is_client w (client_of by) ≡ true
live-client w tid by live = rw (live-number w tid by live, live) (grind (arith, nat_tests))

-- a live thread that doesn't wait can make a call
pub can-call : (w : World) (tid : ℕ) (by : ThreadRow) → live_thread w tid ≡ Some by → wait_of w tid ≡ None → IsSoundWorld w → CanCall w by
can-call w tid by live idle s = record {
  lives = subst (λ n. live_thread w n ≡ Some by) (sym (live-number w tid by live)) live;
  client = live-client w tid by live;
  idle = rw (live-number w tid by live) idle;
  home = every-first (has_home w) (is_live_thread tid) w.threads by s.homes live;
}

-- Handles
-- a port that a handle of a process names is open
has-table : (pid : ℕ) (p : HandleRow → Bool) (ts : List HandleTable) → has p (rows_in (first (is_table pid) ts)) ≡ true → has (λ t. has p t.rows) ts ≡ true
has-table pid p [] is = absurd (cc)
has-table pid p (t ∷ ts) is = grind (arith, has-table pid p ts)

pub handle-open : (w : World) (pid value : ℕ) (h : HandleRow) → handle_at w pid value ≡ Some h → same_kind h.object.kind kind.Port ≡ true → is_open w h.object.birth ≡ true
handle-open w pid value h at is =
    let b = h.object.birth in
    let self = birth-self b in
    has-table pid (λ r. names_port b r.object) w.handles (has-found (λ r. names_port b r.object) (has_value value) (rows_in (first (is_table pid) w.handles)) h at (grind arith))

-- a port that may be used: its row stands, and it is open
pub record IsUsable (w : World) (port : PortRow) : Type 0 where
  pub stands : port_row w port.birth ≡ Some port
  pub opens : is_open w port.birth ≡ true

usable : (w : World) (birth : Birth) (port : PortRow) → port_row w birth ≡ Some port → is_open w birth ≡ true → IsUsable w port
usable w birth port at is =
    let same : birth ≡ port.birth = sym (birth-same port.birth birth (first-passes (is_port birth) w.ports port at)) in
    record { stands = subst (λ b. port_row w b ≡ Some port) same at; opens = subst (λ b. is_open w b ≡ true) same is }

object-open : (w : World) (by : ThreadRow) (handle : ℕ) → Holds (λ birth. is_open w birth ≡ true) (object_test w by kind.Port PORT_RIGHT handle)
object-open w by handle =
    let P : Birth → Type 0 = λ birth. is_open w birth ≡ true in
    bind_holds (own_handle w by handle) _ P (λ h at.
    bind_holds (refuse_if (not (same_kind h.object.kind kind.Port)) OBJECT_TYPE_MISMATCH) _ P (λ u same.
    bind_holds (refuse_if (not (includes h.access PORT_RIGHT)) ACCESS_DENIED) _ P (λ _ _.
    let off = not_refused (not (same_kind h.object.kind kind.Port)) OBJECT_TYPE_MISMATCH u same in
    handle-open w by.process handle h (found_ok (handle_at w by.process handle) INVALID_HANDLE h at) (grind arith))))

pub port-usable : (w : World) (by : ThreadRow) (handle : ℕ) → Holds (IsUsable w) (port_test w by handle)
port-usable w by handle =
    bind_holds (object_test w by kind.Port PORT_RIGHT handle) _ (IsUsable w) (λ birth at.
    found_holds (IsUsable w) (port_row w birth) INVALID_HANDLE (λ port row. usable w birth port row (holds_ok (λ b. is_open w b ≡ true) (object_test w by kind.Port PORT_RIGHT handle) birth (object-open w by handle) at)))

-- Kinds of port
-- what holds of each kind of port holds of a port
pub by_port_kind : (P : PortRow → Type 0) → ((p : PortRow) → P (record p { kind = Unnamed })) → ((p : PortRow) → P (record p { kind = Connection })) → ((p : PortRow) → P (record p { kind = Client })) → ((p : PortRow) → P (record p { kind = Server })) → (p : PortRow) → P p
by_port_kind P one two three four p = at p.kind
  where
    at : (kind : PortKind) → P (record p { kind = kind })
    at Unnamed = one p
    at Connection = two p
    at Client = three p
    at Server = four p

pub if-open : (w : World) (o : Option Birth) (q : Birth) → if_open w o ≡ Some q → is_open w q ≡ true
if-open w None q is = absurd (cc)
if-open w (Some b) q is = here (is_open w b) refl is
  where
    here : (c : Bool) → is_open w b ≡ c → cond c (Some b) None ≡ Some q → is_open w q ≡ true
    here true at is = let same : b ≡ q = cc in subst (λ b. is_open w b ≡ true) same at
    here false at is = absurd (cc)

-- and is what was given
pub if-same : (w : World) (o : Option Birth) (q : Birth) → if_open w o ≡ Some q → is_the q o ≡ true
if-same w None q is = absurd (cc)
if-same w (Some b) q is = of (is_open w b) is
  where
    of : (c : Bool) → (if c then Some b else None) ≡ Some q → same_birth q b ≡ true
    of true at = let same : b ≡ q = cc in subst (λ b. same_birth q b ≡ true) (sym same) (birth-self q)
    of false at = absurd (cc)

-- the queue that a message enters is open
own-open : (w : World) (b q : Birth) → is_open w b ≡ true → Some b ≡ Some q → is_open w q ≡ true
own-open w b q is at = let same : b ≡ q = cc in subst (λ b. is_open w b ≡ true) same is

pub way-open : (w : World) (q : Birth) (p : PortRow) → is_open w p.birth ≡ true → way w p ≡ Some q → is_open w q ≡ true
way-open w q =
    by_port_kind (λ p. is_open w p.birth ≡ true → way w p ≡ Some q → is_open w q ≡ true)
    (λ p is at. own-open w p.birth q is at)
    (λ p is at. own-open w p.birth q is at)
    (λ p is at. if-open w (cond (is_cut p) None p.connection) q at)
    (λ p is at. if-open w p.pair q at)

-- an answer comes back: the queue is that of the port, or the port has a pair
if-some : (w : World) (o : Option Birth) (q : Birth) → if_open w o ≡ Some q → is_some o ≡ true
if-some w None q is = absurd (cc)
if-some w (Some b) q is = refl

not-cut : (pair connection : Option Birth) → is_some (cond (is_none pair) None connection) ≡ true → is_some pair ≡ true
not-cut None connection is = is
not-cut (Some b) connection is = refl

own-answers : (b q : Birth) (c : Bool) → Some b ≡ Some q → (same_birth b q || c) ≡ true
own-answers b q c at =
    let same : b ≡ q = cc in
    let self = subst (λ r. same_birth b r ≡ true) same (birth-self b) in grind arith

way-answers : (w : World) (q : Birth) (p : PortRow) → way w p ≡ Some q → (same_birth p.birth q || is_some p.pair) ≡ true
way-answers w q =
    by_port_kind (λ p. way w p ≡ Some q → (same_birth p.birth q || is_some p.pair) ≡ true)
    (λ p at. own-answers p.birth q (is_some p.pair) at)
    (λ p at. own-answers p.birth q (is_some p.pair) at)
    (λ p at. or_right (same_birth p.birth q) (is_some p.pair) (not-cut p.pair p.connection (if-some w (cond (is_cut p) None p.connection) q at)))
    (λ p at. or_right (same_birth p.birth q) (is_some p.pair) (if-some w p.pair q at))

-- Routes and queues
-- a message can be sent on the port, into the queue
pub record HasRoute (w : World) (port : PortRow) (queue : Birth) : Type 0 where
  pub from : is_open w port.birth ≡ true
  pub to : is_open w queue ≡ true
  pub answers : (same_birth port.birth queue || is_some (pair_of w port.birth)) ≡ true

pub routed : (w : World) (port : PortRow) (queue : Birth) → IsUsable w port → route w port ≡ Some queue → HasRoute w port queue
routed w port queue u at =
    let at' : way w port ≡ Some queue = rw u.opens at at in
    record {
      from = u.opens;
      to = way-open w queue port u.opens at';
      answers = rw u.stands (way-answers w queue port at');
    }

-- a receive can wait there
pub queue-open : (w : World) (queue : Birth) (port : PortRow) → queue_of w port ≡ Some queue → is_open w queue ≡ true
queue-open w queue =
    by_port_kind (λ p. queue_of w p ≡ Some queue → is_open w queue ≡ true)
    (λ p at. if-open w (Some p.birth) queue at)
    (λ p at. if-open w (Some p.birth) queue at)
    (λ p at. if-open w (Some p.birth) queue at)
    (λ p at. if-open w p.connection queue at)

joined-client : (cut : Bool) (o : Option MessageRow) → o ≡ None → (cut && is_none o) ≡ false → not cut ≡ true
joined-client true o none off = let e = rw none at off in absurd (cc)
joined-client false o none off = refl

pub unspent : (w : World) (queue : Birth) (port : PortRow) → first (is_queued queue) w.messages ≡ None → is_spent w port queue ≡ false → is_joined port ≡ true
unspent w queue =
    by_port_kind (λ p. first (is_queued queue) w.messages ≡ None → is_spent w p queue ≡ false → is_joined p ≡ true)
    (λ p none off. refl)
    (λ p none off. refl)
    (λ p none off. joined-client (is_cut p) (first (is_queued queue) w.messages) none off)
    (λ p none off. refl)
