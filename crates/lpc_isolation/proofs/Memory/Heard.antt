-- What is remembered of the inputs: which outsiders asked a member, and from which queue the member took it.
use Rattle.std.proofs.Common.{◌≡◌, ℕ, List, [], ◌∷◌, Bool, true, false, cond, not, Option, Some, None, refl, subst, ◌∙◌, arith}
use Rattle.std.specs.Prelude.{◌&&◌, ◌||◌, ◌==◌, nat_le, option_map, Result, Ok, Err}
use Rattle.std.proofs.lemmas.Bool.{eqb-true}
use Rattle.std.proofs.lemmas.Bool.Decides.{nat_tests}
use Rattle.lpc_base.specs.Rows.{every, first, has, passes, which, without}
use Rattle.lpc_base.proofs.RowWords.{every-append, every-more}
use Rattle.lpc_base.proofs.Bools.{first-true, second-true}
use Rattle.lpc_base.specs.declared.status.Status.{Status}
use Rattle.lpc_message.specs.Layout.{header_of}
use Rattle.lpc_message.specs.declared.kind.TheConstants.{CLIENT_DIED, CONNECTION_REQUEST, DATAGRAM, DEBUG_EVENT, EXCEPTION, PORT_CLOSED, REQUEST}
use Rattle.lpc_message.specs.declared.message.Header.{Header}
use Rattle.lpc_model.specs.declared.entry.Entry.{Entry}
use Rattle.lpc_model.specs.declared.entry.Entry.TheVariants as entry
use Rattle.lpc_model.specs.declared.entry.Field.{Field}
use Rattle.lpc_model.specs.Fields.{msg, receipt}
use Rattle.lpc_model.specs.Message.{asks, bytes_of}
use Rattle.lpc_model.specs.World.{Birth, MessageRow, PortRow, ThreadRow, UsedThread, WaitRow, World}
use Rattle.lpc_model.specs.Found.{is_listen, is_receive, live_thread, queue_of, wait_of, waits_as}
use Rattle.lpc_model.specs.Basics.{Basic, entries_of, told}
use Rattle.lpc_model.specs.Tests.{port_test}
use Rattle.lpc_model.specs.Lines.{of_resident, ScriptCall, ScriptLine, boot, dir, link, listen_port, reply_wait_receive_port, run, thread, token}
use Rattle.lpc_model.specs.Circle.{Group, Item}
use Rattle.lpc_isolation.proofs.Views.View.{our_wait, view}
use Rattle.lpc_isolation.proofs.Rows.Fair.{is_sent}
use Rattle.lpc_isolation.proofs.Views.Apart.{absorb}
use Rattle.lpc_isolation.proofs.Each.Takes.{shown_bytes}
use Rattle.lpc_isolation.proofs.Rows.Ids.{kind-reads, of_number, reads-back, thread-reads}
use Rattle.lpc_isolation.proofs.Rows.Asked.{is_sort, sender_of}
use Rattle.lpc_isolation.proofs.Plays.Lines.{is_done, next_entry}

-- a thread that asked, and the queue from which it was taken
pub record Heard : Type 0 where
  pub thread : ℕ
  pub queue : Birth

abbrev pub is_of : ℕ → Heard → Bool
is_of who h = h.thread == who

-- the newest of a thread
abbrev pub recall : List Heard → ℕ → Option Birth
recall memo who = option_map (λ (h : Heard). h.queue) (first (is_of who) memo)

abbrev pub note : Bool → ℕ → Birth → List Heard → List Heard
note b who q memo = cond b (record { thread = who; queue = q } ∷ memo) memo

-- what an entry shows of a message that is taken from a queue: an outsider's that asks is remembered
abbrev pub asks_as : ℕ → Bool
asks_as kind = (kind == REQUEST) || ((kind == CONNECTION_REQUEST) || ((kind == EXCEPTION) || (kind == DEBUG_EVENT)))

abbrev pub shown_header : List Field → Header
shown_header fields = header_of (shown_bytes fields)

abbrev pub heard_in : Group → List Field → Birth → List Heard → List Heard
heard_in m fields q memo = note (asks_as (shown_header fields).kind && not (m (shown_header fields).client.process)) (shown_header fields).client.thread q memo

-- a member that waited for messages takes one when it is woken
abbrev pub takes_any : WaitRow → Bool
takes_any x = is_receive x || is_listen x

abbrev pub woken_memo : Group → Option WaitRow → List Field → List Heard → List Heard
woken_memo m None fields memo = memo
woken_memo m (Some x) fields memo = cond (takes_any x) (heard_in m fields x.queue memo) memo

abbrev pub entry_memo : Group → World → List Heard → Entry → List Heard
entry_memo m v memo (entry.Wakes who call status fields) = woken_memo m (wait_of v who) fields memo
entry_memo m v memo (entry.Answer who call status fields) = memo
entry_memo m v memo (entry.Waits who call fields) = memo
entry_memo m v memo (entry.Busy who) = memo
entry_memo m v memo (entry.NoThread who) = memo
entry_memo m v memo (entry.Died who status) = memo
entry_memo m v memo (entry.Directive word status) = memo

abbrev pub entries_memo : Group → World → List Heard → List Entry → List Heard
entries_memo m v memo [] = memo
entries_memo m v memo (e ∷ es) = entries_memo m (absorb v e) (entry_memo m v memo e) es

-- a member other than c takes one by a call of its own, which its answer shows
abbrev pub taken_memo : Group → Entry → Birth → List Heard → List Heard
taken_memo m (entry.Answer who call status fields) q memo = heard_in m fields q memo
taken_memo m (entry.Waits who call fields) q memo = memo
taken_memo m (entry.Wakes who call status fields) q memo = memo
taken_memo m (entry.Busy who) q memo = memo
taken_memo m (entry.NoThread who) q memo = memo
taken_memo m (entry.Died who status) q memo = memo
taken_memo m (entry.Directive word status) q memo = memo

abbrev pub of_queue : Option Birth → (Birth → List Heard) → List Heard → List Heard
of_queue None f memo = memo
of_queue (Some q) f memo = f q

abbrev pub of_port : {A : Type 0} → Result A Status → (A → List Heard) → List Heard → List Heard
of_port (Ok p) f memo = f p
of_port (Err s) f memo = memo

abbrev pub call_memo : Group → World → ThreadRow → ScriptCall → Entry → List Heard → List Heard
call_memo m v by (listen_port handle) e memo = of_port (port_test v by handle) (λ p. taken_memo m e p.birth memo) memo
call_memo m v by (reply_wait_receive_port handle bytes) e memo = of_port (port_test v by handle) (λ p. of_queue (queue_of v p) (λ q. taken_memo m e q memo) memo) memo
call_memo m v by call e memo = memo

abbrev pub caller_memo : Group → ℕ → World → ScriptCall → Entry → List Heard → Option ThreadRow → List Heard
caller_memo m c v call e memo None = memo
caller_memo m c v call e memo (Some by) = cond (by.process == c) memo (call_memo m v by call e memo)

abbrev pub line_memo : Group → ℕ → World → List Heard → ScriptLine → List Item → List Heard
line_memo m c v memo (run tid call) is = caller_memo m c v call (next_entry is) memo (live_thread v tid)
line_memo m c v memo (boot pid tid name) is = memo
line_memo m c v memo (token name content) is = memo
line_memo m c v memo (thread tid pid) is = memo
line_memo m c v memo (dir path) is = memo
line_memo m c v memo (link path target) is = memo
line_memo m c v memo (of_resident tid what had) is = memo

-- an answer without a message tells nothing
pub silent-memo : (m : Group) (v : World) (by : ThreadRow) (call : ScriptCall) (e : Entry) (memo : List Heard) → ((q : Birth) → taken_memo m e q memo ≡ memo) → call_memo m v by call e memo ≡ memo
silent-memo m v by (listen_port handle) e memo none = at (port_test v by handle)
  where
    at : (r : Result PortRow Status) → of_port r (λ p. taken_memo m e p.birth memo) memo ≡ memo
    at (Ok p) = none p.birth
    at (Err s) = refl
silent-memo m v by (reply_wait_receive_port handle bytes) e memo none = at (port_test v by handle)
  where
    queue : (o : Option Birth) → of_queue o (λ q. taken_memo m e q memo) memo ≡ memo
    queue None = refl
    queue (Some q) = none q

    at : (r : Result PortRow Status) → of_port r (λ p. of_queue (queue_of v p) (λ q. taken_memo m e q memo) memo) memo ≡ memo
    at (Ok p) = queue (queue_of v p)
    at (Err s) = refl
silent-memo m v by call e memo none = refl

-- What is shown of a message is what it is
pub record Reads (y : MessageRow) : Type 0 where
  pub kind : (header_of (bytes_of y.message)).kind ≡ y.message.header.kind
  pub process : (header_of (bytes_of y.message)).client.process ≡ y.message.header.client.process
  pub thread : (header_of (bytes_of y.message)).client.thread ≡ y.message.header.client.thread

sort-few : (k : ℕ) → (((k == REQUEST) || ((k == CONNECTION_REQUEST) || ((k == EXCEPTION) || (k == DEBUG_EVENT)))) || ((k == DATAGRAM) || ((k == PORT_CLOSED) || (k == CLIENT_DIED)))) ≡ true → nat_le k 65535 ≡ true
sort-few k is = grind (arith, nat_tests)

pub reads-of : (us : List UsedThread) (y : MessageRow) → every of_number us ≡ true → is_sent us y ≡ true → is_sort y ≡ true → Reads y
reads-of us y all sent sort = record {
  kind = kind-reads y.message (sort-few y.message.header.kind sort);
  process = eqb-true _ _ (reads-back us all y sent);
  thread = thread-reads us all y sent;
}

abbrev pub noted_of : Group → MessageRow → Birth → List Heard → List Heard
noted_of m y q memo = note (asks y.message && not (m y.message.header.client.process)) (sender_of y) q memo

pub heard-receipt : (m : Group) (y : MessageRow) (q : Birth) (memo : List Heard) → Reads y → heard_in m (receipt y) q memo ≡ noted_of m y q memo
heard-receipt m y q memo r = rw (r.kind, r.process, r.thread) refl

pub heard-message : (m : Group) (y : MessageRow) (q : Birth) (memo : List Heard) → Reads y → heard_in m (msg y.message ∷ []) q memo ≡ noted_of m y q memo
heard-message m y q memo r = rw (r.kind, r.process, r.thread) refl

-- Entries that show no message
abbrev pub is_silent : World → Entry → Bool
is_silent v (entry.Wakes who call status fields) = not (passes (wait_of v who) takes_any)
is_silent v (entry.Answer who call status fields) = true
is_silent v (entry.Waits who call fields) = true
is_silent v (entry.Busy who) = true
is_silent v (entry.NoThread who) = true
is_silent v (entry.Died who status) = true
is_silent v (entry.Directive word status) = true

woken-silent : (m : Group) (o : Option WaitRow) (fields : List Field) (memo : List Heard) → not (passes o takes_any) ≡ true → woken_memo m o fields memo ≡ memo
woken-silent m None fields memo is = refl
woken-silent m (Some x) fields memo is = let off : takes_any x ≡ false = grind arith in rw off refl

entry-silent : (m : Group) (v : World) (memo : List Heard) (e : Entry) → is_silent v e ≡ true → entry_memo m v memo e ≡ memo
entry-silent m v memo (entry.Wakes who call status fields) is = woken-silent m (wait_of v who) fields memo is
entry-silent m v memo b is = refl

-- a wait that ended leaves the others
wait-left : (who other : ℕ) (xs : List WaitRow) → not (passes (first (waits_as who) xs) takes_any) ≡ true → not (passes (first (waits_as who) (without (waits_as other) xs)) takes_any) ≡ true
wait-left who other [] is = refl
wait-left who other (x ∷ xs) is = at (who == other) refl
  where
    none : (ys : List WaitRow) → first (waits_as who) (without (waits_as who) ys) ≡ None
    none [] = refl
    none (y ∷ ys) = grind (arith, none ys)

    same : (ys : List WaitRow) → (who == other) ≡ false → first (waits_as who) (without (waits_as other) ys) ≡ first (waits_as who) ys
    same [] off = refl
    same (y ∷ ys) off = grind (arith, nat_tests, same ys)

    at : (b : Bool) → (who == other) ≡ b → not (passes (first (waits_as who) (without (waits_as other) (x ∷ xs))) takes_any) ≡ true
    at true it = rw (subst (λ n. first (waits_as who) (without (waits_as n) (x ∷ xs)) ≡ None) (eqb-true who other it) (none (x ∷ xs))) refl
    at false off = rw (same (x ∷ xs) off) is

silent-kept : (v : World) (d e : Entry) → is_silent v e ≡ true → is_silent (absorb v d) e ≡ true
silent-kept v (entry.Wakes other call status fields) (entry.Wakes who call' status' fields') is = wait-left who other v.waits is
silent-kept v (entry.Wakes other call status fields) (entry.Answer who call' status' fields') is = refl
silent-kept v (entry.Wakes other call status fields) (entry.Waits who call' fields') is = refl
silent-kept v (entry.Wakes other call status fields) (entry.Busy who) is = refl
silent-kept v (entry.Wakes other call status fields) (entry.NoThread who) is = refl
silent-kept v (entry.Wakes other call status fields) (entry.Died who status') is = refl
silent-kept v (entry.Wakes other call status fields) (entry.Directive word status') is = refl
silent-kept v b e is = is

pub entries-silent : (m : Group) (v : World) (memo : List Heard) (es : List Entry) → every (is_silent v) es ≡ true → entries_memo m v memo es ≡ memo
entries-silent m v memo [] is = refl
entries-silent m v memo (e ∷ es) is =
    entries-silent m (absorb v e) (entry_memo m v memo e) es (every-more (is_silent v) (is_silent (absorb v e)) (silent-kept v e) es (second-true _ _ is)) ∙ entry-silent m v memo e (first-true _ _ is)

-- a list of steps that tells such entries alone
abbrev pub is_silent_step : World → Basic → Bool
is_silent_step v b = every (is_silent v) (told b)

pub steps-silent : (v : World) (bs : List Basic) → every (is_silent_step v) bs ≡ true → every (is_silent v) (entries_of bs) ≡ true
steps-silent v [] is = refl
steps-silent v (b ∷ bs) is = every-append (is_silent v) (told b) (entries_of bs) (first-true _ _ is) (steps-silent v bs (second-true _ _ is))

-- whom a line woke waits no more at its end
none-kept : (k q : WaitRow → Bool) (xs : List WaitRow) → has q xs ≡ false → first q (which k xs) ≡ None
none-kept k q [] none = refl
none-kept k q (x ∷ xs) none = grind (arith, none-kept k q xs)

pub done-silent : (m : Group) (w : World) (e : Entry) → is_done w e ≡ true → is_silent (view m w) e ≡ true
done-silent m w (entry.Wakes who call status fields) is = let none : has (waits_as who) w.waits ≡ false = grind arith in rw (none-kept (our_wait m) (waits_as who) w.waits none) refl
done-silent m w b is = refl
