-- Each line leaves client ports that allow their servers something.
use Rattle.std.proofs.Common.{◌≡◌, ℕ, List, [], ◌∷◌, ◌++◌, Bool, true, false, not, Option, Some, None, cond, refl, arith}
use Rattle.std.specs.Prelude.{◌&&◌, ◌||◌, is_none}
use Rattle.std.proofs.lemmas.Bool.{or_left}
use Rattle.std.proofs.lemmas.Bool.Decides.{nat_tests}
use Rattle.lpc_base.specs.Rows.{every, given}
use Rattle.lpc_base.specs.declared.status.TheConstants.{SUCCESS}
use Rattle.lpc_base.specs.declared.port_kind.PortKind.TheVariants.{Connection}
use Rattle.lpc_base.proofs.Births.{birth-self}
use Rattle.lpc_base.proofs.RowMaps.{every-both, every-change_to, every-map}
use Rattle.lpc_base.proofs.RowWords.{every-append, every-change, every-more, every-push, every-without}
use Rattle.lpc_message.specs.declared.kind.TheConstants.{DATAGRAM, REQUEST}
use Rattle.lpc_tokens.specs.declared.security.Security.TheVariants.{Allows, Guarded}
use Rattle.lpc_model.specs.declared.entry.CallName.TheVariants.{NtReplyPort, NtOpenProcessToken, NtOpenThreadToken, NtRegisterThreadTerminatePort}
use Rattle.lpc_model.specs.declared.entry.Entry.TheVariants.{Answer}
use Rattle.lpc_model.specs.declared.entry.ObjectKind.TheVariants as kind
use Rattle.lpc_model.specs.World.{Birth, Dacl, Effective, Message, MessageRow, ObjectKind, Offer, Path, PortRow, Qos, Security, ThreadRow, ViewRow, World}
use Rattle.lpc_model.specs.Found.{acting_token, free_handle, is_client_port, is_port}
use Rattle.lpc_model.specs.Basics.{Basic, Completes, Cuts, Frees, Joins, Makes, Registers, Secures, Tells, basic, completed, cut, freed, is_end_of, joined, paired, secured, world_after}
use Rattle.lpc_model.specs.Clients.{HasAllowingClients, allows, is_allowing}
use Rattle.lpc_model.specs.Close.{close_handle, close_steps}
use Rattle.lpc_model.specs.Connect.{accept_start, client_port, complete_steps, connect_steps, connection_request, create_steps, listen_steps, named_steps, new_port, refuse_steps, unnamed_steps}
use Rattle.lpc_model.specs.Counts.{asked, duplicate_steps}
use Rattle.lpc_model.specs.Creation.{making_process, making_thread}
use Rattle.lpc_model.specs.Entering.{enter, received_steps, row_of}
use Rattle.lpc_model.specs.Impersonation.{held_content, impersonate_steps, process_content, revert_steps, token_steps}
use Rattle.lpc_model.specs.Lines.{ScriptLine}
use Rattle.lpc_model.specs.Machine.{step}
use Rattle.lpc_model.specs.Memory.{map_steps, mapped_view, section_steps, unmap_steps, write_steps}
use Rattle.lpc_model.specs.Ranges.{write_range_steps}
use Rattle.lpc_model.specs.Request.{datagram_start, datagram_steps, given_reply, receive_steps, reply_steps, reply_test, request_start, request_steps, sent_by}
use Rattle.lpc_model.specs.SoundWaits.{is_past}
use Rattle.lpc_model.specs.Sweep.{sweep}
use Rattle.lpc_model.specs.Tests.{next_birth}
use Rattle.lpc_model.proofs.Calls.Holding.{Holds, bind_holds, holds_ok}
use Rattle.lpc_model.proofs.Calls.Lines.{AnyWorld, IsCalled, Keep, LineLaw, passing-lines}
use Rattle.lpc_model.proofs.Calls.Raising.{on-holds, set-passes}
use Rattle.lpc_model.proofs.Settling.Keeps.{step-keeps}
use Rattle.lpc_model.proofs.Settling.Loop.{settle-kept}
use Rattle.lpc_model.proofs.Settling.Settled.{IsReady}
use Rattle.lpc_model.proofs.Sound.Reply.{reply-cases}
use Rattle.lpc_model.proofs.Steps.Closing.{behind}
use Rattle.lpc_model.proofs.Steps.Ending.{end-ending}
use Rattle.lpc_model.specs.Basics.{Awaits, Dooms, DrawsIdentifier, basic, first_code, left_by}
use Rattle.lpc_model.specs.Death.{code_status, end_threads}
use Rattle.lpc_model.specs.Entering.{row_of}
use Rattle.lpc_model.specs.Found.{live_threads}
use Rattle.lpc_model.specs.Machine.{own_steps}
use Rattle.lpc_model.specs.Raise.{Handled, Heard, Unhandled, Next, behind_chance, event_message, event_wait, go_on, goes_on, raise_steps, set_port_steps}
use Rattle.lpc_model.specs.Settle.{end_doomed, settle}
use Rattle.lpc_model.specs.Tests.{client_of}
use Rattle.lpc_model.specs.World.{ProcessRow, Raised, WaitRow}
use Rattle.lpc_model.proofs.Calls.Outcomes.{IsReceiving, Outcomes}
use Rattle.lpc_model.proofs.Calls.Sharing.{accepted-keeps, connect_begun, connected-keeps}
use Rattle.lpc_model.proofs.Calls.Usable.{by_port_kind}
use Rattle.lpc_model.proofs.Sound.Terminate.{IsSafe}
use Rattle.lpc_model.proofs.Steps.Ending.{AreEnding, answered_end, ending-enter, ending-receipt, handle-ending, is_ending, steps-end}
use Rattle.lpc_model.proofs.Steps.InTurn.{after-append, steps-keep}
use Rattle.lpc_model.proofs.Steps.Sweep.{sweep_every}

-- A test of a port that its other end and its completion don't change
record IsFast (t : PortRow → Bool) : Type 0 where
  paired : (other : Birth) (context : ℕ) (p : PortRow) → t (paired other context p) ≡ t p
  cut : (p : PortRow) → t (cut p) ≡ t p
  completed : (p : PortRow) → t (completed p) ≡ t p

abbrev Passes : (PortRow → Bool) → World → Type 0
Passes t w = every t w.ports ≡ true

-- a step makes no port that doesn't pass, and secures none
abbrev is_mild : (PortRow → Bool) → Basic → Bool
is_mild t (Makes p) = t p
is_mild t (Secures b s) = false
is_mild t b = true

module _ (t : PortRow → Bool) (fast : IsFast t) where
  joined-passes : (client server : Birth) (context : ℕ) (p : PortRow) → t p ≡ true → t (joined client server context p) ≡ true
  joined-passes client server context p is = at (is_port client p) (is_port server p)
    where
      at : (c s : Bool) → t (cond c (paired server context p) (cond s (paired client context p) p)) ≡ true
      at true s = rw (fast.paired server context p) is
      at false true = rw (fast.paired client context p) is
      at false false = is

  freed-passes : (w : World) (k : ObjectKind) (b : Birth) → Passes t w → Passes t (freed w k b)
  freed-passes w kind.Port b all = every-without t (is_port b) w.ports all
  freed-passes w e b all = all

  mild-step : (w : World) (b : Basic) → is_mild t b ≡ true → Passes t w → Passes t (basic w b)
  mild-step w (Makes p) is all = every-push t w.ports p all is
  mild-step w (Joins client server context) is all =
      rw (every-map t (joined client server context) w.ports)
      (every-more t (λ p. t (joined client server context p)) (joined-passes client server context) w.ports all)
  mild-step w (Completes b) is all = every-change t (is_port b) completed (λ p is. rw (fast.completed p) is) w.ports all
  mild-step w (Cuts b) is all = every-change t (is_end_of b) cut (λ p is. rw (fast.cut p) is) w.ports all
  mild-step w (Secures b s) is all = absurd (cc)
  mild-step w (Frees o) is all = freed-passes w o.kind o.birth all
  mild-step w b is all = all

  mild-all : (w : World) (bs : List Basic) → every (is_mild t) bs ≡ true → Passes t w → Passes t (world_after w bs)
  mild-all = steps-keep (is_mild t) (Passes t) mild-step

  ending-mild : (b : Basic) → is_ending b ≡ true → is_mild t b ≡ true
  ending-mild (Makes p) is = absurd (cc)
  ending-mild (Secures b s) is = absurd (cc)
  ending-mild b is = refl

  ended-mild : (bs : List Basic) → AreEnding bs → every (is_mild t) bs ≡ true
  ended-mild = every-more is_ending (is_mild t) ending-mild

-- The tests
allowing-fast : IsFast is_allowing
allowing-fast = record { paired = λ o n p. refl; cut = λ p. refl; completed = λ p. refl }

-- a port is as it is to be, or the client port that gets so
abbrev is_allowing_but : Birth → PortRow → Bool
is_allowing_but b p = is_allowing p || (is_port b p && is_client_port p)

but-fast : (b : Birth) → IsFast (is_allowing_but b)
but-fast b = record { paired = λ o n p. refl; cut = λ p. refl; completed = λ p. refl }

-- a port is as it is to be, and no client port of that birth
abbrev is_allowing_beside : Birth → PortRow → Bool
is_allowing_beside b p = is_allowing p && not (is_port b p && is_client_port p)

beside-fast : (b : Birth) → IsFast (is_allowing_beside b)
beside-fast b = record { paired = λ o n p. refl; cut = λ p. refl; completed = λ p. refl }

allowed-one : (b : Birth) (quality : Qos) (kept : Effective) (p : PortRow) → is_allowing_but b p ≡ true → is_port b p ≡ true → is_allowing (secured (Allows quality kept) p) ≡ true
allowed-one b quality kept = by_port_kind (λ p. is_allowing_but b p ≡ true → is_port b p ≡ true → is_allowing (secured (Allows quality kept) p) ≡ true)
    (λ p is own. off (is_none p.connection) _ is) (λ p is own. off (is_none p.connection) _ is) (λ p is own. refl) (λ p is own. refl)
  where
    off : (a b : Bool) → (a || (b && false)) ≡ true → a ≡ true
    off a b is = grind arith

other-one : (b : Birth) (p : PortRow) → is_allowing_but b p ≡ true → is_port b p ≡ false → is_allowing p ≡ true
other-one b p is off = parts (is_allowing p) (is_port b p) (is_client_port p) is off
  where
    parts : (a b c : Bool) → (a || (b && c)) ≡ true → b ≡ false → a ≡ true
    parts a b c is off = grind arith

guarded-one : (b : Birth) (s : Security) (p : PortRow) → is_allowing_beside b p ≡ true → is_port b p ≡ true → is_allowing (secured s p) ≡ true
guarded-one b s = by_port_kind (λ p. is_allowing_beside b p ≡ true → is_port b p ≡ true → is_allowing (secured s p) ≡ true)
    (λ p is own. left (is_none p.connection) _ is) (λ p is own. left (is_none p.connection) _ is) (λ p is own. let never = both (allows p.security) (is_port b p) is own in absurd (cc)) (λ p is own. refl)
  where
    left : (a b : Bool) → (a && b) ≡ true → a ≡ true
    left a b is = grind arith

    both : (a b : Bool) → (a && not (b && true)) ≡ true → b ≡ true → false ≡ true
    both a b is own = grind arith

beside-allowing : (b : Birth) (p : PortRow) → is_allowing_beside b p ≡ true → is_allowing p ≡ true
beside-allowing b p is = left (is_allowing p) _ is
  where
    left : (a b : Bool) → (a && b) ≡ true → a ≡ true
    left a b is = grind arith

-- NtConnectPort
connected-allows : (w : World) (by : ThreadRow) (connection : Birth) (offer : Option Offer) (own : Option ViewRow) (m : Message) (quality : Qos) (kept : Effective) → HasAllowingClients w
    → HasAllowingClients (world_after w (connect_steps by connection offer own m w ++ Secures (next_birth by) (Allows quality kept) ∷ []))
connected-allows w by connection offer own m quality kept all =
    let b = next_birth by in
    let t = is_allowing_but b in
    let u = world_after w (connect_begun by connection offer m) in
    let row = row_of connection (client_port by connection) m in
    let before : Passes t w = every-more is_allowing t (λ p is. or_left (is_allowing p) _ is) w.ports all in
    let begun : Passes t u = every-push t w.ports (client_port by connection) before (rw (birth-self b) refl) in
    let done = connected-keeps (Passes t) (λ v pid x is. is) w by connection offer own m (mild-all t (but-fast b) u (enter row u) (ended-mild t (but-fast b) (enter row u) (ending-enter row u)) begun) in
    let v = world_after w (connect_steps by connection offer own m w) in
    rw (after-append w (connect_steps by connection offer own m w) (Secures b (Allows quality kept) ∷ []))
    (every-change_to t is_allowing (is_port b) (secured (Allows quality kept)) (allowed-one b quality kept) (other-one b) v.ports done)

-- NtCreatePort
off-false : (b : Bool) → (not (b && false) && true) ≡ true
off-false b = grind arith

past-beside : (by : ThreadRow) (p : PortRow) → is_allowing p ≡ true → is_past p by ≡ true → is_allowing_beside (next_birth by) p ≡ true
past-beside by p is past = parts (is_allowing p) (is_port (next_birth by) p) (is_client_port p) is (new-apart by p past)
  where
    parts : (a b c : Bool) → a ≡ true → not b ≡ true → (a && not (b && c)) ≡ true
    parts a b c is off = grind arith

    new-apart : (by : ThreadRow) (p : PortRow) → is_past p by ≡ true → not (is_port (next_birth by) p) ≡ true
    new-apart by p is = grind (arith, nat_tests)

named-allows : (w : World) (by : ThreadRow) (path : Path) (value : ℕ) (dacl : Option Dacl) → every (λ p. is_past p by) w.ports ≡ true → HasAllowingClients w
    → HasAllowingClients (world_after w (create_steps by (named_steps (next_birth by) path) value ++ given dacl (λ d. Secures (next_birth by) (Guarded d) ∷ [])))
named-allows w by path value dacl past all = at dacl
  where
    bs : List Basic
    bs = create_steps by (named_steps (next_birth by) path) value

    made : Passes (is_allowing_beside (next_birth by)) (world_after w bs)
    made =
        let t = is_allowing_beside (next_birth by) in
        mild-all t (beside-fast (next_birth by)) w bs (off-false (is_port (next_birth by) (new_port (next_birth by) Connection))) (every-both is_allowing (λ p. is_past p by) t (past-beside by) w.ports all past)

    at : (o : Option Dacl) → HasAllowingClients (world_after w (bs ++ given o (λ d. Secures (next_birth by) (Guarded d) ∷ [])))
    at None = let v = world_after w bs in every-more (is_allowing_beside (next_birth by)) is_allowing (beside-allowing (next_birth by)) v.ports made
    at (Some d) =
        let b = next_birth by in
        let v = world_after w bs in
        every-change_to (is_allowing_beside b) is_allowing (is_port b) (secured (Guarded d)) (guarded-one b (Guarded d)) (λ p is off. beside-allowing b p is) v.ports made

-- Receives
abbrev AreMild : List Basic → Type 0
AreMild bs = every (is_mild is_allowing) bs ≡ true

ended-allows : (w : World) (bs : List Basic) → AreEnding bs → HasAllowingClients w → HasAllowingClients (world_after w bs)
ended-allows w bs all = mild-all is_allowing allowing-fast w bs (ended-mild is_allowing allowing-fast bs all)

allows-all : (w : World) (bs : List Basic) → AreMild bs → HasAllowingClients w → HasAllowingClients (world_after w bs)
allows-all = mild-all is_allowing allowing-fast

receipt-mild : (m : MessageRow) → AreMild (received_steps m)
receipt-mild m = ended-mild is_allowing allowing-fast (received_steps m) (ending-receipt m)

entered-mild : (m : MessageRow) (w : World) → AreMild (enter m w)
entered-mild m w = ended-mild is_allowing allowing-fast (enter m w) (ending-enter m w)

replied-mild : (w : World) (port : PortRow) (m : Option Message) → Holds AreMild (given_reply w port m)
replied-mild w port None = refl
replied-mild w port (Some m) = bind_holds (reply_test w port m) _ AreMild (λ x _. reply-cases (λ b. AreMild (b ∷ [])) x m refl refl (λ _. refl))

given-mild : (w : World) (by : ThreadRow) (handle : ℕ) (bytes : Option (List ℕ)) (o : Option Message) (port : PortRow) (queue : Birth) (replied : List Basic) → IsReceiving w by handle bytes o port queue replied → AreMild replied
given-mild w by handle bytes o port queue replied r = holds_ok AreMild (given_reply w port o) replied (replied-mild w port o) r.reply_made

-- Calls
allowing-calls : (by : ThreadRow) (w : World) → IsCalled AnyWorld w by → Outcomes w by (λ _. Keep HasAllowingClients w)
allowing-calls by w is = record {
  creates = λ dacl. allows-all w (create_steps by (unnamed_steps (next_birth by)) (free_handle w by.process)) refl;
  founds = λ name dacl path free. named-allows w by path (free_handle w by.process) dacl (past-of w by is);
  connects = λ name quality view bytes offer own connection c. connected-allows w by connection offer own (connection_request by offer bytes) quality (acting_token w by);
  listens = λ handle port m found at. allows-all w (listen_steps by port.birth (Some m)) (receipt-mild m);
  awaits_connect = λ handle port found at. allows-all w (listen_steps by port.birth None) refl;
  refuses = λ context bytes view a at. allows-all w (refuse_steps by a) refl;
  accepts = λ context bytes view offer a views c all. accepted-keeps HasAllowingClients (λ v pid x is. is) w by context (free_handle w by.process) a views (allows-all w (accept_start by context (free_handle w by.process) a views) refl all);
  completes = λ handle c at. allows-all w (complete_steps by (free_handle w c.wait.process) c) refl;
  sends = λ handle bytes s at. let m = sent_by by DATAGRAM s.message in allows-all w (datagram_steps by s.port s.queue m w) (entered-mild (row_of s.queue s.port m) (world_after w (datagram_start by)));
  asks = λ handle bytes s at. let m = sent_by by REQUEST s.message in allows-all w (request_steps by s.port s.queue m w) (entered-mild (row_of s.queue s.port m) (world_after w (request_start by s.port.birth s.queue m)));
  replies = λ handle bytes port m x at read fits. allows-all w (reply_steps by x m) (reply-cases (λ b. AreMild (Tells (Answer by.number NtReplyPort SUCCESS []) ∷ b ∷ [])) x m refl refl (λ _. refl));
  receives = λ handle bytes o port queue replied m r at. allows-all w (receive_steps by port queue replied (Some m)) (every-append (is_mild is_allowing) replied _ (given-mild w by handle bytes o port queue replied r) (receipt-mild m));
  awaits_message = λ handle bytes o port queue replied r at. allows-all w (receive_steps by port queue replied None) (every-append (is_mild is_allowing) replied _ (given-mild w by handle bytes o port queue replied r) refl);
  registers = λ handle port at new few. allows-all w (Tells (Answer by.number NtRegisterThreadTerminatePort SUCCESS []) ∷ Registers by.number port.birth ∷ []) refl;
  repeats = λ handle port at known all. all;
  closes = λ handle r at. allows-all w (close_steps by r w) (ended-mild is_allowing allowing-fast (close_handle by.process r w) (handle-ending by.process r w));
  duplicates = λ handle access r at. allows-all w (duplicate_steps by (free_handle w by.process) r (asked r access)) refl;
  queries = λ handle r at all. all;
  spawns = λ pid tid new unused. allows-all w (making_process w by pid tid) refl;
  starts = λ target tid pid _ live unused. allows-all w (making_thread w by tid pid) refl;
  makes_section = λ size prot asked. allows-all w (section_steps by size prot (free_handle w by.process)) refl;
  maps_view = λ handle offset size prot s rounded base m. allows-all w (map_steps by (mapped_view s offset rounded prot base)) refl;
  unmaps_view = λ address v at. allows-all w (unmap_steps by v) refl;
  reads_memory = λ address n v at all. all;
  writes_memory = λ address new v at may. allows-all w (write_steps by address new v) refl;
  reads_range = λ handle bytes index n d at all. all;
  writes_range = λ handle bytes index new d at may. allows-all w (write_range_steps by new d) refl;
  impersonates = λ handle bytes own allowed. allows-all w (impersonate_steps by own) refl;
  reverts = λ class. allows-all w (revert_steps by) refl;
  opens_own = λ own at. allows-all w (token_steps by NtOpenThreadToken (held_content own) (free_handle w by.process)) refl;
  opens_primary = allows-all w (token_steps by NtOpenProcessToken (process_content w by) (free_handle w by.process)) refl;
  asks_token = λ handle class t field at told all. all;
  sets = λ target class handle pid port at found live. allows-all w (set_port_steps by class pid port.birth) (set-passes AreMild by class pid port.birth refl refl);
  handles = λ code handled all. all;
  hears = λ code handled h is. allows-all w (raise_steps by code handled (Heard h) w) (entered-mild (row_of h.queue h.port (event_message (client_of by) by.next_identifier code h.chance)) (basic (basic w (DrawsIdentifier by.number)) (Awaits (event_wait by code handled h))));
  fails = λ code handled. allows-all w (Dooms by.process code ∷ []) refl;
  ends = λ call name own pid code ts doomed. ended-allows w (answered_end by name own pid code ts w) (steps-end w by name own pid code ts);
}
  where
    past-of : (w : World) (by : ThreadRow) → IsCalled AnyWorld w by → every (λ p. is_past p by) w.ports ≡ true
    past-of w by is = let s = is.sound in let c = is.can in s.ordinals by.number by c.lives

-- Lines
allowing-lines : LineLaw AnyWorld (λ _. Keep HasAllowingClients)
allowing-lines = passing-lines AnyWorld (Keep HasAllowingClients) (λ _. is_mild is_allowing) allows-all (λ w. record { tells = λ _. refl; processes = λ _ _ _. refl; threads = λ _ _ _. refl; binds = λ _ _. refl; names = λ _. refl }) allowing-calls

-- Settling
on-mild : (w : World) (tid : ℕ) → AreMild (go_on tid w)
on-mild w tid = on-holds AreMild w tid refl (λ t x r g. at t x r (behind_chance w x.process r.handled r.chance))
  where
    at : (t : ThreadRow) (x : WaitRow) (r : Raised) (n : Next) → AreMild (goes_on t x r n w)
    at t x r Handled = refl
    at t x r (Heard h) =
        let v : World = basic (basic (left_by x.thread w) (DrawsIdentifier t.number)) (Awaits (event_wait t r.code r.handled h)) in
        entered-mild (row_of h.queue h.port (event_message (client_of t) t.next_identifier r.code h.chance)) v
    at t x r Unhandled = refl

doomed-allows : (w : World) (p : ProcessRow) → HasAllowingClients w → HasAllowingClients (behind (end_doomed p) w)
unfolding end_doomed
doomed-allows w p all = ended-allows w (end_threads p.number (code_status (first_code 0 p.doom)) (live_threads w p.number) w) (end-ending p.number (code_status (first_code 0 p.doom)) (live_threads w p.number) w) all

allowing-settles : (w : World) → HasAllowingClients w → HasAllowingClients (behind settle w)
allowing-settles = settle-kept HasAllowingClients (λ w tid later some all. allows-all w (go_on tid w) (on-mild w tid) all) (λ w p some all. doomed-allows w p all)

pub allowing_step : (w : World) (line : ScriptLine) → IsReady (world_after w (own_steps line w)) → IsSafe w → HasAllowingClients w → HasAllowingClients (step w line).world
allowing_step w line ready is = step-keeps AnyWorld HasAllowingClients allowing-lines (λ v r. allowing-settles v) (λ v. allows-all v (sweep v) (sweep_every (is_mild is_allowing) (λ _. refl) v)) w line is.sound tt ready
