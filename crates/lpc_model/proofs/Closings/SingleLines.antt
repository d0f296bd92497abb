-- Each line keeps what stands in queues of closings.
use Rattle.lpc_model.proofs.Steps.Closing.{behind}
use Rattle.lpc_model.specs.Settle.{settle}
use Rattle.lpc_base.proofs.Births.{birth-same}
use Rattle.lpc_base.proofs.Bools.{first-true, second-true}
use Rattle.lpc_base.proofs.RowMaps.{every-first, every-kept}
use Rattle.lpc_base.proofs.RowWords.{every-more, every-not, first-passes}
use Rattle.lpc_base.specs.Rows.{every, first, has, without}
use Rattle.lpc_base.specs.declared.status.TheConstants.{SUCCESS}
use Rattle.lpc_model.proofs.Calls.Acts.{IsGift, Law, accept_act, complete_act, connect_act, create_act, keeps_on, outcomes}
use Rattle.lpc_model.proofs.Calls.Lines.{AnyWorld, IsCalled, Shut, Keep, LineLaw, line-does, passing-lines}
use Rattle.lpc_model.proofs.Linked.Calls.{unmade}
use Rattle.lpc_model.proofs.Steps.Rows.{has-found}
use Rattle.lpc_model.proofs.Closings.Single.{added-untold, further-untold, hushed-all, offered-untold, open-stands, swept-untold, tells_shut}
use Rattle.lpc_model.proofs.Closings.SingleClose.{handle-untold}
use Rattle.lpc_model.proofs.Sound.Connect.{foreign-connect, unconnected}
use Rattle.lpc_model.proofs.Sound.Worlds.{by_kind}
use Rattle.lpc_model.proofs.Steps.InTurn.{after-append}
use Rattle.lpc_model.proofs.Closings.Told.{AreHushed, hushed-enter, hushed-receipt, is_hushed}
use Rattle.lpc_model.proofs.Closings.ToldLines.{die-hushed}
use Rattle.lpc_model.proofs.Calls.Usable.{CanCall}
use Rattle.lpc_model.specs.Basics.{Accepts, AddsHandle, AddsProcess, AddsThread, Awaits, Basic, Completes, DrawsIdentifier, DrawsOrdinal, DropsOwned, DropsViewsOf, Joins, Makes, Registers, Unregisters, basic, world_after, AddsSection, Maps, Unmaps, Writes, Secures, Acts, AddsToken, Dooms, Leaves, LetsGo, Marks, SetsDebug, SetsException}
use Rattle.lpc_model.specs.Closings.{is_closed_post}
use Rattle.lpc_model.specs.Connect.{Completable, acceptance_of, client_port, connect_wait, connection_request, is_accepted_on, named_steps, server_port, unnamed_steps}
use Rattle.lpc_model.specs.Creation.{new_process, new_thread, second_birth}
use Rattle.lpc_model.specs.Death.{die}
use Rattle.lpc_model.specs.Entering.{enter, take_connect_steps, take_steps, row_of, woken}
use Rattle.lpc_model.specs.Fields.{h, completion_fields}
use Rattle.lpc_model.specs.Found.{free_handle, is_accepted, is_open, is_port, port_name, same_birth, waits_as}
use Rattle.lpc_model.specs.Lines.{ScriptLine}
use Rattle.lpc_model.specs.Memory.{new_section}
use Rattle.lpc_model.specs.Machine.{own_steps, step}
use Rattle.lpc_model.specs.Message.{made}
use Rattle.lpc_model.specs.SingleClosings.{HasSingleClosings, is_closing_of}
use Rattle.lpc_model.specs.SoundWaits.{IsSoundWorld, can_stay_sound, is_connect_on}
use Rattle.lpc_model.specs.Standing.{NamesWhatStands}
use Rattle.lpc_model.specs.Tests.{PORT_ACCESS, handle_row, next_birth}
use Rattle.lpc_model.specs.World.{Birth, Message, MessageRow, ObjectName, ThreadRow, WaitRow, World, no_rows, Acceptance, Offer}
use Rattle.std.proofs.Common.{Bool, List, Some, [], arith, false, not, refl, subst, sym, true, ℕ, ◌∷◌, ◌≡◌, Option}
use Rattle.std.proofs.lemmas.Bool.{and_from, eqb-true, false_from_ne_true}
use Rattle.std.specs.Prelude.{◌&&◌, ◌==◌, ◌||◌}
use Rattle.lpc_model.proofs.Calls.Sharing.{connect_begun}
use Rattle.lpc_model.specs.Impersonation.{new_token}
use Rattle.lpc_model.proofs.Settling.Keeps.{settling-does, step-keeps}
use Rattle.lpc_model.proofs.Settling.Settled.{IsReady}

-- the steps leave a world that tells of no open port
abbrev KeepUntold : World → List Basic → Type 0
KeepUntold = Keep HasSingleClosings

-- Ports that are made
-- of the port that a thread makes next no message tells, and it isn't open
next-untold : (w : World) (by : ThreadRow) → CanCall w by → IsSoundWorld w → NamesWhatStands w → every (λ m. not (is_closing_of (next_birth by) m)) w.messages ≡ true
next-untold w by c s n = every-more (λ m. has (is_port m.sender) w.ports) (λ m. not (is_closing_of (next_birth by) m)) (λ m stands. at m (same_birth m.sender (next_birth by)) refl stands) w.messages n.senders
  where
    off : (a b : Bool) → a ≡ false → not (a && b) ≡ true
    off a b is = grind arith

    at : (m : MessageRow) (k : Bool) → same_birth m.sender (next_birth by) ≡ k → has (is_port m.sender) w.ports ≡ true → not (is_closing_of (next_birth by) m) ≡ true
    at m false is stands = off (same_birth m.sender (next_birth by)) (is_closed_post m) is
    at m true is stands =
        let here = subst (λ b. has (is_port b) w.ports ≡ true) (birth-same m.sender (next_birth by) is) stands in
        let none = unmade w by c s in absurd (cc)

next-shut : (w : World) (by : ThreadRow) → CanCall w by → IsSoundWorld w → NamesWhatStands w → is_open w (next_birth by) ≡ false
next-shut w by c s n = false_from_ne_true (is_open w (next_birth by)) (λ is. let here = open-stands w (next_birth by) n is in let none = unmade w by c s in cc)

next-alone : (w : World) (by : ThreadRow) → CanCall w by → IsSoundWorld w → every (λ x. not (is_connect_on (next_birth by) x)) w.waits ≡ true
next-alone w by c s = every-not (is_connect_on (next_birth by)) w.waits (unconnected w by c s)

created-untold : (w : World) (by : ThreadRow) (made : List Basic) → (world_after w (DrawsOrdinal by.number ∷ made)).messages ≡ w.messages → (world_after w (DrawsOrdinal by.number ∷ made)).waits ≡ w.waits → AreHushed made → IsCalled (Shut NamesWhatStands) w by → KeepUntold w (create_act w by made)
created-untold w by made ms ws all is u =
    let bs = DrawsOrdinal by.number ∷ made in
    let v = world_after w bs in
    let h = handle_row (free_handle w by.process) (port_name (next_birth by)) PORT_ACCESS in
    rw (after-append w bs (AddsHandle by.process h ∷ [])) (added-untold v by.process (free_handle w by.process) PORT_ACCESS (next_birth by) (rw ms (next-untold w by is.can is.sound is.known.1)) (rw ws (next-alone w by is.can is.sound)) (hushed-all w bs all u))

connected-untold : (w : World) (by : ThreadRow) (connection : Birth) (offer : Option Offer) (bytes : List ℕ) → IsCalled (Shut NamesWhatStands) w by → KeepUntold w (connect_act w by connection offer (connection_request by offer bytes))
connected-untold w by connection offer bytes is u =
    let m = connection_request by offer bytes in
    let x = connect_wait by connection offer m in
    let bs = DrawsIdentifier by.number ∷ DrawsOrdinal by.number ∷ Makes (client_port by connection) ∷ [] in
    let waiting = world_after w (connect_begun by connection offer m) in
    hushed-all waiting (enter (row_of connection (client_port by connection) m) waiting) (hushed-enter (row_of connection (client_port by connection) m) waiting refl)
    (offered-untold (world_after w bs) x (next-shut w by is.can is.sound is.known.1) (next-untold w by is.can is.sound is.known.1) (hushed-all w bs refl u))

accepted-untold : (w : World) (by : ThreadRow) (context : ℕ) (m : Message) (x : WaitRow) (a : Acceptance) → IsCalled (Shut NamesWhatStands) w by → KeepUntold w (accept_act w by context x a)
accepted-untold w by context m x a is u =
    let server = next_birth by in
    let bs = DrawsOrdinal by.number ∷ Makes (server_port server x.queue) ∷ [] in
    let held = basic (world_after w bs) (AddsHandle by.process (handle_row (free_handle w by.process) (port_name server) PORT_ACCESS)) in
    hushed-all held (Accepts x.thread a ∷ Joins x.port server context ∷ []) refl
    (added-untold (world_after w bs) by.process (free_handle w by.process) PORT_ACCESS server (next-untold w by is.can is.sound is.known.1) (next-alone w by is.can is.sound) (hushed-all w bs refl u))

-- of the port of a connect that is completed no message tells
waited-untold : (w : World) (b : Birth) → HasSingleClosings w → has (is_connect_on b) w.waits ≡ true → every (λ m. not (is_closing_of b m)) w.messages ≡ true
waited-untold w b u waited = every-more (tells_shut w) (λ m. not (is_closing_of b m)) at w.messages u.closed
  where
    parts : (s c o h : Bool) → (s ≡ true → h ≡ true) → (not c || (not o && not h)) ≡ true → not (s && c) ≡ true
    parts s c o h more is = grind (arith, more)

    at : (m : MessageRow) → tells_shut w m ≡ true → not (is_closing_of b m) ≡ true
    at m is = parts (same_birth m.sender b) (is_closed_post m) (is_open w m.sender) (has (is_connect_on m.sender) w.waits) (λ same. subst (λ c. has (is_connect_on c) w.waits ≡ true) (sym (birth-same m.sender b same)) waited) is

-- and no other connect waits there: each is of the thread that made the port
pub its-maker : (w : World) (x : WaitRow) → is_accepted x ≡ true → can_stay_sound w x ≡ true → (x.port.maker == x.thread) ≡ true
its-maker w = by_kind (λ x. is_accepted x ≡ true → can_stay_sound w x ≡ true → (x.port.maker == x.thread) ≡ true) (λ x m of is. absurd (cc)) (λ x of is. absurd (cc)) (λ x of is. absurd (cc)) (λ x m offer of is. absurd (cc)) (λ x m r of is. grind arith) (λ x r of is. absurd (cc))

completed-untold : (w : World) (c : Completable) → first (is_accepted_on c.client) w.waits ≡ Some c.wait → IsSoundWorld w → KeepUntold w (complete_act w c)
completed-untold w c found s u =
    let pid = c.wait.process in
    let its = first-passes (is_accepted_on c.client) w.waits c.wait found in
    let accepted = first-true (is_accepted c.wait) (same_birth c.wait.port c.client) its in
    let on = birth-same c.wait.port c.client (second-true (is_accepted c.wait) (same_birth c.wait.port c.client) its) in
    let own = eqb-true c.wait.port.maker c.wait.thread (its-maker w c.wait accepted (every-first (can_stay_sound w) (is_accepted_on c.client) w.waits c.wait s.stay found)) in
    let maker : c.client.maker ≡ c.wait.thread = subst (λ (b : Birth). b.maker ≡ c.wait.thread) on own in
    let waited : has (is_connect_on c.client) w.waits ≡ true = has-found (is_connect_on c.client) (is_accepted_on c.client) w.waits c.wait found (connects (is_accepted c.wait) (same_birth c.wait.port c.client) _ accepted its) in
    let alone : every (λ x. not (is_connect_on c.client x)) (without (waits_as c.wait.thread) w.waits) ≡ true = every-kept (can_stay_sound w) (waits_as c.wait.thread) (λ x. not (is_connect_on c.client x)) (λ x stay off. foreign-connect w c.client x stay (subst (λ n. not (waits_as n x) ≡ true) (sym maker) (not-off _ off))) w.waits s.stay in
    let waking = woken SUCCESS (completion_fields (free_handle w pid) (acceptance_of c.wait)) c.wait in
    let ended = world_after w (Completes c.server ∷ Completes c.client ∷ waking ∷ []) in
    added-untold ended pid (free_handle w pid) PORT_ACCESS c.client (waited-untold w c.client u waited) alone (hushed-all w (Completes c.server ∷ Completes c.client ∷ waking ∷ []) refl u)
  where
    not-off : (a : Bool) → a ≡ false → not a ≡ true
    not-off a is = grind arith

    connects : (a on o : Bool) → a ≡ true → (a && on) ≡ true → ((o || a) && on) ≡ true
    connects a on o one two = grind arith

further-gift : (w : World) (pid : ℕ) (o : ObjectName) (access : ℕ) → IsGift w pid o → KeepUntold w (AddsHandle pid (handle_row (free_handle w pid) o access) ∷ [])
further-gift w pid o access is u = further-untold w pid (handle_row (free_handle w pid) o access) is.opens u

entered-untold : (w : World) (m : MessageRow) → not (is_closed_post m) ≡ true → KeepUntold w (enter m w)
entered-untold w m other = hushed-all w (enter m w) (hushed-enter m w other)

pub untold-law : (by : ThreadRow) → Law by (Shut NamesWhatStands) AnyWorld KeepUntold
untold-law by = record {
  keeps = λ w bs all _. tt;
  nothing = λ w u. u;
  follows = keeps_on HasSingleClosings;
  says = λ w e u. u;
  numbers = λ w. hushed-all w (DrawsIdentifier by.number ∷ []) refl;
  wakes = λ w status fields x. hushed-all w (woken status fields x ∷ []) refl;
  marks = λ w who is. hushed-all w (Marks who ∷ []) refl;
  abandons = λ w who. hushed-all w (Leaves who ∷ []) refl;
  debugs = λ w pid b stands live. hushed-all w (SetsDebug pid b ∷ []) refl;
  excepts = λ w pid b stands live. hushed-all w (SetsException pid b ∷ []) refl;
  dooms = λ w pid code. hushed-all w (Dooms pid code ∷ []) refl;
  takes = λ w m. hushed-all w (take_steps m) (hushed-receipt m);
  listens = λ w m. hushed-all w (take_connect_steps m) (hushed-receipt m);
  waits = λ w x off is. hushed-all w (Awaits x ∷ []) (and_from _ true off refl);
  sends = λ w m is. entered-untold w m is.other;
  asks = λ w x m off wait post u. entered-untold (basic w (Awaits x)) m post.other (hushed-all w (Awaits x ∷ []) (and_from _ true off refl) u);
  creates = λ w is. created-untold w by (unnamed_steps (next_birth by)) refl refl refl is;
  founds = λ w name path free is. created-untold w by (named_steps (next_birth by) path) refl refl refl is;
  connects = λ w connection offer bytes opens offers is. connected-untold w by connection offer bytes is;
  gives = λ w pid o access is. further-gift w pid o access is;
  accepts = λ w context m x a at is. accepted-untold w by context m x a is;
  completes = λ w c is. completed-untold w c is.found is.sound;
  registers = λ w b stands. hushed-all w (Registers by.number b ∷ []) refl;
  spawns = λ w pid tid token new unused s. hushed-all w (DrawsOrdinal by.number ∷ DrawsOrdinal by.number ∷ AddsProcess (new_process pid (Some by.process) (next_birth by) token) ∷ AddsThread (new_thread tid pid (second_birth by)) ∷ []) refl;
  starts = λ w tid pid live unused s. hushed-all w (DrawsOrdinal by.number ∷ AddsThread (new_thread tid pid (next_birth by)) ∷ []) refl;
  closes = λ w pid r at s _. handle-untold w pid r at s;
  dies = λ w code t is. hushed-all w (die code t w) (die-hushed code t w);
  leaves = λ w n b. hushed-all w (Unregisters n b ∷ []) refl;
  lets_go = λ w pid. hushed-all w (LetsGo pid ∷ []) refl;
  vacates = λ w pid. hushed-all w (DropsViewsOf pid ∷ []) refl;
  disowns = λ w b. hushed-all w (DropsOwned b ∷ []) refl;
  secures = λ w b s. hushed-all w (Secures b s ∷ []) refl;
  acts = λ w own. hushed-all w (Acts by.number own ∷ []) refl;
  holds_token = λ w content. hushed-all w (DrawsOrdinal by.number ∷ AddsToken (new_token by content) ∷ []) refl;
  builds = λ w size prot is. hushed-all w (DrawsOrdinal by.number ∷ AddsSection (new_section by size prot) ∷ []) refl;
  maps = λ w pid v m. hushed-all w (Maps pid v ∷ []) refl;
  unmaps = λ w pid base. hushed-all w (Unmaps pid base ∷ []) refl;
  writes = λ w b place new. hushed-all w (Writes b place new ∷ []) refl;
}

-- Lines
pub untold-lines : LineLaw (Shut NamesWhatStands) (λ _. KeepUntold)
untold-lines = passing-lines (Shut NamesWhatStands) KeepUntold (λ w. is_hushed) hushed-all (λ w. record { tells = λ _. refl; processes = λ _ _ _. refl; threads = λ _ _ _. refl; binds = λ _ _. refl; names = λ _. refl }) (λ by. outcomes by (Shut NamesWhatStands) AnyWorld KeepUntold (untold-law by) (λ w c. (c.0, tt)))

-- before the world settles
pub untold_line : (w : World) (line : ScriptLine) → IsSoundWorld w → NamesWhatStands w → HasSingleClosings w → HasSingleClosings (world_after w (own_steps line w))
untold_line w line s n u = line-does (Shut NamesWhatStands) (λ _. KeepUntold) untold-lines w s (u.connects, n) line u

-- settling
pub untold-settles : (v : World) → IsReady v → HasSingleClosings v → HasSingleClosings (behind settle v)
untold-settles v r = settling-does (Shut NamesWhatStands) AnyWorld KeepUntold untold-law (λ w tid _ _. tt) v r tt

-- the step of a line
pub untold_step : (w : World) (line : ScriptLine) → IsSoundWorld w → NamesWhatStands w → IsReady (world_after w (own_steps line w)) → HasSingleClosings w → HasSingleClosings (step w line).world
untold_step w line s n ready u = step-keeps (Shut NamesWhatStands) HasSingleClosings untold-lines untold-settles swept-untold w line s (u.connects, n) ready u

pub untold_none : HasSingleClosings no_rows
untold_none = record { closed = refl; once = λ b. grind arith; connects = refl }
