-- The step of each line leaves of two ports that are each other's other end one at least open.
use Rattle.lpc_model.proofs.Settling.Keeps.{step-keeps, settling-does}
use Rattle.lpc_model.proofs.Settling.Settled.{IsReady}
use Rattle.lpc_model.specs.declared.entry.ObjectKind.TheVariants as kind
use Rattle.lpc_base.proofs.Births.{birth-same, births-apart}
use Rattle.lpc_base.proofs.Bools.{first-off, second-off}
use Rattle.lpc_base.proofs.RowMaps.{every-change_to, every-map}
use Rattle.lpc_base.proofs.RowWords.{every-change, every-more, every-push, every-without, has-kept}
use Rattle.lpc_base.specs.Rows.{count, every, passes, when}
use Rattle.lpc_model.proofs.Calls.Acts.{Law, accept_act, complete_act, keeps_on, outcomes}
use Rattle.lpc_model.proofs.Calls.Lines.{AnyWorld, Shut, LineLaw, passing-lines}
use Rattle.lpc_model.proofs.Steps.Closing.{behind, takes_away}
use Rattle.lpc_model.proofs.Steps.Sweep.{sweep_every}
use Rattle.lpc_model.proofs.Steps.Ending.{die-pass}
use Rattle.lpc_model.proofs.Steps.Handles.{open-add, open-new}
use Rattle.lpc_model.proofs.Linked.Steps.{is_steady}
use Rattle.lpc_model.proofs.Sound.Close.{OpensBut, but-opens, shut-found, still-open}
use Rattle.lpc_model.proofs.Sound.Closing.{close-shut}
use Rattle.lpc_model.proofs.Sound.Terminate.{IsSafe}
use Rattle.lpc_model.proofs.Sound.Worlds.{kept-pair-open}
use Rattle.lpc_model.proofs.Steps.Steady.{steady-enter}
use Rattle.lpc_model.proofs.Steps.InTurn.{after-append, steps-keep}
use Rattle.lpc_model.proofs.Calls.Usable.{CanCall}
use Rattle.lpc_model.specs.Basics.{Accepts, AddsHandle, AddsProcess, AddsThread, Awaits, Basic, Completes, Cuts, DrawsIdentifier, DrawsOrdinal, DropsHandle, DropsOwned, DropsViewsOf, Empties, Frees, Joins, Makes, Receives, Registers, Takes, TakesConnect, Unbinds, Unregisters, Wakes, Withdraws, basic, completed, cut, freed, is_end_of, joined, no_handles, paired, world_after, AddsSection, Maps, Unmaps, Writes, secured, Secures, Acts, AddsToken, Dooms, Leaves, LetsGo, Marks, SetsDebug, SetsException}
use Rattle.lpc_model.specs.Close.{close_handle, close_port, is_last}
use Rattle.lpc_model.specs.Connect.{Completable, client_port, connection_request, server_port}
use Rattle.lpc_model.specs.Creation.{new_process, new_thread, second_birth}
use Rattle.lpc_model.specs.Death.{die}
use Rattle.lpc_model.specs.Entering.{enter, received_steps, row_of, woken}
use Rattle.lpc_model.specs.Fields.{h}
use Rattle.lpc_model.specs.Found.{free_handle, handle_at, has_handle_to, is_cut, is_open, is_paired_to, is_port, is_table, is_the, port_name, same_birth}
use Rattle.lpc_model.specs.Left.{HasKeptPairs, is_kept_pair}
use Rattle.lpc_model.specs.Lines.{ScriptLine}
use Rattle.lpc_model.specs.Memory.{new_section}
use Rattle.lpc_model.specs.Machine.{step, own_steps}
use Rattle.lpc_model.specs.Message.{asks}
use Rattle.lpc_model.specs.SoundWaits.{IsSoundWorld}
use Rattle.lpc_model.specs.Sweep.{sweep}
use Rattle.lpc_model.specs.Tests.{PORT_ACCESS, handle_row, next_birth}
use Rattle.lpc_model.specs.World.{Birth, HandleRow, Message, MessageRow, ObjectKind, ObjectName, PortRow, ThreadRow, WaitRow, World, Acceptance}
use Rattle.std.proofs.Common.{Bool, List, None, Option, Some, [], arith, cond, false, refl, subst, sym, true, ℕ, ◌++◌, ◌∷◌, ◌≡◌, ◌≤◌}
use Rattle.std.proofs.lemmas.Bool.{and_from, or_left}
use Rattle.std.specs.Prelude.{◌||◌}
use Rattle.lpc_model.proofs.Calls.Sharing.{connect_begun}
use Rattle.lpc_model.specs.Impersonation.{new_token}

-- Steps
-- a step that keeps it whatever the world: it gives and takes no handle, joins nothing, and makes ports without other ends
abbrev is_pairing : Basic → Bool
is_pairing (Makes p) = is_cut p
is_pairing (Joins client server context) = false
is_pairing (AddsHandle pid h) = false
is_pairing (DropsHandle pid value) = false
is_pairing b = true

abbrev ArePairing : List Basic → Type 0
ArePairing bs = every is_pairing bs ≡ true

kept-parts : (c a b x y : Bool) → (a ≡ true → b ≡ true) → (x ≡ true → y ≡ true) → (c || (a || x)) ≡ true → (c || (b || y)) ≡ true
kept-parts c a b x y one two is = grind (arith, one, two)

kept-more : (w v : World) → ((b : Birth) → is_open w b ≡ true → is_open v b ≡ true) → (p : PortRow) → is_kept_pair w p ≡ true → is_kept_pair v p ≡ true
kept-more w v opens p is = kept-parts (is_cut p) (is_open w p.birth) (is_open v p.birth) (passes p.pair (is_open w)) (passes p.pair (is_open v)) (opens p.birth) (kept-pair-open w v opens p.pair) is

freed-pairs : (w : World) (k : ObjectKind) (b : Birth) → HasKeptPairs w → HasKeptPairs (freed w k b)
freed-pairs w kind.Port b k = every-without (is_kept_pair w) (is_port b) w.ports k
freed-pairs w e b k = k

pair-step : (w : World) (b : Basic) → is_pairing b ≡ true → HasKeptPairs w → HasKeptPairs (basic w b)
pair-step w (Makes p) is k = every-push (is_kept_pair w) w.ports p k (or_left (is_cut p) _ is)
pair-step w (AddsProcess p) is k = every-more (is_kept_pair w) (is_kept_pair (basic w (AddsProcess p))) (kept-more w (basic w (AddsProcess p)) (λ b one. has-kept (has_handle_to b) w.handles (no_handles p.number) one)) w.ports k
pair-step w (Completes c) is k = every-change (is_kept_pair w) (is_port c) completed (λ p one. one) w.ports k
pair-step w (Cuts c) is k = every-change_to (is_kept_pair w) (is_kept_pair w) (is_end_of c) cut (λ p was here. refl) (λ p was off. was) w.ports k
pair-step w (Secures c s) is k = every-change (is_kept_pair w) (is_port c) (secured s) (λ p one. one) w.ports k
pair-step w (Frees o) is k = freed-pairs w o.kind o.birth k
pair-step w (Joins client server context) is k = absurd (cc)
pair-step w (AddsHandle pid h) is k = absurd (cc)
pair-step w (DropsHandle pid value) is k = absurd (cc)
pair-step w b is k = k

pair-all : (w : World) (bs : List Basic) → ArePairing bs → HasKeptPairs w → HasKeptPairs (world_after w bs)
pair-all = steps-keep is_pairing HasKeptPairs pair-step

pair-handle : (w : World) (pid : ℕ) (object : ObjectName) (access : ℕ) → count (is_table pid) w.handles ≤ 1 → HasKeptPairs w → HasKeptPairs (basic w (AddsHandle pid (handle_row (free_handle w pid) object access)))
pair-handle w pid object access one k =
    let v = basic w (AddsHandle pid (handle_row (free_handle w pid) object access)) in
    every-more (is_kept_pair w) (is_kept_pair v) (kept-more w v (λ b is. open-add w pid object access b one is)) w.ports k

-- two ports are joined, of which the server port is open
pair-join : (w : World) (client server : Birth) (context : ℕ) → is_open w server ≡ true → HasKeptPairs w → HasKeptPairs (basic w (Joins client server context))
pair-join w client server context opens k = rw (every-map (is_kept_pair w) (joined client server context) w.ports) (every-more (is_kept_pair w) (λ p. is_kept_pair w (joined client server context p)) (λ p is. at p (is_port client p) (is_port server p) refl is) w.ports k)
  where
    own : (p : PortRow) → is_port server p ≡ true → is_open w p.birth ≡ true
    own p same = subst (λ b. is_open w b ≡ true) (sym (birth-same p.birth server same)) opens

    mid : (c a x : Bool) → a ≡ true → (c || (a || x)) ≡ true
    mid c a x is = grind arith

    last : (c a x : Bool) → x ≡ true → (c || (a || x)) ≡ true
    last c a x is = grind arith

    at : (p : PortRow) (c s : Bool) → is_port server p ≡ s → is_kept_pair w p ≡ true → is_kept_pair w (cond c (paired server context p) (cond s (paired client context p) p)) ≡ true
    at p true s same is = last false (is_open w p.birth) (is_open w server) opens
    at p false true same is = mid false (is_open w p.birth) (is_open w client) (own p same)
    at p false false same is = is

-- a handle that goes
pair-closed : (w : World) (pid : ℕ) (r : HandleRow) → handle_at w pid r.value ≡ Some r → IsSoundWorld w → HasKeptPairs w → HasKeptPairs (behind (close_handle pid r) w)
pair-closed w pid r at s k = by_last (is_last r w) refl
  where
    apart : (b c : Birth) (o : Option Birth) → o ≡ Some c → is_the b o ≡ false → same_birth c b ≡ false
    apart b c o some off = let other : same_birth b c ≡ false = rw some at off in births-apart b c other

    other-end : (v u : World) (b : Birth) → OpensBut v u b → (o : Option Birth) → is_the b o ≡ false → passes o (is_open v) ≡ true → passes o (is_open u) ≡ true
    other-end v u b opens None off is = absurd (cc)
    other-end v u b opens (Some c) off is = opens c (births-apart b c off) is

    elsewhere : (v u : World) (b : Birth) → OpensBut v u b → (p : PortRow) → is_kept_pair v p ≡ true → is_end_of b p ≡ false → is_kept_pair u p ≡ true
    elsewhere v u b opens p was off =
        kept-parts (is_cut p) (is_open v p.birth) (is_open u p.birth) (passes p.pair (is_open v)) (passes p.pair (is_open u)) (opens p.birth (first-off (is_port b p) (is_paired_to b p) off)) (other-end v u b opens p.pair (second-off (is_port b p) (is_paired_to b p) off)) was

    by_last : (last : Bool) → is_last r w ≡ last → HasKeptPairs (world_after w (when last (close_port r.object.birth w) ++ DropsHandle pid r.value ∷ []))
    by_last true is =
        let b = r.object.birth in
        let v = world_after w (close_port b w) in
        let u = basic v (DropsHandle pid r.value) in
        let shut = close-shut w b s in
        let opens = but-opens v pid r (shut.sound.tables pid) (shut-found w v pid r shut.handles at) in
        let before : every (is_kept_pair v) w.ports ≡ true = subst (λ hs. every (is_kept_pair (record w { handles = hs })) w.ports ≡ true) (sym shut.handles) k in
        rw (after-append w (close_port b w) (DropsHandle pid r.value ∷ [])) (subst (λ ps. every (is_kept_pair u) ps ≡ true) (sym shut.ports) (every-change_to (is_kept_pair v) (is_kept_pair u) (is_end_of b) cut (λ p was here. refl) (λ p was off. elsewhere v u b opens p was off) w.ports before))
    by_last false more =
        let u = basic w (DropsHandle pid r.value) in
        every-more (is_kept_pair w) (is_kept_pair u) (kept-more w u (still-open w pid r (s.tables pid) at more)) w.ports k

-- Acts
abbrev KeepPairs : World → List Basic → Type 0
KeepPairs w bs = HasKeptPairs w → HasKeptPairs (world_after w bs)

steady-pairing : (b : Basic) → is_steady b ≡ true → is_pairing b ≡ true
steady-pairing (Makes p) is = absurd (cc)
steady-pairing (Joins client server context) is = absurd (cc)
steady-pairing (AddsHandle pid h) is = absurd (cc)
steady-pairing (DropsHandle pid value) is = absurd (cc)
steady-pairing b is = refl

accepted-pairs : (w : World) (by : ThreadRow) (context : ℕ) (m : Message) (x : WaitRow) (a : Acceptance) → CanCall w by → IsSoundWorld w → KeepPairs w (accept_act w by context x a)
accepted-pairs w by context m x a c s k =
    let server = next_birth by in
    let made = basic (basic w (DrawsOrdinal by.number)) (Makes (server_port server x.queue)) in
    let v = basic made (AddsHandle by.process (handle_row (free_handle w by.process) (port_name server) PORT_ACCESS)) in
    let u = basic v (Accepts x.thread a) in
    let opens = open-new made by.process (free_handle w by.process) PORT_ACCESS server c.home in
    pair-join u x.port server context opens (pair-handle made by.process (port_name server) PORT_ACCESS (s.tables by.process) (every-push (is_kept_pair w) w.ports (server_port server x.queue) k refl))

completed-pairs : (w : World) (c : Completable) → IsSoundWorld w → KeepPairs w (complete_act w c)
completed-pairs w c s k =
    let two = basic (basic w (Completes c.server)) (Completes c.client) in
    pair-handle two c.wait.process (port_name c.client) PORT_ACCESS (s.tables c.wait.process) (pair-all w (Completes c.server ∷ Completes c.client ∷ []) refl k)

away-pairing : (x : Basic) → takes_away x ≡ true → is_pairing x ≡ true
away-pairing (Wakes who call status fields) is = refl
away-pairing (Withdraws who) is = refl
away-pairing (Empties q) is = refl
away-pairing (Unbinds b) is = refl
away-pairing (DropsOwned b) is = refl
away-pairing (Marks who) is = refl
away-pairing x is = absurd (cc)

entered-pairs : (w : World) (m : MessageRow) → KeepPairs w (enter m w)
entered-pairs w m = pair-all w (enter m w) (every-more is_steady is_pairing steady-pairing (enter m w) (steady-enter m w))

taken-pairs : (w : World) (b : Basic) (m : MessageRow) → is_pairing b ≡ true → KeepPairs w (b ∷ received_steps m)
taken-pairs w b m is = pair-all w (b ∷ received_steps m) (and_from (is_pairing b) _ is (at (asks m.message)))
  where
    at : (a : Bool) → every is_pairing (when a (Receives m.message.header.client.thread m.queue ∷ [])) ≡ true
    at true = refl
    at false = refl

pairs-law : (by : ThreadRow) → Law by (Shut AnyWorld) AnyWorld KeepPairs
pairs-law by = record {
  keeps = λ w bs all _. tt;
  nothing = λ w k. k;
  follows = keeps_on HasKeptPairs;
  says = λ w e k. k;
  numbers = λ w. pair-all w (DrawsIdentifier by.number ∷ []) refl;
  wakes = λ w status fields x. pair-all w (woken status fields x ∷ []) refl;
  marks = λ w who is. pair-all w (Marks who ∷ []) refl;
  abandons = λ w who. pair-all w (Leaves who ∷ []) refl;
  debugs = λ w pid b stands live. pair-all w (SetsDebug pid b ∷ []) refl;
  excepts = λ w pid b stands live. pair-all w (SetsException pid b ∷ []) refl;
  dooms = λ w pid code. pair-all w (Dooms pid code ∷ []) refl;
  takes = λ w m. taken-pairs w (Takes m.queue) m refl;
  listens = λ w m. taken-pairs w (TakesConnect m.queue) m refl;
  waits = λ w x off is. pair-all w (Awaits x ∷ []) refl;
  sends = λ w m is. entered-pairs w m;
  asks = λ w x m off wait post k. entered-pairs (basic w (Awaits x)) m (pair-all w (Awaits x ∷ []) refl k);
  creates = λ w is k. pair-handle (basic (basic w (DrawsOrdinal by.number)) (Makes _)) by.process (port_name (next_birth by)) PORT_ACCESS (is.sound.tables by.process) (every-push (is_kept_pair w) w.ports _ k refl);
  founds = λ w name path free is k. pair-handle (basic (basic w (DrawsOrdinal by.number)) (Makes _)) by.process (port_name (next_birth by)) PORT_ACCESS (is.sound.tables by.process) (every-push (is_kept_pair w) w.ports _ k refl);
  connects = λ w connection offer bytes opens offers is k. entered-pairs (world_after w (connect_begun by connection offer (connection_request by offer bytes))) (row_of connection (client_port by connection) (connection_request by offer bytes)) (every-push (is_kept_pair w) w.ports (client_port by connection) k refl);
  gives = λ w pid o access is. pair-handle w pid o access is.one;
  accepts = λ w context m x a at is. accepted-pairs w by context m x a is.can is.sound;
  completes = λ w c is. completed-pairs w c is.sound;
  registers = λ w b stands. pair-all w (Registers by.number b ∷ []) refl;
  spawns = λ w pid tid token new unused s. pair-all w (DrawsOrdinal by.number ∷ DrawsOrdinal by.number ∷ AddsProcess (new_process pid (Some by.process) (next_birth by) token) ∷ AddsThread (new_thread tid pid (second_birth by)) ∷ []) refl;
  starts = λ w tid pid live unused s. pair-all w (DrawsOrdinal by.number ∷ AddsThread (new_thread tid pid (next_birth by)) ∷ []) refl;
  closes = λ w pid r at s _. pair-closed w pid r at s;
  dies = λ w code t is. pair-all w (die code t w) (die-pass is_pairing away-pairing (λ n c. refl) (λ b. refl) code t w);
  leaves = λ w n b. pair-all w (Unregisters n b ∷ []) refl;
  lets_go = λ w pid. pair-all w (LetsGo pid ∷ []) refl;
  vacates = λ w pid. pair-all w (DropsViewsOf pid ∷ []) refl;
  disowns = λ w b. pair-all w (DropsOwned b ∷ []) refl;
  secures = λ w b s. pair-all w (Secures b s ∷ []) refl;
  acts = λ w own. pair-all w (Acts by.number own ∷ []) refl;
  holds_token = λ w content. pair-all w (DrawsOrdinal by.number ∷ AddsToken (new_token by content) ∷ []) refl;
  builds = λ w size prot is. pair-all w (DrawsOrdinal by.number ∷ AddsSection (new_section by size prot) ∷ []) refl;
  maps = λ w pid v m. pair-all w (Maps pid v ∷ []) refl;
  unmaps = λ w pid base. pair-all w (Unmaps pid base ∷ []) refl;
  writes = λ w b place new. pair-all w (Writes b place new ∷ []) refl;
}

-- Lines
pairs-lines : LineLaw (Shut AnyWorld) (λ _. KeepPairs)
pairs-lines = passing-lines (Shut AnyWorld) KeepPairs (λ w. is_pairing) pair-all (λ w. record { tells = λ _. refl; processes = λ _ _ _. refl; threads = λ _ _ _. refl; binds = λ _ _. refl; names = λ _. refl }) (λ by. outcomes by (Shut AnyWorld) AnyWorld KeepPairs (pairs-law by) (λ w c. c))

-- the step of a line
pub pairs_step : (w : World) (line : ScriptLine) → IsSafe w → IsReady (world_after w (own_steps line w)) → HasKeptPairs w → HasKeptPairs (step w line).world
pairs_step w line is = step-keeps (Shut AnyWorld) HasKeptPairs pairs-lines (λ v r. settling-does (Shut AnyWorld) AnyWorld KeepPairs pairs-law (λ w tid _ _. tt) v r tt) (λ v. pair-all v (sweep v) (sweep_every is_pairing (λ _. refl) v)) w line is.sound (is.shut, tt)
