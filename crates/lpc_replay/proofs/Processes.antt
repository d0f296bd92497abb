-- The process of each live thread stands, behind each line.
use Rattle.lpc_base.proofs.Bools.{first-true, same-number, second-true, unless-more}
use Rattle.lpc_base.proofs.RowMaps.{every-both, every-first}
use Rattle.lpc_base.proofs.RowWords.{every-change, every-more, every-off, every-push, every-without, first-passes, has-change, has-kept, has-push}
use Rattle.lpc_base.specs.Rows.{change, every, first, has, without}
use Rattle.lpc_model.proofs.Calls.Acts.{Law, accept_act, complete_act, create_act, keeps_on, outcomes}
use Rattle.lpc_model.proofs.Calls.Lines.{AnyWorld, Keep, LineLaw, Shut, line-does}
use Rattle.lpc_model.proofs.Calls.Sharing.{connect_begun}
use Rattle.lpc_model.proofs.Settling.Keeps.{doomed-does, goes-does, settling-does, step-keeps}
use Rattle.lpc_model.proofs.Settling.Settled.{IsReady}
use Rattle.lpc_model.proofs.Sound.Frees.{is-zero, less-held, none-pass, sum-second, which-all}
use Rattle.lpc_model.proofs.Steps.Ending.{AreEnding, die-ending, ending-enter, ending-receipt, handle-ending, is_ending}
use Rattle.lpc_model.proofs.Steps.InTurn.{after-append, steps-keep}
use Rattle.lpc_model.proofs.Steps.Rows.{has-none, has-without}
use Rattle.lpc_model.specs.Basics.{Acts, AddsProcess, AddsSection, AddsThread, AddsToken, Awaits, Basic, Dies, Dooms, DrawsIdentifier, DrawsOrdinal, DropsOwned, DropsViewsOf, Frees, Leaves, LetsGo, Maps, Registers, Secures, SetsDebug, SetsException, Unmaps, Unregisters, Writes, acting, basic, debugged, doomed, ended, excepted, freed, past_identifier, past_ordinal, portless, registering, unregistering, world_after}
use Rattle.lpc_model.specs.Close.{close_handle}
use Rattle.lpc_model.specs.Connect.{client_port, connection_request, named_steps, unnamed_steps}
use Rattle.lpc_model.specs.Creation.{new_process, new_thread, second_birth}
use Rattle.lpc_model.specs.Death.{die}
use Rattle.lpc_model.specs.Entering.{enter, row_of, take_connect_steps, take_steps}
use Rattle.lpc_model.specs.Found.{is_live, is_process, is_thread, lives_by, lives_in, pointer_count, same_birth}
use Rattle.lpc_model.specs.Impersonation.{new_token}
use Rattle.lpc_model.specs.Lines.{ScriptLine}
use Rattle.lpc_model.specs.Machine.{directive_birth, own_steps, step}
use Rattle.lpc_model.specs.Memory.{new_section}
use Rattle.lpc_model.specs.Raise.{go_on}
use Rattle.lpc_model.specs.Settle.{end_doomed}
use Rattle.lpc_model.specs.SoundWaits.{HasShutConnects, IsSoundWorld}
use Rattle.lpc_model.specs.Sweep.{free_unheld, is_unheld, sweep, unheld}
use Rattle.lpc_model.specs.Tests.{next_birth}
use Rattle.lpc_model.specs.World.{Birth, ObjectName, ProcessRow, ThreadRow, World}
use Rattle.lpc_model.specs.declared.entry.ObjectKind.TheVariants as kind
use Rattle.lpc_model.specs.declared.entry.ObjectKind.{ObjectKind}
use Rattle.std.proofs.Common.{Bool, List, None, Option, Some, [], arith, false, map, not, refl, subst, sym, true, ℕ, ◌∷◌, ◌≡◌, ◌≤◌}
use Rattle.std.proofs.lemmas.Bool.{eqb-true, not-true, or_right}
use Rattle.std.specs.Prelude.{◌&&◌, ◌==◌, ◌||◌}

-- a thread doesn't live, or its process stands
abbrev pub has_process : World → ThreadRow → Bool
has_process w t = not t.live || has (is_process t.process) w.processes

abbrev pub HasProcesses : World → Type 0
HasProcesses w = every (has_process w) w.threads ≡ true

-- the process of a number stands where it lives
pub live_stands : (w : World) (pid : ℕ) → is_live w pid ≡ true → HasProcesses w → has (is_process pid) w.processes ≡ true
live_stands w pid lives all = at (first (lives_in pid) w.threads) refl
  where
    stands : (l : Bool) (n : ℕ) → l ≡ true → n ≡ pid → (not l || has (is_process n) w.processes) ≡ true → has (is_process pid) w.processes ≡ true
    stands l n live same is = rw (live, same) at is

    passes : (t : ThreadRow) → first (lives_in pid) w.threads ≡ Some t → lives_in pid t ≡ true
    passes t found = first-passes (lives_in pid) w.threads t found

    at : (o : Option ThreadRow) → first (lives_in pid) w.threads ≡ o → has (is_process pid) w.processes ≡ true
    at None none = let off = has-none (lives_in pid) w.threads none in absurd (cc)
    at (Some t) found =
        stands t.live t.process (second-true (t.process == pid) t.live (passes t found)) (eqb-true t.process pid (first-true (t.process == pid) t.live (passes t found)))
        (every-first (has_process w) (lives_in pid) w.threads t all found)

-- Steps
-- a step makes no thread, and no row goes by it
abbrev is_staying : Basic → Bool
is_staying (AddsThread t) = false
is_staying (Frees o) = false
is_staying b = true

more-processes : (w v : World) → ((n : ℕ) → has (is_process n) w.processes ≡ true → has (is_process n) v.processes ≡ true) → v.threads ≡ w.threads → HasProcesses w → HasProcesses v
more-processes w v more same all =
    subst (λ ts. every (has_process v) ts ≡ true) (sym same) (every-more (has_process w) (has_process v) (λ t is. unless-more t.live _ _ (more t.process) is) w.threads all)

changed-processes : (w : World) (pid : ℕ) (f : ProcessRow → ProcessRow) → ((n : ℕ) (p : ProcessRow) → is_process n (f p) ≡ is_process n p) → HasProcesses w → HasProcesses (record w { processes = change (is_process pid) f w.processes })
changed-processes w pid f same all =
    more-processes w (record w { processes = change (is_process pid) f w.processes }) (λ n is. rw (has-change (is_process n) (is_process pid) f (same n) w.processes) is) refl all

staying-step : (w : World) (b : Basic) → is_staying b ≡ true → HasProcesses w → HasProcesses (basic w b)
staying-step w (AddsThread t) is all = absurd (cc)
staying-step w (Frees o) is all = absurd (cc)
staying-step w (Dies who status) is all = every-change (has_process w) (is_thread who) ended (λ t one. refl) w.threads all
staying-step w (Registers who b) is all = every-change (has_process w) (is_thread who) (registering b) (λ t one. one) w.threads all
staying-step w (Unregisters who b) is all = every-change (has_process w) (is_thread who) (unregistering b) (λ t one. one) w.threads all
staying-step w (DrawsIdentifier who) is all = every-change (has_process w) (is_thread who) past_identifier (λ t one. one) w.threads all
staying-step w (DrawsOrdinal who) is all = every-change (has_process w) (is_thread who) past_ordinal (λ t one. one) w.threads all
staying-step w (Acts who own) is all = every-change (has_process w) (is_thread who) (acting own) (λ t one. one) w.threads all
staying-step w (AddsProcess p) is all = more-processes w (basic w (AddsProcess p)) (λ n one. has-kept (is_process n) w.processes p one) refl all
staying-step w (SetsDebug pid b) is all = changed-processes w pid (debugged b) (λ n p. refl) all
staying-step w (SetsException pid b) is all = changed-processes w pid (excepted b) (λ n p. refl) all
staying-step w (LetsGo pid) is all = changed-processes w pid portless (λ n p. refl) all
staying-step w (Dooms pid code) is all = changed-processes w pid (doomed code) (λ n p. refl) all
staying-step w b is all = all

staying-all : (w : World) (bs : List Basic) → every is_staying bs ≡ true → HasProcesses w → HasProcesses (world_after w bs)
staying-all = steps-keep is_staying HasProcesses staying-step

ending-staying : (b : Basic) → is_ending b ≡ true → is_staying b ≡ true
ending-staying (AddsThread t) is = absurd (cc)
ending-staying (Frees o) is = absurd (cc)
ending-staying b is = refl

-- a thread of a process that stands
started : (w : World) (t : ThreadRow) → has (is_process t.process) w.processes ≡ true → HasProcesses w → HasProcesses (basic w (AddsThread t))
started w t stands all = every-push (has_process w) w.threads t all (or_right (not t.live) (has (is_process t.process) w.processes) stands)

spawned : (w : World) (p : ProcessRow) (t : ThreadRow) → p.number ≡ t.process → HasProcesses w → HasProcesses (basic (basic w (AddsProcess p)) (AddsThread t))
spawned w p t same all =
    started (basic w (AddsProcess p)) t (has-push (is_process t.process) w.processes p (rw same (same-number t.process))) (staying-step w (AddsProcess p) refl all)

-- Acts
abbrev KeepProcesses : World → List Basic → Type 0
KeepProcesses = Keep HasProcesses

ended-staying : (w : World) (bs : List Basic) → AreEnding bs → KeepProcesses w bs
ended-staying w bs all = staying-all w bs (every-more is_ending is_staying ending-staying bs all)

processes-law : (by : ThreadRow) → Law by (Shut AnyWorld) AnyWorld KeepProcesses
processes-law by = record {
  keeps = λ w bs all _. tt;
  nothing = λ w all. all;
  follows = keeps_on HasProcesses;
  says = λ w e all. all;
  numbers = λ w. staying-all w (DrawsIdentifier by.number ∷ []) refl;
  wakes = λ w status fields x all. all;
  marks = λ w who is t. t;
  abandons = λ w who. staying-all w (Leaves who ∷ []) refl;
  debugs = λ w pid b stands live. staying-all w (SetsDebug pid b ∷ []) refl;
  excepts = λ w pid b stands live. staying-all w (SetsException pid b ∷ []) refl;
  dooms = λ w pid code. staying-all w (Dooms pid code ∷ []) refl;
  takes = λ w m. ended-staying w (take_steps m) (ending-receipt m);
  listens = λ w m. ended-staying w (take_connect_steps m) (ending-receipt m);
  waits = λ w x off is all. all;
  sends = λ w m is. ended-staying w (enter m w) (ending-enter m w);
  asks = λ w x m off wait post. let v = basic w (Awaits x) in ended-staying v (enter m v) (ending-enter m v);
  creates = λ w is. staying-all w (create_act w by (unnamed_steps (next_birth by))) refl;
  founds = λ w name path free is. staying-all w (create_act w by (named_steps (next_birth by) path)) refl;
  connects = λ w connection offer bytes opens offers is all.
      let v = world_after w (connect_begun by connection offer (connection_request by offer bytes)) in
      let row = row_of connection (client_port by connection) (connection_request by offer bytes) in
      ended-staying v (enter row v) (ending-enter row v) (staying-all w (connect_begun by connection offer (connection_request by offer bytes)) refl all);
  gives = λ w pid o access is all. all;
  accepts = λ w context m x a at is. staying-all w (accept_act w by context x a) refl;
  completes = λ w c is. staying-all w (complete_act w c) refl;
  registers = λ w b stands. staying-step w (Registers by.number b) refl;
  spawns = λ w pid tid token new unused s all.
      let v : World = basic (basic w (DrawsOrdinal by.number)) (DrawsOrdinal by.number) in
      let drawn = staying-all w (DrawsOrdinal by.number ∷ DrawsOrdinal by.number ∷ []) refl all in
      spawned v (new_process pid (Some by.process) (next_birth by) token) (new_thread tid pid (second_birth by)) refl drawn;
  starts = λ w tid pid live unused s all.
      let v : World = basic w (DrawsOrdinal by.number) in
      let drawn = staying-all w (DrawsOrdinal by.number ∷ []) refl all in
      started v (new_thread tid pid (next_birth by)) (live_stands w pid live all) drawn;
  closes = λ w pid r at s _. ended-staying w (close_handle pid r w) (handle-ending pid r w);
  dies = λ w code t is. ended-staying w (die code t w) (die-ending code t w);
  leaves = λ w n b. ended-staying w (Unregisters n b ∷ []) refl;
  lets_go = λ w pid. staying-all w (LetsGo pid ∷ []) refl;
  vacates = λ w pid. ended-staying w (DropsViewsOf pid ∷ []) refl;
  disowns = λ w b. ended-staying w (DropsOwned b ∷ []) refl;
  secures = λ w b s. staying-all w (Secures b s ∷ []) refl;
  acts = λ w own. staying-all w (Acts by.number own ∷ []) refl;
  holds_token = λ w content. staying-all w (DrawsOrdinal by.number ∷ AddsToken (new_token by content) ∷ []) refl;
  builds = λ w size prot is. staying-all w (DrawsOrdinal by.number ∷ AddsSection (new_section by size prot) ∷ []) refl;
  maps = λ w pid v m. staying-all w (Maps pid v ∷ []) refl;
  unmaps = λ w pid base. staying-all w (Unmaps pid base ∷ []) refl;
  writes = λ w b place new. staying-all w (Writes b place new ∷ []) refl;
}

-- Rows that go
-- no live thread is of a process that goes
left-standing : (b : Birth) (n : ℕ) (l : Bool) (ps : List ProcessRow) → not (l && has (λ p. same_birth p.birth b && (p.number == n)) ps) ≡ true → (not l || has (is_process n) ps) ≡ true → (not l || has (is_process n) (without (λ p. same_birth p.birth b) ps)) ≡ true
left-standing b n false ps off is = refl
left-standing b n true ps off is =
    let none : has (λ (p : ProcessRow). same_birth p.birth b && (p.number == n)) ps ≡ false = not-true (has (λ (p : ProcessRow). same_birth p.birth b && (p.number == n)) ps) off in
    has-without (is_process n) (λ p. same_birth p.birth b) ps (every-off (λ (p : ProcessRow). same_birth p.birth b && (p.number == n)) (λ p. not (same_birth p.birth b) || not (is_process n p)) (λ p one. apart (same_birth p.birth b) (p.number == n) one) ps none) is
  where
    apart : (a c : Bool) → (a && c) ≡ false → (not a || not c) ≡ true
    apart a c off = grind arith

freed-standing : (w : World) (o : ObjectName) → is_unheld w o ≡ true → HasProcesses w → HasProcesses (basic w (Frees o))
freed-standing w o none all = at o.kind o.birth (is-zero (pointer_count w o) none)
  where
    at : (k : ObjectKind) (b : Birth) → pointer_count w (record { kind = k; birth = b }) ≤ 0 → HasProcesses (freed w k b)
    at kind.Port b few = all
    at kind.Section b few = all
    at kind.Token b few = all
    at kind.Process b few =
        let dead = none-pass (lives_by w b) w.threads (sum-second _ _ few) in
        every-both (λ t. not (lives_by w b t)) (has_process w) (has_process (freed w kind.Process b)) (λ t one two. left-standing b t.process t.live w.processes one two) w.threads dead all
    at kind.Thread b few = every-without (has_process w) (λ t. same_birth t.birth b) w.threads all

frees-standing : (w : World) (os : List ObjectName) → every (is_unheld w) os ≡ true → HasProcesses w → HasProcesses (world_after w (map Frees os))
frees-standing w [] none all = all
frees-standing w (o ∷ os) none all =
    let here : is_unheld w o ≡ true = grind arith in
    let later : every (is_unheld w) os ≡ true = grind arith in
    frees-standing (basic w (Frees o)) os (every-more (is_unheld w) (is_unheld (basic w (Frees o))) (less-held w o) os later) (freed-standing w o here all)

swept-standing : (w : World) → HasProcesses w → HasProcesses (world_after w (sweep w))
unfolding sweep
swept-standing w all =
    let v = world_after w (free_unheld w) in
    let once = frees-standing w (unheld w) (which-all (is_unheld w) _) all in
    rw (after-append w (free_unheld w) (free_unheld v)) (frees-standing v (unheld v) (which-all (is_unheld v) _) once)

-- Lines
processes-lines : LineLaw (Shut AnyWorld) (λ _. KeepProcesses)
processes-lines = record {
  tells = λ line w e _ all. all;
  calls = λ by. outcomes by (Shut AnyWorld) AnyWorld KeepProcesses (processes-law by) (λ w c. c);
  names = λ w name content _ all. all;
  boots = λ w pid tid name content _ unused s _. spawned w (new_process pid None (directive_birth pid pid) content) (new_thread tid pid (directive_birth tid pid)) refl;
  threads = λ w tid pid live unused s _ all. started w (new_thread tid pid (directive_birth tid pid)) (live_stands w pid live all) all;
  dirs = λ w text path free _ all. all;
  links = λ w text target path to free _ all. all;
}

-- behind a line's own steps, behind settling, and behind the line
pub processes_own : (w : World) (line : ScriptLine) → IsSoundWorld w → HasShutConnects w → HasProcesses w → HasProcesses (world_after w (own_steps line w))
processes_own w line s shut all = line-does (Shut AnyWorld) (λ _. KeepProcesses) processes-lines w s (shut, tt) line all

pub processes_on : (w : World) (tid : ℕ) → HasProcesses w → HasProcesses (world_after w (go_on tid w))
processes_on w tid = goes-does (Shut AnyWorld) AnyWorld KeepProcesses processes-law w tid

pub processes_end : (w : World) (p : ProcessRow) → IsReady w → HasProcesses w → HasProcesses (world_after w (end_doomed p w))
processes_end w p r = doomed-does (Shut AnyWorld) AnyWorld KeepProcesses processes-law w p (record { safe = r.safe; known = tt })

pub processes_step : (w : World) (line : ScriptLine) → IsSoundWorld w → HasShutConnects w → IsReady (world_after w (own_steps line w)) → HasProcesses w → HasProcesses (step w line).world
processes_step w line s shut = step-keeps (Shut AnyWorld) HasProcesses processes-lines (λ v r. settling-does (Shut AnyWorld) AnyWorld KeepProcesses processes-law (λ w tid _ _. tt) v r tt) swept-standing w line s (shut, tt)
