-- A thread number has one row at most, behind each line.
use Rattle.lpc_model.proofs.Settling.Keeps.{step-keeps, settling-does}
use Rattle.lpc_model.proofs.Calls.Lines.{AnyWorld, Shut, Keep, LineLaw, line-does}
use Rattle.lpc_model.proofs.Settling.Settled.{IsReady}
use Rattle.lpc_model.specs.declared.entry.ObjectKind.TheVariants as kind
use Rattle.lpc_base.proofs.RowWords.{count-none, count-push, every-more}
use Rattle.lpc_base.specs.Rows.{change, count, every, has}
use Rattle.lpc_model.proofs.Calls.Acts.{Law, accept_act, complete_act, create_act, keeps_on, outcomes}
use Rattle.lpc_model.proofs.Steps.Sweep.{sweep_every}
use Rattle.lpc_model.proofs.Steps.Ending.{AreEnding, die-ending, ending-enter, ending-receipt, handle-ending, is_ending}
use Rattle.lpc_model.proofs.Steps.Rows.{count-change, count-less, has-off}
use Rattle.lpc_model.proofs.Sound.Basics.{sound-ordinal}
use Rattle.lpc_model.proofs.Steps.InTurn.{steps-keep}
use Rattle.lpc_model.specs.Basics.{AddsThread, Awaits, Basic, Dies, DrawsIdentifier, DrawsOrdinal, DropsOwned, DropsViewsOf, Frees, Registers, Unregisters, basic, ended, freed, past_identifier, past_ordinal, registering, unregistering, world_after, AddsSection, Maps, Unmaps, Writes, Acts, acting, Secures, AddsToken, Leaves}
use Rattle.lpc_model.specs.Close.{close_handle}
use Rattle.lpc_model.specs.Connect.{client_port, connection_request, named_steps, unnamed_steps}
use Rattle.lpc_model.specs.Creation.{new_thread, second_birth}
use Rattle.lpc_model.specs.Death.{die}
use Rattle.lpc_model.specs.Entering.{enter, row_of, take_connect_steps, take_steps}
use Rattle.lpc_model.specs.Found.{is_thread, same_birth, was_thread}
use Rattle.lpc_model.specs.Lawful.{HasThreadsOnce}
use Rattle.lpc_model.specs.Lines.{ScriptLine}
use Rattle.lpc_model.specs.Memory.{new_section}
use Rattle.lpc_model.specs.Machine.{directive_birth, step, own_steps}
use Rattle.lpc_model.specs.SoundWaits.{HasShutConnects, IsSoundWorld}
use Rattle.lpc_model.specs.Sweep.{sweep}
use Rattle.lpc_model.specs.Tests.{next_birth}
use Rattle.lpc_model.specs.World.{Birth, ObjectKind, ThreadRow, World}
use Rattle.std.proofs.Common.{Bool, List, [], arith, cond, false, not, refl, subst, true, ℕ, ◌++◌, ◌+◌, ◌∷◌, ◌≡◌, ◌≤◌}
use Rattle.std.proofs.lemmas.Bool.{eqb-true}
use Rattle.lpc_model.proofs.Calls.Sharing.{connect_begun}
use Rattle.lpc_model.specs.Impersonation.{new_token}

-- Steps
-- a step makes no thread
abbrev is_childless : Basic → Bool
is_childless (AddsThread t) = false
is_childless b = true

freed-once : (w : World) (k : ObjectKind) (b : Birth) → HasThreadsOnce w → HasThreadsOnce (freed w k b)
freed-once w kind.Thread b once n = count-less (is_thread n) (λ t. same_birth t.birth b) w.threads 1 (once n)
freed-once w e b once n = once n

changed-once : (w : World) (who : ℕ) (f : ThreadRow → ThreadRow) → ((n : ℕ) (t : ThreadRow) → is_thread n (f t) ≡ is_thread n t) → HasThreadsOnce w → HasThreadsOnce (record w { threads = change (is_thread who) f w.threads })
changed-once w who f same once n = rw (count-change (is_thread n) (is_thread who) f (same n) w.threads) (once n)

once-step : (w : World) (b : Basic) → is_childless b ≡ true → HasThreadsOnce w → HasThreadsOnce (basic w b)
once-step w (AddsThread t) is once = absurd (cc)
once-step w (Dies who status) is once = changed-once w who ended (λ n t. refl) once
once-step w (Registers who b) is once = changed-once w who (registering b) (λ n t. refl) once
once-step w (Unregisters who b) is once = changed-once w who (unregistering b) (λ n t. refl) once
once-step w (DrawsIdentifier who) is once = changed-once w who past_identifier (λ n t. refl) once
once-step w (DrawsOrdinal who) is once = changed-once w who past_ordinal (λ n t. refl) once
once-step w (Acts who own) is once = changed-once w who (acting own) (λ n t. refl) once
once-step w (Frees o) is once = freed-once w o.kind o.birth once
once-step w b is once = once

once-all : (w : World) (bs : List Basic) → every is_childless bs ≡ true → HasThreadsOnce w → HasThreadsOnce (world_after w bs)
once-all = steps-keep is_childless HasThreadsOnce once-step

ending-childless : (b : Basic) → is_ending b ≡ true → is_childless b ≡ true
ending-childless (AddsThread t) is = absurd (cc)
ending-childless b is = refl

-- Acts
abbrev KeepOnce : World → List Basic → Type 0
KeepOnce = Keep HasThreadsOnce

ended-once : (w : World) (bs : List Basic) → AreEnding bs → KeepOnce w bs
ended-once w bs all = once-all w bs (every-more is_ending is_childless ending-childless bs all)

-- a thread of a number that was never used
pub new-once : (ts : List ThreadRow) (t : ThreadRow) → ((n : ℕ) → count (is_thread n) ts ≤ 1) → has (is_thread t.number) ts ≡ false → (n : ℕ) → count (is_thread n) (ts ++ t ∷ []) ≤ 1
new-once ts t once none n = at (is_thread n t) refl
  where
    sum : (k m : ℕ) (c : Bool) → m ≡ k + cond c 1 0 → k ≤ 1 → (c ≡ true → k ≡ 0) → m ≤ 1
    sum k m true is few zero = omega (arith, is, zero refl)
    sum k m false is few zero = omega (arith, is, few)

    at : (c : Bool) → is_thread n t ≡ c → count (is_thread n) (ts ++ t ∷ []) ≤ 1
    at c is = sum (count (is_thread n) ts) _ (is_thread n t) (count-push (is_thread n) ts t) (once n) (λ same. subst (λ m. count (is_thread m) ts ≡ 0) (eqb-true t.number n same) (count-none (is_thread t.number) ts none))

unused-none : (w : World) (tid : ℕ) → was_thread w tid ≡ false → IsSoundWorld w → has (is_thread tid) w.threads ≡ false
unused-none w tid off s = has-off (is_thread tid) w.threads (every-more (λ t. was_thread w t.number) (λ t. not (is_thread tid t)) (λ t is. apart t is) w.threads s.numbers)
  where
    at : (t : ThreadRow) → was_thread w t.number ≡ true → (c : Bool) → is_thread tid t ≡ c → not c ≡ true
    at t is true same = let used = subst (λ n. was_thread w n ≡ true) (eqb-true t.number tid same) is in absurd (cc)
    at t is false same = refl

    apart : (t : ThreadRow) → was_thread w t.number ≡ true → not (is_thread tid t) ≡ true
    apart t is = at t is (is_thread tid t) refl

pub once-law : (by : ThreadRow) → Law by (Shut AnyWorld) AnyWorld KeepOnce
once-law by = record {
  keeps = λ w bs all _. tt;
  nothing = λ w once. once;
  follows = keeps_on HasThreadsOnce;
  says = λ w e once. once;
  numbers = λ w. once-all w (DrawsIdentifier by.number ∷ []) refl;
  wakes = λ w status fields x once. once;
  marks = λ w who is t. t;
  abandons = λ w who. once-all w (Leaves who ∷ []) refl;
  debugs = λ w pid b stands live t. t;
  excepts = λ w pid b stands live t. t;
  dooms = λ w pid code t. t;
  takes = λ w m. ended-once w (take_steps m) (ending-receipt m);
  listens = λ w m. ended-once w (take_connect_steps m) (ending-receipt m);
  waits = λ w x off is once. once;
  sends = λ w m is. ended-once w (enter m w) (ending-enter m w);
  asks = λ w x m off wait post. let v = basic w (Awaits x) in ended-once v (enter m v) (ending-enter m v);
  creates = λ w is. once-all w (create_act w by (unnamed_steps (next_birth by))) refl;
  founds = λ w name path free is. once-all w (create_act w by (named_steps (next_birth by) path)) refl;
  connects = λ w connection offer bytes opens offers is once.
      let v = world_after w (connect_begun by connection offer (connection_request by offer bytes)) in
      let row = row_of connection (client_port by connection) (connection_request by offer bytes) in
      ended-once v (enter row v) (ending-enter row v) (once-all w (connect_begun by connection offer (connection_request by offer bytes)) refl once);
  gives = λ w pid o access is once. once;
  accepts = λ w context m x a at is. once-all w (accept_act w by context x a) refl;
  completes = λ w c is. once-all w (complete_act w c) refl;
  registers = λ w b stands. once-step w (Registers by.number b) refl;
  spawns = λ w pid tid token new unused s once.
      let v : World = basic (basic w (DrawsOrdinal by.number)) (DrawsOrdinal by.number) in
      let drawn = once-all w (DrawsOrdinal by.number ∷ DrawsOrdinal by.number ∷ []) refl once in
      new-once v.threads (new_thread tid pid (second_birth by)) drawn (unused-none v tid unused (sound-ordinal (basic w (DrawsOrdinal by.number)) by.number (sound-ordinal w by.number s)));
  starts = λ w tid pid live unused s once.
      let v : World = basic w (DrawsOrdinal by.number) in
      let drawn = once-all w (DrawsOrdinal by.number ∷ []) refl once in
      new-once v.threads (new_thread tid pid (next_birth by)) drawn (unused-none v tid unused (sound-ordinal w by.number s));
  closes = λ w pid r at s _. ended-once w (close_handle pid r w) (handle-ending pid r w);
  dies = λ w code t is. ended-once w (die code t w) (die-ending code t w);
  leaves = λ w n b. ended-once w (Unregisters n b ∷ []) refl;
  lets_go = λ w pid t. t;
  vacates = λ w pid. ended-once w (DropsViewsOf pid ∷ []) refl;
  disowns = λ w b. ended-once w (DropsOwned b ∷ []) refl;
  secures = λ w b s. once-all w (Secures b s ∷ []) refl;
  acts = λ w own. once-all w (Acts by.number own ∷ []) refl;
  holds_token = λ w content. once-all w (DrawsOrdinal by.number ∷ AddsToken (new_token by content) ∷ []) refl;
  builds = λ w size prot is. once-all w (DrawsOrdinal by.number ∷ AddsSection (new_section by size prot) ∷ []) refl;
  maps = λ w pid v m. once-all w (Maps pid v ∷ []) refl;
  unmaps = λ w pid base. once-all w (Unmaps pid base ∷ []) refl;
  writes = λ w b place new. once-all w (Writes b place new ∷ []) refl;
}

-- Lines
pub once-lines : LineLaw (Shut AnyWorld) (λ _. KeepOnce)
once-lines = record {
  tells = λ line w e _ once. once;
  calls = λ by. outcomes by (Shut AnyWorld) AnyWorld KeepOnce (once-law by) (λ w c. c);
  names = λ w name content _ once. once;
  boots = λ w pid tid name content _ unused s _ once. new-once w.threads (new_thread tid pid (directive_birth tid pid)) once (unused-none w tid unused s);
  threads = λ w tid pid _ unused s _ once. new-once w.threads (new_thread tid pid (directive_birth tid pid)) once (unused-none w tid unused s);
  dirs = λ w text path free _ once. once;
  links = λ w text target path to free _ once. once;
}

pub once_line : (w : World) (line : ScriptLine) → IsSoundWorld w → HasShutConnects w → HasThreadsOnce w → HasThreadsOnce (world_after w (own_steps line w))
once_line w line s shut once = line-does (Shut AnyWorld) (λ _. KeepOnce) once-lines w s (shut, tt) line once

pub once_step : (w : World) (line : ScriptLine) → IsSoundWorld w → HasShutConnects w → IsReady (world_after w (own_steps line w)) → HasThreadsOnce w → HasThreadsOnce (step w line).world
once_step w line s shut = step-keeps (Shut AnyWorld) HasThreadsOnce once-lines (λ v r. settling-does (Shut AnyWorld) AnyWorld KeepOnce once-law (λ w tid _ _. tt) v r tt) (λ v. once-all v (sweep v) (sweep_every is_childless (λ _. refl) v)) w line s (shut, tt)
