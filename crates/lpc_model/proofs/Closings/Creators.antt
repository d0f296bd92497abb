-- Each line leaves client ports with a connection port, and with a connect of the thread that made them.
use Rattle.std.proofs.Common.{◌≡◌, ℕ, List, Bool, true, false, cond, refl}
use Rattle.std.proofs.lemmas.Bool.{and_from}
use Rattle.lpc_base.specs.Rows.{every}
use Rattle.lpc_base.proofs.RowWords.{every-append, every-change, every-more, every-push, every-without}
use Rattle.lpc_base.proofs.RowMaps.{every-map}
use Rattle.lpc_base.proofs.Bools.{same-number}
use Rattle.lpc_model.specs.declared.entry.ObjectKind.TheVariants as kind
use Rattle.lpc_model.specs.World.{Birth, ObjectKind, PortRow, ThreadRow, World}
use Rattle.lpc_model.specs.Found.{is_port}
use Rattle.lpc_model.specs.Basics.{Awaits, Basic, Completes, Cuts, Frees, Joins, Makes, basic, completed, cut, freed, is_end_of, joined, paired, world_after, Secures, secured}
use Rattle.lpc_model.specs.Entering.{enter, received_steps, row_of}
use Rattle.lpc_model.specs.Connect.{client_port, connection_request}
use Rattle.lpc_model.specs.Close.{close_handle}
use Rattle.lpc_model.specs.Creators.{KeepsConnects, keeps_connect}
use Rattle.lpc_model.specs.Death.{die}
use Rattle.lpc_model.specs.Lines.{ScriptLine}
use Rattle.lpc_model.specs.Machine.{bare_steps, step, own_steps}
use Rattle.lpc_model.specs.Sweep.{sweep}
use Rattle.lpc_model.proofs.Calls.Acts.{Law, outcomes}
use Rattle.lpc_model.proofs.Steps.Sweep.{stepped, sweep_every}
use Rattle.lpc_model.proofs.Steps.Ending.{AreEnding, die-ending, ending-enter, ending-receipt, handle-ending, is_ending}
use Rattle.lpc_model.proofs.Calls.Lines.{AnyWorld, Shut, LineLaw, line-does, passing-lines}
use Rattle.lpc_model.proofs.Sound.Terminate.{IsSafe}
use Rattle.lpc_model.proofs.Steps.InTurn.{steps-keep}
use Rattle.lpc_model.proofs.Calls.Sharing.{connect_begun}
use Rattle.lpc_model.proofs.Settling.Keeps.{bare-does, settling-does}
use Rattle.lpc_model.proofs.Settling.Settled.{IsReady}

-- Basic steps
-- a step makes no client port without them
abbrev is_keeping : Basic → Bool
is_keeping (Makes p) = keeps_connect p
is_keeping b = true

abbrev AreKeeping : List Basic → Type 0
AreKeeping bs = every is_keeping bs ≡ true

joined-keeps : (client server : Birth) (context : ℕ) (p : PortRow) → keeps_connect (joined client server context p) ≡ keeps_connect p
joined-keeps client server context p = at (is_port client p) (is_port server p)
  where
    at : (c s : Bool) → keeps_connect (cond c (paired server context p) (cond s (paired client context p) p)) ≡ keeps_connect p
    at true s = refl
    at false true = refl
    at false false = refl

freed-keeps : (w : World) (k : ObjectKind) (b : Birth) → KeepsConnects w → KeepsConnects (freed w k b)
freed-keeps w kind.Port b k = every-without keeps_connect (is_port b) w.ports k
freed-keeps w e b k = k

keeping-step : (w : World) (b : Basic) → is_keeping b ≡ true → KeepsConnects w → KeepsConnects (basic w b)
keeping-step w (Makes p) is k = every-push keeps_connect w.ports p k is
keeping-step w (Joins client server context) is k =
    rw (every-map keeps_connect (joined client server context) w.ports)
    (every-more keeps_connect (λ p. keeps_connect (joined client server context p)) (λ p is. rw (joined-keeps client server context p) is) w.ports k)
keeping-step w (Completes b) is k = every-change keeps_connect (is_port b) completed (λ p is. is) w.ports k
keeping-step w (Cuts b) is k = every-change keeps_connect (is_end_of b) cut (λ p is. is) w.ports k
keeping-step w (Secures b s) is k = every-change keeps_connect (is_port b) (secured s) (λ p is. is) w.ports k
keeping-step w (Frees o) is k = freed-keeps w o.kind o.birth k
keeping-step w b is k = k

keeping-all : (w : World) (bs : List Basic) → AreKeeping bs → KeepsConnects w → KeepsConnects (world_after w bs)
keeping-all = steps-keep is_keeping KeepsConnects keeping-step

-- Acts
ending-keeps : (b : Basic) → is_ending b ≡ true → is_keeping b ≡ true
ending-keeps (Makes p) is = absurd (cc)
ending-keeps b is = refl

ended-keeps : (bs : List Basic) → AreEnding bs → AreKeeping bs
ended-keeps = every-more is_ending is_keeping ending-keeps

keeping-law : (by : ThreadRow) → Law by (Shut AnyWorld) AnyWorld (λ _. AreKeeping)
keeping-law by = record {
  keeps = λ w bs all _. tt;
  nothing = λ w. refl;
  follows = λ w. every-append is_keeping;
  says = λ w e. refl;
  numbers = λ w. refl;
  wakes = λ w status fields x. refl;
  marks = λ w who is. refl;
  abandons = λ w who. refl;
  debugs = λ w pid b stands live. refl;
  excepts = λ w pid b stands live. refl;
  dooms = λ w pid code. refl;
  takes = λ w m. ended-keeps (received_steps m) (ending-receipt m);
  listens = λ w m. ended-keeps (received_steps m) (ending-receipt m);
  waits = λ w x off is. refl;
  sends = λ w m is. ended-keeps (enter m w) (ending-enter m w);
  asks = λ w x m off wait post. let v = basic w (Awaits x) in ended-keeps (enter m v) (ending-enter m v);
  creates = λ w is. refl;
  founds = λ w name path free is. refl;
  connects = λ w connection offer bytes opens offers is.
      let m = connection_request by offer bytes in
      let row = row_of connection (client_port by connection) m in
      let v = world_after w (connect_begun by connection offer m) in
      and_from (keeps_connect (client_port by connection)) _ (rw (same-number by.number) refl) (ended-keeps (enter row v) (ending-enter row v));
  gives = λ w pid o access is. refl;
  accepts = λ w context m x a at is. refl;
  completes = λ w c is. refl;
  registers = λ w b stands. refl;
  spawns = λ w pid tid token new unused s. refl;
  starts = λ w tid pid live unused s. refl;
  closes = λ w pid r at s _. ended-keeps (close_handle pid r w) (handle-ending pid r w);
  dies = λ w code t is. ended-keeps (die code t w) (die-ending code t w);
  leaves = λ w n b. refl;
  lets_go = λ w pid. refl;
  vacates = λ w pid. refl;
  disowns = λ w b. refl;
  secures = λ w b s. refl;
  acts = λ w own. refl;
  holds_token = λ w content. refl;
  builds = λ w size prot is. refl;
  maps = λ w pid v m. refl;
  unmaps = λ w pid base. refl;
  writes = λ w b place new. refl;
}

-- Lines
keeping-lines : LineLaw (Shut AnyWorld) (λ _ _. AreKeeping)
keeping-lines = passing-lines (Shut AnyWorld) (λ _. AreKeeping) (λ _. is_keeping) (λ w bs all. all) (λ w. record { tells = λ _. refl; processes = λ _ _ _. refl; threads = λ _ _ _. refl; binds = λ _ _. refl; names = λ _. refl }) (λ by. outcomes by (Shut AnyWorld) AnyWorld (λ _. AreKeeping) (keeping-law by) (λ w c. c))

pub keeps_step : (w : World) (line : ScriptLine) → IsSafe w → IsReady (world_after w (own_steps line w)) → KeepsConnects w → KeepsConnects (step w line).world
keeps_step w line is ready k =
    let v = world_after w (own_steps line w) in
    let keeping = bare-does (λ _. AreKeeping) (λ w. every-append is_keeping) w line (line-does (Shut AnyWorld) (λ _ _. AreKeeping) keeping-lines w is.sound (is.shut, tt) line) (settling-does (Shut AnyWorld) AnyWorld (λ _. AreKeeping) keeping-law (λ w tid _ _. tt) v ready tt) in
    stepped KeepsConnects w line (λ v. keeping-all v (sweep v) (sweep_every is_keeping (λ _. refl) v)) (keeping-all w (bare_steps line w) keeping k)
