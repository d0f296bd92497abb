-- Each line keeps the calls of waits: a thread begins to wait in the call of its wait's kind.
use Rattle.std.proofs.Common.{◌≡◌, ℕ, List, [], ◌∷◌, Bool, true, Option, Some, None, refl}
use Rattle.std.specs.List.{AllByRecursion}
use Rattle.std.proofs.lemmas.Bool.{and_from}
use Rattle.lpc_base.specs.Rows.{every}
use Rattle.lpc_base.proofs.RowWords.{every-append, every-change, every-more, every-push, every-without}
use Rattle.lpc_base.specs.declared.birth.Birth.{Birth}
use Rattle.lpc_model.specs.declared.entry.ObjectKind.{ObjectKind}
use Rattle.lpc_model.specs.declared.entry.ObjectKind.TheVariants as kind
use Rattle.lpc_model.specs.declared.entry.CallName.{CallName}
use Rattle.lpc_model.specs.declared.entry.CallName.TheVariants.{NtConnectPort}
use Rattle.lpc_model.specs.World.{Accepted, Acceptance, Connect, Message, MessageRow, Offer, ThreadRow, WaitRow, World, no_rows}
use Rattle.lpc_model.specs.Found.{waits_as, waits_at}
use Rattle.lpc_model.specs.Basics.{Accepts, Awaits, Basic, Dies, Frees, Leaves, Receives, Wakes, accepted, basic, freed, received, world_after}
use Rattle.lpc_model.specs.Close.{close_handle}
use Rattle.lpc_model.specs.Connect.{client_port, connection_request}
use Rattle.lpc_model.specs.Death.{die}
use Rattle.lpc_model.specs.Entering.{enter, row_of, take_connect_steps, take_steps}
use Rattle.lpc_model.specs.Lines.{ScriptLine}
use Rattle.lpc_model.specs.Machine.{Stepped, bare_steps, own_steps, step}
use Rattle.lpc_model.specs.Run.{said_in, trace}
use Rattle.lpc_model.specs.Lawful.{IsLawfulWorld}
use Rattle.lpc_model.specs.OwnCalls.{HasOwnCalls, RunHasOwnCalls, is_kind_of, waits_in_call}
use Rattle.lpc_model.specs.SoundWaits.{HasShutConnects, IsSoundWorld}
use Rattle.lpc_model.specs.Sweep.{sweep}
use Rattle.lpc_model.proofs.Calls.Acts.{Law, outcomes}
use Rattle.lpc_model.proofs.Calls.Lines.{AnyWorld, LineLaw, Shut, line-does, passing-lines}
use Rattle.lpc_model.proofs.Calls.Sharing.{connect_begun}
use Rattle.lpc_model.proofs.Runs.{lawful_none, lawful_step, lawful-readied}
use Rattle.lpc_model.proofs.Settling.Keeps.{bare-does, settling-does}
use Rattle.lpc_model.proofs.Settling.Settled.{IsReady}
use Rattle.lpc_model.proofs.Sound.Worlds.{by_kind}
use Rattle.lpc_model.proofs.Steps.Ending.{AreEnding, die-ending, ending-enter, ending-receipt, handle-ending, is_ending}
use Rattle.lpc_model.proofs.Steps.InTurn.{steps-keep}
use Rattle.lpc_model.proofs.Steps.Sweep.{stepped, sweep_every}

-- Steps
-- a wait that begins does so in the call of its kind
abbrev is_called : Basic → Bool
is_called (Awaits x) = waits_in_call x
is_called b = true

abbrev AreCalled : List Basic → Type 0
AreCalled bs = every is_called bs ≡ true

ending-called : (b : Basic) → is_ending b ≡ true → is_called b ≡ true
ending-called (Awaits x) is = absurd (cc)
ending-called b is = refl

called-ending : (bs : List Basic) → AreEnding bs → AreCalled bs
called-ending bs all = every-more is_ending is_called ending-called bs all

called-enter : (m : MessageRow) (w : World) → AreCalled (enter m w)
called-enter m w = called-ending (enter m w) (ending-enter m w)

-- a connect that is accepted goes on in its call
connect-call : (call : CallName) (m : Message) (offer : Option Offer) (a : Acceptance) → is_kind_of call (Connect m offer) ≡ true → is_kind_of call (Accepted m a) ≡ true
connect-call NtConnectPort m offer a is = refl
connect-call call m offer a is = absurd (cc)

accepted-call : (a : Acceptance) (x : WaitRow) → waits_in_call x ≡ true → waits_in_call (accepted a x) ≡ true
accepted-call a =
    by_kind (λ x. waits_in_call x ≡ true → waits_in_call (accepted a x) ≡ true)
    (λ x m is. is) (λ x is. is) (λ x is. is) (λ x m offer is. connect-call x.call m offer a is) (λ x m r is. is) (λ x r is. is)

freed-calls : (w : World) (k : ObjectKind) (b : Birth) → HasOwnCalls w → HasOwnCalls (freed w k b)
freed-calls w kind.Port b q = q
freed-calls w kind.Section b q = q
freed-calls w kind.Token b q = q
freed-calls w kind.Process b q = q
freed-calls w kind.Thread b q = q

called-step : (w : World) (b : Basic) → is_called b ≡ true → HasOwnCalls w → HasOwnCalls (basic w b)
called-step w (Wakes who call status fields) is q = every-without waits_in_call (waits_as who) w.waits q
called-step w (Leaves who) is q = every-without waits_in_call (waits_as who) w.waits q
called-step w (Dies who status) is q = every-without waits_in_call (waits_as who) w.waits q
called-step w (Awaits x) is q = every-push waits_in_call w.waits x q is
called-step w (Receives who queue) is q = every-change waits_in_call (waits_at who queue) received (λ x one. one) w.waits q
called-step w (Accepts who a) is q = every-change waits_in_call (waits_as who) (accepted a) (accepted-call a) w.waits q
called-step w (Frees o) is q = freed-calls w o.kind o.birth q
called-step w b is q = q

called-all : (w : World) (bs : List Basic) → AreCalled bs → HasOwnCalls w → HasOwnCalls (world_after w bs)
called-all = steps-keep is_called HasOwnCalls called-step

-- Acts
abbrev Called : World → List Basic → Type 0
Called w bs = AreCalled bs

called-law : (by : ThreadRow) → Law by (Shut AnyWorld) AnyWorld Called
called-law by = record {
  keeps = λ w bs all _. tt;
  nothing = λ w. refl;
  follows = λ w xs ys one two. every-append is_called xs ys one two;
  says = λ w e. refl;
  numbers = λ w. refl;
  wakes = λ w status fields x. refl;
  marks = λ w who is. refl;
  abandons = λ w who. refl;
  debugs = λ w pid b stands live. refl;
  excepts = λ w pid b stands live. refl;
  dooms = λ w pid code. refl;
  takes = λ w m. called-ending (take_steps m) (ending-receipt m);
  listens = λ w m. called-ending (take_connect_steps m) (ending-receipt m);
  waits = λ w x off is. and_from (waits_in_call x) true is.in_call refl;
  sends = λ w m is. called-enter m w;
  asks = λ w x m off wait post. and_from (waits_in_call x) _ wait.in_call (called-enter m (basic w (Awaits x)));
  creates = λ w is. refl;
  founds = λ w name path free is. refl;
  connects = λ w connection offer bytes opens offers is.
      let m = connection_request by offer bytes in
      called-enter (row_of connection (client_port by connection) m) (world_after w (connect_begun by connection offer m));
  gives = λ w pid o access is. refl;
  accepts = λ w context m x a at is. refl;
  completes = λ w c is. refl;
  registers = λ w b stands. refl;
  spawns = λ w pid tid token new unused s. refl;
  starts = λ w tid pid live unused s. refl;
  closes = λ w pid r at s _. called-ending (close_handle pid r w) (handle-ending pid r w);
  dies = λ w code t is. called-ending (die code t w) (die-ending code t w);
  leaves = λ w n b. refl;
  lets_go = λ w pid. refl;
  vacates = λ w pid. refl;
  disowns = λ w b. refl;
  secures = λ w b s. refl;
  acts = λ w own. refl;
  holds_token = λ w content. refl;
  builds = λ w size prot is. refl;
  maps = λ w pid v m. refl;
  unmaps = λ w pid base. refl;
  writes = λ w b place new. refl;
}

-- Lines
called-lines : LineLaw (Shut AnyWorld) (λ _. Called)
called-lines = passing-lines (Shut AnyWorld) Called (λ _. is_called) (λ w bs all. all) (λ w. record { tells = λ _. refl; processes = λ _ _ _. refl; threads = λ _ _ _. refl; binds = λ _ _. refl; names = λ _. refl }) (λ by. outcomes by (Shut AnyWorld) AnyWorld Called (called-law by) (λ w c. c))

own-called : (w : World) (line : ScriptLine) → IsSoundWorld w → HasShutConnects w → AreCalled (own_steps line w)
own-called w line s shut = line-does (Shut AnyWorld) (λ _. Called) called-lines w s (shut, tt) line

-- before the world settles
pub calls_line : (w : World) (line : ScriptLine) → IsSoundWorld w → HasShutConnects w → HasOwnCalls w → HasOwnCalls (world_after w (own_steps line w))
calls_line w line s shut q = called-all w (own_steps line w) (own-called w line s shut) q

-- and behind the line
pub calls_step : (w : World) (line : ScriptLine) → IsSoundWorld w → HasShutConnects w → IsReady (world_after w (own_steps line w)) → HasOwnCalls w → HasOwnCalls (step w line).world
calls_step w line s shut ready q =
    let bs = bare_steps line w in
    let bare = bare-does Called (λ w xs ys one two. every-append is_called xs ys one two) w line (own-called w line s shut) (settling-does (Shut AnyWorld) AnyWorld Called called-law (λ w tid _ _. tt) (world_after w (own_steps line w)) ready tt) in
    stepped HasOwnCalls w line (λ v q. called-all v (sweep v) (sweep_every is_called (λ _. refl) v) q) (called-all w bs bare q)

-- Runs
calls-trace : (w : World) (lines : List (Option ScriptLine)) → IsLawfulWorld w → HasOwnCalls w → AllByRecursion (λ (s : Stepped). HasOwnCalls s.world) (trace w lines)
unfolding trace
calls-trace w [] l q = tt
calls-trace w (None ∷ later) l q = (q, calls-trace w later l q)
calls-trace w (Some line ∷ later) l q =
    let v = (step w line).world in
    let shut = l.single_closings in
    let there = calls_step w line l.sound shut.connects (lawful-readied w line l) q in
    (there, calls-trace v later (lawful_step w line l) there)

pub calls_run : (script : List ℕ) → RunHasOwnCalls script
calls_run script = calls-trace no_rows (said_in script) lawful_none refl
