-- Each call keeps names bound once: but for a creation, which binds at a free path, none binds.
use Rattle.lpc_isolation.proofs.Calls.Deeds.{served-does}
use Rattle.lpc_base.specs.Rows.{every, when}
use Rattle.lpc_isolation.proofs.Rows.Bindings.{free-unbound}
use Rattle.lpc_isolation.proofs.Rows.Bound.{OnceBound, once-bound, once-unbound}
use Rattle.lpc_isolation.proofs.Each.Instances.{At}
use Rattle.lpc_isolation.proofs.Gone.Served.{served}
use Rattle.lpc_model.proofs.Calls.Acts.{Law, keeps_on, outcomes}
use Rattle.lpc_model.proofs.Calls.Lines.{AnyWorld, Shut}
use Rattle.lpc_model.proofs.Steps.Ending.{AreEnding, die-ending, ending-enter, handle-ending, is_ending}
use Rattle.lpc_model.proofs.Calls.Holding.{Holds, holds-more}
use Rattle.lpc_model.proofs.Steps.InTurn.{steps-keep}
use Rattle.lpc_model.proofs.Calls.Usable.{can-call}
use Rattle.lpc_model.specs.Basics.{Awaits, Basic, Binds, Frees, Receives, Takes, TakesConnect, Unbinds, basic, world_after}
use Rattle.lpc_model.specs.Circle.{Group}
use Rattle.lpc_model.specs.Close.{close_handle}
use Rattle.lpc_model.specs.Connect.{client_port, connection_request}
use Rattle.lpc_model.specs.Death.{die}
use Rattle.lpc_model.specs.Entering.{enter, received_steps, row_of}
use Rattle.lpc_model.specs.Lines.{ScriptCall}
use Rattle.lpc_model.specs.Message.{asks}
use Rattle.lpc_model.specs.World.{Birth, MessageRow, ThreadRow, World}
use Rattle.std.proofs.Common.{Bool, List, [], false, refl, true, ℕ, ◌∷◌, ◌≡◌}
use Rattle.std.proofs.lemmas.Bool.{and_from}
use Rattle.lpc_model.proofs.Calls.Sharing.{connect_begun}

abbrev KeepBound : World → List Basic → Type 0
KeepBound w bs = OnceBound w.bindings → OnceBound (world_after w bs).bindings

-- steps by which something ends bind nothing
ending-bound : (w : World) (b : Basic) → is_ending b ≡ true → OnceBound w.bindings → OnceBound (basic w b).bindings
ending-bound w (Unbinds c) is once = once-unbound w.bindings c once
ending-bound w (Binds path node) is once = absurd (cc)
ending-bound w (Frees o) is once = absurd (cc)
ending-bound w b is once = once

ended-bound : (w : World) (bs : List Basic) → AreEnding bs → KeepBound w bs
ended-bound = steps-keep is_ending (λ w. OnceBound w.bindings) ending-bound

taken-bound : (w : World) (b : Basic) (m : MessageRow) → is_ending b ≡ true → KeepBound w (b ∷ received_steps m)
taken-bound w b m is = ended-bound w (b ∷ received_steps m) (and_from (is_ending b) _ is (at (asks m.message)))
  where
    at : (a : Bool) → every is_ending (when a (Receives m.message.header.client.thread m.queue ∷ [])) ≡ true
    at true = refl
    at false = refl

bound-law : (by : ThreadRow) → Law by (Shut AnyWorld) AnyWorld KeepBound
bound-law by = record {
  keeps = λ w bs all _. tt;
  nothing = λ w once. once;
  follows = keeps_on (λ w. OnceBound w.bindings);
  says = λ w e once. once;
  numbers = λ w once. once;
  wakes = λ w status fields x once. once;
  takes = λ w m. taken-bound w (Takes m.queue) m refl;
  listens = λ w m. taken-bound w (TakesConnect m.queue) m refl;
  waits = λ w x off is once. once;
  sends = λ w m is. ended-bound w (enter m w) (ending-enter m w);
  asks = λ w x m off wait post. let v = basic w (Awaits x) in ended-bound v (enter m v) (ending-enter m v);
  creates = λ w is once. once;
  founds = λ w name path free is once. once-bound w.bindings path _ once (free-unbound w name path free);
  connects = λ w connection offer bytes opens offers is. let v = world_after w (connect_begun by connection offer (connection_request by offer bytes)) in let row = row_of connection (client_port by connection) (connection_request by offer bytes) in ended-bound v (enter row v) (ending-enter row v);
  gives = λ w pid o access is once. once;
  accepts = λ w context m x a at is once. once;
  completes = λ w c is once. once;
  registers = λ w b stands once. once;
  spawns = λ w pid tid token new unused s once. once;
  starts = λ w tid pid live unused s once. once;
  closes = λ w pid r at s _. ended-bound w (close_handle pid r w) (handle-ending pid r w);
  dies = λ w code t is. ended-bound w (die code t w) (die-ending code t w);
  leaves = λ w n b once. once;
  marks = λ w who is once. once;
  abandons = λ w who once. once;
  debugs = λ w pid b stands live once. once;
  excepts = λ w pid b stands live once. once;
  dooms = λ w pid code once. once;
  lets_go = λ w pid once. once;
  vacates = λ w pid once. once;
  disowns = λ w b once. once;
  secures = λ w b s once. once;
  acts = λ w own once. once;
  holds_token = λ w content once. once;
  builds = λ w size prot asked once. once;
  maps = λ w pid v is once. once;
  unmaps = λ w pid base once. once;
  writes = λ w b place new once. once;
}

pub bound-call : (m : Group) (c : ℕ) (w : World) (by : ThreadRow) (known : List ℕ → Birth) (call : ScriptCall) → At m c w by known → Holds (λ bs. OnceBound (world_after w bs).bindings) (served w by call)
bound-call m c w by known call a =
    holds-more (KeepBound w) (λ bs. OnceBound (world_after w bs).bindings) (served w by call) (λ bs keeps. keeps a.bound)
    (served-does w by (λ _. KeepBound w) (outcomes by (Shut AnyWorld) AnyWorld KeepBound (bound-law by) (λ w c. c) w (record { can = can-call w by.number by a.live a.idle a.sound; sound = a.sound; known = (a.shut, tt) })) (λ handle r fields at once. once) call)
