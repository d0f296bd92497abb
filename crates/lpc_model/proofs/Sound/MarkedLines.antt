-- Only events that wait are marked, behind each line's own steps.
use Rattle.std.proofs.Common.{List, [], false, refl, true, ◌≡◌, Bool, ◌∷◌}
use Rattle.lpc_base.proofs.RowWords.{every-push}
use Rattle.lpc_base.specs.Rows.{every, when}
use Rattle.lpc_model.proofs.Calls.Acts.{Law, complete_act, keeps_on, outcomes}
use Rattle.lpc_model.proofs.Calls.Lines.{AnyWorld, Keep, LineLaw, Shut, line-does, passing-lines}
use Rattle.lpc_model.proofs.Calls.Sharing.{accept_act, connect_act, connect_begun}
use Rattle.lpc_model.proofs.Sound.Marked.{die-marked, enter-unmarking, handle-marked, is_unmarking, marked-all}
use Rattle.lpc_model.proofs.Sound.Terminate.{IsSafe}
use Rattle.lpc_model.specs.Basics.{Awaits, Basic, Leaves, Receives, basic, world_after}
use Rattle.lpc_model.specs.Connect.{client_port, connection_request}
use Rattle.lpc_model.specs.Entering.{enter, received_steps, row_of, take_connect_steps, take_steps, woken}
use Rattle.lpc_model.specs.Lines.{ScriptLine}
use Rattle.lpc_model.specs.Machine.{own_steps}
use Rattle.lpc_model.specs.Message.{asks}
use Rattle.lpc_model.specs.Settle.{HasMarkedEvents, has_event}
use Rattle.lpc_model.specs.World.{MessageRow, ThreadRow, World}

-- what a message that is taken comes to
abbrev AreUnmarking : List Basic → Type 0
AreUnmarking bs = every is_unmarking bs ≡ true

unmarking-receipt : (m : MessageRow) → AreUnmarking (received_steps m)
unmarking-receipt m = at (asks m.message)
  where
    at : (a : Bool) → AreUnmarking (when a (Receives m.message.header.client.thread m.queue ∷ []))
    at true = refl
    at false = refl

unmarked : (w : World) (bs : List Basic) → AreUnmarking bs → Keep HasMarkedEvents w bs
unmarked w bs all m = marked-all w bs all m

marked-law : (by : ThreadRow) → Law by (Shut AnyWorld) AnyWorld (Keep HasMarkedEvents)
marked-law by = record {
  keeps = λ w bs all _. tt;
  nothing = λ w m. m;
  follows = λ w xs ys one two. keeps_on HasMarkedEvents w xs ys one two;
  says = λ w e m. m;
  numbers = λ w m. m;
  wakes = λ w status fields x. unmarked w (woken status fields x ∷ []) refl;
  marks = λ w who is m. every-push (has_event w) w.marks who m is;
  abandons = λ w who. unmarked w (Leaves who ∷ []) refl;
  debugs = λ w pid b stands live m. m;
  excepts = λ w pid b stands live m. m;
  dooms = λ w pid code m. m;
  takes = λ w m. unmarked w (take_steps m) (unmarking-receipt m);
  listens = λ w m. unmarked w (take_connect_steps m) (unmarking-receipt m);
  waits = λ w x off is. unmarked w (Awaits x ∷ []) refl;
  sends = λ w m is. unmarked w (enter m w) (enter-unmarking m w);
  asks = λ w x m off wait post. let v = basic w (Awaits x) in unmarked w (Awaits x ∷ enter m v) (enter-unmarking m v);
  creates = λ w is m. m;
  founds = λ w name path free is m. m;
  connects = λ w connection offer bytes opens offers is.
      let row = row_of connection (client_port by connection) (connection_request by offer bytes) in
      let v = world_after w (connect_begun by connection offer (connection_request by offer bytes)) in
      unmarked w (connect_act w by connection offer (connection_request by offer bytes)) (enter-unmarking row v);
  gives = λ w pid o access is m. m;
  accepts = λ w context m x a at is. unmarked w (accept_act w by context x a) refl;
  completes = λ w c is. unmarked w (complete_act w c) refl;
  registers = λ w b stands m. m;
  spawns = λ w pid tid token new unused s m. m;
  starts = λ w tid pid live unused s m. m;
  closes = λ w pid r at s _. handle-marked w pid r;
  dies = λ w code t is. die-marked code t w;
  leaves = λ w n b m. m;
  lets_go = λ w pid m. m;
  vacates = λ w pid m. m;
  disowns = λ w b m. m;
  builds = λ w size prot is m. m;
  maps = λ w pid v is m. m;
  unmaps = λ w pid base m. m;
  writes = λ w b place new m. m;
  secures = λ w b s m. m;
  acts = λ w own m. m;
  holds_token = λ w content m. m;
}

pub marked-lines : LineLaw (Shut AnyWorld) (λ _. Keep HasMarkedEvents)
marked-lines = passing-lines (Shut AnyWorld) (Keep HasMarkedEvents) (λ _. is_unmarking) unmarked (λ w. record { tells = λ _. refl; processes = λ _ _ _. refl; threads = λ _ _ _. refl; binds = λ _ _. refl; names = λ _. refl }) (λ by. outcomes by (Shut AnyWorld) AnyWorld (Keep HasMarkedEvents) (marked-law by) (λ w c. c))

pub line-marked : (w : World) (line : ScriptLine) → IsSafe w → HasMarkedEvents w → HasMarkedEvents (world_after w (own_steps line w))
line-marked w line is m = line-does (Shut AnyWorld) (λ _. Keep HasMarkedEvents) marked-lines w is.sound (is.shut, tt) line m
