-- Each line tells of the closings that it brings, and of no other.
use Rattle.lpc_base.specs.Rows.{which}
use Rattle.lpc_base.specs.declared.status.Status.{Status}
use Rattle.lpc_model.proofs.Calls.Acts.{Law, connect_act, outcomes}
use Rattle.lpc_model.proofs.Steps.Closing.{takes_away}
use Rattle.lpc_model.proofs.Calls.Lines.{AnyWorld, Shut, LineLaw, line-does, passing-lines}
use Rattle.lpc_model.proofs.Steps.Ending.{die-pass}
use Rattle.lpc_model.proofs.Held.FreedPort.{step_swept}
use Rattle.lpc_model.proofs.Closings.Told.{AreHushed, TellsClosings, calm-all, calm-tells, handle-tells, hushed-enter, hushed-receipt, is_hushed, sweep-dropless, tells-append, told-before}
use Rattle.lpc_model.specs.Basics.{Awaits, Basic, DropsOwned, Empties, Unbinds, Wakes, Withdraws, basic, world_after, Marks}
use Rattle.lpc_model.specs.Closings.{ClosingsAreTold, is_closed_post}
use Rattle.lpc_model.specs.Connect.{client_port, connection_request}
use Rattle.lpc_model.specs.Death.{die}
use Rattle.lpc_model.specs.Entering.{enter, row_of, take_connect_steps, take_steps}
use Rattle.lpc_model.specs.Lines.{ScriptLine}
use Rattle.lpc_model.specs.Machine.{Stepped, bare_steps, own_steps}
use Rattle.lpc_model.specs.SoundWaits.{HasShutConnects, IsSoundWorld}
use Rattle.lpc_model.specs.Sweep.{sweep}
use Rattle.lpc_model.specs.World.{ThreadRow, World}
use Rattle.std.proofs.Common.{List, ap, refl, sym, true, ◌∙◌, ◌∷◌, ◌≡◌}
use Rattle.lpc_model.proofs.Calls.Sharing.{connect_begun}
use Rattle.lpc_model.proofs.Settling.Keeps.{bare-does, settling-does}
use Rattle.lpc_model.proofs.Settling.Settled.{IsReady}

-- Steps of threads that end
away-hushed : (x : Basic) → takes_away x ≡ true → is_hushed x ≡ true
away-hushed (Wakes who call status fields) is = refl
away-hushed (Withdraws who) is = refl
away-hushed (Empties q) is = refl
away-hushed (Unbinds b) is = refl
away-hushed (DropsOwned b) is = refl
away-hushed (Marks who) is = refl
away-hushed x is = absurd (cc)

pub die-hushed : (code : Status) (t : ThreadRow) (w : World) → AreHushed (die code t w)
die-hushed code t w = die-pass is_hushed away-hushed (λ n c. refl) (λ b. refl) code t w

-- Acts
hushed-tells : (w : World) (bs : List Basic) → AreHushed bs → TellsClosings w bs
hushed-tells w bs all = calm-tells w bs (calm-all bs all)

told-law : (by : ThreadRow) → Law by (Shut AnyWorld) AnyWorld TellsClosings
told-law by = record {
  keeps = λ w bs all _. tt;
  nothing = λ w. refl;
  follows = tells-append;
  says = λ w e. refl;
  numbers = λ w. refl;
  wakes = λ w status fields x. refl;
  marks = λ w who is. refl;
  abandons = λ w who. refl;
  debugs = λ w pid b stands live. refl;
  excepts = λ w pid b stands live. refl;
  dooms = λ w pid code. refl;
  takes = λ w m. hushed-tells w (take_steps m) (hushed-receipt m);
  listens = λ w m. hushed-tells w (take_connect_steps m) (hushed-receipt m);
  waits = λ w x off is. refl;
  sends = λ w m is. hushed-tells w (enter m w) (hushed-enter m w is.other);
  asks = λ w x m off wait post. let v = basic w (Awaits x) in calm-tells w (Awaits x ∷ enter m v) (calm-all (enter m v) (hushed-enter m v post.other));
  creates = λ w is. refl;
  founds = λ w name path free is. refl;
  connects = λ w connection offer bytes opens offers is.
      let row = row_of connection (client_port by connection) (connection_request by offer bytes) in
      let v = world_after w (connect_begun by connection offer (connection_request by offer bytes)) in
      calm-tells w (connect_act w by connection offer (connection_request by offer bytes)) (calm-all (enter row v) (hushed-enter row v refl));
  gives = λ w pid o access is. refl;
  accepts = λ w context m x a at is. refl;
  completes = λ w c is. refl;
  registers = λ w b stands. refl;
  spawns = λ w pid tid token new unused s. refl;
  starts = λ w tid pid live unused s. refl;
  closes = λ w pid r at s _. handle-tells w pid r at s;
  dies = λ w code t is. hushed-tells w (die code t w) (die-hushed code t w);
  leaves = λ w n b. refl;
  lets_go = λ w pid. refl;
  vacates = λ w pid. refl;
  disowns = λ w b. refl;
  secures = λ w b s. refl;
  acts = λ w own. refl;
  holds_token = λ w content. refl;
  builds = λ w size prot is. refl;
  maps = λ w pid v m. refl;
  unmaps = λ w pid base. refl;
  writes = λ w b place new. refl;
}

-- Lines
told-lines : LineLaw (Shut AnyWorld) (λ _. TellsClosings)
told-lines = passing-lines (Shut AnyWorld) TellsClosings (λ _. is_hushed) hushed-tells (λ w. record { tells = λ _. refl; processes = λ _ _ _. refl; threads = λ _ _ _. refl; binds = λ _ _. refl; names = λ _. refl }) (λ by. outcomes by (Shut AnyWorld) AnyWorld TellsClosings (told-law by) (λ w c. c))

-- before rows go
line-told : (w : World) (line : ScriptLine) → IsSoundWorld w → HasShutConnects w → IsReady (world_after w (own_steps line w)) → TellsClosings w (bare_steps line w)
line-told w line s shut ready = bare-does TellsClosings tells-append w line (line-does (Shut AnyWorld) (λ _. TellsClosings) told-lines w s (shut, tt) line) (settling-does (Shut AnyWorld) AnyWorld TellsClosings told-law (λ w tid _ _. tt) (world_after w (own_steps line w)) ready tt)

-- rows that go tell of nothing
pub closings_told : (w : World) (line : ScriptLine) → IsSoundWorld w → HasShutConnects w → IsReady (world_after w (own_steps line w)) → ClosingsAreTold w line
closings_told w line s shut ready =
    let bs = bare_steps line w in
    ap (λ (t : Stepped). which is_closed_post t.posts) (step_swept w line) ∙ (line-told w line s shut ready ∙ sym (told-before w bs (sweep (world_after w bs)) (sweep-dropless (world_after w bs))))
