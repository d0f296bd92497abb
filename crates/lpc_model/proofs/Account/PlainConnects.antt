-- Each line keeps connection requests without a context: none with another one enters a queue.
use Rattle.std.proofs.Common.{◌≡◌, ℕ, List, [], ◌∷◌, ◌++◌, Bool, true, false, Option, Some, None, refl}
use Rattle.std.specs.Prelude.{option_and_then, option_map}
use Rattle.std.specs.List.{AllByRecursion}
use Rattle.std.proofs.lemmas.Bool.{and_from}
use Rattle.lpc_base.specs.Rows.{every, given, when}
use Rattle.lpc_base.proofs.Bools.{first-true, second-true}
use Rattle.lpc_base.proofs.RowMaps.{every-without_first}
use Rattle.lpc_base.proofs.RowWords.{every-append, every-more, every-push, every-without}
use Rattle.lpc_base.specs.declared.birth.Birth.{Birth}
use Rattle.lpc_model.specs.declared.entry.ObjectKind.{ObjectKind}
use Rattle.lpc_model.specs.declared.entry.ObjectKind.TheVariants as kind
use Rattle.lpc_model.specs.World.{Creator, HandleRow, MessageRow, PortRow, ThreadRow, World, no_rows}
use Rattle.lpc_model.specs.Found.{is_own_of, is_queued, is_queued_connect, port_row}
use Rattle.lpc_model.specs.Basics.{Awaits, Basic, DropsHandle, DropsOwned, Empties, Enters, Frees, Marks, Receives, Takes, TakesConnect, Unbinds, Wakes, Withdraws, basic, freed, posts_of, world_after}
use Rattle.lpc_model.specs.Close.{close_handle, close_port, closed_row, closing_post, is_last, post_closed, server_of}
use Rattle.lpc_model.specs.Connect.{client_port, connection_request}
use Rattle.lpc_model.specs.Entering.{enter, received_steps, row_of}
use Rattle.lpc_model.specs.Lines.{ScriptLine}
use Rattle.lpc_model.specs.Machine.{bare_steps, own_steps, step, steps}
use Rattle.lpc_model.specs.Run.{said_in, trace}
use Rattle.lpc_model.specs.Lawful.{IsLawfulWorld}
use Rattle.lpc_model.specs.PlainConnects.{HasPlainConnects, IsPlainStep, RunHasPlainConnects, is_plain_connect}
use Rattle.lpc_model.specs.SoundWaits.{HasShutConnects, IsSoundWorld}
use Rattle.lpc_model.specs.Sweep.{sweep}
use Rattle.lpc_model.proofs.Calls.Acts.{Law, outcomes}
use Rattle.lpc_model.proofs.Calls.Lines.{AnyWorld, LineLaw, Shut, line-does, passing-lines}
use Rattle.lpc_model.proofs.Calls.Sharing.{connect_begun}
use Rattle.lpc_model.proofs.Calls.Taking.{is_taking, taken_at_once, taking-entered, taking-receipt}
use Rattle.lpc_model.proofs.Runs.{lawful_none, lawful_step, lawful-readied}
use Rattle.lpc_model.proofs.Settling.Keeps.{bare-does, settling-does}
use Rattle.lpc_model.proofs.Settling.Settled.{IsReady}
use Rattle.lpc_model.proofs.Steps.Closing.{close-pass, stage_five, takes_away}
use Rattle.lpc_model.proofs.Steps.Ending.{die-pass}
use Rattle.lpc_model.proofs.Steps.InTurn.{steps-keep}
use Rattle.lpc_model.proofs.Steps.Sweep.{sweep_every}

-- Steps
-- what enters a queue is no connection request, or has context 0
abbrev sends_plain : Basic → Bool
sends_plain (Enters m) = is_plain_connect m
sends_plain b = true

abbrev ArePlainSent : List Basic → Type 0
ArePlainSent bs = every sends_plain bs ≡ true

taking-plain : (b : Basic) → is_taking b ≡ true → sends_plain b ≡ true
taking-plain (Takes queue) is = refl
taking-plain (TakesConnect queue) is = refl
taking-plain (Receives who queue) is = refl
taking-plain (Wakes who call status fields) is = refl
taking-plain b is = absurd (cc)

plain-receipt : (m : MessageRow) → ArePlainSent (received_steps m)
plain-receipt m = every-more is_taking sends_plain taking-plain (received_steps m) (taking-receipt m)

plain-enter : (m : MessageRow) (w : World) → is_plain_connect m ≡ true → ArePlainSent (enter m w)
plain-enter m w is = and_from (is_plain_connect m) _ is (every-more is_taking sends_plain taking-plain (taken_at_once m w) (taking-entered m w))

away-plain : (x : Basic) → takes_away x ≡ true → sends_plain x ≡ true
away-plain (Wakes who call status fields) is = refl
away-plain (Withdraws who) is = refl
away-plain (Empties q) is = refl
away-plain (Unbinds b) is = refl
away-plain (DropsOwned b) is = refl
away-plain (Marks who) is = refl
away-plain x is = absurd (cc)

plain-closed : (b : Birth) (w : World) → ArePlainSent (post_closed b w)
plain-closed b w = at (port_row w b)
  where
    by_creator : (p : PortRow) (queue : Birth) (o : Option Creator) → ArePlainSent (given (option_map (closed_row p queue) o) (λ m. enter m w))
    by_creator p queue None = refl
    by_creator p queue (Some by) = plain-enter (closed_row p queue by) w refl

    queued : (p : PortRow) (o : Option Birth) → ArePlainSent (given (option_and_then (λ queue. option_map (closed_row p queue) p.creator) o) (λ m. enter m w))
    queued p None = refl
    queued p (Some queue) = by_creator p queue p.creator

    at : (o : Option PortRow) → ArePlainSent (given o (λ p. given (closing_post w p) (λ m. enter m w)))
    at None = refl
    at (Some p) = queued p (server_of w p)

plain-handle : (w : World) (pid : ℕ) (r : HandleRow) → ArePlainSent (close_handle pid r w)
plain-handle w pid r = at (is_last r w)
  where
    b : Birth
    b = r.object.birth

    at : (last : Bool) → ArePlainSent (when last (close_port b w) ++ DropsHandle pid r.value ∷ [])
    at true = every-append sends_plain (close_port b w) (DropsHandle pid r.value ∷ []) (close-pass sends_plain away-plain b w refl (plain-closed b (stage_five w b))) refl
    at false = refl

-- Worlds
freed-plain : (w : World) (k : ObjectKind) (b : Birth) → HasPlainConnects w → HasPlainConnects (freed w k b)
freed-plain w kind.Port b q = q
freed-plain w kind.Section b q = q
freed-plain w kind.Token b q = q
freed-plain w kind.Process b q = q
freed-plain w kind.Thread b q = q

plain-step : (w : World) (b : Basic) → sends_plain b ≡ true → HasPlainConnects w → HasPlainConnects (basic w b)
plain-step w (Enters m) is q = every-push is_plain_connect w.messages m q is
plain-step w (Takes queue) is q = every-without_first is_plain_connect (is_queued queue) w.messages q
plain-step w (TakesConnect queue) is q = every-without_first is_plain_connect (is_queued_connect queue) w.messages q
plain-step w (Withdraws who) is q = every-without is_plain_connect (is_own_of who) w.messages q
plain-step w (Empties queue) is q = every-without is_plain_connect (is_queued queue) w.messages q
plain-step w (Frees o) is q = freed-plain w o.kind o.birth q
plain-step w b is q = q

plain-all : (w : World) (bs : List Basic) → ArePlainSent bs → HasPlainConnects w → HasPlainConnects (world_after w bs)
plain-all = steps-keep sends_plain HasPlainConnects plain-step

-- Posts
plain-posts : (bs : List Basic) → ArePlainSent bs → every is_plain_connect (posts_of bs) ≡ true
plain-posts [] all = refl
plain-posts (Enters m ∷ bs) all =
    and_from (is_plain_connect m) _ (first-true (is_plain_connect m) (every sends_plain bs) all) (plain-posts bs (second-true (is_plain_connect m) (every sends_plain bs) all))
plain-posts (b ∷ bs) all = plain-posts bs (second-true (sends_plain b) (every sends_plain bs) all)

-- Acts
abbrev Plain : World → List Basic → Type 0
Plain w bs = ArePlainSent bs

plain-law : (by : ThreadRow) → Law by (Shut AnyWorld) AnyWorld Plain
plain-law by = record {
  keeps = λ w bs all _. tt;
  nothing = λ w. refl;
  follows = λ w xs ys one two. every-append sends_plain xs ys one two;
  says = λ w e. refl;
  numbers = λ w. refl;
  wakes = λ w status fields x. refl;
  marks = λ w who is. refl;
  abandons = λ w who. refl;
  debugs = λ w pid b stands live. refl;
  excepts = λ w pid b stands live. refl;
  dooms = λ w pid code. refl;
  takes = λ w m. plain-receipt m;
  listens = λ w m. plain-receipt m;
  waits = λ w x off is. refl;
  sends = λ w m is. plain-enter m w is.plain;
  asks = λ w x m off wait post. plain-enter m (basic w (Awaits x)) post.plain;
  creates = λ w is. refl;
  founds = λ w name path free is. refl;
  connects = λ w connection offer bytes opens offers is.
      let m = connection_request by offer bytes in
      plain-enter (row_of connection (client_port by connection) m) (world_after w (connect_begun by connection offer m)) refl;
  gives = λ w pid o access is. refl;
  accepts = λ w context m x a at is. refl;
  completes = λ w c is. refl;
  registers = λ w b stands. refl;
  spawns = λ w pid tid token new unused s. refl;
  starts = λ w tid pid live unused s. refl;
  closes = λ w pid r at s _. plain-handle w pid r;
  dies = λ w code t is. die-pass sends_plain away-plain (λ n c. refl) (λ b. refl) code t w;
  leaves = λ w n b. refl;
  lets_go = λ w pid. refl;
  vacates = λ w pid. refl;
  disowns = λ w b. refl;
  secures = λ w b s. refl;
  acts = λ w own. refl;
  holds_token = λ w content. refl;
  builds = λ w size prot is. refl;
  maps = λ w pid v m. refl;
  unmaps = λ w pid base. refl;
  writes = λ w b place new. refl;
}

-- Lines
plain-lines : LineLaw (Shut AnyWorld) (λ _. Plain)
plain-lines = passing-lines (Shut AnyWorld) Plain (λ _. sends_plain) (λ w bs all. all) (λ w. record { tells = λ _. refl; processes = λ _ _ _. refl; threads = λ _ _ _. refl; binds = λ _ _. refl; names = λ _. refl }) (λ by. outcomes by (Shut AnyWorld) AnyWorld Plain (plain-law by) (λ w c. c))

plain-line : (w : World) (line : ScriptLine) → IsSoundWorld w → HasShutConnects w → IsReady (world_after w (own_steps line w)) → ArePlainSent (steps line w)
plain-line w line s shut ready =
    let bs = bare_steps line w in
    let v = world_after w bs in
    let own = line-does (Shut AnyWorld) (λ _. Plain) plain-lines w s (shut, tt) line in
    let bare = bare-does Plain (λ w xs ys one two. every-append sends_plain xs ys one two) w line own (settling-does (Shut AnyWorld) AnyWorld Plain plain-law (λ w tid _ _. tt) (world_after w (own_steps line w)) ready tt) in
    every-append sends_plain bs (sweep v) bare (sweep_every sends_plain (λ _. refl) v)

-- what stands behind the line, and what it posts
pub plain_step : (w : World) (line : ScriptLine) → IsSoundWorld w → HasShutConnects w → IsReady (world_after w (own_steps line w)) → HasPlainConnects w → IsPlainStep (step w line)
plain_step w line s shut ready q =
    let all = plain-line w line s shut ready in
    record { queued = plain-all w (steps line w) all q; posted = plain-posts (steps line w) all }

-- Runs
plain-trace : (w : World) (lines : List (Option ScriptLine)) → IsLawfulWorld w → HasPlainConnects w → AllByRecursion IsPlainStep (trace w lines)
unfolding trace
plain-trace w [] l q = tt
plain-trace w (None ∷ later) l q = (record { queued = q; posted = refl }, plain-trace w later l q)
plain-trace w (Some line ∷ later) l q =
    let shut = l.single_closings in
    let there = plain_step w line l.sound shut.connects (lawful-readied w line l) q in
    (there, plain-trace (step w line).world later (lawful_step w line l) there.queued)

pub plain_run : (script : List ℕ) → RunHasPlainConnects script
plain_run script = plain-trace no_rows (said_in script) lawful_none refl
