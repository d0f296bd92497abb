-- A message is withdrawn with the wait of its thread: what ends a request or connect withdraws its message.
use Rattle.std.proofs.Common.{◌≡◌, ◌∙◌, ℕ, List, [], ◌∷◌, ◌++◌, Bool, true, false, Option, Some, None, ap, refl, subst, sym, arith, append_assoc}
use Rattle.std.specs.Prelude.{◌==◌, option_and_then, option_map}
use Rattle.std.proofs.lemmas.Bool.{eq-eqb}
use Rattle.lpc_base.specs.Rows.{each, every, given, has, when, which}
use Rattle.lpc_base.proofs.Bools.{first-true, second-true}
use Rattle.lpc_base.proofs.RowWords.{every-append, every-more}
use Rattle.lpc_base.specs.declared.status.Status.{Status}
use Rattle.lpc_base.specs.declared.status.TheConstants.{LPC_REPLY_LOST, PORT_DISCONNECTED}
use Rattle.lpc_model.proofs.Calls.Acts.{Law, connect_act, outcomes}
use Rattle.lpc_model.proofs.Calls.Lines.{AnyWorld, LineLaw, Shut, line-does, passing-lines}
use Rattle.lpc_model.proofs.Calls.Taking.{is_taking, taken_at_once, taking-entered, taking-receipt}
use Rattle.lpc_model.proofs.Steps.Closing.{behind, stage_five, stage_four, stage_one, stage_three, stage_two, stage_marked}
use Rattle.lpc_model.proofs.Steps.Sweep.{sweep_every}
use Rattle.lpc_model.specs.Basics.{Awaits, Basic, Cuts, Dies, DropsHandle, DropsOwned, Empties, Receives, Steps, Takes, TakesConnect, Wakes, Withdraws, basic, end_each, world_after, Marks}
use Rattle.lpc_model.specs.Close.{close_handle, close_port, closed_row, closing_post, cut_pair, drop_name, empty_queue, end_accepted, end_offered, end_receives, end_request, end_requests, is_accepted_across, is_last, is_offered_to, is_queued_request, is_receive_across, is_receiver, is_request_across, is_request_on, post_closed, server_of, wake, is_event_across, is_event_on, is_queued_event, mark_event, mark_events}
use Rattle.lpc_model.specs.Connect.{client_port, connection_request}
use Rattle.lpc_model.specs.Death.{end_client, die}
use Rattle.lpc_model.specs.Entering.{enter, received_steps, row_of, take_connect_steps, take_steps}
use Rattle.lpc_model.specs.Found.{is_accepted, is_connect, port_row, wait_of}
use Rattle.lpc_model.specs.Leaving.{WithdrawsWithWaits, ends_wait, withdrawn, withdraws}
use Rattle.lpc_model.specs.Lines.{ScriptLine}
use Rattle.lpc_model.specs.Machine.{bare_steps, steps, own_steps}
use Rattle.lpc_model.specs.SoundWaits.{HasShutConnects, IsSoundWorld}
use Rattle.lpc_model.specs.Sweep.{sweep}
use Rattle.lpc_model.specs.World.{Birth, Creator, HandleRow, MessageRow, PortRow, ThreadRow, WaitRow, World}
use Rattle.lpc_model.proofs.Calls.Sharing.{connect_begun}
use Rattle.lpc_model.proofs.Settling.Keeps.{bare-does, settling-does}
use Rattle.lpc_model.proofs.Settling.Settled.{IsReady}

-- Steps that withdraw nothing
abbrev is_staying : Basic → Bool
is_staying (Withdraws who) = false
is_staying b = true

abbrev AreStaying : List Basic → Type 0
AreStaying bs = every is_staying bs ≡ true

withdraws-none : (b : Basic) → is_staying b ≡ true → withdraws b ≡ []
withdraws-none (Withdraws who) is = absurd (cc)
withdraws-none b is = refl

none-withdrawn : (bs : List Basic) → AreStaying bs → withdrawn bs ≡ []
none-withdrawn [] all = refl
none-withdrawn (b ∷ bs) all =
    rw (withdraws-none b (first-true (is_staying b) (every is_staying bs) all)) (none-withdrawn bs (second-true (is_staying b) (every is_staying bs) all))

staying : (bs : List Basic) → AreStaying bs → WithdrawsWithWaits bs
staying bs all = rw (none-withdrawn bs all) refl

-- One behind the other
withdrawn-append : (xs ys : List Basic) → withdrawn (xs ++ ys) ≡ withdrawn xs ++ withdrawn ys
withdrawn-append [] ys = refl
withdrawn-append (x ∷ xs) ys = ap (λ ns. withdraws x ++ ns) (withdrawn-append xs ys) ∙ sym (append_assoc (withdraws x) (withdrawn xs) (withdrawn ys))

has-front : {X : Type 0} (p : X → Bool) (xs ys : List X) → has p xs ≡ true → has p (xs ++ ys) ≡ true
has-front p [] ys is = absurd (cc)
has-front p (x ∷ xs) ys is = at (p x) refl (has-front p xs ys)
  where
    at : (b : Bool) → p x ≡ b → (has p xs ≡ true → has p (xs ++ ys) ≡ true) → has p (x ∷ xs ++ ys) ≡ true
    at true here later = grind (arith, here)
    at false off later = let rest = later (grind (arith, is, off)) in grind (arith, rest)

has-back : {X : Type 0} (p : X → Bool) (xs ys : List X) → has p ys ≡ true → has p (xs ++ ys) ≡ true
has-back p [] ys is = is
has-back p (x ∷ xs) ys is = let rest = has-back p xs ys is in grind (arith, rest)

both : (xs ys : List Basic) → WithdrawsWithWaits xs → WithdrawsWithWaits ys → WithdrawsWithWaits (xs ++ ys)
both xs ys one two =
    subst (λ ns. every (λ who. has (ends_wait who) (xs ++ ys)) ns ≡ true) (sym (withdrawn-append xs ys))
    (every-append (λ who. has (ends_wait who) (xs ++ ys)) (withdrawn xs) (withdrawn ys)
    (every-more (λ who. has (ends_wait who) xs) (λ who. has (ends_wait who) (xs ++ ys)) (λ who is. has-front (ends_wait who) xs ys is) (withdrawn xs) one)
    (every-more (λ who. has (ends_wait who) ys) (λ who. has (ends_wait who) (xs ++ ys)) (λ who is. has-back (ends_wait who) xs ys is) (withdrawn ys) two))

-- a wait that ends, and its message
same-thread : (n : ℕ) → (n == n) ≡ true
same-thread n = eq-eqb n n refl

ended : (who : ℕ) (b : Basic) → ends_wait who b ≡ true → WithdrawsWithWaits (b ∷ Withdraws who ∷ [])
ended who (Wakes thread call status fields) is = rw is refl
ended who (Dies thread status) is = rw is refl
ended who (Marks thread) is = rw is refl
ended who b is = absurd (cc)

-- Messages that enter
taking-stays : (b : Basic) → is_taking b ≡ true → is_staying b ≡ true
taking-stays (Takes queue) is = refl
taking-stays (TakesConnect queue) is = refl
taking-stays (Receives who queue) is = refl
taking-stays (Wakes who call status fields) is = refl
taking-stays b is = absurd (cc)

stays-receipt : (m : MessageRow) → AreStaying (received_steps m)
stays-receipt m = every-more is_taking is_staying taking-stays (received_steps m) (taking-receipt m)

stays-enter : (m : MessageRow) (w : World) → AreStaying (enter m w)
stays-enter m w = every-more is_taking is_staying taking-stays (taken_at_once m w) (taking-entered m w)

-- Waits that end
each-ends : (ending : WaitRow → List Basic) → ((x : WaitRow) → WithdrawsWithWaits (ending x)) → (xs : List WaitRow) → WithdrawsWithWaits (each ending xs)
each-ends ending all [] = refl
each-ends ending all (x ∷ xs) = both (ending x) (each ending xs) (all x) (each-ends ending all xs)

waits-end : (test : World → WaitRow → Bool) (ending : WaitRow → List Basic) → ((x : WaitRow) → WithdrawsWithWaits (ending x)) → (w : World) → WithdrawsWithWaits (end_each test ending w)
waits-end test ending all w = each-ends ending all (which (test w) w.waits)

request-ends : (status : Status) (x : WaitRow) → WithdrawsWithWaits (end_request status x)
request-ends status x = rw (same-thread x.thread) refl

mark-ends : (x : WaitRow) → WithdrawsWithWaits (mark_event x)
mark-ends x = rw (same-thread x.thread) refl

offer-ends : (x : WaitRow) → WithdrawsWithWaits (end_offered x)
offer-ends x = rw (same-thread x.thread) refl

pair-ends : (b : Birth) (w : World) → WithdrawsWithWaits (cut_pair b w)
pair-ends b w =
    let requests : Steps = end_each (is_request_across b) (end_request LPC_REPLY_LOST) in
    let receives : Steps = end_each (is_receive_across b) (wake PORT_DISCONNECTED) in
    let accepts : Steps = end_each (is_accepted_across b) end_accepted in
    let events : Steps = end_each (is_event_across b) mark_event in
    let t = behind requests w in
    let v = behind events t in
    let u = behind receives v in
    both (requests w) (events t ++ (receives v ++ (accepts u ++ Cuts b ∷ []))) (waits-end (is_request_across b) (end_request LPC_REPLY_LOST) (request-ends LPC_REPLY_LOST) w)
    (both (events t) (receives v ++ (accepts u ++ Cuts b ∷ [])) (waits-end (is_event_across b) mark_event mark-ends t)
    (both (receives v) (accepts u ++ Cuts b ∷ []) (waits-end (is_receive_across b) (wake PORT_DISCONNECTED) (λ x. refl) v)
    (both (accepts u) (Cuts b ∷ []) (waits-end (is_accepted_across b) end_accepted (λ x. refl) u) refl)))

-- A thread that ends
die-ends : (code : Status) (t : ThreadRow) (w : World) → WithdrawsWithWaits (die code t w)
die-ends code t w =
    both first (end_client (wait_of w t.number) v) (rw (same-thread t.number) refl) (at (wait_of w t.number))
  where
    first : List Basic
    first = Dies t.number code ∷ Withdraws t.number ∷ []

    v : World
    v = world_after w first

    accepted : (x : WaitRow) (is : Bool) → WithdrawsWithWaits (when is (cut_pair x.port v))
    accepted x true = pair-ends x.port v
    accepted x false = refl

    own : (x : WaitRow) (c : Bool) → WithdrawsWithWaits (when c (DropsOwned x.port ∷ []))
    own x true = refl
    own x false = refl

    at : (o : Option WaitRow) → WithdrawsWithWaits (end_client o v)
    at None = refl
    at (Some x) = both (when (is_accepted x) (cut_pair x.port v)) _ (accepted x (is_accepted x)) (own x (is_connect x))

-- A port that is closed
post-stays : (b : Birth) (w : World) → AreStaying (post_closed b w)
post-stays b w = at (port_row w b)
  where
    by_creator : (p : PortRow) (queue : Birth) (o : Option Creator) → AreStaying (given (option_map (closed_row p queue) o) (λ m. enter m w))
    by_creator p queue None = refl
    by_creator p queue (Some by) = stays-enter (closed_row p queue by) w

    queued : (p : PortRow) (o : Option Birth) → AreStaying (given (option_and_then (λ queue. option_map (closed_row p queue) p.creator) o) (λ m. enter m w))
    queued p None = refl
    queued p (Some queue) = by_creator p queue p.creator

    at : (o : Option PortRow) → AreStaying (given o (λ p. given (closing_post w p) (λ m. enter m w)))
    at None = refl
    at (Some p) = queued p (server_of w p)

queue-ends : (b : Birth) (w : World) → WithdrawsWithWaits (empty_queue b w)
queue-ends b w =
    let requests : Steps = end_each (λ w. is_queued_request b) (end_request LPC_REPLY_LOST) in
    let offers : Steps = end_each (λ w. is_offered_to b) end_offered in
    let events : Steps = end_each (is_queued_event b) mark_event in
    let t = behind requests w in
    let v = behind events t in
    both (requests w) (events t ++ (offers v ++ Empties b ∷ [])) (waits-end (λ w. is_queued_request b) (end_request LPC_REPLY_LOST) (request-ends LPC_REPLY_LOST) w)
    (both (events t) (offers v ++ Empties b ∷ []) (waits-end (is_queued_event b) mark_event mark-ends t)
    (both (offers v) (Empties b ∷ []) (waits-end (λ w. is_offered_to b) end_offered offer-ends v) refl))

close-ends : (b : Birth) (w : World) → WithdrawsWithWaits (close_port b w)
unfolding close_port
close-ends b w =
    let seven : List Basic = DropsOwned b ∷ [] in
    let six = post_closed b (stage_five w b) ++ seven in
    let five = cut_pair b (stage_four w b) ++ six in
    let four = empty_queue b (stage_marked w b) ++ five in
    let marked = mark_events b (stage_three w b) ++ four in
    let three = end_requests b (stage_two w b) ++ marked in
    let two = end_receives b (stage_one w b) ++ three in
    both (drop_name b w) two refl
    (both (end_receives b (stage_one w b)) three (waits-end (λ w. is_receiver b) (wake PORT_DISCONNECTED) (λ x. refl) (stage_one w b))
    (both (end_requests b (stage_two w b)) marked (waits-end (λ w. is_request_on b) (end_request PORT_DISCONNECTED) (request-ends PORT_DISCONNECTED) (stage_two w b))
    (both (mark_events b (stage_three w b)) four (waits-end (is_event_on b) mark_event mark-ends (stage_three w b))
    (both (empty_queue b (stage_marked w b)) five (queue-ends b (stage_marked w b))
    (both (cut_pair b (stage_four w b)) six (pair-ends b (stage_four w b)) (both (post_closed b (stage_five w b)) seven (staying (post_closed b (stage_five w b)) (post-stays b (stage_five w b))) refl))))))

handle-ends : (w : World) (pid : ℕ) (r : HandleRow) → WithdrawsWithWaits (close_handle pid r w)
handle-ends w pid r = at (is_last r w)
  where
    at : (last : Bool) → WithdrawsWithWaits (when last (close_port r.object.birth w) ++ DropsHandle pid r.value ∷ [])
    at true = both (close_port r.object.birth w) (DropsHandle pid r.value ∷ []) (close-ends r.object.birth w) refl
    at false = refl

-- Acts
abbrev Ends : World → List Basic → Type 0
Ends w bs = WithdrawsWithWaits bs

ends-law : (by : ThreadRow) → Law by (Shut AnyWorld) AnyWorld Ends
ends-law by = record {
  keeps = λ w bs all _. tt;
  nothing = λ w. refl;
  follows = λ w xs ys one two. both xs ys one two;
  says = λ w e. refl;
  numbers = λ w. refl;
  wakes = λ w status fields x. refl;
  marks = λ w who is. refl;
  abandons = λ w who. refl;
  debugs = λ w pid b stands live. refl;
  excepts = λ w pid b stands live. refl;
  dooms = λ w pid code. refl;
  takes = λ w m. staying (take_steps m) (stays-receipt m);
  listens = λ w m. staying (take_connect_steps m) (stays-receipt m);
  waits = λ w x off is. refl;
  sends = λ w m is. staying (enter m w) (stays-enter m w);
  asks = λ w x m off wait post. let v = basic w (Awaits x) in staying (Awaits x ∷ enter m v) (stays-enter m v);
  creates = λ w is. refl;
  founds = λ w name path free is. refl;
  connects = λ w connection offer bytes opens offers is.
      let row = row_of connection (client_port by connection) (connection_request by offer bytes) in
      let v = world_after w (connect_begun by connection offer (connection_request by offer bytes)) in
      staying (connect_act w by connection offer (connection_request by offer bytes)) (stays-enter row v);
  gives = λ w pid o access is. refl;
  accepts = λ w context m x a at is. refl;
  completes = λ w c is. refl;
  registers = λ w b stands. refl;
  spawns = λ w pid tid token new unused s. refl;
  starts = λ w tid pid live unused s. refl;
  closes = λ w pid r at s _. handle-ends w pid r;
  dies = λ w code t is. die-ends code t w;
  leaves = λ w n b. refl;
  lets_go = λ w pid. refl;
  vacates = λ w pid. refl;
  disowns = λ w b. refl;
  secures = λ w b s. refl;
  acts = λ w own. refl;
  holds_token = λ w content. refl;
  builds = λ w size prot is. refl;
  maps = λ w pid v m. refl;
  unmaps = λ w pid base. refl;
  writes = λ w b place new. refl;
}

-- Lines
ends-lines : LineLaw (Shut AnyWorld) (λ _. Ends)
ends-lines = passing-lines (Shut AnyWorld) Ends (λ _. is_staying) (λ w bs all. staying bs all) (λ w. record { tells = λ _. refl; processes = λ _ _ _. refl; threads = λ _ _ _. refl; binds = λ _ _. refl; names = λ _. refl }) (λ by. outcomes by (Shut AnyWorld) AnyWorld Ends (ends-law by) (λ w c. c))

-- and rows that go withdraw nothing
pub line_withdraws : (w : World) (line : ScriptLine) → IsSoundWorld w → HasShutConnects w → IsReady (world_after w (own_steps line w)) → WithdrawsWithWaits (steps line w)
line_withdraws w line s shut ready =
    let bs = bare_steps line w in
    let v = world_after w bs in
    let bare = bare-does Ends (λ w. both) w line (line-does (Shut AnyWorld) (λ _. Ends) ends-lines w s (shut, tt) line) (settling-does (Shut AnyWorld) AnyWorld Ends ends-law (λ w tid _ _. tt) (world_after w (own_steps line w)) ready tt) in
    both bs (sweep v) bare (staying (sweep v) (sweep_every is_staying (λ _. refl) v))
