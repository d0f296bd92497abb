-- A line empties the queues of the ports that lose their last handles in it, and no other.
use Rattle.std.proofs.Common.{◌≡◌, ◌≤◌, ◌∙◌, ℕ, List, [], ◌∷◌, ◌++◌, Bool, true, false, Option, Some, None, ap, refl, subst, sym, append-nil, append_assoc}
use Rattle.std.specs.Prelude.{option_and_then, option_map}
use Rattle.lpc_base.specs.Rows.{count, each, every, given, when, which}
use Rattle.lpc_base.proofs.Bools.{first-true, second-true}
use Rattle.lpc_base.proofs.RowWords.{every-append, every-more}
use Rattle.lpc_base.specs.declared.status.Status.{Status}
use Rattle.lpc_base.specs.declared.status.TheConstants.{LPC_REPLY_LOST, PORT_DISCONNECTED}
use Rattle.lpc_model.proofs.Calls.Acts.{Law, connect_act, outcomes}
use Rattle.lpc_model.proofs.Calls.Lines.{AnyWorld, LineLaw, Shut, line-does, passing-lines}
use Rattle.lpc_model.proofs.Closings.Told.{close-dropless, dropless-basic, is_dropless, same-last}
use Rattle.lpc_model.proofs.Calls.Taking.{is_taking, taken_at_once, taking-entered, taking-receipt}
use Rattle.lpc_model.proofs.Sound.Close.{last-shuts, shut-found}
use Rattle.lpc_model.proofs.Sound.Closing.{close-shut}
use Rattle.lpc_model.proofs.Steps.Closing.{behind, stage_five, stage_four, stage_one, stage_three, stage_two, stage_marked}
use Rattle.lpc_model.proofs.Steps.Sweep.{sweep_every}
use Rattle.lpc_model.specs.Basics.{Awaits, Basic, Cuts, Dies, DropsHandle, DropsOwned, Empties, Receives, Steps, Takes, TakesConnect, Wakes, Withdraws, basic, end_each, world_after}
use Rattle.lpc_model.specs.Close.{close_handle, close_port, closed_row, closing_post, cut_pair, drop_name, empty_queue, end_accepted, end_offered, end_receives, end_request, end_requests, is_accepted_across, is_last, is_offered_to, is_queued_request, is_receive_across, is_receiver, is_request_across, is_request_on, post_closed, server_of, wake, is_event_across, is_event_on, is_queued_event, mark_event, mark_events}
use Rattle.lpc_model.specs.Closings.{closes, shuts}
use Rattle.lpc_model.specs.Connect.{client_port, connection_request}
use Rattle.lpc_model.specs.Death.{end_client, die}
use Rattle.lpc_model.specs.Entering.{enter, received_steps, row_of, take_connect_steps, take_steps}
use Rattle.lpc_model.specs.Found.{handle_at, is_accepted, is_connect, is_table, port_row, wait_of}
use Rattle.lpc_model.specs.Leaving.{EmptiesWithHandles, closed, emptied, empties}
use Rattle.lpc_model.specs.Lines.{ScriptLine}
use Rattle.lpc_model.specs.Machine.{bare_steps, own_steps}
use Rattle.lpc_model.specs.SoundWaits.{HasShutConnects, IsSoundWorld}
use Rattle.lpc_model.specs.Sweep.{sweep}
use Rattle.lpc_model.specs.World.{Birth, Creator, HandleRow, HandleTable, MessageRow, PortRow, ThreadRow, WaitRow, World}
use Rattle.lpc_model.proofs.Calls.Sharing.{connect_begun}
use Rattle.lpc_model.proofs.Settling.Keeps.{bare-does, settling-does}
use Rattle.lpc_model.proofs.Settling.Settled.{IsReady}

-- Still steps
-- a step empties no queue, and no handle goes by it
abbrev pub is_still : Basic → Bool
is_still (Empties queue) = false
is_still (DropsHandle pid value) = false
is_still b = true

abbrev AreStill : List Basic → Type 0
AreStill bs = every is_still bs ≡ true

-- what some steps empty is what they close
abbrev Empty : World → List Basic → Type 0
Empty w bs = emptied bs ≡ closed w bs

empties-none : (b : Basic) → is_still b ≡ true → empties b ≡ []
empties-none (Empties queue) is = absurd (cc)
empties-none b is = refl

still-dropless : (b : Basic) → is_still b ≡ true → is_dropless b ≡ true
still-dropless (DropsHandle pid value) is = absurd (cc)
still-dropless b is = refl

still-emptied : (bs : List Basic) → AreStill bs → emptied bs ≡ []
still-emptied [] all = refl
still-emptied (b ∷ bs) all =
    rw (empties-none b (first-true (is_still b) (every is_still bs) all)) (still-emptied bs (second-true (is_still b) (every is_still bs) all))

dropless-closed : (w : World) (bs : List Basic) → every is_dropless bs ≡ true → closed w bs ≡ []
dropless-closed w [] all = refl
dropless-closed w (b ∷ bs) all =
    rw (dropless-basic w b (first-true (is_dropless b) (every is_dropless bs) all)) (dropless-closed (basic w b) bs (second-true (is_dropless b) (every is_dropless bs) all))

still : (w : World) (bs : List Basic) → AreStill bs → Empty w bs
still w bs all = still-emptied bs all ∙ sym (dropless-closed w bs (every-more is_still is_dropless still-dropless bs all))

-- One behind the other
emptied-append : (xs ys : List Basic) → emptied (xs ++ ys) ≡ emptied xs ++ emptied ys
emptied-append [] ys = refl
emptied-append (x ∷ xs) ys = ap (λ bs. empties x ++ bs) (emptied-append xs ys) ∙ sym (append_assoc (empties x) (emptied xs) (emptied ys))

closed-append : (w : World) (xs ys : List Basic) → closed w (xs ++ ys) ≡ closed w xs ++ closed (world_after w xs) ys
closed-append w [] ys = refl
closed-append w (x ∷ xs) ys = ap (λ bs. closes w x ++ bs) (closed-append (basic w x) xs ys) ∙ sym (append_assoc (closes w x) (closed (basic w x) xs) (closed (world_after (basic w x) xs) ys))

empty-append : (w : World) (xs ys : List Basic) → Empty w xs → Empty (world_after w xs) ys → Empty w (xs ++ ys)
empty-append w xs ys one two =
    emptied-append xs ys ∙ (ap (λ bs. bs ++ emptied ys) one ∙ (ap (λ bs. closed w xs ++ bs) two ∙ sym (closed-append w xs ys)))

-- behind still steps, and before them
emptied-behind : (xs ys : List Basic) → AreStill xs → emptied (xs ++ ys) ≡ emptied ys
emptied-behind xs ys all = emptied-append xs ys ∙ ap (λ bs. bs ++ emptied ys) (still-emptied xs all)

emptied-before : (xs ys : List Basic) → AreStill ys → emptied (xs ++ ys) ≡ emptied xs
emptied-before xs ys all = emptied-append xs ys ∙ (ap (λ bs. emptied xs ++ bs) (still-emptied ys all) ∙ append-nil (emptied xs))

-- Messages that enter
taking-still : (b : Basic) → is_taking b ≡ true → is_still b ≡ true
taking-still (Takes queue) is = refl
taking-still (TakesConnect queue) is = refl
taking-still (Receives who queue) is = refl
taking-still (Wakes who call status fields) is = refl
taking-still b is = absurd (cc)

still-receipt : (m : MessageRow) → AreStill (received_steps m)
still-receipt m = every-more is_taking is_still taking-still (received_steps m) (taking-receipt m)

still-enter : (m : MessageRow) (w : World) → AreStill (enter m w)
still-enter m w = every-more is_taking is_still taking-still (taken_at_once m w) (taking-entered m w)

-- Waits that end
each-still : (ending : WaitRow → List Basic) → ((x : WaitRow) → AreStill (ending x)) → (xs : List WaitRow) → AreStill (each ending xs)
each-still ending all [] = refl
each-still ending all (x ∷ xs) = every-append is_still (ending x) (each ending xs) (all x) (each-still ending all xs)

ends-still : (test : World → WaitRow → Bool) (ending : WaitRow → List Basic) → ((x : WaitRow) → AreStill (ending x)) → (w : World) → AreStill (end_each test ending w)
ends-still test ending all w = each-still ending all (which (test w) w.waits)

pair-still : (b : Birth) (w : World) → AreStill (cut_pair b w)
pair-still b w =
    let requests : Steps = end_each (is_request_across b) (end_request LPC_REPLY_LOST) in
    let receives : Steps = end_each (is_receive_across b) (wake PORT_DISCONNECTED) in
    let accepts : Steps = end_each (is_accepted_across b) end_accepted in
    let events : Steps = end_each (is_event_across b) mark_event in
    let t = behind requests w in
    let v = behind events t in
    let u = behind receives v in
    every-append is_still (requests w) _ (ends-still (is_request_across b) (end_request LPC_REPLY_LOST) (λ x. refl) w)
    (every-append is_still (events t) _ (ends-still (is_event_across b) mark_event (λ x. refl) t)
    (every-append is_still (receives v) _ (ends-still (is_receive_across b) (wake PORT_DISCONNECTED) (λ x. refl) v)
    (every-append is_still (accepts u) (Cuts b ∷ []) (ends-still (is_accepted_across b) end_accepted (λ x. refl) u) refl)))

-- A thread that ends
die-still : (code : Status) (t : ThreadRow) (w : World) → AreStill (die code t w)
die-still code t w = at (wait_of w t.number)
  where
    v : World
    v = world_after w (Dies t.number code ∷ Withdraws t.number ∷ [])

    accepted : (x : WaitRow) (is : Bool) → AreStill (when is (cut_pair x.port v))
    accepted x true = pair-still x.port v
    accepted x false = refl

    own : (x : WaitRow) (c : Bool) → AreStill (when c (DropsOwned x.port ∷ []))
    own x true = refl
    own x false = refl

    at : (o : Option WaitRow) → AreStill (end_client o v)
    at None = refl
    at (Some x) = every-append is_still (when (is_accepted x) (cut_pair x.port v)) _ (accepted x (is_accepted x)) (own x (is_connect x))

-- A port that is closed
post-still : (b : Birth) (w : World) → AreStill (post_closed b w)
post-still b w = at (port_row w b)
  where
    by_creator : (p : PortRow) (queue : Birth) (o : Option Creator) → AreStill (given (option_map (closed_row p queue) o) (λ m. enter m w))
    by_creator p queue None = refl
    by_creator p queue (Some by) = still-enter (closed_row p queue by) w

    queued : (p : PortRow) (o : Option Birth) → AreStill (given (option_and_then (λ queue. option_map (closed_row p queue) p.creator) o) (λ m. enter m w))
    queued p None = refl
    queued p (Some queue) = by_creator p queue p.creator

    at : (o : Option PortRow) → AreStill (given o (λ p. given (closing_post w p) (λ m. enter m w)))
    at None = refl
    at (Some p) = queued p (server_of w p)

-- its queue is emptied, and no other
queue-emptied : (b : Birth) (w : World) → emptied (empty_queue b w) ≡ b ∷ []
queue-emptied b w =
    let requests : Steps = end_each (λ w. is_queued_request b) (end_request LPC_REPLY_LOST) in
    let offers : Steps = end_each (λ w. is_offered_to b) end_offered in
    let events : Steps = end_each (is_queued_event b) mark_event in
    let t = behind requests w in
    let v = behind events t in
    emptied-behind (requests w) (events t ++ (offers v ++ Empties b ∷ [])) (ends-still (λ w. is_queued_request b) (end_request LPC_REPLY_LOST) (λ x. refl) w)
    ∙ (emptied-behind (events t) (offers v ++ Empties b ∷ []) (ends-still (is_queued_event b) mark_event (λ x. refl) t)
    ∙ emptied-behind (offers v) (Empties b ∷ []) (ends-still (λ w. is_offered_to b) end_offered (λ x. refl) v))

close-emptied : (b : Birth) (w : World) → emptied (close_port b w) ≡ b ∷ []
unfolding close_port
close-emptied b w =
    let six = post_closed b (stage_five w b) ++ DropsOwned b ∷ [] in
    let five = cut_pair b (stage_four w b) ++ six in
    let four = empty_queue b (stage_marked w b) ++ five in
    let marked = mark_events b (stage_three w b) ++ four in
    let three = end_requests b (stage_two w b) ++ marked in
    let two = end_receives b (stage_one w b) ++ three in
    emptied-behind (drop_name b w) two refl
    ∙ (emptied-behind (end_receives b (stage_one w b)) three (ends-still (λ w. is_receiver b) (wake PORT_DISCONNECTED) (λ x. refl) (stage_one w b))
    ∙ (emptied-behind (end_requests b (stage_two w b)) marked (ends-still (λ w. is_request_on b) (end_request PORT_DISCONNECTED) (λ x. refl) (stage_two w b))
    ∙ (emptied-behind (mark_events b (stage_three w b)) four (ends-still (is_event_on b) mark_event (λ x. refl) (stage_three w b))
    ∙ (emptied-before (empty_queue b (stage_marked w b)) five (every-append is_still (cut_pair b (stage_four w b)) six (pair-still b (stage_four w b)) (every-append is_still (post_closed b (stage_five w b)) (DropsOwned b ∷ []) (post-still b (stage_five w b)) refl))
    ∙ queue-emptied b (stage_marked w b)))))

-- and it loses its last handle
handle-empties : (w : World) (pid : ℕ) (r : HandleRow) → handle_at w pid r.value ≡ Some r → IsSoundWorld w → Empty w (close_handle pid r w)
handle-empties w pid r at s = by_last (is_last r w) refl
  where
    drop : List Basic
    drop = DropsHandle pid r.value ∷ []

    dropped : (v : World) (last : Bool) → v.handles ≡ w.handles → is_last r w ≡ last → closed v drop ≡ when last (r.object.birth ∷ [])
    dropped v last same is =
        let one = subst (λ (hs : List HandleTable). count (is_table pid) hs ≤ 1) (sym same) (s.tables pid) in
        let here = shut-found w v pid r same at in
        let test : shuts v (basic v (DropsHandle pid r.value)) r ≡ last = last-shuts v pid r one here ∙ (same-last w v r same ∙ is) in
        append-nil (closes v (DropsHandle pid r.value)) ∙ rw (here, test) refl

    by_last : (last : Bool) → is_last r w ≡ last → Empty w (when last (close_port r.object.birth w) ++ drop)
    by_last true is =
        let b = r.object.birth in
        let bs = close_port b w in
        let v = world_after w bs in
        let shut = close-shut w b s in
        emptied-append bs drop ∙ (append-nil (emptied bs) ∙ (close-emptied b w
        ∙ sym (closed-append w bs drop ∙ (ap (λ xs. xs ++ closed v drop) (dropless-closed w bs (close-dropless w b)) ∙ dropped v true shut.handles is))))
    by_last false off = sym (dropped w false refl off)

-- Acts
empties-law : (by : ThreadRow) → Law by (Shut AnyWorld) AnyWorld Empty
empties-law by = record {
  keeps = λ w bs all _. tt;
  nothing = λ w. refl;
  follows = empty-append;
  says = λ w e. refl;
  numbers = λ w. refl;
  wakes = λ w status fields x. refl;
  marks = λ w who is. refl;
  abandons = λ w who. refl;
  debugs = λ w pid b stands live. refl;
  excepts = λ w pid b stands live. refl;
  dooms = λ w pid code. refl;
  takes = λ w m. still w (take_steps m) (still-receipt m);
  listens = λ w m. still w (take_connect_steps m) (still-receipt m);
  waits = λ w x off is. refl;
  sends = λ w m is. still w (enter m w) (still-enter m w);
  asks = λ w x m off wait post. let v = basic w (Awaits x) in still w (Awaits x ∷ enter m v) (still-enter m v);
  creates = λ w is. refl;
  founds = λ w name path free is. refl;
  connects = λ w connection offer bytes opens offers is.
      let row = row_of connection (client_port by connection) (connection_request by offer bytes) in
      let v = world_after w (connect_begun by connection offer (connection_request by offer bytes)) in
      still w (connect_act w by connection offer (connection_request by offer bytes)) (still-enter row v);
  gives = λ w pid o access is. refl;
  accepts = λ w context m x a at is. refl;
  completes = λ w c is. refl;
  registers = λ w b stands. refl;
  spawns = λ w pid tid token new unused s. refl;
  starts = λ w tid pid live unused s. refl;
  closes = λ w pid r at s _. handle-empties w pid r at s;
  dies = λ w code t is. still w (die code t w) (die-still code t w);
  leaves = λ w n b. refl;
  lets_go = λ w pid. refl;
  vacates = λ w pid. refl;
  disowns = λ w b. refl;
  secures = λ w b s. refl;
  acts = λ w own. refl;
  holds_token = λ w content. refl;
  builds = λ w size prot is. refl;
  maps = λ w pid v m. refl;
  unmaps = λ w pid base. refl;
  writes = λ w b place new. refl;
}

-- Lines
empties-lines : LineLaw (Shut AnyWorld) (λ _. Empty)
empties-lines = passing-lines (Shut AnyWorld) Empty (λ _. is_still) still (λ w. record { tells = λ _. refl; processes = λ _ _ _. refl; threads = λ _ _ _. refl; binds = λ _ _. refl; names = λ _. refl }) (λ by. outcomes by (Shut AnyWorld) AnyWorld Empty (empties-law by) (λ w c. c))

-- and rows that go empty nothing
pub line_empties : (w : World) (line : ScriptLine) → IsSoundWorld w → HasShutConnects w → IsReady (world_after w (own_steps line w)) → EmptiesWithHandles w line
line_empties w line s shut ready =
    let bs = bare_steps line w in
    let v = world_after w bs in
    let bare = bare-does Empty empty-append w line (line-does (Shut AnyWorld) (λ _. Empty) empties-lines w s (shut, tt) line) (settling-does (Shut AnyWorld) AnyWorld Empty empties-law (λ w tid _ _. tt) (world_after w (own_steps line w)) ready tt) in
    empty-append w bs (sweep v) bare (still v (sweep v) (sweep_every is_still (λ _. refl) v))
