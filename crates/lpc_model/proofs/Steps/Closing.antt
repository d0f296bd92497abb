-- The steps of a closing: what they take away, what they post, and the worlds behind them.
use Rattle.std.proofs.Common.{◌≡◌, ◌∙◌, ℕ, ◌≤◌, List, [], ◌∷◌, Bool, true, false, not, refl, sym, subst, arith}
use Rattle.lpc_base.specs.Rows.{count, each, every, which}
use Rattle.lpc_base.proofs.RowWords.{count-left, every-append, every-more, every-without}
use Rattle.lpc_base.specs.declared.status.TheConstants.{LPC_REPLY_LOST, PORT_DISCONNECTED}
use Rattle.lpc_base.proofs.RowMaps.{every-mapped}
use Rattle.lpc_names.specs.Binding.{is_name}
use Rattle.lpc_model.specs.World.{Birth, MessageRow, Node, Path, ViewRow, WaitRow, World}
use Rattle.lpc_model.specs.Found.{is_own_of, is_owned_by, is_queued, same_birth, waits_as}
use Rattle.lpc_model.specs.Basics.{Basic, Cuts, DropsOwned, Empties, Steps, Unbinds, Wakes, Withdraws, basic, doing, end_each, without_owned, world_after, ◌▹◌, Marks}
use Rattle.lpc_model.specs.Close.{close_port, cut_pair, drop_name, drop_owned, empty_queue, end_accepted, end_offered, end_receives, end_request, end_requests, is_accepted_across, is_offered_to, is_queued_request, is_receive_across, is_receiver, is_request_across, is_request_on, post_closed, wake, is_event_across, is_event_on, is_queued_event, mark_event, mark_events}
use Rattle.lpc_model.proofs.Steps.Rows.{every-left}
use Rattle.lpc_model.proofs.Steps.InTurn.{after-append}

-- Steps in turn
-- what the world behind both steps is
pub then-holds : (P : World → Type 0) (f g : Steps) (w : World) → P (world_after (world_after w (f w)) (g (world_after w (f w)))) → P (world_after w ((f ▹ g) w))
then-holds P f g w is = subst P (sym (after-append w (f w) (g (world_after w (f w))))) is

-- the worlds behind the first six steps
abbrev pub behind : Steps → World → World
behind f w = world_after w (f w)

abbrev pub stage_one : World → Birth → World
stage_one w b = basic w (Unbinds b)

abbrev pub stage_two : World → Birth → World
stage_two w b = behind (end_receives b) (stage_one w b)

abbrev pub stage_three : World → Birth → World
stage_three w b = behind (end_requests b) (stage_two w b)

abbrev pub stage_marked : World → Birth → World
stage_marked w b = behind (mark_events b) (stage_three w b)

abbrev pub stage_four : World → Birth → World
stage_four w b = behind (empty_queue b) (stage_marked w b)

abbrev pub stage_five : World → Birth → World
stage_five w b = behind (cut_pair b) (stage_four w b)

abbrev pub stage_six : World → Birth → World
stage_six w b = behind (post_closed b) (stage_five w b)

-- the parts of the fourth and of the fifth
abbrev pub unrequested : World → Birth → World
unrequested w b = behind (end_each (λ w. is_queued_request b) (end_request LPC_REPLY_LOST)) (stage_marked w b)

abbrev pub queue_marked : World → Birth → World
queue_marked w b = behind (end_each (is_queued_event b) mark_event) (unrequested w b)

abbrev pub unoffered : World → Birth → World
unoffered w b = behind (end_each (λ w. is_offered_to b) end_offered) (queue_marked w b)

abbrev pub unasked : World → Birth → World
unasked w b = behind (end_each (is_request_across b) (end_request LPC_REPLY_LOST)) (stage_four w b)

abbrev pub across_marked : World → Birth → World
across_marked w b = behind (end_each (is_event_across b) mark_event) (unasked w b)

abbrev pub unreceived : World → Birth → World
unreceived w b = behind (end_each (is_receive_across b) (wake PORT_DISCONNECTED)) (across_marked w b)

-- the world before the cut
abbrev pub uncut : World → Birth → World
uncut w b = behind (end_each (is_accepted_across b) end_accepted) (unreceived w b)

pub emptied-is : (w : World) (b : Birth) → stage_four w b ≡ basic (unoffered w b) (Empties b)
emptied-is w b =
    let P : World → Type 0 = λ u. u ≡ basic (unoffered w b) (Empties b) in
    let requests : Steps = end_each (λ w. is_queued_request b) (end_request LPC_REPLY_LOST) in
    let events : Steps = end_each (is_queued_event b) mark_event in
    let offers : Steps = end_each (λ w. is_offered_to b) end_offered in
    then-holds P requests (events ▹ (offers ▹ doing (Empties b ∷ []))) (stage_marked w b)
    (then-holds P events (offers ▹ doing (Empties b ∷ [])) (unrequested w b)
    (then-holds P offers (doing (Empties b ∷ [])) (queue_marked w b) refl))

pub cut-is : (w : World) (b : Birth) → stage_five w b ≡ basic (uncut w b) (Cuts b)
cut-is w b =
    let P : World → Type 0 = λ u. u ≡ basic (uncut w b) (Cuts b) in
    let requests : Steps = end_each (is_request_across b) (end_request LPC_REPLY_LOST) in
    let receives : Steps = end_each (is_receive_across b) (wake PORT_DISCONNECTED) in
    let accepts : Steps = end_each (is_accepted_across b) end_accepted in
    let last : Steps = doing (Cuts b ∷ []) in
    let events : Steps = end_each (is_event_across b) mark_event in
    then-holds P requests (events ▹ (receives ▹ (accepts ▹ last))) (stage_four w b)
    (then-holds P events (receives ▹ (accepts ▹ last)) (unasked w b)
    (then-holds P receives (accepts ▹ last) (across_marked w b)
    (then-holds P accepts last (unreceived w b) refl)))

-- the seven steps leave what the post leaves behind the fifth, without the views that the port owned
pub closed-is : (w : World) (b : Birth) → world_after w (close_port b w) ≡ basic (stage_six w b) (DropsOwned b)
unfolding close_port
closed-is w b =
    let P : World → Type 0 = λ u. u ≡ basic (stage_six w b) (DropsOwned b) in
    then-holds P (drop_name b) (end_receives b ▹ (end_requests b ▹ (mark_events b ▹ (empty_queue b ▹ (cut_pair b ▹ (post_closed b ▹ drop_owned b)))))) w
    (then-holds P (end_receives b) (end_requests b ▹ (mark_events b ▹ (empty_queue b ▹ (cut_pair b ▹ (post_closed b ▹ drop_owned b))))) (stage_one w b)
    (then-holds P (end_requests b) (mark_events b ▹ (empty_queue b ▹ (cut_pair b ▹ (post_closed b ▹ drop_owned b)))) (stage_two w b)
    (then-holds P (mark_events b) (empty_queue b ▹ (cut_pair b ▹ (post_closed b ▹ drop_owned b))) (stage_three w b)
    (then-holds P (empty_queue b) (cut_pair b ▹ (post_closed b ▹ drop_owned b)) (stage_marked w b)
    (then-holds P (cut_pair b) (post_closed b ▹ drop_owned b) (stage_four w b)
    (then-holds P (post_closed b) (drop_owned b) (stage_five w b) refl))))))

-- Steps that take away
-- a step takes waits, messages, names or views away, or marks an event, and nothing else
abbrev pub takes_away : Basic → Bool
takes_away (Wakes who call status fields) = true
takes_away (Withdraws who) = true
takes_away (Empties q) = true
takes_away (Unbinds b) = true
takes_away (DropsOwned b) = true
takes_away (Marks who) = true
takes_away b = false

abbrev TakeAway : List Basic → Type 0
TakeAway bs = every takes_away bs ≡ true

ends-away : (ending : WaitRow → List Basic) → ((x : WaitRow) → TakeAway (ending x)) → (xs : List WaitRow) → TakeAway (each ending xs)
ends-away ending all [] = refl
ends-away ending all (x ∷ xs) = every-append takes_away (ending x) (each ending xs) (all x) (ends-away ending all xs)

-- what each step of a closing is: it takes away, or is the cut, or posts
module _ (p : Basic → Bool) (away : (x : Basic) → takes_away x ≡ true → p x ≡ true) where
  abbrev all_pass : List Basic → Type 0
  all_pass bs = every p bs ≡ true

  passing : (bs : List Basic) → TakeAway bs → all_pass bs
  passing bs all = every-more takes_away p away bs all

  one-step : (x : Basic) → p x ≡ true → all_pass (x ∷ [])
  one-step x is = grind arith

  then-pass : (f g : Steps) (w : World) → all_pass (f w) → all_pass (g (behind f w)) → all_pass ((f ▹ g) w)
  then-pass f g w one two = every-append p (f w) (g (behind f w)) one two

  pub ends-pass : (test : World → WaitRow → Bool) (ending : WaitRow → List Basic) → ((x : WaitRow) → TakeAway (ending x)) → (w : World) → all_pass (end_each test ending w)
  ends-pass test ending all w = passing (each ending (which (test w) w.waits)) (ends-away ending all (which (test w) w.waits))

  pub queue-pass : (b : Birth) (w : World) → all_pass (empty_queue b w)
  queue-pass b w =
      let requests : Steps = end_each (λ w. is_queued_request b) (end_request LPC_REPLY_LOST) in
      let offers : Steps = end_each (λ w. is_offered_to b) end_offered in
      let last : Steps = doing (Empties b ∷ []) in
      let events : Steps = end_each (is_queued_event b) mark_event in
      let v = behind requests w in
      then-pass requests (events ▹ (offers ▹ last)) w (ends-pass (λ w. is_queued_request b) (end_request LPC_REPLY_LOST) (λ x. refl) w)
      (then-pass events (offers ▹ last) v (ends-pass (is_queued_event b) mark_event (λ x. refl) v)
      (then-pass offers last (behind events v) (ends-pass (λ w. is_offered_to b) end_offered (λ x. refl) (behind events v)) (passing (Empties b ∷ []) refl)))

  pub pair-pass : (b : Birth) (w : World) → p (Cuts b) ≡ true → all_pass (cut_pair b w)
  pair-pass b w cuts =
      let requests : Steps = end_each (is_request_across b) (end_request LPC_REPLY_LOST) in
      let receives : Steps = end_each (is_receive_across b) (wake PORT_DISCONNECTED) in
      let accepts : Steps = end_each (is_accepted_across b) end_accepted in
      let last : Steps = doing (Cuts b ∷ []) in
      let events : Steps = end_each (is_event_across b) mark_event in
      let v = behind requests w in
      let u = behind events v in
      then-pass requests (events ▹ (receives ▹ (accepts ▹ last))) w (ends-pass (is_request_across b) (end_request LPC_REPLY_LOST) (λ x. refl) w)
      (then-pass events (receives ▹ (accepts ▹ last)) v (ends-pass (is_event_across b) mark_event (λ x. refl) v)
      (then-pass receives (accepts ▹ last) u (ends-pass (is_receive_across b) (wake PORT_DISCONNECTED) (λ x. refl) u)
      (then-pass accepts last (behind receives u) (ends-pass (is_accepted_across b) end_accepted (λ x. refl) (behind receives u))
      (one-step (Cuts b) cuts))))

  -- the seven steps pass where the cut does, and the post behind the fifth
  pub close-pass : (b : Birth) (w : World) → p (Cuts b) ≡ true → all_pass (post_closed b (stage_five w b)) → all_pass (close_port b w)
  unfolding close_port
  close-pass b w cuts posts =
      then-pass (drop_name b) (end_receives b ▹ (end_requests b ▹ (mark_events b ▹ (empty_queue b ▹ (cut_pair b ▹ (post_closed b ▹ drop_owned b)))))) w (passing (Unbinds b ∷ []) refl)
      (then-pass (end_receives b) (end_requests b ▹ (mark_events b ▹ (empty_queue b ▹ (cut_pair b ▹ (post_closed b ▹ drop_owned b))))) (stage_one w b) (ends-pass (λ w. is_receiver b) (wake PORT_DISCONNECTED) (λ x. refl) (stage_one w b))
      (then-pass (end_requests b) (mark_events b ▹ (empty_queue b ▹ (cut_pair b ▹ (post_closed b ▹ drop_owned b)))) (stage_two w b) (ends-pass (λ w. is_request_on b) (end_request PORT_DISCONNECTED) (λ x. refl) (stage_two w b))
      (then-pass (mark_events b) (empty_queue b ▹ (cut_pair b ▹ (post_closed b ▹ drop_owned b))) (stage_three w b) (ends-pass (is_event_on b) mark_event (λ x. refl) (stage_three w b))
      (then-pass (empty_queue b) (cut_pair b ▹ (post_closed b ▹ drop_owned b)) (stage_marked w b) (queue-pass b (stage_marked w b))
      (then-pass (cut_pair b) (post_closed b ▹ drop_owned b) (stage_four w b) (pair-pass b (stage_four w b) cuts)
      (then-pass (post_closed b) (drop_owned b) (stage_five w b) posts (passing (DropsOwned b ∷ []) refl)))))))

-- Worlds with fewer rows
-- what holds of each wait, message, name and view still does, and all other rows that a closing touches are as they were
pub record IsFewer (w v : World) : Type 0 where
  pub waits : (f : WaitRow → Bool) → every f w.waits ≡ true → every f v.waits ≡ true
  pub messages : (f : MessageRow → Bool) → every f w.messages ≡ true → every f v.messages ≡ true
  pub counts : (f : MessageRow → Bool) → count f v.messages ≤ count f w.messages
  pub bindings : (f : Path × Node Birth → Bool) → every f w.bindings ≡ true → every f v.bindings ≡ true
  pub ports : v.ports ≡ w.ports
  pub handles : v.handles ≡ w.handles
  pub processes : v.processes ≡ w.processes
  pub threads : v.threads ≡ w.threads
  pub sections : v.sections ≡ w.sections
  pub tokens : v.tokens ≡ w.tokens
  pub views : (f : ViewRow → Bool) → every (λ t. every f t.rows) w.views ≡ true → every (λ t. every f t.rows) v.views ≡ true

fewer-none : (w : World) → IsFewer w w
fewer-none w = record { waits = λ f all. all; messages = λ f all. all; counts = λ f. omega arith; bindings = λ f all. all; ports = refl; handles = refl; processes = refl; threads = refl; sections = refl; tokens = refl; views = λ f all. all }

fewer-then : (w v u : World) → IsFewer w v → IsFewer v u → IsFewer w u
fewer-then w v u a b = record {
  waits = λ f all. b.waits f (a.waits f all);
  messages = λ f all. b.messages f (a.messages f all);
  counts = λ f. at-most _ _ _ (b.counts f) (a.counts f);
  bindings = λ f all. b.bindings f (a.bindings f all);
  ports = b.ports ∙ a.ports;
  handles = b.handles ∙ a.handles;
  processes = b.processes ∙ a.processes;
  threads = b.threads ∙ a.threads;
  sections = b.sections ∙ a.sections;
  tokens = b.tokens ∙ a.tokens;
  views = λ f all. b.views f (a.views f all);
}
  where
    at-most : (k n m : ℕ) → k ≤ n → n ≤ m → k ≤ m
    at-most k n m one two = omega (arith, one, two)

fewer-step : (w : World) (x : Basic) → takes_away x ≡ true → IsFewer w (basic w x)
fewer-step w (Wakes who call status fields) is = record { waits = λ f all. every-without f (waits_as who) w.waits all; messages = λ f all. all; counts = λ f. omega arith; bindings = λ f all. all; ports = refl; handles = refl; processes = refl; threads = refl; sections = refl; tokens = refl; views = λ f all. all }
fewer-step w (Withdraws who) is = record { waits = λ f all. all; messages = λ f all. every-without f (is_own_of who) w.messages all; counts = λ f. count-left f (is_own_of who) w.messages; bindings = λ f all. all; ports = refl; handles = refl; processes = refl; threads = refl; sections = refl; tokens = refl; views = λ f all. all }
fewer-step w (Empties q) is = record { waits = λ f all. all; messages = λ f all. every-without f (is_queued q) w.messages all; counts = λ f. count-left f (is_queued q) w.messages; bindings = λ f all. all; ports = refl; handles = refl; processes = refl; threads = refl; sections = refl; tokens = refl; views = λ f all. all }
fewer-step w (Marks who) is = record { waits = λ f all. all; messages = λ f all. all; counts = λ f. omega arith; bindings = λ f all. all; ports = refl; handles = refl; processes = refl; threads = refl; sections = refl; tokens = refl; views = λ f all. all }
fewer-step w (Unbinds b) is = record { waits = λ f all. all; messages = λ f all. all; counts = λ f. omega arith; bindings = λ f all. every-without f (is_name same_birth b) w.bindings all; ports = refl; handles = refl; processes = refl; threads = refl; sections = refl; tokens = refl; views = λ f all. all }
fewer-step w (DropsOwned b) is = record { waits = λ f all. all; messages = λ f all. all; counts = λ f. omega arith; bindings = λ f all. all; ports = refl; handles = refl; processes = refl; threads = refl; sections = refl; tokens = refl; views = λ f all. every-mapped (λ t. every f t.rows) (without_owned b) (λ t is. every-without f (is_owned_by b) t.rows is) w.views all }
fewer-step w x is = absurd (cc)

fewer-all : (w : World) (bs : List Basic) → TakeAway bs → IsFewer w (world_after w bs)
fewer-all w [] all = fewer-none w
fewer-all w (x ∷ bs) all =
    let here : takes_away x ≡ true = grind arith in
    let later : every takes_away bs ≡ true = grind arith in
    let v = basic w x in
    fewer-then w v (world_after v bs) (fewer-step w x here) (fewer-all v bs later)

fewer-each : (test : World → WaitRow → Bool) (ending : WaitRow → List Basic) → ((x : WaitRow) → TakeAway (ending x)) → (w v : World) → IsFewer w v → IsFewer w (behind (end_each test ending) v)
fewer-each test ending all w v l = fewer-then w v (behind (end_each test ending) v) l (fewer-all v (each ending (which (test v) v.waits)) (ends-away ending all (which (test v) v.waits)))

-- before its queue is emptied, and behind that
fewer-unoffered : (w : World) (b : Birth) → IsFewer w (unoffered w b)
fewer-unoffered w b =
    fewer-each (λ w. is_offered_to b) end_offered (λ x. refl) w (queue_marked w b)
    (fewer-each (is_queued_event b) mark_event (λ x. refl) w (unrequested w b)
    (fewer-each (λ w. is_queued_request b) (end_request LPC_REPLY_LOST) (λ x. refl) w (stage_marked w b)
    (fewer-each (is_event_on b) mark_event (λ x. refl) w (stage_three w b)
    (fewer-each (λ w. is_request_on b) (end_request PORT_DISCONNECTED) (λ x. refl) w (stage_two w b)
    (fewer-each (λ w. is_receiver b) (wake PORT_DISCONNECTED) (λ x. refl) w (stage_one w b) (fewer-step w (Unbinds b) refl))))))

pub fewer-accepted : (b : Birth) (w : World) → IsFewer w (behind (end_each (is_accepted_across b) end_accepted) w)
fewer-accepted b w = fewer-each (is_accepted_across b) end_accepted (λ x. refl) w w (fewer-none w)

pub fewer-accepts : (w : World) (b : Birth) → IsFewer (unreceived w b) (uncut w b)
fewer-accepts w b = fewer-each (is_accepted_across b) end_accepted (λ x. refl) (unreceived w b) (unreceived w b) (fewer-none (unreceived w b))

fewer-across : (w : World) (b : Birth) → IsFewer (stage_four w b) (uncut w b)
fewer-across w b =
    let v = stage_four w b in
    fewer-each (is_accepted_across b) end_accepted (λ x. refl) v (unreceived w b)
    (fewer-each (is_receive_across b) (wake PORT_DISCONNECTED) (λ x. refl) v (across_marked w b)
    (fewer-each (is_event_across b) mark_event (λ x. refl) v (unasked w b)
    (fewer-each (is_request_across b) (end_request LPC_REPLY_LOST) (λ x. refl) v v (fewer-none v))))

fewer-four : (w : World) (b : Birth) → IsFewer w (stage_four w b)
fewer-four w b = subst (IsFewer w) (sym (emptied-is w b)) (fewer-then w (unoffered w b) (basic (unoffered w b) (Empties b)) (fewer-unoffered w b) (fewer-step (unoffered w b) (Empties b) refl))

-- before the cut
pub fewer-uncut : (w : World) (b : Birth) → IsFewer w (uncut w b)
fewer-uncut w b = fewer-then w (stage_four w b) (uncut w b) (fewer-four w b) (fewer-across w b)

-- its queue holds no message then
pub emptied-uncut : (w : World) (b : Birth) → every (λ m. not (is_queued b m)) (uncut w b).messages ≡ true
emptied-uncut w b =
    let less = fewer-across w b in
    less.messages (λ m. not (is_queued b m)) (subst (λ (v : World). every (λ m. not (is_queued b m)) v.messages ≡ true) (sym (emptied-is w b)) (every-left (is_queued b) (unoffered w b).messages))
