-- Each mark is of a thread that waits for what is made of an event.
use Rattle.std.proofs.Common.{◌≡◌, ℕ, List, [], ◌∷◌, ◌++◌, Bool, true, false, not, Option, Some, None, refl, arith}
use Rattle.std.specs.Prelude.{◌||◌}
use Rattle.std.proofs.lemmas.Bool.Decides.{nat_tests}
use Rattle.lpc_base.specs.Rows.{each, every, first, given, has, when, which, without}
use Rattle.lpc_base.specs.declared.status.Status.{Status}
use Rattle.lpc_base.specs.declared.status.TheConstants.{LPC_REPLY_LOST, PORT_DISCONNECTED, SUCCESS}
use Rattle.lpc_base.proofs.RowWords.{every-append, every-more, every-push, every-without, has-change, has-kept, has-off}
use Rattle.lpc_base.proofs.RowMaps.{every-both}
use Rattle.lpc_model.specs.declared.entry.ObjectKind.TheVariants as kind
use Rattle.lpc_model.specs.World.{Acceptance, Birth, ObjectKind, HandleRow, MessageRow, PortRow, ThreadRow, WaitRow, World}
use Rattle.lpc_model.specs.Found.{is_accepted, is_connect, is_event, is_mark, port_row, wait_of, waits_as, waits_at}
use Rattle.lpc_model.specs.Basics.{Accepts, Awaits, Basic, Cuts, Dies, DropsHandle, DropsOwned, Empties, Frees, Leaves, Marks, Receives, Steps, Wakes, Withdraws, accepted, basic, doing, end_each, left_by, provided, received, world_after, ◌▹◌}
use Rattle.lpc_model.specs.Entering.{enter, given_steps, received_steps, shown, takes, woken}
use Rattle.lpc_model.specs.Message.{asks}
use Rattle.lpc_model.specs.Close.{close_handle, close_port, closing_post, cut_pair, drop_name, drop_owned, empty_queue, end_accepted, end_offered, end_receives, end_request, end_requests, is_accepted_across, is_event_across, is_event_on, is_last, is_offered_to, is_queued_event, is_queued_request, is_receive_across, is_receiver, is_request_across, is_request_on, mark_event, mark_events, post_closed, wake}
use Rattle.lpc_model.specs.Death.{end_client, die}
use Rattle.lpc_model.specs.Settle.{HasMarkedEvents, has_event, is_event_of}
use Rattle.lpc_model.proofs.Steps.Rows.{every-left}
use Rattle.lpc_model.proofs.Steps.Closing.{behind, then-holds}
use Rattle.lpc_model.proofs.Sound.Worlds.{by_kind}
use Rattle.lpc_model.proofs.Steps.InTurn.{steps-keep}

-- a step marks no event
abbrev pub is_unmarking : Basic → Bool
is_unmarking (Marks who) = false
is_unmarking b = true

-- a wait of another thread stays
other-event : (w : World) (who n : ℕ) → has_event w n ≡ true → not (is_mark who n) ≡ true → has (is_event_of n) (without (waits_as who) w.waits) ≡ true
other-event w who n is off = has-off (is_event_of n) (waits_as who) (λ x one. grind (arith, nat_tests)) w.waits is

left-marked : (w : World) (who : ℕ) → HasMarkedEvents w → HasMarkedEvents (left_by who w)
left-marked w who m =
    every-both (has_event w) (λ n. not (is_mark who n)) (has_event (left_by who w)) (other-event w who) (without (is_mark who) w.marks) (every-without (has_event w) (is_mark who) w.marks m) (every-left (is_mark who) w.marks)

accepted-event : (n : ℕ) (reply : Acceptance) (x : WaitRow) → is_event_of n (accepted reply x) ≡ is_event_of n x
accepted-event n reply = by_kind (λ x. is_event_of n (accepted reply x) ≡ is_event_of n x) (λ x m. refl) (λ x. refl) (λ x. refl) (λ x m offer. refl) (λ x m r. refl) (λ x r. refl)

pub marked-step : (w : World) (b : Basic) → is_unmarking b ≡ true → HasMarkedEvents w → HasMarkedEvents (basic w b)
marked-step w (Wakes who call status fields) is m = left-marked w who m
marked-step w (Leaves who) is m = left-marked w who m
marked-step w (Dies who status) is m = left-marked w who m
marked-step w (Awaits x) is m = every-more (has_event w) (has_event (basic w (Awaits x))) (λ n. has-kept (is_event_of n) w.waits x) w.marks m
marked-step w (Receives who queue) is m = every-more (has_event w) (has_event (basic w (Receives who queue))) (λ n one. rw (has-change (is_event_of n) (waits_at who queue) received (λ x. refl) w.waits) one) w.marks m
marked-step w (Accepts who reply) is m = every-more (has_event w) (has_event (basic w (Accepts who reply))) (λ n one. rw (has-change (is_event_of n) (waits_as who) (accepted reply) (accepted-event n reply) w.waits) one) w.marks m
marked-step w (Marks who) is m = absurd (cc)
marked-step w (Frees o) is m = at o.kind
  where
    at : (k : ObjectKind) → HasMarkedEvents (basic w (Frees (record { kind = k; birth = o.birth })))
    at kind.Port = m
    at kind.Section = m
    at kind.Token = m
    at kind.Process = m
    at kind.Thread = m
marked-step w b is m = m

pub marked-all : (w : World) (bs : List Basic) → every is_unmarking bs ≡ true → HasMarkedEvents w → HasMarkedEvents (world_after w bs)
marked-all = steps-keep is_unmarking HasMarkedEvents marked-step

-- events that are marked
pub own-event : (x : WaitRow) → is_event x ≡ true → is_event_of x.thread x ≡ true
own-event x is = grind (arith, nat_tests)

self-has : (q : WaitRow → Bool) → ((x : WaitRow) → q x ≡ true → is_event_of x.thread x ≡ true) → (xs : List WaitRow) → every (λ x. not (q x) || has (is_event_of x.thread) xs) xs ≡ true
self-has q one [] = refl
self-has q one (y ∷ ys) =
    let tail = every-more (λ x. not (q x) || has (is_event_of x.thread) ys) (λ x. not (q x) || has (is_event_of x.thread) (y ∷ ys)) (λ x is. grind arith) ys (self-has q one ys) in
    at (q y) refl tail
  where
    at : (c : Bool) → q y ≡ c → every (λ x. not (q x) || has (is_event_of x.thread) (y ∷ ys)) ys ≡ true → every (λ x. not (q x) || has (is_event_of x.thread) (y ∷ ys)) (y ∷ ys) ≡ true
    at true is tail = let own = one y is in grind (arith, tail)
    at false off tail = grind (arith, tail)

which-pass : (q p : WaitRow → Bool) (xs : List WaitRow) → every (λ x. not (q x) || p x) xs ≡ true → every p (which q xs) ≡ true
which-pass q p [] all = refl
which-pass q p (x ∷ xs) all = grind (arith, which-pass q p xs)

marks-one : (w : World) (x : WaitRow) → has_event w x.thread ≡ true → HasMarkedEvents w → HasMarkedEvents (world_after w (mark_event x))
marks-one w x is m = every-push (has_event w) w.marks x.thread m is

marks-all : (xs : List WaitRow) (w : World) → every (λ x. has_event w x.thread) xs ≡ true → HasMarkedEvents w → HasMarkedEvents (world_after w (each mark_event xs))
marks-all [] w all m = m
marks-all (x ∷ xs) w all m =
    let here : has_event w x.thread ≡ true = grind arith in
    let later : every (λ y. has_event w y.thread) xs ≡ true = grind arith in
    marks-all xs (world_after w (mark_event x)) later (marks-one w x here m)

pub events-marked : (test : World → WaitRow → Bool) → ((w : World) (x : WaitRow) → test w x ≡ true → is_event x ≡ true) → (w : World) → HasMarkedEvents w → HasMarkedEvents (behind (end_each test mark_event) w)
events-marked test events w m = marks-all (which (test w) w.waits) w (which-pass (test w) (λ x. has_event w x.thread) w.waits (self-has (test w) (λ x is. own-event x (events w x is)) w.waits)) m

-- waits that end otherwise
ends-unmarking : (ending : WaitRow → List Basic) → ((x : WaitRow) → every is_unmarking (ending x) ≡ true) → (xs : List WaitRow) → every is_unmarking (each ending xs) ≡ true
ends-unmarking ending all [] = refl
ends-unmarking ending all (x ∷ xs) = every-append is_unmarking (ending x) (each ending xs) (all x) (ends-unmarking ending all xs)

ended-marked : (test : World → WaitRow → Bool) (ending : WaitRow → List Basic) → ((x : WaitRow) → every is_unmarking (ending x) ≡ true) → (w : World) → HasMarkedEvents w → HasMarkedEvents (behind (end_each test ending) w)
ended-marked test ending all w m = marked-all w (each ending (which (test w) w.waits)) (ends-unmarking ending all (which (test w) w.waits)) m

-- what is taken or posted
given-unmarking : (m : MessageRow) (x : WaitRow) → every is_unmarking (given_steps x m ++ woken SUCCESS (shown x m) x ∷ []) ≡ true
given-unmarking m =
    by_kind (λ x. every is_unmarking (given_steps x m ++ woken SUCCESS (shown x m) x ∷ []) ≡ true)
    (λ x r. every-append is_unmarking (received_steps m) _ (receipt (asks m.message)) refl) (λ x. every-append is_unmarking (received_steps m) _ (receipt (asks m.message)) refl) (λ x. every-append is_unmarking (received_steps m) _ (receipt (asks m.message)) refl)
    (λ x r offer. every-append is_unmarking (received_steps m) _ (receipt (asks m.message)) refl) (λ x r reply. every-append is_unmarking (received_steps m) _ (receipt (asks m.message)) refl) (λ x r. every-append is_unmarking (received_steps m) _ (receipt (asks m.message)) refl)
  where
    receipt : (a : Bool) → every is_unmarking (when a (Receives m.message.header.client.thread m.queue ∷ [])) ≡ true
    receipt true = refl
    receipt false = refl

pub enter-unmarking : (m : MessageRow) (w : World) → every is_unmarking (enter m w) ≡ true
enter-unmarking m w = at (first (takes m) w.waits)
  where
    at : (o : Option WaitRow) → every is_unmarking (given o (λ x. given_steps x m ++ woken SUCCESS (shown x m) x ∷ [])) ≡ true
    at None = refl
    at (Some x) = given-unmarking m x

posted-marked : (b : Birth) (w : World) → HasMarkedEvents w → HasMarkedEvents (behind (post_closed b) w)
posted-marked b w m = marked-all w (post_closed b w) (at (port_row w b)) m
  where
    post : (p : PortRow) (o : Option MessageRow) → every is_unmarking (given o (λ m. enter m w)) ≡ true
    post p None = refl
    post p (Some m) = enter-unmarking m w

    at : (o : Option PortRow) → every is_unmarking (given o (λ p. given (closing_post w p) (λ m. enter m w))) ≡ true
    at None = refl
    at (Some p) = post p (closing_post w p)

-- Closing
pub cut-marked : (b : Birth) (w : World) → HasMarkedEvents w → HasMarkedEvents (behind (cut_pair b) w)
cut-marked b w m =
    let requests : Steps = end_each (is_request_across b) (end_request LPC_REPLY_LOST) in
    let events : Steps = end_each (is_event_across b) mark_event in
    let receives : Steps = end_each (is_receive_across b) (wake PORT_DISCONNECTED) in
    let accepts : Steps = end_each (is_accepted_across b) end_accepted in
    let last : Steps = doing (Cuts b ∷ []) in
    let w1 = behind requests w in
    let w2 = behind events w1 in
    let w3 = behind receives w2 in
    then-holds HasMarkedEvents requests (events ▹ (receives ▹ (accepts ▹ last))) w
    (then-holds HasMarkedEvents events (receives ▹ (accepts ▹ last)) w1
    (then-holds HasMarkedEvents receives (accepts ▹ last) w2
    (then-holds HasMarkedEvents accepts last w3
    (ended-marked (is_accepted_across b) end_accepted (λ x. refl) w3
    (ended-marked (is_receive_across b) (wake PORT_DISCONNECTED) (λ x. refl) w2
    (events-marked (is_event_across b) (λ v x is. grind arith) w1
    (ended-marked (is_request_across b) (end_request LPC_REPLY_LOST) (λ x. refl) w m)))))))

emptied-marked : (b : Birth) (w : World) → HasMarkedEvents w → HasMarkedEvents (behind (empty_queue b) w)
emptied-marked b w m =
    let requests : Steps = end_each (λ w. is_queued_request b) (end_request LPC_REPLY_LOST) in
    let events : Steps = end_each (is_queued_event b) mark_event in
    let offers : Steps = end_each (λ w. is_offered_to b) end_offered in
    let last : Steps = doing (Empties b ∷ []) in
    let w1 = behind requests w in
    let w2 = behind events w1 in
    then-holds HasMarkedEvents requests (events ▹ (offers ▹ last)) w
    (then-holds HasMarkedEvents events (offers ▹ last) w1
    (then-holds HasMarkedEvents offers last w2
    (ended-marked (λ w. is_offered_to b) end_offered (λ x. refl) w2
    (events-marked (is_queued_event b) (λ v x is. grind arith) w1
    (ended-marked (λ w. is_queued_request b) (end_request LPC_REPLY_LOST) (λ x. refl) w m)))))

close-marked : (b : Birth) (w : World) → HasMarkedEvents w → HasMarkedEvents (behind (close_port b) w)
unfolding close_port
close-marked b w m =
    let w1 = behind (drop_name b) w in
    let w2 = behind (end_receives b) w1 in
    let w3 = behind (end_requests b) w2 in
    let w4 = behind (mark_events b) w3 in
    let w5 = behind (empty_queue b) w4 in
    let w6 = behind (cut_pair b) w5 in
    then-holds HasMarkedEvents (drop_name b) (end_receives b ▹ (end_requests b ▹ (mark_events b ▹ (empty_queue b ▹ (cut_pair b ▹ (post_closed b ▹ drop_owned b)))))) w
    (then-holds HasMarkedEvents (end_receives b) (end_requests b ▹ (mark_events b ▹ (empty_queue b ▹ (cut_pair b ▹ (post_closed b ▹ drop_owned b))))) w1
    (then-holds HasMarkedEvents (end_requests b) (mark_events b ▹ (empty_queue b ▹ (cut_pair b ▹ (post_closed b ▹ drop_owned b)))) w2
    (then-holds HasMarkedEvents (mark_events b) (empty_queue b ▹ (cut_pair b ▹ (post_closed b ▹ drop_owned b))) w3
    (then-holds HasMarkedEvents (empty_queue b) (cut_pair b ▹ (post_closed b ▹ drop_owned b)) w4
    (then-holds HasMarkedEvents (cut_pair b) (post_closed b ▹ drop_owned b) w5
    (then-holds HasMarkedEvents (post_closed b) (drop_owned b) w6
    (posted-marked b w6 (cut-marked b w5 (emptied-marked b w4 (events-marked (is_event_on b) (λ v x is. grind arith) w3
    (ended-marked (λ w. is_request_on b) (end_request PORT_DISCONNECTED) (λ x. refl) w2
    (ended-marked (λ w. is_receiver b) (wake PORT_DISCONNECTED) (λ x. refl) w1 m))))))))))))

pub handle-marked : (w : World) (pid : ℕ) (r : HandleRow) → HasMarkedEvents w → HasMarkedEvents (behind (close_handle pid r) w)
handle-marked w pid r m = then-holds HasMarkedEvents (provided (is_last r) (close_port r.object.birth)) (doing (DropsHandle pid r.value ∷ [])) w (at (is_last r w))
  where
    at : (last : Bool) → HasMarkedEvents (world_after w (when last (close_port r.object.birth w)))
    at true = close-marked r.object.birth w m
    at false = m

-- Ending
pub die-marked : (code : Status) (t : ThreadRow) (w : World) → HasMarkedEvents w → HasMarkedEvents (behind (die code t) w)
die-marked code t w m = then-holds HasMarkedEvents (doing (Dies t.number code ∷ Withdraws t.number ∷ [])) (end_client (wait_of w t.number)) w (at (wait_of w t.number) (left-marked w t.number m))
  where
    gone : World
    gone = world_after w (Dies t.number code ∷ Withdraws t.number ∷ [])

    by_accept : (x : WaitRow) (a : Bool) → HasMarkedEvents gone → HasMarkedEvents (world_after gone (when a (cut_pair x.port gone)))
    by_accept x true m = cut-marked x.port gone m
    by_accept x false m = m

    by_connect : (x : WaitRow) (v : World) (a : Bool) → HasMarkedEvents v → HasMarkedEvents (world_after v (when a (DropsOwned x.port ∷ [])))
    by_connect x v true m = m
    by_connect x v false m = m

    at : (o : Option WaitRow) → HasMarkedEvents gone → HasMarkedEvents (behind (end_client o) gone)
    at None m = m
    at (Some x) m =
        let v = world_after gone (when (is_accepted x) (cut_pair x.port gone)) in
        then-holds HasMarkedEvents (provided (λ w. is_accepted x) (cut_pair x.port)) (provided (λ w. is_connect x) (doing (DropsOwned x.port ∷ []))) gone (by_connect x v (is_connect x) (by_accept x (is_accepted x) m))
