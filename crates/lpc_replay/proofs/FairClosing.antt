-- What the closing of a port tells is right: requests end without success, receives and listens by any line, and
-- connects to that port or of an end of their connection by what the line says of them.
use Rattle.std.proofs.Common.{Bool, List, [], arith, cond, false, refl, true, ◌++◌, ◌∙◌, ◌∷◌, ◌≡◌, ap}
use Rattle.std.specs.List.{AllByRecursion}
use Rattle.std.specs.Prelude.{None, Option, Some, option_and_then, option_map, ◌&&◌, ◌==◌, ◌||◌, if◌then◌else◌}
use Rattle.lpc_base.specs.Rows.{each, every, first, given, which}
use Rattle.lpc_base.proofs.RowWords.{every-append}
use Rattle.lpc_base.proofs.Bools.{first-true}
use Rattle.lpc_base.specs.declared.birth.Birth.{Birth}
use Rattle.lpc_base.specs.declared.status.Status.{Status}
use Rattle.lpc_base.specs.declared.status.TheConstants.{DBG_CONTINUE, LPC_REPLY_LOST, PORT_CONNECTION_REFUSED, PORT_DISCONNECTED, SUCCESS}
use Rattle.lpc_model.specs.Basics.{Basic, Cuts, Dies, DropsOwned, Empties, Enters, LetsGo, Marks, Steps, Takes, TakesConnect, Tells, Unbinds, Unregisters, Wakes, Withdraws, basic, cut, doing, end_each, is_end_of, world_after, ◌▹◌}
use Rattle.lpc_model.specs.Close.{close_port, closed_row, cut_pair, drop_name, drop_owned, empty_queue, end_accepted, end_offered, end_receives, end_request, end_requests, is_accepted_across, is_event_across, is_event_on, is_offered_to, is_queued_event, is_queued_request, is_receive_across, is_receiver, is_request_across, is_request_on, post_closed, server_of, closing_post, mark_event, mark_events, wake}
use Rattle.lpc_model.specs.Entering.{enter, given_steps, received_steps, shown, takes, woken}
use Rattle.lpc_model.specs.Fields.{info}
use Rattle.lpc_model.specs.Found.{is_accepted, is_listen, is_made_on, is_port, is_receive, is_request, is_the, pair_of, port_row}
use Rattle.lpc_model.specs.Lines.{ScriptLine}
use Rattle.lpc_model.specs.Message.{asks}
use Rattle.lpc_model.specs.World.{Creator, MessageRow, PortRow, WaitRow, World}
use Rattle.lpc_model.specs.declared.entry.Entry.TheVariants as entry
use Rattle.lpc_model.proofs.Steps.Closing.{behind, close-pass, pair-pass, queue-pass, stage_five, takes_away, ends-pass}
use Rattle.lpc_model.proofs.Steps.Rows.{first-change}
use Rattle.lpc_model.proofs.Sound.Worlds.{by_kind}
use Rattle.lpc_replay.proofs.Fair.{AreFair, HasItsCall, HaveTheirCalls, IsFair, IsRight, enter_fair, failure_wakes, request_wakes, waiter_wakes}
use Rattle.lpc_replay.proofs.Holding.{all_append, all_filter, all_more}

-- Lists of waits
-- what holds of each row holds of each that passes, which passes
all_which : {A : Type 0} (P : A → Type 0) (test : A → Bool) (xs : List A) → AllByRecursion P xs → AllByRecursion (λ x. P x × (test x ≡ true)) (which test xs)
all_which P test [] all = tt
all_which P test (x ∷ xs) all = at (test x) refl (all_which P test xs all.1)
  where
    at : (b : Bool) → test x ≡ b → AllByRecursion (λ x. P x × (test x ≡ true)) (which test xs) → AllByRecursion (λ x. P x × (test x ≡ true)) (if b then x ∷ which test xs else which test xs)
    at true is others = ((all.0, is), others)
    at false is others = others

-- the steps of each are fair
each_fair : (w : World) (line : ScriptLine) (Q : WaitRow → Type 0) (ending : WaitRow → List Basic) → ((x : WaitRow) → Q x → AreFair w line (ending x)) → (xs : List WaitRow) → AllByRecursion Q xs → AreFair w line (each ending xs)
each_fair w line Q ending fair [] all = tt
each_fair w line Q ending fair (x ∷ xs) all = all_append (IsFair w line) (ending x) (each ending xs) (fair x all.0) (each_fair w line Q ending fair xs all.1)

-- What is known behind some steps
-- steps that begin no wait and change none, make and join no port, and give and drop no handle
abbrev pub keeps_known : Basic → Bool
keeps_known (Tells e) = true
keeps_known (Wakes who call status fields) = true
keeps_known (Dies who status) = true
keeps_known (Enters m) = true
keeps_known (Takes q) = true
keeps_known (TakesConnect q) = true
keeps_known (Withdraws who) = true
keeps_known (Empties q) = true
keeps_known (Unregisters who b) = true
keeps_known (Cuts b) = true
keeps_known (Unbinds b) = true
keeps_known (DropsOwned b) = true
keeps_known (Marks who) = true
keeps_known (LetsGo pid) = true
keeps_known b = false

abbrev pub KeepKnown : List Basic → Type 0
KeepKnown bs = every keeps_known bs ≡ true

pub away-keeps : (x : Basic) → takes_away x ≡ true → keeps_known x ≡ true
away-keeps (Wakes who call status fields) is = refl
away-keeps (Withdraws who) is = refl
away-keeps (Empties q) is = refl
away-keeps (Unbinds b) is = refl
away-keeps (DropsOwned b) is = refl
away-keeps (Marks who) is = refl
away-keeps x is = absurd (cc)

-- of a world behind some of the steps something is known of each wait, and no port has another end than it had
pub record Knows (P : WaitRow → Type 0) (w v : World) : Type 0 where
  pub waits : AllByRecursion P v.waits
  pub pairs : (q b : Birth) → is_the b (pair_of v q) ≡ true → is_the b (pair_of w q) ≡ true

cut-pairs : (v : World) (c q b : Birth) → is_the b (pair_of (basic v (Cuts c)) q) ≡ true → is_the b (pair_of v q) ≡ true
cut-pairs v c q b is = at (first (is_port q) v.ports) (ap (λ o. option_and_then (λ (p : PortRow). p.pair) o) (first-change (is_port q) (is_end_of c) cut (λ p. refl) v.ports))
  where
    by_end : (p : PortRow) (e : Bool) → let r : PortRow = cond e (cut p) p in is_the b r.pair ≡ true → is_the b p.pair ≡ true
    by_end p true is = absurd (cc)
    by_end p false is = is

    at : (o : Option PortRow) → pair_of (basic v (Cuts c)) q ≡ option_and_then (λ (p : PortRow). p.pair) (option_map (λ x. cond (is_end_of c x) (cut x) x) o) → is_the b (option_and_then (λ (p : PortRow). p.pair) o) ≡ true
    at None same = let one = rw same at is in absurd (cc)
    at (Some p) same = by_end p (is_end_of c p) (rw same at is)

module _ (P : WaitRow → Type 0) (w : World) where
  knows-step : (v : World) (x : Basic) → keeps_known x ≡ true → Knows P w v → Knows P w (basic v x)
  knows-step v (Wakes who call status fields) is k = record { waits = all_filter P _ v.waits k.waits; pairs = k.pairs }
  knows-step v (Dies who status) is k = record { waits = all_filter P _ v.waits k.waits; pairs = k.pairs }
  knows-step v (Cuts c) is k = record { waits = k.waits; pairs = λ q b one. k.pairs q b (cut-pairs v c q b one) }
  knows-step v (Tells e) is k = k
  knows-step v (Enters m) is k = record { waits = k.waits; pairs = k.pairs }
  knows-step v (Takes q) is k = record { waits = k.waits; pairs = k.pairs }
  knows-step v (TakesConnect q) is k = record { waits = k.waits; pairs = k.pairs }
  knows-step v (Withdraws who) is k = record { waits = k.waits; pairs = k.pairs }
  knows-step v (Empties q) is k = record { waits = k.waits; pairs = k.pairs }
  knows-step v (Unregisters who b) is k = record { waits = k.waits; pairs = k.pairs }
  knows-step v (Unbinds b) is k = record { waits = k.waits; pairs = k.pairs }
  knows-step v (DropsOwned b) is k = record { waits = k.waits; pairs = k.pairs }
  knows-step v (Marks who) is k = record { waits = k.waits; pairs = k.pairs }
  knows-step v (LetsGo pid) is k = record { waits = k.waits; pairs = k.pairs }
  knows-step v x is k = absurd (cc)

  pub knows-all : (v : World) (bs : List Basic) → KeepKnown bs → Knows P w v → Knows P w (world_after v bs)
  knows-all v [] all k = k
  knows-all v (x ∷ bs) all k =
      let here : keeps_known x ≡ true = grind arith in
      let later : every keeps_known bs ≡ true = grind arith in
      knows-all (basic v x) bs later (knows-step v x here k)

-- and no handle goes or comes
pub handles-all : (v : World) (bs : List Basic) → KeepKnown bs → (world_after v bs).handles ≡ v.handles
handles-all v [] all = refl
handles-all v (x ∷ bs) all =
    let here : keeps_known x ≡ true = grind arith in
    let later : every keeps_known bs ≡ true = grind arith in
    handles-all (basic v x) bs later ∙ step x here
  where
    step : (x : Basic) → keeps_known x ≡ true → (basic v x).handles ≡ v.handles
    step (Wakes who call status fields) is = refl
    step (Dies who status) is = refl
    step (Cuts c) is = refl
    step (Tells e) is = refl
    step (Enters m) is = refl
    step (Takes q) is = refl
    step (TakesConnect q) is = refl
    step (Withdraws who) is = refl
    step (Empties q) is = refl
    step (Unregisters who b) is = refl
    step (Unbinds b) is = refl
    step (DropsOwned b) is = refl
    step (Marks who) is = refl
    step (LetsGo pid) is = refl
    step x is = absurd (cc)

-- a message that doesn't ask is taken without a receipt
pub enter-keeps : (m : MessageRow) (v : World) → asks m.message ≡ false → KeepKnown (enter m v)
enter-keeps m v quiet = at (first (takes m) v.waits)
  where
    receipt : KeepKnown (received_steps m)
    receipt = rw quiet refl

    taken : (x : WaitRow) → KeepKnown (given_steps x m ++ woken SUCCESS (shown x m) x ∷ [])
    taken x =
        by_kind (λ x. KeepKnown (given_steps x m ++ woken SUCCESS (shown x m) x ∷ []))
        (λ x r. every-append keeps_known (received_steps m) _ receipt refl)
        (λ x. every-append keeps_known (received_steps m) _ receipt refl)
        (λ x. every-append keeps_known (received_steps m) _ receipt refl)
        (λ x r offer. every-append keeps_known (received_steps m) _ receipt refl)
        (λ x r reply. every-append keeps_known (received_steps m) _ receipt refl)
        (λ x r. every-append keeps_known (received_steps m) _ receipt refl) x

    at : (o : Option WaitRow) → KeepKnown (given o (λ x. given_steps x m ++ woken SUCCESS (shown x m) x ∷ []))
    at None = refl
    at (Some x) = taken x

posted-keeps : (b : Birth) (v : World) → KeepKnown (post_closed b v)
posted-keeps b v = at (port_row v b)
  where
    by_creator : (p : PortRow) (queue : Birth) (o : Option Creator) → KeepKnown (given (option_map (closed_row p queue) o) (λ m. enter m v))
    by_creator p queue None = refl
    by_creator p queue (Some by) = enter-keeps (closed_row p queue by) v refl

    queued : (p : PortRow) (o : Option Birth) → KeepKnown (given (option_and_then (λ queue. option_map (closed_row p queue) p.creator) o) (λ m. enter m v))
    queued p None = refl
    queued p (Some queue) = by_creator p queue p.creator

    at : (o : Option PortRow) → KeepKnown (given o (λ p. given (closing_post v p) (λ m. enter m v)))
    at None = refl
    at (Some p) = queued p (server_of v p)

pub pair-keeps : (b : Birth) (v : World) → KeepKnown (cut_pair b v)
pair-keeps b v = pair-pass keeps_known away-keeps b v refl

pub close-keeps : (b : Birth) (v : World) → KeepKnown (close_port b v)
close-keeps b v = close-pass keeps_known away-keeps b v refl (posted-keeps b (stage_five v b))

-- What the steps tell
-- a connect that ends unsuccessfully in the line has its answer
abbrev pub HasRefusal : World → ScriptLine → WaitRow → Type 0
HasRefusal w line x = IsRight w line (entry.Wakes x.thread x.call PORT_CONNECTION_REFUSED (info [] ∷ []))

-- the line w is the world before it, and o the one that is looked at for other ends
module _ (w : World) (line : ScriptLine) (o : World) (P : WaitRow → Type 0) (calls : (x : WaitRow) → P x → HasItsCall x) where
  -- steps that are fair wherever so much is known
  abbrev pub AreFairOn : Steps → Type 0
  AreFairOn f = (v : World) → Knows P o v → AreFair w line (f v)

  pub then_fair : (f g : Steps) → ((v : World) → KeepKnown (f v)) → AreFairOn f → AreFairOn g → AreFairOn (f ▹ g)
  then_fair f g keep one two v k = all_append (IsFair w line) (f v) (g (behind f v)) (one v k) (two (behind f v) (knows-all P o v (f v) (keep v) k))

  ends_on : (test : World → WaitRow → Bool) (ending : WaitRow → List Basic)
      → ((v : World) (x : WaitRow) → Knows P o v → P x → test v x ≡ true → AreFair w line (ending x)) → AreFairOn (end_each test ending)
  ends_on test ending fair v k =
      each_fair w line (λ x. P x × (test v x ≡ true)) ending (λ x q. fair v x k q.0 q.1) (which (test v) v.waits) (all_which P (test v) v.waits k.waits)

  ends_keep : (test : World → WaitRow → Bool) (ending : WaitRow → List Basic) → ((x : WaitRow) → every takes_away (ending x) ≡ true) → (v : World) → KeepKnown (end_each test ending v)
  ends_keep test ending away v = ends-pass keeps_known away-keeps test ending away v

  -- a receive or listen, and a request
  receive_right : (status : Status) (x : WaitRow) → P x → (is_receive x || is_listen x) ≡ true → AreFair w line (wake status x)
  receive_right status x q is = (waiter_wakes w line x status [] is (calls x q), tt)

  request_right : (status : Status) (x : WaitRow) → (status.0 == SUCCESS.0) ≡ false → (status.0 == DBG_CONTINUE.0) ≡ false → P x → is_request x ≡ true → AreFair w line (end_request status x)
  request_right status x fails stops q is = ((failure_wakes w line x.thread x.call status [] fails stops, request_wakes w line x status [] is (calls x q)), (tt, tt))

  known_calls : (v : World) → Knows P o v → HaveTheirCalls v
  known_calls v k = all_more P HasItsCall calls v.waits k.waits

  -- an event that is marked waits on
  marks_on : (test : World → WaitRow → Bool) → AreFairOn (end_each test mark_event)
  marks_on test = ends_on test mark_event (λ v x k q is. (tt, (tt, tt)))

  marks_keep : (test : World → WaitRow → Bool) (v : World) → KeepKnown (end_each test mark_event v)
  marks_keep test v = ends_keep test mark_event (λ x. refl) v

  -- steps that wake none
  idle_on : (x : Basic) → IsFair w line x → AreFairOn (doing (x ∷ []))
  idle_on x fair v k = (fair, tt)

  -- a message that is posted wakes a receive or listen at most
  pub enter_on : (m : MessageRow) → AreFairOn (enter m)
  enter_on m v k = enter_fair w line m v (known_calls v k)

  module _ (b : Birth) (accepted : (x : WaitRow) → P x → is_accepted_across b o x ≡ true → HasRefusal w line x) where
    -- the test across looks at other ends alone
    across_as : (v : World) (x : WaitRow) → Knows P o v → is_accepted_across b v x ≡ true → is_accepted_across b o x ≡ true
    across_as v x k is = by_pair (is_accepted x) (is_made_on b x) (is_the b (pair_of v x.port)) (is_the b (pair_of o x.port)) (k.pairs x.port b) is
      where
        by_pair : (a m c d : Bool) → (c ≡ true → d ≡ true) → (a && (m || c)) ≡ true → (a && (m || d)) ≡ true
        by_pair true true c d more is = refl
        by_pair true false c d more is = more is
        by_pair false m c d more is = absurd (cc)

    accepted_on : AreFairOn (end_each (is_accepted_across b) end_accepted)
    accepted_on = ends_on (is_accepted_across b) end_accepted (λ v x k q is. (accepted x q (across_as v x k is), (tt, tt)))

    across_on : AreFairOn (end_each (is_request_across b) (end_request LPC_REPLY_LOST))
    across_on = ends_on (is_request_across b) (end_request LPC_REPLY_LOST) (λ v x k q is. request_right LPC_REPLY_LOST x refl refl q (first-true _ _ is))

    received_on : AreFairOn (end_each (is_receive_across b) (wake PORT_DISCONNECTED))
    received_on = ends_on (is_receive_across b) (wake PORT_DISCONNECTED) (λ v x k q is.
        let receives : is_receive x ≡ true = first-true _ _ is in
        receive_right PORT_DISCONNECTED x q (grind (arith, receives)))

    pub pair_on : AreFairOn (cut_pair b)
    pair_on =
        let events : Steps = end_each (is_event_across b) mark_event in
        let receives : Steps = end_each (is_receive_across b) (wake PORT_DISCONNECTED) in
        let accepts : Steps = end_each (is_accepted_across b) end_accepted in
        let last : Steps = doing (Cuts b ∷ []) in
        then_fair (end_each (is_request_across b) (end_request LPC_REPLY_LOST)) (events ▹ (receives ▹ (accepts ▹ last))) (ends_keep (is_request_across b) (end_request LPC_REPLY_LOST) (λ x. refl)) across_on
        (then_fair events (receives ▹ (accepts ▹ last)) (marks_keep (is_event_across b)) (marks_on (is_event_across b))
        (then_fair receives (accepts ▹ last) (ends_keep (is_receive_across b) (wake PORT_DISCONNECTED) (λ x. refl)) received_on
        (then_fair accepts last (ends_keep (is_accepted_across b) end_accepted (λ x. refl)) accepted_on (idle_on (Cuts b) tt))))

    module _ (offered : (x : WaitRow) → P x → is_offered_to b x ≡ true → HasRefusal w line x) where
      receives_on : AreFairOn (end_receives b)
      receives_on = ends_on (λ w. is_receiver b) (wake PORT_DISCONNECTED) (λ v x k q is. receive_right PORT_DISCONNECTED x q (first-true _ _ is))

      requests_on : AreFairOn (end_requests b)
      requests_on = ends_on (λ w. is_request_on b) (end_request PORT_DISCONNECTED) (λ v x k q is. request_right PORT_DISCONNECTED x refl refl q (first-true _ _ is))

      queued_on : AreFairOn (end_each (λ w. is_queued_request b) (end_request LPC_REPLY_LOST))
      queued_on = ends_on (λ w. is_queued_request b) (end_request LPC_REPLY_LOST) (λ v x k q is. request_right LPC_REPLY_LOST x refl refl q (first-true _ _ is))

      offers_on : AreFairOn (end_each (λ w. is_offered_to b) end_offered)
      offers_on = ends_on (λ w. is_offered_to b) end_offered (λ v x k q is. (offered x q is, (tt, (tt, tt))))

      queue_on : AreFairOn (empty_queue b)
      queue_on =
          let events : Steps = end_each (is_queued_event b) mark_event in
          let offers : Steps = end_each (λ w. is_offered_to b) end_offered in
          let last : Steps = doing (Empties b ∷ []) in
          then_fair (end_each (λ w. is_queued_request b) (end_request LPC_REPLY_LOST)) (events ▹ (offers ▹ last)) (ends_keep (λ w. is_queued_request b) (end_request LPC_REPLY_LOST) (λ x. refl)) queued_on
          (then_fair events (offers ▹ last) (marks_keep (is_queued_event b)) (marks_on (is_queued_event b))
          (then_fair offers last (ends_keep (λ w. is_offered_to b) end_offered (λ x. refl)) offers_on (idle_on (Empties b) tt)))

      -- what is posted wakes a receive at most
      posted_on : AreFairOn (post_closed b)
      posted_on v k = at (port_row v b)
        where
          by_creator : (p : PortRow) (queue : Birth) (c : Option Creator) → AreFair w line (given (option_map (closed_row p queue) c) (λ m. enter m v))
          by_creator p queue None = tt
          by_creator p queue (Some c) = enter_on (closed_row p queue c) v k

          queued : (p : PortRow) (q : Option Birth) → AreFair w line (given (option_and_then (λ queue. option_map (closed_row p queue) p.creator) q) (λ m. enter m v))
          queued p None = tt
          queued p (Some queue) = by_creator p queue p.creator

          at : (p : Option PortRow) → AreFair w line (given p (λ p. given (closing_post v p) (λ m. enter m v)))
          at None = tt
          at (Some p) = queued p (server_of v p)

      pub port_on : AreFairOn (close_port b)
      unfolding close_port
      port_on =
          then_fair (drop_name b) (end_receives b ▹ (end_requests b ▹ (mark_events b ▹ (empty_queue b ▹ (cut_pair b ▹ (post_closed b ▹ drop_owned b)))))) (λ v. refl) (idle_on (Unbinds b) tt)
          (then_fair (end_receives b) (end_requests b ▹ (mark_events b ▹ (empty_queue b ▹ (cut_pair b ▹ (post_closed b ▹ drop_owned b))))) (ends_keep (λ w. is_receiver b) (wake PORT_DISCONNECTED) (λ x. refl)) receives_on
          (then_fair (end_requests b) (mark_events b ▹ (empty_queue b ▹ (cut_pair b ▹ (post_closed b ▹ drop_owned b)))) (ends_keep (λ w. is_request_on b) (end_request PORT_DISCONNECTED) (λ x. refl)) requests_on
          (then_fair (mark_events b) (empty_queue b ▹ (cut_pair b ▹ (post_closed b ▹ drop_owned b))) (marks_keep (is_event_on b)) (marks_on (is_event_on b))
          (then_fair (empty_queue b) (cut_pair b ▹ (post_closed b ▹ drop_owned b)) (queue-pass keeps_known away-keeps b) queue_on
          (then_fair (cut_pair b) (post_closed b ▹ drop_owned b) (pair-keeps b) pair_on
          (then_fair (post_closed b) (drop_owned b) (posted-keeps b) posted_on (idle_on (DropsOwned b) tt)))))))
