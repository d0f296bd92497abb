-- The steps of each line are in balance.
use Rattle.std.proofs.Common.{◌≡◌, ℕ, List, [], ◌∷◌, ◌++◌, Bool, true, false, not, Option, Some, None, refl, sym, subst}
use Rattle.std.specs.Prelude.{◌&&◌, option_and_then, option_map}
use Rattle.lpc_base.specs.Rows.{each, every, given, when, which}
use Rattle.lpc_base.proofs.RowWords.{every-append, every-more}
use Rattle.lpc_base.proofs.Bools.{first-true, second-true}
use Rattle.lpc_base.specs.declared.birth.Birth.{Birth}
use Rattle.lpc_base.specs.declared.status.Status.{Status}
use Rattle.lpc_base.specs.declared.status.TheConstants.{LPC_REPLY_LOST, PORT_DISCONNECTED}
use Rattle.lpc_model.specs.World.{Creator, HandleRow, MessageRow, PortRow, ThreadRow, WaitRow, World}
use Rattle.lpc_model.specs.Found.{handles_of, is_accepted, is_connect, is_live, port_row, wait_of}
use Rattle.lpc_model.specs.Basics.{Basic, Cuts, Dies, DropsHandle, DropsOwned, DropsViewsOf, Empties, Steps, Unregisters, Withdraws, doing, end_each, in_turn, provided, world_after, ◌▹◌, LetsGo}
use Rattle.lpc_model.specs.Entering.{enter}
use Rattle.lpc_model.specs.Close.{close_handle, close_port, closed_row, cut_pair, drop_name, drop_owned, empty_queue, end_accepted, end_offered, end_receives, end_request, end_requests, is_accepted_across, is_last, is_offered_to, is_queued_request, is_receive_across, is_receiver, is_request_across, is_request_on, post_closed, server_of, closing_post, wake, is_event_across, is_queued_event, mark_event, is_event_on, mark_events}
use Rattle.lpc_model.specs.Death.{end_client, die, end_process, end_threads, post_death, post_deaths, death_post, close_handles}
use Rattle.lpc_model.specs.Lines.{ScriptLine}
use Rattle.lpc_model.specs.PlainConnects.{is_plain_connect}
use Rattle.lpc_model.specs.Sweep.{sweep}
use Rattle.lpc_model.proofs.Steps.Closing.{behind}
use Rattle.lpc_model.proofs.Steps.Ending.{told-facts}
use Rattle.lpc_model.specs.Accounts.{Receipt}
use Rattle.lpc_model.proofs.Account.Balance.{AreBalanced, both-balanced, is_level, level-balanced}
use Rattle.lpc_model.proofs.Account.DryQueues.{HasDryQueues, IsEntered, dry-all, entered, is_soft}
use Rattle.lpc_model.proofs.Steps.Sweep.{sweep_every}
use Rattle.lpc_model.proofs.Steps.InTurn.{after-append}

-- Plain steps: they tell of no receipt, let no message in, and begin no receive
abbrev pub is_plain : Basic → Bool
is_plain b = is_level b && is_soft b

abbrev pub ArePlain : List Basic → Type 0
ArePlain bs = every is_plain bs ≡ true

pub plain-level : (bs : List Basic) → ArePlain bs → every is_level bs ≡ true
plain-level bs all = every-more is_plain is_level (λ b is. first-true (is_level b) (is_soft b) is) bs all

pub plain-soft : (bs : List Basic) → ArePlain bs → every is_soft bs ≡ true
plain-soft bs all = every-more is_plain is_soft (λ b is. second-true (is_level b) (is_soft b) is) bs all

each-plain : (ending : WaitRow → List Basic) → ((x : WaitRow) → ArePlain (ending x)) → (xs : List WaitRow) → ArePlain (each ending xs)
each-plain ending all [] = refl
each-plain ending all (x ∷ xs) = every-append is_plain (ending x) (each ending xs) (all x) (each-plain ending all xs)

pub sweep-plain : (w : World) → ArePlain (sweep w)
sweep-plain = sweep_every is_plain (λ _. refl)

module _ (s : Receipt) (w : World) (line : ScriptLine) where
  -- steps that are in balance, and leave dry queues behind, where they find them
  abbrev pub Balances : Steps → Type 0
  Balances f = (v : World) → HasDryQueues w v → IsEntered s w line v (f v)

  pub plain_balances : (f : Steps) → ((v : World) → ArePlain (f v)) → Balances f
  plain_balances f plain v dry = record { balanced = level-balanced s w line v (f v) (plain-level (f v) (plain v)); dry = dry-all w v (f v) (plain-soft (f v) (plain v)) dry }

  pub then_balances : (f g : Steps) → Balances f → Balances g → Balances (f ▹ g)
  then_balances f g one two v dry =
      let here = one v dry in
      let there = two (behind f v) here.dry in
      record {
        balanced = both-balanced s w line v (f v) (g (behind f v)) here.balanced there.balanced;
        dry = subst (HasDryQueues w) (sym (after-append v (f v) (g (behind f v)))) there.dry;
      }

  turn_balances : {A : Type 0} (f : A → Steps) → ((x : A) → Balances (f x)) → (xs : List A) → Balances (in_turn f xs)
  turn_balances f each [] v dry = plain_balances (doing []) (λ v. refl) v dry
  turn_balances f each (x ∷ xs) v dry = then_balances (f x) (in_turn f xs) (each x) (turn_balances f each xs) v dry

  pub enter_balances : (m : MessageRow) → is_plain_connect m ≡ true → Balances (enter m)
  enter_balances m plain v dry = entered s w line v m plain dry

  pub none_balances : (v : World) → HasDryQueues w v → IsEntered s w line v []
  none_balances v dry = plain_balances (doing []) (λ v. refl) v dry

  ends_balance : (test : World → WaitRow → Bool) (ending : WaitRow → List Basic) → ((x : WaitRow) → ArePlain (ending x)) → Balances (end_each test ending)
  ends_balance test ending all = plain_balances (end_each test ending) (λ v. each-plain ending all (which (test v) v.waits))

  -- A port that is closed
  queue_balances : (b : Birth) → Balances (empty_queue b)
  queue_balances b = then_balances (end_each (λ w. is_queued_request b) (end_request LPC_REPLY_LOST)) (end_each (is_queued_event b) mark_event ▹ (end_each (λ w. is_offered_to b) end_offered ▹ doing (Empties b ∷ []))) (ends_balance (λ w. is_queued_request b) (end_request LPC_REPLY_LOST) (λ x. refl))
      (then_balances (end_each (is_queued_event b) mark_event) (end_each (λ w. is_offered_to b) end_offered ▹ doing (Empties b ∷ [])) (ends_balance (is_queued_event b) mark_event (λ x. refl))
      (then_balances (end_each (λ w. is_offered_to b) end_offered) (doing (Empties b ∷ [])) (ends_balance (λ w. is_offered_to b) end_offered (λ x. refl)) (plain_balances (doing (Empties b ∷ [])) (λ v. refl))))

  pair_balances : (b : Birth) → Balances (cut_pair b)
  pair_balances b = then_balances (end_each (is_request_across b) (end_request LPC_REPLY_LOST)) (end_each (is_event_across b) mark_event ▹ (end_each (is_receive_across b) (wake PORT_DISCONNECTED) ▹ (end_each (is_accepted_across b) end_accepted ▹ doing (Cuts b ∷ [])))) (ends_balance (is_request_across b) (end_request LPC_REPLY_LOST) (λ x. refl))
      (then_balances (end_each (is_event_across b) mark_event) (end_each (is_receive_across b) (wake PORT_DISCONNECTED) ▹ (end_each (is_accepted_across b) end_accepted ▹ doing (Cuts b ∷ []))) (ends_balance (is_event_across b) mark_event (λ x. refl))
      (then_balances (end_each (is_receive_across b) (wake PORT_DISCONNECTED)) (end_each (is_accepted_across b) end_accepted ▹ doing (Cuts b ∷ [])) (ends_balance (is_receive_across b) (wake PORT_DISCONNECTED) (λ x. refl))
      (then_balances (end_each (is_accepted_across b) end_accepted) (doing (Cuts b ∷ [])) (ends_balance (is_accepted_across b) end_accepted (λ x. refl)) (plain_balances (doing (Cuts b ∷ [])) (λ v. refl)))))

  post_balances : (b : Birth) → Balances (post_closed b)
  post_balances b v dry = at (port_row v b)
    where
      by_creator : (p : PortRow) (queue : Birth) (o : Option Creator) → IsEntered s w line v (given (option_map (closed_row p queue) o) (λ m. enter m v))
      by_creator p queue None = none_balances v dry
      by_creator p queue (Some by) = enter_balances (closed_row p queue by) refl v dry

      queued : (p : PortRow) (o : Option Birth) → IsEntered s w line v (given (option_and_then (λ queue. option_map (closed_row p queue) p.creator) o) (λ m. enter m v))
      queued p None = none_balances v dry
      queued p (Some queue) = by_creator p queue p.creator

      at : (o : Option PortRow) → IsEntered s w line v (given o (λ p. given (closing_post v p) (λ m. enter m v)))
      at None = none_balances v dry
      at (Some p) = queued p (server_of v p)

  port_balances : (b : Birth) → Balances (close_port b)
  unfolding close_port
  port_balances b =
      then_balances (drop_name b) (end_receives b ▹ (end_requests b ▹ (mark_events b ▹ (empty_queue b ▹ (cut_pair b ▹ (post_closed b ▹ drop_owned b)))))) (plain_balances (drop_name b) (λ v. refl))
      (then_balances (end_receives b) (end_requests b ▹ (mark_events b ▹ (empty_queue b ▹ (cut_pair b ▹ (post_closed b ▹ drop_owned b))))) (ends_balance (λ w. is_receiver b) (wake PORT_DISCONNECTED) (λ x. refl))
      (then_balances (end_requests b) (mark_events b ▹ (empty_queue b ▹ (cut_pair b ▹ (post_closed b ▹ drop_owned b)))) (ends_balance (λ w. is_request_on b) (end_request PORT_DISCONNECTED) (λ x. refl))
      (then_balances (mark_events b) (empty_queue b ▹ (cut_pair b ▹ (post_closed b ▹ drop_owned b))) (ends_balance (is_event_on b) mark_event (λ x. refl))
      (then_balances (empty_queue b) (cut_pair b ▹ (post_closed b ▹ drop_owned b)) (queue_balances b)
      (then_balances (cut_pair b) (post_closed b ▹ drop_owned b) (pair_balances b)
      (then_balances (post_closed b) (drop_owned b) (post_balances b) (plain_balances (drop_owned b) (λ v. refl))))))))

  provided_balances : (test : World → Bool) (f : Steps) → Balances f → Balances (provided test f)
  provided_balances test f one v dry = at (test v)
    where
      at : (b : Bool) → IsEntered s w line v (when b (f v))
      at true = one v dry
      at false = none_balances v dry

  pub handle_balances : (pid : ℕ) (r : HandleRow) → Balances (close_handle pid r)
  handle_balances pid r = then_balances (provided (is_last r) (close_port r.object.birth)) (doing (DropsHandle pid r.value ∷ [])) (provided_balances (is_last r) (close_port r.object.birth) (port_balances r.object.birth)) (plain_balances (doing (DropsHandle pid r.value ∷ [])) (λ v. refl))

  -- Threads that end
  accepted_balances : (o : Option WaitRow) → Balances (end_client o)
  accepted_balances None = plain_balances (doing []) (λ v. refl)
  accepted_balances (Some x) =
      let own : Steps = doing (DropsOwned x.port ∷ []) in
      then_balances (provided (λ w. is_accepted x) (cut_pair x.port)) (provided (λ w. is_connect x) own) (provided_balances (λ w. is_accepted x) (cut_pair x.port) (pair_balances x.port)) (provided_balances (λ w. is_connect x) own (plain_balances own (λ v. refl)))

  die_balances : (code : Status) (t : ThreadRow) → Balances (die code t)
  die_balances code t v dry = then_balances (doing (Dies t.number code ∷ Withdraws t.number ∷ [])) (end_client (wait_of v t.number)) (plain_balances (doing (Dies t.number code ∷ Withdraws t.number ∷ [])) (λ v. refl)) (accepted_balances (wait_of v t.number)) v dry

  told_balances : (t : ThreadRow) (b : Birth) → Balances (post_death t b)
  told_balances t b = then_balances (doing (Unregisters t.number b ∷ [])) (λ w. given (death_post w t b) (λ m. enter m w)) (plain_balances (doing (Unregisters t.number b ∷ [])) (λ v. refl)) (λ v dry. at v dry (death_post v t b) refl)
    where
      at : (v : World) → HasDryQueues w v → (o : Option MessageRow) → death_post v t b ≡ o → IsEntered s w line v (given o (λ m. enter m v))
      at v dry None none = none_balances v dry
      at v dry (Some m) some = let told = told-facts t b m v some in enter_balances m told.plain v dry

  pub end_balances : (pid : ℕ) (code : Status) (ts : List ThreadRow) → Balances (end_threads pid code ts)
  unfolding end_threads
  end_balances pid code ts =
      then_balances (in_turn (die code) ts) (in_turn post_deaths ts ▹ provided (λ w. not (is_live w pid)) (end_process pid)) (turn_balances (die code) (die_balances code) ts)
      (then_balances (in_turn post_deaths ts) (provided (λ w. not (is_live w pid)) (end_process pid)) (turn_balances post_deaths (λ t. turn_balances (post_death t) (told_balances t) t.registrations) ts)
      (provided_balances (λ w. not (is_live w pid)) (end_process pid) (λ v dry. then_balances (doing (LetsGo pid ∷ [])) (close_handles pid ▹ doing (DropsViewsOf pid ∷ [])) (plain_balances (doing (LetsGo pid ∷ [])) (λ v. refl))
      (then_balances (close_handles pid) (doing (DropsViewsOf pid ∷ [])) (λ u dry. turn_balances (close_handle pid) (handle_balances pid) (handles_of u pid) u dry) (plain_balances (doing (DropsViewsOf pid ∷ [])) (λ v. refl))) v dry)))

  -- Messages that are sent
  pub sent_balances : (m : MessageRow) (start : List Basic) → is_plain_connect m ≡ true → ArePlain start → HasDryQueues w w → AreBalanced s w line w (start ++ enter m (world_after w start))
  sent_balances m start connects plain dry =
      let all = then_balances (doing start) (enter m) (plain_balances (doing start) (λ v. plain)) (enter_balances m connects) w dry in all.balanced
