-- Steps by which no thread ends and no registration goes, and which tell of no end; and laws that hold of such steps, of which
-- two outcomes alone want more: a port that is registered, and threads that end.
use Rattle.lpc_base.proofs.RowMaps.{every-both, every-first}
use Rattle.lpc_base.proofs.RowWords.{every-append, every-more, first-passes}
use Rattle.lpc_base.proofs.Bools.{first-true}
use Rattle.lpc_base.specs.Rows.{every, first, given, passes, when}
use Rattle.lpc_base.specs.declared.status.Status.{Status}
use Rattle.lpc_base.specs.declared.status.TheConstants.{SUCCESS}
use Rattle.lpc_message.specs.declared.kind.TheConstants.{DATAGRAM, REQUEST, CLIENT_DIED}
use Rattle.lpc_model.proofs.Calls.Acts.{complete-found}
use Rattle.lpc_model.proofs.Steps.Closing.{close-pass, stage_five, takes_away}
use Rattle.lpc_model.proofs.Steps.Ending.{answered_end, ending-enter, ending-receipt, handle-ending, is_ending}
use Rattle.lpc_model.proofs.Calls.Holding.{Holds, bind_holds, holds_ok}
use Rattle.lpc_model.proofs.Calls.Lines.{IsCalled}
use Rattle.lpc_model.proofs.Calls.Outcomes.{AreDoomed, Outcomes}
use Rattle.lpc_model.proofs.Steps.Rows.{has-found}
use Rattle.lpc_model.proofs.Calls.Taking.{is_taking, taken_at_once, taking-entered, taking-receipt}
use Rattle.lpc_model.proofs.Calls.Usable.{CanCall}
use Rattle.lpc_model.specs.Basics.{AddsHandle, AddsThread, Basic, Dies, DropsHandle, DropsOwned, Empties, Enters, Frees, Maps, Receives, Registers, Takes, TakesConnect, Tells, Unbinds, Unregisters, Wakes, Withdraws, world_after, Marks, AddsProcess, SetsDebug, SetsException}
use Rattle.lpc_model.specs.Close.{close_handle, close_port, closed_row, closing_post, is_last, post_closed, server_of}
use Rattle.lpc_model.specs.Connect.{Completable, client_port, complete_test, connection_request, is_accepted_on, connect_start, ConnectAnswer, names_connect, answer_test, accept_start, allow_steps, connect_steps, create_steps, guard_steps, named_steps}
use Rattle.lpc_model.specs.Deaths.{is_died_post}
use Rattle.lpc_model.specs.Entering.{enter, received_steps, row_of, take_steps}
use Rattle.lpc_model.specs.Found.{is_live, is_live_thread, live_thread, lives_in, port_row, free_handle}
use Rattle.lpc_model.specs.Register.{is_registered}
use Rattle.lpc_model.specs.Request.{datagram_start, given_reply, reply_test, request_start, sent_by, reply_steps}
use Rattle.lpc_model.specs.SoundWaits.{IsSoundWorld, is_sound_as, is_sound_wait}
use Rattle.lpc_model.specs.World.{Birth, Creator, HandleRow, Message, MessageRow, PortRow, ThreadRow, WaitRow, World, Chance, FirstDebug, LastDebug, LastException}
use Rattle.lpc_model.specs.declared.entry.CallName.{CallName}
use Rattle.lpc_model.specs.declared.entry.CallName.TheVariants.{NtRegisterThreadTerminatePort, NtReplyPort}
use Rattle.lpc_model.specs.declared.entry.Entry.TheVariants.{Answer}
use Rattle.std.proofs.Common.{Bool, List, None, Option, Some, [], arith, false, length, not, refl, true, ℕ, ◌++◌, ◌∷◌, ◌≡◌}
use Rattle.std.proofs.lemmas.Bool.Decides.{nat_tests}
use Rattle.std.proofs.lemmas.Bool.{and_from}
use Rattle.std.specs.Prelude.{Ok, option_and_then, option_map, ◌&&◌, ◌==◌}
use Rattle.lpc_model.proofs.Calls.Sharing.{mapped-pass, shared-pass, guard-pass}
use Rattle.lpc_model.specs.Offers.{mapped, shared_steps}
use Rattle.lpc_model.proofs.Calls.Tested.{named-wait}
use Rattle.lpc_model.specs.Tests.{next_birth, client_of}
use Rattle.lpc_message.specs.declared.message.ClientId.{ClientId}
use Rattle.lpc_model.proofs.Calls.Raising.{set-passes}
use Rattle.lpc_model.proofs.Sound.Reply.{reply-cases}
use Rattle.lpc_model.specs.Raise.{event_begun, event_kind, event_message, raise_told, set_port_steps}
use Rattle.lpc_model.specs.Left.{is_portless}

-- Steps
abbrev pub is_deathless : Basic → Bool
is_deathless (Enters m) = not (is_died_post m)
is_deathless (Dies who status) = false
is_deathless (Unregisters who b) = false
is_deathless b = true

abbrev pub AreDeathless : List Basic → Type 0
AreDeathless bs = every is_deathless bs ≡ true

-- a message enters
taking-deathless : (b : Basic) → is_taking b ≡ true → is_deathless b ≡ true
taking-deathless (Takes queue) is = refl
taking-deathless (TakesConnect queue) is = refl
taking-deathless (Receives who queue) is = refl
taking-deathless (Wakes who call status fields) is = refl
taking-deathless b is = absurd (cc)

pub deathless-receipt : (m : MessageRow) → AreDeathless (received_steps m)
deathless-receipt m = every-more is_taking is_deathless taking-deathless (received_steps m) (taking-receipt m)

pub deathless-taken : (m : MessageRow) (w : World) → AreDeathless (taken_at_once m w)
deathless-taken m w = every-more is_taking is_deathless taking-deathless (taken_at_once m w) (taking-entered m w)

pub deathless-enter : (m : MessageRow) (w : World) → not (is_died_post m) ≡ true → AreDeathless (enter m w)
deathless-enter m w off = and_from _ _ off (deathless-taken m w)

-- a port that is closed
pub away-deathless : (x : Basic) → takes_away x ≡ true → is_deathless x ≡ true
away-deathless (Wakes who call status fields) is = refl
away-deathless (Withdraws who) is = refl
away-deathless (Empties q) is = refl
away-deathless (Unbinds b) is = refl
away-deathless (DropsOwned b) is = refl
away-deathless (Marks who) is = refl
away-deathless x is = absurd (cc)

posted-deathless : (b : Birth) (w : World) → AreDeathless (post_closed b w)
posted-deathless b w = at (port_row w b)
  where
    by_creator : (p : PortRow) (queue : Birth) (o : Option Creator) → AreDeathless (given (option_map (closed_row p queue) o) (λ m. enter m w))
    by_creator p queue None = refl
    by_creator p queue (Some by) = deathless-enter (closed_row p queue by) w refl

    queued : (p : PortRow) (o : Option Birth) → AreDeathless (given (option_and_then (λ queue. option_map (closed_row p queue) p.creator) o) (λ m. enter m w))
    queued p None = refl
    queued p (Some queue) = by_creator p queue p.creator

    at : (o : Option PortRow) → AreDeathless (given o (λ p. given (closing_post w p) (λ m. enter m w)))
    at None = refl
    at (Some p) = queued p (server_of w p)

pub handle-deathless : (pid : ℕ) (r : HandleRow) (w : World) → AreDeathless (close_handle pid r w)
handle-deathless pid r w = at (is_last r w)
  where
    at : (last : Bool) → AreDeathless (when last (close_port r.object.birth w) ++ DropsHandle pid r.value ∷ [])
    at true = every-append is_deathless (close_port r.object.birth w) (DropsHandle pid r.value ∷ []) (close-pass is_deathless away-deathless r.object.birth w refl (posted-deathless r.object.birth (stage_five w r.object.birth))) refl
    at false = refl

-- Mild steps
-- besides, no port is registered and no row goes; a thread that is made lives and has registered nothing, and a process that
-- gets a handle or a view lives
abbrev pub is_mild : World → Basic → Bool
is_mild w (Registers who b) = false
is_mild w (Frees o) = false
is_mild w (AddsThread t) = t.live && (length t.registrations == 0)
is_mild w (AddsHandle pid h) = is_live w pid
is_mild w (Maps pid x) = is_live w pid
is_mild w (SetsDebug pid b) = is_live w pid
is_mild w (SetsException pid b) = is_live w pid
is_mild w (AddsProcess p) = is_portless p
is_mild w b = is_deathless b

abbrev pub AreMild : World → List Basic → Type 0
AreMild w bs = every (is_mild w) bs ≡ true

mild-deathless : (w : World) (b : Basic) → is_mild w b ≡ true → is_deathless b ≡ true
mild-deathless w (Registers who b) is = absurd (cc)
mild-deathless w (Frees o) is = absurd (cc)
mild-deathless w (AddsThread t) is = refl
mild-deathless w (AddsHandle pid h) is = refl
mild-deathless w (Maps pid x) is = refl
mild-deathless w (SetsDebug pid b) is = refl
mild-deathless w (SetsException pid b) is = refl
mild-deathless w (AddsProcess p) is = refl
mild-deathless w b is = is

pub milds-deathless : (w : World) (bs : List Basic) → AreMild w bs → AreDeathless bs
milds-deathless w = every-more (is_mild w) is_deathless (mild-deathless w)

ending-mild : (w : World) (b : Basic) → is_ending b ≡ true → is_deathless b ≡ true → is_mild w b ≡ true
ending-mild w (Registers who b) ends is = absurd (cc)
ending-mild w (Frees o) ends is = absurd (cc)
ending-mild w (AddsThread t) ends is = absurd (cc)
ending-mild w (AddsHandle pid h) ends is = absurd (cc)
ending-mild w (Maps pid x) ends is = absurd (cc)
ending-mild w (SetsDebug pid b) ends is = absurd (cc)
ending-mild w (SetsException pid b) ends is = absurd (cc)
ending-mild w (AddsProcess p) ends is = absurd (cc)
ending-mild w b ends is = is

pub mild-enter : (w v : World) (m : MessageRow) → not (is_died_post m) ≡ true → AreMild w (enter m v)
mild-enter w v m off = every-both is_ending is_deathless (is_mild w) (ending-mild w) (enter m v) (ending-enter m v) (deathless-enter m v off)

pub handle-mild : (w : World) (pid : ℕ) (r : HandleRow) → AreMild w (close_handle pid r w)
handle-mild w pid r = every-both is_ending is_deathless (is_mild w) (ending-mild w) (close_handle pid r w) (handle-ending pid r w) (handle-deathless pid r w)

mild-receipt : (w : World) (m : MessageRow) → AreMild w (received_steps m)
mild-receipt w m = every-both is_ending is_deathless (is_mild w) (ending-mild w) (received_steps m) (ending-receipt m) (deathless-receipt m)

given-mild : (w : World) (port : PortRow) (o : Option Message) → Holds (AreMild w) (given_reply w port o)
given-mild w port None = refl
given-mild w port (Some m) = bind_holds (reply_test w port m) _ (AreMild w) (λ x _. reply-cases (λ b. AreMild w (b ∷ [])) x m refl refl (λ _. refl))

-- the process of a caller lives, and that of a wait
pub caller-lives : (w : World) (by : ThreadRow) → CanCall w by → is_live w by.process ≡ true
caller-lives w by c = has-found (lives_in by.process) (is_live_thread by.number) w.threads by c.lives (own by.live (first-passes (is_live_thread by.number) w.threads by c.lives))
  where
    own : (l : Bool) → ((by.number == by.number) && l) ≡ true → ((by.process == by.process) && l) ≡ true
    own l is = grind (arith, nat_tests)

waiter-lives : (w : World) (x : WaitRow) → is_sound_wait w x ≡ true → is_live w x.process ≡ true
waiter-lives w x is = at (live_thread w x.thread) refl (first-true _ (is_sound_as w x x.kind) is)
  where
    lives : (t : ThreadRow) → is_live_thread x.thread t ≡ true → (t.process == x.process) ≡ true → lives_in x.process t ≡ true
    lives t one two = grind arith

    at : (o : Option ThreadRow) → live_thread w x.thread ≡ o → passes o (λ t. t.process == x.process) ≡ true → is_live w x.process ≡ true
    at None none is = absurd (cc)
    at (Some t) found is = has-found (lives_in x.process) (is_live_thread x.thread) w.threads t found (lives t (first-passes (is_live_thread x.thread) w.threads t found) is)

-- Laws on lives
-- A law that holds of mild steps, of a port that is registered, and of threads that end. All other outcomes are mild steps.
pub record LifeLaw (by : ThreadRow) (C : World → Type 0) (P : World → List Basic → Type 0) : Type 0 where
  pub mild : (w : World) (bs : List Basic) → AreMild w bs → P w bs
  pub registers : (w : World) (b : Birth) → is_registered b by ≡ false → IsCalled C w by → P w (Tells (Answer by.number NtRegisterThreadTerminatePort SUCCESS []) ∷ Registers by.number b ∷ [])
  pub ends : (w : World) (name : CallName) (own : Bool) (pid : ℕ) (code : Status) (ts : List ThreadRow) → AreDoomed w by own pid ts → IsCalled C w by → P w (answered_end by name own pid code ts w)

module _ (by : ThreadRow) (C : World → Type 0) (P : World → List Basic → Type 0) (k : LifeLaw by C P) where
  -- a message is sent behind other steps
  sending : (w : World) (start : List Basic) (m : MessageRow) → AreMild w start → not (is_died_post m) ≡ true → P w (start ++ enter m (world_after w start))
  sending w start m mild off = k.mild w _ (every-append (is_mild w) start (enter m (world_after w start)) mild (mild-enter w (world_after w start) m off))

  waiter-live : (w : World) (handle : ℕ) (c : Completable) → complete_test w by handle ≡ Ok c → IsSoundWorld w → is_live w c.wait.process ≡ true
  waiter-live w handle c at s =
      let found = holds_ok (λ (c : Completable). first (is_accepted_on c.client) w.waits ≡ Some c.wait) (complete_test w by handle) c (complete-found w by handle) at in
      waiter-lives w c.wait (every-first (is_sound_wait w) (is_accepted_on c.client) w.waits c.wait s.waits found)

  undied : (client : ClientId) (identifier code : ℕ) (c : Chance) → not (event_kind c == CLIENT_DIED) ≡ true
  undied client identifier code FirstDebug = refl
  undied client identifier code LastDebug = refl
  undied client identifier code LastException = refl

  pub life-outcomes : (w : World) → IsCalled C w by → Outcomes w by (λ _. P w)
  life-outcomes w is = record {
    creates = λ dacl. k.mild w _ (rw (caller-lives w by is.can) refl);
    founds = λ name dacl path free. k.mild w _ (every-append (is_mild w) (create_steps by (named_steps (next_birth by) path) (free_handle w by.process)) (guard_steps (next_birth by) (Some name) dacl) (rw (caller-lives w by is.can) refl) (guard-pass (is_mild w) (λ _ _. refl) (next_birth by) dacl));
    connects = λ name quality view bytes offer own connection c.
        let m = connection_request by offer bytes in
        let start = connect_start by connection offer own m in
        let row = row_of connection (client_port by connection) m in
        k.mild w _ (every-append (is_mild w) (connect_steps by connection offer own m w) (allow_steps w by quality) (every-append (is_mild w) start (enter row (world_after w start) ++ mapped by.process own) refl (every-append (is_mild w) (enter row (world_after w start)) (mapped by.process own) (mild-enter w (world_after w start) row refl) (mapped-pass (is_mild w) by.process (λ _. caller-lives w by is.can) own))) refl);
    listens = λ handle port m l at. k.mild w _ (mild-receipt w m);
    awaits_connect = λ handle port l at. k.mild w _ refl;
    refuses = λ context bytes view a at. k.mild w _ refl;
    accepts = λ context bytes view offer a views c.
        let found = holds_ok (λ (a : ConnectAnswer). first (names_connect w by a.message) w.waits ≡ Some a.wait) (answer_test w by bytes) a (named-wait w by bytes) c.answered in
        let client = waiter-lives w a.wait (every-first (is_sound_wait w) (names_connect w by a.message) w.waits a.wait (let s = is.sound in s.waits) found) in
        k.mild w _ (every-append (is_mild w) (accept_start by context (free_handle w by.process) a views) (shared_steps by a.wait views) (rw (caller-lives w by is.can) refl) (shared-pass (is_mild w) by a.wait (λ _. caller-lives w by is.can) (λ _. client) views));
    completes = λ handle c at. k.mild w _ (rw (waiter-live w handle c at is.sound) refl);
    sends = λ handle bytes s at. sending w (datagram_start by) (row_of s.queue s.port (sent_by by DATAGRAM s.message)) refl refl;
    asks = λ handle bytes s at. sending w (request_start by s.port.birth s.queue (sent_by by REQUEST s.message)) (row_of s.queue s.port (sent_by by REQUEST s.message)) refl refl;
    replies = λ handle bytes port m x at read fits. k.mild w (reply_steps by x m) (reply-cases (λ b. AreMild w (Tells (Answer by.number NtReplyPort SUCCESS []) ∷ b ∷ [])) x m refl refl (λ _. refl));
    receives = λ handle bytes o port queue replied m r at. k.mild w _ (every-append (is_mild w) replied (take_steps m) (holds_ok (AreMild w) (given_reply w port o) replied (given-mild w port o) r.reply_made) (mild-receipt w m));
    awaits_message = λ handle bytes o port queue replied r at. k.mild w _ (every-append (is_mild w) replied _ (holds_ok (AreMild w) (given_reply w port o) replied (given-mild w port o) r.reply_made) refl);
    registers = λ handle port at new few. k.registers w port.birth new is;
    repeats = λ handle port at known. k.mild w _ refl;
    closes = λ handle r at. k.mild w _ (handle-mild w by.process r);
    duplicates = λ handle access r at. k.mild w _ (rw (caller-lives w by is.can) refl);
    queries = λ handle r at. k.mild w _ refl;
    spawns = λ pid tid new unused. k.mild w _ (rw (caller-lives w by is.can) refl);
    starts = λ target tid pid _ live unused. k.mild w _ (rw (caller-lives w by is.can) refl);
    makes_section = λ size prot asked. k.mild w _ (rw (caller-lives w by is.can) refl);
    maps_view = λ handle offset size prot s rounded base m. k.mild w _ (rw (caller-lives w by is.can) refl);
    unmaps_view = λ address v at. k.mild w _ refl;
    reads_memory = λ address n v at. k.mild w _ refl;
    writes_memory = λ address new v at may. k.mild w _ refl;
    reads_range = λ handle bytes index n d at. k.mild w _ refl;
    writes_range = λ handle bytes index new d at may. k.mild w _ refl;
    impersonates = λ handle bytes own allowed. k.mild w _ refl;
    reverts = λ class. k.mild w _ refl;
    opens_own = λ own at. k.mild w _ (rw (caller-lives w by is.can) refl);
    opens_primary = k.mild w _ (rw (caller-lives w by is.can) refl);
    asks_token = λ handle class t field at told. k.mild w _ refl;
    sets = λ target class handle pid port at found live. k.mild w (set_port_steps by class pid port.birth) (set-passes (AreMild w) by class pid port.birth (rw live refl) (rw live refl));
    handles = λ code handled. k.mild w _ refl;
    hears = λ code handled h is. sending w (raise_told by ∷ event_begun by code handled h) (row_of h.queue h.port (event_message (client_of by) by.next_identifier code h.chance)) refl (undied (client_of by) by.next_identifier code h.chance);
    fails = λ code handled. k.mild w _ refl;
    ends = λ call name own pid code ts doomed. k.ends w name own pid code ts doomed is;
  }
