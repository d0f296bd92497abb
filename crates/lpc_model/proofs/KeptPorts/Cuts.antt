-- Each port that a line cuts off from its other end isn't open behind it.
use Rattle.std.proofs.Common.{◌≡◌, ℕ, List, [], ◌∷◌, ◌++◌, Bool, true, false, not, Option, Some, None, option_map, refl, subst, sym, arith}
use Rattle.std.specs.Prelude.{◌&&◌, option_and_then}
use Rattle.lpc_base.specs.Rows.{every, given, when}
use Rattle.lpc_base.specs.declared.status.Status.{Status}
use Rattle.lpc_base.specs.declared.status.TheConstants.{SUCCESS}
use Rattle.lpc_base.proofs.Bools.{apart-second}
use Rattle.lpc_base.proofs.RowMaps.{every-first}
use Rattle.lpc_base.proofs.RowWords.{every-append, every-back, every-front, every-more, has_none-push}
use Rattle.lpc_message.specs.declared.kind.TheConstants.{DATAGRAM, REQUEST}
use Rattle.lpc_model.specs.declared.entry.CallName.{CallName}
use Rattle.lpc_model.specs.declared.entry.CallName.TheVariants.{NtReplyPort}
use Rattle.lpc_model.specs.declared.entry.Entry.TheVariants.{Answer}
use Rattle.lpc_model.specs.declared.entry.ObjectKind.TheVariants as kind
use Rattle.lpc_model.specs.World.{Birth, Creator, Dacl, HandleRow, Message, MessageRow, ObjectKind, Path, PortRow, ThreadRow, WaitRow, World}
use Rattle.lpc_model.specs.Found.{free_handle, handle_at, has_handle_to, is_accepted, is_connect, is_open, port_row, wait_of, waits_as}
use Rattle.lpc_model.specs.Basics.{AddsHandle, AddsProcess, Awaits, Basic, Cuts, Dies, DrawsIdentifier, DropsHandle, DropsOwned, Empties, Frees, Marks, Receives, Takes, TakesConnect, Tells, Unbinds, Wakes, Withdraws, basic, freed, no_handles, world_after}
use Rattle.lpc_model.specs.Close.{close_handle, close_port, closed_row, closing_post, cut_pair, is_last, post_closed, server_of}
use Rattle.lpc_model.specs.Connect.{accept_start, accept_steps, allow_steps, client_port, connect_start, connect_steps, connection_request, create_steps, guard_steps, listen_steps, named_steps}
use Rattle.lpc_model.specs.Death.{die, end_client, end_threads}
use Rattle.lpc_model.specs.Entering.{enter, received_steps, row_of, take_connect_steps, take_steps}
use Rattle.lpc_model.specs.Lines.{ScriptLine}
use Rattle.lpc_model.specs.Machine.{bare_steps, own_steps}
use Rattle.lpc_model.specs.Offers.{mapped, shared_steps}
use Rattle.lpc_model.specs.Raise.{Heard, event_message, event_wait, raise_steps}
use Rattle.lpc_model.specs.Request.{datagram_start, datagram_steps, given_reply, receive_steps, request_steps, reply_test, request_start, sent_by}
use Rattle.lpc_model.specs.Settle.{settle}
use Rattle.lpc_model.specs.SoundWaits.{HasShutConnects, IsSoundWorld}
use Rattle.lpc_model.specs.Sweep.{sweep}
use Rattle.lpc_model.specs.Tests.{client_of, next_birth}
use Rattle.lpc_model.proofs.Calls.Acts.{Law, end-does}
use Rattle.lpc_model.proofs.Calls.Holding.{Holds, bind_holds, holds_ok}
use Rattle.lpc_model.proofs.Calls.Lines.{AnyWorld, IsCalled, LineLaw, Shut, line-does, passing-lines}
use Rattle.lpc_model.proofs.Calls.Outcomes.{IsReceiving, Outcomes}
use Rattle.lpc_model.proofs.Calls.Raising.{set-passes}
use Rattle.lpc_model.proofs.Calls.Sharing.{connect_act, connect_begun, mapped-pass, shared-pass}
use Rattle.lpc_model.proofs.Calls.Taking.{is_taking, taken_at_once, taking-entered, taking-receipt}
use Rattle.lpc_model.proofs.Closings.Single.{dropped-shut}
use Rattle.lpc_model.proofs.KeptPorts.Lines.{is_calm, settling-calm}
use Rattle.lpc_model.proofs.Settling.Keeps.{settling-does}
use Rattle.lpc_model.proofs.Settling.Settled.{IsReady}
use Rattle.lpc_model.proofs.Sound.Close.{found-value, last-closes, shut-found}
use Rattle.lpc_model.proofs.Sound.Closing.{close-shut}
use Rattle.lpc_model.proofs.Sound.Reply.{reply-cases}
use Rattle.lpc_model.proofs.Sound.Terminate.{IsSafe}
use Rattle.lpc_model.proofs.Steps.Closing.{close-pass, pair-pass, stage_five, takes_away}
use Rattle.lpc_model.proofs.Steps.Ending.{AreEnding, answered_end, die-ending, end-ending, is_ending}
use Rattle.lpc_model.proofs.Steps.InTurn.{after-append, steps-keep}
use Rattle.lpc_model.proofs.Steps.Sweep.{sweep_every}

-- Steps that open no port
abbrev is_unopening : Basic → Bool
is_unopening (AddsHandle pid h) = false
is_unopening b = true

abbrev AreUnopening : List Basic → Type 0
AreUnopening bs = every is_unopening bs ≡ true

ending-unopening : (b : Basic) → is_ending b ≡ true → is_unopening b ≡ true
ending-unopening (AddsHandle pid h) is = absurd (cc)
ending-unopening b is = refl

ended-unopening : (bs : List Basic) → AreEnding bs → AreUnopening bs
ended-unopening = every-more is_ending is_unopening ending-unopening

calm-unopening : (b : Basic) → is_calm b ≡ true → is_unopening b ≡ true
calm-unopening (AddsHandle pid h) is = absurd (cc)
calm-unopening b is = refl

freed-closed : (w : World) (k : ObjectKind) (c d : Birth) → is_open w d ≡ false → is_open (freed w k c) d ≡ false
freed-closed w kind.Port c d off = off
freed-closed w kind.Section c d off = off
freed-closed w kind.Token c d off = off
freed-closed w kind.Process c d off = off
freed-closed w kind.Thread c d off = off

closed-step : (d : Birth) (w : World) (b : Basic) → is_unopening b ≡ true → is_open w d ≡ false → is_open (basic w b) d ≡ false
closed-step d w (AddsHandle pid h) is off = absurd (cc)
closed-step d w (AddsProcess p) is off = has_none-push (has_handle_to d) w.handles (no_handles p.number) off refl
closed-step d w (DropsHandle pid value) is off = dropped-shut w pid value d off
closed-step d w (Frees o) is off = freed-closed w o.kind o.birth d off
closed-step d w b is off = off

stays-closed : (w : World) (bs : List Basic) → AreUnopening bs → (d : Birth) → is_open w d ≡ false → is_open (world_after w bs) d ≡ false
stays-closed w bs all d = steps-keep is_unopening (λ v. is_open v d ≡ false) (closed-step d) w bs all

-- Cuts
-- a port that a step cuts off isn't open in a world
abbrev pub is_due : World → Basic → Bool
is_due v (Cuts b) = not (is_open v b)
is_due v b = true

abbrev pub Fair : World → List Basic → Type 0
Fair w bs = every (is_due (world_after w bs)) bs ≡ true

not-off : (a : Bool) → not a ≡ true → a ≡ false
not-off a is = grind arith

still-due : (v : World) (cs : List Basic) → AreUnopening cs → (s : Basic) → is_due v s ≡ true → is_due (world_after v cs) s ≡ true
still-due v cs all (Cuts b) is = rw (stays-closed v cs all b (not-off (is_open v b) is)) refl
still-due v cs all s is = refl

fair-on : (w : World) (bs cs : List Basic) → AreUnopening cs → Fair w bs → Fair (world_after w bs) cs → Fair w (bs ++ cs)
fair-on w bs cs all one two =
    let v = world_after w bs in
    let u = world_after v cs in
    subst (λ u. every (is_due u) (bs ++ cs) ≡ true) (sym (after-append w bs cs)) (every-append (is_due u) bs cs (every-more (is_due v) (is_due u) (still-due v cs all) bs one) two)

-- steps that open no port cut fairly
abbrev Due : World → List Basic → Type 0
Due w bs = AreUnopening bs → Fair w bs

due-follows : (w : World) (bs cs : List Basic) → Due w bs → Due (world_after w bs) cs → Due w (bs ++ cs)
due-follows w bs cs one two all =
    let later = every-back is_unopening bs cs all in
    fair-on w bs cs later (one (every-front is_unopening bs cs all)) (two later)

-- steps that cut nothing
abbrev is_plain : Basic → Bool
is_plain (Cuts b) = false
is_plain b = true

abbrev ArePlain : List Basic → Type 0
ArePlain bs = every is_plain bs ≡ true

plain-due : (v : World) (b : Basic) → is_plain b ≡ true → is_due v b ≡ true
plain-due v (Cuts b) is = absurd (cc)
plain-due v b is = refl

plain-all : (v : World) (bs : List Basic) → ArePlain bs → every (is_due v) bs ≡ true
plain-all v = every-more is_plain (is_due v) (plain-due v)

plain : (w : World) (bs : List Basic) → ArePlain bs → Fair w bs
plain w bs = plain-all (world_after w bs) bs

taking-plain : (b : Basic) → is_taking b ≡ true → is_plain b ≡ true
taking-plain (Takes queue) is = refl
taking-plain (TakesConnect queue) is = refl
taking-plain (Receives who queue) is = refl
taking-plain (Wakes who call status fields) is = refl
taking-plain b is = absurd (cc)

receipt-plain : (m : MessageRow) → ArePlain (received_steps m)
receipt-plain m = every-more is_taking is_plain taking-plain (received_steps m) (taking-receipt m)

entered-plain : (m : MessageRow) (w : World) → ArePlain (enter m w)
entered-plain m w = every-more is_taking is_plain taking-plain (taken_at_once m w) (taking-entered m w)

away-due : (v : World) (x : Basic) → takes_away x ≡ true → is_due v x ≡ true
away-due v (Wakes who call status fields) is = refl
away-due v (Withdraws who) is = refl
away-due v (Empties q) is = refl
away-due v (Unbinds b) is = refl
away-due v (DropsOwned b) is = refl
away-due v (Marks who) is = refl
away-due v x is = absurd (cc)

-- A port that is closed
posted-due : (v : World) (b : Birth) (w : World) → every (is_due v) (post_closed b w) ≡ true
posted-due v b w = at (port_row w b)
  where
    by_creator : (p : PortRow) (queue : Birth) (o : Option Creator) → every (is_due v) (given (option_map (closed_row p queue) o) (λ m. enter m w)) ≡ true
    by_creator p queue None = refl
    by_creator p queue (Some by) = plain-all v (enter (closed_row p queue by) w) (entered-plain (closed_row p queue by) w)

    queued : (p : PortRow) (o : Option Birth) → every (is_due v) (given (option_and_then (λ queue. option_map (closed_row p queue) p.creator) o) (λ m. enter m w)) ≡ true
    queued p None = refl
    queued p (Some queue) = by_creator p queue p.creator

    at : (o : Option PortRow) → every (is_due v) (given o (λ p. given (closing_post w p) (λ m. enter m w))) ≡ true
    at None = refl
    at (Some p) = queued p (server_of w p)

handle-fair : (w : World) (pid : ℕ) (r : HandleRow) → handle_at w pid r.value ≡ Some r → IsSoundWorld w → Fair w (close_handle pid r w)
handle-fair w pid r at s = by_last (is_last r w) refl
  where
    by_last : (last : Bool) → is_last r w ≡ last → Fair w (when last (close_port r.object.birth w) ++ DropsHandle pid r.value ∷ [])
    by_last true is =
        let b = r.object.birth in
        let bs = close_port b w in
        let v = world_after w bs in
        let shut = close-shut w b s in
        let u = basic v (DropsHandle pid r.value) in
        let closes = last-closes v pid r (shut.sound.tables pid) (shut-found w v pid r shut.handles at) (rw shut.handles is) in
        subst (λ u. every (is_due u) (bs ++ DropsHandle pid r.value ∷ []) ≡ true) (sym (after-append w bs (DropsHandle pid r.value ∷ [])))
        (every-append (is_due u) bs (DropsHandle pid r.value ∷ []) (close-pass (is_due u) (away-due u) b w (rw closes.1 refl) (posted-due u b (stage_five w b))) refl)
    by_last false more = refl

-- A thread that ends: its accepted connect waits on a port that isn't open
die-fair : (w : World) (code : Status) (t : ThreadRow) → HasShutConnects w → Fair w (die code t w)
die-fair w code t shut =
    every-append p first (end_client (wait_of w t.number) v) refl (at (wait_of w t.number) refl)
  where
    first : List Basic
    first = Dies t.number code ∷ Withdraws t.number ∷ []

    v : World
    v = world_after w first

    p : Basic → Bool
    p = is_due (world_after w (die code t w))

    connects : (x : WaitRow) → is_accepted x ≡ true → is_connect x ≡ true
    connects x is = grind arith

    accepted : (x : WaitRow) → wait_of w t.number ≡ Some x → (a : Bool) → is_accepted x ≡ a → every p (when a (cut_pair x.port v)) ≡ true
    accepted x found true is =
        let closed = apart-second (is_connect x) (is_open w x.port) (connects x is) (every-first (λ x. not (is_connect x && is_open w x.port)) (waits_as t.number) w.waits x shut found) in
        pair-pass p (away-due (world_after w (die code t w))) x.port v (rw (stays-closed w (die code t w) (ended-unopening (die code t w) (die-ending code t w)) x.port closed) refl)
    accepted x found false off = refl

    own : (x : WaitRow) (c : Bool) → every p (when c (DropsOwned x.port ∷ [])) ≡ true
    own x true = refl
    own x false = refl

    at : (o : Option WaitRow) → wait_of w t.number ≡ o → every p (end_client o v) ≡ true
    at None none = refl
    at (Some x) found = every-append p (when (is_accepted x) (cut_pair x.port v)) _ (accepted x found (is_accepted x) refl) (own x (is_connect x))

-- Acts
due-law : (by : ThreadRow) → Law by (Shut AnyWorld) AnyWorld Due
due-law by = record {
  keeps = λ w bs all _. tt;
  nothing = λ w all. refl;
  follows = due-follows;
  says = λ w e all. refl;
  numbers = λ w all. refl;
  wakes = λ w status fields x all. refl;
  marks = λ w who is all. refl;
  abandons = λ w who all. refl;
  debugs = λ w pid b stands live all. refl;
  excepts = λ w pid b stands live all. refl;
  dooms = λ w pid code all. refl;
  takes = λ w m all. plain w (take_steps m) (receipt-plain m);
  listens = λ w m all. plain w (take_connect_steps m) (receipt-plain m);
  waits = λ w x off is all. refl;
  sends = λ w m is all. plain w (enter m w) (entered-plain m w);
  asks = λ w x m off wait post all. let v = basic w (Awaits x) in plain w (Awaits x ∷ enter m v) (entered-plain m v);
  creates = λ w is all. refl;
  founds = λ w name path free is all. refl;
  connects = λ w connection offer bytes opens offers is all.
      let m = connection_request by offer bytes in
      plain w (connect_act w by connection offer m) (entered-plain (row_of connection (client_port by connection) m) (world_after w (connect_begun by connection offer m)));
  gives = λ w pid o access is all. refl;
  accepts = λ w context m x a at is all. refl;
  completes = λ w c is all. refl;
  registers = λ w b stands all. refl;
  spawns = λ w pid tid token new unused s all. refl;
  starts = λ w tid pid live unused s all. refl;
  closes = λ w pid r at s _ all. handle-fair w pid r at s;
  dies = λ w code t is all. die-fair w code t is.shut;
  leaves = λ w n b all. refl;
  lets_go = λ w pid all. refl;
  vacates = λ w pid all. refl;
  disowns = λ w b all. refl;
  secures = λ w b s all. refl;
  acts = λ w own all. refl;
  holds_token = λ w content all. refl;
  builds = λ w size prot is all. refl;
  maps = λ w pid v m all. refl;
  unmaps = λ w pid base all. refl;
  writes = λ w b place new all. refl;
}

-- Receives
replied-plain : (w : World) (port : PortRow) (m : Option Message) → Holds ArePlain (given_reply w port m)
replied-plain w port None = refl
replied-plain w port (Some m) = bind_holds (reply_test w port m) _ ArePlain (λ x _. reply-cases (λ b. ArePlain (b ∷ [])) x m refl refl (λ _. refl))

given-plain : (w : World) (by : ThreadRow) (handle : ℕ) (bytes : Option (List ℕ)) (o : Option Message) (port : PortRow) (queue : Birth) (replied : List Basic) → IsReceiving w by handle bytes o port queue replied → ArePlain replied
given-plain w by handle bytes o port queue replied r = holds_ok ArePlain (given_reply w port o) replied (replied-plain w port o) r.reply_made

-- Calls
guarded-plain : (by : ThreadRow) (name : List ℕ) (path : Path) (value : ℕ) (dacl : Option Dacl) → ArePlain (create_steps by (named_steps (next_birth by) path) value ++ guard_steps (next_birth by) (Some name) dacl)
guarded-plain by name path value None = refl
guarded-plain by name path value (Some d) = refl

ends-fair : (by : ThreadRow) (w : World) → IsCalled (Shut AnyWorld) w by → (name : CallName) (own : Bool) (pid : ℕ) (code : Status) (ts : List ThreadRow) → Fair w (answered_end by name own pid code ts w)
ends-fair by w is name own pid code ts = at own
  where
    dying : Fair w (end_threads pid code ts w)
    dying = end-does by (Shut AnyWorld) AnyWorld Due (due-law by) pid code ts w (record { safe = record { sound = is.sound; shut = is.known.0 }; known = tt }) (ended-unopening (end_threads pid code ts w) (end-ending pid code ts w))

    at : (own : Bool) → Fair w (answered_end by name own pid code ts w)
    at true = dying
    at false = dying

fair-calls : (by : ThreadRow) (w : World) → IsCalled (Shut AnyWorld) w by → Outcomes w by (λ _. Fair w)
fair-calls by w is = record {
  creates = λ dacl. refl;
  founds = λ name dacl path free. plain w (create_steps by (named_steps (next_birth by) path) (free_handle w by.process) ++ guard_steps (next_birth by) (Some name) dacl) (guarded-plain by name path (free_handle w by.process) dacl);
  connects = λ name quality view bytes offer own connection c.
      let m = connection_request by offer bytes in
      let row = row_of connection (client_port by connection) m in
      let start = connect_start by connection offer own m in
      let entered = enter row (world_after w start) in
      plain w (connect_steps by connection offer own m w ++ allow_steps w by quality)
      (every-append is_plain (connect_steps by connection offer own m w) (allow_steps w by quality)
      (every-append is_plain start (entered ++ mapped by.process own) refl (every-append is_plain entered (mapped by.process own) (entered-plain row (world_after w start)) (mapped-pass is_plain by.process (λ x. refl) own)))
      refl);
  listens = λ handle port m found at. plain w (listen_steps by port.birth (Some m)) (receipt-plain m);
  awaits_connect = λ handle port found at. refl;
  refuses = λ context bytes view a at. refl;
  accepts = λ context bytes view offer a views c.
      let start = accept_start by context (free_handle w by.process) a views in
      plain w (accept_steps by context (free_handle w by.process) a views) (every-append is_plain start (shared_steps by a.wait views) refl (shared-pass is_plain by a.wait (λ x. refl) (λ x. refl) views));
  completes = λ handle c at. refl;
  sends = λ handle bytes s at. let m = sent_by by DATAGRAM s.message in plain w (datagram_steps by s.port s.queue m w) (entered-plain (row_of s.queue s.port m) (world_after w (datagram_start by)));
  asks = λ handle bytes s at. let m = sent_by by REQUEST s.message in plain w (request_steps by s.port s.queue m w) (entered-plain (row_of s.queue s.port m) (world_after w (request_start by s.port.birth s.queue m)));
  replies = λ handle bytes port m x at read fits. reply-cases (λ b. Fair w (Tells (Answer by.number NtReplyPort SUCCESS []) ∷ b ∷ [])) x m refl refl (λ _. refl);
  receives = λ handle bytes o port queue replied m r at. plain w (receive_steps by port queue replied (Some m)) (every-append is_plain replied _ (given-plain w by handle bytes o port queue replied r) (receipt-plain m));
  awaits_message = λ handle bytes o port queue replied r at. plain w (receive_steps by port queue replied None) (every-append is_plain replied _ (given-plain w by handle bytes o port queue replied r) refl);
  registers = λ handle port at new few. refl;
  repeats = λ handle port at known. refl;
  closes = λ handle r at. handle-fair w by.process r (found-value w by.process handle r at) is.sound;
  duplicates = λ handle access r at. refl;
  queries = λ handle r at. refl;
  spawns = λ pid tid new unused. refl;
  starts = λ target tid pid _ live unused. refl;
  makes_section = λ size prot asked. refl;
  maps_view = λ handle offset size prot s rounded base m. refl;
  unmaps_view = λ address v at. refl;
  reads_memory = λ address n v at. refl;
  writes_memory = λ address new v at may. refl;
  reads_range = λ handle bytes index n d at. refl;
  writes_range = λ handle bytes index new d at may. refl;
  impersonates = λ handle bytes own allowed. refl;
  reverts = λ class. refl;
  opens_own = λ own at. refl;
  opens_primary = refl;
  asks_token = λ handle class t field at told. refl;
  sets = λ target class handle pid port at found live. set-passes (Fair w) by class pid port.birth refl refl;
  handles = λ code handled. refl;
  hears = λ code handled h is. plain w (raise_steps by code handled (Heard h) w) (entered-plain (row_of h.queue h.port (event_message (client_of by) by.next_identifier code h.chance)) (basic (basic w (DrawsIdentifier by.number)) (Awaits (event_wait by code handled h))));
  fails = λ code handled. refl;
  ends = λ call name own pid code ts doomed. ends-fair by w is name own pid code ts;
}

-- Lines
fair-lines : LineLaw (Shut AnyWorld) (λ _. Fair)
fair-lines = passing-lines (Shut AnyWorld) Fair (λ _. is_plain) plain (λ w. record { tells = λ _. refl; processes = λ _ _ _. refl; threads = λ _ _ _. refl; binds = λ _ _. refl; names = λ _. refl }) fair-calls

pub cuts_fair : (w : World) (line : ScriptLine) → IsSafe w → IsReady (world_after w (own_steps line w)) → let bs = bare_steps line w in Fair w (bs ++ sweep (world_after w bs))
unfolding bare_steps
cuts_fair w line is ready =
    let own = own_steps line w in
    let v = world_after w own in
    let calm : AreUnopening (settle v) = every-more is_calm is_unopening calm-unopening (settle v) (settling-calm v) in
    let settled = settling-does (Shut AnyWorld) AnyWorld Due due-law (λ w tid _ _. tt) v ready tt calm in
    let bs = own ++ settle v in
    let u = world_after w bs in
    let one = fair-on w own (settle v) calm (line-does (Shut AnyWorld) (λ _. Fair) fair-lines w is.sound (is.shut, tt) line) settled in
    fair-on w bs (sweep u) (sweep_every is_unopening (λ _. refl) u) one (sweep_every (is_due (world_after u (sweep u))) (λ _. refl) u)
