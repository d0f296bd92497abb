-- The step of each line keeps the ports that stood before it.
use Rattle.std.proofs.Common.{◌≡◌, ℕ, List, [], ◌∷◌, ◌++◌, Bool, true, false, not, Option, Some, None, refl, subst, sym, arith}
use Rattle.std.specs.Prelude.{◌&&◌, ◌||◌}
use Rattle.std.proofs.lemmas.Bool.{and_from, eqb-true}
use Rattle.std.proofs.lemmas.Bool.Decides.{nat_tests}
use Rattle.lpc_base.specs.Rows.{every, first}
use Rattle.lpc_base.specs.declared.status.TheConstants.{SUCCESS}
use Rattle.lpc_base.proofs.Births.{birth-self}
use Rattle.lpc_base.proofs.Bools.{first-true, second-true}
use Rattle.lpc_base.proofs.RowMaps.{every-change_to, every-first}
use Rattle.lpc_base.proofs.RowWords.{every-append, every-change, every-more, every-not, every-push, every-without, first-passes}
use Rattle.lpc_message.specs.declared.kind.TheConstants.{DATAGRAM, REQUEST}
use Rattle.lpc_model.specs.declared.entry.CallName.TheVariants.{NtReplyPort}
use Rattle.lpc_model.specs.declared.entry.Entry.TheVariants.{Answer}
use Rattle.lpc_model.specs.declared.entry.ObjectKind.TheVariants as kind
use Rattle.lpc_model.specs.World.{Acceptance, Birth, Dacl, Message, MessageRow, ObjectKind, Offer, Path, PortRow, ProcessRow, Qos, Raised, ThreadRow, ViewRow, WaitRow, World}
use Rattle.lpc_model.specs.Found.{free_handle, is_accepted, is_made_on, is_offered, is_port, live_threads, waits_as, waits_at}
use Rattle.lpc_model.specs.Basics.{Accepts, AddsHandle, Awaits, Basic, Dies, DrawsIdentifier, Frees, Joins, Leaves, Makes, Receives, Secures, Tells, Wakes, accepted, basic, first_code, freed, left_by, received, world_after}
use Rattle.lpc_model.specs.Close.{close_steps}
use Rattle.lpc_model.specs.Connect.{ConnectAnswer, accept_start, accept_steps, allow_steps, answer_test, client_port, connect_start, connect_steps, connection_request, create_steps, guard_steps, listen_steps, named_steps, names_connect}
use Rattle.lpc_model.specs.Death.{code_status, end_threads}
use Rattle.lpc_model.specs.Entering.{enter, received_steps, row_of}
use Rattle.lpc_model.specs.KeptPorts.{is_answered_in, is_offer_on, is_unanswered}
use Rattle.lpc_model.specs.Lines.{ScriptLine}
use Rattle.lpc_model.specs.Machine.{bare_steps, own_steps}
use Rattle.lpc_model.specs.Offers.{SharedViews, acceptance, mapped, shared_steps}
use Rattle.lpc_model.specs.Raise.{Handled, Heard, Next, Unhandled, behind_chance, event_message, event_wait, go_on, goes_on, raise_steps, set_port_steps}
use Rattle.lpc_model.specs.Request.{datagram_start, datagram_steps, given_reply, receive_steps, reply_steps, reply_test, request_start, request_steps, sent_by}
use Rattle.lpc_model.specs.Settle.{end_doomed, settle}
use Rattle.lpc_model.specs.SoundWaits.{IsSoundWorld, can_stay_sound, is_connect_on, is_past}
use Rattle.lpc_model.specs.Standing.{port_stands}
use Rattle.lpc_model.specs.Sweep.{sweep}
use Rattle.lpc_model.specs.Tests.{client_of, next_birth}
use Rattle.lpc_model.proofs.Calls.Holding.{Holds, bind_holds, holds_ok}
use Rattle.lpc_model.proofs.Calls.Lines.{AnyWorld, IsCalled, LineLaw, line-does, passing-lines}
use Rattle.lpc_model.proofs.Calls.Outcomes.{IsReceiving, Outcomes}
use Rattle.lpc_model.proofs.Calls.Raising.{on-holds, set-passes}
use Rattle.lpc_model.proofs.Calls.Sharing.{mapped-pass, shared-pass}
use Rattle.lpc_model.proofs.Calls.Tested.{named-wait}
use Rattle.lpc_model.proofs.KeptPorts.Steps.{AreGentle, is_gentle}
use Rattle.lpc_model.proofs.Settling.Loop.{settle-holds}
use Rattle.lpc_model.proofs.Sound.Connect.{foreign-connect, names-offered, offered-client}
use Rattle.lpc_model.proofs.Sound.Reply.{reply-cases}
use Rattle.lpc_model.proofs.Sound.Worlds.{by_kind}
use Rattle.lpc_model.proofs.Steps.Ending.{AreEnding, answered_end, end-ending, ending-enter, ending-receipt, handle-ending, is_ending, steps-end}
use Rattle.lpc_model.proofs.Steps.InTurn.{after-append, steps-keep}
use Rattle.lpc_model.proofs.Steps.Rows.{has-found, has-off}
use Rattle.lpc_model.proofs.Steps.Sweep.{sweep_every}

-- whatever port is cut off
abbrev pub any : Birth → Bool
any b = true

-- Steps that are gentle in every world, and give no handle
abbrev pub is_calm : Basic → Bool
is_calm (Makes p) = false
is_calm (Secures b s) = false
is_calm (Joins client server context) = false
is_calm (AddsHandle pid h) = false
is_calm (Awaits x) = not (is_offered x)
is_calm b = true

abbrev pub AreCalm : List Basic → Type 0
AreCalm bs = every is_calm bs ≡ true

calm-gentle : (w : World) (joins : Birth → Bool) (b : Basic) → is_calm b ≡ true → is_gentle w joins any b ≡ true
calm-gentle w joins (Makes p) is = absurd (cc)
calm-gentle w joins (Secures b s) is = absurd (cc)
calm-gentle w joins (Joins client server context) is = absurd (cc)
calm-gentle w joins (Awaits x) is = rw is refl
calm-gentle w joins b is = refl

calm-before : (w : World) (joins : Birth → Bool) (bs : List Basic) → AreCalm bs → AreGentle w joins any bs
calm-before w joins = every-more is_calm (is_gentle w joins any) (calm-gentle w joins)

-- no connect begins to wait by them
abbrev HasAnswered : Birth → World → Type 0
HasAnswered b v = every (λ x. not (is_offer_on b x)) v.waits ≡ true

unoffered : (b : Birth) (x : WaitRow) → not (is_offered x) ≡ true → not (is_offer_on b x) ≡ true
unoffered b x off = grind arith

accepted-answered : (b : Birth) (a : Acceptance) (x : WaitRow) → not (is_offer_on b (accepted a x)) ≡ true
accepted-answered b a = by_kind (λ x. not (is_offer_on b (accepted a x)) ≡ true) (λ x m. refl) (λ x. refl) (λ x. refl) (λ x m offer. refl) (λ x m reply. refl) (λ x r. refl)

freed-answered : (b : Birth) (v : World) (o : ObjectKind) (c : Birth) → HasAnswered b v → HasAnswered b (freed v o c)
freed-answered b v kind.Port c k = k
freed-answered b v kind.Section c k = k
freed-answered b v kind.Token c k = k
freed-answered b v kind.Process c k = k
freed-answered b v kind.Thread c k = k

calm-answered : (b : Birth) (v : World) (s : Basic) → is_calm s ≡ true → HasAnswered b v → HasAnswered b (basic v s)
calm-answered b v (Awaits x) is k = every-push (λ x. not (is_offer_on b x)) v.waits x k (unoffered b x is)
calm-answered b v (Receives who queue) is k = every-change (λ x. not (is_offer_on b x)) (waits_at who queue) received (λ x is. is) v.waits k
calm-answered b v (Accepts who a) is k = every-change (λ x. not (is_offer_on b x)) (waits_as who) (accepted a) (λ x is. accepted-answered b a x) v.waits k
calm-answered b v (Wakes who call status fields) is k = every-without (λ x. not (is_offer_on b x)) (waits_as who) v.waits k
calm-answered b v (Dies who status) is k = every-without (λ x. not (is_offer_on b x)) (waits_as who) v.waits k
calm-answered b v (Leaves who) is k = every-without (λ x. not (is_offer_on b x)) (waits_as who) v.waits k
calm-answered b v (Frees o) is k = freed-answered b v o.kind o.birth k
calm-answered b v s is k = k

stays-answered : (v : World) (bs : List Basic) → AreCalm bs → (b : Birth) → is_unanswered v b ≡ false → is_unanswered (world_after v bs) b ≡ false
stays-answered v bs all b none = let u = world_after v bs in has-off (is_offer_on b) u.waits (steps-keep is_calm (HasAnswered b) (calm-answered b) v bs all (every-not (is_offer_on b) v.waits none))

-- What the steps of a line are, and those of settling: gentle, and they join a port only whose connect they answer
abbrev pub Gentle : World → List Basic → Type 0
Gentle w bs = AreGentle w (is_answered_in w (world_after w bs)) any bs

calm : (w : World) (bs : List Basic) → AreCalm bs → Gentle w bs
calm w bs = calm-before w (is_answered_in w (world_after w bs)) bs

gentle-more : (w : World) (one two : Birth → Bool) → ((b : Birth) → one b ≡ true → two b ≡ true) → (s : Basic) → is_gentle w one any s ≡ true → is_gentle w two any s ≡ true
gentle-more w one two more (Joins client server context) is = and_from (two client) _ (more client (first-true (one client) _ is)) (second-true (one client) _ is)
gentle-more w one two more (Makes p) is = is
gentle-more w one two more (Secures b s) is = is
gentle-more w one two more (Awaits x) is = is
gentle-more w one two more s is = refl

-- calm steps behind them answer no connect less
gentle-on : (w : World) (bs cs : List Basic) → AreCalm cs → Gentle w bs → Gentle w (bs ++ cs)
gentle-on w bs cs calms all =
    let v = world_after w bs in
    let u = world_after v cs in
    let joins = is_answered_in w u in
    subst (λ u. AreGentle w (is_answered_in w u) any (bs ++ cs)) (sym (after-append w bs cs))
    (every-append (is_gentle w joins any) bs cs (every-more (is_gentle w (is_answered_in w v) any) (is_gentle w joins any) (gentle-more w (is_answered_in w v) joins still) bs all) (calm-before w joins cs calms))
  where
    parts : (a b c : Bool) → (b ≡ false → c ≡ false) → (a && not b) ≡ true → (a && not c) ≡ true
    parts a b c more is = grind (arith, more)

    still : (b : Birth) → is_answered_in w (world_after w bs) b ≡ true → is_answered_in w (world_after (world_after w bs) cs) b ≡ true
    still b is = parts (is_unanswered w b) (is_unanswered (world_after w bs) b) (is_unanswered (world_after (world_after w bs) cs) b) (stays-answered (world_after w bs) cs calms b) is

ending-calm : (b : Basic) → is_ending b ≡ true → is_calm b ≡ true
ending-calm (Makes p) is = absurd (cc)
ending-calm (Secures b s) is = absurd (cc)
ending-calm (Joins client server context) is = absurd (cc)
ending-calm (Awaits x) is = absurd (cc)
ending-calm (AddsHandle pid h) is = absurd (cc)
ending-calm b is = refl

ended-calm : (bs : List Basic) → AreEnding bs → AreCalm bs
ended-calm = every-more is_ending is_calm ending-calm

ended : (w : World) (bs : List Basic) → AreEnding bs → Gentle w bs
ended w bs all = calm w bs (ended-calm bs all)

receipt-calm : (m : MessageRow) → AreCalm (received_steps m)
receipt-calm m = ended-calm (received_steps m) (ending-receipt m)

entered-calm : (m : MessageRow) (w : World) → AreCalm (enter m w)
entered-calm m w = ended-calm (enter m w) (ending-enter m w)

-- Receives
replied-calm : (w : World) (port : PortRow) (m : Option Message) → Holds AreCalm (given_reply w port m)
replied-calm w port None = refl
replied-calm w port (Some m) = bind_holds (reply_test w port m) _ AreCalm (λ x _. reply-cases (λ b. AreCalm (b ∷ [])) x m refl refl (λ _. refl))

given-calm : (w : World) (by : ThreadRow) (handle : ℕ) (bytes : Option (List ℕ)) (o : Option Message) (port : PortRow) (queue : Birth) (replied : List Basic) → IsReceiving w by handle bytes o port queue replied → AreCalm replied
given-calm w by handle bytes o port queue replied r = holds_ok AreCalm (given_reply w port o) replied (replied-calm w port o) r.reply_made

-- Calls that make ports
-- no port stands under the caller's next birth
apart-next : (by : ThreadRow) (p : PortRow) → is_past p by ≡ true → not (is_port (next_birth by) p) ≡ true
apart-next by p is = grind (arith, nat_tests)

none-next : (w : World) (by : ThreadRow) → IsCalled AnyWorld w by → port_stands w (next_birth by) ≡ false
none-next w by is =
    let s = is.sound in
    let c = is.can in
    has-off (is_port (next_birth by)) w.ports (every-more (λ p. is_past p by) (λ p. not (is_port (next_birth by) p)) (apart-next by) w.ports (s.ordinals by.number by c.lives))

founded : (w : World) (by : ThreadRow) (name : List ℕ) (path : Path) (value : ℕ) (dacl : Option Dacl) → port_stands w (next_birth by) ≡ false → Gentle w (create_steps by (named_steps (next_birth by) path) value ++ guard_steps (next_birth by) (Some name) dacl)
founded w by name path value None new = rw new refl
founded w by name path value (Some d) new = rw new refl

connected : (w : World) (by : ThreadRow) (connection : Birth) (offer : Option Offer) (own : Option ViewRow) (m : Message) (quality : Qos) (joins : Birth → Bool) → port_stands w (next_birth by) ≡ false → AreGentle w joins any (connect_steps by connection offer own m w ++ allow_steps w by quality)
connected w by connection offer own m quality joins new =
    let row = row_of connection (client_port by connection) m in
    let start = connect_start by connection offer own m in
    let u = world_after w start in
    let test = is_gentle w joins any in
    every-append test (connect_steps by connection offer own m w) (allow_steps w by quality)
    (every-append test start (enter row u ++ mapped by.process own) (rw new refl)
    (every-append test (enter row u) (mapped by.process own) (calm-before w joins (enter row u) (entered-calm row u)) (mapped-pass test by.process (λ v. refl) own)))
    (rw new refl)

-- an accept joins the client port whose connect waits for it, and answers that: each connect there is of one thread
now-answered : (w : World) (by : ThreadRow) (context value : ℕ) (a : ConnectAnswer) (views : SharedViews) → IsSoundWorld w → first (names_connect w by a.message) w.waits ≡ Some a.wait → is_unanswered (world_after w (accept_start by context value a views)) a.wait.port ≡ false
now-answered w by context value a views s found =
    let x = a.wait in
    let v = world_after w (accept_start by context value a views) in
    let offered = names-offered w by a.message x (first-passes (names_connect w by a.message) w.waits x found) in
    let own = eqb-true x.port.maker x.thread (second-true _ _ (offered-client w x offered (every-first (can_stay_sound w) (names_connect w by a.message) w.waits x s.stay found))) in
    has-off (is_offer_on x.port) v.waits
    (every-change_to (can_stay_sound w) (λ y. not (is_offer_on x.port y)) (waits_as x.thread) (accepted (acceptance a.message.body views)) (λ y stay is. accepted-answered x.port (acceptance a.message.body views) y)
    (λ y stay off. no-offer y (foreign-connect w x.port y stay (subst (λ n. not (waits_as n y) ≡ true) (sym own) (rw off refl)))) w.waits s.stay)
  where
    parts : (o c m : Bool) → not ((o || c) && m) ≡ true → not (o && m) ≡ true
    parts o c m is = grind arith

    no-offer : (y : WaitRow) → not (is_connect_on a.wait.port y) ≡ true → not (is_offer_on a.wait.port y) ≡ true
    no-offer y off = parts (is_offered y) (is_accepted y) (is_made_on a.wait.port y) off

accepted-gently : (w : World) (by : ThreadRow) (context value : ℕ) (a : ConnectAnswer) (views : SharedViews) → IsSoundWorld w → first (names_connect w by a.message) w.waits ≡ Some a.wait → port_stands w (next_birth by) ≡ false → Gentle w (accept_steps by context value a views)
accepted-gently w by context value a views s found new =
    let x = a.wait in
    let start = accept_start by context value a views in
    let offered = names-offered w by a.message x (first-passes (names_connect w by a.message) w.waits x found) in
    let waited : is_unanswered w x.port ≡ true = has-found (is_offer_on x.port) (names_connect w by a.message) w.waits x found (rw (offered, birth-self x.port) refl) in
    let answered : is_answered_in w (world_after w start) x.port ≡ true = rw (waited, now-answered w by context value a views s found) refl in
    gentle-on w start (shared_steps by a.wait views) (shared-pass is_calm by a.wait (λ v. refl) (λ v. refl) views)
    (joined-gently (is_answered_in w (world_after w start)) answered)
  where
    joined-gently : (joins : Birth → Bool) → joins a.wait.port ≡ true → AreGentle w joins any (accept_start by context value a views)
    joined-gently joins may = rw (new, may) refl

-- Calls
gentle-calls : (by : ThreadRow) (w : World) → IsCalled AnyWorld w by → Outcomes w by (λ _. Gentle w)
gentle-calls by w is = record {
  creates = λ dacl. rw (none-next w by is) refl;
  founds = λ name dacl path free. founded w by name path (free_handle w by.process) dacl (none-next w by is);
  connects = λ name quality view bytes offer own connection c. connected w by connection offer own (connection_request by offer bytes) quality _ (none-next w by is);
  listens = λ handle port m found at. calm w (listen_steps by port.birth (Some m)) (receipt-calm m);
  awaits_connect = λ handle port found at. refl;
  refuses = λ context bytes view a at. refl;
  accepts = λ context bytes view offer a views c.
      accepted-gently w by context (free_handle w by.process) a views is.sound (holds_ok (λ (a : ConnectAnswer). first (names_connect w by a.message) w.waits ≡ Some a.wait) (answer_test w by bytes) a (named-wait w by bytes) c.answered) (none-next w by is);
  completes = λ handle c at. refl;
  sends = λ handle bytes s at. let m = sent_by by DATAGRAM s.message in calm w (datagram_steps by s.port s.queue m w) (entered-calm (row_of s.queue s.port m) (world_after w (datagram_start by)));
  asks = λ handle bytes s at. let m = sent_by by REQUEST s.message in calm w (request_steps by s.port s.queue m w) (entered-calm (row_of s.queue s.port m) (world_after w (request_start by s.port.birth s.queue m)));
  replies = λ handle bytes port m x at read fits. calm w (reply_steps by x m) (reply-cases (λ b. AreCalm (Tells (Answer by.number NtReplyPort SUCCESS []) ∷ b ∷ [])) x m refl refl (λ _. refl));
  receives = λ handle bytes o port queue replied m r at. calm w (receive_steps by port queue replied (Some m)) (every-append is_calm replied _ (given-calm w by handle bytes o port queue replied r) (receipt-calm m));
  awaits_message = λ handle bytes o port queue replied r at. calm w (receive_steps by port queue replied None) (every-append is_calm replied _ (given-calm w by handle bytes o port queue replied r) refl);
  registers = λ handle port at new few. refl;
  repeats = λ handle port at known. refl;
  closes = λ handle r at. ended w (close_steps by r w) (handle-ending by.process r w);
  duplicates = λ handle access r at. refl;
  queries = λ handle r at. refl;
  spawns = λ pid tid new unused. refl;
  starts = λ target tid pid _ live unused. refl;
  makes_section = λ size prot asked. refl;
  maps_view = λ handle offset size prot s rounded base m. refl;
  unmaps_view = λ address v at. refl;
  reads_memory = λ address n v at. refl;
  writes_memory = λ address new v at may. refl;
  reads_range = λ handle bytes index n d at. refl;
  writes_range = λ handle bytes index new d at may. refl;
  impersonates = λ handle bytes own allowed. refl;
  reverts = λ class. refl;
  opens_own = λ own at. refl;
  opens_primary = refl;
  asks_token = λ handle class t field at told. refl;
  sets = λ target class handle pid port at found live. calm w (set_port_steps by class pid port.birth) (set-passes AreCalm by class pid port.birth refl refl);
  handles = λ code handled. refl;
  hears = λ code handled h is. calm w (raise_steps by code handled (Heard h) w) (entered-calm (row_of h.queue h.port (event_message (client_of by) by.next_identifier code h.chance)) (basic (basic w (DrawsIdentifier by.number)) (Awaits (event_wait by code handled h))));
  fails = λ code handled. refl;
  ends = λ call name own pid code ts doomed. ended w (answered_end by name own pid code ts w) (steps-end w by name own pid code ts);
}

-- Lines
gentle-lines : LineLaw AnyWorld (λ _. Gentle)
gentle-lines = passing-lines AnyWorld Gentle (λ _. is_calm) calm (λ w. record { tells = λ _. refl; processes = λ _ _ _. refl; threads = λ _ _ _. refl; binds = λ _ _. refl; names = λ _. refl }) gentle-calls

-- Settling
on-calm : (w : World) (tid : ℕ) → AreCalm (go_on tid w)
on-calm w tid = on-holds AreCalm w tid refl (λ t x r g. at t x r (behind_chance w x.process r.handled r.chance))
  where
    at : (t : ThreadRow) (x : WaitRow) (r : Raised) (n : Next) → AreCalm (goes_on t x r n w)
    at t x r Handled = refl
    at t x r (Heard h) =
        let v : World = basic (basic (left_by x.thread w) (DrawsIdentifier t.number)) (Awaits (event_wait t r.code r.handled h)) in
        entered-calm (row_of h.queue h.port (event_message (client_of t) t.next_identifier r.code h.chance)) v
    at t x r Unhandled = refl

doomed-calm : (w : World) (p : ProcessRow) → AreCalm (end_doomed p w)
unfolding end_doomed
doomed-calm w p = ended-calm (end_threads p.number (code_status (first_code 0 p.doom)) (live_threads w p.number) w) (end-ending p.number (code_status (first_code 0 p.doom)) (live_threads w p.number) w)

pub settling-calm : (w : World) → AreCalm (settle w)
settling-calm w = settle-holds AnyWorld (λ _. AreCalm) (λ w. refl) (λ w. every-append is_calm) (λ w bs some known. tt) (λ w tid later at known. on-calm w tid) (λ w p at known. doomed-calm w p) w tt

bare-gentle : (w : World) (line : ScriptLine) → IsSoundWorld w → Gentle w (bare_steps line w)
unfolding bare_steps
bare-gentle w line s =
    let v = world_after w (own_steps line w) in
    gentle-on w (own_steps line w) (settle v) (settling-calm v) (line-does AnyWorld (λ _. Gentle) gentle-lines w s tt line)

pub line_gentle : (w : World) (line : ScriptLine) → IsSoundWorld w → let bs = bare_steps line w in Gentle w (bs ++ sweep (world_after w bs))
line_gentle w line s =
    let bs = bare_steps line w in
    let v = world_after w bs in
    gentle-on w bs (sweep v) (sweep_every is_calm (λ _. refl) v) (bare-gentle w line s)
