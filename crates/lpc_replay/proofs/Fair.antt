-- What a line tells is right: a request that returns with success has its reply, a connect that wakes its answer, and an
-- exception its reply or its handler.
use Rattle.std.proofs.Common.{Bool, List, [], ap, cond, false, inl, inr, map, refl, true, ℕ, ◌++◌, ◌∷◌, ◌≡◌}
use Rattle.std.specs.List.{AllByRecursion}
use Rattle.std.specs.Prelude.{None, Option, Some, ◌&&◌, ◌==◌, ◌||◌}
use Rattle.lpc_base.proofs.RowWords.{first-passes}
use Rattle.lpc_base.proofs.Bools.{first-true}
use Rattle.lpc_base.specs.Rows.{first, given, when}
use Rattle.lpc_base.specs.declared.birth.Birth.{Birth}
use Rattle.lpc_base.specs.declared.status.Status.{Status}
use Rattle.lpc_base.specs.declared.status.TheConstants.{DBG_CONTINUE, SUCCESS}
use Rattle.lpc_model.specs.Basics.{Accepts, Awaits, Basic, Dies, Frees, Leaves, Receives, Tells, Wakes, accepted, accepted_as, basic, entries_of, freed, going_on, told, world_after}
use Rattle.lpc_model.specs.Entering.{enter, given_steps, received_steps, shown, take_connect_steps, take_steps, takes, woken}
use Rattle.lpc_model.specs.Found.{is_connect, is_event, is_listen, is_receive, is_request, same_birth}
use Rattle.lpc_model.specs.Lines.{ScriptLine}
use Rattle.lpc_model.specs.Message.{asks, is_connection_request}
use Rattle.lpc_model.specs.Offers.{mapped}
use Rattle.lpc_model.specs.Replies.{HasReply, IsContinuedBy, IsReturnedBy}
use Rattle.lpc_model.specs.Sweep.{free_unheld, sweep, unheld}
use Rattle.lpc_model.specs.World.{Acceptance, Accepted, Connect, Event, Listen, MessageRow, ObjectName, Receive, Request, ViewRow, WaitKind, WaitRow, World}
use Rattle.lpc_model.specs.declared.entry.CallName.TheVariants as call
use Rattle.lpc_model.specs.declared.entry.CallName.TheVariants.{NtReplyWaitReceivePort}
use Rattle.lpc_model.specs.declared.entry.CallName.{CallName}
use Rattle.lpc_model.specs.declared.entry.Entry.TheVariants as entry
use Rattle.lpc_model.specs.declared.entry.Entry.{Entry}
use Rattle.lpc_model.specs.declared.entry.Field.{Field}
use Rattle.lpc_model.specs.declared.entry.ObjectKind.TheVariants as kind
use Rattle.lpc_model.specs.declared.entry.ObjectKind.{ObjectKind}
use Rattle.lpc_replay.specs.Connects.{HasAnswer, IsAnsweredBy}
use Rattle.lpc_replay.specs.Ends.{HasEnder}
use Rattle.lpc_replay.specs.Raises.{HasHandler, IsHandledByTurn}
use Rattle.lpc_replay.proofs.Holding.{all_append, all_filter, all_map, all_more, find_all}

-- the call in which a wait of a kind is
abbrev pub call_of_kind : WaitKind → CallName
call_of_kind (Request m) = call.NtRequestWaitReplyPort
call_of_kind Receive = call.NtReplyWaitReceivePort
call_of_kind Listen = call.NtListenPort
call_of_kind (Connect m offer) = call.NtConnectPort
call_of_kind (Accepted m a) = call.NtConnectPort
call_of_kind (Event r) = call.Raise

abbrev pub HasItsCall : WaitRow → Type 0
HasItsCall x = x.call ≡ call_of_kind x.kind

abbrev pub HaveTheirCalls : World → Type 0
HaveTheirCalls w = AllByRecursion HasItsCall w.waits

-- a connect that is told of has its answer, an exception its handler, and a thread that ends its ender
abbrev pub HasCause : World → ScriptLine → Entry → Type 0
HasCause w line (entry.Wakes who call.Raise status fields) = HasHandler w line (entry.Wakes who call.Raise status fields)
HasCause w line (entry.Answer who call.Raise status fields) = HasHandler w line (entry.Answer who call.Raise status fields)
HasCause w line (entry.Died who status) = HasEnder w line (entry.Died who status)
HasCause w line e = HasAnswer w line e

-- what is told has its reply and its cause
abbrev pub IsRight : World → ScriptLine → Entry → Type 0
IsRight w line e = HasReply w line e × HasCause w line e

-- A basic step of a line keeps that, and what it tells is right. No wait ends untold, and no row of an object goes.
abbrev pub IsFair : World → ScriptLine → Basic → Type 0
IsFair w line (Tells e) = IsRight w line e
IsFair w line (Wakes who name status fields) = IsRight w line (entry.Wakes who name status fields)
IsFair w line (Dies who status) = IsRight w line (entry.Died who status)
IsFair w line (Awaits x) = HasItsCall x
IsFair w line (Leaves who) = ⊥
IsFair w line (Frees o) = ⊥
IsFair w line b = Unit {0}

abbrev pub AreFair : World → ScriptLine → List Basic → Type 0
AreFair w line bs = AllByRecursion (IsFair w line) bs

-- as the world settles waits end untold too, and rows go at the end of a line
abbrev pub IsRightStep : World → ScriptLine → Basic → Type 0
IsRightStep w line (Leaves who) = Unit {0}
IsRightStep w line (Frees o) = Unit {0}
IsRightStep w line b = IsFair w line b

abbrev pub AreRight : World → ScriptLine → List Basic → Type 0
AreRight w line bs = AllByRecursion (IsRightStep w line) bs

fair_step : (w : World) (line : ScriptLine) (b : Basic) → IsFair w line b → IsRightStep w line b
fair_step w line (Leaves who) h = tt
fair_step w line (Frees o) h = tt
fair_step w line b h = h

pub are_right : (w : World) (line : ScriptLine) (bs : List Basic) → AreFair w line bs → AreRight w line bs
are_right w line bs fair = all_more (IsFair w line) (IsRightStep w line) (fair_step w line) bs fair

told_fair : (w : World) (line : ScriptLine) (b : Basic) → IsRightStep w line b → AllByRecursion (IsRight w line) (told b)
told_fair w line (Tells e) h = (h, tt)
told_fair w line (Wakes who name status fields) h = (h, tt)
told_fair w line (Dies who status) h = (h, tt)
told_fair w line b h = tt

pub entries_fair : (w : World) (line : ScriptLine) (bs : List Basic) → AreRight w line bs → AllByRecursion (IsRight w line) (entries_of bs)
entries_fair w line [] h = tt
entries_fair w line (b ∷ bs) h = all_append (IsRight w line) (told b) (entries_of bs) (told_fair w line b h.0) (entries_fair w line bs h.1)

changed_call : (b : Bool) (x y : WaitRow) → HasItsCall x → HasItsCall y → HasItsCall (cond b y x)
changed_call true x y h k = k
changed_call false x y h k = h

-- a connect that is accepted stays in its call
same_call : (a : Acceptance) (kind : WaitKind) → call_of_kind (accepted_as a kind) ≡ call_of_kind kind
same_call a (Request m) = refl
same_call a Receive = refl
same_call a Listen = refl
same_call a (Connect m offer) = refl
same_call a (Accepted m before) = refl
same_call a (Event r) = refl

accepted_call : (a : Acceptance) (x : WaitRow) → HasItsCall x → HasItsCall (accepted a x)
accepted_call a x h = rw (same_call a x.kind) h

-- a row that goes is no wait
pub freed_waits : (w : World) (kind : ObjectKind) (b : Birth) → (freed w kind b).waits ≡ w.waits
freed_waits w kind.Port b = refl
freed_waits w kind.Section b = refl
freed_waits w kind.Token b = refl
freed_waits w kind.Process b = refl
freed_waits w kind.Thread b = refl

basic_keeps : (w : World) (line : ScriptLine) (v : World) (b : Basic) → IsRightStep w line b → HaveTheirCalls v → HaveTheirCalls (basic v b)
basic_keeps w line v (Wakes who name status fields) f h = all_filter HasItsCall _ v.waits h
basic_keeps w line v (Leaves who) f h = all_filter HasItsCall _ v.waits h
basic_keeps w line v (Dies who status) f h = all_filter HasItsCall _ v.waits h
basic_keeps w line v (Awaits x) f h = all_append HasItsCall v.waits (x ∷ []) h (f, tt)
basic_keeps w line v (Receives who queue) f h = all_map HasItsCall _ v.waits (λ x k. changed_call _ x _ k k) h
basic_keeps w line v (Accepts who a) f h = all_map HasItsCall _ v.waits (λ x k. changed_call _ x _ k (accepted_call a x k)) h
basic_keeps w line v (Frees o) f h = rw (freed_waits v o.kind o.birth) h
basic_keeps w line v b f h = h

pub steps_keep : (w : World) (line : ScriptLine) (v : World) (bs : List Basic) → AreRight w line bs → HaveTheirCalls v → HaveTheirCalls (world_after v bs)
steps_keep w line v [] f h = h
steps_keep w line v (b ∷ bs) f h = steps_keep w line (basic v b) bs f.1 (basic_keeps w line v b f.0 h)

pub fair_keep : (w : World) (line : ScriptLine) (v : World) (bs : List Basic) → AreFair w line bs → HaveTheirCalls v → HaveTheirCalls (world_after v bs)
fair_keep w line v bs fair h = steps_keep w line v bs (are_right w line bs fair) h

-- an exception that is handled isn't continued
handled_fails : SUCCESS ≡ DBG_CONTINUE → ⊥
handled_fails same = let n = ap (λ (s : Status). s.0) same in absurd (cc)

-- a receive or a listen ends by any line
waiter_call : (w : World) (line : ScriptLine) (tid : ℕ) (kind : WaitKind) (status : Status) (fields : List Field) → (elim kind [ Receive ↦ true | _ ↦ false ] || elim kind [ Listen ↦ true | _ ↦ false ]) ≡ true → IsRight w line (entry.Wakes tid (call_of_kind kind) status fields)
waiter_call w line tid Receive status fields is = (tt, tt)
waiter_call w line tid Listen status fields is = (tt, tt)
waiter_call w line tid b status fields is = absurd (cc)

pub waiter_wakes : (w : World) (line : ScriptLine) (x : WaitRow) (status : Status) (fields : List Field) → (is_receive x || is_listen x) ≡ true → HasItsCall x → IsRight w line (entry.Wakes x.thread x.call status fields)
waiter_wakes w line x status fields is h = rw h (waiter_call w line x.thread x.kind status fields is)

-- a connect is no request and no exception, a request is no connect and no exception
connect_call_right : (w : World) (line : ScriptLine) (tid : ℕ) (kind : WaitKind) (status : Status) (fields : List Field) → (elim kind [ Connect m offer ↦ true | _ ↦ false ] || elim kind [ Accepted m a ↦ true | _ ↦ false ]) ≡ true → IsAnsweredBy w line tid status fields → IsRight w line (entry.Wakes tid (call_of_kind kind) status fields)
connect_call_right w line tid (Connect m offer) status fields is a = (tt, a)
connect_call_right w line tid (Accepted m b) status fields is a = (tt, a)
connect_call_right w line tid b status fields is a = absurd (cc)

pub connect_wakes : (w : World) (line : ScriptLine) (x : WaitRow) (status : Status) (fields : List Field) → is_connect x ≡ true → HasItsCall x → IsAnsweredBy w line x.thread status fields → IsRight w line (entry.Wakes x.thread x.call status fields)
connect_wakes w line x status fields is h a = rw h (connect_call_right w line x.thread x.kind status fields is a)

request_call_right : (w : World) (line : ScriptLine) (tid : ℕ) (kind : WaitKind) (status : Status) (fields : List Field) → elim kind [ Request m ↦ true | _ ↦ false ] ≡ true → HasCause w line (entry.Wakes tid (call_of_kind kind) status fields)
request_call_right w line tid (Connect m offer) status fields is = absurd (cc)
request_call_right w line tid (Accepted m a) status fields is = absurd (cc)
request_call_right w line tid (Event r) status fields is = absurd (cc)
request_call_right w line tid b status fields is = tt

pub request_wakes : (w : World) (line : ScriptLine) (x : WaitRow) (status : Status) (fields : List Field) → is_request x ≡ true → HasItsCall x → HasCause w line (entry.Wakes x.thread x.call status fields)
request_wakes w line x status fields is h = rw h (request_call_right w line x.thread x.kind status fields is)

-- an exception that is continued by a reply has no other cause, and one that its frame handlers handle needs no reply
event_call_right : (w : World) (line : ScriptLine) (tid : ℕ) (kind : WaitKind) → elim kind [ Event r ↦ true | _ ↦ false ] ≡ true → IsContinuedBy w line tid → IsRight w line (entry.Wakes tid (call_of_kind kind) DBG_CONTINUE [])
event_call_right w line tid (Event r) is c = (λ _. c, inl refl)
event_call_right w line tid b is c = absurd (cc)

pub continued_wakes : (w : World) (line : ScriptLine) (x : WaitRow) → is_event x ≡ true → HasItsCall x → IsContinuedBy w line x.thread → IsRight w line (entry.Wakes x.thread x.call DBG_CONTINUE [])
continued_wakes w line x is h c = rw h (event_call_right w line x.thread x.kind is c)

handled_call_right : (w : World) (line : ScriptLine) (tid : ℕ) (kind : WaitKind) → elim kind [ Event r ↦ true | _ ↦ false ] ≡ true → IsHandledByTurn w line tid → IsRight w line (entry.Wakes tid (call_of_kind kind) SUCCESS [])
handled_call_right w line tid (Event r) is c = (λ same. absurd (handled_fails same), inr (refl, c))
handled_call_right w line tid b is c = absurd (cc)

pub handled_wakes : (w : World) (line : ScriptLine) (x : WaitRow) → is_event x ≡ true → HasItsCall x → IsHandledByTurn w line x.thread → IsRight w line (entry.Wakes x.thread x.call SUCCESS [])
handled_wakes w line x is h c = rw h (handled_call_right w line x.thread x.kind is c)

-- a request or an exception that wakes by another status needs no reply
pub failure_wakes : (w : World) (line : ScriptLine) (tid : ℕ) (name : CallName) (status : Status) (fields : List Field) → (status.0 == SUCCESS.0) ≡ false → (status.0 == DBG_CONTINUE.0) ≡ false → HasReply w line (entry.Wakes tid name status fields)
failure_wakes w line tid call.NtRequestWaitReplyPort status fields fails stops = λ is. let same = rw is at fails in absurd (cc)
failure_wakes w line tid call.Raise status fields fails stops = λ is. let same = rw is at stops in absurd (cc)
failure_wakes w line tid name status fields fails stops = tt

-- a request that a reply wakes has it
request_reply_right : (w : World) (line : ScriptLine) (tid : ℕ) (kind : WaitKind) (fields : List Field) → elim kind [ Request m ↦ true | _ ↦ false ] ≡ true → IsReturnedBy w line tid fields → HasReply w line (entry.Wakes tid (call_of_kind kind) SUCCESS fields)
request_reply_right w line tid (Request m) fields is r = λ _. r
request_reply_right w line tid b fields is r = absurd (cc)

pub reply_wakes : (w : World) (line : ScriptLine) (x : WaitRow) (fields : List Field) → is_request x ≡ true → HasItsCall x → IsReturnedBy w line x.thread fields → HasReply w line (entry.Wakes x.thread x.call SUCCESS fields)
reply_wakes w line x fields is h r = rw h (request_reply_right w line x.thread x.kind fields is r)

-- a message that is taken wakes none
pub when_fair : (w : World) (line : ScriptLine) (b : Bool) (bs : List Basic) → AreFair w line bs → AreFair w line (when b bs)
when_fair w line true bs fair = fair
when_fair w line false bs fair = tt

pub receipt_fair : (w : World) (line : ScriptLine) (m : MessageRow) → AreFair w line (received_steps m)
receipt_fair w line m = when_fair w line (asks m.message) (Receives m.message.header.client.thread m.queue ∷ []) (tt, tt)

pub take_fair : (w : World) (line : ScriptLine) (m : MessageRow) → AreFair w line (take_steps m)
take_fair w line m = (tt, receipt_fair w line m)

pub take_connect_fair : (w : World) (line : ScriptLine) (m : MessageRow) → AreFair w line (take_connect_steps m)
take_connect_fair w line m = (tt, receipt_fair w line m)

-- a waiter takes it as its kind does
waiter_takes_fair : (w : World) (line : ScriptLine) (m : MessageRow) (kind : WaitKind) → AreFair w line (elim kind [ Listen ↦ take_connect_steps m | _ ↦ take_steps m ])
waiter_takes_fair w line m Listen = take_connect_fair w line m
waiter_takes_fair w line m b = take_fair w line m

either : (a b c : Bool) → (a || (b && c)) ≡ true → (a || b) ≡ true
either true b c h = refl
either false true c h = refl
either false false c h = absurd (cc)

-- a message that enters its queue wakes a receive or a listen alone
given_fair : (w : World) (line : ScriptLine) (m : MessageRow) (o : Option WaitRow) → ((x : WaitRow) → o ≡ Some x → (takes m x ≡ true) × HasItsCall x) → AreFair w line (given o (λ x. given_steps x m ++ woken SUCCESS (shown x m) x ∷ []))
given_fair w line m None h = tt
given_fair w line m (Some x) h =
    let known = h x refl in
    let waits = either (is_receive x) (is_listen x) (is_connection_request m.message) (first-true (is_receive x || (is_listen x && is_connection_request m.message)) (same_birth x.queue m.queue) known.0) in
    all_append (IsFair w line) (given_steps x m) (woken SUCCESS (shown x m) x ∷ []) (waiter_takes_fair w line m x.kind)
    (waiter_wakes w line x SUCCESS (shown x m) waits known.1, tt)

pub enter_fair : (w : World) (line : ScriptLine) (m : MessageRow) (v : World) → HaveTheirCalls v → AreFair w line (enter m v)
enter_fair w line m v h =
    (tt, given_fair w line m (first (takes m) v.waits) (λ x is. (first-passes (takes m) v.waits x is, find_all HasItsCall (takes m) v.waits x h is)))

-- some steps, and then a message that enters its queue
pub sent_fair : (w : World) (line : ScriptLine) (m : MessageRow) (start : List Basic) → HaveTheirCalls w → AreFair w line start → AreFair w line (start ++ enter m (world_after w start))
sent_fair w line m start h fair =
    all_append (IsFair w line) start (enter m (world_after w start)) fair
    (enter_fair w line m (world_after w start) (fair_keep w line w start fair h))

-- a view that a process gets tells nothing
pub mapped_fair : (w : World) (line : ScriptLine) (pid : ℕ) (view : Option ViewRow) → AreFair w line (mapped pid view)
mapped_fair w line pid None = tt
mapped_fair w line pid (Some v) = (tt, tt)

-- rows that go at the end of a line tell nothing
free_right : (w : World) (line : ScriptLine) (os : List ObjectName) → AreRight w line (map Frees os)
free_right w line [] = tt
free_right w line (o ∷ os) = (tt, free_right w line os)

sweep_right : (w : World) (line : ScriptLine) (v : World) → AreRight w line (sweep v)
unfolding sweep
sweep_right w line v = all_append (IsRightStep w line) (free_unheld v) _ (free_right w line (unheld v)) (free_right w line (unheld (world_after v (free_unheld v))))

pub swept_right : (w : World) (line : ScriptLine) (bs : List Basic) → AreRight w line bs → AreRight w line (going_on w bs sweep)
swept_right w line bs right = all_append (IsRightStep w line) bs (sweep (world_after w bs)) right (sweep_right w line (world_after w bs))
