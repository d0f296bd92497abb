-- A message that is taken, and one that enters its queue, keep a world's waits sound.
use Rattle.std.proofs.Common.{◌≡◌, ℕ, List, [], ◌∷◌, ◌++◌, Bool, true, false, cond, not, Option, Some, None, refl, sym, ap, subst, arith}
use Rattle.std.specs.Prelude.{◌&&◌, ◌||◌}
use Rattle.std.proofs.lemmas.Bool.Decides.{nat_tests}
use Rattle.lpc_base.specs.Rows.{every, first, given, has, when, without_first}
use Rattle.lpc_base.specs.declared.status.TheConstants.{SUCCESS}
use Rattle.lpc_base.proofs.RowWords.{every-change, every-more, first-passes, has-kept, has_none-more, has_none-push, has_none-without_first}
use Rattle.lpc_base.proofs.RowMaps.{every-both, every-first, every-map, every-none}
use Rattle.lpc_base.proofs.Births.{birth-self, birth-turned}
use Rattle.lpc_model.specs.World.{Accepted, Birth, Connect, Event, Listen, MessageRow, Receive, Request, WaitKind, WaitRow, World}
use Rattle.lpc_model.specs.Found.{is_accepted, is_queued, is_queued_connect, same_birth, waits_as, waits_at}
use Rattle.lpc_model.specs.Message.{asks, is_connection_request}
use Rattle.lpc_model.specs.Basics.{Basic, Enters, Receives, basic, received, world_after}
use Rattle.lpc_model.specs.Entering.{enter, given_steps, received_steps, shown, take_connect_steps, take_steps, takes, woken}
use Rattle.lpc_model.specs.Tests.{is_client}
use Rattle.lpc_model.specs.SoundWaits.{IsSoundWorld, can_stay_sound, has_client_port, is_message_of, is_sound_accepted, is_sound_connect, is_sound_listen, is_sound_receive, is_sound_request, waiter_of, is_sound_event}
use Rattle.lpc_model.proofs.Steps.Rows.{count-change, has-append, has-without_first, lone, without_first-push}
use Rattle.lpc_model.proofs.Sound.Pairs.{IsTied, is_quiet, tied-changed, tied-of}
use Rattle.lpc_model.proofs.Sound.Worlds.{InOrder, WaitOnce, by_kind, is_sure, order-of, sound-from, sure-waits, exempt, is_sure_request}
use Rattle.lpc_model.proofs.Sound.Basics.{sound-wakes-quiet}
use Rattle.lpc_model.proofs.Steps.InTurn.{after-append}

-- What is received
-- the wait behind the taking of a message, if that asks: received where it is of the message's thread
abbrev marked : Bool → ℕ → Birth → WaitRow → WaitRow
marked asking who q x = cond (asking && waits_at who q x) (received x) x

marked-case : (P : WaitRow → Type 0) (c : Bool) (x : WaitRow) → (c ≡ true → P (received x)) → (c ≡ false → P x) → P (cond c (received x) x)
marked-case P true x one two = one refl
marked-case P false x one two = two refl

sound-marked : (w : World) (asking : Bool) (who : ℕ) (q : Birth) → every (λ x. is_sure w (marked asking who q x)) w.waits ≡ true → WaitOnce w.waits → InOrder w → IsTied w.ports w.waits → IsSoundWorld (world_after w (when asking (Receives who q ∷ [])))
sound-marked w true who q all once t ties =
    sound-from (basic w (Receives who q)) (rw (every-map (is_sure w) (λ x. cond (waits_at who q x) (received x) x) w.waits) all)
    (λ tid. rw (count-change (waits_as tid) (waits_at who q) received (λ x. refl) w.waits) (once tid)) t (tied-changed w.ports w.waits (waits_at who q) received (λ c y. refl) (λ b y. refl) ties)
sound-marked w false who q all once t ties = sound-from w all once t ties

-- the message of a wait that isn't marked is another one
other-message : (x : WaitRow) (m : MessageRow) → (asks m.message && waits_at m.message.header.client.thread m.queue x) ≡ false → is_message_of x m ≡ false
other-message x m off = let same : same_birth m.queue x.queue ≡ same_birth x.queue m.queue = birth-turned m.queue x.queue in grind arith

-- the waits of the other kinds among sound ones
abbrev pub is_sure_receive : World → WaitRow → Bool
is_sure_receive w x = (is_client w (waiter_of x) && is_sound_receive w x) && true

abbrev pub is_sure_listen : World → WaitRow → Bool
is_sure_listen w x = (is_client w (waiter_of x) && is_sound_listen w x) && true

abbrev pub is_sure_connect : World → WaitRow → Bool
is_sure_connect w x = (is_client w (waiter_of x) && is_sound_connect w x) && has_client_port w x

-- other messages: a request or connect that is received can be answered, another one still has its message, and nothing
-- has come for a receive or listen
abbrev pub with_messages : World → List MessageRow → World
with_messages w ms = record w { messages = ms }

received-sure : (w : World) (ms : List MessageRow) (x : WaitRow) → is_sure_request w x ≡ true → is_sure_request (with_messages w ms) (received x) ≡ true
received-sure w ms x is = grind arith

request-sure : (w : World) (ms : List MessageRow) (x : WaitRow) → (has (is_message_of x) w.messages ≡ true → has (is_message_of x) ms ≡ true) → is_sure_request w x ≡ true → is_sure_request (with_messages w ms) x ≡ true
request-sure w ms x still is = grind (arith, still)

connected-parts : (c q r h s : Bool) → ((c && (q && (r || h))) && s) ≡ true → ((c && (q && true)) && s) ≡ true
connected-parts c q r h s is = grind arith

connected-sure : (w : World) (ms : List MessageRow) (x : WaitRow) → is_sure_connect w x ≡ true → is_sure_connect (with_messages w ms) (received x) ≡ true
connected-sure w ms x is = connected-parts (is_client w (waiter_of x)) _ x.received (has (is_message_of x) w.messages) (has_client_port w x) is

connect-parts : (c q r h i s : Bool) → (h ≡ true → i ≡ true) → ((c && (q && (r || h))) && s) ≡ true → ((c && (q && (r || i))) && s) ≡ true
connect-parts c q r h i s still is = grind arith

connect-sure : (w : World) (ms : List MessageRow) (x : WaitRow) → (has (is_message_of x) w.messages ≡ true → has (is_message_of x) ms ≡ true) → is_sure_connect w x ≡ true → is_sure_connect (with_messages w ms) x ≡ true
connect-sure w ms x still is =
    connect-parts (is_client w (waiter_of x)) _ x.received (has (is_message_of x) w.messages) (has (is_message_of x) ms) (has_client_port w x) still is

pub receive-sure : (w : World) (ms : List MessageRow) (x : WaitRow) → (has (λ m. takes m x) w.messages ≡ false → has (λ m. takes m x) ms ≡ false) → is_sure_receive w x ≡ true → is_sure_receive (with_messages w ms) x ≡ true
receive-sure w ms x none is = grind (arith, none)

pub listen-sure : (w : World) (ms : List MessageRow) (x : WaitRow) → (has (λ m. takes m x) w.messages ≡ false → has (λ m. takes m x) ms ≡ false) → is_sure_listen w x ≡ true → is_sure_listen (with_messages w ms) x ≡ true
listen-sure w ms x none is = grind (arith, none)

-- A message that is taken
-- the first message that passes a test is taken
taken-sure : (w : World) (test : MessageRow → Bool) (m : MessageRow) → first test w.messages ≡ Some m → (x : WaitRow) → is_sure w x ≡ true → is_sure (with_messages w (without_first test w.messages)) (marked (asks m.message) m.message.header.client.thread m.queue x) ≡ true
taken-sure w test m at =
    let rest = without_first test w.messages in
    let v = with_messages w rest in
    let mark = λ (x : WaitRow). asks m.message && waits_at m.message.header.client.thread m.queue x in
    let none = λ (x : WaitRow). has_none-without_first (λ n. takes n x) test w.messages in
    by_kind (λ x. is_sure w x ≡ true → is_sure v (marked (asks m.message) m.message.header.client.thread m.queue x) ≡ true)
    (λ x r is. marked-case (λ y. is_sure v y ≡ true) (mark x) (record x { kind = Request r })
    (λ _. received-sure w rest x is)
    (λ off. request-sure w rest x (has-without_first (is_message_of x) test w.messages m at (other-message x m off)) is))
    (λ x is.
    let same : is_sure v (record x { kind = Receive }) ≡ true = receive-sure w rest (record x { kind = Receive }) (none (record x { kind = Receive })) is in
    marked-case (λ y. is_sure v y ≡ true) (mark x) (record x { kind = Receive }) (λ _. same) (λ _. same))
    (λ x is.
    let same : is_sure v (record x { kind = Listen }) ≡ true = listen-sure w rest (record x { kind = Listen }) (none (record x { kind = Listen })) is in
    marked-case (λ y. is_sure v y ≡ true) (mark x) (record x { kind = Listen }) (λ _. same) (λ _. same))
    (λ x r offer is. marked-case (λ y. is_sure v y ≡ true) (mark x) (record x { kind = Connect r offer })
    (λ _. connected-sure w rest x is)
    (λ off. connect-sure w rest x (has-without_first (is_message_of x) test w.messages m at (other-message x m off)) is))
    (λ x r reply is. marked-case (λ y. is_sure v y ≡ true) (mark x) (record x { kind = Accepted r reply }) (λ _. is) (λ _. is))
    (λ x r is. marked-case (λ y. is_sure v y ≡ true) (mark x) (record x { kind = Event r })
    (λ _. exempt w v x (received x) (λ one. one) (λ one. one) (received-sure w rest x) is)
    (λ off. exempt w v x x (λ one. one) (λ one. one) (request-sure w rest x (has-without_first (is_message_of x) test w.messages m at (other-message x m off))) is))

sound-taken : (w : World) (test : MessageRow → Bool) (m : MessageRow) → first test w.messages ≡ Some m → IsSoundWorld w → IsSoundWorld (world_after (with_messages w (without_first test w.messages)) (received_steps m))
sound-taken w test m at s =
    let v = with_messages w (without_first test w.messages) in
    sound-marked v (asks m.message) m.message.header.client.thread m.queue
    (every-more (is_sure w) (λ x. is_sure v (marked (asks m.message) m.message.header.client.thread m.queue x)) (taken-sure w test m at) w.waits (sure-waits w s)) s.once (order-of w s) (tied-of w s)

pub sound-take : (w : World) (m : MessageRow) → first (is_queued m.queue) w.messages ≡ Some m → IsSoundWorld w → IsSoundWorld (world_after w (take_steps m))
sound-take w m at s = sound-taken w (is_queued m.queue) m at s

pub sound-take-connect : (w : World) (m : MessageRow) → first (is_queued_connect m.queue) w.messages ≡ Some m → IsSoundWorld w → IsSoundWorld (world_after w (take_connect_steps m))
sound-take-connect w m at s = sound-taken w (is_queued_connect m.queue) m at s

-- A message that enters
-- a wait that is sound once its own message has entered, before a waiter is given it
abbrev is_ready_as : World → MessageRow → WaitRow → WaitKind → Bool
is_ready_as w m x (Request r) = is_sound_request (basic w (Enters m)) x
is_ready_as w m x Receive = is_sound_receive w x
is_ready_as w m x Listen = is_sound_listen w x
is_ready_as w m x (Connect r offer) = is_sound_connect (basic w (Enters m)) x
is_ready_as w m x (Accepted r reply) = is_sound_accepted w x
is_ready_as w m x (Event r) = is_sound_event (basic w (Enters m)) x

abbrev pub is_ready : World → MessageRow → WaitRow → Bool
is_ready w m x = (is_client w (waiter_of x) && is_ready_as w m x x.kind) && can_stay_sound w x

pub ready-sure : (w : World) (m : MessageRow) (x : WaitRow) → is_sure w x ≡ true → is_ready w m x ≡ true
ready-sure w m =
    by_kind (λ x. is_sure w x ≡ true → is_ready w m x ≡ true)
    (λ x r is. request-sure w (w.messages ++ m ∷ []) x (has-kept (is_message_of x) w.messages m) is)
    (λ x is. is)
    (λ x is. is)
    (λ x r offer is. connect-sure w (w.messages ++ m ∷ []) x (has-kept (is_message_of x) w.messages m) is)
    (λ x r reply is. is)
    (λ x r is. exempt w (basic w (Enters m)) x x (λ one. one) (λ one. one) (request-sure w (w.messages ++ m ∷ []) x (has-kept (is_message_of x) w.messages m)) is)

-- where no waiter takes it
none-entered : (w : World) (m : MessageRow) (x : WaitRow) → not (takes m x) ≡ true → has (λ n. takes n x) w.messages ≡ false → has (λ n. takes n x) (w.messages ++ m ∷ []) ≡ false
none-entered w m x off none = has_none-push (λ n. takes n x) w.messages m none (grind arith)

entered-sure : (w : World) (m : MessageRow) (x : WaitRow) → is_ready w m x ≡ true → not (takes m x) ≡ true → is_sure (basic w (Enters m)) x ≡ true
entered-sure w m =
    by_kind (λ x. is_ready w m x ≡ true → not (takes m x) ≡ true → is_sure (basic w (Enters m)) x ≡ true)
    (λ x r is off. is)
    (λ x is off. receive-sure w (w.messages ++ m ∷ []) (record x { kind = Receive }) (none-entered w m (record x { kind = Receive }) off) is)
    (λ x is off. listen-sure w (w.messages ++ m ∷ []) (record x { kind = Listen }) (none-entered w m (record x { kind = Listen }) off) is)
    (λ x r offer is off. is)
    (λ x r reply is off. is)
    (λ x r is off. is)

-- where one does, its queue held nothing that it would take
other-queue : (q r s : Birth) → same_birth q r ≡ true → same_birth q s ≡ false → same_birth s r ≡ false
other-queue q r s is off = grind (arith, nat_tests)

receives-other : (x : WaitRow) (m n : MessageRow) → let y : WaitRow = record x { kind = Receive } in takes m y ≡ true → takes n y ≡ false → is_queued m.queue n ≡ false
receives-other x m n here off = other-queue x.queue m.queue n.queue (grind arith) (grind arith)

listens-parts : (a b c : Bool) → (a ≡ false → b ≡ false) → (a && c) ≡ false → (b && c) ≡ false
listens-parts a b c one is = grind arith

listens-other : (x : WaitRow) (m n : MessageRow) → let y : WaitRow = record x { kind = Listen } in takes m y ≡ true → takes n y ≡ false → is_queued_connect m.queue n ≡ false
listens-other x m n here off =
    listens-parts (same_birth x.queue n.queue) (same_birth n.queue m.queue) (is_connection_request n.message) (λ apart. other-queue x.queue m.queue n.queue (grind arith) apart) (grind arith)

not-entered : (w : World) (m : MessageRow) (x : WaitRow) → is_message_of x m ≡ false → has (is_message_of x) (w.messages ++ m ∷ []) ≡ true → has (is_message_of x) w.messages ≡ true
not-entered w m x off one = grind (arith, has-append (is_message_of x) w.messages (m ∷ []))

given-sure : (w : World) (m : MessageRow) (x : WaitRow) → is_ready w m x ≡ true → is_sure w (marked (asks m.message) m.message.header.client.thread m.queue x) ≡ true
given-sure w m =
    let mark = λ (x : WaitRow). asks m.message && waits_at m.message.header.client.thread m.queue x in
    by_kind (λ x. is_ready w m x ≡ true → is_sure w (marked (asks m.message) m.message.header.client.thread m.queue x) ≡ true)
    (λ x r is. marked-case (λ y. is_sure w y ≡ true) (mark x) (record x { kind = Request r })
    (λ _. received-sure (basic w (Enters m)) w.messages x is)
    (λ off. request-sure (basic w (Enters m)) w.messages x (λ one. not-entered w m x (other-message x m off) one) is))
    (λ x is. marked-case (λ y. is_sure w y ≡ true) (mark x) (record x { kind = Receive }) (λ _. is) (λ _. is))
    (λ x is. marked-case (λ y. is_sure w y ≡ true) (mark x) (record x { kind = Listen }) (λ _. is) (λ _. is))
    (λ x r offer is. marked-case (λ y. is_sure w y ≡ true) (mark x) (record x { kind = Connect r offer })
    (λ _. connected-sure (basic w (Enters m)) w.messages x is)
    (λ off. connect-sure (basic w (Enters m)) w.messages x (λ one. not-entered w m x (other-message x m off) one) is))
    (λ x r reply is. marked-case (λ y. is_sure w y ≡ true) (mark x) (record x { kind = Accepted r reply }) (λ _. is) (λ _. is))
    (λ x r is. marked-case (λ y. is_sure w y ≡ true) (mark x) (record x { kind = Event r })
    (λ _. exempt (basic w (Enters m)) w x (received x) (λ one. one) (λ one. one) (received-sure (basic w (Enters m)) w.messages x) is)
    (λ off. exempt (basic w (Enters m)) w x x (λ one. one) (λ one. one) (request-sure (basic w (Enters m)) w.messages x (λ one. not-entered w m x (other-message x m off) one)) is))

-- the message that has just entered is taken again, where nothing else passes the test by which it is taken
world-taken : (w : World) (test : MessageRow → Bool) (m : MessageRow) → has test w.messages ≡ false → test m ≡ true → with_messages w (without_first test (w.messages ++ m ∷ [])) ≡ w
world-taken w test m none is = ap (with_messages w) (without_first-push test w.messages m none is)

-- a wait that is received is no accepted connect
quiet-marked : (w : World) (asking : Bool) (who : ℕ) (q : Birth) (tid : ℕ) → every (is_quiet tid) w.waits ≡ true → every (is_quiet tid) (world_after w (when asking (Receives who q ∷ []))).waits ≡ true
quiet-marked w true who q tid quiet = every-change (is_quiet tid) (waits_at who q) received (λ y is. is) w.waits quiet
quiet-marked w false who q tid quiet = quiet

-- each wait is sound once the message has entered, and is taken again
sound-back : (w : World) (m : MessageRow) (x : WaitRow) (waking : Basic) → ((v : World) → every (is_quiet x.thread) v.waits ≡ true → IsSoundWorld v → IsSoundWorld (basic v waking)) → every (is_quiet x.thread) w.waits ≡ true → every (is_ready w m) w.waits ≡ true → WaitOnce w.waits → InOrder w → IsTied w.ports w.waits → IsSoundWorld (world_after w (received_steps m ++ waking ∷ []))
sound-back w m x waking wakes quiet all once t ties =
    let who = m.message.header.client.thread in
    let after = sound-marked w (asks m.message) who m.queue (every-more (is_ready w m) (λ y. is_sure w (marked (asks m.message) who m.queue y)) (given-sure w m) w.waits all) once t ties in
    rw (after-append w (received_steps m) (waking ∷ [])) (wakes (world_after w (received_steps m)) (quiet-marked w (asks m.message) who m.queue x.thread quiet) after)

-- a waiter takes the message at once
abbrev Given : World → MessageRow → WaitRow → Type 0
Given w m x = IsSoundWorld (world_after (basic w (Enters m)) (given_steps x m ++ woken SUCCESS (shown x m) x ∷ []))

sound-given : (w : World) (m : MessageRow) → every (is_ready w m) w.waits ≡ true → WaitOnce w.waits → InOrder w → IsTied w.ports w.waits → (x : WaitRow) → is_ready w m x ≡ true → every (is_quiet x.thread) w.waits ≡ true → takes m x ≡ true → Given w m x
sound-given w m all once t ties =
    by_kind (λ x. is_ready w m x ≡ true → every (is_quiet x.thread) w.waits ≡ true → takes m x ≡ true → Given w m x)
    (λ x r is quiet here. absurd (cc))
    (λ x is quiet here.
    let y : WaitRow = record x { kind = Receive } in
    let nothing : has (λ n. takes n y) w.messages ≡ false = grind arith in
    let none = has_none-more (λ n. takes n y) (is_queued m.queue) (λ n off. receives-other x m n here off) w.messages nothing in
    let waking = woken SUCCESS (shown y m) y in
    let back = sound-back w m y waking (λ v off s. sound-wakes-quiet v y.thread y.call SUCCESS (shown y m) off s) quiet all once t ties in
    subst (λ v. IsSoundWorld (world_after v (received_steps m ++ waking ∷ []))) (sym (world-taken w (is_queued m.queue) m none (birth-self m.queue))) back)
    (λ x is quiet here.
    let y : WaitRow = record x { kind = Listen } in
    let nothing : has (λ n. takes n y) w.messages ≡ false = grind arith in
    let none = has_none-more (λ n. takes n y) (is_queued_connect m.queue) (λ n off. listens-other x m n here off) w.messages nothing in
    let waking = woken SUCCESS (shown y m) y in
    let back = sound-back w m y waking (λ v off s. sound-wakes-quiet v y.thread y.call SUCCESS (shown y m) off s) quiet all once t ties in
    let self = birth-self m.queue in
    let own : is_queued_connect m.queue m ≡ true = grind arith in
    subst (λ v. IsSoundWorld (world_after v (received_steps m ++ waking ∷ []))) (sym (world-taken w (is_queued_connect m.queue) m none own)) back)
    (λ x r offer is quiet here. absurd (cc))
    (λ x r reply is quiet here. absurd (cc))
    (λ x r is quiet here. absurd (cc))

-- a wait that takes a message is no accepted connect, and its thread waits for nothing else
taker-quiet : (m : MessageRow) (x : WaitRow) → takes m x ≡ true → not (is_accepted x) ≡ true
taker-quiet m =
    by_kind (λ x. takes m x ≡ true → not (is_accepted x) ≡ true)
    (λ x r here. refl)
    (λ x here. refl)
    (λ x here. refl)
    (λ x r offer here. refl)
    (λ x r reply here. absurd (cc))
    (λ x r here. refl)

pub lone-quiet : (waits : List WaitRow) (test : WaitRow → Bool) (x : WaitRow) → WaitOnce waits → first test waits ≡ Some x → not (is_accepted x) ≡ true → every (is_quiet x.thread) waits ≡ true
lone-quiet waits test x once at quiet =
    let self : waits_as x.thread x ≡ true = grind (arith, nat_tests) in
    lone (waits_as x.thread) (λ y. not (is_accepted y)) test waits x (once x.thread) at self quiet

pub sound-enter : (w : World) (m : MessageRow) → every (is_ready w m) w.waits ≡ true → WaitOnce w.waits → InOrder w → IsTied w.ports w.waits → IsSoundWorld (world_after w (enter m w))
sound-enter w m all once t ties = at (first (takes m) w.waits) refl
  where
    at : (o : Option WaitRow) → first (takes m) w.waits ≡ o → IsSoundWorld (world_after w (Enters m ∷ given o (λ x. given_steps x m ++ woken SUCCESS (shown x m) x ∷ [])))
    at None is = sound-from (basic w (Enters m)) (every-both (is_ready w m) (λ x. not (takes m x)) (is_sure (basic w (Enters m))) (entered-sure w m) w.waits all (every-none (takes m) w.waits is)) once t ties
    at (Some x) is =
        let here = first-passes (takes m) w.waits x is in
        sound-given w m all once t ties x (every-first (is_ready w m) (takes m) w.waits x all is) (lone-quiet w.waits (takes m) x once is (taker-quiet m x here)) here
