-- raise, NtSetInformationProcess, and an event that goes on leave sound waits behind.
use Rattle.std.proofs.Common.{◌≡◌, ℕ, List, [], ◌∷◌, ◌++◌, Bool, true, false, not, Some, None, refl, subst, arith}
use Rattle.std.specs.Prelude.{◌&&◌, ◌||◌, ◌==◌, if◌then◌else◌}
use Rattle.std.proofs.lemmas.Bool.{eqb-true}
use Rattle.std.proofs.lemmas.Bool.Decides.{nat_tests}
use Rattle.lpc_base.specs.Rows.{change, every, first, has, without}
use Rattle.lpc_base.specs.declared.status.TheConstants.{SUCCESS}
use Rattle.lpc_base.proofs.RowWords.{every-more, every-push, first-passes, has-push}
use Rattle.lpc_base.proofs.Births.{birth-self}
use Rattle.lpc_model.specs.World.{Birth, Chance, FirstDebug, LastDebug, LastException, PortRow, Raised, ThreadRow, WaitRow, World}
use Rattle.lpc_model.specs.Found.{is_accepted, is_marked, is_open, is_process, wait_of, waits_as}
use Rattle.lpc_model.specs.Basics.{Awaits, DrawsIdentifier, SetsDebug, SetsException, basic, debugged, doomed, excepted, left_by}
use Rattle.lpc_model.specs.Entering.{row_of}
use Rattle.lpc_model.specs.Tests.{client_of, is_client}
use Rattle.lpc_model.specs.Raise.{DEBUG_CLASS, Handled, Heard, Hearing, Next, Unhandled, behind_chance, event_message, event_wait, go_on, goes_on, raised_in, send_event, sets_port}
use Rattle.lpc_model.specs.SoundWaits.{IsSoundWorld, is_answerable, is_message_of}
use Rattle.lpc_model.proofs.Calls.Raising.{GoesOn, WhereHeard, behind-holds, heard-routed, on-holds}
use Rattle.lpc_model.proofs.Calls.Usable.{HasRoute, live-number}
use Rattle.lpc_model.proofs.Sound.Pairs.{apart-other, is_quiet, tied-awaits, tied-of}
use Rattle.lpc_model.proofs.Sound.Worlds.{by_kind, is_sure, order-of, sure-waits}
use Rattle.lpc_model.proofs.Sound.Basics.{once-awaits, sound-identifier, sound-processes, sound-wakes-quiet}
use Rattle.lpc_model.proofs.Sound.Queues.{is_ready, lone-quiet, ready-sure, sound-enter}
use Rattle.lpc_model.proofs.Sound.Calls.{LeaveSound, drawn-client}

-- An event that is sent
own-event : (t : ThreadRow) (code : ℕ) (handled : Bool) (c : Chance) (port : PortRow) (queue : Birth) →
    is_message_of (event_wait t code handled (record { chance = c; port = port; queue = queue })) (row_of queue port (event_message (client_of t) t.next_identifier code c)) ≡ true
own-event t code handled FirstDebug port queue = let self = birth-self queue in grind (arith, nat_tests)
own-event t code handled LastDebug port queue = let self = birth-self queue in grind (arith, nat_tests)
own-event t code handled LastException port queue = let self = birth-self queue in grind (arith, nat_tests)

ready-parts : (c m o q h a : Bool) → c ≡ true → o ≡ true → q ≡ true → h ≡ true → a ≡ true → ((c && (m || (o && (h && q)))) && (m || a)) ≡ true
ready-parts c m o q h a one two three four five = grind arith

pub sent-sound : (w : World) (t : ThreadRow) (code : ℕ) (handled : Bool) (h : Hearing) → IsSoundWorld w → is_client w (client_of t) ≡ true → wait_of w t.number ≡ None → HasRoute w h.port h.queue → LeaveSound w (send_event t code handled h w)
sent-sound w t code handled h s client idle r =
    let x = event_wait t code handled h in
    let row = row_of h.queue h.port (event_message (client_of t) t.next_identifier code h.chance) in
    let drawn = basic w (DrawsIdentifier t.number) in
    let u = sound-identifier w t.number s in
    let stands = has-push (is_message_of x) w.messages row (own-event t code handled h.chance h.port h.queue) in
    let own : is_ready drawn row x ≡ true = ready-parts (is_client drawn (client_of t)) (is_marked drawn x) (is_open w h.port.birth) (is_open w h.queue) (has (is_message_of x) (w.messages ++ row ∷ [])) (is_answerable w x) (drawn-client w t client) r.from r.to stands r.answers in
    let others = every-more (is_sure drawn) (is_ready drawn row) (ready-sure drawn row) w.waits (sure-waits drawn u) in
    sound-enter (basic drawn (Awaits x)) row (every-push (is_ready drawn row) w.waits x others own) (once-awaits w x idle s.once) (order-of drawn u) (tied-awaits w.ports w.waits x (apart-other x refl w.ports) (tied-of drawn u))

-- a process that gets one of its two ports
pub set-sound : (w : World) (class pid : ℕ) (b : Birth) → IsSoundWorld w → IsSoundWorld (basic w (sets_port class pid b))
set-sound w class pid b s = at (class == DEBUG_CLASS)
  where
    at : (debug : Bool) → IsSoundWorld (basic w (if debug then SetsDebug pid b else SetsException pid b))
    at true = sound-processes w (change (is_process pid) (debugged b) w.processes) s
    at false = sound-processes w (change (is_process pid) (excepted b) w.processes) s

-- Going on
raised-quiet : (x : WaitRow) (r : Raised) → raised_in x ≡ Some r → not (is_accepted x) ≡ true
raised-quiet x r is = by_kind (λ x. raised_in x ≡ Some r → not (is_accepted x) ≡ true) (λ x m is. refl) (λ x is. refl) (λ x is. refl) (λ x m offer is. refl) (λ x m reply is. absurd (cc)) (λ x q is. refl) x is

none-left : (n : ℕ) (xs : List WaitRow) → first (waits_as n) (without (waits_as n) xs) ≡ None
none-left n [] = refl
none-left n (x ∷ xs) = grind (arith, none-left n xs)

pub on-sound : (w : World) (tid : ℕ) → IsSoundWorld w → LeaveSound w (go_on tid w)
on-sound w tid s = on-holds (LeaveSound w) w tid s some
  where
    some : (t : ThreadRow) (x : WaitRow) (r : Raised) → GoesOn w tid t x r → LeaveSound w (goes_on t x r (behind_chance w x.process r.handled r.chance) w)
    some t x r g = at (behind_chance w x.process r.handled r.chance) (behind-holds (λ h. HasRoute w h.port h.queue) w x.process r.handled r.chance (λ h _ is. let heard = heard-routed w x.process LastDebug h is in heard.route) (λ h _ is. let heard = heard-routed w x.process LastException h is in heard.route) (λ h _ is. let heard = heard-routed w x.process LastException h is in heard.route))
      where
        number : t.number ≡ tid
        number = live-number w tid t g.lives

        thread : x.thread ≡ tid
        thread = eqb-true x.thread tid (first-passes (waits_as tid) w.waits x g.waits)

        quiet : every (is_quiet x.thread) w.waits ≡ true
        quiet = lone-quiet w.waits (waits_as tid) x s.once g.waits (raised-quiet x r g.raised)

        left : IsSoundWorld (left_by x.thread w)
        left = sound-wakes-quiet w x.thread x.call SUCCESS [] quiet s

        idle : wait_of (left_by x.thread w) t.number ≡ None
        idle = subst (λ n. first (waits_as n) (without (waits_as x.thread) w.waits) ≡ None) (thread-same x.thread t.number tid thread number) (none-left x.thread w.waits)
          where
            thread-same : (a b c : ℕ) → a ≡ c → b ≡ c → a ≡ b
            thread-same a b c one two = cc

        client : is_client (left_by x.thread w) (client_of t) ≡ true
        client = rw (number, g.lives) (own t.process)
          where
            own : (n : ℕ) → (n == n) ≡ true
            own n = grind (arith, nat_tests)

        at : (n : Next) → WhereHeard (λ h. HasRoute w h.port h.queue) n → LeaveSound w (goes_on t x r n w)
        at Handled is = left
        at (Heard h) is = sent-sound (left_by x.thread w) t r.code r.handled h left client idle (record { from = is.from; to = is.to; answers = is.answers })
        at Unhandled is = sound-processes (left_by x.thread w) (change (is_process x.process) (doomed r.code) w.processes) left
