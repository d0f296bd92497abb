-- Behind settling no event is marked, and no live process is to end; waits are sound.
use Rattle.std.proofs.Common.{◌≡◌, ℕ, List, [], ◌∷◌, Bool, true, false, cond, not, Option, Some, None, refl, subst, arith}
use Rattle.std.specs.Prelude.{◌&&◌, ◌||◌, ◌==◌, ◌<◌, is_some, nat_lt, if◌then◌else◌}
use Rattle.std.proofs.lemmas.Bool.{eqb-true}
use Rattle.std.proofs.lemmas.Bool.Decides.{nat_tests}
use Rattle.lpc_base.specs.Rows.{every, first, has, passes, which}
use Rattle.lpc_base.specs.declared.status.Status.{Status}
use Rattle.lpc_base.proofs.Bools.{first-true, second-true}
use Rattle.lpc_base.proofs.RowWords.{every-push, every-without, first-passes}
use Rattle.lpc_base.proofs.RowMaps.{every-first}
use Rattle.lpc_model.specs.World.{ProcessRow, Raised, ThreadRow, WaitRow, World}
use Rattle.lpc_model.specs.Found.{is_event, is_live, live_thread, live_threads, wait_of, waits_as}
use Rattle.lpc_model.specs.Basics.{Awaits, Basic, DrawsIdentifier, LetsGo, Unregisters, basic, first_code, left_by, world_after}
use Rattle.lpc_model.specs.Entering.{enter, row_of}
use Rattle.lpc_model.specs.Tests.{client_of, is_client}
use Rattle.lpc_model.specs.Death.{code_status, end_threads}
use Rattle.lpc_model.specs.Raise.{Handled, Heard, Next, Unhandled, behind_chance, event_message, event_wait, go_on, goes_on, raised_in, raised}
use Rattle.lpc_model.specs.Settle.{HasMarkedEvents, IsSettled, doomed_processes, end_doomed, has_event, is_doomed, is_event_of, least, lesser, most_turns, settle, turn, turn_by}
use Rattle.lpc_model.specs.SoundWaits.{HasShutConnects, IsSoundWorld, is_sound_as, is_sound_wait, waiter_of}
use Rattle.lpc_model.proofs.Steps.Closing.{behind}
use Rattle.lpc_model.proofs.Steps.Ending.{end-keeps, ending-enter}
use Rattle.lpc_model.proofs.Sound.Marked.{die-marked, enter-unmarking, handle-marked, is_unmarking, marked-all, marked-step}
use Rattle.lpc_model.proofs.Steps.Rows.{lone}
use Rattle.lpc_model.proofs.Settling.Loop.{settle-kept, settled-none, turns-end}
use Rattle.lpc_model.proofs.Sound.ShutConnects.{shut-all}
use Rattle.lpc_model.proofs.Closings.Single.{waits_shut}
use Rattle.lpc_model.proofs.Sound.Frees.{which-all}
use Rattle.lpc_model.proofs.Sound.Raise.{on-sound}
use Rattle.lpc_model.proofs.Calls.Raising.{GoesOn, on-holds}
use Rattle.lpc_model.proofs.Sound.Terminate.{IsSafe, die-safe, enter-safe, handle-safe, processes-safe, unregister-safe}
use Rattle.lpc_model.proofs.Sound.Worlds.{by_kind, sound-memory}
use Rattle.lpc_model.proofs.Settling.Turns.{ending-lower, few, measure, on-lower}

-- What settling needs and keeps
pub record IsReady (w : World) : Type 0 where
  pub safe : IsSafe w
  pub marked : HasMarkedEvents w

-- A marked event that goes on
on-unmarking : (w : World) (tid : ℕ) → every is_unmarking (go_on tid w) ≡ true
on-unmarking w tid = on-holds (λ bs. every is_unmarking bs ≡ true) w tid refl (λ t x r g. at t x r (behind_chance w x.process r.handled r.chance))
  where
    at : (t : ThreadRow) (x : WaitRow) (r : Raised) (n : Next) → every is_unmarking (goes_on t x r n w) ≡ true
    at t x r Handled = refl
    at t x r (Heard h) =
        let y = event_wait t r.code r.handled h in
        let v : World = basic (basic (left_by x.thread w) (DrawsIdentifier t.number)) (Awaits y) in
        enter-unmarking (row_of h.queue h.port (event_message (client_of t) t.next_identifier r.code h.chance)) v
    at t x r Unhandled = refl

on-shut : (w : World) (tid : ℕ) → HasShutConnects w → HasShutConnects (behind (go_on tid) w)
on-shut w tid shut = on-holds (λ bs. HasShutConnects (world_after w bs)) w tid shut (λ t x r g. at t x r (behind_chance w x.process r.handled r.chance))
  where
    left : (x : WaitRow) → HasShutConnects (left_by x.thread w)
    left x = every-without (waits_shut w) (waits_as x.thread) w.waits shut

    at : (t : ThreadRow) (x : WaitRow) (r : Raised) (n : Next) → HasShutConnects (world_after w (goes_on t x r n w))
    at t x r Handled = left x
    at t x r (Heard h) =
        let y = event_wait t r.code r.handled h in
        let row = row_of h.queue h.port (event_message (client_of t) t.next_identifier r.code h.chance) in
        let v : World = basic (basic (left_by x.thread w) (DrawsIdentifier t.number)) (Awaits y) in
        shut-all v (enter row v) (ending-enter row v) (every-push (waits_shut v) (left_by x.thread w).waits y (left x) refl)
    at t x r Unhandled = left x

pub on-ready : (w : World) (tid : ℕ) (later : List ℕ) → w.marks ≡ tid ∷ later → IsReady w → IsReady (behind (go_on tid) w)
on-ready w tid later some is = record {
  safe = record { sound = on-sound w tid is.safe.sound; shut = on-shut w tid is.safe.shut };
  marked = marked-all w (go_on tid w) (on-unmarking w tid) is.marked;
}

-- its thread lives, and waits for what is made of it
raised-of : (x : WaitRow) → is_event x ≡ true → (r : Raised) × (raised_in x ≡ Some r)
raised-of = by_kind (λ x. is_event x ≡ true → (r : Raised) × (raised_in x ≡ Some r)) (λ x m is. absurd (cc)) (λ x is. absurd (cc)) (λ x is. absurd (cc)) (λ x m offer is. absurd (cc)) (λ x m reply is. absurd (cc)) (λ x r is. (r, refl))

pub record Found (w : World) (tid : ℕ) : Type 0 where
  pub t : ThreadRow
  pub x : WaitRow
  pub r : Raised
  pub goes : GoesOn w tid t x r

pub found-event : (w : World) (tid : ℕ) → has_event w tid ≡ true → IsSoundWorld w → Found w tid
found-event w tid marked s = from (first (is_event_of tid) w.waits) refl marked
  where
    thread-of : (x : WaitRow) (r : Raised) → wait_of w tid ≡ Some x → raised_in x ≡ Some r → (o : Option ThreadRow) → live_thread w x.thread ≡ o → passes o (λ t. t.process == x.process) ≡ true → Found w tid
    thread-of x r waits raised None none is = absurd (cc)
    thread-of x r waits raised (Some t) some is =
        let thread : x.thread ≡ tid = eqb-true x.thread tid (first-passes (waits_as tid) w.waits x waits) in
        record { t = t; x = x; r = r; goes = record { lives = subst (λ n. live_thread w n ≡ Some t) thread some; waits = waits; raised = raised } }

    sound : (x : WaitRow) → wait_of w tid ≡ Some x → is_client w (waiter_of x) ≡ true
    sound x waits = first-true (is_client w (waiter_of x)) (is_sound_as w x x.kind) (every-first (is_sound_wait w) (waits_as tid) w.waits x s.waits waits)

    waiting : every (λ z. not (waits_as tid z) || is_event z) w.waits ≡ true → (o : Option WaitRow) → wait_of w tid ≡ o → is_some o ≡ true → Found w tid
    waiting all None none is = absurd (cc)
    waiting all (Some x) some is =
        let event : is_event x ≡ true = parts (waits_as tid x) (is_event x) (first-passes (waits_as tid) w.waits x some) (every-first (λ z. not (waits_as tid z) || is_event z) (waits_as tid) w.waits x all some) in
        let r = raised-of x event in
        thread-of x r.0 some r.1 (live_thread w x.thread) refl (sound x some)
      where
        parts : (a e : Bool) → a ≡ true → (not a || e) ≡ true → e ≡ true
        parts a e one two = grind arith

    has-wait : (zs : List WaitRow) → has (is_event_of tid) zs ≡ true → has (waits_as tid) zs ≡ true
    has-wait [] is = absurd (cc)
    has-wait (z ∷ zs) is = grind (arith, has-wait zs)

    from : (o : Option WaitRow) → first (is_event_of tid) w.waits ≡ o → is_some o ≡ true → Found w tid
    from None none is = absurd (cc)
    from (Some y) some is =
        let own = first-passes (is_event_of tid) w.waits y some in
        let all = lone (waits_as tid) is_event (is_event_of tid) w.waits y (s.once tid) some (first-true (waits_as tid y) (is_event y) own) (second-true (waits_as tid y) (is_event y) own) in
        waiting all (wait_of w tid) refl (has-wait w.waits marked)

pub on-found : (P : List Basic → Type 0) (w : World) (tid : ℕ) (t : ThreadRow) (x : WaitRow) (r : Raised) → GoesOn w tid t x r → P (goes_on t x r (behind_chance w x.process r.handled r.chance) w) → P (go_on tid w)
unfolding go_on
on-found P w tid t x r g is = rw (g.lives, g.waits, g.raised) is

-- A doomed process that ends
ready-sound : (w : World) → IsReady w → IsSoundWorld w
ready-sound w is = is.safe.sound

pub end-ready : (pid : ℕ) (code : Status) (ts : List ThreadRow) (w : World) → IsReady w → IsReady (behind (end_threads pid code ts) w)
end-ready =
    end-keeps IsReady
    (λ code t w is. record { safe = die-safe code t w is.safe; marked = die-marked code t w is.marked })
    (λ n b w is. record { safe = unregister-safe n b w is.safe; marked = marked-step w (Unregisters n b) refl is.marked })
    (λ t b m w some is. record { safe = enter-safe m w is.safe; marked = marked-all w (enter m w) (enter-unmarking m w) is.marked })
    ready-sound
    (λ w pid is. record { safe = processes-safe w (basic w (LetsGo pid)).processes is.safe; marked = is.marked })
    (λ w pid r at is. record { safe = handle-safe w pid r at is.safe; marked = handle-marked w pid r is.marked })
    (λ w pid is. record { safe = record { sound = sound-memory w _ _ _ is.safe.sound; shut = is.safe.shut }; marked = is.marked })

pub doomed-ready : (w : World) (p : ProcessRow) → IsReady w → IsReady (behind (end_doomed p) w)
unfolding end_doomed
doomed-ready w p is = end-ready p.number (code_status (first_code 0 p.doom)) (live_threads w p.number) w is

-- the one that is found is among them
record IsAmong (f : ProcessRow → Bool) (p : ProcessRow) (ps : List ProcessRow) : Type 0 where
  own : f p ≡ true
  among : has (λ q. q.number == p.number) ps ≡ true

least-among : (f : ProcessRow → Bool) (ps : List ProcessRow) (p : ProcessRow) → every f ps ≡ true → least ps ≡ Some p → IsAmong f p ps
least-among f [] p all is = absurd (cc)
least-among f (q ∷ qs) p all is = at (least qs) refl (λ r some. least-among f qs r (second-true (f q) (every f qs) all) some) (some-same (lesser q (least qs)) p is)
  where
    some-same : (a b : ProcessRow) → (let o : Option ProcessRow = Some a in o ≡ Some b) → a ≡ b
    some-same a b one = cc

    head : (p : ProcessRow) → q ≡ p → IsAmong f p (q ∷ qs)
    head p same = subst (λ r. IsAmong f r (q ∷ qs)) same (record { own = first-true (f q) (every f qs) all; among = grind (arith, nat_tests) })

    tail : (r p : ProcessRow) → IsAmong f r qs → r ≡ p → IsAmong f p (q ∷ qs)
    tail r p a same = let more = a.among in subst (λ s. IsAmong f s (q ∷ qs)) same (record { own = a.own; among = grind (arith, more) })

    choose : (r : ProcessRow) (c : Bool) → IsAmong f r qs → cond c r q ≡ p → IsAmong f p (q ∷ qs)
    choose r true a same = tail r p a same
    choose r false a same = head p same

    at : (o : Option ProcessRow) → least qs ≡ o → ((r : ProcessRow) → least qs ≡ Some r → IsAmong f r qs) → lesser q o ≡ p → IsAmong f p (q ∷ qs)
    at None none later same = head p same
    at (Some r) some later same = choose r (nat_lt r.number q.number) (later r some) same

among-all : (f : ProcessRow → Bool) (n : ℕ) (ps : List ProcessRow) → has (λ q. q.number == n) (which f ps) ≡ true → has (λ q. q.number == n) ps ≡ true
among-all f n [] is = absurd (cc)
among-all f n (p ∷ ps) is = grind (arith, among-all f n ps)

pub doomed-lower : (w : World) (p : ProcessRow) → least (doomed_processes w) ≡ Some p → measure (behind (end_doomed p) w) < measure w
unfolding end_doomed
doomed-lower w p is =
    let a = least-among (is_doomed w) (doomed_processes w) p (which-all (is_doomed w) w.processes) is in
    ending-lower w p.number (code_status (first_code 0 p.doom)) (among-all (is_doomed w) p.number w.processes a.among) (second-true (is_some p.doom) (is_live w p.number) a.own)

-- Turns
turn-lower : (w : World) (bs : List Basic) → turn w ≡ Some bs → IsReady w → measure (world_after w bs) < measure w
turn-lower w bs is ready = at w.marks refl is
  where
    by_process : (o : Option ProcessRow) → least (doomed_processes w) ≡ o → Rattle.std.specs.Prelude.option_map (λ p. end_doomed p w) o ≡ Some bs → measure (world_after w bs) < measure w
    by_process None none is = absurd (cc)
    by_process (Some p) some is = let same : end_doomed p w ≡ bs = cc in subst (λ cs. measure (world_after w cs) < measure w) same (doomed-lower w p some)

    first-marked : (tid : ℕ) (later : List ℕ) → w.marks ≡ tid ∷ later → has_event w tid ≡ true
    first-marked tid later some = let all = subst (λ ms. every (has_event w) ms ≡ true) some ready.marked in first-true (has_event w tid) (every (has_event w) later) all

    at : (ms : List ℕ) → w.marks ≡ ms → turn_by w ms ≡ Some bs → measure (world_after w bs) < measure w
    at [] none is = by_process (least (doomed_processes w)) refl is
    at (tid ∷ later) some is =
        let same : go_on tid w ≡ bs = cc in
        let f = found-event w tid (first-marked tid later some) ready.safe.sound in
        subst (λ cs. measure (world_after w cs) < measure w) same (on-found (λ cs. measure (world_after w cs) < measure w) w tid f.t f.x f.r f.goes (on-lower w tid f.t f.x f.r f.goes))

pub turn-ready : (w : World) (bs : List Basic) → turn w ≡ Some bs → IsReady w → IsReady (world_after w bs)
turn-ready = Rattle.lpc_model.proofs.Settling.Loop.turn-kept IsReady on-ready (λ w p some is. doomed-ready w p is)

-- settling keeps that, and leaves nothing to settle
pub settle-ready : (w : World) → IsReady w → IsReady (behind settle w)
settle-ready = settle-kept IsReady on-ready (λ w p some is. doomed-ready w p is)

pub settles : (w : World) → IsReady w → IsSettled (behind settle w)
unfolding settle
settles w is = settled-none (behind settle w) (turns-end IsReady turn-ready measure turn-lower (most_turns w) w (few w) is)
