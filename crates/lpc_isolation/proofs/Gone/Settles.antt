-- A world settles alike where rows that nothing names have gone; it makes nothing, and what it sends leads home.
use Rattle.lpc_model.specs.Circle.{Group}
use Rattle.lpc_isolation.proofs.Gone.Fine.{AreFine}
use Rattle.lpc_isolation.proofs.Owed.Fine.{are-fine, then-fine}
use Rattle.std.proofs.Common.{◌≡◌, ℕ, zero, suc, List, [], ◌∷◌, ◌++◌, Bool, true, false, not, map, Option, Some, None, refl, ap, sym, subst, ◌∙◌, arith}
use Rattle.std.specs.Prelude.{◌&&◌, ◌||◌, ◌==◌, ◌*◌, ◌+◌, is_some, option_map}
use Rattle.std.proofs.lemmas.Bool.{eqb-true, false_from_ne_true}
use Rattle.lpc_base.specs.Rows.{count, every, given, passes, which}
use Rattle.lpc_base.specs.declared.status.Status.{Status}
use Rattle.lpc_base.proofs.Bools.{first-true, or-last, second-true}
use Rattle.lpc_base.proofs.RowWords.{every-append, every-more, first-passes}
use Rattle.lpc_base.proofs.RowMaps.{every-first}
use Rattle.lpc_model.specs.World.{Chance, LastDebug, LastException, ProcessRow, Raised, ThreadRow, WaitRow, World}
use Rattle.lpc_model.specs.Found.{is_event, is_live, live_thread, live_threads, port_row, wait_of, waits_as, lives_in}
use Rattle.lpc_model.specs.Basics.{Basic, Leaves, first_code, world_after}
use Rattle.lpc_model.specs.Death.{code_status, end_threads}
use Rattle.lpc_model.specs.Raise.{Handled, Heard, Hearing, Next, Unhandled, behind_chance, event_begun, go_on, goes_on, hearing_at, raised_in}
use Rattle.lpc_model.specs.Settle.{and_then_on, doomed_processes, end_doomed, is_doomed, least, live_processes, most_turns, settle, turn, turn_by, turns}
use Rattle.lpc_model.specs.SoundWaits.{IsSoundWorld, is_sound_as, is_sound_wait, waiter_of}
use Rattle.lpc_model.specs.Tests.{is_client}
use Rattle.lpc_model.proofs.Calls.Raising.{WhereHeard, behind-holds, heard-routed, on-holds}
use Rattle.lpc_model.proofs.Calls.Usable.{live-number}
use Rattle.lpc_model.proofs.Settling.Loop.{settle-holds}
use Rattle.lpc_model.proofs.Settling.Settled.{IsReady, turn-ready}
use Rattle.lpc_model.proofs.Steps.Ending.{end-ending, is_ending}
use Rattle.lpc_isolation.proofs.Views.Filters.{which-where}
use Rattle.lpc_isolation.proofs.Rows.Sent.{append-sent, are_sent, leads_home}
use Rattle.lpc_isolation.proofs.Rows.Ways.{route-home, then-sent}
use Rattle.lpc_isolation.proofs.Endings.Parts.{Remains}
use Rattle.lpc_isolation.proofs.Endings.Threads.{are_standing, ends-remains, ends-sent, ends-mild}
use Rattle.lpc_isolation.proofs.Closings.Ends.{every-passing}
use Rattle.lpc_isolation.proofs.Calls.Doomed.{standing-rows}
use Rattle.lpc_isolation.proofs.Each.Exceptions.{behind-thin}
use Rattle.lpc_isolation.proofs.Each.Raises.{event_row, hearer-live, hearing-set}
use Rattle.lpc_isolation.proofs.Gone.Born.{Born, ending-none, enter-none, makes_none, nones-born}
use Rattle.lpc_isolation.proofs.Gone.Thin.{Alive, Closed, closed-run, is_live-thin, live-home, live-thin, process_alive, process_closed, thin, thin-run, threads-thin}
use Rattle.lpc_isolation.proofs.Gone.ThinCalls.{AreClosed, caller-home}
use Rattle.lpc_isolation.proofs.Owed.Stands.{then-closed}

-- what holds of each hearing of a process's exception, holds of the one behind a chance
pub behind-all : (P : Hearing → Type 0) (w : World) (pid : ℕ) (handled : Bool) (chance : Chance) → ((c : Chance) (h : Hearing) → hearing_at w pid c ≡ Some h → P h) → WhereHeard P (behind_chance w pid handled chance)
behind-all P w pid handled chance all = behind-holds P w pid handled chance (λ h _ is. all LastDebug h is) (λ h _ is. all LastException h is) (λ h _ is. all LastException h is)

-- What it sends
sent-home : (w : World) (pid : ℕ) (chance : Chance) (h : Hearing) → hearing_at w pid chance ≡ Some h → passes (port_row w h.port.birth) (leads_home h.queue) ≡ true
sent-home w pid chance h is =
    let heard = heard-routed w pid chance h is in
    let s = hearing-set w pid chance h is in
    rw heard.stands (route-home w h.port h.queue s.to)

on-sent : (w : World) (tid : ℕ) → are_sent w (go_on tid w) ≡ true
on-sent w tid = on-holds (λ bs. are_sent w bs ≡ true) w tid refl (λ t x r g. at t x r (behind_chance w x.process r.handled r.chance) (behind-all (λ h. passes (port_row w h.port.birth) (leads_home h.queue) ≡ true) w x.process r.handled r.chance (sent-home w x.process)))
  where
    at : (t : ThreadRow) (x : WaitRow) (r : Raised) (n : Next) → WhereHeard (λ h. passes (port_row w h.port.birth) (leads_home h.queue) ≡ true) n → are_sent w (goes_on t x r n w) ≡ true
    at t x r Handled home = refl
    at t x r (Heard h) home = then-sent w (Leaves x.thread ∷ event_begun t r.code r.handled h) (event_row t r.code h) refl home
    at t x r Unhandled home = refl

doomed-sent : (w : World) (p : ProcessRow) → are_sent w (end_doomed p w) ≡ true
unfolding end_doomed
doomed-sent w p = ends-sent p.number (code_status (first_code 0 p.doom)) (live_threads w p.number) w

pub settle-sent : (w : World) → are_sent w (settle w) ≡ true
settle-sent w = settle-holds (λ _. Unit {0}) (λ w bs. are_sent w bs ≡ true) (λ w. refl) (λ w bs cs one two. append-sent w bs cs one two) (λ w bs is _. tt) (λ w tid later some _. on-sent w tid) (λ w p some _. doomed-sent w p) w tt

-- It makes no port and no process
pub on-fine : (m : Group) (c : ℕ) (w : World) (tid : ℕ) → AreFine m c (go_on tid w)
on-fine m c w tid = on-holds (AreFine m c) w tid refl (λ t x r g. at t x r (behind_chance w x.process r.handled r.chance))
  where
    at : (t : ThreadRow) (x : WaitRow) (r : Raised) (n : Next) → AreFine m c (goes_on t x r n w)
    at t x r Handled = refl
    at t x r (Heard h) = then-fine m c w (Leaves x.thread ∷ event_begun t r.code r.handled h) (event_row t r.code h) refl
    at t x r Unhandled = refl

doomed-fine : (m : Group) (c : ℕ) (w : World) (p : ProcessRow) → AreFine m c (end_doomed p w)
unfolding end_doomed
doomed-fine m c w p =
    let code : Status = code_status (first_code 0 p.doom) in
    let ts : List ThreadRow = live_threads w p.number in
    are-fine m c (end_threads p.number code ts w) (ends-mild p.number code ts w)

pub settle-fine : (m : Group) (c : ℕ) (w : World) → AreFine m c (settle w)
settle-fine m c w = settle-holds (λ _. Unit {0}) (λ w bs. AreFine m c bs) (λ w. refl) (λ w bs cs one two. every-append _ bs cs one two) (λ w bs is _. tt) (λ w tid later some _. on-fine m c w tid) (λ w p some _. doomed-fine m c w p) w tt

-- It makes nothing
pub on-none : (w : World) (tid : ℕ) → every makes_none (go_on tid w) ≡ true
on-none w tid = on-holds (λ bs. every makes_none bs ≡ true) w tid refl (λ t x r g. at t x r (behind_chance w x.process r.handled r.chance))
  where
    at : (t : ThreadRow) (x : WaitRow) (r : Raised) (n : Next) → every makes_none (goes_on t x r n w) ≡ true
    at t x r Handled = refl
    at t x r (Heard h) = enter-none (event_row t r.code h) (world_after w (Leaves x.thread ∷ event_begun t r.code r.handled h))
    at t x r Unhandled = refl

pub doomed-none : (w : World) (p : ProcessRow) → every makes_none (end_doomed p w) ≡ true
unfolding end_doomed
doomed-none w p =
    let bs = end_threads p.number (code_status (first_code 0 p.doom)) (live_threads w p.number) w in
    every-more is_ending makes_none ending-none bs (end-ending p.number (code_status (first_code 0 p.doom)) (live_threads w p.number) w)

pub settle-none : (w : World) → every makes_none (settle w) ≡ true
settle-none w = settle-holds (λ _. Unit {0}) (λ w bs. every makes_none bs ≡ true) (λ w. refl) (λ w bs cs one two. every-append makes_none bs cs one two) (λ w bs is _. tt) (λ w tid later some _. on-none w tid) (λ w p some _. doomed-none w p) w tt

pub settle-born : (w : World) → Born w → Born (world_after w (settle w))
settle-born w b = nones-born w (settle w) (settle-none w) b

-- Where rows have gone
-- a marked event goes on alike
module _ (k : Alive) (u : World) (tid : ℕ) (s : IsSoundWorld u) (c : Closed k u) where
  home-of : (t : ThreadRow) (x : WaitRow) → live_thread u tid ≡ Some t → wait_of u tid ≡ Some x → k.homes x.process ≡ true
  home-of t x lives waits =
      let thread : x.thread ≡ tid = eqb-true x.thread tid (first-passes (waits_as tid) u.waits x waits) in
      let client : is_client u (waiter_of x) ≡ true = first-true (is_client u (waiter_of x)) (is_sound_as u x x.kind) (every-first (is_sound_wait u) (waits_as tid) u.waits x s.waits waits) in
      let row : live_thread u x.thread ≡ Some t = subst (λ n. live_thread u n ≡ Some t) (sym thread) lives in
      let same : (t.process == x.process) ≡ true = rw row at client in
      let own : live_thread u t.number ≡ Some t = subst (λ n. live_thread u n ≡ Some t) (sym (live-number u tid t lives)) lives in
      subst (λ n. k.homes n ≡ true) (eqb-true t.process x.process same) (caller-home k u t own c)

  on-thin : go_on tid (thin k u) ≡ go_on tid u
  unfolding go_on
  on-thin = ap (λ o. given o (λ t. given (wait_of u tid) (λ x. given (raised_in x) (λ r. goes_on t x r (behind_chance (thin k u) x.process r.handled r.chance) (thin k u))))) (live-thin k u tid c) ∙ by-thread (live_thread u tid) refl
    where
      by-next : (t : ThreadRow) (x : WaitRow) (r : Raised) (n : Next) → goes_on t x r n (thin k u) ≡ goes_on t x r n u
      by-next t x r Handled = refl
      by-next t x r (Heard h) = refl
      by-next t x r Unhandled = refl

      by-raised : (t : ThreadRow) (x : WaitRow) → live_thread u tid ≡ Some t → wait_of u tid ≡ Some x → (o : Option Raised) → given o (λ r. goes_on t x r (behind_chance (thin k u) x.process r.handled r.chance) (thin k u)) ≡ given o (λ r. goes_on t x r (behind_chance u x.process r.handled r.chance) u)
      by-raised t x lives waits None = refl
      by-raised t x lives waits (Some r) =
          ap (λ n. goes_on t x r n (thin k u)) (behind-thin k u x.process (home-of t x lives waits) c r.handled r.chance)
          ∙ by-next t x r (behind_chance u x.process r.handled r.chance)

      by-wait : (t : ThreadRow) → live_thread u tid ≡ Some t → (o : Option WaitRow) → wait_of u tid ≡ o → given o (λ x. given (raised_in x) (λ r. goes_on t x r (behind_chance (thin k u) x.process r.handled r.chance) (thin k u))) ≡ given o (λ x. given (raised_in x) (λ r. goes_on t x r (behind_chance u x.process r.handled r.chance) u))
      by-wait t lives None waits = refl
      by-wait t lives (Some x) waits = by-raised t x lives waits (raised_in x)

      by-thread : (o : Option ThreadRow) → live_thread u tid ≡ o → given o (λ t. given (wait_of u tid) (λ x. given (raised_in x) (λ r. goes_on t x r (behind_chance (thin k u) x.process r.handled r.chance) (thin k u)))) ≡ given o (λ t. given (wait_of u tid) (λ x. given (raised_in x) (λ r. goes_on t x r (behind_chance u x.process r.handled r.chance) u)))
      by-thread None lives = refl
      by-thread (Some t) lives = by-wait t lives (wait_of u tid) refl

on-closed : (k : Alive) (u : World) (tid : ℕ) → Closed k u → AreClosed k (go_on tid u)
on-closed k u tid c = on-holds (AreClosed k) u tid refl (λ t x r g. at t x r (behind_chance u x.process r.handled r.chance) (behind-all (λ h. k.ports h.port.birth ≡ true) u x.process r.handled r.chance (λ chance h is. hearer-live k u x.process chance h c (hearing-set u x.process chance h is))))
  where
    at : (t : ThreadRow) (x : WaitRow) (r : Raised) (n : Next) → WhereHeard (λ h. k.ports h.port.birth ≡ true) n → AreClosed k (goes_on t x r n u)
    at t x r Handled lives = refl
    at t x r (Heard h) lives = then-closed k u (Leaves x.thread ∷ event_begun t r.code r.handled h) (event_row t r.code h) (rw lives refl) lives
    at t x r Unhandled lives = refl

-- a doomed process ends alike
doomed-remains : (k : Alive) (u : World) (pid : ℕ) (code : Status) → Closed k u → Remains k (end_threads pid code (live_threads u pid))
doomed-remains k u pid code c =
    ends-remains k pid code (live_threads u pid)
    (every-passing (λ t. not (lives_in pid t) || are_standing k t) (lives_in pid) (are_standing k) (λ t either lives. or-last (lives_in pid t) (are_standing k t) lives either) u.threads (standing-rows k u pid c))

doomed-thin : (k : Alive) (u : World) (p : ProcessRow) → Closed k u → end_doomed p (thin k u) ≡ end_doomed p u
unfolding end_doomed
doomed-thin k u p c =
    let code : Status = code_status (first_code 0 p.doom) in
    let r = doomed-remains k u p.number code c in
    ap (λ ts. end_threads p.number code ts (thin k u)) (threads-thin k u p.number c) ∙ r.alike u c

doomed-closed : (k : Alive) (u : World) (p : ProcessRow) → Closed k u → AreClosed k (end_doomed p u)
unfolding end_doomed
doomed-closed k u p c = let r = doomed-remains k u p.number (code_status (first_code 0 p.doom)) c in r.stands u c

-- the turns are the same
which-same : {X : Type 0} (f g : X → Bool) → ((x : X) → f x ≡ g x) → (xs : List X) → which f xs ≡ which g xs
which-same f g same [] = refl
which-same f g same (x ∷ xs) = rw (same x, which-same f g same xs) refl

held : (e a : Bool) → e ≡ true → (not e || a) ≡ true → a ≡ true
held e a is ok = grind arith

live-stands : (k : Alive) (u : World) (p : ProcessRow) → Closed k u → process_closed k p ≡ true → is_live u p.number ≡ true → k.processes p.birth ≡ true
live-stands k u p c closed live = held (k.homes p.number) (k.processes p.birth) (live-home k u p.number c live) closed

processes-thin : (k : Alive) (u : World) → Closed k u → doomed_processes (thin k u) ≡ doomed_processes u
processes-thin k u c =
    which-same (is_doomed (thin k u)) (is_doomed u) (λ p. ap (λ e. is_some p.doom && e) (is_live-thin k u p.number c)) (which (process_alive k) u.processes)
    ∙ which-where (process_closed k) (process_alive k) (is_doomed u) (λ p closed is. live-stands k u p c closed (second-true (is_some p.doom) (is_live u p.number) is)) u.processes c.processes

turn-thin : (k : Alive) (u : World) → IsSoundWorld u → Closed k u → turn (thin k u) ≡ turn u
turn-thin k u s c = at u.marks
  where
    ends : (o : Option ProcessRow) → option_map (λ p. end_doomed p (thin k u)) o ≡ option_map (λ p. end_doomed p u) o
    ends None = refl
    ends (Some p) = ap (λ bs. Some bs) (doomed-thin k u p c)

    at : (ms : List ℕ) → turn_by (thin k u) ms ≡ turn_by u ms
    at [] = ap (λ ps. option_map (λ p. end_doomed p (thin k u)) (least ps)) (processes-thin k u c) ∙ ends (least (doomed_processes u))
    at (tid ∷ later) = ap (λ bs. Some bs) (on-thin k u tid s c)

turn-closed : (k : Alive) (u : World) (bs : List Basic) → turn u ≡ Some bs → Closed k u → AreClosed k bs
turn-closed k u bs is c = at u.marks is
  where
    ends : (o : Option ProcessRow) → option_map (λ p. end_doomed p u) o ≡ Some bs → AreClosed k bs
    ends None is = absurd (cc)
    ends (Some p) is = let same : end_doomed p u ≡ bs = cc in subst (AreClosed k) same (doomed-closed k u p c)

    at : (ms : List ℕ) → turn_by u ms ≡ Some bs → AreClosed k bs
    at [] is = ends (least (doomed_processes u)) is
    at (tid ∷ later) is = let same : go_on tid u ≡ bs = cc in subst (AreClosed k) same (on-closed k u tid c)

-- and there are as many
live-thin-count : (k : Alive) (u : World) → Closed k u → live_processes (thin k u) ≡ live_processes u
live-thin-count k u c = rows u.processes c.processes
  where
    same : (p : ProcessRow) → is_live (thin k u) p.number ≡ is_live u p.number
    same p = is_live-thin k u p.number c

    rows : (ps : List ProcessRow) → every (process_closed k) ps ≡ true → count (is_live (thin k u)) (map (λ (p : ProcessRow). p.number) (which (process_alive k) ps)) ≡ count (is_live u) (map (λ (p : ProcessRow). p.number) ps)
    rows [] all = refl
    rows (p ∷ ps) all = at (k.processes p.birth) refl (rows ps (second-true _ _ all))
      where
        at : (e : Bool) → k.processes p.birth ≡ e → count (is_live (thin k u)) (map (λ (p : ProcessRow). p.number) (which (process_alive k) ps)) ≡ count (is_live u) (map (λ (p : ProcessRow). p.number) ps)
            → count (is_live (thin k u)) (map (λ (p : ProcessRow). p.number) (which (process_alive k) (p ∷ ps))) ≡ count (is_live u) (map (λ (p : ProcessRow). p.number) (p ∷ ps))
        at true alive rest = let one = same p in rw alive (grind (arith, one, rest))
        at false dead rest =
            let off : is_live u p.number ≡ false = false_from_ne_true (is_live u p.number) (λ live. let stands : k.processes p.birth ≡ true = live-stands k u p c (first-true _ _ all) live in cc) in
            rw dead (grind (arith, off, rest))

-- so a world settles alike, and names what stands alone
pub record SettlesAlike (k : Alive) (u : World) (n : ℕ) : Type 0 where
  pub same : turns n (thin k u) ≡ turns n u
  pub closed : AreClosed k (turns n u)

turns-thin : (k : Alive) (n : ℕ) (u : World) → IsReady u → Closed k u → SettlesAlike k u n
turns-thin k zero u ready c = record { same = refl; closed = refl }
turns-thin k (suc n) u ready c =
    let sound : IsSoundWorld u = let safe = ready.safe in safe.sound in
    at (turn u) refl (turn-thin k u sound c) (λ v r d. turns-thin k n v r d)
  where
    at : (o : Option (List Basic)) → turn u ≡ o → turn (thin k u) ≡ turn u → ((v : World) → IsReady v → Closed k v → SettlesAlike k v n) → SettlesAlike k u (suc n)
    at None none seen later = record {
      same = ap (λ o. and_then_on (thin k u) o (turns n)) (seen ∙ none) ∙ sym (ap (λ o. and_then_on u o (turns n)) none);
      closed = subst (λ o. AreClosed k (and_then_on u o (turns n))) (sym none) refl;
    }
    at (Some bs) some seen later =
        let names : AreClosed k bs = turn-closed k u bs some c in
        let more : SettlesAlike k (world_after u bs) n = later (world_after u bs) (turn-ready u bs some ready) (closed-run k u bs names c) in
        record {
          same =
              ap (λ o. and_then_on (thin k u) o (turns n)) (seen ∙ some)
              ∙ ap (λ v. bs ++ turns n v) (sym (thin-run k u bs names))
              ∙ ap (λ cs. bs ++ cs) more.same
              ∙ sym (ap (λ o. and_then_on u o (turns n)) some);
          closed = subst (λ o. AreClosed k (and_then_on u o (turns n))) (sym some) (every-append _ bs (turns n (world_after u bs)) names more.closed);
        }

pub settle-thin : (k : Alive) (u : World) → IsReady u → Closed k u → settle (thin k u) ≡ settle u
unfolding settle
settle-thin k u ready c =
    let t : SettlesAlike k u (most_turns u) = turns-thin k (most_turns u) u ready c in
    ap (λ n. turns (3 * count is_event u.waits + n) (thin k u)) (live-thin-count k u c) ∙ t.same

pub settle-closed : (k : Alive) (u : World) → IsReady u → Closed k u → AreClosed k (settle u)
unfolding settle
settle-closed k u ready c = let t : SettlesAlike k u (most_turns u) = turns-thin k (most_turns u) u ready c in t.closed
