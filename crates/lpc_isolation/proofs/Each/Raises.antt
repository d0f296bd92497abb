-- Exceptions: who is told of one, in a world and in the view; what is sent; NtSetInformationProcess.
use Rattle.lpc_isolation.proofs.Gone.Thin.{Alive, Closed, hearer_closed}
use Rattle.lpc_isolation.proofs.Rows.Asked.{is_sort}
use Rattle.lpc_model.proofs.Calls.Raising.{IsHearing}
use Rattle.lpc_isolation.proofs.Each.Sends.{Caller}
use Rattle.std.proofs.Common.{◌≡◌, ℕ, List, ◌++◌, Bool, true, false, Option, Some, None, refl, ap, sym, subst, ◌∙◌, arith}
use Rattle.std.specs.Prelude.{◌==◌, ◌&&◌, ◌||◌, not, option_and_then, option_map}
use Rattle.std.proofs.lemmas.Bool.{and_from, eqb-true}
use Rattle.lpc_base.specs.Rows.{every, first, has}
use Rattle.lpc_base.proofs.RowWords.{every-push, first-passes}
use Rattle.lpc_base.proofs.RowMaps.{every-first}
use Rattle.lpc_base.proofs.Bools.{first-true, same-number, second-true}
use Rattle.lpc_base.proofs.Births.{birth-same}
use Rattle.lpc_model.specs.World.{Birth, Chance, FirstDebug, LastDebug, LastException, MessageRow, PortRow, ProcessRow, ThreadRow, World}
use Rattle.lpc_model.specs.Found.{event_ports_of, is_mark, is_port, is_process, listed, port_row, route}
use Rattle.lpc_model.specs.Basics.{Basic, world_after}
use Rattle.lpc_model.specs.Entering.{enter, row_of}
use Rattle.lpc_model.specs.Linked.{passes_or_none}
use Rattle.lpc_model.specs.Tests.{client_of}
use Rattle.lpc_model.specs.Raise.{Handled, Heard, Hearing, Next, Unhandled, behind_chance, event_begun, event_message, event_port, event_port_of, event_wait, from_exception, from_first, from_frames, from_last, heard_at, heard_on, heard_or, hearing_at, send_event}
use Rattle.lpc_model.specs.Circle.{Group, Whose, is_fine_event_port, is_fine_raiser, is_told_inside, owner}
use Rattle.lpc_isolation.proofs.Views.Alone.{HasFineRaisers, HasFineRows}
use Rattle.lpc_isolation.proofs.Views.Filters.{first-inside}
use Rattle.lpc_isolation.proofs.Views.View.{our_process, seen_pair, seen_port, view}
use Rattle.lpc_isolation.proofs.Views.Basics.{are_ours, ours-append, run-ours}
use Rattle.lpc_isolation.proofs.Views.Apart.{Owned, are_apart, enter-apart, is_owned, unseen-at, unseen-wait}
use Rattle.lpc_isolation.proofs.Views.Callers.{unseen-thread}
use Rattle.lpc_isolation.proofs.Views.Seen.{port-view}
use Rattle.lpc_isolation.proofs.Rows.Fair.{Fair, are_fair, are_together, home-raised, implies, is_fair_hearer, is_fair_message, is_fair_raise, is_fair_wait, is_sent, owner-sent, run-fair, together, together-of}
use Rattle.lpc_isolation.proofs.Each.Enter.{Patient, enter-fair, enter-ours, enter-view, is_patient}
use Rattle.lpc_isolation.proofs.Each.Routes.{Right, context-view, right-row, route-view, routed-inside, routed-out}

-- Who is told
-- the port that is set at a chance, and that stands
pub record IsSet (w : World) (pid : ℕ) (chance : Chance) (h : Hearing) : Type 0 where
  pub birth : Birth
  pub process : ProcessRow
  pub row : first (is_process pid) w.processes ≡ Some process
  pub set : event_port chance process ≡ Some birth
  pub port : port_row w birth ≡ Some h.port
  pub to : route w h.port ≡ Some h.queue

pub hearing-set : (w : World) (pid : ℕ) (chance : Chance) (h : Hearing) → hearing_at w pid chance ≡ Some h → IsSet w pid chance h
hearing-set w pid chance h = by-process (first (is_process pid) w.processes) refl
  where
    by-route : (p : ProcessRow) (b : Birth) (q : PortRow) → first (is_process pid) w.processes ≡ Some p → event_port chance p ≡ Some b → port_row w b ≡ Some q → (o : Option Birth) → route w q ≡ o → option_map (λ queue. let g : Hearing = record { chance = chance; port = q; queue = queue } in g) o ≡ Some h → IsSet w pid chance h
    by-route p b q row set port None to is = absurd (cc)
    by-route p b q row set port (Some queue) to is =
        let g : Hearing = record { chance = chance; port = q; queue = queue } in
        let same : g ≡ h = cc in
        subst (IsSet w pid chance) same (record { birth = b; process = p; row = row; set = set; port = port; to = to })

    by-port : (p : ProcessRow) (b : Birth) → first (is_process pid) w.processes ≡ Some p → event_port chance p ≡ Some b → (o : Option PortRow) → port_row w b ≡ o → option_and_then (heard_on w chance) o ≡ Some h → IsSet w pid chance h
    by-port p b row set None port is = absurd (cc)
    by-port p b row set (Some q) port is = by-route p b q row set port (route w q) refl is

    by-set : (p : ProcessRow) → first (is_process pid) w.processes ≡ Some p → (o : Option Birth) → event_port chance p ≡ o → option_and_then (heard_at w chance) o ≡ Some h → IsSet w pid chance h
    by-set p row None set is = absurd (cc)
    by-set p row (Some b) set is = by-port p b row set (port_row w b) refl is

    by-process : (o : Option ProcessRow) → first (is_process pid) w.processes ≡ o → option_and_then (heard_at w chance) (option_and_then (event_port chance) o) ≡ Some h → IsSet w pid chance h
    by-process None row is = absurd (cc)
    by-process (Some p) row is = by-set p row (event_port chance p) refl is

-- what holds of a process's ports for exceptions holds of the one at a chance
pub set-holds : (f : Birth → Bool) (chance : Chance) (p : ProcessRow) (b : Birth) → event_port chance p ≡ Some b → every f (event_ports_of p) ≡ true → f b ≡ true
set-holds f chance p b = at chance p.debug_port p.exception_port
  where
    one : (o : Option Birth) (bs : List Birth) → o ≡ Some b → every f (listed o ++ bs) ≡ true → f b ≡ true
    one None bs is all = absurd (cc)
    one (Some d) bs is all = let same : d ≡ b = cc in subst (λ b. f b ≡ true) same (first-true _ _ all)

    last : (o : Option Birth) → o ≡ Some b → every f (listed o) ≡ true → f b ≡ true
    last None is all = absurd (cc)
    last (Some d) is all = let same : d ≡ b = cc in subst (λ b. f b ≡ true) same (first-true _ _ all)

    two : (a o : Option Birth) → o ≡ Some b → every f (listed a ++ listed o) ≡ true → f b ≡ true
    two None o is all = last o is all
    two (Some e) o is all = last o is (second-true (f e) _ all)

    at : (c : Chance) (x y : Option Birth) → event_port c (record p { debug_port = x; exception_port = y }) ≡ Some b → every f (listed x ++ listed y) ≡ true → f b ≡ true
    at FirstDebug x y is all = one x (listed y) is all
    at LastDebug x y is all = one x (listed y) is all
    at LastException x y is all = two x y is all

-- of a process's side: the port that is told, and for a member the queue
pub record Told (m : Group) (c : ℕ) (w : World) (pid : ℕ) (h : Hearing) : Type 0 where
  pub side : m h.port.birth.process ≡ m pid
  pub right : Right m c w h.port
  pub to : route w h.port ≡ Some h.queue
  pub inside : m pid ≡ true → m h.queue.process ≡ true

pub told-by : (m : Group) (c : ℕ) (w : World) (pid : ℕ) (chance : Chance) (h : Hearing) → Fair m c w → HasFineRows m c w → HasFineRaisers m w → IsSet w pid chance h → Told m c w pid h
told-by m c w pid chance h f fine raisers s = record {
  side = side;
  right = right;
  to = s.to;
  inside = λ in_m. routed-inside m c w h.port h.queue right (side ∙ in_m) (told-inside in_m) s.to;
}
  where
    birth : h.port.birth ≡ s.birth
    birth = birth-same h.port.birth s.birth (first-passes (is_port s.birth) w.ports h.port s.port)

    number : s.process.number ≡ pid
    number = eqb-true s.process.number pid (first-passes (is_process pid) w.processes s.process s.row)

    hearer : is_fair_hearer m s.process ≡ true
    hearer = every-first (is_fair_hearer m) (is_process pid) w.processes s.process f.hearers s.row

    side : m h.port.birth.process ≡ m pid
    side = ap (λ (b : Birth). m b.process) birth ∙ sym (together m s.process.number s.birth.process (set-holds (λ (b : Birth). are_together m s.process.number b.process) chance s.process s.birth s.set hearer)) ∙ ap m number

    right : Right m c w h.port
    right = right-row m c w h.port f fine (subst (λ b. port_row w b ≡ Some h.port) (sym birth) s.port)

    told-inside : m pid ≡ true → is_told_inside m h.port ≡ true
    told-inside in_m =
        let raiser : (not (m s.process.number) || every (is_fine_event_port m w) (event_ports_of s.process)) ≡ true = every-first (is_fine_raiser m w) (is_process pid) w.processes s.process raisers s.row in
        let own : m s.process.number ≡ true = ap m number ∙ in_m in
        let all : every (is_fine_event_port m w) (event_ports_of s.process) ≡ true = implied (m s.process.number) _ own raiser in
        let here : passes_or_none (port_row w s.birth) (is_told_inside m) ≡ true = set-holds (is_fine_event_port m w) chance s.process s.birth s.set all in
        rw s.port at here
      where
        implied : (a b : Bool) → a ≡ true → (not a || b) ≡ true → b ≡ true
        implied a b one two = grind arith

-- In the view
abbrev pub seen_hearing : Group → Hearing → Hearing
seen_hearing m h = record h { port = seen_port m h.port }

abbrev pub seen_next : Group → Next → Next
seen_next m Handled = Handled
seen_next m (Heard h) = Heard (seen_hearing m h)
seen_next m Unhandled = Unhandled

process-row : (m : Group) (w : World) (pid : ℕ) → m pid ≡ true → first (is_process pid) (view m w).processes ≡ first (is_process pid) w.processes
process-row m w pid in_m = first-inside (our_process m) (is_process pid) (λ p is. ap m (eqb-true p.number pid is) ∙ in_m) w.processes

pub set-view : (m : Group) (w : World) (pid : ℕ) (chance : Chance) → m pid ≡ true → event_port_of (view m w) pid chance ≡ event_port_of w pid chance
set-view m w pid chance in_m = ap (option_and_then (event_port chance)) (process-row m w pid in_m)

pub hearing-view : (m : Group) (c : ℕ) (w : World) (pid : ℕ) (chance : Chance) → m pid ≡ true → Fair m c w → HasFineRows m c w → HasFineRaisers m w → hearing_at (view m w) pid chance ≡ option_map (seen_hearing m) (hearing_at w pid chance)
hearing-view m c w pid chance in_m f fine raisers =
    ap (option_and_then (heard_at (view m w) chance)) (set-view m w pid chance in_m) ∙ by-process (first (is_process pid) w.processes) refl
  where
    by-route : (p : ProcessRow) (b : Birth) (q : PortRow) → first (is_process pid) w.processes ≡ Some p → event_port chance p ≡ Some b → port_row w b ≡ Some q → Right m c w q → m q.birth.process ≡ true → (o : Option Birth) → route w q ≡ o → option_map (λ queue. let g : Hearing = record { chance = chance; port = seen_port m q; queue = queue } in g) (seen_pair m o) ≡ option_map (seen_hearing m) (option_map (λ queue. let g : Hearing = record { chance = chance; port = q; queue = queue } in g) o)
    by-route p b q row set port right own None to = refl
    by-route p b q row set port right own (Some queue) to =
        let h : Hearing = record { chance = chance; port = q; queue = queue } in
        let t : Told m c w pid h = told-by m c w pid chance h f fine raisers (record { birth = b; process = p; row = row; set = set; port = port; to = to }) in
        let q_in : m queue.process ≡ true = t.inside in_m in
        rw q_in refl

    by-port : (p : ProcessRow) (b : Birth) → first (is_process pid) w.processes ≡ Some p → event_port chance p ≡ Some b → m b.process ≡ true → (o : Option PortRow) → port_row w b ≡ o → option_and_then (heard_on (view m w) chance) (option_map (seen_port m) o) ≡ option_map (seen_hearing m) (option_and_then (heard_on w chance) o)
    by-port p b row set b_in None port = refl
    by-port p b row set b_in (Some q) port =
        let birth : q.birth ≡ b = birth-same q.birth b (first-passes (is_port b) w.ports q port) in
        let own : m q.birth.process ≡ true = ap (λ (b : Birth). m b.process) birth ∙ b_in in
        let right : Right m c w q = right-row m c w q f fine (subst (λ b. port_row w b ≡ Some q) (sym birth) port) in
        ap (option_map (λ queue. let g : Hearing = record { chance = chance; port = seen_port m q; queue = queue } in g)) (route-view m c w q f right own)
        ∙ by-route p b q row set port right own (route w q) refl

    by-set : (p : ProcessRow) → first (is_process pid) w.processes ≡ Some p → (o : Option Birth) → event_port chance p ≡ o → option_and_then (heard_at (view m w) chance) o ≡ option_map (seen_hearing m) (option_and_then (heard_at w chance) o)
    by-set p row None set = refl
    by-set p row (Some b) set =
        let number : p.number ≡ pid = eqb-true p.number pid (first-passes (is_process pid) w.processes p row) in
        let hearer : is_fair_hearer m p ≡ true = every-first (is_fair_hearer m) (is_process pid) w.processes p f.hearers row in
        let b_in : m b.process ≡ true = sym (together m p.number b.process (set-holds (λ (b : Birth). are_together m p.number b.process) chance p b set hearer)) ∙ ap m number ∙ in_m in
        ap (option_and_then (heard_on (view m w) chance)) (port-view m w b b_in) ∙ by-port p b row set b_in (port_row w b) refl

    by-process : (o : Option ProcessRow) → first (is_process pid) w.processes ≡ o → option_and_then (heard_at (view m w) chance) (option_and_then (event_port chance) o) ≡ option_map (seen_hearing m) (option_and_then (heard_at w chance) (option_and_then (event_port chance) o))
    by-process None row = refl
    by-process (Some p) row = by-set p row (event_port chance p) refl

or-view : (m : Group) (o p : Option Hearing) (later next : Next) → o ≡ option_map (seen_hearing m) p → later ≡ seen_next m next → heard_or o later ≡ seen_next m (heard_or p next)
or-view m o None later next one two = rw one two
or-view m o (Some h) later next one two = rw one refl

-- what becomes of a member's exception is seen
module _ (m : Group) (c : ℕ) (w : World) (pid : ℕ) (in_m : m pid ≡ true) (f : Fair m c w) (fine : HasFineRows m c w) (raisers : HasFineRaisers m w) where
  exception-view : from_exception (view m w) pid ≡ seen_next m (from_exception w pid)
  exception-view = or-view m _ _ Unhandled Unhandled (hearing-view m c w pid LastException in_m f fine raisers) refl

  last-view : from_last (view m w) pid ≡ seen_next m (from_last w pid)
  last-view = or-view m _ _ _ _ (hearing-view m c w pid LastDebug in_m f fine raisers) exception-view

  frames-view : (handled : Bool) → from_frames (view m w) pid handled ≡ seen_next m (from_frames w pid handled)
  frames-view true = refl
  frames-view false = last-view

  pub first-view : (handled : Bool) → from_first (view m w) pid handled ≡ seen_next m (from_first w pid handled)
  first-view handled = or-view m _ _ _ _ (hearing-view m c w pid FirstDebug in_m f fine raisers) (frames-view handled)

  pub behind-view : (handled : Bool) (chance : Chance) → behind_chance (view m w) pid handled chance ≡ seen_next m (behind_chance w pid handled chance)
  behind-view handled FirstDebug = frames-view handled
  behind-view handled LastDebug = exception-view
  behind-view handled LastException = refl

-- What is sent
-- a thread that sends its event
pub record Sender (m : Group) (c : ℕ) (u w : World) (t : ThreadRow) : Type 0 where
  pub c_in : m c ≡ true
  pub fair : Fair m c w
  pub patient : Patient w
  pub owned : Owned u w
  pub here : owner u t.number ≡ Some t.process
  pub own : owner w t.number ≡ Some t.process
  pub unmarked : has (is_mark t.number) w.marks ≡ false

abbrev pub event_row : ThreadRow → ℕ → Hearing → MessageRow
event_row t code h = row_of h.queue h.port (event_message (client_of t) t.next_identifier code h.chance)

event-wait-fair : (m : Group) (c : ℕ) (w : World) (t : ThreadRow) (code : ℕ) (handled : Bool) (h : Hearing) → m c ≡ true → Told m c w t.process h → is_fair_wait m c (event_wait t code handled h) ≡ true
event-wait-fair m c w t code handled h c_in told =
    and_from _ _ (home-raised m (event_wait t code handled h) refl told.side)
    (and_from _ _ refl (and_from _ _ (at (m t.process) refl) (and_from _ _ (mine (t.process == c) refl) refl)))
  where
    at : (b : Bool) → m t.process ≡ b → implies (h.queue.process == c) b ≡ true
    at true is = grind arith
    at false out = rw (routed-out m c w h.port h.queue told.right c_in (told.side ∙ out) told.to) refl

    mine : (b : Bool) → (t.process == c) ≡ b → implies b (m h.queue.process) ≡ true
    mine true is = told.inside (ap m (eqb-true t.process c is) ∙ c_in)
    mine false other = refl

event-raise-fair : (m : Group) (c : ℕ) (w : World) (t : ThreadRow) (code : ℕ) (handled : Bool) (h : Hearing) → Told m c w t.process h → is_fair_raise m (event_wait t code handled h) ≡ true
event-raise-fair m c w t code handled h told = at (m t.process) refl
  where
    at : (b : Bool) → m t.process ≡ b → implies b (m h.queue.process) ≡ true
    at true is = told.inside is
    at false out = refl

pub event-row-fair : (m : Group) (c : ℕ) (w : World) (t : ThreadRow) (code : ℕ) (h : Hearing) → m c ≡ true → owner w t.number ≡ Some t.process → Told m c w t.process h → (is_fair_message m c (event_row t code h) && is_sent w.used_threads (event_row t code h)) ≡ true
event-row-fair m c w t code h c_in own told =
    and_from _ _ (and_from _ _ (together-of m t.process h.port.birth.process (sym told.side)) (and_from _ _ (at (m h.port.birth.process) refl) (mine (h.port.birth.process == c) refl))) (owner-sent w (event_row t code h) t.process own refl)
  where
    at : (b : Bool) → m h.port.birth.process ≡ b → implies (h.queue.process == c) b ≡ true
    at true is = grind arith
    at false out = rw (routed-out m c w h.port h.queue told.right c_in out told.to) refl

    mine : (b : Bool) → (h.port.birth.process == c) ≡ b → implies b (m h.queue.process) ≡ true
    mine true is = told.inside (sym told.side ∙ ap m (eqb-true h.port.birth.process c is) ∙ c_in)
    mine false other = refl

pub begun-fair : (m : Group) (c : ℕ) (w : World) (t : ThreadRow) (code : ℕ) (handled : Bool) (h : Hearing) → m c ≡ true → Told m c w t.process h → are_fair m c w (event_begun t code handled h) ≡ true
begun-fair m c w t code handled h c_in told = rw (event-wait-fair m c w t code handled h c_in told, event-raise-fair m c w t code handled h told) refl

pub send-fair : (m : Group) (c : ℕ) (u w : World) (t : ThreadRow) (code : ℕ) (handled : Bool) (h : Hearing) → Sender m c u w t → Told m c w t.process h → are_fair m c w (send_event t code handled h w) ≡ true
send-fair m c u w t code handled h k told =
    rw (event-wait-fair m c w t code handled h k.c_in told, event-raise-fair m c w t code handled h told) (enter-fair m c (world_after w (event_begun t code handled h)) (event_row t code h) (event-row-fair m c w t code h k.c_in k.own told))

-- what its start leaves
pub record Begun (m : Group) (c : ℕ) (u w : World) : Type 0 where
  pub fair : Fair m c w
  pub patient : Patient w
  pub owned : Owned u w

pub begun : (m : Group) (c : ℕ) (u w : World) (t : ThreadRow) (code : ℕ) (handled : Bool) (h : Hearing) → Sender m c u w t → Told m c w t.process h → Begun m c u (world_after w (event_begun t code handled h))
begun m c u w t code handled h k told = record {
  fair = run-fair m c w (event_begun t code handled h) (begun-fair m c w t code handled h k.c_in told) k.fair;
  patient = every-push (is_patient w) w.waits (event_wait t code handled h) k.patient refl;
  owned = every-push (is_owned u) w.waits (event_wait t code handled h) k.owned (rw k.here (same-number t.process));
}

pub send-apart : (m : Group) (c : ℕ) (u : World) (d : Whose) (w : World) (t : ThreadRow) (code : ℕ) (handled : Bool) (h : Hearing) → Sender m c u w t → Told m c w t.process h → m t.process ≡ false → are_apart m c u d w (send_event t code handled h w) ≡ true
send-apart m c u d w t code handled h k told out =
    let v : World = world_after w (event_begun t code handled h) in
    let s : Begun m c u v = begun m c u w t code handled h k told in
    let p_out : m h.port.birth.process ≡ false = told.side ∙ out in
    rw (unseen-thread m c w t.number t.process k.fair k.own out, out, k.unmarked)
    (enter-apart m c u d v (event_row t code h) (rw p_out refl) (routed-out m c w h.port h.queue told.right k.c_in p_out told.to)
    (unseen-at m v t.number h.queue (unseen-wait m u v t.number t.process s.owned k.here out)) s.owned s.fair s.patient)

begun-ours : (m : Group) (c : ℕ) (u w : World) (t : ThreadRow) (code : ℕ) (handled : Bool) (h : Hearing) → Sender m c u w t → Told m c w t.process h → m t.process ≡ true → are_ours m w (event_begun t code handled h) ≡ true
begun-ours m c u w t code handled h k told is = rw (is, told.inside is, k.unmarked) refl

pub send-ours : (m : Group) (c : ℕ) (u w : World) (t : ThreadRow) (code : ℕ) (handled : Bool) (h : Hearing) → Sender m c u w t → Told m c w t.process h → m t.process ≡ true → are_ours m w (send_event t code handled h w) ≡ true
send-ours m c u w t code handled h k told is =
    let v : World = world_after w (event_begun t code handled h) in
    let s : Begun m c u v = begun m c u w t code handled h k told in
    ours-append m w (event_begun t code handled h) (enter (event_row t code h) v) (begun-ours m c u w t code handled h k told is) (enter-ours m v (event_row t code h) (and_from _ _ (told.side ∙ is) (told.inside is)) s.patient)

-- the same steps in the view
pub send-view : (m : Group) (c : ℕ) (u w : World) (t : ThreadRow) (code : ℕ) (handled : Bool) (h : Hearing) → Sender m c u w t → Told m c w t.process h → m t.process ≡ true → send_event t code handled (seen_hearing m h) (view m w) ≡ send_event t code handled h w
send-view m c u w t code handled h k told is =
    let bs : List Basic = event_begun t code handled h in
    let s : Begun m c u (world_after w bs) = begun m c u w t code handled h k told in
    ap (λ context. bs ++ enter (record { queue = h.queue; sender = h.port.birth; context = context; message = event_message (client_of t) t.next_identifier code h.chance }) (world_after (view m w) bs)) (context-view m c w h.port told.right (told.side ∙ is))
    ∙ ap (λ v. bs ++ enter (event_row t code h) v) (sym (run-ours m w bs (begun-ours m c u w t code handled h k told is)))
    ∙ ap (λ es. bs ++ es) (enter-view m c (world_after w bs) (event_row t code h) s.fair (told.inside is))

-- of a call
pub raiser : (m : Group) (c : ℕ) (u w : World) (by : ThreadRow) → Caller m c u w by → Sender m c u w by
raiser m c u w by k = record { c_in = k.c_in; fair = k.fair; patient = k.patient; owned = k.owned; here = k.here; own = k.own; unmarked = rw k.unmarked refl }

pub raised : (m : Group) (c : ℕ) (u w : World) (by : ThreadRow) (h : Hearing) → Caller m c u w by → IsHearing w by.process h → Told m c w by.process h
raised m c u w by h k is = told-by m c w by.process is.chance h k.fair k.fine k.raisers (hearing-set w by.process is.chance h is.found)

-- an event asks
pub event-sort : (t : ThreadRow) (code : ℕ) (h : Hearing) → is_sort (event_row t code h) ≡ true
event-sort t code h = at h.chance
  where
    at : (c : Chance) → is_sort (row_of h.queue h.port (event_message (client_of t) t.next_identifier code c)) ≡ true
    at FirstDebug = refl
    at LastDebug = refl
    at LastException = refl

-- where rows have gone, the port stands
pub hearer-live : (k : Alive) (u : World) (pid : ℕ) (chance : Chance) (h : Hearing) → Closed k u → IsSet u pid chance h → k.ports h.port.birth ≡ true
hearer-live k u pid chance h c s =
    let birth : h.port.birth ≡ s.birth = birth-same h.port.birth s.birth (first-passes (is_port s.birth) u.ports h.port s.port) in
    ap k.ports birth ∙ set-holds k.ports chance s.process s.birth s.set (every-first (hearer_closed k) (is_process pid) u.processes s.process c.events s.row)
