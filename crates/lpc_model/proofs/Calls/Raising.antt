-- What hears of an exception, and what a marked event comes to: each is taken apart here and nowhere else.
use Rattle.lpc_base.specs.Rows.{given}
use Rattle.lpc_model.proofs.Calls.Usable.{HasRoute, port-birth, routed}
use Rattle.lpc_model.specs.Basics.{Basic, SetsDebug, SetsException}
use Rattle.lpc_model.specs.Found.{is_open, live_thread, port_row, route, wait_of, way}
use Rattle.lpc_model.specs.Raise.{Handled, Heard, Hearing, Next, Unhandled, behind_chance, event_port_of, from_exception, from_first, from_frames, from_last, go_on, goes_on, heard_at, heard_on, heard_or, hearing_at, raised_in, DEBUG_CLASS, set_port_steps, set_told}
use Rattle.lpc_model.specs.World.{Birth, Chance, FirstDebug, LastDebug, LastException, PortRow, Raised, ThreadRow, WaitRow, World}
use Rattle.std.proofs.Common.{Bool, List, None, Option, Some, [], cond, false, refl, subst, sym, true, ℕ, ◌≡◌, ◌∷◌}
use Rattle.std.specs.Prelude.{option_and_then, option_map, if◌then◌else◌, ◌==◌}

-- What hears of an event
-- what holds where an event is sent
abbrev pub WhereHeard : (Hearing → Type 0) → Next → Type 0
WhereHeard P Handled = Unit {0}
WhereHeard P (Heard h) = P h
WhereHeard P Unhandled = Unit {0}

module _ (P : Hearing → Type 0) (w : World) (pid : ℕ) where
  or-holds : (o : Option Hearing) (later : Next) → ((h : Hearing) → o ≡ Some h → P h) → WhereHeard P later → WhereHeard P (heard_or o later)
  or-holds None later one two = two
  or-holds (Some h) later one two = one h refl

  exception-holds : ((h : Hearing) → hearing_at w pid LastException ≡ Some h → P h) → WhereHeard P (from_exception w pid)
  exception-holds one = or-holds (hearing_at w pid LastException) Unhandled one tt

  last-holds : ((h : Hearing) → hearing_at w pid LastDebug ≡ Some h → P h) → ((h : Hearing) → hearing_at w pid LastException ≡ Some h → P h) → WhereHeard P (from_last w pid)
  last-holds two one = or-holds (hearing_at w pid LastDebug) (from_exception w pid) two (exception-holds one)

  frames-holds : (handled : Bool) → ((h : Hearing) → hearing_at w pid LastDebug ≡ Some h → P h) → ((h : Hearing) → hearing_at w pid LastException ≡ Some h → P h) → WhereHeard P (from_frames w pid handled)
  frames-holds true two one = tt
  frames-holds false two one = last-holds two one

  -- from the first chance on, and behind each
  pub first-holds : (handled : Bool) → ((c : Chance) (h : Hearing) → hearing_at w pid c ≡ Some h → P h) → WhereHeard P (from_first w pid handled)
  first-holds handled all = or-holds (hearing_at w pid FirstDebug) (from_frames w pid handled) (all FirstDebug) (frames-holds handled (all LastDebug) (all LastException))

  pub behind-holds : (handled : Bool) (chance : Chance) → ((h : Hearing) → chance ≡ FirstDebug → hearing_at w pid LastDebug ≡ Some h → P h) → ((h : Hearing) → chance ≡ FirstDebug → hearing_at w pid LastException ≡ Some h → P h) → ((h : Hearing) → chance ≡ LastDebug → hearing_at w pid LastException ≡ Some h → P h) → WhereHeard P (behind_chance w pid handled chance)
  behind-holds handled FirstDebug one two three = frames-holds handled (λ h is. one h refl is) (λ h is. two h refl is)
  behind-holds handled LastDebug one two three = exception-holds (λ h is. three h refl is)
  behind-holds handled LastException one two three = tt

-- an event is sent at some chance of a process's exception
pub record IsHearing (w : World) (pid : ℕ) (h : Hearing) : Type 0 where
  pub chance : Chance
  pub found : hearing_at w pid chance ≡ Some h

-- its port has a route
open-routed : (w : World) (b : Birth) (q : PortRow) (queue : Birth) → port_row w b ≡ Some q → route w q ≡ Some queue → HasRoute w q queue
open-routed w b q queue at is = routed w q queue (record { stands = subst (λ c. port_row w c ≡ Some q) (sym (port-birth w b q at)) at; opens = opens (is_open w q.birth) refl is }) is
  where
    opens : (o : Bool) → is_open w q.birth ≡ o → cond o (way w q) None ≡ Some queue → o ≡ true
    opens true is one = refl
    opens false is one = absurd (cc)

-- the port stands that hears of an event
own-row : (w : World) (b : Birth) (q : PortRow) → port_row w b ≡ Some q → port_row w q.birth ≡ Some q
own-row w b q at = subst (λ c. port_row w c ≡ Some q) (sym (port-birth w b q at)) at

open-way : (o : Bool) (v : Option Birth) (queue : Birth) → cond o v None ≡ Some queue → v ≡ Some queue
open-way true v queue is = is
open-way false v queue is = absurd (cc)

pub record IsHeard (w : World) (chance : Chance) (h : Hearing) : Type 0 where
  pub route : HasRoute w h.port h.queue
  pub stands : port_row w h.port.birth ≡ Some h.port
  pub way : way w h.port ≡ Some h.queue
  pub own_chance : h.chance ≡ chance

pub heard-routed : (w : World) (pid : ℕ) (chance : Chance) (h : Hearing) → hearing_at w pid chance ≡ Some h → IsHeard w chance h
heard-routed w pid chance h = set (event_port_of w pid chance)
  where
    ways : (b : Birth) (q : PortRow) → port_row w b ≡ Some q → (o : Option Birth) → route w q ≡ o → option_map (λ queue. let g : Hearing = record { chance = chance; port = q; queue = queue } in g) o ≡ Some h → IsHeard w chance h
    ways b q at None none is = absurd (cc)
    ways b q at (Some queue) some is =
        let g : Hearing = record { chance = chance; port = q; queue = queue } in
        let same : g ≡ h = cc in subst (IsHeard w chance) same (record { route = open-routed w b q queue at some; stands = own-row w b q at; way = open-way (is_open w q.birth) (way w q) queue some; own_chance = refl })

    found : (b : Birth) (o : Option PortRow) → port_row w b ≡ o → option_and_then (heard_on w chance) o ≡ Some h → IsHeard w chance h
    found b None none is = absurd (cc)
    found b (Some q) some is = ways b q some (route w q) refl is

    set : (o : Option Birth) → option_and_then (heard_at w chance) o ≡ Some h → IsHeard w chance h
    set None is = absurd (cc)
    set (Some b) is = found b (port_row w b) refl is

-- a process that gets its debug port or its exception port
pub set-passes : (P : List Basic → Type 0) (by : ThreadRow) (class pid : ℕ) (b : Birth) → P (set_told by ∷ SetsDebug pid b ∷ []) → P (set_told by ∷ SetsException pid b ∷ []) → P (set_port_steps by class pid b)
set-passes P by class pid b one two = at (class == DEBUG_CLASS)
  where
    at : (debug : Bool) → P (set_told by ∷ (if debug then SetsDebug pid b else SetsException pid b) ∷ [])
    at true = one
    at false = two

-- Going on
-- what is found of a marked event
pub record GoesOn (w : World) (tid : ℕ) (t : ThreadRow) (x : WaitRow) (r : Raised) : Type 0 where
  pub lives : live_thread w tid ≡ Some t
  pub waits : wait_of w tid ≡ Some x
  pub raised : raised_in x ≡ Some r

-- what holds of each of the three ways holds of all that a marked event comes to
pub on-holds : (P : List Basic → Type 0) (w : World) (tid : ℕ) → P [] → ((t : ThreadRow) (x : WaitRow) (r : Raised) → GoesOn w tid t x r → P (goes_on t x r (behind_chance w x.process r.handled r.chance) w)) → P (go_on tid w)
unfolding go_on
on-holds P w tid none some = at (live_thread w tid) refl
  where
    kinds : (t : ThreadRow) (x : WaitRow) → live_thread w tid ≡ Some t → wait_of w tid ≡ Some x → (o : Option Raised) → raised_in x ≡ o → P (given o (λ r. goes_on t x r (behind_chance w x.process r.handled r.chance) w))
    kinds t x lives waits None is = none
    kinds t x lives waits (Some r) is = some t x r (record { lives = lives; waits = waits; raised = is })

    waiting : (t : ThreadRow) → live_thread w tid ≡ Some t → (o : Option WaitRow) → wait_of w tid ≡ o → P (given o (λ x. given (raised_in x) (λ r. goes_on t x r (behind_chance w x.process r.handled r.chance) w)))
    waiting t lives None is = none
    waiting t lives (Some x) is = kinds t x lives is (raised_in x) refl

    at : (o : Option ThreadRow) → live_thread w tid ≡ o → P (given o (λ t. given (wait_of w tid) (λ x. given (raised_in x) (λ r. goes_on t x r (behind_chance w x.process r.handled r.chance) w))))
    at None is = none
    at (Some t) is = waiting t is (wait_of w tid) refl
