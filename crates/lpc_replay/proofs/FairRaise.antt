-- What raise and NtSetInformationProcess tell is right: an exception is handled at once only where its line says so.
use Rattle.std.proofs.Common.{Bool, false, refl, true, ℕ, ◌≡◌}
use Rattle.std.specs.Prelude.{None, Option, Some}
use Rattle.lpc_model.specs.Basics.{world_after}
use Rattle.lpc_model.specs.Entering.{enter, row_of}
use Rattle.lpc_model.specs.Found.{live_thread}
use Rattle.lpc_model.specs.Lines.{ScriptLine, raise, run}
use Rattle.lpc_model.specs.Raise.{Handled, Heard, Hearing, Next, Unhandled, behind_chance, class_test, event_begun, event_message, from_exception, from_first, from_frames, from_last, hearing_at, heard_or, nt_set_information_process, raise_exception, raise_steps, send_event, unset_test}
use Rattle.lpc_model.specs.Targets.{process_target}
use Rattle.lpc_model.specs.Tests.{client_of, live_test, port_test}
use Rattle.lpc_model.specs.World.{Chance, FirstDebug, LastDebug, LastException, ThreadRow, World}
use Rattle.lpc_model.specs.declared.line.ProcArg.{ProcArg}
use Rattle.lpc_model.proofs.Calls.Holding.{Holds, bind_holds}
use Rattle.lpc_model.proofs.Calls.Raising.{set-passes}
use Rattle.lpc_model.proofs.Calls.Usable.{live-number}
use Rattle.lpc_replay.specs.Raises.{IsHandledAtOnce}
use Rattle.lpc_replay.proofs.Fair.{AreFair, HaveTheirCalls, IsFair, enter_fair, fair_keep}
use Rattle.lpc_replay.proofs.Holding.{all_append}

-- of NtSetInformationProcess
pub set_process_fair : (w : World) (line : ScriptLine) (by : ThreadRow) (target : ProcArg) (class handle : ℕ) → Holds (AreFair w line) (nt_set_information_process w by target class handle)
unfolding nt_set_information_process
set_process_fair w line by target class handle =
    let P = AreFair w line in
    bind_holds (process_target w by target) _ P (λ pid _.
    bind_holds (port_test w by handle) _ P (λ port _.
    bind_holds (live_test w pid) _ P (λ _ _.
    bind_holds (class_test class) _ P (λ _ _.
    bind_holds (unset_test w pid class) _ P (λ _ _. set-passes P by class pid port.birth ((tt, tt), (tt, tt)) ((tt, tt), (tt, tt)))))))

-- the event of an exception is sent, and its thread waits
pub event_fair : (o : World) (line : ScriptLine) (t : ThreadRow) (code : ℕ) (handled : Bool) (h : Hearing) (v : World) → HaveTheirCalls v → AreFair o line (send_event t code handled h v)
event_fair o line t code handled h v calls =
    let begun = event_begun t code handled h in
    let row = row_of h.queue h.port (event_message (client_of t) t.next_identifier code h.chance) in
    let fair : AreFair o line begun = (tt, (refl, tt)) in
    all_append (IsFair o line) begun (enter row (world_after v begun)) fair (enter_fair o line row (world_after v begun) (fair_keep o line v begun fair calls))

-- Frame handlers
-- no later chance is that of the frame handlers
never_later : (o : Option Hearing) (later : Next) → (later ≡ Handled → ⊥) → heard_or o later ≡ Handled → ⊥
never_later None later none is = none is
never_later (Some h) later none is = absurd (cc)

never_exception : (w : World) (pid : ℕ) → from_exception w pid ≡ Handled → ⊥
never_exception w pid = never_later (hearing_at w pid LastException) Unhandled (λ is. absurd (cc))

never_last : (w : World) (pid : ℕ) → from_last w pid ≡ Handled → ⊥
never_last w pid = never_later (hearing_at w pid LastDebug) (from_exception w pid) (never_exception w pid)

frames_word : (w : World) (pid : ℕ) (handled : Bool) → from_frames w pid handled ≡ Handled → handled ≡ true
frames_word w pid true is = refl
frames_word w pid false is = absurd (never_last w pid is)

first_word : (w : World) (pid : ℕ) (handled : Bool) → from_first w pid handled ≡ Handled → handled ≡ true
first_word w pid handled = at (hearing_at w pid FirstDebug)
  where
    at : (o : Option Hearing) → heard_or o (from_frames w pid handled) ≡ Handled → handled ≡ true
    at None is = frames_word w pid handled is
    at (Some h) is = absurd (cc)

-- an event that goes on is handled so only behind the first chance
pub behind_word : (w : World) (pid : ℕ) (handled : Bool) (chance : Chance) → behind_chance w pid handled chance ≡ Handled → (chance ≡ FirstDebug) × (handled ≡ true)
behind_word w pid handled FirstDebug is = (refl, frames_word w pid handled is)
behind_word w pid handled LastDebug is = absurd (never_exception w pid is)
behind_word w pid handled LastException is = absurd (cc)

pub raise_fair : (w : World) (tid : ℕ) (by : ThreadRow) (code : ℕ) (handled : Bool) → live_thread w tid ≡ Some by → HaveTheirCalls w → Holds (AreFair w (run tid (raise code handled))) (raise_exception w by code handled)
unfolding raise_exception
raise_fair w tid by code handled live h = at (from_first w by.process handled) refl
  where
    own : by.number ≡ tid
    own = live-number w tid by live

    at : (n : Next) → from_first w by.process handled ≡ n → AreFair w (run tid (raise code handled)) (raise_steps by code handled n w)
    at Handled is =
        let word = first_word w by.process handled is in
        let once : IsHandledAtOnce (run tid (raise code handled)) by.number = record { code = code; raises = rw (own, word) refl } in
        ((tt, (refl, once)), tt)
    at (Heard heard) is = ((tt, tt), event_fair w (run tid (raise code handled)) by code handled heard w h)
    at Unhandled is = (tt, tt)
