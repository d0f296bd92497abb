-- What NtClose tells is right: connects end by the closing of the port that they are to, or of an end of their
-- connection.
use Rattle.std.proofs.Common.{All, Bool, List, [], arith, false, inl, refl, suc, true, ℕ, ◌++◌, ◌∙◌, ◌∷◌, ◌≡◌, ◌≤◌}
use Rattle.std.specs.List.{AllByRecursion}
use Rattle.std.specs.Prelude.{Contains, Ok, Some, ◌&&◌, ◌||◌}
use Rattle.std.proofs.lemmas.List.Elements.{All-contains_itself}
use Rattle.lpc_base.specs.Rows.{count, when}
use Rattle.lpc_base.specs.declared.status.TheConstants.{INVALID_HANDLE, PORT_CONNECTION_REFUSED}
use Rattle.lpc_model.specs.Basics.{DropsHandle, basic}
use Rattle.lpc_model.specs.Close.{close_handle, close_port, is_accepted_across, is_across, is_last, is_offered_to, nt_close}
use Rattle.lpc_model.specs.Closings.{shuts}
use Rattle.lpc_model.specs.Fields.{info}
use Rattle.lpc_base.specs.declared.birth.Birth.{Birth}
use Rattle.lpc_model.specs.Found.{handle_at, is_accepted, is_connect, is_made_on, is_offered, is_table, live_thread, same_birth}
use Rattle.lpc_model.specs.Lines.{ScriptLine, close, run}
use Rattle.lpc_model.specs.Tests.{own_handle}
use Rattle.lpc_model.specs.World.{HandleRow, ThreadRow, WaitRow, World}
use Rattle.lpc_model.proofs.Calls.Holding.{Holds, bind_holds, found_ok}
use Rattle.lpc_model.proofs.Sound.Close.{found-value, last-shuts}
use Rattle.lpc_replay.specs.Connects.{IsAnsweredBy, IsClosedBy}
use Rattle.lpc_replay.proofs.Fair.{AreFair, HasItsCall, HaveTheirCalls, IsFair, connect_wakes}
use Rattle.lpc_replay.proofs.FairClosing.{HasRefusal, Knows, port_on}
use Rattle.lpc_replay.proofs.Holding.{all_append}

-- a wait of a world, in its call
abbrev pub IsKnown : World → WaitRow → Type 0
IsKnown w x = HasItsCall x × Contains w.waits x

pub known_call : (w : World) (x : WaitRow) → IsKnown w x → HasItsCall x
known_call w x k = k.0

from_all : {A : Type 0} (P : A → Type 0) (xs : List A) → All P xs → AllByRecursion P xs
from_all P [] all = tt
from_all P (x ∷ xs) all = (all 0 x (omega arith), from_all P xs (λ k d below. all (suc k) d (omega (arith, below))))

pub contained : {A : Type 0} (xs : List A) → AllByRecursion (Contains xs) xs
contained xs = from_all (Contains xs) xs (All-contains_itself xs)

pub knows_first : (w : World) → HaveTheirCalls w → Knows (IsKnown w) w w
knows_first w h = record { waits = both w.waits h (contained w.waits); pairs = λ q b is. is }
  where
    both : (xs : List WaitRow) → AllByRecursion HasItsCall xs → AllByRecursion (Contains w.waits) xs → AllByRecursion (IsKnown w) xs
    both [] a c = tt
    both (x ∷ xs) a c = ((a.0, c.0), both xs a.1 c.1)

-- a connect that a line's closing ends so has its answer
pub refusal_right : (w : World) (line : ScriptLine) (x : WaitRow) → is_connect x ≡ true → HasItsCall x → IsAnsweredBy w line x.thread PORT_CONNECTION_REFUSED (info [] ∷ []) → HasRefusal w line x
refusal_right w line x is call answered = connect_wakes w line x PORT_CONNECTION_REFUSED (info [] ∷ []) is call answered

-- what ends where a port is closed, to which it is or of which it is an end, is a connect
pub connect_ends : (w : World) (b : Birth) (x : WaitRow) → (is_offered_to b x || is_accepted_across b w x) ≡ true → is_connect x ≡ true
connect_ends w b x is = parts (is_offered x) (same_birth x.queue b) (is_accepted x) (is_made_on b x || is_across w b x) is
  where
    parts : (o s a m : Bool) → ((o && s) || (a && m)) ≡ true → (o || a) ≡ true
    parts o s a m is = grind arith

module _ (w : World) (tid : ℕ) (by : ThreadRow) (handle : ℕ) (r : HandleRow) (live : live_thread w tid ≡ Some by)
    (names : own_handle w by handle ≡ Ok r) (last : shuts w (basic w (DropsHandle by.process r.value)) r ≡ true) where
  connect_right : (x : WaitRow) → IsKnown w x → (is_offered_to r.object.birth x || is_accepted_across r.object.birth w x) ≡ true → HasRefusal w (run tid (close handle)) x
  connect_right x k is =
      let closed : IsClosedBy w tid handle x.thread PORT_CONNECTION_REFUSED (info [] ∷ []) = record {
        caller = by;
        row = r;
        wait = x;
        calls = live;
        names = names;
        last = last;
        waits = k.1;
        ends = is;
        its_wait = refl;
        refuses = refl;
        shows = refl;
      } in
      refusal_right w (run tid (close handle)) x (connect_ends w r.object.birth x is) k.0 (inl closed)

  port_fair : HaveTheirCalls w → AreFair w (run tid (close handle)) (close_port r.object.birth w)
  port_fair h =
      port_on w (run tid (close handle)) w (IsKnown w) (known_call w) r.object.birth
      (λ x k is. connect_right x k (grind (arith, is)))
      (λ x k is. connect_right x k (grind (arith, is))) w (knows_first w h)

handle_fair : (w : World) (tid : ℕ) (by : ThreadRow) (handle : ℕ) (r : HandleRow) → count (is_table by.process) w.handles ≤ 1 → live_thread w tid ≡ Some by → own_handle w by handle ≡ Ok r → HaveTheirCalls w → AreFair w (run tid (close handle)) (close_handle by.process r w)
handle_fair w tid by handle r one live names h = at (is_last r w) refl
  where
    shuts_with : shuts w (basic w (DropsHandle by.process r.value)) r ≡ is_last r w
    shuts_with = last-shuts w by.process r one (found-value w by.process handle r (found_ok (handle_at w by.process handle) INVALID_HANDLE r names))

    at : (last : Bool) → is_last r w ≡ last → AreFair w (run tid (close handle)) (when last (close_port r.object.birth w) ++ DropsHandle by.process r.value ∷ [])
    at true last = all_append (IsFair w (run tid (close handle))) (close_port r.object.birth w) (DropsHandle by.process r.value ∷ []) (port_fair w tid by handle r live names (shuts_with ∙ last) h) (tt, tt)
    at false last = (tt, tt)

pub close_fair : (w : World) (tid : ℕ) (by : ThreadRow) (handle : ℕ) → count (is_table by.process) w.handles ≤ 1 → live_thread w tid ≡ Some by → HaveTheirCalls w → Holds (AreFair w (run tid (close handle))) (nt_close w by handle)
unfolding nt_close
close_fair w tid by handle one live h =
    bind_holds (own_handle w by handle) _ (AreFair w (run tid (close handle))) (λ r at. ((tt, tt), handle_fair w tid by handle r one live at h))
