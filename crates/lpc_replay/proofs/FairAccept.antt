-- What NtAcceptConnectPort tells is right: a connect that is refused wakes by the answer that names it.
use Rattle.std.proofs.Common.{Bool, List, [], false, inl, refl, true, ℕ, ◌∷◌, ◌≡◌}
use Rattle.std.specs.Prelude.{Ok, Option, Some}
use Rattle.lpc_base.specs.declared.status.TheConstants.{PORT_CONNECTION_REFUSED}
use Rattle.lpc_model.specs.Connect.{ConnectAnswer, accept_start, accept_steps, accepted_view, answer_test, answered_steps, names_connect, nt_accept_connect_port, refuse_steps}
use Rattle.lpc_model.specs.Fields.{info}
use Rattle.lpc_base.proofs.RowWords.{first-passes}
use Rattle.lpc_base.specs.Rows.{first}
use Rattle.std.proofs.lemmas.Bool.{or_left}
use Rattle.lpc_model.specs.Found.{free_handle, is_accepted, is_offered, live_thread}
use Rattle.lpc_model.specs.Lines.{ScriptLine, accept_connect_port, run}
use Rattle.lpc_model.specs.Offers.{SharedViews, Wanted, if_given, mapped, offer_test, server_views, shared_steps, shared_test, wanted_test}
use Rattle.lpc_model.specs.Tests.{handles_test}
use Rattle.lpc_model.specs.World.{ThreadRow, WaitRow, World}
use Rattle.lpc_model.specs.declared.entry.Entry.TheVariants as entry
use Rattle.lpc_model.specs.declared.line.ViewWord.{ViewWord}
use Rattle.lpc_model.proofs.Calls.Holding.{Holds, bind_holds, holds_ok}
use Rattle.lpc_model.proofs.Calls.Tested.{named-wait}
use Rattle.lpc_model.proofs.Sound.Connect.{names-offered}
use Rattle.lpc_replay.specs.Connects.{IsRefusedBy}
use Rattle.lpc_replay.proofs.Fair.{AreFair, HasItsCall, HaveTheirCalls, IsFair, IsRight, connect_wakes, mapped_fair}
use Rattle.lpc_replay.proofs.Holding.{all_append, find_all}

-- a connect that is refused wakes without success, by the answer that names it
refuse_fair : (w : World) (tid : ℕ) (by : ThreadRow) (context : ℕ) (bytes : List ℕ) (view : Option ViewWord) (a : ConnectAnswer) → HaveTheirCalls w → live_thread w tid ≡ Some by → answer_test w by bytes ≡ Ok a → AreFair w (run tid (accept_connect_port context bytes false view)) (refuse_steps by a)
refuse_fair w tid by context bytes view a h live at =
    let line = run tid (accept_connect_port context bytes false view) in
    let fields = info a.message.body ∷ [] in
    let answered : IsRefusedBy w tid bytes a.wait.thread PORT_CONNECTION_REFUSED fields = record { caller = by; found = a; calls = live; names = at; its_wait = refl; refuses = refl; shows = refl } in
    let end : IsRight w line (entry.Wakes a.wait.thread a.wait.call PORT_CONNECTION_REFUSED fields) = connect_wakes w line a.wait PORT_CONNECTION_REFUSED fields (or_left (is_offered a.wait) (is_accepted a.wait) offered) (find_all HasItsCall (names_connect w by a.message) w.waits a.wait h found) (inl answered) in
    ((tt, tt), (end, (tt, tt)))
  where
    found : first (names_connect w by a.message) w.waits ≡ Some a.wait
    found = holds_ok (λ (a : ConnectAnswer). first (names_connect w by a.message) w.waits ≡ Some a.wait) (answer_test w by bytes) a (named-wait w by bytes) at

    offered : is_offered a.wait ≡ true
    offered = names-offered w by a.message a.wait (first-passes (names_connect w by a.message) w.waits a.wait found)

-- the views of a connection tell nothing
shared_fair : (w : World) (line : ScriptLine) (by : ThreadRow) (x : WaitRow) (views : SharedViews) → AreFair w line (shared_steps by x views)
shared_fair w line by x views =
    all_append (IsFair w line) (server_views by views.own views.theirs) (mapped x.process views.across)
    (all_append (IsFair w line) (mapped by.process views.own) (mapped by.process views.theirs) (mapped_fair w line by.process views.own) (mapped_fair w line by.process views.theirs))
    (mapped_fair w line x.process views.across)

joined_fair : (w : World) (line : ScriptLine) (by : ThreadRow) (context value : ℕ) (a : ConnectAnswer) (views : SharedViews) → AreFair w line (accept_steps by context value a views)
joined_fair w line by context value a views =
    all_append (IsFair w line) (accept_start by context value a views) (shared_steps by a.wait views) ((tt, tt), (tt, (tt, (tt, (tt, (tt, tt))))))
    (shared_fair w line by a.wait views)

-- and one that is accepted waits on
answer_fair : (w : World) (tid : ℕ) (by : ThreadRow) (context : ℕ) (bytes : List ℕ) (accept : Bool) (view : Option ViewWord) (wanted : Option Wanted) (a : ConnectAnswer) → HaveTheirCalls w → live_thread w tid ≡ Some by → answer_test w by bytes ≡ Ok a → Holds (AreFair w (run tid (accept_connect_port context bytes accept view))) (answered_steps w by context accept wanted a)
answer_fair w tid by context bytes false view wanted a h live at = refuse_fair w tid by context bytes view a h live at
answer_fair w tid by context bytes true view wanted a h live at =
    let line = run tid (accept_connect_port context bytes true view) in
    let P = AreFair w line in
    bind_holds (if_given offer_test wanted) _ P (λ offer _.
    bind_holds (handles_test w by.process 1) _ P (λ _ _.
    bind_holds (shared_test w by a.wait offer) _ P (λ views _.
    joined_fair w line by context (free_handle w by.process) a views)))

pub accept_fair : (w : World) (tid : ℕ) (by : ThreadRow) (context : ℕ) (bytes : List ℕ) (accept : Bool) (view : Option ViewWord) → live_thread w tid ≡ Some by → HaveTheirCalls w → Holds (AreFair w (run tid (accept_connect_port context bytes accept view))) (nt_accept_connect_port w by context bytes accept view)
unfolding nt_accept_connect_port
accept_fair w tid by context bytes accept view live h =
    let P = AreFair w (run tid (accept_connect_port context bytes accept view)) in
    bind_holds (if_given (wanted_test w by) (accepted_view accept view)) _ P (λ wanted _.
    bind_holds (answer_test w by bytes) _ P (λ a at. answer_fair w tid by context bytes accept view wanted a h live at))
