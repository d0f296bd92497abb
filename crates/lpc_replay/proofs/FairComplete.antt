-- What NtCompleteConnectPort tells is right: an accepted connect wakes by its completion.
use Rattle.std.proofs.Common.{inl, refl, true, ℕ, ◌≡◌}
use Rattle.std.specs.Prelude.{Some, not}
use Rattle.std.proofs.lemmas.Bool.{or_right}
use Rattle.lpc_base.proofs.RowWords.{first-passes}
use Rattle.lpc_base.proofs.Bools.{first-true}
use Rattle.lpc_base.specs.Rows.{first}
use Rattle.lpc_base.specs.declared.status.TheConstants.{INVALID_PARAMETER, INVALID_PORT_HANDLE, PORT_DISCONNECTED, SUCCESS}
use Rattle.lpc_model.specs.Connect.{Completable, acceptance_of, complete_test, is_accepted_on, nt_complete_connect_port}
use Rattle.lpc_model.specs.Fields.{completion_fields}
use Rattle.lpc_model.specs.Found.{free_handle, is_accepted, is_offered, is_server_port, live_thread}
use Rattle.lpc_model.specs.Lines.{complete_connect_port, run}
use Rattle.lpc_model.specs.Refusal.{found_or, refuse_if}
use Rattle.lpc_model.specs.Tests.{port_test}
use Rattle.lpc_model.specs.World.{ThreadRow, World}
use Rattle.lpc_model.specs.declared.entry.Entry.TheVariants as entry
use Rattle.lpc_model.proofs.Calls.Holding.{Holds, bind_holds, found_ok, holds_ok}
use Rattle.lpc_replay.specs.Connects.{IsCompletedBy}
use Rattle.lpc_replay.proofs.Fair.{AreFair, HasItsCall, HaveTheirCalls, IsRight, connect_wakes}
use Rattle.lpc_replay.proofs.Holding.{find_all}

-- a completion wakes an accepted connect alone
completable_holds : (w : World) (by : ThreadRow) (handle : ℕ) → HaveTheirCalls w → Holds (λ c. (is_accepted c.wait ≡ true) × HasItsCall c.wait) (complete_test w by handle)
completable_holds w by handle h =
    let P : Completable → Type 0 = λ c. (is_accepted c.wait ≡ true) × HasItsCall c.wait in
    bind_holds (port_test w by handle) _ P (λ port _.
    bind_holds (refuse_if (not (is_server_port port)) INVALID_PORT_HANDLE) _ P (λ _ _.
    bind_holds (refuse_if port.completed INVALID_PARAMETER) _ P (λ _ _.
    bind_holds (found_or port.pair PORT_DISCONNECTED) _ P (λ client _.
    bind_holds (found_or (first (is_accepted_on client) w.waits) PORT_DISCONNECTED) _ P (λ x at.
    let found = found_ok (first (is_accepted_on client) w.waits) PORT_DISCONNECTED x at in
    (first-true _ _ (first-passes (is_accepted_on client) w.waits x found), find_all HasItsCall (is_accepted_on client) w.waits x h found))))))

pub complete_fair : (w : World) (tid : ℕ) (by : ThreadRow) (handle : ℕ) → live_thread w tid ≡ Some by → HaveTheirCalls w → Holds (AreFair w (run tid (complete_connect_port handle))) (nt_complete_connect_port w by handle)
unfolding nt_complete_connect_port
complete_fair w tid by handle live h =
    let line = run tid (complete_connect_port handle) in
    bind_holds (complete_test w by handle) _ (AreFair w line) (λ c at.
    let known = holds_ok _ (complete_test w by handle) c (completable_holds w by handle h) at in
    let fields = completion_fields (free_handle w c.wait.process) (acceptance_of c.wait) in
    let answered : IsCompletedBy w tid handle c.wait.thread SUCCESS fields = record { caller = by; found = c; calls = live; completable = at; its_wait = refl; succeeds = refl; shows = refl } in
    let end : IsRight w line (entry.Wakes c.wait.thread c.wait.call SUCCESS fields) = connect_wakes w line c.wait SUCCESS fields (or_right (is_offered c.wait) (is_accepted c.wait) known.0) known.1 (inl answered) in
    ((tt, tt), (tt, (tt, (tt, (end, tt))))))
