-- What the calls on tokens tell is right: none of them is about a request or a connect.
use Rattle.std.proofs.Common.{List, ℕ}
use Rattle.std.specs.Prelude.{not, ◌==◌}
use Rattle.lpc_base.specs.Rows.{first}
use Rattle.lpc_base.specs.declared.status.TheConstants.{INVALID_PARAMETER, INVALID_PORT_HANDLE, REPLY_MESSAGE_MISMATCH}
use Rattle.lpc_model.specs.Found.{is_server_port}
use Rattle.lpc_model.specs.Impersonation.{THREAD_IMPERSONATION_TOKEN, allowed_by, is_served_by, nt_impersonate_client_of_port, nt_open_process_token, nt_open_thread_token, nt_query_information_token, nt_set_information_thread, own_test, token_test, told_of}
use Rattle.lpc_model.specs.Lines.{ScriptLine}
use Rattle.lpc_model.specs.Message.{message_test}
use Rattle.lpc_model.specs.Refusal.{found_or, refuse_if}
use Rattle.lpc_model.specs.Tests.{client_test, handles_test, port_test}
use Rattle.lpc_model.specs.World.{ThreadRow, World}
use Rattle.lpc_model.proofs.Calls.Holding.{Holds, bind_holds}
use Rattle.lpc_replay.proofs.Fair.{AreFair}

pub impersonate_fair : (w : World) (line : ScriptLine) (by : ThreadRow) (handle : ℕ) (bytes : List ℕ) → Holds (AreFair w line) (nt_impersonate_client_of_port w by handle bytes)
unfolding nt_impersonate_client_of_port
impersonate_fair w line by handle bytes =
    let P = AreFair w line in
    bind_holds (port_test w by handle) _ P (λ port _.
    bind_holds (message_test bytes) _ P (λ m _.
    bind_holds (refuse_if (not (is_server_port port)) INVALID_PORT_HANDLE) _ P (λ _ _.
    bind_holds (client_test w m.header.client) _ P (λ _ _.
    bind_holds (found_or (first (is_served_by port m) w.waits) REPLY_MESSAGE_MISMATCH) _ P (λ x _.
    bind_holds (found_or (allowed_by w x) REPLY_MESSAGE_MISMATCH) _ P (λ _ _. ((tt, tt), (tt, tt))))))))

pub set_information_fair : (w : World) (line : ScriptLine) (by : ThreadRow) (class : ℕ) → Holds (AreFair w line) (nt_set_information_thread w by class)
unfolding nt_set_information_thread
set_information_fair w line by class =
    bind_holds (refuse_if (not (class == THREAD_IMPERSONATION_TOKEN)) INVALID_PARAMETER) _ (AreFair w line) (λ _ _. ((tt, tt), (tt, tt)))

pub open_thread_token_fair : (w : World) (line : ScriptLine) (by : ThreadRow) → Holds (AreFair w line) (nt_open_thread_token w by)
unfolding nt_open_thread_token
open_thread_token_fair w line by =
    let P = AreFair w line in
    bind_holds (own_test by) _ P (λ own _.
    bind_holds (handles_test w by.process 1) _ P (λ _ _. ((tt, tt), (tt, (tt, (tt, tt))))))

pub open_process_token_fair : (w : World) (line : ScriptLine) (by : ThreadRow) → Holds (AreFair w line) (nt_open_process_token w by)
unfolding nt_open_process_token
open_process_token_fair w line by =
    bind_holds (handles_test w by.process 1) _ (AreFair w line) (λ _ _. ((tt, tt), (tt, (tt, (tt, tt)))))

pub query_information_fair : (w : World) (line : ScriptLine) (by : ThreadRow) (handle class : ℕ) → Holds (AreFair w line) (nt_query_information_token w by handle class)
unfolding nt_query_information_token
query_information_fair w line by handle class =
    let P = AreFair w line in
    bind_holds (token_test w by handle) _ P (λ t _.
    bind_holds (found_or (told_of t class) INVALID_PARAMETER) _ P (λ _ _. ((tt, tt), tt)))
