-- NtImpersonateClientOfPort behind its tests: the request is found, and allows something.
use Rattle.std.proofs.Common.{◌≡◌, ℕ, List, Option, Some, None, Result, Ok, Err, true, refl, ap, sym, ◌∙◌}
use Rattle.lpc_base.specs.Rows.{first}
use Rattle.lpc_base.specs.declared.status.Status.{Status}
use Rattle.lpc_base.specs.declared.status.TheConstants.{REPLY_MESSAGE_MISMATCH}
use Rattle.lpc_model.specs.Basics.{Basic}
use Rattle.lpc_model.specs.Found.{is_server_port}
use Rattle.lpc_model.specs.Impersonation.{allowed_by, impersonate_steps, is_served_by, nt_impersonate_client_of_port}
use Rattle.lpc_model.specs.Message.{message_test}
use Rattle.lpc_model.specs.Refusal.{found_or}
use Rattle.lpc_model.specs.Tests.{client_test, port_test}
use Rattle.lpc_model.specs.Then.{◌>>=◌}
use Rattle.lpc_model.specs.World.{Impersonation, PortRow, ThreadRow, WaitRow, World}
use Rattle.lpc_model.specs.declared.message.Message.{Message}

module _ (w : World) (by : ThreadRow) (handle : ℕ) (bytes : List ℕ) (port : PortRow) (m : Message)
    (at : port_test w by handle ≡ Ok port) (lawful : message_test bytes ≡ Ok m)
    (server : is_server_port port ≡ true) (lives : client_test w m.header.client ≡ Ok tt) where
  abbrev acts : Option Impersonation → Result (List Basic) Status
  acts o = found_or o REPLY_MESSAGE_MISMATCH >>= λ own. Ok (impersonate_steps by own)

  abbrev behind : Option WaitRow → Result (List Basic) Status
  behind o = found_or o REPLY_MESSAGE_MISMATCH >>= λ x. acts (allowed_by w x)

  tested : nt_impersonate_client_of_port w by handle bytes ≡ behind (first (is_served_by port m) w.waits)
  unfolding nt_impersonate_client_of_port
  tested = rw (at, lawful, server, lives) refl

  pub no_request : first (is_served_by port m) w.waits ≡ None → nt_impersonate_client_of_port w by handle bytes ≡ Err REPLY_MESSAGE_MISMATCH
  no_request none = tested ∙ ap behind none

  pub nothing_allowed : (x : WaitRow) → first (is_served_by port m) w.waits ≡ Some x → None ≡ allowed_by w x → nt_impersonate_client_of_port w by handle bytes ≡ Err REPLY_MESSAGE_MISMATCH
  nothing_allowed x found none = tested ∙ ap behind found ∙ ap acts (sym none)

  pub own_allowed : (x : WaitRow) (own : Impersonation) → first (is_served_by port m) w.waits ≡ Some x → Some own ≡ allowed_by w x → nt_impersonate_client_of_port w by handle bytes ≡ Ok (impersonate_steps by own)
  own_allowed x own found is = tested ∙ ap behind found ∙ ap acts (sym is)
