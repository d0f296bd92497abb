-- Client ports allow their servers something. So an impersonation is refused as a mismatch only where no request is found.
use Rattle.std.specs.Prelude.{◌≡◌, ℕ, ◌||◌, Bool, true, false, not, List, Ok, Err, is_none}
use Rattle.std.specs.List.{AllByRecursion}
use Rattle.lpc_base.specs.Rows.{every, has}
use Rattle.lpc_base.specs.declared.port_kind.PortKind.TheVariants.{Client, Server}
use Rattle.lpc_base.specs.declared.status.TheConstants.{REPLY_MESSAGE_MISMATCH}
use Rattle.lpc_tokens.specs.declared.security.Security.TheVariants.{Allows}
use Rattle.lpc_model.specs.World.{Birth, Message, PortRow, Security, ThreadRow, World}
use Rattle.lpc_model.specs.Found.{is_client_port, is_port, is_server_port}
use Rattle.lpc_model.specs.Impersonation.{is_served_by, nt_impersonate_client_of_port}
use Rattle.lpc_model.specs.Linked.{passes_or_none}
use Rattle.lpc_model.specs.Message.{message_test}
use Rattle.lpc_model.specs.Run.{run_of}
use Rattle.lpc_model.specs.Tests.{port_test}

-- What the lines keep
-- a port keeps what a connect allows
abbrev pub allows : Security → Bool
allows s = elim s [
  | Allows quality kept ↦ true
  | _ ↦ false
]

-- a client port allows its server something, and but client and server ports none has a connection port
abbrev pub is_allowing : PortRow → Bool
is_allowing p = elim p.kind [
  | Client ↦ allows p.security
  | Server ↦ true
  | _ ↦ is_none p.connection
]

abbrev pub HasAllowingClients : World → Type 0
HasAllowingClients w = every is_allowing w.ports ≡ true

-- what stands under a birth is a client port
abbrev pub is_client_under : Birth → PortRow → Bool
is_client_under b p = not (is_port b p) || is_client_port p

abbrev pub are_clients : List PortRow → Birth → Bool
are_clients ports b = every (is_client_under b) ports

-- a server port's other end is a client port
abbrev pub has_client_end : List PortRow → PortRow → Bool
has_client_end ports p = not (is_server_port p) || passes_or_none p.pair (are_clients ports)

abbrev pub HasClientEnds : World → Type 0
HasClientEnds w = every (has_client_end w.ports) w.ports ≡ true

-- behind each line of a script client ports allow something, and the other ends of server ports are client ports
abbrev pub RunHasAllowingClients : List ℕ → Type 0
RunHasAllowingClients bytes = AllByRecursion (λ s. HasAllowingClients s.world) (run_of bytes)

abbrev pub RunHasClientEnds : List ℕ → Type 0
RunHasClientEnds bytes = AllByRecursion (λ s. HasClientEnds s.world) (run_of bytes)

-- Refusals
-- the handle leads to a server port and the bytes are a message, and no request of its other end is found that the message
-- names and that was received
pub record IsUnserved (w : World) (by : ThreadRow) (handle : ℕ) (bytes : List ℕ) : Type 0 where
  pub port : PortRow
  pub message : Message
  pub port_found : port_test w by handle ≡ Ok port
  pub message_read : message_test bytes ≡ Ok message
  pub server : is_server_port port ≡ true
  pub unserved : has (is_served_by port message) w.waits ≡ false

-- an impersonation is refused as a mismatch only there
abbrev pub RefusesUnservedAlone : World → Type 0
RefusesUnservedAlone w =
    (by : ThreadRow) (handle : ℕ) (bytes : List ℕ) →
    nt_impersonate_client_of_port w by handle bytes ≡ Err REPLY_MESSAGE_MISMATCH → IsUnserved w by handle bytes

-- so in the world that each line of a script leaves
abbrev pub RunRefusesUnservedAlone : List ℕ → Type 0
RunRefusesUnservedAlone bytes = AllByRecursion (λ s. RefusesUnservedAlone s.world) (run_of bytes)
