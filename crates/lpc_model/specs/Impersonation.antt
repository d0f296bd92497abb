-- Threads that act as their clients, and tokens as objects.
use Rattle.std.specs.Prelude.{ℕ, Bool, ◌&&◌, ◌==◌, List, [], ◌∷◌, not, Option, None, Some, option_and_then, option_map, Result, Ok, if◌then◌else◌}
use Rattle.lpc_base.specs.Rows.{first}
use Rattle.lpc_base.specs.declared.status.Status.{Status}
use Rattle.lpc_base.specs.declared.status.TheConstants.{CANT_OPEN_ANONYMOUS, INVALID_HANDLE, INVALID_PARAMETER, INVALID_PORT_HANDLE, NO_TOKEN, REPLY_MESSAGE_MISMATCH, SUCCESS}
use Rattle.lpc_tokens.specs.Tokens.{passed_on}
use Rattle.lpc_tokens.specs.declared.level.TheConstants.{ANONYMOUS}
use Rattle.lpc_tokens.specs.declared.qos.Tracking.TheVariants.{Dynamic, Static}
use Rattle.lpc_tokens.specs.declared.security.Security.TheVariants.{Allows}
use Rattle.lpc_model.specs.declared.entry.CallName.TheVariants.{NtImpersonateClientOfPort, NtOpenProcessToken, NtOpenThreadToken, NtQueryInformationToken, NtSetInformationThread}
use Rattle.lpc_model.specs.declared.entry.Entry.TheVariants.{Answer}
use Rattle.lpc_model.specs.declared.entry.Field.{Field}
use Rattle.lpc_model.specs.declared.entry.ObjectKind.TheVariants as kind
use Rattle.lpc_model.specs.Basics.{Acts, AddsHandle, AddsToken, Basic, DrawsOrdinal, Tells}
use Rattle.lpc_model.specs.Fields.{groups, h, level, user}
use Rattle.lpc_model.specs.Found.{acting_token, free_handle, is_request, is_server_port, is_the, live_thread, names_wait, port_row, token_name, token_of, token_row}
use Rattle.lpc_model.specs.Message.{message_test}
use Rattle.lpc_model.specs.Refusal.{found_or, refuse_if}
use Rattle.lpc_model.specs.Tests.{client_test, handle_row, handles_test, next_birth, object_test, port_test}
use Rattle.lpc_model.specs.Then.{◌>>=◌}
use Rattle.lpc_model.specs.World.{CallName, Effective, Impersonation, Message, PortRow, Qos, Security, ThreadRow, TokenRow, WaitRow, World}

-- the rights of a handle that a call makes to a token, and the right that a query of one wants
abbrev pub TOKEN_ACCESS : ℕ
TOKEN_ACCESS = 1

abbrev pub TOKEN_RIGHT : ℕ
TOKEN_RIGHT = 1

-- NtImpersonateClientOfPort
-- the request of a server port's client that a message names: it was sent on the port's other end, and received
abbrev pub is_served_by : PortRow → Message → WaitRow → Bool
is_served_by port m x = names_wait x m && (is_request x && (x.received && is_the x.port port.pair))

-- The token with which a client lets its server act: by static tracking the one with which it connected, by dynamic
-- tracking the one with which the thread of the request acts now.
abbrev pub tracked : World → Qos → Effective → ThreadRow → Effective
tracked w quality kept client = elim quality.tracking [
  | Static ↦ kept
  | Dynamic ↦ acting_token w client
]

-- what a client port allows its server; none but a client port allows anything
abbrev pub allowed : World → Security → ThreadRow → Option Impersonation
allowed w s client = elim s [
  | Allows quality kept ↦ Some (passed_on quality (tracked w quality kept client))
  | _ ↦ None
]

-- what a request allows its server: by the port on which it was sent, and the thread that waits for its reply
abbrev pub allowed_by : World → WaitRow → Option Impersonation
allowed_by w x =
    option_and_then (λ (p : PortRow). option_and_then (allowed w p.security) (live_thread w x.thread)) (port_row w x.port)

-- the thread acts as the client from then on
abbrev pub impersonate_steps : ThreadRow → Impersonation → List Basic
impersonate_steps by own =
    Tells (Answer by.number NtImpersonateClientOfPort SUCCESS []) ∷ Acts by.number (Some own) ∷ []

-- NtImpersonateClientOfPort: the handle, the message, no server port, no such client, no request of the port's client
-- that the message names and that was received. In each world that a script leaves, the port of such a request allows
-- something (law_impersonation_refuses_unserved), so that is found: REPLY_MESSAGE_MISMATCH tells of no request alone.
unfoldable pub nt_impersonate_client_of_port : World → ThreadRow → ℕ → List ℕ → Result (List Basic) Status
nt_impersonate_client_of_port w by handle bytes = do
  port ← port_test w by handle
  m ← message_test bytes
  _ ← refuse_if (not (is_server_port port)) INVALID_PORT_HANDLE
  _ ← client_test w m.header.client
  x ← found_or (first (is_served_by port m) w.waits) REPLY_MESSAGE_MISMATCH
  own ← found_or (allowed_by w x) REPLY_MESSAGE_MISMATCH
  Ok (impersonate_steps by own)

-- NtSetInformationThread
-- the class by which a thread's own token is set; as published
abbrev pub THREAD_IMPERSONATION_TOKEN : ℕ
THREAD_IMPERSONATION_TOKEN = 5

-- the thread acts with its process's token again
abbrev pub revert_steps : ThreadRow → List Basic
revert_steps by = Tells (Answer by.number NtSetInformationThread SUCCESS []) ∷ Acts by.number None ∷ []

-- NtSetInformationThread: another class
unfoldable pub nt_set_information_thread : World → ThreadRow → ℕ → Result (List Basic) Status
nt_set_information_thread w by class = do
  _ ← refuse_if (not (class == THREAD_IMPERSONATION_TOKEN)) INVALID_PARAMETER
  Ok (revert_steps by)

-- Tokens as objects
-- a token is made, which has this content, and its maker gets a handle to it
abbrev pub new_token : ThreadRow → Effective → TokenRow
new_token by content = record { birth = next_birth by; token = content.token; level = content.level }

abbrev pub token_steps : ThreadRow → CallName → Effective → ℕ → List Basic
token_steps by call content value =
    Tells (Answer by.number call SUCCESS (h value ∷ []))
    ∷ DrawsOrdinal by.number
    ∷ AddsToken (new_token by content)
    ∷ AddsHandle by.process (handle_row value (token_name (next_birth by)) TOKEN_ACCESS)
    ∷ []

-- the token as which the thread acts: it has none of its own, or one by which nobody may know its client
abbrev pub own_test : ThreadRow → Result Impersonation Status
own_test by = do
  own ← found_or by.own NO_TOKEN
  _ ← refuse_if (own.level == ANONYMOUS) CANT_OPEN_ANONYMOUS
  Ok own

abbrev pub held_content : Impersonation → Effective
held_content own = record { token = own.token; level = Some own.level }

-- NtOpenThreadToken: no token of its own, one of the lowest level, too many handles
unfoldable pub nt_open_thread_token : World → ThreadRow → Result (List Basic) Status
nt_open_thread_token w by = do
  own ← own_test by
  _ ← handles_test w by.process 1
  Ok (token_steps by NtOpenThreadToken (held_content own) (free_handle w by.process))

abbrev pub process_content : World → ThreadRow → Effective
process_content w by = record { token = token_of w by.process; level = None }

-- NtOpenProcessToken: too many handles
unfoldable pub nt_open_process_token : World → ThreadRow → Result (List Basic) Status
nt_open_process_token w by = do
  _ ← handles_test w by.process 1
  Ok (token_steps by NtOpenProcessToken (process_content w by) (free_handle w by.process))

-- NtQueryInformationToken
-- the classes of what a token tells: its user, its groups, the level of an impersonation token; as published
abbrev pub TOKEN_USER : ℕ
TOKEN_USER = 1

abbrev pub TOKEN_GROUPS : ℕ
TOKEN_GROUPS = 2

abbrev pub TOKEN_IMPERSONATION_LEVEL : ℕ
TOKEN_IMPERSONATION_LEVEL = 9

abbrev pub level_told : Option ℕ → Option Field
level_told l = option_map level l

-- what a token tells, by class; none for another class, and no level of a process's token
abbrev pub told_of : TokenRow → ℕ → Option Field
told_of t class =
    if class == TOKEN_USER then Some (user t.token)
    else (if class == TOKEN_GROUPS then Some (groups t.token)
    else (if class == TOKEN_IMPERSONATION_LEVEL then level_told t.level
    else None))

-- the token that a handle names; a handle's object stands, so its row is found
abbrev pub token_test : World → ThreadRow → ℕ → Result TokenRow Status
token_test w by handle = do
  birth ← object_test w by kind.Token TOKEN_RIGHT handle
  found_or (token_row w birth) INVALID_HANDLE

abbrev pub told_steps : ThreadRow → Field → List Basic
told_steps by field = Tells (Answer by.number NtQueryInformationToken SUCCESS (field ∷ [])) ∷ []

-- NtQueryInformationToken: the handle, a class of which the token tells nothing
unfoldable pub nt_query_information_token : World → ThreadRow → ℕ → ℕ → Result (List Basic) Status
nt_query_information_token w by handle class = do
  t ← token_test w by handle
  field ← found_or (told_of t class) INVALID_PARAMETER
  Ok (told_steps by field)
