-- The ranges of memory that a request describes, and how its server reads and writes the client's bytes there.
use Rattle.std.specs.Prelude.{ℕ, ◌&&◌, List, [], ◌∷◌, length, nat_le, not, Option, None, is_some, Result, Ok, if◌then◌else◌}
use Rattle.lpc_base.specs.declared.status.Status.{Status}
use Rattle.lpc_base.specs.declared.status.TheConstants.{ACCESS_VIOLATION, INVALID_PARAMETER, REPLY_MESSAGE_MISMATCH, SUCCESS}
use Rattle.lpc_message.specs.Layout.{fault_of, range_at}
use Rattle.lpc_message.specs.declared.message.Range.{Range}
use Rattle.lpc_model.specs.declared.entry.CallName.TheVariants.{NtReadRequestData, NtWriteRequestData}
use Rattle.lpc_model.specs.declared.entry.Entry.TheVariants.{Answer}
use Rattle.lpc_model.specs.Basics.{Basic, Tells, Writes}
use Rattle.lpc_model.specs.Fields.{bytes_read}
use Rattle.lpc_model.specs.Found.{is_event, view_holding}
use Rattle.lpc_model.specs.Memory.{bytes_at, is_transfer, place_in}
use Rattle.lpc_model.specs.Message.{bytes_of, message_test}
use Rattle.lpc_model.specs.Refusal.{found_or, refuse_if}
use Rattle.lpc_model.specs.Request.{reply_test}
use Rattle.lpc_model.specs.Tests.{port_test}
use Rattle.lpc_model.specs.Then.{◌>>=◌}
use Rattle.lpc_model.specs.World.{Contents, Request, ThreadRow, ViewRow, WaitRow, World}

-- an event is no request: it describes no bytes
abbrev pub request_test : WaitRow → Result Unit Status
request_test x = refuse_if (is_event x) REPLY_MESSAGE_MISMATCH

-- the request that a message fits through the port of a handle, as a reply's does: the handle, the message, no such
-- client, a message that fits no wait, an event
abbrev pub asked_test : World → ThreadRow → ℕ → List ℕ → Result WaitRow Status
asked_test w by handle bytes = do
  port ← port_test w by handle
  m ← message_test bytes
  x ← reply_test w port m
  _ ← request_test x
  Ok x

-- a range of a message, by its number: an entry of its range table, which bytes without a lawful shape don't have
abbrev pub range_in : List ℕ → ℕ → Option Range
range_in bytes index = if is_some (fault_of bytes) then None else range_at bytes index

-- a range of a request: one of the message as it was sent
abbrev pub range_of : WaitRow → ℕ → Option Range
range_of x index = elim x.kind [
  | Request m ↦ range_in (bytes_of m) index
  | _ ↦ None
]

-- so many bytes from the beginning of a range: no such range; none of them, more than one call may read or write, more
-- than the range has
abbrev pub range_test : WaitRow → ℕ → ℕ → Result Range Status
range_test x index n = do
  r ← found_or (range_of x index) INVALID_PARAMETER
  _ ← refuse_if (not (is_transfer n && nat_le n r.size)) INVALID_PARAMETER
  Ok r

-- an address of a client's process, and the client's view that shows bytes there
pub record Described : Type 0 where
  pub address : ℕ
  pub view : ViewRow

-- The bytes that a request describes: no request that the message fits, no such bytes of a range, no one view of the
-- client that holds them.
abbrev pub described_test : World → ThreadRow → ℕ → List ℕ → ℕ → ℕ → Result Described Status
described_test w by handle bytes index n = do
  x ← asked_test w by handle bytes
  r ← range_test x index n
  v ← found_or (view_holding w x.process r.base n) ACCESS_VIOLATION
  Ok (record { address = r.base; view = v })

abbrev pub read_range_steps : Contents → ThreadRow → ℕ → Described → List Basic
read_range_steps contents by n d =
    Tells (Answer by.number NtReadRequestData SUCCESS (bytes_read (bytes_at contents d.view d.address n) ∷ [])) ∷ []

-- NtReadRequestData: the handle, the message, no such client, a message that fits no wait, an event, no such range, none
-- or too many bytes, no one view of the client that holds them
unfoldable pub nt_read_request_data : World → ThreadRow → ℕ → List ℕ → ℕ → ℕ → Result (List Basic) Status
nt_read_request_data w by handle bytes index n = do
  d ← described_test w by handle bytes index n
  Ok (read_range_steps w.contents by n d)

abbrev pub write_range_steps : ThreadRow → List ℕ → Described → List Basic
write_range_steps by new d =
    Tells (Answer by.number NtWriteRequestData SUCCESS []) ∷ Writes d.view.section (place_in d.view d.address) new ∷ []

-- NtWriteRequestData: the same, and a view that may not be written
unfoldable pub nt_write_request_data : World → ThreadRow → ℕ → List ℕ → ℕ → List ℕ → Result (List Basic) Status
nt_write_request_data w by handle bytes index new = do
  d ← described_test w by handle bytes index (length new)
  _ ← refuse_if (not d.view.writable) ACCESS_VIOLATION
  Ok (write_range_steps by new d)
