-- Limits from both sides: what is still granted, and what is refused.
use Rattle.std.specs.Prelude.{◌≡◌, ℕ, ◌+◌, ◌*◌, ◌<◌, ◌≤◌, false, List, length, None, Result, Ok, Err}
use Rattle.lpc_base.specs.declared.status.Status.{Status}
use Rattle.lpc_base.specs.declared.status.TheConstants.{PORT_MESSAGE_TOO_LONG, QUOTA_EXCEEDED}
use Rattle.lpc_message.specs.Layout.{fault_of, header_of}
use Rattle.lpc_model.specs.World.{Birth, PortRow, ThreadRow, World}
use Rattle.lpc_model.specs.Found.{datagrams, live_count, views_of}
use Rattle.lpc_model.specs.Memory.{section_load, section_load_test, view_count_test}
use Rattle.lpc_model.specs.Message.{message_of, message_test}
use Rattle.lpc_model.specs.Tests.{handle_load, handles_test}
use Rattle.lpc_model.specs.Connect.{info_test}
use Rattle.lpc_model.specs.Request.{datagram_test}
use Rattle.lpc_model.specs.Register.{is_registered, registration_test}
use Rattle.lpc_model.specs.Creation.{child_count_test, live_children, thread_count_test}

-- one more of what is counted is granted below a limit, and refused once the limit is reached
pub record IsGrantedBelow (limit counted : ℕ) (test : Result Unit Status) : Type 0 where
  pub below : counted < limit → test ≡ Ok tt
  pub reached : limit ≤ counted → test ≡ Err QUOTA_EXCEEDED

-- a size is good up to a limit, and refused beyond it
pub record IsGoodUpTo {A : Type 0} (limit size : ℕ) (test : Result A Status) (good : A) : Type 0 where
  pub within : size ≤ limit → test ≡ Ok good
  pub beyond : limit < size → test ≡ Err PORT_MESSAGE_TOO_LONG

-- one handle more is granted to a process with fewer than 256, together with those that its waiting connects are to get
abbrev pub LimitsHandles : Type 0
LimitsHandles = (w : World) (pid : ℕ) → IsGrantedBelow 256 (handle_load w pid) (handles_test w pid 1)

-- and two to a process with fewer than 255
abbrev pub LimitsTwoHandles : Type 0
LimitsTwoHandles = (w : World) (pid : ℕ) → IsGrantedBelow 255 (handle_load w pid) (handles_test w pid 2)

-- one live child more is granted to a process with fewer than 64
abbrev pub LimitsChildren : Type 0
LimitsChildren = (w : World) (pid : ℕ) → IsGrantedBelow 64 (live_children w pid) (child_count_test w pid)

-- one live thread more is granted to a process with fewer than 64
abbrev pub LimitsThreads : Type 0
LimitsThreads = (w : World) (pid : ℕ) → IsGrantedBelow 64 (live_count w pid) (thread_count_test w pid)

-- one datagram more is granted to a port of whose datagrams fewer than 32 stand in queues
abbrev pub LimitsDatagrams : Type 0
LimitsDatagrams = (w : World) (port : PortRow) → IsGrantedBelow 32 (datagrams w port.birth) (datagram_test w port)

-- one port more is registered with a thread that registered fewer than 16
abbrev pub LimitsRegistrations : Type 0
LimitsRegistrations =
    (by : ThreadRow) (port : Birth) → is_registered port by ≡ false →
    IsGrantedBelow 16 (length by.registrations) (registration_test by port)

-- one view more is granted to a process with fewer than 128
abbrev pub LimitsViews : Type 0
LimitsViews = (w : World) (pid : ℕ) → IsGrantedBelow 128 (length (views_of w pid)) (view_count_test w pid)

-- a section more is granted to a process whose sections have at most 4 MiB with it
abbrev pub LimitsSections : Type 0
LimitsSections =
    (w : World) (pid size : ℕ) → IsGrantedBelow (4 * 1024 * 1024 + 1) (section_load w pid + size) (section_load_test w pid size)

-- a message of lawful shape is good where its MessageSize is at most 256
abbrev pub LimitsMessages : Type 0
LimitsMessages = (bytes : List ℕ) → fault_of bytes ≡ None → IsGoodUpTo 256 (header_of bytes).message_size (message_test bytes) (message_of bytes)

-- the bytes of a connect are good where they are at most 232
abbrev pub LimitsInfo : Type 0
LimitsInfo = (bytes : List ℕ) → IsGoodUpTo 232 (length bytes) (info_test bytes) tt
