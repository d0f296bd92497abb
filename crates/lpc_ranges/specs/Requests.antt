-- What the calls on the ranges of a request do to the client's memory.
use Rattle.std.specs.Prelude.{ℕ, List, [], ◌∷◌, length, Option, Some, None}
use Rattle.lpc_base.specs.declared.status.TheConstants.{SUCCESS}
use Rattle.lpc_model.specs.declared.entry.CallName.TheVariants.{NtReadRequestData}
use Rattle.lpc_model.specs.declared.entry.Entry.TheVariants.{Answer}
use Rattle.lpc_model.specs.Basics.{Basic, Tells}
use Rattle.lpc_model.specs.Fields.{bytes_read}
use Rattle.lpc_model.specs.Found.{view_holding}
use Rattle.lpc_model.specs.Ranges.{write_range_steps}
use Rattle.lpc_model.specs.World.{ThreadRow, ViewRow, World}
use Rattle.lpc_ranges.specs.declared.requests.Place.{Place}

-- a thread is told the bytes that it reads of a client
abbrev pub range_reading : ThreadRow → List ℕ → List Basic
range_reading by bytes = Tells (Answer by.number NtReadRequestData SUCCESS (bytes_read bytes ∷ [])) ∷ []

-- the view of a client that holds bytes at a place
abbrev pub view_at : World → Place → List ℕ → Option ViewRow
view_at w place bytes = view_holding w place.process place.address (length bytes)

-- a thread writes bytes through a view at an address
abbrev pub writing_through : ThreadRow → ℕ → List ℕ → Option ViewRow → List Basic
writing_through by address bytes None = []
writing_through by address bytes (Some v) = write_range_steps by bytes (record { address = address; view = v })

-- and at a place of a client
abbrev pub range_writing : World → ThreadRow → Place → List ℕ → List Basic
range_writing w by place bytes = writing_through by place.address bytes (view_at w place bytes)
