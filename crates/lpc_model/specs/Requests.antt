-- The messages that a server on a thread keeps.
use Rattle.std.specs.Prelude.{ℕ, ◌&&◌, Bool, nat_le, is_none, List, length, Option, None, Some, if◌then◌else◌}
use Rattle.lpc_message.specs.Layout.{fault_of}

-- bytes are a message of lawful shape, of at most 256 bytes
abbrev pub is_lawful : List ℕ → Bool
is_lawful bytes = is_none (fault_of bytes) && nat_le (length bytes) 256

abbrev pub lawful_message : List ℕ → Option (List ℕ)
lawful_message bytes = if is_lawful bytes then Some bytes else None
