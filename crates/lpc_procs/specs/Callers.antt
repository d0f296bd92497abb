-- What a call knows of the thread that makes it.
use Rattle.lpc_procs.specs.declared.rows.Caller.{Caller}
use Rattle.lpc_procs.specs.declared.rows.ThreadRow.{ThreadRow}

-- a thread as a caller: all of its row but its registrations and the token as which it acts for a client
abbrev pub caller_of : ThreadRow → Caller
caller_of t = record { number = t.number; process = t.process; birth = t.birth; next_identifier = t.next_identifier; next_ordinal = t.next_ordinal }
