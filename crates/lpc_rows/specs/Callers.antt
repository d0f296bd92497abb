-- What a call knows of the thread that makes it, and the definitions' row for which that stands.
use Rattle.std.specs.Prelude.{true, [], None}
use Rattle.lpc_model.specs.World as model
use Rattle.lpc_procs.specs.declared.rows.Caller.{Caller}

-- a thread's row as a caller: all of it but its registrations and the token as which it acts for a client
abbrev pub as_caller : model.ThreadRow → Caller
as_caller t = record { number = t.number; process = t.process; birth = t.birth; next_identifier = t.next_identifier; next_ordinal = t.next_ordinal }

-- the row of a live thread for which a caller stands, without the registrations, and without a token of its own
abbrev pub shown_caller : Caller → model.ThreadRow
shown_caller c = record { number = c.number; process = c.process; birth = c.birth; live = true; next_identifier = c.next_identifier; next_ordinal = c.next_ordinal; registrations = []; own = None }
