-- What the world lends of the bytes that views show.
use Rattle.std.specs.Prelude.{ℕ, ◌==◌, Bool, List, Option, None, option_and_then, option_map, if◌then◌else◌}
use Rattle.lpc_base.specs.Rows.{passes}
use Rattle.lpc_model.specs.Found.{live_thread, view_holding}
use Rattle.lpc_model.specs.World.{ViewRow, World}
use Rattle.lpc_rows.specs.Clauses.{bytes_through, written_through}
use Rattle.lpc_rows.specs.Kept.{Kept}

-- the view of a thread's process that holds so many bytes: none where the thread isn't live, or for no byte
abbrev pub view_of_thread : World → ℕ → ℕ → ℕ → Option ViewRow
view_of_thread w tid address n = if n == 0 then None else option_and_then (λ t. view_holding w t.process address n) (live_thread w tid)

-- a view may be written
abbrev pub may_be_written : Option ViewRow → Bool
may_be_written view = passes view (λ v. v.writable)

-- so many bytes that a process may write at an address: none where no one view holds them that may be written
abbrev pub writable_memory : World → ℕ → ℕ → ℕ → Option (List ℕ)
writable_memory w pid address n =
    if may_be_written (view_holding w pid address n) then option_map (bytes_through w address n) (view_holding w pid address n) else None

-- the world with these bytes at an address of a view, and all else as it was
abbrev pub with_memory : Kept → ℕ → Option ViewRow → List ℕ → Kept
with_memory w address view bytes = record w { rows = written_through w.rows address bytes view }
