-- Words of the sweep's clauses: a port at its key, and what stands in a place.
use Rattle.std.specs.Prelude.{ℕ, Bool, Option, option_map, slice_get}
use Rattle.lpc_base.specs.declared.birth.Birth.{Birth}
use Rattle.lpc_base.specs.Rows.{first, has}
use Rattle.lpc_model.specs.Found.{is_port, port_name, process_name, section_name, thread_name, token_name}
use Rattle.lpc_model.specs.Sweep.{is_unheld}
use Rattle.lpc_model.specs.World.{World}
use Rattle.lpc_slots.specs.declared.Key.{Key}
use Rattle.lpc_rows.specs.Clauses.{birth_at}
use Rattle.lpc_rows.specs.Kept.{Kept}
use Rattle.lpc_rows.specs.Names.{name_of}

-- a port's row stands
abbrev pub has_port : Kept → Key → Bool
has_port w key = has (is_port (birth_at w key)) w.rows.ports

-- the birth of the port at a place, in the order of making
abbrev pub birth_in_place : Kept → ℕ → Option Birth
birth_in_place w place = option_map (λ p. p.birth) (slice_get w.rows.ports place)

-- the birth of the thread, and of the process, at a place
abbrev pub thread_in_place : Kept → ℕ → Option Birth
thread_in_place w place = option_map (λ t. t.birth) (slice_get w.rows.threads place)

abbrev pub process_in_place : Kept → ℕ → Option Birth
process_in_place w place = option_map (λ p. p.birth) (slice_get w.rows.processes place)

-- the birth of the section at a place, and of an optional one
abbrev pub section_in_place : Kept → ℕ → Option Birth
section_in_place w place = option_map (λ s. s.birth) (slice_get w.rows.sections place)

abbrev pub some_section : Kept → Option Key → Option Birth
some_section w key = option_map (name_of w.births.sections) key

-- the birth of the token at a place, and of an optional one
abbrev pub token_in_place : Kept → ℕ → Option Birth
token_in_place w place = option_map (λ t. t.birth) (slice_get w.rows.tokens place)

abbrev pub some_token : Kept → Option Key → Option Birth
some_token w key = option_map (name_of w.births.tokens) key

-- no row counts for the port
abbrev pub is_unheld_at : Kept → Key → Bool
is_unheld_at w key = is_unheld w.rows (port_name (birth_at w key))

-- the birth of the oldest thread that no row counts for, of the oldest such process, of the oldest such port, of the
-- oldest such section, and of the oldest such token
abbrev pub oldest_thread : World → Option Birth
oldest_thread w = option_map (λ t. t.birth) (first (λ t. is_unheld w (thread_name t.birth)) w.threads)

abbrev pub oldest_process : World → Option Birth
oldest_process w = option_map (λ p. p.birth) (first (λ p. is_unheld w (process_name p.birth)) w.processes)

abbrev pub oldest_port : World → Option Birth
oldest_port w = option_map (λ p. p.birth) (first (λ p. is_unheld w (port_name p.birth)) w.ports)

abbrev pub oldest_section : World → Option Birth
oldest_section w = option_map (λ s. s.birth) (first (λ s. is_unheld w (section_name s.birth)) w.sections)

abbrev pub oldest_token : World → Option Birth
oldest_token w = option_map (λ t. t.birth) (first (λ t. is_unheld w (token_name t.birth)) w.tokens)
