-- The laws of every script.
use Rattle.lpc_model.specs.Residents.{win32}
use Rattle.lpc_model.proofs.Residents.{done_bytes}
use Rattle.lpc_model.specs.World.{no_rows}
use Rattle.std.proofs.Common.{List, refl, ℕ}
use Rattle.lpc_model.specs.Script.{script_lines}
use Rattle.lpc_model.specs.Run.{first_state, said_from, said_in}
use Rattle.lpc_model.specs.Replies.{MisfitsAreRefused, RefusedRepliesChangeNothing}
use Rattle.lpc_model.proofs.GivenBytes.{said_bytes}
use Rattle.lpc_model.proofs.Runs.{along-keeps, lawful_none, lawful_step}
use Rattle.lpc_isolation.proofs.Gone.Said.{isolation_law}
use Rattle.lpc_replay.specs.Laws.{ClientsApart, ConnectsReturn, HandlesLead, LeadsBefore, LeavesSettled, LinesSettle, MisfitsRefused, RaisesReturn, RefusalsIdle, RefusalsStay, RequestsReturn, ThreadsEnd, WaitsEnd}
use Rattle.lpc_replay.proofs.Leading.{leads}
use Rattle.lpc_replay.proofs.Returning.{answers_along, ends_along, raises_along, returns_along}
use Rattle.lpc_replay.proofs.Refusing.{misfits_refused, refusals_stay}
use Rattle.lpc_replay.proofs.Removing.{refusals_idle}
use Rattle.lpc_replay.proofs.Waiting.{waits_along}

pub every_request : (script : List ℕ) → RequestsReturn script
unfolding RequestsReturn
every_request script = returns_along no_rows (said_in script) (done_bytes win32 first_state (said_from 1 (script_lines script)) (said_bytes 1 (script_lines script))) tt lawful_none

pub every_wait : (script : List ℕ) → WaitsEnd script
unfolding WaitsEnd
every_wait script = waits_along no_rows (said_in script) (done_bytes win32 first_state (said_from 1 (script_lines script)) (said_bytes 1 (script_lines script))) tt refl lawful_none

pub every_connect : (script : List ℕ) → ConnectsReturn script
unfolding ConnectsReturn
every_connect script = answers_along no_rows (said_in script) (done_bytes win32 first_state (said_from 1 (script_lines script)) (said_bytes 1 (script_lines script))) tt lawful_none

pub every_raise : (script : List ℕ) → RaisesReturn script
unfolding RaisesReturn
every_raise script = raises_along no_rows (said_in script) (done_bytes win32 first_state (said_from 1 (script_lines script)) (said_bytes 1 (script_lines script))) tt lawful_none

pub every_end : (script : List ℕ) → ThreadsEnd script
unfolding ThreadsEnd
every_end script = ends_along no_rows (said_in script) (done_bytes win32 first_state (said_from 1 (script_lines script)) (said_bytes 1 (script_lines script))) tt lawful_none

pub every_settling : (script : List ℕ) → LinesSettle script
unfolding LinesSettle
every_settling script = along-keeps LeavesSettled (λ w line t. let after = lawful_step w line t in after.settled) no_rows (said_in script) lawful_none

pub every_handle : (script : List ℕ) → HandlesLead script
unfolding HandlesLead
every_handle script = along-keeps LeadsBefore (λ w line t. leads w t.names) no_rows (said_in script) lawful_none

pub every_misfit : (script : List ℕ) → MisfitsRefused script
unfolding MisfitsRefused
every_misfit script = along-keeps MisfitsAreRefused (λ w line _. misfits_refused w line) no_rows (said_in script) lawful_none

pub every_refusal : (script : List ℕ) → RefusalsStay script
unfolding RefusalsStay
every_refusal script = along-keeps RefusedRepliesChangeNothing (λ w line r. refusals_stay w line r.settled r.held) no_rows (said_in script) lawful_none

pub every_removal : (script : List ℕ) → RefusalsIdle script
unfolding RefusalsIdle
every_removal script = refusals_idle (script_lines script)

pub every_client : (script : List ℕ) → ClientsApart script
unfolding ClientsApart
every_client script group c other one two same = isolation_law group c script other one two same
