-- Threads and processes that end leave sound waits behind.
use Rattle.std.proofs.Common.{List, Some, ℕ, ◌≡◌}
use Rattle.lpc_base.specs.Rows.{change}
use Rattle.lpc_base.specs.declared.status.Status.{Status}
use Rattle.lpc_model.specs.World.{Birth, HandleRow, MessageRow, ThreadRow, World, ProcessRow}
use Rattle.lpc_model.specs.Found.{handle_at, is_process}
use Rattle.lpc_model.specs.Basics.{Unregisters, basic, LetsGo, portless}
use Rattle.lpc_model.specs.Entering.{enter}
use Rattle.lpc_model.specs.Close.{close_handle}
use Rattle.lpc_model.specs.Death.{die, end_threads}
use Rattle.lpc_model.specs.SoundWaits.{HasShutConnects, IsSoundWorld}
use Rattle.lpc_model.proofs.Steps.Closing.{behind}
use Rattle.lpc_model.proofs.Sound.Calls.{entered-sound}
use Rattle.lpc_model.proofs.Sound.Basics.{sound-unregisters, sound-processes}
use Rattle.lpc_model.proofs.Sound.Close.{close_handle-sound}
use Rattle.lpc_model.proofs.Sound.Death.{die-sound}
use Rattle.lpc_model.proofs.Sound.Worlds.{sound-memory}
use Rattle.lpc_model.proofs.Steps.Ending.{behind_told, die-ending, end-keeps, ending-enter, handle-ending, told-keeps}
use Rattle.lpc_model.proofs.Sound.ShutConnects.{shut-all}

-- a sound world in which no connect waits on an open port
pub record IsSafe (w : World) : Type 0 where
  pub sound : IsSoundWorld w
  pub shut : HasShutConnects w

pub sound-of : (w : World) → IsSafe w → IsSoundWorld w
sound-of w is = is.sound

pub shut-of : (w : World) → IsSafe w → HasShutConnects w
shut-of w is = is.shut

pub die-safe : (code : Status) (t : ThreadRow) (w : World) → IsSafe w → IsSafe (behind (die code t) w)
die-safe code t w is = record { sound = die-sound code w t is.shut is.sound; shut = shut-all w (die code t w) (die-ending code t w) is.shut }

pub unregister-safe : (n : ℕ) (b : Birth) (w : World) → IsSafe w → IsSafe (basic w (Unregisters n b))
unregister-safe n b w is = record { sound = sound-unregisters w n b is.sound; shut = is.shut }

pub enter-safe : (m : MessageRow) (w : World) → IsSafe w → IsSafe (behind (enter m) w)
enter-safe m w is = record { sound = entered-sound w m is.sound; shut = shut-all w (enter m w) (ending-enter m w) is.shut }

pub handle-safe : (w : World) (pid : ℕ) (r : HandleRow) → handle_at w pid r.value ≡ Some r → IsSafe w → IsSafe (behind (close_handle pid r) w)
handle-safe w pid r at is = record { sound = close_handle-sound w pid r at is.sound; shut = shut-all w (close_handle pid r w) (handle-ending pid r w) is.shut }

pub processes-safe : (w : World) (ps : List ProcessRow) → IsSafe w → IsSafe (record w { processes = ps })
processes-safe w ps is = record { sound = sound-processes w ps is.sound; shut = is.shut }

pub lets-safe : (w : World) (pid : ℕ) → IsSafe w → IsSafe (basic w (LetsGo pid))
lets-safe w pid is = processes-safe w (change (is_process pid) portless w.processes) is

pub told-safe : (code : Status) (ts : List ThreadRow) (w : World) → IsSafe w → IsSafe (behind_told code ts w)
told-safe = told-keeps IsSafe die-safe unregister-safe (λ t b m w some is. enter-safe m w is)

pub end-safe : (pid : ℕ) (code : Status) (ts : List ThreadRow) (w : World) → IsSafe w → IsSafe (behind (end_threads pid code ts) w)
end-safe = end-keeps IsSafe die-safe unregister-safe (λ t b m w some is. enter-safe m w is) sound-of lets-safe handle-safe (λ w pid is. record { sound = sound-memory w _ _ _ is.sound; shut = is.shut })

pub end-sound : (pid : ℕ) (code : Status) (ts : List ThreadRow) (w : World) → IsSoundWorld w → HasShutConnects w → IsSoundWorld (behind (end_threads pid code ts) w)
end-sound pid code ts w s shut = let t = end-safe pid code ts w (record { sound = s; shut = shut }) in t.sound
