-- The connect that an answer names.
use Rattle.std.specs.Prelude.{ℕ, ◌==◌, ◌&&◌, Bool}
use Rattle.lpc_message.specs.declared.message.ClientId.{ClientId}
use Rattle.lpc_model.specs.Connect.{reaches}
use Rattle.lpc_model.specs.Found.{is_offered}
use Rattle.lpc_model.specs.World.{WaitRow, World}

-- a client and an identifier name a connect that was received and isn't accepted, to a connection port that the process
-- reaches
abbrev pub is_answered : World → ℕ → ClientId → ℕ → WaitRow → Bool
is_answered w pid client identifier x =
    ((x.thread == client.thread) && ((x.process == client.process) && (x.identifier == identifier)))
    && (is_offered x && (x.received && reaches w pid x.queue))
