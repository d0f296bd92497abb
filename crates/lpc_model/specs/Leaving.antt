-- How messages leave their queues where nobody takes them: a queue is emptied with the last handle of its port, and the own
-- message of a thread, a request, connection request or event, is withdrawn with the thread's wait, or as its event is
-- marked.
use Rattle.std.specs.Prelude.{◌≡◌, ℕ, ◌==◌, ◌++◌, Bool, true, false, List, [], ◌∷◌}
use Rattle.lpc_base.specs.Rows.{every, has}
use Rattle.lpc_model.specs.World.{Birth, World, no_rows}
use Rattle.lpc_model.specs.Basics.{Basic, Dies, Empties, Marks, Wakes, Withdraws, basic}
use Rattle.lpc_model.specs.Closings.{closes}
use Rattle.lpc_model.specs.Lines.{ScriptLine}
use Rattle.lpc_model.specs.Machine.{steps}
use Rattle.lpc_model.specs.Run.{Along, said_in}

-- Queues that are emptied
-- the queue that a step empties, and those that some steps empty
abbrev pub empties : Basic → List Birth
empties (Empties queue) = queue ∷ []
empties b = []

abbrev pub emptied : List Basic → List Birth
emptied [] = []
emptied (b ∷ bs) = empties b ++ emptied bs

-- the ports that lose their last handles by some steps, each seen when its handle goes
abbrev pub closed : World → List Basic → List Birth
closed w [] = []
closed w (b ∷ bs) = closes w b ++ closed (basic w b) bs

-- the queues that a line empties are those of the ports that lose their last handles in it
abbrev pub EmptiesWithHandles : World → ScriptLine → Type 0
EmptiesWithHandles w line = emptied (steps line w) ≡ closed w (steps line w)

-- each line of a script does so
abbrev pub RunEmptiesWithHandles : List ℕ → Type 0
RunEmptiesWithHandles script = Along EmptiesWithHandles no_rows (said_in script)

-- Messages that are withdrawn
-- the thread whose own message a step withdraws, and those of some steps
abbrev pub withdraws : Basic → List ℕ
withdraws (Withdraws who) = who ∷ []
withdraws b = []

abbrev pub withdrawn : List Basic → List ℕ
withdrawn [] = []
withdrawn (b ∷ bs) = withdraws b ++ withdrawn bs

-- the wait of a thread ends by a step, or what it waits for was not handled: the thread is woken, or ends, or its event is
-- marked
abbrev pub ends_wait : ℕ → Basic → Bool
ends_wait who (Wakes thread call status fields) = thread == who
ends_wait who (Dies thread status) = thread == who
ends_wait who (Marks thread) = thread == who
ends_wait who b = false

-- each thread whose message some steps withdraw is woken by them, or ends, or its event is marked
abbrev pub WithdrawsWithWaits : List Basic → Type 0
WithdrawsWithWaits bs = every (λ who. has (ends_wait who) bs) (withdrawn bs) ≡ true

-- so is it in each line of a script
abbrev pub RunWithdrawsWithWaits : List ℕ → Type 0
RunWithdrawsWithWaits script = Along (λ w line. WithdrawsWithWaits (steps line w)) no_rows (said_in script)
