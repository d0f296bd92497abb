-- What a thread's condition says of its call.
use Rattle.std.proofs.Common.{◌≡◌, ℕ, ◌&&◌, List, [], ◌∷◌, Bool, true, false, Option, Some, None, is_some, is_none, refl, ap, ◌∙◌, arith}
use Rattle.lpc_base.specs.Rows.{first}
use Rattle.lpc_base.proofs.RowWords.{first-passes}
use Rattle.lpc_model.specs.declared.entry.Entry.TheVariants.{Busy, NoThread}
use Rattle.lpc_model.specs.Basics.{Tells}
use Rattle.lpc_model.specs.Found.{is_live_thread, live_thread, wait_of}
use Rattle.lpc_model.specs.Lines.{ScriptCall}
use Rattle.lpc_model.specs.Machine.{call_steps, ready_steps, thread_steps}
use Rattle.lpc_model.specs.World.{ThreadRow, WaitRow, World}
use Rattle.lpc_rows.specs.Ready.{caller, is_ready, thread_in}
use Rattle.lpc_machine.specs.Condition.{condition_by, condition_of}
use Rattle.lpc_machine.specs.declared.reading.Condition.TheVariants.{Absent, Ready, Waits}

-- a live thread of a number has it
live-number : (tid : ℕ) (ts : List ThreadRow) (t : ThreadRow) → first (is_live_thread tid) ts ≡ Some t → t.number ≡ tid
live-number tid ts t is = grind (arith, first-passes (is_live_thread tid) ts t is)

absent-by : (w : World) (tid : ℕ) (call : ScriptCall) (t : Option ThreadRow) (b : Bool) → condition_by t b ≡ Absent → thread_steps tid call t w ≡ Tells (NoThread tid) ∷ []
absent-by w tid call None b is = refl
absent-by w tid call (Some t) true is = grind (arith, is)
absent-by w tid call (Some t) false is = grind (arith, is)

-- no live thread has the number
pub absent : (w : World) (tid : ℕ) (call : ScriptCall) → condition_of w tid ≡ Absent → thread_steps tid call (live_thread w tid) w ≡ Tells (NoThread tid) ∷ []
absent w tid call is = absent-by w tid call (live_thread w tid) (is_some (wait_of w tid)) is

busy-by : (w : World) (tid : ℕ) (call : ScriptCall) (t : Option ThreadRow) (x : Option WaitRow) → ((row : ThreadRow) → t ≡ Some row → row.number ≡ tid) → wait_of w tid ≡ x → condition_by t (is_some x) ≡ Waits → thread_steps tid call t w ≡ Tells (Busy tid) ∷ []
busy-by w tid call None x number wait is = grind (arith, is)
busy-by w tid call (Some t) None number wait is = grind (arith, is)
busy-by w tid call (Some t) (Some x) number wait is = ap (λ o. ready_steps t call o w) wait ∙ ap (λ n. Tells (Busy n) ∷ []) (number t refl)

-- the thread waits
pub busy : (w : World) (tid : ℕ) (call : ScriptCall) → condition_of w tid ≡ Waits → thread_steps tid call (live_thread w tid) w ≡ Tells (Busy tid) ∷ []
busy w tid call is = busy-by w tid call (live_thread w tid) (wait_of w tid) (live-number tid w.threads) refl is

ready-by : (w : World) (tid : ℕ) (call : ScriptCall) (t : Option ThreadRow) (x : Option WaitRow) → wait_of w tid ≡ x → condition_by t (is_some x) ≡ Ready → thread_steps tid call t w ≡ call_steps (thread_in t) call w
ready-by w tid call None x wait is = grind (arith, is)
ready-by w tid call (Some t) (Some x) wait is = grind (arith, is)
ready-by w tid call (Some t) None wait is = ap (λ o. ready_steps t call o w) wait

-- the thread makes its call
pub called : (w : World) (tid : ℕ) (call : ScriptCall) → condition_of w tid ≡ Ready → thread_steps tid call (live_thread w tid) w ≡ call_steps (caller w tid) call w
unfolding caller
called w tid call is = ready-by w tid call (live_thread w tid) (wait_of w tid) refl is

can-by : (t : Option ThreadRow) (x : Option WaitRow) → condition_by t (is_some x) ≡ Ready → (is_some t && is_none x) ≡ true
can-by None x is = grind (arith, is)
can-by (Some t) (Some x) is = grind (arith, is)
can-by (Some t) None is = refl

-- and can make one
pub can-call : (w : World) (tid : ℕ) → condition_of w tid ≡ Ready → is_ready w tid ≡ true
can-call w tid is = can-by (live_thread w tid) (wait_of w tid) is
