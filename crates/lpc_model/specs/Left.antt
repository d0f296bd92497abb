-- Where no process lives any longer, nothing is left but numbers that were used, names and empty tables of handles and
-- views.
use Rattle.std.specs.Prelude.{◌≡◌, ℕ, ◌||◌, Bool, true, false, List, [], ◌&&◌, is_none}
use Rattle.std.specs.List.{AllByRecursion}
use Rattle.lpc_base.specs.Rows.{every, passes}
use Rattle.lpc_model.specs.World.{HandleTable, PortRow, ViewTable, World, ProcessRow}
use Rattle.lpc_model.specs.Found.{all_views, is_cut, is_live, is_open}
use Rattle.lpc_model.specs.Run.{run_of}

-- no row of an object stands, no message, no wait and no view
pub record IsBare (w : World) : Type 0 where
  pub processes : w.processes ≡ []
  pub threads : w.threads ≡ []
  pub ports : w.ports ≡ []
  pub sections : w.sections ≡ []
  pub tokens : w.tokens ≡ []
  pub messages : w.messages ≡ []
  pub waits : w.waits ≡ []
  pub views : all_views w ≡ []

-- so it is where no process lives
abbrev pub LeavesNothing : World → Type 0
LeavesNothing w = ((pid : ℕ) → is_live w pid ≡ false) → IsBare w

-- so behind each line of a script
abbrev pub RunLeavesNothing : List ℕ → Type 0
RunLeavesNothing bytes = AllByRecursion (λ s. LeavesNothing s.world) (run_of bytes)

-- What the lines keep for that
-- a process that doesn't live has no handles
abbrev pub lacks_handles : HandleTable → Bool
lacks_handles t = elim t.rows [
  | [] ↦ true
  | _ ↦ false
]

abbrev pub is_living_table : World → HandleTable → Bool
is_living_table w t = is_live w t.process || lacks_handles t

abbrev pub HasLivingHandles : World → Type 0
HasLivingHandles w = every (is_living_table w) w.handles ≡ true

-- a process that doesn't live has no views
abbrev pub lacks_views : ViewTable → Bool
lacks_views t = elim t.rows [
  | [] ↦ true
  | _ ↦ false
]

abbrev pub is_living_space : World → ViewTable → Bool
is_living_space w t = is_live w t.process || lacks_views t

abbrev pub HasLivingViews : World → Type 0
HasLivingViews w = every (is_living_space w) w.views ≡ true

-- a process that doesn't live has no port that is told of exceptions
abbrev pub is_portless : ProcessRow → Bool
is_portless p = is_none p.debug_port && is_none p.exception_port

abbrev pub is_living_process : World → ProcessRow → Bool
is_living_process w p = is_live w p.number || is_portless p

abbrev pub HasLivingPorts : World → Type 0
HasLivingPorts w = every (is_living_process w) w.processes ≡ true

-- of two ports that are each other's other end one at least is open
abbrev pub is_kept_pair : World → PortRow → Bool
is_kept_pair w p = is_cut p || (is_open w p.birth || passes p.pair (is_open w))

abbrev pub HasKeptPairs : World → Type 0
HasKeptPairs w = every (is_kept_pair w) w.ports ≡ true
