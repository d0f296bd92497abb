-- The chances of an exception as the code has them.
use Rattle.std.specs.Prelude.{◌≡◌, ◌+◌, ◌*◌, ◌≤◌, ℕ, true}
use Rattle.lpc_except.specs.declared.chances.Hearing.{Hearing}
use Rattle.lpc_except.specs.declared.chances.Next.{Next}
use Rattle.lpc_except.specs.declared.chances.Next.TheVariants as next
use Rattle.lpc_model.specs.Raise as model
use Rattle.lpc_rows.specs.Clauses.{birth_at, port_at}
use Rattle.lpc_rows.specs.Kept.{CALL_BUDGET, Kept}
use Rattle.lpc_rows.specs.Names.{stands}
use Rattle.lpc_rows.specs.Shown.{shown_chance}
use Rattle.lpc_steps.specs.Clauses.{IsUnderName}
use Rattle.lpc_waits.specs.declared.Chance.{Chance}
use Rattle.lpc_waits.specs.declared.Chance.TheVariants.{FirstDebug, LastDebug, LastException}

-- where an event is sent, with the rows of its port and its queue; and what becomes of an exception
abbrev pub shown_hearing : Kept → Hearing → model.Hearing
shown_hearing w h = record { chance = shown_chance h.chance; port = port_at w h.port; queue = birth_at w h.queue }

abbrev pub shown_next : Kept → Next → model.Next
shown_next w next.Handled = model.Handled
shown_next w (next.Heard h) = model.Heard (shown_hearing w h)
shown_next w next.Unhandled = model.Unhandled

-- its port and its queue stand, and the port is found under its name
pub record IsHeard (w : Kept) (h : Hearing) : Type 0 where
  pub port : stands w.births.ports h.port ≡ true
  pub queue : stands w.births.ports h.queue ≡ true
  pub name : IsUnderName w h.port

-- what holds of where an event is sent, where one is
abbrev pub IfHeard : Next → (Hearing → Type 0) → Type 0
IfHeard next.Handled holds = Unit {0}
IfHeard (next.Heard h) holds = holds h
IfHeard next.Unhandled holds = Unit {0}

-- How many rows and numbers an event at a chance may still make when it goes on: an identifier, a wait and a message for
-- each later chance at a port.
abbrev pub later_rows : Chance → ℕ
later_rows FirstDebug = 6
later_rows LastDebug = 3
later_rows LastException = 0

-- an event at a chance can be sent, with what it owes then
abbrev pub CanSend : Kept → Chance → Type 0
CanSend w chance = w.made + (later_rows chance + 3) ≤ CALL_BUDGET * w.calls
