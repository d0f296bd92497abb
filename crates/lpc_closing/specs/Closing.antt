-- What closing a handle needs of the world, and what it does.
use Rattle.std.specs.Prelude.{ℕ, ◌==◌, ◌&&◌, Bool, if◌then◌else◌}
use Rattle.lpc_base.specs.Rows.{count, has}
use Rattle.lpc_model.specs.declared.entry.ObjectKind.TheVariants.{Port}
use Rattle.lpc_model.specs.Basics.{Steps, provided}
use Rattle.lpc_model.specs.Close.{close_port}
use Rattle.lpc_model.specs.Found.{handle_count, same_kind}
use Rattle.lpc_model.specs.Linked.{IsLinked}
use Rattle.lpc_model.specs.SoundWaits.{IsSoundWorld}
use Rattle.lpc_model.specs.SingleClosings.{HasSingleClosings, is_closing_of}
use Rattle.lpc_model.specs.World.{Birth, ObjectName, World}
use Rattle.lpc_rows.specs.Closing.{HasMutualPairs}
use Rattle.lpc_rows.specs.OwedClosings.{is_client_of}

-- a handle can be closed: the other end of each port is the other's, and of an open port no message tells that it is closed
pub record CanClose (w : World) : Type 0 where
  pub pairs : HasMutualPairs w
  pub single_closings : HasSingleClosings w

-- all handles of a process can be closed, one after the other: besides, waits are sound and ports linked
pub record CanCloseAll (w : World) : Type 0 where
  pub sound : IsSoundWorld w
  pub linked : IsLinked w
  pub single_closings : HasSingleClosings w

-- a message in a queue tells that the port is closed
abbrev pub is_told : World → Birth → Bool
is_told w b = has (is_closing_of b) w.messages

-- one handle alone names the object
abbrev pub has_one_handle : World → ObjectName → Bool
has_one_handle w o = handle_count w o == 1

-- where the object is a port, with that handle it is closed
abbrev pub closes_port : World → ObjectName → Bool
closes_port w o = same_kind o.kind Port && has_one_handle w o

-- a port is closed that one handle alone names
abbrev pub closes_last : ObjectName → Steps
closes_last o = provided (λ w. closes_port w o) (close_port o.birth)

-- how many rows the closing of a port makes at most: one for a client port, the message that tells of it
abbrev pub closing_rows : World → Birth → ℕ
closing_rows w b = count (is_client_of b) w.ports

-- and the close of a handle: those of its port, where it is the last one
abbrev pub last_rows : World → ObjectName → ℕ
last_rows w o = if closes_port w o then closing_rows w o.birth else 0
