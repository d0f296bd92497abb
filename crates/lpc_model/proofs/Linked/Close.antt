-- NtClose keeps ports linked.
use Rattle.std.proofs.Common.{◌≡◌, ℕ, [], ◌∷◌, ◌++◌, Bool, true, false, Option, Some, None, refl}
use Rattle.std.specs.Prelude.{option_and_then, option_map}
use Rattle.lpc_base.specs.Rows.{given, when}
use Rattle.lpc_base.proofs.RowWords.{every-append, every-more}
use Rattle.lpc_model.specs.World.{Birth, Creator, HandleRow, PortRow, World}
use Rattle.lpc_model.specs.Found.{port_row}
use Rattle.lpc_model.specs.Basics.{Basic, DropsHandle, DropsOwned, Empties, Unbinds, Wakes, Withdraws, Marks}
use Rattle.lpc_model.specs.Entering.{enter}
use Rattle.lpc_model.specs.Close.{close_handle, close_port, closed_row, is_last, post_closed, server_of, closing_post}
use Rattle.lpc_model.proofs.Steps.Closing.{close-pass, stage_five, takes_away}
use Rattle.lpc_model.proofs.Linked.Steps.{is_plain, is_steady, steady-plain}
use Rattle.lpc_model.proofs.Steps.Steady.{AreSteady, steady-enter}
use Rattle.lpc_model.proofs.Linked.Calls.{ArePlain}

-- what takes rows away is steady, and so is what is posted
away-steady : (x : Basic) → takes_away x ≡ true → is_steady x ≡ true
away-steady (Wakes who call status fields) is = refl
away-steady (Withdraws who) is = refl
away-steady (Empties q) is = refl
away-steady (Unbinds b) is = refl
away-steady (DropsOwned b) is = refl
away-steady (Marks who) is = refl
away-steady x is = absurd (cc)

posted-steady : (b : Birth) (w : World) → AreSteady (post_closed b w)
posted-steady b w = at (port_row w b)
  where
    by_creator : (p : PortRow) (queue : Birth) (o : Option Creator) → AreSteady (given (option_map (closed_row p queue) o) (λ m. enter m w))
    by_creator p queue None = refl
    by_creator p queue (Some by) = steady-enter (closed_row p queue by) w

    queued : (p : PortRow) (o : Option Birth) → AreSteady (given (option_and_then (λ queue. option_map (closed_row p queue) p.creator) o) (λ m. enter m w))
    queued p None = refl
    queued p (Some queue) = by_creator p queue p.creator

    at : (o : Option PortRow) → AreSteady (given o (λ p. given (closing_post w p) (λ m. enter m w)))
    at None = refl
    at (Some p) = queued p (server_of w p)

-- so a port is closed by steady steps
pub port-steady : (b : Birth) (w : World) → AreSteady (close_port b w)
port-steady b w = close-pass is_steady away-steady b w refl (posted-steady b (stage_five w b))

pub handle-plain : (w : World) (pid : ℕ) (r : HandleRow) → ArePlain (close_handle pid r w)
handle-plain w pid r = at (is_last r w)
  where
    at : (last : Bool) → ArePlain (when last (close_port r.object.birth w) ++ DropsHandle pid r.value ∷ [])
    at true = every-append is_plain (close_port r.object.birth w) (DropsHandle pid r.value ∷ []) (every-more is_steady is_plain steady-plain (close_port r.object.birth w) (port-steady r.object.birth w)) refl
    at false = refl
