-- What is told of a port that is closed.
use Rattle.std.proofs.Common.{◌≡◌, Some, refl}
use Rattle.lpc_model.specs.Close.{closed_row, server_of, closing_post}
use Rattle.lpc_model.specs.World.{Birth, Creator, PortRow, World}

pub told_is : (w : World) (p : PortRow) (queue : Birth) (by : Creator) → server_of w p ≡ Some queue → p.creator ≡ Some by → closing_post w p ≡ Some (closed_row p queue by)
told_is w p queue by server made = rw (server, made) refl
