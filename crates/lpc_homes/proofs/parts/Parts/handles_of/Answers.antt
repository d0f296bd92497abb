use Rattle.std.proofs.Common.{sym, ap}
use Rattle.lpc_homes.specs.Parts.{rows_in, spare_in}
use Rattle.lpc_homes.proofs.OnePart.{part_is}
use Rattle.lpc_homes.proofs.parts.Parts.handles_of.Goals as goal

pub returns : goal.returns
returns c =
    let at = part_is c.self.inside.parts.items c.args.pid c.place_of.result c.index.result.now (rw (← c.self.view_is) at c.place_of.ensures) c.index.ensures in
    record {
      rows = rw (← c.self.view_is) (sym (ap rows_in at.is_first));
      spare = rw (← c.self.view_is) (sym (ap spare_in at.is_first));
    }
