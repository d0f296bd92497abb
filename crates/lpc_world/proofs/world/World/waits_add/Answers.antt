use Rattle.std.proofs.Common.{arith}
use Rattle.lpc_rows.specs.Shown.{birth_of}
use Rattle.lpc_rows.proofs.Raising.{owed-plain}
use Rattle.lpc_world.proofs.world.World.waits_add.Goals as goal

pub waits_begin-requires-clause-budget : goal.waits_begin-requires-clause-budget
waits_begin-requires-clause-budget c =
    let none = owed-plain (birth_of c.args.self.now.births) c.args.tid c.args.wait c.requires.plain in
    omega (arith, none, c.requires.budget)

pub returns-clause-step : goal.returns-clause-step
returns-clause-step c =
    let none = owed-plain (birth_of c.args.self.now.births) c.args.tid c.args.wait c.requires.plain in
    record {
      rows = c.waits_begin.ensures.rows;
      births = c.waits_begin.ensures.births;
      calls = c.waits_begin.ensures.calls;
      made = omega (arith, none, c.waits_begin.ensures.made);
      room = c.waits_begin.ensures.room;
    }
