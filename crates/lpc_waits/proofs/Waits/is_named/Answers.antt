use Rattle.lpc_waits.proofs.Found.{either_first, either_second, named_either}
use Rattle.lpc_waits.proofs.Waits.is_named.Goals as goal

pub returns-then-is_at : goal.returns-then-is_at
returns-then-is_at c = either_first _ _ _ _ c.is_at.ensures c.if-is_at.true (named_either c.args.port c.args.self.now.rows)

pub returns-else-is_at : goal.returns-else-is_at
returns-else-is_at c = either_second _ _ _ _ _ c.is_at.ensures c.if-is_at.false c.is_at-else-is_at.ensures (named_either c.args.port c.args.self.now.rows)
