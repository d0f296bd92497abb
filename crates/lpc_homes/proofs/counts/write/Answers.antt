use Rattle.std.proofs.Common.{Some, sym, ◌∙◌, arith}
use Rattle.lpc_homes.proofs.Keyed.{from_ok, has_count, updated}
use Rattle.lpc_homes.proofs.counts.write.Goals as goal

pub returns-then-not-contains_key-clause-known : goal.returns-then-not-contains_key-clause-known
returns-then-not-contains_key-clause-known c = λ has. absurd (grind (arith, has_count c.args.object c.args.counts.now.entries has, c.contains_key.ensures, c.if-not-contains_key.true))

pub returns-clause-written : goal.returns-clause-written
returns-clause-written c = λ ok. updated c.args.counts.now.entries c.insert.new.self.entries c.args.object (Some c.args.count) (from_ok c.insert.result (sym c.is_ok.ensures.value ∙ ok) c.insert.ensures.updates).0
