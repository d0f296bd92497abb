use Rattle.std.proofs.Common.{rules, of_calls}
use Rattle.std.proofs.lemmas.Fn.{always_returns_same}
use Rattle.lpc_procs.specs.Members.{comes_before}
use Rattle.lpc_procs.proofs.Grouped.{before-lesser, partitioned, place-is}
use Rattle.lpc_procs.proofs.members.places_before.Goals as goal

pub returns : goal.returns
returns c =
    let test = comes_before c.args.rank in
    let rows = c.args.rows.now in
    let point = c.partition_point.ensures.partitioned test (always_returns_same _ _ _ (λ a r f k. search (rules, of_calls))) (partitioned test (before-lesser c.args.rank) rows c.requires) in
    place-is test (record { rank = 0; thread = 0 }) rows c.partition_point.result c.partition_point.ensures.bound point
