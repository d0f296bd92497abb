use Rattle.std.proofs.Common.{◌<◌, length, [], sym, rules}
use Rattle.lpc_names.proofs.Walks.{at_end-more}
use Rattle.lpc_names.proofs.names.at_end.Goals as goal

pub returns-else-is_empty : goal.returns-else-is_empty
returns-else-is_empty g c =
    let some : 0 < length c.args.rest.now = search rules in
    sym (at_end-more [] c.args.found c.args.rest.now some)
