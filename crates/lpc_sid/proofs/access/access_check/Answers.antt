use Rattle.std.proofs.Common.{◌≡◌, rules}
use Rattle.std.specs.Option.{option_copied}
use Rattle.lpc_sid.specs.Access.{grants}
use Rattle.lpc_sid.proofs.Rights.{check_law}
use Rattle.lpc_sid.proofs.access.access_check.Goals as goal

pub returns-in-Some-clause-rights : goal.returns-in-Some-clause-rights
returns-in-Some-clause-rights c =
    let same : c.are_granted.result ≡ grants c.args.token.now (option_copied c.args.dacl) c.args.wanted = search rules in
    check_law c.args.token.now (option_copied c.args.dacl) c.args.wanted c.are_granted.result same
