use Rattle.std.proofs.Common.{◌∙◌, sym}
use Rattle.lpc_ports.specs.Table.{is_own_of}
use Rattle.lpc_world.proofs.Unreceived.{none-withdrawn}
use Rattle.lpc_world.proofs.own_messages.withdraw.Goals as goal

pub returns-then-not-has_unreceived-clause-table : goal.returns-then-not-has_unreceived-clause-table
returns-then-not-has_unreceived-clause-table c =
    none-withdrawn (is_own_of c.args.tid) c.args.ports.now (c.requires.own (sym c.has_unreceived.ensures ∙ c.if-not-has_unreceived.true))
