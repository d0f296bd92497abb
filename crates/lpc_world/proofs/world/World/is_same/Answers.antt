use Rattle.std.proofs.Common.{rules, ◌≡◌, sym, ◌∙◌}
use Rattle.lpc_slots.specs.Table.{is_key}
use Rattle.lpc_rows.proofs.Naming.{agrees}
use Rattle.lpc_world.proofs.world.World.is_same.Goals as goal

pub returns : goal.returns
returns c =
    let same : c.eq.result ≡ is_key c.args.one c.args.other = search (rules, c.eq.ensures) in
    same ∙ sym (agrees c.args.self.now.births.ports c.args.one c.args.other c.requires.apart c.requires.one c.requires.other)
