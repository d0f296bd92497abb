use Rattle.std.proofs.Common.{◌∙◌, sym, ap, option_map}
use Rattle.lpc_names.specs.Kept.{shown_node}
use Rattle.lpc_names.proofs.Shown.{node-shown}
use Rattle.lpc_names.proofs.names.Names.node.Goals as goal

pub returns : goal.returns
returns g c =
    rw (← c.self.view_is, ← c.key_of.ensures) (ap (option_map shown_node) c.get.ensures.value ∙ sym (node-shown c.key_of.result.items c.self.inside.nodes.entries))
