use Rattle.std.proofs.Common.{◌∙◌, ap, not, rules}
use Rattle.indexmap.proofs.CallerLemmas.{filter-RetainsPairs}
use Rattle.lpc_names.specs.Binding.{is_item, is_name}
use Rattle.lpc_names.specs.Kept.{shown_all, shown_node}
use Rattle.lpc_names.proofs.Shown.{shown-without}
use Rattle.lpc_names.proofs.names.Names.unbind_all.Goals as goal

pub returns-clause-bindings : goal.returns-clause-bindings
returns-clause-bindings g c =
    let same = g.T.PartialEq.eq in
    rw (← c.self.view_is)
    (ap shown_all (filter-RetainsPairs _ (λ e. not (is_item same c.args.item (shown_node e.1))) _ (λ path node kept after keep call. search rules) c.self.inside.nodes.entries c.retain.new.self.entries c.retain.ensures.filtered)
    ∙ shown-without (is_name same c.args.item) c.self.inside.nodes.entries)
