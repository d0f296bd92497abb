use Rattle.std.proofs.Common.{◌≡◌, ◌∙◌, sym, ap, rules}
use Rattle.indexmap.proofs.CallerLemmas.{insert_entry-new}
use Rattle.lpc_names.specs.Kept.{shown_all, path_of}
use Rattle.lpc_names.specs.Path.{parts_of}
use Rattle.lpc_names.proofs.Shown.{node-shown, none-shown, shown-push, on_ok}
use Rattle.lpc_names.proofs.names.Names.put.Goals as goal

pub returns-clause-bound : goal.returns-clause-bound
returns-clause-bound g c =
    let same : c.deref.result.now ≡ c.args.path.now.items = search rules in
    let keyed : parts_of c.key_of.result.items ≡ path_of c.args.path.now.items = c.key_of.ensures ∙ ap path_of same in
    let free = rw (← c.self.view_is, ← keyed) at c.requires.free in
    let absent = none-shown _ (sym (node-shown c.key_of.result.items c.self.inside.nodes.entries) ∙ free) in
    let grown = on_ok c.insert.result c.insert.ensures.entries (sym c.if-is_err.ensures.value) in
    let whole = grown ∙ insert_entry-new _ c.self.inside.nodes c.key_of.result c.args.node absent in
    rw (← c.self.view_is, ← keyed) (ap shown_all whole ∙ shown-push c.self.inside.nodes.entries c.key_of.result c.args.node)
