use Rattle.std.proofs.Common.{◌∙◌, sym, ap, map}
use Rattle.indexmap.proofs.CallerLemmas.{insert_entry-new}
use Rattle.lpc_base.proofs.RowMaps.{push-map}
use Rattle.lpc_tokens.specs.Names.{shown_name}
use Rattle.lpc_tokens.proofs.Named.{named-shown, named_more}
use Rattle.lpc_tokens.proofs.names.TokenNames.add.Goals as goal

pub returns-clause-rows : goal.returns-clause-rows
returns-clause-rows c =
    let keyed = c.key_of.ensures in
    let free = rw (← c.self.view_is, ← keyed) at c.requires.new in
    let absent = sym (named-shown c.key_of.result.items c.self.inside.names.entries) ∙ free in
    let grown = c.in-Ok.ensures.entries ∙ insert_entry-new _ c.self.inside.names c.key_of.result c.new.result absent in
    rw (← c.self.view_is, ← keyed, ← c.new.ensures) (ap (map shown_name) grown ∙ push-map shown_name c.self.inside.names.entries (c.key_of.result, c.new.result))

pub invariant_of-self : goal.invariant_of-self
invariant_of-self c =
    let keyed = c.key_of.ensures in
    let free = rw (← c.self.view_is, ← keyed) at c.requires.new in
    let absent = sym (named-shown c.key_of.result.items c.self.inside.names.entries) ∙ free in
    let grown = c.in-Ok.ensures.entries ∙ insert_entry-new _ c.self.inside.names c.key_of.result c.new.result absent in
    let short = rw (← keyed) at c.requires.short in
    rw grown (named_more c.self.inside.names.entries c.key_of.result c.new.result c.self.invariant short)
