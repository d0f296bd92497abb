use Rattle.std.proofs.Common.{Some, sym, ◌∙◌}
use Rattle.lpc_numbers.specs.contracts.named.NamePartialEq.TheImpl as the_impl
use Rattle.lpc_numbers.proofs.Names.{keeps, lookup-same, name_of, put, restored, updated}
use Rattle.lpc_numbers.proofs.named.note.Goals as goal

pub returns-in-Ok-default-None-clause-names : goal.returns-in-Ok-default-None-clause-names
returns-in-Ok-default-None-clause-names c =
    let old = c.args.names.now.entries in
    let new = c.insert_full.new.self.entries in
    let none = sym (lookup-same c.args.birth old) ∙ sym c.in-Ok-default-None.ensures.old ∙ c.in-Ok-default-None.field-0-1-is in
    put c.args.birth old new c.args.number none (updated c.args.birth old new (Some c.args.number) c.in-Ok-default-None.ensures.updates.0)

pub returns-in-Ok-default-Some-clause-names : goal.returns-in-Ok-default-Some-clause-names
returns-in-Ok-default-Some-clause-names c =
    let old = c.args.names.now.entries in
    let first = c.in-Ok-default-Some.first in
    let known = sym c.in-Ok-default-Some.ensures.old ∙ c.in-Ok-default-Some.field-0-1-is in
    keeps c.args.birth old c.put_back.new.names.entries c.args.number first (sym (lookup-same c.args.birth old) ∙ known)
    (rw (c.put_back.ensures, c.in-Ok-default-Some.ensures.entries, c.in-Ok-default-Some.ensures.index) (restored the_impl.eq-value.it (name_of c.args.birth) old c.args.number first known))
