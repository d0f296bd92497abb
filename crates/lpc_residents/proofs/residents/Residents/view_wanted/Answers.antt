use Rattle.std.proofs.Common.{ap, sym, ◌∙◌}
use Rattle.std.specs.Option.{option_and_then}
use Rattle.lpc_residents.specs.Turns.{view_wanted}
use Rattle.lpc_residents.proofs.Rows.{first-none, found-at}
use Rattle.lpc_residents.proofs.residents.Residents.view_wanted.Goals as goal

pub returns-in-Some : goal.returns-in-Some
returns-in-Some c =
    rw (← c.self.view_is)
    (c.view_wanted.ensures
    ∙ ap (option_and_then view_wanted) (sym (found-at _ _ _ _ _ c.deref.ensures.value c.in-Some.ensures c.index.ensures).is_first))

pub returns-in-None : goal.returns-in-None
returns-in-None c =
    rw (← c.self.view_is)
    (ap (option_and_then view_wanted) (first-none c.self.inside.list.items c.args.thread (rw c.deref.ensures.value at c.in-None.ensures)))
