use Rattle.std.proofs.Common.{sym, ◌∙◌}
use Rattle.lpc_procs.specs.Kept.{rows_in}
use Rattle.lpc_procs.specs.Procs.{all_registrations}
use Rattle.lpc_procs.proofs.Tagged.{ruled-out}
use Rattle.lpc_procs.proofs.procs.Procs.is_unregistered.Goals as goal

pub returns-clause-none : goal.returns-clause-none
returns-clause-none c none =
    let asked = rw (c.tag_of.ensures) at c.has_none.ensures in
    rw (← c.self.view_is) (ruled-out c.args.birth (all_registrations (rows_in c.self.inside.threads)) c.self.inside.tags c.self.invariant.tagged (sym asked ∙ none))
