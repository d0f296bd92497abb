use Rattle.std.proofs.Common.{◌≡◌, ◌∙◌, ap, arith, rules, sym}
use Rattle.lpc_base.specs.Rows.{count}
use Rattle.lpc_procs.specs.Kept.{rows_in, told_in}
use Rattle.lpc_procs.specs.Procs.{is_of_birth}
use Rattle.lpc_procs.proofs.Events.{none-told, told-shown, watched-told}
use Rattle.lpc_procs.proofs.Tagged.{ruled-out}
use Rattle.lpc_procs.proofs.procs.Procs.is_unheard.Goals as goal

pub returns-then-self-eq0-clause-none : goal.returns-then-self-eq0-clause-none
returns-then-self-eq0-clause-none c told =
    let rows = rows_in c.self.inside.processes in
    let zero : c.self.inside.watched ≡ 0 = search (rules, c.if-self-eq0.true) in
    rw (← c.self.view_is) (sym (ap (count (is_of_birth c.args.birth)) (told-shown rows)) ∙ none-told c.args.birth rows (sym c.self.invariant.watchers ∙ zero))

pub returns-clause-none : goal.returns-clause-none
returns-clause-none c none =
    let rows = rows_in c.self.inside.processes in
    let asked = rw (c.tag_of.ensures) at c.has_none.ensures in
    rw (← c.self.view_is)
    (sym (ap (count (is_of_birth c.args.birth)) (told-shown rows))
    ∙ ruled-out c.args.birth (told_in rows) c.self.inside.told_tags c.self.invariant.told_tagged (sym asked ∙ none))

pub returns-clause-some : goal.returns-clause-some
returns-clause-some c some =
    let rows = rows_in c.self.inside.processes in
    rw (← c.self.view_is, ← told-shown rows) (omega (arith, c.if-self-eq0.false, c.self.invariant.watchers, watched-told rows))
