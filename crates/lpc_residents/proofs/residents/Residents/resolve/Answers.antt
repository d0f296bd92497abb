use Rattle.lpc_model.specs.Residents.{heard_by}
use Rattle.lpc_residents.specs.Kept.{kept}
use Rattle.lpc_residents.specs.Shown.{fields_with}
use Rattle.lpc_residents.proofs.Rows.{change-nobody, changed-set, found-at, single-set}
use Rattle.lpc_residents.proofs.residents.Residents.resolve.Goals as goal

pub invariant_of-self : goal.invariant_of-self
invariant_of-self c =
    single-set _ c.args.thread _ _ _ c.self.invariant
    (found-at _ _ _ _ _ c.deref.ensures.value c.in-Some.ensures c.index_mut.ensures.value) c.hear.ensures.thread

pub returns-in-Some-clause-heard : goal.returns-in-Some-clause-heard
returns-in-Some-clause-heard c =
    rw (← c.self.view_is)
    (λ groups.
    changed-set (heard_by kept c.args.status (fields_with c.args.read.now groups c.args.fields.now)) _ _ c.args.thread _ _ _ c.self.invariant
    (found-at _ _ _ _ _ c.deref.ensures.value c.in-Some.ensures c.index_mut.ensures.value) (c.hear.ensures.heard groups))

pub returns-in-Some-clause-wanting : goal.returns-in-Some-clause-wanting
returns-in-Some-clause-wanting c =
    let at = found-at _ _ _ _ _ c.deref.ensures.value c.in-Some.ensures c.index_mut.ensures.value in
    rw (← c.self.view_is, at.is_first) c.hear.ensures.wanting

pub returns-in-None-clause-heard : goal.returns-in-None-clause-heard
returns-in-None-clause-heard c =
    rw (← c.self.view_is)
    (λ groups.
    change-nobody (heard_by kept c.args.status (fields_with c.args.read.now groups c.args.fields.now)) c.self.inside.list.items c.args.thread
    (rw c.deref.ensures.value at c.in-None.ensures))
