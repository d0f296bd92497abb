use Rattle.std.proofs.Common.{ap, sym, ◌∙◌, ℕ, Some, set, option_map}
use Rattle.std.specs.Option.{option_and_then}
use Rattle.lpc_model.specs.Residents.{begun, next_call}
use Rattle.lpc_residents.specs.Kept.{kept}
use Rattle.lpc_residents.specs.Turns.{bytes_wanted, is_reply, own_call}
use Rattle.lpc_residents.proofs.Rows.{Kept, change-nobody, first-none, found-at, set-changed, single-set, where-err}
use Rattle.lpc_residents.proofs.residents.Residents.begin.Goals as goal

pub invariant_of-self-in-Some : goal.invariant_of-self-in-Some
invariant_of-self-in-Some c =
    single-set _ c.args.thread _ _ _ c.self.invariant
    (found-at _ _ _ _ _ c.deref.ensures.value c.in-Some.ensures c.index_mut-resident.ensures.value) c.begin.ensures.thread

pub returns-in_ok-call-in-Some-clause-begun : goal.returns-in_ok-call-in-Some-clause-begun
returns-in_ok-call-in-Some-clause-begun c =
    let at = found-at _ _ _ _ _ c.deref.ensures.value c.in-Some.ensures c.index_mut-resident.ensures.value in
    rw (← c.self.view_is)
    (λ w given.
    ap (set c.self.inside.list.items c.in-Some.place) (c.in_ok-call-in-Some.ensures.begun w (given ∙ ap (option_and_then (bytes_wanted w)) at.is_first))
    ∙ set-changed (begun kept w) _ c.args.thread _ _ c.self.invariant at)

pub returns-in_ok-call-in-Some-clause-call : goal.returns-in_ok-call-in-Some-clause-call
returns-in_ok-call-in-Some-clause-call c =
    let at = found-at _ _ _ _ _ c.deref.ensures.value c.in-Some.ensures c.index_mut-resident.ensures.value in
    rw (← c.self.view_is)
    (λ w given.
    ap Some (ap (λ (h : ℕ). own_call c.in_ok-call-in-Some.call h c.begin.new.buffer.items) c.handle-handle.ensures ∙ c.in_ok-call-in-Some.ensures.call w (given ∙ ap (option_and_then (bytes_wanted w)) at.is_first))
    ∙ ap (option_map (next_call kept w)) (sym at.is_first))

pub returns-in_err-call-in-Some-clause-wanting : goal.returns-in_err-call-in-Some-clause-wanting
returns-in_err-call-in-Some-clause-wanting c =
    let at = found-at _ _ _ _ _ c.deref.ensures.value c.in-Some.ensures c.index_mut-resident.ensures.value in
    rw (← c.self.view_is)
    (where-err c.from_residual.result (ap (option_map (λ (r : Kept). is_reply r.deed)) at.is_first ∙ ap Some c.in_err-call-in-Some.ensures.wanting))

pub returns-in-None-clause-begun : goal.returns-in-None-clause-begun
returns-in-None-clause-begun c =
    rw (← c.self.view_is)
    (λ w given. change-nobody (begun kept w) c.self.inside.list.items c.args.thread (rw c.deref.ensures.value at c.in-None.ensures))

pub returns-in-None-clause-call : goal.returns-in-None-clause-call
returns-in-None-clause-call c =
    rw (← c.self.view_is)
    (λ w given. ap (option_map (next_call kept w)) (first-none c.self.inside.list.items c.args.thread (rw c.deref.ensures.value at c.in-None.ensures)))
