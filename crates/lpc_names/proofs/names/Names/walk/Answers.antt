use Rattle.std.proofs.Common.{◌∙◌, ◌<◌, Ok, sym, ap, arith}
use Rattle.std.proofs.lemmas.Result.{err_from_is_err_and}
use Rattle.lpc_names.specs.Kept.{seen, shown_way, path_of}
use Rattle.lpc_names.proofs.Walks.{walk-ends, walk-fault, walk-turns, walk-full}
use Rattle.lpc_names.proofs.names.Names.walk.Goals as goal

pub returns-in_err-found : goal.returns-in_err-found
returns-in_err-found g c =
    let p = err_from_is_err_and c.from_residual-in_err-found.result c.from_residual-in_err-found.ensures.1 in
    let gone = sym c.way.ensures ∙ ap (seen (shown_way {T = g.row.T.Denot})) (c.in_err-found.was) in
    rw (p.1, p.2) (sym (walk-fault c.args.self.now.bindings c.loop-found.left (path_of c.loop-found.path.items) c.in_err-found.field-0.0 gone) ∙ c.loop-found.invariant)

pub returns-in-Ends : goal.returns-in-Ends
returns-in-Ends g c =
    let gone = sym c.way.ensures ∙ ap (seen (shown_way {T = g.row.T.Denot})) (c.in_ok-found.was) ∙ ap (λ w. Ok (shown_way {T = g.row.T.Denot} w)) c.in-Ends.is in
    sym (walk-ends c.args.self.now.bindings c.loop-found.left (path_of c.loop-found.path.items) c.in-Ends.found gone) ∙ c.loop-found.invariant

pub returns-in-Turns : goal.returns-in-Turns
returns-in-Turns g c =
    let gone = sym c.way.ensures ∙ ap (seen (shown_way {T = g.row.T.Denot})) (c.in_ok-found.was) ∙ ap (λ w. Ok (shown_way {T = g.row.T.Denot} w)) c.in-Turns.is in
    let last = rw c.if-left-eq0.true at c.loop-found.invariant in
    sym (walk-full c.args.self.now.bindings (path_of c.loop-found.path.items) (path_of c.in-Turns.field-0.items) gone) ∙ last

pub loop-found-preserved : goal.loop-found-preserved
loop-found-preserved g c =
    let gone = sym c.way.ensures ∙ ap (seen (shown_way {T = g.row.T.Denot})) (c.in_ok-found.was) ∙ ap (λ w. Ok (shown_way {T = g.row.T.Denot} w)) c.in-Turns.is in
    let some : 0 < c.loop-found.left = omega arith in
    sym (walk-turns c.args.self.now.bindings c.loop-found.left (path_of c.loop-found.path.items) (path_of c.in-Turns.field-0.items) some gone) ∙ c.loop-found.invariant
