use Rattle.std.proofs.Common.{◌+◌, ◌≤◌, ◌<◌, arith}
use Rattle.std.proofs.lemmas.List.{length-map}
use Rattle.std.proofs.lemmas.Result.{on_err_weaker, on_ok_weaker}
use Rattle.lpc_rows.specs.Shown.{birth_of, births_of, shown_wait, tables_of}
use Rattle.lpc_rows.proofs.Raising as raising
use Rattle.lpc_world.proofs.world.World.waits_reserve.Goals as goal

pub returns-clause-waits : goal.returns-clause-waits
returns-clause-waits c =
    let owed = rw (← c.self.view_is) at c.owed_waits.ensures.owed in
    let alive = raising.living-are (tables_of c.self.inside.procs c.self.inside.parts.items c.self.inside.ports c.self.inside.waits c.self.inside.names c.self.inside.sections c.self.inside.tokens c.self.inside.token_names c.self.inside.marks) c.self.inside.calls c.self.inside.made c.self.invariant.kept in
    let room = c.in_ok-reserve.ensures.room in
    rw c.reserve.ensures.kept (on_ok_weaker c.reserve-2.result (λ (enough : c.alive.result + c.args.more ≤ c.reserve-2.new.self.places). omega (arith, enough, owed, alive, room, c.alive.ensures.count)) c.reserve-2.ensures.room)

pub returns-clause-wanting : goal.returns-clause-wanting
returns-clause-wanting c =
    let alive = raising.living-are (tables_of c.self.inside.procs c.self.inside.parts.items c.self.inside.ports c.self.inside.waits c.self.inside.names c.self.inside.sections c.self.inside.tokens c.self.inside.token_names c.self.inside.marks) c.self.inside.calls c.self.inside.made c.self.invariant.kept in
    let fit = c.self.invariant.kept.marked.places in
    rw (← c.self.view_is) (on_err_weaker c.reserve-2.result (λ (less : c.self.inside.marks.places < c.alive.result + c.args.more). omega (arith, less, alive, fit, c.alive.ensures.count)) c.reserve-2.ensures.wanting)

pub returns-clause-most : goal.returns-clause-most
returns-clause-most c =
    let owed = rw (← c.self.view_is) at c.owed_waits.ensures.owed in
    let alive = raising.living-are (tables_of c.self.inside.procs c.self.inside.parts.items c.self.inside.ports c.self.inside.waits c.self.inside.names c.self.inside.sections c.self.inside.tokens c.self.inside.token_names c.self.inside.marks) c.self.inside.calls c.self.inside.made c.self.invariant.kept in
    let few = raising.few-wait (tables_of c.self.inside.procs c.self.inside.parts.items c.self.inside.ports c.self.inside.waits c.self.inside.names c.self.inside.sections c.self.inside.tokens c.self.inside.token_names c.self.inside.marks) c.self.inside.calls c.self.inside.made c.self.invariant.kept in
    let marks = raising.marks-few (tables_of c.self.inside.procs c.self.inside.parts.items c.self.inside.ports c.self.inside.waits c.self.inside.names c.self.inside.sections c.self.inside.tokens c.self.inside.token_names c.self.inside.marks) c.self.inside.calls c.self.inside.made c.self.invariant.kept in
    let rows = length-map c.self.inside.waits.rows (shown_wait (birth_of (births_of (tables_of c.self.inside.procs c.self.inside.parts.items c.self.inside.ports c.self.inside.waits c.self.inside.names c.self.inside.sections c.self.inside.tokens c.self.inside.token_names c.self.inside.marks)))) in
    let most = c.in_ok-reserve.ensures.most in
    rw (← c.self.view_is, c.reserve.ensures.kept) (omega (arith, owed, alive, few, marks, rows, most, c.reserve-2.ensures.most, c.alive.ensures.count))
