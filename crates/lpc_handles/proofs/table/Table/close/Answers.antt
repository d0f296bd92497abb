use Rattle.std.proofs.Common.{rules, arith, sym, ap, ◌∙◌, ◌≡◌, ◌-◌, Some, length, vec_len, vec_capacity}
use Rattle.lpc_handles.specs.Handles.{at}
use Rattle.lpc_handles.proofs.Places.{none-goes, one-goes, only-goes, without-rises, without-within}
use Rattle.lpc_handles.proofs.table.Table.close.Goals as goal

pub returns-in_err-row-clause-rows : goal.returns-in_err-row-clause-rows
returns-in_err-row-clause-rows g c = sym (none-goes c.args.value c.args.self.now.rows (search rules))

pub returns-in_err-row-clause-one : goal.returns-in_err-row-clause-one
returns-in_err-row-clause-one g c =
    sym (none-goes c.args.value c.args.self.now.rows (search rules)) ∙ (rw (← c.self.view_is) (only-goes c.args.value 4 c.self.inside.rows.items c.self.invariant.1))

pub invariant_of-self : goal.invariant_of-self
invariant_of-self g c = rw c.take_out.ensures.rows (omega (arith, without-within c.args.value c.self.inside.rows.items, c.self.invariant.0), without-rises c.args.value 4 c.self.inside.rows.items c.self.invariant.1)

pub returns-clause-spare : goal.returns-clause-spare
returns-clause-spare g c =
    let found : at c.args.self.now.rows c.args.value ≡ Some c.in_ok-row.row = search rules in
    let found' : at c.self.inside.rows.items c.args.value ≡ Some c.in_ok-row.row = rw (← c.self.view_is) at found in
    let one = one-goes c.args.value 4 c.self.inside.rows.items c.in_ok-row.row c.self.invariant.1 found' in
    let spare : c.args.self.now.spare ≡ vec_capacity c.self.inside.rows - vec_len c.self.inside.rows = ap (λ v. v.spare) (sym c.self.view_is) in
    let whole : vec_len c.self.inside.rows ≡ length c.self.inside.rows.items = c.self.inside.rows.ok.0 in
    let fits = c.self.inside.rows.ok.1 in
    omega (arith, one, spare, whole, fits, c.take_out.ensures.len, c.take_out.ensures.room)

pub returns-clause-one : goal.returns-clause-one
returns-clause-one g c = c.take_out.ensures.rows ∙ (rw (← c.self.view_is) (only-goes c.args.value 4 c.self.inside.rows.items c.self.invariant.1))
